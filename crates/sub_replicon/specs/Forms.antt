-- The bytes of a replicon object.
use Rattle.std.specs.Prelude.{ℕ, ◌+◌, ◌*◌, ◌++◌, List, [], zero, suc}
use Rattle.marshal_buf.specs.Numbers.{number_bytes}
use Rattle.sub_replicon.specs.declared.TheConstants.{REPLICON}

-- so many indices, from the first one on
abbrev pub index_bytes : ℕ → ℕ → List ℕ
index_bytes first zero = []
index_bytes first (suc n) = index_bytes first n ++ number_bytes 4 (first + n)

-- what stands behind the identifier: the number of doors, and the index of each
abbrev pub doors_bytes : ℕ → ℕ → List ℕ
doors_bytes first n = number_bytes 4 n ++ index_bytes first n

-- the bytes of an object of so many doors, of which the first has this index
abbrev pub replicon_bytes : ℕ → ℕ → List ℕ
replicon_bytes first n = number_bytes 2 REPLICON ++ doors_bytes first n

-- how many bytes that are
abbrev pub replicon_len : ℕ → ℕ
replicon_len n = 6 + 4 * n
