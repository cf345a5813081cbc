-- Bytes behind their length.
use Rattle.std.specs.Prelude.{ℕ, ◌++◌, List, length, Result, Ok, Err}
use Rattle.marshal_buf.specs.Numbers.{number_bytes}
use Rattle.marshal_buf.specs.declared.why.Short.{Short}
use Rattle.marshal_buf.specs.Reading.{Reading, number_at, part_at, past}

-- their length as a number of four bytes, and then the bytes
abbrev pub counted : List ℕ → List ℕ
counted bytes = number_bytes 4 (length bytes) ++ bytes

abbrev pub part_behind : Reading → Result ℕ Short → Result (List ℕ) Short
part_behind behind (Ok len) = part_at len behind
part_behind behind (Err short) = Err short

-- the bytes that come next behind their length
abbrev pub counted_at : Reading → Result (List ℕ) Short
counted_at r = part_behind (past 4 0 r) (number_at 4 r)
