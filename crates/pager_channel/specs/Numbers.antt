-- Which number an operation has in its interface.
use Rattle.std.specs.Prelude.{◌≡◌, ℕ, Bool, true, false, if◌then◌else◌, slice_index, List, Option, Some}
use Rattle.pager_channel.specs.declared.numbers.Ops.{Ops}
use Rattle.pager_channel.specs.declared.operation.Operation.{Operation}
use Rattle.pager_channel.specs.declared.numbers.TheConstants.{PAGER, CACHE, FILE}
use Rattle.pager_channel.specs.Flags.{is_to_cache, is_to_file}
use Rattle.pager_channel.specs.Named.{named}

-- the numbers of each interface, in the order of its operations
abbrev pub pager_numbers : Ops → List ℕ
pager_numbers ops = ops.pager

abbrev pub cache_numbers : Ops → List ℕ
cache_numbers ops = ops.cache

abbrev pub file_numbers : Ops → List ℕ
file_numbers ops = ops.file

-- the operation of a number, of the object that the flags name
abbrev pub which_of : Ops → ℕ → ℕ → Option Operation
which_of ops flags number =
    if is_to_file flags then named FILE ops.file number
    else (if is_to_cache flags then named CACHE ops.cache number else named PAGER ops.pager number)

abbrev pub number_of : Ops → Operation → ℕ
number_of ops Operation.PageIn = slice_index ops.pager 0
number_of ops Operation.PageOut = slice_index ops.pager 1
number_of ops Operation.WriteOut = slice_index ops.pager 2
number_of ops Operation.Sync = slice_index ops.pager 3
number_of ops Operation.Done = slice_index ops.pager 4
number_of ops Operation.FlushBack = slice_index ops.cache 0
number_of ops Operation.DenyWrites = slice_index ops.cache 1
number_of ops Operation.WriteBack = slice_index ops.cache 2
number_of ops Operation.DeleteRange = slice_index ops.cache 3
number_of ops Operation.ZeroFill = slice_index ops.cache 4
number_of ops Operation.Destroy = slice_index ops.cache 5
number_of ops Operation.Bind = slice_index ops.file 0
number_of ops Operation.Read = slice_index ops.file 1
number_of ops Operation.Write = slice_index ops.file 2
number_of ops Operation.Clear = slice_index ops.file 3
number_of ops Operation.FileSync = slice_index ops.file 4
number_of ops Operation.GetLength = slice_index ops.file 5
number_of ops Operation.SetLength = slice_index ops.file 6

-- the object whose operation it is: with neither flag it is the pager object
abbrev pub is_of_cache : Operation → Bool
is_of_cache Operation.FlushBack = true
is_of_cache Operation.DenyWrites = true
is_of_cache Operation.WriteBack = true
is_of_cache Operation.DeleteRange = true
is_of_cache Operation.ZeroFill = true
is_of_cache Operation.Destroy = true
is_of_cache which = false

abbrev pub is_of_file : Operation → Bool
is_of_file Operation.Bind = true
is_of_file Operation.Read = true
is_of_file Operation.Write = true
is_of_file Operation.Clear = true
is_of_file Operation.FileSync = true
is_of_file Operation.GetLength = true
is_of_file Operation.SetLength = true
is_of_file which = false

-- the flags name the operation's object
pub record IsOfObject (flags : ℕ) (which : Operation) : Type 0 where
  pub cache : is_to_cache flags ≡ is_of_cache which
  pub file : is_to_file flags ≡ is_of_file which

-- the operation is found again by its number, where the flags name its object
pub record IsFoundAgain (ops : Ops) (which : Operation) : Type 0 where
  pub found : (flags : ℕ) → IsOfObject flags which → which_of ops flags (number_of ops which) ≡ Some which
