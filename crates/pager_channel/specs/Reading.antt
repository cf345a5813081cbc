-- Reading a frame: the tests in their order, and the first that fails.
use Rattle.std.specs.Prelude.{ℕ, ◌+◌, Bool, true, false, not, ◌&&◌, nat_lt, nat_le, ◌==◌, List, length, drop, slice_index, Option, Some, None, Result, Ok, Err}
use Rattle.marshal_buf.specs.Numbers.{number_of}
use Rattle.pager_channel.specs.declared.front.Head.{Head}
use Rattle.pager_channel.specs.declared.why.BadFrame.{BadFrame}
use Rattle.pager_channel.specs.declared.why.FrameWhy.{FrameWhy}
use Rattle.pager_channel.specs.declared.why.FrameWhy.TheVariants as why
use Rattle.pager_channel.specs.declared.numbers.Ops.{Ops}
use Rattle.pager_channel.specs.declared.operation.Operation.{Operation}
use Rattle.pager_channel.specs.Flags.{is_to_cache, is_to_file}
use Rattle.pager_channel.specs.Size.{data_size}
use Rattle.pager_channel.specs.Numbers.{which_of}
use Rattle.pager_channel.specs.Seen.{FrameSeen}

-- the next test is made where none failed before
infixl 10 ◌>>=◌
abbrev pub ◌>>=◌ : {A B : Type 0} → Result A BadFrame → (A → Result B BadFrame) → Result B BadFrame
(Ok x) >>= f = f x
(Err e) >>= f = Err e

-- a test: what is wanted, and what is refused, at which byte, where it does not hold
abbrev pub wants : Bool → FrameWhy → ℕ → Result (Unit {0}) BadFrame
wants true why at = Ok tt
wants false why at = Err (record { at = at; why = why })

-- a test that finds something
abbrev pub finds : {A : Type 0} → Option A → FrameWhy → ℕ → Result A BadFrame
finds (Some x) why at = Ok x
finds None why at = Err (record { at = at; why = why })

-- the fields of the first 22 bytes, and the number in the two after them
abbrev pub head_at : List ℕ → Head
head_at bytes = record {
  subcontract = number_of 2 bytes;
  operation = number_of 2 (drop 2 bytes);
  tag = number_of 4 (drop 4 bytes);
  offset = number_of 8 (drop 8 bytes);
  size = number_of 4 (drop 16 bytes);
  access = slice_index bytes 20;
  flags = slice_index bytes 21;
}

abbrev pub pad_at : List ℕ → ℕ
pad_at bytes = number_of 2 (drop 22 bytes)

-- the tests of a head, and of the number where two zeros stand
unfoldable pub head_tested : Ops → Head → ℕ → Result Operation BadFrame
head_tested ops h pad = do
  a ← wants (nat_le 1 h.subcontract && nat_le h.subcontract 5) why.Subcontract 0
  b ← wants (nat_lt h.flags 16 && not (is_to_cache h.flags && is_to_file h.flags)) why.Flags 21
  which ← finds (which_of ops h.flags h.operation) why.Operation 2
  d ← wants (nat_le h.size 4096) why.Size 16
  e ← wants (nat_le h.access 2) why.Access 20
  f ← wants (pad == 0) why.Pad 22
  Ok which

-- the tests of how many bytes follow the head: they are the data, all of them and no more. There are so many bytes in all
unfoldable pub rest_tested : ℕ → Head → ℕ → Result (Unit {0}) BadFrame
rest_tested all h many = do
  a ← wants (nat_le (data_size h) many) why.Short all
  wants (nat_le many (data_size h)) why.Rest (24 + data_size h)

-- the frame of a head, of what stands where two zeros do, and of what follows
unfoldable pub frame_from : Ops → ℕ → Head → ℕ → List ℕ → Result FrameSeen BadFrame
frame_from ops all h pad rest = do
  which ← head_tested ops h pad
  b ← rest_tested all h (length rest)
  Ok (record { head = h; which = which; body = rest })

-- THE FRAME that the bytes are, or the first test that fails
unfoldable pub frame_at : Ops → List ℕ → Result FrameSeen BadFrame
frame_at ops bytes = do
  a ← wants (nat_le 24 (length bytes)) why.Short (length bytes)
  frame_from ops (length bytes) (head_at bytes) (pad_at bytes) (drop 24 bytes)
