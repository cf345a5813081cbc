-- What a frame is, and its bytes.
use Rattle.std.specs.Prelude.{◌≡◌, ℕ, ◌<◌, ◌≤◌, ◌^◌, false, ◌&&◌, List, ◌∷◌, ◌++◌, length, Some}
use Rattle.marshal_buf.specs.Numbers.{number_bytes}
use Rattle.pager_channel.specs.declared.front.Head.{Head}
use Rattle.pager_channel.specs.declared.numbers.Ops.{Ops}
use Rattle.pager_channel.specs.Flags.{is_to_cache, is_to_file}
use Rattle.pager_channel.specs.Size.{data_size}
use Rattle.pager_channel.specs.Seen.{FrameSeen}
use Rattle.pager_channel.specs.Numbers.{which_of}

-- the first sixteen bytes of a head: which operation of which object, and where in the file
unfoldable pub first_part : Head → List ℕ
first_part h = number_bytes 2 h.subcontract ++ (number_bytes 2 h.operation ++ (number_bytes 4 h.tag ++ number_bytes 8 h.offset))

-- the other eight: how much of the file, the right, the flags, and two zeros
unfoldable pub second_part : Head → List ℕ
second_part h = number_bytes 4 h.size ++ (h.access ∷ h.flags ∷ number_bytes 2 0)

-- THE BYTES OF A FRAME: its head and its data, joined
unfoldable pub frame_bytes : Head → List ℕ → List ℕ
frame_bytes h body = first_part h ++ (second_part h ++ body)

-- what every frame's head is. Its flags name one object
pub record IsHead (h : Head) : Type 0 where
  pub subcontract_low : 1 ≤ h.subcontract
  pub subcontract_high : h.subcontract ≤ 5
  pub flags : h.flags < 16
  pub one_object : is_to_cache h.flags && is_to_file h.flags ≡ false
  pub number : h.operation < 2 ^ 16
  pub tag : h.tag < 2 ^ 32
  pub offset : h.offset < 2 ^ 64
  pub size : h.size ≤ 4096
  pub access : h.access ≤ 2

-- WHAT A FRAME IS: a head whose operation is one of its object, and as many bytes of data as the head says
pub record IsFrame (ops : Ops) (f : FrameSeen) : Type 0 where
  pub head : IsHead f.head
  pub operation : which_of ops f.head.flags f.head.operation ≡ Some f.which
  pub body : length f.body ≡ data_size f.head
