-- What the frames of an exchange and their packets are written in, and which of them went.
use Rattle.std.specs.Prelude.{◌≡◌, ◌≤◌, ◌==◌, ℕ, ◌+◌, List, [], length, if◌then◌else◌}
use Rattle.dfs_layer.specs.Packets.{packet_bytes}
use Rattle.marshal_buf.specs.Held.{Held}
use Rattle.pager_channel.specs.declared.numbers.Ops.{Ops}
use Rattle.page_messages.specs.declared.paged.PagedFile.{PagedFile}
use Rattle.page_messages.specs.Written.{AreFramesOf, Letters}
pub use Rattle.page_messages.specs.Written.{AreSent}

-- WHAT CONTRACTS SEE OF A WIRE: the numbers of the operations, the bytes of the two frames that were written last, and those
-- of their packets
pub record WireSeen : Type 0 where
  pub ops : Ops
  pub first : List ℕ
  pub second : List ℕ
  pub first_packet : List ℕ
  pub second_packet : List ℕ

-- a buffer that has room for a head and a page, once it is emptied
abbrev pub HasRoom : Held → Type 0
HasRoom buf = 24 + 4096 ≤ buf.spare + length buf.bytes

-- a buffer that has room for the packet of such a frame, once it is emptied
abbrev pub HasPacketRoom : Held → Type 0
HasPacketRoom buf = 8 + (24 + 4096) ≤ buf.spare + length buf.bytes

-- THE FRAMES OF AN EXCHANGE: those of these two letters about the file went over the wire last
abbrev pub WentOver : WireSeen → PagedFile → Letters → Type 0
WentOver wire file letters = AreFramesOf wire.ops file letters wire.first wire.second

-- THE PACKET OF A FRAME that goes from a machine to a machine, and nothing if the two are the same
abbrev pub packet_between : ℕ → ℕ → List ℕ → List ℕ
packet_between from to frame = if from == to then [] else packet_bytes from to frame

-- what the receiver gets: the packet, or the frame itself if it is on the same machine
abbrev pub bytes_between : ℕ → ℕ → List ℕ → List ℕ
bytes_between from to frame = if from == to then frame else packet_bytes from to frame

-- THE PACKETS OF AN EXCHANGE: the first frame went from a machine to a machine, and the second back
pub record CarriedOver (wire : WireSeen) (from to : ℕ) : Type 0 where
  pub out : wire.first_packet ≡ packet_between from to wire.first
  pub back : wire.second_packet ≡ packet_between to from wire.second
