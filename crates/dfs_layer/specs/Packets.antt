-- A packet, and its bytes.
use Rattle.std.specs.Prelude.{◌≢◌, ◌<◌, ◌==◌, ℕ, ◌^◌, ◌++◌, List, length, drop, nat_lt, if◌then◌else◌, Result, Ok, Err}
use Rattle.marshal_buf.specs.Numbers.{number_bytes, number_of}
use Rattle.dfs_layer.specs.declared.why.BadPacket.{BadPacket}
use Rattle.dfs_layer.specs.declared.why.PacketWhy.TheVariants as why

-- WHAT A PACKET SAYS: which machine sends it, which one receives it, and the bytes of its frame
pub record PacketSeen : Type 0 where
  pub from : ℕ
  pub to : ℕ
  pub frame : List ℕ

-- it goes from one machine to another
pub record IsPacket (p : PacketSeen) : Type 0 where
  pub from_fits : p.from < 2 ^ 32
  pub to_fits : p.to < 2 ^ 32
  pub apart : p.from ≢ p.to

-- ITS BYTES: the two machines, and then the frame to the end
abbrev pub packet_bytes : ℕ → ℕ → List ℕ → List ℕ
packet_bytes from to frame = number_bytes 4 from ++ number_bytes 4 to ++ frame

-- the packet that the bytes are, or the first test that fails
abbrev pub packet_at : List ℕ → Result PacketSeen BadPacket
packet_at bytes =
    if nat_lt (length bytes) 8
    then Err (record { at = length bytes; why = why.Short })
    else (
    if number_of 4 bytes == number_of 4 (drop 4 bytes)
    then Err (record { at = 4; why = why.Same })
    else Ok (record { from = number_of 4 bytes; to = number_of 4 (drop 4 bytes); frame = drop 8 bytes }))
