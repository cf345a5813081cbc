-- Reading a request and a reply: the tests in their order, and the first that fails.
use Rattle.std.specs.Prelude.{ℕ, ◌+◌, List, length, drop, slice_index, nat_lt, if◌then◌else◌, Result, Ok, Err}
use Rattle.marshal_buf.specs.Numbers.{number_of}
use Rattle.dfs_layer.specs.Packets.{PacketSeen, packet_at}
use Rattle.dfs_layer.specs.declared.why.BadPacket.{BadPacket}
use Rattle.link_lossy.specs.declared.request.Request.{Request}
use Rattle.link_lossy.specs.declared.why.BadLink.{BadLink}
use Rattle.link_lossy.specs.declared.why.LinkWhy.TheVariants as why
use Rattle.link_lossy.specs.Seen.{ReturnedSeen}

-- the request that a packet makes whole; what is wrong with the packet is told where it stands, behind 16 bytes
abbrev pub request_of : ℕ → ℕ → ℕ → Result PacketSeen BadPacket → Result (ℕ × Request) BadLink
request_of number caller life (Ok packet) = Ok (number, record { caller = caller; life = life; packet = packet })
request_of number caller life (Err bad) = Err (record { at = bad.at + 16; why = why.Packet })

-- THE NUMBER AND THE REQUEST that the bytes are, or the first test that fails
abbrev pub request_at : List ℕ → Result (ℕ × Request) BadLink
request_at bytes =
    if nat_lt (length bytes) 16
    then Err (record { at = length bytes; why = why.Short })
    else request_of (number_of 8 bytes) (number_of 4 (drop 8 bytes)) (number_of 4 (drop 12 bytes)) (packet_at (drop 16 bytes))

-- the fields of a reply's 33 bytes, and what follows them
abbrev pub fields_at : List ℕ → ReturnedSeen
fields_at bytes = record {
  number = number_of 8 bytes;
  caller = number_of 4 (drop 8 bytes);
  kind = slice_index bytes 12;
  value = number_of 8 (drop 13 bytes);
  disk = number_of 4 (drop 21 bytes);
  place = number_of 8 (drop 25 bytes);
  rest = drop 33 bytes;
}

-- THE REPLY that the bytes are, or the first test that fails
abbrev pub reply_at : List ℕ → Result ReturnedSeen BadLink
reply_at bytes =
    if nat_lt (length bytes) 33
    then Err (record { at = length bytes; why = why.Short })
    else (
    if nat_lt 7 (slice_index bytes 12)
    then Err (record { at = 12; why = why.Kind })
    else Ok (fields_at bytes))
