-- A request and a reply, and their bytes.
use Rattle.std.specs.Prelude.{ℕ, ◌<◌, ◌≤◌, ◌^◌, List, [], ◌∷◌, ◌++◌}
use Rattle.marshal_buf.specs.Numbers.{number_bytes}
use Rattle.dfs_layer.specs.Packets.{IsPacket, packet_bytes}
use Rattle.link_lossy.specs.declared.request.Request.{Request}
use Rattle.link_lossy.specs.Seen.{ReturnedSeen}

-- THE BYTES OF A REQUEST: its number, its caller, the life, and then the packet to the end
unfoldable pub request_bytes : ℕ → Request → List ℕ
request_bytes number r = number_bytes 8 number ++ (number_bytes 4 r.caller ++ (number_bytes 4 r.life ++ packet_bytes r.packet.from r.packet.to r.packet.frame))

-- a number and a request that have such bytes
pub record IsRequest (number : ℕ) (r : Request) : Type 0 where
  pub number_fits : number < 2 ^ 64
  pub caller_fits : r.caller < 2 ^ 32
  pub life_fits : r.life < 2 ^ 32
  pub packet : IsPacket r.packet

-- the first thirteen bytes of a reply: the number and the caller that it answers, and its kind
unfoldable pub first_part : ReturnedSeen → List ℕ
first_part r = number_bytes 8 r.number ++ (number_bytes 4 r.caller ++ (r.kind ∷ []))

-- the other twenty: the value, the disk and the place
unfoldable pub second_part : ReturnedSeen → List ℕ
second_part r = number_bytes 8 r.value ++ (number_bytes 4 r.disk ++ number_bytes 8 r.place)

-- THE BYTES OF A REPLY: these, and then the data to the end
unfoldable pub reply_bytes : ReturnedSeen → List ℕ
reply_bytes r = first_part r ++ (second_part r ++ r.rest)

-- what has such bytes
pub record IsReply (r : ReturnedSeen) : Type 0 where
  pub number_fits : r.number < 2 ^ 64
  pub caller_fits : r.caller < 2 ^ 32
  pub kind_known : r.kind ≤ 7
  pub value_fits : r.value < 2 ^ 64
  pub disk_fits : r.disk < 2 ^ 32
  pub place_fits : r.place < 2 ^ 64
