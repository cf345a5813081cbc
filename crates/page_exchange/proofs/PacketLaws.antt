-- A frame that goes in a packet is read as it was written.
use Rattle.std.proofs.Common.{◌≡◌, ◌≢◌, ℕ, ◌+◌, ◌<◌, ◌≤◌, ◌^◌, Bool, true, false, cond, eqb, List, length, drop, ap, refl, ◌∙◌, arith, length-drop, eqb-true}
use Rattle.dfs_layer.specs.Packets.{IsPacket, packet_bytes}
use Rattle.pager_channel.specs.declared.numbers.Ops.{Ops}
use Rattle.pager_channel.specs.Flags.{has_data}
use Rattle.pager_channel.specs.Seen.{FrameSeen}
use Rattle.pager_channel.specs.Size.{data_size}
use Rattle.pager_channel.proofs.Read.{body_found}
use Rattle.pager_channel.proofs.Written.{frame_again}
use Rattle.page_exchange.specs.Wire.{AreSent, bytes_between}

differ_by : (a b : ℕ) (same : Bool) → eqb a b ≡ same → a ≢ b → eqb a b ≡ false
differ_by a b true is apart = absurd (apart (eqb-true a b is))
differ_by a b false is apart = is

packet_is : (from to : ℕ) (frame : List ℕ) → from ≢ to → bytes_between from to frame ≡ packet_bytes from to frame
packet_is from to frame apart = ap (λ (b : Bool). cond b frame (packet_bytes from to frame)) (differ_by from to (eqb from to) refl apart)

-- between two machines there is a packet
pub packet_there : (from to : ℕ) (frame : List ℕ) → from < 2 ^ 32 → to < 2 ^ 32 → from ≢ to → IsPacket (record { from = from; to = to; frame = frame })
packet_there from to frame fits fits' apart = record { from_fits = fits; to_fits = fits'; apart = apart }

pub packet_came : (from to : ℕ) (bytes frame : List ℕ) → from ≢ to → bytes ≡ bytes_between from to frame → bytes ≡ packet_bytes from to frame
packet_came from to bytes frame apart is = is ∙ packet_is from to frame apart

few_by : (full : Bool) (size : ℕ) → size ≤ 4096 → cond full size 0 ≤ 4096
few_by true size few = few
few_by false size few = omega arith

-- a frame is a head and a page at most
pub frame_few : (ops : Ops) (xs : List ℕ) (f : FrameSeen) → AreSent ops xs f → length xs ≤ 24 + 4096
frame_few ops xs f sent =
    let body : length f.body ≡ length (drop 24 xs) = ap length (body_found ops xs f (frame_again ops f xs sent.frame sent.bytes)) in
    let size : length f.body ≡ data_size f.head = sent.frame.body in
    let few : data_size f.head ≤ 4096 = few_by (has_data f.head.flags) f.head.size sent.frame.head.size in
    omega (arith, body, size, few, length-drop 24 xs)
