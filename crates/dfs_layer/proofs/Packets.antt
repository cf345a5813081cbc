-- What is read is a packet, and was written so.
use Rattle.std.proofs.Common.{◌≡◌, ◌≢◌, ℕ, ◌+◌, ◌<◌, ◌≤◌, ◌^◌, Bool, true, false, cond, ltb, eqb, List, ◌++◌, length, drop, get_or, Result, Ok, Err, refl, sym, ap, subst, ◌∙◌, arith, append_assoc, ltb-false, le-ltb, eqb-true, eq-eqb}
use Rattle.std.specs.Prelude.{IfOk}
use Rattle.std.proofs.lemmas.Bool.Decides.{nat_tests}
use Rattle.std.proofs.lemmas.List.{drop-drop, drop_at, length-append}
use Rattle.marshal_buf.specs.Numbers.{number_bytes, number_of}
use Rattle.marshal_buf.proofs.NumberLaws.{IsBytes, length-number_bytes, number_of-number_bytes, number_of-fits, number_bytes-number_of_4}
use Rattle.pager_channel.proofs.Read.{spelled, spelled_at, bytes_drop}
use Rattle.dfs_layer.specs.declared.why.BadPacket.{BadPacket}
use Rattle.dfs_layer.specs.declared.why.PacketWhy.TheVariants as why
use Rattle.dfs_layer.specs.Packets.{PacketSeen, IsPacket, packet_bytes, packet_at}

-- the bytes are the numbers of two machines, and the rest
laid : (bytes : List ℕ) → IsBytes bytes → 8 ≤ length bytes → bytes ≡ packet_bytes (number_of 4 bytes) (number_of 4 (drop 4 bytes)) (drop 8 bytes)
laid bytes fits long =
    let first : List ℕ = number_bytes 4 (number_of 4 bytes) in
    let second : List ℕ = number_bytes 4 (number_of 4 (drop 4 bytes)) in
    spelled 4 number_bytes-number_of_4 bytes fits (omega arith)
    ∙ ap (λ (t : List ℕ). first ++ t) (spelled_at 4 4 number_bytes-number_of_4 bytes fits (omega arith))
    ∙ sym (append_assoc first second (drop 8 bytes))

-- what the tests let through
by_tests : (bytes : List ℕ) (p : PacketSeen) (short same : Bool) → ltb (length bytes) 8 ≡ short → eqb (number_of 4 bytes) (number_of 4 (drop 4 bytes)) ≡ same → IsBytes bytes
    → ◌≡◌ {A = Result PacketSeen BadPacket} (cond short (Err (record { at = length bytes; why = why.Short })) (cond same (Err (record { at = 4; why = why.Same })) (Ok (record { from = number_of 4 bytes; to = number_of 4 (drop 4 bytes); frame = drop 8 bytes })))) (Ok p)
    → IsPacket p × (bytes ≡ packet_bytes p.from p.to p.frame)
by_tests bytes p true same long apart fits is = absurd cc
by_tests bytes p false true long apart fits is = absurd cc
by_tests bytes p false false long apart fits is =
    let read : PacketSeen = record { from = number_of 4 bytes; to = number_of 4 (drop 4 bytes); frame = drop 8 bytes } in
    let this : read ≡ p = cc in
    let many : 8 ≤ length bytes = ltb-false (length bytes) 8 long in
    let packet : IsPacket read = record {
      from_fits = number_of-fits 4 bytes fits;
      to_fits = number_of-fits 4 (drop 4 bytes) (bytes_drop 4 bytes fits);
      apart = λ same. grind (nat_tests, arith, same, apart);
    } in
    subst (λ (q : PacketSeen). IsPacket q × (bytes ≡ packet_bytes q.from q.to q.frame)) this (packet, laid bytes fits many)

pub packet_found : (bytes : List ℕ) (p : PacketSeen) → IsBytes bytes → packet_at bytes ≡ Ok p → IsPacket p × (bytes ≡ packet_bytes p.from p.to p.frame)
packet_found bytes p fits is = by_tests bytes p (ltb (length bytes) 8) (eqb (number_of 4 bytes) (number_of 4 (drop 4 bytes))) refl refl fits is

pub if_found : (bytes : List ℕ) (read : Result PacketSeen BadPacket) → IsBytes bytes → read ≡ packet_at bytes → IfOk read (λ p. IsPacket p × (bytes ≡ packet_bytes p.from p.to p.frame))
if_found bytes (Ok p) fits is = packet_found bytes p fits (sym is)
if_found bytes (Err bad) fits is = tt

differ_by : (a b : ℕ) (same : Bool) → eqb a b ≡ same → a ≢ b → eqb a b ≡ false
differ_by a b true is apart = absurd (apart (eqb-true a b is))
differ_by a b false is apart = is

differ : (a b : ℕ) → a ≢ b → eqb a b ≡ false
differ a b apart = differ_by a b (eqb a b) refl apart

-- a packet is read again
pub packet_again : (p : PacketSeen) → IsPacket p → packet_at (packet_bytes p.from p.to p.frame) ≡ Ok p
packet_again p is =
    let first : List ℕ = number_bytes 4 p.from in
    let second : List ℕ = number_bytes 4 p.to in
    let bytes : List ℕ = packet_bytes p.from p.to p.frame in
    let one = length-number_bytes 4 p.from in
    let two = length-number_bytes 4 p.to in
    let whole : bytes ≡ first ++ (second ++ p.frame) = append_assoc first second p.frame in
    let from : number_of 4 bytes ≡ p.from = ap (number_of 4) whole ∙ number_of-number_bytes 4 p.from (second ++ p.frame) is.from_fits in
    let behind : drop 4 bytes ≡ second ++ p.frame = ap (drop 4) whole ∙ drop_at first (second ++ p.frame) 4 one in
    let to : number_of 4 (drop 4 bytes) ≡ p.to = ap (number_of 4) behind ∙ number_of-number_bytes 4 p.to p.frame is.to_fits in
    let rest : drop 8 bytes ≡ p.frame = sym (drop-drop 4 4 bytes) ∙ ap (drop 4) behind ∙ drop_at second p.frame 4 two in
    let outer = length-append (first ++ second) p.frame in
    let inner = length-append first second in
    let long : ltb (length bytes) 8 ≡ false = le-ltb (length bytes) 8 (omega (arith, outer, inner, one, two)) in
    let apart : eqb (number_of 4 bytes) (number_of 4 (drop 4 bytes)) ≡ false = differ (number_of 4 bytes) (number_of 4 (drop 4 bytes)) (λ same. is.apart (sym from ∙ same ∙ to)) in
    rw (long, apart, from, to, rest) refl
