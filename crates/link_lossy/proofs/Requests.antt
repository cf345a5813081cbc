-- What is read as a request is one, and was written so.
use Rattle.std.proofs.Common.{◌≡◌, ℕ, ◌≤◌, Bool, true, false, cond, ltb, List, ◌++◌, length, drop, Result, Ok, Err, refl, sym, ap, subst, ◌∙◌, arith, ltb-false, le-ltb}
use Rattle.std.specs.Prelude.{IfOk}
use Rattle.std.proofs.lemmas.List.{drop-drop, drop_at, length-append}
use Rattle.marshal_buf.specs.Numbers.{number_bytes, number_of}
use Rattle.marshal_buf.proofs.NumberLaws.{IsBytes, length-number_bytes, number_of-number_bytes, number_of-fits, number_bytes-number_of_4, number_bytes-number_of_8}
use Rattle.pager_channel.proofs.Read.{spelled, spelled_at, bytes_drop}
use Rattle.dfs_layer.specs.declared.why.BadPacket.{BadPacket}
use Rattle.dfs_layer.specs.Packets.{PacketSeen, packet_at, packet_bytes}
use Rattle.dfs_layer.proofs.Packets.{packet_again, packet_found}
use Rattle.link_lossy.specs.declared.request.Request.{Request}
use Rattle.link_lossy.specs.declared.why.BadLink.{BadLink}
use Rattle.link_lossy.specs.declared.why.LinkWhy.TheVariants as why
use Rattle.link_lossy.specs.Forms.{IsRequest, request_bytes}
use Rattle.link_lossy.specs.Reading.{request_at, request_of}

-- the bytes are three numbers, and the rest
laid : (bytes : List ℕ) → IsBytes bytes → 16 ≤ length bytes → bytes ≡ number_bytes 8 (number_of 8 bytes) ++ (number_bytes 4 (number_of 4 (drop 8 bytes)) ++ (number_bytes 4 (number_of 4 (drop 12 bytes)) ++ drop 16 bytes))
laid bytes fits long =
    spelled 8 number_bytes-number_of_8 bytes fits (omega arith)
    ∙ ap (λ (t : List ℕ). number_bytes 8 (number_of 8 bytes) ++ t) (spelled_at 8 4 number_bytes-number_of_4 bytes fits (omega arith)
    ∙ ap (λ (t : List ℕ). number_bytes 4 (number_of 4 (drop 8 bytes)) ++ t) (spelled_at 12 4 number_bytes-number_of_4 bytes fits (omega arith)))

-- what a request's bytes are read as: the packet that they have
of_packet : (bytes : List ℕ) (read : Result PacketSeen BadPacket) (x : ℕ × Request) → packet_at (drop 16 bytes) ≡ read → IsBytes bytes → 16 ≤ length bytes
    → request_of (number_of 8 bytes) (number_of 4 (drop 8 bytes)) (number_of 4 (drop 12 bytes)) read ≡ Ok x
    → IsRequest x.0 x.1 × (bytes ≡ request_bytes x.0 x.1)
unfolding request_bytes
of_packet bytes (Err bad) x is fits long e = absurd cc
of_packet bytes (Ok packet) x is fits long e =
    let r : Request = record { caller = number_of 4 (drop 8 bytes); life = number_of 4 (drop 12 bytes); packet = packet } in
    let this : ◌≡◌ {A = ℕ × Request} (number_of 8 bytes, r) x = cc in
    let found = packet_found (drop 16 bytes) packet (bytes_drop 16 bytes fits) is in
    let ok : IsRequest (number_of 8 bytes) r = record {
      number_fits = number_of-fits 8 bytes fits;
      caller_fits = number_of-fits 4 (drop 8 bytes) (bytes_drop 8 bytes fits);
      life_fits = number_of-fits 4 (drop 12 bytes) (bytes_drop 12 bytes fits);
      packet = found.0;
    } in
    let spelled_so : bytes ≡ request_bytes (number_of 8 bytes) r =
    laid bytes fits long
    ∙ ap (λ (t : List ℕ). number_bytes 8 (number_of 8 bytes) ++ (number_bytes 4 (number_of 4 (drop 8 bytes)) ++ (number_bytes 4 (number_of 4 (drop 12 bytes)) ++ t))) found.1 in
    subst (λ (y : ℕ × Request). IsRequest y.0 y.1 × (bytes ≡ request_bytes y.0 y.1)) this (ok, spelled_so)

-- what the test of the length lets through
by_length : (bytes : List ℕ) (x : ℕ × Request) (short : Bool) → ltb (length bytes) 16 ≡ short → IsBytes bytes
    → cond short (Err (record { at = length bytes; why = why.Short })) (request_of (number_of 8 bytes) (number_of 4 (drop 8 bytes)) (number_of 4 (drop 12 bytes)) (packet_at (drop 16 bytes))) ≡ Ok x
    → IsRequest x.0 x.1 × (bytes ≡ request_bytes x.0 x.1)
by_length bytes x true short fits e = absurd cc
by_length bytes x false short fits e = of_packet bytes (packet_at (drop 16 bytes)) x refl fits (ltb-false (length bytes) 16 short) e

pub request_found : (bytes : List ℕ) (x : ℕ × Request) → IsBytes bytes → request_at bytes ≡ Ok x → IsRequest x.0 x.1 × (bytes ≡ request_bytes x.0 x.1)
request_found bytes x fits e = by_length bytes x (ltb (length bytes) 16) refl fits e

pub if_request : (bytes : List ℕ) (read : Result (ℕ × Request) BadLink) → IsBytes bytes → read ≡ request_at bytes → IfOk read (λ x. IsRequest x.0 x.1 × (bytes ≡ request_bytes x.0 x.1))
if_request bytes (Ok x) fits e = request_found bytes x fits (sym e)
if_request bytes (Err bad) fits e = tt

-- a request is read again
pub request_again : (number : ℕ) (r : Request) → IsRequest number r → request_at (request_bytes number r) ≡ Ok (number, r)
unfolding request_bytes
request_again number r is =
    let first : List ℕ = number_bytes 8 number in
    let second : List ℕ = number_bytes 4 r.caller in
    let third : List ℕ = number_bytes 4 r.life in
    let packet : List ℕ = packet_bytes r.packet.from r.packet.to r.packet.frame in
    let bytes : List ℕ = first ++ (second ++ (third ++ packet)) in
    let one = length-number_bytes 8 number in
    let two = length-number_bytes 4 r.caller in
    let three = length-number_bytes 4 r.life in
    let at_number : number_of 8 bytes ≡ number = number_of-number_bytes 8 number (second ++ (third ++ packet)) is.number_fits in
    let drop_8 : drop 8 bytes ≡ second ++ (third ++ packet) = drop_at first (second ++ (third ++ packet)) 8 one in
    let at_caller : number_of 4 (drop 8 bytes) ≡ r.caller = ap (number_of 4) drop_8 ∙ number_of-number_bytes 4 r.caller (third ++ packet) is.caller_fits in
    let drop_12 : drop 12 bytes ≡ third ++ packet = sym (drop-drop 4 8 bytes) ∙ ap (drop 4) drop_8 ∙ drop_at second (third ++ packet) 4 two in
    let at_life : number_of 4 (drop 12 bytes) ≡ r.life = ap (number_of 4) drop_12 ∙ number_of-number_bytes 4 r.life packet is.life_fits in
    let drop_16 : drop 16 bytes ≡ packet = sym (drop-drop 4 12 bytes) ∙ ap (drop 4) drop_12 ∙ drop_at third packet 4 three in
    let at_packet : packet_at (drop 16 bytes) ≡ Ok r.packet = ap packet_at drop_16 ∙ packet_again r.packet is.packet in
    let a = length-append first (second ++ (third ++ packet)) in
    let b = length-append second (third ++ packet) in
    let c = length-append third packet in
    let long : ltb (length bytes) 16 ≡ false = le-ltb (length bytes) 16 (omega (arith, a, b, c, one, two, three)) in
    rw (long, at_number, at_caller, at_life, at_packet) refl
