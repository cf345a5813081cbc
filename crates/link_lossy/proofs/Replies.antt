-- What is read as a reply is one, and was written so.
use Rattle.std.proofs.Common.{◌≡◌, ℕ, ◌+◌, ◌≤◌, Bool, true, false, cond, ltb, List, [], ◌∷◌, ◌++◌, length, drop, get_or, Result, Ok, Err, refl, sym, ap, subst, ◌∙◌, arith, append_assoc, ltb-false, le-ltb}
use Rattle.std.specs.Prelude.{IfOk}
use Rattle.std.proofs.lemmas.List.{drop-drop, drop_at, drop_more, length-append}
use Rattle.marshal_buf.specs.Numbers.{number_bytes, number_of}
use Rattle.marshal_buf.proofs.NumberLaws.{IsBytes, length-number_bytes, number_of-number_bytes, number_of-fits, number_bytes-number_of_4, number_bytes-number_of_8}
use Rattle.pager_channel.proofs.Read.{spelled, spelled_at, bytes_drop}
use Rattle.link_lossy.specs.declared.why.BadLink.{BadLink}
use Rattle.link_lossy.specs.declared.why.LinkWhy.TheVariants as why
use Rattle.link_lossy.specs.Seen.{ReturnedSeen}
use Rattle.link_lossy.specs.Forms.{IsReply, first_part, reply_bytes, second_part}
use Rattle.link_lossy.specs.Reading.{fields_at, reply_at}

-- the bytes in one row
abbrev laid : ReturnedSeen → List ℕ
laid r = number_bytes 8 r.number ++ (number_bytes 4 r.caller ++ (r.kind ∷ (number_bytes 8 r.value ++ (number_bytes 4 r.disk ++ (number_bytes 8 r.place ++ r.rest)))))

in_row : (a b c d e f : List ℕ) (kind : ℕ) → (a ++ (b ++ (kind ∷ []))) ++ ((c ++ (d ++ e)) ++ f) ≡ a ++ (b ++ (kind ∷ (c ++ (d ++ (e ++ f)))))
in_row a b c d e f kind = simp append_assoc

bytes_are_laid : (r : ReturnedSeen) → reply_bytes r ≡ laid r
unfolding reply_bytes first_part second_part
bytes_are_laid r = in_row (number_bytes 8 r.number) (number_bytes 4 r.caller) (number_bytes 8 r.value) (number_bytes 4 r.disk) (number_bytes 8 r.place) r.rest r.kind

-- bytes are their fields, and the rest
all_laid : (bytes : List ℕ) → IsBytes bytes → 33 ≤ length bytes → bytes ≡ laid (fields_at bytes)
all_laid bytes fits long =
    spelled 8 number_bytes-number_of_8 bytes fits (omega arith)
    ∙ ap (λ (t : List ℕ). number_bytes 8 (number_of 8 bytes) ++ t) (spelled_at 8 4 number_bytes-number_of_4 bytes fits (omega arith)
    ∙ ap (λ (t : List ℕ). number_bytes 4 (number_of 4 (drop 8 bytes)) ++ t) (drop_more bytes 12 0 (omega arith)
    ∙ ap (λ (t : List ℕ). get_or bytes 12 0 ∷ t) (spelled_at 13 8 number_bytes-number_of_8 bytes fits (omega arith)
    ∙ ap (λ (t : List ℕ). number_bytes 8 (number_of 8 (drop 13 bytes)) ++ t) (spelled_at 21 4 number_bytes-number_of_4 bytes fits (omega arith)
    ∙ ap (λ (t : List ℕ). number_bytes 4 (number_of 4 (drop 21 bytes)) ++ t) (spelled_at 25 8 number_bytes-number_of_8 bytes fits (omega arith))))))

by_tests : (bytes : List ℕ) (r : ReturnedSeen) (short above : Bool) → ltb (length bytes) 33 ≡ short → ltb 7 (get_or bytes 12 0) ≡ above → IsBytes bytes
    → ◌≡◌ {A = Result ReturnedSeen BadLink} (cond short (Err (record { at = length bytes; why = why.Short })) (cond above (Err (record { at = 12; why = why.Kind })) (Ok (fields_at bytes)))) (Ok r)
    → IsReply r × (bytes ≡ reply_bytes r)
by_tests bytes r true above long known fits e = absurd cc
by_tests bytes r false true long known fits e = absurd cc
by_tests bytes r false false long known fits e =
    let this : fields_at bytes ≡ r = cc in
    let many : 33 ≤ length bytes = ltb-false (length bytes) 33 long in
    let is : IsReply (fields_at bytes) = record {
      number_fits = number_of-fits 8 bytes fits;
      caller_fits = number_of-fits 4 (drop 8 bytes) (bytes_drop 8 bytes fits);
      kind_known = ltb-false 7 (get_or bytes 12 0) known;
      value_fits = number_of-fits 8 (drop 13 bytes) (bytes_drop 13 bytes fits);
      disk_fits = number_of-fits 4 (drop 21 bytes) (bytes_drop 21 bytes fits);
      place_fits = number_of-fits 8 (drop 25 bytes) (bytes_drop 25 bytes fits);
    } in
    subst (λ (s : ReturnedSeen). IsReply s × (bytes ≡ reply_bytes s)) this (is, all_laid bytes fits many ∙ sym (bytes_are_laid (fields_at bytes)))

pub reply_found : (bytes : List ℕ) (r : ReturnedSeen) → IsBytes bytes → reply_at bytes ≡ Ok r → IsReply r × (bytes ≡ reply_bytes r)
reply_found bytes r fits e = by_tests bytes r (ltb (length bytes) 33) (ltb 7 (get_or bytes 12 0)) refl refl fits e

pub if_reply : (bytes : List ℕ) (read : Result ReturnedSeen BadLink) → IsBytes bytes → read ≡ reply_at bytes → IfOk read (λ r. IsReply r × (bytes ≡ reply_bytes r))
if_reply bytes (Ok r) fits e = reply_found bytes r fits (sym e)
if_reply bytes (Err bad) fits e = tt

laid_long : (r : ReturnedSeen) → length (laid r) ≡ 33 + length r.rest
laid_long r =
    let after_disk : List ℕ = number_bytes 8 r.place ++ r.rest in
    let after_value : List ℕ = number_bytes 4 r.disk ++ after_disk in
    let after_kind : List ℕ = number_bytes 8 r.value ++ after_value in
    let after_number : List ℕ = number_bytes 4 r.caller ++ (r.kind ∷ after_kind) in
    let l1 = length-append (number_bytes 8 r.number) after_number in
    let l2 = length-append (number_bytes 4 r.caller) (r.kind ∷ after_kind) in
    let l3 = length-append (number_bytes 8 r.value) after_value in
    let l4 = length-append (number_bytes 4 r.disk) after_disk in
    let l5 = length-append (number_bytes 8 r.place) r.rest in
    omega (arith, l1, l2, l3, l4, l5, length-number_bytes 8 r.number, length-number_bytes 4 r.caller, length-number_bytes 8 r.value, length-number_bytes 4 r.disk, length-number_bytes 8 r.place)

-- a reply in one row is read again
laid_again : (r : ReturnedSeen) → IsReply r → reply_at (laid r) ≡ Ok r
laid_again r is =
    let number : List ℕ = number_bytes 8 r.number in
    let caller : List ℕ = number_bytes 4 r.caller in
    let value : List ℕ = number_bytes 8 r.value in
    let disk : List ℕ = number_bytes 4 r.disk in
    let place : List ℕ = number_bytes 8 r.place in
    let after_disk : List ℕ = place ++ r.rest in
    let after_value : List ℕ = disk ++ after_disk in
    let after_kind : List ℕ = value ++ after_value in
    let after_caller : List ℕ = r.kind ∷ after_kind in
    let after_number : List ℕ = caller ++ after_caller in
    let bytes : List ℕ = laid r in
    let n1 = length-number_bytes 8 r.number in
    let n2 = length-number_bytes 4 r.caller in
    let n3 = length-number_bytes 8 r.value in
    let n4 = length-number_bytes 4 r.disk in
    let n5 = length-number_bytes 8 r.place in
    let d8 : drop 8 bytes ≡ after_number = drop_at number after_number 8 n1 in
    let d12 : drop 12 bytes ≡ after_caller = sym (drop-drop 4 8 bytes) ∙ ap (drop 4) d8 ∙ drop_at caller after_caller 4 n2 in
    let d13 : drop 13 bytes ≡ after_kind = sym (drop-drop 1 12 bytes) ∙ ap (drop 1) d12 in
    let d21 : drop 21 bytes ≡ after_value = sym (drop-drop 8 13 bytes) ∙ ap (drop 8) d13 ∙ drop_at value after_value 8 n3 in
    let d25 : drop 25 bytes ≡ after_disk = sym (drop-drop 4 21 bytes) ∙ ap (drop 4) d21 ∙ drop_at disk after_disk 4 n4 in
    let d33 : drop 33 bytes ≡ r.rest = sym (drop-drop 8 25 bytes) ∙ ap (drop 8) d25 ∙ drop_at place r.rest 8 n5 in
    let at_number : number_of 8 bytes ≡ r.number = number_of-number_bytes 8 r.number after_number is.number_fits in
    let at_caller : number_of 4 (drop 8 bytes) ≡ r.caller = ap (number_of 4) d8 ∙ number_of-number_bytes 4 r.caller after_caller is.caller_fits in
    let at_value : number_of 8 (drop 13 bytes) ≡ r.value = ap (number_of 8) d13 ∙ number_of-number_bytes 8 r.value after_value is.value_fits in
    let at_disk : number_of 4 (drop 21 bytes) ≡ r.disk = ap (number_of 4) d21 ∙ number_of-number_bytes 4 r.disk after_disk is.disk_fits in
    let at_place : number_of 8 (drop 25 bytes) ≡ r.place = ap (number_of 8) d25 ∙ number_of-number_bytes 8 r.place r.rest is.place_fits in
    let l1 = length-append number after_number in
    let l2 = length-append caller after_caller in
    let l3 = length-append value after_value in
    let l4 = length-append disk after_disk in
    let l5 = length-append place r.rest in
    let many : 33 ≤ length bytes = omega (arith, l1, l2, l3, l4, l5, n1, n2, n3, n4, n5) in
    let at_kind : get_or bytes 12 0 ≡ r.kind = ap (λ (t : List ℕ). get_or t 0 0) (sym (drop_more bytes 12 0 (omega arith)) ∙ d12) in
    let long : ltb (length bytes) 33 ≡ false = le-ltb (length bytes) 33 many in
    let known : ltb 7 (get_or bytes 12 0) ≡ false = le-ltb 7 (get_or bytes 12 0) (rw at_kind is.kind_known) in
    rw (long, known, at_number, at_caller, at_kind, at_value, at_disk, at_place, d33) refl

pub reply_again : (r : ReturnedSeen) → IsReply r → reply_at (reply_bytes r) ≡ Ok r
reply_again r is = ap reply_at (bytes_are_laid r) ∙ laid_again r is

-- how long a reply is
pub length-reply_bytes : (r : ReturnedSeen) → length (reply_bytes r) ≡ 33 + length r.rest
length-reply_bytes r = ap length (bytes_are_laid r) ∙ laid_long r
