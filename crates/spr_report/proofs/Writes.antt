-- A text that is written in parts.
use Rattle.std.proofs.Common.{◌≡◌, ℕ, ◌+◌, ◌-◌, ◌<◌, ◌≤◌, List, [], ◌∷◌, ◌++◌, length, map, take, drop, get_or, Option, Some, None, Result, Ok, Err, IsErr, refl, sym, ap, subst, ◌∙◌, arith, append_assoc}
use Rattle.std.specs.Option.{option_map}
use Rattle.std.specs.List.{concat, flat_map}
use Rattle.std.proofs.lemmas.List.{append-nil, take_more, take-append-drop, take_all, length-drop}
use Rattle.std.proofs.lemmas.Grind.{flat_map-append}
use Rattle.spr_io.specs.Causes.{Rose}
use Rattle.spr_io.specs.Texts.{SinkSeen}
use Rattle.spr_report.specs.Writing.{with_text, Broke, Writes}

written-twice : (w : Option (List ℕ)) (a b : List ℕ) → option_map (λ x. x ++ b) (option_map (λ x. x ++ a) w) ≡ option_map (λ x. x ++ (a ++ b)) w
written-twice None a b = refl
written-twice (Some x) a b = ap Some (append_assoc x a b)

written-nothing : (w : Option (List ℕ)) → option_map (λ x. x ++ []) w ≡ w
written-nothing None = refl
written-nothing (Some x) = ap Some (append-nil x)

pub with_text-twice : (s : SinkSeen) (a b : List ℕ) → with_text (with_text s a) b ≡ with_text s (a ++ b)
with_text-twice s a b = ap (λ (w : Option (List ℕ)). let t : SinkSeen = record { written = w; faults = s.faults } in t) (written-twice s.written a b)

pub with_text-nothing : (s : SinkSeen) → with_text s [] ≡ s
with_text-nothing s = ap (λ (w : Option (List ℕ)). let t : SinkSeen = record { written = w; faults = s.faults } in t) (written-nothing s.written)

-- a sink that took a part of a piece
pub took : (before now : SinkSeen) (part : List ℕ) → now.written ≡ option_map (λ w. w ++ part) before.written → now.faults ≡ before.faults → now ≡ with_text before part
took before now part written calm = λ i. record { written = written i; faults = calm i }

-- a sink that took one text, and then another
pub took-then : (before mid now : SinkSeen) (a b : List ℕ) → mid ≡ with_text before a → now ≡ with_text mid b → now ≡ with_text before (a ++ b)
took-then before mid now a b first next = next ∙ (ap (λ s. with_text s b) first ∙ with_text-twice before a b)

-- a sink that failed behind a first part of the text
pub broke-later : (text done rest : List ℕ) (before mid now : SinkSeen) → done ++ rest ≡ text → mid ≡ with_text before done → Broke rest mid now → Broke text before now
broke-later text done rest before mid now whole is broke = record {
  part = done ++ broke.part;
  rest = broke.rest;
  is = append_assoc done broke.part broke.rest ∙ (ap (λ (l : List ℕ). done ++ l) broke.is ∙ whole);
  written = broke.written ∙ (ap (λ (s : SinkSeen). option_map (λ w. w ++ broke.part) s.written) is ∙ written-twice before.written done broke.part);
  rose = subst (λ (s : SinkSeen). Rose s.faults now.faults) is broke.rose;
}

-- a sink that failed in the first part of a text
pub broke-first : (piece more : List ℕ) (before now : SinkSeen) → Broke piece before now → Broke (piece ++ more) before now
broke-first piece more before now broke = record {
  part = broke.part;
  rest = broke.rest ++ more;
  is = sym (append_assoc broke.part broke.rest more) ∙ ap (λ (l : List ℕ). l ++ more) broke.is;
  written = broke.written;
  rose = broke.rose;
}

-- a sink that failed before it took more
pub broke-at : (rest : List ℕ) (before now : SinkSeen) → now.written ≡ before.written → Rose before.faults now.faults → Broke rest before now
broke-at rest before now same rose = record { part = []; rest = rest; is = refl; written = same ∙ sym (written-nothing before.written); rose = rose }

pub writes-err : {A E : Type 0} (before now : SinkSeen) (text : List ℕ) (r : Result A E) → IsErr r → Broke text before now → Writes before now text r
writes-err before now text (Ok x) is broke = absurd cc
writes-err before now text (Err e) is broke = broke

-- a second text behind a first one
pub writes-then : {A E : Type 0} (before mid now : SinkSeen) (first last : List ℕ) (r : Result A E) → mid ≡ with_text before first → Writes mid now last r → Writes before now (first ++ last) r
writes-then before mid now first last (Ok x) done w = took-then before mid now first last done w
writes-then before mid now first last (Err e) done w = broke-later (first ++ last) first last before mid now refl done w

-- what is left of the bytes after a part of them
pub split-rest : (done rest bytes : List ℕ) (n m : ℕ) → done ++ rest ≡ bytes → n ≤ length rest → m ≡ length rest → (done ++ take n rest) ++ take (m - n) (drop n rest) ≡ bytes
split-rest done rest bytes n m whole le is =
    let len : length (drop n rest) ≡ length rest - n = length-drop n rest in
    let all : take (m - n) (drop n rest) ≡ drop n rest = take_all (m - n) (drop n rest) (omega (arith, le, is, len)) in
    append_assoc done (take n rest) (take (m - n) (drop n rest)) ∙ (ap (λ (l : List ℕ). done ++ (take n rest ++ l)) all ∙ (ap (λ (l : List ℕ). done ++ l) (take-append-drop n rest) ∙ whole))

-- the text up to a piece and with it
pub flat-upto : {A : Type 0} (f : A → List ℕ) (xs : List A) (k : ℕ) (d : A) → k < length xs → flat_map f (take (k + 1) xs) ≡ flat_map f (take k xs) ++ f (get_or xs k d)
flat-upto {A = A} f xs k d lt =
    ap (flat_map f) (take_more xs k d lt)
    ∙ (flat_map-append f (take k xs) (get_or xs k d ∷ []) ∙ ap (λ (l : List ℕ). flat_map f (take k xs) ++ l) (append-nil (f (get_or xs k d))))

pub flat-whole : {A : Type 0} (f : A → List ℕ) (xs : List A) (k : ℕ) (d : A) → k < length xs
    → flat_map f (take k xs) ++ (f (get_or xs k d) ++ flat_map f (drop (k + 1) xs)) ≡ flat_map f xs
flat-whole {A = A} f xs k d lt =
    sym (append_assoc (flat_map f (take k xs)) (f (get_or xs k d)) (flat_map f (drop (k + 1) xs)))
    ∙ (ap (λ (l : List ℕ). l ++ flat_map f (drop (k + 1) xs)) (sym (flat-upto f xs k d lt))
    ∙ (sym (flat_map-append f (take (k + 1) xs) (drop (k + 1) xs)) ∙ ap (flat_map f) (take-append-drop (k + 1) xs)))

-- the sink failed in a piece of the text
pub broke-in : {A : Type 0} (f : A → List ℕ) (xs : List A) (k : ℕ) (d : A) (before mid now : SinkSeen) → k < length xs → mid ≡ with_text before (flat_map f (take k xs))
    → Broke (f (get_or xs k d)) mid now → Broke (flat_map f xs) before now
broke-in {A = A} f xs k d before mid now lt is broke =
    broke-later (flat_map f xs) (flat_map f (take k xs)) (f (get_or xs k d) ++ flat_map f (drop (k + 1) xs)) before mid now (flat-whole f xs k d lt) is
    (broke-first (f (get_or xs k d)) (flat_map f (drop (k + 1) xs)) mid now broke)

-- the sink took a piece of the text
pub took-in : {A : Type 0} (f : A → List ℕ) (xs : List A) (k : ℕ) (d : A) (before mid now : SinkSeen) → k < length xs → mid ≡ with_text before (flat_map f (take k xs))
    → now ≡ with_text mid (f (get_or xs k d)) → now ≡ with_text before (flat_map f (take (k + 1) xs))
took-in f xs k d before mid now lt is next =
    took-then before mid now (flat_map f (take k xs)) (f (get_or xs k d)) is next ∙ ap (with_text before) (sym (flat-upto f xs k d lt))

-- joined pieces
pub concat-flat : {A : Type 0} (f : A → List ℕ) (xs : List A) → concat (map f xs) ≡ flat_map f xs
concat-flat f [] = refl
concat-flat f (x ∷ xs) = ap (λ (l : List ℕ). f x ++ l) (concat-flat f xs)
