-- Words behind words, and lines behind lines.
use Rattle.std.proofs.Common.{◌≡◌, ℕ, zero, suc, ◌+◌, ◌<◌, ◌≤◌, List, [], ◌∷◌, ◌++◌, length, drop, slice_get, Some, None, Result, Ok, Err, OnOk, ap, sym, ◌∙◌, append_assoc, append-nil, arith}
use Rattle.std.proofs.lemmas.Grind.{flat_map-append}
use Rattle.std.proofs.lemmas.List.{drop_all}
use Rattle.text_words.specs.Lines.{line_of, spaced}
use Rattle.text_words.proofs.Splits.{join_spaced}
use Rattle.name_context.specs.declared.entry.NameEntry.{NameEntry}
use Rattle.spr_report.specs.NamesLines.{name_line, name_lines}

-- a line in its parts
line_parts : (first : List ℕ) (rest : List (List ℕ)) → line_of (first ∷ rest) ≡ first ++ (spaced rest ++ 10 ∷ [])
line_parts first rest = ap (λ (bs : List ℕ). bs ++ 10 ∷ []) (join_spaced 32 first rest) ∙ append_assoc first (spaced rest) (10 ∷ [])

-- a first word, other words and a line feed are a line, if the last call did not fail
pub line_put : {T E : Type 0} (r : Result T E) (old with_first with_rest new first : List ℕ) (rest : List (List ℕ)) → with_first ≡ old ++ first → with_rest ≡ with_first ++ spaced rest
    → OnOk r (new ≡ with_rest ++ 10 ∷ []) → OnOk r (new ≡ old ++ line_of (first ∷ rest))
line_put (Ok x) old with_first with_rest new first rest begun gone last =
    last ∙ (ap (λ (bs : List ℕ). bs ++ 10 ∷ []) (gone ∙ ap (λ (bs : List ℕ). bs ++ spaced rest) begun ∙ append_assoc old first (spaced rest))
    ∙ (append_assoc old (first ++ spaced rest) (10 ∷ []) ∙ ap (λ (bs : List ℕ). old ++ bs) (append_assoc first (spaced rest) (10 ∷ []) ∙ sym (line_parts first rest))))
line_put (Err e) old with_first with_rest new first rest begun gone last = tt

-- words, and then other words
pub spaced_twice : (old mid new : List ℕ) (words rest : List (List ℕ)) → mid ≡ old ++ spaced words → new ≡ mid ++ spaced rest → new ≡ old ++ spaced (words ++ rest)
spaced_twice old mid new words rest begun gone =
    gone ∙ (ap (λ (bs : List ℕ). bs ++ spaced rest) begun ∙ (append_assoc old (spaced words) (spaced rest) ∙ ap (λ (bs : List ℕ). old ++ bs) (sym (flat_map-append (λ (w : List ℕ). 32 ∷ w) words rest))))

drop-next : (entries : List NameEntry) (place : ℕ) (entry : NameEntry) → slice_get entries place ≡ Some entry → drop place entries ≡ entry ∷ drop (place + 1) entries
drop-next [] place entry at = absurd cc
drop-next (first ∷ entries) zero entry at = let same : first ≡ entry = cc in ap (λ (e : NameEntry). e ∷ entries) same
drop-next (first ∷ entries) (suc place) entry at =
    let sum : suc place + 1 ≡ suc (place + 1) = omega arith in
    drop-next entries place entry at ∙ ap (λ (n : ℕ). entry ∷ drop n (first ∷ entries)) (sym sum)

-- with the line of one entry more, what is written and what is left to write are the whole
pub lines_step : (callers : List (List ℕ)) (place : ℕ) (entries : List NameEntry) (entry : NameEntry) (old new whole : List ℕ) → slice_get entries place ≡ Some entry
    → old ++ name_lines callers place (drop place entries) ≡ whole → new ≡ old ++ name_line callers place entry
    → new ++ name_lines callers (place + 1) (drop (place + 1) entries) ≡ whole
lines_step callers place entries entry old new whole at before put =
    let line = name_line callers place entry in
    let left = drop (place + 1) entries in
    let next : suc place ≡ place + 1 = omega arith in
    ap (λ (bs : List ℕ). bs ++ name_lines callers (place + 1) left) put
    ∙ (append_assoc old line (name_lines callers (place + 1) left)
    ∙ (ap (λ (n : ℕ). old ++ (line ++ name_lines callers n left)) (sym next)
    ∙ (ap (λ (es : List NameEntry). old ++ name_lines callers place es) (sym (drop-next entries place entry at)) ∙ before)))

-- when nothing is left, the whole is written
pub lines_end : (callers : List (List ℕ)) (place : ℕ) (entries : List NameEntry) (old whole : List ℕ) → length entries ≤ place
    → old ++ name_lines callers place (drop place entries) ≡ whole → old ≡ whole
lines_end callers place entries old whole past all =
    sym (append-nil old) ∙ (ap (λ (es : List NameEntry). old ++ name_lines callers place es) (sym (drop_all place entries past)) ∙ all)

-- a place in a history has an entry
pub has_entry : (entries : List NameEntry) (place : ℕ) → place < length entries → slice_get entries place ≡ None → ⊥
has_entry [] place inside none = omega arith
has_entry (first ∷ entries) zero inside none = cc
has_entry (first ∷ entries) (suc place) inside none = has_entry entries place (omega arith) none
