-- Words behind words, and lines behind lines.
use Rattle.std.proofs.Common.{◌≡◌, ℕ, List, [], ◌∷◌, ◌++◌, codes, Result, Ok, Err, OnOk, refl, ap, sym, ◌∙◌, append_assoc}
use Rattle.std.proofs.lemmas.Grind.{flat_map-append}
use Rattle.std.proofs.lemmas.List.{append-nil}
use Rattle.script_text.specs.declared.script.Reply.{Reply}
use Rattle.script_text.specs.declared.script.Reply.TheVariants as replies
use Rattle.text_words.specs.Lines.{line_of, spaced}
use Rattle.text_words.proofs.Splits.{join_spaced}
use Rattle.script_text.specs.Answer.{answer_words}
use Rattle.spr_report.specs.Report.{closing_line}

-- a line in its parts
pub line_parts : (first : List ℕ) (rest : List (List ℕ)) → line_of (first ∷ rest) ≡ first ++ (spaced rest ++ 10 ∷ [])
line_parts first rest = ap (λ (bs : List ℕ). bs ++ 10 ∷ []) (join_spaced 32 first rest) ∙ append_assoc first (spaced rest) (10 ∷ [])

-- a first word, other words and a line feed are a line, if the last call did not fail
pub line_put : {T E : Type 0} (r : Result T E) (old with_first with_rest new first : List ℕ) (rest : List (List ℕ)) → with_first ≡ old ++ first → with_rest ≡ with_first ++ spaced rest
    → OnOk r (new ≡ with_rest ++ 10 ∷ []) → OnOk r (new ≡ old ++ line_of (first ∷ rest))
line_put (Ok x) old with_first with_rest new first rest begun gone last =
    last ∙ (ap (λ (bs : List ℕ). bs ++ 10 ∷ []) (gone ∙ ap (λ (bs : List ℕ). bs ++ spaced rest) begun ∙ append_assoc old first (spaced rest))
    ∙ (append_assoc old (first ++ spaced rest) (10 ∷ []) ∙ ap (λ (bs : List ℕ). old ++ bs) (append_assoc first (spaced rest) (10 ∷ []) ∙ sym (line_parts first rest))))
line_put (Err e) old with_first with_rest new first rest begun gone last = tt

-- one more word, if the call did not fail
pub then_word : {T E : Type 0} (r : Result T E) (old mid new : List ℕ) (words : List (List ℕ)) (word : List ℕ) → mid ≡ old ++ spaced words → OnOk r (new ≡ mid ++ 32 ∷ word) → OnOk r (new ≡ old ++ spaced (words ++ word ∷ []))
then_word (Ok x) old mid new words word before last =
    last ∙ ap (λ (m : List ℕ). m ++ 32 ∷ word) before ∙ append_assoc old (spaced words) (32 ∷ word) ∙ ap (λ (t : List ℕ). old ++ t) (sym (flat_map-append (λ (w : List ℕ). 32 ∷ w) words (word ∷ []) ∙ ap (λ (t : List ℕ). spaced words ++ t) (append-nil (32 ∷ word))))
then_word (Err e) old mid new words word before last = tt

-- a word, and then other words
pub more_words : (old mid new word : List ℕ) (rest : List (List ℕ)) → mid ≡ old ++ 32 ∷ word → new ≡ mid ++ spaced rest → new ≡ old ++ spaced (word ∷ rest)
more_words old mid new word rest begun gone = gone ∙ (ap (λ (bs : List ℕ). bs ++ spaced rest) begun ∙ append_assoc old (32 ∷ word) (spaced rest))

-- words, and then other words
pub spaced_twice : (old mid new : List ℕ) (words rest : List (List ℕ)) → mid ≡ old ++ spaced words → new ≡ mid ++ spaced rest → new ≡ old ++ spaced (words ++ rest)
spaced_twice old mid new words rest begun gone =
    gone ∙ (ap (λ (bs : List ℕ). bs ++ spaced rest) begun ∙ (append_assoc old (spaced words) (spaced rest) ∙ ap (λ (bs : List ℕ). old ++ bs) (sym (flat_map-append (λ (w : List ℕ). 32 ∷ w) words rest))))

-- a closing sync that failed has a line
pub closing_line-failed : (disks : List (List ℕ)) (file : List ℕ) (reply : Reply) → (reply ≡ replies.Done → ⊥) → closing_line disks file reply ≡ line_of (codes "closing" ∷ file ∷ answer_words disks reply)
closing_line-failed disks file replies.Done n = absurd (n refl)
closing_line-failed disks file _ n = refl
