-- How the status of a run follows from its answers.
use Rattle.std.proofs.Common.{◌≡◌, ◌∙◌, Bool, List, [], ◌∷◌, map, refl, sym, ap}
use Rattle.std.specs.Prelude.{◌||◌}
use Rattle.std.specs.List.{list_any, list_all}
use Rattle.script_text.specs.declared.script.Said.{Said}
use Rattle.script_text.specs.declared.script.Reply.{Reply}
use Rattle.script_meaning.specs.declared.store.StoreKey.{StoreKey}
use Rattle.run_files.specs.Ended.{any_lost, lacks_memory, has_fault, is_memory, is_done, status_by, status_of}

pub any-map : {A B : Type 0} (f : A → B) (test : B → Bool) (xs : List A) → list_any test (map f xs) ≡ list_any (λ x. test (f x)) xs
any-map f test [] = refl
any-map f test (x ∷ xs) = ap (λ b. test (f x) || b) (any-map f test xs)

pub status-is : {A : Type 0} (f : A → List Said) (said : List A) (closing : List Reply) (lost : List StoreKey) (a b g d e : Bool) → a ≡ list_any (λ v. lacks_memory (f v)) said → b ≡ list_any is_memory closing → g ≡ any_lost lost
    → d ≡ list_any (λ v. has_fault (f v)) said → e ≡ list_all is_done closing → status_by a b g d e ≡ status_of (map f said) closing lost
status-is f said closing lost a b g d e p q o r s =
    let x = p ∙ sym (any-map f lacks_memory said) in
    let y = r ∙ sym (any-map f has_fault said) in
    rw (x, q, o, y, s) refl
