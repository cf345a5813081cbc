-- The lines of an accepted text, the last of them first: what later lines leave as it was.
use Rattle.std.proofs.Common.{◌≡◌, ℕ, List, [], ◌∷◌, ◌++◌, reverse, Bool, true, false, ◌&&◌, refl, sym, ap, subst, ◌∙◌, inl, inr}
use Rattle.std.specs.List.{list_any, AllByRecursion}
use Rattle.std.specs.Str.{bytes_eq}
use Rattle.std.proofs.lemmas.Slice.Eq.{bytes_eq-Decides}
use Rattle.std.proofs.lemmas.Bool.{or_cases, or_right, and_parts, and_right, both_ways, false_from_ne_true, cond-false}
use Rattle.std.proofs.lemmas.List.{append-nil, append_assoc, reverse-append, reverse-reverse}
use Rattle.std.proofs.lemmas.List.Sorted.{list_any-IsPermutation, IsPermutation-reverse}
use Rattle.stack_text.specs.declared.stack.StackLine.{StackLine}
use Rattle.stack_accept.specs.declared.rule.Rule.{Rule}
use Rattle.stack_accept.specs.declared.rule.Rule.TheVariants.{NewName}
use Rattle.stack_accept.specs.Lines.{is_layer, is_storage, name_of, is_named, is_layer_named, is_declared, is_storage_name}
use Rattle.stack_accept.specs.Rules.{keeps, is_taken, KeepsRules}
use Rattle.stack_accept.specs.Plan.{plan_back, plan_on}
use Rattle.stack_accept.proofs.NodeLaws.{new_none, declared_taken}

-- each line keeps every rule, after those behind it
abbrev pub KeepsBack : List StackLine → Type 0
KeepsBack [] = Unit {0}
KeepsBack (line ∷ back) = ((rule : Rule) → keeps rule (reverse back) line ≡ true) × KeepsBack back

pub keeps_back : (earlier lines : List StackLine) → KeepsRules earlier lines → KeepsBack (reverse earlier) → KeepsBack (reverse (earlier ++ lines))
keeps_back earlier [] kept back = subst (λ ls. KeepsBack (reverse ls)) (sym (append-nil earlier)) back
keeps_back earlier (line ∷ lines) kept back =
    let turned : reverse (earlier ++ line ∷ []) ≡ line ∷ reverse earlier = reverse-append earlier (line ∷ []) in
    let here : (rule : Rule) → keeps rule (reverse (reverse earlier)) line ≡ true = λ rule. ap (λ ls. keeps rule ls line) (reverse-reverse earlier) ∙ kept.0 rule in
    let next : KeepsBack (reverse (earlier ++ line ∷ [])) = subst KeepsBack (sym turned) (here, back) in
    subst (λ ls. KeepsBack (reverse ls)) (append_assoc earlier (line ∷ []) lines) (keeps_back (earlier ++ line ∷ []) lines kept.1 next)

pub any_reverse : {X : Type 0} (p : X → Bool) (xs : List X) → list_any p (reverse xs) ≡ list_any p xs
any_reverse p xs = sym (list_any-IsPermutation p xs (reverse xs) (IsPermutation-reverse xs))

pub tail_back : (newer back : List StackLine) → KeepsBack (newer ++ back) → KeepsBack back
tail_back [] back h = h
tail_back (line ∷ newer) back h = tail_back newer back h.1

-- a later line has another name
pub new_back : (line : StackLine) (back : List StackLine) (name : List ℕ) → keeps NewName (reverse back) line ≡ true → is_taken back name ≡ true → is_named name line ≡ false
new_back line back name new taken = new_none (reverse back) (name_of line) name new (any_reverse (λ l. is_named name l) back ∙ taken)

-- what stands behind is declared behind
pub declared_back : (back : List StackLine) (name : List ℕ) → is_declared (reverse back) name ≡ true → is_taken back name ≡ true
declared_back back name e = declared_taken back name (sym (any_reverse (λ l. is_layer_named name l) back) ∙ e)

pub taken_more : (newer back : List StackLine) (name : List ℕ) → is_taken back name ≡ true → is_taken (newer ++ back) name ≡ true
taken_more [] back name e = e
taken_more (line ∷ newer) back name e = or_right (is_named name line) (is_taken (newer ++ back) name) (taken_more newer back name e)

-- a name that is taken behind is no later line's
pub old_storage : (newer back : List StackLine) (name : List ℕ) → KeepsBack (newer ++ back) → is_taken back name ≡ true → is_storage_name (newer ++ back) name ≡ true → is_storage_name back name ≡ true
old_storage [] back name keeps taken e = e
old_storage (line ∷ newer) back name keeps taken e =
    let other = new_back line (newer ++ back) name (keeps.0 NewName) (taken_more newer back name taken) in
    elim (or_cases (is_storage line && is_named name line) (is_storage_name (newer ++ back) name) e) [
      | inl here ↦ absurd (both_ways (is_named name line) other (and_parts (is_storage line) (is_named name line) here).1)
      | inr later ↦ old_storage newer back name keeps.1 taken later
    ]

pub storage_more : (newer back : List StackLine) (name : List ℕ) → is_storage_name back name ≡ true → is_storage_name (newer ++ back) name ≡ true
storage_more [] back name e = e
storage_more (line ∷ newer) back name e = or_right (is_storage line && is_named name line) (is_storage_name (newer ++ back) name) (storage_more newer back name e)

pub plan_same : (line : StackLine) (back : List StackLine) (name : List ℕ) → is_named name line ≡ false → plan_back (line ∷ back) name ≡ plan_back back name
plan_same line back name e =
    cond-false (is_layer_named name line) (plan_on back line (λ base. plan_back back base)) (plan_back back name) (and_right (is_layer line) (is_named name line) e)

pub old_plan : (newer back : List StackLine) (name : List ℕ) → KeepsBack (newer ++ back) → is_taken back name ≡ true → plan_back (newer ++ back) name ≡ plan_back back name
old_plan [] back name keeps taken = refl
old_plan (line ∷ newer) back name keeps taken =
    plan_same line (newer ++ back) name (new_back line (newer ++ back) name (keeps.0 NewName) (taken_more newer back name taken)) ∙ old_plan newer back name keeps.1 taken

pub bytes_same : (word : List ℕ) → bytes_eq word word ≡ true
bytes_same word = (bytes_eq-Decides word word).1 refl

pub bytes_turn : (a b : List ℕ) → bytes_eq a b ≡ false → bytes_eq b a ≡ false
bytes_turn a b e = false_from_ne_true (bytes_eq b a) (λ same. both_ways (bytes_eq a b) e ((bytes_eq-Decides a b).1 (sym ((bytes_eq-Decides b a).0 same))))

-- what holds of each element
pub all_split : {X : Type 0} (P : X → Type 0) (xs ys : List X) → AllByRecursion P (xs ++ ys) → AllByRecursion P xs × AllByRecursion P ys
all_split P [] ys h = (tt, h)
all_split P (x ∷ xs) ys h = let rest = all_split P xs ys h.1 in ((h.0, rest.0), rest.1)

pub all_reverse : {X : Type 0} (P : X → Type 0) (xs : List X) → AllByRecursion P (reverse xs) → AllByRecursion P xs
all_reverse P [] h = tt
all_reverse P (x ∷ xs) h =
    let turned : reverse (x ∷ xs) ≡ reverse xs ++ x ∷ [] = reverse-append (x ∷ []) xs in
    let parts = all_split P (reverse xs) (x ∷ []) (subst (AllByRecursion P) turned h) in
    (parts.1.0, all_reverse P xs parts.0)
