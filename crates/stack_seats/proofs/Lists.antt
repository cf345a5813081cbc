-- What holds of each element of a list.
use Rattle.std.proofs.Common.{ℕ, zero, suc, ◌<◌, List, [], ◌∷◌, ◌++◌, length, get_or, Bool, true, false, cond, Option, Some, arith}
use Rattle.std.specs.List.{AllByRecursion, filter, find}
use Rattle.std.specs.Option.{option_to_list}

pub all-at : {A : Type 0} (P : A → Type 0) (xs : List A) (i : ℕ) (d : A) → i < length xs → AllByRecursion P xs → P (get_or xs i d)
all-at P [] i d lt all = absurd (omega arith)
all-at P (x ∷ xs) zero d lt all = all.0
all-at P (x ∷ xs) (suc i) d lt all = all-at P xs i d (omega arith) all.1

pub all-from : {A : Type 0} (P : A → Type 0) (xs : List A) (d : A) → ((i : ℕ) → i < length xs → P (get_or xs i d)) → AllByRecursion P xs
all-from P [] d each = tt
all-from P (x ∷ xs) d each = (each 0 (omega arith), all-from P xs d (λ i lt. each (suc i) (omega arith)))

pub all-append : {A : Type 0} (P : A → Type 0) (xs ys : List A) → AllByRecursion P xs → AllByRecursion P ys → AllByRecursion P (xs ++ ys)
all-append P [] ys a b = b
all-append P (x ∷ xs) ys a b = (a.0, all-append P xs ys a.1 b)

kept : {A : Type 0} (P : A → Type 0) (b : Bool) (x : A) (xs : List A) → P x → AllByRecursion P xs → AllByRecursion P (cond b (x ∷ xs) xs)
kept P true x xs p all = (p, all)
kept P false x xs p all = all

pub all-filter : {A : Type 0} (P : A → Type 0) (p : A → Bool) (xs : List A) → AllByRecursion P xs → AllByRecursion P (filter p xs)
all-filter P p [] all = tt
all-filter P p (x ∷ xs) all = kept P (p x) x (filter p xs) all.0 (all-filter P p xs all.1)

first-found : {A : Type 0} (P : A → Type 0) (b : Bool) (x : A) (o : Option A) → P x → AllByRecursion P (option_to_list o) → AllByRecursion P (option_to_list (cond b (Some x) o))
first-found P true x o p all = (p, tt)
first-found P false x o p all = all

pub all-found : {A : Type 0} (P : A → Type 0) (p : A → Bool) (xs : List A) → AllByRecursion P xs → AllByRecursion P (option_to_list (find p xs))
all-found P p [] all = tt
all-found P p (x ∷ xs) all = first-found P (p x) x (find p xs) all.0 (all-found P p xs all.1)
