-- An element of a list that is found by the two names of its key.
use Rattle.std.proofs.Common.{◌≡◌, ℕ, List, [], ◌∷◌, ◌++◌, length, get_or, find, position, Bool, true, false, ◌&&◌, Some, None, refl, sym, ap, set, ◌∙◌}
use Rattle.std.specs.Str.{bytes_eq}
use Rattle.std.proofs.lemmas.Slice.Eq.{bytes_eq-Decides}
use Rattle.spr_io.proofs.Found.{finds, replaced, passed_over, appended, appended_other, place_added}
use Rattle.spr_io.proofs.Named.{same_bytes, is_false}

-- whether an element has a key
abbrev pub is_key : {X : Type 0} → (X → List ℕ) → (X → List ℕ) → List ℕ → List ℕ → X → Bool
is_key disk_of file_of disk file x = bytes_eq (disk_of x) disk && bytes_eq (file_of x) file

-- the element that stands at the first place of its key
pub key_at : {X : Type 0} (p : X → Bool) (xs : List X) (i : ℕ) (x : X) → position p xs ≡ Some i → x ≡ get_or xs i x → find p xs ≡ Some x
key_at p xs i x e is =
    let f = finds p xs i e in
    f.found ∙ ap (λ y. Some y) (sym (f.at x) ∙ sym is)

pub key_passes : {X : Type 0} (p : X → Bool) (xs : List X) (i : ℕ) (x : X) → position p xs ≡ Some i → x ≡ get_or xs i x → p x ≡ true
key_passes p xs i x e is = let f = finds p xs i e in ap p (is ∙ f.at x) ∙ f.passes

both : (a b : Bool) → (a && b) ≡ true → (a ≡ true) × (b ≡ true)
both true b h = (refl, h)
both false b h = absurd cc

-- its names
pub names_of : {X : Type 0} (disk_of file_of : X → List ℕ) (disk file : List ℕ) (x : X) → is_key disk_of file_of disk file x ≡ true → (disk_of x ≡ disk) × (file_of x ≡ file)
names_of disk_of file_of disk file x h =
    let parts = both (bytes_eq (disk_of x) disk) (bytes_eq (file_of x) file) h in
    ((bytes_eq-Decides (disk_of x) disk).0 parts.0, (bytes_eq-Decides (file_of x) file).0 parts.1)

pub has_key : {X : Type 0} (disk_of file_of : X → List ℕ) (disk file : List ℕ) (x : X) → disk_of x ≡ disk → file_of x ≡ file → is_key disk_of file_of disk file x ≡ true
has_key disk_of file_of disk file x d f = rw (d, f, same_bytes disk, same_bytes file) refl

-- an element of one key has no other
other_key : {X : Type 0} (disk_of file_of : X → List ℕ) (x : X) (disk file d f : List ℕ) → disk_of x ≡ disk → file_of x ≡ file → (d ≡ disk → f ≡ file → ⊥) → is_key disk_of file_of d f x ≡ false
other_key disk_of file_of x disk file d f is_disk is_file differs =
    is_false (is_key disk_of file_of d f x) (λ (h : is_key disk_of file_of d f x ≡ true). let other = names_of disk_of file_of d f x h in differs (sym other.0 ∙ is_disk) (sym other.1 ∙ is_file))

-- the element of a key is this one, and no other changes
pub record SetsKey {X : Type 0} (disk_of file_of : X → List ℕ) (disk file : List ℕ) (y : X) (before after : List X) : Type 0 where
  pub here : find (is_key disk_of file_of disk file) after ≡ Some y
  pub others : (d f : List ℕ) → (d ≡ disk → f ≡ file → ⊥) → find (is_key disk_of file_of d f) after ≡ find (is_key disk_of file_of d f) before

-- an element is replaced by another of its key
pub key_sets : {X : Type 0} (disk_of file_of : X → List ℕ) (disk file : List ℕ) (xs : List X) (i : ℕ) (x y : X) → position (is_key disk_of file_of disk file) xs ≡ Some i → x ≡ get_or xs i x → disk_of y ≡ disk_of x → file_of y ≡ file_of x
    → SetsKey disk_of file_of disk file y xs (set xs i y)
key_sets disk_of file_of disk file xs i x y e is same_disk same_file =
    let names = names_of disk_of file_of disk file x (key_passes (is_key disk_of file_of disk file) xs i x e is) in
    record {
      here = replaced (is_key disk_of file_of disk file) xs i y e (has_key disk_of file_of disk file y (same_disk ∙ names.0) (same_file ∙ names.1));
      others = λ d f differs. passed_over (is_key disk_of file_of d f) xs i x y is (other_key disk_of file_of x disk file d f names.0 names.1 differs) (other_key disk_of file_of y disk file d f (same_disk ∙ names.0) (same_file ∙ names.1) differs);
    }

-- an element is appended where none has its key
pub key_adds : {X : Type 0} (disk_of file_of : X → List ℕ) (disk file : List ℕ) (xs : List X) (y : X) → position (is_key disk_of file_of disk file) xs ≡ None → disk_of y ≡ disk → file_of y ≡ file
    → SetsKey disk_of file_of disk file y xs (xs ++ y ∷ [])
key_adds disk_of file_of disk file xs y e is_disk is_file = record {
  here = appended (is_key disk_of file_of disk file) xs y e (has_key disk_of file_of disk file y is_disk is_file);
  others = λ d f differs. appended_other (is_key disk_of file_of d f) xs y (other_key disk_of file_of y disk file d f is_disk is_file differs);
}

pub key_place_added : {X : Type 0} (disk_of file_of : X → List ℕ) (disk file : List ℕ) (xs : List X) (y : X) → position (is_key disk_of file_of disk file) xs ≡ None → disk_of y ≡ disk → file_of y ≡ file
    → position (is_key disk_of file_of disk file) (xs ++ y ∷ []) ≡ Some (length xs)
key_place_added disk_of file_of disk file xs y e is_disk is_file = place_added (is_key disk_of file_of disk file) xs y e (has_key disk_of file_of disk file y is_disk is_file)
