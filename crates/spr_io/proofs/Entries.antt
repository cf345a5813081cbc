-- What a list of entries tells, before and after one is set.
use Rattle.std.proofs.Common.{◌≡◌, ℕ, List, [], ◌∷◌, ◌++◌, get_or, find, position, Bool, true, false, cond, Option, Some, None, refl, sym, ap, set, ◌∙◌}
use Rattle.std.specs.Option.{option_or}
use Rattle.std.proofs.lemmas.List.Folds.{find-append}
use Rattle.spr_io.specs.Berth.{Berth, SameBerths, SameElsewhere, taken, given, lost}
use Rattle.spr_io.specs.Host.{Entry, is_entry, entry_berth, berth_in}
use Rattle.spr_io.proofs.Found.{finds_none}
use Rattle.spr_io.proofs.Keyed.{key_at, key_sets}

-- what the entry at the first place of its name tells
pub entry_at : (disk file : List ℕ) (entries : List Entry) (i : ℕ) (e : Entry) → position (is_entry disk file) entries ≡ Some i → e ≡ get_or entries i e → berth_in entries disk file ≡ entry_berth (Some e)
entry_at disk file entries i e at is = ap entry_berth (key_at (is_entry disk file) entries i e at is)

pub no_entry : (disk file : List ℕ) (entries : List Entry) → position (is_entry disk file) entries ≡ None → berth_in entries disk file ≡ entry_berth None
no_entry disk file entries none = ap entry_berth (finds_none (is_entry disk file) entries none)

-- an entry is set, and no other
pub record SetsEntry (disk file : List ℕ) (e : Entry) (before after : List Entry) : Type 0 where
  pub here : berth_in after disk file ≡ entry_berth (Some e)
  pub others : SameElsewhere disk file (berth_in before) (berth_in after)

pub sets_entry : (disk file : List ℕ) (entries : List Entry) (i : ℕ) (e new : Entry) → position (is_entry disk file) entries ≡ Some i → e ≡ get_or entries i e → new.disk ≡ e.disk → new.file ≡ e.file → SetsEntry disk file new entries (set entries i new)
sets_entry disk file entries i e new at is same_disk same_file =
    let k = key_sets (λ (e : Entry). e.disk) (λ (e : Entry). e.file) disk file entries i e new at is same_disk same_file in
    record { here = ap entry_berth k.here; others = λ d f differs. ap entry_berth (k.others d f differs) }

-- an entry of a store that was never taken tells no more than none
new_or : (o : Option Entry) (b : Bool) (new : Entry) → new.out ≡ false → new.count ≡ 0 → entry_berth (option_or o (cond b (Some new) None)) ≡ entry_berth o
new_or (Some e) b new out count = refl
new_or None true new out count = rw (out, count) refl
new_or None false new out count = refl

pub adds_entry : (entries : List Entry) (new : Entry) → new.out ≡ false → new.count ≡ 0 → SameBerths (berth_in entries) (berth_in (entries ++ new ∷ []))
adds_entry entries new out count d f = ap entry_berth (find-append (is_entry d f) entries (new ∷ [])) ∙ new_or (find (is_entry d f) entries) (is_entry d f new) new out count

-- a berth whose store is not out loses nothing
pub lost_in : (faults : ℕ) (b : Berth) → b.out ≡ false → b ≡ lost faults b
lost_in faults b out = rw out refl

-- what is told once a store was given back to an entry, or could not be
pub record GivenBack (disk file : List ℕ) (count : ℕ) (answer : Bool) (before after : List Entry) : Type 0 where
  pub answers : answer ≡ (berth_in before disk file).out
  pub gives : answer ≡ true → berth_in after disk file ≡ given None count (berth_in before disk file)
  pub loses : answer ≡ false → berth_in after disk file ≡ lost count (berth_in before disk file)
  pub others : SameElsewhere disk file (berth_in before) (berth_in after)

same_names : (e new back : Entry) (b : Bool) → e.out ≡ b → back.disk ≡ e.disk → back.file ≡ e.file → (e.out ≡ true → new ≡ back) → (e.out ≡ false → new ≡ e) → (new.disk ≡ e.disk) × (new.file ≡ e.file)
same_names e new back true is d f gives keeps = (ap (λ (x : Entry). x.disk) (gives is) ∙ d, ap (λ (x : Entry). x.file) (gives is) ∙ f)
same_names e new back false is d f gives keeps = (ap (λ (x : Entry). x.disk) (keeps is), ap (λ (x : Entry). x.file) (keeps is))

pub given_back : (disk file : List ℕ) (entries : List Entry) (i : ℕ) (e x new : Entry) (count : ℕ) (answer : Bool) → position (is_entry disk file) entries ≡ Some i → e ≡ get_or entries i e → e ≡ x
    → answer ≡ x.out → (x.out ≡ true → new ≡ record x { out = false; count = count }) → (x.out ≡ false → new ≡ x) → GivenBack disk file count answer entries (set entries i new)
given_back disk file entries i e x new count answer at is same says gives keeps =
    let was : berth_in entries disk file ≡ entry_berth (Some x) = entry_at disk file entries i e at is ∙ ap (λ (y : Entry). entry_berth (Some y)) same in
    let names = same_names x new (record x { out = false; count = count }) x.out refl refl refl gives keeps in
    let s = sets_entry disk file entries i e new at is (names.0 ∙ ap (λ (y : Entry). y.disk) (sym same)) (names.1 ∙ ap (λ (y : Entry). y.file) (sym same)) in
    record {
      answers = says ∙ ap (λ (b : Berth). b.out) (sym was);
      gives = λ (yes' : answer ≡ true). s.here ∙ ap (λ (y : Entry). entry_berth (Some y)) (gives (sym says ∙ yes')) ∙ ap (λ (b : Berth). given None count b) (sym was);
      loses = λ (no' : answer ≡ false).
          let in' : x.out ≡ false = sym says ∙ no' in
          s.here ∙ ap (λ (y : Entry). entry_berth (Some y)) (keeps in') ∙ lost_in count (entry_berth (Some x)) in' ∙ ap (λ (b : Berth). lost count b) (sym was);
      others = s.others;
    }

-- what is told once a store was taken of an entry
pub record TakenOut (disk file : List ℕ) (count : ℕ) (before after : List Entry) : Type 0 where
  pub counts : count ≡ (berth_in before disk file).faults
  pub was_in : (berth_in before disk file).out ≡ false
  pub takes : berth_in after disk file ≡ taken (berth_in before disk file)
  pub others : SameElsewhere disk file (berth_in before) (berth_in after)

pub taken_out : (disk file : List ℕ) (entries : List Entry) (i : ℕ) (e x new : Entry) → position (is_entry disk file) entries ≡ Some i → e ≡ get_or entries i e → e ≡ x
    → x.out ≡ false → new ≡ record x { out = true } → TakenOut disk file x.count entries (set entries i new)
taken_out disk file entries i e x new at is same was_in takes =
    let was : berth_in entries disk file ≡ entry_berth (Some x) = entry_at disk file entries i e at is ∙ ap (λ (y : Entry). entry_berth (Some y)) same in
    let s = sets_entry disk file entries i e new at is (ap (λ (y : Entry). y.disk) takes ∙ ap (λ (y : Entry). y.disk) (sym same)) (ap (λ (y : Entry). y.file) takes ∙ ap (λ (y : Entry). y.file) (sym same)) in
    record {
      counts = ap (λ (b : Berth). b.faults) (sym was);
      was_in = ap (λ (b : Berth). b.out) was ∙ was_in;
      takes = s.here ∙ ap (λ (y : Entry). entry_berth (Some y)) takes ∙ ap taken (sym was);
      others = s.others;
    }
