-- What each call of the cache makes of the frames.
use Rattle.std.specs.Prelude.{reverse, filter, nat_eq, IsSome, IsSomeAnd, take}
use Rattle.std.proofs.Common.{◌≡◌, ◌≢◌, ℕ, ◌-◌, ◌<◌, sym, ◌∙◌, ap, subst, refl, arith, inl, inr, Bool, true, false, cond, List, [], ◌∷◌, ◌++◌, length, Option, Some, None}
use Rattle.std.specs.Cmp.{nat_eq_equiv}
use Rattle.std.specs.List.{IsDistinct, AllByRecursion}
use Rattle.std.specs.Map.{keys_of, lookup, lookup_entry, remove_entry, set_value}
use Rattle.std.specs.Option.{option_map, option_map_or}
use Rattle.std.proofs.lemmas.Bool.Decides.{eqb_tells}
use Rattle.std.proofs.lemmas.List.{take_all, length-reverse}
use Rattle.std.proofs.lemmas.Map.Entries.{length-keys_of}
use Rattle.std.proofs.lemmas.Map.{lookup-set_value, lookup-remove_entry, keys-set_value, none_passes_from_lookup, NonePasses}
use Rattle.std.proofs.lemmas.Map.Keys.{IsDistinct-head, IsDistinct-tail}
use Rattle.lru.specs.LruCache.{LruCache, lru_cache, promoted, put_entries}
use Rattle.lru.proofs.CallerLemmas.{Contains-lookup_entry}
use Rattle.lru.proofs.Pairs.{lookup-lookup_entry}
use Rattle.layer_laws.specs.Side.{Side}
use Rattle.page_messages.specs.declared.slot.Slot.{Slot}
use Rattle.page_messages.specs.Slot.{side_of}
use Rattle.page_messages.specs.Seen.{side_seen}
use Rattle.vmm_cache.specs.Uses.{without, used_last}
use Rattle.vmm_cache.specs.Frames.{slot_in, side_in, uses_in, FramesPage, FreesPage}
use Rattle.vmm_cache.proofs.Listing.{is_other, eq_same, eq_apart, eq_from, reverse_cons, filter-reverse, without_none}

one_key : (page : ℕ) (x y : ℕ) → nat_eq page x ≡ true → nat_eq page y ≡ nat_eq x y
one_key page x y t = ap (λ (n : ℕ). nat_eq n y) (eq_from page x t)

pub is_some : {A : Type 0} (o : Option A) (x : A) → o ≡ Some x → IsSome o
is_some o x e = subst IsSome (sym e) refl

pub and_some : {A : Type 0} (o : Option A) (x : A) (P : A → Type 0) → o ≡ Some x → P x → IsSomeAnd o P
and_some {A} o x P e h = subst (λ (u : Option A). IsSomeAnd u P) (sym e) h

-- A FRAME IS CHANGED IN PLACE
module _ (held : LruCache ℕ Slot) (page : ℕ) (old new : Slot) (was : slot_in held page ≡ Some old) where
  after : LruCache ℕ Slot
  after = lru_cache (set_value (nat_eq page) held.entries new) held.cap

  set_at : (other : ℕ) → lookup (nat_eq other) (set_value (nat_eq page) held.entries new) ≡ cond (nat_eq page other) (Some new) (lookup (nat_eq other) held.entries)
  set_at other = lookup-set_value nat_eq_equiv (nat_eq page) (one_key page) other new held.entries (is_some (slot_in held page) old was)

  pub in_place : (to : Side) → side_of new ≡ to → FramesPage held (lru_cache (set_value (nat_eq page) held.entries new) held.cap) page to (uses_in held)
  in_place to is = record {
    elsewhere = record {
      others = λ other d. set_at other ∙ ap (λ (b : Bool). cond b (Some new) (lookup (nat_eq other) held.entries)) (eq_apart page other (λ e. d (sym e)));
      cap = refl;
    };
    here = and_some (lookup (nat_eq page) (set_value (nat_eq page) held.entries new)) new (λ slot. side_of slot ≡ to) (set_at page ∙ ap (λ (b : Bool). cond b (Some new) (lookup (nat_eq page) held.entries)) (eq_same page)) is;
    uses = ap reverse (keys-set_value (nat_eq page) held.entries new);
  }

  pub seen : side_in held page ≡ side_of old
  seen = ap side_seen was

-- A FRAME IS FREED
keys-remove : (page : ℕ) (es : List (ℕ × Slot)) → IsDistinct nat_eq (keys_of es) → keys_of (remove_entry (nat_eq page) es) ≡ filter (is_other page) (keys_of es)
keys-remove page [] d = refl
keys-remove page (e ∷ es) d =
    elim (eqb_tells page e.0) [
      | inl same ↦ rw (same.0, sym same.1) (rw (eq_same page)
          (sym (without_none page (keys_of es) (subst (λ (k : ℕ). AllByRecursion (λ y. nat_eq k y ≡ false) (keys_of es)) (sym same.1) (IsDistinct-head nat_eq e.0 (keys_of es) d)))))
      | inr apart ↦ rw (apart.0, eq_apart e.0 page (λ s. apart.1 (sym s)))
          (ap (λ (ks : List ℕ). e.0 ∷ ks) (keys-remove page es (IsDistinct-tail nat_eq e.0 (keys_of es) d)))
    ]

module _ (held : LruCache ℕ Slot) (page : ℕ) (distinct : IsDistinct nat_eq (keys_of held.entries)) where
  removed_at : (other : ℕ) → lookup (nat_eq other) (remove_entry (nat_eq page) held.entries) ≡ cond (nat_eq page other) None (lookup (nat_eq other) held.entries)
  removed_at other = lookup-remove_entry nat_eq_equiv (nat_eq page) (one_key page) other held.entries distinct

  removed_other : (other : ℕ) → other ≢ page → lookup (nat_eq other) (remove_entry (nat_eq page) held.entries) ≡ slot_in held other
  removed_other other d = removed_at other ∙ ap (λ (b : Bool). cond b None (lookup (nat_eq other) held.entries)) (eq_apart page other (λ e. d (sym e)))

  removed_uses : reverse (keys_of (remove_entry (nat_eq page) held.entries)) ≡ without page (uses_in held)
  removed_uses = ap reverse (keys-remove page held.entries distinct) ∙ sym (filter-reverse (is_other page) (keys_of held.entries))

  pub freed : FreesPage held (lru_cache (remove_entry (nat_eq page) held.entries) held.cap) page
  freed = record {
    elsewhere = record { others = removed_other; cap = refl };
    here = removed_at page ∙ ap (λ (b : Bool). cond b None (lookup (nat_eq page) held.entries)) (eq_same page);
    gone = removed_uses;
  }

  -- A PAGE IS USED
  first : (e : ℕ × Slot) → e.0 ≡ page → (to : Side) → side_of e.1 ≡ to → FramesPage held (lru_cache (e ∷ remove_entry (nat_eq page) held.entries) held.cap) page to (used_last page (uses_in held))
  first e key to is = record {
    elsewhere = record {
      others = λ other d. ap (λ (b : Bool). cond b (Some e.1) (lookup (nat_eq other) (remove_entry (nat_eq page) held.entries))) (eq_apart other e.0 (λ s. d (s ∙ key))) ∙ removed_other other d;
      cap = refl;
    };
    here = and_some (lookup (nat_eq page) (e ∷ remove_entry (nat_eq page) held.entries)) e.1 (λ slot. side_of slot ≡ to) (ap (λ (b : Bool). cond b (Some e.1) (lookup (nat_eq page) (remove_entry (nat_eq page) held.entries))) (ap (nat_eq page) key ∙ eq_same page)) is;
    uses = reverse_cons e.0 (keys_of (remove_entry (nat_eq page) held.entries)) ∙ ap (λ (k : ℕ). reverse (keys_of (remove_entry (nat_eq page) held.entries)) ++ k ∷ []) key ∙ ap (λ (us : List ℕ). us ++ page ∷ []) removed_uses;
  }

  used_as : (o : Option (ℕ × Slot)) → lookup_entry (nat_eq page) held.entries ≡ o → IsSome (slot_in held page) → FramesPage held (lru_cache (option_map_or (λ e. e ∷ remove_entry (nat_eq page) held.entries) o held.entries) held.cap) page (side_in held page) (used_last page (uses_in held))
  used_as None is some =
      let none : slot_in held page ≡ None = sym (lookup-lookup_entry (nat_eq page) held.entries) ∙ ap (option_map {T = ℕ × Slot} (λ e. e.1)) is in
      absurd (let s : IsSome {T = Slot} None = subst IsSome none some in let f : ⊥ = cc in f)
  used_as (Some e) is some =
      let at : slot_in held page ≡ Some e.1 = sym (lookup-lookup_entry (nat_eq page) held.entries) ∙ ap (option_map {T = ℕ × Slot} (λ e. e.1)) is in
      first e (sym (eq_from page e.0 (Contains-lookup_entry (nat_eq page) held.entries e is).1)) (side_in held page) (sym (ap side_seen at))

  pub used : IsSome (slot_in held page) → FramesPage held (lru_cache (promoted (nat_eq page) held.entries) held.cap) page (side_in held page) (used_last page (uses_in held))
  used some = used_as (lookup_entry (nat_eq page) held.entries) refl some

-- A FREE FRAME IS TAKEN
module _ (held : LruCache ℕ Slot) (page : ℕ) (slot : Slot) (absent : slot_in held page ≡ None) (room : length (uses_in held) < held.cap) where
  no_keys : (es : List (ℕ × Slot)) → NonePasses (nat_eq page) es → AllByRecursion (λ k. nat_eq page k ≡ false) (keys_of es)
  no_keys [] h = tt
  no_keys (e ∷ es) h = (h.0, no_keys es h.1)

  all_kept : take (held.cap - 1) held.entries ≡ held.entries
  all_kept = take_all (held.cap - 1) held.entries (let long : length (uses_in held) ≡ length held.entries = length-reverse (keys_of held.entries) ∙ length-keys_of held.entries in omega (arith, room, long))

  uses_kept : without page (uses_in held) ≡ uses_in held
  uses_kept = filter-reverse (is_other page) (keys_of held.entries) ∙ ap reverse (without_none page (keys_of held.entries) (no_keys held.entries (none_passes_from_lookup (nat_eq page) held.entries absent)))

  put_as : (o : Option (ℕ × Slot)) → lookup_entry (nat_eq page) held.entries ≡ o → option_map_or (λ e. (e.0, slot) ∷ remove_entry (nat_eq page) held.entries) o ((page, slot) ∷ take (held.cap - 1) held.entries) ≡ (page, slot) ∷ held.entries
  put_as None is = ap (λ (es : List (ℕ × Slot)). (page, slot) ∷ es) all_kept
  put_as (Some e) is =
      let some : slot_in held page ≡ Some e.1 = sym (lookup-lookup_entry (nat_eq page) held.entries) ∙ ap (option_map {T = ℕ × Slot} (λ e. e.1)) is in
      absurd (let no : ◌≡◌ {A = Option Slot} None (Some e.1) = sym absent ∙ some in let f : ⊥ = cc in f)

  put_is : put_entries nat_eq held page slot ≡ (page, slot) ∷ held.entries
  put_is = put_as (lookup_entry (nat_eq page) held.entries) refl

  added : FramesPage held (lru_cache ((page, slot) ∷ held.entries) held.cap) page (side_of slot) (used_last page (uses_in held))
  added = record {
    elsewhere = record {
      others = λ other d. ap (λ (b : Bool). cond b (Some slot) (lookup (nat_eq other) held.entries)) (eq_apart other page d);
      cap = refl;
    };
    here = and_some (lookup (nat_eq page) ((page, slot) ∷ held.entries)) slot (λ s. side_of s ≡ side_of slot) (ap (λ (b : Bool). cond b (Some slot) (lookup (nat_eq page) held.entries)) (eq_same page)) refl;
    uses = reverse_cons page (keys_of held.entries) ∙ ap (λ (us : List ℕ). us ++ page ∷ []) (sym uses_kept);
  }

  pub filled : (new : LruCache ℕ Slot) → new ≡ lru_cache (put_entries nat_eq held page slot) held.cap → FramesPage held new page (side_of slot) (used_last page (uses_in held))
  filled new is = subst (λ (n : LruCache ℕ Slot). FramesPage held n page (side_of slot) (used_last page (uses_in held))) (sym (is ∙ ap (λ (es : List (ℕ × Slot)). lru_cache es held.cap) put_is)) added
