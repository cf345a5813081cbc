-- What the steps tell, in the words of the seats' contracts.
use Rattle.std.proofs.Common.{◌≡◌, ℕ, true, false, List, [], ◌∷◌, length, Option, Some, None, refl, sym, ap, subst, ◌∙◌}
use Rattle.atomic_table.specs.Table.{step, rest, Final, Seen}
use Rattle.atomic_table.specs.Seated.{TableId}
use Rattle.hist_lock.specs.declared.view.View.{View}
use Rattle.hist_lock.specs.declared.view.Stage.{Stage}
use Rattle.hist_lock.specs.declared.view.Stage.TheVariants.{Idle, Waits, Holds, Noted, Met}
use mathlib.Core.Option.{some, none, some-injective}
use lib.ListN.{get_elem?}
use Rattle.hist_lock.specs.declared.view.Deed.{Deed}
use Rattle.hist_lock.proofs.RuleLemmas.{closes}
use Rattle.hist_lock.specs.Ranges.{in_range, Follows, Grows, Added}
use Rattle.hist_lock.specs.Rule.{Kept, has_slot, number, own}
use Rattle.hist_lock.specs.Steps.{Mine, Settles, both, waiting, with_seen, Takes}
use Rattle.hist_lock.specs.Known.{Lock, Known, Rests, known, is_own}

same_head : {A : Type 0} (a b : A) (xs ys : List A) → a ∷ xs ≡ b ∷ ys → a ≡ b
same_head a b xs ys e = cc e

pub some_is : {A : Type 0} (a b : A) → Some a ≡ Some b → a ≡ b
some_is a b e = cc e

same_some : {A : Type 0} (a b : A) → Some a ≡ Some b → a ≡ b
same_some a b e = cc e

-- a slot has one value
pub same_slot : {T : Type 0} (x y : T) (xs ys : List (ℕ × Option T)) → (0, Some x) ∷ xs ≡ (0, Some y) ∷ ys → x ≡ y
same_slot x y xs ys e = same_some x y (ap (λ p. p.1) (same_head (0, Some x) (0, Some y) xs ys e))

module _ {T E : Type 0} where
  pub rests_idle : (g : Stage E) (c : List (ℕ × Option T)) → has_slot g ≡ false → Rests g c → (g ≡ Idle) × (c ≡ [])
  rests_idle Idle c e r = (refl, r)
  rests_idle (Waits t) c e r = absurd r
  rests_idle (Holds t) c e r = absurd (cc e)
  rests_idle (Noted t) c e r = absurd r
  rests_idle (Met at xs ys) c e r = absurd r

  pub rests_holding : (g : Stage E) (c : List (ℕ × Option T)) → has_slot g ≡ true → Rests g c → (t : ℕ) × (g ≡ Holds t) × (c ≡ (0, None) ∷ [])
  rests_holding Idle c e r = absurd (cc e)
  rests_holding (Waits t) c e r = absurd r
  rests_holding (Holds t) c e r = (t, refl, r)
  rests_holding (Noted t) c e r = absurd r
  rests_holding (Met at xs ys) c e r = absurd r

module _ {T E F : Type 0} (entries : T → List E) (caller : E → Option ℕ) (fixed : T → F) where
  -- the value that was taken begins with what the seat knew
  pub took : (z : TableId) (s : Known E F) (m m' m'' : Mine T E F) (t : ℕ) (y : T) → known z m.0 ≡ s
      → m' ≡ (waiting m.0 t, m.1) → Takes entries caller fixed m' t m'' → m''.1 ≡ (0, Some y) ∷ rest m''.1
      → Follows (is_own caller s) s.seen (entries y)
  took z s m m' m'' t y is drew takes there =
      let x : T = takes.0 in
      let list = ap (λ (k : Mine T E F). k.1) takes.1 in
      let same : x ≡ y = same_slot x y m'.1 (rest m''.1) (sym list ∙ there) in
      let P : Known E F → Type 0 = λ k. Follows (is_own caller k) k.seen (entries y) in
      let Q : Mine T E F → Type 0 = λ k. Follows (own caller k.0) k.0.seen (entries x) in
      let R : T → Type 0 = λ k. Follows (own caller m.0) m.0.seen (entries k) in
      subst P is (subst R same (subst Q drew takes.2))

  -- the seat that took the value may note another
  pub may_note : (z : TableId) (s : Known E F) (v : View E F) (c : List (ℕ × Option T)) (y : T) → known z v ≡ s → s.taken ≡ true → Rests v.stage c → Grows caller s.first s.end s.seen (entries y)
      → ((t : ℕ) × (v.stage ≡ Holds t)) × Grows caller v.first v.end v.seen (entries y) × (c ≡ (0, None) ∷ [])
  may_note z s v c y is taken rests grows =
      let h = rests_holding v.stage c (ap (λ (k : Known E F). k.taken) is ∙ taken) rests in
      let P : Known E F → Type 0 = λ k. Grows caller k.first k.end k.seen (entries y) in
      ((h.0, h.1), subst P (sym is) grows, h.2)

  -- after the note and the exchange the turn may be passed on
  pub may_pass : (z : TableId) (s : Known E F) (v : View E F) (c : List (ℕ × Option T)) (m m' : Mine T E F) (y : T) (p : F) → known z v ≡ s → s.taken ≡ true → Rests v.stage c → s.part ≡ Some p → fixed y ≡ p
      → m ≡ (with_seen v (entries y) (Noted (number v.stage)), c) → m' ≡ (m.0, (0, Some y) ∷ rest m.1)
      → (t : ℕ) × (m'.0.stage ≡ Noted t) × (m'.1 ≡ (0, Some y) ∷ []) × (entries y ≡ m'.0.seen) × (m'.0.fixed ≡ Some (fixed y))
  may_pass z s v c m m' y p is taken rests part part_is noted now =
      let h = rests_holding v.stage c (ap (λ (k : Known E F). k.taken) is ∙ taken) rests in
      let view : m'.0 ≡ with_seen v (entries y) (Noted (number v.stage)) = ap (λ (k : Mine T E F). k.0) now ∙ ap (λ (k : Mine T E F). k.0) noted in (
        number v.stage,
        ap (λ (k : View E F). k.stage) view,
        ap (λ (k : Mine T E F). k.1) now ∙ ap (λ l. (0, Some y) ∷ rest l) (ap (λ (k : Mine T E F). k.1) noted ∙ h.2),
        sym (ap (λ (k : View E F). k.seen) view),
        ap (λ (k : View E F). k.fixed) view ∙ (ap (λ (k : Known E F). k.part) is ∙ (part ∙ ap Some (sym part_is))),
      )

  -- with the seat of the whole range at rest, the slot's value has the list that the seat knows
  pub closing : (d : Deed T) (i : ℕ) (z z' : TableId) (l : Lock T E F) (s : Known E F) (m : Mine T E F) (ws : List ℕ) (xs : List (Option T)) (o : Option T)
      → record { name = z; value = d.value.value; began = entries d.value.value; first = d.first; end = d.end; part = fixed d.value.value } ≡ l → known z' m.0 ≡ s → s.taken ≡ false → Rests m.0.stage m.1
      → s.first ≡ l.first → s.end ≡ l.end → length xs ≡ 1 → Final (Seen (Kept entries caller fixed d) i m.0) ws xs → get_elem? xs 0 ≡ some o
      → (x : T) × (o ≡ Some x) × (entries x ≡ s.seen) × Added caller l.first l.end l.began (entries x) × (fixed x ≡ l.part) × (s.took ≡ false → x ≡ l.value)
  closing d i z z' l s m ws xs o lock is free rests first end one fin there =
      let idle = rests_idle m.0.stage m.1 (ap (λ (k : Known E F). k.taken) is ∙ free) rests in
      let c = closes entries caller fixed d i m.0 ws xs idle.0
      (ap (λ (k : Known E F). k.first) is ∙ (first ∙ sym (ap (λ (k : Lock T E F). k.first) lock))) (ap (λ (k : Known E F). k.end) is ∙ (end ∙ sym (ap (λ (k : Lock T E F). k.end) lock))) one fin in
      let P : Lock T E F → Type 0 = λ k. Added caller k.first k.end k.began (entries c.0) in
      (c.0, some-injective o (Some c.0) (sym there ∙ c.1), c.2 ∙ ap (λ (k : Known E F). k.seen) is, subst P lock c.4, c.3 ∙ ap (λ (k : Lock T E F). k.part) lock, (λ quiet. c.5 (ap (λ (k : Known E F). k.took) is ∙ quiet) ∙ ap (λ (k : Lock T E F). k.value) lock))

  follows_at : (a a' b b' : ℕ) (xs xs' l l' : List E) → a ≡ a' → b ≡ b' → xs ≡ xs' → l ≡ l' → Follows (λ e. in_range a b (caller e)) xs l → Follows (λ e. in_range a' b' (caller e)) xs' l'
  follows_at a a' b b' xs xs' l l' ea eb ex el f =
      let A : ℕ → Type 0 = λ k. Follows (λ e. in_range k b (caller e)) xs l in
      let B : ℕ → Type 0 = λ k. Follows (λ e. in_range a' k (caller e)) xs l in
      let X : List E → Type 0 = λ k. Follows (λ e. in_range a' b' (caller e)) k l in
      let L : List E → Type 0 = λ k. Follows (λ e. in_range a' b' (caller e)) xs' k in
      subst L el (subst X ex (subst B eb (subst A ea f)))

  same_met : (a b : ℕ) (xs ys xs' ys' : List E) → Met a xs ys ≡ Met b xs' ys' → (a ≡ b) × (xs ≡ xs') × (ys ≡ ys')
  same_met a b xs ys xs' ys' e = (cc e, cc e, cc e)

  -- what the met seat knows begins with what both knew, and has none of their callers' entries after it
  pub met : (z z' : TableId) (s t : Known E F) (v w : View E F) (c : List (ℕ × Option T)) (m m' : Mine T E F) → known z v ≡ s → known z' w ≡ t → s.end ≡ t.first
      → m ≡ (both v w, c) → Settles caller (step 0 0 0 0 none) m 0 m'
      → Follows (is_own caller s) s.seen m'.0.seen × Follows (is_own caller t) t.seen m'.0.seen
  met z z' s t v w c m m' is is' next now settles =
      let k = settles.1 in
      let stage = same_met k.0 v.end k.1 k.2 v.seen w.seen (sym k.3 ∙ ap (λ (x : Mine T E F). x.0.stage) now) in
      let seen : m.0.seen ≡ m'.0.seen = sym (ap (λ (x : Mine T E F). x.0.seen) settles.0) in
      let end : v.end ≡ s.end = ap (λ (x : Known E F). x.end) is in (
        follows_at m.0.first s.first k.0 s.end k.1 s.seen m.0.seen m'.0.seen (ap (λ (x : Mine T E F). x.0.first) now ∙ ap (λ (x : Known E F). x.first) is) (stage.0 ∙ end) (stage.1 ∙ ap (λ (x : Known E F). x.seen) is) seen k.4,
        follows_at k.0 t.first m.0.end t.end k.2 t.seen m.0.seen m'.0.seen (stage.0 ∙ (end ∙ next)) (ap (λ (x : Mine T E F). x.0.end) now ∙ ap (λ (x : Known E F). x.end) is') (stage.2 ∙ ap (λ (x : Known E F). x.seen) is') seen k.5,
      )
