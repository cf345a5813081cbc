-- A disk alone as a ground: what one call of it and two in turn keep, by what the disk itself keeps.
use Rattle.std.proofs.Common.{◌≡◌, ◌⊎◌, inl, inr, ℕ, suc, ◌≤◌, ◌==◌, cond, Bool, true, false, List, [], ◌∷◌, Option, Some, None, zero, refl, sym, ap, subst, ◌∙◌, arith}
use Rattle.std.specs.Prelude.{Contains, is_some}
use Rattle.std.specs.Option.{option_map}
use Rattle.std.proofs.lemmas.Bool.{eq-eqb}
use Rattle.page_ground.specs.Seen.{AllKept, Are, Imaged, IsCalm, Keeps, KeptAt, Seen, Turns, faults_in, held_in, is_up_in, kept_in, live_in, opened_in, pages_in}
use Rattle.spr_io.specs.Content.{Content}
use Rattle.disk_layer.specs.Disk.{Disk, HasImage, held_on, kept_on, pages_on, seen_of, settled}
use Rattle.mirror_rules.specs.Tree.{limit, next}
use Rattle.mirror_layer.specs.Ground.{due_of}
use Rattle.file_stores.specs.WholeDisk.{Alone, seen_whole}

-- TWO CALLS that change no page, in turn
some-same : (x y : Imaged) → ◌≡◌ {A = Option Imaged} (Some x) (Some y) → x ≡ y
some-same x y e = cc

kept-moved : (a b : Option (Option Imaged)) (pages : Option (List (List ℕ))) → pages_in b ≡ pages_in a → KeptAt a pages → KeptAt b pages
kept-moved None None pages e k = tt
kept-moved None (Some j) pages e k = cc
kept-moved (Some i) None pages e k = tt
kept-moved (Some i) (Some j) None e k = tt
kept-moved (Some i) (Some j) (Some ps) e k = same (option_map {T = Imaged} (λ v. v.pages) i) (option_map {T = Imaged} (λ v. v.pages) j) e ∙ k
  where
    same : (x y : Option (List (List ℕ))) → ◌≡◌ {A = Option (Option (List (List ℕ)))} (Some y) (Some x) → y ≡ x
    same x y q = cc

module _ (a b c : Seen) (p : Keeps a b) (q : Keeps b c) (first : b.pages ≡ a.pages) (last : c.pages ≡ b.pages) where
  of-first : (held holds : Option Imaged) → Turns b.pages c.pages held holds → Turns a.pages c.pages held holds
  of-first held holds t = record { old = t.old; new = t.new; was = t.was; is = t.is; later = t.later; pages = elim t.pages [ inl x ↦ inl (subst (λ (o : Option (List (List ℕ))). Are o t.new.pages) first x) | inr x ↦ inr x ] }

  of-last : (held holds : Option Imaged) → Turns a.pages b.pages held holds → Turns a.pages c.pages held holds
  of-last held holds t = record { old = t.old; new = t.new; was = t.was; is = t.is; later = t.later; pages = elim t.pages [ inl x ↦ inl x | inr x ↦ inr (subst (λ (o : Option (List (List ℕ))). Are o t.new.pages) (sym last) x) ] }

  turned : (d : ℕ) → (held_in c.disks d ≡ held_in a.disks d) ⊎ Turns a.pages c.pages (held_in a.disks d) (held_in c.disks d)
  turned d = elim (p.turned d) [
    | inl e ↦ elim (q.turned d) [
      | inl f ↦ inl (f ∙ e)
      | inr t ↦ inr (subst (λ (o : Option Imaged). Turns a.pages c.pages o (held_in c.disks d)) e (of-first (held_in b.disks d) (held_in c.disks d) t))
    ]
    | inr s ↦ elim (q.turned d) [
      | inl f ↦ inr (subst (λ (o : Option Imaged). Turns a.pages c.pages (held_in a.disks d) o) (sym f) (of-last (held_in a.disks d) (held_in b.disks d) s))
      | inr t ↦
          let u = of-first (held_in b.disks d) (held_in c.disks d) t in
          let same = some-same s.new u.old (sym s.is ∙ u.was) in
          let up : s.new.generation ≡ u.old.generation = ap (λ (i : Imaged). i.generation) same in
          inr (record { old = s.old; new = u.new; was = s.was; is = u.is; later = omega (arith, s.later, u.later, up); pages = u.pages })
    ]
  ]

  kept : (d : ℕ) → Contains (live_in c.disks) d → (pages_in (kept_in c.disks d) ≡ pages_in (kept_in a.disks d)) ⊎ KeptAt (kept_in c.disks d) a.pages
  kept d live = elim (q.kept d live) [
    | inl e ↦ elim (p.kept d (q.live d live)) [
      | inl f ↦ inl (e ∙ f)
      | inr k ↦ inr (kept-moved (kept_in b.disks d) (kept_in c.disks d) a.pages e k)
    ]
    | inr k ↦ inr (subst (λ (o : Option (List (List ℕ))). KeptAt (kept_in c.disks d) o) first k)
  ]

  pub keeps-then : Keeps a c
  keeps-then = record {
    same_size = q.same_size ∙ p.same_size;
    same_number = q.same_number ∙ p.same_number;
    many = q.many;
    same_disks = q.same_disks ∙ p.same_disks;
    same_told = λ d. q.same_told d ∙ p.same_told d;
    kept = kept;
    same_up = λ d. q.same_up d ∙ p.same_up d;
    turned = turned;
    live = λ d live. p.live d (q.live d live);
    some = q.some;
    lost = λ d live. elim (p.lost d live) [
      | inl still ↦ elim (q.lost d still) [ inl stays ↦ inl stays | inr up ↦ inr (omega (arith, p.later d, up)) ]
      | inr up ↦ inr (omega (arith, up, q.later d))
    ];
    later = λ d. omega (arith, p.later d, q.later d);
    same_opened = λ d. q.same_opened d ∙ p.same_opened d;
    since = p.since;
    aside = λ d down. q.aside d (p.same_up d ∙ down) ∙ p.aside d down;
    level = omega (arith, p.level, q.level);
    due = omega (arith, p.due, q.due);
  }

-- THE SAME OF A DISK that is told with all that its store holds
once : {A : Type 0} (t : Bool) (x y z w : A) → cond t x (cond t y (cond t z w)) ≡ cond t x w
once true x y z w = refl
once false x y z w = refl

module _ (a b : Alone) (k : Keeps (seen_of a.disk) (seen_of b.disk)) where
  kept-whole : (c : Alone) (n : ℕ) → kept_in (seen_whole c).disks n ≡ kept_in (seen_of c.disk).disks n
  kept-whole c n = once (n == c.disk.disk) (kept_on c.disk) _ _ None

  pub whole-keeps : a.generation ≤ b.generation → due_of a.owed a.generation ≤ due_of b.owed b.generation → Keeps (seen_whole a) (seen_whole b)
  whole-keeps level due = record {
    same_size = k.same_size;
    same_number = k.same_number;
    many = k.many;
    same_disks = let e = head-same k.same_disks in λ i. e i ∷ e i ∷ e i ∷ [];
    same_told = λ n. ap (λ (o : Option (Option Imaged)). is_some o) (kept-whole b n) ∙ (k.same_told n ∙ ap (λ (o : Option (Option Imaged)). is_some o) (sym (kept-whole a n)));
    kept = λ n live. elim (k.kept n live) [
      | inl e ↦ inl (ap pages_in (kept-whole b n) ∙ (e ∙ ap pages_in (sym (kept-whole a n))))
      | inr q ↦ inr (subst (λ (o : Option (Option Imaged)). KeptAt o (pages_on a.disk)) (sym (kept-whole b n)) q)
    ];
    same_up = λ n. up-whole b n ∙ (k.same_up n ∙ sym (up-whole a n));
    turned = λ n. subst (λ (o : Option Imaged). (held_in (seen_whole b).disks n ≡ o) ⊎ Turns (pages_on a.disk) (pages_on b.disk) o (held_in (seen_whole b).disks n)) (sym (held-whole a n))
        (subst (λ (o : Option Imaged). (o ≡ held_in (seen_of a.disk).disks n) ⊎ Turns (pages_on a.disk) (pages_on b.disk) (held_in (seen_of a.disk).disks n) o) (sym (held-whole b n)) (k.turned n));
    live = k.live;
    some = k.some;
    lost = λ n live. elim (k.lost n live) [ inl still ↦ inl still | inr up ↦ inr (omega (arith, up, faults-whole a n, faults-whole b n)) ];
    later = λ n. omega (arith, k.later n, faults-whole a n, faults-whole b n);
    same_opened = λ n. opened-whole b n ∙ (k.same_opened n ∙ sym (opened-whole a n));
    since = λ n. omega (arith, k.since n, faults-whole a n, opened-whole a n);
    aside = λ n down. held-whole b n ∙ (k.aside n (sym (up-whole a n) ∙ down) ∙ sym (held-whole a n));
    level = level;
    due = due;
  }
    where
      head-same : b.disk.disk ∷ [] ≡ a.disk.disk ∷ [] → b.disk.disk ≡ a.disk.disk
      head-same e = cc

      up-whole : (c : Alone) (n : ℕ) → is_up_in (seen_whole c).disks n ≡ is_up_in (seen_of c.disk).disks n
      up-whole c n = once (n == c.disk.disk) true false false false

      held-whole : (c : Alone) (n : ℕ) → held_in (seen_whole c).disks n ≡ held_in (seen_of c.disk).disks n
      held-whole c n = once (n == c.disk.disk) (held_on c.disk) None None None

      faults-whole : (c : Alone) (n : ℕ) → faults_in (seen_whole c).disks n ≡ faults_in (seen_of c.disk).disks n
      faults-whole c n = once (n == c.disk.disk) c.disk.faults c.disk.faults c.disk.faults 0

      opened-whole : (c : Alone) (n : ℕ) → opened_in (seen_whole c).disks n ≡ opened_in (seen_of c.disk).disks n
      opened-whole c n = once (n == c.disk.disk) c.disk.opened c.disk.opened c.disk.opened 0

-- A DISK WHOSE STORE WAS FLUSHED kept the pages that it has
pub settled-kept : (d : Disk) → HasImage (settled d) → KeptAt (kept_on (settled d)) (pages_on (settled d))
settled-kept d has = of-content d.content has
  where
    of-content : (o : Option Content) → HasImage (settled (record d { content = o })) → KeptAt (kept_on (settled (record d { content = o }))) (pages_on (settled (record d { content = o })))
    of-content None h = tt
    of-content (Some c) h = ap (λ (i : Option Imaged). option_map {T = Imaged} (λ v. v.pages) i) h

-- and so all is kept, if nothing is owed any more
module _ (a : Alone) (paid : a.owed ≡ false) (kept : KeptAt (kept_on a.disk) (pages_on a.disk)) where
  is-here : (d : ℕ) → Contains (live_in (seen_whole a).disks) d → d ≡ a.disk.disk
  is-here d (zero, lt, is) = sym is
  is-here d (suc n, lt, is) = absurd (omega (arith, lt))

  up-here : (d : ℕ) → is_up_in (seen_whole a).disks d ≡ true → (d == a.disk.disk) ≡ true
  up-here d up = go (d == a.disk.disk) up
    where
      go : (t : Bool) → cond t true (cond t false (cond t false false)) ≡ true → t ≡ true
      go true e = refl
      go false e = e

  held-here : (d : ℕ) → is_up_in (seen_whole a).disks d ≡ true → (j : Imaged) → held_in (seen_whole a).disks d ≡ Some j → Are (pages_on a.disk) j.pages
  held-here d up j e = of-pages (pages_on a.disk) (sym (ap (λ t. cond t (held_on a.disk) (cond t None (cond t None None))) (up-here d up)) ∙ e)
    where
      of-pages : (o : Option (List (List ℕ))) → option_map {T = List (List ℕ)} (λ ps. let image : Imaged = record { generation = a.disk.generation; pages = ps } in image) o ≡ Some j → Are o j.pages
      of-pages None q = tt
      of-pages (Some ps) q = ap (λ (i : Imaged). i.pages) (sym (some-same (record { generation = a.disk.generation; pages = ps }) j q))

  pub all-kept : AllKept (seen_whole a) (pages_on a.disk)
  all-kept = record {
    kept = λ d live. rw (eq-eqb d a.disk.disk (is-here d live)) kept;
    behind = λ disk other i j live up i_is j_is. inl (held-here other up j j_is);
    paid = rw paid (omega arith);
  }

-- WHAT IS OWED IS PAID: the rest is as it was
pub settles : (a c : Alone) → Keeps (seen_whole a) (seen_whole c) → due_of a.owed a.generation ≤ c.generation → Keeps (seen_whole a) (seen_whole (record c { owed = false }))
settles a c k due = record {
  same_size = k.same_size;
  same_number = k.same_number;
  many = k.many;
  same_disks = k.same_disks;
  same_told = k.same_told;
  kept = k.kept;
  same_up = k.same_up;
  turned = k.turned;
  live = k.live;
  some = k.some;
  lost = k.lost;
  later = k.later;
  same_opened = k.same_opened;
  since = k.since;
  aside = k.aside;
  level = k.level;
  due = due;
}

two-pay : (g : ℕ) → g ≤ limit → due_of true g ≤ next (next g)
two-pay g low = omega (arith, low)

-- TWO RAISES in turn, and what was owed is paid
module _ (a b c : Alone) (first : b.owed ≡ a.owed) (number : b.generation ≡ next a.generation) (last : c.generation ≡ next b.generation) (p : Keeps (seen_whole a) (seen_whole b)) (q : Keeps (seen_whole b) (seen_whole c)) (same : pages_on b.disk ≡ pages_on a.disk)
    (still : pages_on c.disk ≡ pages_on b.disk) where
  pub raised-twice : a.owed ≡ true → a.generation ≤ limit → (e : Alone) → e ≡ c → Keeps (seen_whole a) (seen_whole (record e { owed = false }))
  raised-twice owed low e is =
      let due : due_of a.owed a.generation ≤ c.generation = rw owed (rw last (rw number (two-pay a.generation low))) in
      subst (λ (x : Alone). Keeps (seen_whole a) (seen_whole (record x { owed = false }))) (sym is) (settles a c (keeps-then (seen_whole a) (seen_whole b) (seen_whole c) p q same still) due)

-- a call in which the store's count of faults stays
pub calm-whole : (a c : Alone) → c.disk.disk ≡ a.disk.disk → c.disk.faults ≡ a.disk.faults → IsCalm (seen_whole a) (seen_whole c)
calm-whole a c number count = record { disk = c.disk.disk; live = (0, omega arith, refl); same = rw number (rw (eq-eqb a.disk.disk a.disk.disk refl) count) }
