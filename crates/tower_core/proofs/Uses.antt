-- No two pages of a node were last used at one place, so one page is the least recently used.
use Rattle.std.proofs.Common.{◌≡◌, ◌≢◌, ℕ, ◌+◌, ◌<◌, ◌≤◌, ◌⊎◌, inl, inr, sym, ◌∙◌, ap, refl, arith, Bool, true, false, cond, eqb, List, [], ◌∷◌}
use Rattle.std.specs.List.{fold}
use Rattle.std.proofs.lemmas.Bool.{false≢true, eqb-true, eq-eqb}
use Rattle.hist_plain.specs.declared.event.Event.{Event}
use Rattle.hist_plain.specs.declared.event.Op.{Op}
use Rattle.tower_core.specs.declared.right.Right.{Right}
use Rattle.tower_core.specs.declared.step.Step.{Step}
use Rattle.tower_core.specs.declared.step.Step.TheVariants.{Untouched, Reads, Writes, Grants, PagesOut, Denies, Pushes, Flushes, Deletes}
use Rattle.tower_core.specs.TreeShape.{TreeShape, IsTree}
use Rattle.tower_core.specs.Column.{is_use}
use Rattle.tower_core.specs.Trail.{State, state_after, state_of, start, of_page, step_of, step_of_access, holds, IsAllowed, IsOldest, IsRun}
use Rattle.tower_core.proofs.Ranks.{same_or_not}
use Rattle.tower_core.proofs.Trails.{on_each_page, start_nothing}
use Rattle.tower_core.proofs.Frames.{no_gain}

true_or_false : (b : Bool) → (b ≡ true) ⊎ (b ≡ false)
true_or_false true = inl refl
true_or_false false = inr refl

-- an event that uses a page is of that page

used_page : (node page p : ℕ) (step : Step) → is_use node (of_page page p step) ≡ true → page ≡ p
used_page node page p step h = elim (true_or_false (eqb p page)) [
  | inl same ↦ sym (eqb-true p page same)
  | inr other ↦ absurd (false≢true (rw other at h))
]

-- two pages are not both used by one event
abbrev UsesOne : ℕ → ℕ → ℕ → (ℕ → Step) → Type 0
UsesOne node a b steps = is_use node (steps a) ≡ true → is_use node (steps b) ≡ true → a ≡ b

one_page : (node a b p : ℕ) (step : Step) → UsesOne node a b (λ page. of_page page p step)
one_page node a b p step ha hb = used_page node a p step ha ∙ sym (used_page node b p step hb)

one_access : (node a b n : ℕ) (op : Op) → UsesOne node a b (λ page. step_of_access page n op)
one_access node a b n (Op.Read p off len) ha hb = one_page node a b p (Reads n) ha hb
one_access node a b n (Op.Write p off bytes) ha hb = one_page node a b p (Writes n) ha hb
one_access node a b n (Op.Clear p) ha hb = one_page node a b p (Writes n) ha hb
one_access node a b n Op.Open ha hb = absurd (false≢true ha)

one_use : (life : ℕ → ℕ) (node a b : ℕ) (event : Event) → UsesOne node a b (λ page. step_of life page event)
one_use life node a b (Event.Access caller number n l op) = by_life (eqb l (life n))
  where
    by_life : (c : Bool) → UsesOne node a b (λ page. cond c (step_of_access page n op) Untouched)
    by_life true ha hb = one_access node a b n op ha hb
    by_life false ha hb = absurd (false≢true ha)
one_use life node a b (Event.PageIn n p write) = one_page node a b p (Grants n write)
one_use life node a b (Event.ZeroFill n p write) = one_page node a b p (Grants n write)
one_use life node a b (Event.PageOut n p) = one_page node a b p (PagesOut n)
one_use life node a b (Event.WriteOut n p) = one_page node a b p (Denies n)
one_use life node a b (Event.SyncOut n p) = one_page node a b p (Pushes n)
one_use life node a b (Event.FlushBack n p) = one_page node a b p (Flushes n)
one_use life node a b (Event.DenyWrites n p) = one_page node a b p (Denies n)
one_use life node a b (Event.WriteBack n p) = one_page node a b p (Pushes n)
one_use life node a b (Event.DeleteRange n p) = one_page node a b p (Deletes n)
one_use life node a b (Event.DestroyCache caller number n) = λ ha hb. absurd (false≢true ha)
one_use life node a b (Event.DonePager caller number n) = λ ha hb. absurd (false≢true ha)
one_use life node a b (Event.Synced caller number n from keep) = λ ha hb. absurd (false≢true ha)

-- uses lie in the past, no two pages share one, and a held page was used
record AreApart (s : State) : Type 0 where
  past : (page node : ℕ) → s.used page node ≤ s.len
  apart : (a b node : ℕ) → a ≢ b → s.used a node ≡ s.used b node → s.used a node ≡ 0
  held : (page node : ℕ) → 0 < node → holds ((s.column page).right node) ≡ true → 0 < s.used page node

-- the numbers after an event, by whether it uses the page

past_after : (b : Bool) (len used : ℕ) → used ≤ len → cond b (len + 1) used ≤ len + 1
past_after true len used h = omega arith
past_after false len used h = omega arith

apart_after : (x y : Bool) (len a b : ℕ) → (x ≡ true → y ≡ true → ⊥) → a ≤ len → b ≤ len → (a ≡ b → a ≡ 0) → cond x (len + 1) a ≡ cond y (len + 1) b → cond x (len + 1) a ≡ 0
apart_after true true len a b both ha hb old e = absurd (both refl refl)
apart_after true false len a b both ha hb old e = absurd (omega (arith, e))
apart_after false true len a b both ha hb old e = absurd (omega (arith, e))
apart_after false false len a b both ha hb old e = old e

some_after : (b : Bool) (len used : ℕ) → (b ≡ false → 0 < used) → 0 < cond b (len + 1) used
some_after true len used h = omega arith
some_after false len used h = h refl

-- what is no use is no grant
no_grant : (node : ℕ) (step : Step) → is_use node step ≡ false → (write : Bool) → step ≢ Grants node write
no_grant node step h write e = false≢true (sym h ∙ ap (is_use node) e ∙ eq-eqb node node refl)

apart_event : (shape : TreeShape) (pages : ℕ) (s : State) (event : Event) → IsTree shape → AreApart s → IsAllowed shape pages s event → AreApart (state_after shape s event)
apart_event shape pages s event tree before ok = record {
  past = λ page node. past_after (is_use node (step_of s.life page event)) s.len (s.used page node) (before.past page node);
  apart = λ a b node d. apart_after (is_use node (step_of s.life a event)) (is_use node (step_of s.life b event)) s.len (s.used a node) (s.used b node)
      (λ ha hb. d (one_use s.life node a b event ha hb)) (before.past a node) (before.past b node) (before.apart a b node d);
  held = λ page node above h. some_after (is_use node (step_of s.life page event)) s.len (s.used page node)
      (λ unused. before.held page node above (no_gain shape (s.column page) (step_of s.life page event) node
      (on_each_page shape pages s event tree ok.upper ok.line page).1 (no_grant node (step_of s.life page event) unused) h));
}

apart_start : AreApart start
apart_start = record {
  past = λ page node. omega arith;
  apart = λ a b node d e. refl;
  held = λ page node above h. absurd (false≢true (sym (ap holds (start_nothing node above)) ∙ h));
}

apart_run : (shape : TreeShape) (pages : ℕ) (s : State) (trail : List Event) → IsTree shape → AreApart s → IsRun shape pages s trail → AreApart (fold (state_after shape) s trail)
apart_run shape pages s [] tree before run = before
apart_run shape pages s (event ∷ events) tree before run = apart_run shape pages (state_after shape s event) events tree (apart_event shape pages s event tree before run.0) run.1

held_flag : (r : Right) → r ≢ Right.Nothing → holds r ≡ true
held_flag Right.Nothing d = absurd (d refl)
held_flag Right.Read d = refl
held_flag Right.Write d = refl

-- ONE PAGE IS THE LEAST RECENTLY USED
pub oldest_one : (shape : TreeShape) (pages : ℕ) (trail : List Event) → IsTree shape → IsRun shape pages start trail → (node a b : ℕ) → 0 < node → IsOldest pages (state_of shape trail) node a → IsOldest pages (state_of shape trail) node b → a ≡ b
oldest_one shape pages trail tree run node a b above fa fb =
    let s = state_of shape trail in
    let uses = apart_run shape pages start trail tree apart_start run in
    elim (same_or_not a b) [
      | inl same ↦ same
      | inr d ↦
          let equal : s.used a node ≡ s.used b node = omega (arith, fa.first b fb.inside fb.held, fb.first a fa.inside fa.held) in
          absurd (omega (arith, uses.apart a b node d equal, uses.held a node above (held_flag ((s.column a).right node) fa.held)))
    ]
