-- Page messages that are needed: those of a try, and one stretch of a log after another.
use Rattle.std.proofs.Common.{◌≡◌, ℕ, ◌<◌, ◌≤◌, ◌==◌, ◌&&◌, Bool, true, false, List, [], ◌∷◌, ◌++◌, Some, None, IsTrue, refl, sym, ap, subst, ◌∙◌, arith, append_assoc, append-nil}
use Rattle.std.proofs.lemmas.Bool.Decides.{nat_tests}
use Rattle.hist_plain.specs.declared.event.Event.{Event}
use Rattle.hist_plain.specs.declared.event.Event.TheVariants as events
use Rattle.hist_plain.specs.declared.event.Keep.{Keep}
use Rattle.hist_plain.specs.declared.event.Op.{Op}
use Rattle.hist_plain.specs.declared.event.Op.TheVariants as ops
use Rattle.hist_plain.specs.Event.{caller_of, fits_page, page_of_op}
use Rattle.tower_core.specs.TreeShape.{IsUpper, TreeShape}
use Rattle.tower_log.specs.declared.logged.Logged.{Logged}
use Rattle.tower_log.specs.declared.logged.Logged.TheVariants.{Entered, Noted}
use Rattle.tower_log.specs.Log.{place_of, trail_of}
use Rattle.tower_plan.specs.Plan.{IsNext as IsNextOfPlan}
use Rattle.stack_engine.specs.Engine.{EngineSeen, events_in, file_in, log_in, state_in, tree_in}
use Rattle.stack_engine.specs.Messages.{IsPageMessage}
use Rattle.stack_engine.specs.Moves.{FindsZeros, StandsFor}
use Rattle.stack_engine.specs.Ends.{Drains}
use Rattle.stack_engine.specs.Tower.{Settles, Steps, TowerSeen}
use Rattle.stack_engine.specs.Turns.{pushed_as}
use Rattle.spr_volume.specs.Needed.{AreNeeded, ForAccess, ForEnd, ForSync, IsForCall, as_planned}

-- ONE STRETCH OF A LOG AFTER ANOTHER
pub needed_on : (tree : TreeShape) (pages : ℕ) (before : List Event) (xs ys : List Logged) → AreNeeded tree pages before xs → AreNeeded tree pages (before ++ trail_of xs) ys → AreNeeded tree pages before (xs ++ ys)
needed_on tree pages before [] ys h more = subst (λ (es : List Event). AreNeeded tree pages es ys) (append-nil before) more
needed_on tree pages before (Entered entry ∷ xs) ys h more =
    (h.0, needed_on tree pages (before ++ entry.event ∷ []) xs ys h.1 (subst (λ (es : List Event). AreNeeded tree pages es ys) (sym (append_assoc before (entry.event ∷ []) (trail_of xs))) more))
needed_on tree pages before (Noted note ∷ xs) ys h more = needed_on tree pages before xs ys h more

-- THE MESSAGE THAT STANDS for one that a plan names is, as a plan names it, that one

abbrev same_flag : Bool → Bool → Bool
same_flag true true = true
same_flag false false = true
same_flag a b = false

flag_self : (w : Bool) → same_flag w w ≡ true
flag_self true = refl
flag_self false = refl

flag_same : (a b : Bool) → same_flag a b ≡ true → a ≡ b
flag_same true true e = refl
flag_same false false e = refl
flag_same true false e = absurd cc
flag_same false true e = absurd cc

-- whether it is this grant
abbrev is_grant : ℕ → ℕ → Bool → Event → Bool
is_grant node page write (events.PageIn n p w) = (n == node) && ((p == page) && same_flag w write)
is_grant node page write (events.ZeroFill n p w) = (n == node) && ((p == page) && same_flag w write)
is_grant node page write event = false

self_test : (node page : ℕ) (t : Bool) → t ≡ true → (node == node) && ((page == page) && t) ≡ true
self_test node page t e = grind (arith, nat_tests)

tested : (n node p page : ℕ) (t : Bool) → (n == node) && ((p == page) && t) ≡ true → (n ≡ node) × (p ≡ page) × (t ≡ true)
tested n node p page t e = (grind (arith, nat_tests), grind (arith, nat_tests), grind (arith, nat_tests))

grant_is : (n node p page : ℕ) (w write : Bool) → (n == node) && ((p == page) && same_flag w write) ≡ true → events.PageIn n p w ≡ events.PageIn node page write
grant_is n node p page w write e =
    let t = tested n node p page (same_flag w write) e in
    let flag = flag_same w write t.2 in
    let first = t.0 in
    let next = t.1 in
    cc

planned_is : (node page : ℕ) (write : Bool) (event : Event) → is_grant node page write event ≡ true → as_planned event ≡ events.PageIn node page write
planned_is node page write (events.PageIn n p w) e = grant_is n node p page w write e
planned_is node page write (events.ZeroFill n p w) e = grant_is n node p page w write e
planned_is node page write (events.Access caller number n life op) e = absurd cc
planned_is node page write (events.PageOut n p) e = absurd cc
planned_is node page write (events.WriteOut n p) e = absurd cc
planned_is node page write (events.SyncOut n p) e = absurd cc
planned_is node page write (events.FlushBack n p) e = absurd cc
planned_is node page write (events.DenyWrites n p) e = absurd cc
planned_is node page write (events.WriteBack n p) e = absurd cc
planned_is node page write (events.DeleteRange n p) e = absurd cc
planned_is node page write (events.DestroyCache caller number n) e = absurd cc
planned_is node page write (events.DonePager caller number n) e = absurd cc
planned_is node page write (events.Synced caller number n from keep) e = absurd cc

module _ (P : Type 0) (node page : ℕ) (write : Bool) (event : Event) (found : P → event ≡ events.ZeroFill node page write) (other : (P → ⊥) → event ≡ events.PageIn node page write) where
  by_test : (t : Bool) → is_grant node page write event ≡ t → as_planned event ≡ events.PageIn node page write
  by_test true is = planned_is node page write event is
  by_test false is =
      let self = self_test node page (same_flag write write) (flag_self write) in
      let missed : P → ⊥ = λ p. let e : is_grant node page write event ≡ true = ap (is_grant node page write) (found p) ∙ self in absurd cc in
      absurd (let e : is_grant node page write event ≡ true = ap (is_grant node page write) (other missed) ∙ self in cc)

  planned_grant : as_planned event ≡ events.PageIn node page write
  planned_grant = by_test (is_grant node page write event) refl

pub planned : (old new : EngineSeen) (asked event : Event) → IsPageMessage asked → StandsFor old new asked event → as_planned event ≡ asked
planned old new (events.PageIn node page write) event kind stands = planned_grant (FindsZeros old new node page) node page write event stands.0 stands.1
planned old new (events.PageOut node page) event kind stands = ap as_planned stands
planned old new (events.WriteOut node page) event kind stands = ap as_planned stands
planned old new (events.SyncOut node page) event kind stands = ap as_planned stands
planned old new (events.FlushBack node page) event kind stands = ap as_planned stands
planned old new (events.DenyWrites node page) event kind stands = ap as_planned stands
planned old new (events.WriteBack node page) event kind stands = ap as_planned stands
planned old new (events.DeleteRange node page) event kind stands = ap as_planned stands
planned old new asked event kind stands = absurd kind

-- THE MESSAGE OF A TRY is needed

-- what is asked of an event that is entered
abbrev pub IsFor : EngineSeen → Event → Type 0
IsFor e event = caller_of event ≡ None → IsForCall (tree_in e) (file_in e).pages (events_in e) event

same_page : (page p pages : ℕ) → page < pages → Some page ≡ Some p → p < pages
same_page page p pages inside some = subst (λ n. n < pages) (let e : page ≡ p = cc in e) inside

-- the page of an access that fits is one of the file's
fits_inside : (size pages : ℕ) (op : Op) (page : ℕ) → IsTrue (fits_page size pages op) → page_of_op op ≡ Some page → page < pages
fits_inside size pages (ops.Read p off len) page fits is = same_page p page pages (grind (arith, nat_tests)) is
fits_inside size pages (ops.Write p off bytes) page fits is = same_page p page pages (grind (arith, nat_tests)) is
fits_inside size pages (ops.Clear p) page fits is = same_page p page pages (grind (arith, nat_tests)) is
fits_inside size pages ops.Open page fits is = absurd cc

pub for_access : (caller node life : ℕ) (op : Op) (old new : TowerSeen) (message : Event) → IsUpper (tree_in old.engine) node → IsTrue (fits_page (file_in old.engine).page_size (file_in old.engine).pages op)
    → (s : Steps caller node life op old new message) → IsPageMessage s.asked → IsFor old.engine message
for_access caller node life op old new message upper fits s kind quiet = ForAccess (record {
  node = node;
  page = s.page;
  want = s.want;
  upper = upper;
  inside = fits_inside (file_in old.engine).page_size (file_in old.engine).pages op s.page fits s.wants.page_is;
  not_yet = s.steps.not_yet;
  next = subst (λ (e : Event). IsNextOfPlan (tree_in old.engine) (file_in old.engine).pages (state_in old.engine) node s.page s.want e) (sym (planned old.engine new.engine s.asked message kind s.sends.stands)) s.steps.plan;
})

pub for_sync : (caller node from : ℕ) (keep : Keep) (old new : TowerSeen) (message : Event) → IsUpper (tree_in old.engine) node → from ≤ place_of (log_in old.engine) → Settles caller node from keep old new message → IsFor old.engine message
for_sync caller node from keep old new message upper reached s quiet = ForSync (record {
  node = node;
  from = from;
  keep = pushed_as caller s.page keep old.turns;
  page = s.page;
  upper = upper;
  reached = reached;
  lowest = record { inside = s.lowest.inside; unsettled = s.lowest.unsettled; lowest = s.lowest.lowest };
  next = s.settles.plan;
})

pub for_end : (caller node : ℕ) (old new : TowerSeen) (message : Event) → IsUpper (tree_in old.engine) node → Drains caller node old new message → IsFor old.engine message
for_end caller node old new message upper d quiet = ForEnd (record { top = node; upper = upper; next = d.drains.plan })
