-- Accesses of a reconnectable object: one try, and what comes behind it.
use Rattle.std.proofs.Common.{◌≡◌, ◌⊎◌, inl, inr, ℕ, zero, suc, ◌<◌, List, length, true, false, Option, Some, None, IsSome, Ok, Err, refl, sym, ap, subst, ◌∙◌}
use Rattle.std.specs.Prelude.{IfErr, IfOk, Result}
use Rattle.hist_plain.specs.declared.event.Answer.{Answer}
use Rattle.hist_plain.specs.declared.event.Answer.TheVariants as answers
use Rattle.hist_plain.specs.declared.event.Op.{Op}
use Rattle.hist_plain.specs.Event.{fits_page}
use Rattle.hist_plain.specs.Plain.{Told}
use Rattle.script_text.specs.declared.script.Reply.{Reply}
use Rattle.script_text.specs.declared.script.Reply.TheVariants as replies
use Rattle.stack_accept.specs.Mount.{Mount}
use Rattle.stack_accept.specs.Sound.{IsMount}
use Rattle.name_context.specs.declared.entry.NameCall.TheVariants as names_calls
use Rattle.name_context.specs.Names.{Kept, kept_at}
use Rattle.client_objects.specs.declared.state.ClientState.{ClientState}
use Rattle.client_objects.specs.declared.target.Target.{Target}
use Rattle.client_objects.specs.declared.target.Found.{Found}
use Rattle.client_objects.specs.declared.kind.ObjectKind.{ObjectKind}
use Rattle.client_objects.specs.Found.{door_to, node_by}
use Rattle.client_objects.specs.Objects.{object_of}
use Rattle.client_objects.specs.Reconnected.{IsReconnectable, reconnected}
use Rattle.client_objects.proofs.FoundLaws.{found_leads}
use Rattle.client_objects.proofs.OpenLaws.{object_of-with_target, on_stack-with_target}
use Rattle.script_meaning.specs.Stack.{pages_of}
use Rattle.script_meaning.specs.Plan.{Plan, asking_names, calls, ends, is_revoked, led_to, life_in, node_at, plan_after, plan_names, plan_reopened, plan_try, reached, reopening, reply_of, rerouting, sent, trial_of}
use Rattle.spr_volume.specs.Passes.{Knows}
use Rattle.spr_client.specs.Lines.{IsLed, IsOnMachine, IsTarget, LeadsOn, PlanDone}
use Rattle.spr_client.specs.Serving.{CameBack}
use Rattle.spr_client.proofs.DoorLaws.{reached_leads}
use Rattle.spr_client.proofs.LineLaws.{plan-lacks, plan-none}

-- WHAT STANDS AT THE PATH is opened

module _ (mount : Mount) (caller : ℕ) (state : ClientState) (name : List ℕ) (kept : Option Kept) where
  abbrev Reopens : Op → (ClientState → Told → Plan) → Plan
  Reopens op go_on = plan_reopened mount name op go_on state (reached mount kept)

  -- what comes behind the Open
  abbrev Behind : Op → (ClientState → Told → Plan) → Target → Told → Plan
  Behind op go_on target told = plan_try mount op go_on (rerouting (sent (reopening mount state target) state) name (led_to target told)) (led_to target told)

  pub reopened-bad : (op : Op) (go_on : ClientState → Told → Plan) (pass : Knows) → reached mount kept ≡ None → PlanDone mount caller (Reopens op go_on) pass pass replies.BadObject state
  reopened-bad op go_on pass none = plan-none mount caller (Reopens op go_on) pass replies.BadObject state (ap (plan_reopened mount name op go_on state) none)

  pub reopened-ends : (op : Op) (go_on : ClientState → Told → Plan) (target : Target) (old new : Knows) (said : Reply) (left : ClientState) → reached mount kept ≡ Some target
      → ((next : Told → Plan) → PlanDone mount caller (calls (reopening mount state target) state next) old new said left) → PlanDone mount caller (Reopens op go_on) old new said left
  reopened-ends op go_on target old new said left is made =
      subst (λ (p : Plan). PlanDone mount caller p old new said left) (sym (ap (plan_reopened mount name op go_on state) is)) (made (Behind op go_on target))

  pub reopened-leads : (op : Op) (go_on : ClientState → Told → Plan) (target : Target) (old mid : Knows) (out : List ℕ) (answer : Answer) (back left : ClientState) (led : Target) → reached mount kept ≡ Some target
      → CameBack mount caller (reopening mount state target) old mid state back out answer → left ≡ rerouting back name (reconnected (door_to target) (life_in answer)) → led ≡ reconnected (door_to target) (life_in answer)
      → LeadsOn mount caller (Reopens op go_on) (plan_try mount op go_on left led) old mid
  reopened-leads op go_on target old mid out answer back left led is came left_is led_is new said end done =
      let there : plan_try mount op go_on left led ≡ Behind op go_on target came.told =
      ap (λ (s : ClientState). plan_try mount op go_on s led) (left_is ∙ ap (λ (s : ClientState). rerouting s name (reconnected (door_to target) (life_in answer))) came.left_is)
      ∙ ap (plan_try mount op go_on (rerouting (sent (reopening mount state target) state) name (reconnected (door_to target) (life_in answer)))) led_is
      ∙ ap (λ (x : Answer). plan_try mount op go_on (rerouting (sent (reopening mount state target) state) name (reconnected (door_to target) (life_in x))) (reconnected (door_to target) (life_in x))) (sym came.answer_is) in
      subst (λ (p : Plan). PlanDone mount caller p old new said end) (sym (ap (plan_reopened mount name op go_on state) is))
      (came.onward (Behind op go_on target) new said end (subst (λ (p : Plan). PlanDone mount caller p mid new said end) there done))

-- where the object leads then
some-target : (state : ClientState) (name : List ℕ) → IsReconnectable (object_of name state.objects) → IsSome (object_of name state.objects)
some-target state name held = by (object_of name state.objects) held
  where
    by : (o : Option Target) → IsReconnectable o → IsSome o
    by (Some target) held = refl
    by None held = absurd held

pub led-there : (mount : Mount) (state : ClientState) (name : List ℕ) (kept : Option Kept) (target : Target) (life : ℕ) (left : ClientState) (found : Found) → IsMount mount → IsReconnectable (object_of name state.objects) → reached mount kept ≡ Some target
    → left ≡ rerouting state name (reconnected (door_to target) life) → found.target ≡ reconnected (door_to target) life → found.node ≡ target.view → IsLed mount name left found
led-there mount state name kept target life left found sound held is left_is found_is node_is =
    let leads = reached_leads mount kept target is in
    let led : Target = reconnected (door_to target) life in
    let above = found_leads mount 0 led sound leads.view in
    let there : Found = record { target = led; node = target.view } in
    let same : there ≡ found = ap (λ (t : Target). let f : Found = record { target = t; node = target.view } in f) (sym found_is) ∙ ap (λ (n : ℕ). let f : Found = record { target = found.target; node = n } in f) (sym node_is) in
    record {
      target = subst (IsTarget mount) same (record { chosen = refl; file = leads.file; view = leads.view; above = above.above; node = above.inside });
      held = subst (λ (s : ClientState). object_of name s.objects ≡ Some found.target) (sym left_is) (object_of-with_target name led state.objects (some-target state name held) ∙ ap (λ (t : Target). Some t) (sym found_is));
      kind = ap (λ (t : Target). t.kind) found_is;
      node = node_is ∙ sym (ap (λ (t : Target). t.view) found_is);
    }

pub led-on : (mount : Mount) (state : ClientState) (name : List ℕ) (kept : Option Kept) (target : Target) (life : ℕ) (left : ClientState) → IsOnMachine mount state → reached mount kept ≡ Some target
    → left ≡ rerouting state name (reconnected (door_to target) life) → IsOnMachine mount left
led-on mount state name kept target life left on is left_is =
    let leads = reached_leads mount kept target is in
    subst (λ (s : ClientState). IsOnMachine mount s) (sym left_is)
    (record { machine = on.machine; objects = on_stack-with_target mount name (reconnected (door_to target) life) state.objects on.objects leads.view leads.file refl; replicas = on.replicas; regions = on.regions })

-- ONE TRY

module _ (mount : Mount) (caller left : ℕ) (name : List ℕ) (path : List (List ℕ)) (op : Op) (state : ClientState) (target : Target) where
  abbrev Tries : Plan
  Tries = plan_try mount op (plan_after mount left name path op) state target

  -- the state after the call
  abbrev then_state : ClientState
  then_state = sent (trial_of mount state target op) state

  -- what comes behind a life that is over
  abbrev Again : ℕ → Plan
  Again further = plan_names then_state (asking_names names_calls.Resolve (Some path)) (λ names. plan_reopened mount name op (plan_after mount further name path op) then_state (reached mount (kept_at names path)))

  pub try-unfit : (pass : Knows) → fits_page mount.page_size (pages_of mount target.file) op ≡ false → PlanDone mount caller Tries pass pass replies.NotOnePage state
  try-unfit pass unfit = plan-none mount caller Tries pass replies.NotOnePage state (rw unfit refl)

  fits_so : fits_page mount.page_size (pages_of mount target.file) op ≡ true → Tries ≡ calls (trial_of mount state target op) state (plan_after mount left name path op then_state)
  fits_so fit = rw fit refl

  pub try-lacks : (pass : Knows) → fits_page mount.page_size (pages_of mount target.file) op ≡ true → PlanDone mount caller Tries pass pass replies.Memory state
  try-lacks pass fit = plan-lacks mount caller Tries (trial_of mount state target op) state (plan_after mount left name path op then_state) pass (fits_so fit)

  pub try-fails : (old new : Knows) (said : Reply) (end : ClientState) → fits_page mount.page_size (pages_of mount target.file) op ≡ true
      → ((next : Told → Plan) → PlanDone mount caller (calls (trial_of mount state target op) state next) old new said end) → PlanDone mount caller Tries old new said end
  try-fails old new said end fit made = subst (λ (p : Plan). PlanDone mount caller p old new said end) (sym (fits_so fit)) (made (plan_after mount left name path op then_state))

  after-ends : (n : ℕ) (t : Told) → (n ≡ 0) ⊎ (is_revoked t.answer ≡ false) → plan_after mount n name path op then_state t ≡ ends (reply_of t) then_state
  after-ends zero t why = refl
  after-ends (suc n) t (inl none) = absurd cc
  after-ends (suc n) t (inr other) = rw other refl

  pub try-ends : (old new : Knows) (out : List ℕ) (answer : Answer) (said : Reply) (end : ClientState) → fits_page mount.page_size (pages_of mount target.file) op ≡ true → CameBack mount caller (trial_of mount state target op) old new state end out answer
      → (left ≡ 0) ⊎ (is_revoked answer ≡ false) → ((t : Told) → t.answer ≡ answer → (answer ≡ answers.Bytes → t.bytes ≡ out) → said ≡ reply_of t) → PlanDone mount caller Tries old new said end
  try-ends old new out answer said end fit came why is =
      subst (λ (p : Plan). PlanDone mount caller p old new said end) (sym (fits_so fit))
      (came.onward (plan_after mount left name path op then_state) new said end
      (plan-none mount caller (plan_after mount left name path op then_state came.told) new said end
      (after-ends left came.told (by why) ∙ (ap (λ (r : Reply). ends r then_state) (sym (is came.told came.answer_is came.bytes_are)) ∙ ap (ends said) (sym came.left_is)))))
    where
      by : (left ≡ 0) ⊎ (is_revoked answer ≡ false) → (left ≡ 0) ⊎ (is_revoked came.told.answer ≡ false)
      by (inl none) = inl none
      by (inr other) = inr (ap is_revoked came.answer_is ∙ other)

  after-again : (n further : ℕ) (t : Told) → n ≡ suc further → is_revoked t.answer ≡ true → plan_after mount n name path op then_state t ≡ Again further
  after-again zero further t is over = absurd cc
  after-again (suc n) further t is over =
      let same : n ≡ further = cc in
      rw over (ap Again same)

  pub try-again : (further : ℕ) (old mid new : Knows) (out : List ℕ) (answer : Answer) (said : Reply) (back end : ClientState) → fits_page mount.page_size (pages_of mount target.file) op ≡ true → CameBack mount caller (trial_of mount state target op) old mid state back out answer
      → left ≡ suc further → is_revoked answer ≡ true → PlanDone mount caller (Again further) mid new said end → PlanDone mount caller Tries old new said end
  try-again further old mid new out answer said back end fit came is over onward =
      subst (λ (p : Plan). PlanDone mount caller p old new said end) (sym (fits_so fit))
      (came.onward (plan_after mount left name path op then_state) new said end
      (subst (λ (p : Plan). PlanDone mount caller p mid new said end) (sym (after-again left further came.told is (ap is_revoked came.answer_is ∙ over))) onward))

  -- the same from the state that the call left, where the caller's number may be written otherwise
  pub try-onward : (further by : ℕ) (old mid new : Knows) (out : List ℕ) (answer : Answer) (said : Reply) (back end : ClientState) → fits_page mount.page_size (pages_of mount target.file) op ≡ true → CameBack mount caller (trial_of mount state target op) old mid state back out answer
      → left ≡ suc further → is_revoked answer ≡ true → by ≡ caller
      → PlanDone mount by (plan_names back (asking_names names_calls.Resolve (Some path)) (λ names. plan_reopened mount name op (plan_after mount further name path op) back (reached mount (kept_at names path)))) mid new said end
      → PlanDone mount caller Tries old new said end
  try-onward further by old mid new out answer said back end fit came is over same onward =
      let mine = subst (λ (n : ℕ). PlanDone mount n (plan_names back (asking_names names_calls.Resolve (Some path)) (λ names. plan_reopened mount name op (plan_after mount further name path op) back (reached mount (kept_at names path)))) mid new said end) same onward in
      try-again further old mid new out answer said back end fit came is over
      (subst (λ (s : ClientState). PlanDone mount caller (plan_names s (asking_names names_calls.Resolve (Some path)) (λ names. plan_reopened mount name op (plan_after mount further name path op) s (reached mount (kept_at names path)))) mid new said end) came.left_is mine)

-- the view that stands at the path is above the ground, and the file is one of the stack
pub reopened-route : (mount : Mount) (kept : Option Kept) (target : Target) → IsMount mount → reached mount kept ≡ Some target
    → (target.file < length mount.files) × (0 < target.view) × (target.view < length mount.tree.parents)
reopened-route mount kept target sound is =
    let leads = reached_leads mount kept target is in
    let above = found_leads mount 0 (reconnected (door_to target) 0) sound leads.view in
    (leads.file, above.above, above.inside)

-- its calls go to the view
pub led-node : (mount : Mount) (name : List ℕ) (state : ClientState) (found : Found) → IsLed mount name state found → found.node ≡ node_at mount state found.target
led-node mount name state found led = led.node ∙ sym (ap (λ (k : ObjectKind). node_by k mount state.machine (door_to found.target) found.target.tag) led.kind)

-- what follows from what a result has
pub if-ok : {A E : Type 0} {P Q : A → Type 0} (r : Result A E) → IfOk r P → ((x : A) → P x → Q x) → IfOk r Q
if-ok (Ok x) has on = on x has
if-ok (Err e) has on = tt

pub if-err : {A E : Type 0} {P Q : E → Type 0} (r : Result A E) → IfErr r P → ((x : E) → P x → Q x) → IfErr r Q
if-err (Ok x) has on = tt
if-err (Err e) has on = on e has
