-- Calls of a client on its objects, for the lines that make them.
use Rattle.std.proofs.Common.{◌≡◌, ℕ, List, Option, Some, Result, Ok, Err, refl, sym, ap, subst, ◌∙◌}
use Rattle.hist_plain.specs.declared.event.Answer.{Answer}
use Rattle.hist_plain.specs.declared.event.Answer.TheVariants as answers
use Rattle.hist_plain.specs.declared.event.Keep.{Keep}
use Rattle.hist_plain.specs.declared.event.Keep.TheVariants as keeps
use Rattle.hist_plain.specs.Plain.{Told}
use Rattle.script_text.specs.declared.script.Reply.{Reply}
use Rattle.stack_accept.specs.Mount.{Mount}
use Rattle.client_objects.specs.declared.state.ClientState.{ClientState}
use Rattle.client_objects.specs.declared.target.Target.{Target}
use Rattle.client_objects.specs.Objects.{OpenObject, with_object}
use Rattle.client_replicas.specs.declared.replicas.OpenReplicon.{OpenReplicon}
use Rattle.spr_volume.specs.Passes.{Knows}
use Rattle.script_meaning.specs.Plan.{Plan, Request, calls, carrying, ends, holding, life_in, opened, opening, plan_call, plan_found, replicating, reply_of, sent}
use Rattle.spr_client.specs.Lines.{LineDone, PlanDone}
use Rattle.spr_client.specs.Serving.{CallMade, CameBack, having, keep_number, keep_of}
use Rattle.spr_client.proofs.LineLaws.{line_of, plan-none}

-- a call for whichever objects there are is one for those that there are
pub made-held : (mount : Mount) (caller : ℕ) (request : Request) (old new : Knows) (state left : ClientState) (out : List ℕ) (result : Result Answer Reply) → left ≡ carrying state left.carrier
    → ((objects : List OpenObject) (replicas : List OpenReplicon) → CallMade mount caller request old new (having objects replicas state) (having objects replicas left) out result) → CallMade mount caller request old new state left out result
made-held mount caller request old new state left out result is made =
    subst (λ (s : ClientState). CallMade mount caller request old new state s out result) (ap (λ (s : ClientState). having state.objects state.replicas s) is ∙ sym is) (made state.objects state.replicas)

-- and for these objects of one door, beside the replicon objects that there are
pub made-objects : (mount : Mount) (caller : ℕ) (request : Request) (old new : Knows) (state left : ClientState) (out : List ℕ) (result : Result Answer Reply) (objects : List OpenObject) → left ≡ carrying state left.carrier
    → ((objects : List OpenObject) (replicas : List OpenReplicon) → CallMade mount caller request old new (having objects replicas state) (having objects replicas left) out result)
    → CallMade mount caller request old new (holding state objects) (holding left objects) out result
made-objects mount caller request old new state left out result objects is made =
    subst (λ (s : ClientState). CallMade mount caller request old new (holding state objects) s out result)
    (ap (λ (s : ClientState). having objects state.replicas s) is ∙ sym (ap (λ (s : ClientState). holding s objects) is)) (made objects state.replicas)

-- and for these replicon objects
pub made-replicas : (mount : Mount) (caller : ℕ) (request : Request) (old new : Knows) (state left : ClientState) (out : List ℕ) (result : Result Answer Reply) (replicas : List OpenReplicon) → left ≡ carrying state left.carrier
    → ((objects : List OpenObject) (replicas : List OpenReplicon) → CallMade mount caller request old new (having objects replicas state) (having objects replicas left) out result)
    → CallMade mount caller request old new (replicating state replicas) (replicating left replicas) out result
made-replicas mount caller request old new state left out result replicas is made =
    subst (λ (s : ClientState). CallMade mount caller request old new (replicating state replicas) s out result)
    (ap (λ (s : ClientState). having state.objects replicas s) is ∙ sym (ap (λ (s : ClientState). replicating s replicas) is)) (made state.objects replicas)

-- what a call made, by its result
pub made-ok : (mount : Mount) (caller : ℕ) (request : Request) (old new : Knows) (state left : ClientState) (out : List ℕ) (result : Result Answer Reply) (answer : Answer) → result ≡ Ok answer
    → CallMade mount caller request old new state left out result → CameBack mount caller request old new state left out answer
made-ok mount caller request old new state left out result answer is made = subst (λ (r : Result Answer Reply). CallMade mount caller request old new state left out r) is made

pub made-err : (mount : Mount) (caller : ℕ) (request : Request) (old new : Knows) (state left : ClientState) (out : List ℕ) (result : Result Answer Reply) (reply : Reply) → result ≡ Err reply
    → CallMade mount caller request old new state left out result → (go_on : Told → Plan) → PlanDone mount caller (calls request state go_on) old new reply left
made-err mount caller request old new state left out result reply is made = subst (λ (r : Result Answer Reply). CallMade mount caller request old new state left out r) is made

-- a line of one call that came back, whose answer is the line's
pub done-back : (mount : Mount) (caller : ℕ) (kept : ClientState) (request : Request) (old new : Knows) (state left : ClientState) (out : List ℕ) (answer : Answer) (said : Reply) → CameBack mount caller request old new state left out answer
    → ((t : Told) → t.answer ≡ answer → (answer ≡ answers.Bytes → t.bytes ≡ out) → said ≡ reply_of t) → LineDone mount caller kept (plan_call state request) old new said left
done-back mount caller kept request old new state left out answer said came is =
    line_of mount caller kept (plan_call state request) old new said left
    (came.onward (λ told. ends (reply_of told) (sent request state)) new said left
    (plan-none mount caller (ends (reply_of came.told) (sent request state)) new said left
    (ap (λ (r : Reply). ends r (sent request state)) (sym (is came.told came.answer_is came.bytes_are)) ∙ ap (ends said) (sym came.left_is))))

-- and of one that ended it
pub done-ended : (mount : Mount) (caller : ℕ) (kept : ClientState) (request : Request) (old new : Knows) (state left : ClientState) (said : Reply)
    → ((go_on : Told → Plan) → PlanDone mount caller (calls request state go_on) old new said left) → LineDone mount caller kept (plan_call state request) old new said left
done-ended mount caller kept request old new state left said made =
    line_of mount caller kept (plan_call state request) old new said left (made (λ told. ends (reply_of told) (sent request state)))

pub keep-again : (keep : Keep) → keep_of (keep_number keep) ≡ keep
keep-again keeps.Write = refl
keep-again keeps.Read = refl

-- AN OPEN OF WHAT WAS RECEIVED came back: the object is kept, with the life that was answered
pub found-kept : (mount : Mount) (caller : ℕ) (old new : Knows) (state back left : ClientState) (name word : List ℕ) (target : Target) (out : List ℕ) (answer : Answer) (said : Reply) → CameBack mount caller (opening mount state target) old new state back out answer
    → ((t : Told) → t.answer ≡ answer → (answer ≡ answers.Bytes → t.bytes ≡ out) → said ≡ reply_of t) → left ≡ holding back (with_object state.objects name (record target { life = life_in answer }) word)
    → PlanDone mount caller (plan_found mount state name word (Some target)) old new said left
found-kept mount caller old new state back left name word target out answer said came is kept =
    let go_on : Told → Plan = λ told. ends (reply_of told) (holding (sent (opening mount state target) state) (with_object state.objects name (opened target told) word)) in
    let there : holding (sent (opening mount state target) state) (with_object state.objects name (opened target came.told) word) ≡ left =
    ap (λ (s : ClientState). holding s (with_object state.objects name (opened target came.told) word)) (sym came.left_is)
    ∙ (ap (λ (a : Answer). holding back (with_object state.objects name (record target { life = life_in a }) word)) came.answer_is ∙ sym kept) in
    came.onward go_on new said left
    (plan-none mount caller (go_on came.told) new said left
    (ap (λ (r : Reply). ends r (holding (sent (opening mount state target) state) (with_object state.objects name (opened target came.told) word))) (sym (is came.told came.answer_is came.bytes_are)) ∙ ap (ends said) there))

-- or it ended the line
pub found-ended : (mount : Mount) (caller : ℕ) (old new : Knows) (state left : ClientState) (name word : List ℕ) (target : Target) (said : Reply)
    → ((go_on : Told → Plan) → PlanDone mount caller (calls (opening mount state target) state go_on) old new said left) → PlanDone mount caller (plan_found mount state name word (Some target)) old new said left
found-ended mount caller old new state left name word target said made =
    made (λ told. ends (reply_of told) (holding (sent (opening mount state target) state) (with_object state.objects name (opened target told) word)))
