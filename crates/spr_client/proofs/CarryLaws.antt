-- What a call of a client at a file is for its plan, whether it stayed on the client's machine or was carried.
use Rattle.std.proofs.Common.{◌≡◌, ◌≢◌, ℕ, ◌≤◌, ◌<◌, Bool, true, false, cond, List, [], inl, inr, Option, Some, None, Result, Ok, Err, refl, sym, ap, subst, ◌∙◌}
use Rattle.std.specs.Prelude.{IfSome, not}
use Rattle.std.specs.Option.{option_map}
use Rattle.hist_plain.specs.declared.event.Answer.{Answer}
use Rattle.hist_plain.specs.declared.event.Answer.TheVariants as answers
use Rattle.hist_plain.specs.Plain.{Told}
use Rattle.script_text.specs.declared.script.Reply.{Reply}
use Rattle.script_text.specs.declared.script.Reply.TheVariants as replies
use Rattle.stack_accept.specs.Mount.{Mount}
use Rattle.stack_engine.specs.declared.refusal.StepErr.{StepErr}
use Rattle.stack_engine.specs.declared.refusal.StepErr.TheVariants as step_errs
use Rattle.client_objects.specs.declared.state.ClientState.{ClientState}
use Rattle.link_lossy.specs.declared.serve.Served.{Served}
use Rattle.link_lossy.specs.declared.serve.ServeErr.{ServeErr}
use Rattle.link_lossy.specs.declared.serve.ServeErr.TheVariants as refusals
use Rattle.link_lossy.specs.declared.refusal.LinkErr.{LinkErr}
use Rattle.link_lossy.specs.declared.refusal.LinkErr.TheVariants as failures
use Rattle.link_lossy.specs.Services.{answer_to, is_memory, shown, shown_of}
use Rattle.link_lossy.specs.Carriers.{Answers, CarrierSeen, Fails, IsLost, after_call, is_lost_by, losses}
use Rattle.spr_volume.specs.declared.answered.Answered.{Answered}
use Rattle.spr_volume.specs.Passes.{Knows, VolumeSeen, as_known}
use Rattle.script_meaning.specs.Log.{IsFull}
use Rattle.script_meaning.specs.Plan.{Ask, Plan, Request, RefusesOver, asking, Unmade, calls, carrying, comes, heard, lost_reply, over, sent}
use Rattle.script_meaning.specs.Fits.{Gone}
use Rattle.script_meaning.proofs.Parts.{comes_here, did_nothing, gone_fault, gone_lost, gone_unmade, sent_here}
use Rattle.spr_client.specs.Calls.{CallDone, MayCall, histories, refusal_of}
use Rattle.spr_client.specs.Lines.{OthersIdle, PlanDone}
use Rattle.spr_client.specs.Serving.{CallMade, CameBack, IsCarried, IsServed, Serves, heard_here, heard_there, volume_answer}
use Rattle.spr_client.proofs.CallLaws.{called_other, entering, filling, noting, starving, told_bytes, told_of}
use Rattle.spr_client.proofs.LineLaws.{idle-same, plan-lacks, plan-refused, plan-then}

-- what over a carrier says of the request and the state
sent_of : (far : Bool) (o : Option CarrierSeen) (c : CarrierSeen) → cond far o None ≡ Some c → cond far (option_map {T = CarrierSeen} (λ x. after_call x) o) o ≡ Some (after_call c)
sent_of true o c is = ap (λ (x : Option CarrierSeen). option_map {T = CarrierSeen} (λ y. after_call y) x) is
sent_of false o c is = absurd cc

carrier_of : (far : Bool) (o : Option CarrierSeen) (c : CarrierSeen) → cond far o None ≡ Some c → o ≡ Some c
carrier_of true o c is = is
carrier_of false o c is = absurd cc

shown-same : (answer : Answer) (bytes : List ℕ) → shown_of answer bytes bytes ≡ bytes
shown-same answers.Bytes bytes = refl
shown-same answers.Done bytes = refl
shown-same (answers.Life life) bytes = refl
shown-same (answers.Revoked life) bytes = refl

starved-memory : (served : Result Served ServeErr) → is_memory served ≡ true → volume_answer served ≡ Err step_errs.Memory
starved-memory (Ok s) starved = absurd cc
starved-memory (Err (refusals.StoreFault disk count)) starved = absurd cc
starved-memory (Err refusals.TrailFull) starved = absurd cc
starved-memory (Err refusals.Memory) starved = refl

module _ (mount : Mount) (v : VolumeSeen) (caller : ℕ) (request : Request) (old new : Knows) (state : ClientState) (may : MayCall mount v old caller) where
  -- a call that was answered, and whose answer came
  came_back : (out : List ℕ) (a : Answered) (left : ClientState) → comes (over request state) ≡ true → (called : CallDone caller request old new out (Ok a)) → left ≡ sent request state → CameBack mount caller request old new state left out a.answer
  came_back out a left came called is = record {
    told = told_of called.here.ends.0 a.answer;
    answer_is = refl;
    bytes_are = told_bytes called.here.ends.0 a.answer out called.here.ends.3.bytes;
    left_is = is;
    onward = λ go_on. λ last said end rest. plan-then mount v caller (calls request state go_on) request state go_on old new last out a said end may refl came called rest;
  }

  -- A CALL ON THE CLIENT'S MACHINE
  pub made-here : (out : List ℕ) (o : Option (Result Answered StepErr)) → over request state ≡ None → IfSome o (λ r. CallDone caller request old new out r) → (o ≡ None → new ≡ old) → CallMade mount caller request old new state state out (heard_here o)
  made-here out (Some (Ok a)) here called none = came_back out a state (comes_here (over request state) here) called (sym (sent_here request state here))
  made-here out (Some (Err err)) here called none = λ go_on. plan-refused mount v caller (calls request state go_on) request state go_on old new out err (refusal_of err) may refl here called refl
  made-here out None here called none =
      λ go_on. subst (λ (p : Knows). PlanDone mount caller (calls request state go_on) old p replies.Memory state) (sym (none refl)) (plan-lacks mount caller (calls request state go_on) request state go_on old refl)

  -- nobody else did anything in a call that was made, whatever its line was told
  ended : (out : List ℕ) (r : Result Answered StepErr) (said : Reply) (left : ClientState) (go_on : Told → Plan) → CallDone caller request old new out r → Gone caller (calls request state go_on) (histories mount old) (histories mount new) said left
      → PlanDone mount caller (calls request state go_on) old new said left
  ended out r said left go_on called gone = record { pass = called.pass; gone = gone; others = λ other ne low high. called_other mount caller other request old new out r ne low high called }

  module _ (c : CarrierSeen) (is : over request state ≡ Some c) where
    -- a reply that is heard, and the state that is left, written otherwise
    heard_as : (b : Bool) (reply : Reply) → comes (over request state) ≡ b → heard (over request state) reply ≡ cond b reply (lost_reply (over request state))
    heard_as b reply e = ap (λ (x : Bool). cond x reply (lost_reply (over request state))) e

    comes_is : (b : Bool) → is_lost_by c ≡ b → comes (over request state) ≡ not b
    comes_is b e = ap (λ (o : Option CarrierSeen). comes o) is ∙ ap not e

    lost_is : lost_reply (over request state) ≡ replies.Link (losses (after_call c))
    lost_is = ap (λ (o : Option CarrierSeen). lost_reply o) is

    -- the state after a call that was sent, or was not
    sent_is : (after : CarrierSeen) → after ≡ after_call c → carrying state (Some after) ≡ sent request state
    sent_is after e = ap (λ (x : CarrierSeen). carrying state (Some x)) e ∙ ap (carrying state) (sym (sent_of request.far state.carrier c is))

    kept_is : (after : CarrierSeen) → after ≡ c → carrying state (Some after) ≡ state
    kept_is after e = ap (λ (x : CarrierSeen). carrying state (Some x)) e ∙ ap (carrying state) (sym (carrier_of request.far state.carrier c is))

    at_end : {said : Reply} (go_on : Told → Plan) (after : CarrierSeen) (reply : Reply) → said ≡ reply → after ≡ after_call c → Gone caller (calls request state go_on) (histories mount old) (histories mount new) said (sent request state)
        → Gone caller (calls request state go_on) (histories mount old) (histories mount new) reply (carrying state (Some after))
    at_end go_on after reply said e gone =
        subst (λ (s : ClientState). Gone caller (calls request state go_on) (histories mount old) (histories mount new) reply s) (sym (sent_is after e))
        (subst (λ (r : Reply). Gone caller (calls request state go_on) (histories mount old) (histories mount new) r (sent request state)) said gone)

    unmade : (after : CarrierSeen) (said : Reply) (go_on : Told → Plan) → RefusesOver c (IsFull (histories mount new) request.file) request state said (carrying state (Some after))
        → Unmade (over request state) (IsFull (histories mount new) request.file) request state said (carrying state (Some after))
    unmade after said go_on refuses = subst (λ (o : Option CarrierSeen). Unmade o (IsFull (histories mount new) request.file) request state said (carrying state (Some after))) (sym is) refuses

    -- it did not arrive
    not_made : (after : CarrierSeen) (out : List ℕ) (e : LinkErr) → Fails c after e → new ≡ old → CallMade mount caller request old new state (carrying state (Some after)) out (heard_there (Err e))
    not_made after out e (inl (memory, kept)) same =
        subst (λ (x : LinkErr). CallMade mount caller request old new state (carrying state (Some after)) out (heard_there (Err x))) (sym memory)
        (λ go_on. subst (λ (p : Knows). PlanDone mount caller (calls request state go_on) old p replies.Memory (carrying state (Some after))) (sym same)
        (subst (λ (s : ClientState). PlanDone mount caller (calls request state go_on) old old replies.Memory s) (sym (kept_is after kept)) (plan-lacks mount caller (calls request state go_on) request state go_on old refl)))
    not_made after out e (inr lost) same =
        let said : e ≡ failures.Link (losses after) = (let r = lost.result in cc) in
        subst (λ (x : LinkErr). CallMade mount caller request old new state (carrying state (Some after)) out (heard_there (Err x))) (sym said)
        (λ go_on. record {
          pass = subst (λ (p : Knows). p ≡ as_known old p) (sym same) refl;
          gone = gone_unmade caller (calls request state go_on) request state go_on (histories mount old) (histories mount new) (replies.Link (losses after)) (carrying state (Some after)) refl
              (did_nothing caller (histories mount old) (histories mount new) (ap (histories mount) same))
              (unmade after (replies.Link (losses after)) go_on (lost.lost, ap losses lost.carrier, sent_is after lost.carrier));
          others = subst (λ (p : Knows). OthersIdle mount caller old p) (sym same) (idle-same mount caller old);
        })

    -- it was served, and lost
    served_lost : (after : CarrierSeen) (left out : List ℕ) (served : Result Served ServeErr) → is_memory served ≡ false → CallDone caller request old new left (volume_answer served) → is_lost_by c ≡ true → after ≡ after_call c
        → CallMade mount caller request old new state (carrying state (Some after)) out (Err (replies.Link (losses after)))
    served_lost after left out (Ok s) fed called lost e = λ go_on.
        let a = entering mount caller request old new left (record { answer = s.answer; place = s.place }) may.first may.last called in
        ended left (volume_answer (Ok s)) (replies.Link (losses after)) (carrying state (Some after)) go_on called
        (at_end go_on after (replies.Link (losses after)) (lost_is ∙ ap (λ (x : CarrierSeen). replies.Link (losses x)) (sym e)) e
        (gone_lost caller (calls request state go_on) request state go_on (histories mount old) (histories mount new) a.entry (told_of called.here.ends.0 s.answer) refl (comes_is true lost) a.did a.asks a.tells))
    served_lost after left out (Err (refusals.StoreFault disk count)) fed called lost e = λ go_on.
        ended left (volume_answer (Err (refusals.StoreFault disk count))) (replies.Link (losses after)) (carrying state (Some after)) go_on called
        (at_end go_on after (replies.Link (losses after)) (heard_as false (replies.Store disk count) (comes_is true lost) ∙ (lost_is ∙ ap (λ (x : CarrierSeen). replies.Link (losses x)) (sym e))) e
        (gone_fault caller (calls request state go_on) request state go_on (histories mount old) (histories mount new) disk count refl (noting mount caller request old new left disk count may.first may.last called)))
    served_lost after left out (Err refusals.TrailFull) fed called lost e = λ go_on.
        let full = filling mount caller request old new left may.first may.last called in
        ended left (volume_answer (Err refusals.TrailFull)) (replies.Link (losses after)) (carrying state (Some after)) go_on called
        (gone_unmade caller (calls request state go_on) request state go_on (histories mount old) (histories mount new) (replies.Link (losses after)) (carrying state (Some after)) refl full.0
        (unmade after (replies.Link (losses after)) go_on (lost, ap losses e, sent_is after e)))
    served_lost after left out (Err refusals.Memory) fed called lost e = absurd cc

    -- it was served, and its reply came
    served_back : (after : CarrierSeen) (left out : List ℕ) (served : Result Served ServeErr) → is_memory served ≡ false → CallDone caller request old new left (volume_answer served) → is_lost_by c ≡ false → after ≡ after_call c → out ≡ shown served left left
        → CallMade mount caller request old new state (carrying state (Some after)) out (heard_there (answer_to served))
    served_back after left out (Ok s) fed called came e is_out =
        let same : out ≡ left = is_out ∙ shown-same s.answer left in
        came_back out (record { answer = s.answer; place = s.place }) (carrying state (Some after)) (comes_is false came) (subst (λ (o : List ℕ). CallDone caller request old new o (volume_answer (Ok s))) (sym same) called) (sent_is after e)
    served_back after left out (Err (refusals.StoreFault disk count)) fed called came e is_out = λ go_on.
        ended left (volume_answer (Err (refusals.StoreFault disk count))) (replies.Store disk count) (carrying state (Some after)) go_on called
        (at_end go_on after (replies.Store disk count) (heard_as true (replies.Store disk count) (comes_is false came)) e
        (gone_fault caller (calls request state go_on) request state go_on (histories mount old) (histories mount new) disk count refl (noting mount caller request old new left disk count may.first may.last called)))
    served_back after left out (Err refusals.TrailFull) fed called came e is_out = λ go_on.
        let full = filling mount caller request old new left may.first may.last called in
        ended left (volume_answer (Err refusals.TrailFull)) replies.TrailFull (carrying state (Some after)) go_on called
        (gone_unmade caller (calls request state go_on) request state go_on (histories mount old) (histories mount new) replies.TrailFull (carrying state (Some after)) refl full.0
        (unmade after replies.TrailFull go_on (came, full.1, sent_is after e)))
    served_back after left out (Err refusals.Memory) fed called came e is_out = absurd cc

    -- by whether serving it lacked memory
    by_memory : (after : CarrierSeen) (left out : List ℕ) (served : Result Served ServeErr) (r : Result Served LinkErr) (b : Bool) → is_memory served ≡ b → CallDone caller request old new left (volume_answer served) → Answers b c after served left out r
        → CallMade mount caller request old new state (carrying state (Some after)) out (heard_there r)
    by_memory after left out served r true starved called (answer, starves, same) =
        let lacking : volume_answer served ≡ Err step_errs.Memory = starved-memory served starved in
        let nothing = subst (λ (x : Result Answered StepErr). CallDone caller request old new left x) lacking called in
        subst (λ (x : Result Served LinkErr). CallMade mount caller request old new state (carrying state (Some after)) out (heard_there x)) (sym answer)
        (λ go_on. ended left (Err step_errs.Memory) replies.Memory (carrying state (Some after)) go_on nothing
        (gone_unmade caller (calls request state go_on) request state go_on (histories mount old) (histories mount new) replies.Memory (carrying state (Some after)) refl (starving mount caller request old new left may.first may.last nothing)
        (unmade after replies.Memory go_on (inr (after, starves, refl)))))
    by_memory after left out served r false fed called (inl (lost, same)) =
        subst (λ (x : Result Served LinkErr). CallMade mount caller request old new state (carrying state (Some after)) out (heard_there x)) (sym lost.result)
        (served_lost after left out served fed called lost.lost lost.carrier)
    by_memory after left out served r false fed called (inr back) =
        subst (λ (x : Result Served LinkErr). CallMade mount caller request old new state (carrying state (Some after)) out (heard_there x)) (sym back.result)
        (served_back after left out served fed called back.came back.carrier back.out)

    -- by what serving did
    by_done : (after : CarrierSeen) (left out : List ℕ) (served : Result Served ServeErr) (r : Result Served LinkErr) → Serves caller request old new left served → Answers (is_memory served) c after served left out r
        → CallMade mount caller request old new state (carrying state (Some after)) out (heard_there r)
    by_done after left out served r (inl called) ends = by_memory after left out served r (is_memory served) refl called ends
    by_done after left out served r (inr (same, lacks)) ends =
        let starved = subst (λ (x : Result Served ServeErr). Answers (is_memory x) c after x left out r) lacks ends in
        subst (λ (x : Result Served LinkErr). CallMade mount caller request old new state (carrying state (Some after)) out (heard_there x)) (sym starved.0)
        (λ go_on. record {
          pass = subst (λ (p : Knows). p ≡ as_known old p) (sym same) refl;
          gone = gone_unmade caller (calls request state go_on) request state go_on (histories mount old) (histories mount new) replies.Memory (carrying state (Some after)) refl
              (did_nothing caller (histories mount old) (histories mount new) (ap (histories mount) same))
              (unmade after replies.Memory go_on (inr (after, starved.1, refl)));
          others = subst (λ (p : Knows). OthersIdle mount caller old p) (sym same) (idle-same mount caller old);
        })

    -- A CALL THAT WAS CARRIED
    pub made-there : (after : CarrierSeen) (out : List ℕ) (r : Result Served LinkErr) → IsCarried caller request old new c after out r → CallMade mount caller request old new state (carrying state (Some after)) out (heard_there r)
    made-there after out r (inl (e, said, fails, same)) =
        subst (λ (x : Result Served LinkErr). CallMade mount caller request old new state (carrying state (Some after)) out (heard_there x)) (sym said) (not_made after out e fails same)
    made-there after out r (inr s) = by_done after s.left out s.served r s.done s.ends

-- what was carried, by a request that says whether it is far
pub as_far : (caller file : ℕ) (ask : Ask) (far : Bool) (old new : Knows) (before after : CarrierSeen) (out : List ℕ) (r : Result Served LinkErr) → IsCarried caller (asking file ask) old new before after out r
    → IsCarried caller (record { file = file; ask = ask; far = far }) old new before after out r
as_far caller file ask far old new before after out r (inl fails) = inl fails
as_far caller file ask far old new before after out r (inr s) = inr (record { served = s.served; left = s.left; done = s.done; ends = s.ends })
