-- How a line is done.
use Rattle.std.proofs.Common.{◌≡◌, ◌≢◌, ℕ, ◌<◌, ◌≤◌, List, [], ◌∷◌, length, Bool, true, false, unwrap_or, Option, Some, None, IsSome, Ok, Err, refl, sym, ap, subst, ◌∙◌, arith, inl, inr}
use Rattle.std.specs.Prelude.{◌⊎◌}
use Rattle.std.specs.List.{AllZip}
use Rattle.std.proofs.lemmas.Slice.Zip.{AllZip-map}
use Rattle.std.proofs.lemmas.List.{map-id}
use Rattle.hist_plain.specs.declared.event.Op.{Op}
use Rattle.hist_plain.specs.declared.event.Op.TheVariants as ops
use Rattle.hist_plain.specs.declared.event.Answer.TheVariants as answers
use Rattle.hist_plain.specs.Event.{fits_page}
use Rattle.hist_plain.specs.Plain.{Told}
use Rattle.script_text.specs.declared.script.Reply.{Reply}
use Rattle.script_text.specs.declared.script.Reply.TheVariants as replies
use Rattle.stack_engine.specs.declared.refusal.StepErr.{StepErr}
use Rattle.stack_accept.specs.Mount.{Mount}
use Rattle.marshal_buf.specs.Held.{Held}
use Rattle.name_context.specs.declared.entry.NameCall.TheVariants as calls_of
use Rattle.name_context.specs.declared.entry.NameErr.{NameErr}
use Rattle.name_context.specs.declared.entry.NameErr.TheVariants as errs
use Rattle.name_context.specs.Names.{Name, kept_at}
use Rattle.text_words.specs.Words.{path_of}
use Rattle.client_objects.specs.declared.kind.ObjectKind.{ObjectKind}
use Rattle.client_objects.specs.declared.kind.ObjectKind.TheVariants.{Singleton, Cluster, Caching, Reconnectable}
use Rattle.client_objects.specs.declared.state.ClientState.{ClientState}
use Rattle.client_objects.specs.declared.target.Target.{Target}
use Rattle.client_objects.specs.Objects.{with_object}
use Rattle.client_objects.specs.Stored.{received, received_word}
use Rattle.client_replicas.specs.Received.{received_doors}
use Rattle.script_meaning.specs.Stack.{pages_of}
use Rattle.script_meaning.specs.Plan.{Plan, ends, calls, Request, NamesAsk, told_names, unless_refused, refused_as, plan_call, plan_named, plan_names, plan_access, plan_after, plan_open, plan_found, plan_received, plan_try, further_tries, asking_names, comes, heard, holding, opened, opening, over, reply_of, sent, trial_of}
use Rattle.script_meaning.specs.Fits.{Gone}
use Rattle.script_meaning.proofs.Parts.{did_nothing, did_then, went_of, went_lacks, gone_as, gone_none, gone_named, gone_unnamed, gone_lacks, comes_here, sent_here}
use Rattle.spr_volume.specs.declared.answered.Answered.{Answered}
use Rattle.spr_volume.specs.Passes.{VolumeSeen, Knows, as_known}
use Rattle.spr_client.specs.Calls.{CallDone, MayCall, NamesDone, histories, refusal_of}
use Rattle.spr_client.specs.Lines.{LineDone, OthersIdle, PlanDone}
use Rattle.spr_client.proofs.CallLaws.{line_end, line_err, line_then, called_other, told_of, told_bytes}
use Rattle.spr_client.proofs.NamesLaws.{entered, unnamed, memory_or, some_same}

-- nobody did anything
pub idle-same : (mount : Mount) (caller : ℕ) (p : Knows) → OthersIdle mount caller p p
idle-same mount caller p = λ other ne low high. did_nothing other (histories mount p) (histories mount p) refl

-- a line follows its plan
pub line_of : (mount : Mount) (caller : ℕ) (kept : ClientState) (p : Plan) (old new : Knows) (said : Reply) (left : ClientState) → PlanDone mount caller p old new said left → LineDone mount caller kept p old new said left
line_of mount caller kept p old new said left done = record {
  pass = done.pass;
  went = went_of caller kept p (histories mount old) (histories mount new) said left done.gone;
  others = done.others;
}

-- a plan that makes no call
pub plan-none : (mount : Mount) (caller : ℕ) (p : Plan) (pass : Knows) (reply : Reply) (left : ClientState) → p ≡ ends reply left → PlanDone mount caller p pass pass reply left
plan-none mount caller p pass reply left is = record { pass = refl; gone = gone_none caller p (histories mount pass) reply left is; others = idle-same mount caller pass }

-- a line that makes no call
pub done-none : (mount : Mount) (caller : ℕ) (kept : ClientState) (p : Plan) (pass : Knows) (reply : Reply) (left : ClientState) → p ≡ ends reply left → LineDone mount caller kept p pass pass reply left
done-none mount caller kept p pass reply left is = line_of mount caller kept p pass pass reply left (plan-none mount caller p pass reply left is)

-- a line for which memory lacked
pub done-lacks : (mount : Mount) (caller : ℕ) (kept : ClientState) (p : Plan) (pass : Knows) → LineDone mount caller kept p pass pass replies.Memory kept
done-lacks mount caller kept p pass = record { pass = refl; went = went_lacks caller kept p (histories mount pass); others = idle-same mount caller pass }

-- a plan of a call at a file for which memory lacked
pub plan-lacks : (mount : Mount) (caller : ℕ) (p : Plan) (request : Request) (state : ClientState) (go_on : Told → Plan) (pass : Knows) → p ≡ calls request state go_on → PlanDone mount caller p pass pass replies.Memory state
plan-lacks mount caller p request state go_on pass is = record {
  pass = refl;
  gone = gone_lacks caller p request state go_on (histories mount pass) (histories mount pass) is (did_nothing caller (histories mount pass) (histories mount pass) refl);
  others = idle-same mount caller pass;
}

-- a plan of one call that was answered
pub plan-ok : (mount : Mount) (v : VolumeSeen) (caller : ℕ) (p : Plan) (request : Request) (state : ClientState) (go_on : Told → Plan) (old new : Knows) (out : List ℕ) (a : Answered) (said : Reply) (left : ClientState)
    → MayCall mount v old caller → p ≡ calls request state go_on → comes (over request state) ≡ true → (called : CallDone caller request old new out (Ok a))
    → ((t : Told) → t.answer ≡ a.answer → (a.answer ≡ answers.Bytes → t.bytes ≡ out) → go_on t ≡ ends said left) → PlanDone mount caller p old new said left
plan-ok mount v caller p request state go_on old new out a said left may is came called end = record {
  pass = called.pass;
  gone = line_end mount caller p request state go_on old new out a said left is came may.first may.last called
      (end (told_of called.here.ends.0 a.answer) refl (told_bytes called.here.ends.0 a.answer out called.here.ends.3.bytes));
  others = λ other ne low high. called_other mount caller other request old new out (Ok a) ne low high called;
}

-- a plan of one call that was refused, whatever it would have done then
pub plan-refused : (mount : Mount) (v : VolumeSeen) (caller : ℕ) (p : Plan) (request : Request) (state : ClientState) (go_on : Told → Plan) (old new : Knows) (out : List ℕ) (err : StepErr) (said : Reply)
    → MayCall mount v old caller → p ≡ calls request state go_on → over request state ≡ None → CallDone caller request old new out (Err err) → said ≡ refusal_of err → PlanDone mount caller p old new said state
plan-refused mount v caller p request state go_on old new out err said may is here called same = record {
  pass = called.pass;
  gone = subst (λ (r : Reply). Gone caller p (histories mount old) (histories mount new) r state) (sym same) (line_err mount caller p request state go_on old new out err is here may.first may.last called);
  others = λ other ne low high. called_other mount caller other request old new out (Err err) ne low high called;
}

-- a line of one call that was refused
pub done-refused : (mount : Mount) (v : VolumeSeen) (caller : ℕ) (kept : ClientState) (p : Plan) (request : Request) (state : ClientState) (go_on : Told → Plan) (old new : Knows) (out : List ℕ) (err : StepErr) (said : Reply)
    → MayCall mount v old caller → p ≡ calls request state go_on → over request state ≡ None → CallDone caller request old new out (Err err) → said ≡ refusal_of err → LineDone mount caller kept p old new said state
done-refused mount v caller kept p request state go_on old new out err said may is here called same =
    line_of mount caller kept p old new said state (plan-refused mount v caller p request state go_on old new out err said may is here called same)

-- a line of one call whose answer is the line's
pub done-answered : (mount : Mount) (v : VolumeSeen) (caller : ℕ) (kept : ClientState) (request : Request) (state : ClientState) (old new : Knows) (out : List ℕ) (a : Answered) (said : Reply)
    → MayCall mount v old caller → over request state ≡ None → CallDone caller request old new out (Ok a) → ((t : Told) → t.answer ≡ a.answer → (a.answer ≡ answers.Bytes → t.bytes ≡ out) → said ≡ reply_of t)
    → LineDone mount caller kept (plan_call state request) old new said state
done-answered mount v caller kept request state old new out a said may here called is =
    line_of mount caller kept (plan_call state request) old new said state
    (plan-ok mount v caller (plan_call state request) request state (λ (t : Told). ends (reply_of t) (sent request state)) old new out a said state may refl (comes_here (over request state) here)
    called (λ t answer bytes. ap (λ (r : Reply). ends r (sent request state)) (sym (is t answer bytes)) ∙ ap (ends said) (sent_here request state here)))

-- a call on the names that was refused ends the line
pub plan-names-refused : (mount : Mount) (v : VolumeSeen) (caller : ℕ) (kept : ClientState) (p : Plan) (ask : NamesAsk) (go_on : List Name → Plan) (stored : Option Held) (Tells : List Name → Type 0) (old new : Knows) (err : NameErr) (said : Reply)
    → MayCall mount v old caller → p ≡ plan_names kept ask go_on → NamesDone v caller ask stored Tells old new (Some err) → said ≡ refused_as ask.path err → PlanDone mount caller p old new said kept
plan-names-refused mount v caller kept p ask go_on stored Tells old new err said may is done same =
    by_memory (memory_or err)
  where
    by_memory : (err ≢ errs.Memory) ⊎ (err ≡ errs.Memory) → PlanDone mount caller p old new said kept
    by_memory (inl n) =
        let made = entered mount v caller ask stored Tells old new (Some err) may.stack.names done (λ e. n (some_same err errs.Memory e)) in
        let told : told_names made.item ≡ record { refused = Some err; names = made.item.names } = ap (λ (r : Option NameErr). record { refused = r; names = made.item.names }) made.refused_is in
        let end : unless_refused kept ask.path made.item.entry.refused (go_on made.item.names) ≡ ends said kept =
        ap (λ (r : Option NameErr). unless_refused kept ask.path r (go_on made.item.names)) made.refused_is ∙ ap (λ (r : Reply). ends r kept) (sym same) in
        record {
          pass = done.1.pass;
          gone = gone_named caller p ask kept (λ t. unless_refused kept ask.path t.refused (go_on t.names)) (histories mount old) (histories mount new) (histories mount new) made.item said kept is
              (made.own may.first may.last) made.asks (gone_none caller (unless_refused kept ask.path made.item.entry.refused (go_on made.item.names)) (histories mount new) said kept end);
          others = λ other ne low high. made.others other ne low high;
        }
    by_memory (inr m) =
        let lacked = subst (λ (e : NameErr). NamesDone v caller ask stored Tells old new (Some e)) m done in
        record {
          pass = done.1.pass;
          gone = subst (λ (r : Reply). Gone caller p (histories mount old) (histories mount new) r kept) (sym (same ∙ ap (refused_as ask.path) m))
              (gone_unnamed caller p ask kept (λ t. unless_refused kept ask.path t.refused (go_on t.names)) (histories mount old) (histories mount new) is
              (unnamed mount v caller ask stored Tells old new may.stack.names lacked caller may.first may.last));
          others = λ other ne low high. unnamed mount v caller ask stored Tells old new may.stack.names lacked other low high;
        }

pub names-refused : (mount : Mount) (v : VolumeSeen) (caller : ℕ) (kept : ClientState) (p : Plan) (ask : NamesAsk) (go_on : List Name → Plan) (stored : Option Held) (Tells : List Name → Type 0) (old new : Knows) (err : NameErr) (said : Reply)
    → MayCall mount v old caller → p ≡ plan_names kept ask go_on → NamesDone v caller ask stored Tells old new (Some err) → said ≡ refused_as ask.path err → LineDone mount caller kept p old new said kept
names-refused mount v caller kept p ask go_on stored Tells old new err said may is done same =
    line_of mount caller kept p old new said kept (plan-names-refused mount v caller kept p ask go_on stored Tells old new err said may is done same)

-- memory lacked for a call on the names
pub plan-names-lacks : (mount : Mount) (caller : ℕ) (kept : ClientState) (p : Plan) (ask : NamesAsk) (go_on : List Name → Plan) (pass : Knows) → p ≡ plan_names kept ask go_on → PlanDone mount caller p pass pass replies.Memory kept
plan-names-lacks mount caller kept p ask go_on pass is = record {
  pass = refl;
  gone = gone_unnamed caller p ask kept (λ t. unless_refused kept ask.path t.refused (go_on t.names)) (histories mount pass) (histories mount pass) is (did_nothing caller (histories mount pass) (histories mount pass) refl);
  others = idle-same mount caller pass;
}

pass_then : (a b c : Knows) → b ≡ as_known a b → c ≡ as_known b c → c ≡ as_known a c
pass_then a b c f g = g ∙ ap (λ (p : Knows). as_known p c) f

-- a call on the names that was not refused, and what the line does then
pub plan-names-then : (mount : Mount) (v : VolumeSeen) (caller : ℕ) (kept : ClientState) (p : Plan) (ask : NamesAsk) (go_on : List Name → Plan) (stored : Option Held) (Tells : List Name → Type 0) (old mid new : Knows) (said : Reply) (left : ClientState)
    → MayCall mount v old caller → p ≡ plan_names kept ask go_on → NamesDone v caller ask stored Tells old mid None
    → ((names : List Name) → Tells names → PlanDone mount caller (go_on names) mid new said left) → PlanDone mount caller p old new said left
plan-names-then mount v caller kept p ask go_on stored Tells old mid new said left may is done onward =
    let made = entered mount v caller ask stored Tells old mid None may.stack.names done (λ e. absurd cc) in
    let names = made.item.names in
    let rest = onward names made.tells in
    let go : unless_refused kept ask.path made.item.entry.refused (go_on names) ≡ go_on names = ap (λ (r : Option NameErr). unless_refused kept ask.path r (go_on names)) made.refused_is in
    let first_is : mid.first ≡ old.first = ap (λ (k : Knows). k.first) done.1.pass in
    let end_is : mid.end ≡ old.end = ap (λ (k : Knows). k.end) done.1.pass in
    record {
      pass = pass_then old mid new done.1.pass rest.pass;
      gone = gone_named caller p ask kept (λ t. unless_refused kept ask.path t.refused (go_on t.names)) (histories mount old) (histories mount mid) (histories mount new) made.item said left is
          (made.own may.first may.last) made.asks (gone_as caller (go_on names) (unless_refused kept ask.path made.item.entry.refused (go_on names)) (histories mount mid) (histories mount new) said left go rest.gone);
      others = λ other ne low high. did_then other (histories mount old) (histories mount mid) (histories mount new) [] [] (made.others other ne low high)
          (rest.others other ne (subst (λ (n : ℕ). n ≤ other) (sym first_is) low) (subst (λ (n : ℕ). other < n) (sym end_is) high));
    }

pub names-then : (mount : Mount) (v : VolumeSeen) (caller : ℕ) (kept : ClientState) (p : Plan) (ask : NamesAsk) (go_on : List Name → Plan) (stored : Option Held) (Tells : List Name → Type 0) (old mid new : Knows) (said : Reply) (left : ClientState)
    → MayCall mount v old caller → p ≡ plan_names kept ask go_on → NamesDone v caller ask stored Tells old mid None
    → ((names : List Name) → Tells names → PlanDone mount caller (go_on names) mid new said left) → LineDone mount caller kept p old new said left
names-then mount v caller kept p ask go_on stored Tells old mid new said left may is done onward =
    line_of mount caller kept p old new said left (plan-names-then mount v caller kept p ask go_on stored Tells old mid new said left may is done onward)

-- a call at a file that was answered, and what the plan does then
pub plan-then : (mount : Mount) (v : VolumeSeen) (caller : ℕ) (p : Plan) (request : Request) (state : ClientState) (go_on : Told → Plan) (old mid new : Knows) (out : List ℕ) (a : Answered) (said : Reply) (left : ClientState)
    → MayCall mount v old caller → p ≡ calls request state go_on → comes (over request state) ≡ true → (called : CallDone caller request old mid out (Ok a))
    → PlanDone mount caller (go_on (told_of called.here.ends.0 a.answer)) mid new said left → PlanDone mount caller p old new said left
plan-then mount v caller p request state go_on old mid new out a said left may is came called rest =
    let first_is : mid.first ≡ old.first = ap (λ (k : Knows). k.first) called.pass in
    let end_is : mid.end ≡ old.end = ap (λ (k : Knows). k.end) called.pass in
    record {
      pass = pass_then old mid new called.pass rest.pass;
      gone = line_then mount caller p request state go_on old mid new out a said left is came may.first may.last called rest.gone;
      others = λ other ne low high. did_then other (histories mount old) (histories mount mid) (histories mount new) [] []
          (called_other mount caller other request old mid out (Ok a) ne low high called)
          (rest.others other ne (subst (λ (n : ℕ). n ≤ other) (sym first_is) low) (subst (λ (n : ℕ). other < n) (sym end_is) high));
    }

-- whoever might call may still call behind another call
pub may-still : (mount : Mount) (v : VolumeSeen) (old new : Knows) (caller : ℕ) → MayCall mount v old caller → new ≡ as_known old new → MayCall mount v new caller
may-still mount v old new caller may is = subst (λ (p : Knows). MayCall mount v p caller) (sym is) (record { stack = may.stack; of = may.of; first = may.first; last = may.last })

-- a call on the names that was not refused ended the line
pub names-end : (mount : Mount) (v : VolumeSeen) (caller : ℕ) (kept : ClientState) (p : Plan) (ask : NamesAsk) (go_on : List Name → Plan) (stored : Option Held) (Tells : List Name → Type 0) (old new : Knows) (said : Reply)
    → MayCall mount v old caller → p ≡ plan_names kept ask go_on → NamesDone v caller ask stored Tells old new None
    → ((names : List Name) → Tells names → go_on names ≡ ends said kept) → LineDone mount caller kept p old new said kept
names-end mount v caller kept p ask go_on stored Tells old new said may is done end =
    names-then mount v caller kept p ask go_on stored Tells old new new said kept may is done
    (λ names tells. plan-none mount caller (go_on names) new said kept (end names tells))

-- the plan of a line whose object is not open
pub named-none : (state : ClientState) (o : Option Target) (go_on : Target → Plan) → o ≡ None → plan_named state o go_on ≡ ends replies.NoObject state
named-none state o go_on none = ap (λ (x : Option Target). plan_named state x go_on) none

pub named-some : (state : ClientState) (o : Option Target) (object : Target) (go_on : Target → Plan) → o ≡ Some object → plan_named state o go_on ≡ go_on object
named-some state o object go_on some = ap (λ (x : Option Target). plan_named state x go_on) some

-- an access that does not fit makes no call
pub access-unfit : (mount : Mount) (state : ClientState) (name word : List ℕ) (op : Op) (object : Target) → fits_page mount.page_size (pages_of mount object.file) op ≡ false → plan_access mount state name word op object ≡ ends replies.NotOnePage state
access-unfit mount state name word op object unfit = rw unfit refl

-- an access of an object that is not reconnectable makes one call
few_tries : (kind : ObjectKind) → kind ≢ Reconnectable → further_tries kind ≡ 0
few_tries Singleton other = refl
few_tries Cluster other = refl
few_tries Caching other = refl
few_tries Reconnectable other = absurd (other refl)

pub access-once : (mount : Mount) (state : ClientState) (name word : List ℕ) (op : Op) (object : Target) → object.kind ≢ Reconnectable → fits_page mount.page_size (pages_of mount object.file) op ≡ true
    → plan_access mount state name word op object ≡ plan_call state (trial_of mount state object op)
access-once mount state name word op object other fit =
    ap (λ (n : ℕ). plan_try mount op (plan_after mount n name (unwrap_or (path_of word) []) op) state object) (few_tries object.kind other) ∙ (rw fit refl)

pub access-again : (mount : Mount) (state : ClientState) (name word : List ℕ) (path : List (List ℕ)) (op : Op) (object : Target) → object.kind ≡ Reconnectable → Some path ≡ path_of word
    → plan_access mount state name word op object ≡ plan_try mount op (plan_after mount 2 name path op) state object
access-again mount state name word path op object kind is =
    ap (λ (k : ObjectKind). plan_try mount op (plan_after mount (further_tries k) name (unwrap_or (path_of word) []) op) state object) kind
    ∙ ap (λ (o : Option (List (List ℕ))). plan_try mount op (plan_after mount 2 name (unwrap_or o []) op) state object) (sym is)

pub open-exists : (mount : Mount) (state : ClientState) (name : List ℕ) (path : List (List ℕ)) (taken : Bool) → taken ≡ true → plan_open mount state name path taken ≡ ends replies.ObjectExists state
open-exists mount state name path taken is = ap (λ (x : Bool). plan_open mount state name path x) is

pub open-new : (mount : Mount) (state : ClientState) (name : List ℕ) (path : List (List ℕ)) (taken : Bool) → taken ≡ false
    → plan_open mount state name path taken ≡ plan_names state (asking_names calls_of.Resolve (Some path)) (λ names. plan_received mount state name (kept_at names path) (received_doors mount (kept_at names path)))
open-new mount state name path taken is = ap (λ (x : Bool). plan_open mount state name path x) is

-- the same line, with the plan written otherwise
pub done-as : (mount : Mount) (caller : ℕ) (kept : ClientState) (p q : Plan) (old new : Knows) (said : Reply) (left : ClientState) → q ≡ p → LineDone mount caller kept p old new said left → LineDone mount caller kept q old new said left
done-as mount caller kept p q old new said left is done = subst (λ (x : Plan). LineDone mount caller kept x old new said left) (sym is) done

-- the same line, with the state that it leaves written otherwise
pub done-left : (mount : Mount) (caller : ℕ) (kept : ClientState) (p : Plan) (old new : Knows) (said : Reply) (left left' : ClientState) → left' ≡ left → LineDone mount caller kept p old new said left → LineDone mount caller kept p old new said left'
done-left mount caller kept p old new said left left' is done = subst (λ (x : ClientState). LineDone mount caller kept p old new said x) (sym is) done

-- an empty slice stays empty
pub no-bytes : (xs : List ℕ) → length xs ≡ 0 → xs ≡ []
no-bytes [] e = refl
no-bytes (x ∷ xs) e = absurd (omega arith)

-- a clone of bytes has the bytes
pub clone-is : (xs ys : List ℕ) → AllZip (λ x y. y ≡ x) xs ys → ys ≡ xs
clone-is xs ys each = AllZip-map (λ n. n) xs ys each ∙ map-id xs

-- what is received makes no call where memory lacks
pub found-lacks : (mount : Mount) (caller : ℕ) (state : ClientState) (name word : List ℕ) (found : Option Target) (pass : Knows) → IsSome found → PlanDone mount caller (plan_found mount state name word found) pass pass replies.Memory state
found-lacks mount caller state name word None pass some = absurd cc
found-lacks mount caller state name word (Some target) pass some =
    plan-lacks mount caller (plan_found mount state name word (Some target)) (opening mount state target) state (λ told. ends (reply_of told) (holding (sent (opening mount state target) state) (with_object state.objects name (opened target told) word))) pass refl
