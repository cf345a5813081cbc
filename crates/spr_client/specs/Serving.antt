-- A client's call on another machine: what its frame says, and what serving it does.
use Rattle.std.specs.Prelude.{◌≡◌, ◌⊎◌, ℕ, zero, suc, ◌<◌, List, length, IsTrue, Option, Some, None, Result, Ok, Err}
use Rattle.hist_plain.specs.declared.event.Keep.{Keep}
use Rattle.hist_plain.specs.declared.event.Keep.TheVariants as keeps
use Rattle.hist_plain.specs.Event.{fits_page}
use Rattle.hist_plain.specs.Plain.{Told, asked_by}
use Rattle.pager_channel.specs.declared.numbers.Ops.{Ops}
use Rattle.stack_accept.specs.Mount.{Mount}
use Rattle.file_frames.specs.declared.call.FileCall.{FileCall}
use Rattle.file_frames.specs.declared.call.Received.{Received}
use Rattle.pager_channel.specs.Frame.{IsFrame}
use Rattle.file_frames.specs.Frames.{call_bytes, frame_of_call}
use Rattle.client_objects.specs.declared.target.Target.{Target}
use Rattle.client_objects.specs.declared.target.Way.{Way}
use Rattle.client_objects.specs.Found.{IsChosen}
use Rattle.client_objects.specs.Objects.{OpenObject}
use Rattle.client_objects.specs.Ways.{IsWay}
use Rattle.client_replicas.specs.declared.replicas.OpenReplicon.{OpenReplicon}
use Rattle.link_lossy.specs.declared.request.Request.{Request as Packed}
use Rattle.link_lossy.specs.Reading.{request_at}
use Rattle.link_lossy.specs.declared.serve.Served.{Served}
use Rattle.link_lossy.specs.declared.refusal.LinkErr.{LinkErr}
use Rattle.link_lossy.specs.declared.refusal.LinkErr.TheVariants as failures
use Rattle.link_lossy.specs.Services.{is_memory}
use Rattle.link_lossy.specs.Carriers.{Answers, CarrierSeen, Fails}
use Rattle.link_lossy.specs.declared.serve.ServeErr.{ServeErr}
use Rattle.link_lossy.specs.declared.serve.ServeErr.TheVariants as refusals
use Rattle.stack_engine.specs.declared.refusal.StepErr.{StepErr}
use Rattle.stack_engine.specs.declared.refusal.StepErr.TheVariants as errs
use Rattle.spr_volume.specs.declared.answered.Answered.{Answered}
use Rattle.spr_volume.specs.Passes.{Knows, VolumeSeen}
use Rattle.script_meaning.specs.Stack.{pages_of}
use Rattle.script_meaning.specs.Plan.{Ask, Plan, Request, access, calls, sent, sync}
use Rattle.client_objects.specs.declared.state.ClientState.{ClientState}
use Rattle.hist_plain.specs.declared.event.Answer.{Answer}
use Rattle.hist_plain.specs.declared.event.Answer.TheVariants as answers
use Rattle.script_text.specs.declared.script.Reply.{Reply}
use Rattle.script_text.specs.declared.script.Reply.TheVariants as replies
use Rattle.spr_client.specs.Calls.{CallDone, MayCall, refusal_of}
use Rattle.spr_client.specs.Lines.{LeadsOn, PlanDone}

-- which right a sync keeps, by the number that its request has in place of a life
abbrev pub keep_of : ℕ → Keep
keep_of zero = keeps.Write
keep_of (suc n) = keeps.Read

abbrev pub keep_number : Keep → ℕ
keep_number keeps.Write = 0
keep_number keeps.Read = 1

-- what a call asks at a node; of a sync the life says which right is kept
abbrev pub ask_by : ℕ → ℕ → FileCall → Ask
ask_by node life (FileCall.Access op) = access node life op
ask_by node life FileCall.Sync = sync node (keep_of life)

-- how many bytes it reads
abbrev pub asked_in : FileCall → ℕ
asked_in (FileCall.Access op) = asked_by op
asked_in FileCall.Sync = 0

-- it is within one page of the file
abbrev pub FitsFile : Mount → ℕ → FileCall → Type 0
FitsFile mount file (FileCall.Access op) = IsTrue (fits_page mount.page_size (pages_of mount file) op)
FitsFile mount file FileCall.Sync = Unit {0}

-- calls of an object of one door go to its file, at a layer of the stack above the ground
pub record IsRoute (mount : Mount) (target : Target) (node : ℕ) : Type 0 where
  pub chosen : IsChosen target
  pub file : target.file < length mount.files
  pub above : 0 < node
  pub inside : node < length mount.tree.parents

-- and the same of an object of which frames say this
pub record IsWayTo (mount : Mount) (way : Way) (node : ℕ) : Type 0 where
  pub said : IsWay way
  pub file : way.file < length mount.files
  pub above : 0 < node
  pub inside : node < length mount.tree.parents

-- the frame of a call on an object
abbrev pub frame_on : Mount → Ops → Way → FileCall → List ℕ
frame_on mount ops way call = call_bytes ops mount.page_size way.sub way.tag call

-- what serving answers, as an answer of the volume
abbrev pub volume_answer : Result Served ServeErr → Result Answered StepErr
volume_answer (Ok served) = Ok (record { answer = served.answer; place = served.place })
volume_answer (Err (refusals.StoreFault disk count)) = Err (errs.StoreFault disk count)
volume_answer (Err refusals.TrailFull) = Err errs.TrailFull
volume_answer (Err refusals.Memory) = Err errs.Memory

-- the request of a call on an object, as it arrives
pub record IsRequestOf (mount : Mount) (ops : Ops) (caller life : ℕ) (way : Way) (call : FileCall) (bytes : List ℕ) : Type 0 where
  pub number : ℕ
  pub request : Packed
  pub read : request_at bytes ≡ Ok (number, request)
  pub caller_is : request.caller ≡ caller
  pub life_is : request.life ≡ life
  pub frame_is : request.packet.frame ≡ frame_on mount ops way call

-- A REQUEST THAT MAY BE SERVED for an object: its call has a frame and fits the file, its caller may call, and `out` has as many bytes as it reads
pub record MayServe (mount : Mount) (ops : Ops) (v : VolumeSeen) (p : Knows) (way : Way) (bytes : List ℕ) (len : ℕ) : Type 0 where
  pub caller : ℕ
  pub life : ℕ
  pub call : FileCall
  pub request_is : IsRequestOf mount ops caller life way call bytes
  pub framed : IsFrame ops (frame_of_call ops mount.page_size way.sub way.tag call)
  pub may : MayCall mount v p caller
  pub fits : FitsFile mount way.file call
  pub long : len ≡ asked_in call

-- what was read of a call's frame
pub record IsReceivedAs (way : Way) (call : FileCall) (received : Received) : Type 0 where
  pub subcontract_is : received.subcontract ≡ way.sub
  pub tag_is : received.tag ≡ way.tag
  pub call_is : received.call ≡ call

-- the state with these objects open, of one door and of several
abbrev pub having : List OpenObject → List OpenReplicon → ClientState → ClientState
having objects replicas state = record state { objects = objects; replicas = replicas }

-- A CALL CAME BACK, and the state is what it left: whatever its line does then, by what the call was told, it does from here
pub record CameBack (mount : Mount) (caller : ℕ) (request : Request) (old new : Knows) (state left : ClientState) (out : List ℕ) (answer : Answer) : Type 0 where
  pub told : Told
  pub answer_is : told.answer ≡ answer
  pub bytes_are : answer ≡ answers.Bytes → told.bytes ≡ out
  pub left_is : left ≡ sent request state
  pub onward : (go_on : Told → Plan) → LeadsOn mount caller (calls request state go_on) (go_on told) old new

-- what a call of a client at a file did: it came back, or it ended its line with this answer
abbrev pub CallMade : Mount → ℕ → Request → Knows → Knows → ClientState → ClientState → List ℕ → Result Answer Reply → Type 0
CallMade mount caller request old new state left out (Ok answer) = CameBack mount caller request old new state left out answer
CallMade mount caller request old new state left out (Err reply) = (go_on : Told → Plan) → PlanDone mount caller (calls request state go_on) old new reply left

-- what a line is answered by a call at the volume, if memory did not run out before it
abbrev pub heard_here : Option (Result Answered StepErr) → Result Answer Reply
heard_here (Some (Ok answered)) = Ok answered.answer
heard_here (Some (Err err)) = Err (refusal_of err)
heard_here None = Err replies.Memory

-- and by one that was carried
abbrev pub heard_there : Result Served LinkErr → Result Answer Reply
heard_there (Ok served) = Ok served.answer
heard_there (Err (failures.Link count)) = Err (replies.Link count)
heard_there (Err (failures.StoreFault disk count)) = Err (replies.Store disk count)
heard_there (Err failures.TrailFull) = Err replies.TrailFull
heard_there (Err failures.Memory) = Err replies.Memory

-- what serving did: the call at the volume; or nothing, since memory lacked for the call that was read
abbrev pub Serves : ℕ → Request → Knows → Knows → List ℕ → Result Served ServeErr → Type 0
Serves caller request old new out served = CallDone caller request old new out (volume_answer served) ⊎ ((new ≡ old) × (served ≡ Err refusals.Memory))

-- a call that was carried, and served: how it ended, by what it did at the volume
pub record IsServed (caller : ℕ) (request : Request) (old new : Knows) (before after : CarrierSeen) (out : List ℕ) (r : Result Served LinkErr) : Type 0 where
  pub served : Result Served ServeErr
  pub left : List ℕ
  pub done : Serves caller request old new left served
  pub ends : Answers (is_memory served) before after served left out r

-- A CALL WAS CARRIED: its request did not arrive, or it was served once
abbrev pub IsCarried : ℕ → Request → Knows → Knows → CarrierSeen → CarrierSeen → List ℕ → Result Served LinkErr → Type 0
IsCarried caller request old new before after out r =
    ((e : LinkErr) × (r ≡ Err e) × Fails before after e × (new ≡ old)) ⊎ IsServed caller request old new before after out r
