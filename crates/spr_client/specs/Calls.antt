-- A call of a client at one of the files or on the names, and what a refused one answers.
use Rattle.std.specs.Prelude.{◌≡◌, ℕ, ◌<◌, ◌≤◌, List, [], ◌∷◌, map, Option, Result}
use Rattle.std.specs.Option.{option_map}
use Rattle.hist_plain.specs.declared.event.Event.{Event}
use Rattle.page_messages.specs.declared.paged.PagedFile.{PagedFile}
use Rattle.script_text.specs.declared.script.Reply.{Reply}
use Rattle.script_text.specs.declared.script.Reply.TheVariants as replies
use Rattle.stack_accept.specs.Mount.{Mount}
use Rattle.stack_accept.specs.declared.entries.FileEntry.{FileEntry}
use Rattle.tower_core.specs.TreeShape.{TreeShape}
use Rattle.tower_log.specs.Log.{place_of}
use Rattle.marshal_buf.specs.Held.{Held}
use Rattle.name_context.specs.declared.entry.NameErr.{NameErr}
use Rattle.name_context.specs.Names.{Name, kept_object}
use Rattle.client_objects.specs.Views.{names_at_start}
use Rattle.script_meaning.specs.Log.{Histories}
use Rattle.script_meaning.specs.Plan.{Ask, NamesAsk, Request, access, release, revoke, sync}
use Rattle.stack_engine.specs.declared.ends.End.{End}
use Rattle.stack_engine.specs.declared.refusal.StepErr.{StepErr}
use Rattle.stack_engine.specs.declared.refusal.StepErr.TheVariants.{StoreFault, TrailFull, Memory}
use Rattle.stack_engine.specs.Engine.{file_in, tree_in}
use Rattle.stack_engine.specs.Tower.{TowerSeen}
use Rattle.spr_volume.specs.declared.answered.Answered.{Answered}
use Rattle.spr_volume.specs.Calls.{CalledAt, CalledNames, IsAccess, IsEnd, IsSync}
use Rattle.spr_volume.specs.Passes.{VolumeSeen, IsOf, Knows, known}

-- what no call changes of a tower: its layers, and its file
pub record Frame : Type 0 where
  pub tree : TreeShape
  pub file : PagedFile

abbrev pub frame_of : TowerSeen → Frame
frame_of t = record { tree = tree_in t.engine; file = file_in t.engine }

abbrev pub frames : List TowerSeen → List Frame
frames towers = map frame_of towers

-- a frame for each file of a stack
abbrev pub AreFrames : Mount → List FileEntry → List Frame → Type 0
AreFrames mount [] [] = Unit {0}
AreFrames mount [] (frame ∷ more) = ⊥
AreFrames mount (file ∷ files) [] = ⊥
AreFrames mount (file ∷ files) (frame ∷ more) =
    (frame.tree ≡ mount.tree) × (frame.file.page_size ≡ mount.page_size) × (frame.file.pages ≡ file.pages) × AreFrames mount files more

-- the towers are those of the stack, one for each file
abbrev pub AreOfStack : Mount → List TowerSeen → Type 0
AreOfStack mount towers = AreFrames mount mount.files (frames towers)

-- the volume is of the stack: it has a tower for each file, and its names began as the stack's
pub record IsOfStack (mount : Mount) (v : VolumeSeen) : Type 0 where
  pub towers : AreOfStack mount v.towers
  pub names : v.names.began ≡ names_at_start mount

-- A CALLER THAT MAY CALL: the volume is of the stack, the pass is of the volume, and the caller is one of the pass
pub record MayCall (mount : Mount) (v : VolumeSeen) (p : Knows) (caller : ℕ) : Type 0 where
  pub stack : IsOfStack mount v
  pub of : IsOf v p
  pub first : p.first ≤ caller
  pub last : caller < p.end

-- the event is what the caller asks, after these events; a sync is from no place before this one
abbrev pub IsAsked : ℕ → ℕ → Ask → List Event → Event → Type 0
IsAsked caller least (access node life op) = IsAccess caller node life op
IsAsked caller least (sync node keep) = IsSync caller node keep least
IsAsked caller least (revoke node) = IsEnd caller node End.Destroy
IsAsked caller least (release node) = IsEnd caller node End.Done

-- what a line asks that ends a layer's channels
abbrev pub ask_of : End → ℕ → Ask
ask_of End.Destroy node = revoke node
ask_of End.Done node = release node

-- a call at one of the files
abbrev pub CallDone : ℕ → Request → Knows → Knows → List ℕ → Result Answered StepErr → Type 0
CallDone caller request old new out r = CalledAt request.file caller (IsAsked caller (place_of (known old request.file)) request.ask) old new out r

-- a call on the names
abbrev pub NamesDone : VolumeSeen → ℕ → NamesAsk → Option Held → (List Name → Type 0) → Knows → Knows → Option NameErr → Type 0
NamesDone v caller ask stored Tells old new refused =
    (option_map kept_object stored ≡ ask.bound) × CalledNames v caller ask.call ask.path stored Tells old new refused

-- what a pass knows of a volume of the stack
abbrev pub histories : Mount → Knows → Histories
histories mount p = record { logs = p.logs; names = record { began = names_at_start mount; history = p.history } }

-- what a refused call answers a line of the script
abbrev pub refusal_of : StepErr → Reply
refusal_of (StoreFault disk count) = replies.Store disk count
refusal_of TrailFull = replies.TrailFull
refusal_of Memory = replies.Memory
