-- What an access of a replicon object says of its doors.
use Rattle.std.specs.Prelude.{◌≡◌, ◌⊎◌, ℕ, List, [], ◌∷◌, ◌++◌, Some}
use Rattle.hist_plain.specs.declared.event.Answer.TheVariants as answers
use Rattle.hist_plain.specs.declared.event.Op.{Op}
use Rattle.hist_plain.specs.History.{Entry}
use Rattle.hist_plain.specs.Plain.{Told}
use Rattle.script_text.specs.declared.script.Reply.{Reply}
use Rattle.script_text.specs.declared.script.Reply.TheVariants as replies
use Rattle.stack_accept.specs.Mount.{Mount}
use Rattle.client_objects.specs.declared.state.ClientState.{ClientState}
use Rattle.client_replicas.specs.declared.door.OpenDoor.{OpenDoor}
use Rattle.client_replicas.specs.Objects.{doors_of}
use Rattle.script_meaning.specs.Log.{Histories, IsFull, entered}
use Rattle.script_meaning.specs.Plan.{Asks, Goes, Made, access, at_file, plan_by_doors}

-- the event was answered that this life has begun
pub record ToldOver (e : Entry) (n : ℕ) : Type 0 where
  pub told : Told
  pub is : e.told ≡ Some told
  pub over : told.answer ≡ answers.Revoked n

-- what was made is the access by this door, answered so
abbrev pub IsOver : ℕ → Op → OpenDoor → Made → ℕ → Type 0
IsOver caller op door (at_file file (entered e)) n = (file ≡ door.file) × Asks caller (access door.view door.life op) e.event × ToldOver e n
IsOver caller op door made n = ⊥

-- the access was made by each of the doors, in order, and answered so; by the last with this life
abbrev pub EachOver : ℕ → Op → List OpenDoor → List Made → ℕ → Type 0
EachOver caller op (door ∷ []) (made ∷ []) n = IsOver caller op door made n
EachOver caller op (door ∷ next ∷ doors) (made ∷ more) n = ((k : ℕ) × IsOver caller op door made k) × EachOver caller op (next ∷ doors) more n
EachOver caller op doors made n = ⊥

-- it was made by each of these doors, in order, and answered so, before whatever came then
abbrev pub FirstOver : ℕ → Op → List OpenDoor → List Made → Type 0
FirstOver caller op [] made = Unit {0}
FirstOver caller op (door ∷ doors) (made ∷ more) = ((k : ℕ) × IsOver caller op door made k) × FirstOver caller op doors more
FirstOver caller op doors made = ⊥

-- A LINE ON A REPLICON OBJECT IS ANSWERED `revoked` only if the access was made by each door that the object had, and answered so by each; and
-- the life is the last one's
abbrev pub RevokedByEach : Type 0
RevokedByEach = (new : Histories) (caller : ℕ) (mount : Mount) (state left : ClientState) (name : List ℕ) (op : Op) (door : OpenDoor) (more : List OpenDoor) (made : List Made) (n : ℕ)
    → Goes (IsFull new) caller (plan_by_doors mount state name op door more) made (replies.Revoked n) left → EachOver caller op (door ∷ more) made n

-- the answer tells that a call was lost
abbrev pub IsLink : Reply → Type 0
IsLink (replies.Link count) = Unit {0}
IsLink reply = ⊥

-- and then it is answered so, unless the last call was lost
abbrev pub EachIsTold : Type 0
EachIsTold = (new : Histories) (caller : ℕ) (mount : Mount) (state left : ClientState) (name : List ℕ) (op : Op) (door : OpenDoor) (more : List OpenDoor) (made : List Made) (said : Reply) (n : ℕ)
    → Goes (IsFull new) caller (plan_by_doors mount state name op door more) made said left → EachOver caller op (door ∷ more) made n → (said ≡ replies.Revoked n) ⊎ IsLink said

-- some doors were dropped, by each of which the access was made and answered so, and the object has the others
pub record Drops (caller : ℕ) (op : Op) (name : List ℕ) (doors : List OpenDoor) (made : List Made) (left : ClientState) : Type 0 where
  pub dropped : List OpenDoor
  pub kept : List OpenDoor
  pub parts : doors ≡ dropped ++ kept
  pub has : doors_of name left.replicas ≡ Some kept
  pub over : FirstOver caller op dropped made

-- A DOOR IS DROPPED only if the access by it was answered so in that line
abbrev pub DropsOver : Type 0
DropsOver = (new : Histories) (caller : ℕ) (mount : Mount) (state left : ClientState) (name : List ℕ) (op : Op) (door : OpenDoor) (more : List OpenDoor) (made : List Made) (said : Reply)
    → doors_of name state.replicas ≡ Some (door ∷ more) → Goes (IsFull new) caller (plan_by_doors mount state name op door more) made said left → Drops caller op name (door ∷ more) made left
