-- The end of the channels of a layer's files, and what comes first.
use Rattle.std.specs.Prelude.{◌≡◌, ℕ, ◌+◌, [], Some}
use Rattle.hist_plain.specs.declared.event.Answer.{Answer}
use Rattle.hist_plain.specs.declared.event.Event.{Event}
use Rattle.hist_plain.specs.declared.event.Event.TheVariants as events
use Rattle.tower_core.specs.Trail.{IsSubtreeEmpty, state_after}
use Rattle.tower_plan.specs.Drain.{IsNextOfDrain, rights_below}
use Rattle.page_messages.specs.Written.{Letters}
use Rattle.page_exchange.specs.Ends.{letters_destroyed, letters_done}
use Rattle.page_exchange.specs.Tables.{CarriesDown, CarriesUp}
use Rattle.page_exchange.specs.Wire.{WentOver, WireSeen}
use Rattle.page_exchange.specs.declared.tables.Tables.{Tables}
use Rattle.stack_engine.specs.declared.ends.End.{End}
use Rattle.stack_engine.specs.Engine.{EngineSeen, file_in, state_in, tree_in, wire_in}
use Rattle.stack_engine.specs.Messages.{NeedsDisks}
use Rattle.stack_engine.specs.Moves.{Enters}

-- the event that a caller's end is
abbrev pub event_ended : End → ℕ → ℕ → ℕ → Event
event_ended End.Destroy caller number node = events.DestroyCache caller number node
event_ended End.Done caller number node = events.DonePager caller number node

-- what goes over the wire for it: the parent of the node destroys the node's cache, or the node is done with its parent's pages
abbrev pub letters_ended : End → Letters
letters_ended End.Destroy = letters_destroyed
letters_ended End.Done = letters_done

-- and in which packets: the order goes down to the node, or the question up from it
abbrev pub CarriesEnd : End → Tables → WireSeen → ℕ → Type 0
CarriesEnd End.Destroy tables wire node = CarriesDown tables wire node
CarriesEnd End.Done tables wire node = CarriesUp tables wire node

-- no node of the subtree has a right on any page
abbrev pub IsDrained : EngineSeen → ℕ → Type 0
IsDrained e node = IsSubtreeEmpty (tree_in e) (file_in e).pages (state_in e) node

-- THE END was entered, and its two frames went, in packets between two machines. It called no ground
pub record IsEnded (end : End) (caller number node : ℕ) (old new : EngineSeen) : Type 0 where
  pub frames : WentOver (wire_in new) (file_in old) (letters_ended end)
  pub carried : CarriesEnd end old.tables (wire_in new) node
  pub enters : Enters (record { event = event_ended end caller number node; answer = Some Answer.Done; bytes = [] }) old new
  pub ground : new.ground ≡ old.ground

-- TOWARDS AN END: the event is the drain's, and then the subtree has one right less
pub record DrainsBy (e : EngineSeen) (node : ℕ) (event : Event) : Type 0 where
  pub plan : IsNextOfDrain (tree_in e) (file_in e).pages (state_in e) node event
  pub cheaper : rights_below (tree_in e) (state_after (tree_in e) (state_in e) event) node (file_in e).pages + 1
      ≡ rights_below (tree_in e) (state_in e) node (file_in e).pages

-- THE END NEEDS THE DISKS: a right is left in the subtree, and the message that comes next needs them
pub record EndNeedsDisks (e : EngineSeen) (node : ℕ) : Type 0 where
  pub event : Event
  pub drains : DrainsBy e node event
  pub needs : NeedsDisks e event
