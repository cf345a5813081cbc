-- What one try to end the channels of a layer's files does.
use Rattle.std.specs.Prelude.{◌≡◌, ℕ, Some, None}
use Rattle.hist_plain.specs.declared.event.Answer.{Answer}
use Rattle.hist_plain.specs.declared.event.Event.{Event}
use Rattle.stack_engine.specs.declared.ends.End.{End}
use Rattle.stack_engine.specs.declared.moved.Moved.{Moved}
use Rattle.stack_engine.specs.declared.moved.Moved.TheVariants.{Busy, Done, Stepped}
use Rattle.stack_engine.specs.declared.turns.TurnOf.TheVariants.{File}
use Rattle.stack_engine.specs.Ended.{DrainsBy, IsDrained, IsEnded}
use Rattle.stack_engine.specs.Moves.{Sends}
use Rattle.stack_engine.specs.Tower.{TowerSeen}
use Rattle.stack_engine.specs.Turns.{other_holder, with_turn, without_turns}

-- no node of the subtree had a right, and the end was entered
pub record Ends (caller number node : ℕ) (end : End) (old new : TowerSeen) (answer : Answer) : Type 0 where
  pub free : other_holder caller File old.turns ≡ None
  pub drained : IsDrained old.engine node
  pub is : answer ≡ Answer.Done
  pub ended : IsEnded end caller number node old.engine new.engine
  pub turns : new.turns ≡ without_turns caller old.turns

-- a right was left, and one was given up. The caller has the file's turn
pub record Drains (caller node : ℕ) (old new : TowerSeen) (event : Event) : Type 0 where
  pub free : other_holder caller File old.turns ≡ None
  pub drains : DrainsBy old.engine node event
  pub sends : Sends event old.engine new.engine event
  pub turns : new.turns ≡ with_turn caller File old.turns

-- another has the file's turn
pub record IsHeldUp (caller : ℕ) (old new : TowerSeen) (holder : ℕ) : Type 0 where
  pub holder_is : other_holder caller File old.turns ≡ Some holder
  pub same : new ≡ old

-- ONE TRY OF AN END
abbrev pub AdvancesEnd : ℕ → ℕ → ℕ → End → TowerSeen → TowerSeen → Moved → Type 0
AdvancesEnd caller number node end old new (Done answer) = Ends caller number node end old new answer
AdvancesEnd caller number node end old new (Stepped event) = Drains caller node old new event
AdvancesEnd caller number node end old new (Busy holder) = IsHeldUp caller old new holder
