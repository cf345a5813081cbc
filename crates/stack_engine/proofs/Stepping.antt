-- A step that is neither an access, nor the end of a sync, nor that of channels, is a message.
use Rattle.std.proofs.Common.{◌≡◌, ℕ, Result, refl}
use Rattle.hist_plain.specs.declared.event.Event.{Event}
use Rattle.hist_plain.specs.declared.event.Event.TheVariants as events
use Rattle.hist_plain.specs.declared.event.Keep.{Keep}
use Rattle.hist_plain.specs.declared.event.Op.{Op}
use Rattle.stack_engine.specs.declared.refusal.StepErr.{StepErr}
use Rattle.stack_engine.specs.Engine.{EngineSeen}
use Rattle.stack_engine.specs.Messages.{NeedsDisks}
use Rattle.stack_engine.specs.Moves.{Sends}
use Rattle.stack_engine.specs.Tower.{SparesStep, StepNeedsDisks, TakesStep}

abbrev pub IsNoAccess : Event → Type 0
IsNoAccess event = (caller number node life : ℕ) (op : Op) → event ≡ events.Access caller number node life op → ⊥

abbrev pub IsNoSync : Event → Type 0
IsNoSync event = (caller number node from : ℕ) (keep : Keep) → event ≡ events.Synced caller number node from keep → ⊥

abbrev pub IsNoDestroy : Event → Type 0
IsNoDestroy event = (caller number node : ℕ) → event ≡ events.DestroyCache caller number node → ⊥

abbrev pub IsNoDone : Event → Type 0
IsNoDone event = (caller number node : ℕ) → event ≡ events.DonePager caller number node → ⊥

pub takes_message : (old new : EngineSeen) (event stands : Event) → IsNoAccess event → IsNoSync event → IsNoDestroy event → IsNoDone event → Sends event old new stands → TakesStep old new event
takes_message old new (events.Access caller number node life op) stands access sync destroy done h = absurd (access caller number node life op refl)
takes_message old new (events.Synced caller number node from keep) stands access sync destroy done h = absurd (sync caller number node from keep refl)
takes_message old new (events.DestroyCache caller number node) stands access sync destroy done h = absurd (destroy caller number node refl)
takes_message old new (events.DonePager caller number node) stands access sync destroy done h = absurd (done caller number node refl)
takes_message old new _ stands access sync destroy done h = (stands, h)

pub needs_message : (old : EngineSeen) (event : Event) → IsNoAccess event → IsNoSync event → NeedsDisks old event → StepNeedsDisks old event
needs_message old (events.Access caller number node life op) access sync h = absurd (access caller number node life op refl)
needs_message old (events.Synced caller number node from keep) access sync h = absurd (sync caller number node from keep refl)
needs_message old _ access sync h = h

pub spares_message : {A : Type 0} (old new : EngineSeen) (event : Event) (r : Result A StepErr) → IsNoAccess event → new.trail.spare ≡ old.trail.spare → SparesStep {A = A} old new event r
spares_message old new (events.Access caller number node life op) r access same = absurd (access caller number node life op refl)
spares_message old new _ r access same = same
