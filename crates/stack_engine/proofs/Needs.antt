-- What a message needs of the disks, its event needs.
use Rattle.std.proofs.Common.{◌≡◌, ◌≢◌, ◌∙◌, ℕ, Bool, refl, sym, ap, subst}
use Rattle.std.proofs.lemmas.Bool.{eq-eqb}
use Rattle.hist_plain.specs.declared.event.Event.TheVariants as events
use Rattle.tower_core.specs.declared.step.Step.{Step}
use Rattle.tower_core.specs.declared.step.Step.TheVariants.{Grants, PagesOut, Denies, Pushes, Flushes, Deletes}
use Rattle.tower_core.specs.Trail.{of_page}
use Rattle.page_messages.specs.declared.kinds.Asked.{Asked}
use Rattle.page_messages.specs.declared.kinds.Called.{Called}
use Rattle.page_exchange.specs.Allowed.{grant_asked}
use Rattle.page_exchange.specs.Steps.{NeedsGround, step_asked, step_called}
use Rattle.stack_engine.specs.Engine.{EngineSeen, sides_in, tree_in}
use Rattle.stack_engine.specs.Messages.{IsPush, NeedsDisks, event_asked, event_called}
use Rattle.stack_engine.proofs.Asking.{grant_step}

on_itself : (page : ℕ) (step : Step) → of_page page page step ≡ step
on_itself page step = rw (eq-eqb page page refl) refl

needs_on : (e : EngineSeen) (page : ℕ) (step : Step) → NeedsGround (tree_in e) step (sides_in e page) → NeedsGround (tree_in e) (of_page page page step) (sides_in e page)
needs_on e page step = subst (λ (s : Step). NeedsGround (tree_in e) s (sides_in e page)) (sym (on_itself page step))

pub push_needs : (e : EngineSeen) (node page : ℕ) (what : Asked) → IsPush what → NeedsGround (tree_in e) (step_asked what node) (sides_in e page) → NeedsDisks e (event_asked what node page)
push_needs e node page Asked.PageOut push = needs_on e page (PagesOut node)
push_needs e node page Asked.WriteOut push = needs_on e page (Denies node)
push_needs e node page Asked.Sync push = needs_on e page (Pushes node)
push_needs e node page Asked.PageInRead push = absurd push
push_needs e node page Asked.PageInWrite push = absurd push
push_needs e node page Asked.Done push = absurd push

pub order_needs : (e : EngineSeen) (node page : ℕ) (what : Called) → what ≢ Called.Destroy → NeedsGround (tree_in e) (step_called what node) (sides_in e page) → NeedsDisks e (event_called what node page)
order_needs e node page Called.FlushBack other = needs_on e page (Flushes node)
order_needs e node page Called.DenyWrites other = needs_on e page (Denies node)
order_needs e node page Called.WriteBack other = needs_on e page (Pushes node)
order_needs e node page Called.DeleteRange other = needs_on e page (Deletes node)
order_needs e node page Called.Destroy other = absurd (other refl)

pub grant_needs : (e : EngineSeen) (node page : ℕ) (write : Bool) (what : Asked) → what ≡ grant_asked write → NeedsGround (tree_in e) (step_asked what node) (sides_in e page) → NeedsDisks e (events.PageIn node page write)
grant_needs e node page write what is needs =
    needs_on e page (Grants node write) (subst (λ (s : Step). NeedsGround (tree_in e) s (sides_in e page)) (ap (λ (a : Asked). step_asked a node) is ∙ grant_step write node) needs)
