-- What an event that comes next asks of the tables, and which step it is.
use Rattle.std.proofs.Common.{◌≡◌, ◌≢◌, ◌∙◌, ℕ, ◌<◌, Bool, true, false, List, Some, refl, sym, ap, subst}
use Rattle.hist_plain.specs.declared.event.Event.{Event}
use Rattle.hist_plain.specs.declared.event.Event.TheVariants as events
use Rattle.tower_core.specs.declared.step.Step.TheVariants.{Grants}
use Rattle.tower_core.specs.declared.right.Right.{Right}
use Rattle.tower_core.specs.Column.{MayStep}
use Rattle.tower_core.specs.TreeShape.{IsUpper, TreeShape, frames_of, parent}
use Rattle.tower_core.specs.Trail.{HasRoom, IsLeastRecentlyUsed, held_below, holds}
use Rattle.tower_core.proofs.Counts.{count_below-same}
use Rattle.layer_laws.specs.Shown.{AreRights}
use Rattle.page_messages.specs.declared.kinds.Asked.{Asked}
use Rattle.page_messages.specs.declared.kinds.Called.{Called}
use Rattle.page_exchange.specs.Allowed.{AllowAsking, AllowCalling, grant_asked}
use Rattle.page_exchange.specs.Steps.{step_asked, step_called}
use Rattle.page_exchange.specs.Exchange.{may_be_full}
use Rattle.page_exchange.proofs.Allowed as allowed
use Rattle.vmm_cache.specs.Uses.{oldest}
use Rattle.page_exchange.specs.Listed.{held_in}
use Rattle.page_exchange.specs.Tables.{MayAskFrames}
use Rattle.page_exchange.proofs.Copies.{held_inside}
use Rattle.tower_shows.specs.Began.{IsStepOn}
use Rattle.stack_engine.specs.Engine.{EngineSeen, IsNext, IsSound, column_in, file_in, sides_in, state_in, tree_in, uses_in}
use Rattle.stack_engine.specs.Messages.{IsPush, event_asked, event_called}
use Rattle.stack_engine.proofs.States.{coherent_in}
use Rattle.stack_engine.proofs.Victims.{victim_is}

pub record Askable (e : EngineSeen) (node page : ℕ) (what : Asked) : Type 0 where
  pub upper : IsUpper (tree_in e) node
  pub inside : page < (file_in e).pages
  pub may : AllowAsking (tree_in e) (sides_in e page) node (may_be_full (sides_in e page node) what) what
  pub frames : MayAskFrames e.tables node what page
  pub known : IsUpper (tree_in e) (parent (tree_in e) node) → (sides_in e page (parent (tree_in e) node)).kids node ≡ (sides_in e page node).right

pub record Callable (e : EngineSeen) (node page : ℕ) (what : Called) : Type 0 where
  pub upper : IsUpper (tree_in e) node
  pub inside : page < (file_in e).pages
  pub may : AllowCalling (tree_in e) (sides_in e page) node what

module _ (e : EngineSeen) (sound : IsSound e) (node page : ℕ) where
  rights : AreRights (tree_in e) (column_in e page) (sides_in e page)
  rights = sound.true_to.rights page

  -- the page that the trail lets go out is the leaf's victim
  held_here : IsUpper (tree_in e) node → (p : ℕ) → ((state_in e).column p).right node ≢ Right.Nothing → p < (file_in e).pages
  held_here upper p some = held_inside (tree_in e) (file_in e) e.tables.nodes.items e.tables.tables p node (λ none. some (sym ((sound.true_to.rights p).right node upper) ∙ none))

  victim : IsUpper (tree_in e) node → frames_of (tree_in e) node ≢ 0 → (column_in e page).right node ≢ Right.Nothing → IsLeastRecentlyUsed (file_in e).pages (state_in e) node page → oldest (uses_in e node) ≡ Some page
  victim upper leaf held first = victim_is (state_in e) (file_in e).pages node page (uses_in e node) (sound.listed node upper.above leaf) held first (held_here upper)

  -- and the frames that it counts are the leaf's
  held_same : IsUpper (tree_in e) node → held_in (sides_in e) (file_in e).pages node ≡ held_below (state_in e) node (file_in e).pages
  held_same upper = count_below-same (λ p. holds (((state_in e).column p).right node)) (λ p. holds (sides_in e p node).right) (file_in e).pages (λ p lt. ap holds ((sound.true_to.rights p).right node upper))

  free : (write : Bool) → IsUpper (tree_in e) node → MayStep (tree_in e) (column_in e page) (Grants node write) → HasRoom (tree_in e) (file_in e).pages (state_in e) node page → MayAskFrames e.tables node (grant_asked write) page
  free false upper may room = λ leaf. subst (λ (n : ℕ). n < frames_of (tree_in e) node) (sym (held_same upper)) (room leaf may.0)
  free true upper may room = λ leaf none. subst (λ (n : ℕ). n < frames_of (tree_in e) node) (sym (held_same upper)) (room leaf (sym (rights.right node upper) ∙ none))

  pub push_asks : (what : Asked) → IsPush what → IsNext e (event_asked what node page) → Askable e node page what
  push_asks Asked.WriteOut push next = record {
    upper = next.allowed.upper;
    inside = next.fits page refl;
    may = (allowed.denies (tree_in e) (column_in e page) (sides_in e page) node rights next.allowed.upper true next.allowed.line).0;
    frames = tt;
    known = allowed.known (tree_in e) (column_in e page) (sides_in e page) node rights next.allowed.upper;
  }
  push_asks Asked.Sync push next = record {
    upper = next.allowed.upper;
    inside = next.fits page refl;
    may = (allowed.pushes (tree_in e) (column_in e page) (sides_in e page) node rights next.allowed.upper true next.allowed.line).0;
    frames = tt;
    known = allowed.known (tree_in e) (column_in e page) (sides_in e page) node rights next.allowed.upper;
  }
  push_asks Asked.PageInRead push next = absurd push
  push_asks Asked.PageInWrite push next = absurd push
  push_asks Asked.PageOut push next = record {
    upper = next.allowed.upper;
    inside = next.fits page refl;
    may = allowed.pages_out (tree_in e) (column_in e page) (sides_in e page) node rights next.allowed.upper (state_in e).len ((coherent_in e sound).columns page) (next.allowed.line.1, λ child is. absurd (next.allowed.line.0 (sound.true_to.tree.leaves child node is)));
    frames = (next.allowed.line.0, victim (next.allowed.upper) next.allowed.line.0 next.allowed.line.1 next.allowed.line.2);
    known = allowed.known (tree_in e) (column_in e page) (sides_in e page) node rights next.allowed.upper;
  }
  push_asks Asked.Done push next = absurd push

  pub grant_asks : (write : Bool) → IsNext e (events.PageIn node page write) → Askable e node page (grant_asked write)
  grant_asks false next = record {
    upper = next.allowed.upper;
    inside = next.fits page refl;
    may = allowed.grants (tree_in e) (column_in e page) (sides_in e page) node rights next.allowed.upper false true next.allowed.line.0;
    frames = free false next.allowed.upper next.allowed.line.0 next.allowed.line.1;
    known = allowed.known (tree_in e) (column_in e page) (sides_in e page) node rights next.allowed.upper;
  }
  grant_asks true next = record {
    upper = next.allowed.upper;
    inside = next.fits page refl;
    may = allowed.grants (tree_in e) (column_in e page) (sides_in e page) node rights next.allowed.upper true true next.allowed.line.0;
    frames = free true next.allowed.upper next.allowed.line.0 next.allowed.line.1;
    known = allowed.known (tree_in e) (column_in e page) (sides_in e page) node rights next.allowed.upper;
  }

  pub order_calls : (what : Called) → what ≢ Called.Destroy → IsNext e (event_called what node page) → Callable e node page what
  order_calls Called.FlushBack other next = record {
    upper = next.allowed.upper;
    inside = next.fits page refl;
    may = allowed.flushes (tree_in e) (column_in e page) (sides_in e page) node rights next.allowed.upper next.allowed.line;
  }
  order_calls Called.DenyWrites other next = record {
    upper = next.allowed.upper;
    inside = next.fits page refl;
    may = (allowed.denies (tree_in e) (column_in e page) (sides_in e page) node rights next.allowed.upper true next.allowed.line).1;
  }
  order_calls Called.WriteBack other next = record {
    upper = next.allowed.upper;
    inside = next.fits page refl;
    may = (allowed.pushes (tree_in e) (column_in e page) (sides_in e page) node rights next.allowed.upper true next.allowed.line).1;
  }
  order_calls Called.DeleteRange other next = record {
    upper = next.allowed.upper;
    inside = next.fits page refl;
    may = allowed.deletes (tree_in e) (column_in e page) (sides_in e page) node rights next.allowed.upper next.allowed.line;
  }
  order_calls Called.Destroy other next = absurd (other refl)

-- THE STEPS

pub push_step : (shape : TreeShape) (trail : List Event) (what : Asked) (node page : ℕ) → IsPush what → IsStepOn shape trail (event_asked what node page) page (step_asked what node)
push_step shape trail Asked.WriteOut node page push = λ p. refl
push_step shape trail Asked.Sync node page push = λ p. refl
push_step shape trail Asked.PageInRead node page push = absurd push
push_step shape trail Asked.PageInWrite node page push = absurd push
push_step shape trail Asked.PageOut node page push = λ p. refl
push_step shape trail Asked.Done node page push = absurd push

pub order_step : (shape : TreeShape) (trail : List Event) (what : Called) (node page : ℕ) → what ≢ Called.Destroy → IsStepOn shape trail (event_called what node page) page (step_called what node)
order_step shape trail Called.FlushBack node page other = λ p. refl
order_step shape trail Called.DenyWrites node page other = λ p. refl
order_step shape trail Called.WriteBack node page other = λ p. refl
order_step shape trail Called.DeleteRange node page other = λ p. refl
order_step shape trail Called.Destroy node page other = absurd (other refl)

pub grant_step : (write : Bool) (node : ℕ) → step_asked (grant_asked write) node ≡ Grants node write
grant_step true node = refl
grant_step false node = refl

-- what a grant asks, as the code has it
pub asks_may : (e : EngineSeen) (node page : ℕ) (write : Bool) (what : Asked) → what ≡ grant_asked write → Askable e node page (grant_asked write) → AllowAsking (tree_in e) (sides_in e page) node (may_be_full (sides_in e page node) what) what
asks_may e node page write what is asks = (subst (Askable e node page) (sym is) asks).may

pub asks_frames : (e : EngineSeen) (node page : ℕ) (write : Bool) (what : Asked) → what ≡ grant_asked write → Askable e node page (grant_asked write) → MayAskFrames e.tables node what page
asks_frames e node page write what is asks = (subst (Askable e node page) (sym is) asks).frames
