-- What a plan asks of a sheet holds at the start and after each allowed event.
use Rattle.std.proofs.Common.{◌≡◌, ◌∙◌, sym, subst, refl}
use Rattle.hist_plain.specs.declared.event.Event.{Event}
use Rattle.tower_core.specs.declared.right.Right.{Right}
use Rattle.tower_core.specs.declared.sheet.Sheet.{Sheet}
use Rattle.tower_core.specs.TreeShape.{TreeShape, nodes, IsTree}
use Rattle.tower_core.specs.Trail.{State, start, state_after, IsAllowed, IsCoherentState}
use Rattle.tower_core.specs.Sheet.{nodes_of, pages_of, seen}
use Rattle.tower_core.proofs.Frames.{start_coherent_state, event_coherent}
use Rattle.tower_core.proofs.Trails.{event_ground}
use Rattle.tower_plan.specs.Reached.{IsReached}

pub reached_new : (shape : TreeShape) (sheet : Sheet) → nodes_of sheet ≡ nodes shape → seen sheet ≡ start → IsReached shape sheet
reached_new shape sheet same is = record {
  same_tree = same;
  coherent = subst (IsCoherentState shape (pages_of sheet)) (sym is) (start_coherent_state shape (pages_of sheet));
  ground = λ page. subst (λ (s : State). (s.column page).right 0 ≡ Right.Write) (sym is) refl;
}

pub reached_after : (shape : TreeShape) (old new : Sheet) (event : Event) → IsTree shape → IsReached shape old → IsAllowed shape (pages_of old) (seen old) event → nodes_of new ≡ nodes_of old → pages_of new ≡ pages_of old → seen new ≡ state_after shape (seen old) event → IsReached shape new
reached_after shape old new event tree reached ok same pages is = record {
  same_tree = same ∙ reached.same_tree;
  coherent = subst (λ p. IsCoherentState shape p (seen new)) (sym pages)
      (subst (IsCoherentState shape (pages_of old)) (sym is) (event_coherent shape (pages_of old) (seen old) event tree reached.coherent ok));
  ground = λ page. subst (λ (s : State). (s.column page).right 0 ≡ Right.Write) (sym is) (event_ground shape (pages_of old) (seen old) event page tree ok ∙ reached.ground page);
}
