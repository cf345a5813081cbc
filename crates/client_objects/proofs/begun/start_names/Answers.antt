use Rattle.std.proofs.Common.{List, ℕ, map, subst, sym, ap, ◌∙◌}
use Rattle.std.specs.List.{IsDistinct}
use Rattle.std.specs.Str.{bytes_eq}
use Rattle.client_objects.specs.Views.{views_from, file_names}
use Rattle.client_objects.proofs.ViewLaws.{View}
use Rattle.client_objects.proofs.BegunLaws.{start-views, start-files}
use Rattle.client_objects.proofs.begun.start_names.Goals as goal

pub start-requires-clause-views : goal.start-requires-clause-views
start-requires-clause-views c =
    let is = c.deref.ensures.value ∙ (c.in_ok-views.ensures ∙ ap (views_from 0) c.nodes.ensures.value) in
    subst (λ (views : List View). IsDistinct bytes_eq (map (λ view. view.0) views)) (sym is) (start-views c.args.mount.now c.nodes.ensures.sound)

pub start-requires-clause-files : goal.start-requires-clause-files
start-requires-clause-files c =
    let is = c.deref-2.ensures.value ∙ (c.in_ok-files.ensures ∙ ap file_names c.files.ensures.value) in
    subst (λ (names : List (List ℕ)). IsDistinct bytes_eq names) (sym is) (start-files c.args.mount.now c.files.ensures.sound)
