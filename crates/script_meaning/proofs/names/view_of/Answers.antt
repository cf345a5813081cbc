use Rattle.std.proofs.Common.{◌≡◌, ◌<◌, length, position, List, Some, sym, subst, ◌∙◌}
use Rattle.std.specs.Prelude.{◌&&◌}
use Rattle.std.specs.Str.{bytes_eq}
use Rattle.stack_accept.specs.declared.entries.NodeEntry.{NodeEntry}
use Rattle.stack_accept.specs.Mount.{is_view}
use Rattle.script_meaning.proofs.Views.{view-upper}
use Rattle.script_meaning.proofs.names.view_of.Goals as goal

-- src/names.rt:61:1
pub returns-in-Some-clause-upper : goal.returns-in-Some-clause-upper
returns-in-Some-clause-upper c =
    let at : List NodeEntry → Type 0 = λ nodes. position (λ n. is_view n.kind && bytes_eq n.name c.args.name.now) nodes ≡ Some c.in-Some.node in
    view-upper c.args.mount.now c.args.name.now c.in-Some.node c.nodes.ensures.sound
    (subst at c.nodes.ensures.value (sym c.place_of_view.ensures.place ∙ c.in-Some.is))
    (subst (λ (nodes : List NodeEntry). c.in-Some.node < length nodes) c.nodes.ensures.value c.in-Some.ensures.within)
