use Rattle.std.proofs.Common.{List, ap, ◌∙◌}
use Rattle.std.specs.Option.{option_map}
use Rattle.name_context.specs.declared.tree.Bound.{Bound}
use Rattle.name_context.specs.Names.{Name, kept_at}
use Rattle.name_context.specs.TreeView.{kept_of}
use Rattle.name_context.proofs.TreeLaws.{lookup-kept_at}
use Rattle.name_context.proofs.tree.NameTree.at.Goals as goal

pub returns-in-Some : goal.returns-in-Some
returns-in-Some c = λ path is.
    ap (option_map (λ (bound : Bound). kept_of bound.binding)) c.in-Some.ensures.value
    ∙ (lookup-kept_at path c.args.key.now c.self.inside.map.entries is c.self.invariant ∙ ap (λ (names : List Name). kept_at names path) c.self.view_is)

pub returns-in-None : goal.returns-in-None
returns-in-None c = λ path is.
    ap (option_map (λ (bound : Bound). kept_of bound.binding)) c.in-None.ensures.value
    ∙ (lookup-kept_at path c.args.key.now c.self.inside.map.entries is c.self.invariant ∙ ap (λ (names : List Name). kept_at names path) c.self.view_is)
