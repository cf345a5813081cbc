use Rattle.std.proofs.Common.{List, sym, ap, subst, ◌∙◌, rules}
use Rattle.indexmap.proofs.CallerLemmas.{filter-RetainsPairs}
use Rattle.name_context.specs.Names.{Name}
use Rattle.name_context.specs.History.{without}
use Rattle.name_context.specs.TreeView.{names_of, AreKeyed}
use Rattle.name_context.proofs.TreeLaws.{stays, names_of-without, AreKeyed-without}
use Rattle.name_context.proofs.tree.NameTree.remove.Goals as goal

pub invariant_of-self : goal.invariant_of-self
invariant_of-self c =
    let kept = filter-RetainsPairs _ (stays c.args.path.now) _ (λ k v b w g call. search rules) c.self.inside.map.entries _ c.retain.ensures.filtered in
    subst AreKeyed (sym kept) (AreKeyed-without c.args.path.now c.self.inside.map.entries c.self.invariant)

pub returns : goal.returns
returns c =
    let kept = filter-RetainsPairs _ (stays c.args.path.now) _ (λ k v b w g call. search rules) c.self.inside.map.entries _ c.retain.ensures.filtered in
    ap names_of kept ∙ (names_of-without c.args.path.now c.self.inside.map.entries ∙ ap (λ (names : List Name). without names c.args.path.now) c.self.view_is)
