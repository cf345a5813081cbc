use Rattle.std.proofs.Common.{List, ℕ, ◌++◌, append-nil, sym, ap, ◌∙◌, arith}
use Rattle.std.specs.List.{filter_map}
use Rattle.std.proofs.lemmas.List.{at_drop_all}
use Rattle.name_context.specs.declared.tree.Bound.{Bound}
use Rattle.name_context.specs.Names.{Name}
use Rattle.name_context.specs.Listed.{part_below}
use Rattle.name_context.proofs.TreeLaws.{filter_map-names_of}
use Rattle.name_context.proofs.tree.NameTree.list.Goals as goal

pub returns : goal.returns
returns c =
    let below = λ (bound : Bound). part_below c.args.above.now bound.path in
    let none = at_drop_all (filter_map below) c.as_slice-bound-items.result.now c.loop-bound.bound-index (omega arith) in
    sym (append-nil c.loop-bound.texts.items) ∙ (ap (λ (rest : List (List ℕ)). c.loop-bound.texts.items ++ rest) (sym none) ∙ (c.loop-bound.invariant
    ∙ (ap (filter_map below) (c.as_slice-bound-items.ensures ∙ c.values.ensures.rest) ∙ (filter_map-names_of (part_below c.args.above.now) c.self.inside.map.entries
    ∙ ap (filter_map (λ (name : Name). part_below c.args.above.now name.path)) c.self.view_is))))
