use Rattle.std.proofs.Common.{List, [], ◌∷◌, ◌++◌, ℕ, nat_eq, sym, ap, subst, ◌∙◌}
use Rattle.std.specs.Cmp.Lexicographic.{pointwise}
use Rattle.std.specs.declared.vec.Vec.{Vec}
use Rattle.std.specs.declared.alloc.Global.{Global}
use Rattle.indexmap.proofs.CallerLemmas.{insert_entry-new}
use Rattle.name_context.specs.declared.tree.Bound.{Bound}
use Rattle.name_context.specs.Names.{Name, kept_at}
use Rattle.name_context.specs.Keys.{path_key}
use Rattle.name_context.specs.TreeView.{name_of, names_of, AreKeyed}
use Rattle.name_context.proofs.TreeLaws.{lookup-free, names_of-push, AreKeyed-push}
use Rattle.name_context.proofs.tree.NameTree.put.Goals as goal

pub invariant_of-self-2 : goal.invariant_of-self-2
invariant_of-self-2 c =
    let bound : Bound = record { path = c.args.path; binding = c.args.binding } in
    let key_is = c.in_ok-key.ensures ∙ ap path_key c.as_slice.ensures in
    let free = lookup-free c.args.path c.in_ok-key.key.items c.self.inside.map.entries key_is c.self.invariant (ap (λ (names : List Name). kept_at names c.args.path) c.self.view_is ∙ c.requires) in
    let more = c.in_ok-insert.ensures.entries ∙ insert_entry-new (λ (x y : Vec ℕ Global). pointwise nat_eq x.items y.items) c.self.inside.map c.in_ok-key.key bound free in
    subst AreKeyed (sym more) (AreKeyed-push c.self.inside.map.entries (c.in_ok-key.key, bound) c.self.invariant key_is)

pub returns-clause-ok : goal.returns-clause-ok
returns-clause-ok c =
    let bound : Bound = record { path = c.args.path; binding = c.args.binding } in
    let key_is = c.in_ok-key.ensures ∙ ap path_key c.as_slice.ensures in
    let free = lookup-free c.args.path c.in_ok-key.key.items c.self.inside.map.entries key_is c.self.invariant (ap (λ (names : List Name). kept_at names c.args.path) c.self.view_is ∙ c.requires) in
    let more = c.in_ok-insert.ensures.entries ∙ insert_entry-new (λ (x y : Vec ℕ Global). pointwise nat_eq x.items y.items) c.self.inside.map c.in_ok-key.key bound free in
    ap names_of more ∙ (names_of-push c.self.inside.map.entries (c.in_ok-key.key, bound) ∙ ap (λ (names : List Name). names ++ name_of (c.in_ok-key.key, bound) ∷ []) c.self.view_is)
