use Rattle.std.proofs.Common.{◌≤◌, ◌++◌, map, sym, ap, subst, ◌∙◌, append-nil}
use Rattle.std.proofs.lemmas.List.{length-map}
use Rattle.idl_reader.specs.Tree.{decl_tree}
use Rattle.idl_tables.specs.Entries.{operation}
use Rattle.idl_tables.proofs.Once.{own_beyond}
use Rattle.idl_tables.proofs.entries.put_at.Goals as goal

pub returns-else-k-decls : goal.returns-else-k-decls
returns-else-k-decls c =
    let ds = map (λ d. decl_tree d) c.args.decls.now in
    let ops = map (λ e. operation e) c.args.out.now.items in
    let beyond = subst (λ n. n ≤ c.args.k) (sym (length-map c.args.decls.now (λ d. decl_tree d))) c.if-k-decls.false in
    sym (ap (λ more. ops ++ more) (own_beyond ds c.args.k beyond) ∙ append-nil ops)
