use Rattle.std.proofs.Common.{◌∷◌, [], map, sym, ap, ◌∙◌}
use Rattle.std.proofs.lemmas.List.{length-map, map-append}
use Rattle.idl_reader.specs.Left.{left}
use Rattle.idl_reader.specs.Tree.{decl_tree}
use Rattle.idl_reader.specs.Reading.{decl_at, is_decl_word, until_end}
use Rattle.idl_reader.proofs.Many.{loop-done, loop-full, loop-fails, loop-step, gives_refused}
use Rattle.idl_reader.proofs.read.more_decls.Goals as goal

pub returns-then-len-eq-MAX_DECLS : goal.returns-then-len-eq-MAX_DECLS
returns-then-len-eq-MAX_DECLS c =
    let decls = c.loop-next.decls in
    loop-full until_end is_decl_word decl_at 256 (map (λ decl. decl_tree decl) decls.items) (left c.loop-next.rest) (left c.in-Some.next) _ c.len.result c.begins_decl.result c.one_too_many.result
    c.loop-next.invariant (c.len.ensures ∙ decls.ok.0 ∙ sym (length-map decls.items (λ decl. decl_tree decl))) c.if-len-eq-MAX_DECLS.true (sym c.in-Some.ensures) c.begins_decl.ensures c.one_too_many.ensures

pub returns-in_err-decl : goal.returns-in_err-decl
returns-in_err-decl c =
    let decls = c.loop-next.decls in
    gives_refused _ _ (decl_at (left c.in-Some.next)) c.in_err-decl.field-0.0 c.from_residual.result
    (loop-fails until_end is_decl_word decl_at 256 (map (λ decl. decl_tree decl) decls.items) (left c.loop-next.rest) (left c.in-Some.next) _ c.len.result c.loop-next.invariant
    (c.len.ensures ∙ decls.ok.0 ∙ sym (length-map decls.items (λ decl. decl_tree decl))) c.if-len-eq-MAX_DECLS.false (sym c.in-Some.ensures))
    c.in_err-decl.ensures c.from_residual.ensures.1

pub loop-next-preserved : goal.loop-next-preserved
loop-next-preserved c =
    let decls = c.loop-next.decls in
    loop-step until_end is_decl_word decl_at 256 (map (λ decl. decl_tree decl) decls.items) (map (λ decl. decl_tree decl) c.push.new.self.items) (left c.loop-next.rest) (left c.in-Some.next) (left c.in_ok-decl.after) (decl_tree c.in_ok-decl.decl) _ c.len.result
    c.loop-next.invariant (c.len.ensures ∙ decls.ok.0 ∙ sym (length-map decls.items (λ decl. decl_tree decl))) c.if-len-eq-MAX_DECLS.false (sym c.in-Some.ensures) c.in_ok-decl.ensures
    (ap (map (λ decl. decl_tree decl)) c.in_ok-push.ensures.items ∙ map-append (λ decl. decl_tree decl) decls.items (c.in_ok-decl.decl ∷ []))

pub returns : goal.returns
returns c =
    let decls = c.loop-next.decls in
    loop-done until_end is_decl_word decl_at 256 (map (λ decl. decl_tree decl) decls.items) (left c.loop-next.rest) _ c.loop-next.invariant (sym c.in_default.ensures)
