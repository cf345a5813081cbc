use Rattle.std.proofs.Common.{◌≡◌, ℕ, List, [], length, map, sym, ap, ◌∙◌, arith}
use Rattle.std.proofs.lemmas.List.{length-map}
use Rattle.idl_reader.specs.Tree.{decl_tree}
use Rattle.idl_tables.specs.Lines.{next_from, lines_to}
use Rattle.idl_tables.proofs.Once.{lines_none, lines_next}
use Rattle.idl_tables.proofs.lines.lines_of.Goals as goal

pub loop-init : goal.loop-init
loop-init c =
    let none : List ℕ → List ℕ = λ bases. [] in
    lines_none (map (λ s. s.items) c.in_ok-spots.spots.items) (map (λ line. line.items) c.in_ok-lines.lines.items)
    (c.in_ok-lines.ensures ∙ ap (λ ss. map none (map (λ s. s.items) ss)) c.deref.ensures.value)

pub loop-preserved : goal.loop-preserved
loop-preserved c =
    lines_next c.loop.counter (map (λ s. s.items) c.in_ok-spots.spots.items) (map (λ line. line.items) c.loop.lines.items) (map (λ line. line.items) c.in_ok-lines-2.lines.items) c.loop.invariant
    (c.in_ok-lines-2.ensures
    ∙ ap (λ ls. next_from (map (λ line. line.items) ls) 0 (map (λ s. s.items) c.deref-in-loop-2.result.now)) c.deref-in-loop.ensures.value
    ∙ ap (λ ss. next_from (map (λ line. line.items) c.loop.lines.items) 0 (map (λ s. s.items) ss)) c.deref-in-loop-2.ensures.value)

pub returns : goal.returns
returns c =
    let end : c.loop.counter ≡ length c.args.decls.now = let low = c.loop-test.false in let high = c.loop.auto.counter-end in omega arith in
    c.loop.invariant
    ∙ ap (λ n. lines_to n (map (λ s. s.items) c.in_ok-spots.spots.items)) (end ∙ sym (length-map c.args.decls.now (λ d. decl_tree d)))
    ∙ ap (λ ss. lines_to (length (map (λ d. decl_tree d) c.args.decls.now)) ss) c.in_ok-spots.ensures
