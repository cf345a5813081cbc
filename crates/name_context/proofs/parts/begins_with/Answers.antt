use Rattle.std.proofs.Common.{List, ℕ, not, nat_eq, sym, ap, ◌∙◌, arith}
use Rattle.std.specs.Cmp.Lexicographic.{pointwise}
use Rattle.name_context.proofs.PartLaws.{begins-fails, begins-ends, not-true}
use Rattle.name_context.proofs.parts.begins_with.Goals as goal

pub returns-then-ne : goal.returns-then-ne
returns-then-ne c =
    let differ = not-true (pointwise nat_eq c.index-above-at.result c.index-path-at.result)
    (sym c.if-ne.true ∙ (c.ne.ensures ∙ (ap (λ (part : List ℕ). not (pointwise nat_eq part c.as_str-in-loop-at.result.now)) c.as_str.ensures
    ∙ ap (λ (other : List ℕ). not (pointwise nat_eq c.index-above-at.result other)) c.as_str-in-loop-at.ensures))) in
    begins-fails c.args.above.now c.args.path.now c.loop-at.at c.index-above-at.result c.index-path-at.result (omega arith) (omega arith) c.index-above-at.is c.index-path-at.is differ c.loop-at.invariant

pub returns : goal.returns
returns c = begins-ends c.args.above.now c.args.path.now c.loop-at.at c.loop-at-test.false c.loop-at.invariant
