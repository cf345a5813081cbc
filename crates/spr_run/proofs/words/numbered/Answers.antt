use Rattle.std.proofs.Common.{◌≡◌, ◌≤◌, ◌∙◌, None, ap, arith}
use Rattle.std.specs.Str.Parse.{ExplainsUnsignedError, HasUnsignedDigitsIfOk, ParsesUnsigned}
use Rattle.clap.specs.Words.{found_of}
use Rattle.spr_run.proofs.NumberLaws.{below, below-none, below-some, number-of}
use Rattle.spr_run.proofs.words.numbered.Goals as goal

pub returns-in-Some-clause-ok : goal.returns-in-Some-clause-ok
returns-in-Some-clause-ok c =
    number-of _ (λ bs r. ParsesUnsigned 32 10 bs r × ExplainsUnsignedError 10 bs r × HasUnsignedDigitsIfOk bs r) (found_of c.args.found.now) c.args.id.now c.args.limit c.get_one.result (omega arith) (λ u x g. g.0)
    c.get_one.ensures.none c.get_one.ensures.value ∙ below-some c.args.limit c.in-Some.number c.get_one.result c.in-Some.is c.if-number-limit.true

pub returns-in_default-clause-usage : goal.returns-in_default-clause-usage
returns-in_default-clause-usage c = λ _.
    let high : c.args.limit ≤ c.in-Some.number = omega (arith, c.if-number-limit.false) in
    number-of _ (λ bs r. ParsesUnsigned 32 10 bs r × ExplainsUnsignedError 10 bs r × HasUnsignedDigitsIfOk bs r) (found_of c.args.found.now) c.args.id.now c.args.limit c.get_one.result (omega arith) (λ u x g. g.0)
    c.get_one.ensures.none c.get_one.ensures.value ∙ below-none c.args.limit c.in-Some.number c.get_one.result c.in-Some.is high

pub returns-in_default-2-clause-usage : goal.returns-in_default-2-clause-usage
returns-in_default-2-clause-usage c = λ _.
    let none : c.get_one.result ≡ None = search c.in_default.is in
    number-of _ (λ bs r. ParsesUnsigned 32 10 bs r × ExplainsUnsignedError 10 bs r × HasUnsignedDigitsIfOk bs r) (found_of c.args.found.now) c.args.id.now c.args.limit c.get_one.result (omega arith) (λ u x g. g.0)
    c.get_one.ensures.none c.get_one.ensures.value ∙ ap (below c.args.limit) none
