use Rattle.std.proofs.Common.{take}
use Rattle.std.proofs.lemmas.List.{take_all}
use Rattle.std.proofs.lemmas.Result.{err_from_is_err_and}
use Rattle.sub_replicon.proofs.DomainLaws.{holds_held, lacks_at}
use Rattle.sub_replicon.proofs.held.look_all.Goals as goal

pub returns-in_err-look-clause-why : goal.returns-in_err-look-clause-why
returns-in_err-look-clause-why c =
    let p = err_from_is_err_and c.from_residual.result c.from_residual.ensures.1 in
    rw (p.1, p.2)
    (lacks_at
    c.args.domain.now
    c.args.ids.now
    c.loop-id.id-index
    c.in_err-look.field-0.0
    c.loop-id-test.true
    (holds_held c.args.domain.now _ c.loop-id.doors c.loop-id.invariant.holds)
    c.in_err-look.ensures)

pub returns-clause-held : goal.returns-clause-held
returns-clause-held c =
    let ids = c.args.ids.now in
    let all = take_all c.loop-id.id-index ids c.loop-id-test.false in
    rw all at (holds_held c.args.domain.now (take c.loop-id.id-index ids) c.loop-id.doors c.loop-id.invariant.holds)
