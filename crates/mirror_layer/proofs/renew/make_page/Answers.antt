use Rattle.std.proofs.Common.{refl, ◌∙◌}
use Rattle.disk_layer.specs.Making.{pages_made}
use Rattle.mirror_rules.proofs.RoundLaws.{reads-look}
use Rattle.mirror_layer.proofs.FillingSteps.{zero-given}
use Rattle.mirror_layer.proofs.renew.make_page.Goals as goal

pub returns-in-Err-clause-makes : goal.returns-in-Err-clause-makes
returns-in-Err-clause-makes g c told h = (λ x. reads-look (c.in-Err.ensures.refused x), refl)

pub returns-then-is_zero_page-clause-makes : goal.returns-then-is_zero_page-clause-makes
returns-then-is_zero_page-clause-makes g c told h =
    let r = c.in-Ok.ensures.taken in
    (r.0, c.read.new.out, reads-look r.1, λ t. r.2 (h t), zero-given c.args.page c.read.new.out c.args.making.now.shape (pages_made c.args.making.now) (c.read.auto.out ∙ c.requires.size) (c.is_zero_page.ensures.zeros.0 c.if-is_zero_page.true) c.requires.hole, refl)

pub returns-in-Ok-write-clause-makes : goal.returns-in-Ok-write-clause-makes
returns-in-Ok-write-clause-makes g c told h =
    let r = c.in-Ok.ensures.taken in
    (r.0, c.read.new.out, reads-look r.1, λ t. r.2 (h t), c.in-Ok-write.ensures.ok, c.in-Ok-write.ensures.count)

pub returns-in-Err-write-clause-makes : goal.returns-in-Err-write-clause-makes
returns-in-Err-write-clause-makes g c told h =
    let r = c.in-Ok.ensures.taken in
    (r.0, reads-look r.1, c.in-Err-write.ensures.fault.0)
