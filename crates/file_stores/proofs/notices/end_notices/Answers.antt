use Rattle.std.proofs.Common.{◌≢◌, Option, None, get_or, get_or-set_other, ap, ◌∙◌, arith}
use Rattle.mirror_layer.specs.declared.came.Notice.{Notice}
use Rattle.file_stores.specs.Notices.{notice_at}
use Rattle.file_stores.proofs.NoticeLaws.{done-more}
use Rattle.file_stores.proofs.notices.end_notices.Goals as goal

pub loop-notice-preserved : goal.loop-notice-preserved
loop-notice-preserved g c =
    let i = c.loop-notice.invariant in
    let k = c.loop-notice.notice-index in
    let all = c.loop-notice.auto.notices in
    let low = c.loop-notice-test.true in
    record {
      at = (let same = i.at in omega (arith, same));
      done = done-more (λ n. notice_at c.args.ground.now n (get_or c.args.notices.now n None)) c.loop-notice.notices k c.notice_at.result (omega (arith, low, all)) i.done
          (c.notice_at.ensures ∙ (ap (λ n. notice_at c.args.ground.now n (get_or c.loop-notice.notices k None)) i.at ∙ ap (λ (o : Option Notice). notice_at c.args.ground.now k o) (i.rest k (omega arith))));
      rest = λ n high. let other : n ≢ k = omega (arith, high) in get_or-set_other c.loop-notice.notices k n c.notice_at.result None other ∙ i.rest n (omega (arith, high));
    }
