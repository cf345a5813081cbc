use Rattle.std.proofs.Common.{◌≡◌, ap, ◌∙◌, arith}
use Rattle.std.proofs.lemmas.Result.{on_ok_weaker, on_err_weaker}
use Rattle.spr_io.specs.Content.{flushed}
use Rattle.spr_io.specs.Host.{Image, held, image_content}
use Rattle.spr_io.proofs.Image.{answered_ok, answered_err, on_ok, keeps}
use Rattle.spr_io.proofs.host_store.HostStoreStore.flush.Goals as goal

pub returns-clause-held : goal.returns-clause-held
returns-clause-held g c =
    let same : c.sync-outcome.new.self.count ≡ c.args.self.now.count = ap (λ (i : Image). i.count) c.sync-outcome.ensures.same in
    answered_ok c.sync-outcome.result c.answer.result _ (held c.answer.new.self ≡ flushed (held c.args.self.now)) (λ room. c.answer.ensures.refused (omega (arith, room, same))) (on_ok_weaker c.sync-outcome.result (λ e. ap held c.answer.ensures.same ∙ e) c.sync-outcome.ensures.ok)

pub returns-clause-unkept : goal.returns-clause-unkept
returns-clause-unkept g c =
    answered_err c.sync-outcome.result c.answer.result (held c.answer.new.self ≡ held c.args.self.now) c.answer.ensures.failed (on_err_weaker c.sync-outcome.result (λ e. ap held c.answer.ensures.same ∙ e) c.sync-outcome.ensures.err)

pub returns-clause-ok : goal.returns-clause-ok
returns-clause-ok g c = on_ok c.answer.result (image_content c.answer.new.self ≡ flushed (image_content c.args.self.now)) (ap image_content c.answer.ensures.same ∙ c.sync-outcome.ensures.told)

pub returns-clause-err : goal.returns-clause-err
returns-clause-err g c =
    answered_err c.sync-outcome.result c.answer.result (image_content c.answer.new.self ≡ image_content c.args.self.now) c.answer.ensures.failed (on_err_weaker c.sync-outcome.result (λ e. ap image_content c.answer.ensures.same ∙ e) c.sync-outcome.ensures.told_err)

pub returns-clause-shape : goal.returns-clause-shape
returns-clause-shape g c = keeps c.args.self.now c.sync-outcome.new.self c.answer.new.self (ap (λ (i : Image). i.size) c.sync-outcome.ensures.same) (ap (λ (i : Image). i.blocks) c.sync-outcome.ensures.same) c.answer.ensures.same c.answer.ensures.shape
