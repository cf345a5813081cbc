use Rattle.std.proofs.Common.{◌≡◌, ap, ◌∙◌, arith}
use Rattle.std.proofs.lemmas.Result.{on_ok_weaker, on_err_weaker}
use Rattle.spr_io.specs.Content.{written}
use Rattle.spr_io.specs.Host.{Image, held, image_content}
use Rattle.spr_io.proofs.Image.{answered_ok, answered_err, on_ok, keeps, wrote_alone}
use Rattle.spr_io.proofs.host_store.HostStoreStore.write.Goals as goal

pub returns-clause-held : goal.returns-clause-held
returns-clause-held g c =
    let same : c.write_block-outcome.new.self.count ≡ c.args.self.now.count = ap (λ (i : Image). i.count) c.write_block-outcome.ensures.same in
    answered_ok c.write_block-outcome.result c.answer.result _ (held c.answer.new.self ≡ written c.args.block c.args.bytes.now (held c.args.self.now)) (λ room. c.answer.ensures.refused (omega (arith, room, same))) (on_ok_weaker c.write_block-outcome.result (λ e. ap held c.answer.ensures.same ∙ e) c.write_block-outcome.ensures.ok)

pub returns-clause-refused : goal.returns-clause-refused
returns-clause-refused g c =
    answered_err c.write_block-outcome.result c.answer.result (held c.answer.new.self ≡ held c.args.self.now) c.answer.ensures.failed (on_err_weaker c.write_block-outcome.result (λ e. ap held c.answer.ensures.same ∙ ap held e) c.write_block-outcome.ensures.err)

pub returns-clause-after : goal.returns-clause-after
returns-clause-after g c = wrote_alone c.args.self.now c.write_block-outcome.new.self c.answer.new.self c.write_block-outcome.ensures.same c.answer.ensures.same

pub returns-clause-ok : goal.returns-clause-ok
returns-clause-ok g c = on_ok c.answer.result (image_content c.answer.new.self ≡ written c.args.block c.args.bytes.now (image_content c.args.self.now)) (ap image_content c.answer.ensures.same ∙ c.write_block-outcome.ensures.told)

pub returns-clause-err : goal.returns-clause-err
returns-clause-err g c =
    answered_err c.write_block-outcome.result c.answer.result (image_content c.answer.new.self ≡ image_content c.args.self.now) c.answer.ensures.failed (on_err_weaker c.write_block-outcome.result (λ e. ap image_content c.answer.ensures.same ∙ ap image_content e) c.write_block-outcome.ensures.err)

pub returns-clause-shape : goal.returns-clause-shape
returns-clause-shape g c = keeps c.args.self.now c.write_block-outcome.new.self c.answer.new.self (ap (λ (i : Image). i.size) c.write_block-outcome.ensures.same) (ap (λ (i : Image). i.blocks) c.write_block-outcome.ensures.same) c.answer.ensures.same c.answer.ensures.shape
