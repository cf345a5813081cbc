use Rattle.std.proofs.Common.{◌≡◌, ap, ◌∙◌, arith}
use Rattle.spr_io.specs.Content.{ReadsBlock}
use Rattle.spr_io.specs.Host.{Image, held, image_content}
use Rattle.spr_io.proofs.Image.{answered_ok, on_ok, keeps}
use Rattle.spr_io.proofs.host_store.HostStoreStore.read.Goals as goal

pub returns-clause-held : goal.returns-clause-held
returns-clause-held g c =
    let same : c.read_block-outcome.new.self.count ≡ c.args.self.now.count = ap (λ (i : Image). i.count) c.read_block-outcome.ensures.same in
    answered_ok c.read_block-outcome.result c.answer.result _ (ReadsBlock (held c.args.self.now) c.args.block c.read_block-outcome.new.out) (λ room. c.answer.ensures.refused (omega (arith, room, same))) c.read_block-outcome.ensures.bytes

pub returns-clause-after : goal.returns-clause-after
returns-clause-after g c = c.answer.ensures.same ∙ ap (λ (i : Image). record i { count = c.answer.new.self.count }) c.read_block-outcome.ensures.same

pub returns-clause-bytes : goal.returns-clause-bytes
returns-clause-bytes g c = on_ok c.answer.result (ReadsBlock (image_content c.args.self.now) c.args.block c.read_block-outcome.new.out) c.read_block-outcome.ensures.told

pub returns-clause-same : goal.returns-clause-same
returns-clause-same g c = ap image_content c.answer.ensures.same ∙ ap image_content c.read_block-outcome.ensures.same

pub returns-clause-shape : goal.returns-clause-shape
returns-clause-shape g c = keeps c.args.self.now c.read_block-outcome.new.self c.answer.new.self (ap (λ (i : Image). i.size) c.read_block-outcome.ensures.same) (ap (λ (i : Image). i.blocks) c.read_block-outcome.ensures.same) c.answer.ensures.same c.answer.ensures.shape
