use Rattle.std.proofs.Common.{◌≡◌, ◌<◌, length, subst, sym, ◌∙◌}
use Rattle.spr_io.specs.Host.{Image}
use Rattle.spr_io.proofs.Image.{reads_block, reads_content, at_block}
use Rattle.spr_io.proofs.host_store.HostStore.read_block.Goals as goal

pub returns-clause-bytes : goal.returns-clause-bytes
returns-clause-bytes g c =
    let within : c.args.block < c.self.inside.blocks = subst (λ (i : Image). c.args.block < i.blocks) (sym c.self.view_is) c.requires.block in
    let same : length c.read_whole.new.out ≡ c.self.inside.size = c.read_whole.auto.out ∙ subst (λ (i : Image). length c.args.out.now ≡ i.size) (sym c.self.view_is) c.requires.size in
    rw (← c.self.view_is) (reads_block c.read_whole.result c.self.inside.size c.self.inside.blocks c.args.block c.start_of.result (g.F.RawFile.seen c.self.inside.file) c.read_whole.new.out within same c.start_of.ensures c.read_whole.ensures.bytes)

pub returns-clause-told : goal.returns-clause-told
returns-clause-told g c =
    let within : c.args.block < c.self.inside.blocks = subst (λ (i : Image). c.args.block < i.blocks) (sym c.self.view_is) c.requires.block in
    let same : length c.read_whole.new.out ≡ c.self.inside.size = c.read_whole.auto.out ∙ subst (λ (i : Image). length c.args.out.now ≡ i.size) (sym c.self.view_is) c.requires.size in
    let reads = reads_block c.read_whole.result c.self.inside.size c.self.inside.blocks c.args.block c.start_of.result (g.F.RawFile.seen c.self.inside.file) c.read_whole.new.out within same c.start_of.ensures c.read_whole.ensures.bytes in
    let has = at_block c.self.inside.size c.self.inside.blocks c.args.block c.start_of.result (length c.read_whole.new.out) c.self.inside.spoiled (g.F.RawFile.seen c.self.inside.file) within same c.start_of.ensures c.self.invariant in
    rw (← c.self.view_is) (reads_content c.read_whole.result c.self.inside.size c.self.inside.blocks c.args.block (g.F.RawFile.seen c.self.inside.file) c.read_whole.new.out reads (λ err. c.read_whole.ensures.sure err has))
