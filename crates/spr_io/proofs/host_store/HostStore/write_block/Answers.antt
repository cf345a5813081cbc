use Rattle.std.proofs.Common.{◌≡◌, ◌<◌, length, subst, sym}
use Rattle.spr_io.specs.Host.{Image}
use Rattle.spr_io.proofs.Image.{at_block, wrote_held, wrote_told, fits_outcome}
use Rattle.spr_io.proofs.host_store.HostStore.write_block.Goals as goal

pub write_at-requires : goal.write_at-requires
write_at-requires g c =
    let within : c.args.block < c.self.inside.blocks = subst (λ (i : Image). c.args.block < i.blocks) (sym c.self.view_is) c.requires.block in
    let same : length c.args.bytes.now ≡ c.self.inside.size = subst (λ (i : Image). length c.args.bytes.now ≡ i.size) (sym c.self.view_is) c.requires.size in
    at_block c.self.inside.size c.self.inside.blocks c.args.block c.start_of.result (length c.args.bytes.now) c.self.inside.spoiled (g.F.RawFile.seen c.self.inside.file) within same c.start_of.ensures c.self.invariant

pub invariant_of-self : goal.invariant_of-self
invariant_of-self g c =
    let within : c.args.block < c.self.inside.blocks = subst (λ (i : Image). c.args.block < i.blocks) (sym c.self.view_is) c.requires.block in
    let same : length c.args.bytes.now ≡ c.self.inside.size = subst (λ (i : Image). length c.args.bytes.now ≡ i.size) (sym c.self.view_is) c.requires.size in
    let has = at_block c.self.inside.size c.self.inside.blocks c.args.block c.start_of.result (length c.args.bytes.now) c.self.inside.spoiled (g.F.RawFile.seen c.self.inside.file) within same c.start_of.ensures c.self.invariant in
    fits_outcome c.write_at.result c.start_of.result _ c.args.bytes.now c.self.inside.spoiled (g.F.RawFile.seen c.self.inside.file) (g.F.RawFile.seen c.write_at.new.self) has c.write_at.ensures.ok c.write_at.ensures.err c.self.invariant

pub returns-clause-ok : goal.returns-clause-ok
returns-clause-ok g c =
    let within : c.args.block < c.self.inside.blocks = subst (λ (i : Image). c.args.block < i.blocks) (sym c.self.view_is) c.requires.block in
    let same : length c.args.bytes.now ≡ c.self.inside.size = subst (λ (i : Image). length c.args.bytes.now ≡ i.size) (sym c.self.view_is) c.requires.size in
    rw (← c.self.view_is) (wrote_held c.write_at.result c.self.inside.size c.self.inside.blocks c.args.block c.start_of.result c.args.bytes.now c.self.inside.spoiled (g.F.RawFile.seen c.self.inside.file) (g.F.RawFile.seen c.write_at.new.self) within same c.start_of.ensures c.self.invariant c.write_at.ensures.ok)

pub returns-clause-told : goal.returns-clause-told
returns-clause-told g c =
    let within : c.args.block < c.self.inside.blocks = subst (λ (i : Image). c.args.block < i.blocks) (sym c.self.view_is) c.requires.block in
    let same : length c.args.bytes.now ≡ c.self.inside.size = subst (λ (i : Image). length c.args.bytes.now ≡ i.size) (sym c.self.view_is) c.requires.size in
    rw (← c.self.view_is) (wrote_told c.write_at.result c.self.inside.size c.self.inside.blocks c.args.block c.start_of.result c.args.bytes.now c.self.inside.spoiled (g.F.RawFile.seen c.self.inside.file) (g.F.RawFile.seen c.write_at.new.self) within same c.start_of.ensures c.self.invariant c.write_at.ensures.ok c.write_at.ensures.err c.write_at.ensures.sure)
