use Rattle.std.proofs.Common.{subst}
use Rattle.spr_io.specs.Content.{IsShaped}
use Rattle.spr_io.specs.Host.{Image, image_content}
use Rattle.spr_io.proofs.Image.{shaped}
use Rattle.spr_io.proofs.host_store.HostStoreStore.blocks.Goals as goal

pub returns-clause-shape : goal.returns-clause-shape
returns-clause-shape g c =
    subst (λ (i : Image). IsShaped i.size i.blocks (image_content i)) c.self.view_is (shaped c.self.inside.size c.self.inside.blocks c.self.inside.spoiled (g.F.RawFile.seen c.self.inside.file) c.self.invariant)
