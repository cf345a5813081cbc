use Rattle.std.proofs.Common.{subst}
use Rattle.disk_format.proofs.ShapeLaws.{size_low}
use Rattle.disk_layer.specs.Disk.{IsBlank}
use Rattle.disk_layer.specs.Calls.{IsNone}
use Rattle.disk_layer.specs.Making.{Making}
use Rattle.disk_layer.proofs.MappedLaws.{mapped-shaped}
use Rattle.disk_layer.proofs.MakingLaws.{blank-none}
use Rattle.disk_layer.proofs.making.Making.leave.Goals as goal

pub returns-clause-none : goal.returns-clause-none
returns-clause-none g c =
    let f = c.self.inside.front in
    let s = c.self.inside.store in
    let content = g.S.Store.content s in
    subst (λ (v : Making). IsBlank v.content → IsNone v.shape v.content) c.self.view_is
    (blank-none f.shape content (size_low f.shape c.self.invariant.map.fit) (mapped-shaped f (g.S.Store.size s) (g.S.Store.number s) content c.self.invariant))
