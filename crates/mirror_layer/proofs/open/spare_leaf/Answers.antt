use Rattle.std.proofs.Common.{refl}
use Rattle.mirror_rules.specs.Tree.{Down}
use Rattle.mirror_layer.proofs.open.spare_leaf.Goals as goal

pub returns : goal.returns
returns g c = record {
  one = tt;
  why = Down;
  store = _;
  out = refl;
  fits = refl;
  tells = refl;
}
