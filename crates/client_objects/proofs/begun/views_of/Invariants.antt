use Rattle.std.proofs.Common.{◌≡◌, take}
use Rattle.client_objects.specs.Views.{views_from}
use Rattle.client_objects.proofs.begun.views_of.Given as goal

abbrev pub invariant-loop-number : goal.invariant-loop-number
invariant-loop-number l = l.views.items ≡ views_from 0 (take l.number l.nodes)
