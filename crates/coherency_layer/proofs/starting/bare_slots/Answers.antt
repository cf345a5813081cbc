use Rattle.std.proofs.Common.{rules}
use Rattle.std.proofs.lemmas.List.Elements.{All-push}
use Rattle.coherency_layer.specs.Bare.{IsBare}
use Rattle.coherency_layer.proofs.starting.bare_slots.Goals as goal

pub loop-preserved : goal.loop-preserved
loop-preserved c = record {
  many = search rules;
  bare = rw c.in_ok-push.ensures.items (All-push IsBare c.loop.slots.items c.new.result c.loop.invariant.bare (record { right = c.new.ensures.right; kids = c.new.ensures.kids; kept = c.new.ensures.slot }));
}
