use Rattle.std.proofs.Common.{◌≡◌, refl, sym, subst, rules}
use Rattle.hist_lock.specs.Sample.{EachMade}
use Rattle.hist_lock.proofs.SampleLemmas.{ok_of, halves_made, one_made}
use Rattle.hist_lock.proofs.sample.in_turn.Goals as goal

pub returns-clause-made : goal.returns-clause-made
returns-clause-made g c =
    let began : c.split.new.seat.seen ≡ c.args.roll.calls.items = search rules in
    let began' : c.unwrap-high.result.seen ≡ c.args.roll.calls.items = search rules in
    let one = ok_of c.enter-first.result _ _ c.in_ok-first.was c.enter-first.ensures.made in
    let two = ok_of c.enter-second.result _ _ c.in_ok-second.was c.enter-second.ensures.made in
    let met = halves_made _ _ _ _ c.enter-first.new.seat.seen c.enter-second.new.seat.seen 0 1 2 1 c.split.new.seat.seen c.unwrap-high.result.seen c.args.roll.calls.items c.meet.new.seat.seen c.meet.ensures.this c.meet.ensures.that
    (one_made 0 1 1 _ _ refl one) (one_made 1 2 1 _ _ refl two) began began' (search rules) (search rules) (search rules) (search rules) in
    subst (λ l. EachMade 0 2 1 c.args.roll.calls.items l) (sym c.close-roll.ensures.list) met
