use Rattle.std.proofs.Common.{sym, arith}
use Rattle.std.proofs.lemmas.List.{length_push}
use Rattle.std.proofs.lemmas.Result.{err_from_is_err_and}
use Rattle.sub_replicon.proofs.DoorLaws.{doors_more, doors_stop, one_file_more, place_more, taken_more, takes_more}
use Rattle.sub_replicon.proofs.reading.read_so_many.Goals as goal

pub returns-in_err-door-clause-value : goal.returns-in_err-door-clause-value
returns-in_err-door-clause-value c =
    let p = err_from_is_err_and c.from_residual.result c.from_residual.ensures.1 in
    let why = rw c.as_slice.ensures.value at c.in_err-door.ensures.why in
    rw (p.1, p.2)
    (sym (doors_stop c.args.number c.loop.counter c.args.from.now c.loop.from c.loop.doors c.in_err-door.field-0.0 c.loop-test.true c.loop.invariant.value c.loop.invariant.place why))

pub loop-preserved : goal.loop-preserved
loop-preserved c =
    let r = c.args.from.now in
    let now = c.loop.from in
    let doors = c.loop.doors in
    let door = c.in_ok-door.door in
    let n = c.loop.counter in
    let step = rw c.as_slice.ensures.value at c.in_ok-door.ensures.ok in
    let may = rw c.as_slice.ensures.value at c.in_ok-door.ensures.may in
    rw c.push.ensures
    (record {
      value = doors_more n r now doors door c.loop.invariant.value c.loop.invariant.place step;
      len = let pushed = length_push doors door in omega (arith, c.loop.invariant.len);
      one_file = one_file_more doors door c.loop.invariant.one_file may;
      place = place_more n r now c.read_door.new.from c.loop.invariant.place c.in_ok-door.ensures.place;
      taken = taken_more n r now c.read_door.new.from c.loop.invariant.place c.loop.invariant.taken c.in_ok-door.ensures.taken;
      there = takes_more r now c.read_door.new.from doors door c.loop.invariant.there c.in_ok-door.ensures.there c.in_ok-door.ensures.place;
    })
