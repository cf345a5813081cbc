use Rattle.std.proofs.Common.{List, Option, map, ap, subst, arith}
use Rattle.spr_report.specs.Writing.{Writes}
use Rattle.mirror_layer.specs.declared.came.Notice.{Notice}
use Rattle.file_stores.specs.Notices.{all_notices}
use Rattle.file_stores.proofs.NoticeLaws.{offered}
use Rattle.run_files.proofs.shut.shut_files.Goals as goal

pub close_towers-requires-clause-few : goal.close_towers-requires-clause-few
close_towers-requires-clause-few g c κs within =
    let many = c.requires.towers in
    let few = c.requires.mount.few_files in
    omega (arith, many, few)

pub close_towers-requires-clause-files : goal.close_towers-requires-clause-files
close_towers-requires-clause-files g c κs within =
    let many = c.requires.towers in
    let room = c.requires.closed.1 in
    (c.requires.closed.0, omega (arith, many, room))

pub close_towers-requires-clause-trails : goal.close_towers-requires-clause-trails
close_towers-requires-clause-trails g c κs within =
    let many = c.requires.towers in
    let room = c.requires.trails.1 in
    (c.requires.trails.0, omega (arith, many, room))

pub close_towers-requires-clause-notices : goal.close_towers-requires-clause-notices
close_towers-requires-clause-notices g c κs within =
    let many = c.requires.towers in
    let room = c.requires.told.1 in
    (c.requires.told.0, omega (arith, many, room))

pub give_files-requires-clause-keys : goal.give_files-requires-clause-keys
give_files-requires-clause-keys g c κs within = (c.requires.own c.close_towers.new.files.items (map (λ m. m.items) c.close_towers.new.notices.items) c.close_towers.ensures.shut c.close_towers.ensures.ended).keys

pub give_files-requires-clause-short : goal.give_files-requires-clause-short
give_files-requires-clause-short g c κs within = (c.requires.own c.close_towers.new.files.items (map (λ m. m.items) c.close_towers.new.notices.items) c.close_towers.ensures.shut c.close_towers.ensures.ended).short

pub returns-clause-closed : goal.returns-clause-closed
returns-clause-closed g c =
    let told : List (List (Option Notice)) = map (λ m. m.items) c.close_towers.new.notices.items in
    let was = g.N.Sink.told c.args.notices.now in
    let is = g.N.Sink.told c.tell_notices.new.sink in
    let same = ap (λ ms. map (λ m. m.items) ms) c.deref.ensures.value in
    record {
      news = c.close_towers.new.files.items;
      told = told;
      shut = c.close_towers.ensures.shut;
      ended = c.close_towers.ensures.ended;
      given = c.give_files.ensures;
      offered = offered was is (all_notices c.args.mount.now told) c.tell_notices.result (subst (λ (ms : List (List (Option Notice))). Writes was is (all_notices c.args.mount.now ms) c.tell_notices.result) same c.tell_notices.ensures);
    }
