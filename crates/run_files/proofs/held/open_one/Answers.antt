use Rattle.std.proofs.Common.{inl, inr, refl, sym, ap, subst, ◌∙◌}
use Rattle.stack_engine.specs.Start as engines
use Rattle.file_stores.specs.Under.{seen_under}
use Rattle.run_files.specs.Held.{BeganOn, paged}
use Rattle.run_files.proofs.HeldLaws.{opens-of}
use Rattle.script_meaning.specs.Stack.{pages_of}
use Rattle.file_stores.specs.Files.{FileSeen}
use Rattle.file_stores.proofs.OpenLaws.{opened-number}
use Rattle.file_stores.proofs.StoreLaws.{unopened-lasts}
use Rattle.run_files.proofs.TurnLaws.{shut-at-once}
use Rattle.run_files.proofs.held.open_one.Goals as goal

pub returns-in-Err-clause-pairs : goal.returns-in-Err-clause-pairs
returns-in-Err-clause-pairs g c = unopened-lasts c.args.mount.now c.args.stores c.in-Err.unopened.stores c.in-Err.unopened.stop c.requires.file c.in-Err.ensures.keys c.in-Err.ensures.refused

pub returns-in-Err-clause-cause : goal.returns-in-Err-clause-cause
returns-in-Err-clause-cause g c = inl c.in-Err.ensures.refused

pub open_tower-requires-clause-number : goal.open_tower-requires-clause-number
open_tower-requires-clause-number g c κs within = opened-number c.args.mount.now c.args.stores c.in-Ok.opened.1.items c.in-Ok.opened.0 c.requires.file c.in-Ok.ensures.opened ∙ ap (λ (f : FileSeen). pages_of c.args.mount.now f.file) (sym c.stores.view_is)

pub returns-in-Err-open_tower-clause-pairs : goal.returns-in-Err-open_tower-clause-pairs
returns-in-Err-open_tower-clause-pairs g c =
    (shut-at-once c.args.mount.now c.args.stores c.close_file.result c.in-Ok.opened.1.items c.in-Ok.opened.0 c.in-Err-open_tower.ground c.stores.inside.file c.requires.file c.in-Ok.ensures.opened c.open_tower.ensures.sound c.in-Err-open_tower.ensures.back
    (ap (λ (f : FileSeen). f.file) c.stores.view_is) c.close_file.ensures.file c.close_file.ensures.keys c.close_file.ensures.left).1

pub returns-in-Err-open_tower-clause-cause : goal.returns-in-Err-open_tower-clause-cause
returns-in-Err-open_tower-clause-cause g c =
    inr (
      (shut-at-once c.args.mount.now c.args.stores c.close_file.result c.in-Ok.opened.1.items c.in-Ok.opened.0 c.in-Err-open_tower.ground c.stores.inside.file c.requires.file c.in-Ok.ensures.opened c.open_tower.ensures.sound c.in-Err-open_tower.ensures.back
          (ap (λ (f : FileSeen). f.file) c.stores.view_is) c.close_file.ensures.file c.close_file.ensures.keys c.close_file.ensures.left).0,
      refl,
    )

pub returns-in-Ok-open_tower-clause-opened : goal.returns-in-Ok-open_tower-clause-opened
returns-in-Ok-open_tower-clause-opened g c =
    let mount = c.args.mount.now in
    let f : FileSeen = c.args.stores in
    let own = ap (λ (x : FileSeen). x.file) c.stores.view_is in
    opens-of mount f c.in-Ok.opened.1.items c.in-Ok.opened.0 c.in-Ok-open_tower.tower c.in-Ok.ensures.many c.in-Ok.ensures.opened c.in-Ok-open_tower.ensures.sound
    (subst (λ n. engines.Opens mount.tree (paged mount n) (seen_under c.in-Ok.opened.0) c.in-Ok-open_tower.tower.engine) own c.in-Ok-open_tower.ensures.opened) c.in-Ok-open_tower.ensures.free c.in-Ok-open_tower.ensures.machines
    (subst (λ n. BeganOn mount n c.in-Ok.opened.0 c.in-Ok-open_tower.tower) own c.in-Ok-open_tower.ensures.began)
