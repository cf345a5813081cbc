use denote.Exit.{no}
use denote.Param.Send.{arg_send, param_send}
use Rattle.std.proofs.Common.{inr, refl, suc, length, List, ap, ◌∙◌, sym, subst}
use Rattle.stack_engine.specs.Tower.{TowerSeen}
use Rattle.file_stores.proofs.Crossing.{ground_send}
use Rattle.run_files.specs.Held.{OpensEach}
use Rattle.run_files.specs.Run.{traced_by}
use Rattle.run_files.proofs.RunLaws.{towers-opened, unwritten-opened}
use Rattle.run_files.proofs.StopLaws.{run-stopped}
use Rattle.run_files.proofs.TowerLaws.{same-number, towers-stay}
use Rattle.run_files.proofs.run.run_open.Goals as goal

pub play-requires-send-G : goal.play-requires-send-G
play-requires-send-G g c κs within = param_send _ _ (arg_send _ no _ (ground_send _ _ c.type_bounds.send-B-Store))

pub play-requires-clause-towers : goal.play-requires-clause-towers
play-requires-clause-towers g c κs within = let o = c.requires.opened in towers-opened c.args.given.now.mount.now o.0 c.args.files.towers.items o.1 o.2

pub play-requires-clause-unwritten : goal.play-requires-clause-unwritten
play-requires-clause-unwritten g c κs within = let o = c.requires.opened in unwritten-opened c.args.given.now.mount.now o.0 c.args.files.towers.items o.2

pub end_run-requires-clause-begun : goal.end_run-requires-clause-begun
end_run-requires-clause-begun g c κs within = let o = c.requires.opened in (o.0, c.args.files.towers.items, o.1, o.2, o.3, c.args.asked.loss, c.in-Ok.ensures.played)

pub end_run-requires-clause-towers : goal.end_run-requires-clause-towers
end_run-requires-clause-towers g c κs within =
    let o = c.requires.opened in
    let mount = c.args.given.now.mount.now in
    towers-stay mount (suc (length c.args.given.now.script.now.clients)) c.args.files.towers.items c.in-Ok.towers.items c.in-Ok.ensures.played.later (towers-opened mount o.0 c.args.files.towers.items o.1 o.2)

pub return_all-requires-clause-halts : goal.return_all-requires-clause-halts
return_all-requires-clause-halts g c κs within =
    let o = c.requires.opened in
    (o.0, o.1, inr (subst (λ (ts : List TowerSeen). OpensEach c.args.given.now.mount.now o.0 ts) (sym c.in-Err.ensures.back) o.2, c.requires.rest, refl))

pub returns-in-Ok : goal.returns-in-Ok
returns-in-Ok g c = record { ended = λ before olds taken of opens made. c.end_run.ensures.ended before olds c.args.files.towers.items taken of opens made c.args.asked.loss c.in-Ok.ensures.played }

pub returns-in-Err : goal.returns-in-Err
returns-in-Err g c =
    let mount = c.args.given.now.mount.now in
    let after = g.B.Bay.told c.return_all.new.bay in
    record {
      ended = λ before olds taken of opens made.
          run-stopped mount c.args.asked.loss c.args.given.now.script.now (traced_by c.args.given.now.ops.now c.args.trace) before after (g.K.Sink.told c.args.sink.now) (g.K.Sink.told c.return_all.new.sink) (g.N.Sink.told c.args.notices.now) c.return_all.result
          (c.return_all.ensures.ended before olds taken of
          (inr (subst (λ (ts : List TowerSeen). OpensEach mount olds ts) (sym c.in-Err.ensures.back) opens, c.requires.rest, refl)));
    }

pub end_run-requires-clause-made : goal.end_run-requires-clause-made
end_run-requires-clause-made g c κs within = c.requires.made ∙ sym (same-number (suc (length c.args.given.now.script.now.clients)) c.args.files.towers.items c.in-Ok.towers.items c.in-Ok.ensures.played.later)

pub return_all-requires-clause-made : goal.return_all-requires-clause-made
return_all-requires-clause-made g c κs within = c.requires.made ∙ sym (ap length c.in-Err.ensures.back)
