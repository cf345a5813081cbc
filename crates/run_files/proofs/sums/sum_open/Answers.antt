use denote.Exit.{no}
use denote.Param.Send.{arg_send, param_send}
use Rattle.std.proofs.Common.{suc, length, map, List, ℕ, ◌∙◌, sym}
use Rattle.stack_engine.specs.Tower.{TowerSeen}
use Rattle.file_stores.proofs.Crossing.{ground_send}
use Rattle.run_files.proofs.BeginLaws.{back-since, length-tried}
use Rattle.run_files.proofs.RunLaws.{towers-opened, unwritten-opened}
use Rattle.run_files.proofs.TowerLaws.{same-number}
use Rattle.run_files.proofs.sums.sum_open.Goals as goal

pub play_read-requires-send-G : goal.play_read-requires-send-G
play_read-requires-send-G g c κs within = param_send _ _ (arg_send _ no _ (ground_send _ _ c.type_bounds.send-B-Store))

pub play_read-requires-clause-towers : goal.play_read-requires-clause-towers
play_read-requires-clause-towers g c κs within = let o = c.requires.opened in towers-opened c.args.given.now.mount.now o.0 c.args.files.towers.items o.1 o.2

pub play_read-requires-clause-unwritten : goal.play_read-requires-clause-unwritten
play_read-requires-clause-unwritten g c κs within = let o = c.requires.opened in unwritten-opened c.args.given.now.mount.now o.0 c.args.files.towers.items o.2

pub end_sum-requires-clause-begun : goal.end_sum-requires-clause-begun
end_sum-requires-clause-begun g c κs within =
    let o = c.requires.opened in
    let p = c.in-Ok.ensures.played in
    (o.0, c.args.files.towers.items, p.0, p.1, o.1, o.2, o.3, p.2, c.args.asked.loss, p.3)

pub end_sum-requires-clause-made : goal.end_sum-requires-clause-made
end_sum-requires-clause-made g c κs within =
    let p = c.in-Ok.ensures.played in
    let end : ℕ = suc (length c.args.given.now.script.now.clients) in
    let opened : List TowerSeen = c.args.files.towers.items in
    let towers : List TowerSeen = c.in-Ok.towers.items in
    c.requires.made ∙ sym (same-number end opened towers (back-since end opened p.0 towers (map (λ b. b.items) c.in-Ok.bytes.items) p.2 p.3.later))

pub end_unplayed-requires-clause-made : goal.end_unplayed-requires-clause-made
end_unplayed-requires-clause-made g c κs within =
    c.requires.made ∙ sym (length-tried (length c.args.given.now.script.now.clients) c.args.files.towers.items c.in-Err.towers.items c.in-Err.ensures.halted.0)

pub returns-in-Ok : goal.returns-in-Ok
returns-in-Ok g c =
    let p = c.in-Ok.ensures.played in
    record { ended = λ before olds taken of opens made. c.end_sum.ensures.ended before olds c.args.files.towers.items p.0 p.1 taken of opens made p.2 c.args.asked.loss p.3 }

pub returns-in-Err : goal.returns-in-Err
returns-in-Err g c = record { ended = λ before olds taken of opens made. c.end_unplayed.ensures.ended before olds c.args.files.towers.items taken of opens made c.in-Err.ensures.halted.0 c.args.asked.loss }
