use Rattle.std.proofs.Common.{◌≡◌, suc, length, List, map, ap, subst, ◌∙◌, arith}
use Rattle.name_context.specs.History.{NamesSeen}
use Rattle.stack_engine.specs.Tower.{TowerSeen}
use Rattle.spr_volume.specs.Passes.{AreBack, AreNamesBack, Knows, VolumeSeen, logs}
use Rattle.run_files.specs.Play.{unnamed}
use Rattle.run_files.proofs.PlayLaws.{played-back}
use Rattle.run_files.proofs.play.play.Goals as goal

pub returns-clause-played : goal.returns-clause-played
returns-clause-played g c =
    let script = c.args.script.now in
    let v : VolumeSeen = c.in-Ok-mount.mounted.0 in
    let p : Knows = c.in-Ok-mount.mounted.1 in
    let mounted = c.in-Ok-mount.ensures.volume in
    let count = ap length c.as_slice.ensures in
    let callers = mounted.end_is in
    let end : v.end ≡ suc (length script.clients) = omega (arith, count, callers) in
    let is = c.in-Ok-mount.ensures.pass in
    let towers : List TowerSeen = c.unmount-towers.result.0.items in
    let names : NamesSeen = c.unmount-towers.result.1 in
    let began : v.names ≡ unnamed c.args.mount.now = mounted.names_are ∙ c.in-Ok.ensures in
    played-back c.args.mount.now c.args.asked.loss script c.args.towers.items towers names p c.play_over-pass.result.0 (map (λ v. v.items) c.play_over-pass.result.1.said.items) c.play_over-pass.result.1.closing.items
    (ap (λ (x : Knows). x.first) is) (ap (λ (x : Knows). x.end) is ∙ end) (ap (λ (x : Knows). x.logs) is ∙ ap logs mounted.towers_are) (ap (λ (x : Knows). x.history) is ∙ ap (λ (n : NamesSeen). n.history) began)
    c.requires.unwritten c.play_over-pass.ensures
    (subst (λ (ts : List TowerSeen). AreBack (suc (length script.clients)) ts towers) mounted.towers_are (subst (λ n. AreBack n v.towers towers) end c.unmount-towers.ensures.back))
    c.unmount-towers.ensures.logs
    (subst (λ (n : NamesSeen). AreNamesBack (suc (length script.clients)) n names) began (subst (λ n. AreNamesBack n v.names names) end c.unmount-towers.ensures.names))
    c.unmount-towers.ensures.history c.sound.ensures
