use Rattle.std.proofs.Common.{◌<◌, ◌≤◌, List, length, get_or, vec_capacity, ap, subst, sym, ◌∙◌}
use Rattle.std.specs.List.{flat_map}
use Rattle.script_text.specs.declared.script.ClientLine.{ClientLine}
use Rattle.script_meaning.specs.Fits.{lines_of}
use Rattle.run_phases.specs.declared.worker.Worker.{Worker}
use Rattle.run_phases.specs.Workers.{IsStarted, AreStarted, HaveRoom}
use Rattle.run_phases.proofs.StartLaws.{started-next, room-more}
use Rattle.run_phases.proofs.start.workers_of.Goals as goal

pub loop-number-preserved : goal.loop-number-preserved
loop-number-preserved c =
    let inv = c.loop-number.invariant in
    let number = c.loop-number.number in
    let lines = c.args.script.now.clients in
    let phases = c.args.script.now.phases in
    let workers = c.loop-number.workers.items in
    let worker : Worker = c.in_ok-worker.worker in
    let d = c.index-lines-number.result in
    let same = c.as_slice-lines.ensures in
    let items = c.in_ok-push.ensures.items in
    let lt = subst (λ (ls : List ClientLine). number < length ls) same c.loop-number-test.true in
    let started : IsStarted c.args.mount.now c.args.loss number (get_or lines number d) worker =
    subst (λ (l : ClientLine). IsStarted c.args.mount.now c.args.loss number l worker) (c.index-lines-number.is ∙ ap (λ (ls : List ClientLine). get_or ls number d) same) c.in_ok-worker.ensures.started in
    let fits : length (flat_map (lines_of worker.client.caller) phases) ≤ vec_capacity worker.said =
    subst (λ n. length (flat_map (lines_of n) phases) ≤ vec_capacity worker.said) (sym started.caller_is) (subst (λ n. n ≤ vec_capacity worker.said) c.lines_of.ensures c.in_ok-worker.ensures.room) in
    record {
      started = subst (AreStarted c.args.mount.now c.args.loss 0 _) (sym items) (started-next c.args.mount.now c.args.loss lines number workers d worker lt inv.started started);
      room = subst (HaveRoom phases) (sym items) (room-more phases workers worker inv.room started.silent fits);
    }
