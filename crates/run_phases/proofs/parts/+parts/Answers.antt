use denote.Exit.{no}
use denote.Param.{param}
use denote.Param.Send.{IsSend, IsSync, arg_send, arg_sync, param_send, param_sync, sendable, shr_slice_sync, shr_sync}
use denote.RattleType.{RattleType}
use denote.Struct.Field.{u64-field}
use Rattle.std.proofs.Common.{rules}
use Rattle.std.proofs.Crossing as heap
use Rattle.std.proofs.option.Option.TheSendSync as option
use Rattle.script_text.proofs.script.CallLine.TheSendSync as line
use Rattle.run_phases.proofs.Crossing.{common_sync, part_send, shared_with_five}
use Rattle.run_phases.proofs.PartLaws.{may-high, may-low, parts-done, room-for, whole-done}
use Rattle.run_phases.proofs.parts.+parts.Goals as goal

pub run_part-run_halves-low-requires-clause-low : goal.run_part-run_halves-low-requires-clause-low
run_part-run_halves-low-requires-clause-low g t c κs within = may-low c.args.common.now.mount.now c.args.lines.now c.args.common.now.volume.now c.args.part c.in-Ok.low c.in-Ok.high (search rules) c.requires

pub run_part-run_halves-low-requires-clause-high : goal.run_part-run_halves-low-requires-clause-high
run_part-run_halves-low-requires-clause-high g t c κs within = may-high c.args.common.now.mount.now c.args.lines.now c.args.common.now.volume.now c.args.part c.in-Ok.low c.in-Ok.high (search rules) c.requires

pub run_part-rejoin-requires-clause-room : goal.run_part-rejoin-requires-clause-room
run_part-rejoin-requires-clause-room g t c κs within = room-for c.args.common.now.mount.now c.args.lines.now c.args.common.now.volume.now c.args.part c.in-Ok.low c.in-Ok.high (search rules) c.requires
    c.run_halves-low.result.0 c.run_halves-low.result.1 c.run_halves-low.ensures.low c.run_halves-low.ensures.high (search rules)

pub run_part-returns-in-Ok : goal.run_part-returns-in-Ok
run_part-returns-in-Ok g t c = parts-done c.args.common.now.mount.now c.args.lines.now c.args.common.now.volume.now c.args.part c.in-Ok.low c.in-Ok.high (search rules) c.requires
    c.run_halves-low.result.0 c.run_halves-low.result.1 c.run_halves-low.ensures.low c.run_halves-low.ensures.high c.rejoin.result
    c.rejoin.ensures.pass c.rejoin.ensures.low c.rejoin.ensures.high c.rejoin.ensures.first c.rejoin.ensures.workers c.rejoin.ensures.capacity

pub run_part-returns-in-Err : goal.run_part-returns-in-Err
run_part-returns-in-Err g t c = whole-done c.args.common.now.mount.now c.args.lines.now c.args.part c.in-Err.whole _ c.run_in_turn.new.workers c.run_in_turn.new.pass (search rules) (search rules) (search rules) (search rules) (search rules) c.run_in_turn.ensures.done (search rules)

pub run_halves-for_each_mut-requires-send-T : goal.run_halves-for_each_mut-requires-send-T
run_halves-for_each_mut-requires-send-T g t c κs within =
    let G : RattleType = param 1 g.row.G in
    let ground : IsSend G = search (param_send) in
    param_send _ _ (arg_send _ no _ (option.the_send _ (part_send G g.G.Ground ground)))

pub run_halves-for_each_mut-requires-sync-F : goal.run_halves-for_each_mut-requires-sync-F
run_halves-for_each_mut-requires-sync-F g t c κs within =
    let G : RattleType = param 1 g.row.G in
    let T : RattleType = param 2 g.row.T in
    let R : RattleType = param 0 g.row.R in
    let ground : IsSend G = search (param_send) in
    let gate : IsSync g.row.T = search (rules, c.requires-raw) parts 8 in
    let runtime : IsSync R = search (rules, c.requires-raw) parts 8 in
    let count : IsSync (u64-field).row = search sendable in
    param_sync _ _ (arg_sync _ no _ (shared_with_five _ _ _ _ _ _
    (shr_sync _ _ _ runtime)
    (shr_sync _ _ _ heap.sync)
    (shr_sync _ _ _ (common_sync G g.G.Ground ground _ T (param_sync 2 g.row.T gate)))
    (shr_sync _ _ _ count)
    (shr_slice_sync _ _ _ line.the_sync)))
