use Rattle.std.proofs.Common.{◌<◌, ◌≤◌, List, length, get_or, ap, subst, ◌∙◌, arith}
use Rattle.std.specs.List.{flat_map}
use Rattle.std.proofs.lemmas.List.{take_all}
use Rattle.script_text.specs.declared.script.CallLine.{CallLine}
use Rattle.script_meaning.specs.Fits.{lines_of}
use Rattle.run_phases.proofs.StartLaws.{few-lines, lines-more, phase-of}
use Rattle.run_phases.proofs.start.lines_of.Goals as goal

pub overflow_add-count : goal.overflow_add-count
overflow_add-count c =
    let phases = c.args.script.now.phases in
    let i = c.loop-phase.phase-index in
    let phase : List CallLine = c.phase-item.result in
    let lt = subst (λ (ps : List (List CallLine)). i < length ps) c.as_slice-phase-items.ensures c.loop-phase-test.true in
    let is = c.phase-item.is ∙ ap (λ (ps : List (List CallLine)). get_or ps i phase) c.as_slice-phase-items.ensures in
    let part = phase-of phases i c.args.client phase lt in
    let here = ap (λ (p : List CallLine). length (lines_of c.args.client p)) is in
    let own = c.lines_in-count.ensures ∙ ap (λ (p : List CallLine). length (lines_of c.args.client p)) c.as_slice.ensures in
    let all = few-lines c.args.script.now c.args.client c.requires in
    let so = c.loop-phase.invariant in
    omega (arith, part, here, own, all, so)

pub loop-phase-preserved : goal.loop-phase-preserved
loop-phase-preserved c =
    let phases = c.args.script.now.phases in
    let i = c.loop-phase.phase-index in
    let phase : List CallLine = c.phase-item.result in
    let lt = subst (λ (ps : List (List CallLine)). i < length ps) c.as_slice-phase-items.ensures c.loop-phase-test.true in
    let is = c.phase-item.is ∙ ap (λ (ps : List (List CallLine)). get_or ps i phase) c.as_slice-phase-items.ensures in
    let more = lines-more phases i c.args.client phase is lt in
    let own = c.lines_in-count.ensures ∙ ap (λ (p : List CallLine). length (lines_of c.args.client p)) c.as_slice.ensures in
    let so = c.loop-phase.invariant in
    omega (arith, more, own, so)

pub returns : goal.returns
returns c =
    let phases = c.args.script.now.phases in
    let end = subst (λ (ps : List (List CallLine)). length ps ≤ c.loop-phase.phase-index) c.as_slice-phase-items.ensures c.loop-phase-test.false in
    c.loop-phase.invariant ∙ ap (λ (ps : List (List CallLine)). length (flat_map (lines_of c.args.client) ps)) (take_all c.loop-phase.phase-index phases end)
