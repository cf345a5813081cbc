use Rattle.std.proofs.Common.{◌∙◌, Vec, Global}
use Rattle.script_text.specs.declared.script.Said.{Said}
use Rattle.run_files.proofs.EndedLaws.{status-is}
use Rattle.run_files.proofs.ended.status_of.Goals as goal

pub returns : goal.returns
returns c =
    c.status_by.ensures ∙ status-is (λ (v : Vec Said Global). v.items) c.args.said.now c.args.closing.now c.args.lost.now c.any_lacks.result c.any_memory.result c.any_lost.result c.any_fault.result c.all_done.result
    c.any_lacks.ensures c.any_memory.ensures c.any_lost.ensures c.any_fault.ensures c.all_done.ensures
