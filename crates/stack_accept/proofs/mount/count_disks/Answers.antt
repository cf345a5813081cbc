use Rattle.std.proofs.Common.{sym, ap, ◌∙◌, arith, count_by}
use Rattle.std.proofs.lemmas.List.{take_all}
use Rattle.stack_accept.specs.Lines.{is_disk}
use Rattle.stack_accept.proofs.Lists.{count_by_reverse}
use Rattle.stack_accept.proofs.mount.count_disks.Goals as goal

pub returns-clause-value : goal.returns-clause-value
returns-clause-value c =
    let lines = c.args.lines.now in
    c.loop-line.invariant
    ∙ ap (λ seen. count_by (λ line. is_disk line) seen) (take_all c.loop-line.line-index lines (omega arith))
    ∙ sym (count_by_reverse (λ line. is_disk line) lines)
