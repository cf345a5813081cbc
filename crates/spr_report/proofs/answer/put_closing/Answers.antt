use Rattle.spr_report.proofs.Words.{closing_line-failed}
use Rattle.spr_report.proofs.answer.put_closing.Goals as goal

pub returns-in_default : goal.returns-in_default
returns-in_default c =
    let failed = closing_line-failed c.args.disks.now c.args.file.now c.args.reply.now c.in_default.not-Done in
    rw failed c.put_failed.ensures
