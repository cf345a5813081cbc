use Rattle.std.specs.Fmt.{decimal}
use Rattle.script_text.specs.Answer.{answer_words}
use Rattle.spr_report.proofs.Words.{line_put}
use Rattle.spr_report.proofs.answer.put_said.Goals as goal

pub returns : goal.returns
returns c =
    let line = rw c.from.ensures at c.in_ok-put_number.ensures.ok in
    line_put c.put.result c.args.out.now.items c.put_number.new.out.items c.put_reply.new.out.items c.put.new.out.items (decimal c.args.said.now.line) (answer_words c.args.disks.now c.args.said.now.reply)
    line c.in_ok-put_reply.ensures c.put.ensures.ok
