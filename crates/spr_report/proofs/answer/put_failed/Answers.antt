use Rattle.std.proofs.Common.{◌∷◌, codes}
use Rattle.script_text.specs.Answer.{answer_words}
use Rattle.spr_report.proofs.Words.{line_put, more_words}
use Rattle.spr_report.proofs.answer.put_failed.Goals as goal

pub returns : goal.returns
returns c =
    let word = rw c.as_bytes.ensures.value at c.in_ok-put_word.ensures in
    let words = answer_words c.args.disks.now c.args.reply.now in
    line_put c.put-2.result c.args.out.now.items c.put.new.out.items c.put_reply.new.out.items c.put-2.new.out.items (codes "closing") (c.args.file.now ∷ words)
    c.in_ok-put.ensures.ok (more_words c.put.new.out.items c.put_word.new.out.items c.put_reply.new.out.items c.args.file.now words word c.in_ok-put_reply.ensures) c.put-2.ensures.ok
