use Rattle.stack_text.proofs.Loop.{one_more}
use Rattle.text_words.specs.Lines.{row_of, rows_of}
use Rattle.stack_text.proofs.read.read_lines.Goals as goal

pub loop-rest-preserved : goal.loop-rest-preserved
loop-rest-preserved c =
    let added = c.in_default.ensures.ok in
    one_more _ c.loop-rest.lines.items c.add_line.new.lines.items (row_of c.split_line.result.0) (rows_of c.split_line.result.1.now) (rows_of c.loop-rest.rest.now) added.0
    c.loop-rest.invariant c.split_line.ensures.lines added.1 added.2
