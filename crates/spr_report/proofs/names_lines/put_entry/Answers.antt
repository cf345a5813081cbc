use Rattle.std.proofs.Common.{map, ◌++◌}
use Rattle.std.specs.Fmt.{decimal}
use Rattle.spr_report.specs.NamesLines.{asked_words, told_words}
use Rattle.spr_report.proofs.NamesWords.{line_put, spaced_twice}
use Rattle.spr_report.proofs.names_lines.put_entry.Goals as goal

pub returns : goal.returns
returns c =
    let asked = asked_words (map (λ name. name.now) c.args.callers.now) c.args.entry.now in
    let told = told_words c.args.entry.now in
    line_put c.put.result c.args.out.now.items c.put_number.new.out.items c.put_told.new.out.items c.put.new.out.items (decimal c.args.place) (asked ++ told)
    c.in_ok-put_number.ensures.ok (spaced_twice c.put_number.new.out.items c.put_asked.new.out.items c.put_told.new.out.items asked told c.in_ok-put_asked.ensures c.in_ok-put_told.ensures) c.put.ensures.ok
