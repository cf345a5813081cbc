use Rattle.std.proofs.Common.{map, ◌++◌}
use Rattle.std.specs.Fmt.{decimal}
use Rattle.script_meaning.specs.Stack.{node_names}
use Rattle.tower_log.specs.Log.{bytes_with}
use Rattle.spr_report.specs.Report.{event_words, told_words}
use Rattle.spr_report.proofs.Words.{line_put, spaced_twice}
use Rattle.spr_report.proofs.event.put_answered.Goals as goal

pub returns : goal.returns
returns c =
    let words = event_words (map (λ n. n.now) c.args.names.now.callers.now) (node_names c.args.names.now.nodes.now) c.args.event.now in
    let told = told_words (record { answer = c.args.answer; bytes = bytes_with c.args.answer c.args.bytes.now }) in
    line_put c.put.result c.args.out.now.items c.put_number.new.out.items c.put_told.new.out.items c.put.new.out.items (decimal c.args.place) (words ++ told)
    c.in_ok-put_number.ensures.ok (spaced_twice c.put_number.new.out.items c.put_event.new.out.items c.put_told.new.out.items words told c.in_ok-put_event.ensures c.in_ok-put_told.ensures) c.put.ensures.ok
