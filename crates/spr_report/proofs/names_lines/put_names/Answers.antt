use Rattle.std.proofs.Common.{rules, ◌≡◌, ◌<◌, Some, None, length, map, slice_get, ap, ◌∙◌, arith}
use Rattle.spr_report.proofs.NamesWords.{lines_step, has_entry}
use Rattle.spr_report.proofs.names_lines.put_names.Goals as goal
use Rattle.spr_report.proofs.names_lines.put_names.Goals.{in-Some+in_ok-put_entry, in_default}

pub loop-place-preserved : goal.loop-place-preserved
loop-place-preserved c = elim c.match-entry.branch [
  | in-Some+in_ok-put_entry w ↦
      let history = c.args.names.now.history in
      let at : slice_get history c.loop-place.place ≡ Some w.in-Some.entry.now = search rules in
      lines_step (map (λ name. name.now) c.args.callers.now) c.loop-place.place history w.in-Some.entry.now c.loop-place.out.items c.match-entry.out.items _ at c.loop-place.invariant
      (ap (λ v. v.items) w.out-is ∙ w.in_ok-put_entry.ensures)
  | in_default w ↦
      let history = c.args.names.now.history in
      let inside : c.loop-place.place < length history = search (rules, arith) in
      let none : slice_get history c.loop-place.place ≡ None = search rules in
      absurd (has_entry history c.loop-place.place inside none)
]
