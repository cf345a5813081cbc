use Rattle.std.proofs.Common.{rules, ◌≡◌, IfSome, List, Some, None, slice_get, refl, subst, ap, ◌∙◌, arith}
use Rattle.hist_plain.specs.declared.event.Event.{Event}
use Rattle.tower_log.specs.Log.{entries_of}
use Rattle.tower_log.proofs.LogLaws.{trail_of-entries}
use Rattle.spr_report.specs.Tracing.{AreNextOf}
use Rattle.spr_report.specs.Traced.{traced_by}
use Rattle.spr_report.proofs.Traces.{events_next, events_step, lines_step, lines_end, entries_long, has_entry}
use Rattle.spr_report.proofs.whole.put_entries.Goals as goal
use Rattle.spr_report.proofs.whole.put_entries.Goals.{in-Some+in_ok-put_entry, in_default}

pub loop-place-init : goal.loop-place-init
loop-place-init c = record {
  whole = refl;
  next = subst (λ (es : List Event). IfSome (traced_by c.args.tracer.now) (λ t. AreNextOf t es)) (trail_of-entries c.args.log.now.log) c.requires;
}

pub put_entry-requires : goal.put_entry-requires
put_entry-requires c =
    let at : slice_get (entries_of c.args.log.now.log) c.loop-place.place ≡ Some c.in-Some.entry.now = search rules in
    (events_next c.loop-place.place (traced_by c.loop-place.tracer) (entries_of c.args.log.now.log) c.in-Some.entry.now at c.loop-place.invariant.next).0

pub advance-requires : goal.advance-requires
advance-requires c =
    let at : slice_get (entries_of c.args.log.now.log) c.loop-place.place ≡ Some c.in-Some.entry.now = search rules in
    (events_next c.loop-place.place (traced_by c.loop-place.tracer) (entries_of c.args.log.now.log) c.in-Some.entry.now at c.loop-place.invariant.next).0

pub loop-place-preserved : goal.loop-place-preserved
loop-place-preserved c = elim c.match-entry.branch [
  | in-Some+in_ok-put_entry w ↦
      let entries = entries_of c.args.log.now.log in
      let entry = w.in-Some.entry.now in
      let at : slice_get entries c.loop-place.place ≡ Some entry = search rules in
      let after = ap (λ t. traced_by t) w.tracer-is ∙ w.advance.ensures in
      record {
        whole = lines_step _ _ c.loop-place.place (traced_by c.loop-place.tracer) (traced_by c.match-entry.tracer) entries entry c.loop-place.out.items c.match-entry.out.items _ at c.loop-place.invariant.whole
            (ap (λ v. v.items) w.out-is ∙ w.in_ok-put_entry.ensures) after;
        next = events_step c.loop-place.place (traced_by c.loop-place.tracer) (traced_by c.match-entry.tracer) entries entry at after c.loop-place.invariant.next;
      }
  | in_default w ↦
      let inside = c.loop-place-test.true in
      let none : slice_get (entries_of c.args.log.now.log) c.loop-place.place ≡ None = search rules in
      absurd (has_entry c.args.log.now.log c.loop-place.place (omega (arith, inside, c.len-place-end.ensures)) none)
]

pub returns : goal.returns
returns c =
    lines_end _ _ c.loop-place.place (traced_by c.loop-place.tracer) (entries_of c.args.log.now.log) _ _
    (let past = c.loop-place-test.false in omega (arith, past, c.len-place-end.ensures, entries_long c.args.log.now.log)) c.loop-place.invariant.whole
