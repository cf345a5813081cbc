use Rattle.std.proofs.Common.{◌≡◌, ◌+◌, ◌<◌, ℕ, suc, List, length, take, Some, None, refl, sym, ap, subst, ◌∙◌, arith}
use Rattle.std.specs.Prelude.{slice_get}
use Rattle.std.proofs.lemmas.List.{length-take}
use Rattle.hist_plain.specs.declared.event.Event.{Event}
use Rattle.hist_plain.specs.File.{Counted, File, Shape}
use Rattle.hist_plain.specs.History.{replay}
use Rattle.hist_plain.specs.Plain.{Suits, applied}
use Rattle.tower_log.specs.Log.{trail_of}
use Rattle.run_files.proofs.LastLaws.{asked-at, event-there, replay-next, suits-at}
use Rattle.run_files.proofs.lasting.play_log.Goals.{in-Some, in_default}
use Rattle.run_files.proofs.lasting.play_log.Goals as goal

pub apply-requires-clause-suits : goal.apply-requires-clause-suits
apply-requires-clause-suits c =
    let i = c.loop-place.invariant in
    let shape : Shape = c.args.plain.now.shape in
    let file : File = c.args.plain.now.file in
    let event : Event = c.in-Some.event.now in
    subst (λ (s : Shape). Suits s c.loop-place.plain.file event) (sym i.shape)
    (subst (λ (f : File). Suits shape f event) (sym i.file) (suits-at shape file (trail_of c.args.log.now.log) c.loop-place.place event c.requires.plays.suits (sym c.in-Some.ensures)))

pub apply-requires-clause-out : goal.apply-requires-clause-out
apply-requires-clause-out c =
    let asked = asked-at (length c.args.scratch.now) (trail_of c.args.log.now.log) c.loop-place.place c.in-Some.event.now c.requires.plays.asked (sym c.in-Some.ensures) in
    let is = c.asked_of.ensures in
    let room = c.loop-place.auto.scratch in
    simp (length-take) (omega (arith, asked, is, room))

pub loop-place-preserved : goal.loop-place-preserved
loop-place-preserved c =
    let i = c.loop-place.invariant in
    let shape : Shape = c.args.plain.now.shape in
    let file : File = c.args.plain.now.file in
    let es : List Event = trail_of c.args.log.now.log in
    let k = c.loop-place.place in
    let next : k + 1 ≡ suc k = omega arith in
    elim c.match-get.branch [
      | in-Some w ↦ (
          let event : Event = w.in-Some.event.now in
          let at : slice_get es k ≡ Some event = sym w.in-Some.ensures in
          let same = i.shape in
          let now : w.apply.new.self.file ≡ replay shape file (take (suc k) es) =
          w.apply.ensures.file
          ∙ (ap (λ (s : Shape). applied s c.loop-place.plain.file event) i.shape
          ∙ (ap (λ (f : File). applied shape f event) i.file ∙ replay-next shape file es k event at)) in
          record {
            file = ap (λ (p : Counted). p.file) w.plain-is ∙ (now ∙ ap (λ n. replay shape file (take n es)) (sym next));
            shape = ap (λ (p : Counted). p.shape) w.plain-is ∙ (w.apply.ensures.shape ∙ i.shape);
            count = let len = ap (λ (p : Counted). p.len) w.plain-is in let one = w.apply.ensures.len in let count = i.count in omega (arith, len, one, count);
            room = c.match-get.auto.scratch ∙ c.loop-place.auto.scratch;
          })
      | in_default w ↦ absurd (event-there es k (let low = c.loop-place-test.true in let len = c.len-place-end.ensures in omega (arith, low, len)) c.get.result c.get.ensures w.in_default.is)
    ]
