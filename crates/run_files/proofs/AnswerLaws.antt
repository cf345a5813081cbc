-- Each answer is the plain file's at its place, but for the bytes of a read.
use Rattle.std.proofs.Common.{◌≡◌, ℕ, zero, suc, ◌==◌, Bool, true, false, List, [], ◌∷◌, ◌++◌, take, Option, Some, refl, sym, ap, subst, ◌∙◌, append_assoc}
use Rattle.std.specs.Prelude.{slice_get, if◌then◌else◌}
use Rattle.std.specs.Option.{option_map}
use Rattle.std.proofs.lemmas.List.{append-nil}
use Rattle.hist_plain.specs.declared.event.Answer.{Answer}
use Rattle.hist_plain.specs.declared.event.Answer.TheVariants as answers
use Rattle.hist_plain.specs.declared.event.Event.{Event}
use Rattle.hist_plain.specs.declared.event.Event.TheVariants as events
use Rattle.hist_plain.specs.declared.event.Op.{Op}
use Rattle.hist_plain.specs.declared.event.Op.TheVariants as ops
use Rattle.hist_plain.specs.Plain.{Told, answered, plainly, reply, told}
use Rattle.tower_core.specs.Legal.{file_after, plain_shape}
use Rattle.tower_core.specs.Trail.{IsAllowed, IsRun, State, start, state_after, state_of}
use Rattle.tower_core.specs.TreeShape.{TreeShape}
use Rattle.tower_core.proofs.Lives.{lives_agree}
use Rattle.tower_core.proofs.Legals.{state_of-snoc}
use Rattle.tower_log.specs.declared.logged.Entry.{Entry}
use Rattle.tower_log.specs.declared.logged.Logged.{Logged}
use Rattle.tower_log.specs.declared.logged.Logged.TheVariants.{Entered, Noted}
use Rattle.tower_log.specs.Log.{entries_of, trail_of}
use Rattle.stack_engine.specs.Moves.{answer_to}
use Rattle.spr_volume.specs.Later.{AreAnswered, answer_by}
use Rattle.file_stores.proofs.Lists.{some-is}
use Rattle.run_files.specs.Begun.{AnswersButBytes, Begun}

-- the plain file answers an access by the life of its node
told-answer : (size now life : ℕ) (op : Op) (bytes : List ℕ) → answer_to now life op ≡ (told size now life op bytes).answer
told-answer size now life ops.Open bytes = refl
told-answer size now life (ops.Read page off len) bytes = by (life == now)
  where
    by : (b : Bool) → (if b then answers.Bytes else answers.Revoked now) ≡ (if b then answered size now (ops.Read page off len) bytes else plainly (answers.Revoked now)).answer
    by true = refl
    by false = refl
told-answer size now life (ops.Write page off new) bytes = by (life == now)
  where
    by : (b : Bool) → (if b then answers.Done else answers.Revoked now) ≡ (if b then answered size now (ops.Write page off new) bytes else plainly (answers.Revoked now)).answer
    by true = refl
    by false = refl
told-answer size now life (ops.Clear page) bytes = by (life == now)
  where
    by : (b : Bool) → (if b then answers.Done else answers.Revoked now) ≡ (if b then answered size now (ops.Clear page) bytes else plainly (answers.Revoked now)).answer
    by true = refl
    by false = refl

module _ (shape : TreeShape) (size pages : ℕ) (opening : List ℕ) where
  abbrev answer-at : List Event → Event → Option Answer
  answer-at trail event = option_map {T = Told} (λ told. told.answer) (reply (plain_shape shape size) (file_after shape size opening trail) event)

  answer-is : (trail : List Event) (event : Event) → IsAllowed shape pages (state_of shape trail) event → answer_by (state_of shape trail) event ≡ answer-at trail event
  answer-is trail (events.Access caller number node life op) allowed =
      ap Some (told-answer size ((state_of shape trail).life node) life op (file_after shape size opening trail).bytes
      ∙ ap (λ (now : ℕ). (told size now life op (file_after shape size opening trail).bytes).answer) (sym (lives_agree shape size opening trail node allowed.upper.inside)))
  answer-is trail (events.DestroyCache caller number node) allowed = refl
  answer-is trail (events.DonePager caller number node) allowed = refl
  answer-is trail (events.Synced caller number node from keep) allowed = refl
  answer-is trail (events.PageIn node page write) allowed = refl
  answer-is trail (events.ZeroFill node page write) allowed = refl
  answer-is trail (events.PageOut node page) allowed = refl
  answer-is trail (events.WriteOut node page) allowed = refl
  answer-is trail (events.SyncOut node page) allowed = refl
  answer-is trail (events.FlushBack node page) allowed = refl
  answer-is trail (events.DenyWrites node page) allowed = refl
  answer-is trail (events.WriteBack node page) allowed = refl
  answer-is trail (events.DeleteRange node page) allowed = refl

  -- behind a trail
  answers-behind : (trail : List Event) (log : List Logged) → IsRun shape pages (state_of shape trail) (trail_of log) → AreAnswered shape (state_of shape trail) log
      → (place : ℕ) (entry : Entry) → slice_get (entries_of log) place ≡ Some entry → entry.answer ≡ answer-at (trail ++ take place (trail_of log)) entry.event
  answers-behind trail [] run are place entry at = absurd cc
  answers-behind trail (Noted note ∷ log) run are place entry at = answers-behind trail log run are place entry at
  answers-behind trail (Entered first ∷ log) run are zero entry at =
      let same : first ≡ entry = some-is first entry at in
      subst (λ (e : Entry). e.answer ≡ answer-at (trail ++ []) e.event) same
      (are.0 ∙ (answer-is trail first.event run.0 ∙ ap (λ (t : List Event). answer-at t first.event) (sym (append-nil trail))))
  answers-behind trail (Entered first ∷ log) run are (suc place) entry at =
      let next : state_after shape (state_of shape trail) first.event ≡ state_of shape (trail ++ first.event ∷ []) = sym (state_of-snoc shape trail first.event) in
      answers-behind (trail ++ first.event ∷ []) log (subst (λ (s : State). IsRun shape pages s (trail_of log)) next run.1) (subst (λ (s : State). AreAnswered shape s log) next are.1) place entry at
      ∙ ap (λ (t : List Event). answer-at t entry.event) (append_assoc trail (first.event ∷ []) (take place (trail_of log)))

pub answers-but-bytes : (b : Begun) (log : List Logged) → IsRun b.tree b.pages start (trail_of log) → AreAnswered b.tree start log → AnswersButBytes b log
answers-but-bytes b log run are place entry at = answers-behind b.tree b.page_size b.pages b.opening.bytes [] log run are place entry at
