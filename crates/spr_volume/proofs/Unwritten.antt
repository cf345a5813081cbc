-- A page that was not granted yet is as the file began with it.
use Rattle.std.proofs.Common.{◌≡◌, ◌≢◌, ℕ, zero, suc, ◌+◌, ◌*◌, ◌<◌, ◌≤◌, ◌==◌, ◌||◌, inl, inr, Bool, true, false, cond, List, [], ◌∷◌, ◌++◌, length, take, replicate, get_or, Option, Some, refl, sym, ap, subst, ◌∙◌, arith, append_assoc, append-nil}
use Rattle.std.specs.List.{AllByRecursion}
use Rattle.std.proofs.lemmas.Bool.Decides.{eqb_tells}
use Rattle.std.proofs.lemmas.List.{length-replicate}
use Rattle.hist_plain.specs.declared.event.Event.{Event}
use Rattle.hist_plain.specs.declared.event.Op.{Op}
use Rattle.hist_plain.specs.declared.event.Op.TheVariants as ops
use Rattle.hist_plain.specs.File.{File}
use Rattle.hist_plain.specs.History.{page_in}
use Rattle.hist_plain.specs.Plain.{IsInFile, Suits, applied, bytes_after, fresh, overwritten, place_of}
use Rattle.hist_plain.proofs.Places.{in_file_clear, in_file_write}
use Rattle.hist_plain.proofs.Replay.{length-applied, replay-append}
use Rattle.tower_core.specs.declared.right.Right.{Right}
use Rattle.tower_core.specs.TreeShape.{IsTree, IsUpper, TreeShape}
use Rattle.tower_core.specs.Trail.{IsAllowed, IsRun, State, right_of, start, state_after, state_of}
use Rattle.tower_core.specs.Legal.{FitsFile, file_after, plain_shape}
use Rattle.tower_core.proofs.Legals.{run_snoc, state_of-snoc}
use Rattle.tower_core.proofs.Lives.{lives_agree}
use Rattle.layer_laws.specs.Granted.{is_grant_of, is_granted_in}
use Rattle.layer_laws.proofs.Grants.{never_granted}
use Rattle.layer_laws.proofs.Ranges.{page_in-other, within_page}

write_nothing : Right.Write ≢ Right.Nothing
write_nothing e = cc

-- an access of a node that has nothing of a page leaves the page
untouched : (size now life page : ℕ) (op : Op) (bytes : List ℕ) → IsInFile size bytes op → (life ≡ now → (off : ℕ) (new : List ℕ) → op ≢ ops.Write page off new) → (life ≡ now → op ≢ ops.Clear page)
    → page_in size (bytes_after size now life op bytes) page ≡ page_in size bytes page
untouched size now life page (ops.Read p off len) bytes inside no_write no_clear = ap (λ (xs : List ℕ). page_in size xs page) (same (life == now))
  where
    same : (b : Bool) → cond b bytes bytes ≡ bytes
    same true = refl
    same false = refl
untouched size now life page (ops.Write p off new) bytes inside no_write no_clear = elim (eqb_tells life now) [
  | inl e ↦ rw e.0 (page_in-other size page p off bytes new (λ same. no_write e.1 off new (ap (λ (q : ℕ). ops.Write q off new) same)) (within_page size inside.0 p off (length new) inside.2) (in_file_write size p off new bytes inside))
  | inr d ↦ rw d.0 refl
]
untouched size now life page (ops.Clear p) bytes inside no_write no_clear = elim (eqb_tells life now) [
  | inl e ↦
      let zeros : length {A = ℕ} (replicate size 0) ≡ size = length-replicate size 0 in
      let fits : place_of size p 0 + size ≤ length bytes = in_file_clear size p bytes inside in
      rw e.0 (page_in-other size page p 0 bytes (replicate size 0) (λ same. no_clear e.1 (ap (λ (q : ℕ). ops.Clear q) same)) (omega (arith, zeros)) (omega (arith, zeros, fits)))
  | inr d ↦ rw d.0 refl
]
untouched size now life page ops.Open bytes inside no_write no_clear = refl

suits : (shape : TreeShape) (size pages : ℕ) (s : State) (file : File) (event : Event) → length file.bytes ≡ pages * size → FitsFile size pages event → IsAllowed shape pages s event → Suits (plain_shape shape size) file event
suits shape size pages s file (Event.Access caller number node life op) long fits allowed = (allowed.upper.inside, (pages, long, fits))
suits shape size pages s file (Event.PageIn node page write) long fits allowed = allowed.upper.inside
suits shape size pages s file (Event.ZeroFill node page write) long fits allowed = allowed.upper.inside
suits shape size pages s file (Event.PageOut node page) long fits allowed = allowed.upper.inside
suits shape size pages s file (Event.WriteOut node page) long fits allowed = allowed.upper.inside
suits shape size pages s file (Event.SyncOut node page) long fits allowed = allowed.upper.inside
suits shape size pages s file (Event.FlushBack node page) long fits allowed = allowed.upper.inside
suits shape size pages s file (Event.DenyWrites node page) long fits allowed = allowed.upper.inside
suits shape size pages s file (Event.WriteBack node page) long fits allowed = allowed.upper.inside
suits shape size pages s file (Event.DeleteRange node page) long fits allowed = allowed.upper.inside
suits shape size pages s file (Event.DestroyCache caller number node) long fits allowed = allowed.upper.inside
suits shape size pages s file (Event.DonePager caller number node) long fits allowed = allowed.upper.inside
suits shape size pages s file (Event.Synced caller number node from keep) long fits allowed = allowed.upper.inside

neither : (a b : Bool) → (a || b) ≡ false → (a ≡ false) × (b ≡ false)
neither true b e = absurd cc
neither false b e = (refl, e)

not_first : (page : ℕ) (before events : List Event) → is_granted_in page (before ++ events) ≡ false → is_granted_in page before ≡ false
not_first page [] events e = refl
not_first page (event ∷ before) events e =
    let parts = neither (is_grant_of page event) (is_granted_in page (before ++ events)) e in
    rw (parts.0, not_first page before events parts.1) refl

module _ (shape : TreeShape) (size pages : ℕ) (opening : List ℕ) (page : ℕ) (tree : IsTree shape) where
  abbrev file_at : List Event → File
  file_at before = file_after shape size opening before

  -- an event behind a trail that did not grant the page
  left : (before : List Event) (event : Event) → IsRun shape pages start before → is_granted_in page before ≡ false → IsAllowed shape pages (state_of shape before) event → FitsFile size pages event
      → length (file_at before).bytes ≡ pages * size → page_in size (applied (plain_shape shape size) (file_at before) event).bytes page ≡ page_in size (file_at before).bytes page
  left before (Event.Access caller number node life op) run none allowed fits long =
      let lives : get_or (file_at before).lives node 0 ≡ (state_of shape before).life node = lives_agree shape size opening before node allowed.upper.inside in
      let nothing : right_of shape before node page ≡ Right.Nothing = never_granted shape pages before page node tree run none allowed.upper in
      untouched size (get_or (file_at before).lives node 0) life page op (file_at before).bytes (pages, long, fits)
      (λ now off new is. write_nothing (sym ((subst (λ (o : Op). IsAllowed shape pages (state_of shape before) (Event.Access caller number node life o)) is allowed).line (now ∙ lives)).0 ∙ nothing))
      (λ now is. write_nothing (sym ((subst (λ (o : Op). IsAllowed shape pages (state_of shape before) (Event.Access caller number node life o)) is allowed).line (now ∙ lives)).0 ∙ nothing))
  left before _ run none allowed fits long = refl

  -- behind a first part of a trail the page is as the file began with it, and so it is behind each longer part
  unwritten_on : (before events : List Event) (k : ℕ) → IsRun shape pages start before → IsRun shape pages (state_of shape before) events → AllByRecursion (FitsFile size pages) events
      → is_granted_in page (before ++ events) ≡ false → length (file_at before).bytes ≡ pages * size → page_in size (file_at before).bytes page ≡ page_in size opening page
      → page_in size (file_at (before ++ take k events)).bytes page ≡ page_in size opening page
  unwritten_on before [] zero run after fits none long is = ap (λ (es : List Event). page_in size (file_at es).bytes page) (append-nil before) ∙ is
  unwritten_on before [] (suc k) run after fits none long is = ap (λ (es : List Event). page_in size (file_at es).bytes page) (append-nil before) ∙ is
  unwritten_on before (event ∷ events) zero run after fits none long is = ap (λ (es : List Event). page_in size (file_at es).bytes page) (append-nil before) ∙ is
  unwritten_on before (event ∷ events) (suc k) run after fits none long is =
      let next : List Event = before ++ event ∷ [] in
      let file : file_at next ≡ applied (plain_shape shape size) (file_at before) event = replay-append (plain_shape shape size) (fresh shape.parents opening) before (event ∷ []) in
      let state : state_after shape (state_of shape before) event ≡ state_of shape next = sym (state_of-snoc shape before event) in
      ap (λ (es : List Event). page_in size (file_at es).bytes page) (sym (append_assoc before (event ∷ []) (take k events)))
      ∙ unwritten_on next events k (run_snoc shape pages start before event run after.0) (subst (λ (s : State). IsRun shape pages s events) state after.1) fits.1
      (subst (λ (es : List Event). is_granted_in page es ≡ false) (sym (append_assoc before (event ∷ []) events)) none)
      (ap (λ (f : File). length f.bytes) file ∙ length-applied (plain_shape shape size) (file_at before) event (suits shape size pages (state_of shape before) (file_at before) event long fits.0 after.0) ∙ long)
      (ap (λ (f : File). page_in size f.bytes page) file ∙ left before event run (not_first page before (event ∷ events) none) after.0 fits.0 long ∙ is)

  pub unwritten : (trail : List Event) (k : ℕ) → IsRun shape pages start trail → AllByRecursion (FitsFile size pages) trail → is_granted_in page trail ≡ false → length opening ≡ pages * size
      → page_in size (file_at (take k trail)).bytes page ≡ page_in size opening page
  unwritten trail k run fits none long = unwritten_on [] trail k tt run fits none long refl
