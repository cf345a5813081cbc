-- What an access is answered is a range of its node's copy, or a life.
use Rattle.std.specs.Prelude.{◌==◌}
use Rattle.std.proofs.Common.{◌≡◌, ◌≢◌, ℕ, inl, inr, sym, ◌∙◌, ap, refl, false, List, take, drop, replicate, Option, Some}
use Rattle.std.proofs.lemmas.Bool.{eq-eqb}
use Rattle.std.proofs.lemmas.Bool.Decides.{eqb_tells}
use Rattle.hist_plain.specs.declared.event.Answer.TheVariants.{Done, Life, Revoked}
use Rattle.hist_plain.specs.declared.event.Event.{Event}
use Rattle.hist_plain.specs.declared.event.Op.{Op}
use Rattle.hist_plain.specs.Plain.{overwritten, plainly, told}
use Rattle.tower_core.specs.declared.right.Right.{Right}
use Rattle.tower_core.specs.TreeShape.{IsUpper, TreeShape}
use Rattle.tower_core.specs.Trail.{right_of, state_of}
use Rattle.tower_core.specs.Legal.{IsLegalNext, file_after, shown}
use Rattle.tower_core.proofs.Lives.{lives_agree}
use Rattle.layer_laws.specs.Side.{Side}
use Rattle.layer_laws.specs.PlacesShown.{access_next, answer_next, page_next, told_bytes}
use Rattle.layer_laws.proofs.Accesses.{read_of_copy, write_of_copy, clear_of_copy}
use Rattle.tower_shows.specs.Began.{BeganWith, IsNextIn, IsTrueTo}

writes_have : (r : Right) → r ≡ Right.Write → r ≢ Right.Nothing
writes_have r e x = let no : Right.Write ≡ Right.Nothing = sym e ∙ x in cc

module _ (shape : TreeShape) (size pages : ℕ) (opening : List ℕ) (trail : List Event) (sides : ℕ → ℕ → Side) (told_pages : Option (List (List ℕ))) (caller number node : ℕ)
    (true_to : IsTrueTo shape size pages trail sides) (began : BeganWith shape size pages opening trail sides told_pages) where
  legal_next : (op : Op) → IsNextIn shape size pages trail (access_next shape trail caller number node op) → IsLegalNext shape size pages opening trail (access_next shape trail caller number node op)
  legal_next op next = record { fits = next.fits; allowed = next.allowed; filled = tt }

  -- the copy of a node that has a right
  pub copy_shown : (page : ℕ) → IsUpper shape node → right_of shape trail node page ≢ Right.Nothing → shown shape size opening trail node page ≡ (sides page node).copy
  copy_shown page un some = sym ((began.copies page).copy node un some)

  pub told_read : (page off len : ℕ) → IsNextIn shape size pages trail (access_next shape trail caller number node (Op.Read page off len))
      → answer_next shape size opening trail (access_next shape trail caller number node (Op.Read page off len)) ≡ Some (told_bytes (take len (drop off (sides page node).copy)))
  told_read page off len next =
      read_of_copy shape size pages opening trail caller number node true_to.tree began.sized began.legal page off len (legal_next (Op.Read page off len) next)
      ∙ ap (λ (bytes : List ℕ). Some (told_bytes (take len (drop off bytes)))) (copy_shown page next.allowed.upper (next.allowed.line refl).0)

  pub told_write : (page off : ℕ) (new : List ℕ) → IsNextIn shape size pages trail (access_next shape trail caller number node (Op.Write page off new))
      → page_next shape size opening trail (access_next shape trail caller number node (Op.Write page off new)) page ≡ overwritten (sides page node).copy off new
  told_write page off new next =
      write_of_copy shape size pages opening trail caller number node true_to.tree began.sized began.legal page off new (legal_next (Op.Write page off new) next)
      ∙ ap (λ (bytes : List ℕ). overwritten bytes off new) (copy_shown page next.allowed.upper (writes_have (right_of shape trail node page) (next.allowed.line refl).0))

  pub told_clear : (page : ℕ) → IsNextIn shape size pages trail (access_next shape trail caller number node (Op.Clear page))
      → page_next shape size opening trail (access_next shape trail caller number node (Op.Clear page)) page ≡ replicate size 0
  told_clear page next = clear_of_copy shape size pages opening trail caller number node true_to.tree began.sized began.legal page (legal_next (Op.Clear page) next)

-- an access of another life, and one of the life now
told_revoked : (size now life : ℕ) (op : Op) (bytes : List ℕ) → op ≢ Op.Open → life ≢ now → told size now life op bytes ≡ plainly (Revoked now)
told_revoked size now life op bytes other d = elim (eqb_tells life now) [ inl e ↦ absurd (d e.1) | inr n ↦ by_op op other n.0 ]
  where
    by_op : (o : Op) → o ≢ Op.Open → (life == now) ≡ false → told size now life o bytes ≡ plainly (Revoked now)
    by_op (Op.Read page off len) other e = rw e refl
    by_op (Op.Write page off new) other e = rw e refl
    by_op (Op.Clear page) other e = rw e refl
    by_op Op.Open other e = absurd (other refl)

told_done : (size now : ℕ) (op : Op) (bytes : List ℕ) → op ≢ Op.Open → ((page off len : ℕ) → op ≢ Op.Read page off len) → told size now now op bytes ≡ plainly Done
told_done size now (Op.Read page off len) bytes other no_read = absurd (no_read page off len refl)
told_done size now (Op.Write page off new) bytes other no_read = rw (eq-eqb now now refl) refl
told_done size now (Op.Clear page) bytes other no_read = rw (eq-eqb now now refl) refl
told_done size now Op.Open bytes other no_read = absurd (other refl)

pub tells_life : (shape : TreeShape) (size : ℕ) (opening : List ℕ) (trail : List Event) (caller number node life : ℕ) → IsUpper shape node
    → answer_next shape size opening trail (Event.Access caller number node life Op.Open) ≡ Some (plainly (Life ((state_of shape trail).life node)))
tells_life shape size opening trail caller number node life un = ap (λ (now : ℕ). Some (plainly (Life now))) (lives_agree shape size opening trail node un.inside)

pub tells_revoked : (shape : TreeShape) (size : ℕ) (opening : List ℕ) (trail : List Event) (caller number node life : ℕ) (op : Op) → IsUpper shape node → op ≢ Op.Open → life ≢ (state_of shape trail).life node
    → answer_next shape size opening trail (Event.Access caller number node life op) ≡ Some (plainly (Revoked ((state_of shape trail).life node)))
tells_revoked shape size opening trail caller number node life op un other d =
    ap (λ (now : ℕ). Some (told size now life op (file_after shape size opening trail).bytes)) (lives_agree shape size opening trail node un.inside)
    ∙ ap Some (told_revoked size ((state_of shape trail).life node) life op (file_after shape size opening trail).bytes other d)

pub tells_done : (shape : TreeShape) (size : ℕ) (opening : List ℕ) (trail : List Event) (caller number node : ℕ) (op : Op) → IsUpper shape node → op ≢ Op.Open → ((page off len : ℕ) → op ≢ Op.Read page off len)
    → answer_next shape size opening trail (access_next shape trail caller number node op) ≡ Some (plainly Done)
tells_done shape size opening trail caller number node op un other no_read =
    ap (λ (now : ℕ). Some (told size now ((state_of shape trail).life node) op (file_after shape size opening trail).bytes)) (lives_agree shape size opening trail node un.inside)
    ∙ ap Some (told_done size ((state_of shape trail).life node) op (file_after shape size opening trail).bytes other no_read)
