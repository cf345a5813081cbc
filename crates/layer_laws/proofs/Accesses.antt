-- An access that is allowed is one of its node's copy.
use Rattle.std.proofs.Common.{◌≡◌, ℕ, ◌+◌, ◌*◌, ◌<◌, ◌≤◌, sym, ◌∙◌, ap, refl, arith, List, [], ◌∷◌, ◌++◌, length, length-append, get_or, replicate, take, Some}
use Rattle.std.proofs.lemmas.Bool.{eq-eqb, ltb-true}
use Rattle.std.proofs.lemmas.List.{take_all}
use Rattle.hist_plain.specs.declared.event.Op.{Op}
use Rattle.hist_plain.specs.declared.event.Op.TheVariants as ops
use Rattle.hist_plain.specs.declared.event.Event.{Event}
use Rattle.hist_plain.specs.File.{File}
use Rattle.hist_plain.specs.History.{page_in, replay}
use Rattle.hist_plain.specs.Event.{page_of_op}
use Rattle.hist_plain.specs.Plain.{fresh, reply, told, bytes_after, bytes_at, overwritten}
use Rattle.hist_plain.proofs.Replay.{replay-append}
use Rattle.tower_core.specs.TreeShape.{TreeShape, IsTree}
use Rattle.tower_core.specs.Trail.{state_of, at_of, newest_of}
use Rattle.tower_core.specs.Legal.{IsLegal, IsLegalNext, file_after, plain_shape, shown}
use Rattle.tower_core.specs.Column.{IsCoherent}
use Rattle.tower_core.proofs.Legals.{legal_run}
use Rattle.tower_core.proofs.Lives.{lives_agree}
use Rattle.tower_core.proofs.Frames.{run_coherent}
use Rattle.tower_core.proofs.Trails.{access_newest, trail_len}
use Rattle.layer_laws.specs.PlacesShown.{access_next, page_shown, told_bytes}
use Rattle.layer_laws.proofs.Ranges.{below, inside_pages, page_in-cleared, page_in-own, range_in, within_page}
use Rattle.layer_laws.proofs.Newest.{length-file_after, page_at-newest}

module _ (shape : TreeShape) (size pages : ℕ) (bytes : List ℕ) (trail : List Event) (caller number node : ℕ) (tree : IsTree shape) (long : length bytes ≡ pages * size) (legal : IsLegal shape size pages bytes trail) where
  abbrev file : File
  file = file_after shape size bytes trail

  all_long : length file.bytes ≡ pages * size
  all_long = length-file_after shape size pages bytes trail long legal

  fits_file : (page : ℕ) → page < pages → page * size + size ≤ length file.bytes
  fits_file page inside = let b = below size page pages inside in let l = all_long in omega (arith, b, l)

  -- the node's copy is the page as it is
  copy_is : (page : ℕ) (op : Op) → page_of_op op ≡ Some page → IsLegalNext shape size pages bytes trail (access_next shape trail caller number node op) → shown shape size bytes trail node page ≡ page_in size file.bytes page
  copy_is page op of next =
      let coherent : IsCoherent shape (state_of shape trail).len ((state_of shape trail).column page) = (run_coherent shape pages trail tree (legal_run shape size pages bytes trail legal)).columns page in
      let new : newest_of shape trail page ≤ at_of shape trail node page = access_newest shape pages (state_of shape trail) _ caller number node page op coherent of next.allowed in
      let len : (state_of shape trail).len ≡ length trail = trail_len shape trail in
      page_at-newest shape size pages bytes trail page (at_of shape trail node page) long legal new (let p = coherent.placed node next.allowed.upper.inside in omega (arith, p, len))

  life_is : (op : Op) → IsLegalNext shape size pages bytes trail (access_next shape trail caller number node op) → get_or file.lives node 0 ≡ (state_of shape trail).life node
  life_is op next = lives_agree shape size bytes trail node next.allowed.upper.inside

  -- what is read is a range of the copy
  pub read_of_copy : (page off len : ℕ) → IsLegalNext shape size pages bytes trail (access_next shape trail caller number node (ops.Read page off len)) →
      reply (plain_shape shape size) file (access_next shape trail caller number node (ops.Read page off len)) ≡ Some (told_bytes (bytes_at (shown shape size bytes trail node page) off len))
  read_of_copy page off len next =
      let inside : page < pages = inside_pages size pages page off len next.fits in
      let within : off + len ≤ size = within_page size pages page off len next.fits in
      ap (λ (now : ℕ). Some (told size now ((state_of shape trail).life node) (ops.Read page off len) file.bytes)) (life_is (ops.Read page off len) next)
      ∙ rw (eq-eqb ((state_of shape trail).life node) ((state_of shape trail).life node) refl)
      (ap (λ (bs : List ℕ). Some (told_bytes bs)) (range_in size page off len file.bytes within (fits_file page inside) ∙ ap (λ (t : List ℕ). bytes_at t off len) (sym (copy_is page (ops.Read page off len) refl next))))

  -- the page at the place after the access
  after_is : (page : ℕ) (op : Op) → IsLegalNext shape size pages bytes trail (access_next shape trail caller number node op) →
      page_shown shape size bytes (trail ++ access_next shape trail caller number node op ∷ []) page (length trail + 1) ≡ page_in size (bytes_after size ((state_of shape trail).life node) ((state_of shape trail).life node) op file.bytes) page
  after_is page op next =
      let all : take (length trail + 1) (trail ++ access_next shape trail caller number node op ∷ []) ≡ trail ++ access_next shape trail caller number node op ∷ [] = take_all _ _ (let l = length-append trail (access_next shape trail caller number node op ∷ []) in omega (arith, l)) in
      ap (λ (es : List Event). page_in size (replay (plain_shape shape size) (fresh shape.parents bytes) es).bytes page) all
      ∙ ap (λ (f : File). page_in size f.bytes page) (replay-append (plain_shape shape size) (fresh shape.parents bytes) trail (access_next shape trail caller number node op ∷ []))
      ∙ ap (λ (now : ℕ). page_in size (bytes_after size now ((state_of shape trail).life node) op file.bytes) page) (life_is op next)

  -- the write is one of the copy
  pub write_of_copy : (page off : ℕ) (new : List ℕ) → IsLegalNext shape size pages bytes trail (access_next shape trail caller number node (ops.Write page off new)) →
      page_shown shape size bytes (trail ++ access_next shape trail caller number node (ops.Write page off new) ∷ []) page (length trail + 1) ≡ overwritten (shown shape size bytes trail node page) off new
  write_of_copy page off new next =
      let inside : page < pages = inside_pages size pages page off (length new) next.fits in
      let within : off + length new ≤ size = within_page size pages page off (length new) next.fits in
      after_is page (ops.Write page off new) next
      ∙ rw (eq-eqb ((state_of shape trail).life node) ((state_of shape trail).life node) refl)
      (page_in-own size page off file.bytes new within (fits_file page inside) ∙ ap (λ (t : List ℕ). overwritten t off new) (sym (copy_is page (ops.Write page off new) refl next)))

  -- a clear leaves zeros
  pub clear_of_copy : (page : ℕ) → IsLegalNext shape size pages bytes trail (access_next shape trail caller number node (ops.Clear page)) →
      page_shown shape size bytes (trail ++ access_next shape trail caller number node (ops.Clear page) ∷ []) page (length trail + 1) ≡ replicate size 0
  clear_of_copy page next =
      after_is page (ops.Clear page) next
      ∙ rw (eq-eqb ((state_of shape trail).life node) ((state_of shape trail).life node) refl)
      (page_in-cleared size page file.bytes (fits_file page (ltb-true page pages next.fits)))
