-- Two files that agree on a page go on to do so, and answer alike about it.
use Rattle.std.proofs.Common.{◌≡◌, ℕ, ◌+◌, ◌*◌, ◌≤◌, inl, inr, sym, ◌∙◌, ap, subst, arith, Bool, true, false, cond, List, [], ◌∷◌, length, get_or, replicate, take, zero, suc}
use Rattle.std.proofs.lemmas.Bool.Decides.{eqb_tells}
use Rattle.std.proofs.lemmas.List.{length-replicate}
use Rattle.hist_plain.specs.declared.event.Op.{Op}
use Rattle.hist_plain.specs.declared.event.Op.TheVariants as ops
use Rattle.hist_plain.specs.declared.event.Event.{Event}
use Rattle.hist_plain.specs.File.{Shape, File}
use Rattle.hist_plain.specs.Plain.{overwritten, place_of, bytes_at, changed, counts, IsInFile, Suits, applied, lives_from}
use Rattle.hist_plain.specs.History.{page_in, replay, AllSuit}
use Rattle.hist_plain.proofs.Places.{in_file_write, in_file_clear}
use Rattle.hist_plain.proofs.Replay.{length-applied}
use Rattle.layer_laws.proofs.Ranges.{page_in-own, page_in-other, range_in, within_page}

-- the same write in both
write_alike : (size page p off : ℕ) (new x y : List ℕ) → off + length new ≤ size → length x ≡ length y → place_of size p off + length new ≤ length x → page * size + size ≤ length x → page_in size x page ≡ page_in size y page →
    page_in size (overwritten x (place_of size p off) new) page ≡ page_in size (overwritten y (place_of size p off) new) page
write_alike size page p off new x y within same le fits e = elim (eqb_tells p page) [
  | inl t ↦ subst (λ (q : ℕ). page_in size (overwritten x (place_of size q off) new) page ≡ page_in size (overwritten y (place_of size q off) new) page) (sym t.1)
      (page_in-own size page off x new within fits ∙ ap (λ (b : List ℕ). overwritten b off new) e ∙ sym (page_in-own size page off y new within (omega (arith, fits, same))))
  | inr d ↦
      page_in-other size page p off x new d.1 within le
      ∙ e ∙ sym (page_in-other size page p off y new d.1 within (omega (arith, le, same)))
]

changed_alike : (size page : ℕ) (op : Op) (x y : List ℕ) → IsInFile size x op → length x ≡ length y → page * size + size ≤ length x → page_in size x page ≡ page_in size y page →
    page_in size (changed size op x) page ≡ page_in size (changed size op y) page
changed_alike size page (ops.Read p off len) x y inside same fits e = e
changed_alike size page (ops.Write p off new) x y inside same fits e = write_alike size page p off new x y (within_page size inside.0 p off (length new) inside.2) same (in_file_write size p off new x inside) fits e
changed_alike size page (ops.Clear p) x y inside same fits e =
    let zeros : length {A = ℕ} (replicate size 0) ≡ size = length-replicate size 0 in
    write_alike size page p 0 (replicate size 0) x y (omega (arith, zeros)) same (let a = in_file_clear size p x inside in omega (arith, a, zeros)) fits e
changed_alike size page ops.Open x y inside same fits e = e

after_alike : (b : Bool) (size page : ℕ) (op : Op) (x y : List ℕ) → IsInFile size x op → length x ≡ length y → page * size + size ≤ length x → page_in size x page ≡ page_in size y page →
    page_in size (cond b (changed size op x) x) page ≡ page_in size (cond b (changed size op y) y) page
after_alike true size page op x y inside same fits e = changed_alike size page op x y inside same fits e
after_alike false size page op x y inside same fits e = e

-- two files of one length, with the same lives and the same bytes of a page
pub record AreAlike (size page : ℕ) (f g : File) : Type 0 where
  pub lives : f.lives ≡ g.lives
  pub len : length f.bytes ≡ length g.bytes
  pub fits : page * size + size ≤ length f.bytes
  pub same : page_in size f.bytes page ≡ page_in size g.bytes page

inside_other : (size : ℕ) (x y : List ℕ) (op : Op) → length x ≡ length y → IsInFile size x op → IsInFile size y op
inside_other size x y op e h = (h.0, sym e ∙ h.1, h.2)

suits_other : (shape : Shape) (f g : File) (event : Event) → length f.bytes ≡ length g.bytes → Suits shape f event → Suits shape g event
suits_other shape f g (Event.Access caller number node life op) e h = (h.0, inside_other shape.page_size f.bytes g.bytes op e h.1)
suits_other shape f g _ e h = h

event_alike : (shape : Shape) (page : ℕ) (f g : File) (event : Event) → Suits shape f event → AreAlike shape.page_size page f g → AreAlike shape.page_size page (applied shape f event) (applied shape g event)
event_alike shape page f g (Event.Access caller number node life op) h a = record {
  lives = a.lives;
  len = length-applied shape f (Event.Access caller number node life op) h ∙ a.len ∙ sym (length-applied shape g (Event.Access caller number node life op) (suits_other shape f g (Event.Access caller number node life op) a.len h));
  fits = subst (λ (n : ℕ). page * shape.page_size + shape.page_size ≤ n) (sym (length-applied shape f (Event.Access caller number node life op) h)) a.fits;
  same = after_alike (counts (get_or f.lives node 0) life op) shape.page_size page op f.bytes g.bytes h.1 a.len a.fits a.same
      ∙ ap (λ (l : List ℕ). page_in shape.page_size (cond (counts (get_or l node 0) life op) (changed shape.page_size op g.bytes) g.bytes) page) a.lives;
}
event_alike shape page f g (Event.DestroyCache caller number node) h a = record { lives = ap (lives_from shape.parents node 0) a.lives; len = a.len; fits = a.fits; same = a.same }
event_alike shape page f g _ h a = a

pub replay_alike : (shape : Shape) (page : ℕ) (f g : File) (trail : List Event) → AllSuit shape f trail → AreAlike shape.page_size page f g → AreAlike shape.page_size page (replay shape f trail) (replay shape g trail)
replay_alike shape page f g [] h a = a
replay_alike shape page f g (event ∷ events) h a = replay_alike shape page (applied shape f event) (applied shape g event) events h.1 (event_alike shape page f g event h.0 a)

-- the events of the first places suit too
pub suit-take : (shape : Shape) (f : File) (k : ℕ) (trail : List Event) → AllSuit shape f trail → AllSuit shape f (take k trail)
suit-take shape f zero trail all = tt
suit-take shape f (suc k) [] all = tt
suit-take shape f (suc k) (event ∷ events) all = (all.0, suit-take shape (applied shape f event) k events all.1)

-- a range of the page is answered alike
pub range_alike : (size page off len : ℕ) (f g : File) → off + len ≤ size → AreAlike size page f g → bytes_at f.bytes (place_of size page off) len ≡ bytes_at g.bytes (place_of size page off) len
range_alike size page off len f g within a =
    range_in size page off len f.bytes within a.fits ∙ ap (λ (t : List ℕ). bytes_at t off len) a.same ∙ sym (range_in size page off len g.bytes within (omega (arith, a.fits, a.len)))
