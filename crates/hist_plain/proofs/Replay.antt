-- A history in two parts.
use Rattle.std.proofs.Common.{◌≡◌, ℕ, suc, ◌+◌, ◌≤◌, List, [], ◌∷◌, ◌++◌, length, take, drop, replicate, slice_index, Bool, true, false, cond, refl, ap, ◌∙◌, arith, length-append, length-drop}
use Rattle.std.proofs.lemmas.List.{length-take, length-replicate}
use Rattle.hist_plain.specs.declared.event.Op.{Op}
use Rattle.hist_plain.specs.declared.event.Op.TheVariants as ops
use Rattle.hist_plain.specs.declared.event.Event.TheVariants.{Access}
use Rattle.hist_plain.proofs.Places.{in_file_write, in_file_clear}
use Rattle.hist_plain.specs.declared.event.Event.{Event}
use Rattle.hist_plain.specs.File.{Shape, File}
use Rattle.hist_plain.specs.Plain.{place_of, overwritten, changed, counts, IsInFile, Suits, applied, reply}
use Rattle.hist_plain.specs.History.{AllSuit, replay, Entry, entries_from}

pub replay-append : (shape : Shape) (file : File) (xs ys : List Event) → replay shape file (xs ++ ys) ≡ replay shape (replay shape file xs) ys
replay-append shape file [] ys = refl
replay-append shape file (x ∷ xs) ys = replay-append shape (applied shape file x) xs ys

pub entries-append : (shape : Shape) (file : File) (place : ℕ) (xs ys : List Event) → entries_from shape file place (xs ++ ys) ≡ entries_from shape file place xs ++ entries_from shape (replay shape file xs) (place + length xs) ys
entries-append shape file place [] ys = ap (λ n. entries_from shape file n ys) (omega arith)
entries-append shape file place (x ∷ xs) ys =
    let rest = entries-append shape (applied shape file x) (suc place) xs ys in
    let at : suc place + length xs ≡ place + suc (length xs) = omega arith in
    let here : Entry = record { place = place; event = x; told = reply shape file x } in
    ap (λ (es : List Entry). here ∷ es) (rest ∙ ap (λ n. entries_from shape (applied shape file x) (suc place) xs ++ entries_from shape (replay shape (applied shape file x) xs) n ys) at)

pub AllSuit-append : (shape : Shape) (file : File) (xs ys : List Event) → AllSuit shape file xs → AllSuit shape (replay shape file xs) ys → AllSuit shape file (xs ++ ys)
AllSuit-append shape file [] ys a b = b
AllSuit-append shape file (x ∷ xs) ys a b = (a.0, AllSuit-append shape (applied shape file x) xs ys a.1 b)

length-overwritten : (bytes : List ℕ) (place : ℕ) (new : List ℕ) → place + length new ≤ length bytes → length (overwritten bytes place new) ≡ length bytes
length-overwritten bytes place new le = omega (arith, length-append (take place bytes ++ new) (drop (place + length new) bytes), length-append (take place bytes) new, length-take place bytes, length-drop (place + length new) bytes)

length-changed : (page_size : ℕ) (op : Op) (bytes : List ℕ) → IsInFile page_size bytes op → length (changed page_size op bytes) ≡ length bytes
length-changed page_size (ops.Read page off len) bytes h = refl
length-changed page_size (ops.Write page off new) bytes h = length-overwritten bytes (place_of page_size page off) new (in_file_write page_size page off new bytes h)
length-changed page_size (ops.Clear page) bytes h =
    length-overwritten bytes (place_of page_size page 0) (replicate page_size 0) (rw length-replicate (in_file_clear page_size page bytes h))
length-changed page_size ops.Open bytes h = refl

length-bytes_after : (b : Bool) (page_size : ℕ) (op : Op) (bytes : List ℕ) → IsInFile page_size bytes op → length (cond b (changed page_size op bytes) bytes) ≡ length bytes
length-bytes_after true page_size op bytes h = length-changed page_size op bytes h
length-bytes_after false page_size op bytes h = refl

-- no event changes the length of the file
pub length-applied : (shape : Shape) (file : File) (event : Event) → Suits shape file event → length (applied shape file event).bytes ≡ length file.bytes
length-applied shape file (Access caller number node life op) h = length-bytes_after (counts (slice_index file.lives node) life op) shape.page_size op file.bytes h.1
length-applied shape file _ h = refl

pub length-replay : (shape : Shape) (file : File) (events : List Event) → AllSuit shape file events → length (replay shape file events).bytes ≡ length file.bytes
length-replay shape file [] h = refl
length-replay shape file (event ∷ events) h = length-replay shape (applied shape file event) events h.1 ∙ length-applied shape file event h.0
