-- A log whose notes stand apart: its entries, and what one more entry or note makes of it.
use Rattle.std.proofs.Common.{◌≡◌, ℕ, zero, suc, ◌+◌, ◌-◌, ◌≤◌, List, [], ◌∷◌, ◌++◌, length, take, drop, refl, sym, ap, subst, ◌∙◌, arith, append_assoc, length-append, length-drop, take-append-drop}
use Rattle.std.proofs.lemmas.List.{map-append}
use Rattle.tower_log.specs.declared.logged.Entry.{Entry}
use Rattle.tower_log.specs.declared.logged.Logged.{Logged}
use Rattle.tower_log.specs.declared.logged.Logged.TheVariants.{Entered, Noted}
use Rattle.tower_log.specs.declared.notes.Placed.{Placed}
use Rattle.tower_log.specs.Log.{entries_of, place_of}
use Rattle.tower_log.specs.Merged.{entered, merged, ArePlaced}
use Rattle.tower_log.proofs.LogLaws.{entries_of-append, place_of-entries}

pub entries_of-entered_all : (entries : List Entry) → entries_of (entered entries) ≡ entries
entries_of-entered_all [] = refl
entries_of-entered_all (entry ∷ entries) = ap (λ (es : List Entry). entry ∷ es) (entries_of-entered_all entries)

-- the entries of the log are the entries that are kept
pub entries_of-merged : (place : ℕ) (entries : List Entry) (notes : List Placed) → entries_of (merged place entries notes) ≡ entries
entries_of-merged place entries [] = entries_of-entered_all entries
entries_of-merged place entries (placed ∷ notes) =
    let here = take (placed.before - place) entries in
    let rest = drop (placed.before - place) entries in
    entries_of-append (entered here) (Noted placed.note ∷ merged placed.before rest notes)
    ∙ (ap (λ (es : List Entry). es ++ entries_of (merged placed.before rest notes)) (entries_of-entered_all here)
    ∙ (ap (λ (es : List Entry). here ++ es) (entries_of-merged placed.before rest notes) ∙ take-append-drop (placed.before - place) entries))

pub place_of-merged : (entries : List Entry) (notes : List Placed) → place_of (merged 0 entries notes) ≡ length entries
place_of-merged entries notes = place_of-entries (merged 0 entries notes) ∙ ap length (entries_of-merged 0 entries notes)

placed-le : (place end : ℕ) (notes : List Placed) → ArePlaced place end notes → place ≤ end
placed-le place end [] p = p
placed-le place end (placed ∷ notes) p = let le = placed-le placed.before end notes p.1 in omega (arith, p.0)

-- the notes stand below a later end too
pub placed-more : (place end : ℕ) (notes : List Placed) → ArePlaced place end notes → ArePlaced place (end + 1) notes
placed-more place end [] p = omega (arith, p)
placed-more place end (placed ∷ notes) p = (p.0, placed-more placed.before end notes p.1)

-- one more note, at the end
pub placed-noted : (place end : ℕ) (notes : List Placed) (placed : Placed) → placed.before ≡ end → ArePlaced place end notes → ArePlaced place end (notes ++ placed ∷ [])
placed-noted place end [] placed at p = (omega (arith, p), omega arith)
placed-noted place end (first ∷ notes) placed at p = (p.0, placed-noted first.before end notes placed at p.1)

take-within : (n : ℕ) (entries more : List Entry) → n ≤ length entries → take n (entries ++ more) ≡ take n entries
take-within zero entries more le = refl
take-within (suc n) [] more le = absurd (omega arith)
take-within (suc n) (entry ∷ entries) more le = ap (λ (es : List Entry). entry ∷ es) (take-within n entries more (omega arith))

drop-within : (n : ℕ) (entries more : List Entry) → n ≤ length entries → drop n (entries ++ more) ≡ drop n entries ++ more
drop-within zero entries more le = refl
drop-within (suc n) [] more le = absurd (omega arith)
drop-within (suc n) (entry ∷ entries) more le = drop-within n entries more (omega arith)

-- a new entry stands at the end of the log
pub merged-entered : (place : ℕ) (entries : List Entry) (notes : List Placed) (entry : Entry) → ArePlaced place (place + length entries) notes
    → merged place (entries ++ entry ∷ []) notes ≡ merged place entries notes ++ Entered entry ∷ []
merged-entered place entries [] entry p = map-append (λ (e : Entry). Entered e) entries (entry ∷ [])
merged-entered place entries (placed ∷ notes) entry p =
    let le : placed.before - place ≤ length entries = let h = placed-le placed.before (place + length entries) notes p.1 in omega arith in
    let here = take (placed.before - place) entries in
    let rest = drop (placed.before - place) entries in
    let len : placed.before + length rest ≡ place + length entries = omega (arith, length-drop (placed.before - place) entries, p.0) in
    ap (λ (es : List Entry). entered es ++ Noted placed.note ∷ merged placed.before (drop (placed.before - place) (entries ++ entry ∷ [])) notes) (take-within (placed.before - place) entries (entry ∷ []) le)
    ∙ (ap (λ (es : List Entry). entered here ++ Noted placed.note ∷ merged placed.before es notes) (drop-within (placed.before - place) entries (entry ∷ []) le)
    ∙ (ap (λ (log : List Logged). entered here ++ Noted placed.note ∷ log)
    (merged-entered placed.before rest notes entry (subst (λ (end : ℕ). ArePlaced placed.before end notes) (sym len) p.1))
    ∙ sym (append_assoc (entered here) (Noted placed.note ∷ merged placed.before rest notes) (Entered entry ∷ []))))

take-whole : (n : ℕ) (entries : List Entry) → n ≡ length entries → take n entries ≡ entries
take-whole zero [] e = refl
take-whole zero (entry ∷ entries) e = absurd (omega arith)
take-whole (suc n) [] e = absurd (omega arith)
take-whole (suc n) (entry ∷ entries) e = ap (λ (es : List Entry). entry ∷ es) (take-whole n entries (omega arith))

drop-whole : (n : ℕ) (entries : List Entry) → n ≡ length entries → drop n entries ≡ []
drop-whole zero [] e = refl
drop-whole zero (entry ∷ entries) e = absurd (omega arith)
drop-whole (suc n) [] e = absurd (omega arith)
drop-whole (suc n) (entry ∷ entries) e = drop-whole n entries (omega arith)

-- a new note stands at the end of the log
pub merged-noted : (place : ℕ) (entries : List Entry) (notes : List Placed) (placed : Placed) → placed.before ≡ place + length entries → ArePlaced place (place + length entries) notes
    → merged place entries (notes ++ placed ∷ []) ≡ merged place entries notes ++ Noted placed.note ∷ []
merged-noted place entries [] placed at p =
    let n : placed.before - place ≡ length entries = omega arith in
    ap (λ (es : List Entry). entered es ++ Noted placed.note ∷ entered (drop (placed.before - place) entries)) (take-whole (placed.before - place) entries n)
    ∙ ap (λ (es : List Entry). entered entries ++ Noted placed.note ∷ entered es) (drop-whole (placed.before - place) entries n)
merged-noted place entries (first ∷ notes) placed at p =
    let here = take (first.before - place) entries in
    let rest = drop (first.before - place) entries in
    let le = placed-le first.before (place + length entries) notes p.1 in
    let len : first.before + length rest ≡ place + length entries = omega (arith, length-drop (first.before - place) entries, p.0) in
    ap (λ (log : List Logged). entered here ++ Noted first.note ∷ log)
    (merged-noted first.before rest notes placed (at ∙ sym len) (subst (λ (end : ℕ). ArePlaced first.before end notes) (sym len) p.1))
    ∙ sym (append_assoc (entered here) (Noted first.note ∷ merged first.before rest notes) (Noted placed.note ∷ []))

-- what an entry makes of the log, where notes begin at place 0
pub log-entered : (entries entries' : List Entry) (notes : List Placed) (entry : Entry) → ArePlaced 0 (length entries) notes → entries' ≡ entries ++ entry ∷ []
    → merged 0 entries' notes ≡ merged 0 entries notes ++ Entered entry ∷ []
log-entered entries entries' notes entry placed more =
    ap (λ (es : List Entry). merged 0 es notes) more
    ∙ merged-entered 0 entries notes entry (subst (λ (end : ℕ). ArePlaced 0 end notes) (let e : length entries ≡ 0 + length entries = omega arith in e) placed)

-- and what a note makes of it
pub log-noted : (entries : List Entry) (notes notes' : List Placed) (placed : Placed) → ArePlaced 0 (length entries) notes → placed.before ≡ length entries → notes' ≡ notes ++ placed ∷ []
    → merged 0 entries notes' ≡ merged 0 entries notes ++ Noted placed.note ∷ []
log-noted entries notes notes' placed are at more =
    ap (λ (ns : List Placed). merged 0 entries ns) more
    ∙ merged-noted 0 entries notes placed (omega arith) (subst (λ (end : ℕ). ArePlaced 0 end notes) (let e : length entries ≡ 0 + length entries = omega arith in e) are)

length-entered : (entries : List Entry) → length (entered entries) ≡ length entries
length-entered [] = refl
length-entered (entry ∷ entries) = ap suc (length-entered entries)

-- the log has the entries and the notes
pub length-merged : (place : ℕ) (entries : List Entry) (notes : List Placed) → length (merged place entries notes) ≡ length entries + length notes
length-merged place entries [] = let e = length-entered entries in omega arith
length-merged place entries (placed ∷ notes) =
    let here = take (placed.before - place) entries in
    let rest = drop (placed.before - place) entries in
    let one = length-append (entered here) (Noted placed.note ∷ merged placed.before rest notes) in
    let two = length-entered here in
    let more = length-merged placed.before rest notes in
    let all = ap length (take-append-drop (placed.before - place) entries) in
    let parts = length-append here rest in
    omega arith
