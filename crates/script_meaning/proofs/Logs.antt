-- A log in two parts, and a history of the names in two parts.
use Rattle.std.proofs.Common.{◌≡◌, ℕ, suc, ◌+◌, List, [], ◌∷◌, ◌++◌, ◌==◌, length, refl, ap, ◌∙◌, arith, length-append}
use Rattle.std.proofs.lemmas.List.Elements.{filter-append}
use Rattle.hist_plain.specs.declared.event.Event.{Event}
use Rattle.hist_plain.specs.History.{is_by}
use Rattle.tower_log.specs.declared.logged.Logged.{Logged}
use Rattle.tower_log.specs.declared.logged.Logged.TheVariants.{Entered, Noted}
use Rattle.tower_log.specs.Log.{trail_of, place_of, told_by}
use Rattle.name_context.specs.declared.entry.NameEntry.{NameEntry}
use Rattle.name_context.specs.Names.{Name}
use Rattle.name_context.specs.History.{after, names_after}
use Rattle.script_meaning.specs.Log.{items_from, items, Item, NameItem, entered, noted, who, by_caller, name_items_from, names_by}

pub trail_of-append : (xs ys : List Logged) → trail_of (xs ++ ys) ≡ trail_of xs ++ trail_of ys
trail_of-append [] ys = refl
trail_of-append (Entered entry ∷ xs) ys = ap (λ (es : List Event). entry.event ∷ es) (trail_of-append xs ys)
trail_of-append (Noted note ∷ xs) ys = trail_of-append xs ys

pub length-trail_of-append : (xs ys : List Logged) → length (trail_of (xs ++ ys)) ≡ length (trail_of xs) + length (trail_of ys)
length-trail_of-append xs ys = ap length (trail_of-append xs ys) ∙ length-append (trail_of xs) (trail_of ys)

pub items_from-append : (place : ℕ) (xs ys : List Logged) → items_from place (xs ++ ys) ≡ items_from place xs ++ items_from (place + length (trail_of xs)) ys
items_from-append place [] ys = ap (λ n. items_from n ys) (omega arith)
items_from-append place (Entered entry ∷ xs) ys =
    let here : Item = entered (record { place = place; event = entry.event; told = told_by entry }) in
    let at : suc place + length (trail_of xs) ≡ place + suc (length (trail_of xs)) = omega arith in
    ap (λ (is : List Item). here ∷ is) (items_from-append (suc place) xs ys ∙ ap (λ n. items_from (suc place) xs ++ items_from n ys) at)
items_from-append place (Noted note ∷ xs) ys =
    ap (λ (is : List Item). noted note.caller note.disk note.count ∷ is) (items_from-append place xs ys)

-- what a log says with more after it
pub items-more : (log xs : List Logged) → items (log ++ xs) ≡ items log ++ items_from (place_of log) xs
items-more log xs = items_from-append 0 log xs ∙ ap (λ n. items log ++ items_from n xs) (omega arith)

-- what a caller did in a log with more after it
pub by_caller-more : (c : ℕ) (log xs : List Logged) → by_caller c (items (log ++ xs)) ≡ by_caller c (items log) ++ by_caller c (items_from (place_of log) xs)
by_caller-more c log xs = ap (by_caller c) (items-more log xs) ∙ filter-append (λ (i : Item). is_by c (who i)) (items log) (items_from (place_of log) xs)

pub name_items_from-append : (names : List Name) (xs ys : List NameEntry) → name_items_from names (xs ++ ys) ≡ name_items_from names xs ++ name_items_from (names_after names xs) ys
name_items_from-append names [] ys = refl
name_items_from-append names (entry ∷ xs) ys =
    let here : NameItem = record { entry = entry; names = names } in
    ap (λ (is : List NameItem). here ∷ is) (name_items_from-append (after names entry) xs ys)

-- what a caller did with the names, with more after it
pub names_by-more : (c : ℕ) (names : List Name) (xs ys : List NameEntry) → names_by c (name_items_from names (xs ++ ys)) ≡ names_by c (name_items_from names xs) ++ names_by c (name_items_from (names_after names xs) ys)
names_by-more c names xs ys =
    ap (names_by c) (name_items_from-append names xs ys) ∙ filter-append (λ (i : NameItem). i.entry.caller == c) (name_items_from names xs) (name_items_from (names_after names xs) ys)
