-- The views one node at a time, and that names which stand at no two places are distinct.
use Rattle.std.proofs.Common.{◌≡◌, ℕ, suc, ◌+◌, ◌<◌, Bool, true, false, cond, List, [], ◌∷◌, ◌++◌, length, get_or, take, map, slice_get, Option, Some, None, refl, sym, ap, ◌∙◌, append-nil, append_assoc, arith}
use Rattle.std.specs.List.{AllByRecursion, IsDistinct}
use Rattle.std.specs.Option.{option_map_or}
use Rattle.std.specs.Str.{bytes_eq}
use Rattle.std.proofs.lemmas.Bool.{false_from_ne_true}
use Rattle.std.proofs.lemmas.List.{take_more, length-take-le}
use Rattle.std.proofs.lemmas.Slice.Eq.{bytes_eq-Decides}
use Rattle.stack_accept.specs.declared.entries.NodeEntry.{NodeEntry}
use Rattle.stack_accept.specs.Mount.{is_view, is_view_in}
use Rattle.stack_accept.specs.Sound.{AreDifferent}
use Rattle.client_objects.specs.Views.{views_from}

-- a view, and the number of its node
abbrev pub View : Type 0
View = List ℕ × ℕ

-- the views of one node more
pub views_from-push : (number : ℕ) (nodes : List NodeEntry) (node : NodeEntry) → views_from number (nodes ++ node ∷ []) ≡ views_from number nodes ++ cond (is_view node.kind) ((node.name, number + length nodes) ∷ []) []
views_from-push number [] node =
    let same : number ≡ number + 0 = omega arith in
    append-nil _ ∙ ap (λ (n : ℕ). let views : List View = cond (is_view node.kind) ((node.name, n) ∷ []) [] in views) same
views_from-push number (first ∷ nodes) node =
    let here : List View = cond (is_view first.kind) ((first.name, number) ∷ []) [] in
    let last : ℕ → List View = λ n. cond (is_view node.kind) ((node.name, n) ∷ []) [] in
    let same : suc number + length nodes ≡ number + suc (length nodes) = omega arith in
    ap (λ (views : List View). here ++ views) (views_from-push (suc number) nodes node)
    ∙ (sym (append_assoc here (views_from (suc number) nodes) (last (suc number + length nodes)))
    ∙ ap (λ (n : ℕ). (here ++ views_from (suc number) nodes) ++ last n) same)

-- a name that stands nowhere in a list differs from each name of it
apart : (name : List ℕ) (names : List (List ℕ)) → ((place : ℕ) → slice_get names place ≡ Some name → ⊥) → AllByRecursion (λ (other : List ℕ). bytes_eq name other ≡ false) names
apart name [] nowhere = tt
apart name (other ∷ names) nowhere =
    (false_from_ne_true (bytes_eq name other) (λ same. nowhere 0 (ap (λ (n : List ℕ). Some n) (sym ((bytes_eq-Decides name other).0 same)))), apart name names (λ place at. nowhere (suc place) at))

-- names that stand at no two places are distinct
pub different-distinct : (names : List (List ℕ)) → AreDifferent names → IsDistinct bytes_eq names
unfolding IsDistinct
different-distinct [] different = tt
different-distinct (name ∷ names) different = (
  apart name names (λ place at. let e : 0 ≡ suc place = different 0 (suc place) name refl at in omega arith),
  different-distinct names (λ a b other at_a at_b. let e : suc a ≡ suc b = different (suc a) (suc b) other at_a at_b in omega arith),
)

names-more : (P : List ℕ → Type 0) (b : Bool) (node : NodeEntry) (number : ℕ) (views : List View) → P node.name → AllByRecursion P (map (λ (view : View). view.0) views)
    → AllByRecursion P (map (λ (view : View). view.0) (cond b ((node.name, number) ∷ []) [] ++ views))
names-more P true node number views here all = (here, all)
names-more P false node number views here all = all

-- what holds of the name of each node holds of the name of each view
names-all : (P : List ℕ → Type 0) (number : ℕ) (nodes : List NodeEntry) → AllByRecursion P (map (λ (node : NodeEntry). node.name) nodes) → AllByRecursion P (map (λ (view : View). view.0) (views_from number nodes))
names-all P number [] all = tt
names-all P number (node ∷ nodes) all = names-more P (is_view node.kind) node number (views_from (suc number) nodes) all.0 (names-all P (suc number) nodes all.1)

distinct-more : (b : Bool) (node : NodeEntry) (number : ℕ) (views : List View) → AllByRecursion (λ (other : List ℕ). bytes_eq node.name other ≡ false) (map (λ (view : View). view.0) views)
    → IsDistinct bytes_eq (map (λ (view : View). view.0) views) → IsDistinct bytes_eq (map (λ (view : View). view.0) (cond b ((node.name, number) ∷ []) [] ++ views))
unfolding IsDistinct
distinct-more true node number views others distinct = (others, distinct)
distinct-more false node number views others distinct = distinct

-- the names of the views are distinct if those of the nodes are
pub views-distinct : (number : ℕ) (nodes : List NodeEntry) → IsDistinct bytes_eq (map (λ (node : NodeEntry). node.name) nodes) → IsDistinct bytes_eq (map (λ (view : View). view.0) (views_from number nodes))
unfolding IsDistinct
views-distinct number [] distinct = tt
views-distinct number (node ∷ nodes) distinct =
    distinct-more (is_view node.kind) node number (views_from (suc number) nodes)
    (names-all (λ (other : List ℕ). bytes_eq node.name other ≡ false) (suc number) nodes distinct.0) (views-distinct (suc number) nodes distinct.1)

views-more : (P : View → Type 0) (b : Bool) (node : NodeEntry) (number : ℕ) (views : List View) → (b ≡ true → P (node.name, number)) → AllByRecursion P views
    → AllByRecursion P (cond b ((node.name, number) ∷ []) [] ++ views)
views-more P true node number views here all = (here refl, all)
views-more P false node number views here all = all

-- each view is that of a node: the views of the last nodes of a list, which begin at this number
pub views-are : (all nodes : List NodeEntry) (number : ℕ) → ((place : ℕ) → slice_get nodes place ≡ slice_get all (number + place)) → AllByRecursion (λ (view : View). is_view_in all view.1 ≡ true) (views_from number nodes)
views-are all [] number same = tt
views-are all (node ∷ nodes) number same =
    let has : Option NodeEntry → Bool = λ o. option_map_or (λ (n : NodeEntry). is_view n.kind) o false in
    let at : slice_get all number ≡ Some node = (let e : number ≡ number + 0 = omega arith in ap (λ (n : ℕ). slice_get all n) e ∙ sym (same 0)) in
    views-more (λ (view : View). is_view_in all view.1 ≡ true) (is_view node.kind) node number (views_from (suc number) nodes)
    (λ yes. ap has at ∙ yes)
    (views-are all nodes (suc number) (λ place. let e : number + suc place ≡ suc number + place = omega arith in same (suc place) ∙ ap (λ (n : ℕ). slice_get all n) e))

-- the views as far as one node more
views-step : (nodes : List NodeEntry) (place : ℕ) (node : NodeEntry) → place < length nodes → node ≡ get_or nodes place node
    → views_from 0 (take (place + 1) nodes) ≡ views_from 0 (take place nodes) ++ cond (is_view node.kind) ((node.name, place) ∷ []) []
views-step nodes place node inside is =
    let more : take (place + 1) nodes ≡ take place nodes ++ node ∷ [] = take_more nodes place node inside ∙ ap (λ (n : NodeEntry). take place nodes ++ n ∷ []) (sym is) in
    let long : 0 + length (take place nodes) ≡ place = (let e = length-take-le place nodes (omega arith) in omega arith) in
    ap (views_from 0) more ∙ (views_from-push 0 (take place nodes) node
    ∙ ap (λ (n : ℕ). views_from 0 (take place nodes) ++ cond (is_view node.kind) ((node.name, n) ∷ []) []) long)

-- the view of a node, if it has one
abbrev pub view_by : Bool → NodeEntry → ℕ → Option View
view_by b node number = cond b (Some (node.name, number)) None

some-view : (b : Bool) (node : NodeEntry) (number : ℕ) (view : View) → Some view ≡ view_by b node number → cond b ((node.name, number) ∷ []) [] ≡ view ∷ []
some-view true node number view has = let same : view ≡ (node.name, number) = cc in ap (λ (v : View). v ∷ []) (sym same)
some-view false node number view has = absurd cc

no-view : (b : Bool) (node : NodeEntry) (number : ℕ) → view_by b node number ≡ None → (let views : List View = cond b ((node.name, number) ∷ []) [] in views ≡ [])
no-view true node number none = absurd cc
no-view false node number none = refl

-- the views of one node more: with its view, if it has one
pub views-with : (nodes : List NodeEntry) (place : ℕ) (node : NodeEntry) (view : View) → place < length nodes → node ≡ get_or nodes place node
    → Some view ≡ view_by (is_view node.kind) node place → views_from 0 (take (place + 1) nodes) ≡ views_from 0 (take place nodes) ++ view ∷ []
views-with nodes place node view inside is has =
    views-step nodes place node inside is ∙ ap (λ (views : List View). views_from 0 (take place nodes) ++ views) (some-view (is_view node.kind) node place view has)

pub views-without : (nodes : List NodeEntry) (place : ℕ) (node : NodeEntry) → place < length nodes → node ≡ get_or nodes place node
    → view_by (is_view node.kind) node place ≡ None → views_from 0 (take (place + 1) nodes) ≡ views_from 0 (take place nodes)
views-without nodes place node inside is none =
    views-step nodes place node inside is ∙ (ap (λ (views : List View). views_from 0 (take place nodes) ++ views) (no-view (is_view node.kind) node place none) ∙ append-nil _)
