-- The names at the start, one more at a time.
use Rattle.std.proofs.Common.{◌≡◌, ℕ, zero, suc, ◌+◌, ◌<◌, ◌≤◌, Bool, true, false, ◌&&◌, cond, List, [], ◌∷◌, ◌++◌, length, get_or, take, map, find, Option, Some, None, refl, sym, ap, subst, ◌∙◌, append_assoc, arith}
use Rattle.std.specs.List.{AllByRecursion, IsDistinct}
use Rattle.std.specs.Option.{option_map}
use Rattle.std.specs.Str.{bytes_eq}
use Rattle.std.specs.Cmp.Lexicographic.{pointwise}
use Rattle.std.proofs.lemmas.List.{take_more, take_all, length-take-le}
use Rattle.name_context.specs.Names.{context, Name, kept_at}
use Rattle.name_context.specs.Start.{file_object, object_names, view_names, start_names}

and-false : (b : Bool) → (b && false) ≡ false
and-false true = refl
and-false false = refl

-- the object of one more file
object_names-push : (view : List ℕ) (node number : ℕ) (files : List (List ℕ)) (file : List ℕ)
    → object_names view node number (files ++ file ∷ []) ≡ object_names view node number files ++ record { path = view ∷ file ∷ []; kept = file_object node (number + length files) } ∷ []
object_names-push view node number [] file =
    let same : number ≡ number + 0 = omega arith in
    ap (λ (n : ℕ). let name : Name = record { path = view ∷ file ∷ []; kept = file_object node n } in name ∷ []) same
object_names-push view node number (first ∷ files) file =
    let here : Name = record { path = view ∷ first ∷ []; kept = file_object node number } in
    let same : suc number + length files ≡ number + suc (length files) = omega arith in
    ap (λ (names : List Name). here ∷ names) (object_names-push view node (suc number) files file)
    ∙ ap (λ (n : ℕ). here ∷ (object_names view node (suc number) files ++ record { path = view ∷ file ∷ []; kept = file_object node n } ∷ [])) same

pub objects-step : (view : List ℕ) (node : ℕ) (files : List (List ℕ)) (place : ℕ) (file : List ℕ) → place < length files → file ≡ get_or files place file
    → object_names view node 0 (take (place + 1) files) ≡ object_names view node 0 (take place files) ++ record { path = view ∷ file ∷ []; kept = file_object node place } ∷ []
objects-step view node files place file lt is =
    let more : take (place + 1) files ≡ take place files ++ file ∷ [] = take_more files place file lt ∙ ap (λ (f : List ℕ). take place files ++ f ∷ []) (sym is) in
    let len : 0 + length (take place files) ≡ place = let e = length-take-le place files (omega arith) in omega arith in
    ap (object_names view node 0) more ∙ (object_names-push view node 0 (take place files) file
    ∙ ap (λ (n : ℕ). object_names view node 0 (take place files) ++ record { path = view ∷ file ∷ []; kept = file_object node n } ∷ []) len)

none-head : (b : Bool) (name : Name) (rest : Option Name) → option_map (λ (n : Name). n.kept) (cond b (Some name) rest) ≡ None → (b ≡ false) × (option_map (λ (n : Name). n.kept) rest ≡ None)
none-head true name rest e = absurd cc
none-head false name rest e = (refl, e)

-- a name at another path
kept_at-other : (name : Name) (names : List Name) (path : List (List ℕ)) → pointwise bytes_eq name.path path ≡ false → kept_at names path ≡ None → kept_at (name ∷ names) path ≡ None
kept_at-other name names path other none =
    ap (λ (b : Bool). option_map (λ (n : Name). n.kept) (cond b (Some name) (find (λ (n : Name). pointwise bytes_eq n.path path) names))) other ∙ none

-- what stands in neither of two lists stands not in both together
kept_at-both : (names more : List Name) (path : List (List ℕ)) → kept_at names path ≡ None → kept_at more path ≡ None → kept_at (names ++ more) path ≡ None
kept_at-both [] more path none none_more = none_more
kept_at-both (name ∷ names) more path none none_more =
    let head = none-head (pointwise bytes_eq name.path path) name (find (λ (n : Name). pointwise bytes_eq n.path path) names) none in
    kept_at-other name (names ++ more) path head.0 (kept_at-both names more path head.1 none_more)

-- the objects of other files of the view
objects-none : (view : List ℕ) (node number : ℕ) (files : List (List ℕ)) (file : List ℕ) → AllByRecursion (λ (f : List ℕ). bytes_eq f file ≡ false) files → kept_at (object_names view node number files) (view ∷ file ∷ []) ≡ None
objects-none view node number [] file others = refl
objects-none view node number (first ∷ files) file others =
    kept_at-other (record { path = view ∷ first ∷ []; kept = file_object node number }) (object_names view node (suc number) files) (view ∷ file ∷ [])
    (ap (λ (b : Bool). bytes_eq view view && (b && true)) others.0 ∙ and-false (bytes_eq view view))
    (objects-none view node (suc number) files file others.1)

all-at : (P : List ℕ → Type 0) (xs : List (List ℕ)) (i : ℕ) (x : List ℕ) → AllByRecursion P xs → i < length xs → x ≡ get_or xs i x → P x
all-at P [] i x all lt is = absurd (omega arith)
all-at P (y ∷ xs) zero x all lt is = subst P (sym is) all.0
all-at P (y ∷ xs) (suc i) x all lt is = all-at P xs i x all.1 (omega arith) is

-- the files before one differ from it
distinct-before : (files : List (List ℕ)) (place : ℕ) (file : List ℕ) → IsDistinct bytes_eq files → place < length files → file ≡ get_or files place file → AllByRecursion (λ (f : List ℕ). bytes_eq f file ≡ false) (take place files)
unfolding IsDistinct
distinct-before [] place file distinct lt is = absurd (omega arith)
distinct-before (first ∷ files) zero file distinct lt is = tt
distinct-before (first ∷ files) (suc place) file distinct lt is =
    (all-at (λ (f : List ℕ). bytes_eq first f ≡ false) files place file distinct.0 (omega arith) is, distinct-before files place file distinct.1 (omega arith) is)

-- at a view that is fresh there is no object of the file yet
pub file-fresh : (names : List Name) (view : List ℕ) (node : ℕ) (files : List (List ℕ)) (place : ℕ) (file : List ℕ) → kept_at names (view ∷ file ∷ []) ≡ None
    → IsDistinct bytes_eq files → place < length files → file ≡ get_or files place file
    → kept_at ((names ++ record { path = view ∷ []; kept = context } ∷ []) ++ object_names view node 0 (take place files)) (view ∷ file ∷ []) ≡ None
file-fresh names view node files place file fresh distinct lt is =
    kept_at-both (names ++ record { path = view ∷ []; kept = context } ∷ []) (object_names view node 0 (take place files)) (view ∷ file ∷ [])
    (kept_at-both names (record { path = view ∷ []; kept = context } ∷ []) (view ∷ file ∷ []) fresh
    (kept_at-other (record { path = view ∷ []; kept = context }) [] (view ∷ file ∷ []) (and-false (bytes_eq view view)) refl))
    (objects-none view node 0 (take place files) file (distinct-before files place file distinct lt is))

-- the names of a view, all of them
pub view-done : (names tree : List Name) (view : List ℕ) (node : ℕ) (files : List (List ℕ)) (place : ℕ) → length files ≤ place
    → tree ≡ (names ++ record { path = view ∷ []; kept = context } ∷ []) ++ object_names view node 0 (take place files) → tree ≡ names ++ view_names files (view, node)
view-done names tree view node files place end is =
    let here : Name = record { path = view ∷ []; kept = context } in
    is ∙ (ap (λ (fs : List (List ℕ)). (names ++ here ∷ []) ++ object_names view node 0 fs) (take_all place files end)
    ∙ append_assoc names (here ∷ []) (object_names view node 0 files))

other-objects : (view name : List ℕ) (node number : ℕ) (files path : List (List ℕ)) → bytes_eq view name ≡ false → kept_at (object_names view node number files) (name ∷ path) ≡ None
other-objects view name node number [] path other = refl
other-objects view name node number (file ∷ files) path other =
    kept_at-other (record { path = view ∷ file ∷ []; kept = file_object node number }) (object_names view node (suc number) files) (name ∷ path)
    (ap (λ (b : Bool). b && pointwise bytes_eq (file ∷ []) path) other) (other-objects view name node (suc number) files path other)

other-view : (files : List (List ℕ)) (view : List ℕ × ℕ) (name : List ℕ) (path : List (List ℕ)) → bytes_eq view.0 name ≡ false → kept_at (view_names files view) (name ∷ path) ≡ None
other-view files view name path other =
    kept_at-other (record { path = view.0 ∷ []; kept = context }) (object_names view.0 view.1 0 files) (name ∷ path)
    (ap (λ (b : Bool). b && pointwise bytes_eq [] path) other) (other-objects view.0 name view.1 0 files path other)

view-at : (P : List ℕ → Type 0) (views : List (List ℕ × ℕ)) (place : ℕ) (view : List ℕ × ℕ) → AllByRecursion P (map (λ (v : List ℕ × ℕ). v.0) views) → place < length views → view ≡ get_or views place view → P view.0
view-at P [] place view all lt is = absurd (omega arith)
view-at P (first ∷ views) zero view all lt is = subst (λ (v : List ℕ × ℕ). P v.0) (sym is) all.0
view-at P (first ∷ views) (suc place) view all lt is = view-at P views place view all.1 (omega arith) is

-- nothing begins with a view whose names are not made yet
pub view-fresh : (files : List (List ℕ)) (views : List (List ℕ × ℕ)) (place : ℕ) (view : List ℕ × ℕ) (path : List (List ℕ)) → IsDistinct bytes_eq (map (λ (v : List ℕ × ℕ). v.0) views) → place < length views → view ≡ get_or views place view
    → kept_at (start_names (take place views) files) (view.0 ∷ path) ≡ None
unfolding IsDistinct
view-fresh files [] place view path distinct lt is = absurd (omega arith)
view-fresh files (first ∷ views) zero view path distinct lt is = refl
view-fresh files (first ∷ views) (suc place) view path distinct lt is =
    kept_at-both (view_names files first) (start_names (take place views) files) (view.0 ∷ path)
    (other-view files first view.0 path (view-at (λ (name : List ℕ). bytes_eq first.0 name ≡ false) views place view distinct.0 (omega arith) is))
    (view-fresh files views place view path distinct.1 (omega arith) is)

start_names-push : (files : List (List ℕ)) (views : List (List ℕ × ℕ)) (view : List ℕ × ℕ) → start_names (views ++ view ∷ []) files ≡ start_names views files ++ view_names files view
start_names-push files [] view = append-none (view_names files view)
  where
    append-none : (names : List Name) → names ++ [] ≡ names
    append-none [] = refl
    append-none (name ∷ names) = ap (λ (ns : List Name). name ∷ ns) (append-none names)
start_names-push files (first ∷ views) view =
    ap (λ (names : List Name). view_names files first ++ names) (start_names-push files views view) ∙ sym (append_assoc (view_names files first) (start_names views files) (view_names files view))

-- the names of one view more
pub views-step : (files : List (List ℕ)) (views : List (List ℕ × ℕ)) (place : ℕ) (view : List ℕ × ℕ) → place < length views → view ≡ get_or views place view
    → start_names (take place views) files ++ view_names files view ≡ start_names (take (place + 1) views) files
views-step files views place view lt is =
    let more : take (place + 1) views ≡ take place views ++ view ∷ [] = take_more views place view lt ∙ ap (λ (v : List ℕ × ℕ). take place views ++ v ∷ []) (sym is) in
    sym (ap (λ (vs : List (List ℕ × ℕ)). start_names vs files) more ∙ start_names-push files (take place views) view)

pub views-done : (files : List (List ℕ)) (views : List (List ℕ × ℕ)) (place : ℕ) → length views ≤ place → start_names (take place views) files ≡ start_names views files
views-done files views place end = ap (λ (vs : List (List ℕ × ℕ)). start_names vs files) (take_all place views end)

-- two texts that differ
pub distinct-two : (first second : List ℕ) → bytes_eq first second ≡ false → IsDistinct bytes_eq (first ∷ second ∷ [])
unfolding IsDistinct
distinct-two first second differ = ((differ, tt), (tt, tt))

pub distinct-one : (only : List ℕ) → IsDistinct bytes_eq (only ∷ [])
unfolding IsDistinct
distinct-one only = (tt, tt)

pub distinct-none : IsDistinct bytes_eq []
unfolding IsDistinct
distinct-none = tt
