-- What stands in the names that a mounted stack starts with.
use Rattle.std.proofs.Common.{◌≡◌, ℕ, zero, suc, ◌+◌, ◌<◌, ◌≤◌, Bool, true, false, ◌&&◌, cond, List, [], ◌∷◌, ◌++◌, length, map, find, slice_get, slice_index_or, Option, Some, None, refl, sym, ap, subst, ◌∙◌, arith}
use Rattle.std.specs.List.{AllByRecursion, IsDistinct}
use Rattle.std.specs.Option.{option_map}
use Rattle.std.specs.Str.{bytes_eq}
use Rattle.std.specs.Cmp.Lexicographic.{pointwise}
use Rattle.std.proofs.lemmas.List.{length-map}
use Rattle.std.proofs.lemmas.Slice.Eq.{bytes_eq-Decides}
use Rattle.stack_accept.specs.declared.entries.FileEntry.{FileEntry}
use Rattle.stack_accept.specs.declared.entries.NodeEntry.{NodeEntry}
use Rattle.stack_accept.specs.Mount.{Mount, is_view, is_view_in}
use Rattle.stack_accept.specs.Sound.{IsMount, IsStorageKind}
use Rattle.stack_accept.proofs.KindLaws.{storage_no_view}
use Rattle.name_context.specs.Names.{Kept, context, Name, kept_at}
use Rattle.name_context.specs.Start.{file_object, object_names, view_names, start_names}
use Rattle.client_objects.specs.Views.{views_from, file_names, names_at_start}
use Rattle.client_objects.specs.Begun.{StandsAtStart, HasContexts, HasObjects}
use Rattle.client_objects.proofs.ViewLaws.{different-distinct, views-distinct, views-are}

all-append : {X : Type 0} (P : X → Type 0) (xs ys : List X) → AllByRecursion P xs → AllByRecursion P ys → AllByRecursion P (xs ++ ys)
all-append P [] ys first last = last
all-append P (x ∷ xs) ys first last = (first.0, all-append P xs ys first.1 last)

view-inside : (nodes : List NodeEntry) (number : ℕ) → is_view_in nodes number ≡ true → number < length nodes
view-inside [] number view = absurd cc
view-inside (node ∷ nodes) zero view = omega arith
view-inside (node ∷ nodes) (suc number) view = let inside = view-inside nodes number view in omega arith

-- the ground has no view
view-layer : (nodes : List NodeEntry) (number : ℕ) → ((d : NodeEntry) → IsStorageKind (slice_index_or nodes 0 d).kind) → is_view_in nodes number ≡ true → 0 < number
view-layer [] number storage view = absurd cc
view-layer (node ∷ nodes) zero storage view = absurd (storage_no_view node.kind (storage node) view)
view-layer (node ∷ nodes) (suc number) storage view = omega arith

objects-stand : (mount : Mount) (view : List ℕ) (node number : ℕ) (files : List (List ℕ)) → is_view_in mount.nodes node ≡ true → 0 < node → number + length files ≤ length mount.files
    → AllByRecursion (λ (name : Name). StandsAtStart mount name.kept) (object_names view node number files)
objects-stand mount view node number [] is_view layer few = tt
objects-stand mount view node number (file ∷ files) is_view layer few = (
  record { node = node; file = number; is = refl; view = is_view; layer = layer; few_nodes = view-inside mount.nodes node is_view; few_files = omega arith },
  objects-stand mount view node (suc number) files is_view layer (omega arith),
)

views-stand : (mount : Mount) (views : List (List ℕ × ℕ)) (files : List (List ℕ)) → ((d : NodeEntry) → IsStorageKind (slice_index_or mount.nodes 0 d).kind) → length files ≤ length mount.files
    → AllByRecursion (λ (view : List ℕ × ℕ). is_view_in mount.nodes view.1 ≡ true) views → AllByRecursion (λ (name : Name). StandsAtStart mount name.kept) (start_names views files)
views-stand mount [] files storage few all = tt
views-stand mount (view ∷ views) files storage few all =
    all-append (λ (name : Name). StandsAtStart mount name.kept) (view_names files view) (start_names views files)
    (tt, objects-stand mount view.0 view.1 0 files all.0 (view-layer mount.nodes view.1 storage all.0) (omega arith))
    (views-stand mount views files storage few all.1)

-- at the start there are contexts, and objects that lead to a view and a file of the stack
pub start-stands : (mount : Mount) → IsMount mount → AllByRecursion (λ (name : Name). StandsAtStart mount name.kept) (names_at_start mount)
start-stands mount sound =
    views-stand mount (views_from 0 mount.nodes) (file_names mount.files) (λ d. (sound.ground_node d).kind) (omega (arith, length-map mount.files (λ (file : FileEntry). file.name)))
    (views-are mount.nodes mount.nodes 0 (λ place. let e : place ≡ 0 + place = omega arith in ap (λ (n : ℕ). slice_get mount.nodes n) e))

-- the names of the views are distinct
pub start-views : (mount : Mount) → IsMount mount → IsDistinct bytes_eq (map (λ (view : List ℕ × ℕ). view.0) (views_from 0 mount.nodes))
start-views mount sound = views-distinct 0 mount.nodes (different-distinct _ sound.node_names)

-- and so are those of the files
pub start-files : (mount : Mount) → IsMount mount → IsDistinct bytes_eq (file_names mount.files)
start-files mount sound = different-distinct _ sound.file_names

abbrev kept_in : Option Name → Option Kept
kept_in found = option_map (λ (name : Name). name.kept) found

first-by : (b : Bool) (name : Name) (found more : Option Name) (kept : Kept) → (kept_in found ≡ Some kept → kept_in more ≡ Some kept) → kept_in (cond b (Some name) found) ≡ Some kept → kept_in (cond b (Some name) more) ≡ Some kept
first-by true name found more kept onward at = at
first-by false name found more kept onward at = onward at

-- the first of two lists of names has the path
kept-first : (names more : List Name) (path : List (List ℕ)) (kept : Kept) → kept_at names path ≡ Some kept → kept_at (names ++ more) path ≡ Some kept
kept-first [] more path kept at = absurd cc
kept-first (name ∷ names) more path kept at =
    first-by (pointwise bytes_eq name.path path) name (find (λ (n : Name). pointwise bytes_eq n.path path) names) (find (λ (n : Name). pointwise bytes_eq n.path path) (names ++ more)) kept
    (λ later. kept-first names more path kept later) at

second-by : (b : Bool) (name : Name) (found more behind : Option Name) → (kept_in found ≡ None → kept_in more ≡ kept_in behind) → kept_in (cond b (Some name) found) ≡ None → kept_in (cond b (Some name) more) ≡ kept_in behind
second-by true name found more behind onward none = absurd cc
second-by false name found more behind onward none = onward none

-- the first of two lists has it not, so the second decides
kept-second : (names more : List Name) (path : List (List ℕ)) → kept_at names path ≡ None → kept_at (names ++ more) path ≡ kept_at more path
kept-second [] more path none = refl
kept-second (name ∷ names) more path none =
    second-by (pointwise bytes_eq name.path path) name (find (λ (n : Name). pointwise bytes_eq n.path path) names) (find (λ (n : Name). pointwise bytes_eq n.path path) (names ++ more))
    (find (λ (n : Name). pointwise bytes_eq n.path path) more) (λ later. kept-second names more path later) none

-- a name at the path, and one at another path
kept-by : (name : Name) (names : List Name) (path : List (List ℕ)) (b : Bool) → pointwise bytes_eq name.path path ≡ b
    → kept_at (name ∷ names) path ≡ kept_in (cond b (Some name) (find (λ (n : Name). pointwise bytes_eq n.path path) names))
kept-by name names path b is = ap (λ (t : Bool). kept_in (cond t (Some name) (find (λ (n : Name). pointwise bytes_eq n.path path) names))) is

and-false : (b : Bool) → (b && false) ≡ false
and-false true = refl
and-false false = refl

both-true : (a b : Bool) → a ≡ true → b ≡ true → (a && (b && true)) ≡ true
both-true true true a_true b_true = refl
both-true true false a_true b_true = absurd cc
both-true false b a_true b_true = absurd cc

bytes-same : (bytes : List ℕ) → bytes_eq bytes bytes ≡ true
bytes-same bytes = (bytes_eq-Decides bytes bytes).1 refl

all-at : (P : List ℕ → Type 0) (xs : List (List ℕ)) (place : ℕ) (x : List ℕ) → AllByRecursion P xs → slice_get xs place ≡ Some x → P x
all-at P [] place x all at = absurd cc
all-at P (y ∷ xs) zero x all at = let same : y ≡ x = cc in subst P same all.0
all-at P (y ∷ xs) (suc place) x all at = all-at P xs place x all.1 at

node-name-at : (nodes : List NodeEntry) (place : ℕ) (node : NodeEntry) → slice_get nodes place ≡ Some node → slice_get (map (λ (n : NodeEntry). n.name) nodes) place ≡ Some node.name
node-name-at [] place node at = absurd cc
node-name-at (first ∷ nodes) zero node at = let same : first ≡ node = cc in ap (λ (n : NodeEntry). Some n.name) same
node-name-at (first ∷ nodes) (suc place) node at = node-name-at nodes place node at

file-name-at : (files : List FileEntry) (place : ℕ) (file : FileEntry) → slice_get files place ≡ Some file → slice_get (file_names files) place ≡ Some file.name
file-name-at [] place file at = absurd cc
file-name-at (first ∷ files) zero file at = let same : first ≡ file = cc in ap (λ (f : FileEntry). Some f.name) same
file-name-at (first ∷ files) (suc place) file at = file-name-at files place file at

-- an object stands at its file's name
object-found : (view : List ℕ) (node number : ℕ) (files : List (List ℕ)) (place : ℕ) (file : List ℕ) → IsDistinct bytes_eq files → slice_get files place ≡ Some file
    → kept_at (object_names view node number files) (view ∷ file ∷ []) ≡ Some (file_object node (number + place))
unfolding IsDistinct
object-found view node number [] place file distinct at = absurd cc
object-found view node number (first ∷ files) zero file distinct at =
    let same : first ≡ file = cc in
    let here : Name = record { path = view ∷ first ∷ []; kept = file_object node number } in
    let sum : number ≡ number + 0 = omega arith in
    kept-by here (object_names view node (suc number) files) (view ∷ file ∷ []) true
    (both-true (bytes_eq view view) (bytes_eq first file) (bytes-same view) (ap (λ (f : List ℕ). bytes_eq first f) (sym same) ∙ bytes-same first))
    ∙ ap (λ (n : ℕ). Some (file_object node n)) sum
object-found view node number (first ∷ files) (suc place) file distinct at =
    let here : Name = record { path = view ∷ first ∷ []; kept = file_object node number } in
    let other : bytes_eq first file ≡ false = all-at (λ (f : List ℕ). bytes_eq first f ≡ false) files place file distinct.0 at in
    let sum : suc number + place ≡ number + suc place = omega arith in
    kept-by here (object_names view node (suc number) files) (view ∷ file ∷ []) false
    (ap (λ (b : Bool). bytes_eq view view && (b && true)) other ∙ and-false (bytes_eq view view))
    ∙ (object-found view node (suc number) files place file distinct.1 at ∙ ap (λ (n : ℕ). Some (file_object node n)) sum)

other-objects : (view name : List ℕ) (node number : ℕ) (files path : List (List ℕ)) → bytes_eq view name ≡ false → kept_at (object_names view node number files) (name ∷ path) ≡ None
other-objects view name node number [] path other = refl
other-objects view name node number (file ∷ files) path other =
    kept-by (record { path = view ∷ file ∷ []; kept = file_object node number }) (object_names view node (suc number) files) (name ∷ path) false
    (ap (λ (b : Bool). b && pointwise bytes_eq (file ∷ []) path) other) ∙ other-objects view name node (suc number) files path other

other-view : (files : List (List ℕ)) (view : List ℕ × ℕ) (name : List ℕ) (path : List (List ℕ)) → bytes_eq view.0 name ≡ false → kept_at (view_names files view) (name ∷ path) ≡ None
other-view files view name path other =
    kept-by (record { path = view.0 ∷ []; kept = context }) (object_names view.0 view.1 0 files) (name ∷ path) false
    (ap (λ (b : Bool). b && pointwise bytes_eq [] path) other) ∙ other-objects view.0 name view.1 0 files path other

view-first : (files : List (List ℕ)) (b : Bool) (node : NodeEntry) (number : ℕ) (views : List (List ℕ × ℕ)) (path : List (List ℕ)) (kept : Kept) → b ≡ true
    → kept_at (view_names files (node.name, number)) path ≡ Some kept → kept_at (start_names (cond b ((node.name, number) ∷ []) [] ++ views) files) path ≡ Some kept
view-first files true node number views path kept is here = kept-first (view_names files (node.name, number)) (start_names views files) path kept here
view-first files false node number views path kept is here = absurd cc

view-other : (files : List (List ℕ)) (b : Bool) (node : NodeEntry) (number : ℕ) (views : List (List ℕ × ℕ)) (name : List ℕ) (path : List (List ℕ)) → bytes_eq node.name name ≡ false
    → kept_at (start_names (cond b ((node.name, number) ∷ []) [] ++ views) files) (name ∷ path) ≡ kept_at (start_names views files) (name ∷ path)
view-other files true node number views name path other = kept-second (view_names files (node.name, number)) (start_names views files) (name ∷ path) (other-view files (node.name, number) name path other)
view-other files false node number views name path other = refl

-- what stands in the names of a view stands in those of all views
view-found : (files : List (List ℕ)) (nodes : List NodeEntry) (number place : ℕ) (node : NodeEntry) (path : List (List ℕ)) (kept : Kept) → IsDistinct bytes_eq (map (λ (n : NodeEntry). n.name) nodes)
    → slice_get nodes place ≡ Some node → is_view node.kind ≡ true → kept_at (view_names files (node.name, number + place)) (node.name ∷ path) ≡ Some kept
    → kept_at (start_names (views_from number nodes) files) (node.name ∷ path) ≡ Some kept
unfolding IsDistinct
view-found files [] number place node path kept distinct at view here = absurd cc
view-found files (first ∷ nodes) number zero node path kept distinct at view here =
    let same : node ≡ first = cc in
    let sum : number + 0 ≡ number = omega arith in
    view-first files (is_view first.kind) first number (views_from (suc number) nodes) (node.name ∷ path) kept (ap (λ (n : NodeEntry). is_view n.kind) (sym same) ∙ view)
    (ap (λ (n : NodeEntry). kept_at (view_names files (n.name, number)) (node.name ∷ path)) (sym same)
    ∙ (ap (λ (n : ℕ). kept_at (view_names files (node.name, n)) (node.name ∷ path)) (sym sum) ∙ here))
view-found files (first ∷ nodes) number (suc place) node path kept distinct at view here =
    let other : bytes_eq first.name node.name ≡ false = all-at (λ (name : List ℕ). bytes_eq first.name name ≡ false) (map (λ (n : NodeEntry). n.name) nodes) place node.name distinct.0 (node-name-at nodes place node at) in
    let sum : suc number + place ≡ number + suc place = omega arith in
    view-other files (is_view first.kind) first number (views_from (suc number) nodes) node.name path other
    ∙ view-found files nodes (suc number) place node path kept distinct.1 at view (ap (λ (n : ℕ). kept_at (view_names files (node.name, n)) (node.name ∷ path)) sum ∙ here)

-- each view has its context
pub start-contexts : (mount : Mount) → IsMount mount → HasContexts mount
start-contexts mount sound number node at view =
    let files = file_names mount.files in
    view-found files mount.nodes 0 number node [] context (different-distinct _ sound.node_names) at view
    (kept-by (record { path = node.name ∷ []; kept = context }) (object_names node.name (0 + number) 0 files) (node.name ∷ []) true
    (ap (λ (b : Bool). b && true) (bytes-same node.name)))

-- and in it each file has its object
pub start-objects : (mount : Mount) → IsMount mount → HasObjects mount
start-objects mount sound number place node file at view file_at =
    let files = file_names mount.files in
    let path : List (List ℕ) = node.name ∷ file.name ∷ [] in
    let node_is : 0 + number ≡ number = omega arith in
    let file_is : 0 + place ≡ place = omega arith in
    view-found files mount.nodes 0 number node (file.name ∷ []) (file_object number place) (different-distinct _ sound.node_names) at view
    (kept-by (record { path = node.name ∷ []; kept = context }) (object_names node.name (0 + number) 0 files) path false (and-false (bytes_eq node.name node.name))
    ∙ (object-found node.name (0 + number) 0 files place file.name (start-files mount sound) (file-name-at mount.files place file file_at)
    ∙ (ap (λ (n : ℕ). Some (file_object n (0 + place))) node_is ∙ ap (λ (n : ℕ). Some (file_object number n)) file_is)))
