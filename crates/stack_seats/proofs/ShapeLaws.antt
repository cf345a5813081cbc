-- The shape of a mounted stack is within the limits.
use Rattle.std.proofs.Common.{◌≡◌, ℕ, zero, suc, ◌<◌, ◌≤◌, List, [], ◌∷◌, length, map, drop, get_or, Bool, true, false, cond, refl, sym, subst, arith}
use Rattle.std.specs.Prelude.{Contains}
use Rattle.std.specs.List.{AllByRecursion}
use Rattle.std.proofs.lemmas.List.{length-map}
use Rattle.text_words.specs.Words.{IsName}
use Rattle.script_gen.specs.Shape.{IsShape, IsFile, IsSeat}
use Rattle.stack_accept.specs.declared.entries.Kind.TheVariants as kinds
use Rattle.stack_accept.specs.declared.entries.FileEntry.{FileEntry}
use Rattle.stack_accept.specs.declared.entries.NodeEntry.{NodeEntry}
use Rattle.stack_accept.specs.Mount.{Mount}
use Rattle.stack_accept.specs.Sound.{IsMount, IsInLimits}
use Rattle.stack_accept.specs.Check.{machine_name}
use Rattle.stack_seats.specs.Seats.{AreNames, AreOnMachines, is_manager, node_name, seat_of, seats_of, file_of, shape_of}
use Rattle.stack_seats.proofs.Lists.{all-from}

files-are : (files : List FileEntry) → AllByRecursion (λ file. IsInLimits file.pages) files → AllByRecursion (λ file. IsName file.name) files → AllByRecursion IsFile (map file_of files)
files-are [] limits names = tt
files-are (file ∷ files) limits names = (record { name = names.0; some = limits.0.0; few = limits.0.1 }, files-are files limits.1 names.1)

node-named : (nodes : List NodeEntry) (number : ℕ) → number < length nodes → AllByRecursion (λ node. IsName node.name) nodes → IsName (node_name nodes number)
node-named [] number lt names = absurd (omega arith)
node-named (node ∷ nodes) zero lt names = names.0
node-named (node ∷ nodes) (suc number) lt names = node-named nodes number (omega arith) names.1

machine-named : (machines : List (List ℕ)) (number : ℕ) → number < length machines → AllByRecursion IsName machines → IsName (machine_name machines number)
machine-named [] number lt names = absurd (omega arith)
machine-named (m ∷ machines) zero lt names = names.0
machine-named (m ∷ machines) (suc number) lt names = machine-named machines number (omega arith) names.1

by : (b : Bool) (x y : List ℕ) → IsName x → IsName y → IsName (cond b x y)
by true x y p q = p
by false x y p q = q

-- what a layer's seat needs
record IsPlaced (mount : Mount) (node : NodeEntry) : Type 0 where
  pub name : IsName node.name
  pub below : node.below < length mount.nodes
  pub machine : node.machine < length mount.machines

seat-good : (mount : Mount) (node : NodeEntry) → AreNames mount → IsPlaced mount node → IsSeat (seat_of mount node)
seat-good mount node names is = record {
  view = by (is_manager node.kind) (node_name mount.nodes node.below) node.name (node-named mount.nodes node.below is.below names.nodes) is.name;
  machine = machine-named mount.machines node.machine is.machine names.machines;
}

seats-good : (mount : Mount) (nodes : List NodeEntry) → AreNames mount → AllByRecursion (IsPlaced mount) nodes → AllByRecursion IsSeat (map (λ node. seat_of mount node) nodes)
seats-good mount [] names all = tt
seats-good mount (node ∷ nodes) names all = (seat-good mount node names all.0, seats-good mount nodes names all.1)

nobody : NodeEntry
nobody = record { name = []; kind = kinds.Disk; machine = 0; below = 0; frames = 0 }

all-named : (nodes : List NodeEntry) (number : ℕ) (d : NodeEntry) → number < length nodes → AllByRecursion (λ node. IsName node.name) nodes → IsName (get_or nodes number d).name
all-named [] number d lt names = absurd (omega arith)
all-named (node ∷ nodes) zero d lt names = names.0
all-named (node ∷ nodes) (suc number) d lt names = all-named nodes number d (omega arith) names.1

dropped : (nodes : List NodeEntry) (i : ℕ) (d : NodeEntry) → get_or (drop 1 nodes) i d ≡ get_or nodes (suc i) d
dropped [] i d = refl
dropped (node ∷ nodes) i d = refl

dropped-many : (nodes : List NodeEntry) → 2 ≤ length nodes → suc (length (drop 1 nodes)) ≡ length nodes
dropped-many [] some = absurd (omega arith)
dropped-many (node ∷ nodes) some = refl

placed : (mount : Mount) → IsMount mount → AreNames mount → AllByRecursion (IsPlaced mount) (drop 1 mount.nodes)
placed mount is names = all-from (IsPlaced mount) (drop 1 mount.nodes) nobody (λ i lt.
    let many = dropped-many mount.nodes is.some_layer in
    let inside : suc i < length mount.nodes = omega arith in
    let layer = is.layer_node (suc i) nobody (omega arith) inside in
    let low = is.ordered (suc i) nobody (omega arith) inside in
    subst (λ (n : NodeEntry). IsPlaced mount n) (sym (dropped mount.nodes i nobody)) (record {
      name = all-named mount.nodes (suc i) nobody inside names.nodes;
      below = omega (arith, low);
      machine = layer.machine;
    }))

pub shape-is : (mount : Mount) → IsMount mount → AreNames mount → IsShape (shape_of mount)
shape-is mount is names =
    let files = length-map mount.files file_of in
    let some = is.some_file in
    let few = is.few_files in
    let seats = length-map (drop 1 mount.nodes) (λ node. seat_of mount node) in
    let many = dropped-many mount.nodes is.some_layer in
    let layers = is.some_layer in
    record {
      page_size = is.page_size;
      some_file = omega arith;
      few_files = omega arith;
      files = files-are mount.files is.pages names.files;
      some_seat = omega arith;
      seats = seats-good mount (drop 1 mount.nodes) names (placed mount is names);
    }

machine-in : (machines : List (List ℕ)) (number : ℕ) → number < length machines → Contains machines (machine_name machines number)
machine-in [] number lt = absurd (omega arith)
machine-in (m ∷ machines) zero lt = (0, omega arith, refl)
machine-in (m ∷ machines) (suc number) lt =
    let rest = machine-in machines number (omega arith) in
    let low = rest.1 in
    (suc rest.0, omega arith, rest.2)

all-on : (mount : Mount) (nodes : List NodeEntry) → AllByRecursion (λ node. node.machine < length mount.machines) nodes → AreOnMachines mount (map (λ node. seat_of mount node) nodes)
all-on mount [] all = tt
all-on mount (node ∷ nodes) all = (machine-in mount.machines node.machine all.0, all-on mount nodes all.1)

-- the seats are on the machines of the layers
pub seats-on : (mount : Mount) → IsMount mount → AreOnMachines mount (seats_of mount)
seats-on mount is = all-on mount (drop 1 mount.nodes) (all-from (λ node. node.machine < length mount.machines) (drop 1 mount.nodes) nobody (λ i lt.
    let many = dropped-many mount.nodes is.some_layer in
    let layer = is.layer_node (suc i) nobody (omega arith) (omega arith) in
    subst (λ (n : NodeEntry). n.machine < length mount.machines) (sym (dropped mount.nodes i nobody)) layer.machine))
