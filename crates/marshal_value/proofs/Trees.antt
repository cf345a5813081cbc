-- The values behind a `Vec`, as a list.
use Rattle.std.proofs.Common.{◌≡◌, ℕ, zero, suc, ◌+◌, ◌<◌, ◌≤◌, add-one, true, false, List, [], ◌∷◌, length, drop, get_or, Vec, Global, refl, sym, ap, ◌∙◌, arith, length-append}
use mathlib.Core.Former.{Count}
use Rattle.std.proofs.Math.Seq.{drop-cons}
use Rattle.marshal_value.specs.declared.value.Value.{Value, Sequence, Sequence', Struct, Struct', Row_of-Value, end_of-Value, more_of-Value, items-the_row-Value, items_hidden-the_row-Value-0}
use Rattle.marshal_value.specs.Tree.{Tree, Trees, none, one, AsBool, AsU8, AsU32, AsU64, AsText, AsBytes, AsSequence, AsStruct, AsEnum, AsReference, tree_of, row_trees, trees_of}
use Rattle.marshal_value.specs.Spelling.{count, spelling, spelling_of_all, size_of, size_of_all, doors_of}
use Rattle.marshal_buf.specs.Numbers.{number_bytes}
use Rattle.marshal_buf.proofs.NumberLaws.{length-number_bytes}

abbrev row_of : Value → (n : Count) × Row_of-Value n
row_of (Sequence' _ row) = (_, row)
row_of (Struct' _ row) = (_, row)
row_of _ = (_, end_of-Value)

row_trees_items : (n : _) (row : Row_of-Value n) → row_trees row ≡ trees_of (items-the_row-Value n row)
row_trees_items n end_of-Value = refl
row_trees_items n (more_of-Value v rest) = ap (one (tree_of v)) (row_trees_items _ rest)

pub tree_Sequence : (items : Vec Value Global) → tree_of (Sequence items) ≡ AsSequence (trees_of items.items)
tree_Sequence items =
    let row = row_of (Sequence items) in
    ap AsSequence (row_trees_items row.0 row.1 ∙ ap trees_of (items_hidden-the_row-Value-0 items))

pub tree_Struct : (fields : Vec Value Global) → tree_of (Struct fields) ≡ AsStruct (trees_of fields.items)
tree_Struct fields =
    let row = row_of (Struct fields) in
    ap AsStruct (row_trees_items row.0 row.1 ∙ ap trees_of (items_hidden-the_row-Value-0 fields))

pub at_sequence : (value : Value) (items : Vec Value Global) (list : List Value) → value ≡ Sequence items → list ≡ items.items → tree_of value ≡ AsSequence (trees_of list)
at_sequence value items list e same = ap tree_of e ∙ tree_Sequence items ∙ ap (λ (vs : List Value). AsSequence (trees_of vs)) (sym same)

pub at_struct : (value : Value) (fields : Vec Value Global) (list : List Value) → value ≡ Struct fields → list ≡ fields.items → tree_of value ≡ AsStruct (trees_of list)
at_struct value fields list e same = ap tree_of e ∙ tree_Struct fields ∙ ap (λ (vs : List Value). AsStruct (trees_of vs)) (sym same)

-- the value at an index, and those after it
pub trees_drop : (vs : List Value) (i : ℕ) (v : Value) → i < length vs → v ≡ get_or vs i v → trees_of (drop i vs) ≡ one (tree_of v) (trees_of (drop (i + 1) vs))
trees_drop vs i v lt e = rw (add-one, drop-cons vs i v lt, ← e) refl

-- how many values there are in a value, and a number that is greater in a list of them
abbrev mutual
  pub weight : Tree → ℕ
  weight (AsSequence vs) = weight_of_all vs + 1
  weight (AsStruct vs) = weight_of_all vs + 1
  weight _ = 0

  pub weight_of_all : Trees → ℕ
  weight_of_all none = 0
  weight_of_all (one v vs) = weight v + weight_of_all vs + 1

pub weight_falls : (vs : List Value) (i : ℕ) → weight_of_all (trees_of (drop i vs)) ≤ weight_of_all (trees_of vs)
weight_falls vs zero = omega arith
weight_falls [] (suc i) = omega arith
weight_falls (v ∷ vs) (suc i) = omega (arith, weight_falls vs i)

pub weight_inside : (vs : List Value) (i : ℕ) (v : Value) → i < length vs → v ≡ get_or vs i v → weight (tree_of v) < weight_of_all (trees_of vs)
weight_inside vs i v lt e = omega (arith, ap weight_of_all (trees_drop vs i v lt e), weight_falls vs i)

pub count-trees_of : (vs : List Value) → count (trees_of vs) ≡ length vs
count-trees_of [] = refl
count-trees_of (v ∷ vs) = ap suc (count-trees_of vs)

mutual
  pub length-spelling : (doors : ℕ) (v : Tree) → length (spelling doors v) ≡ size_of v
  length-spelling doors (AsBool true) = refl
  length-spelling doors (AsBool false) = refl
  length-spelling doors (AsU8 v) = refl
  length-spelling doors (AsU32 v) = length-number_bytes 4 v
  length-spelling doors (AsU64 v) = length-number_bytes 8 v
  length-spelling doors (AsText v) = omega (arith, length-append (number_bytes 4 (length v)) v, length-number_bytes 4 (length v))
  length-spelling doors (AsBytes v) = omega (arith, length-append (number_bytes 4 (length v)) v, length-number_bytes 4 (length v))
  length-spelling doors (AsSequence vs) = omega (arith, length-append (number_bytes 4 (count vs)) (spelling_of_all doors vs), length-number_bytes 4 (count vs), length-spelling_of_all doors vs)
  length-spelling doors (AsStruct vs) = length-spelling_of_all doors vs
  length-spelling doors (AsEnum position) = length-number_bytes 4 position
  length-spelling doors (AsReference door) = length-number_bytes 4 doors

  pub length-spelling_of_all : (doors : ℕ) (vs : Trees) → length (spelling_of_all doors vs) ≡ size_of_all vs
  length-spelling_of_all doors none = refl
  length-spelling_of_all doors (one v vs) =
      let after = doors + length (doors_of v) in
      omega (arith, length-append (spelling doors v) (spelling_of_all after vs), length-spelling doors v, length-spelling_of_all after vs)

pub trees_drop_end : (vs : List Value) (i : ℕ) → length vs ≤ i → trees_of (drop i vs) ≡ none
trees_drop_end [] zero le = refl
trees_drop_end [] (suc i) le = refl
trees_drop_end (v ∷ vs) zero le = absurd (omega arith)
trees_drop_end (v ∷ vs) (suc i) le = trees_drop_end vs i (omega arith)
