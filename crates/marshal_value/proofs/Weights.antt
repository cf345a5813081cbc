-- A number that falls as reading goes into a type.
use Rattle.std.proofs.Common.{◌≡◌, ℕ, zero, suc, ◌+◌, ◌-◌, ◌<◌, ◌≤◌, List, [], ◌∷◌, length, drop, get_or, Option, Some, None, Ok, refl, ap, ◌∙◌, subst, arith, add-one}
use Rattle.std.proofs.Math.Seq.{drop-cons}
use Rattle.marshal_buf.specs.Reading.{Reading}
use Rattle.idl_reader.specs.declared.idl.Field.{Field}
use Rattle.marshal_value.specs.KindView.{field_types}
use Rattle.marshal_value.specs.Tree.{Trees, AsStruct}
use Rattle.marshal_value.specs.Reading.{Reads, ◌>>=◌, fields_at, kind_at, type_at, named_at, value_at}
use Rattle.idl_reader.specs.Tree.{TypeTree, SequenceOf, OfName, type_tree}
use Rattle.marshal_value.specs.Types.{Kind, Fields, Names, Object, Table, AreNamed, IsKind, IsDeclared}

abbrev pub type_weight : (List ℕ → ℕ) → TypeTree → ℕ
type_weight named (SequenceOf of) = type_weight named of + 3
type_weight named (OfName name) = named name.text + 2
type_weight named ty = 0

abbrev pub weight_of_types : (List ℕ → ℕ) → List TypeTree → ℕ
weight_of_types named [] = 1
weight_of_types named (ty ∷ tys) = type_weight named ty + weight_of_types named tys

abbrev pub kind_weight : (List ℕ → ℕ) → Option Kind → ℕ
kind_weight named (Some (Fields tys)) = weight_of_types named tys
kind_weight named (Some (Names names)) = 0
kind_weight named (Some Object) = 0
kind_weight named None = 0

-- what a name weighs, one more than its fields
unfoldable pub name_weight : Table → ℕ → List ℕ → ℕ
name_weight table zero name = 0
name_weight table (suc depth) name = kind_weight (name_weight table depth) (table name) + 1

pub types_drop : (fields : List Field) (i : ℕ) (field : Field) → i < length fields → field ≡ get_or fields i field → field_types (drop i fields) ≡ type_tree field.ty ∷ field_types (drop (i + 1) fields)
types_drop fields i field lt e = rw (add-one, drop-cons fields i field lt, ← e) refl

pub types_drop_end : (fields : List Field) (i : ℕ) → length fields ≤ i → field_types (drop i fields) ≡ []
types_drop_end [] zero le = refl
types_drop_end [] (suc i) le = refl
types_drop_end (f ∷ fs) zero le = absurd (omega arith)
types_drop_end (f ∷ fs) (suc i) le = types_drop_end fs i (omega arith)

module _ (named : List ℕ → ℕ) where
  weight_drop : (fields : List Field) (i : ℕ) → weight_of_types named (field_types (drop i fields)) ≤ weight_of_types named (field_types fields)
  weight_drop fields zero = omega arith
  weight_drop [] (suc i) = omega arith
  weight_drop (f ∷ fs) (suc i) = omega (arith, weight_drop fs i)

  above_nothing : (tys : List TypeTree) → 0 < weight_of_types named tys
  above_nothing [] = omega arith
  above_nothing (ty ∷ tys) = omega (arith, above_nothing tys)

  pub weight_inside : (fields : List Field) (i : ℕ) (field : Field) → i < length fields → field ≡ get_or fields i field → type_weight named (type_tree field.ty) < weight_of_types named (field_types fields)
  weight_inside fields i field lt e =
      omega (arith, ap (weight_of_types named) (types_drop fields i field lt e), weight_drop fields i, above_nothing (field_types (drop (i + 1) fields)))

-- a name that is declared no deeper than so many lies at least one deep
pub deeper_weight : (table : Table) (depth : ℕ) (name : List ℕ) (tys : List TypeTree) → IsDeclared table depth name → table name ≡ Some (Fields tys) → weight_of_types (name_weight table (depth - 1)) tys < name_weight table depth name + 1
unfolding IsDeclared name_weight
deeper_weight table zero name tys known is = absurd known
deeper_weight table (suc depth) name tys known is =
    let same : suc depth - 1 ≡ depth = omega arith in
    rw (same, is) (omega arith)

pub deeper_named : (table : Table) (depth : ℕ) (name : List ℕ) (tys : List TypeTree) → IsDeclared table depth name → table name ≡ Some (Fields tys) → AreNamed (IsDeclared table (depth - 1)) tys
unfolding IsDeclared
deeper_named table zero name tys known is = absurd known
deeper_named table (suc depth) name tys known is =
    let same : suc depth - 1 ≡ depth = omega arith in
    rw same (subst (λ (k : Option Kind). IsKind (IsDeclared table depth) k) is known)

pub deeper_struct : (table : Table) (depth : ℕ) (name : List ℕ) (tys : List TypeTree) (vs : Trees) (r r' : Reading) → IsDeclared table depth name → table name ≡ Some (Fields tys) → fields_at (λ ty. value_at table (depth - 1) ty) tys r ≡ Ok (vs, r') → named_at table depth name r ≡ Ok (AsStruct vs, r')
unfolding IsDeclared named_at
deeper_struct table zero name tys vs r r' known is e = absurd known
deeper_struct table (suc depth) name tys vs r r' known is e =
    let same : suc depth - 1 ≡ depth = omega arith in
    let e' : fields_at (type_at (named_at table depth)) tys r ≡ Ok (vs, r') = subst (λ (n : ℕ). fields_at (λ ty. value_at table n ty) tys r ≡ Ok (vs, r')) same e in
    ap (λ (k : Option Kind). kind_at (type_at (named_at table depth)) k r) is ∙ ap (λ (x : Reads Trees). x >>= λ vs. Ok (AsStruct vs.0, vs.1)) e'
