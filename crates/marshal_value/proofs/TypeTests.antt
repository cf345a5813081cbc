-- The test whether a value is of a type tells whether it is.
use Rattle.std.proofs.Common.{◌≡◌, ℕ, suc, ◌^◌, ◌<◌, ◌≤◌, Bool, true, false, ◌&&◌, leb, ltb, List, [], ◌∷◌, length, Option, Some, None, refl, sym, ap, ◌∙◌, arith}
use Rattle.std.specs.Str.{IsUtf8, is_utf8}
use Rattle.std.proofs.lemmas.Str.{is_utf8-from_IsUtf8, IsUtf8-from_is_utf8}
use Rattle.std.proofs.lemmas.Bool.Decides.{nat_tests}
use Rattle.std.proofs.lemmas.Bool.{ltb-true, lt-ltb}
use Rattle.marshal_value.specs.declared.value.Value.{Value}
use Rattle.idl_reader.specs.declared.idl.Field.{Field}
use Rattle.marshal_value.specs.KindView.{field_types}
use Rattle.idl_reader.specs.Tree.{TypeTree, OfBool, OfU8, OfU32, OfU64, OfString, OfBytes, SequenceOf, OfName, type_tree}
use Rattle.marshal_value.specs.Tree.{Tree, AsBool, AsU8, AsU32, AsU64, AsText, AsBytes, AsSequence, AsStruct, AsEnum, AsReference, Trees, none, one, tree_of, trees_of}
use Rattle.marshal_value.specs.Spelling.{count}
use Rattle.marshal_value.specs.Types.{Kind, Fields, Names, Object, Table, IsOf, AreOfOne, AreOf}
use Rattle.marshal_value.proofs.Trees.{count-trees_of}
use Rattle.marshal_value.specs.TypeTest.{is_short_text, is_within, is_object, fields_of, is_of, are_of_one, are_of, is_sequence_of}

both : (a b : Bool) → (a && b) ≡ true → (a ≡ true) × (b ≡ true)
both true b e = (refl, e)
both false b e = absurd cc

and_true : (a b : Bool) → a ≡ true → b ≡ true → (a && b) ≡ true
and_true a b p q = ap (λ (x : Bool). x && b) p ∙ q

and_false : (a b : Bool) → b ≡ false → (a && b) ≡ false
and_false true b e = e
and_false false b e = refl

-- two tests of one bound
pub within_32 : (n : ℕ) → leb n 4294967295 ≡ ltb n 4294967296
within_32 n = grind (arith, nat_tests)

pub short_text : (bytes : List ℕ) → IsUtf8 bytes → is_short_text bytes ≡ ltb (length bytes) (2 ^ 32)
short_text bytes h = ap (λ (b : Bool). b && ltb (length bytes) (2 ^ 32)) (is_utf8-from_IsUtf8 bytes h)

pub first_false : (table : Table) (ty : TypeTree) (v : Tree) (vs : Trees) → is_of table ty v ≡ false → are_of_one table ty (one v vs) ≡ false
first_false table ty v vs e = ap (λ (b : Bool). b && are_of_one table ty vs) e

pub first_true : (table : Table) (ty : TypeTree) (v : Tree) (vs : Trees) → is_of table ty v ≡ true → are_of_one table ty (one v vs) ≡ are_of_one table ty vs
first_true table ty v vs e = ap (λ (b : Bool). b && are_of_one table ty vs) e

count_test : (vs : List Value) → ltb (count (trees_of vs)) (2 ^ 32) ≡ leb (length vs) 4294967295
count_test vs = ap (λ (n : ℕ). ltb n (2 ^ 32)) (count-trees_of vs) ∙ sym (within_32 (length vs))

pub few_values : (table : Table) (ty : TypeTree) (vs : List Value) → length vs ≤ 4294967295 → is_sequence_of table ty (trees_of vs) ≡ are_of_one table ty (trees_of vs)
few_values table ty vs le =
    let few : leb (length vs) 4294967295 ≡ true = grind (arith, nat_tests) in
    ap (λ (b : Bool). b && are_of_one table ty (trees_of vs)) (count_test vs ∙ few)

pub many_values : (table : Table) (ty : TypeTree) (vs : List Value) → 4294967295 < length vs → leb (length vs) 4294967295 ≡ is_sequence_of table ty (trees_of vs)
many_values table ty vs lt =
    let many : leb (length vs) 4294967295 ≡ false = grind (arith, nat_tests) in
    many ∙ sym (ap (λ (b : Bool). b && are_of_one table ty (trees_of vs)) (count_test vs ∙ many))

pub other_number : (table : Table) (fields : List Field) (vs : List Value) → (length fields ≡ length vs → ⊥) → are_of table (Some (field_types fields)) (trees_of vs) ≡ false
other_number table [] [] h = absurd (h refl)
other_number table [] (v ∷ vs) h = refl
other_number table (f ∷ fs) [] h = refl
other_number table (f ∷ fs) (v ∷ vs) h = and_false (is_of table (type_tree f.ty) (tree_of v)) (are_of table (Some (field_types fs)) (trees_of vs)) (other_number table fs vs (λ e. h (ap suc e)))

module _ (table : Table) where
  within_names : (k : Option Kind) (position : ℕ) → is_within position k ≡ true → (names : ℕ) × (k ≡ Some (Names names)) × (position < names)
  within_names None position e = absurd cc
  within_names (Some (Fields tys)) position e = absurd cc
  within_names (Some (Names names)) position e = (names, refl, ltb-true position names e)
  within_names (Some Object) position e = absurd cc

  an_object : (k : Option Kind) → is_object k ≡ true → k ≡ Some Object
  an_object None e = absurd cc
  an_object (Some (Fields tys)) e = absurd cc
  an_object (Some (Names names)) e = absurd cc
  an_object (Some Object) e = refl

  some_fields : (k : Option Kind) (vs : Trees) → are_of table (fields_of k) vs ≡ true → (tys : List TypeTree) × (k ≡ Some (Fields tys)) × (are_of table (Some tys) vs ≡ true)
  some_fields None vs e = absurd cc
  some_fields (Some (Fields tys)) vs e = (tys, refl, e)
  some_fields (Some (Names names)) vs e = absurd cc
  some_fields (Some Object) vs e = absurd cc

  mutual
    pub found_of : (v : Tree) (ty : TypeTree) → is_of table ty v ≡ true → IsOf table ty v
    found_of (AsBool v) OfBool e = tt
    found_of (AsU8 v) OfU8 e = ltb-true v 256 e
    found_of (AsU32 v) OfU32 e = ltb-true v (2 ^ 32) e
    found_of (AsU64 v) OfU64 e = ltb-true v (2 ^ 64) e
    found_of (AsText v) OfString e = let b = both (is_utf8 v) (ltb (length v) (2 ^ 32)) e in (IsUtf8-from_is_utf8 v b.0, ltb-true (length v) (2 ^ 32) b.1)
    found_of (AsBytes v) OfBytes e = ltb-true (length v) (2 ^ 32) e
    found_of (AsSequence vs) (SequenceOf of) e = let b = both (ltb (count vs) (2 ^ 32)) (are_of_one table of vs) e in (ltb-true (count vs) (2 ^ 32) b.0, found_of_one vs of b.1)
    found_of (AsStruct vs) (OfName name) e = let f = some_fields (table name.text) vs e in (f.0, f.1, found_each vs f.0 f.2)
    found_of (AsEnum position) (OfName name) e =
        let b = both (ltb position (2 ^ 32)) (is_within position (table name.text)) e in
        let n = within_names (table name.text) position b.1 in
        (n.0, n.1, n.2, ltb-true position (2 ^ 32) b.0)
    found_of (AsReference door) (OfName name) e = an_object (table name.text) e
    found_of v ty e = absurd cc

    found_of_one : (vs : Trees) (ty : TypeTree) → are_of_one table ty vs ≡ true → AreOfOne table ty vs
    found_of_one none ty e = tt
    found_of_one (one v vs) ty e = let b = both (is_of table ty v) (are_of_one table ty vs) e in (found_of v ty b.0, found_of_one vs ty b.1)

    found_each : (vs : Trees) (tys : List TypeTree) → are_of table (Some tys) vs ≡ true → AreOf table tys vs
    found_each none [] e = tt
    found_each none (ty ∷ tys) e = absurd cc
    found_each (one v vs) [] e = absurd cc
    found_each (one v vs) (ty ∷ tys) e = let b = both (is_of table ty v) (are_of table (Some tys) vs) e in (found_of v ty b.0, found_each vs tys b.1)

  mutual
    pub told_of : (v : Tree) (ty : TypeTree) → IsOf table ty v → is_of table ty v ≡ true
    told_of (AsBool v) OfBool h = refl
    told_of (AsU8 v) OfU8 h = lt-ltb v 256 h
    told_of (AsU32 v) OfU32 h = lt-ltb v (2 ^ 32) h
    told_of (AsU64 v) OfU64 h = lt-ltb v (2 ^ 64) h
    told_of (AsText v) OfString h = and_true (is_utf8 v) (ltb (length v) (2 ^ 32)) (is_utf8-from_IsUtf8 v h.0) (lt-ltb (length v) (2 ^ 32) h.1)
    told_of (AsBytes v) OfBytes h = lt-ltb (length v) (2 ^ 32) h
    told_of (AsSequence vs) (SequenceOf of) h = and_true (ltb (count vs) (2 ^ 32)) (are_of_one table of vs) (lt-ltb (count vs) (2 ^ 32) h.0) (told_of_one vs of h.1)
    told_of (AsStruct vs) (OfName name) h = ap (λ (k : Option Kind). are_of table (fields_of k) vs) h.1 ∙ told_each vs h.0 h.2
    told_of (AsEnum position) (OfName name) h =
        and_true (ltb position (2 ^ 32)) (is_within position (table name.text)) (lt-ltb position (2 ^ 32) h.3) (ap (λ (k : Option Kind). is_within position k) h.1 ∙ lt-ltb position h.0 h.2)
    told_of (AsReference door) (OfName name) h = ap (λ (k : Option Kind). is_object k) h
    told_of v ty h = absurd h

    told_of_one : (vs : Trees) (ty : TypeTree) → AreOfOne table ty vs → are_of_one table ty vs ≡ true
    told_of_one none ty h = refl
    told_of_one (one v vs) ty h = and_true (is_of table ty v) (are_of_one table ty vs) (told_of v ty h.0) (told_of_one vs ty h.1)

    told_each : (vs : Trees) (tys : List TypeTree) → AreOf table tys vs → are_of table (Some tys) vs ≡ true
    told_each none [] h = refl
    told_each none (ty ∷ tys) h = absurd h
    told_each (one v vs) [] h = absurd h
    told_each (one v vs) (ty ∷ tys) h = and_true (is_of table ty v) (are_of table (Some tys) vs) (told_of v ty h.0) (told_each vs tys h.1)
