-- One spelling belongs to each value, and none begins another.
use Rattle.std.proofs.Common.{◌≡◌, ℕ, ◌+◌, ◌^◌, ◌<◌, true, false, List, [], ◌∷◌, ◌++◌, length, take, drop, refl, sym, ap, ◌∙◌, subst, arith, append_assoc, length-append}
use Rattle.std.proofs.lemmas.List.{take_at, drop_at}
use Rattle.marshal_buf.specs.declared.door.Door.{Door}
use Rattle.marshal_buf.specs.Numbers.{number_bytes, number_of}
use Rattle.marshal_buf.proofs.NumberLaws.{length-number_bytes, number_of-number_bytes}
use Rattle.idl_reader.specs.Tree.{TypeTree, OfBool, OfU8, OfU32, OfU64, OfString, OfBytes, SequenceOf, OfName}
use Rattle.marshal_value.specs.Tree.{Tree, AsBool, AsU8, AsU32, AsU64, AsText, AsBytes, AsSequence, AsStruct, AsEnum, AsReference, Trees, none, one}
use Rattle.marshal_buf.specs.Counted.{counted}
use Rattle.marshal_value.specs.Spelling.{count, spelling, spelling_of_all, doors_of, doors_of_all, HasSpelling, HaveSpelling}
use Rattle.marshal_value.specs.Types.{Table, IsOf, AreOfOne, AreOf}
use Rattle.marshal_value.specs.Laws.{IsOne, OneSpelling, WrittenIsRead}
use Rattle.marshal_value.proofs.Again.{value_again}

-- fronts of one length
fronts : {X : Type 0} (a b x y : List X) → length a ≡ length b → a ++ x ≡ b ++ y → (a ≡ b) × (x ≡ y)
fronts a b x y len e = (
  sym (take_at a x (length a) refl) ∙ ap (take (length a)) e ∙ take_at b y (length a) (sym len),
  sym (drop_at a x (length a) refl) ∙ ap (drop (length a)) e ∙ drop_at b y (length a) (sym len),
)

-- a number with what follows it
record SameNumber (n a b : ℕ) (x y : List ℕ) : Type 0 where
  number : a ≡ b
  rest : x ≡ y

same_number : (n a b : ℕ) (x y : List ℕ) → a < 256 ^ n → b < 256 ^ n → number_bytes n a ++ x ≡ number_bytes n b ++ y → SameNumber n a b x y
same_number n a b x y p q e =
    let parts = fronts (number_bytes n a) (number_bytes n b) x y (length-number_bytes n a ∙ sym (length-number_bytes n b)) e in
    record {
      number = sym (number_of-number_bytes n a [] p) ∙ ap (λ (xs : List ℕ). number_of n (xs ++ [])) parts.0 ∙ number_of-number_bytes n b [] q;
      rest = parts.1;
    }

same_counted : (a b x y : List ℕ) → length a < 2 ^ 32 → length b < 2 ^ 32 → counted a ++ x ≡ counted b ++ y → (a ≡ b) × (x ≡ y)
same_counted a b x y p q e =
    let first = same_number 4 (length a) (length b) (a ++ x) (b ++ y) (omega arith) (omega arith)
    (sym (append_assoc (number_bytes 4 (length a)) a x) ∙ e ∙ append_assoc (number_bytes 4 (length b)) b y) in
    fronts a b x y first.number first.rest

is_one : (n : ℕ) (v w : Tree) (x y : List ℕ) → v ≡ w → x ≡ y → IsOne n v w x y
is_one n v w x y e rest = record { spelled = ap (spelling n) e; rest = rest; number = ap (λ t. length (doors_of t)) e; value = λ _. e }

record AreOne (n : ℕ) (vs ws : Trees) (x y : List ℕ) : Type 0 where
  spelled : spelling_of_all n vs ≡ spelling_of_all n ws
  rest : x ≡ y
  number : length (doors_of_all vs) ≡ length (doors_of_all ws)
  value : doors_of_all vs ≡ doors_of_all ws → vs ≡ ws

first_and_others : (n : ℕ) (v w : Tree) (vs ws : Trees) (x y : List ℕ) →
    IsOne n v w (spelling_of_all (n + length (doors_of v)) vs ++ x) (spelling_of_all (n + length (doors_of w)) ws ++ y) → AreOne (n + length (doors_of v)) vs ws x y → AreOne n (one v vs) (one w ws) x y
first_and_others n v w vs ws x y first others = record {
  spelled = ap (λ (xs : List ℕ). xs ++ spelling_of_all (n + length (doors_of v)) vs) first.spelled
      ∙ ap (λ (xs : List ℕ). spelling n w ++ xs) (others.spelled ∙ ap (λ (k : ℕ). spelling_of_all (n + k) ws) first.number);
  rest = others.rest;
  number = length-append (doors_of v) (doors_of_all vs) ∙ ap (λ (k : ℕ). k + length (doors_of_all vs)) first.number ∙ ap (λ (k : ℕ). length (doors_of w) + k) others.number ∙ sym (length-append (doors_of w) (doors_of_all ws));
  value = λ e.
      let parts = fronts (doors_of v) (doors_of w) (doors_of_all vs) (doors_of_all ws) first.number e in
      ap (λ (t : Tree). one t vs) (first.value parts.0) ∙ ap (one w) (others.value parts.1);
}

-- what the premise says of the first values
first_premise : (n : ℕ) (v w : Tree) (vs ws : Trees) (x y : List ℕ) → spelling_of_all n (one v vs) ++ x ≡ spelling_of_all n (one w ws) ++ y →
    spelling n v ++ (spelling_of_all (n + length (doors_of v)) vs ++ x) ≡ spelling n w ++ (spelling_of_all (n + length (doors_of w)) ws ++ y)
first_premise n v w vs ws x y e =
    sym (append_assoc (spelling n v) (spelling_of_all (n + length (doors_of v)) vs) x) ∙ e ∙ append_assoc (spelling n w) (spelling_of_all (n + length (doors_of w)) ws) y

others_premise : (n : ℕ) (v w : Tree) (vs ws : Trees) (x y : List ℕ) →
    IsOne n v w (spelling_of_all (n + length (doors_of v)) vs ++ x) (spelling_of_all (n + length (doors_of w)) ws ++ y) →
    spelling_of_all (n + length (doors_of v)) vs ++ x ≡ spelling_of_all (n + length (doors_of v)) ws ++ y
others_premise n v w vs ws x y first = first.rest ∙ ap (λ (k : ℕ). spelling_of_all (n + k) ws ++ y) (sym first.number)

struct_one : (n : ℕ) (vs ws : Trees) (x y : List ℕ) → AreOne n vs ws x y → IsOne n (AsStruct vs) (AsStruct ws) x y
struct_one n vs ws x y all = record { spelled = all.spelled; rest = all.rest; number = all.number; value = λ e. ap AsStruct (all.value e) }

sequence_one : (n : ℕ) (vs ws : Trees) (x y : List ℕ) → count vs ≡ count ws → AreOne n vs ws x y → IsOne n (AsSequence vs) (AsSequence ws) x y
sequence_one n vs ws x y same all = record {
  spelled = ap (λ (k : ℕ). number_bytes 4 k ++ spelling_of_all n vs) same ∙ ap (λ (xs : List ℕ). number_bytes 4 (count ws) ++ xs) all.spelled;
  rest = all.rest;
  number = all.number;
  value = λ e. ap AsSequence (all.value e);
}

module _ (table : Table) where
  mutual
    value_one : (v : Tree) (ty : TypeTree) (n : ℕ) (w : Tree) (x y : List ℕ) → IsOf table ty v → IsOf table ty w → spelling n v ++ x ≡ spelling n w ++ y → IsOne n v w x y
    value_one (AsBool true) OfBool n (AsBool true) x y h k e = is_one n (AsBool true) (AsBool true) x y refl (fronts (1 ∷ []) (1 ∷ []) x y refl e).1
    value_one (AsBool false) OfBool n (AsBool false) x y h k e = is_one n (AsBool false) (AsBool false) x y refl (fronts (0 ∷ []) (0 ∷ []) x y refl e).1
    value_one (AsBool true) OfBool n (AsBool false) x y h k e = absurd cc
    value_one (AsBool false) OfBool n (AsBool true) x y h k e = absurd cc
    value_one (AsU8 a) OfU8 n (AsU8 b) x y h k e = let same : a ≡ b = cc in is_one n (AsU8 a) (AsU8 b) x y (ap AsU8 same) (fronts (a ∷ []) (b ∷ []) x y refl e).1
    value_one (AsU32 a) OfU32 n (AsU32 b) x y h k e = let same = same_number 4 a b x y (omega arith) (omega arith) e in is_one n (AsU32 a) (AsU32 b) x y (ap AsU32 same.number) same.rest
    value_one (AsU64 a) OfU64 n (AsU64 b) x y h k e = let same = same_number 8 a b x y (omega arith) (omega arith) e in is_one n (AsU64 a) (AsU64 b) x y (ap AsU64 same.number) same.rest
    value_one (AsText a) OfString n (AsText b) x y h k e = let same = same_counted a b x y h.1 k.1 e in is_one n (AsText a) (AsText b) x y (ap AsText same.0) same.1
    value_one (AsBytes a) OfBytes n (AsBytes b) x y h k e = let same = same_counted a b x y h k e in is_one n (AsBytes a) (AsBytes b) x y (ap AsBytes same.0) same.1
    value_one (AsSequence vs) (SequenceOf of) n (AsSequence ws) x y h k e =
        let same = same_number 4 (count vs) (count ws) (spelling_of_all n vs ++ x) (spelling_of_all n ws ++ y) (omega (arith, h.0)) (omega (arith, k.0))
        (sym (append_assoc (number_bytes 4 (count vs)) (spelling_of_all n vs) x) ∙ e ∙ append_assoc (number_bytes 4 (count ws)) (spelling_of_all n ws) y) in
        sequence_one n vs ws x y same.number (values_one vs of n ws x y same.number h.1 k.1 same.rest)
    value_one (AsStruct vs) (OfName name) n (AsStruct ws) x y h k e =
        let same : k.0 ≡ h.0 = cc in
        struct_one n vs ws x y (fields_one vs h.0 n ws x y h.2 (subst (λ (tys : List TypeTree). AreOf table tys ws) same k.2) e)
    value_one (AsStruct vs) (OfName name) n (AsEnum position) x y h k e = absurd cc
    value_one (AsStruct vs) (OfName name) n (AsReference door) x y h k e = absurd cc
    value_one (AsEnum a) (OfName name) n (AsEnum b) x y h k e = let same = same_number 4 a b x y (omega (arith, h.3)) (omega (arith, k.3)) e in is_one n (AsEnum a) (AsEnum b) x y (ap AsEnum same.number) same.rest
    value_one (AsEnum a) (OfName name) n (AsStruct ws) x y h k e = absurd cc
    value_one (AsEnum a) (OfName name) n (AsReference door) x y h k e = absurd cc
    value_one (AsReference a) (OfName name) n (AsReference b) x y h k e = record {
      spelled = refl;
      rest = (fronts (number_bytes 4 n) (number_bytes 4 n) x y refl e).1;
      number = refl;
      value = λ same. let door : a ≡ b = cc in ap AsReference door;
    }
    value_one (AsReference a) (OfName name) n (AsStruct ws) x y h k e = absurd cc
    value_one (AsReference a) (OfName name) n (AsEnum position) x y h k e = absurd cc
    value_one v ty n w x y h k e = absurd (assumption (h, k))

    values_one : (vs : Trees) (ty : TypeTree) (n : ℕ) (ws : Trees) (x y : List ℕ) → count vs ≡ count ws → AreOfOne table ty vs → AreOfOne table ty ws → spelling_of_all n vs ++ x ≡ spelling_of_all n ws ++ y → AreOne n vs ws x y
    values_one none ty n none x y same h k e = record { spelled = refl; rest = e; number = refl; value = λ _. refl }
    values_one none ty n (one w ws) x y same h k e = absurd cc
    values_one (one v vs) ty n none x y same h k e = absurd cc
    values_one (one v vs) ty n (one w ws) x y same h k e =
        let first = value_one v ty n w _ _ h.0 k.0 (first_premise n v w vs ws x y e) in
        let fewer : count vs ≡ count ws = cc in
        first_and_others n v w vs ws x y first (values_one vs ty (n + length (doors_of v)) ws x y fewer h.1 k.1 (others_premise n v w vs ws x y first))

    fields_one : (vs : Trees) (tys : List TypeTree) (n : ℕ) (ws : Trees) (x y : List ℕ) → AreOf table tys vs → AreOf table tys ws → spelling_of_all n vs ++ x ≡ spelling_of_all n ws ++ y → AreOne n vs ws x y
    fields_one none [] n none x y h k e = record { spelled = refl; rest = e; number = refl; value = λ _. refl }
    fields_one none [] n (one w ws) x y h k e = absurd k
    fields_one none (ty ∷ tys) n ws x y h k e = absurd h
    fields_one (one v vs) [] n ws x y h k e = absurd h
    fields_one (one v vs) (ty ∷ tys) n none x y h k e = absurd k
    fields_one (one v vs) (ty ∷ tys) n (one w ws) x y h k e =
        let first = value_one v ty n w _ _ h.0 k.0 (first_premise n v w vs ws x y e) in
        first_and_others n v w vs ws x y first (fields_one vs tys (n + length (doors_of v)) ws x y h.1 k.1 (others_premise n v w vs ws x y first))

pub one_spelling : OneSpelling
one_spelling table ty doors v w more others h k e = value_one table v ty doors w more others h k e

pub written_is_read : WrittenIsRead
written_is_read table depth ty v old new more more_doors r known of puts stands few =
    value_again table depth ty known r v more more_doors few of (record {
      bytes = ap (λ (xs : List ℕ). drop r.at xs) (stands.input ∙ ap (λ (xs : List ℕ). xs ++ more) puts.bytes ∙ append_assoc old.bytes (spelling (length old.doors) v) more)
          ∙ drop_at old.bytes (spelling (length old.doors) v ++ more) r.at (sym stands.at)
          ∙ ap (λ (k : ℕ). spelling k v ++ more) (sym stands.next);
      doors = ap (λ (ds : List Door). drop r.next ds) (stands.doors ∙ ap (λ (ds : List Door). ds ++ more_doors) puts.doors ∙ append_assoc old.doors (doors_of v) more_doors)
          ∙ drop_at old.doors (doors_of v ++ more_doors) r.next (sym stands.next);
    })

-- a value of a type has a spelling
module _ (table : Table) where
  mutual
    pub spelled : (v : Tree) (ty : TypeTree) → IsOf table ty v → HasSpelling v
    spelled (AsBool v) ty h = tt
    spelled (AsU8 v) ty h = tt
    spelled (AsU32 v) ty h = tt
    spelled (AsU64 v) ty h = tt
    spelled (AsText v) OfString h = h.1
    spelled (AsText v) ty h = absurd h
    spelled (AsBytes v) OfBytes h = h
    spelled (AsBytes v) ty h = absurd h
    spelled (AsSequence vs) (SequenceOf of) h = (h.0, spelled_all vs of h.1)
    spelled (AsSequence vs) ty h = absurd h
    spelled (AsStruct vs) (OfName name) h = spelled_fields vs h.0 h.2
    spelled (AsStruct vs) ty h = absurd h
    spelled (AsEnum position) ty h = tt
    spelled (AsReference door) ty h = tt

    spelled_all : (vs : Trees) (ty : TypeTree) → AreOfOne table ty vs → HaveSpelling vs
    spelled_all none ty h = tt
    spelled_all (one v vs) ty h = (spelled v ty h.0, spelled_all vs ty h.1)

    spelled_fields : (vs : Trees) (tys : List TypeTree) → AreOf table tys vs → HaveSpelling vs
    spelled_fields none tys h = tt
    spelled_fields (one v vs) [] h = absurd h
    spelled_fields (one v vs) (ty ∷ tys) h = (spelled v ty h.0, spelled_fields vs tys h.1)
