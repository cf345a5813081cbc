-- Where names have ranks, none lies deeper than there are ranks.
use Rattle.std.proofs.Common.{◌≡◌, ℕ, zero, suc, ◌<◌, List, [], ◌∷◌, Option, Some, None, IsSome, refl, arith}
use Rattle.idl_reader.specs.Tree.{TypeTree, OfBool, OfU8, OfU32, OfU64, OfString, OfBytes, SequenceOf, OfName}
use Rattle.marshal_value.specs.Types.{Kind, Fields, Names, Object, Table, IsNamed, AreNamed, IsKind, IsDeclared, IsRanked}

module _ (P Q : List ℕ → Type 0) (f : (name : List ℕ) → P name → Q name) where
  pub IsNamed-map : (ty : TypeTree) → IsNamed P ty → IsNamed Q ty
  IsNamed-map OfBool h = tt
  IsNamed-map OfU8 h = tt
  IsNamed-map OfU32 h = tt
  IsNamed-map OfU64 h = tt
  IsNamed-map OfString h = tt
  IsNamed-map OfBytes h = tt
  IsNamed-map (SequenceOf of) h = IsNamed-map of h
  IsNamed-map (OfName name) h = f name.text h

  pub AreNamed-map : (tys : List TypeTree) → AreNamed P tys → AreNamed Q tys
  AreNamed-map [] h = tt
  AreNamed-map (ty ∷ tys) h = (IsNamed-map ty h.0, AreNamed-map tys h.1)

module _ (table : Table) (rank : List ℕ → ℕ) (ranked : IsRanked table rank) where
  kind_by_rank : (named : List ℕ → Type 0) (name : List ℕ) → ((field : List ℕ) → IsSome (table field) × (rank field < rank name) → named field) → (k : Option Kind) → table name ≡ k → IsSome k → IsKind named k
  kind_by_rank named name below None is some = absurd cc
  kind_by_rank named name below (Some (Fields tys)) is some = AreNamed-map (λ field. IsSome (table field) × (rank field < rank name)) named below tys (ranked name tys is)
  kind_by_rank named name below (Some (Names names)) is some = tt
  kind_by_rank named name below (Some Object) is some = tt

  pub declared_by_rank : (depth : ℕ) (name : List ℕ) → IsSome (table name) → rank name < depth → IsDeclared table depth name
  unfolding IsDeclared
  declared_by_rank zero name some lt = absurd (omega arith)
  declared_by_rank (suc depth) name some lt =
      kind_by_rank (IsDeclared table depth) name (λ field h. declared_by_rank depth field h.0 (omega (arith, h.1))) (table name) refl some
