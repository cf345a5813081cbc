-- Declarations that fit together have ranks, so that no name lies deeper than there are declarations.
use Rattle.std.proofs.Common.{◌≡◌, ℕ, suc, ◌+◌, ◌<◌, Bool, true, false, cond, List, [], ◌∷◌, ◌++◌, length, map, get_or, Some, IsSome, is_some, refl, sym, ap, ◌∙◌, subst, arith, add-one}
use Rattle.std.specs.Prelude.{slice_get}
use Rattle.std.specs.Str.{bytes_eq}
use Rattle.idl_reader.specs.declared.idl.Field.{Field}
use Rattle.idl_reader.specs.declared.idl.Word.{Word}
use Rattle.idl_reader.specs.Tree.{TypeTree, OfBool, OfU8, OfU32, OfU64, OfString, OfBytes, SequenceOf, OfName, FieldTree, DeclTree, StructOf, EnumOf, InterfaceOf, idl_tree, type_tree, field_tree}
use Rattle.idl_check.specs.FitsTogether.{HasName, IsDeclared as IsDeclaredName, Directly, FitsTogether}
use Rattle.idl_check.specs.Names.{decl_name, type_names, field_types, uses, parts_of}
use Rattle.idl_check.specs.Reach.{ranks_of}
use Rattle.idl_check.proofs.Lists.{any_here, any_later, any_at, at_any, any_flat_map}
use Rattle.idl_check.proofs.Ranks.{rank_below as decl_rank_below, rank_falls}
use Rattle.idl_tables.specs.Lines.{spot}
use Rattle.idl_tables.proofs.Rule.{spot_stands, spot_within}
use Rattle.marshal_value.specs.Decls.{kind_of, find_kind, is_found}
use Rattle.marshal_value.specs.Laws.{DeclaredWithin}
use Rattle.marshal_value.specs.Lookup.{table_of, depth_of}
use Rattle.marshal_value.specs.Types.{Fields, IsNamed, AreNamed, IsDeclared, IsRanked}
use Rattle.marshal_value.proofs.Ranks.{IsNamed-map, declared_by_rank}

-- ---- words

abbrev Each : (List ℕ → Type 0) → List Word → Type 0
Each P [] = Unit {0}
Each P (w ∷ ws) = P w.text × Each P ws

each_split : (P : List ℕ → Type 0) (ws vs : List Word) → Each P (ws ++ vs) → Each P ws × Each P vs
each_split P [] vs h = (tt, h)
each_split P (w ∷ ws) vs h = let rest = each_split P ws vs h.1 in ((h.0, rest.0), rest.1)

each_in : (P : List ℕ → Type 0) (words : List Word) → ((name : List ℕ) → HasName name words → P name) → Each P words
each_in P [] h = tt
each_in P (w ∷ ws) h = (
  h w.text (any_here (λ (v : Word). v.text ≡ w.text) w ws refl),
  each_in P ws (λ name here. h name (any_later (λ (v : Word). v.text ≡ name) w ws here)),
)

named_each : (P : List ℕ → Type 0) (ty : TypeTree) → Each P (type_names ty) → IsNamed P ty
named_each P OfBool h = tt
named_each P OfU8 h = tt
named_each P OfU32 h = tt
named_each P OfU64 h = tt
named_each P OfString h = tt
named_each P OfBytes h = tt
named_each P (SequenceOf of) h = named_each P of h
named_each P (OfName name) h = h.0

fields_each : (P : List ℕ → Type 0) (fields : List FieldTree) → Each P (field_types fields) → AreNamed P (map (λ field. field.ty) fields)
fields_each P [] h = tt
fields_each P (f ∷ fs) h = let both = each_split P (type_names f.ty) (field_types fs) h in (named_each P f.ty both.0, fields_each P fs both.1)

-- ---- what a name stands for

-- it stands for the declaration at its spot
kind_is : (decls : List DeclTree) (name : List ℕ) (d : DeclTree) → slice_get decls (spot decls name) ≡ Some d → find_kind decls name ≡ Some (kind_of d)
kind_is [] name d at = absurd cc
kind_is (e ∷ es) name d at = by_test (bytes_eq (decl_name e).text name) at (λ h. kind_is es name d h)
  where
    by_test : (b : Bool) → slice_get (e ∷ es) (cond b 0 (spot es name + 1)) ≡ Some d → (slice_get es (spot es name) ≡ Some d → find_kind es name ≡ Some (kind_of d)) → cond b (Some (kind_of e)) (find_kind es name) ≡ Some (kind_of d)
    by_test true h rest = let same : e ≡ d = cc in ap (λ x. Some (kind_of x)) same
    by_test false h rest = rest (sym (ap (λ n. slice_get (e ∷ es) n) (add-one (spot es name))) ∙ h)

kind_within : (decls : List DeclTree) (name : List ℕ) → IsSome (find_kind decls name) → spot decls name < length decls
kind_within [] name some = absurd cc
kind_within (d ∷ ds) name some = by_test (bytes_eq (decl_name d).text name) some (λ h. kind_within ds name h)
  where
    by_test : (b : Bool) → IsSome (cond b (Some (kind_of d)) (find_kind ds name)) → (IsSome (find_kind ds name) → spot ds name < length ds) → cond b 0 (spot ds name + 1) < suc (length ds)
    by_test true h rest = omega arith
    by_test false h rest = let below = rest h in omega arith

declared_some : (decls : List DeclTree) (word : Word) → IsDeclaredName decls word → IsSome (find_kind decls word.text)
declared_some decls word a =
    let found = at_any (λ (d : DeclTree). (decl_name d).text ≡ word.text) decls a in
    let s = spot_stands decls word.text (spot_within decls word.text found.0 (record { decl = found.1; there = found.2; named = found.3 })) in
    ap is_some (kind_is decls word.text s.decl s.there)

-- ---- ranks

abbrev pub rank_of : List DeclTree → List ℕ → ℕ
rank_of decls name = get_or (ranks_of decls) (spot decls name) 0

module _ (decls : List DeclTree) (fits : FitsTogether decls) where
  -- a name that a declaration uses is declared
  used_some : (i : ℕ) (d : DeclTree) → slice_get decls i ≡ Some d → (name : List ℕ) → HasName name (uses d) → IsSome (find_kind decls name)
  used_some i d at name used =
      let a = any_flat_map (λ (w : Word). w.text ≡ name) (λ d. uses d) decls (any_at (λ (x : DeclTree). HasName name (uses x)) decls i d at used) in
      let declared : IsDeclaredName decls a.1 = subst (λ (w : Word). IsDeclaredName decls w) a.3 (fits.declared a.0 a.1 a.2) in
      subst (λ (t : List ℕ). IsSome (find_kind decls t)) a.4 (declared_some decls a.1 declared)

  field_falls : (name : List ℕ) (d : DeclTree) → slice_get decls (spot decls name) ≡ Some d → (field : List ℕ) → HasName field (parts_of d) → IsSome (find_kind decls field) → rank_of decls field < rank_of decls name
  field_falls name d at field part some =
      let i = spot decls name in
      let j = spot decls field in
      let s = spot_stands decls field (kind_within decls field some) in
      let named : HasName (decl_name s.decl).text (parts_of d) = subst (λ (t : List ℕ). HasName t (parts_of d)) (sym s.named) part in
      rank_falls decls fits.acyclic i j (Directly i j (record { from = d; from_at = at; to = s.decl; to_at = s.there; named = named }))

  struct_ranked : (name : List ℕ) (d : DeclTree) → slice_get decls (spot decls name) ≡ Some d → (tys : List TypeTree) → kind_of d ≡ Fields tys → AreNamed (λ field. IsSome (find_kind decls field) × (rank_of decls field < rank_of decls name)) tys
  struct_ranked name (StructOf n fields) at tys e =
      let same : map (λ field. field.ty) fields ≡ tys = cc in
      subst (λ (ts : List TypeTree). AreNamed (λ field. IsSome (find_kind decls field) × (rank_of decls field < rank_of decls name)) ts) same
      (fields_each (λ field. IsSome (find_kind decls field) × (rank_of decls field < rank_of decls name)) fields
      (each_in (λ field. IsSome (find_kind decls field) × (rank_of decls field < rank_of decls name)) (field_types fields)
      (λ field part. let some = used_some (spot decls name) (StructOf n fields) at field part in (some, field_falls name (StructOf n fields) at field part some))))
  struct_ranked name (EnumOf n names) at tys e = absurd cc
  struct_ranked name (InterfaceOf n bases ops) at tys e = absurd cc

  pub ranked : IsRanked (find_kind decls) (rank_of decls)
  ranked name tys is =
      let s = spot_stands decls name (kind_within decls name (ap is_some is)) in
      let both : Some (kind_of s.decl) ≡ Some (Fields tys) = sym (kind_is decls name s.decl s.there) ∙ is in
      let kind : kind_of s.decl ≡ Fields tys = cc in
      struct_ranked name s.decl s.there tys kind

  pub rank_below : (name : List ℕ) → IsSome (find_kind decls name) → rank_of decls name < length decls
  rank_below name some = decl_rank_below decls fits.acyclic (spot decls name) (kind_within decls name some)

-- the names of a type are declared no deeper than there are declarations
pub declared_within : DeclaredWithin
declared_within set tabled ty named =
    let decls = idl_tree set.idl in
    IsNamed-map (λ name. IsSome (table_of set name)) (IsDeclared (table_of set) (depth_of set))
    (λ name some. declared_by_rank (table_of set) (rank_of decls) (ranked decls tabled.fits) (depth_of set) name some (rank_below decls tabled.fits name some)) ty named

-- ---- the test whether the names of a type are declared

pub found_named : (decls : List DeclTree) (ty : TypeTree) → is_found decls ty ≡ true → IsNamed (λ name. IsSome (find_kind decls name)) ty
found_named decls OfBool e = tt
found_named decls OfU8 e = tt
found_named decls OfU32 e = tt
found_named decls OfU64 e = tt
found_named decls OfString e = tt
found_named decls OfBytes e = tt
found_named decls (SequenceOf of) e = found_named decls of e
found_named decls (OfName name) e = e

pub named_found : (decls : List DeclTree) (ty : TypeTree) → IsNamed (λ name. IsSome (find_kind decls name)) ty → is_found decls ty ≡ true
named_found decls OfBool h = refl
named_found decls OfU8 h = refl
named_found decls OfU32 h = refl
named_found decls OfU64 h = refl
named_found decls OfString h = refl
named_found decls OfBytes h = refl
named_found decls (SequenceOf of) h = named_found decls of h
named_found decls (OfName name) h = h

-- the types of fields
pub types_of_fields : (fields : List Field) → map (λ f. f.ty) (map (λ field. field_tree field) fields) ≡ map (λ field. type_tree field.ty) fields
types_of_fields [] = refl
types_of_fields (f ∷ fs) = ap (λ (tys : List TypeTree). type_tree f.ty ∷ tys) (types_of_fields fs)
