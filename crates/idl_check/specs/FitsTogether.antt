-- What it is for declarations to fit together, and what each reason against it is.
use Rattle.std.specs.Prelude.{◌≡◌, ◌≢◌, ◌<◌, ℕ, List, [], ◌∷◌, map, true, Some, slice_get, take, All, Any, AllPairs, ◌⊎◌}
use Rattle.std.specs.List.{flat_map}
use Rattle.idl_reader.specs.declared.idl.Word.{Word}
use Rattle.idl_reader.specs.Tree.{DeclTree, StructOf, EnumOf, InterfaceOf}
use Rattle.idl_check.specs.declared.why.UnfitWhy.{UnfitWhy}
use Rattle.idl_check.specs.declared.why.UnfitWhy.TheVariants.{Repeated, UnknownType, NotInterface, Cycle, Clash, Memory}
use Rattle.idl_check.specs.declared.why.IdlUnfit.{IdlUnfit}
use Rattle.idl_check.specs.Names.{decl_name, is_interface, uses, bases_of, parts_of, op_names}

-- no two of the words are equal
abbrev pub AreDifferent : List Word → Type 0
AreDifferent words = AllPairs (λ one other. one.text ≢ other.text) words

-- the lists of names in a declaration: a struct's fields; an enum's names; an interface's bases, its operations, and the
-- parameters of each
abbrev pub lists_in : DeclTree → List (List Word)
lists_in (StructOf name fields) = map (λ field. field.name) fields ∷ []
lists_in (EnumOf name names) = names ∷ []
lists_in (InterfaceOf name bases ops) = bases ∷ map (λ op. op.name) ops ∷ map (λ op. map (λ param. param.name) op.params) ops

-- the lists in which no two names may be equal: the declarations, and the lists in each of them
abbrev pub name_lists : List DeclTree → List (List Word)
name_lists decls = map (λ d. decl_name d) decls ∷ flat_map (λ d. lists_in d) decls

-- one of the words is this name
abbrev pub HasName : List ℕ → List Word → Type 0
HasName name words = Any (λ word. word.text ≡ name) words

-- a declaration has the name
abbrev pub IsDeclared : List DeclTree → Word → Type 0
IsDeclared decls name = Any (λ d. (decl_name d).text ≡ name.text) decls

-- an interface has the name
abbrev pub IsInterface : List DeclTree → Word → Type 0
IsInterface decls name = Any (λ d. (is_interface d ≡ true) × ((decl_name d).text ≡ name.text)) decls

-- one of these words of the i-th declaration is the name of the j-th
pub record Refers (words_of : DeclTree → List Word) (decls : List DeclTree) (i j : ℕ) : Type 0 where
  pub from : DeclTree
  pub from_at : slice_get decls i ≡ Some from
  pub to : DeclTree
  pub to_at : slice_get decls j ≡ Some to
  pub named : HasName (decl_name to).text (words_of from)

-- the i-th declaration refers to the j-th, or to one that leads to it
pub data LeadsTo (words_of : DeclTree → List Word) (decls : List DeclTree) : ℕ → ℕ → Type 0 where
  Directly : (i j : ℕ) → Refers words_of decls i j → LeadsTo words_of decls i j
  Further : (i j k : ℕ) → Refers words_of decls i j → LeadsTo words_of decls j k → LeadsTo words_of decls i k

-- the i-th declaration is made of the j-th: through the types of fields of structs, and the bases of interfaces
abbrev pub IsMadeOf : List DeclTree → ℕ → ℕ → Type 0
IsMadeOf decls i j = LeadsTo parts_of decls i j

-- the i-th declaration inherits from the j-th: through the bases of interfaces
abbrev pub Inherits : List DeclTree → ℕ → ℕ → Type 0
Inherits decls i j = LeadsTo bases_of decls i j

-- the i-th declaration has an operation of this name that the k-th declares: itself, or one that it inherits from
pub record HasOperation (decls : List DeclTree) (i k : ℕ) (name : List ℕ) : Type 0 where
  pub from : (i ≡ k) ⊎ Inherits decls i k
  pub declarer : DeclTree
  pub declarer_at : slice_get decls k ≡ Some declarer
  pub declares : HasName name (op_names declarer)

-- the i-th declaration has two operations of one name, which different ones declare
pub record HasClash (decls : List DeclTree) (i : ℕ) : Type 0 where
  pub name : List ℕ
  pub one : ℕ
  pub other : ℕ
  pub has_one : HasOperation decls i one name
  pub has_other : HasOperation decls i other name
  pub different : one ≢ other

-- The declarations fit together: names that may not be equal differ, each name that is used is declared, each base is an
-- interface, none is made of itself, and none has two operations of one name that different ones declare.
pub record FitsTogether (decls : List DeclTree) : Type 0 where
  pub different : All AreDifferent (name_lists decls)
  pub declared : All (IsDeclared decls) (flat_map (λ d. uses d) decls)
  pub bases : All (IsInterface decls) (flat_map (λ d. bases_of d) decls)
  pub acyclic : (i : ℕ) → ¬ IsMadeOf decls i i
  pub clear : (i : ℕ) → ¬ HasClash decls i

-- a word equals one that stands before it, and has this place
pub record StandsAgain (words : List Word) (place : ℕ) : Type 0 where
  pub number : ℕ
  pub word : Word
  pub word_at : slice_get words number ≡ Some word
  pub before : HasName word.text (take number words)
  pub place_is : place ≡ word.place

-- the name of the i-th declaration has this place
pub record StandsAt (decls : List DeclTree) (i place : ℕ) : Type 0 where
  pub decl : DeclTree
  pub decl_at : slice_get decls i ≡ Some decl
  pub place_is : place ≡ (decl_name decl).place

-- the reason holds at the place
abbrev pub Holds : List DeclTree → UnfitWhy → ℕ → Type 0
Holds decls Repeated place = Any (λ words. StandsAgain words place) (name_lists decls)
Holds decls UnknownType place = Any (λ name. (¬ IsDeclared decls name) × (place ≡ name.place)) (flat_map (λ d. uses d) decls)
Holds decls NotInterface place = Any (λ base. (¬ IsInterface decls base) × (place ≡ base.place)) (flat_map (λ d. bases_of d) decls)
Holds decls Cycle place = (i : ℕ) × IsMadeOf decls i i × StandsAt decls i place
Holds decls Clash place = (i : ℕ) × HasClash decls i × StandsAt decls i place
Holds decls Memory place = ⊥

-- the order in which the reasons count
abbrev pub order_of : UnfitWhy → ℕ
order_of Repeated = 0
order_of UnknownType = 1
order_of NotInterface = 2
order_of Cycle = 3
order_of Clash = 4
order_of Memory = 5

-- no reason that counts before this one holds anywhere
abbrev pub NoneBefore : List DeclTree → UnfitWhy → Type 0
NoneBefore decls why = (earlier : UnfitWhy) (place : ℕ) → order_of earlier < order_of why → ¬ Holds decls earlier place

-- the reason holds at its place, and none before it holds anywhere
pub record IsReason (decls : List DeclTree) (unfit : IdlUnfit) : Type 0 where
  pub holds : Holds decls unfit.why unfit.place
  pub first : NoneBefore decls unfit.why
