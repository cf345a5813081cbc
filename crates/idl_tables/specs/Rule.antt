-- The rule of the tables: a declaration has the operations of its bases in order, each once, and then its own.
use Rattle.std.specs.Prelude.{◌≡◌, ℕ, List, [], ◌∷◌, ◌++◌, length, Bool, ◌&&◌, if◌then◌else◌, Some, unwrap_or, slice_get}
use Rattle.std.specs.List.{flat_map, list_any}
use Rattle.std.specs.Str.{bytes_eq}
use Rattle.idl_reader.specs.Tree.{DeclTree}
use Rattle.idl_check.specs.Names.{bases_of}
use Rattle.idl_tables.specs.Tables.{Operation, own_of, table_named}

-- of one name and one declarer
abbrev pub same_operation : Operation → Operation → Bool
same_operation a b = bytes_eq a.name b.name && bytes_eq a.declarer b.declarer

abbrev pub has_operation : Operation → List Operation → Bool
has_operation op ops = list_any (λ other. same_operation other op) ops

-- each operation once, where it stands first
abbrev pub each_once : List Operation → List Operation → List Operation
each_once before [] = before
each_once before (op ∷ ops) = if has_operation op before then each_once before ops else each_once (before ++ op ∷ []) ops

-- the operations of the interface of a name
abbrev pub table_of : List DeclTree → List (List Operation) → List ℕ → List Operation
table_of decls tables name = unwrap_or (table_named tables 0 decls name) []

-- the operations of the bases in order, each once
abbrev pub inherited : List DeclTree → List (List Operation) → DeclTree → List Operation
inherited decls tables d = each_once [] (flat_map (λ base. table_of decls tables base.text) (bases_of d))

-- a table for each declaration: the operations of its bases in order, each once, and then its own
pub record FollowBases (decls : List DeclTree) (tables : List (List Operation)) : Type 0 where
  pub all : length tables ≡ length decls
  pub each : (i : ℕ) (d : DeclTree) → slice_get decls i ≡ Some d → slice_get tables i ≡ Some (inherited decls tables d ++ own_of d)
