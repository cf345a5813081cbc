-- The tables of declarations that fit together.
use Rattle.std.specs.Prelude.{◌≡◌, ℕ, List, true, Some, slice_get}
use Rattle.idl_reader.specs.declared.idl.Idl.{Idl}
use Rattle.idl_reader.specs.Grammar.{AreDecls}
use Rattle.idl_reader.specs.Tree.{DeclTree, idl_tree}
use Rattle.idl_check.specs.Names.{decl_name, is_interface}
use Rattle.idl_check.specs.FitsTogether.{FitsTogether}
use Rattle.idl_check.specs.Reach.{ranks_of}
use Rattle.idl_tables.specs.Tables.{Operation, tables_of}

-- the declarations, the number of each by which a recursion on them ends, and the operations of each
pub record Tabled : Type 0 where
  pub idl : Idl
  pub ranks : List ℕ
  pub tables : List (List Operation)

-- a text can declare them, they fit together, and the tables are theirs
pub record IsTabled (set : Tabled) : Type 0 where
  pub said : AreDecls (idl_tree set.idl)
  pub fits : FitsTogether (idl_tree set.idl)
  pub ranked : set.ranks ≡ ranks_of (idl_tree set.idl)
  pub tabled : set.tables ≡ tables_of (idl_tree set.idl)

-- the operation of this number, counted from 0, in the table of the interface of this name has that name
pub record IsNumberOf (set : Tabled) (interface name : List ℕ) (number : ℕ) : Type 0 where
  pub at : ℕ
  pub decl : DeclTree
  pub decl_at : slice_get (idl_tree set.idl) at ≡ Some decl
  pub face : is_interface decl ≡ true
  pub called : (decl_name decl).text ≡ interface
  pub table : List Operation
  pub table_at : slice_get set.tables at ≡ Some table
  pub op : Operation
  pub op_at : slice_get table number ≡ Some op
  pub op_called : op.name ≡ name
