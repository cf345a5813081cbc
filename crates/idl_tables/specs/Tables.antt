-- The operations of the interfaces, and their numbers.
use Rattle.std.specs.Prelude.{ℕ, ◌+◌, ◌&&◌, List, [], ◌∷◌, ◌++◌, codes, map, get_or, slice_get, if◌then◌else◌, Option, Some, None}
use Rattle.std.specs.List.{flat_map}
use Rattle.std.specs.Fmt.{decimal}
use Rattle.std.specs.Str.{bytes_eq}
use Rattle.text_words.specs.Lines.{line_of}
use Rattle.idl_reader.specs.Tree.{DeclTree}
use Rattle.idl_check.specs.Names.{decl_name, is_interface, op_names}
use Rattle.idl_tables.specs.Lines.{lines_of}

-- an operation, and the interface that declares it
pub record Operation : Type 0 where
  pub name : List ℕ
  pub declarer : List ℕ

-- the operations that a declaration declares itself
unfoldable pub own_of : DeclTree → List Operation
own_of d = map (λ word. record { name = word.text; declarer = (decl_name d).text }) (op_names d)

abbrev pub own_at : Option DeclTree → List Operation
own_at None = []
own_at (Some d) = own_of d

-- the operations of a line of declarations, in order
unfoldable pub line_table : List DeclTree → List ℕ → List Operation
line_table decls line = flat_map (λ k. own_at (slice_get decls k)) line

-- the operations of each declaration; a struct and an enum have none
abbrev pub tables_of : List DeclTree → List (List Operation)
tables_of decls = map (λ line. line_table decls line) (lines_of decls)

-- the number of the first operation of this name, counted from n
abbrev pub number_from : ℕ → List ℕ → List Operation → Option ℕ
number_from n name [] = None
number_from n name (op ∷ ops) = if bytes_eq op.name name then Some n else number_from (n + 1) name ops

-- the table of the interface of this name; the tables are those from the i-th declaration on
abbrev pub table_named : List (List Operation) → ℕ → List DeclTree → List ℕ → Option (List Operation)
table_named tables i [] name = None
table_named tables i (d ∷ ds) name = if is_interface d && bytes_eq (decl_name d).text name then Some (get_or tables i []) else table_named tables (i + 1) ds name

-- numbers count from 0
abbrev pub number_in : List ℕ → Option (List Operation) → Option ℕ
number_in name None = None
number_in name (Some table) = number_from 0 name table

-- each operation on a line: its number, its name and its declarer
abbrev pub numbered : ℕ → List Operation → List ℕ
numbered n [] = []
numbered n (op ∷ ops) = line_of (decimal n ∷ op.name ∷ op.declarer ∷ []) ++ numbered (n + 1) ops

unfoldable pub interface_text : DeclTree → List Operation → List ℕ
interface_text d table = if is_interface d then line_of (codes "interface" ∷ (decl_name d).text ∷ []) ++ numbered 0 table else []

-- the printed tables of the interfaces, in the order of the text
abbrev pub tables_text : List (List Operation) → ℕ → List DeclTree → List ℕ
tables_text tables i [] = []
tables_text tables i (d ∷ ds) = interface_text d (get_or tables i []) ++ tables_text tables (i + 1) ds
