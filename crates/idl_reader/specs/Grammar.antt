-- The grammar: the tokens of each declaration, and which declarations there are.
use Rattle.std.specs.Prelude.{◌≡◌, ℕ, ◌+◌, ◌≤◌, List, [], ◌∷◌, ◌++◌, length, codes, Bool, true, false, Option, Some, None}
use Rattle.std.specs.List.{AllByRecursion}
use Rattle.idl_reader.specs.declared.idl.Word.{Word}
use Rattle.idl_reader.specs.Tokens.{Lexeme, Word as WordToken, Sign, End, tokens_of}
use Rattle.idl_reader.specs.Words.{IsIdlName}
use Rattle.idl_reader.specs.Tree.{TypeTree, OfBool, OfU8, OfU32, OfU64, OfString, OfBytes, SequenceOf, OfName, FieldTree, ParamTree, OpTree, DeclTree, StructOf, EnumOf, InterfaceOf}

-- one of the language's own words, a sign, or a name at its place
pub data Piece : Type 0 where
  Own : List ℕ → Piece
  Mark : ℕ → Piece
  Name : Word → Piece

abbrev pub IsPiece : Piece → Lexeme → Type 0
IsPiece (Own own) (WordToken at word) = word ≡ own
IsPiece (Mark mark) (Sign at sign) = sign ≡ mark
IsPiece (Name name) (WordToken at word) = name ≡ record { text = word; place = at }
IsPiece piece token = ⊥

-- the tokens of a text, one after the other to its end, are these
abbrev pub AreTokens : List Piece → List Lexeme → Type 0
AreTokens [] (End at ∷ []) = Unit {0}
AreTokens (piece ∷ pieces) (token ∷ tokens) = IsPiece piece token × AreTokens pieces tokens
AreTokens pieces tokens = ⊥

-- items, with the same before each, and then the rest
abbrev pub each_then : {X : Type 0} → List Piece → (X → List Piece → List Piece) → List X → List Piece → List Piece
each_then before item [] rest = rest
each_then before item (x ∷ xs) rest = before ++ item x (each_then before item xs rest)

-- items with a comma between each two
abbrev pub commas_then : {X : Type 0} → (X → List Piece → List Piece) → List X → List Piece → List Piece
commas_then item [] rest = rest
commas_then item (x ∷ xs) rest = item x (each_then (Mark 44 ∷ []) item xs rest)

abbrev pub name_then : Word → List Piece → List Piece
name_then name rest = Name name ∷ rest

-- type = "bool" | "u8" | "u32" | "u64" | "string" | "bytes" | "sequence" "<" type ">" | name
abbrev pub type_then : TypeTree → List Piece → List Piece
type_then OfBool rest = Own (codes "bool") ∷ rest
type_then OfU8 rest = Own (codes "u8") ∷ rest
type_then OfU32 rest = Own (codes "u32") ∷ rest
type_then OfU64 rest = Own (codes "u64") ∷ rest
type_then OfString rest = Own (codes "string") ∷ rest
type_then OfBytes rest = Own (codes "bytes") ∷ rest
type_then (SequenceOf of) rest = Own (codes "sequence") ∷ Mark 60 ∷ type_then of (Mark 62 ∷ rest)
type_then (OfName name) rest = Name name ∷ rest

-- type name ";"
abbrev pub field_then : FieldTree → List Piece → List Piece
field_then field rest = type_then field.ty (Name field.name ∷ Mark 59 ∷ rest)

abbrev pub way_word : Bool → List ℕ
way_word false = codes "copy"
way_word true = codes "consume"

-- ( "copy" | "consume" ) type name
abbrev pub param_then : ParamTree → List Piece → List Piece
param_then param rest = Own (way_word param.consume) ∷ type_then param.ty (Name param.name ∷ rest)

-- "void" | type
abbrev pub result_then : Option TypeTree → List Piece → List Piece
result_then None rest = Own (codes "void") ∷ rest
result_then (Some ty) rest = type_then ty rest

-- ( "void" | type ) name "(" [ param { "," param } ] ")" ";"
abbrev pub op_then : OpTree → List Piece → List Piece
op_then op rest = result_then op.outcome (Name op.name ∷ Mark 40 ∷ commas_then param_then op.params (Mark 41 ∷ Mark 59 ∷ rest))

-- [ ":" name { "," name } ]
abbrev pub bases_then : List Word → List Piece → List Piece
bases_then [] rest = rest
bases_then (base ∷ bases) rest = Mark 58 ∷ commas_then name_then (base ∷ bases) rest

-- struct = "struct" name "{" type name ";" { type name ";" } "}" ";"
-- enum = "enum" name "{" name { "," name } "}" ";"
-- interface = "interface" name [ ":" name { "," name } ] "{" { op } "}" ";"
abbrev pub decl_then : DeclTree → List Piece → List Piece
decl_then (StructOf name fields) rest = Own (codes "struct") ∷ Name name ∷ Mark 123 ∷ each_then [] field_then fields (Mark 125 ∷ Mark 59 ∷ rest)
decl_then (EnumOf name names) rest = Own (codes "enum") ∷ Name name ∷ Mark 123 ∷ commas_then name_then names (Mark 125 ∷ Mark 59 ∷ rest)
decl_then (InterfaceOf name bases ops) rest = Own (codes "interface") ∷ Name name ∷ bases_then bases (Mark 123 ∷ each_then [] op_then ops (Mark 125 ∷ Mark 59 ∷ rest))

-- text = { struct | enum | interface }
abbrev pub pieces_of : List DeclTree → List Piece
pieces_of decls = each_then [] decl_then decls []

-- what a text can say: names are names; a type has at most 8 sequences, an operation 16 parameters, a declaration 64 members
-- and, but for an interface, at least one, and a text 256 declarations
abbrev pub sequences : TypeTree → ℕ
sequences (SequenceOf of) = sequences of + 1
sequences ty = 0

abbrev pub IsNamed : TypeTree → Type 0
IsNamed (SequenceOf of) = IsNamed of
IsNamed (OfName name) = IsIdlName name.text
IsNamed ty = Unit {0}

abbrev pub IsType : TypeTree → Type 0
IsType ty = IsNamed ty × (sequences ty ≤ 8)

abbrev pub IsWord : Word → Type 0
IsWord name = IsIdlName name.text

abbrev pub IsField : FieldTree → Type 0
IsField field = IsType field.ty × IsWord field.name

abbrev pub IsParam : ParamTree → Type 0
IsParam param = IsType param.ty × IsWord param.name

abbrev pub IsOutcome : Option TypeTree → Type 0
IsOutcome None = Unit {0}
IsOutcome (Some ty) = IsType ty

abbrev pub AtMost : {X : Type 0} → ℕ → (X → Type 0) → List X → Type 0
AtMost most Is xs = AllByRecursion Is xs × (length xs ≤ most)

abbrev pub IsOp : OpTree → Type 0
IsOp op = IsOutcome op.outcome × IsWord op.name × AtMost 16 IsParam op.params

abbrev pub IsDecl : DeclTree → Type 0
IsDecl (StructOf name fields) = IsWord name × AtMost 64 IsField fields × (1 ≤ length fields)
IsDecl (EnumOf name names) = IsWord name × AtMost 64 IsWord names × (1 ≤ length names)
IsDecl (InterfaceOf name bases ops) = IsWord name × AllByRecursion IsWord bases × AtMost 64 IsOp ops

abbrev pub AreDecls : List DeclTree → Type 0
AreDecls decls = AtMost 256 IsDecl decls

-- the text declares these
abbrev pub IsTextOf : List ℕ → List DeclTree → Type 0
IsTextOf text decls = AreDecls decls × AreTokens (pieces_of decls) (tokens_of text)
