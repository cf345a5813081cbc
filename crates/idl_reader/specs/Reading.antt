-- Reading a text token by token: for each line of the grammar what it reads, and the tokens after it, or the first token
-- that cannot stand there. This is the reader's descent, and it serves only to say which reason comes first; which texts are
-- read, and what they declare, the grammar above it says.
use Rattle.std.specs.Prelude.{ℕ, zero, suc, ◌-◌, ◌==◌, ◌||◌, not, List, [], ◌∷◌, ◌++◌, length, codes, Bool, true, false, if◌then◌else◌, Option, Some, None, Result, Ok, Err}
use Rattle.std.specs.Str.{bytes_eq}
use Rattle.idl_reader.specs.declared.why.IdlWhy.{IdlWhy}
use Rattle.idl_reader.specs.declared.why.IdlWhy.TheVariants.{Byte, LongName, Token, Limit}
use Rattle.idl_reader.specs.declared.why.IdlRefused.{IdlRefused}
use Rattle.idl_reader.specs.declared.idl.Word.{Word}
use Rattle.idl_reader.specs.Tokens.{Lexeme, Word as WordToken, Sign, Stray, Long, End, tokens_of}
use Rattle.idl_reader.specs.Words.{is_plain, is_reserved}
use Rattle.idl_reader.specs.Tree.{TypeTree, OfBool, OfU8, OfU32, OfU64, OfString, OfBytes, SequenceOf, OfName, FieldTree, ParamTree, OpTree, DeclTree, StructOf, EnumOf, InterfaceOf}

infixl 10 ◌>>=◌
abbrev pub ◌>>=◌ : {A B E : Type 0} → Result A E → (A → Result B E) → Result B E
(Ok x) >>= f = f x
(Err e) >>= f = Err e

-- what is read, and the tokens after it
abbrev pub Reads : Type 0 → Type 0
Reads X = Result (X × List Lexeme) IdlRefused

-- refused at the first token; what begins no token keeps its own reason
unfoldable pub refused : IdlWhy → List Lexeme → IdlRefused
refused why (WordToken at word ∷ rest) = record { place = at; why = why }
refused why (Sign at sign ∷ rest) = record { place = at; why = why }
refused why (Stray at ∷ rest) = record { place = at; why = Byte }
refused why (Long at ∷ rest) = record { place = at; why = LongName }
refused why (End at ∷ rest) = record { place = at; why = why }
refused why [] = record { place = 0; why = why }

-- the tokens after this word, or after this sign, where it comes first
unfoldable pub after_word : List ℕ → List Lexeme → Option (List Lexeme)
after_word own (WordToken at word ∷ rest) = if bytes_eq word own then Some rest else None
after_word own tokens = None

unfoldable pub after_sign : ℕ → List Lexeme → Option (List Lexeme)
after_sign own (Sign at sign ∷ rest) = if sign == own then Some rest else None
after_sign own tokens = None

-- what the tokens after it give, or what is given where it does not come first
abbrev pub if_after : {B : Type 0} → Option (List Lexeme) → (List Lexeme → B) → B → B
if_after (Some rest) first other = first rest
if_after None first other = other

abbrev pub or_refused : {A : Type 0} → IdlRefused → Option A → Result A IdlRefused
or_refused r None = Err r
or_refused r (Some x) = Ok x

-- a sign
unfoldable pub sign_at : ℕ → List Lexeme → Result (List Lexeme) IdlRefused
sign_at sign tokens = or_refused (refused Token tokens) (after_sign sign tokens)

-- a name
unfoldable pub name_at : List Lexeme → Reads Word
name_at (WordToken at word ∷ rest) = if is_reserved word then Err (record { place = at; why = Token }) else Ok (record { text = word; place = at }, rest)
name_at tokens = Err (refused Token tokens)

-- a type of one word
unfoldable pub word_type : ℕ → List ℕ → Result TypeTree IdlRefused
word_type at word =
    if bytes_eq word (codes "bool") then Ok OfBool
    else if bytes_eq word (codes "u8") then Ok OfU8
    else if bytes_eq word (codes "u32") then Ok OfU32
    else if bytes_eq word (codes "u64") then Ok OfU64
    else if bytes_eq word (codes "string") then Ok OfString
    else if bytes_eq word (codes "bytes") then Ok OfBytes
    else if is_reserved word then Err (record { place = at; why = Token })
    else Ok (OfName (record { text = word; place = at }))

unfoldable pub simple_at : List Lexeme → Reads TypeTree
simple_at (WordToken at word ∷ rest) = do
  ty ← word_type at word
  Ok (ty, rest)
simple_at tokens = Err (refused Token tokens)

-- `<`, the type of each item, and `>`
unfoldable pub sequence_at : (List Lexeme → Reads TypeTree) → List Lexeme → Reads TypeTree
sequence_at item tokens = do
  rest ← sign_at 60 tokens
  of ← item rest
  end ← sign_at 62 of.1
  Ok (SequenceOf of.0, end)

-- a type of at most so many sequences
unfoldable pub type_at : ℕ → List Lexeme → Reads TypeTree
type_at zero tokens = if_after (after_word (codes "sequence") tokens) (λ rest. Err (refused Limit tokens)) (simple_at tokens)
type_at (suc n) tokens = if_after (after_word (codes "sequence") tokens) (λ rest. sequence_at (λ ts. type_at n ts) rest) (simple_at tokens)

-- the words that begin a name, a type, an operation, a parameter and a declaration
abbrev pub begins_with : (List ℕ → Bool) → List Lexeme → Bool
begins_with test (WordToken at word ∷ rest) = test word
begins_with test tokens = false

abbrev pub is_name_word : List ℕ → Bool
is_name_word word = not (is_reserved word)

abbrev pub is_type_word : List ℕ → Bool
is_type_word word = bytes_eq word (codes "sequence") || is_plain word || is_name_word word

abbrev pub is_op_word : List ℕ → Bool
is_op_word word = bytes_eq word (codes "void") || is_type_word word

abbrev pub is_param_word : List ℕ → Bool
is_param_word word = bytes_eq word (codes "copy") || bytes_eq word (codes "consume")

abbrev pub is_decl_word : List ℕ → Bool
is_decl_word word = bytes_eq word (codes "struct") || bytes_eq word (codes "enum") || bytes_eq word (codes "interface")

-- one more than there may be: refused as that where it could begin
unfoldable pub one_too_many : (List ℕ → Bool) → List Lexeme → IdlRefused
one_too_many begins tokens = refused (if begins_with begins tokens then Limit else Token) tokens

-- Items, at most so many: a next one comes while there are tokens for it.
unfoldable pub many_at : {X : Type 0} → (List Lexeme → Option (List Lexeme)) → (List ℕ → Bool) → (List Lexeme → Reads X) → ℕ → List Lexeme → Reads (List X)
many_at next begins item zero tokens = if_after (next tokens) (λ rest. Err (one_too_many begins rest)) (Ok ([], tokens))
many_at next begins item (suc n) tokens = if_after (next tokens) (λ rest. item rest >>= λ x. many_at next begins item n x.1 >>= λ xs. Ok (x.0 ∷ xs.0, xs.1)) (Ok ([], tokens))

-- the items so far, and those that follow
abbrev pub onto : {X : Type 0} → List X → Reads (List X) → Reads (List X)
onto front (Ok more) = Ok (front ++ more.0, more.1)
onto front (Err e) = Err e

-- a next one comes after a comma; until a sign; until the end of the text
abbrev pub after_comma : List Lexeme → Option (List Lexeme)
after_comma tokens = after_sign 44 tokens

unfoldable pub until_brace : List Lexeme → Option (List Lexeme)
until_brace tokens = if_after (after_sign 125 tokens) (λ rest. None) (Some tokens)

unfoldable pub until_end : List Lexeme → Option (List Lexeme)
until_end (End at ∷ rest) = None
until_end tokens = Some tokens

-- field = type name ";"
unfoldable pub field_at : List Lexeme → Reads FieldTree
field_at tokens = do
  ty ← type_at 8 tokens
  name ← name_at ty.1
  rest ← sign_at 59 name.1
  Ok (record { ty = ty.0; name = name.0 }, rest)

-- "copy" | "consume"
unfoldable pub way_at : List Lexeme → Reads Bool
way_at tokens =
    if_after (after_word (codes "copy") tokens) (λ rest. Ok (false, rest))
    (if_after (after_word (codes "consume") tokens) (λ rest. Ok (true, rest)) (Err (refused Token tokens)))

-- param = ( "copy" | "consume" ) type name
unfoldable pub param_at : List Lexeme → Reads ParamTree
param_at tokens = do
  way ← way_at tokens
  ty ← type_at 8 way.1
  name ← name_at ty.1
  Ok (record { consume = way.0; ty = ty.0; name = name.0 }, name.1)

-- param { "," param }
unfoldable pub some_params_at : List Lexeme → Reads (List ParamTree)
some_params_at tokens = do
  first ← param_at tokens
  more ← many_at after_comma is_param_word param_at 15 first.1
  Ok (first.0 ∷ more.0, more.1)

-- [ param { "," param } ], where ")" follows
unfoldable pub params_at : List Lexeme → Reads (List ParamTree)
params_at tokens = if_after (after_sign 41 tokens) (λ rest. Ok ([], tokens)) (some_params_at tokens)

-- "void" | type
unfoldable pub result_at : List Lexeme → Reads (Option TypeTree)
result_at tokens = if_after (after_word (codes "void") tokens) (λ rest. Ok (None, rest)) (type_at 8 tokens >>= λ ty. Ok (Some ty.0, ty.1))

-- op = ( "void" | type ) name "(" [ param { "," param } ] ")" ";"
unfoldable pub op_at : List Lexeme → Reads OpTree
op_at tokens = do
  outcome ← result_at tokens
  name ← name_at outcome.1
  inner ← sign_at 40 name.1
  params ← params_at inner
  close ← sign_at 41 params.1
  rest ← sign_at 59 close
  Ok (record { outcome = outcome.0; name = name.0; params = params.0 }, rest)

-- { op }
unfoldable pub ops_at : List Lexeme → Reads (List OpTree)
ops_at tokens = many_at until_brace is_op_word op_at 64 tokens

-- name { "," name }, at most so many
unfoldable pub names_at : ℕ → List Lexeme → Reads (List Word)
names_at most tokens = do
  first ← name_at tokens
  more ← many_at after_comma is_name_word name_at (most - 1) first.1
  Ok (first.0 ∷ more.0, more.1)

-- [ ":" name { "," name } ]: as many as there are tokens for
unfoldable pub bases_at : List Lexeme → Reads (List Word)
bases_at tokens = if_after (after_sign 58 tokens) (λ rest. names_at (length rest) rest) (Ok ([], tokens))

-- "}" ";"
unfoldable pub end_at : List Lexeme → Result (List Lexeme) IdlRefused
end_at tokens = do
  rest ← sign_at 125 tokens
  sign_at 59 rest

-- field { field }
unfoldable pub fields_at : List Lexeme → Reads (List FieldTree)
fields_at tokens = do
  first ← field_at tokens
  more ← many_at until_brace is_type_word field_at 63 first.1
  Ok (first.0 ∷ more.0, more.1)

-- what follows "struct": name "{" type name ";" { type name ";" } "}" ";"
unfoldable pub struct_at : List Lexeme → Reads DeclTree
struct_at tokens = do
  name ← name_at tokens
  body ← sign_at 123 name.1
  fields ← fields_at body
  rest ← end_at fields.1
  Ok (StructOf name.0 fields.0, rest)

-- what follows "enum": name "{" name { "," name } "}" ";"
unfoldable pub enum_at : List Lexeme → Reads DeclTree
enum_at tokens = do
  name ← name_at tokens
  body ← sign_at 123 name.1
  names ← names_at 64 body
  rest ← end_at names.1
  Ok (EnumOf name.0 names.0, rest)

-- what follows "interface": name [ ":" name { "," name } ] "{" { op } "}" ";"
unfoldable pub interface_at : List Lexeme → Reads DeclTree
interface_at tokens = do
  name ← name_at tokens
  bases ← bases_at name.1
  body ← sign_at 123 bases.1
  ops ← ops_at body
  rest ← end_at ops.1
  Ok (InterfaceOf name.0 bases.0 ops.0, rest)

-- struct | enum | interface
unfoldable pub decl_at : List Lexeme → Reads DeclTree
decl_at tokens =
    if_after (after_word (codes "struct") tokens) struct_at
    (if_after (after_word (codes "enum") tokens) enum_at
    (if_after (after_word (codes "interface") tokens) interface_at (Err (refused Token tokens))))

-- the declarations of a text, or the first place that is wrong, and why
unfoldable pub idl_at : List ℕ → Result (List DeclTree) IdlRefused
idl_at text = do
  decls ← many_at until_end is_decl_word decl_at 256 (tokens_of text)
  Ok decls.0
