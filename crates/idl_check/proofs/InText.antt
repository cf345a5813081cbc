-- In a text the places of the declared and of the used names rise.
use Rattle.std.proofs.Common.{◌≡◌, ℕ, ◌+◌, ◌≤◌, List, [], ◌∷◌, ◌++◌, map, Option, Some, None, refl, sym, ap, ◌∙◌, subst, arith, append_assoc, append-nil}
use Rattle.std.specs.List.{flat_map}
use Rattle.idl_reader.specs.declared.idl.Word.{Word}
use Rattle.idl_reader.specs.Tokens.{Lexeme, Word as WordToken, Sign, Gap, tokens_of}
use Rattle.idl_reader.specs.Grammar.{Piece, Own, Mark, Name, AreTokens, each_then, commas_then, name_then, type_then, field_then, param_then, result_then, op_then, bases_then, decl_then, pieces_of, IsTextOf}
use Rattle.idl_reader.specs.Tree.{TypeTree, OfBool, OfU8, OfU32, OfU64, OfString, OfBytes, SequenceOf, OfName, FieldTree, ParamTree, OpTree, DeclTree, StructOf, EnumOf, InterfaceOf}
use Rattle.idl_reader.proofs.TokenPlaces.{TokensRise, tokens_rise}
use Rattle.idl_check.specs.Names.{decl_name, type_names, field_types, outcome_types, op_types, uses, bases_of}
use Rattle.idl_check.proofs.Rises.{Rises, rises_lower, IsPart, Ends, Keeps, Skips, whole, nothing, part_append, rises_part}
use Rattle.idl_check.proofs.Repeated.{inner_names, declared_names}

-- ---- the names among pieces

abbrev names_of : List Piece → List Word
names_of [] = []
names_of (Own own ∷ ps) = names_of ps
names_of (Mark mark ∷ ps) = names_of ps
names_of (Name name ∷ ps) = name ∷ names_of ps

names_rise : (ps : List Piece) (ts : List Lexeme) (low : ℕ) → AreTokens ps ts → TokensRise low ts → Rises low (names_of ps)
names_rise [] ts low h r = tt
names_rise (p ∷ ps) [] low h r = absurd h
names_rise (Own own ∷ ps) (WordToken at word ∷ ts) low h r = rises_lower low (at + 1) (names_of ps) (omega (arith, r.0)) (names_rise ps ts (at + 1) h.1 r.1)
names_rise (Mark mark ∷ ps) (Sign at sign ∷ ts) low h r = rises_lower low (at + 1) (names_of ps) (omega (arith, r.0)) (names_rise ps ts (at + 1) h.1 r.1)
names_rise (Name name ∷ ps) (WordToken at word ∷ ts) low h r =
    let place : at ≡ name.place = sym (ap (λ (w : Word). w.place) h.0) in
    (subst (λ n. low ≤ n) place r.0, subst (λ n. Rises (n + 1) (names_of ps)) place (names_rise ps ts (at + 1) h.1 r.1))
names_rise (p ∷ ps) (t ∷ ts) low h r = absurd h.0

-- ---- the names of declarations, in the order of the text

abbrev field_words : FieldTree → List Word
field_words field = type_names field.ty ++ field.name ∷ []

abbrev param_words : ParamTree → List Word
param_words param = type_names param.ty ++ param.name ∷ []

abbrev op_words : OpTree → List Word
op_words op = outcome_types op.outcome ++ op.name ∷ flat_map (λ param. param_words param) op.params

abbrev decl_words : DeclTree → List Word
decl_words (StructOf name fields) = name ∷ flat_map (λ field. field_words field) fields
decl_words (EnumOf name names) = name ∷ names
decl_words (InterfaceOf name bases ops) = name ∷ (bases ++ flat_map (λ op. op_words op) ops)

abbrev all_words : List DeclTree → List Word
all_words decls = flat_map (λ d. decl_words d) decls

module _ {X : Type 0} (item : X → List Piece → List Piece) (words : X → List Word) (is : (x : X) (rest : List Piece) → names_of (item x rest) ≡ words x ++ names_of rest) where
  names-each : (xs : List X) (rest : List Piece) → names_of (each_then [] item xs rest) ≡ flat_map words xs ++ names_of rest
  names-each [] rest = refl
  names-each (x ∷ xs) rest = is x (each_then [] item xs rest) ∙ ap (λ l. words x ++ l) (names-each xs rest) ∙ sym (append_assoc (words x) (flat_map words xs) (names_of rest))

  names-after_comma : (xs : List X) (rest : List Piece) → names_of (each_then (Mark 44 ∷ []) item xs rest) ≡ flat_map words xs ++ names_of rest
  names-after_comma [] rest = refl
  names-after_comma (x ∷ xs) rest = is x (each_then (Mark 44 ∷ []) item xs rest) ∙ ap (λ l. words x ++ l) (names-after_comma xs rest) ∙ sym (append_assoc (words x) (flat_map words xs) (names_of rest))

  names-commas : (xs : List X) (rest : List Piece) → names_of (commas_then item xs rest) ≡ flat_map words xs ++ names_of rest
  names-commas [] rest = refl
  names-commas (x ∷ xs) rest = is x (each_then (Mark 44 ∷ []) item xs rest) ∙ ap (λ l. words x ++ l) (names-after_comma xs rest) ∙ sym (append_assoc (words x) (flat_map words xs) (names_of rest))

names-type : (ty : TypeTree) (rest : List Piece) → names_of (type_then ty rest) ≡ type_names ty ++ names_of rest
names-type OfBool rest = refl
names-type OfU8 rest = refl
names-type OfU32 rest = refl
names-type OfU64 rest = refl
names-type OfString rest = refl
names-type OfBytes rest = refl
names-type (SequenceOf of) rest = names-type of (Mark 62 ∷ rest)
names-type (OfName name) rest = refl

names-field : (field : FieldTree) (rest : List Piece) → names_of (field_then field rest) ≡ field_words field ++ names_of rest
names-field field rest = names-type field.ty (Name field.name ∷ Mark 59 ∷ rest) ∙ sym (append_assoc (type_names field.ty) (field.name ∷ []) (names_of rest))

names-param : (param : ParamTree) (rest : List Piece) → names_of (param_then param rest) ≡ param_words param ++ names_of rest
names-param param rest = names-type param.ty (Name param.name ∷ rest) ∙ sym (append_assoc (type_names param.ty) (param.name ∷ []) (names_of rest))

names-outcome : (outcome : Option TypeTree) (rest : List Piece) → names_of (result_then outcome rest) ≡ outcome_types outcome ++ names_of rest
names-outcome None rest = refl
names-outcome (Some ty) rest = names-type ty rest

names-op : (op : OpTree) (rest : List Piece) → names_of (op_then op rest) ≡ op_words op ++ names_of rest
names-op op rest =
    names-outcome op.outcome (Name op.name ∷ Mark 40 ∷ commas_then param_then op.params (Mark 41 ∷ Mark 59 ∷ rest))
    ∙ ap (λ l. outcome_types op.outcome ++ (op.name ∷ l)) (names-commas param_then (λ param. param_words param) names-param op.params (Mark 41 ∷ Mark 59 ∷ rest))
    ∙ sym (append_assoc (outcome_types op.outcome) (op.name ∷ flat_map (λ param. param_words param) op.params) (names_of rest))

one_name : (name : Word) (rest : List Piece) → names_of (name_then name rest) ≡ (name ∷ []) ++ names_of rest
one_name name rest = refl

each_alone : (words : List Word) → flat_map (λ (w : Word). w ∷ []) words ≡ words
each_alone [] = refl
each_alone (w ∷ ws) = ap (λ (l : List Word). w ∷ l) (each_alone ws)

names-names : (names : List Word) (rest : List Piece) → names_of (commas_then name_then names rest) ≡ names ++ names_of rest
names-names names rest = names-commas name_then (λ w. w ∷ []) one_name names rest ∙ ap (λ l. l ++ names_of rest) (each_alone names)

names-bases : (bases : List Word) (rest : List Piece) → names_of (bases_then bases rest) ≡ bases ++ names_of rest
names-bases [] rest = refl
names-bases (base ∷ bases) rest = names-names (base ∷ bases) rest

names-decl : (d : DeclTree) (rest : List Piece) → names_of (decl_then d rest) ≡ decl_words d ++ names_of rest
names-decl (StructOf name fields) rest = ap (λ l. name ∷ l) (names-each field_then (λ field. field_words field) names-field fields (Mark 125 ∷ Mark 59 ∷ rest))
names-decl (EnumOf name names) rest = ap (λ l. name ∷ l) (names-names names (Mark 125 ∷ Mark 59 ∷ rest))
names-decl (InterfaceOf name bases ops) rest =
    ap (λ l. name ∷ l) (names-bases bases (Mark 123 ∷ each_then [] op_then ops (Mark 125 ∷ Mark 59 ∷ rest))
    ∙ ap (λ l. bases ++ l) (names-each op_then (λ op. op_words op) names-op ops (Mark 125 ∷ Mark 59 ∷ rest))
    ∙ sym (append_assoc bases (flat_map (λ op. op_words op) ops) (names_of rest)))

all_rise : (text : List ℕ) (decls : List DeclTree) → IsTextOf text decls → Rises 0 (all_words decls)
all_rise text decls is =
    subst (λ (l : List Word). Rises 0 l) (names-each decl_then (λ d. decl_words d) names-decl decls [] ∙ append-nil (all_words decls))
    (names_rise (pieces_of decls) (tokens_of text) 0 is.1 (tokens_rise Gap 0 text))

-- ---- the names that the searches go through

module _ {X : Type 0} (some all : X → List Word) (part : (x : X) → IsPart (some x) (all x)) where
  part_flat_map : (xs : List X) → IsPart (flat_map some xs) (flat_map all xs)
  part_flat_map [] = Ends
  part_flat_map (x ∷ xs) = part_append (some x) (flat_map some xs) (all x) (flat_map all xs) (part x) (part_flat_map xs)

module _ {X : Type 0} (name : X → Word) (all : X → List Word) (part : (x : X) → IsPart (name x ∷ []) (all x)) where
  part_map : (xs : List X) → IsPart (map name xs) (flat_map all xs)
  part_map [] = Ends
  part_map (x ∷ xs) = part_append (name x ∷ []) (map name xs) (all x) (flat_map all xs) (part x) (part_map xs)

-- a name behind types, and types before a name
name_behind : (types : List Word) (name : Word) → IsPart (name ∷ []) (types ++ name ∷ [])
name_behind types name = part_append [] (name ∷ []) types (name ∷ []) (nothing types) (whole (name ∷ []))

types_before : (types : List Word) (name : Word) → IsPart types (types ++ name ∷ [])
types_before types name = subst (λ (l : List Word). IsPart l (types ++ name ∷ [])) (append-nil types) (part_append types [] types (name ∷ []) (whole types) (nothing (name ∷ [])))

op_names_part : (op : OpTree) → IsPart (op.name ∷ map (λ param. param.name) op.params) (op_words op)
op_names_part op =
    part_append [] (op.name ∷ map (λ param. param.name) op.params) (outcome_types op.outcome) (op.name ∷ flat_map (λ param. param_words param) op.params) (nothing (outcome_types op.outcome))
    (Keeps op.name (map (λ param. param.name) op.params) (flat_map (λ param. param_words param) op.params) (part_map (λ (param : ParamTree). param.name) (λ param. param_words param) (λ param. name_behind (type_names param.ty) param.name) op.params))

op_types_part : (op : OpTree) → IsPart (op_types op) (op_words op)
op_types_part op =
    part_append (outcome_types op.outcome) (flat_map (λ param. type_names param.ty) op.params) (outcome_types op.outcome) (op.name ∷ flat_map (λ param. param_words param) op.params) (whole (outcome_types op.outcome))
    (Skips op.name (flat_map (λ param. type_names param.ty) op.params) (flat_map (λ param. param_words param) op.params) (part_flat_map (λ (param : ParamTree). type_names param.ty) (λ param. param_words param) (λ param. types_before (type_names param.ty) param.name) op.params))

declared_part : (d : DeclTree) → IsPart (decl_name d ∷ inner_names d) (decl_words d)
declared_part (StructOf name fields) = Keeps name (map (λ field. field.name) fields) (flat_map (λ field. field_words field) fields) (part_map (λ (field : FieldTree). field.name) (λ field. field_words field) (λ field. name_behind (type_names field.ty) field.name) fields)
declared_part (EnumOf name names) = whole (name ∷ names)
declared_part (InterfaceOf name bases ops) =
    Keeps name (bases ++ flat_map (λ op. op.name ∷ map (λ param. param.name) op.params) ops) (bases ++ flat_map (λ op. op_words op) ops)
    (part_append bases (flat_map (λ op. op.name ∷ map (λ param. param.name) op.params) ops) bases (flat_map (λ op. op_words op) ops) (whole bases) (part_flat_map (λ (op : OpTree). op.name ∷ map (λ param. param.name) op.params) (λ op. op_words op) op_names_part ops))

used_part : (d : DeclTree) → IsPart (uses d) (decl_words d)
used_part (StructOf name fields) = Skips name (field_types fields) (flat_map (λ field. field_words field) fields) (part_flat_map (λ (field : FieldTree). type_names field.ty) (λ field. field_words field) (λ field. types_before (type_names field.ty) field.name) fields)
used_part (EnumOf name names) = nothing (name ∷ names)
used_part (InterfaceOf name bases ops) =
    Skips name (bases ++ flat_map (λ op. op_types op) ops) (bases ++ flat_map (λ op. op_words op) ops)
    (part_append bases (flat_map (λ op. op_types op) ops) bases (flat_map (λ op. op_words op) ops) (whole bases) (part_flat_map (λ (op : OpTree). op_types op) (λ op. op_words op) op_types_part ops))

bases_part : (d : DeclTree) → IsPart (bases_of d) (decl_words d)
bases_part (StructOf name fields) = nothing (decl_words (StructOf name fields))
bases_part (EnumOf name names) = nothing (name ∷ names)
bases_part (InterfaceOf name bases ops) =
    Skips name bases (bases ++ flat_map (λ op. op_words op) ops)
    (subst (λ (l : List Word). IsPart l (bases ++ flat_map (λ op. op_words op) ops)) (append-nil bases) (part_append bases [] bases (flat_map (λ op. op_words op) ops) (whole bases) (nothing (flat_map (λ op. op_words op) ops))))

name_part : (d : DeclTree) → IsPart (decl_name d ∷ []) (decl_words d)
name_part (StructOf name fields) = Keeps name [] (flat_map (λ field. field_words field) fields) (nothing (flat_map (λ field. field_words field) fields))
name_part (EnumOf name names) = Keeps name [] names (nothing names)
name_part (InterfaceOf name bases ops) = Keeps name [] (bases ++ flat_map (λ op. op_words op) ops) (nothing (bases ++ flat_map (λ op. op_words op) ops))

module _ (text : List ℕ) (decls : List DeclTree) (is : IsTextOf text decls) where
  pub declared_rise : Rises 0 (declared_names decls)
  declared_rise = rises_part 0 (declared_names decls) (all_words decls) (part_flat_map (λ d. decl_name d ∷ inner_names d) (λ d. decl_words d) declared_part decls) (all_rise text decls is)

  pub used_rise : Rises 0 (flat_map (λ d. uses d) decls)
  used_rise = rises_part 0 (flat_map (λ d. uses d) decls) (all_words decls) (part_flat_map (λ d. uses d) (λ d. decl_words d) used_part decls) (all_rise text decls is)

  pub bases_rise : Rises 0 (flat_map (λ d. bases_of d) decls)
  bases_rise = rises_part 0 (flat_map (λ d. bases_of d) decls) (all_words decls) (part_flat_map (λ d. bases_of d) (λ d. decl_words d) bases_part decls) (all_rise text decls is)

  pub names_of_decls_rise : Rises 0 (map (λ d. decl_name d) decls)
  names_of_decls_rise = rises_part 0 (map (λ d. decl_name d) decls) (all_words decls) (part_map (λ d. decl_name d) (λ d. decl_words d) name_part decls) (all_rise text decls is)
