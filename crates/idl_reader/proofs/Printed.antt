-- What was printed declares the same, apart from places.
use Rattle.std.proofs.Common.{◌≡◌, ℕ, suc, ◌+◌, ◌≤◌, List, [], ◌∷◌, ◌++◌, length, take, drop, map, codes, Bool, true, false, ◌&&◌, not, leb, cond, Option, Some, None, refl, sym, ap, subst, ◌∙◌, append_assoc, append-nil, arith}
use Rattle.std.proofs.Math.Seq.{take-append_seam, drop-append_seam}
use Rattle.std.specs.List.{AllByRecursion, flat_map, list_all, prefix_len}
use Rattle.std.proofs.lemmas.Bool.{and_parts}
use Rattle.std.proofs.lemmas.Bool.Decides.{nat_tests}
use Rattle.text_words.specs.Words.{is_letter, is_name_char}
use Rattle.idl_reader.specs.declared.idl.Word.{Word as Named}
use Rattle.idl_reader.specs.Words.{is_word, is_reserved, IsIdlName}
use Rattle.idl_reader.specs.Tokens.{Word, Gap, is_blank, is_sign, word_then, tokens_from, BeginsWord}
use Rattle.idl_reader.specs.Tree.{TypeTree, OfBool, OfU8, OfU32, OfU64, OfString, OfBytes, SequenceOf, OfName, FieldTree, ParamTree, OpTree, DeclTree, StructOf, EnumOf, InterfaceOf}
use Rattle.idl_reader.specs.Grammar.{Piece, Own, Mark, Name, AreTokens, each_then, commas_then, name_then, type_then, field_then, way_word, param_then, result_then, op_then, bases_then, decl_then, pieces_of, sequences, IsNamed, IsWord, IsField, IsParam, IsOutcome, IsOp, IsDecl, AreDecls, IsTextOf}
use Rattle.idl_reader.specs.Places.{bare_word, bare_type, bare_field, bare_param, bare_outcome, bare_op, bare_decl, bare}
use Rattle.idl_reader.specs.Spelling.{comma_joined, type_text, field_text, param_text, result_text, op_text, names_text, bases_text, decl_text, spelling}
use Rattle.idl_reader.proofs.TokenLaws.{tokens-blank, tokens-sign, tokens-front, word_short}
use Rattle.idl_reader.proofs.WordLaws.{word_chars, word_length}

-- the bytes from a place on are these tokens
record At (ps : List Piece) (at : ℕ) (bs : List ℕ) : Type 0 where
  are : AreTokens ps (tokens_from Gap at bs)

-- no name goes on
abbrev Opens : List ℕ → Type 0
Opens [] = Unit {0}
Opens (c ∷ cs) = is_name_char c ≡ false

blank : (c : ℕ) (ps : List Piece) (at : ℕ) (bs : List ℕ) → is_blank c ≡ true → At ps (at + 1) bs → At ps at (c ∷ bs)
blank c ps at bs is h = record { are = subst (AreTokens ps) (sym (tokens-blank at c bs is)) h.are }

sign : (c : ℕ) (ps : List Piece) (at : ℕ) (bs : List ℕ) → is_blank c ≡ false → is_sign c ≡ true → At ps (at + 1) bs → At (Mark c ∷ ps) at (c ∷ bs)
sign c ps at bs no_blank is h = record { are = subst (AreTokens (Mark c ∷ ps)) (sym (tokens-sign at c bs no_blank is)) (refl, h.are) }

open_front : (rest : List ℕ) → Opens rest → prefix_len is_name_char rest ≡ 0
open_front [] h = refl
open_front (c ∷ cs) h = ap (λ b. cond b (1 + prefix_len is_name_char cs) 0) h

front_all : (w rest : List ℕ) → list_all is_name_char w ≡ true → Opens rest → prefix_len is_name_char (w ++ rest) ≡ length w
front_all [] rest all h = open_front rest h
front_all (c ∷ cs) rest all h =
    let parts = and_parts (is_name_char c) (list_all is_name_char cs) all in
    let more = front_all cs rest parts.1 h in
    ap (λ b. cond b (1 + prefix_len is_name_char (cs ++ rest)) 0) parts.0 ∙ omega (arith, more)

letter_plain : (c : ℕ) → is_letter c ≡ true → (is_sign c ≡ false) × (is_blank c ≡ false)
letter_plain c h = (grind (arith, nat_tests, h), grind (arith, nat_tests, h))

word_begins : (w rest : List ℕ) → is_word w ≡ true → BeginsWord (w ++ rest)
word_begins [] rest h = absurd cc
word_begins (c ∷ cs) rest h =
    let parts = and_parts (is_letter c && list_all is_name_char cs) (leb (length cs) 31) h in
    let first = and_parts (is_letter c) (list_all is_name_char cs) parts.0 in
    let plain = letter_plain c first.0 in
    (first.0, plain.0, plain.1)

-- a word is one token
word_tokens : (w : List ℕ) (at : ℕ) (rest : List ℕ) → is_word w ≡ true → Opens rest → tokens_from Gap at (w ++ rest) ≡ Word at w ∷ tokens_from Gap (at + length w) rest
word_tokens w at rest is h =
    let len = front_all w rest (word_chars w is) h in
    tokens-front at (w ++ rest) (word_begins w rest is)
    ∙ ap (λ n. word_then at (take n (w ++ rest)) (tokens_from Gap (at + n) (drop n (w ++ rest)))) len
    ∙ ap (λ t. word_then at t (tokens_from Gap (at + length w) (drop (length w) (w ++ rest)))) (take-append_seam w rest)
    ∙ ap (λ r. word_then at w (tokens_from Gap (at + length w) r)) (drop-append_seam w rest)
    ∙ word_short at w (tokens_from Gap (at + length w) rest) (word_length w is)

own : (w : List ℕ) (ps : List Piece) (at : ℕ) (rest : List ℕ) → is_word w ≡ true → Opens rest → At ps (at + length w) rest → At (Own w ∷ ps) at (w ++ rest)
own w ps at rest is opens h = record { are = subst (AreTokens (Own w ∷ ps)) (sym (word_tokens w at rest is opens)) (refl, h.are) }

name_word : (w : List ℕ) → IsIdlName w → is_word w ≡ true
name_word w h = (and_parts (is_word w) (not (is_reserved w)) h).0

name : (w : List ℕ) (ps : List Piece) (at : ℕ) (rest : List ℕ) → IsIdlName w → Opens rest → At ps (at + length w) rest → At (Name (record { text = w; place = at }) ∷ ps) at (w ++ rest)
name w ps at rest is opens h = record { are = subst (AreTokens (Name (record { text = w; place = at }) ∷ ps)) (sym (word_tokens w at rest (name_word w is) opens)) (refl, h.are) }

-- a value that was printed, as it stands in the text: where it ends, and what it is there
record Printed {X : Type 0} (Is : X → Type 0) (plain : X → X) (pieces : X → List Piece → List Piece) (x : X) (at : ℕ) (bs rest : List ℕ) : Type 0 where
  value : X
  fit : Is value
  same : plain value ≡ plain x
  place : ℕ
  tokens : (ps : List Piece) → At ps place rest → At (pieces value ps) at bs

abbrev IsLike : TypeTree → TypeTree → Type 0
IsLike x ty = IsNamed ty × (sequences ty ≡ sequences x)

plain_printed : (w : List ℕ) (ty : TypeTree) (at : ℕ) (rest : List ℕ) → IsLike ty ty → is_word w ≡ true → ((ps : List Piece) → type_then ty ps ≡ Own w ∷ ps) → Opens rest → Printed (IsLike ty) bare_type type_then ty at (w ++ rest) rest
plain_printed w ty at rest like is pieces opens = record { value = ty; fit = like; same = refl; place = at + length w; tokens = λ ps h. subst (λ qs. At qs at (w ++ rest)) (sym (pieces ps)) (own w ps at rest is opens h) }

type_printed : (ty : TypeTree) (at : ℕ) (rest : List ℕ) → IsNamed ty → Opens rest → Printed (IsLike ty) bare_type type_then ty at (type_text ty ++ rest) rest
type_printed OfBool at rest is opens = plain_printed (codes "bool") OfBool at rest (tt, refl) refl (λ ps. refl) opens
type_printed OfU8 at rest is opens = plain_printed (codes "u8") OfU8 at rest (tt, refl) refl (λ ps. refl) opens
type_printed OfU32 at rest is opens = plain_printed (codes "u32") OfU32 at rest (tt, refl) refl (λ ps. refl) opens
type_printed OfU64 at rest is opens = plain_printed (codes "u64") OfU64 at rest (tt, refl) refl (λ ps. refl) opens
type_printed OfString at rest is opens = plain_printed (codes "string") OfString at rest (tt, refl) refl (λ ps. refl) opens
type_printed OfBytes at rest is opens = plain_printed (codes "bytes") OfBytes at rest (tt, refl) refl (λ ps. refl) opens
type_printed (OfName x) at rest is opens = record { value = OfName (record { text = x.text; place = at }); fit = (is, refl); same = refl; place = at + length x.text; tokens = λ ps h. name x.text ps at rest is opens h }
type_printed (SequenceOf of) at rest is opens =
    let item = type_text of in
    let a = type_printed of (at + 8 + 1) (62 ∷ rest) is refl in
    let regroup : (codes "sequence<" ++ item ++ codes ">") ++ rest ≡ codes "sequence" ++ (60 ∷ (item ++ (62 ∷ rest))) = simp append_assoc in
    record {
      value = SequenceOf a.value;
      fit = (a.fit.0, ap (λ n. n + 1) a.fit.1);
      same = ap (λ t. SequenceOf t) a.same;
      place = a.place + 1;
      tokens = λ ps h. subst (λ bs. At (type_then (SequenceOf a.value) ps) at bs) (sym regroup)
          (own (codes "sequence") _ at (60 ∷ (item ++ (62 ∷ rest))) refl refl (sign 60 _ (at + 8) (item ++ (62 ∷ rest)) refl refl (a.tokens _ (sign 62 ps a.place rest refl refl h))));
    }

field_printed : (x : FieldTree) (at : ℕ) (rest : List ℕ) → IsField x → Printed IsField bare_field field_then x at (field_text x ++ rest) rest
field_printed x at rest is =
    let n = x.name.text in
    let ty = type_text x.ty in
    let tail = 59 ∷ 10 ∷ rest in
    let a = type_printed x.ty (at + 1 + 1) (32 ∷ (n ++ tail)) is.0.0 refl in
    let named : Named = record { text = n; place = a.place + 1 } in
    let few : sequences a.value ≤ 8 = let like = a.fit.1 in let small = is.0.1 in omega arith in
    let regroup : field_text x ++ rest ≡ 32 ∷ 32 ∷ (ty ++ (32 ∷ (n ++ tail))) = simp append_assoc in
    record {
      value = record { ty = a.value; name = named };
      fit = ((a.fit.0, few), is.1);
      same = ap (λ (t : TypeTree). let f : FieldTree = record { ty = t; name = bare_word x.name } in f) a.same;
      place = a.place + 1 + length n + 1 + 1;
      tokens = λ ps h. subst (λ bs. At (field_then (record { ty = a.value; name = named }) ps) at bs) (sym regroup)
          (blank 32 _ at _ refl (blank 32 _ (at + 1) _ refl (a.tokens _ (blank 32 _ a.place _ refl (name n _ (a.place + 1) tail is.1 refl (sign 59 _ (a.place + 1 + length n) _ refl refl (blank 10 ps _ rest refl h)))))));
    }

param_printed : (x : ParamTree) (at : ℕ) (rest : List ℕ) → IsParam x → Opens rest → Printed IsParam bare_param param_then x at (param_text x ++ rest) rest
param_printed x at rest is opens =
    let n = x.name.text in
    let ty = type_text x.ty in
    let way = way_word x.consume in
    let start = at + length way + 1 in
    let a = type_printed x.ty start (32 ∷ (n ++ rest)) is.0.0 refl in
    let named : Named = record { text = n; place = a.place + 1 } in
    let few : sequences a.value ≤ 8 = let like = a.fit.1 in let small = is.0.1 in omega arith in
    let regroup : param_text x ++ rest ≡ way ++ (32 ∷ (ty ++ (32 ∷ (n ++ rest)))) = simp append_assoc in
    record {
      value = record { consume = x.consume; ty = a.value; name = named };
      fit = ((a.fit.0, few), is.1);
      same = ap (λ (t : TypeTree). let f : ParamTree = record { consume = x.consume; ty = t; name = bare_word x.name } in f) a.same;
      place = a.place + 1 + length n;
      tokens = λ ps h. subst (λ bs. At (param_then (record { consume = x.consume; ty = a.value; name = named }) ps) at bs) (sym regroup)
          (own way _ at _ (way_is x.consume) refl (blank 32 _ (at + length way) _ refl (a.tokens _ (blank 32 _ a.place _ refl (name n ps (a.place + 1) rest is.1 opens h)))));
    } where
      way_is : (b : Bool) → is_word (way_word b) ≡ true
      way_is false = refl
      way_is true = refl

result_printed : (x : Option TypeTree) (at : ℕ) (rest : List ℕ) → IsOutcome x → Opens rest → Printed IsOutcome bare_outcome result_then x at (result_text x ++ rest) rest
result_printed None at rest is opens = record { value = None; fit = tt; same = refl; place = at + length (codes "void"); tokens = λ ps h. own (codes "void") ps at rest refl opens h }
result_printed (Some ty) at rest is opens =
    let a = type_printed ty at rest is.0 opens in
    let few : sequences a.value ≤ 8 = let like = a.fit.1 in let small = is.1 in omega arith in
    record { value = Some a.value; fit = (a.fit.0, few); same = ap (λ (t : TypeTree). Some t) a.same; place = a.place; tokens = λ ps h. a.tokens ps h }

cons_same : {X : Type 0} (y z : X) (ys zs : List X) → y ≡ z → ys ≡ zs → y ∷ ys ≡ z ∷ zs
cons_same y z ys zs e f = cc

-- several items
abbrev AreLike : {X : Type 0} → (X → Type 0) → List X → List X → Type 0
AreLike Is xs ys = AllByRecursion Is ys × (length ys ≡ length xs)

abbrev ItemPrinted : {X : Type 0} → (X → Type 0) → (X → X) → (X → List Piece → List Piece) → (X → List ℕ) → Type 0
ItemPrinted Is plain pieces text = (x : _) (at : ℕ) (rest : List ℕ) → Is x → Printed Is plain pieces x at (text x ++ rest) rest

each_printed : {X : Type 0} (Is : X → Type 0) (plain : X → X) (pieces : X → List Piece → List Piece) (text : X → List ℕ) → ItemPrinted Is plain pieces text → (xs : List X) (at : ℕ) (rest : List ℕ) → AllByRecursion Is xs
    → Printed (AreLike Is xs) (map (λ x. plain x)) (each_then [] pieces) xs at (flat_map (λ x. text x) xs ++ rest) rest
each_printed Is plain pieces text items [] at rest all = record { value = []; fit = (tt, refl); same = refl; place = at; tokens = λ ps h. h }
each_printed Is plain pieces text items (x ∷ xs) at rest all =
    let others = flat_map (λ y. text y) xs in
    let a = items x at (others ++ rest) all.0 in
    let b = each_printed Is plain pieces text items xs a.place rest all.1 in
    let regroup : (text x ++ others) ++ rest ≡ text x ++ (others ++ rest) = append_assoc (text x) others rest in
    record {
      value = a.value ∷ b.value;
      fit = ((a.fit, b.fit.0), ap (λ n. suc n) b.fit.1);
      same = cons_same (plain a.value) (plain x) (map (λ y. plain y) b.value) (map (λ y. plain y) xs) a.same b.same;
      place = b.place;
      tokens = λ ps h. subst (λ bs. At (each_then [] pieces (a.value ∷ b.value) ps) at bs) (sym regroup) (a.tokens _ (b.tokens ps h));
    }

-- what follows a word, of a comma and more or of the rest
abbrev more_text : {X : Type 0} → (X → List ℕ) → List X → List ℕ
more_text text xs = flat_map (λ t. codes ", " ++ t) (map (λ x. text x) xs)

more_opens : {X : Type 0} (text : X → List ℕ) (xs : List X) (rest : List ℕ) → Opens rest → Opens (more_text text xs ++ rest)
more_opens text [] rest opens = opens
more_opens text (x ∷ xs) rest opens = refl

more_printed : {X : Type 0} (Is : X → Type 0) (plain : X → X) (pieces : X → List Piece → List Piece) (text : X → List ℕ) → ((x : X) (at : ℕ) (rest : List ℕ) → Is x → Opens rest → Printed Is plain pieces x at (text x ++ rest) rest)
    → (xs : List X) (at : ℕ) (rest : List ℕ) → AllByRecursion Is xs → Opens rest → Printed (AreLike Is xs) (map (λ x. plain x)) (each_then (Mark 44 ∷ []) pieces) xs at (more_text text xs ++ rest) rest
more_printed Is plain pieces text items [] at rest all opens = record { value = []; fit = (tt, refl); same = refl; place = at; tokens = λ ps h. h }
more_printed Is plain pieces text items (x ∷ xs) at rest all opens =
    let others = more_text text xs in
    let a = items x (at + 1 + 1) (others ++ rest) all.0 (more_opens text xs rest opens) in
    let b = more_printed Is plain pieces text items xs a.place rest all.1 opens in
    let regroup : ((codes ", " ++ text x) ++ others) ++ rest ≡ 44 ∷ 32 ∷ (text x ++ (others ++ rest)) = simp append_assoc in
    record {
      value = a.value ∷ b.value;
      fit = ((a.fit, b.fit.0), ap (λ n. suc n) b.fit.1);
      same = cons_same (plain a.value) (plain x) (map (λ y. plain y) b.value) (map (λ y. plain y) xs) a.same b.same;
      place = b.place;
      tokens = λ ps h. subst (λ bs. At (each_then (Mark 44 ∷ []) pieces (a.value ∷ b.value) ps) at bs) (sym regroup) (sign 44 _ at _ refl refl (blank 32 _ (at + 1) _ refl (a.tokens _ (b.tokens ps h))));
    }

commas_printed : {X : Type 0} (Is : X → Type 0) (plain : X → X) (pieces : X → List Piece → List Piece) (text : X → List ℕ) → ((x : X) (at : ℕ) (rest : List ℕ) → Is x → Opens rest → Printed Is plain pieces x at (text x ++ rest) rest)
    → (xs : List X) (at : ℕ) (rest : List ℕ) → AllByRecursion Is xs → Opens rest → Printed (AreLike Is xs) (map (λ x. plain x)) (commas_then pieces) xs at (comma_joined (map (λ x. text x) xs) ++ rest) rest
commas_printed Is plain pieces text items [] at rest all opens = record { value = []; fit = (tt, refl); same = refl; place = at; tokens = λ ps h. h }
commas_printed Is plain pieces text items (x ∷ xs) at rest all opens =
    let others = more_text text xs in
    let a = items x at (others ++ rest) all.0 (more_opens text xs rest opens) in
    let b = more_printed Is plain pieces text items xs a.place rest all.1 opens in
    let regroup : (text x ++ others) ++ rest ≡ text x ++ (others ++ rest) = append_assoc (text x) others rest in
    record {
      value = a.value ∷ b.value;
      fit = ((a.fit, b.fit.0), ap (λ n. suc n) b.fit.1);
      same = cons_same (plain a.value) (plain x) (map (λ y. plain y) b.value) (map (λ y. plain y) xs) a.same b.same;
      place = b.place;
      tokens = λ ps h. subst (λ bs. At (commas_then pieces (a.value ∷ b.value) ps) at bs) (sym regroup) (a.tokens _ (b.tokens ps h));
    }

name_printed : (x : Named) (at : ℕ) (rest : List ℕ) → IsWord x → Opens rest → Printed IsWord bare_word name_then x at (x.text ++ rest) rest
name_printed x at rest is opens = record { value = record { text = x.text; place = at }; fit = is; same = refl; place = at + length x.text; tokens = λ ps h. name x.text ps at rest is opens h }

names_printed : (xs : List Named) (at : ℕ) (rest : List ℕ) → AllByRecursion IsWord xs → Opens rest → Printed (AreLike IsWord xs) (map (λ x. bare_word x)) (commas_then name_then) xs at (names_text xs ++ rest) rest
names_printed xs at rest all opens = commas_printed IsWord bare_word name_then (λ x. x.text) name_printed xs at rest all opens

few_like : {X : Type 0} (n : ℕ) (xs ys : List X) → length ys ≡ length xs → length xs ≤ n → length ys ≤ n
few_like n xs ys e few = omega arith

op_same : (o p : Option TypeTree) (x y : Named) (ps qs : List ParamTree) → o ≡ p → x ≡ y → ps ≡ qs → (let f : OpTree = record { outcome = o; name = x; params = ps } in f) ≡ record { outcome = p; name = y; params = qs }
op_same o p x y ps qs a b c = cc

op_regroup : (out n params rest : List ℕ) → (codes "  " ++ out ++ codes " " ++ n ++ codes "(" ++ params ++ codes ");\n") ++ rest ≡ 32 ∷ 32 ∷ (out ++ (32 ∷ (n ++ (40 ∷ (params ++ (41 ∷ 59 ∷ 10 ∷ rest))))))
op_regroup out n params rest = simp append_assoc

struct_regroup : (n inner rest : List ℕ) → (codes "struct " ++ n ++ codes " {\n" ++ inner ++ codes "};\n") ++ rest ≡ codes "struct" ++ (32 ∷ (n ++ (32 ∷ 123 ∷ 10 ∷ (inner ++ (125 ∷ 59 ∷ 10 ∷ rest)))))
struct_regroup n inner rest = simp append_assoc

interface_regroup : (n based inner rest : List ℕ) → (codes "interface " ++ n ++ based ++ codes " {\n" ++ inner ++ codes "};\n") ++ rest ≡ codes "interface" ++ (32 ∷ (n ++ (based ++ (32 ∷ 123 ∷ 10 ∷ (inner ++ (125 ∷ 59 ∷ 10 ∷ rest))))))
interface_regroup n based inner rest = simp append_assoc

op_printed : ItemPrinted IsOp bare_op op_then op_text
op_printed x at rest is =
    let n = x.name.text in
    let out = result_text x.outcome in
    let params = comma_joined (map (λ param. param_text param) x.params) in
    let tail = 59 ∷ 10 ∷ rest in
    let a = result_printed x.outcome (at + 1 + 1) (32 ∷ (n ++ (40 ∷ (params ++ (41 ∷ tail))))) is.0 refl in
    let named : Named = record { text = n; place = a.place + 1 } in
    let b = commas_printed IsParam bare_param param_then param_text param_printed x.params (a.place + 1 + length n + 1) (41 ∷ tail) is.2.0 refl in
    let regroup : op_text x ++ rest ≡ 32 ∷ 32 ∷ (out ++ (32 ∷ (n ++ (40 ∷ (params ++ (41 ∷ tail)))))) = op_regroup out n params rest in
    record {
      value = record { outcome = a.value; name = named; params = b.value };
      fit = (a.fit, is.1, (b.fit.0, few_like 16 x.params b.value b.fit.1 is.2.1));
      same = op_same (bare_outcome a.value) (bare_outcome x.outcome) (bare_word named) (bare_word x.name) (map (λ p. bare_param p) b.value) (map (λ p. bare_param p) x.params) a.same refl b.same;
      place = b.place + 1 + 1 + 1;
      tokens = λ ps h. subst (λ bs. At (op_then (record { outcome = a.value; name = named; params = b.value }) ps) at bs) (sym regroup)
          (blank 32 _ at _ refl (blank 32 _ (at + 1) _ refl (a.tokens _ (blank 32 _ a.place _ refl (name n _ (a.place + 1) _ is.1 refl (sign 40 _ (a.place + 1 + length n) _ refl refl
          (b.tokens _ (sign 41 _ b.place _ refl refl (sign 59 _ (b.place + 1) _ refl refl (blank 10 ps (b.place + 1 + 1) rest refl h))))))))));
    }

-- `}`, `;` and a line feed
closes : (ps : List Piece) (at : ℕ) (rest : List ℕ) → At ps (at + 1 + 1 + 1) rest → At (Mark 125 ∷ Mark 59 ∷ ps) at (125 ∷ 59 ∷ 10 ∷ rest)
closes ps at rest h = sign 125 _ at _ refl refl (sign 59 _ (at + 1) _ refl refl (blank 10 ps (at + 1 + 1) rest refl h))

-- a space, `{` and a line feed
bodied : (ps : List Piece) (at : ℕ) (rest : List ℕ) → At ps (at + 1 + 1 + 1) rest → At (Mark 123 ∷ ps) at (32 ∷ 123 ∷ 10 ∷ rest)
bodied ps at rest h = blank 32 _ at _ refl (sign 123 _ (at + 1) _ refl refl (blank 10 ps (at + 1 + 1) rest refl h))

bases_printed : (xs : List Named) (at : ℕ) (rest : List ℕ) → AllByRecursion IsWord xs → Opens rest → Printed (AllByRecursion IsWord) (map (λ x. bare_word x)) bases_then xs at (bases_text xs ++ rest) rest
bases_printed [] at rest all opens = record { value = []; fit = tt; same = refl; place = at; tokens = λ ps h. h }
bases_printed (x ∷ xs) at rest all opens =
    let texts = names_text (x ∷ xs) in
    let a = names_printed (x ∷ xs) (at + 1 + 1 + 1) rest all opens in
    let regroup : (codes " : " ++ texts) ++ rest ≡ 32 ∷ 58 ∷ 32 ∷ (texts ++ rest) = simp append_assoc in
    some a.value a.fit a.same a.place (λ ps h. subst (λ bs. At (Mark 58 ∷ commas_then name_then a.value ps) at bs) (sym regroup) (blank 32 _ at _ refl (sign 58 _ (at + 1) _ refl refl (blank 32 _ (at + 1 + 1) _ refl (a.tokens ps h))))) where
      some : (value : List Named) → AreLike IsWord (x ∷ xs) value → map (λ y. bare_word y) value ≡ map (λ y. bare_word y) (x ∷ xs) → (place : ℕ) → ((ps : List Piece) → At ps place rest → At (Mark 58 ∷ commas_then name_then value ps) at (bases_text (x ∷ xs) ++ rest))
          → Printed (AllByRecursion IsWord) (map (λ y. bare_word y)) bases_then (x ∷ xs) at (bases_text (x ∷ xs) ++ rest) rest
      some [] fit same place tokens = absurd cc
      some (y ∷ ys) fit same place tokens = record { value = y ∷ ys; fit = fit.0; same = same; place = place; tokens = tokens }

struct_same : (x : Named) (xs ys : List FieldTree) → xs ≡ ys → StructOf x xs ≡ StructOf x ys
struct_same x xs ys e = cc

struct_printed : (x : Named) (fields : List FieldTree) (at : ℕ) (rest : List ℕ) → IsDecl (StructOf x fields) → Printed IsDecl bare_decl decl_then (StructOf x fields) at (decl_text (StructOf x fields) ++ rest) rest
struct_printed x fields at rest is =
    let n = x.text in
    let inner = flat_map (λ field. field_text field) fields in
    let start = at + 6 + 1 in
    let named : Named = record { text = n; place = start } in
    let a = each_printed IsField bare_field field_then field_text field_printed fields (start + length n + 1 + 1 + 1) (125 ∷ 59 ∷ 10 ∷ rest) is.1.0 in
    let regroup : decl_text (StructOf x fields) ++ rest ≡ codes "struct" ++ (32 ∷ (n ++ (32 ∷ 123 ∷ 10 ∷ (inner ++ (125 ∷ 59 ∷ 10 ∷ rest))))) = struct_regroup n inner rest in
    let some : 1 ≤ length a.value = let like = a.fit.1 in let low = is.2 in omega arith in
    record {
      value = StructOf named a.value;
      fit = (is.0, (a.fit.0, few_like 64 fields a.value a.fit.1 is.1.1), some);
      same = struct_same (bare_word x) (map (λ f. bare_field f) a.value) (map (λ f. bare_field f) fields) a.same;
      place = a.place + 1 + 1 + 1;
      tokens = λ ps h. subst (λ bs. At (decl_then (StructOf named a.value) ps) at bs) (sym regroup)
          (own (codes "struct") _ at _ refl refl (blank 32 _ (at + 6) _ refl (name n _ start _ is.0 refl (bodied _ (start + length n) _ (a.tokens _ (closes ps a.place rest h))))));
    }

enum_same : (x : Named) (xs ys : List Named) → xs ≡ ys → EnumOf x xs ≡ EnumOf x ys
enum_same x xs ys e = cc

enum_printed : (x : Named) (names : List Named) (at : ℕ) (rest : List ℕ) → IsDecl (EnumOf x names) → Printed IsDecl bare_decl decl_then (EnumOf x names) at (decl_text (EnumOf x names) ++ rest) rest
enum_printed x names at rest is =
    let n = x.text in
    let inner = names_text names in
    let start = at + 4 + 1 in
    let named : Named = record { text = n; place = start } in
    let a = names_printed names (start + length n + 1 + 1 + 1 + 1 + 1) (10 ∷ 125 ∷ 59 ∷ 10 ∷ rest) is.1.0 refl in
    let regroup : decl_text (EnumOf x names) ++ rest ≡ codes "enum" ++ (32 ∷ (n ++ (32 ∷ 123 ∷ 10 ∷ 32 ∷ 32 ∷ (inner ++ (10 ∷ 125 ∷ 59 ∷ 10 ∷ rest))))) = simp append_assoc in
    let some : 1 ≤ length a.value = let like = a.fit.1 in let low = is.2 in omega arith in
    record {
      value = EnumOf named a.value;
      fit = (is.0, (a.fit.0, few_like 64 names a.value a.fit.1 is.1.1), some);
      same = enum_same (bare_word x) (map (λ f. bare_word f) a.value) (map (λ f. bare_word f) names) a.same;
      place = a.place + 1 + 1 + 1 + 1;
      tokens = λ ps h. subst (λ bs. At (decl_then (EnumOf named a.value) ps) at bs) (sym regroup)
          (own (codes "enum") _ at _ refl refl (blank 32 _ (at + 4) _ refl (name n _ start _ is.0 refl (bodied _ (start + length n) _
          (blank 32 _ (start + length n + 1 + 1 + 1) _ refl (blank 32 _ (start + length n + 1 + 1 + 1 + 1) _ refl (a.tokens _ (blank 10 _ a.place _ refl (closes ps (a.place + 1) rest h)))))))));
    }

interface_same : (x : Named) (bs cs : List Named) (xs ys : List OpTree) → bs ≡ cs → xs ≡ ys → InterfaceOf x bs xs ≡ InterfaceOf x cs ys
interface_same x bs cs xs ys e f = cc

interface_printed : (x : Named) (bases : List Named) (ops : List OpTree) (at : ℕ) (rest : List ℕ) → IsDecl (InterfaceOf x bases ops) → Printed IsDecl bare_decl decl_then (InterfaceOf x bases ops) at (decl_text (InterfaceOf x bases ops) ++ rest) rest
interface_printed x bases ops at rest is =
    let n = x.text in
    let based = bases_text bases in
    let inner = flat_map (λ op. op_text op) ops in
    let start = at + 9 + 1 in
    let named : Named = record { text = n; place = start } in
    let body = 32 ∷ 123 ∷ 10 ∷ (inner ++ (125 ∷ 59 ∷ 10 ∷ rest)) in
    let a = bases_printed bases (start + length n) body is.1 refl in
    let b = each_printed IsOp bare_op op_then op_text op_printed ops (a.place + 1 + 1 + 1) (125 ∷ 59 ∷ 10 ∷ rest) is.2.0 in
    let regroup : decl_text (InterfaceOf x bases ops) ++ rest ≡ codes "interface" ++ (32 ∷ (n ++ (based ++ body))) = interface_regroup n based inner rest in
    record {
      value = InterfaceOf named a.value b.value;
      fit = (is.0, a.fit, (b.fit.0, few_like 64 ops b.value b.fit.1 is.2.1));
      same = interface_same (bare_word x) (map (λ f. bare_word f) a.value) (map (λ f. bare_word f) bases) (map (λ f. bare_op f) b.value) (map (λ f. bare_op f) ops) a.same b.same;
      place = b.place + 1 + 1 + 1;
      tokens = λ ps h. subst (λ bs. At (decl_then (InterfaceOf named a.value b.value) ps) at bs) (sym regroup)
          (own (codes "interface") _ at _ refl refl (blank 32 _ (at + 9) _ refl (name n _ start _ is.0 (based_opens bases) (a.tokens _ (bodied _ a.place _ (b.tokens _ (closes ps b.place rest h)))))));
    } where
      based_opens : (xs : List Named) → Opens (bases_text xs ++ (32 ∷ 123 ∷ 10 ∷ (flat_map (λ op. op_text op) ops ++ (125 ∷ 59 ∷ 10 ∷ rest))))
      based_opens [] = refl
      based_opens (y ∷ ys) = refl

decl_printed : ItemPrinted IsDecl bare_decl decl_then decl_text
decl_printed (StructOf x fields) at rest is = struct_printed x fields at rest is
decl_printed (EnumOf x names) at rest is = enum_printed x names at rest is
decl_printed (InterfaceOf x bases ops) at rest is = interface_printed x bases ops at rest is

-- what a printed text declares
pub idl_printed : (decls : List DeclTree) → AreDecls decls → (again : List DeclTree) × IsTextOf (spelling decls) again × (bare again ≡ bare decls)
unfolding tokens_from
idl_printed decls is =
    let a = each_printed IsDecl bare_decl decl_then decl_text decl_printed decls 0 [] is.0 in
    let end : At [] a.place [] = record { are = tt } in
    let text : spelling decls ++ [] ≡ spelling decls = append-nil (spelling decls) in
    let shown = subst (λ bs. At (pieces_of a.value) 0 bs) text (a.tokens [] end) in
    (a.value, ((a.fit.0, few_like 256 decls a.value a.fit.1 is.1), shown.are), a.same)
