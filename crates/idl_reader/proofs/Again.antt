-- What is in the grammar is read.
use Rattle.std.proofs.Common.{◌≡◌, ℕ, zero, suc, ◌-◌, ◌≤◌, nat_eq, List, [], ◌∷◌, ◌++◌, length, codes, Bool, true, false, ◌||◌, not, cond, Option, Some, None, Result, Err, refl, sym, ap, subst, ◌∙◌, arith}
use Rattle.std.specs.List.{AllByRecursion}
use Rattle.std.specs.Str.{bytes_eq}
use Rattle.std.proofs.lemmas.Bool.{eq-eqb, and_parts}
use Rattle.std.proofs.lemmas.Slice.Eq.{bytes_eq-Decides}
use Rattle.idl_reader.specs.declared.why.IdlWhy.{IdlWhy}
use Rattle.idl_reader.specs.declared.why.IdlWhy.TheVariants.{Byte, LongName, Token, Limit, Memory}
use Rattle.idl_reader.specs.Why.{Fails, IsRefused, no_memory}
use Rattle.idl_reader.specs.declared.why.IdlRefused.{IdlRefused}
use Rattle.idl_reader.specs.declared.idl.Word.{Word as Named}
use Rattle.idl_reader.specs.Words.{is_word, is_plain, is_reserved, IsIdlName}
use Rattle.idl_reader.specs.Tokens.{Lexeme, Word, Sign, Stray, Long, End, tokens_of}
use Rattle.idl_reader.specs.Tree.{TypeTree, OfBool, OfU8, OfU32, OfU64, OfString, OfBytes, SequenceOf, OfName, FieldTree, ParamTree, OpTree, DeclTree, StructOf, EnumOf, InterfaceOf}
use Rattle.idl_reader.specs.Grammar.{Piece, Own, Mark, Name, AreTokens, each_then, commas_then, name_then, type_then, field_then, way_word, param_then, result_then, op_then, bases_then, decl_then, sequences, IsNamed, IsType, IsWord, IsField, IsParam, IsOutcome, AtMost, IsOp, IsDecl, IsTextOf}
use Rattle.idl_reader.specs.Reading.{◌>>=◌, Reads, refused, after_word, after_sign, if_after, or_refused, sign_at, name_at, word_type, simple_at, sequence_at, type_at, is_name_word, is_type_word, is_op_word, is_param_word, is_decl_word, one_too_many, many_at, after_comma, until_brace, until_end, field_at, way_at, param_at, some_params_at, params_at, result_at, op_at, ops_at, names_at, bases_at, end_at, fields_at, struct_at, enum_at, interface_at, decl_at, idl_at}
use Rattle.idl_reader.proofs.Results.{done, read}

-- a step reads the value, and the other tokens are left
abbrev pub Gets : {X : Type 0} → Reads X → X → List Piece → Type 0
Gets r x ps = (rest : List Lexeme) × (r ≡ read x rest) × AreTokens ps rest

gets_here : {X : Type 0} (x : X) (ps : List Piece) (rest : List Lexeme) → AreTokens ps rest → Gets (read x rest) x ps
gets_here x ps rest h = (rest, refl, h)

gets_some : {X : Type 0} (o : Option (List Lexeme)) (us : List Lexeme) (f : List Lexeme → Reads X) (other : Reads X) (x : X) (ps : List Piece) → o ≡ Some us → Gets (f us) x ps → Gets (if_after o f other) x ps
gets_some o us f other x ps e h = subst (λ p. Gets (if_after p f other) x ps) (sym e) h

gets_none : {X : Type 0} (o : Option (List Lexeme)) (f : List Lexeme → Reads X) (other : Reads X) (x : X) (ps : List Piece) → o ≡ None → Gets other x ps → Gets (if_after o f other) x ps
gets_none o f other x ps e h = subst (λ p. Gets (if_after p f other) x ps) (sym e) h

gets_bind : {X Y : Type 0} (r : Reads X) (f : X × List Lexeme → Reads Y) (x : X) (ps : List Piece) (y : Y) (qs : List Piece) → Gets r x ps → ((rest : List Lexeme) → AreTokens ps rest → Gets (f (x, rest)) y qs) → Gets (r >>= f) y qs
gets_bind r f x ps y qs h next = subst (λ s. Gets (s >>= f) y qs) (sym h.1) (next h.0 h.2)

-- a sign
abbrev Follows : Option (List Lexeme) → List Piece → Type 0
Follows o ps = (rest : List Lexeme) × (o ≡ Some rest) × AreTokens ps rest

sign_again : (own : ℕ) (ps : List Piece) (ts : List Lexeme) → AreTokens (Mark own ∷ ps) ts → Follows (after_sign own ts) ps
unfolding after_sign
sign_again own ps (Sign at c ∷ rest) h = (rest, ap (λ b. cond b (Some rest) None) (eq-eqb c own h.0), h.1)
sign_again own ps (Word at w ∷ rest) h = absurd h.0
sign_again own ps (Stray at ∷ rest) h = absurd h.0
sign_again own ps (Long at ∷ rest) h = absurd h.0
sign_again own ps (End at ∷ rest) h = absurd h.0
sign_again own ps [] h = absurd h

gets_mark : {Y : Type 0} (own : ℕ) (ts : List Lexeme) (f : List Lexeme → Reads Y) (ps : List Piece) (y : Y) (qs : List Piece) → AreTokens (Mark own ∷ ps) ts → ((rest : List Lexeme) → AreTokens ps rest → Gets (f rest) y qs) → Gets (sign_at own ts >>= f) y qs
unfolding sign_at
gets_mark own ts f ps y qs h next =
    let is = sign_again own ps ts h in
    subst (λ o. Gets (or_refused (refused Token ts) o >>= f) y qs) (sym is.1) (next is.0 is.2)

-- a word of the language
equal_bytes : (w own : List ℕ) → w ≡ own → bytes_eq w own ≡ true
equal_bytes w own e = (bytes_eq-Decides w own).1 e

word_again : (own : List ℕ) (ps : List Piece) (ts : List Lexeme) → AreTokens (Own own ∷ ps) ts → Follows (after_word own ts) ps
unfolding after_word
word_again own ps (Word at w ∷ rest) h = (rest, ap (λ b. cond b (Some rest) None) (equal_bytes w own h.0), h.1)
word_again own ps (Sign at c ∷ rest) h = absurd h.0
word_again own ps (Stray at ∷ rest) h = absurd h.0
word_again own ps (Long at ∷ rest) h = absurd h.0
word_again own ps (End at ∷ rest) h = absurd h.0
word_again own ps [] h = absurd h

-- another word of the language comes first
other_word : (own other : List ℕ) (ps : List Piece) (ts : List Lexeme) → bytes_eq other own ≡ false → AreTokens (Own other ∷ ps) ts → after_word own ts ≡ None
unfolding after_word
other_word own other ps (Word at w ∷ rest) apart h = ap (λ v. cond (bytes_eq v own) (Some rest) None) h.0 ∙ ap (λ b. cond b (Some rest) None) apart
other_word own other ps (Sign at c ∷ rest) apart h = absurd h.0
other_word own other ps (Stray at ∷ rest) apart h = absurd h.0
other_word own other ps (Long at ∷ rest) apart h = absurd h.0
other_word own other ps (End at ∷ rest) apart h = absurd h.0
other_word own other ps [] apart h = absurd h

-- a word, and no sign
own_no_sign : (sign : ℕ) (own : List ℕ) (ps : List Piece) (ts : List Lexeme) → AreTokens (Own own ∷ ps) ts → after_sign sign ts ≡ None
unfolding after_sign
own_no_sign sign own ps (Word at w ∷ rest) h = refl
own_no_sign sign own ps (Sign at c ∷ rest) h = absurd h.0
own_no_sign sign own ps (Stray at ∷ rest) h = absurd h.0
own_no_sign sign own ps (Long at ∷ rest) h = absurd h.0
own_no_sign sign own ps (End at ∷ rest) h = absurd h.0
own_no_sign sign own ps [] h = absurd h

name_no_sign : (sign : ℕ) (x : Named) (ps : List Piece) (ts : List Lexeme) → AreTokens (Name x ∷ ps) ts → after_sign sign ts ≡ None
unfolding after_sign
name_no_sign sign x ps (Word at w ∷ rest) h = refl
name_no_sign sign x ps (Sign at c ∷ rest) h = absurd h.0
name_no_sign sign x ps (Stray at ∷ rest) h = absurd h.0
name_no_sign sign x ps (Long at ∷ rest) h = absurd h.0
name_no_sign sign x ps (End at ∷ rest) h = absurd h.0
name_no_sign sign x ps [] h = absurd h

-- another sign
other_sign : (own other : ℕ) (ps : List Piece) (ts : List Lexeme) → nat_eq other own ≡ false → AreTokens (Mark other ∷ ps) ts → after_sign own ts ≡ None
unfolding after_sign
other_sign own other ps (Sign at c ∷ rest) apart h = ap (λ d. cond (nat_eq d own) (Some rest) None) h.0 ∙ ap (λ b. cond b (Some rest) None) apart
other_sign own other ps (Word at w ∷ rest) apart h = absurd h.0
other_sign own other ps (Stray at ∷ rest) apart h = absurd h.0
other_sign own other ps (Long at ∷ rest) apart h = absurd h.0
other_sign own other ps (End at ∷ rest) apart h = absurd h.0
other_sign own other ps [] apart h = absurd h

-- a name is none of the language's words
neither : (a b : Bool) → (a || b) ≡ false → (a ≡ false) × (b ≡ false)
neither true b e = absurd cc
neither false b e = (refl, e)

unreserved : (b : Bool) → not b ≡ true → b ≡ false
unreserved true e = absurd cc
unreserved false e = refl

name_free : (w : List ℕ) → IsIdlName w → is_reserved w ≡ false
name_free w h = unreserved (is_reserved w) (and_parts (is_word w) (not (is_reserved w)) h).1

abbrev is_one : List ℕ → List ℕ → Bool
is_one w own = bytes_eq w own

record IsFree (w : List ℕ) : Type 0 where
  void : bytes_eq w (codes "void") ≡ false
  sequence : bytes_eq w (codes "sequence") ≡ false
  bool : bytes_eq w (codes "bool") ≡ false
  u8 : bytes_eq w (codes "u8") ≡ false
  u32 : bytes_eq w (codes "u32") ≡ false
  u64 : bytes_eq w (codes "u64") ≡ false
  string : bytes_eq w (codes "string") ≡ false
  bytes : bytes_eq w (codes "bytes") ≡ false

free_of : (w : List ℕ) → is_reserved w ≡ false → IsFree w
unfolding is_reserved
free_of w e =
    let a = neither _ (is_plain w) e in
    let b = neither _ (bytes_eq w (codes "sequence")) a.0 in
    let c = neither _ (bytes_eq w (codes "consume")) b.0 in
    let d = neither _ (bytes_eq w (codes "copy")) c.0 in
    let f = neither _ (bytes_eq w (codes "void")) d.0 in
    let g = neither _ (bytes_eq w (codes "bytes")) a.1 in
    let h = neither _ (bytes_eq w (codes "string")) g.0 in
    let i = neither _ (bytes_eq w (codes "u64")) h.0 in
    let j = neither _ (bytes_eq w (codes "u32")) i.0 in
    let k = neither _ (bytes_eq w (codes "u8")) j.0 in
    record { void = f.1; sequence = b.1; bool = k.0; u8 = k.1; u32 = j.1; u64 = i.1; string = h.1; bytes = g.1 }

abbrev ItemAgain : {X : Type 0} → (X → Type 0) → (X → List Piece → List Piece) → (List Lexeme → Reads X) → Type 0
ItemAgain Is pieces item = (x : _) (ps : List Piece) (ts : List Lexeme) → Is x → AreTokens (pieces x ps) ts → Gets (item ts) x ps

name_again : ItemAgain IsWord name_then name_at
unfolding name_at
name_again x ps (Word at w ∷ rest) name h =
    let free : is_reserved w ≡ false = ap (λ n. is_reserved n) (sym (ap (λ n. n.text) h.0)) ∙ name_free x.text name in
    (rest, ap (λ b. cond b (Err (record { place = at; why = Token })) (read (record { text = w; place = at }) rest)) free ∙ ap (λ n. read n rest) (sym h.0), h.1)
name_again x ps (Sign at c ∷ rest) name h = absurd h.0
name_again x ps (Stray at ∷ rest) name h = absurd h.0
name_again x ps (Long at ∷ rest) name h = absurd h.0
name_again x ps (End at ∷ rest) name h = absurd h.0
name_again x ps [] name h = absurd h

-- a type of one word
plain_again : (own : List ℕ) (ty : TypeTree) (ps : List Piece) (ts : List Lexeme) → ((at : ℕ) → word_type at own ≡ done ty) → AreTokens (Own own ∷ ps) ts → Gets (simple_at ts) ty ps
unfolding simple_at
plain_again own ty ps (Word at w ∷ rest) is h = (rest, ap (λ r. r >>= λ t. read t rest) (ap (λ v. word_type at v) h.0 ∙ is at), h.1)
plain_again own ty ps (Sign at c ∷ rest) is h = absurd h.0
plain_again own ty ps (Stray at ∷ rest) is h = absurd h.0
plain_again own ty ps (Long at ∷ rest) is h = absurd h.0
plain_again own ty ps (End at ∷ rest) is h = absurd h.0
plain_again own ty ps [] is h = absurd h

word_type_name : (at : ℕ) (w : List ℕ) → is_reserved w ≡ false → word_type at w ≡ done (OfName (record { text = w; place = at }))
unfolding word_type
word_type_name at w free =
    let is = free_of w free in
    let a = is.bool in
    let b = is.u8 in
    let c = is.u32 in
    let d = is.u64 in
    let f = is.string in
    let g = is.bytes in
    rw (a, b, c, d, f, g, free) refl

named_again : (x : Named) (ps : List Piece) (ts : List Lexeme) → IsWord x → AreTokens (Name x ∷ ps) ts → Gets (simple_at ts) (OfName x) ps
unfolding simple_at
named_again x ps (Word at w ∷ rest) name h =
    let free : is_reserved w ≡ false = ap (λ n. is_reserved n) (sym (ap (λ n. n.text) h.0)) ∙ name_free x.text name in
    (rest, ap (λ r. r >>= λ t. read t rest) (word_type_name at w free) ∙ ap (λ n. read (OfName n) rest) (sym h.0), h.1)
named_again x ps (Sign at c ∷ rest) name h = absurd h.0
named_again x ps (Stray at ∷ rest) name h = absurd h.0
named_again x ps (Long at ∷ rest) name h = absurd h.0
named_again x ps (End at ∷ rest) name h = absurd h.0
named_again x ps [] name h = absurd h

name_no_word : (own : List ℕ) (x : Named) (ps : List Piece) (ts : List Lexeme) → bytes_eq x.text own ≡ false → AreTokens (Name x ∷ ps) ts → after_word own ts ≡ None
unfolding after_word
name_no_word own x ps (Word at w ∷ rest) apart h = ap (λ n. cond (bytes_eq n own) (Some rest) None) (sym (ap (λ n. n.text) h.0)) ∙ ap (λ b. cond b (Some rest) None) apart
name_no_word own x ps (Sign at c ∷ rest) apart h = absurd h.0
name_no_word own x ps (Stray at ∷ rest) apart h = absurd h.0
name_no_word own x ps (Long at ∷ rest) apart h = absurd h.0
name_no_word own x ps (End at ∷ rest) apart h = absurd h.0
name_no_word own x ps [] apart h = absurd h

-- where no sequence comes first, the type is one word
type_simple : (n : ℕ) (ts : List Lexeme) (ty : TypeTree) (ps : List Piece) → after_word (codes "sequence") ts ≡ None → Gets (simple_at ts) ty ps → Gets (type_at n ts) ty ps
unfolding type_at
type_simple zero ts ty ps none h = gets_none (after_word (codes "sequence") ts) (λ r. Err (refused Limit ts)) (simple_at ts) ty ps none h
type_simple (suc n) ts ty ps none h = gets_none (after_word (codes "sequence") ts) (λ r. sequence_at (λ us. type_at n us) r) (simple_at ts) ty ps none h

plain_type : (n : ℕ) (own : List ℕ) (ty : TypeTree) (ps : List Piece) (ts : List Lexeme) → ((at : ℕ) → word_type at own ≡ done ty) → bytes_eq own (codes "sequence") ≡ false → AreTokens (Own own ∷ ps) ts → Gets (type_at n ts) ty ps
plain_type n own ty ps ts is apart h = type_simple n ts ty ps (other_word (codes "sequence") own ps ts apart h) (plain_again own ty ps ts is h)

sequence_again : (item : List Lexeme → Reads TypeTree) (of : TypeTree) (ps : List Piece) (ts : List Lexeme) → ((qs : List Piece) (us : List Lexeme) → AreTokens (type_then of qs) us → Gets (item us) of qs)
    → AreTokens (Mark 60 ∷ type_then of (Mark 62 ∷ ps)) ts → Gets (sequence_at item ts) (SequenceOf of) ps
unfolding sequence_at
sequence_again item of ps ts again h =
    gets_mark 60 ts _ (type_then of (Mark 62 ∷ ps)) (SequenceOf of) ps h (λ us a.
    gets_bind (item us) _ of (Mark 62 ∷ ps) (SequenceOf of) ps (again (Mark 62 ∷ ps) us a) (λ vs b.
    gets_mark 62 vs _ ps (SequenceOf of) ps b (λ ws c. gets_here (SequenceOf of) ps ws c)))

type_again : (n : ℕ) (ty : TypeTree) (ps : List Piece) (ts : List Lexeme) → IsNamed ty → sequences ty ≤ n → AreTokens (type_then ty ps) ts → Gets (type_at n ts) ty ps
unfolding type_at word_type
type_again n OfBool ps ts name few h = plain_type n (codes "bool") OfBool ps ts (λ at. refl) refl h
type_again n OfU8 ps ts name few h = plain_type n (codes "u8") OfU8 ps ts (λ at. refl) refl h
type_again n OfU32 ps ts name few h = plain_type n (codes "u32") OfU32 ps ts (λ at. refl) refl h
type_again n OfU64 ps ts name few h = plain_type n (codes "u64") OfU64 ps ts (λ at. refl) refl h
type_again n OfString ps ts name few h = plain_type n (codes "string") OfString ps ts (λ at. refl) refl h
type_again n OfBytes ps ts name few h = plain_type n (codes "bytes") OfBytes ps ts (λ at. refl) refl h
type_again n (OfName x) ps ts name few h =
    let is = free_of x.text (name_free x.text name) in
    type_simple n ts (OfName x) ps (name_no_word (codes "sequence") x ps ts is.sequence h) (named_again x ps ts name h)
type_again zero (SequenceOf of) ps ts name few h = absurd (omega arith)
type_again (suc n) (SequenceOf of) ps ts name few h =
    let first = word_again (codes "sequence") (Mark 60 ∷ type_then of (Mark 62 ∷ ps)) ts h in
    let fewer : sequences of ≤ n = omega arith in
    gets_some (after_word (codes "sequence") ts) first.0 (λ r. sequence_at (λ us. type_at n us) r) (simple_at ts) (SequenceOf of) ps first.1
    (sequence_again (λ us. type_at n us) of ps first.0 (λ qs us g. type_again n of qs us name fewer g) first.2)

eight_again : ItemAgain IsType type_then (λ ts. type_at 8 ts)
eight_again ty ps ts is h = type_again 8 ty ps ts is.0 is.1 h

field_again : ItemAgain IsField field_then field_at
unfolding field_at
field_again x ps ts is h =
    gets_bind (type_at 8 ts) _ x.ty (Name x.name ∷ Mark 59 ∷ ps) x ps (eight_again x.ty (Name x.name ∷ Mark 59 ∷ ps) ts is.0 h) (λ us a.
    gets_bind (name_at us) _ x.name (Mark 59 ∷ ps) x ps (name_again x.name (Mark 59 ∷ ps) us is.1 a) (λ vs b.
    gets_mark 59 vs _ ps x ps b (λ ws c. gets_here x ps ws c)))

way_again : (x : Bool) (ps : List Piece) (ts : List Lexeme) → AreTokens (Own (way_word x) ∷ ps) ts → Gets (way_at ts) x ps
unfolding way_at
way_again false ps ts h = let first = word_again (codes "copy") ps ts h in gets_some (after_word (codes "copy") ts) first.0 (λ r. read false r) _ false ps first.1 (gets_here false ps first.0 first.2)
way_again true ps ts h =
    let first = word_again (codes "consume") ps ts h in
    gets_none (after_word (codes "copy") ts) (λ r. read false r) _ true ps (other_word (codes "copy") (codes "consume") ps ts refl h)
    (gets_some (after_word (codes "consume") ts) first.0 (λ r. read true r) _ true ps first.1 (gets_here true ps first.0 first.2))

param_again : ItemAgain IsParam param_then param_at
unfolding param_at
param_again x ps ts is h =
    gets_bind (way_at ts) _ x.consume (type_then x.ty (Name x.name ∷ ps)) x ps (way_again x.consume (type_then x.ty (Name x.name ∷ ps)) ts h) (λ us a.
    gets_bind (type_at 8 us) _ x.ty (Name x.name ∷ ps) x ps (eight_again x.ty (Name x.name ∷ ps) us is.0 a) (λ vs b.
    gets_bind (name_at vs) _ x.name ps x ps (name_again x.name ps vs is.1 b) (λ ws c. gets_here x ps ws c)))

-- a type does not begin with `void`
type_no_void : (ty : TypeTree) (ps : List Piece) (ts : List Lexeme) → IsNamed ty → AreTokens (type_then ty ps) ts → after_word (codes "void") ts ≡ None
type_no_void OfBool ps ts name h = other_word (codes "void") (codes "bool") ps ts refl h
type_no_void OfU8 ps ts name h = other_word (codes "void") (codes "u8") ps ts refl h
type_no_void OfU32 ps ts name h = other_word (codes "void") (codes "u32") ps ts refl h
type_no_void OfU64 ps ts name h = other_word (codes "void") (codes "u64") ps ts refl h
type_no_void OfString ps ts name h = other_word (codes "void") (codes "string") ps ts refl h
type_no_void OfBytes ps ts name h = other_word (codes "void") (codes "bytes") ps ts refl h
type_no_void (SequenceOf of) ps ts name h = other_word (codes "void") (codes "sequence") (Mark 60 ∷ type_then of (Mark 62 ∷ ps)) ts refl h
type_no_void (OfName x) ps ts name h = let is = free_of x.text (name_free x.text name) in name_no_word (codes "void") x ps ts is.void h

-- nor with a sign
type_no_sign : (sign : ℕ) (ty : TypeTree) (ps : List Piece) (ts : List Lexeme) → AreTokens (type_then ty ps) ts → after_sign sign ts ≡ None
type_no_sign sign OfBool ps ts h = own_no_sign sign (codes "bool") ps ts h
type_no_sign sign OfU8 ps ts h = own_no_sign sign (codes "u8") ps ts h
type_no_sign sign OfU32 ps ts h = own_no_sign sign (codes "u32") ps ts h
type_no_sign sign OfU64 ps ts h = own_no_sign sign (codes "u64") ps ts h
type_no_sign sign OfString ps ts h = own_no_sign sign (codes "string") ps ts h
type_no_sign sign OfBytes ps ts h = own_no_sign sign (codes "bytes") ps ts h
type_no_sign sign (SequenceOf of) ps ts h = own_no_sign sign (codes "sequence") (Mark 60 ∷ type_then of (Mark 62 ∷ ps)) ts h
type_no_sign sign (OfName x) ps ts h = name_no_sign sign x ps ts h

result_again : ItemAgain IsOutcome result_then result_at
unfolding result_at
result_again None ps ts is h =
    let first = word_again (codes "void") ps ts h in
    let none_of : Option TypeTree = None in
    gets_some (after_word (codes "void") ts) first.0 (λ r. read none_of r) _ None ps first.1 (gets_here none_of ps first.0 first.2)
result_again (Some ty) ps ts is h =
    let none_of : Option TypeTree = None in
    gets_none (after_word (codes "void") ts) (λ r. read none_of r) _ (Some ty) ps (type_no_void ty ps ts is.0 h)
    (gets_bind (type_at 8 ts) _ ty ps (Some ty) ps (eight_again ty ps ts is h) (λ us a. gets_here (Some ty) ps us a))

-- several items, with the same before each
abbrev Starts : {X : Type 0} → (X → Type 0) → (X → List Piece → List Piece) → List Piece → (List Lexeme → Option (List Lexeme)) → Type 0
Starts Is pieces before next = (x : _) (ps : List Piece) (ts : List Lexeme) → Is x → AreTokens (before ++ pieces x ps) ts → Follows (next ts) (pieces x ps)

abbrev Stops : List Piece → (List Lexeme → Option (List Lexeme)) → Type 0
Stops ps next = (ts : List Lexeme) → AreTokens ps ts → next ts ≡ None

many_again : {X : Type 0} (Is : X → Type 0) (pieces : X → List Piece → List Piece) (before : List Piece) (next : List Lexeme → Option (List Lexeme)) (begins : List ℕ → Bool) (item : List Lexeme → Reads X)
    → Starts Is pieces before next → ItemAgain Is pieces item → (ps : List Piece) → Stops ps next → (n : ℕ) (xs : List X) (ts : List Lexeme) → AllByRecursion Is xs → length xs ≤ n → AreTokens (each_then before pieces xs ps) ts
    → Gets (many_at next begins item n ts) xs ps
unfolding many_at
many_again Is pieces before next begins item starts items ps stops zero [] ts all few h = gets_none (next ts) (λ r. Err (one_too_many begins r)) (read [] ts) [] ps (stops ts h) (gets_here [] ps ts h)
many_again Is pieces before next begins item starts items ps stops (suc n) [] ts all few h =
    gets_none (next ts) (λ r. item r >>= λ x. many_at next begins item n x.1 >>= λ more. read (x.0 ∷ more.0) more.1) (read [] ts) [] ps (stops ts h) (gets_here [] ps ts h)
many_again Is pieces before next begins item starts items ps stops zero (x ∷ xs) ts all few h = absurd (omega arith)
many_again Is pieces before next begins item starts items ps stops (suc n) (x ∷ xs) ts all few h =
    let rest = each_then before pieces xs ps in
    let first = starts x rest ts all.0 h in
    let fewer : length xs ≤ n = omega arith in
    gets_some (next ts) first.0 (λ r. item r >>= λ y. many_at next begins item n y.1 >>= λ more. read (y.0 ∷ more.0) more.1) (read [] ts) (x ∷ xs) ps first.1
    (gets_bind (item first.0) (λ y. many_at next begins item n y.1 >>= λ more. read (y.0 ∷ more.0) more.1) x rest (x ∷ xs) ps (items x rest first.0 all.0 first.2) (λ us a.
    gets_bind (many_at next begins item n us) (λ more. read (x ∷ more.0) more.1) xs ps (x ∷ xs) ps (many_again Is pieces before next begins item starts items ps stops n xs us all.1 fewer a) (λ vs b.
    gets_here (x ∷ xs) ps vs b)))

comma_starts : {X : Type 0} (Is : X → Type 0) (pieces : X → List Piece → List Piece) → Starts Is pieces (Mark 44 ∷ []) after_comma
comma_starts Is pieces x ps ts is h = sign_again 44 (pieces x ps) ts h

brace_starts : {X : Type 0} (Is : X → Type 0) (pieces : X → List Piece → List Piece) → ((x : X) (ps : List Piece) (ts : List Lexeme) → Is x → AreTokens (pieces x ps) ts → after_sign 125 ts ≡ None) → Starts Is pieces [] until_brace
unfolding until_brace
brace_starts Is pieces none x ps ts is h = (ts, ap (λ o. if_after o (λ r. None) (Some ts)) (none x ps ts is h), h)

brace_stops : (ps : List Piece) → Stops (Mark 125 ∷ ps) until_brace
unfolding until_brace
brace_stops ps ts h = let end = sign_again 125 ps ts h in ap (λ o. if_after o (λ r. None) (Some ts)) end.1

comma_stops : (sign : ℕ) (ps : List Piece) → nat_eq sign 44 ≡ false → Stops (Mark sign ∷ ps) after_comma
comma_stops sign ps apart ts h = other_sign 44 sign ps ts apart h

-- a first item, and more with a comma before each
listed_again : {X : Type 0} (Is : X → Type 0) (pieces : X → List Piece → List Piece) (begins : List ℕ → Bool) (item : List Lexeme → Reads X) → ItemAgain Is pieces item → (ps : List Piece) → Stops ps after_comma
    → (n : ℕ) (x : X) (xs : List X) (ts : List Lexeme) → Is x → AllByRecursion Is xs → length xs ≤ n → AreTokens (commas_then pieces (x ∷ xs) ps) ts
    → Gets (item ts >>= λ y. many_at after_comma begins item n y.1 >>= λ more. read (y.0 ∷ more.0) more.1) (x ∷ xs) ps
listed_again Is pieces begins item items ps stops n x xs ts is all few h =
    let rest = each_then (Mark 44 ∷ []) pieces xs ps in
    gets_bind (item ts) (λ y. many_at after_comma begins item n y.1 >>= λ more. read (y.0 ∷ more.0) more.1) x rest (x ∷ xs) ps (items x rest ts is h) (λ us a.
    gets_bind (many_at after_comma begins item n us) (λ more. read (x ∷ more.0) more.1) xs ps (x ∷ xs) ps (many_again Is pieces (Mark 44 ∷ []) after_comma begins item (comma_starts Is pieces) items ps stops n xs us all few a) (λ vs b.
    gets_here (x ∷ xs) ps vs b))

params_again : (xs : List ParamTree) (ps : List Piece) (ts : List Lexeme) → AtMost 16 IsParam xs → AreTokens (commas_then param_then xs (Mark 41 ∷ ps)) ts → Gets (params_at ts) xs (Mark 41 ∷ ps)
unfolding params_at some_params_at
params_again [] ps ts is h = let end = sign_again 41 ps ts h in let none_of : List ParamTree = [] in gets_some (after_sign 41 ts) end.0 (λ r. read none_of ts) _ [] (Mark 41 ∷ ps) end.1 (gets_here none_of (Mark 41 ∷ ps) ts h)
params_again (x ∷ xs) ps ts is h =
    let none_of : List ParamTree = [] in
    let few = is.1 in
    let fewer : length xs ≤ 15 = omega arith in
    gets_none (after_sign 41 ts) (λ r. read none_of ts) _ (x ∷ xs) (Mark 41 ∷ ps) (own_no_sign 41 (way_word x.consume) _ ts h)
    (listed_again IsParam param_then is_param_word param_at param_again (Mark 41 ∷ ps) (comma_stops 41 ps refl) 15 x xs ts is.0.0 is.0.1 fewer h)

op_again : ItemAgain IsOp op_then op_at
unfolding op_at
op_again x ps ts is h =
    let tail = Mark 41 ∷ Mark 59 ∷ ps in
    let inner = commas_then param_then x.params tail in
    gets_bind (result_at ts) _ x.outcome (Name x.name ∷ Mark 40 ∷ inner) x ps (result_again x.outcome (Name x.name ∷ Mark 40 ∷ inner) ts is.0 h) (λ us a.
    gets_bind (name_at us) _ x.name (Mark 40 ∷ inner) x ps (name_again x.name (Mark 40 ∷ inner) us is.1 a) (λ vs b.
    gets_mark 40 vs _ inner x ps b (λ ws c.
    gets_bind (params_at ws) _ x.params tail x ps (params_again x.params (Mark 59 ∷ ps) ws is.2 c) (λ xs d.
    gets_mark 41 xs _ (Mark 59 ∷ ps) x ps d (λ ys f.
    gets_mark 59 ys _ ps x ps f (λ zs g. gets_here x ps zs g))))))

result_no_sign : (sign : ℕ) (x : Option TypeTree) (ps : List Piece) (ts : List Lexeme) → AreTokens (result_then x ps) ts → after_sign sign ts ≡ None
result_no_sign sign None ps ts h = own_no_sign sign (codes "void") ps ts h
result_no_sign sign (Some ty) ps ts h = type_no_sign sign ty ps ts h

ops_again : (xs : List OpTree) (ps : List Piece) (ts : List Lexeme) → AtMost 64 IsOp xs → AreTokens (each_then [] op_then xs (Mark 125 ∷ ps)) ts → Gets (ops_at ts) xs (Mark 125 ∷ ps)
unfolding ops_at
ops_again xs ps ts is h =
    many_again IsOp op_then [] until_brace is_op_word op_at (brace_starts IsOp op_then (λ x qs us fit g. result_no_sign 125 x.outcome _ us g)) op_again (Mark 125 ∷ ps) (brace_stops ps) 64 xs ts is.0 is.1 h

fields_again : (xs : List FieldTree) (ps : List Piece) (ts : List Lexeme) → AtMost 64 IsField xs → 1 ≤ length xs → AreTokens (each_then [] field_then xs (Mark 125 ∷ ps)) ts → Gets (fields_at ts) xs (Mark 125 ∷ ps)
unfolding fields_at
fields_again [] ps ts is some h = absurd (omega arith)
fields_again (x ∷ xs) ps ts is some h =
    let rest = each_then [] field_then xs (Mark 125 ∷ ps) in
    let few = is.1 in
    let fewer : length xs ≤ 63 = omega arith in
    gets_bind (field_at ts) (λ y. many_at until_brace is_type_word field_at 63 y.1 >>= λ more. read (y.0 ∷ more.0) more.1) x rest (x ∷ xs) (Mark 125 ∷ ps) (field_again x rest ts is.0.0 h) (λ us a.
    gets_bind (many_at until_brace is_type_word field_at 63 us) (λ more. read (x ∷ more.0) more.1) xs (Mark 125 ∷ ps) (x ∷ xs) (Mark 125 ∷ ps)
    (many_again IsField field_then [] until_brace is_type_word field_at (brace_starts IsField field_then (λ y qs vs fit g. type_no_sign 125 y.ty _ vs g)) field_again (Mark 125 ∷ ps) (brace_stops ps) 63 xs us is.0.1 fewer a) (λ vs b.
    gets_here (x ∷ xs) (Mark 125 ∷ ps) vs b))

names_again : (n sign : ℕ) (xs : List Named) (ps : List Piece) (ts : List Lexeme) → nat_eq sign 44 ≡ false → AllByRecursion IsWord xs → length xs ≤ n → 1 ≤ length xs → AreTokens (commas_then name_then xs (Mark sign ∷ ps)) ts → Gets (names_at n ts) xs (Mark sign ∷ ps)
unfolding names_at
names_again n sign [] ps ts apart all few some h = absurd (omega arith)
names_again n sign (x ∷ xs) ps ts apart all few some h =
    let fewer : length xs ≤ n - 1 = omega arith in
    listed_again IsWord name_then is_name_word name_at name_again (Mark sign ∷ ps) (comma_stops sign ps apart) (n - 1) x xs ts all.0 all.1 fewer h

-- no more names than tokens
names_fit : (xs : List Named) (ps : List Piece) (ts : List Lexeme) → AreTokens (each_then (Mark 44 ∷ []) name_then xs ps) ts → length xs ≤ length ts
names_fit [] ps ts h = omega arith
names_fit (x ∷ xs) ps (s ∷ t ∷ ts) h = let fit = names_fit xs ps ts h.1.1 in omega arith
names_fit (x ∷ xs) ps (s ∷ []) h = absurd h.1
names_fit (x ∷ xs) ps [] h = absurd h

bases_fit : (x : Named) (xs : List Named) (ps : List Piece) (ts : List Lexeme) → AreTokens (commas_then name_then (x ∷ xs) ps) ts → length (x ∷ xs) ≤ length ts
bases_fit x xs ps (t ∷ ts) h = let fit = names_fit xs ps ts h.1 in omega arith
bases_fit x xs ps [] h = absurd h

bases_again : (xs : List Named) (ps : List Piece) (ts : List Lexeme) → AllByRecursion IsWord xs → AreTokens (bases_then xs (Mark 123 ∷ ps)) ts → Gets (bases_at ts) xs (Mark 123 ∷ ps)
unfolding bases_at
bases_again [] ps ts all h = let none_of : List Named = [] in gets_none (after_sign 58 ts) (λ r. names_at (length r) r) (read none_of ts) [] (Mark 123 ∷ ps) (other_sign 58 123 ps ts refl h) (gets_here none_of (Mark 123 ∷ ps) ts h)
bases_again (x ∷ xs) ps ts all h =
    let none_of : List Named = [] in
    let first = sign_again 58 (commas_then name_then (x ∷ xs) (Mark 123 ∷ ps)) ts h in
    gets_some (after_sign 58 ts) first.0 (λ r. names_at (length r) r) (read none_of ts) (x ∷ xs) (Mark 123 ∷ ps) first.1
    (names_again (length first.0) 123 (x ∷ xs) ps first.0 refl all (bases_fit x xs (Mark 123 ∷ ps) first.0 first.2) (omega arith) first.2)

gets_end : {Y : Type 0} (ts : List Lexeme) (f : List Lexeme → Reads Y) (ps : List Piece) (y : Y) (qs : List Piece) → AreTokens (Mark 125 ∷ Mark 59 ∷ ps) ts → ((rest : List Lexeme) → AreTokens ps rest → Gets (f rest) y qs) → Gets (end_at ts >>= f) y qs
unfolding end_at sign_at
gets_end ts f ps y qs h next =
    let first = sign_again 125 (Mark 59 ∷ ps) ts h in
    let second = sign_again 59 ps first.0 first.2 in
    let ends : end_at ts ≡ done second.0 = ap (λ o. or_refused (refused Token ts) o >>= λ us. or_refused (refused Token us) (after_sign 59 us)) first.1 ∙ ap (λ o. or_refused (refused Token first.0) o) second.1 in
    subst (λ r. Gets (r >>= f) y qs) (sym ends) (next second.0 second.2)

struct_again : (name : Named) (fields : List FieldTree) (ps : List Piece) (ts : List Lexeme) → IsWord name → AtMost 64 IsField fields → 1 ≤ length fields
    → AreTokens (Name name ∷ Mark 123 ∷ each_then [] field_then fields (Mark 125 ∷ Mark 59 ∷ ps)) ts → Gets (struct_at ts) (StructOf name fields) ps
unfolding struct_at
struct_again name fields ps ts is all some h =
    let x = StructOf name fields in
    let tail = Mark 125 ∷ Mark 59 ∷ ps in
    let inner = each_then [] field_then fields tail in
    gets_bind (name_at ts) _ name (Mark 123 ∷ inner) x ps (name_again name (Mark 123 ∷ inner) ts is h) (λ us a.
    gets_mark 123 us _ inner x ps a (λ vs b.
    gets_bind (fields_at vs) _ fields tail x ps (fields_again fields (Mark 59 ∷ ps) vs all some b) (λ ws c.
    gets_end ws _ ps x ps c (λ ys d. gets_here x ps ys d))))

enum_again : (name : Named) (names : List Named) (ps : List Piece) (ts : List Lexeme) → IsWord name → AtMost 64 IsWord names → 1 ≤ length names
    → AreTokens (Name name ∷ Mark 123 ∷ commas_then name_then names (Mark 125 ∷ Mark 59 ∷ ps)) ts → Gets (enum_at ts) (EnumOf name names) ps
unfolding enum_at
enum_again name names ps ts is all some h =
    let x = EnumOf name names in
    let tail = Mark 125 ∷ Mark 59 ∷ ps in
    let inner = commas_then name_then names tail in
    gets_bind (name_at ts) _ name (Mark 123 ∷ inner) x ps (name_again name (Mark 123 ∷ inner) ts is h) (λ us a.
    gets_mark 123 us _ inner x ps a (λ vs b.
    gets_bind (names_at 64 vs) _ names tail x ps (names_again 64 125 names (Mark 59 ∷ ps) vs refl all.0 all.1 some b) (λ ws c.
    gets_end ws _ ps x ps c (λ ys d. gets_here x ps ys d))))

interface_again : (name : Named) (bases : List Named) (ops : List OpTree) (ps : List Piece) (ts : List Lexeme) → IsWord name → AllByRecursion IsWord bases → AtMost 64 IsOp ops
    → AreTokens (Name name ∷ bases_then bases (Mark 123 ∷ each_then [] op_then ops (Mark 125 ∷ Mark 59 ∷ ps))) ts → Gets (interface_at ts) (InterfaceOf name bases ops) ps
unfolding interface_at
interface_again name bases ops ps ts is all some h =
    let x = InterfaceOf name bases ops in
    let tail = Mark 125 ∷ Mark 59 ∷ ps in
    let inner = each_then [] op_then ops tail in
    gets_bind (name_at ts) _ name (bases_then bases (Mark 123 ∷ inner)) x ps (name_again name (bases_then bases (Mark 123 ∷ inner)) ts is h) (λ us a.
    gets_bind (bases_at us) _ bases (Mark 123 ∷ inner) x ps (bases_again bases inner us all a) (λ vs b.
    gets_mark 123 vs _ inner x ps b (λ ws c.
    gets_bind (ops_at ws) _ ops tail x ps (ops_again ops (Mark 59 ∷ ps) ws some c) (λ ys d.
    gets_end ys _ ps x ps d (λ zs g. gets_here x ps zs g)))))

decl_again : ItemAgain IsDecl decl_then decl_at
unfolding decl_at
decl_again (StructOf name fields) ps ts is h =
    let rest = Name name ∷ Mark 123 ∷ each_then [] field_then fields (Mark 125 ∷ Mark 59 ∷ ps) in
    let first = word_again (codes "struct") rest ts h in
    gets_some (after_word (codes "struct") ts) first.0 struct_at _ (StructOf name fields) ps first.1 (struct_again name fields ps first.0 is.0 is.1 is.2 first.2)
decl_again (EnumOf name names) ps ts is h =
    let rest = Name name ∷ Mark 123 ∷ commas_then name_then names (Mark 125 ∷ Mark 59 ∷ ps) in
    let first = word_again (codes "enum") rest ts h in
    gets_none (after_word (codes "struct") ts) struct_at _ (EnumOf name names) ps (other_word (codes "struct") (codes "enum") rest ts refl h)
    (gets_some (after_word (codes "enum") ts) first.0 enum_at _ (EnumOf name names) ps first.1 (enum_again name names ps first.0 is.0 is.1 is.2 first.2))
decl_again (InterfaceOf name bases ops) ps ts is h =
    let rest = Name name ∷ bases_then bases (Mark 123 ∷ each_then [] op_then ops (Mark 125 ∷ Mark 59 ∷ ps)) in
    let first = word_again (codes "interface") rest ts h in
    gets_none (after_word (codes "struct") ts) struct_at _ (InterfaceOf name bases ops) ps (other_word (codes "struct") (codes "interface") rest ts refl h)
    (gets_none (after_word (codes "enum") ts) enum_at _ (InterfaceOf name bases ops) ps (other_word (codes "enum") (codes "interface") rest ts refl h)
    (gets_some (after_word (codes "interface") ts) first.0 interface_at _ (InterfaceOf name bases ops) ps first.1 (interface_again name bases ops ps first.0 is.0 is.1 is.2 first.2)))

-- a declaration begins with a word, and after the last the text ends
own_goes_on : (own : List ℕ) (ps : List Piece) (ts : List Lexeme) → AreTokens (Own own ∷ ps) ts → until_end ts ≡ Some ts
unfolding until_end
own_goes_on own ps (Word at w ∷ rest) h = refl
own_goes_on own ps (Sign at c ∷ rest) h = absurd h.0
own_goes_on own ps (Stray at ∷ rest) h = absurd h.0
own_goes_on own ps (Long at ∷ rest) h = absurd h.0
own_goes_on own ps (End at ∷ rest) h = absurd h.0
own_goes_on own ps [] h = absurd h

end_starts : Starts IsDecl decl_then [] until_end
end_starts (StructOf name fields) ps ts is h = (ts, own_goes_on (codes "struct") (Name name ∷ Mark 123 ∷ each_then [] field_then fields (Mark 125 ∷ Mark 59 ∷ ps)) ts h, h)
end_starts (EnumOf name names) ps ts is h = (ts, own_goes_on (codes "enum") (Name name ∷ Mark 123 ∷ commas_then name_then names (Mark 125 ∷ Mark 59 ∷ ps)) ts h, h)
end_starts (InterfaceOf name bases ops) ps ts is h = (ts, own_goes_on (codes "interface") (Name name ∷ bases_then bases (Mark 123 ∷ each_then [] op_then ops (Mark 125 ∷ Mark 59 ∷ ps))) ts h, h)

end_stops : Stops [] until_end
unfolding until_end
end_stops (End at ∷ rest) h = refl
end_stops (Word at w ∷ rest) h = absurd h
end_stops (Sign at c ∷ rest) h = absurd h
end_stops (Stray at ∷ rest) h = absurd h
end_stops (Long at ∷ rest) h = absurd h
end_stops [] h = absurd h

-- what a text declares is read
pub idl_again : (text : List ℕ) (decls : List DeclTree) → IsTextOf text decls → idl_at text ≡ done decls
unfolding idl_at
idl_again text decls is =
    let whole = many_again IsDecl decl_then [] until_end is_decl_word decl_at end_starts decl_again [] end_stops 256 decls (tokens_of text) is.0.0 is.0.1 is.1 in
    ap (λ r. r >>= λ ds. done ds.0) whole.1

-- a refusal of a text that declares something is out of memory
pub refused_memory : (decls : List DeclTree) (r : Result (List DeclTree) IdlRefused) (e : IdlRefused) → r ≡ done decls → IsRefused r e → e ≡ no_memory
refused_memory decls r e is fails = cases e.why fails where
  cases : (w : IdlWhy) → Fails w e r → e ≡ no_memory
  cases Memory f = f
  cases Byte f = absurd cc
  cases LongName f = absurd cc
  cases Token f = absurd cc
  cases Limit f = absurd cc
