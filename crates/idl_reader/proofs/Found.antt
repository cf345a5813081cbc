-- What is read is in the grammar.
use Rattle.std.proofs.Common.{◌≡◌, ℕ, zero, suc, ◌+◌, ◌-◌, ◌≤◌, nat_eq, List, [], ◌∷◌, ◌++◌, length, codes, Bool, true, false, not, cond, Option, Some, None, Result, Ok, Err, refl, sym, ap, subst, arith}
use Rattle.std.specs.List.{AllByRecursion}
use Rattle.std.specs.Str.{bytes_eq}
use Rattle.std.proofs.lemmas.Bool.{eqb-true, and_from}
use Rattle.std.proofs.lemmas.Slice.Eq.{bytes_eq-Decides}
use Rattle.idl_reader.specs.declared.why.IdlWhy.TheVariants.{Token, Limit}
use Rattle.idl_reader.specs.declared.why.IdlRefused.{IdlRefused}
use Rattle.idl_reader.specs.declared.idl.Word.{Word as Named}
use Rattle.idl_reader.specs.Words.{is_word, is_reserved, IsIdlName}
use Rattle.idl_reader.specs.Tokens.{Lexeme, Word, Sign, Stray, Long, End, Gap, tokens_of}
use Rattle.idl_reader.specs.Tree.{TypeTree, OfBool, OfU8, OfU32, OfU64, OfString, OfBytes, SequenceOf, OfName, FieldTree, ParamTree, DeclTree, StructOf, EnumOf, InterfaceOf}
use Rattle.idl_reader.specs.Grammar.{Piece, Own, Mark, AreTokens, each_then, commas_then, name_then, type_then, field_then, way_word, param_then, result_then, op_then, bases_then, decl_then, sequences, IsNamed, IsType, IsWord, IsField, IsParam, IsOutcome, AtMost, IsOp, IsDecl, IsTextOf}
use Rattle.idl_reader.specs.Reading.{◌>>=◌, Reads, refused, after_word, after_sign, if_after, or_refused, sign_at, name_at, word_type, simple_at, sequence_at, type_at, is_name_word, is_type_word, is_op_word, is_param_word, is_decl_word, one_too_many, many_at, after_comma, until_brace, until_end, field_at, way_at, param_at, some_params_at, params_at, result_at, op_at, ops_at, names_at, bases_at, end_at, fields_at, struct_at, enum_at, interface_at, decl_at, idl_at}
use Rattle.idl_reader.proofs.TokenLaws.{Tokens, tokens_fit}
use Rattle.idl_reader.proofs.Results.{done, read, ok_is, read_is, bind_ok, guarded}

-- what was taken from the tokens
pub record Took (fits : Type 0) (pieces : List Piece → List Piece) (ts rest : List Lexeme) : Type 0 where
  pub fit : fits
  pub tokens : (ps : List Piece) → AreTokens ps rest → AreTokens (pieces ps) ts
  pub left : Tokens rest

pub then_took : {A B : Type 0} {f g : List Piece → List Piece} {ts mid rest : List Lexeme} → Took A f ts mid → Took B g mid rest → Took (A × B) (λ ps. f (g ps)) ts rest
then_took a b = record { fit = (a.fit, b.fit); tokens = λ ps h. a.tokens _ (b.tokens ps h); left = b.left }

pub took_as : {A B : Type 0} {f : List Piece → List Piece} {ts rest : List Lexeme} → (A → B) → Took A f ts rest → Took B f ts rest
took_as h a = record { fit = h a.fit; tokens = a.tokens; left = a.left }

some_is : {A : Type 0} (x y : A) → Some x ≡ Some y → x ≡ y
some_is x y e = cc

chosen : {A : Type 0} (b : Bool) (x y : A) → cond b (Some x) None ≡ Some y → (b ≡ true) × (x ≡ y)
chosen true x y e = (refl, some_is x y e)
chosen false x y e = absurd cc

-- a word, a sign
pub word_took : (own : List ℕ) (ts rest : List Lexeme) → Tokens ts → after_word own ts ≡ Some rest → Took (Unit {0}) (λ ps. Own own ∷ ps) ts rest
unfolding after_word
word_took own (Word at w ∷ us) rest all e =
    let is = chosen (bytes_eq w own) us rest e in
    let same = (bytes_eq-Decides w own).0 is.0 in
    record { fit = tt; tokens = λ ps h. (same, subst (AreTokens ps) (sym is.1) h); left = subst Tokens is.1 all.1 }
word_took own (Sign at c ∷ us) rest all e = absurd cc
word_took own (Stray at ∷ us) rest all e = absurd cc
word_took own (Long at ∷ us) rest all e = absurd cc
word_took own (End at ∷ us) rest all e = absurd cc
word_took own [] rest all e = absurd cc

pub sign_took : (own : ℕ) (ts rest : List Lexeme) → Tokens ts → after_sign own ts ≡ Some rest → Took (Unit {0}) (λ ps. Mark own ∷ ps) ts rest
unfolding after_sign
sign_took own (Sign at c ∷ us) rest all e =
    let is = chosen (nat_eq c own) us rest e in
    let same = eqb-true c own is.0 in
    record { fit = tt; tokens = λ ps h. (same, subst (AreTokens ps) (sym is.1) h); left = subst Tokens is.1 all.1 }
sign_took own (Word at w ∷ us) rest all e = absurd cc
sign_took own (Stray at ∷ us) rest all e = absurd cc
sign_took own (Long at ∷ us) rest all e = absurd cc
sign_took own (End at ∷ us) rest all e = absurd cc
sign_took own [] rest all e = absurd cc

some_from : {A : Type 0} (r : IdlRefused) (o : Option A) (x : A) → or_refused r o ≡ Ok x → o ≡ Some x
some_from r None x e = absurd cc
some_from r (Some y) x e = ap (λ (z : _). Some z) (ok_is y x e)

pub mark_took : (own : ℕ) (ts rest : List Lexeme) → Tokens ts → sign_at own ts ≡ Ok rest → Took (Unit {0}) (λ ps. Mark own ∷ ps) ts rest
unfolding sign_at
mark_took own ts rest all e = sign_took own ts rest all (some_from (refused Token ts) (after_sign own ts) rest e)

-- a name
pub name_took : (ts rest : List Lexeme) (x : Named) → Tokens ts → name_at ts ≡ Ok (x, rest) → Took (IsWord x) (name_then x) ts rest
unfolding name_at
name_took (Word at w ∷ us) rest x all e =
    let free = guarded (is_reserved w) (record { place = at; why = Token }) (read (record { text = w; place = at }) us) (x, rest) e in
    let is = read_is (record { text = w; place = at }) x us rest free.1 in
    let name : IsIdlName w = and_from _ _ all.0 (ap not free.0) in
    record { fit = subst IsWord is.0 name; tokens = λ ps h. (sym is.0, subst (AreTokens ps) (sym is.1) h); left = subst Tokens is.1 all.1 }
name_took (Sign at c ∷ us) rest x all e = absurd cc
name_took (Stray at ∷ us) rest x all e = absurd cc
name_took (Long at ∷ us) rest x all e = absurd cc
name_took (End at ∷ us) rest x all e = absurd cc
name_took [] rest x all e = absurd cc

-- the type of one word
abbrev IsOneWord : ℕ → List ℕ → TypeTree → Type 0
IsOneWord at w ty = IsNamed ty × (sequences ty ≤ 0) × ((ps : List Piece) (us : List Lexeme) → AreTokens ps us → AreTokens (type_then ty ps) (Word at w ∷ us))

plain_is : (at : ℕ) (w own : List ℕ) (plain ty : TypeTree) (rest : Result TypeTree IdlRefused) → (w ≡ own → IsOneWord at w plain) → (rest ≡ Ok ty → IsOneWord at w ty) → cond (bytes_eq w own) (Ok plain) rest ≡ Ok ty → IsOneWord at w ty
plain_is at w own plain ty rest here later e = cases (bytes_eq w own) (λ is. (bytes_eq-Decides w own).0 is) e where
  cases : (b : Bool) → (b ≡ true → w ≡ own) → cond b (done plain) rest ≡ done ty → IsOneWord at w ty
  cases true same f = subst (IsOneWord at w) (ok_is plain ty f) (here (same refl))
  cases false same f = later f

word_type_is : (at : ℕ) (w : List ℕ) (ty : TypeTree) → is_word w ≡ true → word_type at w ≡ Ok ty → IsOneWord at w ty
unfolding word_type
word_type_is at w ty word e =
    plain_is at w (codes "bool") OfBool ty _ (λ is. (tt, omega arith, λ ps us h. (is, h)))
    (plain_is at w (codes "u8") OfU8 ty _ (λ is. (tt, omega arith, λ ps us h. (is, h)))
    (plain_is at w (codes "u32") OfU32 ty _ (λ is. (tt, omega arith, λ ps us h. (is, h)))
    (plain_is at w (codes "u64") OfU64 ty _ (λ is. (tt, omega arith, λ ps us h. (is, h)))
    (plain_is at w (codes "string") OfString ty _ (λ is. (tt, omega arith, λ ps us h. (is, h)))
    (plain_is at w (codes "bytes") OfBytes ty _ (λ is. (tt, omega arith, λ ps us h. (is, h))) named))))) e where
      named : cond (is_reserved w) (Err (record { place = at; why = Token })) (done (OfName (record { text = w; place = at }))) ≡ done ty → IsOneWord at w ty
      named f =
          let free = guarded (is_reserved w) (record { place = at; why = Token }) (done (OfName (record { text = w; place = at }))) ty f in
          let name : IsIdlName w = and_from _ _ word (ap not free.0) in
          subst (IsOneWord at w) (ok_is (OfName (record { text = w; place = at })) ty free.1) (name, omega arith, λ ps us h. (refl, h))

-- a type of at most so many sequences
abbrev IsTypeOf : ℕ → TypeTree → Type 0
IsTypeOf n ty = IsNamed ty × (sequences ty ≤ n)

simple_took : (n : ℕ) (ts rest : List Lexeme) (ty : TypeTree) → Tokens ts → simple_at ts ≡ Ok (ty, rest) → Took (IsTypeOf n ty) (type_then ty) ts rest
unfolding simple_at
simple_took n (Word at w ∷ us) rest ty all e =
    let one = bind_ok (word_type at w) (λ t. read t us) (ty, rest) e in
    let is = read_is one.0 ty us rest one.2 in
    let word = subst (IsOneWord at w) is.0 (word_type_is at w one.0 all.0 one.1) in
    let none = word.1 in
    record { fit = (word.0, omega arith); tokens = λ ps h. word.2 ps us (subst (AreTokens ps) (sym is.1) h); left = subst Tokens is.1 all.1 }
simple_took n (Sign at c ∷ us) rest ty all e = absurd cc
simple_took n (Stray at ∷ us) rest ty all e = absurd cc
simple_took n (Long at ∷ us) rest ty all e = absurd cc
simple_took n (End at ∷ us) rest ty all e = absurd cc
simple_took n [] rest ty all e = absurd cc

-- either the tokens after it were read, or the other was
after_or : {X : Type 0} (o : Option (List Lexeme)) (f : List Lexeme → Reads X) (other : Reads X) (y : X × List Lexeme) (Goal : Type 0)
    → ((us : List Lexeme) → o ≡ Some us → f us ≡ Ok y → Goal) → (o ≡ None → other ≡ Ok y → Goal) → if_after o f other ≡ Ok y → Goal
after_or None f other y Goal first second e = second refl e
after_or (Some us) f other y Goal first second e = first us refl e

sequence_took : (n : ℕ) (item : List Lexeme → Reads TypeTree) → ((ts rest : List Lexeme) (ty : TypeTree) → Tokens ts → item ts ≡ Ok (ty, rest) → Took (IsTypeOf n ty) (type_then ty) ts rest)
    → (ts us rest : List Lexeme) (ty : TypeTree) → Tokens ts → after_word (codes "sequence") ts ≡ Some us → sequence_at item us ≡ Ok (ty, rest) → Took (IsTypeOf (suc n) ty) (type_then ty) ts rest
unfolding sequence_at
sequence_took n item took ts us rest ty all first e =
    let word = word_took (codes "sequence") ts us all first in
    let less = bind_ok (sign_at 60 us) (λ r. item r >>= λ of. sign_at 62 of.1 >>= λ end. read (SequenceOf of.0) end) (ty, rest) e in
    let a = mark_took 60 us less.0 word.left less.1 in
    let of = bind_ok (item less.0) (λ of. sign_at 62 of.1 >>= λ end. read (SequenceOf of.0) end) (ty, rest) less.2 in
    let b = took less.0 of.0.1 of.0.0 a.left of.1 in
    let end = bind_ok (sign_at 62 of.0.1) (λ end. read (SequenceOf of.0.0) end) (ty, rest) of.2 in
    let c = mark_took 62 of.0.1 end.0 b.left end.1 in
    let is = read_is (SequenceOf of.0.0) ty end.0 rest end.2 in
    let few = b.fit.1 in
    let all_of = then_took word (then_took a (then_took b c)) in
    let here : Took (IsTypeOf (suc n) (SequenceOf of.0.0)) (type_then (SequenceOf of.0.0)) ts end.0 = took_as (λ h. (b.fit.0, omega arith)) all_of in
    subst (λ t. Took (IsTypeOf (suc n) t) (type_then t) ts rest) is.0 (subst (λ r. Took (IsTypeOf (suc n) (SequenceOf of.0.0)) (type_then (SequenceOf of.0.0)) ts r) is.1 here)

pub type_took : (n : ℕ) (ts rest : List Lexeme) (ty : TypeTree) → Tokens ts → type_at n ts ≡ Ok (ty, rest) → Took (IsTypeOf n ty) (type_then ty) ts rest
unfolding type_at
type_took zero ts rest ty all e =
    after_or (after_word (codes "sequence") ts) (λ r. Err (refused Limit ts)) (simple_at ts) (ty, rest) (Took (IsTypeOf zero ty) (type_then ty) ts rest) (λ us is f. absurd cc) (λ none f. simple_took zero ts rest ty all f) e
type_took (suc n) ts rest ty all e =
    after_or (after_word (codes "sequence") ts) (λ r. sequence_at (λ us. type_at n us) r) (simple_at ts) (ty, rest) (Took (IsTypeOf (suc n) ty) (type_then ty) ts rest)
    (λ us is f. sequence_took n (λ us. type_at n us) (λ vs ws t h g. type_took n vs ws t h g) ts us rest ty all is f) (λ none f. simple_took (suc n) ts rest ty all f) e

-- what was read last
moved : {X : Type 0} (Is : X → Type 0) (pieces : X → List Piece → List Piece) (x y : X) (ts us rest : List Lexeme) → read x us ≡ read y rest → Took (Is x) (pieces x) ts us → Took (Is y) (pieces y) ts rest
moved Is pieces x y ts us rest e took =
    let is = read_is x y us rest e in
    subst (λ z. Took (Is z) (pieces z) ts rest) is.0 (subst (λ r. Took (Is x) (pieces x) ts r) is.1 took)

abbrev ItemTook : {X : Type 0} → (X → Type 0) → (X → List Piece → List Piece) → (List Lexeme → Reads X) → Type 0
ItemTook Is pieces item = (ts rest : List Lexeme) (x : _) → Tokens ts → item ts ≡ Ok (x, rest) → Took (Is x) (pieces x) ts rest

-- a step, and what follows it
step : {X Y : Type 0} (Is : X → Type 0) (pieces : X → List Piece → List Piece) (item : List Lexeme → Reads X) → ItemTook Is pieces item → (ts : List Lexeme) (f : X × List Lexeme → Result Y IdlRefused) (y : Y) (Goal : Type 0) → Tokens ts
    → ((x : X) (us : List Lexeme) → Took (Is x) (pieces x) ts us → f (x, us) ≡ Ok y → Goal) → (item ts >>= f) ≡ Ok y → Goal
step Is pieces item took ts f y Goal all next e = cases (item ts) refl e where
  cases : (r : Reads _) → item ts ≡ r → (r >>= f) ≡ Ok y → Goal
  cases (Ok (x, us)) is g = next x us (took ts us x all is) g
  cases (Err d) is g = absurd cc

mark : {Y : Type 0} (own : ℕ) (ts : List Lexeme) (f : List Lexeme → Result Y IdlRefused) (y : Y) (Goal : Type 0) → Tokens ts
    → ((us : List Lexeme) → Took (Unit {0}) (λ ps. Mark own ∷ ps) ts us → f us ≡ Ok y → Goal) → (sign_at own ts >>= f) ≡ Ok y → Goal
mark own ts f y Goal all next e = cases (sign_at own ts) refl e where
  cases : (r : Result (List Lexeme) IdlRefused) → sign_at own ts ≡ r → (r >>= f) ≡ Ok y → Goal
  cases (Ok us) is g = next us (mark_took own ts us all is) g
  cases (Err d) is g = absurd cc

eight_took : ItemTook IsType type_then (λ ts. type_at 8 ts)
eight_took ts rest ty all e = type_took 8 ts rest ty all e

field_took : ItemTook IsField field_then field_at
unfolding field_at
field_took ts rest x all e =
    step IsType type_then (λ us. type_at 8 us) eight_took ts _ (x, rest) (Took (IsField x) (field_then x) ts rest) all (λ ty us a.
    step IsWord name_then name_at name_took us _ (x, rest) (Took (IsField x) (field_then x) ts rest) a.left (λ name vs b.
    mark 59 vs _ (x, rest) (Took (IsField x) (field_then x) ts rest) b.left (λ ws c is.
    moved IsField field_then (record { ty = ty; name = name }) x ts ws rest is (took_as (λ h. (a.fit, b.fit)) (then_took a (then_took b c)))))) e

way_took : (ts rest : List Lexeme) (x : Bool) → Tokens ts → way_at ts ≡ Ok (x, rest) → Took (Unit {0}) (λ ps. Own (way_word x) ∷ ps) ts rest
unfolding way_at
way_took ts rest x all e =
    let Goal = Took (Unit {0}) (λ ps. Own (way_word x) ∷ ps) ts rest in
    after_or (after_word (codes "copy") ts) (λ r. read false r) (if_after (after_word (codes "consume") ts) (λ r. read true r) (Err (refused Token ts))) (x, rest) Goal
    (λ us is f. moved (λ _. Unit {0}) (λ w ps. Own (way_word w) ∷ ps) false x ts us rest f (word_took (codes "copy") ts us all is))
    (λ none. after_or (after_word (codes "consume") ts) (λ r. read true r) (Err (refused Token ts)) (x, rest) Goal
    (λ us is f. moved (λ _. Unit {0}) (λ w ps. Own (way_word w) ∷ ps) true x ts us rest f (word_took (codes "consume") ts us all is))
    (λ none2 f. absurd cc)) e

param_took : ItemTook IsParam param_then param_at
unfolding param_at
param_took ts rest x all e =
    step (λ _. Unit {0}) (λ w ps. Own (way_word w) ∷ ps) way_at way_took ts _ (x, rest) (Took (IsParam x) (param_then x) ts rest) all (λ way us a.
    step IsType type_then (λ vs. type_at 8 vs) eight_took us _ (x, rest) (Took (IsParam x) (param_then x) ts rest) a.left (λ ty vs b.
    step IsWord name_then name_at name_took vs _ (x, rest) (Took (IsParam x) (param_then x) ts rest) b.left (λ name ws c is.
    moved IsParam param_then (record { consume = way; ty = ty; name = name }) x ts ws rest is (took_as (λ h. (b.fit, c.fit)) (then_took a (then_took b c)))))) e

result_took : (ts rest : List Lexeme) (x : Option TypeTree) → Tokens ts → result_at ts ≡ Ok (x, rest) → Took (IsOutcome x) (result_then x) ts rest
unfolding result_at
result_took ts rest x all e =
    let None_of : Option TypeTree = None in
    after_or (after_word (codes "void") ts) (λ r. read None_of r) (type_at 8 ts >>= λ ty. read (Some ty.0) ty.1) (x, rest) (Took (IsOutcome x) (result_then x) ts rest)
    (λ us is f. moved IsOutcome result_then None x ts us rest f (word_took (codes "void") ts us all is))
    (λ none f. let ty = bind_ok (type_at 8 ts) (λ ty. read (Some ty.0) ty.1) (x, rest) f in moved IsOutcome result_then (Some ty.0.0) x ts ty.0.1 rest ty.2 (type_took 8 ts ty.0.1 ty.0.0 all ty.1)) e

-- what stands before a next item
abbrev NextTook : (List Lexeme → Option (List Lexeme)) → List Piece → Type 0
NextTook next before = (ts us : List Lexeme) → Tokens ts → next ts ≡ Some us → Took (Unit {0}) (λ ps. before ++ ps) ts us

comma_took : NextTook after_comma (Mark 44 ∷ [])
comma_took ts us all e = sign_took 44 ts us all e

took_none : (ts : List Lexeme) → Tokens ts → Took (Unit {0}) (λ ps. ps) ts ts
took_none ts all = record { fit = tt; tokens = λ ps h. h; left = all }

brace_took : NextTook until_brace []
unfolding until_brace
brace_took ts us all e = cases (after_sign 125 ts) e where
  cases : (o : Option (List Lexeme)) → if_after o (λ r. None) (Some ts) ≡ Some us → Took (Unit {0}) (λ ps. ps) ts us
  cases None is = subst (Took (Unit {0}) (λ ps. ps) ts) (some_is ts us is) (took_none ts all)
  cases (Some r) is = absurd cc

end_took : NextTook until_end []
unfolding until_end
end_took (Word at w ∷ ts) us all e = subst (Took (Unit {0}) (λ ps. ps) (Word at w ∷ ts)) (some_is (Word at w ∷ ts) us e) (took_none (Word at w ∷ ts) all)
end_took (Sign at w ∷ ts) us all e = subst (Took (Unit {0}) (λ ps. ps) (Sign at w ∷ ts)) (some_is (Sign at w ∷ ts) us e) (took_none (Sign at w ∷ ts) all)
end_took (Stray at ∷ ts) us all e = subst (Took (Unit {0}) (λ ps. ps) (Stray at ∷ ts)) (some_is (Stray at ∷ ts) us e) (took_none (Stray at ∷ ts) all)
end_took (Long at ∷ ts) us all e = subst (Took (Unit {0}) (λ ps. ps) (Long at ∷ ts)) (some_is (Long at ∷ ts) us e) (took_none (Long at ∷ ts) all)
end_took (End at ∷ ts) us all e = absurd cc
end_took [] us all e = subst (Took (Unit {0}) (λ ps. ps) []) (some_is [] us e) (took_none [] all)

many_took : {X : Type 0} (Is : X → Type 0) (pieces : X → List Piece → List Piece) (before : List Piece) (next : List Lexeme → Option (List Lexeme)) (begins : List ℕ → Bool) (item : List Lexeme → Reads X)
    → NextTook next before → ItemTook Is pieces item → (n : ℕ) (ts rest : List Lexeme) (xs : List X) → Tokens ts → many_at next begins item n ts ≡ Ok (xs, rest) → Took (AtMost n Is xs) (each_then before pieces xs) ts rest
unfolding many_at
many_took Is pieces before next begins item nexts items zero ts rest xs all e =
    let All = AtMost zero Is in
    after_or (next ts) (λ us. Err (one_too_many begins us)) (read [] ts) (xs, rest) (Took (All xs) (each_then before pieces xs) ts rest)
    (λ us is f. absurd cc)
    (λ none f. moved All (each_then before pieces) [] xs ts ts rest f (took_as (λ h. (tt, omega arith)) (took_none ts all))) e
many_took Is pieces before next begins item nexts items (suc n) ts rest xs all e =
    let All = AtMost (suc n) Is in
    after_or (next ts) (λ us. item us >>= λ x. many_at next begins item n x.1 >>= λ more. read (x.0 ∷ more.0) more.1) (read [] ts) (xs, rest) (Took (All xs) (each_then before pieces xs) ts rest)
    (λ us is f.
    let a = nexts ts us all is in
    let x = bind_ok (item us) (λ x. many_at next begins item n x.1 >>= λ more. read (x.0 ∷ more.0) more.1) (xs, rest) f in
    let b = items us x.0.1 x.0.0 a.left x.1 in
    let more = bind_ok (many_at next begins item n x.0.1) (λ more. read (x.0.0 ∷ more.0) more.1) (xs, rest) x.2 in
    let c = many_took Is pieces before next begins item nexts items n x.0.1 more.0.1 more.0.0 b.left more.1 in
    let few = c.fit.1 in
    moved All (each_then before pieces) (x.0.0 ∷ more.0.0) xs ts more.0.1 rest more.2 (took_as (λ h. ((b.fit, c.fit.0), omega arith)) (then_took a (then_took b c))))
    (λ none f. moved All (each_then before pieces) [] xs ts ts rest f (took_as (λ h. (tt, omega arith)) (took_none ts all))) e

-- a first item, and more with a comma before each
listed_took : {X : Type 0} (Is : X → Type 0) (pieces : X → List Piece → List Piece) (begins : List ℕ → Bool) (item : List Lexeme → Reads X) → ItemTook Is pieces item → (n : ℕ) (ts rest : List Lexeme) (xs : List X) → Tokens ts
    → (item ts >>= λ x. many_at after_comma begins item n x.1 >>= λ more. read (x.0 ∷ more.0) more.1) ≡ Ok (xs, rest) → Took (AtMost (n + 1) Is xs × (1 ≤ length xs)) (commas_then pieces xs) ts rest
listed_took Is pieces begins item items n ts rest xs all e =
    let x = bind_ok (item ts) (λ x. many_at after_comma begins item n x.1 >>= λ more. read (x.0 ∷ more.0) more.1) (xs, rest) e in
    let a = items ts x.0.1 x.0.0 all x.1 in
    let more = bind_ok (many_at after_comma begins item n x.0.1) (λ more. read (x.0.0 ∷ more.0) more.1) (xs, rest) x.2 in
    let b = many_took Is pieces (Mark 44 ∷ []) after_comma begins item comma_took items n x.0.1 more.0.1 more.0.0 a.left more.1 in
    let few = b.fit.1 in
    moved (λ ys. AtMost (n + 1) Is ys × (1 ≤ length ys)) (commas_then pieces) (x.0.0 ∷ more.0.0) xs ts more.0.1 rest more.2
    (took_as (λ h. (((a.fit, b.fit.0), omega arith), omega arith)) (then_took a b))

params_took : (ts rest : List Lexeme) (xs : List ParamTree) → Tokens ts → params_at ts ≡ Ok (xs, rest) → Took (AtMost 16 IsParam xs) (commas_then param_then xs) ts rest
unfolding params_at some_params_at
params_took ts rest xs all e =
    let none_of : List ParamTree = [] in
    after_or (after_sign 41 ts) (λ r. read none_of ts) (some_params_at ts) (xs, rest) (Took (AtMost 16 IsParam xs) (commas_then param_then xs) ts rest)
    (λ us is f. moved (AtMost 16 IsParam) (commas_then param_then) [] xs ts ts rest f (took_as (λ h. (tt, omega arith)) (took_none ts all)))
    (λ none f. took_as (λ h. h.0) (listed_took IsParam param_then is_param_word param_at param_took 15 ts rest xs all f)) e

op_took : ItemTook IsOp op_then op_at
unfolding op_at
op_took ts rest x all e =
    let Goal = Took (IsOp x) (op_then x) ts rest in
    step IsOutcome result_then result_at result_took ts _ (x, rest) Goal all (λ outcome us a.
    step IsWord name_then name_at name_took us _ (x, rest) Goal a.left (λ name vs b.
    mark 40 vs _ (x, rest) Goal b.left (λ ws c.
    step (AtMost 16 IsParam) (commas_then param_then) params_at params_took ws _ (x, rest) Goal c.left (λ params xs d.
    mark 41 xs _ (x, rest) Goal d.left (λ ys f.
    mark 59 ys _ (x, rest) Goal f.left (λ zs g is.
    moved IsOp op_then (record { outcome = outcome; name = name; params = params }) x ts zs rest is
    (took_as (λ h. (a.fit, b.fit, d.fit)) (then_took a (then_took b (then_took c (then_took d (then_took f g)))))))))))) e

ops_took : ItemTook (AtMost 64 IsOp) (each_then [] op_then) ops_at
unfolding ops_at
ops_took ts rest xs all e = many_took IsOp op_then [] until_brace is_op_word op_at brace_took op_took 64 ts rest xs all e

names_took : (n : ℕ) → ItemTook (λ names. AtMost (n - 1 + 1) IsWord names × (1 ≤ length names)) (commas_then name_then) (λ ts. names_at n ts)
unfolding names_at
names_took n ts rest xs all e = listed_took IsWord name_then is_name_word name_at name_took (n - 1) ts rest xs all e

bases_took : ItemTook (λ bases. AllByRecursion IsWord bases) bases_then bases_at
unfolding bases_at
bases_took ts rest xs all e =
    let none_of : List Named = [] in
    after_or (after_sign 58 ts) (λ r. names_at (length r) r) (read none_of ts) (xs, rest) (Took (AllByRecursion IsWord xs) (bases_then xs) ts rest)
    (λ us is f.
    let a = sign_took 58 ts us all is in
    some (xs) us (then_took a (names_took (length us) us rest xs a.left f)))
    (λ none f. moved (λ bases. AllByRecursion IsWord bases) bases_then [] xs ts ts rest f (took_as (λ h. tt) (took_none ts all))) e where
      some : (names : List Named) (us : List Lexeme) → Took (Unit {0} × (AtMost (length us - 1 + 1) IsWord names × (1 ≤ length names))) (λ ps. Mark 58 ∷ commas_then name_then names ps) ts rest → Took (AllByRecursion IsWord names) (bases_then names) ts rest
      some [] us took = let none = took.fit.1.1 in absurd (omega arith)
      some (x ∷ names) us took = took_as (λ h. h.1.0.0) took

-- `}` and `;`
closed : (ts rest : List Lexeme) → Tokens ts → end_at ts ≡ Ok rest → Took (Unit {0}) (λ ps. Mark 125 ∷ Mark 59 ∷ ps) ts rest
unfolding end_at
closed ts rest all e =
    mark 125 ts _ rest (Took (Unit {0}) (λ ps. Mark 125 ∷ Mark 59 ∷ ps) ts rest) all (λ us a is. took_as (λ h. tt) (then_took a (mark_took 59 us rest a.left is))) e

close : {Y : Type 0} (ts : List Lexeme) (f : List Lexeme → Result Y IdlRefused) (y : Y) (Goal : Type 0) → Tokens ts
    → ((us : List Lexeme) → Took (Unit {0}) (λ ps. Mark 125 ∷ Mark 59 ∷ ps) ts us → f us ≡ Ok y → Goal) → (end_at ts >>= f) ≡ Ok y → Goal
close ts f y Goal all next e = cases (end_at ts) refl e where
  cases : (r : Result (List Lexeme) IdlRefused) → end_at ts ≡ r → (r >>= f) ≡ Ok y → Goal
  cases (Ok us) is g = next us (closed ts us all is) g
  cases (Err d) is g = absurd cc

abbrev Fields : List FieldTree → Type 0
Fields fields = AtMost 64 IsField fields × (1 ≤ length fields)

fields_took : ItemTook Fields (each_then [] field_then) fields_at
unfolding fields_at
fields_took ts rest xs all e =
    let Goal = Took (Fields xs) (each_then [] field_then xs) ts rest in
    step IsField field_then field_at field_took ts _ (xs, rest) Goal all (λ first us a.
    step (AtMost 63 IsField) (each_then [] field_then) (λ vs. many_at until_brace is_type_word field_at 63 vs) (λ vs ws ys h f. many_took IsField field_then [] until_brace is_type_word field_at brace_took field_took 63 vs ws ys h f) us _ (xs, rest) Goal a.left (λ more vs b is.
    let few = b.fit.1 in
    moved Fields (each_then [] field_then) (first ∷ more) xs ts vs rest is (took_as (λ h. (((a.fit, b.fit.0), omega arith), omega arith)) (then_took a b)))) e

-- what follows the first word of a declaration
struct_took : (ts us rest : List Lexeme) (x : DeclTree) → Took (Unit {0}) (λ ps. Own (codes "struct") ∷ ps) ts us → struct_at us ≡ Ok (x, rest) → Took (IsDecl x) (decl_then x) ts rest
unfolding struct_at
struct_took ts us rest x word e =
    let Goal = Took (IsDecl x) (decl_then x) ts rest in
    step IsWord name_then name_at name_took us _ (x, rest) Goal word.left (λ name vs a.
    mark 123 vs _ (x, rest) Goal a.left (λ ws b.
    step Fields (each_then [] field_then) fields_at fields_took ws _ (x, rest) Goal b.left (λ fields xs c.
    close xs _ (x, rest) Goal c.left (λ ys d is.
    moved IsDecl decl_then (StructOf name fields) x ts ys rest is (took_as (λ h. (a.fit, c.fit.0, c.fit.1)) (then_took word (then_took a (then_took b (then_took c d))))))))) e

enum_took : (ts us rest : List Lexeme) (x : DeclTree) → Took (Unit {0}) (λ ps. Own (codes "enum") ∷ ps) ts us → enum_at us ≡ Ok (x, rest) → Took (IsDecl x) (decl_then x) ts rest
unfolding enum_at
enum_took ts us rest x word e =
    let Goal = Took (IsDecl x) (decl_then x) ts rest in
    step IsWord name_then name_at name_took us _ (x, rest) Goal word.left (λ name vs a.
    mark 123 vs _ (x, rest) Goal a.left (λ ws b.
    step (λ names. AtMost (64 - 1 + 1) IsWord names × (1 ≤ length names)) (commas_then name_then) (λ ls. names_at 64 ls) (names_took 64) ws _ (x, rest) Goal b.left (λ names xs c.
    close xs _ (x, rest) Goal c.left (λ ys d is.
    moved IsDecl decl_then (EnumOf name names) x ts ys rest is (took_as (λ h. (a.fit, c.fit.0, c.fit.1)) (then_took word (then_took a (then_took b (then_took c d))))))))) e

interface_took : (ts us rest : List Lexeme) (x : DeclTree) → Took (Unit {0}) (λ ps. Own (codes "interface") ∷ ps) ts us → interface_at us ≡ Ok (x, rest) → Took (IsDecl x) (decl_then x) ts rest
unfolding interface_at
interface_took ts us rest x word e =
    let Goal = Took (IsDecl x) (decl_then x) ts rest in
    step IsWord name_then name_at name_took us _ (x, rest) Goal word.left (λ name vs a.
    step (λ bases. AllByRecursion IsWord bases) bases_then bases_at bases_took vs _ (x, rest) Goal a.left (λ bases ws b.
    mark 123 ws _ (x, rest) Goal b.left (λ ls c.
    step (AtMost 64 IsOp) (each_then [] op_then) ops_at ops_took ls _ (x, rest) Goal c.left (λ ops xs d.
    close xs _ (x, rest) Goal d.left (λ ys f is.
    moved IsDecl decl_then (InterfaceOf name bases ops) x ts ys rest is (took_as (λ h. (a.fit, b.fit, d.fit)) (then_took word (then_took a (then_took b (then_took c (then_took d f))))))))))) e

decl_took : ItemTook IsDecl decl_then decl_at
unfolding decl_at
decl_took ts rest x all e =
    let Goal = Took (IsDecl x) (decl_then x) ts rest in
    let none : Reads DeclTree = Err (refused Token ts) in
    let third : Reads DeclTree = if_after (after_word (codes "interface") ts) interface_at none in
    let second : Reads DeclTree = if_after (after_word (codes "enum") ts) enum_at third in
    after_or (after_word (codes "struct") ts) struct_at second (x, rest) Goal (λ us is f. struct_took ts us rest x (word_took (codes "struct") ts us all is) f)
    (λ no1. after_or (after_word (codes "enum") ts) enum_at third (x, rest) Goal (λ us is f. enum_took ts us rest x (word_took (codes "enum") ts us all is) f)
    (λ no2. after_or (after_word (codes "interface") ts) interface_at none (x, rest) Goal (λ us is f. interface_took ts us rest x (word_took (codes "interface") ts us all is) f) (λ no3 f. absurd cc))) e

-- where the declarations end, the text does
many_ends : (n : ℕ) (ts rest : List Lexeme) (xs : List DeclTree) → many_at until_end is_decl_word decl_at n ts ≡ Ok (xs, rest) → until_end rest ≡ None
unfolding many_at
many_ends zero ts rest xs e =
    after_or (until_end ts) (λ us. Err (one_too_many is_decl_word us)) (read [] ts) (xs, rest) (until_end rest ≡ None) (λ us is f. absurd cc)
    (λ none f. subst (λ r. until_end r ≡ None) (read_is [] xs ts rest f).1 none) e
many_ends (suc n) ts rest xs e =
    after_or (until_end ts) (λ us. decl_at us >>= λ x. many_at until_end is_decl_word decl_at n x.1 >>= λ more. read (x.0 ∷ more.0) more.1) (read [] ts) (xs, rest) (until_end rest ≡ None)
    (λ us is f.
    let x = bind_ok (decl_at us) (λ x. many_at until_end is_decl_word decl_at n x.1 >>= λ more. read (x.0 ∷ more.0) more.1) (xs, rest) f in
    let more = bind_ok (many_at until_end is_decl_word decl_at n x.0.1) (λ more. read (x.0.0 ∷ more.0) more.1) (xs, rest) x.2 in
    subst (λ r. until_end r ≡ None) (read_is (x.0.0 ∷ more.0.0) xs more.0.1 rest more.2).1 (many_ends n x.0.1 more.0.1 more.0.0 more.1))
    (λ none f. subst (λ r. until_end r ≡ None) (read_is [] xs ts rest f).1 none) e

ended : (ts : List Lexeme) → Tokens ts → until_end ts ≡ None → AreTokens [] ts
unfolding until_end
ended (End at ∷ rest) all e = subst (λ r. AreTokens [] (End at ∷ r)) (sym all.1) tt
ended (Word at w ∷ rest) all e = absurd cc
ended (Sign at c ∷ rest) all e = absurd cc
ended (Stray at ∷ rest) all e = absurd cc
ended (Long at ∷ rest) all e = absurd cc
ended [] all e = absurd cc

-- what is read of a text is declared there
pub idl_found : (text : List ℕ) (decls : List DeclTree) → idl_at text ≡ Ok decls → IsTextOf text decls
unfolding idl_at
idl_found text decls e =
    let ts = tokens_of text in
    let fit = tokens_fit Gap 0 text in
    let ds = bind_ok (many_at until_end is_decl_word decl_at 256 ts) (λ ds. done ds.0) decls e in
    let took = many_took IsDecl decl_then [] until_end is_decl_word decl_at end_took decl_took 256 ts ds.0.1 ds.0.0 fit ds.1 in
    subst (IsTextOf text) (ok_is ds.0.0 decls ds.2) (took.fit, took.tokens [] (ended ds.0.1 took.left (many_ends 256 ts ds.0.1 ds.0.0 ds.1)))
