-- Words in their places: what is read is spelled so, and what is spelled so is read.
use Rattle.std.proofs.Common.{◌≡◌, ℕ, ◌≤◌, List, [], ◌∷◌, ◌++◌, length, codes, Bool, true, false, cond, ◌&&◌, eqb, leb, Option, Some, None, Result, Ok, Err, refl, ap, subst, ◌∙◌, arith, lit≤, inl, inr, ◌⊎◌}
use Rattle.std.specs.List.{flat_map, list_all}
use Rattle.std.proofs.lemmas.Bool.{and_parts}
use Rattle.std.proofs.lemmas.Bool.Decides.{nat_tests}
use Rattle.text_words.proofs.Splits.{join_spaced}
use Rattle.std.specs.Bool.{Decides}
use Rattle.std.proofs.lemmas.Slice.Eq.{bytes_eq-Decides}
use Rattle.std.specs.Fmt.{decimal}
use Rattle.std.specs.Str.{bytes_eq}
use Rattle.hex.specs.Hex.{encode_lower}
use Rattle.text_words.specs.Words.{is_letter, is_name_char, is_name, IsName, IsPath, IsHexBytes, path_word, path_of, hex_of}
use Rattle.text_words.specs.Numbers.{number_of, address_of}
use Rattle.text_words.specs.Lines.{IsWord}
use Rattle.text_words.proofs.NumberLaws.{number_is, number_again}
use Rattle.text_words.proofs.HexLaws.{hex_is, hex_again}
use Rattle.text_words.proofs.WordLaws.{path_is, path_again}
use Rattle.text_words.proofs.Spellings.{name_word, name_length, decimal_word, number_length, address_length, hex_word, hex_length, path_is_word, path_length}
use Rattle.script_text.specs.declared.script.Sub.{Sub}
use Rattle.script_text.specs.declared.script.Sub.TheVariants as subs
use Rattle.script_text.specs.declared.why.ScriptWhy.{ScriptWhy}
use Rattle.script_text.specs.declared.why.ScriptWhy.TheVariants as why
use Rattle.script_text.specs.Grammar.{sub_word, mode_word, root_or_path, IsNumber, IsAddress, IsRootOrPath}
use Rattle.script_text.specs.Reading.{◌>>=◌, or_why, name_at, path_at, root_or_path_at, sub_at, mode_at, number_at, address_at, hex_at}

-- what is read in a place, how it is written, and what can be written
pub record Reads {A : Type 0} (read : List ℕ → Result A ScriptWhy) (write : A → List ℕ) (Is : A → Type 0) (most : ℕ) : Type 0 where
  pub found : (w : List ℕ) (x : A) → read w ≡ Ok x → (w ≡ write x) × Is x
  pub again : (x : A) → Is x → read (write x) ≡ Ok x
  pub word : (x : A) → Is x → IsWord (write x)
  pub short : (x : A) → Is x → length (write x) ≤ most

abbrev pub done : {A : Type 0} → A → Result A ScriptWhy
done x = Ok x

pub ok_is : {A : Type 0} (x y : A) → done x ≡ done y → x ≡ y
ok_is x y e = cc

-- the value of a step that did not fail
pub bind_ok : {A B : Type 0} (r : Result A ScriptWhy) (f : A → Result B ScriptWhy) (y : B) → (r >>= f) ≡ Ok y → (x : A) × (r ≡ Ok x) × (f x ≡ Ok y)
bind_ok (Ok x) f y e = (x, refl, e)
bind_ok (Err w) f y e = absurd cc

pub step : {A B : Type 0} (r : Result A ScriptWhy) (x : A) (f : A → Result B ScriptWhy) → r ≡ Ok x → (r >>= f) ≡ f x
step r x f e = ap (λ (s : Result _ ScriptWhy). s >>= f) e

guarded : {A : Type 0} (b : Bool) (w : ScriptWhy) (x y : A) → cond b (done x) (Err w) ≡ done y → (b ≡ true) × (x ≡ y)
guarded true w x y e = (refl, ok_is x y e)
guarded false w x y e = absurd cc

pub name_reads : Reads name_at (λ w. w) IsName 16
unfolding name_at
name_reads = record {
  found = λ w x e. let g = guarded (is_name w) why.Name w x e in (g.1, subst IsName g.1 g.0);
  again = λ x is. rw is refl;
  word = name_word;
  short = λ x is. (name_length x is).1;
}

pub some_of : {A : Type 0} (w : ScriptWhy) (o : Option A) (x : A) → or_why w o ≡ done x → o ≡ Some x
some_of w None x e = absurd cc
some_of w (Some y) x e = ap (λ (z : _). Some z) (ok_is y x e)

pub path_reads : Reads path_at path_word IsPath 135
unfolding path_at
path_reads = record {
  found = λ w x e. path_is w x (some_of why.Name (path_of w) x e);
  again = λ x is. ap (or_why why.Name) (path_again x is);
  word = path_is_word;
  short = path_length;
}

pub number_reads : Reads number_at decimal IsNumber 10
unfolding number_at
number_reads = record {
  found = λ w x e. number_is 4294967296 x w (lit≤ tt) (some_of why.Number (number_of w) x e);
  again = λ x is. ap (or_why why.Number) (number_again 4294967296 x (lit≤ tt) is);
  word = λ x is. decimal_word x (omega arith);
  short = number_length;
}

pub address_reads : Reads address_at decimal IsAddress 19
unfolding address_at
address_reads = record {
  found = λ w x e. number_is 9223372036854775808 x w (lit≤ tt) (some_of why.Number (address_of w) x e);
  again = λ x is. ap (or_why why.Number) (number_again 9223372036854775808 x (lit≤ tt) is);
  word = λ x is. decimal_word x (omega arith);
  short = address_length;
}

pub hex_reads : Reads hex_at encode_lower IsHexBytes 8192
unfolding hex_at
hex_reads = record {
  found = λ w x e. hex_is w x (some_of why.Hex (hex_of w) x e);
  again = λ x is. ap (or_why why.Hex) (hex_again x is);
  word = hex_word;
  short = hex_length;
}

-- a test, or what comes after it
pub chosen : {A : Type 0} (b : Bool) (x y : A) (rest : Result A ScriptWhy) → cond b (done x) rest ≡ done y → ((b ≡ true) × (x ≡ y)) ⊎ (rest ≡ done y)
chosen true x y rest e = inl (refl, ok_is x y e)
chosen false x y rest e = inr e

decided : {b : Bool} {P : Type 0} → Decides b P → b ≡ true → P
decided h e = h.0 e

pub same_word : (w v : List ℕ) → bytes_eq w v ≡ true → w ≡ v
same_word w v e = decided (bytes_eq-Decides w v) e

spelled_sub : (w v : List ℕ) (x y : Sub) → (bytes_eq w v ≡ true) × (x ≡ y) → v ≡ sub_word x → w ≡ sub_word y
spelled_sub w v x y h is = same_word w v h.0 ∙ is ∙ ap sub_word h.1

sub_found : (w : List ℕ) (x : Sub) → sub_at w ≡ Ok x → w ≡ sub_word x
unfolding sub_at
sub_found w x e =
    elim (chosen (bytes_eq w (codes "singleton")) subs.Singleton x _ e) [
      | inl h ↦ spelled_sub w _ subs.Singleton x h refl
      | inr a ↦ elim (chosen (bytes_eq w (codes "cluster")) subs.Cluster x _ a) [
        | inl h ↦ spelled_sub w _ subs.Cluster x h refl
        | inr b ↦ elim (chosen (bytes_eq w (codes "caching")) subs.Caching x _ b) [
          | inl h ↦ spelled_sub w _ subs.Caching x h refl
          | inr c ↦ let g = guarded (bytes_eq w (codes "reconnectable")) why.Name subs.Reconnectable x c in spelled_sub w _ subs.Reconnectable x g refl
        ]
      ]
    ]

sub_again : (x : Sub) → sub_at (sub_word x) ≡ Ok x
unfolding sub_at
sub_again subs.Singleton = refl
sub_again subs.Cluster = refl
sub_again subs.Caching = refl
sub_again subs.Reconnectable = refl

sub_is_word : (x : Sub) → IsWord (sub_word x)
sub_is_word subs.Singleton = refl
sub_is_word subs.Cluster = refl
sub_is_word subs.Caching = refl
sub_is_word subs.Reconnectable = refl

sub_short : (x : Sub) → length (sub_word x) ≤ 13
sub_short subs.Singleton = lit≤ tt
sub_short subs.Cluster = lit≤ tt
sub_short subs.Caching = lit≤ tt
sub_short subs.Reconnectable = lit≤ tt

pub sub_reads : Reads sub_at sub_word (λ _. Unit {0}) 13
sub_reads = record {
  found = λ w x e. (sub_found w x e, tt);
  again = λ x is. sub_again x;
  word = λ x is. sub_is_word x;
  short = λ x is. sub_short x;
}

spelled_mode : (w v : List ℕ) (x y : Bool) → (bytes_eq w v ≡ true) × (x ≡ y) → v ≡ mode_word x → w ≡ mode_word y
spelled_mode w v x y h is = same_word w v h.0 ∙ is ∙ ap mode_word h.1

mode_found : (w : List ℕ) (x : Bool) → mode_at w ≡ Ok x → w ≡ mode_word x
unfolding mode_at
mode_found w x e =
    elim (chosen (bytes_eq w (codes "r")) false x _ e) [
      | inl h ↦ spelled_mode w _ false x h refl
      | inr a ↦ let g = guarded (bytes_eq w (codes "w")) why.Name true x a in spelled_mode w _ true x g refl
    ]

mode_again : (x : Bool) → mode_at (mode_word x) ≡ Ok x
unfolding mode_at
mode_again true = refl
mode_again false = refl

mode_is_word : (x : Bool) → IsWord (mode_word x)
mode_is_word true = refl
mode_is_word false = refl

mode_short : (x : Bool) → length (mode_word x) ≤ 1
mode_short true = lit≤ tt
mode_short false = lit≤ tt

pub mode_reads : Reads mode_at mode_word (λ _. Unit {0}) 1
mode_reads = record {
  found = λ w x e. (mode_found w x e, tt);
  again = λ x is. mode_again x;
  word = λ x is. mode_is_word x;
  short = λ x is. mode_short x;
}

root_found : (w : List ℕ) (x : Option (List (List ℕ))) → root_or_path_at w ≡ Ok x → (w ≡ root_or_path x) × IsRootOrPath x
unfolding root_or_path_at
root_found w x e =
    elim (chosen (bytes_eq w (codes "/")) None x (path_at w >>= λ path. Ok (Some path)) e) [
      | inl h ↦ subst (λ (o : Option (List (List ℕ))). (w ≡ root_or_path o) × IsRootOrPath o) h.1 (same_word w (codes "/") h.0, tt)
      | inr a ↦
          let b = bind_ok (path_at w) (λ path. done (Some path)) x a in
          subst (λ (o : Option (List (List ℕ))). (w ≡ root_or_path o) × IsRootOrPath o) (ok_is (Some b.0) x b.2) (path_reads.found w b.0 b.1)
    ]

letter_first : (c : ℕ) → (leb 97 c && leb c 122) ≡ true → eqb c 47 ≡ false
letter_first c h = grind (arith, nat_tests, h)

not_root_name : (w rest : List ℕ) → is_name w ≡ true → bytes_eq (w ++ rest) (codes "/") ≡ false
not_root_name [] rest h = absurd cc
not_root_name (c ∷ cs) rest h =
    let a = and_parts (is_letter c && list_all is_name_char cs) (leb (length cs) 15) h in
    let b = and_parts (is_letter c) (list_all is_name_char cs) a.0 in
    let other = letter_first c b.0 in
    rw other refl

not_root : (path : List (List ℕ)) → IsPath path → bytes_eq (path_word path) (codes "/") ≡ false
not_root [] h = absurd cc
not_root (part ∷ parts) h =
    let a = and_parts (leb 1 (length (part ∷ parts)) && leb (length (part ∷ parts)) 8) (is_name part && list_all is_name parts) h in
    let b = and_parts (is_name part) (list_all is_name parts) a.1 in
    ap (λ (w : List ℕ). bytes_eq w (codes "/")) (join_spaced 47 part parts) ∙ not_root_name part (flat_map (λ w. 47 ∷ w) parts) b.0

root_again : (x : Option (List (List ℕ))) → IsRootOrPath x → root_or_path_at (root_or_path x) ≡ Ok x
unfolding root_or_path_at
root_again None h = refl
root_again (Some path) h =
    let other = not_root path h in
    rw other (step (path_at (path_word path)) path (λ p. Ok (Some p)) (path_reads.again path h))

root_is_word : (x : Option (List (List ℕ))) → IsRootOrPath x → IsWord (root_or_path x)
root_is_word None h = refl
root_is_word (Some path) h = path_is_word path h

root_short : (x : Option (List (List ℕ))) → IsRootOrPath x → length (root_or_path x) ≤ 135
root_short None h = lit≤ tt
root_short (Some path) h = path_length path h

pub root_reads : Reads root_or_path_at root_or_path IsRootOrPath 135
root_reads = record { found = root_found; again = root_again; word = root_is_word; short = root_short }
