-- Hex and paths that are read are what is written, and the other way round.
use Rattle.std.proofs.Common.{◌≡◌, ℕ, ◌≤◌, List, [], ◌∷◌, length, Bool, true, false, ◌&&◌, not, cond, eqb, leb, lit<, Option, Some, None, Result, Ok, Err, refl, sym, ap, subst, ◌∙◌, arith}
use Rattle.std.specs.Prelude.{IfSome, IfOk}
use Rattle.std.specs.List.{join_with_byte, list_all, slice_split}
use Rattle.std.specs.Str.{IsUtf8, IsAscii}
use Rattle.std.proofs.lemmas.Bool.{and_parts, false_from_ne_true, leb-true}
use Rattle.std.proofs.lemmas.Bool.Decides.{nat_tests}
use Rattle.std.proofs.lemmas.List.Splits.{join_with_byte-slice_split}
use Rattle.std.proofs.lemmas.Str.{IsUtf8-from_ascii}
use Rattle.std.proofs.lemmas.Str.Ascii.{IsAscii-cons, IsAscii-nil}
use Rattle.text_words.specs.Words.{is_name, is_name_char, is_path, IsPath, path_of, path_word}
use Rattle.text_words.proofs.Bytes.{name_ascii, name_chars, list_all-weaker}
use Rattle.text_words.proofs.Splits.{lacks, split_joined, join_ascii, each, each_true}

path_parts : (parts : List (List ℕ)) → is_path parts ≡ true → (1 ≤ length parts) × (length parts ≤ 8) × (list_all is_name parts ≡ true)
path_parts parts h =
    let a = and_parts (leb 1 (length parts) && leb (length parts) 8) (list_all is_name parts) h in
    let b = and_parts (leb 1 (length parts)) (leb (length parts) 8) a.0 in
    (leb-true 1 (length parts) b.0, leb-true (length parts) 8 b.1, a.1)

pub path_utf8 : (w : List ℕ) → is_path (slice_split (λ b. eqb b 47) w) ≡ true → IsUtf8 w
path_utf8 w h =
    let names = (path_parts (slice_split (λ b. eqb b 47) w) h).2 in
    let ascii = each {P = λ word. is_name word ≡ true} {Q = IsAscii} name_ascii (slice_split (λ b. eqb b 47) w) (each_true is_name (slice_split (λ b. eqb b 47) w) names) in
    let joined = join_ascii 47 (IsAscii-cons 47 [] (lit< tt) IsAscii-nil) (slice_split (λ b. eqb b 47) w) ascii in
    IsUtf8-from_ascii w (subst IsAscii (join_with_byte-slice_split 47 w) joined)

some_parts : (b : Bool) (m n : List (List ℕ)) → cond b (Some m) None ≡ Some n → (b ≡ true) × (m ≡ n)
some_parts true m n e = (refl, cc)
some_parts false m n e = absurd cc

-- what is read as a path is spelled so
pub path_is : (w : List ℕ) (parts : List (List ℕ)) → path_of w ≡ Some parts → (w ≡ path_word parts) × IsPath parts
unfolding path_of
path_is w parts e =
    let s = some_parts (is_path (slice_split (λ b. eqb b 47) w)) (slice_split (λ b. eqb b 47) w) parts e in
    (sym (join_with_byte-slice_split 47 w) ∙ ap (join_with_byte 47) s.1, subst IsPath s.1 s.0)

no_slash : (c : ℕ) → is_name_char c ≡ true → not (eqb c 47) ≡ true
no_slash c h = grind (arith, nat_tests, h)

name_lacks : (word : List ℕ) → is_name word ≡ true → lacks 47 word ≡ true
name_lacks word h = list_all-weaker is_name_char (λ b. not (eqb b 47)) no_slash word (name_chars word h)

split_names : (parts : List (List ℕ)) → is_path parts ≡ true → slice_split (λ b. eqb b 47) (path_word parts) ≡ parts
split_names [] h = absurd (omega (arith, (path_parts [] h).0))
split_names (part ∷ parts) h =
    split_joined 47 part parts (each {P = λ word. is_name word ≡ true} {Q = λ word. lacks 47 word ≡ true} name_lacks (part ∷ parts) (each_true is_name (part ∷ parts) (path_parts (part ∷ parts) h).2))

-- what is written as a path is read
pub path_again : (parts : List (List ℕ)) → IsPath parts → path_of (path_word parts) ≡ Some parts
unfolding path_of
path_again parts h = rw (split_names parts h, h) refl

pub not_utf8 : (w : List ℕ) → (IsUtf8 w → ⊥) → None ≡ path_of w
unfolding path_of
not_utf8 w h = let other : is_path (slice_split (λ b. eqb b 47) w) ≡ false = false_from_ne_true _ (λ p. h (path_utf8 w p)) in rw other refl

pub read_none : (w text : List ℕ) (parts : List (List ℕ)) → text ≡ w → parts ≡ slice_split (λ b. eqb b 47) text → is_path parts ≡ false → None ≡ path_of w
unfolding path_of
read_none w text parts same split other = let e : parts ≡ slice_split (λ b. eqb b 47) w = split ∙ ap (slice_split (λ b. eqb b 47)) same in rw (ap is_path (sym e) ∙ other) refl

pub read_some : (w text : List ℕ) (parts path : List (List ℕ)) → text ≡ w → parts ≡ slice_split (λ b. eqb b 47) text → is_path parts ≡ true → path ≡ parts → Some path ≡ path_of w
unfolding path_of
read_some w text parts path same split is named = let e : parts ≡ slice_split (λ b. eqb b 47) w = split ∙ ap (slice_split (λ b. eqb b 47)) same in rw (ap is_path (sym e) ∙ is) (ap (λ (p : List (List ℕ)). Some p) (named ∙ e))

pub path_found : {E : Type 0} (w : List ℕ) (r : Result (Option (List (List ℕ))) E) → IfOk r (λ path. path ≡ path_of w) → IfOk r (λ path. IfSome path (λ parts. IsPath parts × (w ≡ path_word parts)))
path_found w (Ok None) e = tt
path_found w (Ok (Some parts)) e = let is = path_is w parts (sym e) in (is.1, is.0)
path_found w (Err d) e = tt

pub path_only : {E : Type 0} (w : List ℕ) (r : Result (Option (List (List ℕ))) E) → IfOk r (λ path. path ≡ path_of w) → (parts : List (List ℕ)) → IsPath parts → w ≡ path_word parts → IfOk r (λ path. path ≡ Some parts)
path_only w (Ok path) e parts h is = e ∙ ap path_of is ∙ path_again parts h
path_only w (Err d) e parts h is = tt
