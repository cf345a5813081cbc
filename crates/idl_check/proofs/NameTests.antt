-- What the tests of names mean.
use Rattle.std.proofs.Common.{◌≡◌, ℕ, List, map, true, false, ◌&&◌}
use Rattle.std.specs.Str.{bytes_eq}
use Rattle.std.proofs.lemmas.Bool.{both_ways, and_parts, and_from}
use Rattle.std.proofs.lemmas.List.Folds.{Any-from_list_any, list_any-from_Any}
use Rattle.std.proofs.lemmas.Slice.Eq.{bytes_eq-Decides}
use Rattle.idl_reader.specs.declared.idl.Word.{Word}
use Rattle.idl_reader.specs.Tree.{DeclTree}
use Rattle.idl_check.specs.Names.{decl_name, is_interface, has_name}
use Rattle.idl_check.specs.Verdict.{declares, declares_interface}
use Rattle.idl_check.specs.FitsTogether.{HasName, IsDeclared, IsInterface}
use Rattle.idl_check.proofs.Lists.{any_weaker, any_map, map_any}

pub same_text : (a b : List ℕ) → bytes_eq a b ≡ true → a ≡ b
same_text a b e = (bytes_eq-Decides a b).0 e

pub text_same : (a b : List ℕ) → a ≡ b → bytes_eq a b ≡ true
text_same a b e = (bytes_eq-Decides a b).1 e

-- one of the words is the name, exactly where the test says so
pub named : (name : List ℕ) (words : List Word) → has_name name words ≡ true → HasName name words
named name words e = any_weaker (λ (w : Word). bytes_eq w.text name ≡ true) (λ w. w.text ≡ name) (λ w is. same_text w.text name is) words (Any-from_list_any (λ w. bytes_eq w.text name) words e)

pub is_named : (name : List ℕ) (words : List Word) → HasName name words → has_name name words ≡ true
is_named name words a = list_any-from_Any (λ w. bytes_eq w.text name) words (any_weaker (λ (w : Word). w.text ≡ name) (λ w. bytes_eq w.text name ≡ true) (λ w is. text_same w.text name is) words a)

pub not_named : (name : List ℕ) (words : List Word) → has_name name words ≡ false → HasName name words → ⊥
not_named name words e a = both_ways (has_name name words) e (is_named name words a)

-- a declaration has the name
pub declared : (decls : List DeclTree) (word : Word) → declares decls word ≡ true → IsDeclared decls word
declared decls word e = map_any (λ (w : Word). w.text ≡ word.text) (λ d. decl_name d) decls (named word.text (map (λ d. decl_name d) decls) e)

pub is_declared : (decls : List DeclTree) (word : Word) → IsDeclared decls word → declares decls word ≡ true
is_declared decls word a = is_named word.text (map (λ d. decl_name d) decls) (any_map (λ (w : Word). w.text ≡ word.text) (λ d. decl_name d) decls a)

pub not_declared : (decls : List DeclTree) (word : Word) → declares decls word ≡ false → IsDeclared decls word → ⊥
not_declared decls word e a = both_ways (declares decls word) e (is_declared decls word a)

-- an interface has the name
pub interface : (decls : List DeclTree) (word : Word) → declares_interface decls word ≡ true → IsInterface decls word
interface decls word e =
    any_weaker (λ (d : DeclTree). (is_interface d && bytes_eq (decl_name d).text word.text) ≡ true) (λ d. (is_interface d ≡ true) × ((decl_name d).text ≡ word.text))
    (λ d is. let both = and_parts (is_interface d) (bytes_eq (decl_name d).text word.text) is in (both.0, same_text (decl_name d).text word.text both.1)) decls
    (Any-from_list_any (λ d. is_interface d && bytes_eq (decl_name d).text word.text) decls e)

pub is_interface_named : (decls : List DeclTree) (word : Word) → IsInterface decls word → declares_interface decls word ≡ true
is_interface_named decls word a =
    list_any-from_Any (λ d. is_interface d && bytes_eq (decl_name d).text word.text) decls
    (any_weaker (λ (d : DeclTree). (is_interface d ≡ true) × ((decl_name d).text ≡ word.text)) (λ d. (is_interface d && bytes_eq (decl_name d).text word.text) ≡ true)
    (λ d is. and_from (is_interface d) (bytes_eq (decl_name d).text word.text) is.0 (text_same (decl_name d).text word.text is.1)) decls a)

pub not_interface : (decls : List DeclTree) (word : Word) → declares_interface decls word ≡ false → IsInterface decls word → ⊥
not_interface decls word e a = both_ways (declares_interface decls word) e (is_interface_named decls word a)
