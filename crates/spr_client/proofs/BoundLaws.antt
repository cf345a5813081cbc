-- The subcontracts of the objects that lines bind and call, and the paths that they are bound under.
use Rattle.std.specs.Prelude.{◌==◌}
use Rattle.std.proofs.Common.{◌≡◌, ◌≤◌, ◌&&◌, ◌∷◌, ℕ, true, List, length, drop, take, ◌-◌, Some, lit<, refl, sym, subst, arith, leb, leb-true}
use Rattle.std.specs.List.{list_all, slice_split}
use Rattle.std.specs.Str.{IsUtf8}
use Rattle.std.proofs.lemmas.List.{take_all}
use Rattle.std.proofs.lemmas.Bool.{and_parts}
use Rattle.std.proofs.lemmas.Option.{cond_some}
use Rattle.text_words.specs.Words.{IsPath, is_name, is_path_word, path_of, path_word}
use Rattle.text_words.proofs.WordLaws.{path_again, path_is, path_utf8}
use Rattle.text_words.proofs.Spellings.{path_length}
use Rattle.name_context.specs.Names.{HasParts}
use Rattle.client_objects.specs.declared.kind.ObjectKind.{ObjectKind}
use Rattle.client_objects.specs.declared.kind.ObjectKind.TheVariants.{Singleton, Cluster, Caching, Reconnectable}
use Rattle.client_objects.specs.Kinds.{id_of}
use Rattle.client_objects.specs.Laws.{MayKeep}

-- a path has its parts
pub has_parts : (path : List (List ℕ)) → IsPath path → HasParts path
has_parts path is =
    let outer = and_parts (leb 1 (length path) && leb (length path) 8) (list_all is_name path) is in
    let inner = and_parts (leb 1 (length path)) (leb (length path) 8) outer.0 in
    let some : 1 ≤ length path = leb-true 1 (length path) inner.0 in
    let few : length path ≤ 8 = leb-true (length path) 8 inner.1 in
    record { some = omega (arith, some); few = omega (arith, few) }

-- its word is a path's
pub word_is_path : (path : List (List ℕ)) → IsPath path → is_path_word (path_word path) ≡ true
unfolding path_of
word_is_path path is = (cond_some (is_path_word (path_word path)) (slice_split (λ b. b == 47) (path_word path)) path (path_again path is)).0

pub word_utf8 : (path : List (List ℕ)) → IsPath path → IsUtf8 (path_word path)
word_utf8 path is = path_utf8 (path_word path) (word_is_path path is)

-- an object of each subcontract may keep it
pub may_keep : (kind : ObjectKind) (path : List (List ℕ)) → IsPath path → MayKeep kind (path_word path)
may_keep Singleton path is = record { name = refl; short = lit< tt }
may_keep Cluster path is = record { name = refl; short = lit< tt }
may_keep Caching path is = record { name = refl; short = lit< tt }
may_keep Reconnectable path is = record { name = word_is_path path is; short = (let few = path_length path is in omega (arith, few)) }

-- what is read of a word that is a path has parts
pub read_parts : (word : List ℕ) (path : List (List ℕ)) → Some path ≡ path_of word → HasParts path
read_parts word path is = has_parts path (path_is word path (sym is)).1

-- a frame may have the identifier
pub id_range : (kind : ObjectKind) → (1 ≤ id_of kind) × (id_of kind ≤ 5)
id_range Singleton = (omega arith, omega arith)
id_range Cluster = (omega arith, omega arith)
id_range Caching = (omega arith, omega arith)
id_range Reconnectable = (omega arith, omega arith)

-- a word behind a space
pub behind_space : (xs word : List ℕ) → xs ≡ 32 ∷ word → take (length xs - 1) (drop 1 xs) ≡ word
behind_space xs word is = subst (λ (ys : List ℕ). take (length ys - 1) (drop 1 ys) ≡ word) (sym is) (take_all (length (32 ∷ word) - 1) word (omega arith))
