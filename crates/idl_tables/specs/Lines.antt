-- Whose operations an interface has, as they are found: those of its bases in order, each once, then its own. The rule of the
-- tables stands in Rule.
use Rattle.std.specs.Prelude.{ℕ, zero, suc, ◌+◌, ◌==◌, List, [], ◌∷◌, ◌++◌, length, Bool, map, get_or, if◌then◌else◌}
use Rattle.std.specs.List.{list_any}
use Rattle.std.specs.Str.{bytes_eq}
use Rattle.idl_reader.specs.Tree.{DeclTree}
use Rattle.idl_check.specs.Names.{decl_name, bases_of}

-- where the declaration of a name stands
abbrev pub spot : List DeclTree → List ℕ → ℕ
spot [] name = 0
spot (d ∷ ds) name = if bytes_eq (decl_name d).text name then 0 else spot ds name + 1

-- where the bases of a declaration stand
unfoldable pub base_spots : List DeclTree → DeclTree → List ℕ
base_spots decls d = map (λ base. spot decls base.text) (bases_of d)

abbrev pub all_spots : List DeclTree → List (List ℕ)
all_spots decls = map (λ d. base_spots decls d) decls

abbrev pub has_spot : ℕ → List ℕ → Bool
has_spot k spots = list_any (λ spot. spot == k) spots

-- each once, where it stands first
abbrev pub once_after : List ℕ → List ℕ → List ℕ
once_after before [] = before
once_after before (k ∷ ks) = if has_spot k before then once_after before ks else once_after (before ++ k ∷ []) ks

-- the lines of the bases in order, each declaration once
abbrev pub merged : List (List ℕ) → List ℕ → List ℕ → List ℕ
merged lines before [] = before
merged lines before (base ∷ bases) = merged lines (once_after before (get_or lines base [])) bases

-- and then this one
unfoldable pub joined_line : List (List ℕ) → List ℕ → ℕ → List ℕ
joined_line lines bases i = merged lines [] bases ++ i ∷ []

abbrev pub next_from : List (List ℕ) → ℕ → List (List ℕ) → List (List ℕ)
next_from lines i [] = []
next_from lines i (bases ∷ more) = joined_line lines bases i ∷ next_from lines (i + 1) more

-- the lines where bases are followed to a depth
unfoldable pub lines_to : ℕ → List (List ℕ) → List (List ℕ)
lines_to zero spots = map (λ bases. []) spots
lines_to (suc n) spots = next_from (lines_to n spots) 0 spots

-- for each declaration, those whose operations it has, in order: no chain of bases is longer than there are declarations
abbrev pub lines_of : List DeclTree → List (List ℕ)
lines_of decls = lines_to (length decls) (all_spots decls)
