-- Which declaration reaches which through bases, or through the types of fields.
use Rattle.std.specs.Prelude.{ℕ, zero, suc, List, [], ◌∷◌, length, Bool, false, ◌||◌, map, get_or, if◌then◌else◌, count_by}
use Rattle.idl_reader.specs.Tree.{DeclTree}
use Rattle.idl_check.specs.Names.{decl_name, has_name, parts_of}

-- a table of answers, a row for each declaration, and in it one for each declaration
abbrev pub at : List (List Bool) → ℕ → ℕ → Bool
at rows i j = get_or (get_or rows i []) j false

-- a declaration is made of each of these, or not
unfoldable pub direct_row : List DeclTree → DeclTree → List Bool
direct_row decls d = map (λ e. has_name (decl_name e).text (parts_of d)) decls

-- the first is made of the second
abbrev pub direct : List DeclTree → List (List Bool)
direct decls = map (λ d. direct_row decls d) decls

abbrev pub either_row : List Bool → List Bool → List Bool
either_row [] bs = []
either_row (a ∷ others) [] = a ∷ either_row others []
either_row (a ∷ others) (b ∷ bs) = (a || b) ∷ either_row others bs

-- what leads to the k-th leads on to all that the k-th leads to
abbrev pub through_row : ℕ → List Bool → List Bool → List Bool
through_row k via row = if get_or row k false then either_row row via else row

unfoldable pub through : ℕ → List (List Bool) → List (List Bool)
through k rows = map (λ row. through_row k (get_or rows k []) row) rows

-- ways through the first k declarations
unfoldable pub ways : ℕ → List (List Bool) → List (List Bool)
ways zero rows = rows
ways (suc k) rows = through k (ways k rows)

-- which declaration reaches which
abbrev pub reached : List DeclTree → List (List Bool)
reached decls = ways (length decls) (direct decls)

-- how many declarations each reaches
abbrev pub ranks_of : List DeclTree → List ℕ
ranks_of decls = map (λ row. count_by (λ b. b) row) (reached decls)
