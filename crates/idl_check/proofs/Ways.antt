-- The ways through more and more declarations.
use Rattle.std.proofs.Common.{◌≡◌, ℕ, ◌+◌, List, [], length, Bool, get_or, sym, ap, ◌∙◌, add-one}
use Rattle.std.proofs.lemmas.List.{length-map}
use Rattle.idl_reader.specs.Tree.{DeclTree}
use Rattle.idl_check.specs.Reach.{direct, direct_row, through_row, through, ways}

-- the ways through the first k, a row for each declaration
pub record AreWays (decls : List DeclTree) (k : ℕ) (rows : List (List Bool)) : Type 0 where
  pub are : rows ≡ ways k (direct decls)
  pub all : length rows ≡ length decls

pub length-through : (k : ℕ) (rows : List (List Bool)) → length (through k rows) ≡ length rows
unfolding through
length-through k rows = length-map rows (λ row. through_row k (get_or rows k []) row)

pub ways_first : (decls : List DeclTree) (rows : List (List Bool)) → rows ≡ direct decls → AreWays decls 0 rows
unfolding ways
ways_first decls rows e = record { are = e; all = ap length e ∙ length-map decls (λ d. direct_row decls d) }

pub ways_next : (decls : List DeclTree) (k : ℕ) (rows next : List (List Bool)) → AreWays decls k rows → next ≡ through k rows → AreWays decls (k + 1) next
unfolding ways
ways_next decls k rows next h e =
    let one : ways (k + 1) (direct decls) ≡ through k (ways k (direct decls)) = ap (λ m. ways m (direct decls)) (add-one k) in
    record { are = e ∙ ap (through k) h.are ∙ sym one; all = ap length e ∙ length-through k rows ∙ h.all }
