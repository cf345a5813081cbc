-- The line of a declaration has those whose operations it has: itself, and those that it inherits from; and each once.
use Rattle.std.proofs.Common.{◌≡◌, ℕ, zero, suc, ◌<◌, ◌≤◌, ◌==◌, List, [], ◌∷◌, ◌++◌, length, Bool, true, false, ◌||◌, cond, get_or, Some, ◌⊎◌, inl, inr, refl, sym, subst, ◌∙◌, arith}
use Rattle.std.specs.Prelude.{slice_get, Any}
use Rattle.std.proofs.lemmas.Bool.{or_cases, or_left, or_right, or_from, or_parts, eqb-true, eqb-false, eq-eqb, ne_eqb, false_from_ne_true, cases_lt}
use Rattle.std.proofs.lemmas.List.{length-map, get_or_past}
use Rattle.std.proofs.lemmas.List.Folds.{list_any-append}
use Rattle.std.proofs.lemmas.Option.{slice_get_within}
use Rattle.idl_reader.specs.declared.idl.Word.{Word}
use Rattle.idl_reader.specs.Tree.{DeclTree}
use Rattle.idl_check.specs.Names.{decl_name, bases_of}
use Rattle.idl_check.specs.Reach.{ranks_of}
use Rattle.idl_check.specs.FitsTogether.{Refers, Directly, Further, Inherits}
use Rattle.idl_check.proofs.Lists.{none_of_nil, any_here, any_later, any_cases, any_at, any_map, map_any, at_any}
use Rattle.idl_check.proofs.Apart.{names_apart}
use Rattle.idl_check.proofs.Ranks.{rank_falls, rank_below}
use Rattle.idl_check.proofs.Clashing.{made_of_inherited}
use Rattle.idl_check.proofs.Exactly.{AreSettled, acyclic_of}
use Rattle.idl_tables.specs.Lines.{spot, base_spots, all_spots, has_spot, once_after, merged, lines_of}
use Rattle.idl_tables.proofs.Stable.{length-lines_to}
use Rattle.idl_tables.proofs.Rule.{line_follows, spot_stands, spot_within}

-- ---- numbers, each once

-- no number stands twice
abbrev pub Distinct : List ℕ → Type 0
Distinct [] = Unit {0}
Distinct (k ∷ ks) = (has_spot k ks ≡ false) × Distinct ks

has-append : (k : ℕ) (xs ys : List ℕ) → has_spot k (xs ++ ys) ≡ (has_spot k xs || has_spot k ys)
has-append k xs ys = list_any-append (λ spot. spot == k) xs ys

has_last : (k j : ℕ) (xs : List ℕ) → has_spot k (xs ++ j ∷ []) ≡ true → (has_spot k xs ≡ true) ⊎ (j ≡ k)
has_last k j xs h = which (or_cases (has_spot k xs) (has_spot k (j ∷ [])) (sym (has-append k xs (j ∷ [])) ∙ h)) where
  single : ((j == k) ≡ true) ⊎ (has_spot k [] ≡ true) → (has_spot k xs ≡ true) ⊎ (j ≡ k)
  single (inl same) = inr (eqb-true j k same)
  single (inr none) = absurd cc

  which : (has_spot k xs ≡ true) ⊎ (has_spot k (j ∷ []) ≡ true) → (has_spot k xs ≡ true) ⊎ (j ≡ k)
  which (inl front) = inl front
  which (inr last) = single (or_cases (j == k) false last)

has_front : (k j : ℕ) (xs : List ℕ) → has_spot k xs ≡ true → has_spot k (xs ++ j ∷ []) ≡ true
has_front k j xs h = has-append k xs (j ∷ []) ∙ or_left (has_spot k xs) (has_spot k (j ∷ [])) h

pub has_itself : (k : ℕ) (xs : List ℕ) → has_spot k (xs ++ k ∷ []) ≡ true
has_itself k xs = has-append k xs (k ∷ []) ∙ or_right (has_spot k xs) (has_spot k (k ∷ [])) (or_left (k == k) false (eq-eqb k k refl))

pub distinct_push : (xs : List ℕ) (k : ℕ) → Distinct xs → has_spot k xs ≡ false → Distinct (xs ++ k ∷ [])
distinct_push [] k d isnt = (refl, tt)
distinct_push (x ∷ xs) k d isnt =
    let both = or_parts (x == k) (has_spot k xs) isnt in
    (has-append x xs (k ∷ []) ∙ or_from (has_spot x xs) (has_spot x (k ∷ [])) d.0 (or_from (k == x) false (ne_eqb k x (λ same. eqb-false x k both.0 (sym same))) refl), distinct_push xs k d.1 both.1)

-- ---- what is joined

distinct_once : (front ks : List ℕ) → Distinct front → Distinct (once_after front ks)
distinct_once front [] d = d
distinct_once front (k ∷ ks) d = cases (has_spot k front) refl (distinct_once front ks d) (λ isnt. distinct_once (front ++ k ∷ []) ks (distinct_push front k d isnt)) where
  cases : (b : Bool) → has_spot k front ≡ b → Distinct (once_after front ks) → (has_spot k front ≡ false → Distinct (once_after (front ++ k ∷ []) ks)) → Distinct (cond b (once_after front ks) (once_after (front ++ k ∷ []) ks))
  cases true is out in_it = out
  cases false isnt out in_it = in_it isnt

pub distinct_merged : (lines : List (List ℕ)) (front bases : List ℕ) → Distinct front → Distinct (merged lines front bases)
distinct_merged lines front [] d = d
distinct_merged lines front (b ∷ bases) d = distinct_merged lines (once_after front (get_or lines b [])) bases (distinct_once front (get_or lines b []) d)

once_has : (k : ℕ) (front ks : List ℕ) → has_spot k (once_after front ks) ≡ true → (has_spot k front ≡ true) ⊎ (has_spot k ks ≡ true)
once_has k front [] h = inl h
once_has k front (j ∷ ks) h = cases (has_spot j front) h (λ e. once_has k front ks e) (λ e. once_has k (front ++ j ∷ []) ks e) where
  later : (has_spot k front ≡ true) ⊎ (has_spot k ks ≡ true) → (has_spot k front ≡ true) ⊎ (has_spot k (j ∷ ks) ≡ true)
  later (inl there) = inl there
  later (inr more) = inr (or_right (j == k) (has_spot k ks) more)

  split : (has_spot k front ≡ true) ⊎ (j ≡ k) → (has_spot k front ≡ true) ⊎ (has_spot k (j ∷ ks) ≡ true)
  split (inl there) = inl there
  split (inr same) = inr (or_left (j == k) (has_spot k ks) (eq-eqb j k same))

  pushed : (has_spot k (front ++ j ∷ []) ≡ true) ⊎ (has_spot k ks ≡ true) → (has_spot k front ≡ true) ⊎ (has_spot k (j ∷ ks) ≡ true)
  pushed (inl there) = split (has_last k j front there)
  pushed (inr more) = inr (or_right (j == k) (has_spot k ks) more)

  cases : (b : Bool) → has_spot k (cond b (once_after front ks) (once_after (front ++ j ∷ []) ks)) ≡ true
      → (has_spot k (once_after front ks) ≡ true → (has_spot k front ≡ true) ⊎ (has_spot k ks ≡ true))
      → (has_spot k (once_after (front ++ j ∷ []) ks) ≡ true → (has_spot k (front ++ j ∷ []) ≡ true) ⊎ (has_spot k ks ≡ true))
      → (has_spot k front ≡ true) ⊎ (has_spot k (j ∷ ks) ≡ true)
  cases true e out in_it = later (out e)
  cases false e out in_it = pushed (in_it e)

once_keeps : (k : ℕ) (front ks : List ℕ) → has_spot k front ≡ true → has_spot k (once_after front ks) ≡ true
once_keeps k front [] h = h
once_keeps k front (j ∷ ks) h = cases (has_spot j front) (once_keeps k front ks h) (once_keeps k (front ++ j ∷ []) ks (has_front k j front h)) where
  cases : (b : Bool) → has_spot k (once_after front ks) ≡ true → has_spot k (once_after (front ++ j ∷ []) ks) ≡ true → has_spot k (cond b (once_after front ks) (once_after (front ++ j ∷ []) ks)) ≡ true
  cases true out in_it = out
  cases false out in_it = in_it

once_adds : (k : ℕ) (front ks : List ℕ) → has_spot k ks ≡ true → has_spot k (once_after front ks) ≡ true
once_adds k front [] h = absurd cc
once_adds k front (j ∷ ks) h = cases (has_spot j front) refl (or_cases (j == k) (has_spot k ks) h) (λ e. once_adds k front ks e) (λ e. once_adds k (front ++ j ∷ []) ks e) where
  cases : (b : Bool) → has_spot j front ≡ b → ((j == k) ≡ true) ⊎ (has_spot k ks ≡ true)
      → (has_spot k ks ≡ true → has_spot k (once_after front ks) ≡ true) → (has_spot k ks ≡ true → has_spot k (once_after (front ++ j ∷ []) ks) ≡ true)
      → has_spot k (cond b (once_after front ks) (once_after (front ++ j ∷ []) ks)) ≡ true
  cases true is (inl same) out in_it = once_keeps k front ks (subst (λ n. has_spot n front ≡ true) (eqb-true j k same) is)
  cases true is (inr more) out in_it = out more
  cases false isnt (inl same) out in_it = once_keeps k (front ++ j ∷ []) ks (subst (λ n. has_spot k (front ++ n ∷ []) ≡ true) (sym (eqb-true j k same)) (has_itself k front))
  cases false isnt (inr more) out in_it = in_it more

-- the line of one of these has it
abbrev pub InLine : List (List ℕ) → ℕ → ℕ → Type 0
InLine lines k b = has_spot k (get_or lines b []) ≡ true

merged_has : (lines : List (List ℕ)) (k : ℕ) (front bases : List ℕ) → has_spot k (merged lines front bases) ≡ true → (has_spot k front ≡ true) ⊎ Any (InLine lines k) bases
merged_has lines k front [] h = inl h
merged_has lines k front (b ∷ bases) h = which (merged_has lines k (once_after front (get_or lines b [])) bases h) where
  split : (has_spot k front ≡ true) ⊎ InLine lines k b → (has_spot k front ≡ true) ⊎ Any (InLine lines k) (b ∷ bases)
  split (inl there) = inl there
  split (inr here) = inr (any_here (InLine lines k) b bases here)

  which : (has_spot k (once_after front (get_or lines b [])) ≡ true) ⊎ Any (InLine lines k) bases → (has_spot k front ≡ true) ⊎ Any (InLine lines k) (b ∷ bases)
  which (inl there) = split (once_has k front (get_or lines b []) there)
  which (inr more) = inr (any_later (InLine lines k) b bases more)

merged_keeps : (lines : List (List ℕ)) (k : ℕ) (front bases : List ℕ) → has_spot k front ≡ true → has_spot k (merged lines front bases) ≡ true
merged_keeps lines k front [] h = h
merged_keeps lines k front (b ∷ bases) h = merged_keeps lines k (once_after front (get_or lines b [])) bases (once_keeps k front (get_or lines b []) h)

merged_adds : (lines : List (List ℕ)) (k : ℕ) (front bases : List ℕ) → Any (InLine lines k) bases → has_spot k (merged lines front bases) ≡ true
merged_adds lines k front [] a = absurd (none_of_nil (InLine lines k) a)
merged_adds lines k front (b ∷ bases) a = which (any_cases (InLine lines k) b bases a) (λ more. merged_adds lines k (once_after front (get_or lines b [])) bases more) where
  which : InLine lines k b ⊎ Any (InLine lines k) bases → (Any (InLine lines k) bases → has_spot k (merged lines (once_after front (get_or lines b [])) bases) ≡ true) → has_spot k (merged lines front (b ∷ bases)) ≡ true
  which (inl here) rest = merged_keeps lines k (once_after front (get_or lines b [])) bases (once_adds k front (get_or lines b []) here)
  which (inr more) rest = rest more

-- ---- whose operations a declaration has

module _ (decls : List DeclTree) (settled : AreSettled decls) where
  abbrev lines : List (List ℕ)
  lines = lines_of decls

  -- a base's declaration stands at its spot
  spot_is : (word : Word) (j : ℕ) (e : DeclTree) → slice_get decls j ≡ Some e → word.text ≡ (decl_name e).text → spot decls word.text ≡ j
  spot_is word j e there same =
      let below = spot_within decls word.text j (record { decl = e; there = there; named = sym same }) in
      let s = spot_stands decls word.text below in
      names_apart [] decls settled.different (spot decls word.text) j s.decl e s.there there (s.named ∙ same)

  within : (k b : ℕ) → InLine lines k b → b < length decls
  within k b h = which (cases_lt b (length decls)) where
    which : (b < length decls) ⊎ (length decls ≤ b) → b < length decls
    which (inl below) = below
    which (inr beyond) =
        let tall : length lines ≡ length decls = length-lines_to (length decls) (all_spots decls) ∙ length-map decls (λ d. base_spots decls d) in
        let none : get_or lines b [] ≡ [] = get_or_past lines b [] (omega arith) in
        let bad : has_spot k [] ≡ true = subst (λ (l : List ℕ). has_spot k l ≡ true) none h in
        absurd cc

  -- the bases whose lines have it, by their spots and by what refers to them
  by_base : (i k : ℕ) (d : DeclTree) → slice_get decls i ≡ Some d → Any (InLine lines k) (base_spots decls d) → (b : ℕ) × Refers bases_of decls i b × InLine lines k b
  unfolding base_spots
  by_base i k d here a =
      let found = at_any (λ (base : Word). InLine lines k (spot decls base.text)) (bases_of d) (map_any (InLine lines k) (λ (base : Word). spot decls base.text) (bases_of d) a) in
      let s = spot_stands decls found.1.text (within k (spot decls found.1.text) found.3) in
      let refers : Refers bases_of decls i (spot decls found.1.text) = record { from = d; from_at = here; to = s.decl; to_at = s.there; named = any_at (λ (w : Word). w.text ≡ (decl_name s.decl).text) (bases_of d) found.0 found.1 found.2 (sym s.named) } in
      (spot decls found.1.text, refers, found.3)

  by_spot : (i k b : ℕ) (r : Refers bases_of decls i b) → InLine lines k b → Any (InLine lines k) (base_spots decls r.from)
  unfolding base_spots
  by_spot i k b r h =
      let found = at_any (λ (w : Word). w.text ≡ (decl_name r.to).text) (bases_of r.from) r.named in
      let place : spot decls found.1.text ≡ b = spot_is found.1 b r.to r.to_at found.3 in
      any_map (InLine lines k) (λ (base : Word). spot decls base.text) (bases_of r.from)
      (any_at (λ (base : Word). InLine lines k (spot decls base.text)) (bases_of r.from) found.0 found.1 found.2 (subst (λ n. InLine lines k n) (sym place) h))

  abbrev rank : ℕ → ℕ
  rank i = get_or (ranks_of decls) i 0

  further : (i b k : ℕ) → Refers bases_of decls i b → (b ≡ k) ⊎ Inherits decls b k → Inherits decls i k
  further i b k r (inl same) = Directly i k (subst (λ n. Refers bases_of decls i n) same r)
  further i b k r (inr more) = Further i b k r more

  -- a line has its own declaration, and those that it inherits from
  has_by_rank : (m i k : ℕ) (d : DeclTree) → slice_get decls i ≡ Some d → rank i < m → InLine lines k i → (i ≡ k) ⊎ Inherits decls i k
  has_by_rank zero i k d here low h = absurd (omega arith)
  has_by_rank (suc m) i k d here low h =
      which (has_last k i (merged lines [] (base_spots decls d)) (subst (λ (l : List ℕ). has_spot k l ≡ true) (line_follows decls settled i d here) h))
      (λ b e there lower inside. has_by_rank m b k e there lower inside)
    where
      next : (b : ℕ) × Refers bases_of decls i b × InLine lines k b → ((b : ℕ) (e : DeclTree) → slice_get decls b ≡ Some e → rank b < m → InLine lines k b → (b ≡ k) ⊎ Inherits decls b k) → (i ≡ k) ⊎ Inherits decls i k
      next found rest =
          let r = found.1 in
          let falls = rank_falls decls (acyclic_of decls settled) i found.0 (made_of_inherited decls i found.0 (Directly i found.0 r)) in
          inr (further i found.0 k r (rest found.0 r.to r.to_at (omega arith) found.2))

      of_bases : (has_spot k [] ≡ true) ⊎ Any (InLine lines k) (base_spots decls d) → ((b : ℕ) (e : DeclTree) → slice_get decls b ≡ Some e → rank b < m → InLine lines k b → (b ≡ k) ⊎ Inherits decls b k) → (i ≡ k) ⊎ Inherits decls i k
      of_bases (inl none) rest = absurd cc
      of_bases (inr some) rest = next (by_base i k d here some) rest

      which : (has_spot k (merged lines [] (base_spots decls d)) ≡ true) ⊎ (i ≡ k) → ((b : ℕ) (e : DeclTree) → slice_get decls b ≡ Some e → rank b < m → InLine lines k b → (b ≡ k) ⊎ Inherits decls b k) → (i ≡ k) ⊎ Inherits decls i k
      which (inl inside) rest = of_bases (merged_has lines k [] (base_spots decls d) inside) rest
      which (inr own) rest = inl own

  pub has_of_line : (i k : ℕ) (d : DeclTree) → slice_get decls i ≡ Some d → InLine lines k i → (i ≡ k) ⊎ Inherits decls i k
  has_of_line i k d here h = has_by_rank (length decls) i k d here (rank_below decls (acyclic_of decls settled) i (slice_get_within decls i d here)) h

  own_in_line : (i : ℕ) (d : DeclTree) → slice_get decls i ≡ Some d → InLine lines i i
  own_in_line i d here = subst (λ (l : List ℕ). has_spot i l ≡ true) (sym (line_follows decls settled i d here)) (has_itself i (merged lines [] (base_spots decls d)))

  joined_in_line : (i k b : ℕ) → Refers bases_of decls i b → InLine lines k b → InLine lines k i
  joined_in_line i k b r h =
      subst (λ (l : List ℕ). has_spot k l ≡ true) (sym (line_follows decls settled i r.from r.from_at))
      (has_front k i (merged lines [] (base_spots decls r.from)) (merged_adds lines k [] (base_spots decls r.from) (by_spot i k b r h)))

  inherited_in_line : (i k : ℕ) → Inherits decls i k → InLine lines k i
  inherited_in_line i k (Directly i' k' r) = joined_in_line i' k' k' r (own_in_line k' r.to r.to_at)
  inherited_in_line i k (Further i' m k' r rest) = joined_in_line i' k' m r (inherited_in_line m k' rest)

  pub line_of_has : (i k : ℕ) (e : DeclTree) → slice_get decls k ≡ Some e → (i ≡ k) ⊎ Inherits decls i k → InLine lines k i
  line_of_has i k e there (inl same) = subst (λ n. InLine lines k n) (sym same) (own_in_line k e there)
  line_of_has i k e there (inr inherits) = inherited_in_line i k inherits

  -- each stands once in a line
  not_inherited : (i : ℕ) (d : DeclTree) → slice_get decls i ≡ Some d → has_spot i (merged lines [] (base_spots decls d)) ≡ false
  not_inherited i d here = false_from_ne_true (has_spot i (merged lines [] (base_spots decls d))) (λ is. of_bases (merged_has lines i [] (base_spots decls d) is)) where
    cycle : (b : ℕ) × Refers bases_of decls i b × InLine lines i b → ⊥
    cycle found = let r = found.1 in acyclic_of decls settled i (made_of_inherited decls i i (further i found.0 i r (has_of_line found.0 i r.to r.to_at found.2)))

    of_bases : (has_spot i [] ≡ true) ⊎ Any (InLine lines i) (base_spots decls d) → ⊥
    of_bases (inl none) = absurd cc
    of_bases (inr some) = cycle (by_base i i d here some)

  pub line_distinct : (i : ℕ) (d : DeclTree) → slice_get decls i ≡ Some d → Distinct (get_or lines i [])
  line_distinct i d here =
      subst (λ (l : List ℕ). Distinct l) (sym (line_follows decls settled i d here))
      (distinct_push (merged lines [] (base_spots decls d)) i (distinct_merged lines [] (base_spots decls d) tt) (not_inherited i d here))

  pub line_within : (i k : ℕ) (d : DeclTree) → slice_get decls i ≡ Some d → InLine lines k i → k < length decls
  line_within i k d here h = which (has_of_line i k d here h) where
    end_within : (j : ℕ) → Inherits decls j k → k < length decls
    end_within j (Directly j' k' r) = slice_get_within decls k' r.to r.to_at
    end_within j (Further j' m k' r rest) = end_within m rest

    which : (i ≡ k) ⊎ Inherits decls i k → k < length decls
    which (inl same) = subst (λ n. n < length decls) same (slice_get_within decls i d here)
    which (inr inherits) = end_within i inherits
