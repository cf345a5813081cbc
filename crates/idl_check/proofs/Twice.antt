-- Names that stand twice: what the search for the first finds.
use Rattle.std.proofs.Common.{◌≡◌, ℕ, zero, suc, ◌+◌, ◌≤◌, List, [], ◌∷◌, ◌++◌, length, map, take, Bool, true, false, cond, Option, Some, None, ◌⊎◌, inl, inr, refl, sym, ap, ◌∙◌, subst, arith, append-nil, append_assoc}
use Rattle.std.specs.Prelude.{slice_get, Any}
use Rattle.std.specs.List.{flat_map}
use Rattle.idl_reader.specs.declared.idl.Word.{Word}
use Rattle.idl_check.specs.Names.{has_name}
use Rattle.idl_check.specs.Verdict.{or_else}
use Rattle.idl_check.specs.FitsTogether.{HasName, StandsAgain}
use Rattle.idl_check.proofs.Lists.{none_of_nil, any_here, any_later, any_cases, any_left, any_right}
use Rattle.idl_check.proofs.NameTests.{named, not_named}
use Rattle.idl_check.proofs.Rises.{Rises, IsPlaceOf, above, rises_front, rises_rest, before}

-- ---- a list of names, with what repeats within each that is named

module _ {X : Type 0} (name : X → Word) (inner : X → Option ℕ) (Inner : X → ℕ → Type 0) (words : X → List Word) where
  -- the search: a name that stands before, and then what is within what is named
  abbrev pub search_from : List Word → List X → Option ℕ
  search_from seen [] = None
  search_from seen (x ∷ xs) = cond (has_name (name x).text seen) (Some (name x).place) (or_else (inner x) (search_from (seen ++ name x ∷ []) xs))

  -- the place is that of a name that stands before, or within what is named
  abbrev pub Again : List Word → List X → ℕ → Type 0
  Again seen [] place = ⊥
  Again seen (x ∷ xs) place = (HasName (name x).text seen × (place ≡ (name x).place)) ⊎ (Inner x place ⊎ Again (seen ++ name x ∷ []) xs place)

  -- what the search within each finds
  pub record FindsInner : Type 0 where
    pub some : (x : X) (place : ℕ) → inner x ≡ Some place → Inner x place
    pub none : (x : X) (place : ℕ) → inner x ≡ None → Inner x place → ⊥
    pub inside : (x : X) (place : ℕ) → Inner x place → IsPlaceOf (words x) place
    pub least : (x : X) (low first place : ℕ) → Rises low (words x) → inner x ≡ Some first → Inner x place → first ≤ place

  -- the names, and those within each, in the order of the text
  abbrev pub words_from : List X → List Word
  words_from xs = flat_map (λ x. name x ∷ words x) xs

  module _ (finds : FindsInner) where
    pub finds_some : (seen : List Word) (xs : List X) (place : ℕ) → search_from seen xs ≡ Some place → Again seen xs place
    finds_some seen [] place e = absurd cc
    finds_some seen (x ∷ xs) place e = cases (has_name (name x).text seen) refl e (λ h. finds_some (seen ++ name x ∷ []) xs place h) where
      inside : (o : Option ℕ) → inner x ≡ o → or_else o (search_from (seen ++ name x ∷ []) xs) ≡ Some place → (search_from (seen ++ name x ∷ []) xs ≡ Some place → Again (seen ++ name x ∷ []) xs place) → Again seen (x ∷ xs) place
      inside None is h rest = inr (inr (rest h))
      inside (Some p) is h rest = let same : p ≡ place = cc in inr (inl (finds.some x place (is ∙ ap (λ n. Some n) same)))

      cases : (b : Bool) → has_name (name x).text seen ≡ b → cond b (Some (name x).place) (or_else (inner x) (search_from (seen ++ name x ∷ []) xs)) ≡ Some place → (search_from (seen ++ name x ∷ []) xs ≡ Some place → Again (seen ++ name x ∷ []) xs place) → Again seen (x ∷ xs) place
      cases true is h rest = let same : place ≡ (name x).place = cc in inl (named (name x).text seen is, same)
      cases false is h rest = inside (inner x) refl h rest

    pub finds_none : (seen : List Word) (xs : List X) (place : ℕ) → search_from seen xs ≡ None → Again seen xs place → ⊥
    finds_none seen [] place e a = a
    finds_none seen (x ∷ xs) place e a = cases (has_name (name x).text seen) refl e (λ h. finds_none (seen ++ name x ∷ []) xs place h) where
      which : has_name (name x).text seen ≡ false → inner x ≡ None → (Again (seen ++ name x ∷ []) xs place → ⊥) → (HasName (name x).text seen × (place ≡ (name x).place)) ⊎ (Inner x place ⊎ Again (seen ++ name x ∷ []) xs place) → ⊥
      which new none rest (inl here) = not_named (name x).text seen new here.0
      which new none rest (inr (inl within)) = finds.none x place none within
      which new none rest (inr (inr later)) = rest later

      inside : (o : Option ℕ) → inner x ≡ o → has_name (name x).text seen ≡ false → or_else o (search_from (seen ++ name x ∷ []) xs) ≡ None → (search_from (seen ++ name x ∷ []) xs ≡ None → Again (seen ++ name x ∷ []) xs place → ⊥) → ⊥
      inside None is new h rest = which new is (rest h) a
      inside (Some p) is new h rest = absurd cc

      cases : (b : Bool) → has_name (name x).text seen ≡ b → cond b (Some (name x).place) (or_else (inner x) (search_from (seen ++ name x ∷ []) xs)) ≡ None → (search_from (seen ++ name x ∷ []) xs ≡ None → Again (seen ++ name x ∷ []) xs place → ⊥) → ⊥
      cases true is h rest = absurd cc
      cases false is h rest = inside (inner x) refl is h rest

    -- a repeated name is one of the words
    pub again_inside : (seen : List Word) (xs : List X) (place : ℕ) → Again seen xs place → IsPlaceOf (words_from xs) place
    again_inside seen [] place a = absurd a
    again_inside seen (x ∷ xs) place a = which a (λ later. again_inside (seen ++ name x ∷ []) xs place later) where
      which : (HasName (name x).text seen × (place ≡ (name x).place)) ⊎ (Inner x place ⊎ Again (seen ++ name x ∷ []) xs place) → (Again (seen ++ name x ∷ []) xs place → IsPlaceOf (words_from xs) place) → IsPlaceOf (name x ∷ (words x ++ words_from xs)) place
      which (inl here) rest = any_here (λ (w : Word). place ≡ w.place) (name x) (words x ++ words_from xs) here.1
      which (inr (inl within)) rest = any_later (λ (w : Word). place ≡ w.place) (name x) (words x ++ words_from xs) (any_left (λ (w : Word). place ≡ w.place) (words x) (words_from xs) (finds.inside x place within))
      which (inr (inr later)) rest = any_later (λ (w : Word). place ≡ w.place) (name x) (words x ++ words_from xs) (any_right (λ (w : Word). place ≡ w.place) (words x) (words_from xs) (rest later))

    -- where places rise, the first that is found has the smallest
    pub finds_least : (seen : List Word) (xs : List X) (low first place : ℕ) → Rises low (words_from xs) → search_from seen xs ≡ Some first → Again seen xs place → first ≤ place
    finds_least seen [] low first place r e a = absurd a
    finds_least seen (x ∷ xs) low first place r e a = cases (has_name (name x).text seen) refl e (λ h b. finds_least (seen ++ name x ∷ []) xs ((name x).place + 1) first place (rises_rest ((name x).place + 1) (words x) (words_from xs) r.1) h b) where
      not_here : has_name (name x).text seen ≡ false → (HasName (name x).text seen × (place ≡ (name x).place)) ⊎ (Inner x place ⊎ Again (seen ++ name x ∷ []) xs place) → Inner x place ⊎ Again (seen ++ name x ∷ []) xs place
      not_here new (inl here) = absurd (not_named (name x).text seen new here.0)
      not_here new (inr later) = later

      after_found : inner x ≡ Some first → Inner x place ⊎ Again (seen ++ name x ∷ []) xs place → first ≤ place
      after_found is (inl within) = finds.least x ((name x).place + 1) first place (rises_front ((name x).place + 1) (words x) (words_from xs) r.1) is within
      after_found is (inr later) =
          let low = before ((name x).place + 1) (words x) (words_from xs) r.1 first place (finds.inside x first (finds.some x first is)) (again_inside (seen ++ name x ∷ []) xs place later) in
          omega arith

      after_none : inner x ≡ None → search_from (seen ++ name x ∷ []) xs ≡ Some first → (search_from (seen ++ name x ∷ []) xs ≡ Some first → Again (seen ++ name x ∷ []) xs place → first ≤ place) → Inner x place ⊎ Again (seen ++ name x ∷ []) xs place → first ≤ place
      after_none is h rest (inl within) = absurd (finds.none x place is within)
      after_none is h rest (inr later) = rest h later

      inside : (o : Option ℕ) → inner x ≡ o → has_name (name x).text seen ≡ false → or_else o (search_from (seen ++ name x ∷ []) xs) ≡ Some first → (search_from (seen ++ name x ∷ []) xs ≡ Some first → Again (seen ++ name x ∷ []) xs place → first ≤ place) → first ≤ place
      inside None is new h rest = after_none is h rest (not_here new a)
      inside (Some p) is new h rest = let same : p ≡ first = cc in after_found (is ∙ ap (λ n. Some n) same) (not_here new a)

      cases : (b : Bool) → has_name (name x).text seen ≡ b → cond b (Some (name x).place) (or_else (inner x) (search_from (seen ++ name x ∷ []) xs)) ≡ Some first → (search_from (seen ++ name x ∷ []) xs ≡ Some first → Again (seen ++ name x ∷ []) xs place → first ≤ place) → first ≤ place
      cases true is h rest = let same : first ≡ (name x).place = cc in let high = above (name x).place (name x ∷ (words x ++ words_from xs)) (omega arith, r.1) place (again_inside seen (x ∷ xs) place a) in omega arith
      cases false is h rest = inside (inner x) refl is h rest

  -- ---- a name that stands before, in the words of the definitions

  again_at : (seen : List Word) (xs : List X) (number place : ℕ) (word : Word) → slice_get (map name xs) number ≡ Some word → HasName word.text (seen ++ take number (map name xs)) → place ≡ word.place → Again seen xs place
  again_at seen [] number place word at has e = absurd cc
  again_at seen (x ∷ xs) zero place word at has e =
      let same : word ≡ name x = cc in
      inl (subst (λ (w : Word). HasName w.text seen) same (subst (λ (ws : List Word). HasName word.text ws) (append-nil seen) has), e ∙ ap (λ (w : Word). w.place) same)
  again_at seen (x ∷ xs) (suc number) place word at has e =
      inr (inr (again_at (seen ++ name x ∷ []) xs number place word at (subst (λ (ws : List Word). HasName word.text ws) (sym (append_assoc seen (name x ∷ []) (take number (map name xs)))) has) e))

  again_inner : (seen : List Word) (xs : List X) (place : ℕ) → Any (λ x. Inner x place) xs → Again seen xs place
  again_inner seen [] place a = none_of_nil (λ x. Inner x place) a
  again_inner seen (x ∷ xs) place a = which (any_cases (λ x. Inner x place) x xs a) (λ later. again_inner (seen ++ name x ∷ []) xs place later) where
    which : Inner x place ⊎ Any (λ x. Inner x place) xs → (Any (λ x. Inner x place) xs → Again (seen ++ name x ∷ []) xs place) → Again seen (x ∷ xs) place
    which (inl here) rest = inr (inl here)
    which (inr later) rest = inr (inr (rest later))

  pub again_from : (xs : List X) (place : ℕ) → StandsAgain (map name xs) place ⊎ Any (λ x. Inner x place) xs → Again [] xs place
  again_from xs place (inl twice) = again_at [] xs twice.number place twice.word twice.word_at twice.before twice.place_is
  again_from xs place (inr within) = again_inner [] xs place within

  -- the words before, and those of the list
  stands_later : (seen : List Word) (x : X) (xs : List X) (place : ℕ) → StandsAgain ((seen ++ name x ∷ []) ++ map name xs) place ⊎ Any (λ x. Inner x place) xs → StandsAgain (seen ++ (name x ∷ map name xs)) place ⊎ Any (λ x. Inner x place) (x ∷ xs)
  stands_later seen x xs place (inl twice) = inl (subst (λ (ws : List Word). StandsAgain ws place) (append_assoc seen (name x ∷ []) (map name xs)) twice)
  stands_later seen x xs place (inr within) = inr (any_later (λ x. Inner x place) x xs within)

  stands_next : (seen : List Word) (x : X) (rest : List Word) (place : ℕ) → HasName (name x).text seen → place ≡ (name x).place → StandsAgain (seen ++ (name x ∷ rest)) place
  stands_next seen x rest place has e = record { number = length seen; word = name x; word_at = at_front seen; before = subst (λ (ws : List Word). HasName (name x).text ws) (sym (take_front seen)) has; place_is = e } where
    at_front : (front : List Word) → slice_get (front ++ (name x ∷ rest)) (length front) ≡ Some (name x)
    at_front [] = refl
    at_front (w ∷ ws) = at_front ws

    take_front : (front : List Word) → take (length front) (front ++ (name x ∷ rest)) ≡ front
    take_front [] = refl
    take_front (w ∷ ws) = ap (λ (l : List Word). w ∷ l) (take_front ws)

  stands_again : (seen : List Word) (xs : List X) (place : ℕ) → Again seen xs place → StandsAgain (seen ++ map name xs) place ⊎ Any (λ x. Inner x place) xs
  stands_again seen [] place a = absurd a
  stands_again seen (x ∷ xs) place a = which a (λ later. stands_again (seen ++ name x ∷ []) xs place later) where
    which : (HasName (name x).text seen × (place ≡ (name x).place)) ⊎ (Inner x place ⊎ Again (seen ++ name x ∷ []) xs place) → (Again (seen ++ name x ∷ []) xs place → StandsAgain ((seen ++ name x ∷ []) ++ map name xs) place ⊎ Any (λ x. Inner x place) xs)
        → StandsAgain (seen ++ (name x ∷ map name xs)) place ⊎ Any (λ x. Inner x place) (x ∷ xs)
    which (inl here) rest = inl (stands_next seen x (map name xs) place here.0 here.1)
    which (inr (inl within)) rest = inr (any_here (λ x. Inner x place) x xs within)
    which (inr (inr later)) rest = stands_later seen x xs place (rest later)

  pub from_again : (xs : List X) (place : ℕ) → Again [] xs place → StandsAgain (map name xs) place ⊎ Any (λ x. Inner x place) xs
  from_again xs place a = stands_again [] xs place a
