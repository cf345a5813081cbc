-- What a declaration is made of has a smaller number than it.
use Rattle.std.proofs.Common.{◌≡◌, ℕ, zero, suc, ◌+◌, ◌<◌, ◌≤◌, List, [], ◌∷◌, length, Bool, true, false, get_or, cond, count_by, refl, sym, ◌∙◌, arith}
use Rattle.std.proofs.lemmas.Bool.{false_from_ne_true}
use Rattle.std.proofs.lemmas.List.Recursion.{is_count_by}
use Rattle.std.proofs.lemmas.List.{get_or-map}
use Rattle.std.proofs.lemmas.Option.{slice_get_within}
use Rattle.idl_reader.specs.Tree.{DeclTree}
use Rattle.idl_check.specs.Names.{parts_of}
use Rattle.idl_check.specs.Reach.{at, reached, ranks_of}
use Rattle.idl_check.specs.FitsTogether.{Refers, Directly, Further, IsMadeOf}
use Rattle.idl_check.proofs.Reaching.{length-reached, wide-reached}
use Rattle.idl_check.proofs.Made.{made, is_made}

abbrev trues : List Bool → ℕ
trues [] = 0
trues (b ∷ bs) = cond b (1 + trues bs) (trues bs)

counts : (bs : List Bool) → trues bs ≡ count_by (λ b. b) bs
counts bs = is_count_by trues (λ b. b) refl (λ b cs. refl) bs

-- a row that has all of another and one more counts more
count_least : (few more : List Bool) → length few ≡ length more → ((k : ℕ) → get_or few k false ≡ true → get_or more k false ≡ true) → trues few ≤ trues more
count_least [] more e sub = omega arith
count_least (f ∷ few) [] e sub = absurd (omega arith)
count_least (f ∷ few) (m ∷ more) e sub = heads f m (sub 0) (count_least few more (omega arith) (λ k. sub (suc k))) where
  heads : (a b : Bool) → (a ≡ true → b ≡ true) → trues few ≤ trues more → trues (a ∷ few) ≤ trues (b ∷ more)
  heads true true h rest = omega arith
  heads true false h rest = let isnt = h refl in absurd cc
  heads false true h rest = omega arith
  heads false false h rest = omega arith

count_less : (few more : List Bool) → length few ≡ length more → ((k : ℕ) → get_or few k false ≡ true → get_or more k false ≡ true) → (m : ℕ) → get_or few m false ≡ false → get_or more m false ≡ true → trues few < trues more
count_less [] [] e sub m isnt is = absurd cc
count_less [] (b ∷ more) e sub m isnt is = absurd (omega arith)
count_less (f ∷ few) [] e sub m isnt is = absurd (omega arith)
count_less (f ∷ few) (b ∷ more) e sub zero isnt is = heads f b isnt is (count_least few more (omega arith) (λ k. sub (suc k))) where
  heads : (a c : Bool) → a ≡ false → c ≡ true → trues few ≤ trues more → trues (a ∷ few) < trues (c ∷ more)
  heads false true h g rest = omega arith
  heads true c h g rest = absurd cc
  heads false false h g rest = absurd cc
count_less (f ∷ few) (b ∷ more) e sub (suc m) isnt is = heads f b (sub 0) (count_less few more (omega arith) (λ k. sub (suc k)) m isnt is) where
  heads : (a c : Bool) → (a ≡ true → c ≡ true) → trues few < trues more → trues (a ∷ few) < trues (c ∷ more)
  heads true true h rest = omega arith
  heads true false h rest = let bad = h refl in absurd cc
  heads false true h rest = omega arith
  heads false false h rest = omega arith

-- a row that lacks one of its places counts less than its length
count_within : (row : List Bool) → trues row ≤ length row
count_within [] = omega arith
count_within (true ∷ row) = omega (arith, count_within row)
count_within (false ∷ row) = omega (arith, count_within row)

count_below : (row : List Bool) (m : ℕ) → m < length row → get_or row m false ≡ false → trues row < length row
count_below [] m below isnt = absurd (omega arith)
count_below (true ∷ row) zero below isnt = absurd cc
count_below (false ∷ row) zero below isnt = omega (arith, count_within row)
count_below (true ∷ row) (suc m) below isnt = omega (arith, count_below row m (omega arith) isnt)
count_below (false ∷ row) (suc m) below isnt = omega (arith, count_below row m (omega arith) isnt)

module _ (decls : List DeclTree) (acyclic : (i : ℕ) → IsMadeOf decls i i → ⊥) where
  not_own : (i : ℕ) → at (reached decls) i i ≡ false
  not_own i = false_from_ne_true (at (reached decls) i i) (λ is. acyclic i (made decls i i is))

  rank_is : (i : ℕ) → i < length decls → get_or (ranks_of decls) i 0 ≡ trues (get_or (reached decls) i [])
  rank_is i below =
      let tall = length-reached decls in
      get_or-map (λ row. count_by (λ b. b) row) (reached decls) i [] 0 (omega arith) ∙ sym (counts (get_or (reached decls) i []))

  -- no declaration reaches as many as there are, since it does not reach itself
  pub rank_below : (i : ℕ) → i < length decls → get_or (ranks_of decls) i 0 < length decls
  rank_below i below =
      let wide = wide-reached decls i below in
      let less = count_below (get_or (reached decls) i []) i (omega arith) (not_own i) in
      omega (arith, rank_is i below, less)

  step_falls : (i j : ℕ) → Refers parts_of decls i j → get_or (ranks_of decls) j 0 < get_or (ranks_of decls) i 0
  step_falls i j r =
      let i_below = slice_get_within decls i r.from r.from_at in
      let j_below = slice_get_within decls j r.to r.to_at in
      let less = count_less (get_or (reached decls) j []) (get_or (reached decls) i []) (wide-reached decls j j_below ∙ sym (wide-reached decls i i_below))
      (λ k is. is_made decls i k (Further i j k r (made decls j k is))) j (not_own j) (is_made decls i j (Directly i j r))
      in
      omega (arith, rank_is i i_below, rank_is j j_below, less)

  pub rank_falls : (i j : ℕ) → IsMadeOf decls i j → get_or (ranks_of decls) j 0 < get_or (ranks_of decls) i 0
  rank_falls i j (Directly i' j' r) = step_falls i' j' r
  rank_falls i j (Further i' m j' r rest) = let further = rank_falls m j' rest in let step = step_falls i' m r in omega arith
