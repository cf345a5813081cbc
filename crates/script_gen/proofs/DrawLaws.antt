-- Draws one after another, and who writes which page.
use Rattle.std.proofs.Common.{◌≡◌, ℕ, zero, suc, ◌+◌, ◌*◌, ◌%◌, ◌<◌, cond, true, false, Bool, ltb, refl, sym, ap, ◌∙◌, arith}
use Rattle.std.proofs.lemmas.Bool.{and_parts, ltb-true}
use Rattle.std.proofs.lemmas.Nat.{mod_below}
use Rattle.script_gen.specs.declared.shape.Shape.{Shape}
use Rattle.script_gen.specs.Shape.{pages_of}
use Rattle.script_gen.specs.Draw.{draw, next_state, state_after}
use Rattle.script_gen.specs.Aim.{aim_at, is_turn}
use Rattle.script_gen.specs.Made.{client_of, writes_at, state_behind, state_before}
use Rattle.script_gen.specs.Laws.{aim_of, is_write, writes_before}
use Rattle.script_gen.proofs.AimLaws.{own-by-eight}

pub after-after : (state a b : ℕ) → state_after (state_after state a) b ≡ state_after state (a + b)
after-after state a zero = let e : a ≡ a + 0 = omega arith in ap (λ n. state_after state n) e
after-after state a (suc b) = let e : suc (a + b) ≡ a + suc b = omega arith in ap next_state (after-after state a b) ∙ ap (λ n. state_after state n) e

behind-by : (b : Bool) (state seed draws : ℕ) (writes number : ℕ) → state ≡ state_after seed (3 * number + writes)
    → cond b (state_after state 4) (state_after state 3) ≡ state_after seed (3 * suc number + cond b (writes + 1) writes)
behind-by true state seed draws writes number is =
    let e : 3 * number + writes + 4 ≡ 3 * suc number + (writes + 1) = omega arith in
    ap (λ s. state_after s 4) is ∙ (after-after seed (3 * number + writes) 4 ∙ ap (state_after seed) e)
behind-by false state seed draws writes number is =
    let e : 3 * number + writes + 3 ≡ 3 * suc number + writes = omega arith in
    ap (λ s. state_after s 3) is ∙ (after-after seed (3 * number + writes) 3 ∙ ap (state_after seed) e)

pub draws-taken : (shape : Shape) (seed number : ℕ) → state_before shape seed number ≡ state_after seed (3 * number + writes_before shape seed number)
unfolding state_behind
draws-taken shape seed zero = refl
draws-taken shape seed (suc number) =
    behind-by (is_write shape seed number) (state_before shape seed number) seed 0 (writes_before shape seed number) number (draws-taken shape seed number)

-- a page that is written has the number of its client by eight
pub written-by-eight : (shape : Shape) (number state : ℕ) → writes_at shape number state ≡ true → (aim_at shape (client_of number) state).page % 8 ≡ client_of number
unfolding writes_at
written-by-eight shape number state is =
    let aim = aim_at shape (client_of number) state in
    let own : client_of number < pages_of shape aim.file = ltb-true _ _ (and_parts (is_turn number) (ltb (client_of number) (pages_of shape aim.file)) is).1 in
    own-by-eight (pages_of shape aim.file) (client_of number) (draw state 2) (mod_below number 8 (omega arith)) own

pub one-writer : (shape : Shape) (seed m n : ℕ) → is_write shape seed m ≡ true → is_write shape seed n ≡ true → (aim_of shape seed m).page ≡ (aim_of shape seed n).page → client_of m ≡ client_of n
one-writer shape seed m n a b same =
    sym (written-by-eight shape m (state_before shape seed m) a) ∙ (ap (λ p. p % 8) same ∙ written-by-eight shape n (state_before shape seed n) b)
