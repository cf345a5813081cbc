use Rattle.std.proofs.Common.{◌≡◌, ◌≤◌, ◌<◌, List, [], ◌∷◌, length, get_or, subst, arith}
use Rattle.mirror_rules.specs.Claims.{Every, every_none, every_more}
use Rattle.trial_disks.proofs.mirror.are_two.Goals as goal

-- what holds of the first and of the second of two holds of each
every-two : {A : Type 0} (P : A → Type 0) (xs : List A) (x y d e : A) → 2 ≤ length xs → length xs < 3 → x ≡ get_or xs 0 d → y ≡ get_or xs 1 e → P x → P y → Every P xs
every-two P (a ∷ b ∷ []) x y d e low high at_first at_second f g = every_more (subst P at_first f) (every_more (subst P at_second g) every_none)
every-two P [] x y d e low high at_first at_second f g = absurd (omega arith)
every-two P (a ∷ []) x y d e low high at_first at_second f g = absurd (omega arith)
every-two P (a ∷ b ∷ c ∷ xs) x y d e low high at_first at_second f g = absurd (omega arith)

pub returns-then-fits-clause-suits : goal.returns-then-fits-clause-suits
returns-then-fits-clause-suits c h = every-two _ c.args.stores.now c.left-item.result c.right-item.result _ _ c.in-len2.len_at_least c.in-len2.len_below c.left-item.is c.right-item.is (c.fits.ensures c.if-fits.true) (c.fits-then-fits.ensures h)
