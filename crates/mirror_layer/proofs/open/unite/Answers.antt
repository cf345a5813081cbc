use Rattle.std.proofs.Common.{◌≡◌, false, sym, subst, ◌∙◌, arith}
use Rattle.mirror_rules.specs.Tree.{seats}
use Rattle.mirror_rules.specs.Claims.{Every, Pairs}
use Rattle.mirror_layer.specs.View.{Beside, beside_in, tree_of}
use Rattle.mirror_layer.specs.Calls.{all_told}
use Rattle.mirror_layer.specs.Ceding.{AtFirst}
use Rattle.mirror_layer.specs.Coming.{AllCome}
use Rattle.mirror_layer.proofs.MeetSteps.{rested}
use Rattle.mirror_layer.proofs.AdmitSteps.{met-waits, good-none}
use Rattle.mirror_layer.proofs.OpenSteps.{met-first}
use Rattle.mirror_layer.proofs.OpenSteps.{not-err, told-then, united-none, united-gone, united-lost, united-good, chooses-blanks}
use Rattle.mirror_layer.proofs.open.unite.Goals as goal

pub why_none-requires-clause-none : goal.why_none-requires-clause-none
why_none-requires-clause-none g c κs within = good-none (seats (tree_of c.meet.new.node)) (sym c.is_good.ensures ∙ c.if-not-is_good.true)

pub returns-then-not-is_good-clause-united : goal.returns-then-not-is_good-clause-united
returns-then-not-is_good-clause-united g c =
    united-none c.meet.new.node c.why_none.result c.args.shape.now _ _ c.why_none.ensures (good-none (seats (tree_of c.meet.new.node)) (sym c.is_good.ensures ∙ c.if-not-is_good.true))
    (not-err c.meet.result (sym c.is_err.ensures.value ∙ c.if-is_err.false) c.meet.ensures.met) (not-err c.meet.result (sym c.is_err.ensures.value ∙ c.if-is_err.false) c.meet.ensures.reasons) c.args.came.now

pub choose-requires-clause-waits : goal.choose-requires-clause-waits
choose-requires-clause-waits g c = met-waits (not-err c.meet.result (sym c.is_err.ensures.value ∙ c.if-is_err.false) c.meet.ensures.met).meets

pub choose-requires-clause-first : goal.choose-requires-clause-first
choose-requires-clause-first g c = subst (λ bs. Pairs AtFirst bs (seats (tree_of c.meet.new.node))) (sym c.meet.ensures.beside) (met-first c.args.node.now c.requires.new (not-err c.meet.result (sym c.is_err.ensures.value ∙ c.if-is_err.false) c.meet.ensures.met))

pub choose-requires-clause-shapes : goal.choose-requires-clause-shapes
choose-requires-clause-shapes g c = subst (λ bs. Every (λ (b : Beside). b.shape ≡ c.args.shape.now) bs) (sym c.meet.ensures.beside) c.requires.shapes

pub returns-in_default-clause-united : goal.returns-in_default-clause-united
returns-in_default-clause-united g c = rested (not-err c.meet.result (sym c.is_err.ensures.value ∙ c.if-is_err.false) c.meet.ensures.met)

pub returns-in-Err-clause-united : goal.returns-in-Err-clause-united
returns-in-Err-clause-united g c =
    united-gone c.in-Err.fault (not-err c.meet.result (sym c.is_err.ensures.value ∙ c.if-is_err.false) c.meet.ensures.met) (c.in-Err.ensures.chooses (all_told (beside_in c.args.node.now)) (told-then (beside_in c.args.node.now) c.meet.ensures.beside))

pub renew_all-requires-clause-room : goal.renew_all-requires-clause-room
renew_all-requires-clause-room g c κs within = omega (arith, chooses-blanks (c.in-Ok-choose.ensures.chooses false (λ t. cc)), c.in-Ok.ensures.many)

pub renew_all-requires-clause-images : goal.renew_all-requires-clause-images
renew_all-requires-clause-images g c κs within = c.in-Ok.ensures.shapes

pub renew_all-requires-clause-shapes : goal.renew_all-requires-clause-shapes
renew_all-requires-clause-shapes g c κs within = subst (λ bs. Every (λ (b : Beside). b.shape ≡ c.args.shape.now) bs) (sym (c.choose.ensures.beside ∙ c.meet.ensures.beside)) c.requires.shapes

pub returns-in-Ok-renew_all-clause-united : goal.returns-in-Ok-renew_all-clause-united
returns-in-Ok-renew_all-clause-united g c =
    united-good c.choose.new.node c.args.disks (beside_in c.args.node.now) c.in-Ok-choose.generation c.requires.disks (c.choose.ensures.beside ∙ c.meet.ensures.beside) (not-err c.meet.result (sym c.is_err.ensures.value ∙ c.if-is_err.false) c.meet.ensures.met)
    (c.in-Ok-choose.ensures.chooses (all_told (beside_in c.args.node.now)) (told-then (beside_in c.args.node.now) c.meet.ensures.beside))
    (c.in-Ok-renew_all.ensures.renews (all_told (beside_in c.args.node.now)) (told-then (beside_in c.args.node.now) (c.choose.ensures.beside ∙ c.meet.ensures.beside))) c.choose.new.came
    (subst (λ bs. AllCome (all_told bs) c.args.shape.now.pages (seats (tree_of c.meet.new.node)) (seats (tree_of c.choose.new.node)) c.choose.new.came) c.meet.ensures.beside c.in-Ok-choose.ensures.came)

pub returns-clause-united : goal.returns-clause-united
returns-clause-united g c =
    united-lost c.choose.new.node c.args.disks (beside_in c.args.node.now) c.in-Err-renew_all.fault c.requires.disks (c.choose.ensures.beside ∙ c.meet.ensures.beside)
    (not-err c.meet.result (sym c.is_err.ensures.value ∙ c.if-is_err.false) c.meet.ensures.met)
    (c.in-Ok-choose.ensures.chooses (all_told (beside_in c.args.node.now)) (told-then (beside_in c.args.node.now) c.meet.ensures.beside))
    (c.in-Err-renew_all.ensures.renews (all_told (beside_in c.args.node.now)) (told-then (beside_in c.args.node.now) (c.choose.ensures.beside ∙ c.meet.ensures.beside)))
