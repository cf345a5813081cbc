use Rattle.std.proofs.Common.{◌≡◌, ◌∙◌, ap, ap₂, codes}
use Rattle.std.proofs.lemmas.Result.{IfOk-weaker}
use Rattle.clap.specs.Words.{app_of, new_app, with_rule}
use Rattle.spr_run.proofs.command.run.Goals as goal

pub returns : goal.returns
returns c =
    let begun : app_of c.new.result ≡ new_app (codes "run") = c.new.ensures.app in
    let one = c.in_ok-arg.ensures.shape c.flag.ensures.global ∙ ap₂ with_rule begun c.flag.ensures.rule in
    let two = c.in_ok-arg-2.ensures.shape c.loss.ensures.global ∙ ap₂ with_rule one c.loss.ensures.rule in
    let three = c.in_ok-arg-3.ensures.shape c.name.ensures.global ∙ ap₂ with_rule two c.name.ensures.rule in
    let four = c.in_ok-arg-4.ensures.shape c.name-2.ensures.global ∙ ap₂ with_rule three c.name-2.ensures.rule in
    record {
      shape = IfOk-weaker c.arg-5.result _ _ (λ m h. ap (λ a. a.top) (h.shape c.name-3.ensures.global ∙ ap₂ with_rule four c.name-3.ensures.rule)) c.arg-5.ensures;
    }
