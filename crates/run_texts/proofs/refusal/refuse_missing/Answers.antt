use Rattle.std.proofs.Common.{ℕ, List, [], ◌∷◌, ◌++◌, codes, subst}
use Rattle.spr_report.specs.declared.status.Status.TheVariants.{Refused}
use Rattle.spr_report.specs.Writing.{Finishes}
use Rattle.run_texts.proofs.refusal.refuse_missing.Goals as goal

pub returns : goal.returns
returns g c =
    let before = g.K.Sink.told c.args.sink.now in
    let now = g.K.Sink.told c.finish.new.sink in
    subst (λ (name : List ℕ). Finishes before now (codes "idl missing " ++ (name ++ 10 ∷ [])) Refused c.finish.result) c.as_bytes.ensures.value c.finish.ensures
