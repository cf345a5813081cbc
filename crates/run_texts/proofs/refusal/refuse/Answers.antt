use Rattle.std.proofs.Common.{List, ℕ, sym, subst}
use Rattle.spr_report.specs.declared.status.Status.TheVariants.{Refused}
use Rattle.spr_report.specs.Writing.{Finishes}
use Rattle.run_texts.specs.declared.refusal.Refusal.{Refusal}
use Rattle.run_texts.specs.Refusal.{names_of, missing_text, refusal_text, refusal_status}
use Rattle.run_texts.proofs.refusal.refuse.Goals as goal

pub returns-in-FileUnknown : goal.returns-in-FileUnknown
returns-in-FileUnknown g c =
    let before = g.K.Sink.told c.args.sink.now in
    let now = g.K.Sink.told c.finish.new.sink in
    subst (λ (r : Refusal). Finishes before now (refusal_text (names_of c.args.names.now) r) (refusal_status r) c.finish.result) (sym c.in-FileUnknown.is) c.finish.ensures

pub returns-in-IdlMissing : goal.returns-in-IdlMissing
returns-in-IdlMissing g c =
    let before = g.K.Sink.told c.args.sink.now in
    let now = g.K.Sink.told c.refuse_missing.new.sink in
    let said = subst (λ (name : List ℕ). Finishes before now (missing_text name) Refused c.refuse_missing.result) c.operation_name.ensures c.refuse_missing.ensures in
    subst (λ (r : Refusal). Finishes before now (refusal_text (names_of c.args.names.now) r) (refusal_status r) c.refuse_missing.result) (sym c.in-IdlMissing.is) said
