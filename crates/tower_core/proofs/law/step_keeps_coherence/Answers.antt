use Rattle.tower_core.specs.declared.step.Step.TheVariants.{Untouched}
use Rattle.tower_core.proofs.StepLaw.{keeps}
use Rattle.tower_core.proofs.law.step_keeps_coherence.Goals as goal

pub returns-clause-step : goal.returns-clause-step
returns-clause-step c = keeps

pub returns-clause-other_event : goal.returns-clause-other_event
returns-clause-other_event c = λ shape len col tree coh. keeps shape len col Untouched tree tt coh tt
