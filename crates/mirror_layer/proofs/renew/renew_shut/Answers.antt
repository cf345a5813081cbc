use Rattle.std.proofs.Common.{◌≡◌, false, sym, ap, ◌∙◌, subst}
use Rattle.disk_format.specs.declared.shape.ImageShape.{ImageShape}
use Rattle.disk_layer.specs.Disk.{Suits}
use Rattle.mirror_rules.specs.Tree.{Blank}
use Rattle.mirror_layer.specs.Shut.{ShutSeen}
use Rattle.mirror_layer.specs.View.{why_of, why_from}
use Rattle.mirror_layer.proofs.RenewSteps.{can-at, can-none, can-back, left-later, left-gone-is, made-taken}
use Rattle.mirror_layer.proofs.renew.renew_shut.Goals as goal

pub invariant_of-shut-in-None : goal.invariant_of-shut-in-None
invariant_of-shut-in-None g c =
    let i = c.shut.inside in
    let shape : i.shape ≡ c.args.shape.now = ap (λ (v : ShutSeen). v.shape) c.shut.view_is ∙ c.requires.shape in
    let blank : why_from i.bad i.blank ≡ Blank = ap (λ (v : ShutSeen). why_of v) c.shut.view_is ∙ c.requires.blank in
    let can = can-at (λ t. g.S.Store.content t) (λ t. g.S.Store.faults t) i.bad i.blank i.opened i.store c.in-Some.store blank (sym c.take.ensures.value ∙ c.in-Some.is) c.shut.invariant.2 in (
      c.shut.invariant.0,
      subst (λ (v : ImageShape). Suits v (g.S.Store.size c.in-Err.unmade.store) (g.S.Store.number c.in-Err.unmade.store)) (sym shape) c.in-Err.ensures.suits,
      can-none (λ t. g.S.Store.content t) (λ t. g.S.Store.faults t) c.take-bad.new.self i.blank i.opened c.in-Err.unmade.store c.take-bad.ensures.after,
      left-later can.calm (c.in-Err.ensures.left false (λ q. cc)),
    )

pub invariant_of-shut-in-Some-gone : goal.invariant_of-shut-in-Some-gone
invariant_of-shut-in-Some-gone g c =
    let i = c.shut.inside in
    let shape : i.shape ≡ c.args.shape.now = ap (λ (v : ShutSeen). v.shape) c.shut.view_is ∙ c.requires.shape in
    let blank : why_from i.bad i.blank ≡ Blank = ap (λ (v : ShutSeen). why_of v) c.shut.view_is ∙ c.requires.blank in
    let can = can-at (λ t. g.S.Store.content t) (λ t. g.S.Store.faults t) i.bad i.blank i.opened i.store c.in-Some.store blank (sym c.take.ensures.value ∙ c.in-Some.is) c.shut.invariant.2 in
    let gone = left-gone-is can.calm c.in-Some-gone.is (c.in-Err.ensures.left false (λ q. cc)) in (
      c.shut.invariant.0,
      subst (λ (v : ImageShape). Suits v (g.S.Store.size c.in-Err.unmade.store) (g.S.Store.number c.in-Err.unmade.store)) (sym shape) c.in-Err.ensures.suits,
      can-back (λ t. g.S.Store.content t) (λ t. g.S.Store.faults t) c.take-bad.result i.blank i.opened c.in-Err.unmade.store gone.0 gone.1,
      left-later can.calm (c.in-Err.ensures.left false (λ q. cc)),
    )

pub returns-in-Ok-clause-renews : goal.returns-in-Ok-clause-renews
returns-in-Ok-clause-renews g c told h =
    let i = c.shut.inside in
    made-taken (λ t. g.S.Store.content t) (λ t. g.S.Store.faults t) c.args.shut.now i.disk i.shape c.args.shape.now i.bad i.blank i.opened i.store c.in-Some.store c.in-Ok.disk c.shut.view_is (sym c.take.ensures.value ∙ c.in-Some.is) c.requires.shape (c.in-Ok.ensures.made told h)
