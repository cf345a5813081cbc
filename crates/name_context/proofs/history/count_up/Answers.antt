use Rattle.std.proofs.Common.{◌∙◌, List, eqb, position, ap, arith}
use Rattle.name_context.specs.declared.history.Count.{Count}
use Rattle.name_context.specs.HistoryView.{count_in}
use Rattle.name_context.proofs.CountLaws.{count_in-found, count_in-raised, count_in-begun}
use Rattle.name_context.proofs.history.count_up.Goals as goal

pub overflow_add-index_mut : goal.overflow_add-index_mut
overflow_add-index_mut c =
    let found = c.in-Some.ensures ∙ ap (λ (list : List Count). position (λ (first : Count). eqb first.caller c.args.caller) list) c.deref.ensures.value in
    let count = count_in-found c.args.counts.now.items c.in-Some.place c.args.caller c.index_mut.result.now found c.index_mut.ensures.value in
    omega (arith, c.requires.fits)

pub returns-in-Some : goal.returns-in-Some
returns-in-Some c = λ caller.
    let found = c.in-Some.ensures ∙ ap (λ (list : List Count). position (λ (first : Count). eqb first.caller c.args.caller) list) c.deref.ensures.value in
    count_in-raised c.args.counts.now.items c.in-Some.place c.args.caller caller c.index_mut.result.now found c.index_mut.ensures.value

pub returns-in-None : goal.returns-in-None
returns-in-None c = λ caller.
    let none = c.in-None.ensures ∙ ap (λ (list : List Count). position (λ (first : Count). eqb first.caller c.args.caller) list) c.deref.ensures.value in
    ap (λ (list : List Count). count_in list caller) c.push_reserved.ensures.items ∙ count_in-begun c.args.counts.now.items c.args.caller caller none
