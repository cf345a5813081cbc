use Rattle.std.proofs.Common.{◌∙◌, List, eqb, position, ap, arith}
use Rattle.tower_log.specs.declared.counters.Counter.{Counter}
use Rattle.tower_log.specs.Counters.{count_of}
use Rattle.tower_log.proofs.CounterLaws.{count_of-found, count_of-raised, count_of-begun}
use Rattle.tower_log.proofs.counters.count_for.Goals as goal

pub overflow_add-index_mut : goal.overflow_add-index_mut
overflow_add-index_mut c =
    let found = c.in-Some.ensures ∙ ap (λ (list : List Counter). position (λ (counter : Counter). eqb counter.caller c.args.caller) list) c.deref.ensures.value in
    let count = count_of-found c.args.counters.now.items c.in-Some.place c.args.caller c.index_mut.result.now found c.index_mut.ensures.value in
    omega (arith, c.requires.fits)

pub returns-in-Some-clause-counts : goal.returns-in-Some-clause-counts
returns-in-Some-clause-counts c = λ caller.
    let found = c.in-Some.ensures ∙ ap (λ (list : List Counter). position (λ (counter : Counter). eqb counter.caller c.args.caller) list) c.deref.ensures.value in
    count_of-raised c.args.counters.now.items c.in-Some.place c.args.caller caller c.index_mut.result.now found c.index_mut.ensures.value

pub returns-in-None-clause-counts : goal.returns-in-None-clause-counts
returns-in-None-clause-counts c = λ caller.
    let none = c.in-None.ensures ∙ ap (λ (list : List Counter). position (λ (counter : Counter). eqb counter.caller c.args.caller) list) c.deref.ensures.value in
    ap (λ (list : List Counter). count_of list caller) c.push_reserved.ensures.items ∙ count_of-begun c.args.counters.now.items c.args.caller caller none
