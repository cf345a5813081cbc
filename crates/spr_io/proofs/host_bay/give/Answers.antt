use Rattle.std.proofs.Common.{get_or, sym, ap}
use Rattle.spr_io.specs.Berth.{Berth}
use Rattle.spr_io.specs.Host.{berth_in}
use Rattle.spr_io.proofs.Entries.{given_back, no_entry, lost_in}
use Rattle.spr_io.proofs.host_bay.give.Goals as goal

pub returns-in-Some-clause-answer : goal.returns-in-Some-clause-answer
returns-in-Some-clause-answer c =
    let b = given_back c.args.disk.now c.args.file.now c.args.entries.now c.in-Some.at c.index-entries-at.result (get_or c.args.entries.now c.in-Some.at c.index-entries-at.result) c.give.new.self c.args.count c.give.result (sym c.in-Some.ensures) c.index-entries-at.is c.index-entries-at.is c.give.ensures.answer c.give.ensures.given c.give.ensures.same in
    b.answers

pub returns-in-Some-clause-given : goal.returns-in-Some-clause-given
returns-in-Some-clause-given c out =
    let b = given_back c.args.disk.now c.args.file.now c.args.entries.now c.in-Some.at c.index-entries-at.result (get_or c.args.entries.now c.in-Some.at c.index-entries-at.result) c.give.new.self c.args.count c.give.result (sym c.in-Some.ensures) c.index-entries-at.is c.index-entries-at.is c.give.ensures.answer c.give.ensures.given c.give.ensures.same in
    b.gives out

pub returns-in-Some-clause-lost : goal.returns-in-Some-clause-lost
returns-in-Some-clause-lost c refused =
    let b = given_back c.args.disk.now c.args.file.now c.args.entries.now c.in-Some.at c.index-entries-at.result (get_or c.args.entries.now c.in-Some.at c.index-entries-at.result) c.give.new.self c.args.count c.give.result (sym c.in-Some.ensures) c.index-entries-at.is c.index-entries-at.is c.give.ensures.answer c.give.ensures.given c.give.ensures.same in
    b.loses refused

pub returns-in-Some-clause-others : goal.returns-in-Some-clause-others
returns-in-Some-clause-others c d f differs =
    let b = given_back c.args.disk.now c.args.file.now c.args.entries.now c.in-Some.at c.index-entries-at.result (get_or c.args.entries.now c.in-Some.at c.index-entries-at.result) c.give.new.self c.args.count c.give.result (sym c.in-Some.ensures) c.index-entries-at.is c.index-entries-at.is c.give.ensures.answer c.give.ensures.given c.give.ensures.same in
    b.others d f differs

pub returns-in-None-clause-answer : goal.returns-in-None-clause-answer
returns-in-None-clause-answer c = sym (ap (λ (b : Berth). b.out) (no_entry c.args.disk.now c.args.file.now c.args.entries.now (sym c.in-None.ensures)))

pub returns-in-None-clause-lost : goal.returns-in-None-clause-lost
returns-in-None-clause-lost c refused = lost_in c.args.count (berth_in c.args.entries.now c.args.disk.now c.args.file.now) (ap (λ (b : Berth). b.out) (no_entry c.args.disk.now c.args.file.now c.args.entries.now (sym c.in-None.ensures)))
