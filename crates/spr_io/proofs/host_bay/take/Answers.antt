use Rattle.std.proofs.Common.{ℕ, false, None, get_or, sym, ap, ◌∙◌}
use Rattle.spr_io.proofs.Entries.{taken_out}
use Rattle.spr_io.proofs.host_bay.take.Goals as goal

pub returns-in-Some-take-clause-store : goal.returns-in-Some-take-clause-store
returns-in-Some-take-clause-store g c =
    let t = taken_out c.args.disk.now c.args.file.now c.args.entries.now c.in-Some.at c.index-entries-at.result (get_or c.args.entries.now c.in-Some.at c.index-entries-at.result) c.take.new.self (sym c.in-Some.ensures) c.index-entries-at.is c.index-entries-at.is c.in-Some-take.ensures.some.0 c.in-Some-take.ensures.some.2 in
    c.in-Some-take.ensures.some.1 ∙ ap (λ (n : ℕ). record { size = c.args.size; blocks = c.args.blocks; count = n; spoiled = false; file = None }) t.counts

pub returns-in-Some-take-clause-was_in : goal.returns-in-Some-take-clause-was_in
returns-in-Some-take-clause-was_in g c =
    let t = taken_out c.args.disk.now c.args.file.now c.args.entries.now c.in-Some.at c.index-entries-at.result (get_or c.args.entries.now c.in-Some.at c.index-entries-at.result) c.take.new.self (sym c.in-Some.ensures) c.index-entries-at.is c.index-entries-at.is c.in-Some-take.ensures.some.0 c.in-Some-take.ensures.some.2 in
    t.was_in

pub returns-in-Some-take-clause-taken : goal.returns-in-Some-take-clause-taken
returns-in-Some-take-clause-taken g c =
    let t = taken_out c.args.disk.now c.args.file.now c.args.entries.now c.in-Some.at c.index-entries-at.result (get_or c.args.entries.now c.in-Some.at c.index-entries-at.result) c.take.new.self (sym c.in-Some.ensures) c.index-entries-at.is c.index-entries-at.is c.in-Some-take.ensures.some.0 c.in-Some-take.ensures.some.2 in
    t.takes

pub returns-in-Some-take-clause-others : goal.returns-in-Some-take-clause-others
returns-in-Some-take-clause-others g c d f differs =
    let t = taken_out c.args.disk.now c.args.file.now c.args.entries.now c.in-Some.at c.index-entries-at.result (get_or c.args.entries.now c.in-Some.at c.index-entries-at.result) c.take.new.self (sym c.in-Some.ensures) c.index-entries-at.is c.index-entries-at.is c.in-Some-take.ensures.some.0 c.in-Some-take.ensures.some.2 in
    t.others d f differs
