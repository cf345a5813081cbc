use Rattle.std.proofs.Common.{◌≡◌, ◌∙◌, ap, refl, sym, arith, length}
use Rattle.page_messages.specs.declared.paged.PagedFile.{PagedFile}
use Rattle.page_exchange.specs.Ends.{letters_done}
use Rattle.page_exchange.proofs.Ending as ending
use Rattle.page_exchange.proofs.Singles as singles
use Rattle.page_exchange.proofs.tables.Tables.done_at_ground.Goals as goal

pub ask_ground-requires-clause-under : goal.ask_ground-requires-clause-under
ask_ground-requires-clause-under g c κs within =
    let one = singles.one_is c.args.self.now.tree c.args.self.now.file c.args.self.now.nodes.items c.args.node c.index_mut-own.result.now c.index_mut-own.result.now c.args.self.now.tables c.requires.upper c.index_mut-own.ensures.value in
    let same = singles.own_file c.args.self.now.tree c.args.self.now.file _ _ c.args.node _ _ c.args.self.now.tables one in
    record { size = c.requires.under.size ∙ sym (ap (λ (f : PagedFile). f.page_size) same); number = c.requires.under.number ∙ sym (ap (λ (f : PagedFile). f.pages) same) }

pub invariant_of-self-clause-tables : goal.invariant_of-self-clause-tables
invariant_of-self-clause-tables g c =
    let one = singles.one_is c.args.self.now.tree c.args.self.now.file c.args.self.now.nodes.items c.args.node c.index_mut-own.result.now c.ask_ground.new.own c.args.self.now.tables c.requires.upper c.index_mut-own.ensures.value in
    singles.stay_either c.args.self.now.tree c.args.self.now.file _ _ c.args.node _ _ c.args.self.now.tables one c.ask_ground.result (λ x. x.change.same) c.ask_ground.ensures.own c.ask_ground.ensures.own_left

pub ask_ground-requires-clause-may : goal.ask_ground-requires-clause-may
ask_ground-requires-clause-may g c κs within =
    let one = singles.one_is c.args.self.now.tree c.args.self.now.file c.args.self.now.nodes.items c.args.node c.index_mut-own.result.now c.index_mut-own.result.now c.args.self.now.tables c.requires.upper c.index_mut-own.ensures.value in
    ending.alone_asks c.args.self.now.tree c.args.self.now.file _ _ c.args.node _ _ c.args.self.now.tables one c.args.self.now.paged.pages c.requires.may c.requires.unused

pub returns-in-Ok-clause-left : goal.returns-in-Ok-clause-left
returns-in-Ok-clause-left g c =
    let one = singles.one_is c.args.self.now.tree c.args.self.now.file c.args.self.now.nodes.items c.args.node c.index_mut-own.result.now c.ask_ground.new.own c.args.self.now.tables c.requires.upper c.index_mut-own.ensures.value in
    let s = ending.alone_still c.args.self.now.tree c.args.self.now.file _ _ c.args.node _ _ c.args.self.now.tables one (ending.alone_left c.args.self.now.tree c.args.self.now.file _ _ c.args.node _ _ c.args.self.now.tables one _ _ c.in-Ok.ensures.own.change) in
    record { sides = s.sides; uses = s.uses }

pub returns-in-Err-Memory-clause-left : goal.returns-in-Err-Memory-clause-left
returns-in-Err-Memory-clause-left g c =
    let one = singles.one_is c.args.self.now.tree c.args.self.now.file c.args.self.now.nodes.items c.args.node c.index_mut-own.result.now c.ask_ground.new.own c.args.self.now.tables c.requires.upper c.index_mut-own.ensures.value in
    let s = ending.alone_still c.args.self.now.tree c.args.self.now.file _ _ c.args.node _ _ c.args.self.now.tables one c.in-Err-Memory.ensures.own_left in
    record { sides = s.sides; uses = s.uses }

pub returns-in-Ok-clause-went : goal.returns-in-Ok-clause-went
returns-in-Ok-clause-went g c =
    let one = singles.one_is c.args.self.now.tree c.args.self.now.file c.args.self.now.nodes.items c.args.node c.index_mut-own.result.now c.ask_ground.new.own c.args.self.now.tables c.requires.upper c.index_mut-own.ensures.value in
    ending.alone_over c.args.self.now.tree c.args.self.now.file _ _ c.args.node _ _ c.args.self.now.tables one c.ask_ground.new.self letters_done c.in-Ok.ensures.own.frames

pub ask_ground-requires-clause-scratch : goal.ask_ground-requires-clause-scratch
ask_ground-requires-clause-scratch g c κs within =
    let one = singles.one_is c.args.self.now.tree c.args.self.now.file c.args.self.now.nodes.items c.args.node c.index_mut-own.result.now c.index_mut-own.result.now c.args.self.now.tables c.requires.upper c.index_mut-own.ensures.value in
    let same = ap (λ (f : PagedFile). f.page_size) (singles.own_file c.args.self.now.tree c.args.self.now.file _ _ c.args.node _ _ c.args.self.now.tables one) in
    omega (arith, ap length c.deref_mut.ensures.value, c.args.self.now.scratched, c.args.self.now.scratch.ok.0, same)
