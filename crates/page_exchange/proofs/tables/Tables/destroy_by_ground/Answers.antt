use Rattle.std.proofs.Common.{◌≡◌, ◌∙◌, ap, refl, sym}
use Rattle.page_messages.specs.declared.paged.PagedFile.{PagedFile}
use Rattle.page_exchange.specs.Ends.{letters_destroyed}
use Rattle.page_exchange.proofs.Ending as ending
use Rattle.page_exchange.proofs.Singles as singles
use Rattle.page_exchange.proofs.tables.Tables.destroy_by_ground.Goals as goal

pub order_by_ground-requires-clause-under : goal.order_by_ground-requires-clause-under
order_by_ground-requires-clause-under g c κs within =
    let one = singles.one_is c.args.self.now.tree c.args.self.now.file c.args.self.now.nodes.items c.args.node c.index_mut-own.result.now c.index_mut-own.result.now c.args.self.now.tables c.requires.upper c.index_mut-own.ensures.value in
    let same = singles.own_file c.args.self.now.tree c.args.self.now.file _ _ c.args.node _ _ c.args.self.now.tables one in
    record { size = c.requires.under.size ∙ sym (ap (λ (f : PagedFile). f.page_size) same); number = c.requires.under.number ∙ sym (ap (λ (f : PagedFile). f.pages) same) }

pub invariant_of-self-clause-tables : goal.invariant_of-self-clause-tables
invariant_of-self-clause-tables g c =
    let one = singles.one_is c.args.self.now.tree c.args.self.now.file c.args.self.now.nodes.items c.args.node c.index_mut-own.result.now c.order_by_ground.new.own c.args.self.now.tables c.requires.upper c.index_mut-own.ensures.value in
    singles.stay_either c.args.self.now.tree c.args.self.now.file _ _ c.args.node _ _ c.args.self.now.tables one c.order_by_ground.result (λ x. x.same) c.order_by_ground.ensures.own c.order_by_ground.ensures.own_left

pub order_by_ground-requires-clause-obeys : goal.order_by_ground-requires-clause-obeys
order_by_ground-requires-clause-obeys g c κs within =
    let one = singles.one_is c.args.self.now.tree c.args.self.now.file c.args.self.now.nodes.items c.args.node c.index_mut-own.result.now c.index_mut-own.result.now c.args.self.now.tables c.requires.upper c.index_mut-own.ensures.value in
    ending.alone_obeys c.args.self.now.tree c.args.self.now.file _ _ c.args.node _ _ c.args.self.now.tables one c.requires.may c.requires.unused

pub returns-clause-left : goal.returns-clause-left
returns-clause-left g c =
    let one = singles.one_is c.args.self.now.tree c.args.self.now.file c.args.self.now.nodes.items c.args.node c.index_mut-own.result.now c.order_by_ground.new.own c.args.self.now.tables c.requires.upper c.index_mut-own.ensures.value in
    let s = ending.alone_still c.args.self.now.tree c.args.self.now.file _ _ c.args.node _ _ c.args.self.now.tables one (ending.alone_left c.args.self.now.tree c.args.self.now.file _ _ c.args.node _ _ c.args.self.now.tables one _ _ c.in-Ok.ensures.own) in
    record { sides = s.sides; uses = s.uses }

pub returns-clause-went : goal.returns-clause-went
returns-clause-went g c =
    let one = singles.one_is c.args.self.now.tree c.args.self.now.file c.args.self.now.nodes.items c.args.node c.index_mut-own.result.now c.order_by_ground.new.own c.args.self.now.tables c.requires.upper c.index_mut-own.ensures.value in
    ending.alone_over c.args.self.now.tree c.args.self.now.file _ _ c.args.node _ _ c.args.self.now.tables one c.order_by_ground.new.self letters_destroyed c.in-Ok.ensures.went
