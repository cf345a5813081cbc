use Rattle.std.proofs.Common.{◌≡◌, ◌≢◌, None, subst}
use Rattle.tower_core.specs.declared.right.Right.{Right}
use Rattle.layer_laws.specs.Side.{Side}
use Rattle.page_messages.specs.Carried.{asked_up}
use Rattle.page_messages.specs.Rights.{IsForPage}
use Rattle.page_exchange.specs.Listed.{sides_in}
use Rattle.page_exchange.proofs.Sending.{asked_has, asked_nothing, on_ok, on_err}
use Rattle.page_exchange.proofs.Singles as singles
use Rattle.page_exchange.proofs.tables.Tables.ask_ground.Goals as goal

pub ask_ground-requires-clause-may : goal.ask_ground-requires-clause-may
ask_ground-requires-clause-may g c κs within =
    let one = singles.one_is c.args.self.now.tree c.args.self.now.file c.args.self.now.nodes.items c.args.node c.index_mut-own.result.now c.index_mut-own.result.now c.args.self.now.tables c.requires.upper c.index_mut-own.ensures.value in
    singles.may_ask c.args.self.now.tree c.args.self.now.file _ _ c.args.node _ _ c.args.self.now.tables one c.args.page c.args.what c.requires.page c.requires.about_page c.requires.may.own c.requires.frames

pub invariant_of-self-clause-tables : goal.invariant_of-self-clause-tables
invariant_of-self-clause-tables g c =
    let one = singles.one_is c.args.self.now.tree c.args.self.now.file c.args.self.now.nodes.items c.args.node c.index_mut-own.result.now c.ask_ground.new.own c.args.self.now.tables c.requires.upper c.index_mut-own.ensures.value in
    singles.stay_either c.args.self.now.tree c.args.self.now.file _ _ c.args.node _ _ c.args.self.now.tables one c.ask_ground.result (λ x. x.change.same) c.ask_ground.ensures.own c.ask_ground.ensures.own_left

pub returns-clause-sent : goal.returns-clause-sent
returns-clause-sent g c =
    let one = singles.one_is c.args.self.now.tree c.args.self.now.file c.args.self.now.nodes.items c.args.node c.index_mut-own.result.now c.ask_ground.new.own c.args.self.now.tables c.requires.upper c.index_mut-own.ensures.value in
    on_ok c.ask_ground.result (singles.answered_sent c.args.self.now.tree c.args.self.now.file _ _ c.args.node _ _ c.args.self.now.tables one c.args.page c.requires.upper c.requires.on_ground _ _ c.args.what c.requires.about_page c.requires.may.own) c.ask_ground.ensures.own

pub returns-clause-follows : goal.returns-clause-follows
returns-clause-follows g c =
    let one = singles.one_is c.args.self.now.tree c.args.self.now.file c.args.self.now.nodes.items c.args.node c.index_mut-own.result.now c.ask_ground.new.own c.args.self.now.tables c.requires.upper c.index_mut-own.ensures.value in
    on_ok c.ask_ground.result (λ x. singles.asked_follows c.args.self.now.tree c.args.self.now.file _ _ c.args.node _ _ c.args.self.now.tables one c.args.page c.args.what x.change.uses) c.ask_ground.ensures.own

pub returns-clause-left : goal.returns-clause-left
returns-clause-left g c =
    let one = singles.one_is c.args.self.now.tree c.args.self.now.file c.args.self.now.nodes.items c.args.node c.index_mut-own.result.now c.ask_ground.new.own c.args.self.now.tables c.requires.upper c.index_mut-own.ensures.value in
    on_err c.ask_ground.result (λ l. record { sides = singles.left c.args.self.now.tree c.args.self.now.file _ _ c.args.node _ _ c.args.self.now.tables one l; uses = singles.left_uses c.args.self.now.tree c.args.self.now.file _ _ c.args.node _ _ c.args.self.now.tables one l }) c.ask_ground.ensures.own_left

pub returns-clause-idle : goal.returns-clause-idle
returns-clause-idle g c = λ needless.
    let one = singles.one_is c.args.self.now.tree c.args.self.now.file c.args.self.now.nodes.items c.args.node c.index_mut-own.result.now c.index_mut-own.result.now c.args.self.now.tables c.requires.upper c.index_mut-own.ensures.value in
    let at = singles.at_own c.args.self.now.tree c.args.self.now.file _ _ c.args.node _ _ c.args.self.now.tables one c.args.page in
    c.ask_ground.ensures.idle
    (subst (λ (s : Side). IsForPage c.args.what → s.right ≢ Right.Nothing) at (asked_has c.args.self.now.tree c.args.node c.args.what (sides_in c.args.self.now.nodes.items c.args.page) c.requires.on_ground needless))
    (subst (λ (s : Side). asked_up s c.args.what ≡ None) at (asked_nothing c.args.self.now.tree c.args.node c.args.what (sides_in c.args.self.now.nodes.items c.args.page) c.requires.on_ground needless))

pub returns-clause-went : goal.returns-clause-went
returns-clause-went g c =
    let one = singles.one_is c.args.self.now.tree c.args.self.now.file c.args.self.now.nodes.items c.args.node c.index_mut-own.result.now c.ask_ground.new.own c.args.self.now.tables c.requires.upper c.index_mut-own.ensures.value in
    on_ok c.ask_ground.result (singles.answered_frames c.args.self.now.tree c.args.self.now.file _ _ c.args.node _ _ c.args.self.now.tables one c.args.page c.requires.upper c.requires.on_ground _ _ c.args.what c.requires.about_page) c.ask_ground.ensures.own
