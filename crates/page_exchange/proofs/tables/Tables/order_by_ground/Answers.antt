use Rattle.std.proofs.Common.{◌≡◌, ◌<◌, ◌∙◌, ℕ, sym, ap, subst, List, Option, None}
use Rattle.layer_laws.specs.Side.{Side}
use Rattle.page_messages.specs.Carried.{called_up}
use Rattle.page_messages.specs.declared.paged.PagedFile.{PagedFile}
use Rattle.page_exchange.specs.Ground.{pages_given}
use Rattle.page_exchange.specs.Listed.{sides_in}
use Rattle.page_exchange.proofs.Sending.{called_given, called_nothing, on_ok, on_err}
use Rattle.page_exchange.proofs.Singles as singles
use Rattle.page_exchange.proofs.tables.Tables.order_by_ground.Goals as goal

pub order_by_ground-requires-clause-obeys : goal.order_by_ground-requires-clause-obeys
order_by_ground-requires-clause-obeys g c κs within =
    let one = singles.one_is c.args.self.now.tree c.args.self.now.file c.args.self.now.nodes.items c.args.node c.index_mut-own.result.now c.index_mut-own.result.now c.args.self.now.tables c.requires.upper c.index_mut-own.ensures.value in
    singles.may_obey c.args.self.now.tree c.args.self.now.file _ _ c.args.node _ _ c.args.self.now.tables one c.args.page c.args.what c.requires.about_page c.requires.may

pub invariant_of-self-clause-tables : goal.invariant_of-self-clause-tables
invariant_of-self-clause-tables g c =
    let one = singles.one_is c.args.self.now.tree c.args.self.now.file c.args.self.now.nodes.items c.args.node c.index_mut-own.result.now c.order_by_ground.new.own c.args.self.now.tables c.requires.upper c.index_mut-own.ensures.value in
    singles.stay_either c.args.self.now.tree c.args.self.now.file _ _ c.args.node _ _ c.args.self.now.tables one c.order_by_ground.result (λ x. x.same) c.order_by_ground.ensures.own c.order_by_ground.ensures.own_left

pub returns-clause-sent : goal.returns-clause-sent
returns-clause-sent g c =
    let one = singles.one_is c.args.self.now.tree c.args.self.now.file c.args.self.now.nodes.items c.args.node c.index_mut-own.result.now c.order_by_ground.new.own c.args.self.now.tables c.requires.upper c.index_mut-own.ensures.value in
    on_ok c.order_by_ground.result (singles.obeyed_sent c.args.self.now.tree c.args.self.now.file _ _ c.args.node _ _ c.args.self.now.tables one c.args.page c.requires.upper c.requires.on_ground _ c.args.what c.requires.about_page) c.order_by_ground.ensures.own

pub returns-clause-follows : goal.returns-clause-follows
returns-clause-follows g c =
    let one = singles.one_is c.args.self.now.tree c.args.self.now.file c.args.self.now.nodes.items c.args.node c.index_mut-own.result.now c.order_by_ground.new.own c.args.self.now.tables c.requires.upper c.index_mut-own.ensures.value in
    on_ok c.order_by_ground.result (λ x. singles.called_follows c.args.self.now.tree c.args.self.now.file _ _ c.args.node _ _ c.args.self.now.tables one c.args.page c.args.what x.uses) c.order_by_ground.ensures.own

pub returns-clause-left : goal.returns-clause-left
returns-clause-left g c =
    let one = singles.one_is c.args.self.now.tree c.args.self.now.file c.args.self.now.nodes.items c.args.node c.index_mut-own.result.now c.order_by_ground.new.own c.args.self.now.tables c.requires.upper c.index_mut-own.ensures.value in
    on_err c.order_by_ground.result (λ l. record { sides = singles.left c.args.self.now.tree c.args.self.now.file _ _ c.args.node _ _ c.args.self.now.tables one l; uses = singles.left_uses c.args.self.now.tree c.args.self.now.file _ _ c.args.node _ _ c.args.self.now.tables one l }) c.order_by_ground.ensures.own_left

pub order_by_ground-requires-clause-under : goal.order_by_ground-requires-clause-under
order_by_ground-requires-clause-under g c κs within =
    let one = singles.one_is c.args.self.now.tree c.args.self.now.file c.args.self.now.nodes.items c.args.node c.index_mut-own.result.now c.index_mut-own.result.now c.args.self.now.tables c.requires.upper c.index_mut-own.ensures.value in
    let same = singles.own_file c.args.self.now.tree c.args.self.now.file _ _ c.args.node _ _ c.args.self.now.tables one in
    record { size = c.requires.under.size ∙ sym (ap (λ (f : PagedFile). f.page_size) same); number = c.requires.under.number ∙ sym (ap (λ (f : PagedFile). f.pages) same) }

pub order_by_ground-requires-clause-page : goal.order_by_ground-requires-clause-page
order_by_ground-requires-clause-page g c κs within =
    let one = singles.one_is c.args.self.now.tree c.args.self.now.file c.args.self.now.nodes.items c.args.node c.index_mut-own.result.now c.index_mut-own.result.now c.args.self.now.tables c.requires.upper c.index_mut-own.ensures.value in
    subst (λ (f : PagedFile). c.args.page < f.pages) (sym (singles.own_file c.args.self.now.tree c.args.self.now.file _ _ c.args.node _ _ c.args.self.now.tables one)) c.requires.page

pub returns-clause-ground : goal.returns-clause-ground
returns-clause-ground g c =
    let one = singles.one_is c.args.self.now.tree c.args.self.now.file c.args.self.now.nodes.items c.args.node c.index_mut-own.result.now c.index_mut-own.result.now c.args.self.now.tables c.requires.upper c.index_mut-own.ensures.value in
    on_ok c.order_by_ground.result (λ e. e ∙ ap (λ (u : Option (List ℕ)). pages_given c.args.page u (g.G.Ground.seen c.args.ground.now).pages)
    (ap (λ (s : Side). called_up s c.args.what) (sym (singles.at_own c.args.self.now.tree c.args.self.now.file _ _ c.args.node _ _ c.args.self.now.tables one c.args.page)) ∙ called_given c.args.self.now.tree c.args.node c.args.what (sides_in c.args.self.now.nodes.items c.args.page) c.requires.on_ground)) c.order_by_ground.ensures.ground

pub returns-clause-idle : goal.returns-clause-idle
returns-clause-idle g c = λ needless.
    let one = singles.one_is c.args.self.now.tree c.args.self.now.file c.args.self.now.nodes.items c.args.node c.index_mut-own.result.now c.index_mut-own.result.now c.args.self.now.tables c.requires.upper c.index_mut-own.ensures.value in
    c.order_by_ground.ensures.idle (subst (λ (s : Side). called_up s c.args.what ≡ None)
    (singles.at_own c.args.self.now.tree c.args.self.now.file _ _ c.args.node _ _ c.args.self.now.tables one c.args.page)
    (called_nothing c.args.self.now.tree c.args.node c.args.what (sides_in c.args.self.now.nodes.items c.args.page) c.requires.on_ground needless))

pub returns-clause-went : goal.returns-clause-went
returns-clause-went g c =
    let one = singles.one_is c.args.self.now.tree c.args.self.now.file c.args.self.now.nodes.items c.args.node c.index_mut-own.result.now c.order_by_ground.new.own c.args.self.now.tables c.requires.upper c.index_mut-own.ensures.value in
    on_ok c.order_by_ground.result (singles.called_frames c.args.self.now.tree c.args.self.now.file _ _ c.args.node _ _ c.args.self.now.tables one c.order_by_ground.new.self c.args.page c.args.what) c.order_by_ground.ensures.went
