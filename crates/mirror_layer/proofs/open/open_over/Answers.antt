use Rattle.std.proofs.Common.{◌≡◌, ◌≤◌, ◌++◌, List, length, map, take, drop, Some, true, vec_capacity, sym, subst, ◌∙◌, ap, arith}
use Rattle.std.proofs.lemmas.List.{length-map}
use Rattle.stack_accept.specs.Plan.{disks_in, plan_of}
use Rattle.mirror_rules.specs.Claims.{Every}
use Rattle.mirror_rules.specs.Tree.{seats}
use Rattle.mirror_layer.specs.View.{Beside, tree_of}
use Rattle.mirror_layer.specs.Meeting.{planned}
use Rattle.mirror_layer.specs.Ground.{Differ}
use Rattle.mirror_layer.specs.Stores.{Numbered}
use Rattle.mirror_layer.specs.Filling.{HasStore, Apart}
use Rattle.mirror_layer.specs.Bringing.{lacked_first}
use Rattle.mirror_layer.proofs.CameSteps.{whole-list}
use Rattle.mirror_layer.proofs.NumberSteps.{numbers-apart, numbers-under}
use Rattle.mirror_layer.proofs.BringSteps.{placed-stores, lies-there, lies-shapes, filled, ready, refused-as, disks-row, owes-by}
use Rattle.mirror_layer.proofs.open.open_over.Goals as goal

pub returns-in_default-clause-refused : goal.returns-in_default-clause-refused
returns-in_default-clause-refused g c = lacked_first

pub fill_all-requires-clause-apart : goal.fill_all-requires-clause-apart
fill_all-requires-clause-apart g c κs within = subst (λ v. Apart (disks_in v)) (sym c.in-Ok.ensures.planned) (numbers-apart (disks_in (plan_of c.args.plan.now)) (length c.args.stores.items) c.requires.plan)

pub fill_all-requires-clause-there : goal.fill_all-requires-clause-there
fill_all-requires-clause-there g c κs within =
    subst (λ v. Every (HasStore (λ s. g.S.Store.size s) (λ s. g.S.Store.number s) c.args.shape.now v) (disks_in (planned (tree_of c.in-Ok.found.node)))) (sym c.set_out.ensures)
    (subst (λ v. Every (HasStore (λ s. g.S.Store.size s) (λ s. g.S.Store.number s) c.args.shape.now (map (λ s. Some s) c.args.stores.items)) (disks_in v)) (sym c.in-Ok.ensures.planned)
    (placed-stores c.args.stores.items (disks_in (plan_of c.args.plan.now)) (numbers-under (disks_in (plan_of c.args.plan.now)) (length c.args.stores.items) c.requires.plan) c.requires.suits))

pub unite-requires-clause-disks : goal.unite-requires-clause-disks
unite-requires-clause-disks g c κs within =
    let f = filled c.set_out.new.places.items (plan_of c.args.plan.now) (planned (tree_of c.in-Ok.found.node)) c.fill_all.new.node c.in-Ok.ensures.planned c.set_out.ensures c.fill_all.ensures.new c.fill_all.ensures.filled c.requires.plan in
    c.number_of-disks.ensures ∙ sym f.ordered.many

pub unite-requires-clause-shapes : goal.unite-requires-clause-shapes
unite-requires-clause-shapes g c κs within =
    let f = filled c.set_out.new.places.items (plan_of c.args.plan.now) (planned (tree_of c.in-Ok.found.node)) c.fill_all.new.node c.in-Ok.ensures.planned c.set_out.ensures c.fill_all.ensures.new c.fill_all.ensures.filled c.requires.plan in
    lies-shapes f.lies

pub sound_all-requires-after_bounds : goal.sound_all-requires-after_bounds
sound_all-requires-after_bounds g c κs within =
    let f = filled c.set_out.new.places.items (plan_of c.args.plan.now) (planned (tree_of c.in-Ok.found.node)) c.fill_all.new.node c.in-Ok.ensures.planned c.set_out.ensures c.fill_all.ensures.new c.fill_all.ensures.filled c.requires.plan in
    subst (λ bs. Every (λ (b : Beside). b.there ≡ true) bs) (sym c.unite.ensures.beside) (lies-there f.lies)

pub give_back-stores-requires-clause-there : goal.give_back-stores-requires-clause-there
give_back-stores-requires-clause-there g c κs within =
    let f = filled c.set_out.new.places.items (plan_of c.args.plan.now) (planned (tree_of c.in-Ok.found.node)) c.fill_all.new.node c.in-Ok.ensures.planned c.set_out.ensures c.fill_all.ensures.new c.fill_all.ensures.filled c.requires.plan in
    subst (λ bs. Every (λ (b : Beside). b.there ≡ true) bs) (sym c.unite.ensures.beside) (lies-there f.lies)

pub give_back-stores-requires-clause-numbered : goal.give_back-stores-requires-clause-numbered
give_back-stores-requires-clause-numbered g c κs within =
    let f = filled c.set_out.new.places.items (plan_of c.args.plan.now) (planned (tree_of c.in-Ok.found.node)) c.fill_all.new.node c.in-Ok.ensures.planned c.set_out.ensures c.fill_all.ensures.new c.fill_all.ensures.filled c.requires.plan in
    subst Numbered (sym c.unite.ensures.beside) f.ordered.numbered

pub give_back-stores-requires-clause-differ : goal.give_back-stores-requires-clause-differ
give_back-stores-requires-clause-differ g c κs within =
    let f = filled c.set_out.new.places.items (plan_of c.args.plan.now) (planned (tree_of c.in-Ok.found.node)) c.fill_all.new.node c.in-Ok.ensures.planned c.set_out.ensures c.fill_all.ensures.new c.fill_all.ensures.filled c.requires.plan in
    subst Differ (sym c.unite.ensures.beside) f.ordered.differ

pub give_back-stores-requires-clause-many : goal.give_back-stores-requires-clause-many
give_back-stores-requires-clause-many g c κs within =
    let f = filled c.set_out.new.places.items (plan_of c.args.plan.now) (planned (tree_of c.in-Ok.found.node)) c.fill_all.new.node c.in-Ok.ensures.planned c.set_out.ensures c.fill_all.ensures.new c.fill_all.ensures.filled c.requires.plan in
    let many = c.fill_all.ensures.many ∙ (ap (λ l. length l) c.set_out.ensures ∙ length-map c.args.stores.items (λ s. Some s)) in
    ap (λ l. length l) c.deref_mut-in-Err.ensures.value ∙ (many ∙ (sym f.ordered.many ∙ ap (λ (l : List Beside). length l) (sym c.unite.ensures.beside)))

pub returns-in-Ok-unite-clause-ready : goal.returns-in-Ok-unite-clause-ready
returns-in-Ok-unite-clause-ready g c =
    let f = filled c.set_out.new.places.items (plan_of c.args.plan.now) (planned (tree_of c.in-Ok.found.node)) c.fill_all.new.node c.in-Ok.ensures.planned c.set_out.ensures c.fill_all.ensures.new c.fill_all.ensures.filled c.requires.plan in
    let many = c.fill_all.ensures.many ∙ (ap (λ l. length l) c.set_out.ensures ∙ length-map c.args.stores.items (λ s. Some s)) in
    let worded : length c.unite.new.came ≡ length c.in-Ok.found.words.items = c.unite.auto.came ∙ ap (λ l. length l) c.deref_mut-3.ensures.value in
    let row = disks-row c.unite.new.node c.number_of-disks.result (c.number_of-disks.ensures ∙ (sym f.ordered.many ∙ ap (λ (l : List Beside). length l) (sym c.unite.ensures.beside))) in
    ready c.fill_all.new.node c.unite.new.node c.fill_all.new.places.items c.in-Ok.found.emptied.items (vec_capacity c.in-Ok.found.emptied) c.owes.result c.in-Ok-unite.generation (take c.in-Ok.found.words.len (c.unite.new.came ++ drop (length c.unite.new.came) c.in-Ok.found.words.items)) c.unite.new.came f c.unite.ensures.beside c.in-Ok-unite.ensures.united (owes-by (seats (tree_of c.unite.new.node)) c.in-Ok-unite.generation row c.owes.ensures) c.in-Ok-unite.ensures.live
    c.sound_all.ensures (omega (arith, c.in-Ok-unite.ensures.high)) many (whole-list c.in-Ok.found.words.len c.unite.new.came (drop (length c.unite.new.came) c.in-Ok.found.words.items) (c.in-Ok.found.words.ok.0 ∙ sym worded)) (worded ∙ (c.in-Ok.ensures.words ∙ c.number_of-disks.ensures)) c.in-Ok.ensures.emptied.0 (subst (λ k. k ≤ vec_capacity c.in-Ok.found.emptied) c.number_of-disks.ensures c.in-Ok.ensures.emptied.1)

pub returns-in-Err-clause-refused : goal.returns-in-Err-clause-refused
returns-in-Err-clause-refused g c =
    let f = filled c.set_out.new.places.items (plan_of c.args.plan.now) (planned (tree_of c.in-Ok.found.node)) c.fill_all.new.node c.in-Ok.ensures.planned c.set_out.ensures c.fill_all.ensures.new c.fill_all.ensures.filled c.requires.plan in
    refused-as c.fill_all.new.node c.unite.new.node c.in-Err.why c.give_back-stores.result.items c.unite.new.came f c.unite.ensures.beside c.in-Err.ensures.united c.give_back-stores.ensures
