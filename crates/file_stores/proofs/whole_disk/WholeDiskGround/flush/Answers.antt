use Rattle.std.proofs.Common.{◌≤◌, false, refl, sym, ap, subst, ◌∙◌}
use Rattle.page_ground.specs.Seen.{KeptAt}
use Rattle.disk_layer.specs.Disk.{kept_on, pages_on}
use Rattle.mirror_rules.specs.Tree.{limit}
use Rattle.file_stores.specs.WholeDisk.{Alone, seen_whole}
use Rattle.file_stores.proofs.AloneSteps.{all-kept, calm-whole, keeps-then, raised-twice}
use Rattle.file_stores.proofs.whole_disk.WholeDiskGround.flush.Goals as goal

-- the second raise was refused
pub returns-in_err-raise-2-clause-same : goal.returns-in_err-raise-2-clause-same
returns-in_err-raise-2-clause-same g c = c.raise-2.ensures.pages ∙ c.raise.ensures.pages

pub returns-in_err-raise-2-clause-keeps : goal.returns-in_err-raise-2-clause-keeps
returns-in_err-raise-2-clause-keeps g c =
    keeps-then (seen_whole c.args.self.now) (seen_whole c.raise.new.self) (seen_whole c.raise-2.new.self) c.raise.ensures.keeps c.raise-2.ensures.keeps c.raise.ensures.pages c.raise-2.ensures.pages

-- both were taken
pub returns-clause-same : goal.returns-clause-same
returns-clause-same g c = ap (λ (a : Alone). pages_on a.disk) c.self-2.view_is ∙ (c.raise-2.ensures.pages ∙ c.raise.ensures.pages)

pub returns-clause-ok : goal.returns-clause-ok
returns-clause-ok g c =
    let there : Alone = record { disk = c.self-2.inside.disk; owed = false; generation = c.self-2.inside.level } in
    all-kept there refl (subst (λ (a : Alone). KeptAt (kept_on a.disk) (pages_on a.disk)) (sym c.self-2.view_is) c.in_ok-raise-2.ensures.kept)

pub returns-clause-keeps : goal.returns-clause-keeps
returns-clause-keeps g c =
    let first = c.in_ok-raise.ensures.raises in
    let last = c.in_ok-raise-2.ensures.raises in
    let there : Alone = record { disk = c.self-2.inside.disk; owed = c.self-2.inside.owed; generation = c.self-2.inside.level } in
    raised-twice c.args.self.now c.raise.new.self c.raise-2.new.self (ap (λ (a : Alone). a.owed) first) (ap (λ (a : Alone). a.generation) first) (ap (λ (a : Alone). a.generation) last) c.raise.ensures.keeps c.raise-2.ensures.keeps c.raise.ensures.pages
    c.raise-2.ensures.pages (ap (λ (a : Alone). a.owed) (sym c.self.view_is) ∙ c.if-not-self.false) (subst (λ (a : Alone). a.generation ≤ limit) c.self.view_is c.self.invariant.2.within) there c.self-2.view_is

pub returns-clause-calm : goal.returns-clause-calm
returns-clause-calm g c =
    let first = c.in_ok-raise.ensures.raises in
    let last = c.in_ok-raise-2.ensures.raises in
    let there : Alone = record { disk = c.self-2.inside.disk; owed = false; generation = c.self-2.inside.level } in
    calm-whole c.args.self.now there (ap (λ (a : Alone). a.disk.disk) c.self-2.view_is ∙ (ap (λ (a : Alone). a.disk.disk) last ∙ ap (λ (a : Alone). a.disk.disk) first))
    (ap (λ (a : Alone). a.disk.faults) c.self-2.view_is ∙ (c.in_ok-raise-2.ensures.count ∙ c.in_ok-raise.ensures.count))
