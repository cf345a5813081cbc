-- What holds of a tower that is shared: that its answers are the plain file's, and its page messages needed.
use Rattle.std.proofs.Common.{◌≡◌, subst, sym}
use Rattle.tower_core.specs.TreeShape.{TreeShape}
use Rattle.page_messages.specs.declared.paged.PagedFile.{PagedFile}
use Rattle.stack_engine.specs.Engine.{EngineSeen, file_in, log_in, tree_in}
use Rattle.stack_engine.specs.Opened.{AreAnswers}
use Rattle.stack_engine.specs.Tower.{TowerSeen}
use Rattle.stack_engine.proofs.Entering.{at_same}
use Rattle.spr_volume.specs.Later.{IsLater}
use Rattle.spr_volume.specs.TowerShared.{IsNeeded, IsPlain, SharedSeen}

pub plain_later : (began now : EngineSeen) → IsLater began now → IsPlain began (log_in now)
plain_later began now later = λ opening of.
    at_same (λ (t : TreeShape) (f : PagedFile). AreAnswers t f.page_size opening (log_in now)) now.tables began.tables
    (record { tree = sym later.file.tree; file = sym later.file.file; machines = sym later.file.machines; ops = sym later.file.ops }) (later.of opening of).answers

pub needed_later : (began now : EngineSeen) → IsLater began now → IsNeeded began (log_in now)
needed_later began now later = record { more = later.more; log_is = later.log; needed = later.needed }

-- what a call asks of the tree and the file as they were holds of them now
pub asked_now : (P : TreeShape → PagedFile → Type 0) (began now : TowerSeen) (s : SharedSeen) → (let x : SharedSeen = record { began = began; tower = now } in x) ≡ s → IsLater began.engine now.engine → P (tree_in s.began.engine) (file_in s.began.engine) → P (tree_in now.engine) (file_in now.engine)
asked_now P began now s is later asked =
    at_same P began.engine.tables now.engine.tables later.file (subst (λ (x : SharedSeen). P (tree_in x.began.engine) (file_in x.began.engine)) (sym is) asked)

-- a tower that is lent by what holds it is the one that is held
pub viewed : (began held lent : TowerSeen) (s : SharedSeen) → lent ≡ held → (let x : SharedSeen = record { began = began; tower = held } in x) ≡ s → (let x : SharedSeen = record { began = began; tower = lent } in x) ≡ s
viewed began held lent s same is = subst (λ (t : TowerSeen). (let x : SharedSeen = record { began = began; tower = t } in x) ≡ s) (sym same) is

pub later_lent : (began : EngineSeen) (held lent : TowerSeen) → lent ≡ held → IsLater began held.engine → IsLater began lent.engine
later_lent began held lent same later = subst (λ (t : TowerSeen). IsLater began t.engine) (sym same) later
