-- The image on a file's one store: how it is opened and closed.
use Rattle.std.proofs.Common.{◌≡◌, ℕ, List, [], ◌∷◌, refl, ap, Option, arith}
use Rattle.spr_io.specs.Content.{Content}
use Rattle.stack_accept.specs.Mount.{Mount}
use Rattle.disk_layer.specs.declared.refused.OpenWhy.{OpenWhy}
use Rattle.disk_layer.specs.declared.refused.OpenWhy.TheVariants as whys
use Rattle.page_ground.specs.declared.fault.StoreFault.{StoreFault}
use Rattle.disk_layer.specs.Calls as disks
use Rattle.mirror_layer.specs.declared.came.Notice.{Notice}
use Rattle.file_stores.specs.State.{StoreState}
use Rattle.file_stores.specs.Stop.{refused}
use Rattle.file_stores.specs.Held.{StoreSeen}
use Rattle.file_stores.specs.WholeDisk.{Alone}
use Rattle.file_stores.specs.Under.{One}
use Rattle.file_stores.specs.Opening.{under, shape_of_file, IsOpened, IsLeft, IsUnopened, unopened_one, IsUnopenedOne, OpenedAlone, RefusedAlone}
use Rattle.file_stores.proofs.KeyedLaws.{stores_from}

pub same-state : (a b : StoreState) → a.content ≡ b.content → a.faults ≡ b.faults → a ≡ b
same-state a b c f = λ i. record { content = c i; faults = f i }

-- the image on a store was refused
pub refused-unopened : (mount : Mount) (old new : StoreSeen) (why : OpenWhy) → new.state.content ≡ old.state.content → disks.IsRefusal (under mount old) new.state.faults why → IsUnopenedOne mount old new (refused old.key why)
refused-unopened mount old new (whys.BadImage bad blank) content refusal = (refl, record { reason = refusal.0; told = refusal.1 }, same-state new.state old.state content refusal.2)
refused-unopened mount old new (whys.StoreFault fault) content refusal =
    let count : fault.count ≡ new.state.faults = ap (λ (f : StoreFault). f.count) refusal.1 in
    let rose = refusal.0 in
    (refl, record { above = omega (arith, rose, count); within = omega (arith, count) })
refused-unopened mount old new whys.Memory content refusal = same-state new.state old.state content refusal

module _ {T : Type 0} (size number : T → ℕ) (content : T → Option Content) (faults : T → ℕ) (mount : Mount) (file : ℕ) where
  -- it was opened
  pub opened-alone : (ts : List T) (notices : List (Option Notice)) (d : Alone) → OpenedAlone content faults (shape_of_file mount file) ts d → IsOpened mount (record { file = file; stores = stores_from size number content faults file 0 ts }) notices (One d)
  opened-alone ts notices d opened = (_, ap (λ l. stores_from size number content faults file 0 l) opened.1, opened.2, opened.3)

  -- it was refused
  pub refused-alone : (ts after : List T) (why : OpenWhy) → RefusedAlone content faults (shape_of_file mount file) ts why after
      → IsUnopened mount (record { file = file; stores = stores_from size number content faults file 0 ts }) (record { file = file; stores = stores_from size number content faults file 0 after }) (refused (record { file = file; disk = 0 }) why)
  refused-alone ts after why r =
      let seen : T → StoreSeen = λ t. record { key = record { file = file; disk = 0 }; size = size t; number = number t; state = record { content = content t; faults = faults t } } in
      unopened_one {old = seen r.old} {new = seen r.new} (ap (λ l. stores_from size number content faults file 0 l) r.was_it) (ap (λ l. stores_from size number content faults file 0 l) r.left) refl r.same
      (refused-unopened mount (seen r.old) (seen r.new) why r.same r.cause)

-- it was closed
pub left-alone : {T : Type 0} (size number : T → ℕ) (content : T → Option Content) (faults : T → ℕ) (file : ℕ) (ts : List T) (d : Alone) → (t : T) × (ts ≡ t ∷ []) × (content t ≡ d.disk.content) × (faults t ≡ d.disk.faults)
    → IsLeft (One d) (record { file = file; stores = stores_from size number content faults file 0 ts })
left-alone size number content faults file ts d left = (_, ap (λ l. stores_from size number content faults file 0 l) left.1, λ i. record { content = left.2 i; faults = left.3 i })
