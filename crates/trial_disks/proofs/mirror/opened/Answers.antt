use Rattle.std.proofs.Common.{◌≡◌, ℕ, List, [], ◌∷◌, length, sym, ap, subst, ◌∙◌}
use Rattle.std.specs.List.Sorted.{IsPermutation}
use Rattle.std.proofs.lemmas.List.Sorted.{IsPermutation-append_comm}
use Rattle.spr_io.specs.declared.memory.MemStore.{MemStore}
use Rattle.disk_format.specs.declared.shape.ImageShape.{ImageShape}
use Rattle.disk_layer.specs.Disk.{Suits}
use Rattle.stack_accept.specs.Plan.{Plan, OnDisk, OnMirror, disks_in, numbers_below}
use Rattle.mirror_rules.specs.Claims.{Every}
use Rattle.trial_disks.proofs.mirror.opened.Goals as goal

-- the disks of a mirror of two are the numbers below 2
two-numbers : (plan : Plan) (n : ℕ) → plan ≡ OnMirror (OnDisk 0) (OnDisk 1) → n ≡ 2 → IsPermutation (disks_in plan) (numbers_below n)
two-numbers plan n mirror two =
    subst (λ (p : Plan). IsPermutation (disks_in p) (numbers_below n)) (sym mirror)
    (subst (λ m. IsPermutation (0 ∷ 1 ∷ []) (numbers_below m)) (sym two) (IsPermutation-append_comm (0 ∷ []) (1 ∷ [])))

-- what suits one shape suits the same one
all-suit : (shape : ImageShape) (seen stores : List MemStore) → shape ≡ record { page_size = 64; pages = 2 } → seen ≡ stores → Every (λ s. Suits (record { page_size = 64; pages = 2 }) s.size (length s.content.blocks)) seen
    → Every (λ s. Suits shape s.size (length s.content.blocks)) stores
all-suit shape seen stores same list all =
    subst (λ (v : ImageShape). Every (λ (s : MemStore). Suits v s.size (length s.content.blocks)) stores) (sym same)
    (subst (λ ss. Every (λ (s : MemStore). Suits (record { page_size = 64; pages = 2 }) s.size (length s.content.blocks)) ss) list all)

pub open-requires-clause-plan : goal.open-requires-clause-plan
open-requires-clause-plan c κs =
    two-numbers _ (length c.args.stores.items) c.in_ok-plan.ensures (ap (λ (ss : List MemStore). length ss) (sym c.as_slice.ensures.value) ∙ c.are_two.ensures.two c.if-not-are_two.false)

pub open-requires-clause-suits : goal.open-requires-clause-suits
open-requires-clause-suits c κs =
    all-suit c.shape.result c.as_slice.result.now c.args.stores.items c.shape.ensures.shape c.as_slice.ensures.value (c.are_two.ensures.suits c.if-not-are_two.false)
