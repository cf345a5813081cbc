-- What a ground is made of, without where it lies in memory.
use Rattle.std.specs.Prelude.{◌≡◌, ℕ, List, [], ◌∷◌, ◌++◌, ◌+◌, zero, suc, max, if◌then◌else◌, count_by, refl}
use Rattle.std.specs.Coded.{Coded, code_by, coded_list, coded_ℕ}
use Rattle.std.proofs.Common.{◌∙◌}
use Rattle.stack_text.specs.declared.stack.StackLine.{StackLine}
use Rattle.stack_text.specs.declared.stack.StackLine.TheVariants.{Layer}
use Rattle.stack_text.specs.declared.stack.LayerKind.TheVariants as kinds
use Rattle.stack_text.specs.declared.stack.UpperKind.TheVariants as uppers
use Rattle.stack_accept.specs.declared.entries.GroundPlan.{GroundPlan, Disk, Mirror', Coherency'}
use Rattle.stack_accept.specs.Lines.{is_disk, is_layer_named}

pub data Plan : Type 0 where
  OnDisk : ℕ → Plan
  OnMirror : Plan → Plan → Plan
  OnCoherency : Plan → Plan

-- A plan as numbers, each part after what it stands on: 0 for a mirror, 1 for a coherency layer, else a disk. It gives the
-- plan back, so a proof tells plans apart by it.
abbrev pub numbers_onto : Plan → List ℕ → List ℕ
numbers_onto (OnDisk disk) rest = suc (suc disk) ∷ rest
numbers_onto (OnMirror left right) rest = numbers_onto left (numbers_onto right (0 ∷ rest))
numbers_onto (OnCoherency below) rest = numbers_onto below (1 ∷ rest)

abbrev pub with_part : ℕ → List Plan → List Plan
with_part zero (right ∷ left ∷ plans) = OnMirror left right ∷ plans
with_part (suc zero) (below ∷ plans) = OnCoherency below ∷ plans
with_part (suc (suc disk)) plans = OnDisk disk ∷ plans
with_part number plans = plans

abbrev pub read_plan : List ℕ → List Plan → Plan
read_plan [] [] = OnDisk 0
read_plan [] (plan ∷ plans) = plan
read_plan (number ∷ numbers) plans = read_plan numbers (with_part number plans)

pub read_plan-numbers_onto : (plan : Plan) (rest : List ℕ) (plans : List Plan) → read_plan (numbers_onto plan rest) plans ≡ read_plan rest (plan ∷ plans)
read_plan-numbers_onto (OnDisk disk) rest plans = refl
read_plan-numbers_onto (OnMirror left right) rest plans = read_plan-numbers_onto left (numbers_onto right (0 ∷ rest)) plans ∙ read_plan-numbers_onto right (0 ∷ rest) (left ∷ plans)
read_plan-numbers_onto (OnCoherency below) rest plans = read_plan-numbers_onto below (1 ∷ rest) plans

abbrev pub plan_code : Coded Plan
plan_code = code_by (List ℕ) (coded_list coded_ℕ) (λ plan. numbers_onto plan []) (λ numbers. read_plan numbers []) (λ plan. read_plan-numbers_onto plan [] [])

-- what a plan says
abbrev pub plan_of : GroundPlan → Plan
plan_of (Disk disk) = OnDisk disk
plan_of (Mirror' p left q right) = OnMirror (plan_of left) (plan_of right)
plan_of (Coherency' p below) = OnCoherency (plan_of below)

-- its disks, the left side's first
abbrev pub disks_in : Plan → List ℕ
disks_in (OnDisk disk) = disk ∷ []
disks_in (OnMirror left right) = disks_in left ++ disks_in right
disks_in (OnCoherency below) = disks_in below

-- how many mirrors stand on one another
abbrev pub mirror_levels : Plan → ℕ
mirror_levels (OnDisk disk) = 0
mirror_levels (OnMirror left right) = max (mirror_levels left) (mirror_levels right) + 1
mirror_levels (OnCoherency below) = mirror_levels below

-- the numbers below n, the greatest first
abbrev pub numbers_below : ℕ → List ℕ
numbers_below zero = []
numbers_below (suc n) = n ∷ numbers_below n

-- the plan of a layer, given the plan of each earlier one and the lines before it
abbrev pub plan_on : List StackLine → StackLine → (List ℕ → Plan) → Plan
plan_on earlier (Layer name machine kinds.Disk) plan = OnDisk (count_by (λ line. is_disk line) earlier)
plan_on earlier (Layer name machine (kinds.Mirror left right)) plan = OnMirror (plan left) (plan right)
plan_on earlier (Layer name machine (kinds.Upper uppers.Coherency below)) plan = OnCoherency (plan below)
plan_on earlier line plan = OnDisk 0

-- the plan of the layer of the name; the lines stand last first
abbrev pub plan_back : List StackLine → List ℕ → Plan
plan_back [] name = OnDisk 0
plan_back (line ∷ earlier) name = if is_layer_named name line then plan_on earlier line (λ base. plan_back earlier base) else plan_back earlier name
