-- Worked stacks, computed from the definitions.
use Rattle.std.proofs.Common.{◌≡◌, ℕ, List, [], ◌∷◌, ◌++◌, codes, refl, Option, Some, None}
use Rattle.stack_text.specs.declared.stack.StackLine.{StackLine}
use Rattle.stack_text.specs.declared.stack.StackLine.TheVariants.{Page, File, Layer}
use Rattle.stack_text.specs.declared.stack.LayerKind.TheVariants.{Disk, Mirror, Upper}
use Rattle.stack_text.specs.declared.stack.UpperKind.TheVariants.{Coherency, Dfs, Vmm}
use Rattle.stack_accept.specs.Rules.{Breach, first_breach}
use Rattle.stack_accept.specs.Plan.{OnDisk, OnMirror}
use Rattle.stack_accept.specs.Mount.{mounted}
use Rattle.std.specs.Fmt.{digits}
use Rattle.stack_accept.specs.Check.{check_text}

abbrev a_disk : List StackLine
a_disk = Page 64 ∷ File (codes "f") 2 ∷ Layer (codes "d") (codes "m") Disk ∷ []

-- a coherency layer on a disk
abbrev plain : List StackLine
plain = a_disk ++ Layer (codes "c") (codes "m") (Upper Coherency (codes "d")) ∷ []

-- the same with a distributed layer and memory managers on two machines
abbrev spread : List StackLine
spread =
    plain
    ++ Layer (codes "v") (codes "m") (Upper (Vmm 2) (codes "c"))
    ∷ Layer (codes "r") (codes "m") (Upper Dfs (codes "c"))
    ∷ Layer (codes "w") (codes "n") (Upper (Vmm 2) (codes "r"))
    ∷ Layer (codes "u") (codes "m") (Upper (Vmm 2) (codes "r"))
    ∷ []

abbrev two_disks : List StackLine
two_disks = a_disk ++ Layer (codes "e") (codes "m") Disk ∷ []

breach : ℕ → ℕ → Option Breach
breach rule line = Some (record { rule = rule; line = line })

plain_fits : first_breach plain ≡ None
plain_fits = refl

spread_fits : first_breach spread ≡ None
spread_fits = refl

spread_parents : (mounted spread).tree.parents ≡ 0 ∷ 0 ∷ 1 ∷ 1 ∷ 3 ∷ 1 ∷ []
spread_parents = refl

spread_text : check_text (mounted spread) ≡ codes "0 d disk m\n1 c coherency m 0\n2 v vmm m 1\n3 r dfs m 1\n4 w vmm n 3\n5 u vmm m 1\n"
unfolding digits
spread_text = refl

spread_machines : (mounted spread).machines ≡ codes "m" ∷ codes "n" ∷ []
spread_machines = refl

mirrored_plan : (mounted (two_disks ++ Layer (codes "x") (codes "m") (Mirror (codes "e") (codes "d")) ∷ Layer (codes "c") (codes "m") (Upper Coherency (codes "x")) ∷ [])).ground ≡ OnMirror (OnDisk 1) (OnDisk 0)
mirrored_plan = refl

manager_on_disk : first_breach (a_disk ++ Layer (codes "v") (codes "m") (Upper (Vmm 4) (codes "d")) ∷ []) ≡ breach 7 4
unfolding breach
manager_on_disk = refl

one_disk_twice : first_breach (two_disks ++ Layer (codes "x") (codes "m") (Mirror (codes "d") (codes "d")) ∷ []) ≡ breach 5 5
unfolding breach
one_disk_twice = refl

nothing : first_breach [] ≡ breach 1 1
unfolding breach
nothing = refl

odd_page : first_breach (Page 96 ∷ File (codes "f") 2 ∷ Layer (codes "d") (codes "m") Disk ∷ Layer (codes "c") (codes "m") (Upper Coherency (codes "d")) ∷ []) ≡ breach 10 1
unfolding breach
odd_page = refl

bare_disk : first_breach a_disk ≡ breach 5 4
unfolding breach
bare_disk = refl
