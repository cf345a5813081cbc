-- The rules of a stack, each as a test of a line with the lines before it, or of the whole text at its end.
use Rattle.std.specs.Prelude.{◌≡◌, ℕ, ◌+◌, ◌^◌, List, [], ◌∷◌, ◌++◌, length, reverse, count_by, Bool, true, false, not, ◌&&◌, ◌||◌, ◌==◌, nat_lt, nat_le, if◌then◌else◌, Option, Some, None}
use Rattle.std.specs.List.{list_any, list_all, find}
use Rattle.std.specs.Str.{bytes_eq}
use Rattle.hist_plain.specs.declared.TheConstants.{MAX_PAGES}
use Rattle.stack_text.specs.declared.stack.StackLine.{StackLine}
use Rattle.stack_text.specs.declared.stack.StackLine.TheVariants.{Page, File, Layer}
use Rattle.stack_text.specs.declared.stack.LayerKind.TheVariants.{Disk, Mirror, Upper}
use Rattle.stack_text.specs.declared.stack.UpperKind.{UpperKind}
use Rattle.stack_text.specs.declared.stack.UpperKind.TheVariants.{Vmm}
use Rattle.stack_accept.specs.declared.TheConstants.{MAX_FILES, MAX_DISKS, MAX_LAYERS, MAX_DEPTH, MAX_FRAMES}
use Rattle.stack_accept.specs.declared.rule.Rule.{Rule}
use Rattle.stack_accept.specs.declared.rule.Rule.TheVariants.{PageFirst, NewName, EarlierLayer, MirrorSides, OneUser, OneGround, CoherentFirst, ManagerOnTop, SameMachine, Limits}
use Rattle.stack_accept.specs.Lines.{is_file, is_disk, is_mirror, is_coherency, is_dfs, is_page, is_storage, is_upper, name_of, machine_of, is_word, is_named, is_layer_named, all_bases, is_declared, is_storage_name, is_vmm_name, is_used, is_side, is_coherent_storage}

-- The page line is first and alone.
abbrev pub is_page_first : List StackLine → StackLine → Bool
is_page_first [] line = is_page line
is_page_first (first ∷ earlier) line = not (is_page line)

-- The name is no file's and no layer's before.
abbrev pub is_taken : List StackLine → List ℕ → Bool
is_taken earlier name = list_any (λ line. is_named name line) earlier

abbrev pub is_new_name : List StackLine → Option (List ℕ) → Bool
is_new_name earlier None = true
is_new_name earlier (Some name) = not (is_taken earlier name)

-- A mirror's sides are disks, mirrors, or coherency layers that stand on a disk or a mirror.
abbrev pub may_be_side : List StackLine → List ℕ → Bool
may_be_side earlier name = list_any (λ line. (is_storage line || is_coherent_storage earlier line) && is_named name line) earlier

abbrev pub has_fit_sides : List StackLine → StackLine → Bool
has_fit_sides earlier (Layer name machine (Mirror left right)) = may_be_side earlier left && may_be_side earlier right
has_fit_sides earlier _ = true

-- both sides of a mirror are this one layer
abbrev pub is_both_sides : List ℕ → StackLine → Bool
is_both_sides base (Layer name machine (Mirror left right)) = bytes_eq left base && bytes_eq right base
is_both_sides base _ = false

-- A disk, a mirror and a mirror's side stand under one layer: whoever comes second is refused.
abbrev pub is_shared_layer : List StackLine → StackLine → List ℕ → Bool
is_shared_layer earlier line base = not (is_mirror line) && not (is_storage_name earlier base) && not (is_side earlier base)

abbrev pub is_unused : List StackLine → StackLine → List ℕ → Bool
is_unused earlier line base = not (is_used earlier base) && not (is_both_sides base line)

abbrev pub may_use : List StackLine → StackLine → List ℕ → Bool
may_use earlier line base = is_unused earlier line base || is_shared_layer earlier line base

-- Only mirrors and coherency layers stand on a disk or a mirror.
abbrev pub is_coherent_first : List StackLine → StackLine → Bool
is_coherent_first earlier line = is_mirror line || is_coherency line || all_bases (λ base. not (is_storage_name earlier base)) line

-- A layer is on the machine of what it stands on, unless that is a distributed layer.
abbrev pub is_near : Option (List ℕ) → StackLine → Bool
is_near None line = true
is_near (Some machine) line = is_dfs line || is_word (machine_of line) machine

abbrev pub reaches : List StackLine → Option (List ℕ) → List ℕ → Bool
reaches earlier machine base = list_any (λ line. is_layer_named base line && is_near machine line) earlier

-- what a layer adds to the depth of what it stands on
abbrev pub depth_on : StackLine → (List ℕ → ℕ) → ℕ
depth_on (Layer name machine (Upper kind below)) depth = depth below + 1
depth_on _ depth = 0

-- how many upper layers there are from the layer of the name down to a disk or a mirror; the lines stand last first
abbrev pub depth_back : List StackLine → List ℕ → ℕ
depth_back [] name = 0
depth_back (line ∷ earlier) name = if is_layer_named name line then depth_on line (λ base. depth_back earlier base) else depth_back earlier name

abbrev pub depth_of : List StackLine → List ℕ → ℕ
depth_of earlier name = depth_back (reverse earlier) name

-- one more upper layer may be, and may stand on the layer of the name
abbrev pub has_room : List StackLine → List ℕ → Bool
has_room earlier below = nat_lt (count_by (λ line. is_upper line) earlier) MAX_LAYERS && nat_lt (depth_of earlier below) MAX_DEPTH

abbrev pub is_count : ℕ → ℕ → Bool
is_count most n = nat_le 1 n && nat_le n most

-- a power of two from 64 to 4,096
abbrev pub is_page_size : ℕ → Bool
is_page_size size = list_any (λ k. size == 2 ^ k) (6 ∷ 7 ∷ 8 ∷ 9 ∷ 10 ∷ 11 ∷ 12 ∷ [])

-- a memory manager's frames are within their limit
abbrev pub has_few_frames : UpperKind → Bool
has_few_frames (Vmm frames) = is_count MAX_FRAMES frames
has_few_frames _ = true

-- The limits on sizes and counts hold. Four disks make mirrors of three levels at most.
abbrev pub is_within_limits : List StackLine → StackLine → Bool
is_within_limits earlier (Page size) = is_page_size size
is_within_limits earlier (File name pages) = nat_lt (count_by (λ line. is_file line) earlier) MAX_FILES && is_count MAX_PAGES pages
is_within_limits earlier (Layer name machine Disk) = nat_lt (count_by (λ line. is_disk line) earlier) MAX_DISKS
is_within_limits earlier (Layer name machine (Mirror left right)) = true
is_within_limits earlier (Layer name machine (Upper kind below)) = has_room earlier below && has_few_frames kind

-- what a rule asks of a line, given the lines before it
abbrev pub keeps : Rule → List StackLine → StackLine → Bool
keeps PageFirst earlier line = is_page_first earlier line
keeps NewName earlier line = is_new_name earlier (name_of line)
keeps EarlierLayer earlier line = all_bases (λ base. is_declared earlier base) line
keeps MirrorSides earlier line = has_fit_sides earlier line
keeps OneUser earlier line = all_bases (λ base. may_use earlier line base) line
keeps OneGround earlier line = true
keeps CoherentFirst earlier line = is_coherent_first earlier line
keeps ManagerOnTop earlier line = all_bases (λ base. not (is_vmm_name earlier base)) line
keeps SameMachine earlier line = all_bases (λ base. reaches earlier (machine_of line) base) line
keeps Limits earlier line = is_within_limits earlier line

-- A disk and a mirror stand under some layer.
abbrev pub has_user : List StackLine → StackLine → Bool
has_user lines (Layer name machine Disk) = is_used lines name
has_user lines (Layer name machine (Mirror left right)) = is_used lines name
has_user lines _ = true

-- an upper layer that is no mirror's side
abbrev pub is_node : List StackLine → StackLine → Bool
is_node lines (Layer name machine (Upper kind below)) = not (is_side lines name)
is_node lines _ = false

-- such a layer that stands on a disk or a mirror
abbrev pub is_first_node : List StackLine → StackLine → Bool
is_first_node lines line = is_node lines line && not (all_bases (λ base. not (is_storage_name lines base)) line)

-- what a rule asks of the end of the text
abbrev pub keeps_at_end : Rule → List StackLine → Bool
keeps_at_end PageFirst [] = false
keeps_at_end PageFirst (line ∷ lines) = true
keeps_at_end OneUser lines = list_all (λ line. has_user lines line) lines
keeps_at_end OneGround lines = count_by (λ line. is_first_node lines line) lines == 1
keeps_at_end Limits lines = list_any (λ line. is_file line) lines
keeps_at_end _ lines = true

-- the rules, the lowest first
abbrev pub rules_in_order : List Rule
rules_in_order = PageFirst ∷ NewName ∷ EarlierLayer ∷ MirrorSides ∷ OneUser ∷ OneGround ∷ CoherentFirst ∷ ManagerOnTop ∷ SameMachine ∷ Limits ∷ []

-- the printed number of a rule
abbrev pub number_of : Rule → ℕ
number_of PageFirst = 1
number_of NewName = 2
number_of EarlierLayer = 3
number_of MirrorSides = 4
number_of OneUser = 5
number_of OneGround = 6
number_of CoherentFirst = 7
number_of ManagerOnTop = 8
number_of SameMachine = 9
number_of Limits = 10

-- the lowest rule that a line breaks
abbrev pub broken_by : List StackLine → StackLine → Option Rule
broken_by earlier line = find (λ rule. not (keeps rule earlier line)) rules_in_order

abbrev pub broken_at_end : List StackLine → Option Rule
broken_at_end lines = find (λ rule. not (keeps_at_end rule lines)) rules_in_order

-- a broken rule, and the number of the line, from 1
pub record Breach : Type 0 where
  pub rule : ℕ
  pub line : ℕ

-- the breach of the line after the earlier ones, or else what comes later
abbrev pub breach_or : List StackLine → Option Rule → Option Breach → Option Breach
breach_or earlier (Some rule) later = Some (record { rule = number_of rule; line = length earlier + 1 })
breach_or earlier None later = later

-- the first breach of the lines that follow the earlier ones, and of the end of the text
abbrev pub breach_after : List StackLine → List StackLine → Option Breach
breach_after earlier [] = breach_or earlier (broken_at_end earlier) None
breach_after earlier (line ∷ lines) = breach_or earlier (broken_by earlier line) (breach_after (earlier ++ line ∷ []) lines)

-- the first line that breaks a rule, with the lowest rule that it breaks
abbrev pub first_breach : List StackLine → Option Breach
first_breach lines = breach_after [] lines

-- the stack can be mounted
abbrev pub IsAccepted : List StackLine → Type 0
IsAccepted lines = first_breach lines ≡ None

-- The same, rule by rule: each line that follows the earlier ones keeps every rule, and so does the end of the text.
abbrev pub KeepsRules : List StackLine → List StackLine → Type 0
KeepsRules earlier [] = (rule : Rule) → keeps_at_end rule earlier ≡ true
KeepsRules earlier (line ∷ lines) = ((rule : Rule) → keeps rule earlier line ≡ true) × KeepsRules (earlier ++ line ∷ []) lines
