-- What the lines of a stack say: what each declares, on which machine, and what stands on what.
use Rattle.std.specs.Prelude.{ℕ, List, Bool, true, false, ◌&&◌, ◌||◌, Option, Some, None}
use Rattle.std.specs.List.{list_any}
use Rattle.std.specs.Str.{bytes_eq}
use Rattle.stack_text.specs.declared.stack.StackLine.{StackLine}
use Rattle.stack_text.specs.declared.stack.StackLine.TheVariants.{Page, File, Layer}
use Rattle.stack_text.specs.declared.stack.LayerKind.TheVariants.{Disk, Mirror, Upper}
use Rattle.stack_text.specs.declared.stack.UpperKind.TheVariants.{Coherency, Dfs, Vmm}

abbrev pub is_page : StackLine → Bool
is_page (Page size) = true
is_page _ = false

abbrev pub is_file : StackLine → Bool
is_file (File name pages) = true
is_file _ = false

abbrev pub is_layer : StackLine → Bool
is_layer (Layer name machine kind) = true
is_layer _ = false

abbrev pub is_disk : StackLine → Bool
is_disk (Layer name machine Disk) = true
is_disk _ = false

abbrev pub is_mirror : StackLine → Bool
is_mirror (Layer name machine (Mirror left right)) = true
is_mirror _ = false

-- a coherency layer, a distributed layer or a memory manager
abbrev pub is_upper : StackLine → Bool
is_upper (Layer name machine (Upper kind below)) = true
is_upper _ = false

abbrev pub is_coherency : StackLine → Bool
is_coherency (Layer name machine (Upper Coherency below)) = true
is_coherency _ = false

abbrev pub is_dfs : StackLine → Bool
is_dfs (Layer name machine (Upper Dfs below)) = true
is_dfs _ = false

abbrev pub is_vmm : StackLine → Bool
is_vmm (Layer name machine (Upper (Vmm frames) below)) = true
is_vmm _ = false

-- a disk or a mirror
abbrev pub is_storage : StackLine → Bool
is_storage line = is_disk line || is_mirror line

-- the name that a line declares
abbrev pub name_of : StackLine → Option (List ℕ)
name_of (Page size) = None
name_of (File name pages) = Some name
name_of (Layer name machine kind) = Some name

-- the machine of a layer
abbrev pub machine_of : StackLine → Option (List ℕ)
machine_of (Layer name machine kind) = Some machine
machine_of _ = None

-- there is a word, and it is this one
abbrev pub is_word : Option (List ℕ) → List ℕ → Bool
is_word None word = false
is_word (Some own) word = bytes_eq own word

-- the line declares the name
abbrev pub is_named : List ℕ → StackLine → Bool
is_named name line = is_word (name_of line) name

-- the line declares a layer of the name
abbrev pub is_layer_named : List ℕ → StackLine → Bool
is_layer_named name line = is_layer line && is_named name line

-- each layer that the line stands on passes the test
abbrev pub all_bases : (List ℕ → Bool) → StackLine → Bool
all_bases test (Layer name machine (Mirror left right)) = test left && test right
all_bases test (Layer name machine (Upper kind below)) = test below
all_bases test _ = true

-- the line stands on the layer of this name
abbrev pub stands_on : List ℕ → StackLine → Bool
stands_on base (Layer name machine (Mirror left right)) = bytes_eq left base || bytes_eq right base
stands_on base (Layer name machine (Upper kind below)) = bytes_eq below base
stands_on base _ = false

-- one of the lines declares a layer of the name
abbrev pub is_declared : List StackLine → List ℕ → Bool
is_declared lines name = list_any (λ line. is_layer_named name line) lines

-- one of them declares a disk or a mirror of the name
abbrev pub is_storage_name : List StackLine → List ℕ → Bool
is_storage_name lines name = list_any (λ line. is_storage line && is_named name line) lines

-- one of them declares a memory manager of the name
abbrev pub is_vmm_name : List StackLine → List ℕ → Bool
is_vmm_name lines name = list_any (λ line. is_vmm line && is_named name line) lines

-- one of them stands on the layer of the name
abbrev pub is_used : List StackLine → List ℕ → Bool
is_used lines name = list_any (λ line. stands_on name line) lines

-- one of them is a mirror that has the layer of the name as a side
abbrev pub is_side : List StackLine → List ℕ → Bool
is_side lines name = list_any (λ line. is_mirror line && stands_on name line) lines

-- a coherency layer on a disk or a mirror
abbrev pub is_coherent_storage : List StackLine → StackLine → Bool
is_coherent_storage lines (Layer name machine (Upper Coherency below)) = is_storage_name lines below
is_coherent_storage lines _ = false
