-- What the command `check` writes: a line for each node, with its number, name, kind and machine; and its parent, which the
-- ground has not.
use Rattle.std.specs.Prelude.{ℕ, zero, suc, ◌+◌, List, [], ◌∷◌, ◌++◌, codes, slice_get, Option, Some, None}
use Rattle.std.specs.Fmt.{decimal}
use Rattle.text_words.specs.Lines.{spaced, text_of}
use Rattle.tower_core.specs.TreeShape.{parent}
use Rattle.stack_accept.specs.declared.entries.Kind.{Kind}
use Rattle.stack_accept.specs.declared.entries.Kind.TheVariants.{Disk, Mirror, Coherency, Dfs, Vmm}
use Rattle.stack_accept.specs.declared.entries.NodeEntry.{NodeEntry}
use Rattle.stack_accept.specs.Mount.{Mount}

-- the printed word of a kind
abbrev pub kind_word : Kind → List ℕ
kind_word Disk = codes "disk"
kind_word Mirror = codes "mirror"
kind_word Coherency = codes "coherency"
kind_word Dfs = codes "dfs"
kind_word Vmm = codes "vmm"

abbrev pub name_or_none : Option (List ℕ) → List ℕ
name_or_none None = []
name_or_none (Some name) = name

abbrev pub machine_name : List (List ℕ) → ℕ → List ℕ
machine_name machines machine = name_or_none (slice_get machines machine)

abbrev pub parent_words : Mount → ℕ → List (List ℕ)
parent_words m zero = []
parent_words m (suc node) = decimal (parent m.tree (suc node)) ∷ []

abbrev pub node_words : Mount → ℕ → NodeEntry → List (List ℕ)
node_words m number node = decimal number ∷ node.name ∷ kind_word node.kind ∷ machine_name m.machines node.machine ∷ parent_words m number

-- the line of a node up to its parent
abbrev pub node_head : Mount → ℕ → NodeEntry → List ℕ
node_head m number node = decimal number ++ spaced (node.name ∷ kind_word node.kind ∷ machine_name m.machines node.machine ∷ [])

-- the words of the nodes from this number on
abbrev pub nodes_words : Mount → ℕ → List NodeEntry → List (List (List ℕ))
nodes_words m number [] = []
nodes_words m number (node ∷ nodes) = node_words m number node ∷ nodes_words m (number + 1) nodes

abbrev pub check_text : Mount → List ℕ
check_text m = text_of (nodes_words m 0 m.nodes)
