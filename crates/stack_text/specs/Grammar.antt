-- Which texts are stack texts: the words of each line, and the one spelling of a stack.
use Rattle.std.specs.Prelude.{ℕ, ◌<◌, ◌≤◌, List, [], ◌∷◌, length, map, codes}
use Rattle.std.specs.List.{AllByRecursion}
use Rattle.std.specs.Fmt.{decimal}
use Rattle.text_words.specs.Lines.{text_of}
use Rattle.text_words.specs.Words.{IsName}
use Rattle.stack_text.specs.declared.stack.TheConstants.{MAX_LINES}
use Rattle.stack_text.specs.declared.stack.StackLine.{StackLine}
use Rattle.stack_text.specs.declared.stack.StackLine.TheVariants.{Page, File, Layer}
use Rattle.stack_text.specs.declared.stack.LayerKind.{LayerKind}
use Rattle.stack_text.specs.declared.stack.LayerKind.TheVariants.{Disk, Mirror, Upper}
use Rattle.stack_text.specs.declared.stack.UpperKind.{UpperKind}
use Rattle.stack_text.specs.declared.stack.UpperKind.TheVariants.{Coherency, Dfs, Vmm}
use Rattle.stack_text.specs.declared.stack.StackText.{StackText}

-- the words of a line
abbrev pub line_words : StackLine → List (List ℕ)
line_words (Page size) = codes "page" ∷ decimal size ∷ []
line_words (File name pages) = codes "file" ∷ name ∷ decimal pages ∷ []
line_words (Layer name machine Disk) = codes "disk" ∷ name ∷ machine ∷ []
line_words (Layer name machine (Mirror left right)) = codes "mirror" ∷ name ∷ machine ∷ left ∷ right ∷ []
line_words (Layer name machine (Upper Coherency below)) = codes "coherency" ∷ name ∷ machine ∷ below ∷ []
line_words (Layer name machine (Upper Dfs below)) = codes "dfs" ∷ name ∷ machine ∷ below ∷ []
line_words (Layer name machine (Upper (Vmm frames) below)) = codes "vmm" ∷ name ∷ machine ∷ below ∷ decimal frames ∷ []

abbrev pub IsNumber : ℕ → Type 0
IsNumber n = n < 4294967296

-- an upper layer's number, which a memory manager alone has
abbrev pub HasNumber : UpperKind → Type 0
HasNumber (Vmm frames) = IsNumber frames
HasNumber _ = Unit {0}

-- what a layer's line has after its machine
abbrev pub HasBases : LayerKind → Type 0
HasBases Disk = Unit {0}
HasBases (Mirror left right) = IsName left × IsName right
HasBases (Upper kind below) = IsName below × HasNumber kind

-- a line that a text can have: names are names, and numbers have at most 32 bits
abbrev pub IsStackLine : StackLine → Type 0
IsStackLine (Page size) = IsNumber size
IsStackLine (File name pages) = IsName name × IsNumber pages
IsStackLine (Layer name machine kind) = IsName name × IsName machine × HasBases kind

-- a stack that a text can have: at most `MAX_LINES` such lines
pub record IsStack (stack : StackText) : Type 0 where
  pub lines : AllByRecursion IsStackLine stack.lines
  pub few : length stack.lines ≤ MAX_LINES

-- the one text of a stack
abbrev pub spelling : StackText → List ℕ
spelling stack = text_of (map (λ line. line_words line) stack.lines)
