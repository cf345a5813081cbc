-- The stack of a text, what it mounts, and the lines of its tree.
use Rattle.std.specs.Prelude.{◌≡◌, ℕ, ◌≤◌, List, length, Some, IfSome}
use Rattle.stack_text.specs.declared.stack.StackText.{StackText}
use Rattle.stack_text.specs.Grammar.{IsStack, spelling}
use Rattle.stack_accept.specs.Rules.{IsAccepted}
use Rattle.stack_accept.specs.Mount.{Mount, mounted}
use Rattle.stack_accept.specs.Check.{check_text}
use Rattle.spr_io.specs.Texts.{ShelfSeen}
use Rattle.run_texts.specs.declared.texts.TheConstants.{TEXT_LIMIT}

-- the text of a name, where it is told; it has at most so many bytes
pub record IsText (shelf : ShelfSeen) (limit : ℕ) (name text : List ℕ) : Type 0 where
  pub told : IfSome (shelf.texts name) (λ there. there ≡ Some text)
  pub few : length text ≤ limit

-- a shelf after reads has the texts that it had
abbrev pub SameTexts : ShelfSeen → ShelfSeen → Type 0
SameTexts before after = (name : List ℕ) → after.texts name ≡ before.texts name

-- a stack that a text spells
pub record SpellsStack (text : List ℕ) (stack : StackText) : Type 0 where
  pub is_stack : IsStack stack
  pub spelled : text ≡ spelling stack

-- a stack that a text spells, which keeps every rule
pub record Accepts (text : List ℕ) (stack : StackText) : Type 0 where
  pub spells : SpellsStack text stack
  pub accepted : IsAccepted stack.lines

-- the text of the name spells this stack, which keeps every rule
pub record IsStackOf (shelf : ShelfSeen) (name : List ℕ) (stack : StackText) : Type 0 where
  pub text : List ℕ
  pub text_is : IsText shelf TEXT_LIMIT name text
  pub accepts : Accepts text stack

-- the text of the name spells a stack that keeps every rule, and this is what it mounts
pub record IsMounted (shelf : ShelfSeen) (name : List ℕ) (mount : Mount) : Type 0 where
  pub stack : StackText
  pub stack_is : IsStackOf shelf name stack
  pub mount_is : mount ≡ mounted stack.lines

-- these are the lines of the tree that the stack of the name makes
abbrev pub IsTreeOf : ShelfSeen → List ℕ → List ℕ → Type 0
IsTreeOf shelf name text = (mount : Mount) × IsMounted shelf name mount × (text ≡ check_text mount)
