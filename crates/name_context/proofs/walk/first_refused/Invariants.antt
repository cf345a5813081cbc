use Rattle.std.proofs.Common.{◌≡◌, ℕ, List, [], take, drop}
use Rattle.name_context.specs.declared.entry.NameCall.{NameCall}
use Rattle.name_context.specs.Names.{Name}
use Rattle.name_context.specs.Keys.{path_key}
use Rattle.name_context.specs.Refusal.{walk}
use Rattle.name_context.proofs.walk.first_refused.Given as goal

-- the key is that of the parts so far, and the rest of the walk refuses what the whole does
pub record IsAt (names : List Name) (call : NameCall) (path : List (List ℕ)) (place : ℕ) (key : List ℕ) : Type 0 where
  pub key_is : key ≡ path_key (take place path)
  pub rest : walk names call (take place path) (drop place path) ≡ walk names call [] path

abbrev pub invariant-loop-at : goal.invariant-loop-at
invariant-loop-at l = IsAt l.tree l.call l.path l.at l.key.items
