use Rattle.std.proofs.Common.{◌≡◌, ◌++◌, drop}
use Rattle.name_context.specs.Keys.{path_key}
use Rattle.name_context.proofs.keys.key_of.Given as goal

abbrev pub invariant-loop-part : goal.invariant-loop-part
invariant-loop-part l = l.key.items ++ path_key (drop l.part-index l.path) ≡ path_key l.path
