use Rattle.std.proofs.Common.{◌≡◌, drop}
use Rattle.idl_tables.specs.Lines.{once_after}
use Rattle.idl_tables.proofs.lines.add_once.Given as goal

abbrev pub invariant-loop-k : goal.invariant-loop-k
invariant-loop-k l = once_after l.line.items (drop l.k-index l.more) ≡ once_after l.fn.line.items l.more
