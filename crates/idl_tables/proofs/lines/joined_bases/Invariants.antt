use Rattle.std.proofs.Common.{◌≡◌, drop, map, []}
use Rattle.idl_tables.specs.Lines.{merged}
use Rattle.idl_tables.proofs.lines.joined_bases.Given as goal

abbrev pub invariant-loop-base : goal.invariant-loop-base
invariant-loop-base l = merged (map (λ line. line.items) l.lines) l.line.items (drop l.base-index l.bases) ≡ merged (map (λ line. line.items) l.lines) [] l.bases
