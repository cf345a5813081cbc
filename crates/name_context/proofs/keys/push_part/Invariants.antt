use Rattle.std.proofs.Common.{◌≡◌, ◌++◌, drop}
use Rattle.std.specs.List.{flat_map}
use Rattle.name_context.specs.Keys.{byte_key}
use Rattle.name_context.proofs.keys.push_part.Given as goal

abbrev pub invariant-loop-byte : goal.invariant-loop-byte
invariant-loop-byte l = l.key.items ++ flat_map byte_key (drop l.byte-index l.byte-items) ≡ l.fn.key.items ++ flat_map byte_key l.byte-items
