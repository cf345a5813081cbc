use Rattle.std.proofs.Common.{◌≡◌, ◌≤◌, length, take, vec_capacity}
use Rattle.spr_client.proofs.line.parts_of.Given as goal

-- the parts so far stand there, and there is room for the others
abbrev pub invariant-loop-part : goal.invariant-loop-part
invariant-loop-part l = record {
  first : l.parts.items ≡ take l.part-index l.path;
  room : length l.path ≤ vec_capacity l.parts;
}
