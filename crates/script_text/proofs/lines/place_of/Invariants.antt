use Rattle.std.proofs.Common.{◌≡◌, drop}
use Rattle.script_text.specs.Reading.{place_from}
use Rattle.script_text.proofs.lines.place_of.Given as goal

-- the clients that are left decide
abbrev pub invariant-loop-number : goal.invariant-loop-number
invariant-loop-number l = place_from l.number l.name (drop l.number l.clients) ≡ place_from 0 l.name l.clients
