use Rattle.std.proofs.Common.{◌≡◌, drop}
use Rattle.script_text.specs.Reading.{named}
use Rattle.script_text.proofs.verb.named.Given as goal

-- the verbs that are left decide
abbrev pub invariant-loop-verb : goal.invariant-loop-verb
invariant-loop-verb l = named l.word (drop l.verb-index l.verbs) ≡ named l.word l.verbs
