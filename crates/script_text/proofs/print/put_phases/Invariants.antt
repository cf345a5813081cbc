use Rattle.std.proofs.Common.{◌≡◌, ◌++◌, drop}
use Rattle.std.specs.List.{flat_map}
use Rattle.text_words.specs.Lines.{text_of}
use Rattle.script_text.specs.Grammar.{phase_lines}
use Rattle.script_text.proofs.print.put_phases.Given as goal

-- what is written, and what is left to write
abbrev pub invariant-loop-phase : goal.invariant-loop-phase
invariant-loop-phase l = l.out.items ++ text_of (flat_map (phase_lines l.clients) (drop l.phase-index l.phases)) ≡ l.fn.out.items ++ text_of (flat_map (phase_lines l.clients) l.phases)
