use Rattle.std.proofs.Common.{◌≡◌, ◌++◌, List, take, vec_capacity}
use Rattle.script_text.specs.declared.script.Said.{Said}
use Rattle.script_meaning.specs.Fits.{lines_of}
use Rattle.spr_client.specs.Lines.{IsOnMachine, LinesDone}
use Rattle.spr_client.proofs.lines.do_lines.Given as goal

-- the client's lines so far are done
abbrev pub invariant-loop-line : goal.invariant-loop-line
invariant-loop-line g l = record {
  done : (one : List Said) × (l.said.items ≡ l.fn.said.items ++ one)
      × LinesDone l.common.mount.now l.fn.client.caller l.fn.client.state (lines_of l.fn.client.caller (take l.line-index l.lines)) l.fn.pass l.pass one l.client.state;
  on : IsOnMachine l.common.mount.now l.client.state;
  caller : l.client.caller ≡ l.fn.client.caller;
  room : vec_capacity l.said ≡ vec_capacity l.fn.said;
}
