use Rattle.std.proofs.Common.{◌≡◌, ◌≤◌, ◌+◌, ◌*◌, false}
use Rattle.link_lossy.specs.Links.{LinkSeen, Sends, every_seen}
use Rattle.link_lossy.specs.Tries.{LoseAll}
use Rattle.link_lossy.proofs.carrier.reply_comes.Given as goal

-- so far each try lost its request or its reply
abbrev pub invariant-loop-try : goal.invariant-loop-try
invariant-loop-try l = record {
  lost : (first mid : LinkSeen) → LoseAll l.tries first mid → Sends false mid (every_seen l.fn.link.every l.fn.link.given) → LoseAll l._try first (every_seen l.link.every l.link.given);
  given : l.link.given + (2 * l.tries + 1) ≤ l.fn.link.given + 2 * l._try;
}
