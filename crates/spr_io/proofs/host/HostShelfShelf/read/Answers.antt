use Rattle.std.proofs.Common.{◌≡◌, ◌≤◌, ◌+◌, ◌++◌, List, ℕ, length, take, drop, None, sym, ap, ◌∙◌, arith}
use Rattle.std.proofs.lemmas.List.{take-append-drop, length-drop}
use Rattle.spr_io.specs.Texts.{Appends}
use Rattle.spr_io.proofs.host.HostShelfShelf.read.Goals as goal

appends_untold : (before after : List ℕ) (count limit : ℕ) → length after ≡ length before + count → take (length before) after ≡ before → count ≤ limit → Appends None limit before after
appends_untold before after count limit longer same short = record {
  text = drop (length before) after;
  appended = sym (take-append-drop (length before) after) ∙ ap (λ (front : List ℕ). front ++ drop (length before) after) same;
  fits = rw length-drop (omega arith);
  found = tt;
}

pub returns-in-Ok-clause-ok : goal.returns-in-Ok-clause-ok
returns-in-Ok-clause-ok g c = appends_untold c.args.out.now.items c.append.new.out.items c.in-Ok.count c.args.limit c.in-Ok.ensures.count c.append.ensures.before c.if-count-limit.true
