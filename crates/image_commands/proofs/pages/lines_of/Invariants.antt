use Rattle.std.proofs.Common.{◌≡◌}
use Rattle.page_ground.specs.Pages.{cut}
use Rattle.image_commands.specs.Pages.{page_lines}
use Rattle.image_commands.proofs.pages.lines_of.Given as goal

-- the lines of the pages so far
abbrev pub invariant-loop-number : goal.invariant-loop-number
invariant-loop-number l = l.out.items ≡ page_lines 0 (cut l.shape.page_size l.number l.bytes)
