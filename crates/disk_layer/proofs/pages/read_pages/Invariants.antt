use Rattle.std.proofs.Common.{◌≡◌, IfSome, take}
use Rattle.disk_layer.specs.Disk.{pages_on}
use Rattle.page_ground.specs.Pages.{cut}
use Rattle.disk_layer.proofs.pages.read_pages.Given as goal

-- the pages so far were read, and nothing else changed
abbrev pub invariant-loop-page : goal.invariant-loop-page
invariant-loop-page g l = record {
  same : l.disk ≡ l.fn.disk;
  read : IfSome (pages_on l.fn.disk) (λ pages. take l.page pages ≡ cut l.fn.disk.shape.page_size l.page l.out);
}
