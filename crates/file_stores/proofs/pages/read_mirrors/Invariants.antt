use Rattle.std.proofs.Common.{◌≡◌, IfSome, take, false}
use Rattle.page_ground.specs.Pages.{cut}
use Rattle.mirror_layer.specs.Ground.{seen_of}
use Rattle.file_stores.specs.Reading.{AllStay}
use Rattle.file_stores.proofs.pages.read_mirrors.Given as goal

-- the pages so far were read, and nothing else changed
abbrev pub invariant-loop-page : goal.invariant-loop-page
invariant-loop-page g l = record {
  stay : AllStay false l.fn.mirrors l.mirrors;
  same : (seen_of l.mirrors).pages ≡ (seen_of l.fn.mirrors).pages;
  read : IfSome (seen_of l.fn.mirrors).pages (λ pages. take l.page pages ≡ cut l.size l.page l.out);
}
