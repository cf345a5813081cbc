use Rattle.std.proofs.Common.{◌≡◌, IfSome, take}
use Rattle.page_ground.specs.Pages.{cut}
use Rattle.stack_engine.specs.Engine.{IsSound, log_in}
use Rattle.spr_volume.specs.Later.{IsLater}
use Rattle.run_files.proofs.beginning.read_pages.Given as goal

-- the pages so far were read, and the file is the same one
abbrev pub invariant-loop-page : goal.invariant-loop-page
invariant-loop-page g l = record {
  sound : IsSound l.tower.engine;
  later : IsLater l.fn.tower.engine l.tower.engine;
  log : log_in l.tower.engine ≡ log_in l.fn.tower.engine;
  same : l.tower.engine.ground.pages ≡ l.fn.tower.engine.ground.pages;
  read : IfSome l.fn.tower.engine.ground.pages (λ pages. take l.page pages ≡ cut l.size l.page l.bytes);
}
