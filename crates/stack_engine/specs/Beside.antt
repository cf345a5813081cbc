-- What a look at the ground does to a file's engine, beside all that the layers have of the page.
use Rattle.std.specs.Prelude.{◌≡◌, ℕ, List}
use Rattle.page_ground.specs.Seen.{IsCalm, ReadsPage}
use Rattle.stack_engine.specs.Engine.{EngineSeen, log_in}
use Rattle.stack_engine.specs.Moves.{Goes}

-- A PAGE WAS READ FROM THE GROUND: nothing was entered, and every table and the ground's pages are as before
pub record ReadsGround (page : ℕ) (bytes : List ℕ) (old new : EngineSeen) : Type 0 where
  pub goes : Goes old new
  pub tables : new.tables ≡ old.tables
  pub log : log_in new ≡ log_in old
  pub spare : new.trail.spare ≡ old.trail.spare
  pub pages : new.ground.pages ≡ old.ground.pages
  pub read : ReadsPage old.ground.pages page bytes
  pub calm : IsCalm old.ground new.ground
