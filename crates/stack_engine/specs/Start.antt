-- An engine before its first event.
use Rattle.std.specs.Prelude.{◌≡◌, ◌<◌, ◌≤◌, ℕ, []}
use Rattle.hist_plain.specs.declared.TheConstants.{MAX_EVENTS}
use Rattle.page_ground.specs.Seen.{Seen}
use Rattle.page_messages.specs.declared.paged.PagedFile.{PagedFile}
use Rattle.tower_core.specs.Sheet.{nodes_of, pages_of, seen}
use Rattle.tower_core.specs.Trail.{start}
use Rattle.tower_core.specs.TreeShape.{TreeShape, nodes}
use Rattle.layer_laws.specs.Tables.{AreBare}
use Rattle.tower_log.specs.Log.{place_of}
use Rattle.page_exchange.specs.declared.tables.Tables.{Tables}
use Rattle.page_exchange.specs.Tables.{paged_of, sides, tree_of, uses}
use Rattle.stack_engine.specs.declared.book.Book.{Book}
use Rattle.stack_engine.specs.declared.refusal.StepErr.{StepErr}
use Rattle.stack_engine.specs.declared.refusal.StepErr.TheVariants as errors
use Rattle.stack_engine.specs.Engine.{EngineSeen, file_in, log_in, tree_in}

-- tables of which nobody has anything, and a book in which nothing stands
pub record Starts (tree : TreeShape) (file : PagedFile) (tables : Tables) (book : Book) : Type 0 where
  pub tree_is : tree_of tables ≡ tree
  pub file_is : paged_of tables ≡ file
  pub bare : AreBare (sides tables)
  pub unused : (node : ℕ) → uses tables node ≡ []
  pub state : seen book.sheet ≡ start
  pub nodes_are : nodes_of book.sheet ≡ nodes tree
  pub pages_are : pages_of book.sheet ≡ file.pages
  pub trail : book.trail ≡ record { page_size = file.page_size; log = []; spare = 0; room = 0 }

-- the engine of a file over a ground, without events; the ground was not called
pub record Opens (tree : TreeShape) (file : PagedFile) (ground : Seen) (e : EngineSeen) : Type 0 where
  pub tree_is : tree_in e ≡ tree
  pub file_is : file_in e ≡ file
  pub ground_is : e.ground ≡ ground
  pub bare : AreBare (sides e.tables)
  pub unused : (node : ℕ) → uses e.tables node ≡ []
  pub no_log : log_in e ≡ []
  pub no_spare : e.trail.spare ≡ 0

-- why there is no room for an event
abbrev pub IsFullOrNoMemory : EngineSeen → StepErr → Type 0
IsFullOrNoMemory e errors.TrailFull = MAX_EVENTS ≤ place_of (log_in e)
IsFullOrNoMemory e errors.Memory = place_of (log_in e) < MAX_EVENTS
IsFullOrNoMemory e (errors.StoreFault disk count) = ⊥
