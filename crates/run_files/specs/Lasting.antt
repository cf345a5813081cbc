-- Events that a plain file can take.
use Rattle.std.specs.Prelude.{◌≡◌, ◌≤◌, ℕ, List, length}
use Rattle.std.specs.List.{AllByRecursion}
use Rattle.hist_plain.specs.declared.TheConstants.{MAX_EVENTS}
use Rattle.hist_plain.specs.declared.event.Event.{Event}
use Rattle.hist_plain.specs.File.{Counted}
use Rattle.hist_plain.specs.History.{AllSuit}
use Rattle.hist_plain.specs.Plain.{asked_len}

-- the file has no event yet, each of these suits it behind those before it, and each reads so many bytes at most
pub record CanPlay (file : Counted) (events : List Event) (room : ℕ) : Type 0 where
  pub fresh : file.len ≡ 0
  pub few : length events ≤ MAX_EVENTS
  pub suits : AllSuit file.shape file.file events
  pub asked : AllByRecursion (λ event. asked_len event ≤ room) events
