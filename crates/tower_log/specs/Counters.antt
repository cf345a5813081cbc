-- How many events each caller made.
use Rattle.std.specs.Prelude.{ℕ, ◌==◌, List, [], ◌∷◌, if◌then◌else◌}
use Rattle.tower_log.specs.declared.counters.Counter.{Counter}

-- what contracts see of the counters
pub record CountersSeen : Type 0 where
  -- the counters, in the order of their callers' first events
  pub list : List Counter
  -- for how many more callers there is room
  pub room : ℕ

-- what a caller's counter says; 0 if it has none
abbrev pub count_of : List Counter → ℕ → ℕ
count_of [] caller = 0
count_of (counter ∷ counters) caller = if counter.caller == caller then counter.count else count_of counters caller
