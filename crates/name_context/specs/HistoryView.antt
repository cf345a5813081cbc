-- The history as it is kept, beside each caller's next number.
use Rattle.std.specs.Prelude.{◌≡◌, ◌==◌, ℕ, ◌-◌, List, [], ◌∷◌, min, vec_len, vec_capacity, if◌then◌else◌}
use Rattle.name_context.specs.declared.history.Count.{Count}
use Rattle.name_context.specs.declared.history.Story.TheInside.{Inside}
use Rattle.name_context.specs.History.{count_of}
use Rattle.name_context.specs.HistorySeen.{StorySeen}

-- what a caller's count says; 0 if it has none
abbrev pub count_in : List Count → ℕ → ℕ
count_in [] caller = 0
count_in (first ∷ counts) caller = if first.caller == caller then first.count else count_in counts caller

-- there is room for an entry and for a caller
abbrev pub story_seen : Inside → StorySeen
story_seen s = record {
  entries = s.entries.items;
  room = min (vec_capacity s.entries - vec_len s.entries) (vec_capacity s.counts - vec_len s.counts);
}

-- the counts are those of the entries
abbrev pub AreCounted : Inside → Type 0
AreCounted s = (caller : ℕ) → count_in s.counts.items caller ≡ count_of caller s.entries.items
