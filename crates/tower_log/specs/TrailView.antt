-- What the fields of a trail that is kept stand for.
use Rattle.std.specs.Prelude.{◌≡◌, ℕ, ◌-◌, ◌≤◌, List, length, All, min, vec_len, vec_capacity}
use Rattle.hist_plain.specs.History.{mine}
use Rattle.tower_log.specs.declared.logged.Logged.{Logged}
use Rattle.tower_log.specs.declared.trail.Trail.TheInside.{Inside}
use Rattle.tower_log.specs.Counters.{count_of}
use Rattle.tower_log.specs.Log.{trail_of}
use Rattle.tower_log.specs.Merged.{merged, ArePlaced}
use Rattle.tower_log.specs.Trail.{TrailSeen}

-- its log: the notes among the entries
abbrev pub log_in : Inside → List Logged
log_in t = merged 0 t.blocks.entries t.notes.items

-- for how many more notes there is room
abbrev pub note_room : Inside → ℕ
note_room t = vec_capacity t.notes - vec_len t.notes

-- there is room for an entry, its caller and a note, beside those of the spare reads
abbrev pub trail_seen : Inside → TrailSeen
trail_seen t = record {
  page_size = t.page_size;
  log = log_in t;
  spare = vec_len t.pool;
  room = min t.blocks.room (min t.counters.room (note_room t)) - vec_len t.pool;
}

-- the counters tell the callers' events, the notes' places rise, and each spare read has its bytes and its room
pub record IsKept (t : Inside) : Type 0 where
  pub counts : (caller : ℕ) → count_of t.counters.list caller ≡ length (mine (trail_of (log_in t)) caller)
  pub placed : ArePlaced 0 (length t.blocks.entries) t.notes.items
  pub pool : All (λ bytes. vec_len bytes ≡ t.page_size) t.pool.items
  pub entry_room : vec_len t.pool ≤ t.blocks.room
  pub caller_room : vec_len t.pool ≤ t.counters.room
  pub note_room : vec_len t.pool ≤ note_room t
