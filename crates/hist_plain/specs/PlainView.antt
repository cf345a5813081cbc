-- What the fields of the plain file stand for.
use Rattle.std.specs.Prelude.{◌≡◌, ◌≤◌, length, All}
use Rattle.hist_plain.specs.declared.plain.Plain.TheInside.{Inside}
use Rattle.hist_plain.specs.declared.TheConstants.{MAX_EVENTS}
use Rattle.hist_plain.specs.File.{Counted}
use Rattle.hist_plain.specs.Plain.{IsTree, IsPageSize, HasPages}

abbrev pub counted : Inside → Counted
counted p = record {
  shape = record { page_size = p.page_size; parents = p.parents.items };
  file = record { bytes = p.bytes.items; lives = p.lives.items };
  len = p.len;
}

-- its tree and its page size are within the limits, and no life is above the number of events
pub record IsWithinLimits (p : Inside) : Type 0 where
  pub tree : IsTree p.parents.items
  pub size : IsPageSize p.page_size
  pub pages : HasPages p.page_size p.bytes.items
  pub nodes : length p.lives.items ≡ length p.parents.items
  pub lives : All (λ life. life ≤ p.len) p.lives.items
  pub events : p.len ≤ MAX_EVENTS
