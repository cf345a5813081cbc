-- How a command ends.
use Rattle.std.specs.Prelude.{◌≡◌, ◌⊎◌, List, ℕ}
use Rattle.spr_io.specs.Texts.{SinkSeen}
use Rattle.spr_report.specs.declared.status.Status.{Status}
use Rattle.spr_report.specs.Writing.{Broke, Finishes, with_text}

-- a command ended with a text and a status of which this holds, and they were written so
pub record Written (Says : List ℕ → Status → Type 0) (before after : SinkSeen) (result : Status) : Type 0 where
  pub text : List ℕ
  pub status : Status
  pub says : Says text status
  pub ends : Finishes before after text status result

-- a text was offered to a sink, which took it whole, or failed
abbrev pub Offered : List ℕ → SinkSeen → SinkSeen → Type 0
Offered notices before after = (after ≡ with_text before notices) ⊎ Broke notices before after

-- a command ended with notices, a text and a status of which this holds; the text and the status were written so, and the notices were offered to a sink
-- of their own, whose failure changes nothing else
pub record WrittenBeside (Says : List ℕ → List ℕ → Status → Type 0) (before after notices_before notices_after : SinkSeen) (result : Status) : Type 0 where
  pub notices : List ℕ
  pub offered : Offered notices notices_before notices_after
  pub written : Written (Says notices) before after result
