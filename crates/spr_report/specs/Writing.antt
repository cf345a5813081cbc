-- How a text is written to a sink.
use Rattle.std.specs.Prelude.{◌≡◌, ◌⊎◌, ℕ, List, [], ◌∷◌, ◌++◌, codes, Result, Ok, Err}
use Rattle.std.specs.Option.{option_map}
use Rattle.std.specs.Fmt.{decimal}
use Rattle.text_words.specs.Lines.{line_of}
use Rattle.spr_io.specs.Causes.{Rose}
use Rattle.spr_io.specs.Texts.{SinkSeen}
use Rattle.spr_report.specs.declared.status.Status.{Status}
use Rattle.spr_report.specs.declared.status.Status.TheVariants as statuses
use Rattle.spr_report.specs.Status.{number_of}

-- the line of a status
abbrev pub status_line : Status → List ℕ
status_line status = line_of (codes "status" ∷ decimal (number_of status) ∷ [])

-- a sink that took a text whole, without a fault
abbrev pub with_text : SinkSeen → List ℕ → SinkSeen
with_text sink text = record { written = option_map (λ w. w ++ text) sink.written; faults = sink.faults }

-- a sink that failed: its count of faults rose, and it had taken a first part of the text
pub record Broke (text : List ℕ) (before now : SinkSeen) : Type 0 where
  pub part : List ℕ
  pub rest : List ℕ
  pub is : part ++ rest ≡ text
  pub written : now.written ≡ option_map (λ w. w ++ part) before.written
  pub rose : Rose before.faults now.faults

-- the sink took the text whole, or it failed
abbrev pub Writes : {A E : Type 0} → SinkSeen → SinkSeen → List ℕ → Result A E → Type 0
Writes {A = A} {E = E} before now text (Ok done) = now ≡ with_text before text
Writes {A = A} {E = E} before now text (Err failed) = Broke text before now

-- The sink took the text and the line of the status whole, and the command ends so; or the sink failed. So a command that ends
-- in its own status had no fault of the sink.
abbrev pub Finishes : SinkSeen → SinkSeen → List ℕ → Status → Status → Type 0
Finishes before now text status result =
    ((result ≡ status) × (now ≡ with_text before (text ++ status_line status)))
    ⊎ ((result ≡ statuses.SinkFault) × Broke (text ++ status_line status) before now)
