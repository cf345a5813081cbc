-- A command's text that is written in parts, and how the command ends then.
use Rattle.std.proofs.Common.{◌≡◌, ⊎_elim, inl, inr, ℕ, List, [], ◌++◌, refl, sym, ap, subst, ◌∙◌, append_assoc}
use Rattle.std.proofs.lemmas.List.{append-nil}
use Rattle.spr_io.specs.Texts.{SinkSeen}
use Rattle.spr_report.specs.declared.status.Status.{Status}
use Rattle.spr_report.specs.declared.status.Status.TheVariants as statuses
use Rattle.spr_report.specs.Writing.{status_line, with_text, Broke, Finishes}
use Rattle.spr_report.proofs.Writes.{took-then, broke-first, broke-later}

-- a text was written whole, and then a command ended with more
pub finishes-then : (before mid now : SinkSeen) (first last : List ℕ) (status result : Status) → mid ≡ with_text before first → Finishes mid now last status result → Finishes before now (first ++ last) status result
finishes-then before mid now first last status result done ends =
    let join : first ++ (last ++ status_line status) ≡ (first ++ last) ++ status_line status = sym (append_assoc first last (status_line status)) in
    ⊎_elim
    (λ l. inl (l.0, took-then before mid now first (last ++ status_line status) done l.1 ∙ ap (with_text before) join))
    (λ r. inr (r.0, broke-later ((first ++ last) ++ status_line status) first (last ++ status_line status) before mid now join done r.1))
    ends

-- the sink failed in the first part of a text
pub finishes-broke : (before now : SinkSeen) (first last : List ℕ) (status : Status) → Broke first before now → Finishes before now (first ++ last) status statuses.SinkFault
finishes-broke before now first last status broke =
    inr (refl, subst (λ (t : List ℕ). Broke t before now) (sym (append_assoc first last (status_line status))) (broke-first first (last ++ status_line status) before now broke))

-- nothing more was written
pub finishes-alone : (before now : SinkSeen) (text : List ℕ) (status result : Status) → Finishes before now (text ++ []) status result → Finishes before now text status result
finishes-alone before now text status result ends = subst (λ (t : List ℕ). Finishes before now t status result) (append-nil text) ends
