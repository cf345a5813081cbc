-- How a run ended, by its answers and the stores that were lost.
use Rattle.std.specs.Prelude.{List, [], ◌∷◌, not, ◌||◌, Bool, true, false, if◌then◌else◌}
use Rattle.std.specs.List.{list_any, list_all}
use Rattle.script_text.specs.declared.script.Said.{Said}
use Rattle.script_text.specs.declared.script.Reply.{Reply}
use Rattle.script_text.specs.declared.script.Reply.TheVariants as replies
use Rattle.script_meaning.specs.declared.store.StoreKey.{StoreKey}
use Rattle.spr_report.specs.declared.status.Status.{Status}
use Rattle.spr_report.specs.declared.status.Status.TheVariants.{Good, Faulted, BayFault, Memory}

abbrev pub is_memory : Reply → Bool
is_memory replies.Memory = true
is_memory reply = false

-- the answers of a store's failure, of a call that a link lost, and of a full trail
abbrev pub is_fault : Reply → Bool
is_fault (replies.Store disk count) = true
is_fault (replies.Link count) = true
is_fault replies.TrailFull = true
is_fault reply = false

abbrev pub is_done : Reply → Bool
is_done replies.Done = true
is_done reply = false

abbrev pub lacks_memory : List Said → Bool
lacks_memory said = list_any (λ s. is_memory s.reply) said

abbrev pub has_fault : List Said → Bool
has_fault said = list_any (λ s. is_fault s.reply) said

abbrev pub any_lost : List StoreKey → Bool
any_lost [] = false
any_lost (key ∷ lost) = true

-- An answer that memory ran out, a client's or a closing one, comes first; then a store that was lost; then an answer of a
-- store's failure, of a call that a link lost or of a full trail, or a closing sync that is not done.
abbrev pub status_by : Bool → Bool → Bool → Bool → Bool → Status
status_by lacks memory lost fault done =
    if lacks || memory then Memory
    else if lost then BayFault
    else if fault || not done then Faulted
    else Good

abbrev pub status_of : List (List Said) → List Reply → List StoreKey → Status
status_of said closing lost = status_by (list_any lacks_memory said) (list_any is_memory closing) (any_lost lost) (list_any has_fault said) (list_all is_done closing)
