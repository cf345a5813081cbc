-- The end of channels: what it asks, and what it leaves.
use Rattle.std.specs.Prelude.{slice_get}
use Rattle.std.proofs.Common.{◌≡◌, ◌≢◌, ◌∙◌, inl, inr, ℕ, ◌<◌, true, false, List, [], ◌∷◌, ◌++◌, length, Option, Some, None, refl, sym, ap, subst, arith}
use Rattle.hist_plain.specs.declared.TheConstants.{MAX_EVENTS}
use Rattle.hist_plain.specs.declared.event.Answer.TheVariants as answers
use Rattle.hist_plain.specs.declared.event.Event.{Event}
use Rattle.hist_plain.specs.Event.{caller_of, number_of}
use Rattle.hist_plain.specs.History.{mine}
use Rattle.tower_core.specs.declared.step.Step.TheVariants.{Untouched}
use Rattle.tower_core.specs.declared.right.Right.{Right}
use Rattle.tower_core.specs.Column.{NoChildHolds}
use Rattle.tower_core.specs.TreeShape.{IsUpper, TreeShape, frames_of, parent}
use Rattle.tower_core.proofs.Paths.{is_within-same, up}
use Rattle.page_messages.proofs.NodeSets.{same_or_not}
use Rattle.vmm_cache.specs.Used.{AreUses}
use Rattle.page_exchange.specs.declared.table.Table.{Table}
use Rattle.page_exchange.specs.declared.table.Table.TheVariants.{Layer, Leaf}
use Rattle.page_exchange.specs.Ends.{AllowEnd}
use Rattle.page_exchange.specs.Listed.{uses_seen}
use Rattle.page_exchange.specs.Wire.{WentOver}
use Rattle.page_exchange.proofs.Allowed.{ends}
use Rattle.page_exchange.proofs.Copies.{held_inside}
use Rattle.page_exchange.specs.Tables.{AreLeft, IsSameFile}
use Rattle.tower_log.specs.declared.logged.Entry.{Entry}
use Rattle.tower_log.specs.declared.logged.Logged.TheVariants.{Entered}
use Rattle.tower_log.specs.Log.{place_of}
use Rattle.tower_shows.specs.Began.{IsStepOn}
use Rattle.stack_engine.specs.declared.ends.End.{End}
use Rattle.stack_engine.specs.Ended.{CarriesEnd, IsDrained, IsEnded, event_ended, letters_ended}
use Rattle.stack_engine.specs.Engine.{EngineSeen, IsNext, IsSound, column_in, events_in, file_in, log_in, sides_in, state_in, tree_in, uses_in, wire_in}
use Rattle.stack_engine.specs.Opened.{from_after}
use Rattle.stack_engine.proofs.Making.{IsMade, IsToldBy, entry_of, made_enters, made_of, still_sent, untouched_at}
use Rattle.stack_engine.proofs.Rooms.{enters_room, roomy}

-- the end of channels may come next where no node of the subtree has a right
pub end_next : (e : EngineSeen) (end : End) (caller number node : ℕ) → IsUpper (tree_in e) node → IsDrained e node → IsNext e (event_ended end caller number node)
end_next e End.Destroy caller number node upper drained = record { fits = λ page some. absurd cc; allowed = record { upper = upper; line = drained } }
end_next e End.Done caller number node upper drained = record { fits = λ page some. absurd cc; allowed = record { upper = upper; line = drained } }

-- then what its line asks holds, whichever end it is
pub next_drained : (e : EngineSeen) (end : End) (caller number node : ℕ) → IsNext e (event_ended end caller number node) → IsUpper (tree_in e) node × IsDrained e node
next_drained e End.Destroy caller number node next = (next.allowed.upper, next.allowed.line)
next_drained e End.Done caller number node next = (next.allowed.upper, next.allowed.line)

-- the tables allow the end
module _ (e : EngineSeen) (sound : IsSound e) (node : ℕ) (upper : IsUpper (tree_in e) node) (drained : IsDrained e node) where
  nothing : (page : ℕ) → page < (file_in e).pages → (column_in e page).right node ≡ Right.Nothing
  nothing page inside = drained node upper.inside (is_within-same (tree_in e) node node refl) page inside

  children : (page : ℕ) → page < (file_in e).pages → NoChildHolds (tree_in e) (column_in e page) node
  children page inside child is = drained child is.upper.inside
      (up (tree_in e) sound.true_to.tree child node is.upper (is_within-same (tree_in e) (parent (tree_in e) child) node is.hangs)) page inside

  pub end_allowed : AllowEnd (tree_in e) (sides_in e) node (file_in e).pages
  end_allowed = record {
    asks = λ page inside. (ends (tree_in e) (column_in e page) (sides_in e page) node (sound.true_to.rights page) upper true (nothing page inside) (children page inside)).0;
    calls = λ page inside. (ends (tree_in e) (column_in e page) (sides_in e page) node (sound.true_to.rights page) upper true (nothing page inside) (children page inside)).1;
  }

  -- and a leaf lists no page
  held_here : (page : ℕ) → (column_in e page).right node ≢ Right.Nothing → page < (file_in e).pages
  held_here page some = held_inside (tree_in e) (file_in e) e.tables.nodes.items e.tables.tables page node (λ none. some (sym ((sound.true_to.rights page).right node upper) ∙ none))

  no_page : (page : ℕ) → (column_in e page).right node ≢ Right.Nothing → ⊥
  no_page page some = some (nothing page (held_here page some))

  leaf_unused : (uses : List ℕ) → AreUses (state_in e) node uses → uses ≡ []
  leaf_unused [] are = refl
  leaf_unused (page ∷ uses) are = absurd (no_page page ((are.held page).0 (0, omega arith, refl)))

  layer_unused : frames_of (tree_in e) node ≡ 0 → (o : Option Table) → slice_get e.tables.nodes.items node ≡ o → uses_in e node ≡ []
  layer_unused none None is = ap uses_seen is
  layer_unused none (Some (Layer layer)) is = ap uses_seen is
  layer_unused none (Some (Leaf leaf)) is = absurd (let no : false ≡ true = (e.tables.tables.each node (Leaf leaf) is).layer none in let f : ⊥ = cc in f)

  pub end_unused : uses_in e node ≡ []
  end_unused = elim (same_or_not (frames_of (tree_in e) node) 0) [
    | inl none ↦ layer_unused none (slice_get e.tables.nodes.items node) refl
    | inr some ↦ leaf_unused (uses_in e node) (sound.listed node upper.above some)
  ]

-- it is a step on no page
pub ended_on : (shape : TreeShape) (trail : List Event) (end : End) (caller number node : ℕ) → IsStepOn shape trail (event_ended end caller number node) 0 Untouched
ended_on shape trail End.Destroy caller number node = λ p. untouched_at p Untouched refl
ended_on shape trail End.Done caller number node = λ p. untouched_at p Untouched refl

pub ended_by : (end : End) (caller number node : ℕ) → caller_of (event_ended end caller number node) ≡ Some caller
ended_by End.Destroy caller number node = refl
ended_by End.Done caller number node = refl

pub ended_number : (end : End) (caller number node : ℕ) → number_of (event_ended end caller number node) ≡ number
ended_number End.Destroy caller number node = refl
ended_number End.Done caller number node = refl

-- it is no sync
ended_no_sync : (end : End) (caller number node : ℕ) (found : Option ℕ) → from_after found (event_ended end caller number node) ≡ found
ended_no_sync End.Destroy caller number node found = refl
ended_no_sync End.Done caller number node found = refl

abbrev pub entry_ended : End → ℕ → ℕ → ℕ → Entry
entry_ended end caller number node = entry_of (event_ended end caller number node) (Some answers.Done) []

pub ended_tells : (old : EngineSeen) (end : End) (caller number node : ℕ) → IsToldBy old (entry_ended end caller number node) 0 Untouched None
ended_tells old End.Destroy caller number node = record { told = λ opening pages began. refl; comes = λ opening pages began base. tt; filled = λ opening. tt; no_grant = λ p. refl }
ended_tells old End.Done caller number node = record { told = λ opening pages began. refl; comes = λ opening pages began base. tt; filled = λ opening. tt; no_grant = λ p. refl }

-- FROM WHAT THE CODE DID

pub ended_made : (old mid new : EngineSeen) (r : ℕ) → mid ≡ roomy old r → (end : End) (caller number node : ℕ) (entry : Entry) → entry ≡ entry_ended end caller number node
    → IsSameFile mid.tables new.tables → AreLeft mid.tables new.tables → new.ground ≡ mid.ground → new.trail.log ≡ mid.trail.log ++ Entered entry ∷ [] → new.trail.page_size ≡ mid.trail.page_size
    → place_of (log_in old) < MAX_EVENTS → IsNext old (event_ended end caller number node) → number ≡ length (mine (events_in old) caller) → IsMade mid new (entry_ended end caller number node) caller 0 Untouched None
ended_made old mid new r is end caller number node entry same file left ground log size few next numbered = made_of old mid new r is entry (entry_ended end caller number node) same caller 0 Untouched None
    file (inl ground) (still_sent (tree_in mid) 0 None (sides_in mid) (sides_in new) left.sides) (λ leaf some. left.uses leaf) log size few next
    (ended_by end caller number node) (ended_number end caller number node ∙ numbered) (ended_on (tree_in old) (events_in old) end caller number node)

pub ended_is : (old mid new : EngineSeen) (r : ℕ) → mid ≡ roomy old r → (end : End) (caller number node : ℕ) → IsSound mid → IsMade mid new (entry_ended end caller number node) caller 0 Untouched None → new.ground ≡ mid.ground
    → WentOver (wire_in new) (file_in mid) (letters_ended end) → CarriesEnd end mid.tables (wire_in new) node → IsEnded end caller number node old new
ended_is old mid new r is end caller number node sound made ground went carried = record {
  frames = subst (λ (e : EngineSeen). WentOver (wire_in new) (file_in e) (letters_ended end)) is went;
  carried = subst (λ (e : EngineSeen). CarriesEnd end e.tables (wire_in new) node) is carried;
  enters = enters_room old mid new r is (entry_ended end caller number node)
      (made_enters mid new (entry_ended end caller number node) caller 0 Untouched None sound made (ended_tells mid end caller number node) ground refl (ended_no_sync end caller number node));
  ground = ground ∙ ap (λ (e : EngineSeen). e.ground) is;
}
