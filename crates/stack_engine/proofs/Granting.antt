-- A grant: the node may read what it got.
use Rattle.std.proofs.Common.{◌≡◌, ◌≢◌, ℕ, ◌<◌, ◌≤◌, Bool, true, false, cond, IsTrue, ◌↔◌, List, [], ◌∷◌, ◌++◌, Option, None, length, refl, sym, ap, subst, ◌∙◌, arith}
use Rattle.hist_plain.specs.declared.TheConstants.{MAX_EVENTS}
use Rattle.hist_plain.specs.declared.event.Event.{Event}
use Rattle.hist_plain.specs.declared.event.Event.TheVariants as events
use Rattle.hist_plain.specs.History.{IsZeroPage}
use Rattle.tower_core.specs.declared.right.Right.{Right}
use Rattle.tower_core.specs.declared.step.Step.{Step}
use Rattle.tower_core.specs.declared.step.Step.TheVariants.{Grants}
use Rattle.tower_core.specs.Column.{MayStep, strength}
use Rattle.tower_core.specs.TreeShape.{TreeShape, parent}
use Rattle.layer_laws.specs.Sent.{granted}
use Rattle.layer_laws.specs.Side.{Side}
use Rattle.page_messages.specs.declared.paged.PagedFile.{PagedFile}
use Rattle.page_messages.specs.declared.kinds.Asked.{Asked}
use Rattle.page_exchange.specs.Allowed.{AllowsReading, grant_asked}
use Rattle.page_exchange.specs.Ground.{IsCalmCall, IsOneCall, pages_given}
use Rattle.page_exchange.specs.Steps.{IsSent, given_up, step_asked}
use Rattle.page_exchange.specs.Tables.{Follow, IsSameFile}
use Rattle.tower_log.specs.declared.logged.Logged.TheVariants.{Entered}
use Rattle.tower_log.specs.Log.{place_of}
use Rattle.stack_engine.specs.Engine.{EngineSeen, IsNext, IsSound, column_in, events_in, file_in, log_in, reads_ground, sides_in, tree_in}
use Rattle.stack_engine.specs.Messages.{event_granted, kept_size}
use Rattle.stack_engine.specs.Moves.{FindsZeros, bytes_kept}
use Rattle.stack_engine.proofs.Asking.{grant_step}
use Rattle.stack_engine.proofs.States.{coherent_in}
use Rattle.stack_engine.proofs.Rooms.{roomy}
use Rattle.stack_engine.proofs.Sending.{IsMessage, grant_next, grant_no_answer, grant_no_sync, grant_on, grant_quiet, reads_true}

granted_some : (write : Bool) → granted write ≢ Right.Nothing
granted_some true e = cc
granted_some false e = cc

not_writer : (write : Bool) (e : EngineSeen) (node page : ℕ) → MayStep (tree_in e) (column_in e page) (Grants node write) → (column_in e page).right node ≢ Right.Write
not_writer true e node page may = may.0
not_writer false e node page may = λ w. let both : Right.Nothing ≡ Right.Write = sym may.0 ∙ w in cc

strong : (r : Right) → 2 ≤ strength r → r ≡ Right.Write
strong Right.Nothing h = absurd (omega (arith, h))
strong Right.Read h = absurd (omega (arith, h))
strong Right.Write h = refl

pub grant_sent : (shape : TreeShape) (told : Option (List (List ℕ))) (page : ℕ) (asked : Asked) (node : ℕ) (write : Bool) (old new : ℕ → ℕ → Side) → asked ≡ grant_asked write → IsSent shape told page (step_asked asked node) old new → IsSent shape told page (Grants node write) old new
grant_sent shape told page asked node write old new is sent = subst (λ (s : Step). IsSent shape told page s old new) (ap (λ (a : Asked). step_asked a node) is ∙ grant_step write node) sent

module _ (e : EngineSeen) (sound : IsSound e) (node page : ℕ) (write : Bool) (next : IsNext e (events.PageIn node page write)) where
  -- no child of the node writes
  no_kid : (child : ℕ) → (sides_in e page node).kids child ≢ Right.Write
  no_kid child w =
      let rights = sound.true_to.rights page in
      let is = rights.strays node child next.allowed.upper (λ none. let both : Right.Write ≡ Right.Nothing = sym w ∙ none in cc) in
      let own : (column_in e page).right child ≡ Right.Write = sym (rights.kids node child next.allowed.upper is) ∙ w in
      let capped : strength ((column_in e page).right child) ≤ strength ((column_in e page).right (parent (tree_in e) child)) = ((coherent_in e sound).columns page).capped child is.upper in
      let above : 2 ≤ strength ((column_in e page).right node) = subst (λ (n : ℕ). 2 ≤ strength ((column_in e page).right n)) is.hangs (subst (λ (r : Right). strength r ≤ strength ((column_in e page).right (parent (tree_in e) child))) own capped) in
      not_writer write e node page next.allowed.line.0 (strong ((column_in e page).right node) above)

  pub grant_reads : (told : Option (List (List ℕ))) (asked : Asked) (new : ℕ → ℕ → Side) → asked ≡ grant_asked write → IsSent (tree_in e) told page (step_asked asked node) (sides_in e) new → AllowsReading (new page node)
  grant_reads told asked new is s = let sent = (grant_sent (tree_in e) told page asked node write (sides_in e) new is s).sent in record {
    right = λ none. granted_some write (sym (ap (λ (s : Side). s.right) sent.here.own) ∙ sym (sent.kept node).right ∙ none);
    kids = λ child w. no_kid child (sym (ap (λ (s : Side). s.kids child) sent.here.own) ∙ sym ((sent.kept node).kids child) ∙ w);
  }

  own_right : (sides_in e page node).right ≡ (column_in e page).right node
  own_right = (sound.true_to.rights page).right node next.allowed.upper

  -- whether it found zeros
  module _ (new : EngineSeen) (file : PagedFile) (same : file ≡ file_in e) (had : Right) (had_is : had ≡ (sides_in e page node).right) (zeros : Bool)
      (tells : IsTrue zeros ↔ ((had ≡ Right.Nothing) × IsZeroPage file.page_size (sides_in new page node).copy)) where
    pub found_zeros : zeros ≡ true → FindsZeros e new node page
    found_zeros e' = let h = tells.0 (subst IsTrue (sym e') refl) in record {
      nothing = sym own_right ∙ sym had_is ∙ h.0;
      zeros = subst (λ (f : PagedFile). IsZeroPage f.page_size (sides_in new page node).copy) same h.1;
    }

    pub found_others : zeros ≡ false → FindsZeros e new node page → ⊥
    found_others e' f = let h : IsTrue zeros = tells.1 ((had_is ∙ own_right ∙ f.nothing, subst (λ (g : PagedFile). IsZeroPage g.page_size (sides_in new page node).copy) (sym same) f.zeros)) in
        let h' : IsTrue false = subst IsTrue e' h in absurd (let both : false ≡ true = h' in cc)

  -- the bytes that were kept
  pub kept_are : (new : EngineSeen) (size : ℕ) (before after : List ℕ) → size ≡ (file_in e).page_size → length before ≡ kept_size e node page → (length before ≡ 0 → after ≡ []) → (length before ≡ size → after ≡ (sides_in new page node).copy)
      → after ≡ bytes_kept e new (events.PageIn node page write)
  kept_are new size before after same len none kept = by (reads_ground e.tables node page) refl
    where
      by : (b : Bool) → reads_ground e.tables node page ≡ b → after ≡ bytes_kept e new (events.PageIn node page write)
      by false g = none (len ∙ ap (λ b. cond b (file_in e).page_size 0) g) ∙ sym (ap (λ b. cond b (sides_in new page node).copy []) g)
      by true g = kept (len ∙ ap (λ b. cond b (file_in e).page_size 0) g ∙ sym same) ∙ sym (ap (λ b. cond b (sides_in new page node).copy []) g)

  -- and they are whole
  pub kept_whole : (size : ℕ) (before after : List ℕ) → size ≡ (file_in e).page_size → length before ≡ kept_size e node page → (length before ≡ size → length after ≡ size)
      → parent (tree_in e) node ≡ 0 → (sides_in e page node).right ≡ Right.Nothing → length after ≡ (file_in e).page_size
  kept_whole size before after same len whole ground none = whole (len ∙ ap (λ b. cond b (file_in e).page_size 0) (reads_true e.tables node page ground none) ∙ sym same) ∙ same

-- FROM WHAT THE CODE DID

grant_ground : (shape : TreeShape) (page : ℕ) (asked : Asked) (node : ℕ) (write : Bool) (sides : ℕ → Side) (told told' : Option (List (List ℕ))) → asked ≡ grant_asked write → told' ≡ pages_given page (given_up shape (step_asked asked node) sides) told → told' ≡ pages_given page (given_up shape (Grants node write) sides) told
grant_ground shape page asked node write sides told told' is h = subst (λ (s : Step). told' ≡ pages_given page (given_up shape s sides) told) (ap (λ (a : Asked). step_asked a node) is ∙ grant_step write node) h

pub granted_message : (old mid new : EngineSeen) (r : ℕ) → mid ≡ roomy old r → (node page : ℕ) (write zeros : Bool) (asked : Asked) → asked ≡ grant_asked write → (event : Event) → event ≡ event_granted zeros node page write → (bytes : List ℕ)
    → IsSameFile mid.tables new.tables → IsOneCall mid.ground new.ground → IsCalmCall mid.ground new.ground → (sent : IsSent (tree_in mid) mid.ground.pages page (step_asked asked node) (sides_in mid) (sides_in new)) → Follow page (step_asked asked node) mid.tables new.tables
    → new.ground.pages ≡ pages_given page (given_up (tree_in mid) (step_asked asked node) (sides_in mid page)) mid.ground.pages
    → new.trail.log ≡ mid.trail.log ++ Entered (record { event = event; answer = None; bytes = bytes }) ∷ [] → new.trail.page_size ≡ mid.trail.page_size → place_of (log_in old) < MAX_EVENTS
    → IsNext mid (events.PageIn node page write) → (zeros ≡ true → (column_in mid page).right node ≡ Right.Nothing) → IsMessage mid new (event_granted zeros node page write) bytes page (Grants node write)
granted_message old mid new r is node page write zeros asked asked_is event event_is bytes file call calm sent follows ground log size few next nothing = record {
  file = file;
  call = call;
  calm = calm;
  sent = grant_sent (tree_in mid) mid.ground.pages page asked node write (sides_in mid) (sides_in new) asked_is sent;
  follows = subst (λ (s : Step). Follow page s mid.tables new.tables) (ap (λ (a : Asked). step_asked a node) asked_is ∙ grant_step write node) follows;
  ground = grant_ground (tree_in mid) page asked node write (sides_in mid page) mid.ground.pages new.ground.pages asked_is ground;
  log = log ∙ ap (λ (x : Event). mid.trail.log ++ Entered (record { event = x; answer = None; bytes = bytes }) ∷ []) event_is;
  size = size;
  few = subst (λ (e : EngineSeen). place_of (log_in e) < MAX_EVENTS) (sym is) few;
  next = grant_next mid zeros node page write next nothing;
  quiet = grant_quiet zeros node page write;
  no_answer = λ shape size opening. grant_no_answer mid zeros node page write shape size opening;
  no_sync = grant_no_sync zeros node page write;
  on = grant_on (tree_in mid) (events_in mid) zeros node page write;
  no_write = λ b base next' next'' h. h;
}
