-- An access, or the end of a sync, that was made and stands in the log.
use Rattle.std.proofs.Common.{◌≡◌, ◌≢◌, ◌⊎◌, inl, inr, ℕ, ◌<◌, ◌≤◌, ◌==◌, Bool, true, false, cond, List, [], ◌∷◌, ◌++◌, length, take, drop, replicate, Option, Some, None, refl, sym, ap, subst, ◌∙◌, arith}
use Rattle.std.proofs.lemmas.Bool.{cases_lt}
use Rattle.std.proofs.lemmas.Bool.Decides.{eqb_tells}
use Rattle.hist_plain.specs.declared.TheConstants.{MAX_EVENTS}
use Rattle.hist_plain.specs.declared.event.Answer.{Answer}
use Rattle.hist_plain.specs.declared.event.Answer.TheVariants as answers
use Rattle.hist_plain.specs.declared.event.Event.{Event}
use Rattle.hist_plain.specs.declared.event.Event.TheVariants as events
use Rattle.hist_plain.specs.declared.event.Keep.{Keep}
use Rattle.hist_plain.specs.declared.event.Op.{Op}
use Rattle.hist_plain.specs.declared.event.Op.TheVariants as ops
use Rattle.hist_plain.specs.Event.{caller_of, number_of}
use Rattle.hist_plain.specs.Plain.{overwritten, plainly, reply}
use Rattle.hist_plain.specs.History.{mine}
use Rattle.page_ground.specs.Seen.{AllKept, Seen}
use Rattle.tower_core.specs.declared.sheet.Sheet.{Sheet}
use Rattle.tower_core.specs.declared.step.Step.{Step}
use Rattle.tower_core.specs.declared.step.Step.TheVariants.{Reads, Untouched, Writes}
use Rattle.std.specs.Prelude.{max, unwrap_or}
use Rattle.tower_core.specs.Sheet.{nodes_of, pages_of, seen}
use Rattle.tower_core.specs.Legal.{IsFilled, file_after, plain_shape}
use Rattle.tower_core.specs.TreeShape.{TreeShape, frames_of}
use Rattle.tower_core.proofs.Trails.{trail_len}
use Rattle.tower_core.specs.Trail.{of_page, state_after, state_of, step_of, step_of_access}
use Rattle.layer_laws.specs.Sent.{AreBrought}
use Rattle.layer_laws.specs.Side.{Side}
use Rattle.layer_laws.specs.Granted.{is_grant_of}
use Rattle.layer_laws.specs.PlacesShown.{access_next, answer_next, page_next, page_shown, told_bytes}
use Rattle.page_exchange.specs.Ground.{IsCalmCall, IsOneCall, pages_given}
use Rattle.page_exchange.specs.Steps.{AreSentAt, given_up}
use Rattle.vmm_cache.specs.Used.{AreUses}
use Rattle.vmm_cache.proofs.TrailLaws.{uses_follow}
use Rattle.page_exchange.specs.Tables.{Follow, IsSameFile}
use Rattle.tower_log.specs.declared.logged.Entry.{Entry}
use Rattle.tower_log.specs.declared.logged.Logged.TheVariants.{Entered}
use Rattle.tower_log.specs.Log.{place_of, told_by}
use Rattle.tower_shows.specs.Began.{BeganWith, IsStepOn, IsTrueTo}
use Rattle.tower_shows.proofs.Likes.{like_same}
use Rattle.tower_shows.proofs.Rights.{rights_step}
use Rattle.tower_shows.proofs.Bytes.{bytes_step}
use Rattle.tower_shows.proofs.Telling.{began_shown, told_shown}
use Rattle.tower_shows.proofs.Stays.{ground_stays, ground_synced}
use Rattle.tower_shows.specs.Since.{GroundIsSince, IsSince}
use Rattle.tower_shows.proofs.Tells.{tells_done, tells_life, tells_revoked, told_clear, told_read, told_write}
use Rattle.stack_engine.specs.Accesses.{IsStill}
use Rattle.stack_engine.specs.Answers.{ShowsWhatItRead}
use Rattle.stack_engine.specs.Engine.{EngineSeen, IsEngine, IsNext, IsSound, events_in, file_in, log_in, sides_in, state_in, tree_in, uses_in}
use Rattle.stack_engine.specs.Moves.{Enters, Makes, answer_to, bytes_to}
use Rattle.stack_engine.specs.Opened.{IsOf, IsSynced, from_after, last_from}
use Rattle.stack_engine.proofs.Entering.{of_entered, of_synced, sheet_entered, shows_entered, sound_entered}
use Rattle.stack_engine.proofs.Rooms.{roomy}
use Rattle.stack_engine.proofs.Sending.{IsBooked}

-- an event of a caller was entered, and moved the tables by its step on a page
pub record IsMade (old new : EngineSeen) (entry : Entry) (caller page : ℕ) (step : Step) (brings : Option (List ℕ)) : Type 0 where
  pub file : IsSameFile old.tables new.tables
  pub call : IsOneCall old.ground new.ground
  pub sent : AreSentAt (tree_in old) page brings step (sides_in old) (sides_in new)
  pub follows : Follow page step old.tables new.tables
  pub log : log_in new ≡ log_in old ++ Entered entry ∷ []
  pub size : new.trail.page_size ≡ old.trail.page_size
  pub few : place_of (log_in old) < MAX_EVENTS
  pub next : IsNext old entry.event
  pub by : caller_of entry.event ≡ Some caller
  pub number : number_of entry.event ≡ length (mine (events_in old) caller)
  pub on : IsStepOn (tree_in old) (events_in old) entry.event page step

-- what it is answered and leaves, over each file, as of a ground that told it
pub record IsToldBy (old : EngineSeen) (entry : Entry) (page : ℕ) (step : Step) (brings : Option (List ℕ)) : Type 0 where
  pub told : (opening : List ℕ) (pages : Option (List (List ℕ))) → BeganWith (tree_in old) (file_in old).page_size (file_in old).pages opening (events_in old) (sides_in old) pages
      → reply (plain_shape (tree_in old) (file_in old).page_size) (file_after (tree_in old) (file_in old).page_size opening (events_in old)) entry.event ≡ told_by entry
  pub comes : (opening : List ℕ) (pages : Option (List (List ℕ))) → BeganWith (tree_in old) (file_in old).page_size (file_in old).pages opening (events_in old) (sides_in old) pages → (base : List ℕ)
      → AreBrought (tree_in old) brings step (sides_in old page) base (page_next (tree_in old) (file_in old).page_size opening (events_in old) entry.event page)
  pub filled : (opening : List ℕ) → IsFilled (tree_in old) (file_in old).page_size opening (events_in old) entry.event
  pub no_grant : (p : ℕ) → is_grant_of p entry.event ≡ false

module _ (old new : EngineSeen) (entry : Entry) (caller page : ℕ) (step : Step) (brings : Option (List ℕ)) (sound : IsSound old) (m : IsMade old new entry caller page step brings) (tells : IsToldBy old entry page step brings) where
  pub made_true : IsTrueTo (tree_in old) (file_in old).page_size (file_in old).pages (events_in old ++ entry.event ∷ []) (sides_in new)
  made_true = rights_step (tree_in old) (file_in old).page_size (file_in old).pages (events_in old) entry.event page step brings (sides_in old) (sides_in new) sound.true_to m.next m.on m.sent

  made_number : (c : ℕ) → caller_of entry.event ≡ Some c → number_of entry.event ≡ length (mine (events_in old) c)
  made_number c is = m.number ∙ ap (λ (k : ℕ). length (mine (events_in old) k)) (let both : Some caller ≡ Some c = sym m.by ∙ is in cc)

  made_listed : (leaf : ℕ) → 0 < leaf → frames_of (tree_in old) leaf ≢ 0 → AreUses (state_of (tree_in old) (events_in old ++ entry.event ∷ [])) leaf (uses_in new leaf)
  made_listed leaf above some = subst (AreUses (state_of (tree_in old) (events_in old ++ entry.event ∷ [])) leaf) (sym (m.follows leaf some))
      (uses_follow (tree_in old) (file_in old).pages (events_in old) entry.event leaf page step (uses_in old leaf) sound.true_to.tree m.next.allowed m.on (sound.listed leaf above some))

  -- over each file, as of a ground that told it
  made_shows : ShowsWhatItRead (tree_in old) (file_in old).page_size (file_in old).pages (log_in old ++ Entered entry ∷ []) (sides_in new)
  made_shows = shows_entered (tree_in old) (file_in old).page_size (file_in old).pages (log_in old) entry (sides_in old) (sides_in new) sound.shows (λ opening finds began.
      let pages : Option (List (List ℕ)) = told_shown (tree_in old) (file_in old).page_size (file_in old).pages opening (events_in old) in (
        began_shown (tree_in old) (file_in old).page_size (file_in old).pages opening (events_in old ++ entry.event ∷ []) (sides_in new) (pages_given page (given_up (tree_in old) step (sides_in old page)) pages)
            (bytes_step (tree_in old) (file_in old).page_size (file_in old).pages opening (events_in old) entry.event page step brings (sides_in old) (sides_in new) pages (pages_given page (given_up (tree_in old) step (sides_in old page)) pages)
            sound.true_to m.next m.on m.sent began (tells.filled opening) (λ base is. tells.comes opening pages began (base page)) refl),
        tells.told opening pages began,
      ))

  pub made_engine : (sheet sheet' : Sheet) → IsEngine old sheet → IsBooked new entry.event sheet sheet' → IsEngine new sheet'
  made_engine sheet sheet' is book = record {
    sound = sound_entered old new entry sound m.file m.log m.next m.few m.call made_true m.size made_number made_listed made_shows (λ p none grant. absurd (let both : true ≡ false = sym grant ∙ tells.no_grant p in cc));
    sheet_is = sheet_entered old new entry sound m.file m.log m.next m.few m.call made_true sheet sheet' is.sheet_is book.nodes book.pages book.state;
  }

  -- the bytes, where nothing came up to the ground
  pub made_began : (opening : List ℕ) → IsOf opening old → given_up (tree_in old) step (sides_in old page) ≡ None → new.ground.pages ≡ old.ground.pages
      → BeganWith (tree_in old) (file_in old).page_size (file_in old).pages opening (events_in old ++ entry.event ∷ []) (sides_in new) new.ground.pages
  made_began opening of none same =
      bytes_step (tree_in old) (file_in old).page_size (file_in old).pages opening (events_in old) entry.event page step brings (sides_in old) (sides_in new) old.ground.pages new.ground.pages
      sound.true_to m.next m.on m.sent of.began (tells.filled opening) (λ base is. tells.comes opening old.ground.pages of.began (base page)) (same ∙ ap (λ (u : Option (List ℕ)). pages_given page u old.ground.pages) (sym none))

  pub made_enters : (new.ground ≡ old.ground) → given_up (tree_in old) step (sides_in old page) ≡ None → ((found : Option ℕ) → from_after found entry.event ≡ found) → Enters entry old new
  made_enters same none no_sync = record {
    goes = record {
      file = m.file;
      call = m.call;
      of = λ opening of. of_entered old new entry sound m.file m.log m.next m.few m.call made_true opening of (made_began opening of none (ap (λ (s : Seen). s.pages) same))
          (λ p never grant. absurd (let both : true ≡ false = sym grant ∙ tells.no_grant p in cc)) (tells.told opening old.ground.pages of.began) (no_sync (last_from (events_in old)));
    };
    log = m.log;
    calm = inl same;
  }

-- AN ACCESS OF THE LIFE THAT ITS NODE HAS NOW

same_life : (now life : ℕ) → life ≡ now → (life == now) ≡ true
same_life now life e = elim (eqb_tells life now) [ inl h ↦ h.0 | inr d ↦ absurd (d.1 e) ]

other_life : (now life : ℕ) → life ≢ now → (life == now) ≡ false
other_life now life d = elim (eqb_tells life now) [ inl h ↦ absurd (d h.1) | inr d' ↦ d'.0 ]

pub read_on : (shape : TreeShape) (trail : List Event) (caller number node life page off len : ℕ) → life ≡ (state_of shape trail).life node → IsStepOn shape trail (events.Access caller number node life (ops.Read page off len)) page (Reads node)
read_on shape trail caller number node life page off len e = λ p. ap (λ b. cond b (step_of_access p node (ops.Read page off len)) Untouched) (same_life ((state_of shape trail).life node) life e)

pub write_on : (shape : TreeShape) (trail : List Event) (caller number node life page off : ℕ) (bytes : List ℕ) → life ≡ (state_of shape trail).life node → IsStepOn shape trail (events.Access caller number node life (ops.Write page off bytes)) page (Writes node)
write_on shape trail caller number node life page off bytes e = λ p. ap (λ b. cond b (step_of_access p node (ops.Write page off bytes)) Untouched) (same_life ((state_of shape trail).life node) life e)

pub clear_on : (shape : TreeShape) (trail : List Event) (caller number node life page : ℕ) → life ≡ (state_of shape trail).life node → IsStepOn shape trail (events.Access caller number node life (ops.Clear page)) page (Writes node)
clear_on shape trail caller number node life page e = λ p. ap (λ b. cond b (step_of_access p node (ops.Clear page)) Untouched) (same_life ((state_of shape trail).life node) life e)

pub untouched_at : (p : ℕ) (step : Step) → step ≡ Untouched → step ≡ of_page p 0 Untouched
untouched_at p step e = e ∙ sym (of_untouched (0 == p))
  where
    of_untouched : (b : Bool) → cond b Untouched Untouched ≡ Untouched
    of_untouched true = refl
    of_untouched false = refl

-- an access that touches no page
pub still_on : (shape : TreeShape) (trail : List Event) (caller number node life : ℕ) (op : Op) → ((op ≡ ops.Open) ⊎ (life ≢ (state_of shape trail).life node)) → IsStepOn shape trail (events.Access caller number node life op) 0 Untouched
still_on shape trail caller number node life op (inl opens) = λ p. untouched_at p (step_of (state_of shape trail).life p (events.Access caller number node life op))
    (subst (λ (o : Op). step_of (state_of shape trail).life p (events.Access caller number node life o) ≡ Untouched) (sym opens) (both (life == (state_of shape trail).life node)))
  where
    both : (b : Bool) → cond b Untouched Untouched ≡ Untouched
    both true = refl
    both false = refl
still_on shape trail caller number node life op (inr d) = λ p. untouched_at p (step_of (state_of shape trail).life p (events.Access caller number node life op))
    (ap (λ b. cond b (step_of_access p node op) Untouched) (other_life ((state_of shape trail).life node) life d))

pub synced_on : (shape : TreeShape) (trail : List Event) (caller number node from : ℕ) (keep : Keep) → IsStepOn shape trail (events.Synced caller number node from keep) 0 Untouched
synced_on shape trail caller number node from keep = λ p. untouched_at p Untouched refl

-- the access as the one of the life that its node has
now_is : (e : EngineSeen) (caller number node life : ℕ) (op : Op) → life ≡ (state_in e).life node → events.Access caller number node life op ≡ access_next (tree_in e) (events_in e) caller number node op
now_is e caller number node life op same = ap (λ (l : ℕ). events.Access caller number node l op) same

module _ (old : EngineSeen) (sound : IsSound old) (caller number node life page : ℕ) (current : life ≡ (state_in old).life node) where
  -- a read
  pub read_tells : (off len : ℕ) (bytes : List ℕ) → bytes ≡ take len (drop off (sides_in old page node).copy) → IsNext old (events.Access caller number node life (ops.Read page off len))
      → IsToldBy old (record { event = events.Access caller number node life (ops.Read page off len); answer = Some answers.Bytes; bytes = bytes }) page (Reads node) None
  read_tells off len bytes bytes_are next = record {
    told = λ opening pages began.
        ap (answer_next (tree_in old) (file_in old).page_size opening (events_in old)) (now_is old caller number node life (ops.Read page off len) current)
        ∙ told_read (tree_in old) (file_in old).page_size (file_in old).pages opening (events_in old) (sides_in old) pages caller number node sound.true_to began page off len
        (subst (IsNext old) (now_is old caller number node life (ops.Read page off len) current) next)
        ∙ ap (λ (b : List ℕ). Some (told_bytes b)) (sym bytes_are);
    comes = λ opening pages began base. tt;
    filled = λ opening. tt;
    no_grant = λ p. refl;
  }

  done_told : (op : Op) → op ≢ ops.Open → ((p off len : ℕ) → op ≢ ops.Read p off len) → IsNext old (events.Access caller number node life op) → (opening : List ℕ)
      → reply (plain_shape (tree_in old) (file_in old).page_size) (file_after (tree_in old) (file_in old).page_size opening (events_in old)) (events.Access caller number node life op) ≡ Some (plainly answers.Done)
  done_told op no_open no_read next opening =
      ap (answer_next (tree_in old) (file_in old).page_size opening (events_in old)) (now_is old caller number node life op current)
      ∙ tells_done (tree_in old) (file_in old).page_size opening (events_in old) caller number node op next.allowed.upper no_open no_read

  -- a write
  pub write_tells : (off : ℕ) (bytes : List ℕ) → IsNext old (events.Access caller number node life (ops.Write page off bytes))
      → IsToldBy old (record { event = events.Access caller number node life (ops.Write page off bytes); answer = Some answers.Done; bytes = [] }) page (Writes node) (Some (overwritten (sides_in old page node).copy off bytes))
  write_tells off bytes next = record {
    told = λ opening pages began. done_told (ops.Write page off bytes) (λ e. cc) (λ p o l e. cc) next opening;
    comes = λ opening pages began base.
        ap (λ (e : Event). page_next (tree_in old) (file_in old).page_size opening (events_in old) e page) (now_is old caller number node life (ops.Write page off bytes) current)
        ∙ told_write (tree_in old) (file_in old).page_size (file_in old).pages opening (events_in old) (sides_in old) pages caller number node sound.true_to began page off bytes
        (subst (IsNext old) (now_is old caller number node life (ops.Write page off bytes) current) next);
    filled = λ opening. tt;
    no_grant = λ p. refl;
  }

  -- a clear
  pub clear_tells : IsNext old (events.Access caller number node life (ops.Clear page))
      → IsToldBy old (record { event = events.Access caller number node life (ops.Clear page); answer = Some answers.Done; bytes = [] }) page (Writes node) (Some (replicate (file_in old).page_size 0))
  clear_tells next = record {
    told = λ opening pages began. done_told (ops.Clear page) (λ e. cc) (λ p o l e. cc) next opening;
    comes = λ opening pages began base.
        ap (λ (e : Event). page_next (tree_in old) (file_in old).page_size opening (events_in old) e page) (now_is old caller number node life (ops.Clear page) current)
        ∙ told_clear (tree_in old) (file_in old).page_size (file_in old).pages opening (events_in old) (sides_in old) pages caller number node sound.true_to began page
        (subst (IsNext old) (now_is old caller number node life (ops.Clear page) current) next);
    filled = λ opening. tt;
    no_grant = λ p. refl;
  }

module _ (old new : EngineSeen) (sound : IsSound old) (caller number node life page : ℕ) (current : life ≡ (state_in old).life node) (ground : new.ground ≡ old.ground) where
  pub read_makes : (off len : ℕ) (bytes : List ℕ) → bytes ≡ take len (drop off (sides_in old page node).copy)
      → IsMade old new (record { event = events.Access caller number node life (ops.Read page off len); answer = Some answers.Bytes; bytes = bytes }) caller page (Reads node) None → Makes caller number node life (ops.Read page off len) old new answers.Bytes
  read_makes off len bytes bytes_are m = record {
    is = sym (ap (λ b. cond b answers.Bytes (answers.Revoked ((state_in old).life node))) (same_life ((state_in old).life node) life current));
    enters = subst (λ (b : List ℕ). Enters (record { event = events.Access caller number node life (ops.Read page off len); answer = Some answers.Bytes; bytes = b }) old new)
        (bytes_are ∙ sym (ap (λ b. cond b (take len (drop off (sides_in old page node).copy)) []) (same_life ((state_in old).life node) life current)))
        (made_enters old new (record { event = events.Access caller number node life (ops.Read page off len); answer = Some answers.Bytes; bytes = bytes }) caller page (Reads node) None sound m
        (read_tells old sound caller number node life page current off len bytes bytes_are m.next) ground refl (λ found. refl));
    ground = ground;
  }

  pub write_makes : (off : ℕ) (bytes : List ℕ)
      → IsMade old new (record { event = events.Access caller number node life (ops.Write page off bytes); answer = Some answers.Done; bytes = [] }) caller page (Writes node) (Some (overwritten (sides_in old page node).copy off bytes))
      → Makes caller number node life (ops.Write page off bytes) old new answers.Done
  write_makes off bytes m = record {
    is = sym (ap (λ b. cond b answers.Done (answers.Revoked ((state_in old).life node))) (same_life ((state_in old).life node) life current));
    enters = made_enters old new (record { event = events.Access caller number node life (ops.Write page off bytes); answer = Some answers.Done; bytes = [] }) caller page (Writes node) (Some (overwritten (sides_in old page node).copy off bytes)) sound m
        (write_tells old sound caller number node life page current off bytes m.next) ground refl (λ found. refl);
    ground = ground;
  }

  pub clear_makes : IsMade old new (record { event = events.Access caller number node life (ops.Clear page); answer = Some answers.Done; bytes = [] }) caller page (Writes node) (Some (replicate (file_in old).page_size 0))
      → Makes caller number node life (ops.Clear page) old new answers.Done
  clear_makes m = record {
    is = sym (ap (λ b. cond b answers.Done (answers.Revoked ((state_in old).life node))) (same_life ((state_in old).life node) life current));
    enters = made_enters old new (record { event = events.Access caller number node life (ops.Clear page); answer = Some answers.Done; bytes = [] }) caller page (Writes node) (Some (replicate (file_in old).page_size 0)) sound m
        (clear_tells old sound caller number node life page current m.next) ground refl (λ found. refl);
    ground = ground;
  }

-- AN ACCESS THAT TOUCHES NO PAGE

pub still_kind : (e : EngineSeen) (node life : ℕ) (op : Op) (answer : Answer) → IsStill e node life op answer → (op ≡ ops.Open) ⊎ (life ≢ (state_in e).life node)
still_kind e node life ops.Open answer h = inl refl
still_kind e node life (ops.Read page off len) answer h = inr h.0
still_kind e node life (ops.Write page off bytes) answer h = inr h.0
still_kind e node life (ops.Clear page) answer h = inr h.0

module _ (old : EngineSeen) (caller number node life : ℕ) where
  still_told : (op : Op) (answer : Answer) → IsStill old node life op answer → IsNext old (events.Access caller number node life op) → (opening : List ℕ)
      → reply (plain_shape (tree_in old) (file_in old).page_size) (file_after (tree_in old) (file_in old).page_size opening (events_in old)) (events.Access caller number node life op) ≡ told_by (record { event = events.Access caller number node life op; answer = Some answer; bytes = [] })
  still_told ops.Open answer h next opening =
      tells_life (tree_in old) (file_in old).page_size opening (events_in old) caller number node life next.allowed.upper
      ∙ ap (λ (a : Answer). told_by (record { event = events.Access caller number node life ops.Open; answer = Some a; bytes = [] })) (sym h)
  still_told (ops.Read page off len) answer h next opening =
      tells_revoked (tree_in old) (file_in old).page_size opening (events_in old) caller number node life (ops.Read page off len) next.allowed.upper (λ e. cc) h.0
      ∙ ap (λ (a : Answer). told_by (record { event = events.Access caller number node life (ops.Read page off len); answer = Some a; bytes = [] })) (sym h.1)
  still_told (ops.Write page off bytes) answer h next opening =
      tells_revoked (tree_in old) (file_in old).page_size opening (events_in old) caller number node life (ops.Write page off bytes) next.allowed.upper (λ e. cc) h.0
      ∙ ap (λ (a : Answer). told_by (record { event = events.Access caller number node life (ops.Write page off bytes); answer = Some a; bytes = [] })) (sym h.1)
  still_told (ops.Clear page) answer h next opening =
      tells_revoked (tree_in old) (file_in old).page_size opening (events_in old) caller number node life (ops.Clear page) next.allowed.upper (λ e. cc) h.0
      ∙ ap (λ (a : Answer). told_by (record { event = events.Access caller number node life (ops.Clear page); answer = Some a; bytes = [] })) (sym h.1)

  pub still_tells : (op : Op) (answer : Answer) → IsStill old node life op answer → IsNext old (events.Access caller number node life op)
      → IsToldBy old (record { event = events.Access caller number node life op; answer = Some answer; bytes = [] }) 0 Untouched None
  still_tells op answer still next = record { told = λ opening pages began. still_told op answer still next opening; comes = λ opening pages began base. tt; filled = λ opening. tt; no_grant = λ p. refl }

module _ (old new : EngineSeen) (sound : IsSound old) (caller number node life : ℕ) (ground : new.ground ≡ old.ground) where
  still_answer : (op : Op) (answer : Answer) → IsStill old node life op answer → answer ≡ answer_to ((state_in old).life node) life op
  still_answer ops.Open answer h = h
  still_answer (ops.Read page off len) answer h = h.1 ∙ sym (ap (λ b. cond b answers.Bytes (answers.Revoked ((state_in old).life node))) (other_life ((state_in old).life node) life h.0))
  still_answer (ops.Write page off bytes) answer h = h.1 ∙ sym (ap (λ b. cond b answers.Done (answers.Revoked ((state_in old).life node))) (other_life ((state_in old).life node) life h.0))
  still_answer (ops.Clear page) answer h = h.1 ∙ sym (ap (λ b. cond b answers.Done (answers.Revoked ((state_in old).life node))) (other_life ((state_in old).life node) life h.0))

  still_bytes : (op : Op) (answer : Answer) → IsStill old node life op answer → bytes_to old node life op ≡ []
  still_bytes ops.Open answer h = refl
  still_bytes (ops.Read page off len) answer h = ap (λ b. cond b (take len (drop off (sides_in old page node).copy)) []) (other_life ((state_in old).life node) life h.0)
  still_bytes (ops.Write page off bytes) answer h = refl
  still_bytes (ops.Clear page) answer h = refl

  pub still_makes : (op : Op) (answer : Answer) → IsStill old node life op answer → IsMade old new (record { event = events.Access caller number node life op; answer = Some answer; bytes = [] }) caller 0 Untouched None → Makes caller number node life op old new answer
  still_makes op answer still m = record {
    is = still_answer op answer still;
    enters = subst (λ (b : List ℕ). Enters (record { event = events.Access caller number node life op; answer = Some answer; bytes = b }) old new) (sym (still_bytes op answer still))
        (made_enters old new (record { event = events.Access caller number node life op; answer = Some answer; bytes = [] }) caller 0 Untouched None sound m (still_tells old caller number node life op answer still m.next) ground refl (λ found. refl));
    ground = ground;
  }

-- THE END OF A SYNC

-- pages since two places are since the later one
since_later : (shape : TreeShape) (size pages : ℕ) (opening : List ℕ) (trail : List Event) (a b : ℕ) → GroundIsSince shape size pages opening trail a → GroundIsSince shape size pages opening trail b → GroundIsSince shape size pages opening trail (max a b)
since_later shape size pages opening trail a b one other page place inside low high = by (cases_lt a b)
  where
    by : (a < b) ⊎ (b ≤ a) → IsSince shape size opening trail (max a b) page (page_shown shape size opening trail page place)
    by (inl lt) =
        let s : IsSince shape size opening trail b page (page_shown shape size opening trail page place) = other page place inside low high in
        let from = s.not_before in
        record { place = s.place; not_before = omega (arith, lt, from); not_after = s.not_after; is = s.is }
    by (inr le) =
        let s : IsSince shape size opening trail a page (page_shown shape size opening trail page place) = one page place inside low high in
        let from = s.not_before in
        record { place = s.place; not_before = omega (arith, le, from); not_after = s.not_after; is = s.is }

-- the ground is since the latest completed sync also behind the next event
module _ (old : EngineSeen) (event : Event) (sound : IsSound old) (next : IsNext old event) (opening : List ℕ) (of : IsOf opening old) where
  record Latest (from : ℕ) : Type 0 where
    pub reached : from ≤ length (events_in old)
    pub ground : GroundIsSince (tree_in old) (file_in old).page_size (file_in old).pages opening (events_in old ++ event ∷ []) from

  latest : (o : Option ℕ) → last_from (events_in old) ≡ o → Latest (unwrap_or o 0)
  latest None none = record { reached = omega arith; ground = λ page place inside low high. record { place = place; not_before = omega arith; not_after = high; is = refl } }
  latest (Some from) last =
      let s : IsSynced opening old from = of.synced from last in
      record {
        reached = let r = s.reached in omega (arith, r);
        ground = ground_stays (tree_in old) (file_in old).page_size (file_in old).pages opening (events_in old) (sides_in old) event from sound.true_to next s.reached s.ground;
      }

pub synced_tells : (old : EngineSeen) (caller number node from : ℕ) (keep : Keep) → IsToldBy old (record { event = events.Synced caller number node from keep; answer = Some answers.Done; bytes = [] }) 0 Untouched None
synced_tells old caller number node from keep = record { told = λ opening pages began. refl; comes = λ opening pages began base. tt; filled = λ opening. tt; no_grant = λ p. refl }

pub synced_enters : (old new : EngineSeen) (caller number node from : ℕ) (keep : Keep) → IsSound old
    → IsMade old new (record { event = events.Synced caller number node from keep; answer = Some answers.Done; bytes = [] }) caller 0 Untouched None
    → IsCalmCall old.ground new.ground → new.ground.pages ≡ old.ground.pages → AllKept new.ground new.ground.pages
    → Enters (record { event = events.Synced caller number node from keep; answer = Some answers.Done; bytes = [] }) old new
synced_enters old new caller number node from keep sound m calm pages kept = record {
  goes = record {
    file = m.file;
    call = m.call;
    of = λ opening of.
        let l = latest old (events.Synced caller number node from keep) sound m.next opening of (last_from (events_in old)) refl in
        let upto = l.reached in
        of_synced old new (record { event = events.Synced caller number node from keep; answer = Some answers.Done; bytes = [] }) sound m.file m.log m.next m.few m.call (made_true old new (record { event = events.Synced caller number node from keep; answer = Some answers.Done; bytes = [] }) caller 0 Untouched None sound m (synced_tells old caller number node from keep)) opening of
        (made_began old new (record { event = events.Synced caller number node from keep; answer = Some answers.Done; bytes = [] }) caller 0 Untouched None sound m (synced_tells old caller number node from keep) opening of refl pages)
        (λ p none grant. absurd (let both : false ≡ true = grant in cc)) refl
        (max (unwrap_or (last_from (events_in old)) 0) from) refl (omega (arith, upto, m.next.allowed.line.0, trail_len (tree_in old) (events_in old)))
        (since_later (tree_in old) (file_in old).page_size (file_in old).pages opening (events_in old ++ events.Synced caller number node from keep ∷ []) (unwrap_or (last_from (events_in old)) 0) from l.ground
        (ground_synced (tree_in old) (file_in old).page_size (file_in old).pages opening (events_in old) (sides_in old) old.ground.pages caller number node from keep sound.true_to of.began m.next))
        kept;
  };
  log = m.log;
  calm = calm;
}

-- FROM WHAT THE CODE DID

-- a step that moves no table
pub still_sent : (shape : TreeShape) (page : ℕ) (brings : Option (List ℕ)) (old new : ℕ → ℕ → Side) → ((p m : ℕ) → new p m ≡ old p m) → AreSentAt shape page brings Untouched old new
still_sent shape page brings old new same = record { to = old page; here = λ node. refl; kept = λ node. like_same (old page node) (new page node) (same page node); others = λ p node d. same p node }

pub read_sent : (shape : TreeShape) (page node : ℕ) (brings : Option (List ℕ)) (old new : ℕ → ℕ → Side) → ((p m : ℕ) → new p m ≡ old p m) → AreSentAt shape page brings (Reads node) old new
read_sent shape page node brings old new same = record { to = old page; here = λ m. refl; kept = λ m. like_same (old page m) (new page m) (same page m); others = λ p m d. same p m }

abbrev pub entry_of : Event → Option Answer → List ℕ → Entry
entry_of event answer bytes = record { event = event; answer = answer; bytes = bytes }

pub entry_is : (event event' : Event) (answer : Option Answer) (bytes bytes' : List ℕ) → event ≡ event' → bytes ≡ bytes'
    → entry_of event answer bytes ≡ entry_of event' answer bytes'
entry_is event event' answer bytes bytes' e b = ap (λ (x : Event). entry_of x answer bytes) e ∙ ap (entry_of event' answer) b

pub booked : (new : EngineSeen) (tree : TreeShape) (sheet sheet' : Sheet) (entry entry' : Entry) → entry ≡ entry' → tree ≡ tree_in new
    → nodes_of sheet' ≡ nodes_of sheet → pages_of sheet' ≡ pages_of sheet → seen sheet' ≡ state_after tree (seen sheet) entry.event → IsBooked new entry'.event sheet sheet'
booked new tree sheet sheet' entry entry' same tree_is nodes pages state = record {
  nodes = nodes;
  pages = pages;
  state = state ∙ ap (λ (t : TreeShape). state_after t (seen sheet) entry.event) tree_is ∙ ap (λ (x : Entry). state_after (tree_in new) (seen sheet) x.event) same;
}

pub made_of : (old mid new : EngineSeen) (r : ℕ) → mid ≡ roomy old r → (entry entry' : Entry) → entry ≡ entry' → (caller page : ℕ) (step : Step) (brings : Option (List ℕ))
    → IsSameFile mid.tables new.tables → IsOneCall mid.ground new.ground → AreSentAt (tree_in mid) page brings step (sides_in mid) (sides_in new) → Follow page step mid.tables new.tables
    → new.trail.log ≡ mid.trail.log ++ Entered entry ∷ [] → new.trail.page_size ≡ mid.trail.page_size → place_of (log_in old) < MAX_EVENTS → IsNext old entry'.event
    → caller_of entry'.event ≡ Some caller → number_of entry'.event ≡ length (mine (events_in old) caller) → IsStepOn (tree_in old) (events_in old) entry'.event page step
    → IsMade mid new entry' caller page step brings
made_of old mid new r is entry entry' same caller page step brings file call sent follows log size few next by number on = record {
  file = file;
  call = call;
  sent = sent;
  follows = follows;
  log = log ∙ ap (λ (x : Entry). mid.trail.log ++ Entered x ∷ []) same;
  size = size;
  few = subst (λ (e : EngineSeen). place_of (log_in e) < MAX_EVENTS) (sym is) few;
  next = subst (λ (e : EngineSeen). IsNext e entry'.event) (sym is) next;
  by = by;
  number = subst (λ (e : EngineSeen). number_of entry'.event ≡ length (mine (events_in e) caller)) (sym is) number;
  on = subst (λ (e : EngineSeen). IsStepOn (tree_in e) (events_in e) entry'.event page step) (sym is) on;
}

-- an access that touched no page does not where room was made
pub still_room : (old mid : EngineSeen) (r : ℕ) → mid ≡ roomy old r → (node life : ℕ) (op : Op) (answer : Answer) → IsStill old node life op answer → IsStill mid node life op answer
still_room old mid r is node life ops.Open answer h = subst (λ (e : EngineSeen). IsStill e node life ops.Open answer) (sym is) h
still_room old mid r is node life (ops.Read page off len) answer h = subst (λ (e : EngineSeen). IsStill e node life (ops.Read page off len) answer) (sym is) h
still_room old mid r is node life (ops.Write page off bytes) answer h = subst (λ (e : EngineSeen). IsStill e node life (ops.Write page off bytes) answer) (sym is) h
still_room old mid r is node life (ops.Clear page) answer h = subst (λ (e : EngineSeen). IsStill e node life (ops.Clear page) answer) (sym is) h

pub written_as : (shape : TreeShape) (page : ℕ) (step : Step) (old new : ℕ → ℕ → Side) {bytes bytes' : List ℕ} → bytes ≡ bytes' → AreSentAt shape page (Some bytes) step old new → AreSentAt shape page (Some bytes') step old new
written_as shape page step old new same h = subst (λ (b : List ℕ). AreSentAt shape page (Some b) step old new) same h
