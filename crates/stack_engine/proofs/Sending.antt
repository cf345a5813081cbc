-- A page message that was sent, and stands in the log.
use Rattle.std.proofs.Common.{◌≡◌, ◌≢◌, ℕ, ◌<◌, ◌&&◌, ◌==◌, not, Bool, true, false, cond, List, [], ◌∷◌, ◌++◌, length, Option, Some, None, refl, sym, ap, subst, ◌∙◌, arith}
use Rattle.hist_plain.specs.declared.TheConstants.{MAX_EVENTS}
use Rattle.hist_plain.specs.declared.event.Event.{Event}
use Rattle.hist_plain.specs.declared.event.Event.TheVariants as events
use Rattle.hist_plain.specs.Event.{caller_of, number_of}
use Rattle.hist_plain.specs.Plain.{reply}
use Rattle.hist_plain.specs.History.{mine, page_in}
use Rattle.tower_core.specs.declared.right.Right.{Right}
use Rattle.tower_core.specs.declared.sheet.Sheet.{Sheet}
use Rattle.tower_core.specs.declared.step.Step.{Step}
use Rattle.tower_core.specs.declared.step.Step.TheVariants.{Grants}
use Rattle.tower_core.specs.Legal.{IsFilled, file_after, plain_shape}
use Rattle.tower_core.specs.Sheet.{nodes_of, pages_of, seen}
use Rattle.tower_core.specs.TreeShape.{TreeShape, frames_of, parent}
use Rattle.tower_core.specs.Trail.{holds, right_of, state_after, state_of}
use Rattle.std.proofs.lemmas.Bool.{eq-eqb}
use Rattle.std.proofs.lemmas.Bool.Decides.{nat_tests}
use Rattle.layer_laws.specs.Side.{Side}
use Rattle.layer_laws.specs.Sent.{AreBrought}
use Rattle.layer_laws.specs.Granted.{is_grant_of, is_granted_in}
use Rattle.layer_laws.specs.PlacesShown.{page_next}
use Rattle.page_messages.specs.declared.kinds.Asked.{Asked}
use Rattle.page_messages.specs.declared.kinds.Called.{Called}
use Rattle.page_exchange.specs.Ground.{IsCalmCall, IsOneCall, pages_given}
use Rattle.page_exchange.specs.Steps.{IsSent, given_up, step_asked, step_called}
use Rattle.vmm_cache.specs.Used.{AreUses}
use Rattle.vmm_cache.proofs.TrailLaws.{uses_follow}
use Rattle.page_exchange.specs.declared.tables.Tables.{Tables}
use Rattle.page_exchange.specs.Tables.{Follow, IsSameFile, sides, tree_of}
use Rattle.tower_log.specs.declared.logged.Entry.{Entry}
use Rattle.tower_log.specs.declared.logged.Logged.TheVariants.{Entered}
use Rattle.tower_log.specs.Log.{place_of}
use Rattle.tower_shows.specs.Began.{BeganWith, IsStepOn, IsTrueTo, ground_shown}
use Rattle.tower_shows.proofs.Rights.{rights_step}
use Rattle.tower_shows.proofs.Bytes.{bytes_step}
use Rattle.tower_shows.proofs.Firsts.{grant_first, grant_kept, grant_others, grant_zeros}
use Rattle.stack_engine.specs.Engine.{EngineSeen, IsEngine, IsNext, IsSound, column_in, events_in, file_in, log_in, reads_ground, sides_in, tree_in, uses_in}
use Rattle.stack_engine.specs.Messages.{IsPush, NeedsDisks, event_asked, event_called, event_granted}
use Rattle.tower_shows.proofs.Telling.{FindsShown, began_shown, read_here, sent_shown, told_shown}
use Rattle.stack_engine.specs.Answers.{FindsPagesOf, ShowsWhatItRead}
use Rattle.stack_engine.specs.Moves.{Enters, FindsZeros, GoesOver, Sends, StandsFor, bytes_kept}
use Rattle.stack_engine.specs.Opened.{IsOf, from_after, last_from}
use Rattle.stack_engine.proofs.Rooms.{roomy}
use Rattle.stack_engine.proofs.Entering.{finds_last, of_entered, sheet_entered, shows_entered, sound_entered}

-- what a book did with an entry
pub record IsBooked (new : EngineSeen) (event : Event) (sheet sheet' : Sheet) : Type 0 where
  pub nodes : nodes_of sheet' ≡ nodes_of sheet
  pub pages : pages_of sheet' ≡ pages_of sheet
  pub state : seen sheet' ≡ state_after (tree_in new) (seen sheet) event

-- a message was sent about a page, and this event was entered for it with these bytes
pub record IsMessage (old new : EngineSeen) (event : Event) (bytes : List ℕ) (page : ℕ) (step : Step) : Type 0 where
  pub file : IsSameFile old.tables new.tables
  pub call : IsOneCall old.ground new.ground
  pub calm : IsCalmCall old.ground new.ground
  pub sent : IsSent (tree_in old) old.ground.pages page step (sides_in old) (sides_in new)
  pub follows : Follow page step old.tables new.tables
  pub ground : new.ground.pages ≡ pages_given page (given_up (tree_in old) step (sides_in old page)) old.ground.pages
  pub log : log_in new ≡ log_in old ++ Entered (record { event = event; answer = None; bytes = bytes }) ∷ []
  pub size : new.trail.page_size ≡ old.trail.page_size
  pub few : place_of (log_in old) < MAX_EVENTS
  pub next : IsNext old event
  pub quiet : caller_of event ≡ None
  pub no_answer : (shape : TreeShape) (size : ℕ) (opening : List ℕ) → reply (plain_shape shape size) (file_after shape size opening (events_in old)) event ≡ None
  pub no_sync : (found : Option ℕ) → from_after found event ≡ found
  pub on : IsStepOn (tree_in old) (events_in old) event page step
  -- its step writes nothing of its own
  pub no_write : (brings : Option (List ℕ)) (base next' next'' : List ℕ) → AreBrought (tree_in old) brings step (sides_in old page) base next' → AreBrought (tree_in old) brings step (sides_in old page) base next''

module _ (old new : EngineSeen) (event : Event) (bytes : List ℕ) (page : ℕ) (step : Step) (sound : IsSound old) (m : IsMessage old new event bytes page step) where
  abbrev entry : Entry
  entry = record { event = event; answer = None; bytes = bytes }

  true_to : IsTrueTo (tree_in old) (file_in old).page_size (file_in old).pages (events_in old ++ event ∷ []) (sides_in new)
  true_to = rights_step (tree_in old) (file_in old).page_size (file_in old).pages (events_in old) event page step m.sent.brings (sides_in old) (sides_in new) sound.true_to m.next m.on m.sent.sent

  number : (c : ℕ) → caller_of event ≡ Some c → number_of event ≡ length (mine (events_in old) c)
  number c is = absurd (let both : None ≡ Some c = sym m.quiet ∙ is in cc)

  listed : (leaf : ℕ) → 0 < leaf → frames_of (tree_in old) leaf ≢ 0 → AreUses (state_of (tree_in old) (events_in old ++ event ∷ [])) leaf (uses_in new leaf)
  listed leaf above some = subst (AreUses (state_of (tree_in old) (events_in old ++ event ∷ [])) leaf) (sym (m.follows leaf some))
      (uses_follow (tree_in old) (file_in old).pages (events_in old) event leaf page step (uses_in old leaf) sound.true_to.tree m.next.allowed m.on (sound.listed leaf above some))

  -- over each file, as of a ground that told it: the event is filled, and a page that was read is the ground's
  pub sent_shows : ((opening : List ℕ) (told : Option (List (List ℕ))) → BeganWith (tree_in old) (file_in old).page_size (file_in old).pages opening (events_in old) (sides_in old) told
      → IsSent (tree_in old) told page step (sides_in old) (sides_in new) → IsFilled (tree_in old) (file_in old).page_size opening (events_in old) event)
      → ((opening : List ℕ) → FindsPagesOf (tree_in old) (file_in old).page_size opening (log_in old ++ Entered entry ∷ [])
      → FindsShown (tree_in old) (file_in old).pages page step (sides_in old) (sides_in new) (ground_shown (tree_in old) (file_in old).page_size opening (events_in old)))
      → ShowsWhatItRead (tree_in old) (file_in old).page_size (file_in old).pages (log_in old ++ Entered entry ∷ []) (sides_in new)
  sent_shows filled found = shows_entered (tree_in old) (file_in old).page_size (file_in old).pages (log_in old) entry (sides_in old) (sides_in new) sound.shows (λ opening finds began.
      let told : Option (List (List ℕ)) = told_shown (tree_in old) (file_in old).page_size (file_in old).pages opening (events_in old) in
      let sent : IsSent (tree_in old) told page step (sides_in old) (sides_in new) =
      sent_shown (tree_in old) old.ground.pages page (file_in old).pages step (sides_in old) (sides_in new) (ground_shown (tree_in old) (file_in old).page_size opening (events_in old)) m.sent (found opening finds) in (
        began_shown (tree_in old) (file_in old).page_size (file_in old).pages opening (events_in old ++ event ∷ []) (sides_in new) (pages_given page (given_up (tree_in old) step (sides_in old page)) told)
            (bytes_step (tree_in old) (file_in old).page_size (file_in old).pages opening (events_in old) event page step sent.brings (sides_in old) (sides_in new) told (pages_given page (given_up (tree_in old) step (sides_in old page)) told)
            sound.true_to m.next m.on sent.sent began (filled opening told began sent)
            (λ base tells. m.no_write sent.brings (base page) [] (page_next (tree_in old) (file_in old).page_size opening (events_in old) event page) (sent.brought base [] (λ read. (began.is_told, tells)))) refl),
        m.no_answer (tree_in old) (file_in old).page_size opening,
      ))

  pub sent_engine : (sheet sheet' : Sheet) → ShowsWhatItRead (tree_in old) (file_in old).page_size (file_in old).pages (log_in old ++ Entered entry ∷ []) (sides_in new)
      → ((p : ℕ) → is_granted_in p (events_in old) ≡ false → is_grant_of p event ≡ true → (p < (file_in old).pages) × (length bytes ≡ (file_in old).page_size)) → IsEngine old sheet → IsBooked new event sheet sheet' → IsEngine new sheet'
  sent_engine sheet sheet' shows whole is book = record {
    sound = sound_entered old new entry sound m.file m.log m.next m.few m.call true_to m.size number listed shows whole;
    sheet_is = sheet_entered old new entry sound m.file m.log m.next m.few m.call true_to sheet sheet' is.sheet_is book.nodes book.pages book.state;
  }

  pub sent_enters : ((opening : List ℕ) → IsOf opening old → IsFilled (tree_in old) (file_in old).page_size opening (events_in old) event)
      → ((opening : List ℕ) → IsOf opening old → (p : ℕ) → is_granted_in p (events_in old) ≡ false → is_grant_of p event ≡ true → bytes ≡ page_in (file_in old).page_size opening p)
      → Enters entry old new
  sent_enters filled kept = record {
    goes = record {
      file = m.file;
      call = m.call;
      of = λ opening of. of_entered old new entry sound m.file m.log m.next m.few m.call true_to opening of
          (bytes_step (tree_in old) (file_in old).page_size (file_in old).pages opening (events_in old) event page step m.sent.brings (sides_in old) (sides_in new) old.ground.pages new.ground.pages
          sound.true_to m.next m.on m.sent.sent of.began (filled opening of)
          (λ base tells. m.no_write m.sent.brings (base page) [] (page_next (tree_in old) (file_in old).page_size opening (events_in old) event page) (m.sent.brought base [] (λ read. (of.began.is_told, tells)))) m.ground)
          (kept opening of) (m.no_answer (tree_in old) (file_in old).page_size opening) (m.no_sync (last_from (events_in old)));
    };
    log = m.log;
    calm = m.calm;
  }

-- A PUSH

-- what a push is, whatever question asks for it
pub record IsPlain (event : Event) : Type 0 where
  pub quiet : caller_of event ≡ None
  pub no_answer : (shape : TreeShape) (size : ℕ) (opening : List ℕ) (trail : List Event) → reply (plain_shape shape size) (file_after shape size opening trail) event ≡ None
  pub no_sync : (found : Option ℕ) → from_after found event ≡ found
  pub filled : (shape : TreeShape) (size : ℕ) (opening : List ℕ) (trail : List Event) → IsFilled shape size opening trail event
  pub no_grant : (page : ℕ) → is_grant_of page event ≡ false
  pub stands : (old new : EngineSeen) → StandsFor old new event event
  pub no_bytes : (old new : EngineSeen) → bytes_kept old new event ≡ []

pub push_plain : (what : Asked) (node page : ℕ) → IsPush what → IsPlain (event_asked what node page)
push_plain Asked.WriteOut node page push = record { quiet = refl; no_answer = λ s n o t. refl; no_sync = λ f. refl; filled = λ s n o t. tt; no_grant = λ p. refl; stands = λ o n. refl; no_bytes = λ o n. refl }
push_plain Asked.Sync node page push = record { quiet = refl; no_answer = λ s n o t. refl; no_sync = λ f. refl; filled = λ s n o t. tt; no_grant = λ p. refl; stands = λ o n. refl; no_bytes = λ o n. refl }
push_plain Asked.PageInRead node page push = absurd push
push_plain Asked.PageInWrite node page push = absurd push
push_plain Asked.PageOut node page push = record { quiet = refl; no_answer = λ s n o t. refl; no_sync = λ f. refl; filled = λ s n o t. tt; no_grant = λ p. refl; stands = λ o n. refl; no_bytes = λ o n. refl }
push_plain Asked.Done node page push = absurd push

pub order_plain : (what : Called) (node page : ℕ) → what ≢ Called.Destroy → IsPlain (event_called what node page)
order_plain Called.FlushBack node page other = record { quiet = refl; no_answer = λ s n o t. refl; no_sync = λ f. refl; filled = λ s n o t. tt; no_grant = λ p. refl; stands = λ o n. refl; no_bytes = λ o n. refl }
order_plain Called.DenyWrites node page other = record { quiet = refl; no_answer = λ s n o t. refl; no_sync = λ f. refl; filled = λ s n o t. tt; no_grant = λ p. refl; stands = λ o n. refl; no_bytes = λ o n. refl }
order_plain Called.WriteBack node page other = record { quiet = refl; no_answer = λ s n o t. refl; no_sync = λ f. refl; filled = λ s n o t. tt; no_grant = λ p. refl; stands = λ o n. refl; no_bytes = λ o n. refl }
order_plain Called.DeleteRange node page other = record { quiet = refl; no_answer = λ s n o t. refl; no_sync = λ f. refl; filled = λ s n o t. tt; no_grant = λ p. refl; stands = λ o n. refl; no_bytes = λ o n. refl }
order_plain Called.Destroy node page other = absurd (other refl)

-- such a step brings nothing that its place decides
pub push_brings : (what : Asked) (node : ℕ) → IsPush what → (shape : TreeShape) (brings : Option (List ℕ)) (sides : ℕ → Side) (base next' next'' : List ℕ) → AreBrought shape brings (step_asked what node) sides base next' → AreBrought shape brings (step_asked what node) sides base next''
push_brings Asked.WriteOut node push shape brings sides base next' next'' h = h
push_brings Asked.Sync node push shape brings sides base next' next'' h = h
push_brings Asked.PageInRead node push shape brings sides base next' next'' h = absurd push
push_brings Asked.PageInWrite node push shape brings sides base next' next'' h = absurd push
push_brings Asked.PageOut node push shape brings sides base next' next'' h = h
push_brings Asked.Done node push shape brings sides base next' next'' h = absurd push

pub order_brings : (what : Called) (node : ℕ) (shape : TreeShape) (brings : Option (List ℕ)) (sides : ℕ → Side) (base next' next'' : List ℕ) → AreBrought shape brings (step_called what node) sides base next' → AreBrought shape brings (step_called what node) sides base next''
order_brings Called.FlushBack node shape brings sides base next' next'' h = h
order_brings Called.DenyWrites node shape brings sides base next' next'' h = h
order_brings Called.WriteBack node shape brings sides base next' next'' h = h
order_brings Called.DeleteRange node shape brings sides base next' next'' h = h
order_brings Called.Destroy node shape brings sides base next' next'' h = h

-- a push and an order read nothing
pub push_finds : (what : Asked) (node : ℕ) → IsPush what → (shape : TreeShape) (pages page : ℕ) (old new : ℕ → ℕ → Side) (shown : ℕ → List ℕ) → FindsShown shape pages page (step_asked what node) old new shown
push_finds Asked.WriteOut node push shape pages page old new shown = tt
push_finds Asked.Sync node push shape pages page old new shown = tt
push_finds Asked.PageInRead node push shape pages page old new shown = absurd push
push_finds Asked.PageInWrite node push shape pages page old new shown = absurd push
push_finds Asked.PageOut node push shape pages page old new shown = tt
push_finds Asked.Done node push shape pages page old new shown = absurd push

pub order_finds : (what : Called) (node : ℕ) (shape : TreeShape) (pages page : ℕ) (old new : ℕ → ℕ → Side) (shown : ℕ → List ℕ) → FindsShown shape pages page (step_called what node) old new shown
order_finds Called.FlushBack node shape pages page old new shown = tt
order_finds Called.DenyWrites node shape pages page old new shown = tt
order_finds Called.WriteBack node shape pages page old new shown = tt
order_finds Called.DeleteRange node shape pages page old new shown = tt
order_finds Called.Destroy node shape pages page old new shown = tt

pub plain_shows : (old new : EngineSeen) (event : Event) (page : ℕ) (step : Step) (sound : IsSound old) → IsPlain event → (m : IsMessage old new event [] page step)
    → ((shape : TreeShape) (pages page : ℕ) (before after : ℕ → ℕ → Side) (shown : ℕ → List ℕ) → FindsShown shape pages page step before after shown)
    → ShowsWhatItRead (tree_in old) (file_in old).page_size (file_in old).pages (log_in old ++ Entered (record { event = event; answer = None; bytes = [] }) ∷ []) (sides_in new)
plain_shows old new event page step sound plain m found = sent_shows old new event [] page step sound m
    (λ opening told began sent. plain.filled (tree_in old) (file_in old).page_size opening (events_in old))
    (λ opening finds. found (tree_in old) (file_in old).pages page (sides_in old) (sides_in new) (ground_shown (tree_in old) (file_in old).page_size opening (events_in old)))

pub plain_engine : (old new : EngineSeen) (event : Event) (page : ℕ) (step : Step) → IsSound old → IsPlain event → IsMessage old new event [] page step
    → ((shape : TreeShape) (pages page : ℕ) (before after : ℕ → ℕ → Side) (shown : ℕ → List ℕ) → FindsShown shape pages page step before after shown)
    → (sheet sheet' : Sheet) → IsEngine old sheet → IsBooked new event sheet sheet' → IsEngine new sheet'
plain_engine old new event page step sound plain m found sheet sheet' is book = sent_engine old new event [] page step sound m sheet sheet' (plain_shows old new event page step sound plain m found)
    (λ p none grant. absurd (let both : true ≡ false = sym grant ∙ plain.no_grant p in cc)) is book

pub plain_sends : (old new : EngineSeen) (event : Event) (page : ℕ) (step : Step) → IsSound old → IsPlain event → IsMessage old new event [] page step → (event' : Event) → event' ≡ event → new.trail.spare ≡ old.trail.spare → ((NeedsDisks old event → ⊥) → new.ground ≡ old.ground) → GoesOver old new event → Sends event old new event'
plain_sends old new event page step sound plain m event' is spare idle over = subst (λ (e : Event). Sends event old new e) (sym is) (record {
  stands = plain.stands old new;
  enters = subst (λ (bytes : List ℕ). Enters (record { event = event; answer = None; bytes = bytes }) old new) (sym (plain.no_bytes old new))
      (sent_enters old new event [] page step sound m (λ opening of. plain.filled (tree_in old) (file_in old).page_size opening (events_in old))
      (λ opening of p none grant. absurd (let both : true ≡ false = sym grant ∙ plain.no_grant p in cc)));
  frames = over;
  spare = spare;
  idle = idle;
})

-- A GRANT

pub grant_on : (shape : TreeShape) (trail : List Event) (zeros : Bool) (node page : ℕ) (write : Bool) → IsStepOn shape trail (event_granted zeros node page write) page (Grants node write)
grant_on shape trail true node page write = λ p. refl
grant_on shape trail false node page write = λ p. refl

pub grant_quiet : (zeros : Bool) (node page : ℕ) (write : Bool) → caller_of (event_granted zeros node page write) ≡ None
grant_quiet true node page write = refl
grant_quiet false node page write = refl

pub grant_no_answer : (old : EngineSeen) (zeros : Bool) (node page : ℕ) (write : Bool) (shape : TreeShape) (size : ℕ) (opening : List ℕ) → reply (plain_shape shape size) (file_after shape size opening (events_in old)) (event_granted zeros node page write) ≡ None
grant_no_answer old true node page write shape size opening = refl
grant_no_answer old false node page write shape size opening = refl

pub grant_no_sync : (zeros : Bool) (node page : ℕ) (write : Bool) (found : Option ℕ) → from_after found (event_granted zeros node page write) ≡ found
grant_no_sync true node page write found = refl
grant_no_sync false node page write found = refl

-- a grant that found zeros for a node that had nothing may come next as a ZeroFill
pub grant_next : (old : EngineSeen) (zeros : Bool) (node page : ℕ) (write : Bool) → IsNext old (events.PageIn node page write) → (zeros ≡ true → (column_in old page).right node ≡ Right.Nothing) → IsNext old (event_granted zeros node page write)
grant_next old false node page write next none = next
grant_next old true node page write next none = record { fits = next.fits; allowed = record { upper = next.allowed.upper; line = (none refl, next.allowed.line.0, next.allowed.line.1) } }

-- a node that stands on the ground and has nothing reads
pub reads_true : (t : Tables) (node page : ℕ) → parent (tree_of t) node ≡ 0 → (sides t page node).right ≡ Right.Nothing → reads_ground t node page ≡ true
reads_true t node page ground none = ap (λ (r : Right). not (holds r) && (parent (tree_of t) node == 0)) none ∙ eq-eqb (parent (tree_of t) node) 0 ground

grant_of : (zeros : Bool) (node page p : ℕ) (write : Bool) → is_grant_of p (event_granted zeros node page write) ≡ is_grant_of p (events.PageIn node page write)
grant_of true node page p write = refl
grant_of false node page p write = refl

module _ (old new : EngineSeen) (sound : IsSound old) (node page : ℕ) (write zeros : Bool) (asked : IsNext old (events.PageIn node page write))
    (bytes : List ℕ) (m : IsMessage old new (event_granted zeros node page write) bytes page (Grants node write))
    (found : zeros ≡ true → FindsZeros old new node page) (missed : zeros ≡ false → FindsZeros old new node page → ⊥) (bytes_are : bytes ≡ bytes_kept old new (events.PageIn node page write)) where
  filled : (opening : List ℕ) (told : Option (List (List ℕ))) → BeganWith (tree_in old) (file_in old).page_size (file_in old).pages opening (events_in old) (sides_in old) told
      → IsSent (tree_in old) told page (Grants node write) (sides_in old) (sides_in new) → (z : Bool) → z ≡ zeros → IsFilled (tree_in old) (file_in old).page_size opening (events_in old) (event_granted z node page write)
  filled opening told began sent true e = let f = found (sym e) in
      grant_zeros (tree_in old) (file_in old).page_size (file_in old).pages opening (events_in old) node page write (sides_in old) (sides_in new) told sound.true_to asked sent began f.nothing f.zeros
  filled opening told began sent false e =
      grant_others (tree_in old) (file_in old).page_size (file_in old).pages opening (events_in old) node page write (sides_in old) (sides_in new) told sound.true_to asked sent began
      (λ none zero. missed (sym e) (record { nothing = none; zeros = zero }))

  own_right : (sides_in old page node).right ≡ right_of (tree_in old) (events_in old) node page
  own_right = (sound.true_to.rights page).right node asked.allowed.upper

  -- what is kept of a page that was read is the node's copy
  read_bytes : parent (tree_in old) node ≡ 0 → (sides_in old page node).right ≡ Right.Nothing → bytes ≡ (sides_in new page node).copy
  read_bytes ground none = bytes_are ∙ ap (λ b. cond b (sides_in new page node).copy []) (reads_true old.tables node page ground none)

  finds : (opening : List ℕ) → FindsPagesOf (tree_in old) (file_in old).page_size opening (log_in old ++ Entered (record { event = event_granted zeros node page write; answer = None; bytes = bytes }) ∷ [])
      → FindsShown (tree_in old) (file_in old).pages page (Grants node write) (sides_in old) (sides_in new) (ground_shown (tree_in old) (file_in old).page_size opening (events_in old))
  finds opening all = (
    asked.fits page refl,
    (λ read.
        sym (read_bytes read.0 read.1)
        ∙ finds_last (tree_in old) (file_in old).page_size opening (log_in old) (record { event = event_granted zeros node page write; answer = None; bytes = bytes }) page all
        (read_here (tree_in old) (events_in old) (event_granted zeros node page write) page (Grants node write) m.on (read.0, sym own_right ∙ read.1))),
  )

  grant_shows : ShowsWhatItRead (tree_in old) (file_in old).page_size (file_in old).pages (log_in old ++ Entered (record { event = event_granted zeros node page write; answer = None; bytes = bytes }) ∷ []) (sides_in new)
  grant_shows = sent_shows old new (event_granted zeros node page write) bytes page (Grants node write) sound m (λ opening told began sent. filled opening told began sent zeros refl) finds

  own_page : (a b : ℕ) → (a == b) ≡ true → a ≡ b
  own_page a b e = grind (arith, nat_tests)

  -- a page's first grant is of this page, and reads it
  record IsFirst (p : ℕ) : Type 0 where
    same : p ≡ page
    none : is_granted_in page (events_in old) ≡ false
    ground : parent (tree_in old) node ≡ 0
    nothing : (sides_in old page node).right ≡ Right.Nothing

  first_of : (p : ℕ) → is_granted_in p (events_in old) ≡ false → is_grant_of p (event_granted zeros node page write) ≡ true → IsFirst p
  first_of p none grant =
      let same : p ≡ page = own_page p page (sym (grant_of zeros node page p write) ∙ grant) in
      let none' : is_granted_in page (events_in old) ≡ false = subst (λ (q : ℕ). is_granted_in q (events_in old) ≡ false) same none in
      let first = grant_first (tree_in old) (file_in old).page_size (file_in old).pages (events_in old) node page write (sides_in old) sound.true_to asked none' in
      record { same = same; none = none'; ground = first.0; nothing = own_right ∙ first.1 }

  kept : (opening : List ℕ) → IsOf opening old → (p : ℕ) → is_granted_in p (events_in old) ≡ false → is_grant_of p (event_granted zeros node page write) ≡ true → bytes ≡ page_in (file_in old).page_size opening p
  kept opening of p none grant =
      let first : IsFirst p = first_of p none grant in
      read_bytes first.ground first.nothing
      ∙ grant_kept (tree_in old) (file_in old).page_size (file_in old).pages opening (events_in old) node page write (sides_in old) (sides_in new) old.ground.pages sound.true_to asked m.sent of.began first.none
      ∙ ap (page_in (file_in old).page_size opening) (sym first.same)

  pub grant_engine : (parent (tree_in old) node ≡ 0 → (sides_in old page node).right ≡ Right.Nothing → length bytes ≡ (file_in old).page_size) → (sheet sheet' : Sheet) → IsEngine old sheet → IsBooked new (event_granted zeros node page write) sheet sheet' → IsEngine new sheet'
  grant_engine whole sheet sheet' is book = sent_engine old new (event_granted zeros node page write) bytes page (Grants node write) sound m sheet sheet' grant_shows
      (λ p none grant. let first : IsFirst p = first_of p none grant in (subst (λ (q : ℕ). q < (file_in old).pages) (sym first.same) (asked.fits page refl), whole first.ground first.nothing)) is book

  stands : (z : Bool) → z ≡ zeros → StandsFor old new (events.PageIn node page write) (event_granted z node page write)
  stands true e = ((λ f. refl), (λ no'. absurd (no' (found (sym e)))))
  stands false e = ((λ f. absurd (missed (sym e) f)), (λ no'. refl))

  pub grant_sends : (event : Event) → event ≡ event_granted zeros node page write → new.trail.spare ≡ old.trail.spare → ((NeedsDisks old (events.PageIn node page write) → ⊥) → new.ground ≡ old.ground) → GoesOver old new (event_granted zeros node page write) → Sends (events.PageIn node page write) old new event
  grant_sends event is spare idle over = subst (λ (e : Event). Sends (events.PageIn node page write) old new e) (sym is) (record {
    stands = stands zeros refl;
    enters = subst (λ (b : List ℕ). Enters (record { event = event_granted zeros node page write; answer = None; bytes = b }) old new) bytes_are
        (sent_enters old new (event_granted zeros node page write) bytes page (Grants node write) sound m (λ opening of. filled opening old.ground.pages of.began m.sent zeros refl) kept);
    frames = over;
    spare = spare;
    idle = idle;
  })

-- FROM WHAT THE CODE DID

pub message_of : (old mid new : EngineSeen) (r : ℕ) → mid ≡ roomy old r → (event : Event) (entry : Entry) → entry ≡ record { event = event; answer = None; bytes = [] } → (page : ℕ) (step : Step)
    → IsSameFile mid.tables new.tables → IsOneCall mid.ground new.ground → IsCalmCall mid.ground new.ground → (sent : IsSent (tree_in mid) mid.ground.pages page step (sides_in mid) (sides_in new)) → Follow page step mid.tables new.tables
    → new.ground.pages ≡ pages_given page (given_up (tree_in mid) step (sides_in mid page)) mid.ground.pages
    → new.trail.log ≡ mid.trail.log ++ Entered entry ∷ [] → new.trail.page_size ≡ mid.trail.page_size → place_of (log_in old) < MAX_EVENTS → IsNext old event → IsPlain event
    → IsStepOn (tree_in old) (events_in old) event page step
    → ((shape : TreeShape) (brings : Option (List ℕ)) (sides : ℕ → Side) (base next' next'' : List ℕ) → AreBrought shape brings step sides base next' → AreBrought shape brings step sides base next'') → IsMessage mid new event [] page step
message_of old mid new r is event given same page step file call calm sent follows ground log size few next plain on brings = record {
  file = file;
  call = call;
  calm = calm;
  sent = sent;
  follows = follows;
  ground = ground;
  log = log ∙ ap (λ (x : Entry). mid.trail.log ++ Entered x ∷ []) same;
  size = size;
  few = subst (λ (e : EngineSeen). place_of (log_in e) < MAX_EVENTS) (sym is) few;
  next = subst (λ (e : EngineSeen). IsNext e event) (sym is) next;
  quiet = plain.quiet;
  no_answer = λ shape size opening. plain.no_answer shape size opening (events_in mid);
  no_sync = plain.no_sync;
  on = subst (λ (e : EngineSeen). IsStepOn (tree_in e) (events_in e) event page step) (sym is) on;
  no_write = λ b base next' next''. brings (tree_in mid) b (sides_in mid page) base next' next'';
}
