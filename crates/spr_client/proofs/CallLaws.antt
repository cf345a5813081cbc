-- What a call at a file is for the one who called, and for the others of its pass.
use Rattle.std.proofs.Common.{◌≡◌, ◌≢◌, ℕ, suc, ◌≤◌, ◌<◌, ◌==◌, true, false, cond, List, [], ◌∷◌, ◌++◌, map, Option, Some, None, Result, Ok, Err, refl, sym, ap, subst, ◌∙◌, arith}
use Rattle.std.proofs.lemmas.List.{append-nil}
use Rattle.std.proofs.lemmas.Bool.Decides.{nat_tests}
use Rattle.std.specs.Option.{option_map}
use mathlib.Core.Logic.{dite}
use native.Mathlib.Decide.{ℕ_discrete}
use Rattle.hist_plain.specs.declared.event.Answer.{Answer}
use Rattle.hist_plain.specs.declared.event.Answer.TheVariants as answers
use Rattle.hist_plain.specs.declared.event.Event.{Event}
use Rattle.hist_plain.specs.Event.{caller_of}
use Rattle.hist_plain.specs.Plain.{Told}
use Rattle.hist_plain.specs.History.{Entry, is_by}
use Rattle.hist_plain.specs.declared.TheConstants.{MAX_EVENTS}
use Rattle.script_text.specs.declared.script.Reply.{Reply}
use Rattle.script_text.specs.declared.script.Reply.TheVariants as replies
use Rattle.link_lossy.specs.Carriers.{CarrierSeen}
use Rattle.tower_log.specs.declared.logged.Entry.{Entry as LogEntry}
use Rattle.tower_log.specs.declared.logged.Logged.{Logged}
use Rattle.tower_log.specs.declared.logged.Logged.TheVariants.{Entered, Noted}
use Rattle.tower_log.specs.Log.{bytes_with, place_of, told_by, trail_of}
use Rattle.hist_lock.specs.Ranges.{Quiet, in_range}
use Rattle.stack_engine.specs.declared.refusal.StepErr.{StepErr}
use Rattle.stack_engine.specs.declared.refusal.StepErr.TheVariants.{StoreFault, TrailFull, Memory}
use Rattle.stack_accept.specs.Mount.{Mount}
use Rattle.client_objects.specs.declared.state.ClientState.{ClientState}
use Rattle.script_meaning.specs.Log.{Histories, Item, entered, noted, items, items_from, by_caller, name_items, names_by, log_at, IsFull}
use Rattle.name_context.specs.History.{NamesSeen}
use Rattle.script_meaning.specs.Plan.{Plan, ends, calls, Request, Ask, access, release, revoke, sync, Asks, Made, at_file, Goes, comes, heard, over}
use Rattle.script_meaning.specs.Fits.{made_on, made_with_names, SyncsFrom, SyncsInOrder, GoesOn, Did, Gone}
use Rattle.script_meaning.proofs.Logs.{by_caller-more}
use Rattle.script_meaning.proofs.Parts.{goes_on_same, goes_on_then, names_go_on_same, did_nothing, gone_call, gone_fault, gone_refused, sent_here}
use Rattle.spr_volume.specs.declared.answered.Answered.{Answered}
use Rattle.spr_volume.specs.FilePasses.{is_own, Quietly}
use Rattle.client_objects.specs.Views.{names_at_start}
use Rattle.spr_volume.specs.Passes.{Knows}
use Rattle.spr_client.specs.Calls.{CallDone, IsAsked, histories, refusal_of}

same : (c : ℕ) → (c == c) ≡ true
same c = grind (arith, nat_tests)

differ : (a b : ℕ) → b ≢ a → (a == b) ≡ false
differ a b n = grind (arith, nat_tests)

-- what is no caller's of a range is not this caller's of it
not_by : (first end c : ℕ) (o : Option ℕ) → first ≤ c → c < end → in_range first end o ≡ false → is_by c o ≡ false
not_by first end c None low high e = refl
not_by first end c (Some n) low high e = grind (arith, nat_tests)

-- a log without an entry of a range says nothing of its callers
quiet_items : (first end c : ℕ) → first ≤ c → c < end → (place : ℕ) (log : List Logged) → Quiet (is_own first end) log → by_caller c (items_from place log) ≡ []
quiet_items first end c low high place [] q = refl
quiet_items first end c low high place (Entered entry ∷ log) q =
    rw (not_by first end c (caller_of entry.event) low high q.0) (quiet_items first end c low high (suc place) log q.1)
quiet_items first end c low high place (Noted note ∷ log) q = rw (not_by first end c (Some note.caller) low high q.0) (quiet_items first end c low high place log q.1)

pub quiet_by : (first end c : ℕ) (old new : List Logged) → first ≤ c → c < end → Quietly first end old new → by_caller c (items new) ≡ by_caller c (items old)
quiet_by first end c old new low high q =
    ap (λ (h : List Logged). by_caller c (items h)) q.whole
    ∙ (by_caller-more c old q.rest ∙ (ap (λ (is : List Item). by_caller c (items old) ++ is) (quiet_items first end c low high (place_of old) q.rest q.quiet) ∙ append-nil (by_caller c (items old))))

-- these things, at one file
abbrev at_one : ℕ → List Item → List Made
at_one k is = map (at_file k) is

made_same : (k : ℕ) (is : List Item) → made_on k (at_one k is) ≡ is
made_same k [] = refl
made_same k (i ∷ is) = rw (same k) (ap (λ (l : List Item). i ∷ l) (made_same k is))

made_other : (k file : ℕ) (is : List Item) → file ≢ k → made_on file (at_one k is) ≡ []
made_other k file [] n = refl
made_other k file (i ∷ is) n = rw (differ k file n) (made_other k file is n)

made_unnamed : (k : ℕ) (is : List Item) → made_with_names (at_one k is) ≡ []
made_unnamed k [] = refl
made_unnamed k (i ∷ is) = made_unnamed k is

-- what a caller did at one file, where the others and the names stay as they were
did_at : (c k : ℕ) (old new : Histories) (is : List Item) → new.names ≡ old.names → ((file : ℕ) → file ≢ k → log_at new file ≡ log_at old file)
    → GoesOn (log_at old k) (log_at new k) → by_caller c (items (log_at new k)) ≡ by_caller c (items (log_at old k)) ++ is → SyncsInOrder (place_of (log_at old k)) is
    → Did c old new (at_one k is)
did_at c k old new is names others goes part syncs = record {
  later = record {
    logs = λ file. dite (ℕ_discrete file k) (λ e. subst (λ (f : ℕ). GoesOn (log_at old f) (log_at new f)) (sym e) goes) (λ n. goes_on_same (log_at old file) (log_at new file) (others file n));
    names = names_go_on_same old.names new.names names;
  };
  part = λ file. dite (ℕ_discrete file k)
      (λ e. subst (λ (f : ℕ). by_caller c (items (log_at new f)) ≡ by_caller c (items (log_at old f)) ++ made_on f (at_one k is)) (sym e) (part ∙ ap (λ (l : List Item). by_caller c (items (log_at old k)) ++ l) (sym (made_same k is))))
      (λ n. ap (λ (h : List Logged). by_caller c (items h)) (others file n) ∙ (sym (append-nil (by_caller c (items (log_at old file)))) ∙ ap (λ (l : List Item). by_caller c (items (log_at old file)) ++ l) (sym (made_other k file is n))));
  syncs = λ file. dite (ℕ_discrete file k)
      (λ e. subst (λ (f : ℕ). SyncsInOrder (place_of (log_at old f)) (made_on f (at_one k is))) (sym e) (subst (SyncsInOrder (place_of (log_at old k))) (sym (made_same k is)) syncs))
      (λ n. subst (SyncsInOrder (place_of (log_at old file))) (sym (made_other k file is n)) tt);
  names = ap (λ (s : NamesSeen). names_by c (name_items s)) names ∙ (sym (append-nil (names_by c (name_items old.names))) ∙ ap (λ l. names_by c (name_items old.names) ++ l) (sym (made_unnamed k is)));
}

-- what a call's end says of a caller of the pass is what the call says of it
called_by : (mount : Mount) (m c : ℕ) (request : Request) (old new : Knows) (out : List ℕ) (r : Result Answered StepErr) (is : List Item) → old.first ≤ c → c < old.end → (called : CallDone m request old new out r)
    → by_caller c (items_from (place_of called.here.before) called.here.last) ≡ is → SyncsInOrder (place_of (log_at (histories mount old) request.file)) is
    → Did c (histories mount old) (histories mount new) (at_one request.file is)
called_by mount m c request old new out r is low high called last syncs =
    let k : ℕ = request.file in
    let h : List Logged = log_at (histories mount old) k in
    let b : List Logged = called.here.before in
    did_at c k (histories mount old) (histories mount new) is
    (ap (λ l. record { began = names_at_start mount; history = l }) called.names) called.others
    (goes_on_then h b (log_at (histories mount new) k) (record { more = called.here.quietly.rest; log = called.here.quietly.whole }) (record { more = called.here.last; log = called.here.log }))
    (ap (λ (x : List Logged). by_caller c (items x)) called.here.log ∙ (by_caller-more c b called.here.last
    ∙ (ap (λ (l : List Item). l ++ by_caller c (items_from (place_of b) called.here.last)) (quiet_by old.first old.end c h b low high called.here.quietly) ∙ ap (λ (l : List Item). by_caller c (items h) ++ l) last)))
    syncs

-- the event of what is asked is what is asked
asks_event : (c least : ℕ) (ask : Ask) (trail : List Event) (event : Event) → IsAsked c least ask trail event → Asks c ask event
asks_event c least (access node life op) trail event is = subst (Asks c (access node life op)) (sym is) (refl, refl, refl, refl)
asks_event c least (sync node keep) trail event is = subst (Asks c (sync node keep)) (sym is.is) (refl, refl, refl)
asks_event c least (revoke node) trail event is = subst (Asks c (revoke node)) (sym is) (refl, refl)
asks_event c least (release node) trail event is = subst (Asks c (release node)) (sym is) (refl, refl)

event_by : (c least : ℕ) (ask : Ask) (trail : List Event) (event : Event) → IsAsked c least ask trail event → caller_of event ≡ Some c
event_by c least (access node life op) trail event is = ap caller_of is
event_by c least (sync node keep) trail event is = ap caller_of is.is
event_by c least (revoke node) trail event is = ap caller_of is
event_by c least (release node) trail event is = ap caller_of is

-- a sync that is asked is from no place before this one
event_from : (c least : ℕ) (ask : Ask) (trail : List Event) (event : Event) → IsAsked c least ask trail event → SyncsFrom least event
event_from c least (access node life op) trail event is = subst (SyncsFrom least) (sym is) tt
event_from c least (sync node keep) trail event is = subst (SyncsFrom least) (sym is.is) is.least_is
event_from c least (revoke node) trail event is = subst (SyncsFrom least) (sym is) tt
event_from c least (release node) trail event is = subst (SyncsFrom least) (sym is) tt

entered_item : (c place : ℕ) (entry : LogEntry) (last : List Logged) → last ≡ Entered entry ∷ [] → caller_of entry.event ≡ Some c
    → by_caller c (items_from place last) ≡ entered (record { place = place; event = entry.event; told = told_by entry }) ∷ []
entered_item c place entry last is own = rw is (rw own (rw (same c) refl))

other_entered : (m c place : ℕ) (entry : LogEntry) (last : List Logged) → c ≢ m → last ≡ Entered entry ∷ [] → caller_of entry.event ≡ Some m
    → by_caller c (items_from place last) ≡ []
other_entered m c place entry last n is own = rw is (rw own (rw (differ m c n) refl))

noted_item : (m c disk count place : ℕ) (last : List Logged) → last ≡ Noted (record { caller = m; disk = disk; count = count }) ∷ []
    → by_caller c (items_from place last) ≡ cond (m == c) (noted m disk count ∷ []) []
noted_item m c disk count place last is = rw is refl

no_item : (c place : ℕ) (last : List Logged) → last ≡ [] → by_caller c (items_from place last) ≡ []
no_item c place last is = rw is refl

-- what an answered entry tells
abbrev pub told_of : LogEntry → Answer → Told
told_of entry answer = record { answer = answer; bytes = bytes_with answer entry.bytes }

tells : (entry : LogEntry) (answer : Answer) → entry.answer ≡ Some answer → told_by entry ≡ Some (told_of entry answer)
tells entry answer is = ap (λ (a : Option Answer). option_map {T = Answer} (λ (x : Answer). told_of entry x) a) is

pub told_bytes : (entry : LogEntry) (answer : Answer) (out : List ℕ) → (answer ≡ answers.Bytes → entry.bytes ≡ out) → answer ≡ answers.Bytes → (told_of entry answer).bytes ≡ out
told_bytes entry answer out bytes read = ap (λ (a : Answer). bytes_with a entry.bytes) read ∙ bytes read

-- what a call that was answered entered
pub record Entering (mount : Mount) (c : ℕ) (request : Request) (old new : Knows) (told : Told) : Type 0 where
  pub entry : Entry
  pub did : Did c (histories mount old) (histories mount new) (at_file request.file (entered entry) ∷ [])
  pub asks : Asks c request.ask entry.event
  pub tells : entry.told ≡ Some told

pub entering : (mount : Mount) (c : ℕ) (request : Request) (old new : Knows) (out : List ℕ) (a : Answered) → old.first ≤ c → c < old.end → (called : CallDone c request old new out (Ok a))
    → Entering mount c request old new (told_of called.here.ends.0 a.answer)
entering mount c request old new out a low high called =
    let entry : LogEntry = called.here.ends.0 in
    let asked = called.here.ends.2 in
    let answered = called.here.ends.3 in
    let b : List Logged = called.here.before in
    let least : ℕ = place_of (log_at (histories mount old) request.file) in
    let e : Entry = record { place = place_of b; event = entry.event; told = told_by entry } in
    record {
      entry = e;
      did = called_by mount c c request old new out (Ok a) (entered e ∷ []) low high called
          (entered_item c (place_of b) entry called.here.last called.here.ends.1 (event_by c least request.ask (trail_of b) entry.event asked))
          (event_from c least request.ask (trail_of b) entry.event asked, tt);
      asks = asks_event c least request.ask (trail_of b) entry.event asked;
      tells = tells entry a.answer answered.answer_is;
    }

-- what a call whose store failed noted
pub noting : (mount : Mount) (c : ℕ) (request : Request) (old new : Knows) (out : List ℕ) (disk count : ℕ) → old.first ≤ c → c < old.end → CallDone c request old new out (Err (StoreFault disk count))
    → Did c (histories mount old) (histories mount new) (at_file request.file (noted c disk count) ∷ [])
noting mount c request old new out disk count low high called =
    called_by mount c c request old new out (Err (StoreFault disk count)) (noted c disk count ∷ []) low high called
    (noted_item c c disk count (place_of called.here.before) called.here.last called.here.ends ∙ rw (same c) refl) tt

-- a call that found its history full
pub filling : (mount : Mount) (c : ℕ) (request : Request) (old new : Knows) (out : List ℕ) → old.first ≤ c → c < old.end → CallDone c request old new out (Err TrailFull)
    → Did c (histories mount old) (histories mount new) [] × IsFull (histories mount new) request.file
filling mount c request old new out low high called =
    let b : List Logged = called.here.before in
    let h = histories mount new in
    let whole : log_at h request.file ≡ b = called.here.log ∙ (ap (λ (l : List Logged). b ++ l) called.here.ends.0 ∙ append-nil b) in (
      called_by mount c c request old new out (Err TrailFull) [] low high called (no_item c (place_of b) called.here.last called.here.ends.0) tt,
      subst (λ (l : List Logged). MAX_EVENTS ≤ place_of l) (sym whole) called.here.ends.1,
    )

-- a call for which memory lacked
pub starving : (mount : Mount) (c : ℕ) (request : Request) (old new : Knows) (out : List ℕ) → old.first ≤ c → c < old.end → CallDone c request old new out (Err Memory) → Did c (histories mount old) (histories mount new) []
starving mount c request old new out low high called =
    called_by mount c c request old new out (Err Memory) [] low high called (no_item c (place_of called.here.before) called.here.last called.here.ends.0) tt

-- a call that was answered, whose answer came, and ended the line
pub line_end : (mount : Mount) (c : ℕ) (p : Plan) (request : Request) (state : ClientState) (go_on : Told → Plan) (old new : Knows) (out : List ℕ) (a : Answered) (said : Reply) (left : ClientState)
    → p ≡ calls request state go_on → comes (over request state) ≡ true → old.first ≤ c → c < old.end → (called : CallDone c request old new out (Ok a)) → go_on (told_of called.here.ends.0 a.answer) ≡ ends said left → Gone c p (histories mount old) (histories mount new) said left
line_end mount c p request state go_on old new out a said left is came low high called end =
    let h = histories mount new in
    let e = entering mount c request old new out a low high called in
    gone_call c p request state go_on (histories mount old) h h e.entry (told_of called.here.ends.0 a.answer) [] said left is came e.did e.asks e.tells (did_nothing c h h refl)
    (subst (λ (q : Plan). Goes (IsFull h) c q [] said left) (sym end) (refl, refl))

-- a call that was answered, whose answer came, and what the line does then
pub line_then : (mount : Mount) (c : ℕ) (p : Plan) (request : Request) (state : ClientState) (go_on : Told → Plan) (old mid new : Knows) (out : List ℕ) (a : Answered) (said : Reply) (left : ClientState)
    → p ≡ calls request state go_on → comes (over request state) ≡ true → old.first ≤ c → c < old.end → (called : CallDone c request old mid out (Ok a)) → Gone c (go_on (told_of called.here.ends.0 a.answer)) (histories mount mid) (histories mount new) said left
    → Gone c p (histories mount old) (histories mount new) said left
line_then mount c p request state go_on old mid new out a said left is came low high called rest =
    let e = entering mount c request old mid out a low high called in
    gone_call c p request state go_on (histories mount old) (histories mount mid) (histories mount new) e.entry (told_of called.here.ends.0 a.answer) rest.made said left is came e.did e.asks e.tells rest.did rest.goes

-- a call on the client's machine that was refused ends the line
pub line_err : (mount : Mount) (c : ℕ) (p : Plan) (request : Request) (state : ClientState) (go_on : Told → Plan) (old new : Knows) (out : List ℕ) (err : StepErr)
    → p ≡ calls request state go_on → over request state ≡ None → old.first ≤ c → c < old.end → CallDone c request old new out (Err err) → Gone c p (histories mount old) (histories mount new) (refusal_of err) state
line_err mount c p request state go_on old new out (StoreFault disk count) is here low high called =
    let gone = gone_fault c p request state go_on (histories mount old) (histories mount new) disk count is (noting mount c request old new out disk count low high called) in
    subst (λ (r : Reply). Gone c p (histories mount old) (histories mount new) r state) (ap (λ (o : Option CarrierSeen). heard o (replies.Store disk count)) here)
    (subst (λ (s : ClientState). Gone c p (histories mount old) (histories mount new) (heard (over request state) (replies.Store disk count)) s) (sent_here request state here) gone)
line_err mount c p request state go_on old new out TrailFull is here low high called =
    let full = filling mount c request old new out low high called in
    gone_refused c p request state go_on (histories mount old) (histories mount new) (refusal_of TrailFull) is here full.0 full.1
line_err mount c p request state go_on old new out Memory is here low high called =
    gone_refused c p request state go_on (histories mount old) (histories mount new) (refusal_of Memory) is here (starving mount c request old new out low high called) tt

-- a call of one caller is nothing for another of its pass
pub called_other : (mount : Mount) (m c : ℕ) (request : Request) (old new : Knows) (out : List ℕ) (r : Result Answered StepErr) → c ≢ m → old.first ≤ c → c < old.end → CallDone m request old new out r → Did c (histories mount old) (histories mount new) []
called_other mount m c request old new out (Ok a) n low high called =
    let entry : LogEntry = called.here.ends.0 in
    let b : List Logged = called.here.before in
    called_by mount m c request old new out (Ok a) [] low high called
    (other_entered m c (place_of b) entry called.here.last n called.here.ends.1 (event_by m (place_of (log_at (histories mount old) request.file)) request.ask (trail_of b) entry.event called.here.ends.2)) tt
called_other mount m c request old new out (Err (StoreFault disk count)) n low high called =
    called_by mount m c request old new out (Err (StoreFault disk count)) [] low high called
    (noted_item m c disk count (place_of called.here.before) called.here.last called.here.ends ∙ rw (differ m c n) refl) tt
called_other mount m c request old new out (Err TrailFull) n low high called =
    called_by mount m c request old new out (Err TrailFull) [] low high called (no_item c (place_of called.here.before) called.here.last called.here.ends.0) tt
called_other mount m c request old new out (Err Memory) n low high called =
    called_by mount m c request old new out (Err Memory) [] low high called (no_item c (place_of called.here.before) called.here.last called.here.ends.0) tt
