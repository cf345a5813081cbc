-- A run in which nothing failed ends well, or memory ran out.
use Rattle.std.proofs.Common.{◌≡◌, ◌⊎◌, ⊎_elim, inl, inr, ℕ, zero, suc, ◌-◌, ◌^◌, ◌<◌, ◌≤◌, ◌==◌, Bool, true, false, cond, List, [], ◌∷◌, ◌++◌, length, Option, Some, None, refl, sym, ap, subst, ◌∙◌, arith}
use Rattle.std.specs.Prelude.{◌||◌, slice_get, filter, Err, Ok, Result, IfSome, take, unwrap_or}
use Rattle.std.proofs.lemmas.Bool.{eq-eqb}
use Rattle.std.proofs.lemmas.Bool.Decides.{nat_tests}
use Rattle.std.specs.List.{AllByRecursion, list_any, list_all}
use Rattle.std.specs.Option.{option_map}
use Rattle.std.proofs.lemmas.Option.{slice_get_within}
use Rattle.hist_plain.specs.declared.event.Answer.{Answer}
use Rattle.hist_plain.specs.declared.event.Answer.TheVariants as answers
use Rattle.hist_plain.specs.declared.event.Event.{Event}
use Rattle.hist_plain.specs.declared.event.Event.TheVariants as events
use Rattle.hist_plain.specs.History.{is_by}
use Rattle.hist_plain.specs.Plain.{Told}
use Rattle.hist_plain.specs.declared.event.Op.{Op}
use Rattle.hist_plain.specs.declared.event.Op.TheVariants as ops
use Rattle.hist_plain.specs.declared.event.Keep.{Keep}
use Rattle.hist_plain.specs.declared.event.Keep.TheVariants as keeps
use Rattle.hist_plain.specs.Event.{fits_page}
use Rattle.hist_plain.specs.Plain as plainly
use Rattle.script_text.specs.declared.script.Script.{Script}
use Rattle.script_text.specs.declared.script.Said.{Said}
use Rattle.script_text.specs.declared.script.Call.{Call}
use Rattle.script_text.specs.declared.script.Call.TheVariants as lines
use Rattle.script_text.specs.declared.script.CallLine.{CallLine}
use Rattle.script_text.specs.declared.script.ClientLine.{ClientLine}
use Rattle.text_words.specs.Words.{path_of}
use Rattle.script_text.specs.declared.script.Reply.{Reply}
use Rattle.script_text.specs.declared.script.Reply.TheVariants as replies
use Rattle.stack_accept.specs.declared.entries.FileEntry.{FileEntry}
use Rattle.stack_accept.specs.Mount.{Mount}
use Rattle.tower_core.specs.Legal.{file_after, plain_shape}
use Rattle.tower_core.specs.TreeShape.{TreeShape}
use Rattle.tower_log.specs.declared.logged.Entry.{Entry}
use Rattle.tower_log.specs.declared.logged.Logged.{Logged}
use Rattle.tower_log.specs.declared.logged.Logged.TheVariants.{Entered, Noted}
use Rattle.tower_log.specs.Log.{bytes_with, entries_of, place_of, told_by, trail_of}
use Rattle.tower_log.specs.Notes.{Rises, counts_of}
use Rattle.name_context.specs.declared.entry.NameCall.TheVariants as names_calls
use Rattle.name_context.specs.declared.entry.NameErr.{NameErr}
use Rattle.name_context.specs.declared.entry.NameErr.TheVariants as refusals
use Rattle.name_context.specs.Names.{Kept, Name, kept_at}
use Rattle.name_context.specs.Listed.{listed}
use Rattle.client_objects.specs.declared.state.ClientState.{ClientState}
use Rattle.client_objects.specs.declared.target.Target.{Target}
use Rattle.client_objects.specs.Objects.{object_of, word_of}
use Rattle.client_objects.specs.Stored.{received, received_word}
use Rattle.memory_object.specs.declared.binding.CacheRights.{CacheRights}
use Rattle.vmm_space.specs.declared.regions.Region.{Region}
use Rattle.vmm_space.specs.declared.regions.Place.{Place}
use Rattle.vmm_space.specs.declared.why.SpaceErr.{SpaceErr}
use Rattle.vmm_space.specs.declared.why.SpaceErr.TheVariants as spaces
use Rattle.vmm_space.specs.declared.why.TranslateErr.{TranslateErr}
use Rattle.vmm_space.specs.declared.why.TranslateErr.TheVariants as places
use Rattle.vmm_space.specs.Spaces.{has_region, refusal, translation, without_region}
use Rattle.script_meaning.specs.declared.store.StoreKey.{StoreKey}
use Rattle.script_meaning.specs.Log.{Histories, IsFull, Item, by_caller, entered, items, items_from, log_at, noted, who}
use Rattle.client_objects.specs.declared.kind.ObjectKind.{ObjectKind}
use Rattle.link_lossy.specs.Carriers.{CarrierSeen, after_call}
use Rattle.marshal_buf.specs.declared.door.Door.{Door}
use Rattle.client_replicas.specs.declared.door.OpenDoor.{OpenDoor}
use Rattle.client_replicas.specs.Objects.{doors_of, with_doors}
use Rattle.client_replicas.specs.OpenDoors.{fresh, open_door}
use Rattle.client_replicas.specs.Received.{received_doors}
use Rattle.script_meaning.specs.Plan.{Ask, Asks, Goes, Hears, Made, NamesAsk, NamesTold, Plan, Refuses, Request, Unmade, access, asking, asking_at, asking_names, asks_names, at_file, binding, binding_doors, by_door, calls, comes, ends, further_tries, is_open, is_revoked, kind_named, led_to, life_in, loading, lost_reply, mapping, node_at, opening, over, plan, plan_access, plan_after, plan_bind, plan_bound, plan_by_doors, plan_call, plan_copy, plan_copy_doors, plan_done, plan_doors, plan_drop, plan_drop_doors, plan_end, plan_found, plan_map, plan_named, plan_names, plan_next, plan_open, plan_opens, plan_place, plan_received, plan_reopened, plan_replicate, plan_sync, plan_synced, plan_try, plan_use, reached, refused_as, region_of, release, reopening, replica_doors, replicating, reply_of, rerouting, revoke, rights_at, sent, start_state, storing, sync, told_names, trial_of, unknown, unless_refused, unless_unmappable, with_names}
use Rattle.script_meaning.specs.Stack.{file_named, pages_of, view_of, layer_of}
use Rattle.script_meaning.specs.Fits.{Acts, AllGoOn, ClientsFit, Closes, Did, Does, InOrder, Line, Phased, last_cut, lines_of, made_on, no_client, plan_closing}
use Rattle.script_meaning.proofs.Logs.{items-more}
use Rattle.script_meaning.proofs.Parts.{full_later}
use Rattle.spr_io.specs.Berth.{BaySeen}
use Rattle.spr_io.specs.Content.{Content}
use Rattle.spr_report.specs.declared.status.Status.{Status}
use Rattle.spr_report.specs.declared.status.Status.TheVariants as statuses
use Rattle.disk_format.specs.declared.image.Image.{Image}
use Rattle.disk_format.specs.declared.shape.ImageShape.{ImageShape}
use Rattle.disk_format.specs.declared.why.BadImage.{BadImage}
use Rattle.page_ground.specs.Seen.{Imaged}
use Rattle.disk_format.specs.Image.{front_of, image}
use Rattle.disk_format.specs.Image as images
use Rattle.disk_format.specs.VersionOne.{image_in}
use Rattle.mirror_rules.specs.Tree.{Seat}
use Rattle.mirror_rules.specs.Tree as machine
use Rattle.mirror_rules.specs.Claims.{Nth, Pairs, nth_here, nth_later, pairs_more, pairs_none}
use Rattle.mirror_rules.specs.Fates.{Blamed, blamed_here, blamed_later}
use Rattle.mirror_rules.specs.Opening.{BadImage as Damaged, Good, Lost}
use Rattle.mirror_layer.specs.View.{Beside}
use Rattle.mirror_layer.specs.Stores.{Left, Stored, stored}
use Rattle.mirror_layer.specs.Stores as mirrors
use Rattle.mirror_layer.specs.Bringing.{Brought, Lies, RefusedOver, bad_store, brought, lies, refused}
use Rattle.mirror_layer.specs.declared.refuse.Refusal.{Refusal}
use Rattle.mirror_layer.specs.declared.refuse.Refusal.TheVariants as refusals'
use Rattle.file_stores.specs.State.{RoseBy}
use Rattle.file_stores.specs.Held.{StoreSeen}
use Rattle.file_stores.specs.Files.{FileSeen, IsFile}
use Rattle.file_stores.proofs.Lists.{some-is, there}
use Rattle.file_stores.specs.Keys.{stores_of}
use Rattle.file_stores.specs.Opening.{IsUnopened, IsUnopenedOne, content_of, faults_of, refused_by, shape_of_file, unopened_many, unopened_one}
use Rattle.file_stores.specs.Stop.{stop_status}
use Rattle.file_stores.specs.Stops.{Untaken}
use Rattle.file_stores.specs.declared.stop.Stop.{Stop}
use Rattle.file_stores.specs.declared.stop.Stop.TheVariants as stops
use Rattle.file_stores.proofs.FileLaws.{file-number}
use Rattle.run_files.specs.Ended.{any_lost, has_fault, is_done, is_fault, is_memory, lacks_memory, status_by, status_of}
use Rattle.run_files.specs.Held.{IsUnheld}
use Rattle.mirror_layer.specs.declared.came.Notice.{Notice}
use Rattle.run_files.specs.Leaves.{LeavesFile, Store}
use Rattle.run_files.specs.Sums.{IsUnplayed, NotPlayed}
use Rattle.run_files.specs.Sums as sums
use Rattle.run_files.specs.Run.{IsOfDisks, IsOfFile, NotRun, Played, before_all, ran_out, reported, stopped, unopened, untaken}
use Rattle.run_laws.specs.Sound.{AreNotFull, AreStoresSound, HadImages, HoldImages, IsBaySound, SoundRunEndsWell, SoundSumEndsWell}
use Rattle.run_files.proofs.OnlyLaws.{file-key}

-- COUNTS THAT STAND STILL
rises-up : (before now : ℕ) (counts : List ℕ) → Rises before now counts → before ≤ now
rises-up before now [] rises = rises
rises-up before now (count ∷ counts) rises = let up = rises-up count now counts rises.1 in let here = rises.0 in omega (arith, up, here)

still-counts : (before now : ℕ) (counts : List ℕ) → Rises before now counts → now ≡ before → counts ≡ []
still-counts before now [] rises same = refl
still-counts before now (count ∷ counts) rises same = let up = rises-up count now counts rises.1 in let here = rises.0 in absurd (omega (arith, up, here, same))

-- no note stands in the log
abbrev NoNote : Logged → Type 0
NoNote (Entered entry) = Unit {0}
NoNote (Noted note) = ⊥

-- A SYNC IS ANSWERED BY `done`
abbrev SyncDone : Event → Option Told → Type 0
SyncDone (events.Synced caller number node from keep) told = (t : Told) → told ≡ Some t → t.answer ≡ answers.Done
SyncDone event told = Unit {0}

-- a log in which no store failed says only events, and each sync is done
abbrev Quiet : Item → Type 0
Quiet (entered e) = SyncDone e.event e.told
Quiet (noted caller disk count) = ⊥

abbrev AreQuiet : List Item → Type 0
AreQuiet is = AllByRecursion Quiet is

quiet-left : (xs ys : List Item) → AreQuiet (xs ++ ys) → AreQuiet xs
quiet-left [] ys all = tt
quiet-left (x ∷ xs) ys all = (all.0, quiet-left xs ys all.1)

quiet-right : (xs ys : List Item) → AreQuiet (xs ++ ys) → AreQuiet ys
quiet-right [] ys all = all
quiet-right (x ∷ xs) ys all = quiet-right xs ys all.1

quiet-filter : (test : Item → Bool) (xs : List Item) → AreQuiet xs → AreQuiet (filter test xs)
quiet-filter test [] all = tt
quiet-filter test (x ∷ xs) all = by (test x) (quiet-filter test xs all.1)
  where
    by : (b : Bool) → AreQuiet (filter test xs) → AreQuiet (cond b (x ∷ filter test xs) (filter test xs))
    by true rest = (all.0, rest)
    by false rest = rest

-- the histories say only such things, and none is full
record Calm (h : Histories) : Type 0 where
  quiet : (file : ℕ) → AreQuiet (items (log_at h file))
  room : (file : ℕ) → IsFull h file → ⊥

calm-before : (old new : Histories) → AllGoOn old new → Calm new → Calm old
calm-before old new on calm = record {
  quiet = λ file. let more = (on.logs file).more in
      quiet-left (items (log_at old file)) (items_from (place_of (log_at old file)) more)
      (subst AreQuiet (items-more (log_at old file) more) (subst (λ (l : List Logged). AreQuiet (items l)) (on.logs file).log (calm.quiet file)));
  room = λ file full. calm.room file (full_later old new on file full);
}

-- WHAT WAS MADE
abbrev QuietMade : List Made → Type 0
QuietMade [] = Unit {0}
QuietMade (at_file file item ∷ made) = Quiet item × QuietMade made
QuietMade (with_names item ∷ made) = QuietMade made

made-here : (file : ℕ) (item : Item) (made : List Made) → AreQuiet (made_on file (at_file file item ∷ made)) → Quiet item
made-here file item made all = by (file == file) (eq-eqb file file refl) all
  where
    by : (b : Bool) → b ≡ true → AreQuiet (cond b (item ∷ []) [] ++ made_on file made) → Quiet item
    by true is all = all.0
    by false is all = absurd cc

made-quiet : (made : List Made) → ((file : ℕ) → AreQuiet (made_on file made)) → QuietMade made
made-quiet [] all = tt
made-quiet (at_file file item ∷ made) all =
    (made-here file item made (all file), made-quiet made (λ other. quiet-right (cond (file == other) (item ∷ []) []) (made_on other made) (all other)))
made-quiet (with_names item ∷ made) all = made-quiet made all

did-quiet : (caller : ℕ) (old new : Histories) (made : List Made) → Did caller old new made → Calm new → QuietMade made
did-quiet caller old new made did calm =
    made-quiet made
    (λ file.
    quiet-right (by_caller caller (items (log_at old file))) (made_on file made)
    (subst AreQuiet (did.part file) (quiet-filter (λ i. is_by caller (who i)) (items (log_at new file)) (calm.quiet file))))

quiet-first : (xs ys : List Made) → QuietMade (xs ++ ys) → QuietMade xs
quiet-first [] ys all = tt
quiet-first (at_file file item ∷ xs) ys all = (all.0, quiet-first xs ys all.1)
quiet-first (with_names item ∷ xs) ys all = quiet-first xs ys all

quiet-rest : (xs ys : List Made) → QuietMade (xs ++ ys) → QuietMade ys
quiet-rest [] ys all = all
quiet-rest (at_file file item ∷ xs) ys all = quiet-rest xs ys all.1
quiet-rest (with_names item ∷ xs) ys all = quiet-rest xs ys all

-- CLIENTS WITHOUT A CARRIER lose no call
abbrev Uncarried : ClientState → Type 0
Uncarried state = state.carrier ≡ None

sent-uncarried : (request : Request) (state : ClientState) → Uncarried state → Uncarried (sent request state)
sent-uncarried request state un = by request.far
  where
    by : (far : Bool) → cond far (option_map {T = CarrierSeen} (λ c. after_call c) state.carrier) state.carrier ≡ None
    by true = ap (λ (o : Option CarrierSeen). option_map {T = CarrierSeen} (λ c. after_call c) o) un
    by false = un

over-none : (request : Request) (state : ClientState) → Uncarried state → over request state ≡ None
over-none request state un = by request.far
  where
    by : (far : Bool) → cond far state.carrier None ≡ None
    by true = un
    by false = refl

-- PLANS of clients without a carrier that end with no answer of a fault
abbrev EndsCalm : Plan → Type 0
EndsCalm (ends reply state) = (is_fault reply ≡ false) × Uncarried state
EndsCalm (calls request state go_on) = Uncarried state × ((told : Told) → EndsCalm (go_on told))
EndsCalm (asks_names ask state go_on) = Uncarried state × ((told : NamesTold) → EndsCalm (go_on told))
EndsCalm unknown = Unit {0}

-- how a line of such a client ends
abbrev LeftCalm : Reply → ClientState → Type 0
LeftCalm said left = (is_fault said ≡ false) × Uncarried left

refused-calm : (Full : Type 0) (said : Reply) → (Full → ⊥) → Refuses Full said → is_fault said ≡ false
refused-calm Full replies.TrailFull none refuses = absurd (none refuses)
refused-calm Full replies.Memory none refuses = refl
refused-calm Full _ none refuses = absurd refuses

unmade-calm : (carrier : Option CarrierSeen) (Full : Type 0) (request : Request) (state : ClientState) (said : Reply) (left : ClientState) → (Full → ⊥) → carrier ≡ None → Uncarried state → Unmade carrier Full request state said left → LeftCalm said left
unmade-calm None Full request state said left none is un unmade = (refused-calm Full said none unmade.0, subst Uncarried (sym unmade.1) un)
unmade-calm (Some c) Full request state said left none is un unmade = absurd (cc is)

goes-calm : (Full : ℕ → Type 0) → ((file : ℕ) → Full file → ⊥) → (caller : ℕ) (p : Plan) (made : List Made) (said : Reply) (after_it : ClientState) → EndsCalm p → QuietMade made → Goes Full caller p made said after_it → LeftCalm said after_it
goes-calm Full none caller (ends reply state) [] said after_it calm quiet goes = (ap is_fault goes.0 ∙ calm.0, subst Uncarried (sym goes.1) calm.1)
goes-calm Full none caller (ends reply state) (m ∷ made) said after_it calm quiet goes = absurd goes
goes-calm Full none caller (calls request state go_on) [] said after_it calm quiet goes =
    unmade-calm (over request state) (Full request.file) request state said after_it (none request.file) (over-none request state calm.0) calm.0 goes
goes-calm Full none caller (calls request state go_on) (at_file at (entered e) ∷ made) said after_it calm quiet goes =
    goes-calm Full none caller (go_on goes.1.1.0) made said after_it (calm.1 goes.1.1.0) quiet.1
    (subst (λ (o : Option CarrierSeen). Hears (comes o) (Goes Full caller (go_on goes.1.1.0) made said after_it) ((made ≡ []) × (said ≡ lost_reply o) × (after_it ≡ sent request state))) (over-none request state calm.0) goes.1.1.2)
goes-calm Full none caller (calls request state go_on) (at_file at (noted by disk count) ∷ made) said after_it calm quiet goes = absurd quiet.0
goes-calm Full none caller (calls request state go_on) (with_names item ∷ made) said after_it calm quiet goes = absurd goes
goes-calm Full none caller (asks_names ask state go_on) [] said after_it calm quiet goes = (ap is_fault goes.0, subst Uncarried (sym goes.1) calm.0)
goes-calm Full none caller (asks_names ask state go_on) (at_file at item ∷ made) said after_it calm quiet goes = absurd goes
goes-calm Full none caller (asks_names ask state go_on) (with_names item ∷ made) said after_it calm quiet goes =
    goes-calm Full none caller (go_on (told_names item)) made said after_it (calm.1 (told_names item)) quiet goes.1
goes-calm Full none caller unknown made said after_it calm quiet goes = absurd goes

told-calm : (told : Told) → is_fault (reply_of told) ≡ false
told-calm told = by told.answer told.bytes
  where
    by : (answer : Answer) (bytes : List ℕ) → is_fault (reply_of (record { answer = answer; bytes = bytes })) ≡ false
    by answers.Bytes bytes = refl
    by answers.Done bytes = refl
    by (answers.Life life) bytes = refl
    by (answers.Revoked life) bytes = refl

refusal-calm : (path : Option (List (List ℕ))) (why : NameErr) → is_fault (refused_as path why) ≡ false
refusal-calm path (refusals.NotBound part) = refl
refusal-calm path (refusals.AlreadyBound part) = refl
refusal-calm path (refusals.NotContext part) = refl
refusal-calm path (refusals.NotObject part) = refl
refusal-calm path refusals.Memory = refl

call-calm : (state : ClientState) (request : Request) → Uncarried state → EndsCalm (plan_call state request)
call-calm state request un = (un, λ told. (told-calm told, sent-uncarried request state un))

unless-calm : (state : ClientState) (path : Option (List (List ℕ))) (refused : Option NameErr) (onward : Plan) → Uncarried state → EndsCalm onward → EndsCalm (unless_refused state path refused onward)
unless-calm state path (Some why) onward un calm = (refusal-calm path why, un)
unless-calm state path None onward un calm = calm

names-calm : (state : ClientState) (ask : NamesAsk) (go_on : List Name → Plan) → Uncarried state → ((names : List Name) → EndsCalm (go_on names)) → EndsCalm (plan_names state ask go_on)
names-calm state ask go_on un calm = (un, λ told. unless-calm state ask.path told.refused (go_on told.names) un (calm told.names))

done-calm : (state : ClientState) (ask : NamesAsk) → Uncarried state → EndsCalm (plan_done state ask)
done-calm state ask un = names-calm state ask (λ names. ends replies.Done state) un (λ names. (refl, un))

bind-calm : (state : ClientState) (path : List (List ℕ)) (kind : ObjectKind) (view file : Option ℕ) → Uncarried state → EndsCalm (plan_bind state path kind view file)
bind-calm state path kind (Some node) (Some file) un = done-calm state (binding path kind node file) un
bind-calm state path kind (Some node) None un = tt
bind-calm state path kind None file un = tt

named-calm : (state : ClientState) (target : Option Target) (go_on : Target → Plan) → Uncarried state → ((found : Target) → EndsCalm (go_on found)) → EndsCalm (plan_named state target go_on)
named-calm state None go_on un calm = (refl, un)
named-calm state (Some target) go_on un calm = calm target

if-calm : (b : Bool) (p q : Plan) → EndsCalm p → EndsCalm q → EndsCalm (cond b p q)
if-calm true p q one other = one
if-calm false p q one other = other

abbrev GoesCalm : (ClientState → Told → Plan) → Type 0
GoesCalm go_on = (state : ClientState) (told : Told) → Uncarried state → EndsCalm (go_on state told)

try-calm : (mount : Mount) (op : Op) (go_on : ClientState → Told → Plan) (state : ClientState) (target : Target) → Uncarried state → GoesCalm go_on → EndsCalm (plan_try mount op go_on state target)
try-calm mount op go_on state target un calm =
    let request : Request = trial_of mount state target op in
    if-calm (fits_page mount.page_size (pages_of mount target.file) op) (calls request state (go_on (sent request state))) (ends replies.NotOnePage state)
    (un, λ told. calm (sent request state) told (sent-uncarried request state un)) (refl, un)

reopened-calm : (mount : Mount) (name : List ℕ) (op : Op) (go_on : ClientState → Told → Plan) (state : ClientState) (found : Option Target) → Uncarried state → GoesCalm go_on → EndsCalm (plan_reopened mount name op go_on state found)
reopened-calm mount name op go_on state None un calm = (refl, un)
reopened-calm mount name op go_on state (Some found) un calm =
    let request : Request = reopening mount state found in
    (un, λ told. try-calm mount op go_on (rerouting (sent request state) name (led_to found told)) (led_to found told) (sent-uncarried request state un) calm)

after-calm : (mount : Mount) (left : ℕ) (name : List ℕ) (path : List (List ℕ)) (op : Op) → GoesCalm (plan_after mount left name path op)
after-calm mount zero name path op state told un = (told-calm told, un)
after-calm mount (suc left) name path op state told un =
    if-calm (is_revoked told.answer)
    (plan_names state (asking_names names_calls.Resolve (Some path)) (λ names. plan_reopened mount name op (plan_after mount left name path op) state (reached mount (kept_at names path))))
    (ends (reply_of told) state)
    (names-calm state (asking_names names_calls.Resolve (Some path)) (λ names. plan_reopened mount name op (plan_after mount left name path op) state (reached mount (kept_at names path))) un
    (λ names. reopened-calm mount name op (plan_after mount left name path op) state (reached mount (kept_at names path)) un (after-calm mount left name path op)))
    (told-calm told, un)

access-calm : (mount : Mount) (state : ClientState) (name word : List ℕ) (op : Op) → Uncarried state → (target : Target) → EndsCalm (plan_access mount state name word op target)
access-calm mount state name word op un target =
    try-calm mount op (plan_after mount (further_tries target.kind) name (unwrap_or (path_of word) []) op) state target un (after-calm mount (further_tries target.kind) name (unwrap_or (path_of word) []) op)

sync-calm : (mount : Mount) (state : ClientState) (keep : Keep) → Uncarried state → (target : Target) → EndsCalm (plan_sync mount state keep target)
sync-calm mount state keep un target = call-calm state (asking_at mount state (node_at mount state target) target.file (sync (node_at mount state target) keep)) un

copy-calm : (state : ClientState) (word other : List ℕ) (taken : Bool) → Uncarried state → (target : Target) → EndsCalm (plan_copy state word other taken target)
copy-calm state word other true un target = (refl, un)
copy-calm state word other false un target = (refl, un)

-- replicon objects
doors-calm : (doors : Option (List OpenDoor)) (go_on : OpenDoor → List OpenDoor → Plan) (otherwise : Plan) → ((door : OpenDoor) (more : List OpenDoor) → EndsCalm (go_on door more)) → EndsCalm otherwise → EndsCalm (plan_doors doors go_on otherwise)
doors-calm (Some (door ∷ more)) go_on otherwise calm other = calm door more
doors-calm (Some []) go_on otherwise calm other = other
doors-calm None go_on otherwise calm other = other

next-calm : (mount : Mount) (name : List ℕ) (op : Op) (more : List OpenDoor) → GoesCalm (plan_next mount name op more)
next-calm mount name op [] state told un = (told-calm told, un)
next-calm mount name op (next ∷ more) state told un =
    if-calm (is_revoked told.answer) (plan_try mount op (plan_next mount name op more) (replicating state (with_doors name (next ∷ more) state.replicas)) (by_door next)) (ends (reply_of told) state)
    (try-calm mount op (plan_next mount name op more) (replicating state (with_doors name (next ∷ more) state.replicas)) (by_door next) un (next-calm mount name op more)) (told-calm told, un)

by_doors-calm : (mount : Mount) (state : ClientState) (name : List ℕ) (op : Op) → Uncarried state → (door : OpenDoor) (more : List OpenDoor) → EndsCalm (plan_by_doors mount state name op door more)
by_doors-calm mount state name op un door more = try-calm mount op (plan_next mount name op more) state (by_door door) un (next-calm mount name op more)

use-calm : (mount : Mount) (state : ClientState) (name : List ℕ) (op : Op) → Uncarried state → EndsCalm (plan_use mount state name op)
use-calm mount state name op un =
    doors-calm (doors_of name state.replicas) (plan_by_doors mount state name op) (plan_named state (object_of name state.objects) (plan_access mount state name (word_of name state.objects) op)) (by_doors-calm mount state name op un)
    (named-calm state (object_of name state.objects) (plan_access mount state name (word_of name state.objects) op) un (access-calm mount state name (word_of name state.objects) op un))

synced-calm : (mount : Mount) (state : ClientState) (name : List ℕ) (keep : Keep) → Uncarried state → EndsCalm (plan_synced mount state name keep)
synced-calm mount state name keep un =
    doors-calm (doors_of name state.replicas) (λ door more. plan_sync mount state keep (by_door door)) (plan_named state (object_of name state.objects) (plan_sync mount state keep)) (λ door more. sync-calm mount state keep un (by_door door))
    (named-calm state (object_of name state.objects) (plan_sync mount state keep) un (sync-calm mount state keep un))

copy_doors-calm : (state : ClientState) (other : List ℕ) (taken : Bool) → Uncarried state → (door : OpenDoor) (more : List OpenDoor) → EndsCalm (plan_copy_doors state other taken door more)
copy_doors-calm state other true un door more = (refl, un)
copy_doors-calm state other false un door more = (refl, un)

opens-calm : (mount : Mount) (name : List ℕ) (before : List OpenDoor) (doors : List Door) (state : ClientState) → Uncarried state → EndsCalm (plan_opens mount name before doors state)
opens-calm mount name before [] state un = (refl, un)
opens-calm mount name before (door ∷ doors) state un =
    let request : Request = opening mount state (by_door (fresh door)) in
    (un, λ told. opens-calm mount name (before ++ open_door door (life_in told.answer) ∷ []) doors (sent request state) (sent-uncarried request state un))

replicate-calm : (state : ClientState) (path : List (List ℕ)) (doors : Option (List Door)) → Uncarried state → EndsCalm (plan_replicate state path doors)
replicate-calm state path (Some doors) un = done-calm state (binding_doors path doors) un
replicate-calm state path None un = tt

found-calm : (mount : Mount) (state : ClientState) (name word : List ℕ) (target : Option Target) → Uncarried state → EndsCalm (plan_found mount state name word target)
found-calm mount state name word None un = (refl, un)
found-calm mount state name word (Some target) un = (un, λ told. (told-calm told, sent-uncarried (opening mount state target) state un))

received-calm : (mount : Mount) (state : ClientState) (name : List ℕ) (kept : Option Kept) (doors : Option (List Door)) → Uncarried state → EndsCalm (plan_received mount state name kept doors)
received-calm mount state name kept (Some doors) un = opens-calm mount name [] doors state un
received-calm mount state name kept None un = found-calm mount state name (received_word kept) (received mount kept) un

open-calm : (mount : Mount) (state : ClientState) (name : List ℕ) (path : List (List ℕ)) (taken : Bool) → Uncarried state → EndsCalm (plan_open mount state name path taken)
open-calm mount state name path true un = (refl, un)
open-calm mount state name path false un =
    names-calm state (asking_names names_calls.Resolve (Some path)) (λ names. plan_received mount state name (kept_at names path) (received_doors mount (kept_at names path))) un
    (λ names. received-calm mount state name (kept_at names path) (received_doors mount (kept_at names path)) un)

bound-calm : (state : ClientState) (rights : Option CacheRights) (region : CacheRights → Region) → Uncarried state → EndsCalm (plan_bound state rights region)
bound-calm state None region un = (refl, un)
bound-calm state (Some rights) region un = (un, λ told. (told-calm told, un))

map-calm : (state : ClientState) (why : Option SpaceErr) (onward : Plan) → Uncarried state → EndsCalm onward → EndsCalm (unless_unmappable state why onward)
map-calm state None onward un calm = calm
map-calm state (Some spaces.RegionExists) onward un calm = (refl, un)
map-calm state (Some spaces.Unaligned) onward un calm = (refl, un)
map-calm state (Some spaces.TooLong) onward un calm = (refl, un)
map-calm state (Some spaces.Overlap) onward un calm = (refl, un)
map-calm state (Some spaces.Memory) onward un calm = (refl, un)

mapped-calm : (mount : Mount) (state : ClientState) (region : List ℕ) (address pages : ℕ) (write : Bool) → Uncarried state → (target : Target) → EndsCalm (plan_map mount state region address pages write target)
mapped-calm mount state region address pages write un target =
    map-calm state (refusal state.regions region target.file address pages) (plan_bound state (rights_at mount state target) (region_of region address pages write)) un
    (bound-calm state (rights_at mount state target) (region_of region address pages write) un)

place-calm : (state : ClientState) (place : Result Place TranslateErr) (request : Place → Request) → Uncarried state → EndsCalm (plan_place state place request)
place-calm state (Ok place) request un = call-calm state (request place) un
place-calm state (Err (places.Unmapped address)) request un = (refl, un)
place-calm state (Err places.CrossesPage) request un = (refl, un)
place-calm state (Err places.NotWritable) request un = (refl, un)

end-calm : (state : ClientState) (ask : ℕ → Ask) (node file : Option ℕ) → Uncarried state → EndsCalm (plan_end state ask node file)
end-calm state ask (Some node) (Some file) un = call-calm state (asking file (ask node)) un
end-calm state ask (Some node) None un = tt
end-calm state ask None file un = tt

plan-calm : (mount : Mount) (state : ClientState) (call : Call) → Uncarried state → EndsCalm (plan mount state call)
plan-calm mount state (lines.Context path) un = done-calm state (asking_names names_calls.Context (Some path)) un
plan-calm mount state (lines.Bind path sub view file) un = bind-calm state path (kind_named sub) (view_of mount view) (file_named mount file) un
plan-calm mount state (lines.Replicate path file views) un = replicate-calm state path (replica_doors mount (file_named mount file) views) un
plan-calm mount state (lines.Unbind path) un = done-calm state (asking_names names_calls.Unbind (Some path)) un
plan-calm mount state (lines.List path) un = names-calm state (asking_names names_calls.List path) (λ names. ends (replies.Names (listed names path)) state) un (λ names. (refl, un))
plan-calm mount state (lines.Open name path) un = open-calm mount state name path (is_open name state) un
plan-calm mount state (lines.Copy name other) un =
    doors-calm (doors_of name state.replicas) (plan_copy_doors state other (is_open other state)) (plan_named state (object_of name state.objects) (plan_copy state (word_of name state.objects) other (is_open other state))) (copy_doors-calm state other (is_open other state) un)
    (named-calm state (object_of name state.objects) (plan_copy state (word_of name state.objects) other (is_open other state)) un (copy-calm state (word_of name state.objects) other (is_open other state) un))
plan-calm mount state (lines.Drop name) un =
    doors-calm (doors_of name state.replicas) (λ door more. plan_drop_doors state name) (plan_named state (object_of name state.objects) (plan_drop state name)) (λ door more. (refl, un))
    (named-calm state (object_of name state.objects) (plan_drop state name) un (λ target. (refl, un)))
plan-calm mount state (lines.Read name page off len) un = use-calm mount state name (ops.Read page off len) un
plan-calm mount state (lines.Write name page off bytes) un = use-calm mount state name (ops.Write page off bytes) un
plan-calm mount state (lines.Clear name page) un = use-calm mount state name (ops.Clear page) un
plan-calm mount state (lines.Sync name) un = synced-calm mount state name keeps.Write un
plan-calm mount state (lines.Clean name) un = synced-calm mount state name keeps.Read un
plan-calm mount state (lines.Map region name address pages write) un =
    doors-calm (doors_of name state.replicas) (λ door more. plan_map mount state region address pages write (by_door door)) (plan_named state (object_of name state.objects) (plan_map mount state region address pages write))
    (λ door more. mapped-calm mount state region address pages write un (by_door door)) (named-calm state (object_of name state.objects) (plan_map mount state region address pages write) un (mapped-calm mount state region address pages write un))
plan-calm mount state (lines.Unmap region) un =
    if-calm (has_region region state.regions) (ends replies.Done (mapping state (without_region region state.regions))) (ends replies.NoRegion state) (refl, un) (refl, un)
plan-calm mount state (lines.Load address len) un = place-calm state (translation state.regions address len false) (loading len) un
plan-calm mount state (lines.Store address bytes) un = place-calm state (translation state.regions address (length bytes) true) (storing bytes) un
plan-calm mount state (lines.Revoke layer file) un = end-calm state revoke (layer_of mount layer) (file_named mount file) un
plan-calm mount state (lines.Release layer file) un = end-calm state release (layer_of mount layer) (file_named mount file) un

-- WHAT WAS SAID
abbrev SaidCalm : List Said → Type 0
SaidCalm said = AllByRecursion (λ s. is_fault s.reply ≡ false) said

neither : (a b : Bool) → a ≡ false → b ≡ false → (a || b) ≡ false
neither a b p q = rw (p, q) refl

no-fault : (said : List Said) → SaidCalm said → has_fault said ≡ false
no-fault [] calm = refl
no-fault (s ∷ said) calm = neither (is_fault s.reply) (has_fault said) calm.0 (no-fault said calm.1)

said-more : (one rest : List Said) → SaidCalm one → SaidCalm rest → SaidCalm (one ++ rest)
said-more [] rest first last = last
said-more (s ∷ one) rest first last = (first.0, said-more one rest first.1 last)

line-calm : (mount : Mount) (Full : ℕ → Type 0) → ((file : ℕ) → Full file → ⊥) → (caller : ℕ) (state : ClientState) (call : Call) (made : List Made) (said : Reply) (after_it : ClientState) → Uncarried state → QuietMade made
    → Line Full caller state (plan mount state call) made said after_it → LeftCalm said after_it
line-calm mount Full none caller state call made said after_it un quiet line =
    ⊎_elim (λ goes. goes-calm Full none caller (plan mount state call) made said after_it (plan-calm mount state call un) quiet goes) (λ lacks. (ap is_fault lacks.memory, subst Uncarried (sym lacks.same) un)) line

does-calm : (mount : Mount) (Full : ℕ → Type 0) → ((file : ℕ) → Full file → ⊥) → (caller : ℕ) (state : ClientState) (lines : List CallLine) (made : List Made) (said : List Said) (after_it : ClientState) → Uncarried state → QuietMade made
    → Does mount Full caller state lines made said after_it → SaidCalm said × Uncarried after_it
does-calm mount Full none caller state [] made said after_it un quiet does = (subst SaidCalm (sym does.1) tt, subst Uncarried (sym does.2) un)
does-calm mount Full none caller state (line ∷ lines) made [] after_it un quiet does = absurd does
does-calm mount Full none caller state (line ∷ lines) made (s ∷ said) after_it un quiet does =
    let both = subst QuietMade does.3 quiet in
    let one = line-calm mount Full none caller state line.call does.0 s.reply does.2 un (quiet-first does.0 does.1 both) does.5 in
    let more = does-calm mount Full none caller does.2 lines does.1 said after_it one.1 (quiet-rest does.0 does.1 both) does.6 in
    ((one.0, more.0), more.1)

phased-calm : (mount : Mount) (caller : ℕ) (kept : ClientState) (lines : List CallLine) (old new : Histories) (said : List Said) (after_it : ClientState) → Uncarried kept → Calm new → Phased mount caller kept lines old new said after_it → SaidCalm said × Uncarried after_it
phased-calm mount caller kept lines old new said after_it un calm phased =
    ⊎_elim
    (λ worked. does-calm mount (IsFull new) calm.room caller kept lines worked.made said after_it un (did-quiet caller old new worked.made worked.did calm) worked.does)
    (λ idled. (subst SaidCalm (sym idled.silent) tt, subst Uncarried (sym idled.same) un)) phased

calm-at : (start : Histories) (cuts : List Histories) → InOrder start cuts → Calm (last_cut start cuts) → Calm start
calm-at start [] order calm = calm
calm-at start (cut ∷ cuts) order calm = calm-before start cut order.0 (calm-at cut cuts order.1 calm)

acts-calm : (mount : Mount) (caller : ℕ) (kept : ClientState) (phases : List (List CallLine)) (start : Histories) (cuts : List Histories) (said : List Said) (after_it : ClientState) → Uncarried kept → InOrder start cuts → Calm (last_cut start cuts)
    → Acts mount caller kept phases start cuts said after_it → SaidCalm said
acts-calm mount caller kept [] start [] said after_it un order calm acts = subst SaidCalm (sym acts.0) tt
acts-calm mount caller kept [] start (cut ∷ cuts) said after_it un order calm acts = absurd acts
acts-calm mount caller kept (phase ∷ phases) start [] said after_it un order calm acts = absurd acts
acts-calm mount caller kept (phase ∷ phases) start (cut ∷ cuts) said after_it un order calm acts =
    let one = phased-calm mount caller kept (lines_of caller phase) start cut acts.0 acts.2 un (calm-at cut cuts order.1 calm) acts.4 in
    subst SaidCalm (sym acts.3) (said-more acts.0 acts.1 one.0 (acts-calm mount caller acts.2 phases cut cuts acts.1 after_it one.1 order.1 calm acts.5))

clients-calm : (mount : Mount) (phases : List (List CallLine)) (start : Histories) (cuts : List Histories) (final : Histories) (client : ℕ) (lines : List ClientLine) (said : List (List Said)) → InOrder start cuts → Calm final
    → ClientsFit mount None phases start cuts final client lines said → list_any has_fault said ≡ false
clients-calm mount phases start cuts final client [] [] order calm fit = refl
clients-calm mount phases start cuts final client [] (s ∷ said) order calm fit = absurd fit
clients-calm mount phases start cuts final client (line ∷ lines) [] order calm fit = absurd fit
clients-calm mount phases start cuts final client (line ∷ lines) (s ∷ said) order calm fit =
    neither (has_fault s) (list_any has_fault said)
    (no-fault s (acts-calm mount client (start_state mount None line) phases start cuts s fit.0.left refl order (calm-before (last_cut start cuts) final fit.0.after.later calm) fit.0.acts))
    (clients-calm mount phases start cuts final (suc client) lines said order calm fit.1)

-- THE CLOSING SYNCS
abbrev IsClosing : Reply → Type 0
IsClosing reply = (reply ≡ replies.Done) ⊎ (reply ≡ replies.Memory)

lacked-memory : (Full : Type 0) (said : Reply) → (Full → ⊥) → Refuses Full said → said ≡ replies.Memory
lacked-memory Full replies.TrailFull none refuses = absurd (none refuses)
lacked-memory Full replies.Memory none refuses = refl
lacked-memory Full _ none refuses = absurd refuses

sync-told : (caller node : ℕ) (keep : Keep) (event : Event) (told : Option Told) (t : Told) → Asks caller (sync node keep) event → SyncDone event told → told ≡ Some t → t.answer ≡ answers.Done
sync-told caller node keep (events.Synced by number at from kept) told t asks done is = done t is
sync-told caller node keep _ told t asks done is = absurd asks

told-done : (t : Told) → t.answer ≡ answers.Done → reply_of t ≡ replies.Done
told-done t is = ap (λ (answer : Answer). reply_of (record { answer = answer; bytes = t.bytes })) is

sync-ends : (Full : ℕ → Type 0) (caller : ℕ) (t : Told) (made : List Made) (reply : Reply) (after_it : ClientState) → t.answer ≡ answers.Done → Goes Full caller (ends (reply_of t) no_client) made reply after_it → reply ≡ replies.Done
sync-ends Full caller t [] reply after_it is goes = goes.0 ∙ told-done t is
sync-ends Full caller t (m ∷ made) reply after_it is goes = absurd goes

sync-closes : (Full : ℕ → Type 0) → ((file : ℕ) → Full file → ⊥) → (caller file : ℕ) (made : List Made) (reply : Reply) (after_it : ClientState) → QuietMade made → Goes Full caller (plan_closing file) made reply after_it → IsClosing reply
sync-closes Full none caller file [] reply after_it quiet goes = inr (lacked-memory (Full file) reply (none file) goes.0)
sync-closes Full none caller file (at_file at (entered e) ∷ made) reply after_it quiet goes =
    let told = goes.1.1 in
    inl (sync-ends Full caller told.0 made reply after_it (sync-told caller 1 keeps.Write e.event e.told told.0 goes.1.0 quiet.0 told.1) told.2)
sync-closes Full none caller file (at_file at (noted by disk count) ∷ made) reply after_it quiet goes = absurd quiet.0
sync-closes Full none caller file (with_names item ∷ made) reply after_it quiet goes = absurd goes

closings-done : (Full : ℕ → Type 0) → ((file : ℕ) → Full file → ⊥) → (caller file : ℕ) (entries : List FileEntry) (made : List Made) (closing : List Reply) → QuietMade made → Closes Full caller file entries made closing → AllByRecursion IsClosing closing
closings-done Full none caller file [] made closing quiet closes = subst (AllByRecursion IsClosing) (sym closes.1) tt
closings-done Full none caller file (entry ∷ entries) made [] quiet closes = absurd closes
closings-done Full none caller file (entry ∷ entries) made (reply ∷ closing) quiet closes =
    let both = subst QuietMade closes.3 quiet in
    (sync-closes Full none caller file closes.0 reply closes.2 (quiet-first closes.0 closes.1 both) closes.4, closings-done Full none caller (suc file) entries closes.1 closing (quiet-rest closes.0 closes.1 both) closes.5)

or-first : (a b : Bool) → (a || b) ≡ false → a ≡ false
or-first true b e = absurd cc
or-first false b e = refl

or-rest : (a b : Bool) → (a || b) ≡ false → b ≡ false
or-rest true b e = absurd cc
or-rest false b e = e

no-memory : (r : Reply) → r ≡ replies.Memory → is_memory r ≡ false → ⊥
no-memory r is not = cc

all-done : (closing : List Reply) → AllByRecursion IsClosing closing → list_any is_memory closing ≡ false → list_all is_done closing ≡ true
all-done [] all none = refl
all-done (r ∷ rs) all none =
    let rest = all-done rs all.1 (or-rest (is_memory r) (list_any is_memory rs) none) in
    let here : is_done r ≡ true = ⊎_elim (λ is. ap is_done is) (λ lacked. absurd (no-memory r lacked (or-first (is_memory r) (list_any is_memory rs) none))) all.0 in
    rw (here, rest) refl

-- THE STATUS
ends-by : (lacks memory lost fault done : Bool) → lost ≡ false → fault ≡ false → (memory ≡ false → done ≡ true)
    → (status_by lacks memory lost fault done ≡ statuses.Good) ⊎ (status_by lacks memory lost fault done ≡ statuses.Memory)
ends-by true memory lost fault done p q r = inr refl
ends-by false true lost fault done p q r = inr refl
ends-by false false lost fault done p q r = let s = r refl in inl (rw (p, q, s) refl)

none-lost : (lost : List StoreKey) (before after : ℕ) → RoseBy (length lost) before after → after ≡ before → before < 2 ^ 64 - 1 → any_lost lost ≡ false
none-lost [] before after rose same below = refl
none-lost (key ∷ lost) before after rose same below = absurd (omega (arith, rose, same, below))

-- A LOG IN WHICH NO STORE FAILED
no-notes : (disks : ℕ) (log : List Logged) → AllByRecursion (IsOfDisks disks) log → ((disk : ℕ) → disk < disks → counts_of disk log ≡ []) → AllByRecursion NoNote log
no-notes disks [] of none = tt
no-notes disks (Entered entry ∷ log) of none = (tt, no-notes disks log of.1 none)
no-notes disks (Noted note ∷ log) of none = absurd (noted-counts note.disk note.count (counts_of note.disk log) (note.disk == note.disk) (eq-eqb note.disk note.disk refl) (none note.disk of.0))
  where
    noted-counts : (disk count : ℕ) (counts : List ℕ) (b : Bool) → b ≡ true → cond b (count ∷ counts) counts ≡ [] → ⊥
    noted-counts disk count counts true is empty = cc
    noted-counts disk count counts false is empty = cc

answer-done : (o : Option Answer) (bytes : List ℕ) (t : Told) → o ≡ Some answers.Done → option_map {T = Answer} (λ answer. record { answer = answer; bytes = bytes_with answer bytes }) o ≡ Some t → t.answer ≡ answers.Done
answer-done None bytes t is told = absurd cc
answer-done (Some answer) bytes t is told = ap (λ (u : Told). u.answer) (sym (some-is (record { answer = answer; bytes = bytes_with answer bytes }) t told)) ∙ some-is answer answers.Done is

-- a sync is answered `done` by the plain file
entry-done : (shape : TreeShape) (size : ℕ) (opening : List ℕ) (trail : List Event) (event : Event) (answer : Option Answer) (bytes : List ℕ)
    → answer ≡ option_map {T = Told} (λ told. told.answer) (plainly.reply (plain_shape shape size) (file_after shape size opening trail) event)
    → SyncDone event (option_map {T = Answer} (λ found. record { answer = found; bytes = bytes_with found bytes }) answer)
entry-done shape size opening trail (events.Synced caller number node from keep) answer bytes is = λ t told. answer-done answer bytes t is told
entry-done shape size opening trail _ answer bytes is = tt

quiet-log : (log : List Logged) (place : ℕ) → AllByRecursion NoNote log → ((at : ℕ) (entry : Entry) → slice_get (entries_of log) at ≡ Some entry → SyncDone entry.event (told_by entry)) → AreQuiet (items_from place log)
quiet-log [] place none done = tt
quiet-log (Entered entry ∷ log) place none done = (done 0 entry refl, quiet-log log (suc place) none.1 (λ at other is. done (suc at) other is))
quiet-log (Noted note ∷ log) place none done = absurd none.0

-- the only store of a list
pub first-is : (xs : List StoreSeen) (x : StoreSeen) → xs ≡ x ∷ [] → slice_get xs 0 ≡ Some x
first-is xs x is = ap (λ (ss : List StoreSeen). slice_get ss 0) is

-- no count of a note of a file whose stores had no fault
file-counts : (mount : Mount) (closing : Option Reply) (log : List Logged) (f g : FileSeen) → {notices : List (Option Notice)} → LeavesFile mount closing log f g notices
    → ((disk : ℕ) (old new : StoreSeen) → Store f g disk old new → new.state.faults ≡ old.state.faults) → (disk : ℕ) → disk < length f.stores → counts_of disk log ≡ []
file-counts mount closing log f g leaves sound disk inside =
    let many = leaves.disks.many in
    let old = there f.stores disk inside in
    let new = there g.stores disk (omega (arith, inside, many)) in
    still-counts old.0.state.faults new.0.state.faults (counts_of disk log) (leaves.faults.rises disk old.0 new.0 (old.1, new.1)) (sound disk old.0 new.0 (old.1, new.1))

-- THE SCRIPT WAS RUN
module _ (mount : Mount) (script : Script) (before after : BaySeen) (h : Histories) (said : List (List Said)) (closing : List Reply) (lost : List StoreKey) (notices : List ℕ) (played : Played mount None script before after h said closing lost notices)
    (sound : AreStoresSound played.olds played.news) (room : AreNotFull h) where
  quiet-file : (file : ℕ) → file < length mount.files → AreQuiet (items (log_at h file))
  quiet-file file inside =
      let number : length played.olds ≡ length mount.files = played.of.number in
      let many : length played.news ≡ length played.olds = played.same.many in
      let f = there played.olds file (omega (arith, inside, number)) in
      let g = there played.news file (omega (arith, inside, number, many)) in
      let is : IsFile mount f.0 = (played.of.each file f.0 f.1).1 in
      let of : IsOfFile mount file (log_at h file) = played.files.each file inside in
      let disks : length f.0.stores ≡ length mount.disks = file-number mount f.0 is in
      let counts = file-counts mount (slice_get closing file) (log_at h file) f.0 g.0 (played.leaves file f.0 g.0 f.1 g.1) (λ disk old new at. sound file disk f.0 g.0 old new f.1 g.1 at) in
      quiet-log (log_at h file) 0 (no-notes (length mount.disks) (log_at h file) of.notes (λ disk low. counts disk (omega (arith, low, disks))))
      (λ at entry found. entry-done mount.tree mount.page_size [] (take at (trail_of (log_at h file))) entry.event entry.answer entry.bytes (of.answers (record { bytes = [] }) at entry found))

  calm-run : Calm h
  calm-run = record {
    quiet = λ file. by file (slice_get h.logs file) refl;
    room = λ file full. let low = room file in omega (arith, low, full);
  }
    where
      by : (file : ℕ) (log : Option (List Logged)) → slice_get h.logs file ≡ log → AreQuiet (items (log_at h file))
      by file None is = subst (λ (l : List Logged). AreQuiet (items l)) (sym (ap (λ (o : Option (List Logged)). unwrap_or o []) is)) tt
      by file (Some log) is = let number = played.files.number in let inside = slice_get_within h.logs file log is in quiet-file file (omega (arith, number, inside))

  played-well : IsBaySound before after → (status : Status) → status ≡ status_of said closing lost → (status ≡ statuses.Good) ⊎ (status ≡ statuses.Memory)
  played-well bay status is =
      let fits = played.fits in
      let end : Histories = last_cut (before_all mount h) fits.cuts in
      let fault = clients-calm mount script.phases (before_all mount h) fits.cuts h 0 script.clients said fits.in_order calm-run fits.clients in
      let closer = fits.closings in
      let made = did-quiet (length script.clients) end h closer.made closer.did calm-run in
      let done = all-done closing (closings-done (IsFull h) calm-run.room (length script.clients) 0 mount.files closer.made closing made closer.closes) in
      let none = none-lost lost before.faults after.faults played.stores.paid bay.same bay.below_end in
      subst (λ (s : Status). (s ≡ statuses.Good) ⊎ (s ≡ statuses.Memory)) (sym is)
      (ends-by (list_any lacks_memory said) (list_any is_memory closing) (any_lost lost) (list_any has_fault said) (list_all is_done closing) none fault done)

-- THE SCRIPT WAS NOT RUN
no-image : (shape : ImageShape) (blocks : List (List ℕ)) (imaged : Imaged) (bad : BadImage) → image shape blocks ≡ Some imaged → image_in shape (front_of shape blocks) ≡ Err bad → ⊥
no-image shape blocks imaged bad is err = by (image_in shape (front_of shape blocks)) err is
  where
    by : (r : Result Image BadImage) → r ≡ Err bad → images.imaged shape blocks r ≡ Some imaged → ⊥
    by (Ok i) err is = cc
    by (Err b) err is = cc

nth-get : {A : Type 0} {n : ℕ} {xs : List A} {x : A} → Nth n xs x → slice_get xs n ≡ Some x
nth-get nth_here = refl
nth-get (nth_later rest) = nth-get rest

-- the content of a store that told an image is no bad one
told-image : (shape : ImageShape) (stores : List StoreSeen) (disk : ℕ) (store : StoreSeen) (bad : BadImage) → HoldImages shape stores → slice_get stores disk ≡ Some store
    → IfSome store.state.content (λ c. image_in shape (front_of shape c.blocks) ≡ Err bad) → ⊥
told-image shape stores disk store bad hold at told =
    let found = hold disk (slice_get_within stores disk store at) in
    let has = found.1 in
    let same : has.store ≡ store = some-is has.store store (sym has.there ∙ at) in
    let content : store.state.content ≡ Some has.content = subst (λ (s : StoreSeen). s.state.content ≡ Some has.content) same has.tells in
    no-image shape has.content.blocks found.0 bad has.is (subst (λ (o : Option Content). IfSome o (λ c. image_in shape (front_of shape c.blocks) ≡ Err bad)) content told)

-- the store that a refusal names failed
pub blamed-rose : {shape : ImageShape} {olds news : List StoreSeen} {ns : List ℕ} {bs : List Beside} {ss ts : List machine.Store} {xs : List Seat} {d k : ℕ} → Pairs (Brought content_of faults_of shape olds) ns ss → Pairs (Lies content_of faults_of shape olds) ns bs
    → Pairs (Stored content_of faults_of news) bs ts → Pairs Left xs ts → Blamed d k ss xs
    → (disk : ℕ) × (old : StoreSeen) × (new : StoreSeen) × (slice_get olds disk ≡ Some old) × (slice_get news disk ≡ Some new) × (old.state.faults < new.state.faults)
blamed-rose pairs_none _ _ _ blamed = elim blamed [ ]
blamed-rose {news = news} (pairs_more (brought {t = old} at finds) ps) (pairs_more (lies at' is) qs) (pairs_more (stored {t = new} to now told grew) rs) (pairs_more (mirrors.left shows counted kept) us) (blamed_here disk low high) =
    let before = finds.count in
    let after = now.count in
    let same = ap (λ (b : Beside). b.disk) is in
    (_, old, new, nth-get at, subst (λ n. slice_get news n ≡ Some new) same (nth-get to), omega (arith, before, after, low, high, counted))
blamed-rose (pairs_more p ps) (pairs_more q qs) (pairs_more r rs) (pairs_more u us) (blamed_later later) = blamed-rose ps qs rs us later

-- a file of which no store failed was not opened for lack of memory alone
module _ (mount : Mount) (f g : FileSeen) (is : IsFile mount f) (sound : (disk : ℕ) (old new : StoreSeen) → Store f g disk old new → new.state.faults ≡ old.state.faults) (hold : HoldImages (shape_of_file mount f.file) f.stores) where
  one-well : (old new : StoreSeen) (stop : Stop) → f.stores ≡ old ∷ [] → g.stores ≡ new ∷ [] → IsUnopenedOne mount old new stop → stop ≡ stops.Memory
  one-well old new (stops.Store key count) was after_it why =
      let same = sound 0 old new (first-is f.stores old was, first-is g.stores new after_it) in
      let above = why.1.above in
      let within = why.1.within in
      absurd (omega (arith, same, above, within))
  one-well old new (stops.Image key place why) was after_it damage =
      let own : old.key.file ≡ f.file = ap (λ (k : StoreKey). k.file) (file-key mount f is old was) in
      absurd (told-image (shape_of_file mount f.file) f.stores 0 old (record { place = place; why = why }) hold (first-is f.stores old was)
      (subst (λ n. IfSome old.state.content (λ c. image_in (shape_of_file mount n) (front_of (shape_of_file mount n) c.blocks) ≡ Err (record { place = place; why = why }))) own damage.1.told))
  one-well old new stops.Memory was after_it why = refl
  one-well old new (stops.Bay key) was after_it why = absurd why

  many-well : (why : Refusal) → RefusedOver content_of faults_of (shape_of_file mount f.file) f.stores mount.ground why g.stores → refused_by f.file why ≡ stops.Memory
  many-well (refusals'.BadImage disk bad) (refused {reason = reason} seen opens says (bad_store {t = store} at bad_why) blames lasting back) = absurd (told-image (shape_of_file mount f.file) f.stores disk store bad hold (nth-get at) bad_why.1)
  many-well (refusals'.StoreFault fault) (refused {o = Lost d k} seen opens says reasoned blames lasting back) =
      let rose = blamed-rose seen.brought seen.lies back.stored back.left blames in
      let same = sound rose.0 rose.1 rose.2 (rose.3, rose.4) in
      let up = rose.5 in
      absurd (omega (arith, same, up))
  many-well (refusals'.StoreFault fault) (refused {o = Good owed level} seen opens says reasoned blames lasting back) = absurd says
  many-well (refusals'.StoreFault fault) (refused {o = Damaged d} seen opens says reasoned blames lasting back) = absurd says
  many-well refusals'.Memory over = refl

  pub unopened-well : (stop : Stop) → IsUnopened mount f g stop → stop ≡ stops.Memory
  unopened-well stop (unopened_one {old} {new} was after_it key content why) = one-well old new stop was after_it why
  unopened-well stop (unopened_many {why} some over by) = by ∙ many-well why over

  unheld-well : (stop : Stop) → IsUnheld mount f g stop → stop ≡ stops.Memory
  unheld-well stop held = ⊎_elim (λ un. unopened-well stop un) (λ closed. closed.1) held

halted-well : (mount : Mount) (before after : BaySeen) (lost : List StoreKey) (stop : Stop) (halt : NotRun mount before after lost stop) → AreStoresSound halt.olds halt.news → HadImages mount halt.olds → stop ≡ stops.Memory
halted-well mount before after lost stop halt sound had = ⊎_elim (λ low. refused-at low) (λ all. all.1) halt.all
  where
    refused-at : halt.number < length mount.files → stop ≡ stops.Memory
    refused-at low =
        let number : length halt.olds ≡ length mount.files = halt.of.number in
        let many : length halt.news ≡ length halt.olds = halt.same.many in
        let f = there halt.olds halt.number (omega (arith, low, number)) in
        let g = there halt.news halt.number (omega (arith, low, number, many)) in
        unheld-well mount f.0 g.0 (halt.of.each halt.number f.0 f.1).1 (λ disk old new at. sound halt.number disk f.0 g.0 old new f.1 g.1 at) (had halt.number f.0 f.1) stop (halt.refused f.0 g.0 f.1 g.1)

pub untaken-well : (mount : Mount) (before after : BaySeen) (keys lost : List StoreKey) (stop : Stop) → IsBaySound before after → Untaken mount before after keys lost stop → stop ≡ stops.Memory
untaken-well mount before after keys lost (stops.Bay key) bay why = let rose = why.fault in let same = bay.same in let below = bay.below_end in absurd (omega (arith, rose, same, below))
untaken-well mount before after keys lost stops.Memory bay why = refl
untaken-well mount before after keys lost _ bay why = absurd why

pub stop-well : (status : Status) (stop : Stop) → status ≡ stop_status stop → stop ≡ stops.Memory → (status ≡ statuses.Good) ⊎ (status ≡ statuses.Memory)
stop-well status stop is memory = inr (is ∙ ap stop_status memory)

pub sound-ends-well : SoundRunEndsWell
sound-ends-well mount script traced before after notices text status (stopped stop lost (untaken why) quiet says how) bay sound = stop-well status stop how (untaken-well mount before after (stores_of mount) lost stop bay why)
sound-ends-well mount script traced before after notices text status (stopped stop lost (unopened halt) quiet says how) bay sound = stop-well status stop how (halted-well mount before after lost stop halt sound.0 sound.1)
sound-ends-well mount script traced before after notices text status (reported h said closing lost played says how) bay sound = played-well mount script before after h said closing lost notices played sound.0 sound.1 bay status how
sound-ends-well mount script traced before after notices text status (ran_out h said closing lost played says how) bay sound = inr how

-- a page that was not read rose the count of a store
unplayed-well : (mount : Mount) (caller : ℕ) (before after : BaySeen) (lost : List StoreKey) (stop : Stop) (notices : List ℕ) (halt : NotPlayed mount caller before after lost stop notices) → AreStoresSound halt.olds halt.news → stop ≡ stops.Memory
unplayed-well mount caller before after lost stop notices halt sound = by halt.why
  where
    own-count : (disk count : ℕ) → counts_of disk (Noted (record { caller = caller; disk = disk; count = count }) ∷ []) ≡ count ∷ []
    own-count disk count = rw (same disk) refl
      where
        same : (n : ℕ) → (n == n) ≡ true
        same n = grind (arith, nat_tests)

    inside : (ls : List (List Logged)) (file : ℕ) (x : Logged) → unwrap_or (slice_get ls file) [] ≡ x ∷ [] → file < length ls
    inside [] file x e = cc
    inside (l ∷ ls) zero x e = omega arith
    inside (l ∷ ls) (suc file) x e = let rest = inside ls file x e in omega (arith, rest)

    by : IsUnplayed caller halt.logs stop → stop ≡ stops.Memory
    by (sums.memory e) = e
    by (sums.unread file disk count e log) =
        let note : Logged = Noted (record { caller = caller; disk = disk; count = count }) in
        let low = inside halt.logs file note log in
        let logs = halt.number in
        let number = halt.of.number in
        let many = halt.same.many in
        let f = there halt.olds file (omega (arith, low, logs, number)) in
        let g = there halt.news file (omega (arith, low, logs, number, many)) in
        let is = (halt.of.each file f.0 f.1).1 in
        let left = halt.leaves file f.0 g.0 f.1 g.1 in
        let notes = subst (λ (l : List Logged). AllByRecursion (IsOfDisks (length mount.disks)) l) log (halt.files file (omega (arith, low, logs))).notes in
        let few = notes.0 in
        let stores = file-number mount f.0 is in
        let same_many = left.disks.many in
        let old = there f.0.stores disk (omega (arith, few, stores)) in
        let new = there g.0.stores disk (omega (arith, few, stores, same_many)) in
        let rises = subst (λ (l : List Logged). Rises old.0.state.faults new.0.state.faults (counts_of disk l)) log (left.faults.rises disk old.0 new.0 (old.1, new.1)) in
        let risen = subst (λ (ns : List ℕ). Rises old.0.state.faults new.0.state.faults ns) (own-count disk count) rises in
        let above = risen.0 in
        let within = risen.1 in
        let same = sound file disk f.0 g.0 old.0 new.0 f.1 g.1 (old.1, new.1) in
        absurd (omega (arith, above, within, same))

pub sound-sum-ends-well : SoundSumEndsWell
sound-sum-ends-well mount script before after notices text status (sums.stopped stop lost (untaken why) quiet says how) bay sound = stop-well status stop how (untaken-well mount before after (stores_of mount) lost stop bay why)
sound-sum-ends-well mount script before after notices text status (sums.stopped stop lost (unopened halt) quiet says how) bay sound = stop-well status stop how (halted-well mount before after lost stop halt sound.0 sound.1)
sound-sum-ends-well mount script before after notices text status (sums.unplayed stop lost halt says how) bay sound = stop-well status stop how (unplayed-well mount (length script.clients) before after lost stop notices halt sound)
sound-sum-ends-well mount script before after notices text status (sums.summed h said closing lost lasts sum says how) bay sound = played-well mount script before after h said closing lost notices sum.played sound.0 sound.1 bay status how
sound-sum-ends-well mount script before after notices text status (sums.ran_out h said closing lost played says how) bay sound = inr how
