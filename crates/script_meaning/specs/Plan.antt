-- What a line of a script does: the calls that it makes, one after another, and its answer.
use Rattle.std.specs.Prelude.{◌≡◌, ℕ, zero, suc, List, [], ◌∷◌, ◌++◌, length, unwrap_or, is_some, Bool, true, false, not, ◌||◌, ◌==◌, ◌⊎◌, if◌then◌else◌, slice_get, slice_index_or, Option, Some, None, Result, Ok, Err}
use Rattle.std.specs.Option.{option_map, option_and_then}
use Rattle.hist_plain.specs.declared.event.Op.{Op}
use Rattle.hist_plain.specs.declared.event.Op.TheVariants as ops
use Rattle.hist_plain.specs.declared.event.Keep.{Keep}
use Rattle.hist_plain.specs.declared.event.Keep.TheVariants as keeps
use Rattle.hist_plain.specs.declared.event.Answer.{Answer}
use Rattle.hist_plain.specs.declared.event.Answer.TheVariants as answers
use Rattle.hist_plain.specs.declared.event.Event.{Event}
use Rattle.hist_plain.specs.declared.event.Event.TheVariants as events
use Rattle.hist_plain.specs.Event.{fits_page}
use Rattle.hist_plain.specs.Plain.{Told}
use Rattle.script_text.specs.declared.script.Call.{Call}
use Rattle.script_text.specs.declared.script.ClientLine.{ClientLine}
use Rattle.script_text.specs.declared.script.Call.TheVariants.{Context, Bind, Replicate, Unbind, List as ListNames, Open, Copy, Drop, Read, Write, Clear, Sync, Clean, Map, Unmap, Load, Store, Revoke, Release}
use Rattle.script_text.specs.declared.script.Sub.{Sub}
use Rattle.script_text.specs.declared.script.Sub.TheVariants.{Singleton, Cluster, Caching, Reconnectable}
use Rattle.script_text.specs.declared.script.Reply.{Reply}
use Rattle.script_text.specs.declared.script.Reply.TheVariants as replies
use Rattle.stack_accept.specs.Mount.{Mount, number_in}
use Rattle.name_context.specs.declared.entry.NameCall.{NameCall}
use Rattle.name_context.specs.declared.entry.NameCall.TheVariants as names_calls
use Rattle.name_context.specs.declared.entry.NameErr.{NameErr}
use Rattle.name_context.specs.declared.entry.NameErr.TheVariants as refusals
use Rattle.name_context.specs.declared.entry.NameEntry.{NameEntry}
use Rattle.name_context.specs.Names.{Kept, Name, kept_at, kept_object}
use Rattle.name_context.specs.Listed.{listed, parts_of}
use Rattle.client_objects.specs.declared.state.ClientState.{ClientState}
use Rattle.client_objects.specs.declared.target.Target.{Target}
use Rattle.client_objects.specs.Objects.{OpenObject, object_of, with_object, with_target, without, word_of}
use Rattle.text_words.specs.Words.{path_of, path_word}
use Rattle.client_objects.specs.declared.kind.ObjectKind.{ObjectKind}
use Rattle.client_objects.specs.declared.kind.ObjectKind.TheVariants as kinds
use Rattle.client_objects.specs.Stored.{bound_object, received, received_word}
use Rattle.client_objects.specs.Found.{door_to, node_of}
use Rattle.client_objects.specs.Reconnected.{reconnected}
use Rattle.marshal_buf.specs.declared.door.Door.{Door}
use Rattle.client_replicas.specs.declared.door.OpenDoor.{OpenDoor}
use Rattle.client_replicas.specs.declared.replicas.OpenReplicon.{OpenReplicon}
use Rattle.client_replicas.specs.Objects.{doors_of, with_doors, with_replicon, without_replicon}
use Rattle.client_replicas.specs.OpenDoors.{first_life, fresh as unopened, open_door}
use Rattle.client_replicas.specs.Received.{received_doors, stored_replicon}
use Rattle.memory_object.specs.declared.binding.CacheRights.{CacheRights}
use Rattle.memory_object.specs.Managers.{rights_of}
use Rattle.vmm_space.specs.declared.regions.Region.{Region}
use Rattle.vmm_space.specs.declared.regions.Place.{Place}
use Rattle.vmm_space.specs.declared.why.SpaceErr.{SpaceErr}
use Rattle.vmm_space.specs.declared.why.SpaceErr.TheVariants as spaces
use Rattle.vmm_space.specs.declared.why.TranslateErr.{TranslateErr}
use Rattle.vmm_space.specs.declared.why.TranslateErr.TheVariants as places
use Rattle.vmm_space.specs.Spaces.{SpaceShape, blank_of, with_region, without_region, has_region, refusal, translation}
use Rattle.link_lossy.specs.Carriers.{CarrierSeen, Starves, after_call, is_lost_by, losses}
use Rattle.script_meaning.specs.Stack.{is_far, pages_of, view_of, layer_of, file_named}
use Rattle.script_meaning.specs.Log.{Item, NameItem, entered, noted}

-- what a line may ask of a file
pub data Ask : Type 0 where
  access : (node life : ℕ) → (op : Op) → Ask
  sync : (node : ℕ) → (keep : Keep) → Ask
  revoke : (node : ℕ) → Ask
  release : (node : ℕ) → Ask

pub record Request : Type 0 where
  pub file : ℕ
  pub ask : Ask
  -- whether it goes to another machine than the client's
  pub far : Bool

-- what is asked on the client's machine, or of a stack as a whole
abbrev pub asking : ℕ → Ask → Request
asking file ask = record { file = file; ask = ask; far = false }

-- what an open object's call asks of a node, which may be on another machine
abbrev pub asking_at : Mount → ClientState → ℕ → ℕ → Ask → Request
asking_at mount state node file ask = record { file = file; ask = ask; far = is_far mount state.machine node }

-- what a line may ask of the names, and what it binds
pub record NamesAsk : Type 0 where
  pub call : NameCall
  pub path : Option (List (List ℕ))
  pub bound : Option Kept

-- what a call on the names tells: why it is refused, if it is, and the names that it found
pub record NamesTold : Type 0 where
  pub refused : Option NameErr
  pub names : List Name

-- What a line does from here on. It ends with an answer and leaves this state; or it makes a call at a file or on the names, leaves
-- this state where the call is not made, and goes on by what it is told; or it is a call that the program does not have.
pub data Plan : Type 0 where
  ends : Reply → ClientState → Plan
  calls : Request → ClientState → (Told → Plan) → Plan
  asks_names : NamesAsk → ClientState → (NamesTold → Plan) → Plan
  unknown : Plan

-- a carrier that has sent nothing, and loses the packets whose number this one divides
abbrev pub fresh : ℕ → CarrierSeen
fresh every = record { every = every; packets = 0; waits = false }

-- a client at the start: it is on its machine, with no object open and nothing mapped; and it has a carrier, if its calls may be lost
abbrev pub start_state : Mount → Option ℕ → ClientLine → ClientState
start_state mount loss line = record {
  machine = number_in mount.machines line.machine;
  objects = [];
  replicas = [];
  regions = blank_of mount;
  carrier = option_map {T = ℕ} fresh loss;
}

-- the state with these objects open
abbrev pub holding : ClientState → List OpenObject → ClientState
holding state objects = record state { objects = objects }

-- the state with these replicon objects open
abbrev pub replicating : ClientState → List OpenReplicon → ClientState
replicating state replicas = record state { replicas = replicas }

-- whether the client has an open object of the name
abbrev pub is_open : List ℕ → ClientState → Bool
is_open name state = is_some (doors_of name state.replicas) || is_some (object_of name state.objects)

-- the state with this address space
abbrev pub mapping : ClientState → SpaceShape → ClientState
mapping state space = record state { regions = space }

-- the state with this carrier
abbrev pub carrying : ClientState → Option CarrierSeen → ClientState
carrying state carrier = record state { carrier = carrier }

-- what carries a call of a client: nothing, if it has no carrier or the call stays on its machine
abbrev pub over : Request → ClientState → Option CarrierSeen
over request state = if request.far then state.carrier else None

-- the client in this state after a call that was not refused for want of memory: its carrier has sent the packets of the call's tries
abbrev pub sent : Request → ClientState → ClientState
sent request state = carrying state (if request.far then option_map {T = CarrierSeen} (λ c. after_call c) state.carrier else state.carrier)

-- whether the reply to a call comes
abbrev pub comes : Option CarrierSeen → Bool
comes None = true
comes (Some c) = not (is_lost_by c)

-- what a line answers whose call is lost: how many of the client's packets are lost then
abbrev pub lost_reply : Option CarrierSeen → Reply
lost_reply None = replies.Memory
lost_reply (Some c) = replies.Link (losses (after_call c))

-- what a line answers for which a call came back with this answer, if it came back
abbrev pub heard : Option CarrierSeen → Reply → Reply
heard carrier reply = if comes carrier then reply else lost_reply carrier

-- the node to which the calls of an open object go, for a client in this state
abbrev pub node_at : Mount → ClientState → Target → ℕ
node_at mount state target = node_of mount state.machine target

-- what a call on a file answers a line of the script
abbrev pub reply_of : Told → Reply
reply_of told = by_answer told.answer told.bytes where
  by_answer : Answer → List ℕ → Reply
  by_answer answers.Bytes bytes = replies.Bytes bytes
  by_answer answers.Done bytes = replies.Done
  by_answer (answers.Life life) bytes = replies.Life life
  by_answer (answers.Revoked life) bytes = replies.Revoked life

-- the text of a part of a path; a part that it has not is empty
abbrev pub part_of : Option (List (List ℕ)) → ℕ → List ℕ
part_of path part = slice_index_or (parts_of path) part []

-- what a refusal of the names answers a line of the script
abbrev pub refused_as : Option (List (List ℕ)) → NameErr → Reply
refused_as path (refusals.NotBound part) = replies.NotBound (part_of path part)
refused_as path (refusals.AlreadyBound part) = replies.AlreadyBound (part_of path part)
refused_as path (refusals.NotContext part) = replies.NotContext (part_of path part)
refused_as path (refusals.NotObject part) = replies.NotObject (part_of path part)
refused_as path refusals.Memory = replies.Memory

-- a call whose answer is the line's
abbrev pub plan_call : ClientState → Request → Plan
plan_call state request = calls request state (λ told. ends (reply_of told) (sent request state))

-- what comes after a call on the names: a refusal ends the line
abbrev pub unless_refused : ClientState → Option (List (List ℕ)) → Option NameErr → Plan → Plan
unless_refused state path (Some refusal) onward = ends (refused_as path refusal) state
unless_refused state path None onward = onward

-- a call on the names, behind which the line goes on by the names that it found
abbrev pub plan_names : ClientState → NamesAsk → (List Name → Plan) → Plan
plan_names state ask go_on = asks_names ask state (λ told. unless_refused state ask.path told.refused (go_on told.names))

-- a call on the names of a path, which binds nothing
abbrev pub asking_names : NameCall → Option (List (List ℕ)) → NamesAsk
asking_names call path = record { call = call; path = path; bound = None }

-- a line that is done once its call on the names is
abbrev pub plan_done : ClientState → NamesAsk → Plan
plan_done state ask = plan_names state ask (λ names. ends replies.Done state)

abbrev pub binding : List (List ℕ) → ObjectKind → ℕ → ℕ → NamesAsk
binding path kind node file = record { call = names_calls.Bind; path = Some path; bound = Some (bound_object kind (path_word path) node file) }

-- a view and a file of the stack are bound under a path, as an object of this subcontract
abbrev pub plan_bind : ClientState → List (List ℕ) → ObjectKind → Option ℕ → Option ℕ → Plan
plan_bind state path kind (Some node) (Some file) = plan_done state (binding path kind node file)
plan_bind state path kind (Some node) None = unknown
plan_bind state path kind None file = unknown

-- the doors of a file at these views, one for each, if the stack has the views
abbrev pub doors_at : Mount → ℕ → List (List ℕ) → Option (List Door)
doors_at mount file [] = Some []
doors_at mount file (view ∷ views) =
    option_and_then {T = ℕ} (λ node. option_map {T = List Door} (λ doors. record { node = node; file = file } ∷ doors) (doors_at mount file views)) (view_of mount view)

-- the doors of a replicon object for a file at these views, if the stack has them
abbrev pub replica_doors : Mount → Option ℕ → List (List ℕ) → Option (List Door)
replica_doors mount file views = option_and_then {T = ℕ} (λ number. doors_at mount number views) file

abbrev pub binding_doors : List (List ℕ) → List Door → NamesAsk
binding_doors path doors = record { call = names_calls.Bind; path = Some path; bound = Some (stored_replicon doors) }

-- a replicon object of these doors is bound under a path
abbrev pub plan_replicate : ClientState → List (List ℕ) → Option (List Door) → Plan
plan_replicate state path (Some doors) = plan_done state (binding_doors path doors)
plan_replicate state path None = unknown

abbrev pub plan_list : ClientState → Option (List (List ℕ)) → Plan
plan_list state path = plan_names state (asking_names names_calls.List path) (λ names. ends (replies.Names (listed names path)) state)

-- a line on the object of a name
abbrev pub plan_named : ClientState → Option Target → (Target → Plan) → Plan
plan_named state None go_on = ends replies.NoObject state
plan_named state (Some target) go_on = go_on target

-- a line on the object of a name, by its first door and the doors behind that, if it is a replicon object; and else the other line
abbrev pub plan_doors : Option (List OpenDoor) → (OpenDoor → List OpenDoor → Plan) → Plan → Plan
plan_doors (Some (door ∷ more)) go_on otherwise = go_on door more
plan_doors (Some []) go_on otherwise = otherwise
plan_doors None go_on otherwise = otherwise

-- where the calls by a door of a replicon object go: to the node that it names, as those of a singleton do
abbrev pub by_door : OpenDoor → Target
by_door door = record { kind = kinds.Singleton; tag = 0; view = door.view; file = door.file; life = door.life }

-- the life that an Open was answered
abbrev pub life_in : Answer → ℕ
life_in (answers.Life life) = life
life_in answer = 0

-- a life that is over
abbrev pub is_revoked : Answer → Bool
is_revoked (answers.Revoked life) = true
is_revoked answer = false

-- an access of an open object
abbrev pub trial_of : Mount → ClientState → Target → Op → Request
trial_of mount state target op = asking_at mount state (node_at mount state target) target.file (access (node_at mount state target) target.life op)

-- one try of an access of an open object, and what comes behind it; one whose range is not within one page of the file makes no call
abbrev pub plan_try : Mount → Op → (ClientState → Told → Plan) → ClientState → Target → Plan
plan_try mount op go_on state target =
    if fits_page mount.page_size (pages_of mount target.file) op
    then calls (trial_of mount state target op) state (go_on (sent (trial_of mount state target op) state))
    else ends replies.NotOnePage state

-- the state in which the object of a name leads elsewhere
abbrev pub rerouting : ClientState → List ℕ → Target → ClientState
rerouting state name target = holding state (with_target name target state.objects)

-- where a reconnectable object leads from now on: by the door of what stands at its path, in the life that the view was opened in
abbrev pub led_to : Target → Told → Target
led_to found told = reconnected (door_to found) (life_in told.answer)

-- where a reconnectable object finds its file again, by what stands at its path: by the first door of a replicon object of these, and by the door
-- of any other
abbrev pub reached_by : Mount → Option Kept → Option (List Door) → Option Target
reached_by mount kept (Some (door ∷ doors)) = Some (by_door (unopened door))
reached_by mount kept (Some []) = received mount kept
reached_by mount kept None = received mount kept

abbrev pub reached : Mount → Option Kept → Option Target
reached mount kept = reached_by mount kept (received_doors mount kept)

-- an Open of the view that stands at the path of a reconnectable object
abbrev pub reopening : Mount → ClientState → Target → Request
reopening mount state found = asking_at mount state found.view found.file (access found.view 0 ops.Open)

-- the view that stands at the path is opened for the file; if that is answered the object leads there, and the access is tried again
abbrev pub plan_reopened : Mount → List ℕ → Op → (ClientState → Told → Plan) → ClientState → Option Target → Plan
plan_reopened mount name op go_on state None = ends replies.BadObject state
plan_reopened mount name op go_on state (Some found) =
    calls (reopening mount state found) state
    (λ told. plan_try mount op go_on (rerouting (sent (reopening mount state found) state) name (led_to found told)) (led_to found told))

-- THE OBJECT FINDS ITS FILE AGAIN, so many times at most: behind an access that is answered with a life that is over, its path is resolved, what stands there
-- is opened, and the access is tried in the new life
abbrev pub plan_after : Mount → ℕ → List ℕ → List (List ℕ) → Op → ClientState → Told → Plan
plan_after mount zero name path op state told = ends (reply_of told) state
plan_after mount (suc left) name path op state told =
    if is_revoked told.answer
    then plan_names state (asking_names names_calls.Resolve (Some path))
    (λ names. plan_reopened mount name op (plan_after mount left name path op) state (reached mount (kept_at names path)))
    else ends (reply_of told) state

-- how often an object finds its file again within one line: a reconnectable one makes three tries
abbrev pub further_tries : ObjectKind → ℕ
further_tries kinds.Singleton = 0
further_tries kinds.Cluster = 0
further_tries kinds.Caching = 0
further_tries kinds.Reconnectable = 2

-- an access of an open object of this name and this word
abbrev pub plan_access : Mount → ClientState → List ℕ → List ℕ → Op → Target → Plan
plan_access mount state name word op target = plan_try mount op (plan_after mount (further_tries target.kind) name (unwrap_or (path_of word) []) op) state target

-- AN ACCESS OF A REPLICON OBJECT is made by its first door; if that is answered with a life that is over and another door is left, the first is
-- dropped, and the access is made by the next
abbrev pub plan_next : Mount → List ℕ → Op → List OpenDoor → ClientState → Told → Plan
plan_next mount name op [] state told = ends (reply_of told) state
plan_next mount name op (next ∷ more) state told =
    if is_revoked told.answer
    then plan_try mount op (plan_next mount name op more) (replicating state (with_doors name (next ∷ more) state.replicas)) (by_door next)
    else ends (reply_of told) state

abbrev pub plan_by_doors : Mount → ClientState → List ℕ → Op → OpenDoor → List OpenDoor → Plan
plan_by_doors mount state name op door more = plan_try mount op (plan_next mount name op more) state (by_door door)

abbrev pub plan_sync : Mount → ClientState → Keep → Target → Plan
plan_sync mount state keep target = plan_call state (asking_at mount state (node_at mount state target) target.file (sync (node_at mount state target) keep))

-- the channels of a layer of the stack end for a file of it: each right of the layer and of those above it is taken first
abbrev pub plan_end : ClientState → (ℕ → Ask) → Option ℕ → Option ℕ → Plan
plan_end state ask (Some node) (Some file) = plan_call state (asking file (ask node))
plan_end state ask (Some node) None = unknown
plan_end state ask None file = unknown

-- another name for an open object
abbrev pub plan_copy : ClientState → List ℕ → List ℕ → Bool → Target → Plan
plan_copy state word other true target = ends replies.ObjectExists state
plan_copy state word other false target = ends replies.Done (holding state (with_object state.objects other target word))

-- and for a replicon object, with the same doors in the same lives
abbrev pub plan_copy_doors : ClientState → List ℕ → Bool → OpenDoor → List OpenDoor → Plan
plan_copy_doors state other true door more = ends replies.ObjectExists state
plan_copy_doors state other false door more = ends replies.Done (replicating state (with_replicon state.replicas other (door ∷ more)))

abbrev pub plan_drop : ClientState → List ℕ → Target → Plan
plan_drop state name target = ends replies.Done (holding state (without name state.objects))

abbrev pub plan_drop_doors : ClientState → List ℕ → Plan
plan_drop_doors state name = ends replies.Done (replicating state (without_replicon name state.replicas))

-- an object whose Open was told this
abbrev pub opened : Target → Told → Target
opened target told = record target { life = life_in told.answer }

-- an Open at the node to which the calls of an object go
abbrev pub opening : Mount → ClientState → Target → Request
opening mount state target = asking_at mount state (node_at mount state target) target.file (access (node_at mount state target) 0 ops.Open)

-- an Open of what a path leads to; the object is kept where it is answered
abbrev pub plan_found : Mount → ClientState → List ℕ → List ℕ → Option Target → Plan
plan_found mount state name word None = ends replies.BadObject state
plan_found mount state name word (Some target) =
    calls (opening mount state target) state (λ told. ends (reply_of told) (holding (sent (opening mount state target) state) (with_object state.objects name (opened target told) word)))

-- an Open by each of the doors that are left, in order, behind these that were opened; the object is kept where all are answered, and the line
-- answers the life of the first
abbrev pub plan_opens : Mount → List ℕ → List OpenDoor → List Door → ClientState → Plan
plan_opens mount name before [] state = ends (replies.Life (first_life before)) (replicating state (with_replicon state.replicas name before))
plan_opens mount name before (door ∷ doors) state =
    calls (opening mount state (by_door (unopened door))) state
    (λ told. plan_opens mount name (before ++ open_door door (life_in told.answer) ∷ []) doors (sent (opening mount state (by_door (unopened door))) state))

-- what stands at a path is opened, if it is an object that the stack has: a replicon object of these doors, or another one
abbrev pub plan_received : Mount → ClientState → List ℕ → Option Kept → Option (List Door) → Plan
plan_received mount state name kept (Some doors) = plan_opens mount name [] doors state
plan_received mount state name kept None = plan_found mount state name (received_word kept) (received mount kept)

-- a path is resolved, and what stands there is opened
abbrev pub plan_open : Mount → ClientState → List ℕ → List (List ℕ) → Bool → Plan
plan_open mount state name path true = ends replies.ObjectExists state
plan_open mount state name path false =
    plan_names state (asking_names names_calls.Resolve (Some path)) (λ names. plan_received mount state name (kept_at names path) (received_doors mount (kept_at names path)))

-- why a region is not mapped, as an answer to a line
abbrev pub unmappable : SpaceErr → Reply
unmappable spaces.RegionExists = replies.RegionExists
unmappable spaces.Unaligned = replies.Unaligned
unmappable spaces.TooLong = replies.TooLong
unmappable spaces.Overlap = replies.Overlap
unmappable spaces.Memory = replies.Memory

-- the region of another life
abbrev pub living : Region → ℕ → Region
living region life = record region { life = life }

-- an Open at the leaf of a region's manager; the region is kept where it is answered, with the life that it was answered
abbrev pub plan_mapped : ClientState → Region → Plan
plan_mapped state region =
    calls (asking region.file (access region.leaf 0 ops.Open)) state (λ told. ends (reply_of told) (mapping state (with_region state.regions (living region (life_in told.answer)))))

-- what is mapped under a name: a file's first pages in a manager's cache, from an address on, of life 0 until they are opened
abbrev pub region_of : List ℕ → ℕ → ℕ → Bool → CacheRights → Region
region_of name address pages write rights =
    record { name = name; file = rights.file; leaf = rights.leaf; life = 0; address = address; pages = pages; write = write }

-- the manager that holds the pages of an open object for the client, if its machine has one: a map binds the memory object of the view that
-- the object's door names
abbrev pub rights_at : Mount → ClientState → Target → Option CacheRights
rights_at mount state target = rights_of mount (record { view = target.view; file = target.file }) state.machine

-- a region that the space does not refuse is mapped, if there is a manager
abbrev pub plan_bound : ClientState → Option CacheRights → (CacheRights → Region) → Plan
plan_bound state None region = ends replies.NoManager state
plan_bound state (Some rights) region = plan_mapped state (region rights)

-- unless the space refuses the region
abbrev pub unless_unmappable : ClientState → Option SpaceErr → Plan → Plan
unless_unmappable state (Some why) onward = ends (unmappable why) state
unless_unmappable state None onward = onward

-- the first pages of an open object's file are mapped
abbrev pub plan_map : Mount → ClientState → List ℕ → ℕ → ℕ → Bool → Target → Plan
plan_map mount state name address pages write target =
    unless_unmappable state (refusal state.regions name target.file address pages) (plan_bound state (rights_at mount state target) (region_of name address pages write))

abbrev pub plan_unmap : ClientState → List ℕ → Plan
plan_unmap state name = if has_region name state.regions then ends replies.Done (mapping state (without_region name state.regions)) else ends replies.NoRegion state

-- why an address leads to no page, as an answer to a line
abbrev pub untranslated : TranslateErr → Reply
untranslated (places.Unmapped address) = replies.Unmapped address
untranslated places.CrossesPage = replies.CrossesPage
untranslated places.NotWritable = replies.NotWritable

-- a line on the page to which an address leads
abbrev pub plan_place : ClientState → Result Place TranslateErr → (Place → Request) → Plan
plan_place state (Err why) request = ends (untranslated why) state
plan_place state (Ok place) request = plan_call state (request place)

-- so many bytes are read where an address leads, at the manager's leaf and with the life of the region
abbrev pub loading : ℕ → Place → Request
loading len place = asking place.file (access place.leaf place.life (ops.Read place.page place.off len))

-- and these bytes are written there
abbrev pub storing : List ℕ → Place → Request
storing bytes place = asking place.file (access place.leaf place.life (ops.Write place.page place.off bytes))

abbrev pub plan_load : ClientState → ℕ → ℕ → Plan
plan_load state address len = plan_place state (translation state.regions address len false) (loading len)

abbrev pub plan_store : ClientState → ℕ → List ℕ → Plan
plan_store state address bytes = plan_place state (translation state.regions address (length bytes) true) (storing bytes)

-- the subcontract that a line names
abbrev pub kind_named : Sub → ObjectKind
kind_named Singleton = kinds.Singleton
kind_named Cluster = kinds.Cluster
kind_named Caching = kinds.Caching
kind_named Reconnectable = kinds.Reconnectable

-- an access of the object of a name
abbrev pub plan_use : Mount → ClientState → List ℕ → Op → Plan
plan_use mount state name op =
    plan_doors (doors_of name state.replicas) (plan_by_doors mount state name op) (plan_named state (object_of name state.objects) (plan_access mount state name (word_of name state.objects) op))

-- a sync of the object of a name
abbrev pub plan_synced : Mount → ClientState → List ℕ → Keep → Plan
plan_synced mount state name keep =
    plan_doors (doors_of name state.replicas) (λ door more. plan_sync mount state keep (by_door door)) (plan_named state (object_of name state.objects) (plan_sync mount state keep))

-- what a call does, in this state of its client
abbrev pub plan : Mount → ClientState → Call → Plan
plan mount state (Context path) = plan_done state (asking_names names_calls.Context (Some path))
plan mount state (Bind path sub view file) = plan_bind state path (kind_named sub) (view_of mount view) (file_named mount file)
plan mount state (Replicate path file views) = plan_replicate state path (replica_doors mount (file_named mount file) views)
plan mount state (Unbind path) = plan_done state (asking_names names_calls.Unbind (Some path))
plan mount state (ListNames path) = plan_list state path
plan mount state (Open name path) = plan_open mount state name path (is_open name state)
plan mount state (Copy name other) =
    plan_doors (doors_of name state.replicas) (plan_copy_doors state other (is_open other state)) (plan_named state (object_of name state.objects) (plan_copy state (word_of name state.objects) other (is_open other state)))
plan mount state (Drop name) = plan_doors (doors_of name state.replicas) (λ door more. plan_drop_doors state name) (plan_named state (object_of name state.objects) (plan_drop state name))
plan mount state (Read name page off len) = plan_use mount state name (ops.Read page off len)
plan mount state (Write name page off bytes) = plan_use mount state name (ops.Write page off bytes)
plan mount state (Clear name page) = plan_use mount state name (ops.Clear page)
plan mount state (Sync name) = plan_synced mount state name keeps.Write
plan mount state (Clean name) = plan_synced mount state name keeps.Read
plan mount state (Map region name address pages write) =
    plan_doors (doors_of name state.replicas) (λ door more. plan_map mount state region address pages write (by_door door)) (plan_named state (object_of name state.objects) (plan_map mount state region address pages write))
plan mount state (Unmap region) = plan_unmap state region
plan mount state (Load address len) = plan_load state address len
plan mount state (Store address bytes) = plan_store state address bytes
plan mount state (Revoke layer file) = plan_end state revoke (layer_of mount layer) (file_named mount file)
plan mount state (Release layer file) = plan_end state release (layer_of mount layer) (file_named mount file)

-- what a caller did: at a file, or with the names
pub data Made : Type 0 where
  at_file : (file : ℕ) → Item → Made
  with_names : NameItem → Made

-- the event is what the caller asks
abbrev pub Asks : ℕ → Ask → Event → Type 0
Asks caller (access node life op) (events.Access by number at of wanted) = (by ≡ caller) × (at ≡ node) × (of ≡ life) × (wanted ≡ op)
Asks caller (sync node keep) (events.Synced by number at from kept) = (by ≡ caller) × (at ≡ node) × (kept ≡ keep)
Asks caller (revoke node) (events.DestroyCache by number at) = (by ≡ caller) × (at ≡ node)
Asks caller (release node) (events.DonePager by number at) = (by ≡ caller) × (at ≡ node)
Asks caller ask event = ⊥

-- a call that did nothing at its file ended the line with this answer
abbrev pub Refuses : Type 0 → Reply → Type 0
Refuses Full replies.TrailFull = Full
Refuses Full replies.Memory = Unit {0}
Refuses Full reply = ⊥

-- a call that goes over a carrier, and for which nothing was entered, ended the line with this answer, and left this state: it was lost; or
-- its history is full; or memory lacked before it was sent, or as it was served
abbrev pub RefusesOver : CarrierSeen → Type 0 → Request → ClientState → Reply → ClientState → Type 0
RefusesOver c Full request state (replies.Link count) left = (is_lost_by c ≡ true) × (count ≡ losses (after_call c)) × (left ≡ sent request state)
RefusesOver c Full request state replies.TrailFull left = (is_lost_by c ≡ false) × Full × (left ≡ sent request state)
RefusesOver c Full request state replies.Memory left = (left ≡ state) ⊎ ((after : CarrierSeen) × Starves c after × (left ≡ carrying state (Some after)))
RefusesOver c Full request state reply left = ⊥

-- a call for which nothing was entered
abbrev pub Unmade : Option CarrierSeen → Type 0 → Request → ClientState → Reply → ClientState → Type 0
Unmade None Full request state said left = Refuses Full said × (left ≡ state)
Unmade (Some c) Full request state said left = RefusesOver c Full request state said left

-- a line goes on if the reply to its call comes, and else ends
abbrev pub Hears : Bool → Type 0 → Type 0 → Type 0
Hears true Then Ended = Then
Hears false Then Ended = Ended

-- what a request made: its event, which was answered so; or a note of it, which ended the line
abbrev pub Makes : ℕ → Ask → Item → (Told → Type 0) → (Reply → Type 0) → Type 0
Makes caller ask (entered e) Then Ended = Asks caller ask e.event × ((told : Told) × (e.told ≡ Some told) × Then told)
Makes caller ask (noted by disk count) Then Ended = (by ≡ caller) × Ended (replies.Store disk count)

-- the entry is what the caller asks of the names
pub record AsksNames (caller : ℕ) (ask : NamesAsk) (entry : NameEntry) : Type 0 where
  pub by : entry.caller ≡ caller
  pub call : entry.call ≡ ask.call
  pub path : entry.path ≡ ask.path
  pub bound : option_map kept_object entry.object ≡ ask.bound

-- what a call on the names told
abbrev pub told_names : NameItem → NamesTold
told_names item = record { refused = item.entry.refused; names = item.names }

-- the plan makes just these things, one after another, and ends with this answer and this state
abbrev pub Goes : (ℕ → Type 0) → ℕ → Plan → List Made → Reply → ClientState → Type 0
Goes Full caller (ends reply state) [] said left = (said ≡ reply) × (left ≡ state)
Goes Full caller (ends reply state) (made ∷ more) said left = ⊥
Goes Full caller (calls request state go_on) [] said left = Unmade (over request state) (Full request.file) request state said left
Goes Full caller (calls request state go_on) (at_file file item ∷ more) said left =
    (file ≡ request.file)
    × Makes caller request.ask item
    (λ told. Hears (comes (over request state)) (Goes Full caller (go_on told) more said left)
    ((more ≡ []) × (said ≡ lost_reply (over request state)) × (left ≡ sent request state)))
    (λ reply. (more ≡ []) × (said ≡ heard (over request state) reply) × (left ≡ sent request state))
Goes Full caller (calls request state go_on) (with_names item ∷ more) said left = ⊥
Goes Full caller (asks_names ask state go_on) [] said left = (said ≡ replies.Memory) × (left ≡ state)
Goes Full caller (asks_names ask state go_on) (at_file file item ∷ more) said left = ⊥
Goes Full caller (asks_names ask state go_on) (with_names item ∷ more) said left =
    AsksNames caller ask item.entry × Goes Full caller (go_on (told_names item)) more said left
Goes Full caller unknown made said left = ⊥
