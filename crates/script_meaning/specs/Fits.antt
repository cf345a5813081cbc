-- Which histories and answers a script may have.
use Rattle.std.specs.Prelude.{◌≡◌, ◌⊎◌, ℕ, suc, ◌≤◌, ◌==◌, List, [], ◌∷◌, ◌++◌, length, map, filter, if◌then◌else◌, Option, None, IfSome}
use Rattle.std.specs.List.{AllByRecursion, flat_map}
use Rattle.hist_plain.specs.declared.event.Event.{Event}
use Rattle.hist_plain.specs.declared.event.Event.TheVariants as events
use Rattle.hist_plain.specs.declared.event.Keep.TheVariants as keeps
use Rattle.hist_plain.specs.History.{IsNumbered}
use Rattle.script_text.specs.declared.script.CallLine.{CallLine}
use Rattle.script_text.specs.declared.script.ClientLine.{ClientLine}
use Rattle.script_text.specs.declared.script.Said.{Said}
use Rattle.script_text.specs.declared.script.Script.{Script}
use Rattle.script_text.specs.declared.script.Reply.{Reply}
use Rattle.script_text.specs.declared.script.Reply.TheVariants as replies
use Rattle.stack_accept.specs.declared.entries.FileEntry.{FileEntry}
use Rattle.stack_accept.specs.Mount.{Mount}
use Rattle.tower_log.specs.declared.logged.Logged.{Logged}
use Rattle.tower_log.specs.Log.{place_of, trail_of}
use Rattle.name_context.specs.declared.entry.NameEntry.{NameEntry}
use Rattle.name_context.specs.History.{NamesSeen, IsStory}
use Rattle.script_meaning.specs.Log.{Histories, Item, NameItem, entered, noted, items, name_items, names_by, by_caller, who, log_at, IsFull}
use Rattle.client_objects.specs.declared.state.ClientState.{ClientState}
use Rattle.script_meaning.specs.Plan.{Plan, Made, at_file, with_names, plan, plan_call, start_state, asking, sync, Goes}

-- a line for which memory lacked before it did anything
pub record Lacks (kept : ClientState) (made : List Made) (said : Reply) (left : ClientState) : Type 0 where
  pub nothing : made ≡ []
  pub memory : said ≡ replies.Memory
  pub same : left ≡ kept

-- a line in this state: it follows its plan, or memory lacked for it
abbrev pub Line : (ℕ → Type 0) → ℕ → ClientState → Plan → List Made → Reply → ClientState → Type 0
Line Full caller kept p made said left = Goes Full caller p made said left ⊎ Lacks kept made said left

-- a client's lines, one after another: each makes the next things, and has the next answer
abbrev pub Does : Mount → (ℕ → Type 0) → ℕ → ClientState → List CallLine → List Made → List Said → ClientState → Type 0
Does mount Full caller state [] made said left = (made ≡ []) × (said ≡ []) × (left ≡ state)
Does mount Full caller state (line ∷ lines) made [] left = ⊥
Does mount Full caller state (line ∷ lines) made (said ∷ more) left =
    (first : List Made) × (rest : List Made) × (mid : ClientState) × (made ≡ first ++ rest) × (said.line ≡ line.line)
    × Line Full caller state (plan mount state line.call) first said.reply mid × Does mount Full caller mid lines rest more left

-- what was made at a file
abbrev pub made_on : ℕ → List Made → List Item
made_on file [] = []
made_on file (at_file at item ∷ more) = (if at == file then item ∷ [] else []) ++ made_on file more
made_on file (with_names item ∷ more) = made_on file more

-- what was made with the names
abbrev pub made_with_names : List Made → List NameItem
made_with_names [] = []
made_with_names (at_file at item ∷ more) = made_with_names more
made_with_names (with_names item ∷ more) = item ∷ made_with_names more

-- a Synced is from this place or a later one
abbrev pub SyncsFrom : ℕ → Event → Type 0
SyncsFrom least (events.Synced caller number node from keep) = least ≤ from
SyncsFrom least event = Unit {0}

-- each Synced is from this place or a later one, and from one after the caller's event before it
abbrev pub SyncsInOrder : ℕ → List Item → Type 0
SyncsInOrder least [] = Unit {0}
SyncsInOrder least (entered e ∷ is) = SyncsFrom least e.event × SyncsInOrder (suc e.place) is
SyncsInOrder least (noted caller disk count ∷ is) = SyncsInOrder least is

-- a log that goes on from another
pub record GoesOn (old new : List Logged) : Type 0 where
  pub more : List Logged
  pub log : new ≡ old ++ more

-- names whose history goes on from another's
pub record NamesGoOn (old new : NamesSeen) : Type 0 where
  pub more : List NameEntry
  pub began : new.began ≡ old.began
  pub history : new.history ≡ old.history ++ more

-- each log and the names' history go on
pub record AllGoOn (old new : Histories) : Type 0 where
  pub logs : (file : ℕ) → GoesOn (log_at old file) (log_at new file)
  pub names : NamesGoOn old.names new.names

-- between two states of the histories a caller did just these things
pub record Did (caller : ℕ) (old new : Histories) (made : List Made) : Type 0 where
  pub later : AllGoOn old new
  pub part : (file : ℕ) → by_caller caller (items (log_at new file)) ≡ by_caller caller (items (log_at old file)) ++ made_on file made
  pub syncs : (file : ℕ) → SyncsInOrder (place_of (log_at old file)) (made_on file made)
  pub names : names_by caller (name_items new.names) ≡ names_by caller (name_items old.names) ++ made_with_names made

-- between two states of the histories a caller followed this plan to its end
pub record Gone (caller : ℕ) (p : Plan) (old new : Histories) (said : Reply) (left : ClientState) : Type 0 where
  pub made : List Made
  pub did : Did caller old new made
  pub goes : Goes (IsFull new) caller p made said left

-- between two states of the histories a caller did a line, in this state and with this plan
pub record Went (caller : ℕ) (kept : ClientState) (p : Plan) (old new : Histories) (said : Reply) (left : ClientState) : Type 0 where
  pub made : List Made
  pub did : Did caller old new made
  pub goes : Line (IsFull new) caller kept p made said left

-- between two states of the histories a caller did its lines
pub record Worked (mount : Mount) (caller : ℕ) (kept : ClientState) (lines : List CallLine) (old new : Histories) (said : List Said) (left : ClientState) : Type 0 where
  pub made : List Made
  pub did : Did caller old new made
  pub does : Does mount (IsFull new) caller kept lines made said left

-- between two states of the histories a caller did nothing, answered nothing and kept its state
pub record Idled (mount : Mount) (caller : ℕ) (kept : ClientState) (old new : Histories) (said : List Said) (left : ClientState) : Type 0 where
  pub nothing : Did caller old new []
  pub silent : said ≡ []
  pub same : left ≡ kept

-- a caller's part of a phase: it did its lines of the phase, or nothing at all
abbrev pub Phased : Mount → ℕ → ClientState → List CallLine → Histories → Histories → List Said → ClientState → Type 0
Phased mount caller kept lines old new said left =
    Worked mount caller kept lines old new said left ⊎ Idled mount caller kept old new said left

-- the call lines of a client, in order
abbrev pub lines_of : ℕ → List CallLine → List CallLine
lines_of client lines = filter (λ l. l.client == client) lines

-- a client's phases, one after another. Each begins where the one before was cut
abbrev pub Acts : Mount → ℕ → ClientState → List (List CallLine) → Histories → List Histories → List Said → ClientState → Type 0
Acts mount caller kept [] start [] said left = (said ≡ []) × (left ≡ kept)
Acts mount caller kept [] start (cut ∷ cuts) said left = ⊥
Acts mount caller kept (phase ∷ phases) start [] said left = ⊥
Acts mount caller kept (phase ∷ phases) start (cut ∷ cuts) said left =
    (one : List Said) × (rest : List Said) × (mid : ClientState) × (said ≡ one ++ rest)
    × Phased mount caller kept (lines_of caller phase) start cut one mid × Acts mount caller mid phases cut cuts rest left

-- each history goes on from what it was at the cut before
abbrev pub InOrder : Histories → List Histories → Type 0
InOrder start [] = Unit {0}
InOrder start (cut ∷ cuts) = AllGoOn start cut × InOrder cut cuts

-- the state at the last cut
abbrev pub last_cut : Histories → List Histories → Histories
last_cut start [] = start
last_cut start (cut ∷ cuts) = last_cut cut cuts

-- a client's part in the histories: its phases up to the last cut, from the start on its machine, and nothing after that
pub record ClientFits (mount : Mount) (loss : Option ℕ) (phases : List (List CallLine)) (start : Histories) (cuts : List Histories) (final : Histories) (client : ℕ) (line : ClientLine) (said : List Said) : Type 0 where
  pub left : ClientState
  pub acts : Acts mount client (start_state mount loss line) phases start cuts said left
  pub after : Did client (last_cut start cuts) final []

-- the part of each client from this one on, with its answers
abbrev pub ClientsFit : Mount → Option ℕ → List (List CallLine) → Histories → List Histories → Histories → ℕ → List ClientLine → List (List Said) → Type 0
ClientsFit mount loss phases start cuts final client [] [] = Unit {0}
ClientsFit mount loss phases start cuts final client [] (said ∷ more) = ⊥
ClientsFit mount loss phases start cuts final client (line ∷ lines) [] = ⊥
ClientsFit mount loss phases start cuts final client (line ∷ lines) (said ∷ more) =
    ClientFits mount loss phases start cuts final client line said × ClientsFit mount loss phases start cuts final (suc client) lines more

-- a client has an answer for each of its call lines, in order
abbrev pub IsAnswered : List (List CallLine) → ℕ → List Said → Type 0
IsAnswered phases client said = map (λ s. s.line) said ≡ map (λ l. l.line) (flat_map (lines_of client) phases)

-- each client from this one on has an answer for each of its call lines
abbrev pub AreAnswered : List (List CallLine) → ℕ → List ClientLine → List (List Said) → Type 0
AreAnswered phases client [] [] = Unit {0}
AreAnswered phases client [] (said ∷ more) = ⊥
AreAnswered phases client (line ∷ lines) [] = ⊥
AreAnswered phases client (line ∷ lines) (said ∷ more) = IsAnswered phases client said × AreAnswered phases (suc client) lines more

-- each client has an answer for each of its call lines, in order
abbrev pub EachAnswered : Script → List (List Said) → Type 0
EachAnswered script said = AreAnswered script.phases 0 script.clients said

-- the caller `mount` is no client: it has no object, no address space and no carrier
abbrev pub no_client : ClientState
no_client = record { machine = 0; objects = []; replicas = []; regions = record { page_size = 0; files = []; regions = [] }; carrier = None }

-- the closing sync of a file, at the layer above the ground
abbrev pub plan_closing : ℕ → Plan
plan_closing file = plan_call no_client (asking file (sync 1 keeps.Write))

-- the closing syncs of the files from this one on, one after another, and their answers
abbrev pub Closes : (ℕ → Type 0) → ℕ → ℕ → List FileEntry → List Made → List Reply → Type 0
Closes Full mount file [] made replies = (made ≡ []) × (replies ≡ [])
Closes Full mount file (entry ∷ entries) made [] = ⊥
Closes Full mount file (entry ∷ entries) made (reply ∷ replies) =
    (first : List Made) × (rest : List Made) × (left : ClientState) × (made ≡ first ++ rest)
    × Goes Full mount (plan_closing file) first reply left × Closes Full mount (suc file) entries rest replies

-- the part of the caller `mount`: nothing up to the last cut, and then the closing syncs
pub record MountFits (mount : Mount) (caller : ℕ) (start : Histories) (cuts : List Histories) (final : Histories) (replies : List Reply) : Type 0 where
  pub before : Did caller start (last_cut start cuts) []
  pub made : List Made
  pub did : Did caller (last_cut start cuts) final made
  pub closes : Closes (IsFull final) caller 0 mount.files made replies

-- it was done by a caller up to this one, or by none
abbrev pub IsUpTo : ℕ → Item → Type 0
IsUpTo last item = IfSome (who item) (λ caller. caller ≤ last)

-- an entry of the names' history is of a caller up to this one
abbrev pub IsEntryUpTo : ℕ → NameEntry → Type 0
IsEntryUpTo last entry = entry.caller ≤ last

-- The histories, the answers and the closing answers fit the script: each client did its lines phase by phase, or nothing in a
-- phase, and then `mount` the closing syncs; nobody else did anything, each caller's events are numbered from 0, and the names' history
-- explains itself. If a number is given, each client's calls to other machines go over a carrier of its own, which loses the packets whose
-- number this one divides.
pub record FitsScript (mount : Mount) (loss : Option ℕ) (script : Script) (start final : Histories) (said : List (List Said)) (closing : List Reply) : Type 0 where
  pub cuts : List Histories
  pub cut_each : length cuts ≡ length script.phases
  pub in_order : InOrder start cuts
  pub clients : ClientsFit mount loss script.phases start cuts final 0 script.clients said
  pub closings : MountFits mount (length script.clients) start cuts final closing
  pub numbered : AllByRecursion (λ log. IsNumbered (trail_of log)) final.logs
  pub callers : AllByRecursion (λ log. AllByRecursion (IsUpTo (length script.clients)) (items log)) final.logs
  pub story : IsStory final.names.began final.names.history
  pub name_callers : AllByRecursion (IsEntryUpTo (length script.clients)) final.names.history
