-- The text that a run writes which reached its phases, without the line of its status.
use Rattle.std.specs.Prelude.{◌≡◌, ℕ, suc, List, [], ◌∷◌, ◌++◌, map, codes, slice_get, Option, Some, None}
use Rattle.std.specs.List.{flat_map}
use Rattle.std.specs.Fmt.{decimal}
use Rattle.hex.specs.Hex.{encode_lower}
use Rattle.hist_plain.specs.declared.event.Op.{Op}
use Rattle.hist_plain.specs.declared.event.Op.TheVariants as ops
use Rattle.hist_plain.specs.declared.event.Keep.{Keep}
use Rattle.hist_plain.specs.declared.event.Keep.TheVariants as keeps
use Rattle.hist_plain.specs.declared.event.Event.{Event}
use Rattle.hist_plain.specs.declared.event.Event.TheVariants as events
use Rattle.hist_plain.specs.declared.event.Answer.{Answer}
use Rattle.hist_plain.specs.declared.event.Answer.TheVariants as answers
use Rattle.hist_plain.specs.Plain.{Told}
use Rattle.hist_plain.specs.Event.{node_of}
use Rattle.text_words.specs.Lines.{line_of}
use Rattle.script_text.specs.declared.script.Said.{Said}
use Rattle.script_text.specs.declared.script.Script.{Script}
use Rattle.script_text.specs.declared.script.ClientLine.{ClientLine}
use Rattle.script_text.specs.declared.script.Reply.{Reply}
use Rattle.script_text.specs.declared.script.Reply.TheVariants as replies
use Rattle.script_text.specs.Answer.{answer_words}
use Rattle.stack_accept.specs.declared.entries.FileEntry.{FileEntry}
use Rattle.stack_accept.specs.Mount.{Mount}
use Rattle.name_context.specs.declared.entry.NameEntry.{NameEntry}
use Rattle.spr_report.specs.NamesLines.{names_part}
use Rattle.script_meaning.specs.declared.store.StoreKey.{StoreKey}
use Rattle.script_meaning.specs.Stack.{name_in, disk_name, file_name, node_names}
use Rattle.pager_channel.specs.declared.numbers.Ops.{Ops}
use Rattle.tower_log.specs.declared.logged.Entry.{Entry}
use Rattle.tower_log.specs.declared.logged.Logged.{Logged}
use Rattle.tower_log.specs.Log.{entries_of, told_by}
use Rattle.spr_report.specs.declared.heads.Heads.{Heads}
use Rattle.spr_report.specs.Heads.{head_bytes}
use Rattle.spr_report.specs.OperationNames.{operation_name}
use Rattle.spr_report.specs.Tracing.{Tracing, heads_by, tracing_from, traced_after}

-- a client's line: the number of the script's line, and the answer
abbrev pub said_line : List (List ℕ) → Said → List ℕ
said_line disks said = line_of (decimal said.line ∷ answer_words disks said.reply)

abbrev pub client_part : List (List ℕ) → List ℕ → List Said → List ℕ
client_part disks name said = line_of (codes "client" ∷ name ∷ []) ++ flat_map (said_line disks) said

-- a part for each client
abbrev pub client_parts : List (List ℕ) → List ClientLine → List (List Said) → List ℕ
client_parts disks (client ∷ clients) (said ∷ more) = client_part disks client.name said ++ client_parts disks clients more
client_parts disks clients more = []

-- the part of the client of a number, if there is such a client
pub record IsClientText (disks : List (List ℕ)) (clients : List ClientLine) (all : List (List Said)) (number : ℕ) (text : List ℕ) : Type 0 where
  pub client : ClientLine
  pub said : List Said
  pub client_is : slice_get clients number ≡ Some client
  pub said_is : slice_get all number ≡ Some said
  pub text_is : text ≡ client_part disks client.name said

-- the words of an answer of the file
abbrev pub told_words : Told → List (List ℕ)
told_words told = by_answer told.answer told.bytes where
  by_answer : Answer → List ℕ → List (List ℕ)
  by_answer answers.Bytes bytes = encode_lower bytes ∷ []
  by_answer answers.Done bytes = codes "done" ∷ []
  by_answer (answers.Life life) bytes = codes "life" ∷ decimal life ∷ []
  by_answer (answers.Revoked life) bytes = codes "revoked" ∷ decimal life ∷ []

abbrev pub op_words : Op → List (List ℕ)
op_words ops.Open = codes "open" ∷ []
op_words (ops.Read page off len) = codes "read" ∷ decimal page ∷ decimal off ∷ decimal len ∷ []
op_words (ops.Write page off bytes) = codes "write" ∷ decimal page ∷ decimal off ∷ encode_lower bytes ∷ []
op_words (ops.Clear page) = codes "clear" ∷ decimal page ∷ []

abbrev pub keep_word : Keep → List ℕ
keep_word keeps.Write = codes "synced"
keep_word keeps.Read = codes "cleaned"

-- the words of an event between its place and its answer; a page message has none
abbrev pub event_words : List (List ℕ) → List (List ℕ) → Event → List (List ℕ)
event_words callers nodes (events.Access caller number node life op) = name_in callers caller ∷ decimal number ∷ name_in nodes node ∷ decimal life ∷ op_words op
event_words callers nodes (events.DestroyCache caller number node) = name_in callers caller ∷ decimal number ∷ name_in nodes node ∷ codes "destroy_cache" ∷ []
event_words callers nodes (events.DonePager caller number node) = name_in callers caller ∷ decimal number ∷ name_in nodes node ∷ codes "done_with_pager_object" ∷ []
event_words callers nodes (events.Synced caller number node from keep) = name_in callers caller ∷ decimal number ∷ name_in nodes node ∷ keep_word keep ∷ decimal from ∷ []
event_words callers nodes event = []

-- the line of a message of a node: its operation, its page, and the heads of its two frames
abbrev pub heads_line : List (List ℕ) → ℕ → ℕ → Option Heads → List ℕ
heads_line nodes place node None = []
heads_line nodes place node (Some two) = line_of (
    decimal place ∷ name_in nodes node ∷ operation_name two.which ∷ decimal two.page
    ∷ encode_lower (head_bytes two.first) ∷ encode_lower (head_bytes two.second) ∷ [])

-- a message has a line only if messages are traced
abbrev pub message_line : List (List ℕ) → ℕ → Option Tracing → Event → List ℕ
message_line nodes place None event = []
message_line nodes place (Some t) event = heads_line nodes place (node_of event) (heads_by t event)

-- the line of an entry: of an event with its answer, or of a message
abbrev pub entry_line : List (List ℕ) → List (List ℕ) → ℕ → Option Tracing → Entry → List ℕ
entry_line callers nodes place tracing entry = by_told (told_by entry) where
  by_told : Option Told → List ℕ
  by_told None = message_line nodes place tracing entry.event
  by_told (Some told) = line_of (decimal place ∷ (event_words callers nodes entry.event ++ told_words told))

-- the lines of the entries from a place on
abbrev pub entry_lines : List (List ℕ) → List (List ℕ) → ℕ → Option Tracing → List Entry → List ℕ
entry_lines callers nodes place tracing [] = []
entry_lines callers nodes place tracing (entry ∷ entries) =
    entry_line callers nodes place tracing entry ++ entry_lines callers nodes (suc place) (traced_after tracing entry.event) entries

-- the part of a file, which has this number, by its log alone
abbrev pub file_part : List (List ℕ) → Mount → Option Ops → ℕ → FileEntry → List Logged → List ℕ
file_part callers mount traced number file log =
    line_of (codes "file" ∷ file.name ∷ [])
    ++ entry_lines callers (node_names mount.nodes) 0 (tracing_from mount traced number file) (entries_of log)

-- a part for each file, from this number on
abbrev pub file_parts : List (List ℕ) → Mount → Option Ops → ℕ → List FileEntry → List (List Logged) → List ℕ
file_parts callers mount traced number (file ∷ files) (log ∷ logs) =
    file_part callers mount traced number file log ++ file_parts callers mount traced (suc number) files logs
file_parts callers mount traced number files logs = []

-- the part of the file of a number, if there is such a file
pub record IsFileText (callers : List (List ℕ)) (mount : Mount) (traced : Option Ops) (logs : List (List Logged)) (number : ℕ) (text : List ℕ) : Type 0 where
  pub file : FileEntry
  pub log : List Logged
  pub file_is : slice_get mount.files number ≡ Some file
  pub log_is : slice_get logs number ≡ Some log
  pub text_is : text ≡ file_part callers mount traced number file log

-- the names of the callers: the clients, and then mount
abbrev pub callers_of : List ClientLine → List (List ℕ)
callers_of clients = map (λ c. c.name) clients ++ codes "mount" ∷ []

-- the line of a closing sync that failed; one that is done has none
abbrev pub closing_line : List (List ℕ) → List ℕ → Reply → List ℕ
closing_line disks file replies.Done = []
closing_line disks file reply = line_of (codes "closing" ∷ file ∷ answer_words disks reply)

abbrev pub closing_lines : List (List ℕ) → List FileEntry → List Reply → List ℕ
closing_lines disks (file ∷ files) (reply ∷ more) = closing_line disks file.name reply ++ closing_lines disks files more
closing_lines disks files more = []

-- the line of a store that the bay refused
abbrev pub lost_line : Mount → StoreKey → List ℕ
lost_line mount lost = line_of (codes "bay" ∷ disk_name mount lost.disk ∷ file_name mount lost.file ∷ [])

-- the whole text. It has the messages too, where the numbers of the operations are given
abbrev pub report : Mount → Script → Option Ops → List (List Logged) → List NameEntry → List (List Said) → List Reply → List StoreKey → List ℕ
report mount script traced logs history said closing lost =
    client_parts mount.disks script.clients said
    ++ file_parts (callers_of script.clients) mount traced 0 mount.files logs
    ++ names_part (callers_of script.clients) history
    ++ closing_lines mount.disks mount.files closing
    ++ flat_map (lost_line mount) lost
