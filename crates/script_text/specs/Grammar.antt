-- Which texts are scripts, and what they say: the spelling of a script, and which scripts have one.
use Rattle.std.specs.Prelude.{◌≡◌, ℕ, zero, suc, ◌+◌, ◌<◌, ◌≤◌, ◌&&◌, ◌||◌, not, List, [], ◌∷◌, ◌++◌, length, map, codes, Bool, true, false, Option, Some, None, IsTrue}
use Rattle.std.specs.List.{flat_map, AllByRecursion, list_any}
use Rattle.std.specs.Fmt.{decimal}
use Rattle.std.specs.Str.{bytes_eq}
use Rattle.hex.specs.Hex.{encode_lower}
use Rattle.text_words.specs.Words.{is_name, IsName, IsPath, IsHexBytes, path_word}
use Rattle.text_words.specs.Lines.{text_of}
use Rattle.script_text.specs.declared.TheConstants.{MAX_CLIENTS, MAX_LINES}
use Rattle.script_text.specs.declared.script.Call.{Call}
use Rattle.script_text.specs.declared.script.Call.TheVariants as calls
use Rattle.script_text.specs.declared.script.Sub.{Sub}
use Rattle.script_text.specs.declared.script.Sub.TheVariants as subs
use Rattle.script_text.specs.declared.script.CallLine.{CallLine}
use Rattle.script_text.specs.declared.script.ClientLine.{ClientLine}
use Rattle.script_text.specs.declared.script.Script.{Script}
use Rattle.script_text.specs.declared.verb.Verb.{Verb}
use Rattle.script_text.specs.declared.verb.Verb.TheVariants as verbs

-- the word of each verb
abbrev pub verb_word : Verb → List ℕ
verb_word verbs.Context = codes "context"
verb_word verbs.Bind = codes "bind"
verb_word verbs.Replicate = codes "replicate"
verb_word verbs.Unbind = codes "unbind"
verb_word verbs.List = codes "list"
verb_word verbs.Open = codes "open"
verb_word verbs.Copy = codes "copy"
verb_word verbs.Drop = codes "drop"
verb_word verbs.Read = codes "read"
verb_word verbs.Write = codes "write"
verb_word verbs.Clear = codes "clear"
verb_word verbs.Sync = codes "sync"
verb_word verbs.Clean = codes "clean"
verb_word verbs.Map = codes "map"
verb_word verbs.Unmap = codes "unmap"
verb_word verbs.Load = codes "load"
verb_word verbs.Store = codes "store"
verb_word verbs.Revoke = codes "revoke"
verb_word verbs.Release = codes "release"

-- the word of each subcontract
abbrev pub sub_word : Sub → List ℕ
sub_word subs.Singleton = codes "singleton"
sub_word subs.Cluster = codes "cluster"
sub_word subs.Caching = codes "caching"
sub_word subs.Reconnectable = codes "reconnectable"

-- the mode of a region: whether it may be written
abbrev pub mode_word : Bool → List ℕ
mode_word true = codes "w"
mode_word false = codes "r"

-- a context that is listed: the root, or a path
abbrev pub root_or_path : Option (List (List ℕ)) → List ℕ
root_or_path None = codes "/"
root_or_path (Some path) = path_word path

-- the words of a call
abbrev pub call_words : Call → List (List ℕ)
call_words (calls.Context path) = verb_word verbs.Context ∷ path_word path ∷ []
call_words (calls.Bind path sub view file) = verb_word verbs.Bind ∷ path_word path ∷ sub_word sub ∷ view ∷ file ∷ []
call_words (calls.Replicate path file views) = verb_word verbs.Replicate ∷ path_word path ∷ file ∷ path_word views ∷ []
call_words (calls.Unbind path) = verb_word verbs.Unbind ∷ path_word path ∷ []
call_words (calls.List path) = verb_word verbs.List ∷ root_or_path path ∷ []
call_words (calls.Open object path) = verb_word verbs.Open ∷ object ∷ path_word path ∷ []
call_words (calls.Copy object other) = verb_word verbs.Copy ∷ object ∷ other ∷ []
call_words (calls.Drop object) = verb_word verbs.Drop ∷ object ∷ []
call_words (calls.Read object page off len) = verb_word verbs.Read ∷ object ∷ decimal page ∷ decimal off ∷ decimal len ∷ []
call_words (calls.Write object page off bytes) = verb_word verbs.Write ∷ object ∷ decimal page ∷ decimal off ∷ encode_lower bytes ∷ []
call_words (calls.Clear object page) = verb_word verbs.Clear ∷ object ∷ decimal page ∷ []
call_words (calls.Sync object) = verb_word verbs.Sync ∷ object ∷ []
call_words (calls.Clean object) = verb_word verbs.Clean ∷ object ∷ []
call_words (calls.Map region object address pages write) = verb_word verbs.Map ∷ region ∷ object ∷ decimal address ∷ decimal pages ∷ mode_word write ∷ []
call_words (calls.Unmap region) = verb_word verbs.Unmap ∷ region ∷ []
call_words (calls.Load address len) = verb_word verbs.Load ∷ decimal address ∷ decimal len ∷ []
call_words (calls.Store address bytes) = verb_word verbs.Store ∷ decimal address ∷ encode_lower bytes ∷ []
call_words (calls.Revoke layer file) = verb_word verbs.Revoke ∷ layer ∷ file ∷ []
call_words (calls.Release layer file) = verb_word verbs.Release ∷ layer ∷ file ∷ []

abbrev pub IsNumber : ℕ → Type 0
IsNumber n = n < 4294967296

abbrev pub IsAddress : ℕ → Type 0
IsAddress n = n < 9223372036854775808

abbrev pub IsRootOrPath : Option (List (List ℕ)) → Type 0
IsRootOrPath None = Unit {0}
IsRootOrPath (Some path) = IsPath path

-- a call that a text can have
abbrev pub IsCall : Call → Type 0
IsCall (calls.Context path) = IsPath path
IsCall (calls.Bind path sub view file) = IsPath path × IsName view × IsName file
-- views are joined as the parts of a path are, and are as many
IsCall (calls.Replicate path file views) = IsPath path × IsName file × IsPath views
IsCall (calls.Unbind path) = IsPath path
IsCall (calls.List path) = IsRootOrPath path
IsCall (calls.Open object path) = IsName object × IsPath path
IsCall (calls.Copy object other) = IsName object × IsName other
IsCall (calls.Drop object) = IsName object
IsCall (calls.Read object page off len) = IsName object × IsNumber page × IsNumber off × IsNumber len
IsCall (calls.Write object page off bytes) = IsName object × IsNumber page × IsNumber off × IsHexBytes bytes
IsCall (calls.Clear object page) = IsName object × IsNumber page
IsCall (calls.Sync object) = IsName object
IsCall (calls.Clean object) = IsName object
IsCall (calls.Map region object address pages write) = IsName region × IsName object × IsAddress address × IsNumber pages
IsCall (calls.Unmap region) = IsName region
IsCall (calls.Load address len) = IsAddress address × IsNumber len
IsCall (calls.Store address bytes) = IsAddress address × IsHexBytes bytes
IsCall (calls.Revoke layer file) = IsName layer × IsName file
IsCall (calls.Release layer file) = IsName layer × IsName file

-- a name that a client can have: none of the words that begin other lines, nor the caller `mount`
abbrev pub is_client_name : List ℕ → Bool
is_client_name word = is_name word && not (bytes_eq word (codes "client") || bytes_eq word (codes "phase") || bytes_eq word (codes "mount"))

-- whether a client has the name
abbrev pub has_client : List ℕ → List ClientLine → Bool
has_client name clients = list_any (λ client. bytes_eq client.name name) clients

-- a client that a text can have
abbrev pub IsClient : ClientLine → Type 0
IsClient client = IsTrue (is_client_name client.name) × IsName client.machine

-- no two clients have one name
abbrev pub AreDistinct : List ClientLine → Type 0
AreDistinct [] = Unit {0}
AreDistinct (client ∷ clients) = (has_client client.name clients ≡ false) × AreDistinct clients

-- the call lines of a phase, numbered from this line on; `count` is the number of clients
abbrev pub AreCalls : ℕ → ℕ → List CallLine → Type 0
AreCalls count number [] = Unit {0}
AreCalls count number (line ∷ lines) = (line.line ≡ number) × (line.client < count) × IsCall line.call × AreCalls count (suc number) lines

-- the phases, the first of them at this line
abbrev pub ArePhases : ℕ → ℕ → List (List CallLine) → Type 0
ArePhases count number [] = Unit {0}
ArePhases count number (phase ∷ phases) = AreCalls count (suc number) phase × ArePhases count (suc number + length phase) phases

-- the name of a client by its number
abbrev pub client_name : List ClientLine → ℕ → List ℕ
client_name [] number = []
client_name (client ∷ clients) zero = client.name
client_name (client ∷ clients) (suc number) = client_name clients number

-- the lines of a script, each as its words
abbrev pub client_words : ClientLine → List (List ℕ)
client_words client = codes "client" ∷ client.name ∷ client.machine ∷ []

abbrev pub call_line_words : List ClientLine → CallLine → List (List ℕ)
call_line_words clients line = client_name clients line.client ∷ call_words line.call

abbrev pub phase_lines : List ClientLine → List CallLine → List (List (List ℕ))
phase_lines clients phase = (codes "phase" ∷ []) ∷ map (call_line_words clients) phase

abbrev pub script_lines : Script → List (List (List ℕ))
script_lines script = map client_words script.clients ++ flat_map (phase_lines script.clients) script.phases

-- the one spelling of a script
abbrev pub spelling : Script → List ℕ
spelling script = text_of (script_lines script)

-- a script that some text spells
pub record IsScript (script : Script) : Type 0 where
  pub clients : AllByRecursion IsClient script.clients
  pub distinct : AreDistinct script.clients
  pub few : length script.clients ≤ MAX_CLIENTS
  pub phases : ArePhases (length script.clients) (suc (length script.clients)) script.phases
  pub lines : length (script_lines script) ≤ MAX_LINES
