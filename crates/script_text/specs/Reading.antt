-- Reading a script line by line, with the first bad line and the first reason why it is bad.
use Rattle.std.specs.Prelude.{◌≡◌, ℕ, suc, ◌&&◌, ◌||◌, nat_lt, nat_le, ◌==◌, List, [], ◌∷◌, ◌++◌, length, codes, Bool, true, false, if◌then◌else◌, Option, Some, None, Result, Ok, Err, ◌⊎◌}
use Rattle.std.specs.Str.{bytes_eq}
use Rattle.text_words.specs.declared.lines.LineWhy.{LineWhy}
use Rattle.text_words.specs.Words.{is_name, hex_of, path_of}
use Rattle.text_words.specs.Numbers.{number_of, address_of}
use Rattle.text_words.specs.Lines.{Row, rows_of, words_at}
use Rattle.script_text.specs.declared.TheConstants.{MAX_CLIENTS, MAX_LINES, MAX_LINE_BYTES}
use Rattle.script_text.specs.declared.why.ScriptWhy.{ScriptWhy}
use Rattle.script_text.specs.declared.why.ScriptWhy.TheVariants as why
use Rattle.script_text.specs.declared.why.Refused.{Refused}
use Rattle.script_text.specs.declared.script.Call.{Call}
use Rattle.script_text.specs.declared.script.Call.TheVariants as calls
use Rattle.script_text.specs.declared.script.Sub.{Sub}
use Rattle.script_text.specs.declared.script.Sub.TheVariants as subs
use Rattle.script_text.specs.declared.script.CallLine.{CallLine}
use Rattle.script_text.specs.declared.script.ClientLine.{ClientLine}
use Rattle.script_text.specs.declared.script.Script.{Script}
use Rattle.script_text.specs.declared.verb.Verb.{Verb}
use Rattle.script_text.specs.declared.verb.Verb.TheVariants as verbs
use Rattle.script_text.specs.Why.{from_line}
use Rattle.script_text.specs.Grammar.{verb_word, is_client_name, has_client}

-- the next step, if there was no reason to refuse
infixl 10 ◌>>=◌
abbrev pub ◌>>=◌ : {A B : Type 0} → Result A ScriptWhy → (A → Result B ScriptWhy) → Result B ScriptWhy
(Ok x) >>= f = f x
(Err w) >>= f = Err w

abbrev pub or_why : {A : Type 0} → ScriptWhy → Option A → Result A ScriptWhy
or_why w None = Err w
or_why w (Some x) = Ok x

-- what a word says in each kind of place
unfoldable pub name_at : List ℕ → Result (List ℕ) ScriptWhy
name_at word = if is_name word then Ok word else Err why.Name

unfoldable pub path_at : List ℕ → Result (List (List ℕ)) ScriptWhy
path_at word = or_why why.Name (path_of word)

unfoldable pub root_or_path_at : List ℕ → Result (Option (List (List ℕ))) ScriptWhy
root_or_path_at word = if bytes_eq word (codes "/") then Ok None else path_at word >>= λ path. Ok (Some path)

unfoldable pub sub_at : List ℕ → Result Sub ScriptWhy
sub_at word =
    if bytes_eq word (codes "singleton") then Ok subs.Singleton
    else if bytes_eq word (codes "cluster") then Ok subs.Cluster
    else if bytes_eq word (codes "caching") then Ok subs.Caching
    else if bytes_eq word (codes "reconnectable") then Ok subs.Reconnectable
    else Err why.Name

unfoldable pub mode_at : List ℕ → Result Bool ScriptWhy
mode_at word = if bytes_eq word (codes "r") then Ok false else if bytes_eq word (codes "w") then Ok true else Err why.Name

unfoldable pub number_at : List ℕ → Result ℕ ScriptWhy
number_at word = or_why why.Number (number_of word)

unfoldable pub address_at : List ℕ → Result ℕ ScriptWhy
address_at word = or_why why.Number (address_of word)

unfoldable pub hex_at : List ℕ → Result (List ℕ) ScriptWhy
hex_at word = or_why why.Hex (hex_of word)

-- the verbs, and the one that a word is
abbrev pub all_verbs : List Verb
all_verbs = verbs.Context ∷ verbs.Bind ∷ verbs.Replicate ∷ verbs.Unbind ∷ verbs.List ∷ verbs.Open ∷ verbs.Copy ∷ verbs.Drop ∷ verbs.Read ∷ verbs.Write ∷ verbs.Clear ∷ verbs.Sync ∷ verbs.Clean ∷ verbs.Map ∷ verbs.Unmap ∷ verbs.Load ∷ verbs.Store ∷ verbs.Revoke ∷ verbs.Release ∷ []

abbrev pub named : List ℕ → List Verb → Option Verb
named word [] = None
named word (verb ∷ verbs) = if bytes_eq (verb_word verb) word then Some verb else named word verbs

unfoldable pub verb_at : List ℕ → Result Verb ScriptWhy
verb_at word = or_why why.Verb (named word all_verbs)

-- the calls of one argument, of two, of three, of four and of five: within each, names before numbers before hex
unfoldable pub one_at : Verb → List ℕ → Result Call ScriptWhy
one_at verbs.Context path = path_at path >>= λ p. Ok (calls.Context p)
one_at verbs.Unbind path = path_at path >>= λ p. Ok (calls.Unbind p)
one_at verbs.List path = root_or_path_at path >>= λ p. Ok (calls.List p)
one_at verbs.Drop object = name_at object >>= λ o. Ok (calls.Drop o)
one_at verbs.Sync object = name_at object >>= λ o. Ok (calls.Sync o)
one_at verbs.Clean object = name_at object >>= λ o. Ok (calls.Clean o)
one_at verbs.Unmap region = name_at region >>= λ r. Ok (calls.Unmap r)
one_at verb word = Err why.Words

unfoldable pub two_at : Verb → List ℕ → List ℕ → Result Call ScriptWhy
two_at verbs.Open object path = name_at object >>= λ o. path_at path >>= λ p. Ok (calls.Open o p)
two_at verbs.Copy object other = name_at object >>= λ o. name_at other >>= λ p. Ok (calls.Copy o p)
two_at verbs.Clear object page = name_at object >>= λ o. number_at page >>= λ p. Ok (calls.Clear o p)
two_at verbs.Load address len = address_at address >>= λ a. number_at len >>= λ l. Ok (calls.Load a l)
two_at verbs.Store address hex = address_at address >>= λ a. hex_at hex >>= λ b. Ok (calls.Store a b)
two_at verbs.Revoke layer file = name_at layer >>= λ l. name_at file >>= λ f. Ok (calls.Revoke l f)
two_at verbs.Release layer file = name_at layer >>= λ l. name_at file >>= λ f. Ok (calls.Release l f)
two_at verb word next = Err why.Words

unfoldable pub bind_at : List ℕ → List ℕ → List ℕ → List ℕ → Result Call ScriptWhy
bind_at path sub view file = path_at path >>= λ p. sub_at sub >>= λ s. name_at view >>= λ v. name_at file >>= λ f. Ok (calls.Bind p s v f)

unfoldable pub replicate_at : List ℕ → List ℕ → List ℕ → Result Call ScriptWhy
replicate_at path file views = path_at path >>= λ p. name_at file >>= λ f. path_at views >>= λ v. Ok (calls.Replicate p f v)

unfoldable pub read_at : List ℕ → List ℕ → List ℕ → List ℕ → Result Call ScriptWhy
read_at object page off len = name_at object >>= λ o. number_at page >>= λ p. number_at off >>= λ f. number_at len >>= λ l. Ok (calls.Read o p f l)

unfoldable pub write_at : List ℕ → List ℕ → List ℕ → List ℕ → Result Call ScriptWhy
write_at object page off hex = name_at object >>= λ o. number_at page >>= λ p. number_at off >>= λ f. hex_at hex >>= λ b. Ok (calls.Write o p f b)

unfoldable pub map_at : List ℕ → List ℕ → List ℕ → List ℕ → List ℕ → Result Call ScriptWhy
map_at region object address pages mode = name_at region >>= λ r. name_at object >>= λ o. mode_at mode >>= λ m. address_at address >>= λ a. number_at pages >>= λ p. Ok (calls.Map r o a p m)

abbrev pub three_at : Verb → List ℕ → List ℕ → List ℕ → Result Call ScriptWhy
three_at verbs.Replicate path file views = replicate_at path file views
three_at verb a b c = Err why.Words

abbrev pub four_at : Verb → List ℕ → List ℕ → List ℕ → List ℕ → Result Call ScriptWhy
four_at verbs.Bind path sub view file = bind_at path sub view file
four_at verbs.Read object page off len = read_at object page off len
four_at verbs.Write object page off hex = write_at object page off hex
four_at verb a b c d = Err why.Words

abbrev pub five_at : Verb → List ℕ → List ℕ → List ℕ → List ℕ → List ℕ → Result Call ScriptWhy
five_at verbs.Map region object address pages mode = map_at region object address pages mode
five_at verb a b c d e = Err why.Words

abbrev pub args_at : Verb → List (List ℕ) → Result Call ScriptWhy
args_at verb (a ∷ []) = one_at verb a
args_at verb (a ∷ b ∷ []) = two_at verb a b
args_at verb (a ∷ b ∷ c ∷ []) = three_at verb a b c
args_at verb (a ∷ b ∷ c ∷ d ∷ []) = four_at verb a b c d
args_at verb (a ∷ b ∷ c ∷ d ∷ e ∷ []) = five_at verb a b c d e
args_at verb words = Err why.Words

-- the call of the words after the client
unfoldable pub call_at : List (List ℕ) → Result Call ScriptWhy
call_at [] = Err why.Verb
call_at (word ∷ args) = verb_at word >>= λ verb. args_at verb args

-- a client line, after its first word
unfoldable pub new_client_at : Script → List ℕ → List ℕ → Result Script ScriptWhy
new_client_at script name machine =
    if nat_lt 0 (length script.phases) || nat_le MAX_CLIENTS (length script.clients) || has_client name script.clients then Err why.Client
    else if is_client_name name && is_name machine then Ok (record { clients = script.clients ++ record { name = name; machine = machine } ∷ []; phases = script.phases })
    else Err why.Name

abbrev pub client_at : Script → List (List ℕ) → Result Script ScriptWhy
client_at script (name ∷ machine ∷ []) = new_client_at script name machine
client_at script words = Err why.Words

-- a phase line, after its first word
abbrev pub phase_at : Script → List (List ℕ) → Result Script ScriptWhy
phase_at script [] = Ok (record { clients = script.clients; phases = script.phases ++ [] ∷ [] })
phase_at script words = Err why.Phase

-- the number of the client that has the name, the first client's being `number`
abbrev pub place_from : ℕ → List ℕ → List ClientLine → Option ℕ
place_from number name [] = None
place_from number name (client ∷ clients) = if bytes_eq client.name name then Some number else place_from (suc number) name clients

-- a line at the end of the last phase
abbrev pub onto_last : CallLine → List (List CallLine) → List (List CallLine)
onto_last line [] = []
onto_last line (phase ∷ []) = (phase ++ line ∷ []) ∷ []
onto_last line (phase ∷ next ∷ phases) = phase ∷ onto_last line (next ∷ phases)

-- a call line
unfoldable pub call_line_at : Script → ℕ → List ℕ → List (List ℕ) → Result Script ScriptWhy
call_line_at script number who words =
    if length script.phases == 0 then Err why.Phase
    else or_why why.Who (place_from 0 who script.clients) >>= λ client. call_at words
    >>= λ call. Ok (record { clients = script.clients; phases = onto_last (record { line = number; client = client; call = call }) script.phases })

-- a line of words: what it is goes by its first word
abbrev pub words_line_at : Script → ℕ → List (List ℕ) → Result Script ScriptWhy
words_line_at script number [] = Err why.Space
words_line_at script number (first ∷ words) =
    if bytes_eq first (codes "client") then client_at script words
    else if bytes_eq first (codes "phase") then phase_at script words
    else call_line_at script number first words

abbrev pub of_words : Result (List (List ℕ)) LineWhy → Result (List (List ℕ)) ScriptWhy
of_words (Ok words) = Ok words
of_words (Err w) = Err (from_line w)

-- a line by its number: the script so far, with the line
unfoldable pub line_at : Script → ℕ → Row → Result Script ScriptWhy
line_at script number row = of_words (words_at row) >>= λ words.
    if nat_lt MAX_LINES number || nat_lt MAX_LINE_BYTES (length row.body) then Err why.Long else words_line_at script number words

-- the lines from this number on
abbrev pub go_on : ℕ → Result Script ScriptWhy → (Script → Result Script Refused) → Result Script Refused
go_on number (Ok script) next = next script
go_on number (Err w) next = Err (record { line = number; why = w })

abbrev pub lines_at : Script → ℕ → List Row → Result Script Refused
lines_at script number [] = Ok script
lines_at script number (row ∷ rows) = go_on number (line_at script number row) (λ next. lines_at next (suc number) rows)

-- the script that a text is, or the first line that is bad, and why
abbrev pub script_at : List ℕ → Result Script Refused
script_at text = lines_at (record { clients = []; phases = [] }) 1 (rows_of text)

-- What a function returned is what reading gives, unless memory ran out.
abbrev pub Fails : {Y : Type 0} → ScriptWhy → Result Y ScriptWhy → Type 0
Fails why.Memory read = Unit {0}
Fails why.Byte read = read ≡ Err why.Byte
Fails why.Space read = read ≡ Err why.Space
Fails why.End read = read ≡ Err why.End
Fails why.Long read = read ≡ Err why.Long
Fails why.Client read = read ≡ Err why.Client
Fails why.Phase read = read ≡ Err why.Phase
Fails why.Who read = read ≡ Err why.Who
Fails why.Verb read = read ≡ Err why.Verb
Fails why.Words read = read ≡ Err why.Words
Fails why.Name read = read ≡ Err why.Name
Fails why.Number read = read ≡ Err why.Number
Fails why.Hex read = read ≡ Err why.Hex

abbrev pub Gives : {X : Type 0} → Result X ScriptWhy → Result X ScriptWhy → Type 0
Gives (Ok x) read = read ≡ Ok x
Gives (Err w) read = Fails w read

-- the refusal of a text when memory ran out
abbrev pub no_memory : Refused
no_memory = record { line = 0; why = why.Memory }

-- a refusal of a line
abbrev pub refused_at : ℕ → ScriptWhy → Refused
refused_at number why.Memory = no_memory
refused_at number w = record { line = number; why = w }

-- What parsing returned is what reading gives, unless memory ran out.
abbrev pub Parses : Result Script Refused → Result Script Refused → Type 0
Parses (Ok script) read = read ≡ Ok script
Parses (Err refused) read = (refused ≡ no_memory) ⊎ (read ≡ Err refused)
