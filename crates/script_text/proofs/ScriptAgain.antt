-- A script that is spelled is read again.
use Rattle.std.proofs.Common.{◌≡◌, ℕ, zero, suc, ◌+◌, ◌<◌, ◌≤◌, List, [], ◌∷◌, ◌++◌, length, map, codes, true, false, not, cond, ◌&&◌, ◌||◌, eqb, ltb, leb, Some, Result, Ok, Err, refl, sym, ap, subst, ◌∙◌, arith, append_assoc, length-append, zero-add, lit≤}
use Rattle.std.specs.Prelude.{IsTrue}
use Rattle.std.specs.List.{AllByRecursion, flat_map, join_with_byte}
use Rattle.std.specs.Str.{bytes_eq}
use Rattle.std.proofs.lemmas.Bool.{and_parts, and_from, or_parts, or_from, not-true, le-ltb, lt-leb, ne_eqb, cond-true, cond-false}
use Rattle.std.proofs.lemmas.List.{append-nil, length-map}
use Rattle.text_words.specs.Words.{is_name, IsName}
use Rattle.text_words.specs.Lines.{words_at, words_row, AreWords}
use Rattle.text_words.proofs.LineLaws.{words_again, rows_again}
use Rattle.text_words.proofs.Spellings.{name_word, name_length}
use Rattle.script_text.specs.declared.script.CallLine.{CallLine}
use Rattle.script_text.specs.declared.script.ClientLine.{ClientLine}
use Rattle.script_text.specs.declared.script.Script.{Script}
use Rattle.script_text.specs.declared.why.ScriptWhy.{ScriptWhy}
use Rattle.script_text.specs.declared.why.ScriptWhy.TheVariants as why
use Rattle.script_text.specs.declared.why.Refused.{Refused}
use Rattle.script_text.specs.Grammar.{IsCall, IsClient, is_client_name, has_client, AreDistinct, AreCalls, ArePhases, client_words, client_name, call_line_words, phase_lines, script_lines, spelling, IsScript, call_words}
use Rattle.script_text.specs.Reading.{◌>>=◌, or_why, new_client_at, place_from, onto_last, call_at, call_line_at, words_line_at, of_words, line_at, go_on, lines_at, script_at}
use Rattle.script_text.proofs.Fields.{step}
use Rattle.script_text.proofs.CallAgain.{call_again, call_fits, joined_cost, Fits, fits_more}
use Rattle.script_text.proofs.ClientLaws.{new_here, place_again}
use Rattle.script_text.proofs.Phases.{onto_last_of, phases_length}

-- ---- the words of the lines

fits_most : (k : ℕ) (words : List (List ℕ)) → k ≤ 8400 → Fits k words → Fits 8400 words
fits_most k words few f = let b = f.bytes in record { are = f.are; bytes = omega arith }

fits_end : Fits 0 []
fits_end = record { are = tt; bytes = lit≤ tt }

client_fits : (c : ClientLine) → IsClient c → Fits 8400 (client_words c)
client_fits c h =
    let name : IsName c.name = (and_parts (is_name c.name) _ h.0).0 in
    fits_most _ (client_words c) (lit≤ tt)
    (fits_more 6 _ (codes "client") _ refl (lit≤ tt) (fits_more 16 _ c.name _ (name_word c.name name) (name_length c.name name).1 (fits_more 16 _ c.machine _ (name_word c.machine h.1) (name_length c.machine h.1).1 fits_end)))

phase_fits : Fits 8400 (codes "phase" ∷ [])
phase_fits = record { are = (refl, tt); bytes = lit≤ tt }

client_named : (clients : List ClientLine) (i : ℕ) → AllByRecursion IsClient clients → i < length clients → IsTrue (is_client_name (client_name clients i))
client_named [] i h lt = absurd (omega arith)
client_named (c ∷ clients) zero h lt = h.0.0
client_named (c ∷ clients) (suc i) h lt = client_named clients i h.1 (omega arith)

call_line_fits : (clients : List ClientLine) (c : CallLine) → AllByRecursion IsClient clients → c.client < length clients → IsCall c.call → Fits 8400 (call_line_words clients c)
call_line_fits clients c h client call =
    let name : IsName (client_name clients c.client) = (and_parts (is_name (client_name clients c.client)) _ (client_named clients c.client h client)).0 in
    fits_most _ (call_line_words clients c) (lit≤ tt)
    (fits_more 16 8310 (client_name clients c.client) (call_words c.call) (name_word (client_name clients c.client) name) (name_length (client_name clients c.client) name).1 (call_fits c.call call))

are_words : (word : List ℕ) (words : List (List ℕ)) → Fits 8400 (word ∷ words) → AreWords (word ∷ words)
are_words word words f = f.are

all_append : (xs ys : List (List (List ℕ))) → AllByRecursion AreWords xs → AllByRecursion AreWords ys → AllByRecursion AreWords (xs ++ ys)
all_append [] ys p q = q
all_append (x ∷ xs) ys p q = (p.0, all_append xs ys p.1 q)

clients_valid : (clients : List ClientLine) → AllByRecursion IsClient clients → AllByRecursion AreWords (map client_words clients)
clients_valid [] h = tt
clients_valid (c ∷ clients) h = ((client_fits c h.0).are, clients_valid clients h.1)

calls_valid : (clients : List ClientLine) (n : ℕ) (calls : List CallLine) → AllByRecursion IsClient clients → AreCalls (length clients) n calls → AllByRecursion AreWords (map (call_line_words clients) calls)
calls_valid clients n [] is h = tt
calls_valid clients n (c ∷ calls) is h = ((call_line_fits clients c is h.1 h.2).are, calls_valid clients (suc n) calls is h.3)

phases_valid : (clients : List ClientLine) (n : ℕ) (phases : List (List CallLine)) → AllByRecursion IsClient clients → ArePhases (length clients) n phases → AllByRecursion AreWords (flat_map (phase_lines clients) phases)
phases_valid clients n [] is h = tt
phases_valid clients n (phase ∷ phases) is h =
    (phase_fits.are, all_append (map (call_line_words clients) phase) (flat_map (phase_lines clients) phases) (calls_valid clients (suc n) phase is h.0) (phases_valid clients (suc n + length phase) phases is h.1))

lines_valid : (s : Script) → IsScript s → AllByRecursion AreWords (script_lines s)
lines_valid s is = all_append (map client_words s.clients) (flat_map (phase_lines s.clients) s.phases) (clients_valid s.clients is.clients) (phases_valid s.clients (suc (length s.clients)) s.phases is.clients is.phases)

-- ---- reading line by line

-- reading lines of words
abbrev said : Script → ℕ → List (List (List ℕ)) → Result Script Refused
said s n lines = lines_at s n (map words_row lines)

said_step : (s t : Script) (n : ℕ) (words : List (List ℕ)) (lines : List (List (List ℕ))) → line_at s n (words_row words) ≡ Ok t → said s n (words ∷ lines) ≡ said t (suc n) lines
said_step s t n words lines e = ap (λ (r : Result Script ScriptWhy). go_on n r (λ u. said u (suc n) lines)) e

line_again : (s t : Script) (n : ℕ) (word : List ℕ) (words : List (List ℕ)) → Fits 8400 (word ∷ words) → n ≤ 2097152 → words_line_at s n (word ∷ words) ≡ Ok t → line_at s n (words_row (word ∷ words)) ≡ Ok t
unfolding line_at
line_again s t n word words f few e =
    let read = words_again (word ∷ words) f.are in
    let bytes = f.bytes in
    let short : ltb 8400 (length (join_with_byte 32 (word ∷ words))) ≡ false = le-ltb 8400 (length (join_with_byte 32 (word ∷ words))) (omega (arith, joined_cost word words)) in
    let low : ltb 2097152 n ≡ false = le-ltb 2097152 n few in
    step (of_words (words_at (words_row (word ∷ words)))) (word ∷ words) (λ ws. cond (ltb 2097152 n || ltb 8400 (length (join_with_byte 32 (word ∷ words)))) (Err why.Long) (words_line_at s n ws)) (ap of_words read)
    ∙ cond-false (ltb 2097152 n || ltb 8400 (length (join_with_byte 32 (word ∷ words)))) (Err why.Long) (words_line_at s n (word ∷ words)) (or_from _ _ low short)
    ∙ e

new_again : (front : List ClientLine) (c : ClientLine) → length front < 16 → has_client c.name front ≡ false → IsClient c → new_client_at (record { clients = front; phases = [] }) c.name c.machine ≡ Ok (record { clients = front ++ c ∷ []; phases = [] })
unfolding new_client_at
new_again front c room new is =
    let low : (ltb 0 0 || leb 16 (length front) || has_client c.name front) ≡ false = or_from _ _ (or_from _ _ refl (lt-leb 16 (length front) room)) new in
    let names : (is_client_name c.name && is_name c.machine) ≡ true = and_from _ _ is.0 is.1 in
    cond-false (ltb 0 0 || leb 16 (length front) || has_client c.name front) _ _ low ∙ cond-true (is_client_name c.name && is_name c.machine) _ _ names

clients_again : (front back : List ClientLine) (rest : List (List (List ℕ))) → AreDistinct (front ++ back) → AllByRecursion IsClient back → length front + length back ≤ 16
    → said (record { clients = front; phases = [] }) (suc (length front)) (map client_words back ++ rest) ≡ said (record { clients = front ++ back; phases = [] }) (suc (length front) + length back) rest
clients_again front [] rest d is few =
    let n : suc (length front) ≡ suc (length front) + 0 = omega arith in
    ap (λ (cs : List ClientLine). said (record { clients = cs; phases = [] }) (suc (length front)) rest) (sym (append-nil front)) ∙ ap (λ (k : ℕ). said (record { clients = front ++ []; phases = [] }) k rest) n
clients_again front (c ∷ back) rest d is few =
    let new = new_here front c back d in
    let read = line_again (record { clients = front; phases = [] }) (record { clients = front ++ c ∷ []; phases = [] }) (suc (length front)) (codes "client") (c.name ∷ c.machine ∷ []) (client_fits c is.0) (omega arith) (new_again front c (omega arith) new is.0) in
    let both = length-append front (c ∷ []) in
    let n : suc (suc (length front)) ≡ suc (length (front ++ c ∷ [])) = omega arith in
    let m : suc (length (front ++ c ∷ [])) + length back ≡ suc (length front) + suc (length back) = omega arith in
    let regrouped : (front ++ c ∷ []) ++ back ≡ front ++ c ∷ back = append_assoc front (c ∷ []) back in
    let rest_read = clients_again (front ++ c ∷ []) back rest (subst AreDistinct (sym regrouped) d) is.1 (omega arith) in
    said_step (record { clients = front; phases = [] }) (record { clients = front ++ c ∷ []; phases = [] }) (suc (length front)) (client_words c) (map client_words back ++ rest) read
    ∙ ap (λ (k : ℕ). said (record { clients = front ++ c ∷ []; phases = [] }) k (map client_words back ++ rest)) n
    ∙ rest_read
    ∙ ap (λ (cs : List ClientLine). said (record { clients = cs; phases = [] }) (suc (length (front ++ c ∷ [])) + length back) rest) regrouped
    ∙ ap (λ (k : ℕ). said (record { clients = front ++ c ∷ back; phases = [] }) k rest) m

-- a client's name begins no other line
client_starts : (word : List ℕ) → IsTrue (is_client_name word) → (bytes_eq word (codes "client") ≡ false) × (bytes_eq word (codes "phase") ≡ false)
client_starts word h =
    let other = not-true _ (and_parts (is_name word) (not (bytes_eq word (codes "client") || bytes_eq word (codes "phase") || bytes_eq word (codes "mount"))) h).1 in
    let a = or_parts (bytes_eq word (codes "client") || bytes_eq word (codes "phase")) (bytes_eq word (codes "mount")) other in
    or_parts (bytes_eq word (codes "client")) (bytes_eq word (codes "phase")) a.0

one_add : (n : ℕ) → suc 0 + n ≡ suc n
one_add n = omega arith

-- the script with a phase being read
abbrev in_phase : List ClientLine → List (List CallLine) → List CallLine → Script
in_phase clients earlier phase = record { clients = clients; phases = earlier ++ phase ∷ [] }

call_line_again : (clients : List ClientLine) (earlier : List (List CallLine)) (front : List CallLine) (c : CallLine) (n : ℕ) → AllByRecursion IsClient clients → AreDistinct clients → c.line ≡ n → c.client < length clients → IsCall c.call
    → words_line_at (in_phase clients earlier front) n (call_line_words clients c) ≡ Ok (in_phase clients earlier (front ++ c ∷ []))
unfolding call_line_at
call_line_again clients earlier front c n is distinct line client call =
    let who = client_name clients c.client in
    let phases = earlier ++ front ∷ [] in
    let starts = client_starts who (client_named clients c.client is client) in
    let both = length-append earlier (front ∷ []) in
    let some : eqb (length phases) 0 ≡ false = ne_eqb (length phases) 0 (λ e. absurd (omega (arith, e))) in
    let place : place_from 0 who clients ≡ Some c.client = place_again 0 clients c.client distinct client ∙ ap (λ (k : ℕ). Some k) (zero-add c.client) in
    let longer : CallLine → Script = λ (l : CallLine). record { clients = clients; phases = onto_last l phases } in
    let numbered : CallLine → CallLine → Type 0 = λ (a b : CallLine). a ≡ b in
    let same : numbered (record { line = n; client = c.client; call = c.call }) c = ap (λ (k : ℕ). record { line = k; client = c.client; call = c.call }) (sym line) in
    cond-false (bytes_eq who (codes "client")) _ _ starts.0 ∙ cond-false (bytes_eq who (codes "phase")) _ _ starts.1
    ∙ cond-false (eqb (length phases) 0) _ _ some
    ∙ step (or_why why.Who (place_from 0 who clients)) c.client (λ i. call_at (call_words c.call) >>= λ k. Ok (longer (record { line = n; client = i; call = k }))) (ap (or_why why.Who) place)
    ∙ step (call_at (call_words c.call)) c.call (λ k. Ok (longer (record { line = n; client = c.client; call = k }))) (call_again c.call call)
    ∙ ap (λ (l : CallLine). Ok (longer l)) same
    ∙ ap (λ (ps : List (List CallLine)). Ok (record { clients = clients; phases = ps })) (onto_last_of c earlier front)

calls_again : (clients : List ClientLine) (earlier : List (List CallLine)) (front back : List CallLine) (n : ℕ) (rest : List (List (List ℕ))) → AllByRecursion IsClient clients → AreDistinct clients → AreCalls (length clients) n back → n + length back ≤ 2097153
    → said (in_phase clients earlier front) n (map (call_line_words clients) back ++ rest) ≡ said (in_phase clients earlier (front ++ back)) (n + length back) rest
calls_again clients earlier front [] n rest is distinct h few =
    let m : n ≡ n + 0 = omega arith in
    ap (λ (p : List CallLine). said (in_phase clients earlier p) n rest) (sym (append-nil front)) ∙ ap (λ (k : ℕ). said (in_phase clients earlier (front ++ [])) k rest) m
calls_again clients earlier front (c ∷ back) n rest is distinct h few =
    let read = line_again (in_phase clients earlier front) (in_phase clients earlier (front ++ c ∷ [])) n (client_name clients c.client) (call_words c.call) (call_line_fits clients c is h.1 h.2) (omega arith) (call_line_again clients earlier front c n is distinct h.0 h.1 h.2) in
    let m : suc n + length back ≡ n + suc (length back) = omega arith in
    let regrouped : (front ++ c ∷ []) ++ back ≡ front ++ c ∷ back = append_assoc front (c ∷ []) back in
    said_step (in_phase clients earlier front) (in_phase clients earlier (front ++ c ∷ [])) n (call_line_words clients c) (map (call_line_words clients) back ++ rest) read
    ∙ calls_again clients earlier (front ++ c ∷ []) back (suc n) rest is distinct h.3 (omega arith)
    ∙ ap (λ (p : List CallLine). said (in_phase clients earlier p) (suc n + length back) rest) regrouped
    ∙ ap (λ (k : ℕ). said (in_phase clients earlier (front ++ c ∷ back)) k rest) m

phases_again : (clients : List ClientLine) (earlier later : List (List CallLine)) (n : ℕ) → AllByRecursion IsClient clients → AreDistinct clients → ArePhases (length clients) n later → n + length (flat_map (phase_lines clients) later) ≤ 2097153
    → said (record { clients = clients; phases = earlier }) n (flat_map (phase_lines clients) later) ≡ Ok (record { clients = clients; phases = earlier ++ later })
phases_again clients earlier [] n is distinct h few = ap (λ (ps : List (List CallLine)). Ok (record { clients = clients; phases = ps })) (sym (append-nil earlier))
phases_again clients earlier (phase ∷ later) n is distinct h few =
    let long = phases_length clients phase later in
    let start : Script = record { clients = clients; phases = earlier } in
    let read = line_again start (in_phase clients earlier []) n (codes "phase") [] phase_fits (omega arith) refl in
    let lines = calls_again clients earlier [] phase (suc n) (flat_map (phase_lines clients) later) is distinct h.0 (omega arith) in
    let others = phases_again clients (earlier ++ phase ∷ []) later (suc n + length phase) is distinct h.1 (omega arith) in
    let regrouped : (earlier ++ phase ∷ []) ++ later ≡ earlier ++ phase ∷ later = append_assoc earlier (phase ∷ []) later in
    said_step start (in_phase clients earlier []) n (codes "phase" ∷ []) (map (call_line_words clients) phase ++ flat_map (phase_lines clients) later) read
    ∙ lines
    ∙ others
    ∙ ap (λ (ps : List (List CallLine)). Ok (record { clients = clients; phases = ps })) regrouped

-- what is spelled is read
pub script_again : (s : Script) → IsScript s → script_at (spelling s) ≡ Ok s
script_again s is =
    let rows = rows_again (script_lines s) (lines_valid s is) in
    let count = length-append (map client_words s.clients) (flat_map (phase_lines s.clients) s.phases) in
    let mapped = length-map s.clients client_words in
    let few = is.few in
    let lines = is.lines in
    ap (lines_at (record { clients = []; phases = [] }) 1) rows
    ∙ clients_again [] s.clients (flat_map (phase_lines s.clients) s.phases) is.distinct is.clients (omega arith)
    ∙ ap (λ (k : ℕ). said (record { clients = s.clients; phases = [] }) k (flat_map (phase_lines s.clients) s.phases)) (one_add (length s.clients))
    ∙ phases_again s.clients [] s.phases (suc (length s.clients)) is.clients is.distinct is.phases (omega arith)
