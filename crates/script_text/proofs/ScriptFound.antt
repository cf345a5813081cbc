-- A script that is read is spelled so, each line of it.
use Rattle.std.proofs.Common.{◌≡◌, ℕ, zero, suc, ◌+◌, ◌<◌, ◌≤◌, List, [], ◌∷◌, ◌++◌, length, map, codes, Bool, true, false, cond, ◌&&◌, ◌||◌, eqb, ltb, leb, Result, Ok, Err, refl, sym, ap, subst, ◌∙◌, arith, append_assoc, length-append, inl, inr}
use Rattle.std.specs.List.{AllByRecursion, flat_map}
use Rattle.std.specs.Str.{bytes_eq}
use Rattle.std.proofs.lemmas.Bool.{and_parts, or_parts, ltb-false, leb-false, eqb-false, cases_Bool, cond-true, cond-false}
use Rattle.std.proofs.lemmas.List.{append-nil, length-map, map-append}
use Rattle.std.proofs.lemmas.List.Concat.{flat_map-append}
use Rattle.text_words.specs.Words.{is_name}
use Rattle.text_words.specs.declared.lines.LineWhy.{LineWhy}
use Rattle.text_words.specs.Lines.{Row, rows_of, row_bytes, words_at, line_of, text_of}
use Rattle.text_words.proofs.LineLaws.{words_bytes, rows_joined}
use Rattle.script_text.specs.declared.script.CallLine.{CallLine}
use Rattle.script_text.specs.declared.script.ClientLine.{ClientLine}
use Rattle.script_text.specs.declared.script.Script.{Script}
use Rattle.script_text.specs.declared.why.ScriptWhy.{ScriptWhy}
use Rattle.script_text.specs.declared.why.ScriptWhy.TheVariants as why
use Rattle.script_text.specs.declared.why.Refused.{Refused}
use Rattle.script_text.specs.Grammar.{IsCall, IsClient, is_client_name, has_client, client_words, client_name, call_line_words, phase_lines, script_lines, spelling, IsScript, call_words}
use Rattle.script_text.specs.Reading.{◌>>=◌, or_why, new_client_at, client_at, phase_at, place_from, onto_last, call_at, call_line_at, words_line_at, of_words, line_at, go_on, lines_at, script_at}
use Rattle.script_text.proofs.Fields.{done, ok_is, bind_ok, some_of, same_word}
use Rattle.script_text.proofs.CallLaws.{call_found}
use Rattle.script_text.proofs.ClientLaws.{distinct_more, place_found}
use Rattle.script_text.proofs.Phases.{phases_more, phases_onto, onto_lines}

-- a script with one line more
record Longer (script : Script) (words : List (List ℕ)) (longer : Script) : Type 0 where
  is : IsScript longer
  lines : script_lines longer ≡ script_lines script ++ words ∷ []

one_more : (script longer : Script) (words : List (List ℕ)) (n : ℕ) → suc (length (script_lines script)) ≡ n → n ≤ 2097152 → script_lines longer ≡ script_lines script ++ words ∷ [] → length (script_lines longer) ≤ 2097152
one_more script longer words n count few lines =
    let both = length-append (script_lines script) (words ∷ []) in
    let same = ap length lines in
    omega arith

clients_more : (clients : List ClientLine) (c : ClientLine) → AllByRecursion IsClient clients → IsClient c → AllByRecursion IsClient (clients ++ c ∷ [])
clients_more [] c h is = (is, tt)
clients_more (d ∷ clients) c h is = (h.0, clients_more clients c h.1 is)

guards : (a b : Bool) (x y : Script) → cond a (Err why.Client) (cond b (done x) (Err why.Name)) ≡ done y → (a ≡ false) × (b ≡ true) × (x ≡ y)
guards true b x y e = absurd cc
guards false true x y e = (refl, refl, ok_is x y e)
guards false false x y e = absurd cc

-- a client line
client_longer : (clients : List ClientLine) (c : ClientLine) (n : ℕ) → IsScript (record { clients = clients; phases = [] }) → suc (length (script_lines (record { clients = clients; phases = [] }))) ≡ n → n ≤ 2097152
    → length clients < 16 → has_client c.name clients ≡ false → IsClient c → Longer (record { clients = clients; phases = [] }) (client_words c) (record { clients = clients ++ c ∷ []; phases = [] })
client_longer clients c n s count few room new is =
    let lines : script_lines (record { clients = clients ++ c ∷ []; phases = [] }) ≡ script_lines (record { clients = clients; phases = [] }) ++ client_words c ∷ [] =
    append-nil (map client_words (clients ++ c ∷ [])) ∙ map-append client_words clients (c ∷ []) ∙ ap (λ (ls : List (List (List ℕ))). ls ++ client_words c ∷ []) (sym (append-nil (map client_words clients))) in
    record {
      is = record {
        clients = clients_more clients c s.clients is;
        distinct = distinct_more clients c s.distinct new;
        few = omega (arith, length-append clients (c ∷ []));
        phases = tt;
        lines = one_more (record { clients = clients; phases = [] }) (record { clients = clients ++ c ∷ []; phases = [] }) (client_words c) n count few lines;
      };
      lines = lines;
    }

new_client_found : (clients : List ClientLine) (phases : List (List CallLine)) (name machine : List ℕ) (n : ℕ) (t : Script) → IsScript (record { clients = clients; phases = phases }) → suc (length (script_lines (record { clients = clients; phases = phases }))) ≡ n → n ≤ 2097152
    → new_client_at (record { clients = clients; phases = phases }) name machine ≡ Ok t → Longer (record { clients = clients; phases = phases }) (codes "client" ∷ name ∷ machine ∷ []) t
unfolding new_client_at
new_client_found clients [] name machine n t s count few e =
    let c : ClientLine = record { name = name; machine = machine } in
    let g = guards (ltb 0 0 || leb 16 (length clients) || has_client name clients) (is_client_name name && is_name machine) (record { clients = clients ++ c ∷ []; phases = [] }) t e in
    let a = or_parts (leb 16 (length clients)) (has_client name clients) g.0 in
    let room = leb-false 16 (length clients) a.0 in
    subst (λ (u : Script). Longer (record { clients = clients; phases = [] }) (client_words c) u) g.2
    (client_longer clients c n s count few room a.1 (and_parts (is_client_name name) (is_name machine) g.1))
new_client_found clients (phase ∷ phases) name machine n t s count few e =
    let c : ClientLine = record { name = name; machine = machine } in
    let g = guards (ltb 0 (length (phase ∷ phases)) || leb 16 (length clients) || has_client name clients) (is_client_name name && is_name machine) (record { clients = clients ++ c ∷ []; phases = phase ∷ phases }) t e in
    let a = or_parts (ltb 0 (length (phase ∷ phases)) || leb 16 (length clients)) (has_client name clients) g.0 in
    let b = or_parts (ltb 0 (length (phase ∷ phases))) (leb 16 (length clients)) a.0 in
    absurd (omega (arith, ltb-false 0 (length (phase ∷ phases)) b.0))

client_found : (s : Script) (words : List (List ℕ)) (n : ℕ) (t : Script) → IsScript s → suc (length (script_lines s)) ≡ n → n ≤ 2097152 → client_at s words ≡ Ok t → Longer s (codes "client" ∷ words) t
client_found s [] n t is count few e = absurd cc
client_found s (name ∷ []) n t is count few e = absurd cc
client_found s (name ∷ machine ∷ []) n t is count few e = new_client_found s.clients s.phases name machine n t is count few e
client_found s (name ∷ machine ∷ other ∷ words) n t is count few e = absurd cc

-- a phase line
phase_found : (s : Script) (words : List (List ℕ)) (n : ℕ) (t : Script) → IsScript s → suc (length (script_lines s)) ≡ n → n ≤ 2097152 → phase_at s words ≡ Ok t → Longer s (codes "phase" ∷ words) t
phase_found s (word ∷ words) n t is count few e = absurd cc
phase_found s [] n t is count few e =
    let longer : Script = record { clients = s.clients; phases = s.phases ++ [] ∷ [] } in
    let lines : script_lines longer ≡ script_lines s ++ (codes "phase" ∷ []) ∷ [] =
    ap (λ (ls : List (List (List ℕ))). map client_words s.clients ++ ls) (flat_map-append (phase_lines s.clients) s.phases ([] ∷ []))
    ∙ sym (append_assoc (map client_words s.clients) (flat_map (phase_lines s.clients) s.phases) ((codes "phase" ∷ []) ∷ [])) in
    subst (λ (u : Script). Longer s (codes "phase" ∷ []) u) (ok_is longer t e)
    (record {
      is = record {
        clients = is.clients;
        distinct = is.distinct;
        few = is.few;
        phases = phases_more (length s.clients) (suc (length s.clients)) s.phases is.phases;
        lines = one_more s longer (codes "phase" ∷ []) n count few lines;
      };
      lines = lines;
    })

some_phases : {A : Type 0} (b : Bool) (r : Result A ScriptWhy) (x : A) → cond b (Err why.Phase) r ≡ done x → (b ≡ false) × (r ≡ done x)
some_phases true r x e = absurd cc
some_phases false r x e = (refl, e)

positive : (n : ℕ) → (n ≡ 0 → ⊥) → 0 < n
positive zero h = absurd (h refl)
positive (suc n) h = omega arith

abbrev pub ok_of : Script → Result Script Refused
ok_of s = Ok s

pub ok_script : (s t : Script) → ok_of s ≡ ok_of t → s ≡ t
ok_script s t e = cc

-- a call line
call_longer : (s : Script) (c : CallLine) (n : ℕ) → IsScript s → suc (length (script_lines s)) ≡ n → n ≤ 2097152 → 0 < length s.phases → c.line ≡ n → c.client < length s.clients → IsCall c.call
    → Longer s (call_line_words s.clients c) (record { clients = s.clients; phases = onto_last c s.phases })
call_longer s c n is count few some line client call =
    let longer : Script = record { clients = s.clients; phases = onto_last c s.phases } in
    let lines : script_lines longer ≡ script_lines s ++ call_line_words s.clients c ∷ [] =
    ap (λ (ls : List (List (List ℕ))). map client_words s.clients ++ ls) (onto_lines s.clients s.phases c some)
    ∙ sym (append_assoc (map client_words s.clients) (flat_map (phase_lines s.clients) s.phases) (call_line_words s.clients c ∷ [])) in
    let both = length-append (map client_words s.clients) (flat_map (phase_lines s.clients) s.phases) in
    let mapped = length-map s.clients client_words in
    let place : c.line ≡ suc (length s.clients) + length (flat_map (phase_lines s.clients) s.phases) = omega arith in
    record {
      is = record {
        clients = is.clients;
        distinct = is.distinct;
        few = is.few;
        phases = phases_onto s.clients (length s.clients) (suc (length s.clients)) s.phases c is.phases some place client call;
        lines = one_more s longer (call_line_words s.clients c) n count few lines;
      };
      lines = lines;
    }

call_line_found : (s : Script) (who : List ℕ) (words : List (List ℕ)) (n : ℕ) (t : Script) → IsScript s → suc (length (script_lines s)) ≡ n → n ≤ 2097152 → call_line_at s n who words ≡ Ok t → Longer s (who ∷ words) t
unfolding call_line_at
call_line_found s who words n t is count few e =
    let g = some_phases (eqb (length s.phases) 0) (or_why why.Who (place_from 0 who s.clients) >>= λ client. call_at words >>= λ call. Ok (record { clients = s.clients; phases = onto_last (record { line = n; client = client; call = call }) s.phases })) t e in
    let some : 0 < length s.phases = positive (length s.phases) (eqb-false (length s.phases) 0 g.0) in
    let a = bind_ok (or_why why.Who (place_from 0 who s.clients)) (λ client. call_at words >>= λ call. Ok (record { clients = s.clients; phases = onto_last (record { line = n; client = client; call = call }) s.phases })) t g.1 in
    let b = bind_ok (call_at words) (λ call. Ok (record { clients = s.clients; phases = onto_last (record { line = n; client = a.0; call = call }) s.phases })) t a.2 in
    let place = place_found 0 who s.clients a.0 (some_of why.Who (place_from 0 who s.clients) a.0 a.1) in
    let call = call_found words b.0 b.1 in
    let c : CallLine = record { line = n; client = a.0; call = b.0 } in
    let number : a.0 ≡ place.0 = omega (arith, place.1) in
    let named : client_name s.clients a.0 ≡ who = ap (client_name s.clients) number ∙ place.3 in
    let inside : a.0 < length s.clients = omega (arith, place.1, place.2) in
    let spelled : call_line_words s.clients c ≡ who ∷ words = ap (λ (w : List ℕ). w ∷ call_words b.0) named ∙ ap (λ (ws : List (List ℕ)). who ∷ ws) (sym call.1) in
    subst (λ (u : Script). Longer s (who ∷ words) u) (ok_is (record { clients = s.clients; phases = onto_last c s.phases }) t b.2)
    (subst (λ (ws : List (List ℕ)). Longer s ws (record { clients = s.clients; phases = onto_last c s.phases })) spelled
    (call_longer s c n is count few some refl inside call.0))

words_found : (s : Script) (words : List (List ℕ)) (n : ℕ) (t : Script) → IsScript s → suc (length (script_lines s)) ≡ n → n ≤ 2097152 → words_line_at s n words ≡ Ok t → Longer s words t
words_found s [] n t is count few e = absurd cc
words_found s (first ∷ words) n t is count few e =
    elim (cases_Bool (bytes_eq first (codes "client"))) [
      | inl yes_client ↦
          let taken : client_at s words ≡ Ok t = sym (cond-true _ (client_at s words) _ yes_client) ∙ e in
          subst (λ (w : List ℕ). Longer s (w ∷ words) t) (sym (same_word first (codes "client") yes_client)) (client_found s words n t is count few taken)
      | inr no_client ↦ elim (cases_Bool (bytes_eq first (codes "phase"))) [
        | inl yes_phase ↦
            let taken : phase_at s words ≡ Ok t = sym (cond-false _ (client_at s words) _ no_client ∙ cond-true _ (phase_at s words) _ yes_phase) ∙ e in
            subst (λ (w : List ℕ). Longer s (w ∷ words) t) (sym (same_word first (codes "phase") yes_phase)) (phase_found s words n t is count few taken)
        | inr no_phase ↦
            let taken : call_line_at s n first words ≡ Ok t = sym (cond-false _ (client_at s words) _ no_client ∙ cond-false _ (phase_at s words) _ no_phase) ∙ e in
            call_line_found s first words n t is count few taken
      ]
    ]

read_words : (r : Result (List (List ℕ)) LineWhy) (words : List (List ℕ)) → of_words r ≡ Ok words → r ≡ Ok words
read_words (Ok ws) words e = let same : ws ≡ words = ok_is ws words e in ap (λ (x : List (List ℕ)). Ok x) same
read_words (Err w) words e = absurd cc

not_long : (b : Bool) (r : Result Script ScriptWhy) (t : Script) → cond b (Err why.Long) r ≡ done t → (b ≡ false) × (r ≡ done t)
not_long true r t e = absurd cc
not_long false r t e = (refl, e)

text_more : (s t : Script) (words : List (List ℕ)) (row : Row) → script_lines t ≡ script_lines s ++ words ∷ [] → row_bytes row ≡ line_of words → spelling t ≡ spelling s ++ row_bytes row
text_more s t words row lines row_is =
    ap text_of lines ∙ flat_map-append line_of (script_lines s) (words ∷ []) ∙ ap (λ (bs : List ℕ). spelling s ++ bs) (append-nil (line_of words) ∙ sym row_is)

-- a line that is read: the script has it at its end
line_found : (s : Script) (n : ℕ) (row : Row) (t : Script) → IsScript s → suc (length (script_lines s)) ≡ n → line_at s n row ≡ Ok t
    → IsScript t × (suc (length (script_lines t)) ≡ suc n) × (spelling t ≡ spelling s ++ row_bytes row)
unfolding line_at
line_found s n row t is count e =
    let a = bind_ok (of_words (words_at row)) (λ words. cond (ltb 2097152 n || ltb 8400 (length row.body)) (Err why.Long) (words_line_at s n words)) t e in
    let g = not_long (ltb 2097152 n || ltb 8400 (length row.body)) (words_line_at s n a.0) t a.2 in
    let few = ltb-false 2097152 n (or_parts (ltb 2097152 n) (ltb 8400 (length row.body)) g.0).0 in
    let longer = words_found s a.0 n t is count few g.1 in
    let bytes = words_bytes row a.0 (read_words (words_at row) a.0 a.1) in
    let both = length-append (script_lines s) (a.0 ∷ []) in
    let same = ap length longer.lines in
    (longer.is, omega arith, text_more s t a.0 row longer.lines bytes)

go_on_ok : (n : ℕ) (r : Result Script ScriptWhy) (next : Script → Result Script Refused) (t : Script) → go_on n r next ≡ Ok t → (u : Script) × (r ≡ Ok u) × (next u ≡ Ok t)
go_on_ok n (Ok u) next t e = (u, refl, e)
go_on_ok n (Err w) next t e = absurd cc

lines_found : (rows : List Row) (s : Script) (n : ℕ) (t : Script) → IsScript s → suc (length (script_lines s)) ≡ n → lines_at s n rows ≡ Ok t → IsScript t × (spelling t ≡ spelling s ++ flat_map row_bytes rows)
lines_found [] s n t is count e =
    let same : s ≡ t = ok_script s t e in
    (subst IsScript same is, ap spelling (sym same) ∙ sym (append-nil (spelling s)))
lines_found (row ∷ rows) s n t is count e =
    let g = go_on_ok n (line_at s n row) (λ next. lines_at next (suc n) rows) t e in
    let one = line_found s n row g.0 is count g.1 in
    let rest = lines_found rows g.0 (suc n) t one.0 one.1 g.2 in
    (rest.0, rest.1 ∙ ap (λ (bs : List ℕ). bs ++ flat_map row_bytes rows) one.2 ∙ append_assoc (spelling s) (row_bytes row) (flat_map row_bytes rows))

no_script : IsScript (record { clients = []; phases = [] })
no_script = record { clients = tt; distinct = tt; few = omega arith; phases = tt; lines = omega arith }

-- a text that is read is spelled so
pub script_found : (text : List ℕ) (t : Script) → script_at text ≡ Ok t → IsScript t × (text ≡ spelling t)
script_found text t e =
    let all = lines_found (rows_of text) (record { clients = []; phases = [] }) 1 t no_script refl e in
    (all.0, sym (all.1 ∙ rows_joined text))
