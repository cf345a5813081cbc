-- The last phase, and a line at its end.
use Rattle.std.proofs.Common.{◌≡◌, ℕ, suc, ◌+◌, ◌<◌, List, [], ◌∷◌, ◌++◌, length, map, codes, refl, sym, ap, ◌∙◌, arith, append_assoc, length-append}
use Rattle.std.specs.List.{flat_map}
use Rattle.std.proofs.lemmas.List.{append-nil, length-map, map-append}
use Rattle.script_text.specs.declared.script.ClientLine.{ClientLine}
use Rattle.script_text.specs.Grammar.{IsCall, AreCalls, ArePhases, phase_lines, call_line_words}
use Rattle.script_text.specs.declared.script.CallLine.{CallLine}
use Rattle.script_text.specs.Reading.{onto_last}

pub onto_last_of : (line : CallLine) (front : List (List CallLine)) (last : List CallLine) → onto_last line (front ++ last ∷ []) ≡ front ++ (last ++ line ∷ []) ∷ []
onto_last_of line [] last = refl
onto_last_of line (phase ∷ []) last = refl
onto_last_of line (phase ∷ next ∷ front) last = ap (λ (ps : List (List CallLine)). phase ∷ ps) (onto_last_of line (next ∷ front) last)

pub onto_last_step : (line : CallLine) (phases vec front longer new : List (List CallLine)) (last more : List CallLine) → vec ≡ phases → vec ≡ front ++ last ∷ [] → more ≡ last ++ line ∷ [] → longer ≡ front ++ more ∷ [] → new ≡ longer → new ≡ onto_last line phases
onto_last_step line phases vec front longer new last more same popped pushed put is =
    is ∙ put ∙ ap (λ (p : List CallLine). front ++ p ∷ []) pushed ∙ sym (onto_last_of line front last) ∙ ap (onto_last line) (sym popped ∙ same)

pub calls_more : (count n : ℕ) (cs : List CallLine) (c : CallLine) → AreCalls count n cs → c.line ≡ n + length cs → c.client < count → IsCall c.call → AreCalls count n (cs ++ c ∷ [])
calls_more count n [] c h line client call = (omega arith, client, call, tt)
calls_more count n (d ∷ cs) c h line client call = (h.0, h.1, h.2, calls_more count (suc n) cs c h.3 (omega arith) client call)

pub phases_more : (count n : ℕ) (phases : List (List CallLine)) → ArePhases count n phases → ArePhases count n (phases ++ [] ∷ [])
phases_more count n [] h = (tt, tt)
phases_more count n (phase ∷ phases) h = (h.0, phases_more count (suc n + length phase) phases h.1)

-- how many lines the phases have
pub phases_length : (clients : List ClientLine) (phase : List CallLine) (phases : List (List CallLine)) → length (flat_map (phase_lines clients) (phase ∷ phases)) ≡ suc (length phase) + length (flat_map (phase_lines clients) phases)
phases_length clients phase phases =
    let both = length-append (phase_lines clients phase) (flat_map (phase_lines clients) phases) in
    let mapped : length (map (call_line_words clients) phase) ≡ length phase = length-map phase (call_line_words clients) in
    omega arith

pub phases_onto : (clients : List ClientLine) (count n : ℕ) (phases : List (List CallLine)) (c : CallLine) → ArePhases count n phases → 0 < length phases → c.line ≡ n + length (flat_map (phase_lines clients) phases) → c.client < count → IsCall c.call → ArePhases count n (onto_last c phases)
phases_onto clients count n [] c h some line client call = absurd (omega arith)
phases_onto clients count n (phase ∷ []) c h some line client call =
    let l = phases_length clients phase [] in
    (calls_more count (suc n) phase c h.0 (omega arith) client call, tt)
phases_onto clients count n (phase ∷ next ∷ phases) c h some line client call =
    let l = phases_length clients phase (next ∷ phases) in
    (h.0, phases_onto clients count (suc n + length phase) (next ∷ phases) c h.1 (omega arith) (omega arith) client call)

-- a line at the end of the last phase is the last line
pub onto_lines : (clients : List ClientLine) (phases : List (List CallLine)) (c : CallLine) → 0 < length phases → flat_map (phase_lines clients) (onto_last c phases) ≡ flat_map (phase_lines clients) phases ++ call_line_words clients c ∷ []
onto_lines clients [] c some = absurd (omega arith)
onto_lines clients (phase ∷ []) c some =
    append-nil (phase_lines clients (phase ++ c ∷ []))
    ∙ ap (λ (ls : List (List (List ℕ))). (codes "phase" ∷ []) ∷ ls) (map-append (call_line_words clients) phase (c ∷ []))
    ∙ ap (λ (ls : List (List (List ℕ))). ls ++ call_line_words clients c ∷ []) (sym (append-nil (phase_lines clients phase)))
onto_lines clients (phase ∷ next ∷ phases) c some =
    ap (λ (ls : List (List (List ℕ))). phase_lines clients phase ++ ls) (onto_lines clients (next ∷ phases) c (omega arith))
    ∙ sym (append_assoc (phase_lines clients phase) (flat_map (phase_lines clients) (next ∷ phases)) (call_line_words clients c ∷ []))
