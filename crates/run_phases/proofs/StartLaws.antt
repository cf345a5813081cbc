-- How many lines a client has, and the clients one after another.
use Rattle.std.proofs.Common.{◌≡◌, ℕ, zero, suc, ◌+◌, ◌<◌, ◌≤◌, ◌==◌, Bool, true, false, cond, List, [], ◌∷◌, ◌++◌, length, map, take, get_or, vec_capacity, Option, sym, ap, subst, ◌∙◌, arith, length-append}
use Rattle.std.specs.List.{flat_map}
use Rattle.std.proofs.lemmas.List.{take_more, length-map, append-nil, length-take-le}
use Rattle.std.proofs.lemmas.Grind.{flat_map-append}
use Rattle.script_text.specs.declared.script.CallLine.{CallLine}
use Rattle.script_text.specs.declared.script.ClientLine.{ClientLine}
use Rattle.script_text.specs.declared.script.Script.{Script}
use Rattle.script_text.specs.Grammar.{client_words, call_line_words, phase_lines, IsScript}
use Rattle.stack_accept.specs.Mount.{Mount}
use Rattle.script_meaning.specs.Fits.{lines_of}
use Rattle.run_phases.specs.declared.worker.Worker.{Worker}
use Rattle.run_phases.specs.Workers.{IsStarted, AreStarted, HaveRoom}

own-le : (b : Bool) (l : CallLine) (xs : List CallLine) (n : ℕ) → length xs ≤ n → length (cond b (l ∷ xs) xs) ≤ suc n
own-le true l xs n le = omega arith
own-le false l xs n le = omega arith

lines-le : (k : ℕ) (phase : List CallLine) → length (lines_of k phase) ≤ length phase
lines-le k [] = omega arith
lines-le k (l ∷ phase) = own-le (l.client == k) l (lines_of k phase) (length phase) (lines-le k phase)

phases-le : (clients : List ClientLine) (k : ℕ) (phases : List (List CallLine)) → length (flat_map (lines_of k) phases) ≤ length (flat_map (phase_lines clients) phases)
phases-le clients k [] = omega arith
phases-le clients k (p ∷ phases) =
    let rest = phases-le clients k phases in
    let own = lines-le k p in
    let e = length-append (lines_of k p) (flat_map (lines_of k) phases) in
    let f = length-append (map (call_line_words clients) p) (flat_map (phase_lines clients) phases) in
    let m = length-map p (call_line_words clients) in
    omega (arith, rest, own, e, f, m)

-- a client has no more lines than the script
pub few-lines : (script : Script) (k : ℕ) → IsScript script → length (flat_map (lines_of k) script.phases) ≤ 2097152
few-lines script k is =
    let le = phases-le script.clients k script.phases in
    let e = length-append (map client_words script.clients) (flat_map (phase_lines script.clients) script.phases) in
    let all = is.lines in
    omega (arith, le, e, all)

-- the lines of the first phases and of the next are some of all
pub phase-of : (phases : List (List CallLine)) (i k : ℕ) (d : List CallLine) → i < length phases
    → length (flat_map (lines_of k) (take i phases)) + length (lines_of k (get_or phases i d)) ≤ length (flat_map (lines_of k) phases)
phase-of [] i k d lt = absurd (omega arith)
phase-of (p ∷ phases) zero k d lt = let e = length-append (lines_of k p) (flat_map (lines_of k) phases) in omega arith
phase-of (p ∷ phases) (suc i) k d lt =
    let rest = phase-of phases i k d (omega arith) in
    let e = length-append (lines_of k p) (flat_map (lines_of k) phases) in
    let f = length-append (lines_of k p) (flat_map (lines_of k) (take i phases)) in
    omega (arith, rest, e, f)

-- the lines of one more phase
pub lines-more : (phases : List (List CallLine)) (i k : ℕ) (phase : List CallLine) → phase ≡ get_or phases i phase → i < length phases
    → length (flat_map (lines_of k) (take (i + 1) phases)) ≡ length (flat_map (lines_of k) (take i phases)) + length (lines_of k phase)
lines-more phases i k phase is lt =
    ap (λ (ps : List (List CallLine)). length (flat_map (lines_of k) ps)) (take_more phases i phase lt ∙ ap (λ (p : List CallLine). take i phases ++ p ∷ []) (sym is))
    ∙ (ap length (flat_map-append (lines_of k) (take i phases) (phase ∷ []) ∙ ap (λ (ls : List CallLine). flat_map (lines_of k) (take i phases) ++ ls) (append-nil (lines_of k phase)))
    ∙ length-append (flat_map (lines_of k) (take i phases)) (lines_of k phase))

-- one more client
started-more : (mount : Mount) (loss : Option ℕ) (caller : ℕ) (lines : List ClientLine) (workers : List Worker) (line : ClientLine) (worker : Worker) → AreStarted mount loss caller lines workers → IsStarted mount loss (caller + length lines) line worker
    → AreStarted mount loss caller (lines ++ line ∷ []) (workers ++ worker ∷ [])
started-more mount loss caller [] [] line worker so is = (subst (λ n. IsStarted mount loss n line worker) (omega arith) is, tt)
started-more mount loss caller [] (w ∷ workers) line worker so is = absurd so
started-more mount loss caller (l ∷ lines) [] line worker so is = absurd so
started-more mount loss caller (l ∷ lines) (w ∷ workers) line worker so is = (so.0, started-more mount loss (suc caller) lines workers line worker so.1 (subst (λ n. IsStarted mount loss n line worker) (omega arith) is))

-- one more client, by its number
pub started-next : (mount : Mount) (loss : Option ℕ) (lines : List ClientLine) (i : ℕ) (workers : List Worker) (d : ClientLine) (worker : Worker) → i < length lines → AreStarted mount loss 0 (take i lines) workers → IsStarted mount loss i (get_or lines i d) worker
    → AreStarted mount loss 0 (take (i + 1) lines) (workers ++ worker ∷ [])
started-next mount loss lines i workers d worker lt so is =
    subst (λ (ls : List ClientLine). AreStarted mount loss 0 ls (workers ++ worker ∷ [])) (sym (take_more lines i d lt))
    (started-more mount loss 0 (take i lines) workers (get_or lines i d) worker so (let len = length-take-le i lines (omega arith) in let place : i ≡ 0 + length (take i lines) = omega (arith, len) in subst (λ n. IsStarted mount loss n (get_or lines i d) worker) place is))

-- the clients have room for their answers, and so has one more
pub room-more : (phases : List (List CallLine)) (workers : List Worker) (worker : Worker) → HaveRoom phases workers → worker.said.items ≡ [] → length (flat_map (lines_of worker.client.caller) phases) ≤ vec_capacity worker.said → HaveRoom phases (workers ++ worker ∷ [])
room-more phases [] worker room silent fits = let none = ap length silent in (omega (arith, none, fits), tt)
room-more phases (w ∷ workers) worker room silent fits = (room.0, room-more phases workers worker room.1 silent fits)
