-- From phases and closing syncs to the logs that fit a script.
use Rattle.std.proofs.Common.{◌≡◌, inr, ℕ, suc, ◌+◌, ◌<◌, ◌≤◌, List, [], ◌∷◌, length, map, refl, sym, ap, subst, ◌∙◌, arith}
use Rattle.std.specs.Prelude.{Option, Some, None, unwrap_or, position}
use Rattle.std.specs.Str.{bytes_eq}
use Rattle.std.proofs.lemmas.List.Quantifiers.{position-Some}
use Rattle.std.specs.List.{AllByRecursion}
use Rattle.std.proofs.lemmas.List.{length-map}
use Rattle.script_text.specs.declared.script.CallLine.{CallLine}
use Rattle.script_text.specs.declared.script.ClientLine.{ClientLine}
use Rattle.script_text.specs.declared.script.Script.{Script}
use Rattle.script_text.specs.declared.script.Said.{Said}
use Rattle.script_text.specs.declared.script.Reply.{Reply}
use Rattle.stack_accept.specs.Mount.{Mount, number_in}
use Rattle.stack_accept.specs.declared.entries.Kind.TheVariants as kinds
use Rattle.stack_accept.specs.Sound.{IsMount}
use Rattle.client_objects.specs.declared.state.ClientState.{ClientState}
use Rattle.name_context.specs.History.{NamesSeen, IsStory}
use Rattle.client_objects.specs.Views.{names_at_start}
use Rattle.script_meaning.specs.Log.{Histories}
use Rattle.spr_client.specs.Calls.{histories}
use Rattle.tower_log.specs.declared.logged.Logged.{Logged}
use Rattle.script_meaning.specs.Fits.{Did, Acts, ClientFits, ClientsFit, AreAnswered, IsAnswered, FitsScript, last_cut}
use Rattle.stack_engine.specs.Engine.{log_in}
use Rattle.stack_engine.specs.Tower.{TowerSeen}
use Rattle.spr_volume.specs.Passes.{AreBack, AreNamesBack, Knows, as_known, known, logs}
use Rattle.spr_client.specs.Lines.{IsOnMachine}
use Rattle.spr_client.proofs.Spaces.{on_machine-start}
use Rattle.run_phases.specs.declared.worker.Worker.{Worker}
use Rattle.run_phases.specs.Workers.{IsStarted, AreStarted, AreReady, IsSilent}
use Rattle.run_phases.specs.Phases.{ClientDone, ClientsDone, PhasesDone}
use Rattle.run_phases.specs.Closing.{EndsQuietly, FilesClosed}
use Rattle.run_files.specs.Play.{AreMadeUpTo, IsUnwritten, IsPlayed, ArePlayed, unnamed}
use Rattle.run_files.proofs.TowerLaws.{entries-up-to, known-tower, made-at, made-up-to}
use Rattle.run_files.proofs.ClosedLaws.{closed-now}

pub length-started : (mount : Mount) (loss : Option ℕ) (caller : ℕ) (lines : List ClientLine) (workers : List Worker) → AreStarted mount loss caller lines workers → length workers ≡ length lines
length-started mount loss caller [] [] h = refl
length-started mount loss caller [] (w ∷ ws) h = absurd h
length-started mount loss caller (l ∷ ls) [] h = absurd h
length-started mount loss caller (l ∷ ls) (w ∷ ws) h = ap suc (length-started mount loss (suc caller) ls ws h.1)

pub length-done : (mount : Mount) (phases : List (List CallLine)) (start : Histories) (cuts : List Histories) (ws ns : List Worker) → ClientsDone mount phases start cuts ws ns → length ns ≡ length ws
length-done mount phases start cuts [] [] h = refl
length-done mount phases start cuts [] (n ∷ ns) h = absurd h
length-done mount phases start cuts (w ∷ ws) [] h = absurd h
length-done mount phases start cuts (w ∷ ws) (n ∷ ns) h = ap suc (length-done mount phases start cuts ws ns h.1)

-- the part of a client
client-fits : (mount : Mount) (loss : Option ℕ) (phases : List (List CallLine)) (start : Histories) (cuts : List Histories) (final : Histories) (k : ℕ) (line : ClientLine) (w n : Worker) → IsStarted mount loss k line w
    → ClientDone mount phases start cuts w n → Did k (last_cut start cuts) final [] → ClientFits mount loss phases start cuts final k line n.said.items
client-fits mount loss phases start cuts final k line w n begun done after = record {
  left = n.client.state;
  acts = subst (λ x. Acts mount k x phases start cuts n.said.items n.client.state) begun.state_is
      (subst (λ x. Acts mount x w.client.state phases start cuts n.said.items n.client.state) begun.caller_is done.acts);
  after = after;
}

-- the parts of the clients from this one on
clients-fit : (mount : Mount) (loss : Option ℕ) (phases : List (List CallLine)) (start : Histories) (cuts : List Histories) (final : Histories) (first : ℕ) (lines : List ClientLine) (ws ns : List Worker)
    → AreStarted mount loss first lines ws → ClientsDone mount phases start cuts ws ns → ((k : ℕ) → first ≤ k → k < first + length lines → Did k (last_cut start cuts) final [])
    → ClientsFit mount loss phases start cuts final first lines (map (λ w. w.said.items) ns)
clients-fit mount loss phases start cuts final first [] [] [] begun done after = tt
clients-fit mount loss phases start cuts final first [] [] (n ∷ ns) begun done after = absurd done
clients-fit mount loss phases start cuts final first [] (w ∷ ws) ns begun done after = absurd begun
clients-fit mount loss phases start cuts final first (l ∷ ls) [] ns begun done after = absurd begun
clients-fit mount loss phases start cuts final first (l ∷ ls) (w ∷ ws) [] begun done after = absurd done
clients-fit mount loss phases start cuts final first (l ∷ ls) (w ∷ ws) (n ∷ ns) begun done after = (
  client-fits mount loss phases start cuts final first l w n begun.0 done.0 (after first (omega arith) (omega arith)),
  clients-fit mount loss phases start cuts final (suc first) ls ws ns begun.1 done.1 (λ k low high. after k (omega (arith, low)) (omega (arith, high))),
)

-- each client has answered its lines
clients-answered : (mount : Mount) (loss : Option ℕ) (phases : List (List CallLine)) (start : Histories) (cuts : List Histories) (first : ℕ) (lines : List ClientLine) (ws ns : List Worker) → AreStarted mount loss first lines ws
    → ClientsDone mount phases start cuts ws ns → AreAnswered phases first lines (map (λ w. w.said.items) ns)
clients-answered mount loss phases start cuts first [] [] [] begun done = tt
clients-answered mount loss phases start cuts first [] [] (n ∷ ns) begun done = absurd done
clients-answered mount loss phases start cuts first [] (w ∷ ws) ns begun done = absurd begun
clients-answered mount loss phases start cuts first (l ∷ ls) [] ns begun done = absurd begun
clients-answered mount loss phases start cuts first (l ∷ ls) (w ∷ ws) [] begun done = absurd done
clients-answered mount loss phases start cuts first (l ∷ ls) (w ∷ ws) (n ∷ ns) begun done =
    (subst (λ k. IsAnswered phases k n.said.items) begun.0.caller_is done.0.answered, clients-answered mount loss phases start cuts (suc first) ls ws ns begun.1 done.1)

-- the phases and the closing syncs fit the script
pub played : (stack : Mount) (loss : Option ℕ) (script : Script) (begun workers : List Worker) (p m q : Knows) (said : List (List Said)) (closing : List Reply) → p.first ≡ 0 → p.end ≡ suc (length script.clients) → AreStarted stack loss 0 script.clients begun
    → PhasesDone stack script.phases 0 begun workers p m → FilesClosed stack (length script.clients) stack.files closing m q → said ≡ map (λ w. w.said.items) workers → length closing ≡ length stack.files
    → IsPlayed stack loss script p q said closing
played stack loss script begun workers p m q said closing first end started phases closed said_is closings =
    let closer : ℕ = length script.clients in
    let start : Histories = histories stack p in
    let final : Histories = histories stack q in
    let first_m : m.first ≡ p.first = ap (λ (x : Knows). x.first) phases.pass in
    let end_m : m.end ≡ p.end = ap (λ (x : Knows). x.end) phases.pass in
    let many : length begun ≡ closer = length-started stack loss 0 script.clients begun started in
    let len : length workers ≡ closer = length-done stack script.phases start phases.cuts begun workers phases.each ∙ many in
    let after : (k : ℕ) → k < closer → Did k (last_cut start phases.cuts) final [] =
    λ k high. subst (λ (ls : Histories). Did k ls final []) phases.last (closed.others k (λ e. absurd (omega (arith, e, high))) (omega (arith, first, first_m)) (omega (arith, end, end_m, high))) in
    let before : Did closer start (last_cut start phases.cuts) [] =
    subst (λ (ls : Histories). Did closer start ls []) phases.last (phases.others closer (omega (arith, first)) (omega (arith, end)) (inr (omega (arith, many)))) in
    record {
      pass = closed.pass ∙ ap (λ (x : Knows). as_known x q) phases.pass;
      fits = λ up_to. record {
        cuts = phases.cuts;
        cut_each = phases.cut_each;
        in_order = phases.in_order;
        clients = subst (λ (ss : List (List Said)). ClientsFit stack loss script.phases start phases.cuts final 0 script.clients ss) (sym said_is)
            (clients-fit stack loss script.phases start phases.cuts final 0 script.clients begun workers started phases.each (λ k low high. after k (omega (arith, high))));
        closings = record {
          before = before;
          made = closed.made;
          did = subst (λ (ls : Histories). Did closer ls final closed.made) phases.last closed.did;
          closes = closed.closes;
        };
        numbered = up_to.numbered;
        callers = up_to.callers;
        story = up_to.story;
        name_callers = up_to.name_callers;
      };
      answered = subst (λ (ss : List (List Said)). AreAnswered script.phases 0 script.clients ss) (sym said_is) (clients-answered stack loss script.phases start phases.cuts 0 script.clients begun workers started phases.each);
      closed = λ file done.
          subst (λ n. EndsQuietly n p.end closer (known q file)) first_m (subst (λ n. EndsQuietly m.first n closer (known q file)) end_m (closed.closed file done));
      said_each = ap length said_is ∙ (length-map workers (λ (w : Worker). w.said.items) ∙ len);
      closing_each = closings;
    }

-- what was known of the stack at the start
start_is : (stack : Mount) (p : Knows) (ls : List (List Logged)) → p.logs ≡ ls → p.history ≡ [] → histories stack p ≡ record { logs = ls; names = unnamed stack }
start_is stack p ls start blank = rw (start, blank) refl

-- what was known at the end
final_is : (stack : Mount) (q : Knows) (ls : List (List Logged)) (names : NamesSeen) → ls ≡ q.logs → names.began ≡ names_at_start stack → names.history ≡ q.history → histories stack q ≡ record { logs = ls; names = names }
final_is stack q ls names final began history = rw (final, ← began, ← history) refl

-- so do the towers and the names that came back
pub played-back : (stack : Mount) (loss : Option ℕ) (script : Script) (before after : List TowerSeen) (names : NamesSeen) (p q : Knows) (said : List (List Said)) (closing : List Reply) → p.first ≡ 0 → p.end ≡ suc (length script.clients) → p.logs ≡ logs before → p.history ≡ []
    → AllByRecursion IsUnwritten before → IsPlayed stack loss script p q said closing → AreBack (suc (length script.clients)) before after → logs after ≡ q.logs
    → AreNamesBack (suc (length script.clients)) (unnamed stack) names → names.history ≡ q.history → IsStory names.began names.history → ArePlayed stack loss script before after names said closing
played-back stack loss script before after names p q said closing first end start blank unwritten run back final named names_final story =
    let closer : ℕ = length script.clients in
    record {
      fits = λ numbered.
          let last : histories stack q ≡ record { logs = logs after; names = names } = final_is stack q (logs after) names final named.began names_final in
          let begin : histories stack p ≡ record { logs = logs before; names = unnamed stack } = start_is stack p (logs before) start blank in
          subst (λ (h : Histories). FitsScript stack loss script (record { logs = logs before; names = unnamed stack }) h said closing) last
          (subst (λ (h : Histories). FitsScript stack loss script h (histories stack q) said closing) begin
          (run.fits (subst (AreMadeUpTo closer) (sym last) (made-up-to closer before after names back unwritten numbered story (entries-up-to closer (unnamed stack) names refl named)))));
      answered = run.answered;
      closed = λ file t done there.
          closed-now (suc closer) closer t
          (subst (λ n. EndsQuietly n (suc closer) closer (log_in t.engine)) first
          (subst (λ n. EndsQuietly p.first n closer (log_in t.engine)) end (subst (λ (l : List Logged). EndsQuietly p.first p.end closer l) (known-tower after q file t final there) (run.closed file done))))
          (made-at (suc closer) before after file t back unwritten there);
      later = back;
      said_each = run.said_each;
      closing_each = run.closing_each;
    }

-- a name has a number below that of the names, if there is a name
number-below : (names : List (List ℕ)) (name : List ℕ) → 0 < length names → number_in names name < length names
number-below names name some = below_or (position (λ own. bytes_eq own name) names) refl
  where
    below_or : (o : Option ℕ) → position (λ own. bytes_eq own name) names ≡ o → number_in names name < length names
    below_or None is = subst (λ (x : Option ℕ). unwrap_or x 0 < length names) (sym is) some
    below_or (Some n) is = subst (λ (x : Option ℕ). unwrap_or x 0 < length names) (sym is) (position-Some (λ own. bytes_eq own name) names n [] is).0

-- a stack has a machine
pub some-machine : (stack : Mount) → IsMount stack → 0 < length stack.machines
some-machine stack sound = let m = (sound.ground_node (record { name = []; kind = kinds.Disk; machine = 0; below = 0; frames = 0 })).machine in omega arith

-- clients that were started are ready
pub ready : (stack : Mount) (loss : Option ℕ) (first : ℕ) (lines : List ClientLine) (workers : List Worker) → 0 < length stack.machines → AreStarted stack loss first lines workers → AreReady stack first workers
ready stack loss first lines [] some h = tt
ready stack loss first [] (w ∷ ws) some h = absurd h
ready stack loss first (l ∷ ls) (w ∷ ws) some h =
    (h.0.caller_is, subst (λ (s : ClientState). IsOnMachine stack s) (sym h.0.state_is) (on_machine-start stack loss l (number-below stack.machines l.machine some)), ready stack loss (suc first) ls ws some h.1)

-- they have said nothing
pub silent : (stack : Mount) (loss : Option ℕ) (first : ℕ) (lines : List ClientLine) (workers : List Worker) → AreStarted stack loss first lines workers → AllByRecursion IsSilent workers
silent stack loss first lines [] h = tt
silent stack loss first [] (w ∷ ws) h = absurd h
silent stack loss first (l ∷ ls) (w ∷ ws) h = (h.0.silent, silent stack loss (suc first) ls ws h.1)
