-- Clients of a phase, some after others, or in two halves whose passes meet.
use Rattle.std.proofs.Common.{◌≡◌, inl, inr, ⊎_elim, ℕ, suc, ◌+◌, ◌<◌, ◌≤◌, List, [], ◌∷◌, ◌++◌, length, refl, sym, ap, subst, ◌∙◌, arith, length-append, vec_capacity}
use Rattle.std.proofs.lemmas.List.{append-nil, with_items_is}
use Rattle.std.specs.Vec.{with_items}
use Rattle.std.specs.List.{AllByRecursion}
use Rattle.script_text.specs.declared.script.CallLine.{CallLine}
use Rattle.script_text.specs.declared.script.Said.{Said}
use Rattle.stack_accept.specs.Mount.{Mount}
use Rattle.tower_log.specs.declared.logged.Logged.{Logged}
use Rattle.name_context.specs.declared.entry.NameEntry.{NameEntry}
use Rattle.client_objects.specs.Views.{names_at_start}
use Rattle.script_meaning.specs.Log.{Histories}
use Rattle.script_meaning.specs.Fits.{AllGoOn, Did, lines_of}
use Rattle.script_meaning.proofs.Parts.{did_after, did_nothing, did_then, all_go_on_same, all_go_on_then, worked_before, worked_then}
use Rattle.hist_lock.proofs.Lists.{lt_or_le}
use Rattle.spr_volume.specs.Passes.{AllQuietly, VolumeSeen, IsOf, Knows, Owners, known, as_known}
use Rattle.spr_client.specs.Lines.{LinesDone}
use Rattle.spr_client.specs.Calls.{histories}
use Rattle.spr_client.proofs.CallLaws.{quiet_by}
use Rattle.spr_client.proofs.NamesLaws.{quiet_names}
use Rattle.run_phases.specs.declared.parts.Part.{Part}
use Rattle.run_phases.specs.declared.worker.Worker.{Worker}
use Rattle.run_phases.specs.Workers.{AreReady, HaveRoom}
use Rattle.run_phases.specs.Phases.{EachDone, PhaseDone, WorkDone}
use Rattle.run_phases.specs.Parts.{AreHalves, MayRun, PartDone}

-- so many callers of a pass from one on did nothing
abbrev pub AllIdle : ℕ → ℕ → Histories → Histories → Type 0
AllIdle first end old new = (c : ℕ) → first ≤ c → c < end → Did c old new []

-- what is known goes on quietly: the callers of the range did nothing
pub later_quietly : (mount : Mount) (first end : ℕ) (p q : Knows) → AllQuietly first end p q → AllGoOn (histories mount p) (histories mount q)
later_quietly mount first end p q quiet = record {
  logs = λ file. record { more = (quiet.files file).rest; log = (quiet.files file).whole };
  names = record { more = quiet.names.rest; began = refl; history = quiet.names.whole };
}

pub idle_quietly : (mount : Mount) (first end : ℕ) (p q : Knows) → AllQuietly first end p q → AllIdle first end (histories mount p) (histories mount q)
idle_quietly mount first end p q quiet c low high = record {
  later = later_quietly mount first end p q quiet;
  part = λ file. quiet_by first end c (known p file) (known q file) low high (quiet.files file) ∙ sym (append-nil _);
  syncs = λ file. tt;
  names = quiet_names first end c (names_at_start mount) p.history q.history low high quiet.names ∙ sym (append-nil _);
}

module _ (mount : Mount) where
  pub ready-split : (first : ℕ) (xs ys : List Worker) → AreReady mount first (xs ++ ys) → AreReady mount first xs × AreReady mount (first + length xs) ys
  ready-split first [] ys ready = (tt, subst (λ (k : ℕ). AreReady mount k ys) (omega arith) ready)
  ready-split first (x ∷ xs) ys ready =
      let rest = ready-split (suc first) xs ys ready.2 in
      ((ready.0, ready.1, rest.0), subst (λ (k : ℕ). AreReady mount k ys) (omega arith) rest.1)

  pub ready-join : (first : ℕ) (xs ys : List Worker) → AreReady mount first xs → AreReady mount (first + length xs) ys → AreReady mount first (xs ++ ys)
  ready-join first [] ys low high = subst (λ (k : ℕ). AreReady mount k ys) (omega arith) high
  ready-join first (x ∷ xs) ys low high = (low.0, low.1, ready-join (suc first) xs ys low.2 (subst (λ (k : ℕ). AreReady mount k ys) (omega arith) high))

module _ (mount : Mount) (lines : List CallLine) where
  pub each-len : (before after : Histories) (ws ns : List Worker) → EachDone mount lines before after ws ns → length ns ≡ length ws
  each-len before after [] [] each = refl
  each-len before after [] (n ∷ ns) each = absurd each
  each-len before after (w ∷ ws) [] each = absurd each
  each-len before after (w ∷ ws) (n ∷ ns) each = ap suc (each-len before after ws ns each.1)

  pub each-join : (before after : Histories) (ws ns xs ys : List Worker) → EachDone mount lines before after ws ns → EachDone mount lines before after xs ys → EachDone mount lines before after (ws ++ xs) (ns ++ ys)
  each-join before after [] [] xs ys each more = more
  each-join before after [] (n ∷ ns) xs ys each more = absurd each
  each-join before after (w ∷ ws) [] xs ys each more = absurd each
  each-join before after (w ∷ ws) (n ∷ ns) xs ys each more = (each.0, each-join before after ws ns xs ys each.1 more)

  work-after : (before mid after : Histories) (w n : Worker) → WorkDone mount lines before mid w n → Did w.client.caller mid after [] → WorkDone mount lines before after w n
  work-after before mid after w n done did = record {
    caller_same = done.caller_same;
    room_same = done.room_same;
    one = done.one;
    said_is = done.said_is;
    worked = worked_then mount w.client.caller w.client.state (lines_of w.client.caller lines) before mid after done.one n.client.state done.worked did;
  }

  work-before : (before mid after : Histories) (w n : Worker) → Did w.client.caller before mid [] → WorkDone mount lines mid after w n → WorkDone mount lines before after w n
  work-before before mid after w n did done = record {
    caller_same = done.caller_same;
    room_same = done.room_same;
    one = done.one;
    said_is = done.said_is;
    worked = worked_before mount w.client.caller w.client.state (lines_of w.client.caller lines) before mid after done.one n.client.state did done.worked;
  }

  -- clients did their lines, and then nothing
  pub each-after : (before mid after : Histories) (first : ℕ) (ws ns : List Worker) → AreReady mount first ws → AllIdle first (first + length ws) mid after
      → EachDone mount lines before mid ws ns → EachDone mount lines before after ws ns
  each-after before mid after first [] [] ready idle each = tt
  each-after before mid after first [] (n ∷ ns) ready idle each = absurd each
  each-after before mid after first (w ∷ ws) [] ready idle each = absurd each
  each-after before mid after first (w ∷ ws) (n ∷ ns) ready idle each = (
    work-after before mid after w n each.0 (subst (λ (c : ℕ). Did c mid after []) (sym ready.0) (idle first (omega arith) (omega arith))),
    each-after before mid after (suc first) ws ns ready.2 (λ c low high. idle c (omega arith) (omega arith)) each.1,
  )

  -- clients did nothing, and then their lines
  pub each-before : (before mid after : Histories) (first : ℕ) (ws ns : List Worker) → AreReady mount first ws → AllIdle first (first + length ws) before mid
      → EachDone mount lines mid after ws ns → EachDone mount lines before after ws ns
  each-before before mid after first [] [] ready idle each = tt
  each-before before mid after first [] (n ∷ ns) ready idle each = absurd each
  each-before before mid after first (w ∷ ws) [] ready idle each = absurd each
  each-before before mid after first (w ∷ ws) (n ∷ ns) ready idle each = (
    work-before before mid after w n (subst (λ (c : ℕ). Did c before mid []) (sym ready.0) (idle first (omega arith) (omega arith))) each.0,
    each-before before mid after (suc first) ws ns ready.2 (λ c low high. idle c (omega arith) (omega arith)) each.1,
  )

  -- one client did its lines
  pub worker-done : (w n : Worker) (one : List Said) (p q : Knows) → n.client.caller ≡ w.client.caller → vec_capacity n.said ≡ vec_capacity w.said → n.said.items ≡ w.said.items ++ one
      → LinesDone mount w.client.caller w.client.state (lines_of w.client.caller lines) p q one n.client.state → PhaseDone mount lines w.client.caller (w ∷ []) (n ∷ []) p q
  worker-done w n one p q caller room said done = record {
    pass = done.pass;
    each = (record { caller_same = caller; room_same = room; one = one; said_is = said; worked = done.worked }, tt);
    others = λ other low high out. done.others other (λ same. ⊎_elim (λ below. absurd (omega arith)) (λ above. absurd (omega arith)) out) low high;
    later = done.worked.did.later;
  }

  -- nobody's lines
  pub phase-nobody : (first : ℕ) (p : Knows) → PhaseDone mount lines first [] [] p p
  phase-nobody first p = record {
    pass = refl;
    each = tt;
    others = λ other low high out. did_nothing other (histories mount p) (histories mount p) refl;
    later = all_go_on_same (histories mount p) (histories mount p) refl;
  }

  -- some clients, and then others, with one pass
  pub phase-then : (first : ℕ) (ws ns xs ys : List Worker) (p q r : Knows) → AreReady mount first ws → AreReady mount (first + length ws) xs → p.first ≤ first → first + (length ws + length xs) ≤ p.end
      → PhaseDone mount lines first ws ns p q → PhaseDone mount lines (first + length ws) xs ys q r → PhaseDone mount lines first (ws ++ xs) (ns ++ ys) p r
  phase-then first ws ns xs ys p q r low high from to one two =
      let first_is : q.first ≡ p.first = ap (λ (k : Knows). k.first) one.pass in
      let end_is : q.end ≡ p.end = ap (λ (k : Knows). k.end) one.pass in
      let len = length-append ws xs in
      record {
        pass = two.pass ∙ ap (λ (k : Knows). as_known k r) one.pass;
        each = each-join (histories mount p) (histories mount r) ws ns xs ys
            (each-after (histories mount p) (histories mount q) (histories mount r) first ws ns low (λ c le lt. two.others c (omega arith) (omega arith) (inl (omega arith))) one.each)
            (each-before (histories mount p) (histories mount q) (histories mount r) (first + length ws) xs ys high (λ c le lt. one.others c (omega arith) (omega arith) (inr (omega arith))) two.each);
        others = λ other le lt out. did_then other (histories mount p) (histories mount q) (histories mount r) [] []
            (one.others other le lt (⊎_elim (λ below. inl below) (λ above. inr (omega arith)) out))
            (two.others other (omega arith) (omega arith) (⊎_elim (λ below. inl (omega arith)) (λ above. inr (omega arith)) out));
        later = all_go_on_then (histories mount p) (histories mount q) (histories mount r) one.later two.later;
      }

all-split : {A : Type 0} (P : A → Type 0) (xs ys : List A) → AllByRecursion P (xs ++ ys) → AllByRecursion P xs × AllByRecursion P ys
all-split P [] ys all = (tt, all)
all-split P (x ∷ xs) ys all = let rest = all-split P xs ys all.1 in ((all.0, rest.0), rest.1)

-- a pass by its parts
abbrev pass_of : Owners → ℕ → ℕ → List (List Logged) → List NameEntry → Knows
pass_of owners first end logs history = record { owners = owners; first = first; end = end; logs = logs; history = history }

same_parts : (os ps : Owners) (f g e d : ℕ) (ls : List (List Logged)) (ns : List NameEntry) → os ≡ ps → f ≡ g → e ≡ d → pass_of os f e ls ns ≡ pass_of ps g d ls ns
same_parts os ps f g e d ls ns a b c = rw (a, b, c) refl

module _ {G : Type 0} (mount : Mount) (lines : List CallLine) (v : VolumeSeen) (whole low high : Part G) (halves : AreHalves whole low high) (may : MayRun mount v lines whole) where
  clients : AreReady mount whole.first low.workers.items × AreReady mount (whole.first + length low.workers.items) high.workers.items
  clients = ready-split mount whole.first low.workers.items high.workers.items (subst (AreReady mount whole.first) halves.workers may.ready.clients)

  room : HaveRoom (lines ∷ []) low.workers.items × HaveRoom (lines ∷ []) high.workers.items
  room = all-split _ low.workers.items high.workers.items (subst (HaveRoom (lines ∷ [])) halves.workers may.room)

  total : length whole.workers.items ≡ length low.workers.items + length high.workers.items
  total = ap length halves.workers ∙ length-append low.workers.items high.workers.items

  -- each half may run
  pub may-low : MayRun mount v lines low
  may-low = record {
    ready = record {
      stack = may.ready.stack;
      of = ap (λ (p : Knows). p.owners) halves.low_pass ∙ may.ready.of;
      clients = subst (λ (k : ℕ). AreReady mount k low.workers.items) (sym halves.low_first) clients.0;
      first_is = let e = ap (λ (p : Knows). p.first) halves.low_pass in let f = halves.low_first in omega (arith, may.ready.first_is);
      last_is = let e = ap (λ (p : Knows). p.end) halves.low_pass in let f = halves.low_first in let h = halves.high_first in omega arith;
      small = let f = halves.low_first in let t = total in omega (arith, may.ready.small);
    };
    calls = may.calls;
    room = room.0;
  }

  pub may-high : MayRun mount v lines high
  may-high = record {
    ready = record {
      stack = may.ready.stack;
      of = ap (λ (p : Knows). p.owners) halves.high_pass ∙ may.ready.of;
      clients = subst (λ (k : ℕ). AreReady mount k high.workers.items) (sym halves.high_first) clients.1;
      first_is = let e = ap (λ (p : Knows). p.first) halves.high_pass in omega arith;
      last_is = let e = ap (λ (p : Knows). p.end) halves.high_pass in let h = halves.high_first in let t = total in omega (arith, may.ready.last_is);
      small = let h = halves.high_first in let t = total in omega (arith, may.ready.small);
    };
    calls = may.calls;
    room = room.1;
  }

  module _ (low' high' : Part G) (one : PartDone mount lines low low') (two : PartDone mount lines high high') where
    low_first_is : low'.pass.first ≡ whole.pass.first
    low_first_is = ap (λ (p : Knows). p.first) one.done.pass ∙ ap (λ (p : Knows). p.first) halves.low_pass

    low_end_is : low'.pass.end ≡ high.first
    low_end_is = ap (λ (p : Knows). p.end) one.done.pass ∙ ap (λ (p : Knows). p.end) halves.low_pass

    high_first_is : high'.pass.first ≡ high.first
    high_first_is = ap (λ (p : Knows). p.first) two.done.pass ∙ ap (λ (p : Knows). p.first) halves.high_pass

    high_end_is : high'.pass.end ≡ whole.pass.end
    high_end_is = ap (λ (p : Knows). p.end) two.done.pass ∙ ap (λ (p : Knows). p.end) halves.high_pass

    low_len : length low'.workers.items ≡ length low.workers.items
    low_len = each-len mount lines (histories mount low.pass) (histories mount low'.pass) low.workers.items low'.workers.items one.done.each

    high_len : length high'.workers.items ≡ length high.workers.items
    high_len = each-len mount lines (histories mount high.pass) (histories mount high'.pass) high.workers.items high'.workers.items two.done.each

    pub low-of : IsOf v low'.pass
    low-of = ap (λ (p : Knows). p.owners) one.done.pass ∙ (ap (λ (p : Knows). p.owners) halves.low_pass ∙ may.ready.of)

    pub high-of : IsOf v high'.pass
    high-of = ap (λ (p : Knows). p.owners) two.done.pass ∙ (ap (λ (p : Knows). p.owners) halves.high_pass ∙ may.ready.of)

    pub neighbours : low'.pass.end ≡ high'.pass.first
    neighbours = low_end_is ∙ sym high_first_is

    pub room-for : length whole.workers.items ≤ vec_capacity whole.workers → length low'.workers.items + length high'.workers.items ≤ vec_capacity low'.workers
    room-for within = let a = low_len in let b = high_len in let t = total in let c = one.capacity in let d = halves.capacity in omega arith

    -- the halves' passes have met
    pub parts-done : (joined : Part G) → joined.pass ≡ record (as_known low'.pass joined.pass) { end = high'.pass.end } → AllQuietly low'.pass.first low'.pass.end low'.pass joined.pass → AllQuietly high'.pass.first high'.pass.end high'.pass joined.pass
        → joined.first ≡ low'.first → joined.workers.items ≡ low'.workers.items ++ high'.workers.items → vec_capacity low'.workers ≤ vec_capacity joined.workers → PartDone mount lines whole joined
    parts-done joined pass low_quiet high_quiet first workers capacity =
        let start_low : (histories mount low.pass) ≡ (histories mount whole.pass) = ap (λ (p : Knows). (histories mount p)) halves.low_pass in
        let start_high : (histories mount high.pass) ≡ (histories mount whole.pass) = ap (λ (p : Knows). (histories mount p)) halves.high_pass in
        let idle_low : AllIdle low'.pass.first low'.pass.end (histories mount low'.pass) (histories mount joined.pass) = idle_quietly mount low'.pass.first low'.pass.end low'.pass joined.pass low_quiet in
        let idle_high : AllIdle high'.pass.first high'.pass.end (histories mount high'.pass) (histories mount joined.pass) = idle_quietly mount high'.pass.first high'.pass.end high'.pass joined.pass high_quiet in
        let lf = low_first_is in let le = low_end_is in let hf = high_first_is in let he = high_end_is in
        let wl = halves.low_first in let wh = halves.high_first in let t = total in
        let low_ready : AreReady mount low.first low.workers.items = may-low.ready.clients in
        let high_ready : AreReady mount high.first high.workers.items = may-high.ready.clients in
        let each_low : EachDone mount lines (histories mount whole.pass) (histories mount joined.pass) low.workers.items low'.workers.items =
        subst (λ (ls : Histories). EachDone mount lines ls (histories mount joined.pass) low.workers.items low'.workers.items) start_low
        (each-after mount lines (histories mount low.pass) (histories mount low'.pass) (histories mount joined.pass) low.first low.workers.items low'.workers.items low_ready
        (λ c from to. idle_low c (let f = may-low.ready.first_is in let g = ap (λ (p : Knows). p.first) halves.low_pass in omega arith) (omega arith)) one.done.each) in
        let each_high : EachDone mount lines (histories mount whole.pass) (histories mount joined.pass) high.workers.items high'.workers.items =
        subst (λ (ls : Histories). EachDone mount lines ls (histories mount joined.pass) high.workers.items high'.workers.items) start_high
        (each-after mount lines (histories mount high.pass) (histories mount high'.pass) (histories mount joined.pass) high.first high.workers.items high'.workers.items high_ready
        (λ c from to. idle_high c (omega arith) (let l = may.ready.last_is in omega arith)) two.done.each) in
        let each : EachDone mount lines (histories mount whole.pass) (histories mount joined.pass) (low.workers.items ++ high.workers.items) (low'.workers.items ++ high'.workers.items) =
        each-join mount lines (histories mount whole.pass) (histories mount joined.pass) low.workers.items low'.workers.items high.workers.items high'.workers.items each_low each_high in
        record {
          first_same = first ∙ (one.first_same ∙ halves.low_first);
          done = record {
            pass = pass ∙ same_parts low'.pass.owners whole.pass.owners low'.pass.first whole.pass.first high'.pass.end whole.pass.end joined.pass.logs joined.pass.history
                (ap (λ (p : Knows). p.owners) one.done.pass ∙ ap (λ (p : Knows). p.owners) halves.low_pass) low_first_is high_end_is;
            each = subst (λ (ns : List Worker). EachDone mount lines (histories mount whole.pass) (histories mount joined.pass) whole.workers.items ns) (sym workers)
                (subst (λ (ws : List Worker). EachDone mount lines (histories mount whole.pass) (histories mount joined.pass) ws (low'.workers.items ++ high'.workers.items)) (sym halves.workers) each);
            others = λ other from to out. ⊎_elim
                (λ below. subst (λ (ls : Histories). Did other ls (histories mount joined.pass) []) start_low
                (did_after other (histories mount low.pass) (histories mount low'.pass) (histories mount joined.pass) []
                (one.done.others other (let g = ap (λ (p : Knows). p.first) halves.low_pass in omega arith) (let g = ap (λ (p : Knows). p.end) halves.low_pass in omega arith) (inl (⊎_elim (λ u. omega arith) (λ u. omega arith) out)))
                (idle_low other (omega arith) (omega arith))))
                (λ above. subst (λ (ls : Histories). Did other ls (histories mount joined.pass) []) start_high
                (did_after other (histories mount high.pass) (histories mount high'.pass) (histories mount joined.pass) []
                (two.done.others other (let g = ap (λ (p : Knows). p.first) halves.high_pass in omega arith) (let g = ap (λ (p : Knows). p.end) halves.high_pass in omega arith) (inr (⊎_elim (λ u. omega (arith, may.ready.first_is)) (λ u. omega arith) out)))
                (idle_high other (omega arith) (omega arith))))
                (lt_or_le other high.first);
            later = subst (λ (ls : Histories). AllGoOn ls (histories mount joined.pass)) start_low
                (all_go_on_then (histories mount low.pass) (histories mount low'.pass) (histories mount joined.pass) one.done.later (later_quietly mount low'.pass.first low'.pass.end low'.pass joined.pass low_quiet));
          };
          ready = subst (AreReady mount whole.first) (sym workers)
              (ready-join mount whole.first low'.workers.items high'.workers.items (subst (λ (k : ℕ). AreReady mount k low'.workers.items) halves.low_first one.ready)
              (let n = low_len in subst (λ (k : ℕ). AreReady mount k high'.workers.items) (omega arith) two.ready));
          capacity = let c = halves.capacity in let d = one.capacity in omega arith;
        }

-- the first of some clients, and then the others
pub turn-done : (mount : Mount) (lines : List CallLine) (first : ℕ) (ws : List Worker) (w n : Worker) (xs ys : List Worker) (p q r : Knows) → ws ≡ w ∷ xs → AreReady mount first ws → p.first ≤ first → first + length ws ≤ p.end
    → PhaseDone mount lines w.client.caller (w ∷ []) (n ∷ []) p q → PhaseDone mount lines (first + 1) xs ys q r → PhaseDone mount lines first ws (n ∷ ys) p r
turn-done mount lines first ws w n xs ys p q r is ready from to one two =
    let split : AreReady mount first (w ∷ xs) = subst (AreReady mount first) is ready in
    let all : length ws ≡ suc (length xs) = ap length is in
    subst (λ (us : List Worker). PhaseDone mount lines first us (n ∷ ys) p r) (sym is)
    (phase-then mount lines first (w ∷ []) (n ∷ []) xs ys p q r (split.0, split.1, tt) (subst (λ (k : ℕ). AreReady mount k xs) (omega arith) split.2) from (omega arith)
    (subst (λ (k : ℕ). PhaseDone mount lines k (w ∷ []) (n ∷ []) p q) split.0 one) two)

-- so are they ready, if the first was
pub turn-ready : (mount : Mount) (first : ℕ) (w n : Worker) (ys : List Worker) → w.client.caller ≡ first → AreReady mount w.client.caller (n ∷ []) → AreReady mount (first + 1) ys → AreReady mount first (n ∷ ys)
turn-ready mount first w n ys is one rest = ready-join mount first (n ∷ []) ys (subst (λ (k : ℕ). AreReady mount k (n ∷ [])) is one) rest

-- clients that took turns with the pass of their part
pub whole-done : {G : Type 0} (mount : Mount) (lines : List CallLine) (part whole : Part G) (slice ns : List Worker) (pass : Knows) → whole.pass ≡ part.pass → whole.first ≡ part.first → whole.workers.items ≡ part.workers.items
    → vec_capacity part.workers ≤ vec_capacity whole.workers → slice ≡ whole.workers.items → PhaseDone mount lines whole.first slice ns whole.pass pass → AreReady mount whole.first ns
    → PartDone mount lines part (record { pass = pass; first = whole.first; workers = with_items whole.workers ns })
whole-done mount lines part whole slice ns pass same_pass same_first same_workers room is done ready =
    let long : length ns ≡ length slice = each-len mount lines (histories mount whole.pass) (histories mount pass) slice ns done.each in
    let len : whole.workers.len ≡ length whole.workers.items = whole.workers.ok.0 in
    let items : (with_items whole.workers ns).items ≡ ns = with_items_is whole.workers ns (long ∙ (ap length is ∙ sym len)) in
    let a : PhaseDone mount lines part.first slice ns whole.pass pass = subst (λ (k : ℕ). PhaseDone mount lines k slice ns whole.pass pass) same_first done in
    let b : PhaseDone mount lines part.first part.workers.items ns whole.pass pass = subst (λ (ws : List Worker). PhaseDone mount lines part.first ws ns whole.pass pass) (is ∙ same_workers) a in
    let d : PhaseDone mount lines part.first part.workers.items ns part.pass pass = subst (λ (p : Knows). PhaseDone mount lines part.first part.workers.items ns p pass) same_pass b in
    record {
      first_same = same_first;
      done = subst (λ (us : List Worker). PhaseDone mount lines part.first part.workers.items us part.pass pass) (sym items) d;
      ready = subst (AreReady mount part.first) (sym items) (subst (λ (k : ℕ). AreReady mount k ns) same_first ready);
      capacity = room;
    }
