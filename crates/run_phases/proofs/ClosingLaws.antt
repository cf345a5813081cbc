-- How the closing syncs are put together.
use Rattle.std.proofs.Common.{◌≡◌, ◌≢◌, ⊎_elim, ℕ, zero, suc, ◌+◌, ◌≤◌, ◌<◌, List, [], ◌∷◌, ◌++◌, length, take, get_or, Some, Ok, refl, sym, ap, subst, ◌∙◌, arith, append_assoc, length-append}
use Rattle.std.specs.Prelude.{slice_get}
use Rattle.std.proofs.lemmas.List.{append-nil, take_more, length-map, length-take-le}
use Rattle.std.proofs.lemmas.Option.{same_Some}
use mathlib.Core.Logic.{dite}
use native.Mathlib.Decide.{ℕ_discrete}
use Rattle.hist_plain.specs.declared.event.Event.{Event}
use Rattle.hist_plain.specs.declared.event.Keep.{Keep}
use Rattle.script_text.specs.declared.script.Reply.{Reply}
use Rattle.script_text.specs.declared.script.Reply.TheVariants as replies
use Rattle.tower_log.specs.Log.{trail_of}
use Rattle.tower_core.specs.TreeShape.{TreeShape}
use Rattle.stack_engine.specs.declared.refusal.StepErr.{StepErr}
use Rattle.stack_engine.specs.declared.refusal.StepErr.TheVariants.{StoreFault, TrailFull, Memory}
use Rattle.stack_accept.specs.Mount.{Mount}
use Rattle.stack_accept.specs.Sound.{IsMount}
use Rattle.stack_accept.specs.declared.entries.FileEntry.{FileEntry}
use Rattle.tower_log.specs.declared.logged.Logged.{Logged}
use Rattle.client_objects.specs.declared.state.ClientState.{ClientState}
use Rattle.script_meaning.specs.Log.{IsFull}
use Rattle.script_meaning.specs.Plan.{Made, Goes, asking, sync}
use Rattle.script_meaning.specs.Fits.{Line, Closes, no_client, plan_closing}
use Rattle.script_meaning.proofs.Logs.{trail_of-append}
use Rattle.script_meaning.proofs.Parts.{did_nothing, did_then, full_later, goes_later}
use Rattle.spr_volume.specs.declared.answered.Answered.{Answered}
use Rattle.spr_volume.specs.Passes.{VolumeSeen, Knows, known, as_known}
use Rattle.spr_client.specs.Calls.{CallDone, MayCall, histories, refusal_of}
use Rattle.spr_client.specs.Lines.{LineDone}
use Rattle.run_phases.specs.Closing.{EndsQuietly, FilesClosed}

-- a sync that was answered ends the log
pub sync-ends : (caller file node : ℕ) (keep : Keep) (old new : Knows) (out : List ℕ) (a : Answered) → CallDone caller (asking file (sync node keep)) old new out (Ok a) → EndsQuietly old.first old.end caller (known new file)
sync-ends caller file node keep old new out a called =
    let before : List Logged = called.here.before in
    let synced = called.here.ends.2 in
    record {
      start = known old file;
      before = before;
      quietly = called.here.quietly;
      number = _;
      node = node;
      from = synced.from;
      keep = keep;
      from_is = synced.least_is;
      is = ap trail_of called.here.log
          ∙ (trail_of-append before called.here.last ∙ ap (λ (l : List Event). trail_of before ++ l) (ap trail_of called.here.ends.1 ∙ ap (λ (e : Event). e ∷ []) synced.is));
    }

-- a refusal is no `done`
pub refusal-not-done : (err : StepErr) → refusal_of err ≡ replies.Done → ⊥
refusal-not-done (StoreFault disk count) e = cc
refusal-not-done TrailFull e = cc
refusal-not-done Memory e = cc

-- a line of a closing sync follows its plan
goes-closing : (Full : ℕ → Type 0) (closer file : ℕ) (made : List Made) (said : Reply) (left : ClientState) → Line Full closer no_client (plan_closing file) made said left → Goes Full closer (plan_closing file) made said left
goes-closing Full closer file made said left line = ⊎_elim (λ goes. goes)
    (λ lacks. subst (λ (m : List Made). Goes Full closer (plan_closing file) m said left) (sym lacks.nothing)
    (subst (λ (r : Reply). Goes Full closer (plan_closing file) [] r left) (sym lacks.memory) (tt, lacks.same)))
    line

-- trails that are full stay so: what was answered then fits the later logs
closes-later : (F G : ℕ → Type 0) → ((file : ℕ) → F file → G file) → (closer file : ℕ) (files : List FileEntry) (made : List Made) (replies : List Reply) → Closes F closer file files made replies → Closes G closer file files made replies
closes-later F G f closer file [] made replies h = h
closes-later F G f closer file (e ∷ es) made [] h = h
closes-later F G f closer file (e ∷ es) made (r ∷ rs) h = (h.0, h.1, h.2, h.3, goes_later F G f closer (plan_closing file) h.0 r h.2 h.4, closes-later F G f closer (suc file) es h.1 rs h.5)

-- the closing syncs of some files, and of one more
closes-more : (F : ℕ → Type 0) (closer file : ℕ) (files : List FileEntry) (entry : FileEntry) (made next : List Made) (replies : List Reply) (reply : Reply) (left : ClientState)
    → Closes F closer file files made replies → Goes F closer (plan_closing (file + length files)) next reply left → Closes F closer file (files ++ entry ∷ []) (made ++ next) (replies ++ reply ∷ [])
closes-more F closer file [] entry made next replies reply left h goes =
    rw (h.0, h.1) (next, [], left, sym (append-nil next), subst (λ n. Goes F closer (plan_closing n) next reply left) (omega arith) goes, (refl, refl))
closes-more F closer file (e ∷ es) entry made next [] reply left h goes = absurd h
closes-more F closer file (e ∷ es) entry made next (r ∷ rs) reply left h goes = (
  h.0,
  h.1 ++ next,
  h.2,
  ap (λ (ms : List Made). ms ++ next) h.3 ∙ append_assoc h.0 h.1 next,
  h.4,
  closes-more F closer (suc file) es entry h.1 next rs reply left h.5 (subst (λ n. Goes F closer (plan_closing n) next reply left) (omega arith) goes),
)

no-reply : (file : ℕ) → slice_get {X = Reply} [] file ≡ Some replies.Done → ⊥
no-reply file e = cc

-- what stands at a place before the last
before-last : (xs : List Reply) (x y : Reply) (k : ℕ) → slice_get (xs ++ x ∷ []) k ≡ Some y → k ≢ length xs → slice_get xs k ≡ Some y
before-last [] x y zero is ne = absurd (ne refl)
before-last [] x y (suc k) is ne = is
before-last (a ∷ xs) x y zero is ne = is
before-last (a ∷ xs) x y (suc k) is ne = before-last xs x y k is (λ e. ne (ap suc e))

-- what stands last
last-is : (xs : List Reply) (x y : Reply) → slice_get (xs ++ x ∷ []) (length xs) ≡ Some y → x ≡ y
last-is [] x y is = same_Some x y is
last-is (a ∷ xs) x y is = last-is xs x y is

-- no file is closed yet
pub closed-none : (mount : Mount) (closer : ℕ) (p : Knows) → FilesClosed mount closer [] [] p p
closed-none mount closer p = record {
  pass = refl;
  made = [];
  did = did_nothing closer (histories mount p) (histories mount p) refl;
  closes = (refl, refl);
  others = λ other ne low high. did_nothing other (histories mount p) (histories mount p) refl;
  closed = λ file none. absurd (no-reply file none);
}

-- one more file is closed
closed-next : (mount : Mount) (closer i : ℕ) (files : List FileEntry) (entry : FileEntry) (said : List Reply) (reply : Reply) (old mid new : Knows) → length files ≡ i → length said ≡ i
    → FilesClosed mount closer files said old mid → LineDone mount closer no_client (plan_closing i) mid new reply no_client
    → (reply ≡ replies.Done → EndsQuietly mid.first mid.end closer (known new i)) → ((j : ℕ) → j ≢ i → known new j ≡ known mid j)
    → FilesClosed mount closer (files ++ entry ∷ []) (said ++ reply ∷ []) old new
closed-next mount closer i files entry said reply old mid new len_files len_said so done closed stays =
    record {
      pass = done.pass ∙ ap (λ (p : Knows). as_known p new) so.pass;
      made = so.made ++ done.went.made;
      did = did_then closer (histories mount old) (histories mount mid) (histories mount new) so.made done.went.made so.did done.went.did;
      closes = closes-more (IsFull (histories mount new)) closer 0 files entry so.made done.went.made said reply no_client
          (closes-later (IsFull (histories mount mid)) (IsFull (histories mount new)) (full_later (histories mount mid) (histories mount new) done.went.did.later) closer 0 files so.made said so.closes)
          (subst (λ n. Goes (IsFull (histories mount new)) closer (plan_closing n) done.went.made reply no_client) (omega arith) (goes-closing (IsFull (histories mount new)) closer i done.went.made reply no_client done.went.goes));
      others = λ other ne low high. did_then other (histories mount old) (histories mount mid) (histories mount new) [] [] (so.others other ne low high)
          (done.others other ne (subst (λ (p : Knows). p.first ≤ other) (sym so.pass) low) (subst (λ (p : Knows). other < p.end) (sym so.pass) high));
      closed = λ file is. dite (ℕ_discrete file i)
          (λ same.
          let last : reply ≡ replies.Done = last-is said reply replies.Done (subst (λ (k : ℕ). slice_get (said ++ reply ∷ []) k ≡ Some replies.Done) (same ∙ sym len_said) is) in
          subst (λ (k : ℕ). EndsQuietly old.first old.end closer (known new k)) (sym same)
          (subst (λ (p : Knows). EndsQuietly p.first p.end closer (known new i)) so.pass (closed last)))
          (λ other.
          subst (EndsQuietly old.first old.end closer) (sym (stays file other)) (so.closed file (before-last said reply replies.Done file is (λ e. other (e ∙ len_said)))));
    }

-- one more of the first files
take-next : (files : List FileEntry) (k : ℕ) → k < length files → (entry : FileEntry) × (take (k + 1) files ≡ take k files ++ entry ∷ [])
take-next [] k lt = absurd (omega arith)
take-next (f ∷ files) k lt = (get_or (f ∷ files) k f, take_more (f ∷ files) k f lt)

-- the next of the files is closed
pub closed-more : (mount : Mount) (closer i : ℕ) (files : List FileEntry) (said said' : List Reply) (reply : Reply) (old mid new : Knows) → i < length files → length said ≡ i → said' ≡ said ++ reply ∷ []
    → FilesClosed mount closer (take i files) said old mid → LineDone mount closer no_client (plan_closing i) mid new reply no_client
    → (reply ≡ replies.Done → EndsQuietly mid.first mid.end closer (known new i)) → ((j : ℕ) → j ≢ i → known new j ≡ known mid j)
    → FilesClosed mount closer (take (i + 1) files) said' old new
closed-more mount closer i files said said' reply old mid new lt len_said pushed so done closed stays =
    let next = take-next files i lt in
    subst (λ (fs : List FileEntry). FilesClosed mount closer fs said' old new) (sym next.1)
    (subst (λ (rs : List Reply). FilesClosed mount closer (take i files ++ next.0 ∷ []) rs old new) (sym pushed)
    (closed-next mount closer i (take i files) next.0 said reply old mid new (length-take-le i files (omega arith)) len_said so done closed stays))

-- so many replies, and one more
pub replies-len : (said said' : List Reply) (reply : Reply) (i : ℕ) → length said ≡ i → said' ≡ said ++ reply ∷ [] → length said' ≡ i + 1
replies-len said said' reply i len pushed = ap length pushed ∙ (length-append said (reply ∷ []) ∙ ap (λ n. n + 1) len)

-- the caller of a pass may call still
pub may-still : (mount : Mount) (v : VolumeSeen) (closer : ℕ) (old new : Knows) → new ≡ as_known old new → MayCall mount v old closer → MayCall mount v new closer
may-still mount v closer old new is may = subst (λ (p : Knows). MayCall mount v p closer) (sym is) (record { stack = may.stack; of = may.of; first = may.first; last = may.last })

-- there is a layer that stands on the ground
pub layer-above : (mount : Mount) → IsMount mount → 1 < length mount.tree.parents
layer-above mount sound =
    let counted : length mount.tree.parents ≡ length mount.nodes = ap (λ (t : TreeShape). length t.parents) sound.served ∙ length-map mount.nodes _ in
    let some = sound.some_layer in
    omega (arith, counted, some)
