-- Towers that came back from a volume, and their logs, by file.
use Rattle.std.proofs.Common.{◌≡◌, ℕ, zero, suc, ◌≤◌, true, List, [], ◌∷◌, ◌++◌, length, Option, Some, None, IfSome, refl, sym, ap, subst, ◌∙◌, arith}
use Rattle.std.specs.Prelude.{slice_get, unwrap_or, ◌&&◌, leb, ltb}
use Rattle.std.specs.Option.{option_map}
use Rattle.std.specs.List.{AllByRecursion}
use Rattle.std.proofs.lemmas.Bool.Decides.{nat_tests}
use Rattle.std.proofs.lemmas.Option.{slice_get-map}
use Rattle.hist_plain.specs.Event.{caller_of}
use Rattle.hist_plain.specs.History.{IsNumbered}
use Rattle.hist_lock.specs.Ranges.{Each, may_add}
use Rattle.tower_core.specs.TreeShape.{TreeShape}
use Rattle.page_messages.specs.declared.paged.PagedFile.{PagedFile}
use Rattle.stack_accept.specs.Mount.{Mount}
use Rattle.stack_accept.specs.declared.entries.FileEntry.{FileEntry}
use Rattle.tower_log.specs.declared.logged.Logged.{Logged}
use Rattle.tower_log.specs.declared.logged.Logged.TheVariants.{Entered, Noted}
use Rattle.tower_log.specs.Log.{trail_of}
use Rattle.name_context.specs.declared.entry.NameEntry.{NameEntry}
use Rattle.name_context.specs.History.{NamesSeen, IsStory}
use Rattle.script_meaning.specs.Log.{items, items_from, log_of}
use Rattle.script_meaning.specs.Fits.{IsEntryUpTo, IsUpTo}
use Rattle.stack_engine.specs.Engine.{log_in}
use Rattle.stack_engine.specs.Tower.{TowerSeen}
use Rattle.spr_volume.specs.Later.{IsLater}
use Rattle.spr_volume.specs.TowerShared.{by}
use Rattle.spr_volume.specs.Passes.{AreBack, AreNamesBack, IsBack, Knows, known, logs}
use Rattle.spr_client.specs.Calls.{AreFrames, AreOfStack, Frame, frame_of, frames}
use Rattle.file_stores.proofs.Lists.{some-is, no-item}
use Rattle.run_files.specs.Play.{AreMadeUpTo, IsUnwritten}

-- the log of a tower
pub log_at-tower : (ts : List TowerSeen) (k : ℕ) (t : TowerSeen) → slice_get ts k ≡ Some t → log_of (logs ts) k ≡ log_in t.engine
log_at-tower ts k t there =
    ap (λ (o : Option (List Logged)). unwrap_or o []) (slice_get-map (λ (x : TowerSeen). log_in x.engine) ts k ∙ ap (λ (o : Option TowerSeen). option_map (λ (x : TowerSeen). log_in x.engine) o) there)

-- what the pass of all callers knew of a tower at its end
pub known-tower : (ts : List TowerSeen) (q : Knows) (k : ℕ) (t : TowerSeen) → logs ts ≡ q.logs → slice_get ts k ≡ Some t → known q k ≡ log_in t.engine
known-tower ts q k t final there = ap (λ (ls : List (List Logged)). log_of ls k) (sym final) ∙ log_at-tower ts k t there

pub same-number : (end : ℕ) (before after : List TowerSeen) → AreBack end before after → length after ≡ length before
same-number end [] [] back = refl
same-number end [] (u ∷ us) back = absurd back
same-number end (t ∷ ts) [] back = absurd back
same-number end (t ∷ ts) (u ∷ us) back = ap suc (same-number end ts us back.1)

-- a tower that came back
pub back-at : (end : ℕ) (before after : List TowerSeen) (k : ℕ) (t u : TowerSeen) → AreBack end before after → slice_get before k ≡ Some t → slice_get after k ≡ Some u → IsBack end t u
back-at end [] after k t u back is at = absurd (no-item k t is)
back-at end (x ∷ xs) [] k t u back is at = absurd back
back-at end (x ∷ xs) (y ∷ ys) zero t u back is at = subst (λ (z : TowerSeen). IsBack end z u) (some-is x t is) (subst (λ (z : TowerSeen). IsBack end x z) (some-is y u at) back.0)
back-at end (x ∷ xs) (y ∷ ys) (suc k) t u back is at = back-at end xs ys k t u back.1 is at

-- a tower later on has its frame
frame-later : (t u : TowerSeen) → IsLater t.engine u.engine → frame_of u ≡ frame_of t
frame-later t u later =
    ap (λ (x : TreeShape). let f : Frame = record { tree = x; file = (frame_of u).file } in f) later.file.tree
    ∙ ap (λ (x : PagedFile). let f : Frame = record { tree = (frame_of t).tree; file = x } in f) later.file.file

frames-back : (end : ℕ) (before after : List TowerSeen) → AreBack end before after → frames after ≡ frames before
frames-back end [] [] back = refl
frames-back end [] (u ∷ us) back = absurd back
frames-back end (t ∷ ts) [] back = absurd back
frames-back end (t ∷ ts) (u ∷ us) back =
    ap (λ (f : Frame). f ∷ frames us) (frame-later t u back.0.later) ∙ ap (λ (fs : List Frame). frame_of t ∷ fs) (frames-back end ts us back.1)

-- the stack's towers stay the stack's
pub towers-stay : (mount : Mount) (end : ℕ) (before after : List TowerSeen) → AreBack end before after → AreOfStack mount before → AreOfStack mount after
towers-stay mount end before after back are = subst (λ (fs : List Frame). AreFrames mount mount.files fs) (sym (frames-back end before after back)) are

length-of-files : (mount : Mount) (files : List FileEntry) (ts : List TowerSeen) → AreFrames mount files (frames ts) → length ts ≡ length files
length-of-files mount [] [] h = refl
length-of-files mount [] (t ∷ ts) h = absurd h
length-of-files mount (f ∷ fs) [] h = absurd h
length-of-files mount (f ∷ fs) (t ∷ ts) h = ap suc (length-of-files mount fs ts h.3)

-- a tower for each file
pub length-towers : (mount : Mount) (ts : List TowerSeen) → AreOfStack mount ts → length ts ≡ length mount.files
length-towers mount ts are = length-of-files mount mount.files ts are

-- the log of a tower that had none: all of it was added
made-of : (end : ℕ) (t u : TowerSeen) → IsUnwritten t → IsBack end t u → Each (λ x. may_add 0 end (by x)) (log_in u.engine)
made-of end t u none back =
    subst (λ (l : List Logged). Each (λ x. may_add 0 end (by x)) l) (sym (back.callers.whole ∙ ap (λ (l : List Logged). l ++ back.callers.more) none)) back.callers.callers

pub made-at : (end : ℕ) (before after : List TowerSeen) (k : ℕ) (u : TowerSeen) → AreBack end before after → AllByRecursion IsUnwritten before → slice_get after k ≡ Some u
    → Each (λ x. may_add 0 end (by x)) (log_in u.engine)
made-at end [] [] k u back none at = absurd (no-item k u at)
made-at end [] (y ∷ ys) k u back none at = absurd back
made-at end (x ∷ xs) [] k u back none at = absurd back
made-at end (x ∷ xs) (y ∷ ys) zero u back none at = subst (λ (z : TowerSeen). Each (λ e. may_add 0 end (by e)) (log_in z.engine)) (some-is y u at) (made-of end x y none.0 back.0)
made-at end (x ∷ xs) (y ∷ ys) (suc k) u back none at = made-at end xs ys k u back.1 none.1 at

below : (last c : ℕ) → (leb 0 c && ltb c (suc last)) ≡ true → c ≤ last
below last c h = grind (arith, nat_tests)

within : (last : ℕ) (o : Option ℕ) → may_add 0 (suc last) o ≡ true → IfSome o (λ caller. caller ≤ last)
within last None h = tt
within last (Some c) h = below last c h

items-up-to : (last place : ℕ) (log : List Logged) → Each (λ x. may_add 0 (suc last) (by x)) log → AllByRecursion (IsUpTo last) (items_from place log)
items-up-to last place [] h = tt
items-up-to last place (Entered entry ∷ log) h = (within last (caller_of entry.event) h.0, items-up-to last (suc place) log h.1)
items-up-to last place (Noted note ∷ log) h = (within last (Some note.caller) h.0, items-up-to last place log h.1)

logs-up-to : (last : ℕ) (before after : List TowerSeen) → AreBack (suc last) before after → AllByRecursion IsUnwritten before → AllByRecursion (λ log. AllByRecursion (IsUpTo last) (items log)) (logs after)
logs-up-to last [] [] back none = tt
logs-up-to last [] (u ∷ us) back none = absurd back
logs-up-to last (t ∷ ts) [] back none = absurd back
logs-up-to last (t ∷ ts) (u ∷ us) back none = (items-up-to last 0 (log_in u.engine) (made-of (suc last) t u none.0 back.0), logs-up-to last ts us back.1 none.1)

-- all was done by callers up to the last
pub made-up-to : (last : ℕ) (before after : List TowerSeen) (names : NamesSeen) → AreBack (suc last) before after → AllByRecursion IsUnwritten before
    → AllByRecursion (λ log. IsNumbered (trail_of log)) (logs after) → IsStory names.began names.history → AllByRecursion (IsEntryUpTo last) names.history → AreMadeUpTo last (record { logs = logs after; names = names })
made-up-to last before after names back none numbered story callers =
    record { numbered = numbered; callers = logs-up-to last before after back none; story = story; name_callers = callers }

entries-below : (last : ℕ) (entries : List NameEntry) → Each (λ (e : NameEntry). may_add 0 (suc last) (Some e.caller)) entries → AllByRecursion (IsEntryUpTo last) entries
entries-below last [] h = tt
entries-below last (e ∷ es) h = (within last (Some e.caller) h.0, entries-below last es h.1)

-- the names that came back have entries of these callers alone, if they had none
pub entries-up-to : (last : ℕ) (old new : NamesSeen) → old.history ≡ [] → AreNamesBack (suc last) old new → AllByRecursion (IsEntryUpTo last) new.history
entries-up-to last old new none back =
    subst (AllByRecursion (IsEntryUpTo last)) (sym (back.callers.whole ∙ ap (λ (h : List NameEntry). h ++ back.callers.more) none)) (entries-below last back.callers.more back.callers.callers)
