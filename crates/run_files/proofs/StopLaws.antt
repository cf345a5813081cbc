-- What becomes of stores whose files could not all be opened.
use Rattle.std.proofs.Common.{◌≡◌, ◌⊎◌, ⊎_elim, inl, inr, ℕ, zero, suc, ◌+◌, ◌<◌, List, [], ◌∷◌, ◌++◌, length, Option, Some, None, refl, sym, ap, subst, ◌∙◌, arith, length-append}
use Rattle.std.specs.Prelude.{◌-◌, ◌^◌, slice_get, IfSome, IsSome}
use Rattle.std.proofs.lemmas.List.{append-nil}
use Rattle.std.proofs.lemmas.Option.{slice_get_within}
use Rattle.stack_accept.specs.Mount.{Mount}
use Rattle.script_meaning.specs.declared.store.StoreKey.{StoreKey}
use Rattle.spr_io.specs.Content.{Content}
use Rattle.spr_io.specs.Berth.{BaySeen}
use Rattle.spr_io.specs.Texts.{SinkSeen}
use Rattle.spr_report.specs.declared.status.Status.{Status}
use Rattle.spr_report.specs.Writing.{Finishes}
use Rattle.script_text.specs.declared.script.Script.{Script}
use Rattle.pager_channel.specs.declared.numbers.Ops.{Ops}
use Rattle.stack_engine.specs.Tower.{TowerSeen}
use Rattle.file_stores.specs.declared.stop.Stop.{Stop}
use Rattle.file_stores.specs.declared.stop.Stop.TheVariants as stops
use Rattle.file_stores.specs.Keys.{stores_of, stores_of_file}
use Rattle.file_stores.specs.Stops.{Untaken}
use Rattle.file_stores.specs.State.{Returned}
use Rattle.file_stores.specs.Held.{AreGiven, StoreSeen, keys_of}
use Rattle.file_stores.specs.Files.{AreFilePairs, ArePairs, FileSeen, IsFile, Lasts, StandsAt, stores_in}
use Rattle.file_stores.specs.Stop.{stop_text, stop_status}
use Rattle.file_stores.specs.Written.{Written, WrittenBeside}
use Rattle.file_stores.proofs.NoticeLaws.{written-alone}
use Rattle.file_stores.proofs.Lists.{no-item, some-is}
use Rattle.file_stores.proofs.FileLaws.{at-joined, became-files, keys-in, pairs-in, pairs-keys, short-after}
use Rattle.file_stores.specs.Under.{seen_under}
use Rattle.file_stores.proofs.ReturnLaws.{returned-of}
use Rattle.run_files.specs.Held.{AreFiles, AreShut, Closes, Halts, IsShut, IsTaken, IsUnheld, Opens, OpensEach, OpensSome}
use Rattle.run_files.specs.Run.{NotRun, SaysRun, stopped, unopened, untaken}
use Rattle.run_files.specs.Told.{Stopped}
use Rattle.run_files.proofs.HeldLaws.{opening-count, opens-at, opens-length, shut-at, shut-length}
use Rattle.run_files.proofs.TurnLaws.{UnderTurn, later-same, turn-closes, turn-of, turn-pairs}

-- a file that was opened, and closed at once
closed-file : (mount : Mount) (n : ℕ) (f g : FileSeen) (t : TowerSeen) → IsFile mount f → f.file ≡ n → Opens mount f t → IsShut n t g → Closes mount f g × ArePairs Lasts f.stores g.stores
closed-file mount n f g t is file opens shut =
    let same : seen_under shut.under ≡ seen_under opens.under = shut.ground ∙ opens.opens.ground_is in
    let turn : UnderTurn mount [] f g opens.under shut.under =
    turn-of mount [] f g opens.made opens.under shut.under is opens.over opens.under_sound (later-same (seen_under opens.under) (seen_under shut.under) same) shut.left shut.under_sound in
    let keys : keys_of g.stores ≡ stores_of_file (length g.stores) g.file = shut.keys ∙ ap (λ m. stores_of_file (length g.stores) m) (sym shut.file_is) in
    (turn-closes mount [] f g opens.under shut.under same turn, turn-pairs mount [] f g opens.under shut.under is (shut.file_is ∙ sym file) keys turn)

same-pairs : (stores : List StoreSeen) → ArePairs Lasts stores stores
same-pairs stores = record {
  number = refl;
  each = λ at old new was is.
      let same : old ≡ new = some-is old new (sym was ∙ is) in
      (ap (λ (s : StoreSeen). s.key) (sym same), subst (λ (s : StoreSeen). Lasts old s) same (omega arith, told-self old.state.content));
}
  where
    told-self : (o : Option Content) → IfSome o (λ _. IsSome o)
    told-self None = tt
    told-self (Some c) = refl

-- what became of the file of a number: it was closed again, or it is the one that could not be opened, or it is behind that
abbrev pub Fate : Mount → Stop → ℕ → ℕ → FileSeen → FileSeen → Type 0
Fate mount stop number k f g = ((k < number) × Closes mount f g) ⊎ (((k ≡ number) × IsUnheld mount f g stop) ⊎ ((number < k) × (g ≡ f)))

-- the files that were opened, closed at once
closed-at : (mount : Mount) (fs : List FileSeen) (ts : List TowerSeen) (gs : List FileSeen) (k : ℕ) (f g : FileSeen) → ((at : ℕ) (x : FileSeen) → slice_get fs at ≡ Some x → (x.file ≡ at) × IsFile mount x) → OpensEach mount fs ts → AreShut 0 ts gs
    → slice_get fs k ≡ Some f → slice_get gs k ≡ Some g → Closes mount f g × ArePairs Lasts f.stores g.stores
closed-at mount fs ts gs k f g each opens shut was is =
    let s = shut-at 0 ts gs k g shut is in
    let own = each k f was in
    closed-file mount k f g s.0 own.1 own.0 (opens-at mount fs ts k f s.0 opens was s.1) (subst (λ n. IsShut n s.0 g) (omega arith) s.2)

left-at : (mount : Mount) (stop : Stop) (old new : FileSeen) (behind : List FileSeen) (number j : ℕ) (f g : FileSeen) → IsUnheld mount old new stop → ArePairs Lasts old.stores new.stores → slice_get (old ∷ behind) j ≡ Some f → slice_get (new ∷ behind) j ≡ Some g
    → Fate mount stop number (number + j) f g × ArePairs Lasts f.stores g.stores
left-at mount stop old new behind number zero f g cause pairs was is =
    let first : old ≡ f = some-is old f was in
    let last : new ≡ g = some-is new g is in
    subst (λ (x : FileSeen). Fate mount stop number (number + 0) x g × ArePairs Lasts x.stores g.stores) first
    (subst (λ (y : FileSeen). Fate mount stop number (number + 0) old y × ArePairs Lasts old.stores y.stores) last (inr (inl (omega arith, cause)), pairs))
left-at mount stop old new behind number (suc j) f g cause pairs was is =
    let same : f ≡ g = some-is f g (sym was ∙ is) in
    subst (λ (y : FileSeen). Fate mount stop number (number + suc j) f y × ArePairs Lasts f.stores y.stores) same (inr (inr (omega arith, refl)), same-pairs f.stores)

-- what became of each file, where not all could be opened
some-fates : (mount : Mount) (olds : List FileSeen) (ts : List TowerSeen) (rest closed : List FileSeen) (stop : Stop) → AreFiles mount olds → (some : OpensSome mount olds ts rest stop) → AreShut 0 ts closed
    → (k : ℕ) (f g : FileSeen) → slice_get olds k ≡ Some f → slice_get (closed ++ rest) k ≡ Some g → Fate mount stop (length some.first) k f g × ArePairs Lasts f.stores g.stores
some-fates mount olds ts rest closed stop of some shut k f g was is =
    let number : ℕ = length some.first in
    let many : length closed ≡ number = shut-length 0 ts closed shut ∙ opens-length mount some.first ts some.opened in
    let io = at-joined some.first (some.old ∷ some.behind) k f (sym (ap (λ (l : List FileSeen). slice_get l k) some.all) ∙ was) in
    let in_ = at-joined closed (some.new ∷ some.behind) k g (sym (ap (λ (l : List FileSeen). slice_get (closed ++ l) k) some.left) ∙ is) in
    ⊎_elim
    (λ early. ⊎_elim
    (λ l.
    let c = closed-at mount some.first ts closed k f g (λ at x e. of.each at x (ap (λ (l : List FileSeen). slice_get l at) some.all ∙ at-first some.first (some.old ∷ some.behind) at x e)) some.opened shut early l in
    (inl (slice_get_within some.first k f early, c.0), c.1))
    (λ r. absurd (let low = slice_get_within some.first k f early in let past = r.0 in omega (arith, low, past, many))) in_)
    (λ late. ⊎_elim (λ l. absurd (let low = slice_get_within closed k g l in let past = late.0 in omega (arith, low, past, many)))
    (λ r.
    let left = left-at mount stop some.old some.new some.behind number (k - number) f g some.cause some.pairs late.1 (subst (λ n. slice_get (some.new ∷ some.behind) (k - n) ≡ Some g) many r.1) in
    subst (λ n. Fate mount stop number n f g × ArePairs Lasts f.stores g.stores) (let past = late.0 in omega (arith, past)) left)
    in_) io
  where
    at-first : (xs ys : List FileSeen) (at : ℕ) (x : FileSeen) → slice_get xs at ≡ Some x → slice_get (xs ++ ys) at ≡ Some x
    at-first [] ys at x e = absurd (no-item at x e)
    at-first (y ∷ xs) ys zero x e = e
    at-first (y ∷ xs) ys (suc at) x e = at-first xs ys at x e

-- where all were opened, and memory ran out then
all-fates : (mount : Mount) (olds : List FileSeen) (ts : List TowerSeen) (closed : List FileSeen) (stop : Stop) → AreFiles mount olds → OpensEach mount olds ts → AreShut 0 ts closed
    → (k : ℕ) (f g : FileSeen) → slice_get olds k ≡ Some f → slice_get closed k ≡ Some g → Fate mount stop (length olds) k f g × ArePairs Lasts f.stores g.stores
all-fates mount olds ts closed stop of opens shut k f g was is =
    let c = closed-at mount olds ts closed k f g of.each opens shut was is in
    (inl (slice_get_within olds k f was, c.0), c.1)

-- all that is known of a run that was halted
pub record IsHalted (mount : Mount) (stop : Stop) (olds news : List FileSeen) : Type 0 where
  pub number : ℕ
  pub many : length news ≡ length olds
  pub fates : (k : ℕ) (f g : FileSeen) → slice_get olds k ≡ Some f → slice_get news k ≡ Some g → Fate mount stop number k f g × ArePairs Lasts f.stores g.stores
  pub all : (number < length olds) ⊎ ((number ≡ length olds) × (stop ≡ stops.Memory))

pub halted-of : (mount : Mount) (olds : List FileSeen) (ts : List TowerSeen) (rest closed : List FileSeen) (stop : Stop) → AreFiles mount olds → Halts mount olds ts rest stop → AreShut 0 ts closed → IsHalted mount stop olds (closed ++ rest)
halted-of mount olds ts rest closed stop of (inl some) shut =
    let number : ℕ = length some.first in
    let first : length closed ≡ number = shut-length 0 ts closed shut ∙ opens-length mount some.first ts some.opened in
    let before = ap length some.all ∙ length-append some.first (some.old ∷ some.behind) in
    let after = length-append closed rest in
    let left = ap length some.left in
    record {
      number = number;
      many = omega (arith, first, before, after, left);
      fates = some-fates mount olds ts rest closed stop of some shut;
      all = inl (omega (arith, before));
    }
halted-of mount olds ts rest closed stop of (inr all) shut =
    let none : closed ++ rest ≡ closed = ap (λ (l : List FileSeen). closed ++ l) all.1 ∙ append-nil closed in
    let first = shut-length 0 ts closed shut in
    let second = opens-length mount olds ts all.0 in
    subst (IsHalted mount stop olds) (sym none)
    (record {
      number = length olds;
      many = omega (arith, first, second);
      fates = all-fates mount olds ts closed stop of all.0 shut;
      all = inr (refl, all.2);
    })

module _ (mount : Mount) (stop : Stop) (olds news : List FileSeen) (of : AreFiles mount olds) (halted : IsHalted mount stop olds news) where
  pairs : AreFilePairs Lasts olds news
  pairs file f g was is = (halted.fates file f g was is).1

  -- they are the stores of the stack
  pub halted-keys : keys_of (stores_in news) ≡ stores_of mount
  halted-keys = pairs-keys Lasts (stores_in olds) (stores_in news) (pairs-in Lasts olds news halted.many pairs) ∙ keys-in mount olds of.each of.number

  pub halted-short : (at : ℕ) (f : FileSeen) → slice_get news at ≡ Some f → length f.stores < 2 ^ 32
  halted-short = short-after Lasts mount olds news of.each halted.many pairs

  not-run : (before mid after : BaySeen) (lost : List StoreKey) → IsTaken mount before mid (stores_of mount) (stores_in olds) → AreGiven mount mid after (stores_in news) lost → NotRun mount before after lost stop
  not-run before mid after lost taken given =
      let calm = taken.calm in
      record {
        olds = olds;
        news = news;
        of = of;
        same = record { many = halted.many; pairs = pairs };
        stores = subst (λ (ks : List StoreKey). Returned mount before after ks lost (StandsAt (stores_in olds) (stores_in news))) taken.which
            (returned-of mount before mid after (stores_in olds) (stores_in news) lost (StandsAt (stores_in olds) (stores_in news)) taken.out (omega (arith, calm)) (became-files olds news halted.many pairs) given);
        number = halted.number;
        opened = λ file f g low was is. elim (halted.fates file f g was is).0 [
          | inl early ↦ early.1
          | inr late ↦ elim late [
            | inl here ↦ absurd (let at = here.0 in omega (arith, at, low))
            | inr behind ↦ absurd (let past = behind.0 in omega (arith, past, low))
          ]
        ];
        refused = λ f g was is. elim (halted.fates halted.number f g was is).0 [
          | inl early ↦ absurd (let low = early.0 in omega (arith, low))
          | inr late ↦ elim late [
            | inl here ↦ here.1
            | inr behind ↦ absurd (let past = behind.0 in omega (arith, past))
          ]
        ];
        behind = λ file f g past was is. elim (halted.fates file f g was is).0 [
          | inl early ↦ absurd (let low = early.0 in omega (arith, low, past))
          | inr late ↦ elim late [
            | inl here ↦ absurd (let at = here.0 in omega (arith, at, past))
            | inr behind ↦ behind.1
          ]
        ];
        all = elim halted.all [
          | inl few ↦ inl (let files = of.number in omega (arith, few, files))
          | inr whole ↦ inr (whole.0 ∙ of.number, whole.1)
        ];
      }

  -- the text of it
  pub halted-writes : (before mid after : BaySeen) (lost : List StoreKey) (old new : SinkSeen) (result : Status) → IsTaken mount before mid (stores_of mount) (stores_in olds) → AreGiven mount mid after (stores_in news) lost
      → Finishes old new (stop_text mount stop lost) (stop_status stop) result → Written (Stopped mount before after) old new result
  halted-writes before mid after lost old new result taken given ends = record {
    text = stop_text mount stop lost;
    status = stop_status stop;
    says = record { stop = stop; lost = lost; halted = unopened (not-run before mid after lost taken given); says = refl; ends = refl };
    ends = ends;
  }

-- a run that ended before its phases
pub run-stopped : (mount : Mount) (loss : Option ℕ) (script : Script) (traced : Option Ops) (before after : BaySeen) (old new notices : SinkSeen) (result : Status) → Written (Stopped mount before after) old new result → WrittenBeside (SaysRun mount loss script traced before after) old new notices notices result
run-stopped mount loss script traced before after old new notices result w =
    written-alone (SaysRun mount loss script traced before after) old new notices result (record { text = w.text; status = w.status; says = stopped w.says.stop w.says.lost w.says.halted refl w.says.says w.says.ends; ends = w.ends })

-- the stores could not all be taken
pub untaken-writes : (mount : Mount) (before after : BaySeen) (lost : List StoreKey) (stop : Stop) (old new : SinkSeen) (result : Status) → Untaken mount before after (stores_of mount) lost stop → Finishes old new (stop_text mount stop lost) (stop_status stop) result
    → Written (Stopped mount before after) old new result
untaken-writes mount before after lost stop old new result stops ends = record {
  text = stop_text mount stop lost;
  status = stop_status stop;
  says = record { stop = stop; lost = lost; halted = untaken stops; says = refl; ends = refl };
  ends = ends;
}

-- no more files were opened than there are
pub halts-count : (mount : Mount) (olds : List FileSeen) (ts : List TowerSeen) (rest : List FileSeen) (stop : Stop) → Halts mount olds ts rest stop → length ts + length rest ≡ length olds
halts-count mount olds ts rest stop (inl some) = opening-count mount olds ts rest (Some stop) some
halts-count mount olds ts rest stop (inr all) =
    let many = opens-length mount olds ts all.0 in
    let none = ap length all.1 in
    omega (arith, many, none)
