-- What the commands over images did.
use Rattle.std.proofs.Common.{◌≡◌, inl, inr, ℕ, List, Some, None, refl, sym, ap, subst, ◌∙◌}
use Rattle.std.specs.Prelude.{slice_get, Result, Ok, Err, IfOk, IfErr, OnOk}
use Rattle.stack_accept.specs.Mount.{Mount}
use Rattle.script_meaning.specs.declared.store.StoreKey.{StoreKey}
use Rattle.spr_io.specs.Berth.{BaySeen}
use Rattle.spr_io.specs.Texts.{SinkSeen}
use Rattle.spr_report.specs.declared.status.Status.{Status}
use Rattle.spr_report.specs.Writing.{Finishes}
use Rattle.disk_format.specs.declared.shape.ImageShape.{ImageShape}
use Rattle.file_stores.specs.declared.stop.Stop.{Stop}
use Rattle.file_stores.specs.declared.stop.Stop.TheVariants as stops
use Rattle.file_stores.specs.Keys.{image_shape}
use Rattle.file_stores.specs.State.{StoreState, Returned, RoseBy}
use Rattle.file_stores.specs.Held.{StoreSeen, keys_of, AreOut, IsUntaken, AreGiven}
use Rattle.file_stores.specs.Stop.{lost_text, stop_text, stop_status}
use Rattle.file_stores.specs.Stops.{Untaken}
use Rattle.file_stores.specs.Written.{Written}
use Rattle.file_stores.proofs.ReturnLaws.{returned-of}
use Rattle.image_commands.specs.Fresh.{IsFresh, FailedAt, IsUntouched, Part, Breaks, Went}
use Rattle.image_commands.specs.Told.{done_status}
use Rattle.image_commands.specs.Says.{AreFormatted, BrokeOff, FormatStops, SaysFormat, all_fresh, not_fresh}

-- stores that were formatted, or not all of them, and came back
broke-off : (mount : Mount) (before mid after : BaySeen) (keys lost : List StoreKey) (olds news : List StoreSeen) (key : StoreKey) (Cause : ImageShape → StoreState → StoreState → Type 0) → keys_of olds ≡ keys → AreOut mount before mid olds
    → RoseBy 0 before.faults mid.faults → AreGiven mount mid after news lost → Breaks mount olds news key Cause → BrokeOff mount before after keys lost key Cause
broke-off mount before mid after keys lost olds news key Cause are out calm given breaks = record {
  number = breaks.number;
  is = ap (λ (ks : List StoreKey). slice_get ks breaks.number) (sym are) ∙ breaks.is;
  back = subst (λ (ks : List StoreKey). Returned mount before after ks lost (Part mount breaks.number Cause)) are (returned-of mount before mid after olds news lost (Part mount breaks.number Cause) out calm breaks.parts given);
}

format-stops : (mount : Mount) (before mid after : BaySeen) (keys lost : List StoreKey) (olds news : List StoreSeen) (stop : Stop) → keys_of olds ≡ keys → AreOut mount before mid olds → RoseBy 0 before.faults mid.faults
    → AreGiven mount mid after news lost → Went mount olds news (Some stop) → FormatStops mount before after keys lost stop
format-stops mount before mid after keys lost olds news (stops.Store key count) are out calm given went = broke-off mount before mid after keys lost olds news key (FailedAt count) are out calm given went
format-stops mount before mid after keys lost olds news stops.Memory are out calm given went = inr (went.0, broke-off mount before mid after keys lost olds news went.0 IsUntouched are out calm given went.1)
format-stops mount before mid after keys lost olds news (stops.Bay key) are out calm given went = absurd went
format-stops mount before mid after keys lost olds news (stops.Image key place why) are out calm given went = absurd went

pub formats-all : (mount : Mount) (before mid after : BaySeen) (keys lost : List StoreKey) (olds news : List StoreSeen) (old new : SinkSeen) (result : Status) → keys_of olds ≡ keys → AreOut mount before mid olds → RoseBy 0 before.faults mid.faults
    → AreGiven mount mid after news lost → Went mount olds news None → Finishes old new (lost_text mount lost) (done_status lost) result → Written (SaysFormat mount before after keys) old new result
formats-all mount before mid after keys lost olds news old new result are out calm given went ends = record {
  text = lost_text mount lost;
  status = done_status lost;
  says = all_fresh lost
      (subst (λ (ks : List StoreKey). AreFormatted mount before after ks lost) are (returned-of mount before mid after olds news lost (λ at key. IsFresh (image_shape mount key)) out calm went given)) refl refl;
  ends = ends;
}

-- not all stores were formatted
pub formats-not : (mount : Mount) (before after : BaySeen) (keys lost : List StoreKey) (stop : Stop) (old new : SinkSeen) (result : Status) → FormatStops mount before after keys lost stop
    → Finishes old new (stop_text mount stop lost) (stop_status stop) result → Written (SaysFormat mount before after keys) old new result
formats-not mount before after keys lost stop old new result cause ends = record {
  text = stop_text mount stop lost;
  status = stop_status stop;
  says = not_fresh stop lost cause refl refl;
  ends = ends;
}

pub formats-broken : (mount : Mount) (before mid after : BaySeen) (keys lost : List StoreKey) (olds news : List StoreSeen) (stop : Stop) (old new : SinkSeen) (result : Status) → keys_of olds ≡ keys → AreOut mount before mid olds
    → RoseBy 0 before.faults mid.faults → AreGiven mount mid after news lost → Went mount olds news (Some stop) → Finishes old new (stop_text mount stop lost) (stop_status stop) result → Written (SaysFormat mount before after keys) old new result
formats-broken mount before mid after keys lost olds news stop old new result are out calm given went ends =
    formats-not mount before after keys lost stop old new result (format-stops mount before mid after keys lost olds news stop are out calm given went) ends

-- a command that only takes stores stops the formatting
pub untaken-formats : (mount : Mount) (before after : BaySeen) (keys lost : List StoreKey) (number : ℕ) (mid : BaySeen) (stop : Stop) → IsUntaken keys number before mid stop → Untaken mount before after keys lost stop → FormatStops mount before after keys lost stop
untaken-formats mount before after keys lost number mid (stops.Bay key) untaken stop = stop
untaken-formats mount before after keys lost number mid stops.Memory untaken stop = inl stop
untaken-formats mount before after keys lost number mid (stops.Store key count) untaken stop = absurd untaken
untaken-formats mount before after keys lost number mid (stops.Image key place why) untaken stop = absurd untaken

-- what is said of a part of a result
pub ok-part : {A E : Type 0} (r : Result A E) (x : A) (P : A → Type 0) → r ≡ Ok x → IfOk r P → P x
ok-part r x P is h = subst (λ (o : Result _ _). IfOk o P) is h

pub err-part : {A E : Type 0} (r : Result A E) (x : E) (P : E → Type 0) → r ≡ Err x → IfErr r P → P x
err-part r x P is h = subst (λ (o : Result _ _). IfErr o P) is h

pub ok-fact : {A E : Type 0} (r : Result A E) (x : A) (P : Type 0) → r ≡ Ok x → OnOk r P → P
ok-fact r x P is h = subst (λ (o : Result _ _). OnOk o P) is h
