-- What a store in a file tells, before and after a call of the file.
use Rattle.std.proofs.Common.{◌≡◌, ◌<◌, ◌≤◌, ◌+◌, ◌*◌, ℕ, List, Bool, true, false, Option, Some, None, Result, Ok, Err, length, take, drop, cond, subst, refl, sym, ap, ◌∙◌, arith, ◌^◌}
use Rattle.std.specs.Prelude.{IfSome, OnOk, OnErr, IsErr}
use Rattle.std.specs.Result.{is_err}
use Rattle.std.proofs.lemmas.Result.{on_ok_weaker, on_err_weaker}
use Rattle.std.proofs.lemmas.Nat.{mul-le}
use Rattle.spr_io.specs.Causes.{Counts}
use Rattle.spr_io.specs.Content.{ReadsBlock, IsShaped, KeepsShape, HasShape, written, flushed}
use borrow.Rule.Slice.PartMut.{put_mid, post_of}
use Rattle.spr_io.specs.Raw.{FileSeen, Gives, ReadsWhole, HasBytes, Syncs, is_sure, after_write, after_refused}
use Rattle.spr_io.specs.Host.{Image, cut, held_in, image_content, content_in, FileFits}
use Rattle.spr_io.proofs.Cut.{read_more, length-cut, cut_sizes, get_cut, set_cut, block_end, length-overwritten}

-- a fact that holds whatever was answered
pub either : {T E : Type 0} (r : Result T E) (P : Type 0) → OnOk r P → (IsErr r → P) → P
either (Ok x) P ok err = ok
either (Err e) P ok err = err refl

pub on_ok : {T E : Type 0} (r : Result T E) (P : Type 0) → P → OnOk r P
on_ok (Ok x) P p = p
on_ok (Err e) P p = tt

pub at_err : {T E : Type 0} (r : Result T E) (P : Type 0) → IsErr r → OnErr r P → P
at_err (Ok x) P is p = absurd cc
at_err (Err e) P is p = p

-- what an outcome says is so where the answer is Ok, as long as the count has room
pub answered_ok : {T E S D : Type 0} (outcome : Result T E) (result : Result S D) (Room P : Type 0) → (Room → IsErr outcome → IsErr result) → OnOk outcome P → OnOk result (Room → P)
answered_ok outcome (Err d) Room P refused p = tt
answered_ok (Ok x) (Ok y) Room P refused p = λ (_ : Room). p
answered_ok {S = S} {D = D} (Err e) (Ok y) Room P refused p = λ (room : Room). let no : IsErr {T = S} {E = D} (Ok y) = refused room refl in absurd cc

pub answered_err : {T E S D : Type 0} (outcome : Result T E) (result : Result S D) (P : Type 0) → (IsErr result → IsErr outcome) → OnErr outcome P → OnErr result P
answered_err outcome (Ok y) P failed p = tt
answered_err (Err e) (Err d) P failed p = p
answered_err {T = T} {E = E} (Ok x) (Err d) P failed p = let no : IsErr {T = T} {E = E} (Ok x) = failed refl in absurd cc

-- a file that may refuse a call tells a store's caller nothing
pub untold : (size number : ℕ) (seen : Option FileSeen) → is_sure seen ≡ false → content_in size number seen ≡ None
untold size number seen unsure = rw unsure refl

pub shaped : (size number : ℕ) (spoiled : Bool) (seen : Option FileSeen) → FileFits (number * size) spoiled seen → IsShaped size number (content_in size number seen)
shaped size number spoiled None fits = tt
shaped size number spoiled (Some f) fits = by_sure f.sure where
  shape : HasShape size number (record { blocks = cut size number f.bytes; kept = cut size number f.synced })
  shape = record {
    blocks = length-cut size number f.bytes;
    kept = length-cut size number f.synced;
    sizes = cut_sizes size number f.bytes fits.bytes;
    kept_sizes = cut_sizes size number f.synced fits.synced;
  }

  by_sure : (b : Bool) → IsShaped size number (cond b (Some (record { blocks = cut size number f.bytes; kept = cut size number f.synced })) None)
  by_sure true = shape
  by_sure false = tt

-- a block that is read
pub reads_held : (size number block : ℕ) (seen : Option FileSeen) (out : List ℕ) → block < number → length out ≡ size → ReadsWhole seen (block * size) out → ReadsBlock (held_in size number seen) block out
reads_held size number block None out within fits whole = tt
reads_held size number block (Some f) out within fits whole =
    get_cut size number block f.bytes within ∙ ap Some (ap (λ (n : ℕ). take n (drop (block * size) f.bytes)) (sym fits) ∙ sym whole)

pub reads_told : (size number block : ℕ) (seen : Option FileSeen) (out : List ℕ) → ReadsBlock (held_in size number seen) block out → ReadsBlock (content_in size number seen) block out
reads_told size number block seen out reads = by_sure (is_sure seen) where
  by_sure : (b : Bool) → ReadsBlock (cond b (held_in size number seen) None) block out
  by_sure true = reads
  by_sure false = tt

pub reads_untold : (size number block : ℕ) (seen : Option FileSeen) (out : List ℕ) → is_sure seen ≡ false → ReadsBlock (content_in size number seen) block out
reads_untold size number block seen out unsure = rw unsure tt

pub has_block : (size number block count : ℕ) (spoiled : Bool) (seen : Option FileSeen) → block < number → count ≡ size → FileFits (number * size) spoiled seen → HasBytes (block * size) count seen
has_block size number block count spoiled None within same fits = tt
has_block size number block count spoiled (Some f) within same fits = let long = fits.bytes in omega (arith, block_end size number block within)

-- a block that is written
pub held_written : (size number block : ℕ) (bytes : List ℕ) (spoiled : Bool) (seen : Option FileSeen) → block < number → length bytes ≡ size → FileFits (number * size) spoiled seen → held_in size number (after_write (block * size) bytes seen) ≡ written block bytes (held_in size number seen)
held_written size number block bytes spoiled None within same fits = refl
held_written size number block bytes spoiled (Some f) within same fits =
    ap (λ (b : List (List ℕ)). Some (record { blocks = b; kept = cut size number f.synced })) (set_cut size number block f.bytes bytes within fits.bytes same)

pub told_written : (size number block : ℕ) (bytes : List ℕ) (spoiled : Bool) (seen : Option FileSeen) → block < number → length bytes ≡ size → FileFits (number * size) spoiled seen → content_in size number (after_write (block * size) bytes seen) ≡ written block bytes (content_in size number seen)
told_written size number block bytes spoiled None within same fits = refl
told_written size number block bytes spoiled (Some f) within same fits = by_sure f.sure where
  by_sure : (b : Bool) → cond b (held_in size number (after_write (block * size) bytes (Some f))) None ≡ written block bytes (cond b (held_in size number (Some f)) None)
  by_sure true = held_written size number block bytes spoiled (Some f) within same fits
  by_sure false = refl

pub untold_written : (size number block : ℕ) (bytes : List ℕ) (seen : Option FileSeen) → is_sure seen ≡ false → content_in size number seen ≡ written block bytes (content_in size number seen)
untold_written size number block bytes seen unsure = rw unsure refl

pub fits_written : (offset len : ℕ) (bytes : List ℕ) (spoiled : Bool) (seen : Option FileSeen) → HasBytes offset (length bytes) seen → FileFits len spoiled seen → FileFits len spoiled (after_write offset bytes seen)
fits_written offset len bytes spoiled None has fits = tt
fits_written offset len bytes spoiled (Some f) has fits = record {
  bytes = length-overwritten offset bytes f.bytes has ∙ fits.bytes;
  synced = fits.synced;
  failed = fits.failed;
  unsure = fits.unsure;
}

-- the file after a write, that was done or refused
pub fits_outcome : {T E : Type 0} (r : Result T E) (offset len : ℕ) (bytes : List ℕ) (spoiled : Bool) (before after : Option FileSeen) → HasBytes offset (length bytes) before → OnOk r (after ≡ after_write offset bytes before) → OnErr r (after ≡ before) → FileFits len spoiled before → FileFits len spoiled after
fits_outcome (Ok x) offset len bytes spoiled before after has ok err fits = rw ok (fits_written offset len bytes spoiled before has fits)
fits_outcome (Err e) offset len bytes spoiled before after has ok err fits = rw err fits

-- a sync that was done
pub held_synced : (size number len : ℕ) (before after : Option FileSeen) → FileFits len false before → Syncs before after → held_in size number after ≡ flushed (held_in size number before)
held_synced size number len None after fits s = ap (held_in size number) s.told
held_synced size number len (Some f) after fits s =
    ap (held_in size number) s.told ∙ ap (λ (b : List ℕ). Some (record { blocks = cut size number f.bytes; kept = cut size number b })) (s.whole fits.failed)

pub told_synced : (size number len : ℕ) (before after : Option FileSeen) → FileFits len false before → Syncs before after → content_in size number after ≡ flushed (content_in size number before)
told_synced size number len None after fits s = ap (content_in size number) s.told
told_synced size number len (Some f) after fits s = ap (content_in size number) s.told ∙ by_sure f.sure where
  by_sure : (b : Bool) → cond b (Some (record { blocks = cut size number f.bytes; kept = cut size number s.kept })) None ≡ flushed (cond b (held_in size number (Some f)) None)
  by_sure true = ap (λ (b : List ℕ). Some (record { blocks = cut size number f.bytes; kept = cut size number b })) (s.whole fits.failed)
  by_sure false = refl

pub untold_flushed : (size number : ℕ) (seen : Option FileSeen) → is_sure seen ≡ false → content_in size number seen ≡ flushed (content_in size number seen)
untold_flushed size number seen unsure = rw unsure refl

-- a sync that was refused
pub held_refused : (size number : ℕ) (seen : Option FileSeen) → held_in size number (after_refused seen) ≡ held_in size number seen
held_refused size number None = refl
held_refused size number (Some f) = refl

pub told_refused : (size number : ℕ) (seen : Option FileSeen) → content_in size number (after_refused seen) ≡ content_in size number seen
told_refused size number None = refl
told_refused size number (Some f) = refl

pub fits_synced : (len : ℕ) (before after : Option FileSeen) → FileFits len false before → Syncs before after → FileFits len false after
fits_synced len None after fits s = rw s.told tt
fits_synced len (Some f) after fits s = rw s.told (record {
  bytes = fits.bytes;
  synced = ap length (s.whole fits.failed) ∙ fits.bytes;
  failed = fits.failed;
  unsure = fits.unsure;
})

pub fits_refused : (len : ℕ) (before : Option FileSeen) → is_sure before ≡ false → FileFits len false before → FileFits len true (after_refused before)
fits_refused len None unsure fits = tt
fits_refused len (Some f) unsure fits = record { bytes = fits.bytes; synced = fits.synced; failed = refl; unsure = λ _. unsure }

-- a spoiled store's file may refuse a call
pub spoiled_unsure : (len : ℕ) (seen : Option FileSeen) → FileFits len true seen → is_sure seen ≡ false
spoiled_unsure len None fits = refl
spoiled_unsure len (Some f) fits = fits.unsure refl

-- one more piece of what is read of a file
pub reads_more : (seen now : Option FileSeen) (done count start k : ℕ) (out piece : List ℕ) → now ≡ seen → done ≤ length out → count ≤ length piece → IfSome seen (λ f. take done out ≡ take done (drop start f.bytes)) → IfSome now (λ f. Gives f.bytes (start + done) count piece)
    → IfSome seen (λ f. take (done + count) (put_mid done k out piece) ≡ take (done + count) (drop start f.bytes))
reads_more None now done count start k out piece same room within before gives = tt
reads_more (Some f) now done count start k out piece same room within before gives =
    let here = subst (λ (o : Option FileSeen). IfSome o (λ (f : FileSeen). Gives f.bytes (start + done) count piece)) same gives in
    read_more done count start out piece (post_of done k out) f.bytes room within before here.there

-- a block stands within the numbers of its type
pub block_fits : (size number block start len : ℕ) → size < 2 ^ 32 → number < 2 ^ 32 → block < number → start ≡ block * size → len ≡ size → start + len < 2 ^ 64
block_fits size number block start len small few within at same =
    let a : block + 1 ≤ 4294967295 = omega arith in
    let b : size ≤ 4294967295 = omega arith in
    omega (arith, mul-le (block + 1) size 4294967295 4294967295 a b)

-- what a store's read, write and sync give, by what its file answered
pub reads_block : {T E : Type 0} (r : Result T E) (size number block start : ℕ) (seen : Option FileSeen) (out : List ℕ) → block < number → length out ≡ size → start ≡ block * size → OnOk r (ReadsWhole seen start out) → OnOk r (ReadsBlock (held_in size number seen) block out)
reads_block r size number block start seen out within fits at whole =
    on_ok_weaker r (λ w. reads_held size number block seen out within fits (subst (λ (n : ℕ). ReadsWhole seen n out) at w)) whole

pub reads_content : {T E : Type 0} (r : Result T E) (size number block : ℕ) (seen : Option FileSeen) (out : List ℕ) → OnOk r (ReadsBlock (held_in size number seen) block out) → (IsErr r → is_sure seen ≡ false) → ReadsBlock (content_in size number seen) block out
reads_content r size number block seen out reads unsure =
    either r (ReadsBlock (content_in size number seen) block out) (on_ok_weaker r (reads_told size number block seen out) reads) (λ err. reads_untold size number block seen out (unsure err))

pub at_block : (size number block start count : ℕ) (spoiled : Bool) (seen : Option FileSeen) → block < number → count ≡ size → start ≡ block * size → FileFits (number * size) spoiled seen → HasBytes start count seen
at_block size number block start count spoiled seen within same at fits =
    subst (λ (n : ℕ). HasBytes n count seen) (sym at) (has_block size number block count spoiled seen within same fits)

at_start : {T E : Type 0} (r : Result T E) (start place : ℕ) (bytes : List ℕ) (before after : Option FileSeen) → start ≡ place → OnOk r (after ≡ after_write start bytes before) → OnOk r (after ≡ after_write place bytes before)
at_start r start place bytes before after at ok = on_ok_weaker r (λ e. e ∙ ap (λ (n : ℕ). after_write n bytes before) at) ok

pub wrote_held : {T E : Type 0} (r : Result T E) (size number block start : ℕ) (bytes : List ℕ) (spoiled : Bool) (before after : Option FileSeen) → block < number → length bytes ≡ size → start ≡ block * size → FileFits (number * size) spoiled before → OnOk r (after ≡ after_write start bytes before)
    → OnOk r (held_in size number after ≡ written block bytes (held_in size number before))
wrote_held r size number block start bytes spoiled before after within same at fits ok =
    on_ok_weaker r (λ e. ap (held_in size number) e ∙ held_written size number block bytes spoiled before within same fits) (at_start r start (block * size) bytes before after at ok)

pub wrote_told : {T E : Type 0} (r : Result T E) (size number block start : ℕ) (bytes : List ℕ) (spoiled : Bool) (before after : Option FileSeen) → block < number → length bytes ≡ size → start ≡ block * size → FileFits (number * size) spoiled before → OnOk r (after ≡ after_write start bytes before) → OnErr r (after ≡ before) → (IsErr r → is_sure before ≡ false)
    → content_in size number after ≡ written block bytes (content_in size number before)
wrote_told r size number block start bytes spoiled before after within same at fits ok err unsure =
    either r (content_in size number after ≡ written block bytes (content_in size number before))
    (on_ok_weaker r (λ e. ap (content_in size number) e ∙ told_written size number block bytes spoiled before within same fits) (at_start r start (block * size) bytes before after at ok))
    (λ is. ap (content_in size number) (at_err r (after ≡ before) is err) ∙ untold_written size number block bytes before (unsure is))

pub synced_held : {T E : Type 0} (r : Result T E) (size number len : ℕ) (before after : Option FileSeen) → FileFits len false before → OnOk r (Syncs before after) → OnOk r (held_in size number after ≡ flushed (held_in size number before))
synced_held r size number len before after fits ok = on_ok_weaker r (held_synced size number len before after fits) ok

pub synced_told : {T E : Type 0} (r : Result T E) (size number len : ℕ) (before after : Option FileSeen) → FileFits len false before → OnOk r (Syncs before after) → OnErr r (after ≡ after_refused before) → (IsErr r → is_sure before ≡ false)
    → content_in size number after ≡ flushed (content_in size number before)
synced_told r size number len before after fits ok err unsure =
    either r (content_in size number after ≡ flushed (content_in size number before))
    (on_ok_weaker r (told_synced size number len before after fits) ok)
    (λ is. ap (content_in size number) (at_err r (after ≡ after_refused before) is err) ∙ told_refused size number before ∙ untold_flushed size number before (unsure is))

pub refused_held : {T E : Type 0} (r : Result T E) (size number : ℕ) (before after : Option FileSeen) → OnErr r (after ≡ after_refused before) → OnErr r (held_in size number after ≡ held_in size number before)
refused_held r size number before after err = on_err_weaker r (λ e. ap (held_in size number) e ∙ held_refused size number before) err

pub refused_told : {T E : Type 0} (r : Result T E) (size number : ℕ) (before after : Option FileSeen) → OnErr r (after ≡ after_refused before) → OnErr r (content_in size number after ≡ content_in size number before)
refused_told r size number before after err = on_err_weaker r (λ e. ap (content_in size number) e ∙ told_refused size number before) err

pub fits_after_sync : {T E : Type 0} (r : Result T E) (len : ℕ) (before after : Option FileSeen) → FileFits len false before → OnOk r (Syncs before after) → OnErr r (after ≡ after_refused before) → (IsErr r → is_sure before ≡ false) → FileFits len (is_err r) after
fits_after_sync (Ok x) len before after fits ok err unsure = fits_synced len before after fits ok
fits_after_sync (Err e) len before after fits ok err unsure = rw err (fits_refused len before (unsure refl) fits)

pub errs : {T E : Type 0} (r : Result T E) → OnErr r (is_err r ≡ true)
errs (Ok x) = tt
errs (Err e) = refl

-- a store once it has answered: its count alone changes
pub keeps : (old mid new : Image) → mid.size ≡ old.size → mid.blocks ≡ old.blocks → new ≡ record mid { count = new.count } → IsShaped new.size new.blocks (image_content new) → KeepsShape old.size old.blocks new.size new.blocks (image_content new)
keeps old mid new size blocks same shape =
    let s : new.size ≡ old.size = ap (λ (i : Image). i.size) same ∙ size in
    let n : new.blocks ≡ old.blocks = ap (λ (i : Image). i.blocks) same ∙ blocks in
    record {
      same_size = s;
      same_number = n;
      told = subst (λ (k : ℕ). IsShaped k old.blocks (image_content new)) s (subst (λ (k : ℕ). IsShaped new.size k (image_content new)) n shape);
    }

pub counts_from : (old mid now : ℕ) (Fails : Type 0) → mid ≡ old → Counts mid now Fails → Counts old now Fails
counts_from old mid now Fails same counts = subst (λ (n : ℕ). Counts n now Fails) same counts

pub wrote_alone : (old mid new : Image) → mid ≡ record old { file = mid.file } → new ≡ record mid { count = new.count } → new ≡ record old { count = new.count; file = new.file }
wrote_alone old mid new wrote same =
    same
    ∙ ap (λ (i : Image). record i { count = new.count }) wrote
    ∙ ap (λ (f : Option FileSeen). record old { count = new.count; file = f }) (sym (ap (λ (i : Image). i.file) same))
