-- What a frame that the table allows makes of a page.
use Rattle.std.specs.Prelude.{IsSome, IsSomeAnd, OnOk, OnErr}
use Rattle.std.proofs.Common.{◌≡◌, ◌≢◌, ℕ, sym, ◌∙◌, ap, subst, inl, inr, ◌⊎◌, false, List, length, Option, Some, None, Result, Ok, Err}
use Rattle.lru.specs.LruCache.{LruCache}
use Rattle.tower_core.specs.declared.right.Right.{Right}
use Rattle.layer_laws.specs.Side.{Side, own_after}
use Rattle.pager_channel.specs.Seen.{FrameSeen}
use Rattle.page_messages.specs.declared.slot.Slot.{Slot}
use Rattle.page_messages.specs.declared.paged.PagedFile.{PagedFile}
use Rattle.page_messages.specs.declared.kinds.Answer.{Answer}
use Rattle.page_messages.specs.Kept.{IsKept}
use Rattle.page_messages.specs.Kinds.{right_of, bytes_down, answer_in}
use Rattle.page_messages.specs.Slot.{side_of}
use Rattle.page_messages.specs.After.{after_pager}
use Rattle.page_messages.proofs.KindLaws.{answer_says, settled_right, IsSettling}
use Rattle.page_messages.proofs.NodeSets.{same_or_not}
use Rattle.page_messages.proofs.KeptLaws.{is_some_and}
use Rattle.page_messages.specs.Seen.{side_seen}
use Rattle.vmm_cache.specs.Frames.{slot_in, side_in, FramesPage, IsFramed, AreFramed}
use Rattle.vmm_cache.specs.declared.leaf.Leaf.{Leaf}
use Rattle.vmm_cache.specs.Leaf.{IsKeeping, IsGranting, ChangesPage}
use Rattle.vmm_cache.proofs.Sides.{no_kids}

-- frames stay as they must be
pub some_side : (o : Option Slot) (to : Side) → IsSomeAnd o (λ slot. side_of slot ≡ to) → side_seen o ≡ to
some_side None to h = elim h [ ]
some_side (Some slot) to h = h

pub framed_after : (file : PagedFile) (old new : LruCache ℕ Slot) (page : ℕ) (to : Side) (listed : List ℕ) → FramesPage old new page to listed → AreFramed file old → IsFramed file page to → AreFramed file new
framed_after file old new page to listed change was here other some = elim (same_or_not other page) [
  | inl e ↦ subst (λ (p : ℕ). IsFramed file p (side_in new p)) (sym e) (subst (IsFramed file page) (sym (some_side (slot_in new page) to change.here)) here)
  | inr d ↦ let same = change.elsewhere.others other d in subst (IsFramed file other) (sym (ap side_seen same)) (was other (subst IsSome same some))
]

not_nothing : (r q : Right) → r ≡ q → q ≢ Right.Nothing → r ≢ Right.Nothing
not_nothing r q e some n = some (sym e ∙ n)

-- the right that an answer leaves
keeps_as : (page_size : ℕ) (f : FrameSeen) (what : Answer) → settled_right what ≢ Right.Nothing → IsSettling page_size f.which what f.head.flags f.head.access → IsKeeping page_size f
keeps_as page_size f what some says = record { some = not_nothing (right_of f.head.access) (settled_right what) says.right some; bare = says.brings f.body }

pub keeps_answered : (page_size : ℕ) (f : FrameSeen) (what : Answer) → answer_in f ≡ Some what → (what ≡ Answer.WriteOut) ⊎ (what ≡ Answer.Sync) → IsKeeping page_size f
keeps_answered page_size f what is kind = elim kind [
  | inl e ↦ keeps_as page_size f Answer.WriteOut (λ n. let g : ⊥ = cc in g) (answer_says page_size f.which f.head.flags f.head.access Answer.WriteOut (is ∙ ap Some e))
  | inr e ↦ keeps_as page_size f Answer.Sync (λ n. let g : ⊥ = cc in g) (answer_says page_size f.which f.head.flags f.head.access Answer.Sync (is ∙ ap Some e))
]

-- a page that is granted
module _ (file : PagedFile) (page : ℕ) (f : FrameSeen) (g : IsGranting file page f) (fresh : Side) (bare : IsKept file.page_size 0 fresh) where
  pub granted_framed : IsFramed file page (after_pager file.page_size f fresh)
  granted_framed =
      let b = is_some_and (bytes_down file.page_size f) (λ bytes. length bytes ≡ file.page_size) g.full in
      record {
        inside = g.inside;
        right = g.some;
        kept = subst (λ (o : Option (List ℕ)). IsKept file.page_size 0 (own_after (right_of f.head.access) o fresh)) (sym b.1) (record {
          held = λ _. b.2;
          room = λ _. b.2;
          capped = λ child _. g.some;
          known = bare.known;
        });
      }

  same_kids : (s : Side) → ((child : ℕ) → s.kids child ≡ Right.Nothing) → fresh.kids ≡ s.kids
  same_kids s none = λ i child. (no_kids file.page_size fresh bare child ∙ sym (none child)) i

  -- the bytes are those of the frame, whatever was there
  pub granted_same : (s : Side) → ((child : ℕ) → s.kids child ≡ Right.Nothing) → after_pager file.page_size f fresh ≡ after_pager file.page_size f s
  granted_same s none =
      let b = is_some_and (bytes_down file.page_size f) (λ bytes. length bytes ≡ file.page_size) g.full in
      subst (λ (o : Option (List ℕ)). own_after (right_of f.head.access) o fresh ≡ own_after (right_of f.head.access) o s) (sym b.1)
      (ap (λ (kids : ℕ → Right). record { right = right_of f.head.access; copy = b.0; changed = false; kids = kids }) (same_kids s none))

pub either : {A E : Type 0} (r : Result A E) (P Q R : Type 0) → (P → R) → (Q → R) → OnOk r P → OnErr r Q → R
either (Ok x) P Q R f g ok err = f ok
either (Err e) P Q R f g ok err = g err

-- a frame was taken, or none was left
pub filled_after : {A E : Type 0} (r : Result A E) (file : PagedFile) (old new : LruCache ℕ Slot) (page : ℕ) (to : Side) (listed : List ℕ) → OnOk r (FramesPage old new page to listed) → OnErr r (new ≡ old) → AreFramed file old → IsFramed file page to → AreFramed file new
filled_after r file old new page to listed ok err was here = either r _ _ (AreFramed file new) (λ change. framed_after file old new page to listed change was here) (λ same. subst (AreFramed file) (sym same) was) ok err

-- what a change of the frames is of the leaf
pub changes_page : (leaf after : Leaf) (page : ℕ) (to now : Side) (listed : List ℕ) → after.file ≡ leaf.file → FramesPage leaf.held after.held page now listed → now ≡ to → ChangesPage leaf after page to listed
changes_page leaf after page to now listed file change is = record {
  same = record { file = file; frames = change.elsewhere.cap };
  here = some_side (slot_in after.held page) now change.here ∙ is;
  others = λ other d. ap side_seen (change.elsewhere.others other d);
  uses = change.uses;
}

pub for_ok : {A E : Type 0} (r : Result A E) (P Q : Type 0) → (P → Q) → OnOk r P → OnOk r Q
for_ok (Ok x) P Q f h = f h
for_ok (Err e) P Q f h = h
