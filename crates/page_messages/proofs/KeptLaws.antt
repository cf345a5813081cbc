-- What a table allows keeps each of its pages as it must be.
use Rattle.std.specs.Prelude.{IsSomeAnd, IfSome}
use Rattle.std.proofs.Common.{◌≡◌, ◌≢◌, ℕ, ◌<◌, inl, inr, sym, ◌∙◌, ap, subst, refl, Bool, true, false, cond, List, length, Option, Some, None}
use Rattle.std.proofs.lemmas.Bool.Decides.{eqb_tells}
use Rattle.tower_core.specs.declared.right.Right.{Right}
use Rattle.tower_core.specs.Column.{updated}
use Rattle.layer_laws.specs.Side.{Side, own_after, kid_after, written, brought}
use Rattle.pager_channel.specs.Flags.{has_data}
use Rattle.pager_channel.specs.Seen.{FrameSeen}
use Rattle.page_messages.specs.declared.kinds.Asked.{Asked}
use Rattle.page_messages.specs.declared.kinds.Called.{Called}
use Rattle.page_messages.specs.declared.kinds.Answer.{Answer}
use Rattle.page_messages.specs.Masks.{IsIn}
use Rattle.page_messages.specs.Kept.{IsKept}
use Rattle.page_messages.specs.Kinds.{right_of, bytes_up, bytes_down, asked_in, called_in, answer_in, reply_in}
use Rattle.page_messages.specs.Rights.{asked_right, called_right, Pushes, GivesBack}
use Rattle.page_messages.specs.Rules.{NoKidHolds, MayServe, MayCall, MayObey, MayTake}
use Rattle.page_messages.specs.After.{after_pager, after_child, page_after}
use Rattle.page_messages.specs.declared.message.Message.{Message}
use Rattle.page_messages.specs.Message.{first_in, second_in, Allows}
use Rattle.std.specs.Option.{option_map}
use Rattle.page_messages.proofs.KindLaws.{question_says, order_says, reply_says, answer_says, AnswerSays}

-- what one page of a table allows
abbrev pub AllowsQuestion : ℕ → FrameSeen → Side → Type 0
AllowsQuestion child f s = IsSomeAnd (asked_in f) (MayServe s child (has_data f.head.flags))

abbrev pub AllowsOrder : FrameSeen → Side → Type 0
AllowsOrder f s = IsSomeAnd (called_in f) (MayObey s)

abbrev pub AllowsAnswer : FrameSeen → Side → Type 0
AllowsAnswer f s = IsSomeAnd (answer_in f) (MayTake s)

abbrev pub AllowsReply : ℕ → FrameSeen → Side → Type 0
AllowsReply child f s = IsSomeAnd (reply_in f) (MayCall s child)

pub write_some : (r : Right) → r ≡ Right.Write → r ≢ Right.Nothing
write_some r e n = let no : Right.Write ≡ Right.Nothing = sym e ∙ n in cc

pub read_some : (r : Right) → r ≡ Right.Read → r ≢ Right.Nothing
read_some r e n = let no : Right.Read ≡ Right.Nothing = sym e ∙ n in cc

-- of an option that has a value of this kind
pub is_some_and : {A : Type 0} (o : Option A) (P : A → Type 0) → IsSomeAnd o P → (x : A) × (o ≡ Some x) × P x
is_some_and None P h = elim h [ ]
is_some_and (Some x) P h = (x, refl, h)

-- a table with another value at one key, at each key
pub at_key : (f : ℕ → Right) (key : ℕ) (value : Right) (k : ℕ) (P : Right → Type 0) → (k ≡ key → P value) → P (f k) → P (updated f key value k)
at_key f key value k P here there = elim (eqb_tells k key) [
  | inl same ↦ rw same.0 (here same.1)
  | inr other ↦ rw other.0 there
]

module _ (page_size children : ℕ) (s : Side) (kept : IsKept page_size children s) where
  -- another right and no bytes
  bare_kept : (right : Right) → (right ≢ Right.Nothing → s.right ≢ Right.Nothing) → (right ≡ Right.Nothing → NoKidHolds s) → IsKept page_size children (own_after right None s)
  bare_kept right had none = record {
    held = λ some. kept.held (had some);
    room = kept.room;
    capped = λ child some nothing. some (none nothing child);
    known = kept.known;
  }

  -- another right and a page
  paged_kept : (right : Right) (bytes : List ℕ) → right ≢ Right.Nothing → length bytes ≡ page_size → IsKept page_size children (own_after right (Some bytes) s)
  paged_kept right bytes some long = record {
    held = λ _. long;
    room = λ _. long;
    capped = λ child _. some;
    known = kept.known;
  }

  -- another right of a child
  child_kept : (child : ℕ) (right : Right) (up : Option (List ℕ)) → IsIn children child → (right ≢ Right.Nothing → s.right ≢ Right.Nothing) → IfSome up (λ bytes. length bytes ≡ page_size) → IsKept page_size children (kid_after child right up s)
  child_kept child right up is_in had long = record {
    held = λ some. copied up long (kept.held some);
    room = λ some. copied_room up long some;
    capped = λ other. at_key s.kids child right other (λ r. r ≢ Right.Nothing → s.right ≢ Right.Nothing) (λ _. had) (kept.capped other);
    known = λ other. at_key s.kids child right other (λ r. r ≢ Right.Nothing → IsIn children other) (λ e _. subst (IsIn children) (sym e) is_in) (kept.known other);
  }
    where
      copied : (up : Option (List ℕ)) → IfSome up (λ bytes. length bytes ≡ page_size) → length s.copy ≡ page_size → length (brought up s.copy) ≡ page_size
      copied None l h = h
      copied (Some bytes) l h = l

      copied_room : (up : Option (List ℕ)) → IfSome up (λ bytes. length bytes ≡ page_size) → 0 < length (brought up s.copy) → length (brought up s.copy) ≡ page_size
      copied_room None l h = kept.room h
      copied_room (Some bytes) l h = l

  had_write : (child : ℕ) → s.kids child ≡ Right.Write → s.right ≢ Right.Nothing
  had_write child e = kept.capped child (write_some (s.kids child) e)

  had_read : (child : ℕ) → s.kids child ≡ Right.Read → s.right ≢ Right.Nothing
  had_read child e = kept.capped child (read_some (s.kids child) e)

  -- AN ORDER
  order_right : (what : Called) → MayObey s what → (called_right what ≢ Right.Nothing → s.right ≢ Right.Nothing) × (called_right what ≡ Right.Nothing → NoKidHolds s)
  order_right Called.FlushBack may = (λ some. absurd (some refl), λ _. may.1)
  order_right Called.DenyWrites may = (λ _. write_some s.right may.0, λ no. absurd (read_some Right.Read refl no))
  order_right Called.WriteBack may = (λ _. write_some s.right may, λ no. absurd (write_some Right.Write refl no))
  order_right Called.DeleteRange may = (λ some. absurd (some refl), λ _. may.1)
  order_right Called.Destroy may = (λ some. absurd (some refl), λ _. may.1)

  order_brings : (f : FrameSeen) → AllowsOrder f s → bytes_down page_size f ≡ None
  order_brings f allows =
      let m = is_some_and (called_in f) (MayObey s) allows in
      let says = order_says page_size f.which f.head.flags f.head.access m.0 m.1 in
      says.brings (bytes_up f) ∙ ap (λ (b : Bool). cond b (Some f.body) None) says.bare

  order_kept : (f : FrameSeen) → AllowsOrder f s → IsKept page_size children (own_after (right_of f.head.access) None s)
  order_kept f allows =
      let m = is_some_and (called_in f) (MayObey s) allows in
      let says = order_says page_size f.which f.head.flags f.head.access m.0 m.1 in
      let r = order_right m.0 m.2 in
      subst (λ (x : Right). IsKept page_size children (own_after x None s)) (sym says.right) (bare_kept (called_right m.0) r.0 r.1)

  -- AN ANSWER
  settled : (f : FrameSeen) (right : Right) → right_of f.head.access ≡ right → bytes_down page_size f ≡ None → (right ≢ Right.Nothing → s.right ≢ Right.Nothing) → (right ≡ Right.Nothing → NoKidHolds s) → IsKept page_size children (after_pager page_size f s)
  settled f right to none had nothing = rw (to, none) (bare_kept right had nothing)

  answer_kept_as : (f : FrameSeen) (what : Answer) → MayTake s what → AnswerSays page_size f.which what f.head.flags f.head.access → (has_data f.head.flags ≡ true → length f.body ≡ page_size) → IsKept page_size children (after_pager page_size f s)
  answer_kept_as f Answer.Grant may says long =
      let b = is_some_and (bytes_down page_size f) (λ bytes. length bytes ≡ page_size) (says.brings f.body long) in
      subst (λ (o : Option (List ℕ)). IsKept page_size children (own_after (right_of f.head.access) o s)) (sym b.1) (paged_kept (right_of f.head.access) b.0 says.given b.2)
  answer_kept_as f Answer.Upgrade may says long = settled f Right.Write says.right (says.brings f.body) (λ _. read_some s.right may) (λ no. absurd (write_some Right.Write refl no))
  answer_kept_as f Answer.PageOut may says long = settled f Right.Nothing says.right (says.brings f.body) (λ some. absurd (some refl)) (λ _. may.1)
  answer_kept_as f Answer.WriteOut may says long = settled f Right.Read says.right (says.brings f.body) (λ _. write_some s.right may.0) (λ no. absurd (read_some Right.Read refl no))
  answer_kept_as f Answer.Sync may says long = settled f Right.Write says.right (says.brings f.body) (λ _. write_some s.right may) (λ no. absurd (write_some Right.Write refl no))
  answer_kept_as f Answer.Done may says long = settled f Right.Nothing says.right (says.brings f.body) (λ some. absurd (some refl)) (λ _. may.1)

  answer_kept : (f : FrameSeen) → AllowsAnswer f s → (has_data f.head.flags ≡ true → length f.body ≡ page_size) → IsKept page_size children (after_pager page_size f s)
  answer_kept f allows long =
      let m = is_some_and (answer_in f) (MayTake s) allows in
      answer_kept_as f m.0 m.2 (answer_says page_size f.which f.head.flags f.head.access m.0 m.1) long

  -- A QUESTION of a child's
  question_right : (child : ℕ) (full : Bool) (what : Asked) → MayServe s child full what → asked_right what ≢ Right.Nothing → s.right ≢ Right.Nothing
  question_right child full Asked.PageInRead may some = may.0
  question_right child full Asked.PageInWrite may some = write_some s.right may.0
  question_right child full Asked.PageOut may some = absurd (some refl)
  question_right child full Asked.WriteOut may some = had_write child may
  question_right child full Asked.Sync may some = had_write child may
  question_right child full Asked.Done may some = absurd (some refl)

  question_full : (child : ℕ) (what : Asked) → MayServe s child true what → Pushes what → s.right ≢ Right.Nothing
  question_full child Asked.PageInRead may full = elim full [ ]
  question_full child Asked.PageInWrite may full = elim full [ ]
  question_full child Asked.PageOut may full = had_write child (may.1 refl)
  question_full child Asked.WriteOut may full = had_write child may
  question_full child Asked.Sync may full = had_write child may
  question_full child Asked.Done may full = elim full [ ]

  long_up : (b : Bool) (body : List ℕ) → (b ≡ true → length body ≡ page_size) → IfSome (cond b (Some body) None) (λ bytes. length bytes ≡ page_size)
  long_up true body h = h refl
  long_up false body h = tt

  question_kept : (child : ℕ) (f : FrameSeen) → IsIn children child → AllowsQuestion child f s → (has_data f.head.flags ≡ true → length f.body ≡ page_size) → IsKept page_size children (after_child child f s)
  question_kept child f is_in allows long =
      let m = is_some_and (asked_in f) (MayServe s child (has_data f.head.flags)) allows in
      let says = question_says f.which f.head.flags f.head.access m.0 m.1 in
      child_kept child (right_of f.head.access) (bytes_up f) is_in
      (λ some. question_right child (has_data f.head.flags) m.0 m.2 (subst (λ (r : Right). r ≢ Right.Nothing) says.right some))
      (long_up (has_data f.head.flags) f.body long)

  -- where it has data, they fit the copy
  question_fits : (child : ℕ) (f : FrameSeen) → AllowsQuestion child f s → has_data f.head.flags ≡ true → length s.copy ≡ page_size
  question_fits child f allows full =
      let m = is_some_and (asked_in f) (MayServe s child (has_data f.head.flags)) allows in
      let says = question_says f.which f.head.flags f.head.access m.0 m.1 in
      kept.held (question_full child m.0 (subst (λ (b : Bool). MayServe s child b m.0) full m.2) (says.full full))

  -- AN ANSWER of a child's
  reply_right : (child : ℕ) (what : Called) → MayCall s child what → called_right what ≢ Right.Nothing → s.right ≢ Right.Nothing
  reply_right child Called.FlushBack may some = absurd (some refl)
  reply_right child Called.DenyWrites may some = had_write child may
  reply_right child Called.WriteBack may some = had_write child may
  reply_right child Called.DeleteRange may some = absurd (some refl)
  reply_right child Called.Destroy may some = absurd (some refl)

  reply_full : (child : ℕ) (what : Called) → MayCall s child what → GivesBack what → s.right ≢ Right.Nothing
  reply_full child Called.FlushBack may full = had_write child may
  reply_full child Called.DenyWrites may full = had_write child may
  reply_full child Called.WriteBack may full = had_write child may
  reply_full child Called.DeleteRange may full = elim full [ ]
  reply_full child Called.Destroy may full = elim full [ ]

  reply_kept : (child : ℕ) (f : FrameSeen) → IsIn children child → AllowsReply child f s → (has_data f.head.flags ≡ true → length f.body ≡ page_size) → IsKept page_size children (after_child child f s)
  reply_kept child f is_in allows long =
      let m = is_some_and (reply_in f) (MayCall s child) allows in
      let says = reply_says f.which f.head.flags f.head.access m.0 m.1 in
      child_kept child (right_of f.head.access) (bytes_up f) is_in
      (λ some. reply_right child m.0 m.2 (subst (λ (r : Right). r ≢ Right.Nothing) says.right some))
      (long_up (has_data f.head.flags) f.body long)

  reply_fits : (child : ℕ) (f : FrameSeen) → AllowsReply child f s → has_data f.head.flags ≡ true → length s.copy ≡ page_size
  reply_fits child f allows full =
      let m = is_some_and (reply_in f) (MayCall s child) allows in
      let says = reply_says f.which f.head.flags f.head.access m.0 m.1 in
      kept.held (reply_full child m.0 m.2 (says.full full))

  -- a write of the node's own
  pub written_kept : (bytes : List ℕ) → length bytes ≡ length s.copy → IsKept page_size children (written bytes s)
  written_kept bytes long = record {
    held = λ some. long ∙ kept.held some;
    room = λ some. long ∙ kept.room (subst (λ (n : ℕ). 0 < n) long some);
    capped = kept.capped;
    known = kept.known;
  }

  pub written_page : (bytes : List ℕ) → s.right ≢ Right.Nothing → length bytes ≡ page_size → IsKept page_size children (written bytes s)
  written_page bytes some long = record { held = λ _. long; room = λ _. long; capped = kept.capped; known = kept.known }

-- only a grant brings bytes down
only_grant : (page_size : ℕ) (f : FrameSeen) (what : Answer) → AnswerSays page_size f.which what f.head.flags f.head.access → bytes_down page_size f ≢ None → what ≡ Answer.Grant
only_grant page_size f Answer.Grant says some = refl
only_grant page_size f Answer.Upgrade says some = absurd (some (says.brings f.body))
only_grant page_size f Answer.PageOut says some = absurd (some (says.brings f.body))
only_grant page_size f Answer.WriteOut says some = absurd (some (says.brings f.body))
only_grant page_size f Answer.Sync says some = absurd (some (says.brings f.body))
only_grant page_size f Answer.Done says some = absurd (some (says.brings f.body))

brings_for_grant : (page_size : ℕ) (f : FrameSeen) (s : Side) → AllowsAnswer f s → bytes_down page_size f ≢ None → s.right ≡ Right.Nothing
brings_for_grant page_size f s allows some =
    let m = is_some_and (answer_in f) (MayTake s) allows in
    subst (MayTake s) (only_grant page_size f m.0 (answer_says page_size f.which f.head.flags f.head.access m.0 m.1) some) m.2

-- the message of an option of messages
mapped : {A : Type 0} (o : Option A) (g : A → Message) (P : Message → Type 0) → IsSomeAnd (option_map {T = A} g o) P → IsSomeAnd o (λ x. P (g x))
mapped None g P h = h
mapped (Some x) g P h = h

-- WHAT A FIRST FRAME KEEPS: one of the child, or else of the pager
module _ (page_size children : ℕ) (s : Side) (kept : IsKept page_size children s) where
  pub first_kept : (child : Option ℕ) (f : FrameSeen) → IfSome child (IsIn children) → IsSomeAnd (first_in child f) (Allows s) → (has_data f.head.flags ≡ true → length f.body ≡ page_size) → IsKept page_size children (page_after child page_size f s)
  first_kept (Some child) f is_in allows long = question_kept page_size children s kept child f is_in (mapped (asked_in f) (Message.Asks child (has_data f.head.flags)) (Allows s) allows) long
  first_kept None f is_in allows long =
      let order = mapped (called_in f) Message.Orders (Allows s) allows in
      rw (order_brings page_size children s kept f order) (order_kept page_size children s kept f order)

  pub second_kept : (child : Option ℕ) (f : FrameSeen) → IfSome child (IsIn children) → IsSomeAnd (second_in child f) (Allows s) → (has_data f.head.flags ≡ true → length f.body ≡ page_size) → IsKept page_size children (page_after child page_size f s)
  second_kept (Some child) f is_in allows long = reply_kept page_size children s kept child f is_in (mapped (reply_in f) (Message.Replies child) (Allows s) allows) long
  second_kept None f is_in allows long = answer_kept page_size children s kept f (mapped (answer_in f) Message.Answers (Allows s) allows) long

  pub first_fits : (child : ℕ) (f : FrameSeen) → IsSomeAnd (first_in (Some child) f) (Allows s) → has_data f.head.flags ≡ true → length s.copy ≡ page_size
  first_fits child f allows full = question_fits page_size children s kept child f (mapped (asked_in f) (Message.Asks child (has_data f.head.flags)) (Allows s) allows) full

  pub second_fits : (child : ℕ) (f : FrameSeen) → IsSomeAnd (second_in (Some child) f) (Allows s) → has_data f.head.flags ≡ true → length s.copy ≡ page_size
  second_fits child f allows full = reply_fits page_size children s kept child f (mapped (reply_in f) (Message.Replies child) (Allows s) allows) full

  pub order_bare : (f : FrameSeen) → IsSomeAnd (first_in None f) (Allows s) → bytes_down page_size f ≡ None
  order_bare f allows = order_brings page_size children s kept f (mapped (called_in f) Message.Orders (Allows s) allows)

pub answer_for_nothing : (page_size : ℕ) (f : FrameSeen) (s : Side) → IsSomeAnd (second_in None f) (Allows s) → bytes_down page_size f ≢ None → s.right ≡ Right.Nothing
answer_for_nothing page_size f s allows some = brings_for_grant page_size f s (mapped (answer_in f) Message.Answers (Allows s) allows) some
