-- What a frame about a page, which the table allows, makes of that page.
use Rattle.std.specs.Prelude.{IsSomeAnd, IfSome, IsSome, IsNone, IsOk, OnOk, OnErr}
use Rattle.std.proofs.Common.{◌≡◌, ◌≢◌, ℕ, ◌<◌, sym, ◌∙◌, ap, subst, refl, arith, Bool, true, false, cond, List, [], ◌∷◌, length, get_or, Option, Some, None, All, inl, inr, Result, Ok, Err}
use Rattle.std.proofs.Math.ListN.{set}
use Rattle.layer_laws.specs.Side.{Side}
use Rattle.pager_channel.specs.Flags.{has_data}
use Rattle.pager_channel.specs.Size.{data_size}
use Rattle.pager_channel.specs.Seen.{FrameSeen}
use Rattle.page_messages.specs.declared.slot.Slot.{Slot}
use Rattle.page_messages.specs.declared.kinds.Answer.{Answer}
use Rattle.page_messages.specs.declared.message.Message.{Message}
use Rattle.page_messages.specs.declared.paged.About.{About}
use Rattle.page_messages.specs.Kept.{IsKept}
use Rattle.page_messages.specs.Kinds.{bytes_down}
use Rattle.page_messages.specs.After.{page_after}
use Rattle.page_messages.specs.Message.{first_in, second_in, Allows}
use Rattle.page_messages.specs.Paged.{about_of, IsInside, IsOfPage}
use Rattle.page_messages.specs.Slot.{side_of, IsSlot}
use Rattle.page_messages.proofs.KeptLaws.{first_kept, second_kept, first_fits, second_fits, order_bare, answer_for_nothing}
use Rattle.coherency_layer.specs.declared.node.Node.{Node}
use Rattle.coherency_layer.specs.Node.{side, HasChild, AllowsAbout, AllowsFirst, AllowsSecond, IsSameNode, IsChange, IsLeft, IsForFirstCopy, ChangesAbout}
use Rattle.coherency_layer.proofs.Tables.{side_is, slot_kept, changes_page, all_kept}
use Rattle.coherency_layer.proofs.Serving.{at_message}
use Rattle.page_messages.proofs.NodeSets.{same_or_not}

weaker : {A : Type 0} (o : Option A) (P Q : A → Type 0) → ((x : A) → P x → Q x) → IsSomeAnd o P → IsSomeAnd o Q
weaker None P Q f h = h
weaker (Some x) P Q f h = f x h

either : {A E : Type 0} (r : Result A E) (P Q R : Type 0) → (P → R) → (Q → R) → OnOk r P → OnErr r Q → R
either (Ok x) P Q R f g ok err = f ok
either (Err e) P Q R f g ok err = g err

pub for_ok : {A E : Type 0} (r : Result A E) (P Q : Type 0) → (P → Q) → OnOk r P → OnOk r Q
for_ok (Ok x) P Q f h = f h
for_ok (Err e) P Q f h = h

pub for_err : {A E : Type 0} (r : Result A E) (P Q : Type 0) → (P → Q) → OnErr r P → OnErr r Q
for_err (Ok x) P Q f h = h
for_err (Err e) P Q f h = f h

for_both : {A E : Type 0} (r : Result A E) (P Q R S : Type 0) → (P → Q → (R → ⊥) → S) → OnErr r P → OnErr r Q → (R → IsOk r) → OnErr r S
for_both (Ok x) P Q R S f p q n = tt
for_both (Err e) P Q R S f p q n = f p q (λ r. let no = n r in absurd cc)

no_bytes : (xs : List ℕ) → (0 < length xs → ⊥) → xs ≡ []
no_bytes [] h = refl
no_bytes (x ∷ xs) h = absurd (h (omega arith))

full_size : (b : Bool) (n size : ℕ) → n ≡ cond b size 0 → b ≡ true → n ≡ size
full_size true n size e t = e
full_size false n size e t = absurd cc

-- the frame is about this page of the node's file
pub record IsAt (node : Node) (f : FrameSeen) (page : ℕ) : Type 0 where
  pub about : about_of node.file f ≡ Some (About.Page page)
  pub inside : page < node.file.pages
  pub size : f.head.size ≡ node.file.page_size
  pub sized : length f.body ≡ data_size f.head

pub is_at : (node : Node) (f : FrameSeen) (page : ℕ) (found : Option About) (about : About) → found ≡ Some about → about ≡ About.Page page → found ≡ about_of node.file f → IfSome found (IsInside node.file) → (IsOfPage found → f.head.size ≡ node.file.page_size) → length f.body ≡ data_size f.head → IsAt node f page
is_at node f page found about some paged is inside size sized =
    let e = some ∙ ap Some paged in
    record {
      about = sym is ∙ e;
      inside = subst (λ (o : Option About). IfSome o (IsInside node.file)) e inside;
      size = size (subst IsOfPage (sym e) tt);
      sized = sized;
    }

module _ (node : Node) (child : Option ℕ) (f : FrameSeen) (page : ℕ) (old : Slot) (at : IsAt node f page) (was : old ≡ get_or node.slots.items page old) (is_child : IfSome child (HasChild node)) where
  pub seen : side node page ≡ side_of old
  seen = side_is node page old at.inside was

  pub kept : IsKept node.file.page_size node.children (side_of old)
  kept = slot_kept node page old at.inside was

  long : has_data f.head.flags ≡ true → length f.body ≡ node.file.page_size
  long full = full_size (has_data f.head.flags) (length f.body) f.head.size at.sized full ∙ at.size

  here : (message : Message) → AllowsAbout node f message → Allows (side_of old) message
  here message allows = subst (λ (s : Side). Allows s message) seen (at_message node f message (About.Page page) allows at.about)

  first_here : AllowsFirst node child f → IsSomeAnd (first_in child f) (Allows (side_of old))
  first_here allows = weaker (first_in child f) (AllowsAbout node f) (Allows (side_of old)) here allows

  second_here : AllowsSecond node child f → IsSomeAnd (second_in child f) (Allows (side_of old))
  second_here allows = weaker (second_in child f) (λ message. (message ≢ Message.Answers Answer.PageOut) × AllowsAbout node f message) (Allows (side_of old)) (λ message both. here message both.1) allows

  pub room : 0 < length (side_of old).copy → length (side_of old).copy ≡ node.file.page_size
  room some = kept.room some

  first_data : (o : Option ℕ) → IsSomeAnd (first_in o f) (Allows (side_of old)) → IsSome o → has_data f.head.flags ≡ true → length f.body ≡ length (side_of old).copy
  first_data None allows some full = absurd cc
  first_data (Some c) allows some full = long full ∙ sym (first_fits node.file.page_size node.children (side_of old) kept c f allows full)

  second_data : (o : Option ℕ) → IsSomeAnd (second_in o f) (Allows (side_of old)) → IsSome o → has_data f.head.flags ≡ true → length f.body ≡ length (side_of old).copy
  second_data None allows some full = absurd cc
  second_data (Some c) allows some full = long full ∙ sym (second_fits node.file.page_size node.children (side_of old) kept c f allows full)

  pub first_sized : AllowsFirst node child f → IsSome child → has_data f.head.flags ≡ true → length f.body ≡ length (side_of old).copy
  first_sized allows = first_data child (first_here allows)

  pub second_sized : AllowsSecond node child f → IsSome child → has_data f.head.flags ≡ true → length f.body ≡ length (side_of old).copy
  second_sized allows = second_data child (second_here allows)

  bare : (o : Option ℕ) → IsSomeAnd (first_in o f) (Allows (side_of old)) → IsNone o → bytes_down node.file.page_size f ≡ None
  bare None allows none = order_bare node.file.page_size node.children (side_of old) kept f allows
  bare (Some c) allows none = absurd cc

  pub first_bare : AllowsFirst node child f → IsNone child → bytes_down node.file.page_size f ≡ None
  first_bare allows = bare child (first_here allows)

  -- the slot has the change
  module _ (new : Slot) (now : side_of new ≡ page_after child node.file.page_size f (side_of old)) where
    pub first_all : AllowsFirst node child f → All (IsSlot node.file.page_size node.children) (set node.slots.items page new)
    first_all allows = all_kept node page new (page_after child node.file.page_size f (side_of old)) now (first_kept node.file.page_size node.children (side_of old) kept child f is_child (first_here allows) long)

    pub second_all : AllowsSecond node child f → All (IsSlot node.file.page_size node.children) (set node.slots.items page new)
    second_all allows = all_kept node page new (page_after child node.file.page_size f (side_of old)) now (second_kept node.file.page_size node.children (side_of old) kept child f is_child (second_here allows) long)

    pub changed : (after : Node) → IsSameNode node after → after.slots.items ≡ set node.slots.items page new → IsChange node after child f
    changed after same slots = record {
      same = same;
      pages = subst (ChangesAbout node after child f) (sym at.about)
          (changes_page node after page new (page_after child node.file.page_size f (side node page)) at.inside slots (now ∙ ap (page_after child node.file.page_size f) (sym seen)));
    }

  -- the slot was left
  module _ (new : Slot) (now : side_of new ≡ side_of old) where
    pub left_all : All (IsSlot node.file.page_size node.children) (set node.slots.items page new)
    left_all = all_kept node page new (side_of old) now kept

    pub left : (after : Node) → IsSameNode node after → after.slots.items ≡ set node.slots.items page new → IsLeft node after
    left after same slots =
        let c = changes_page node after page new (side node page) at.inside slots (now ∙ sym seen) in
        record { same = same; sides = λ p. elim (same_or_not p page) [ inl e ↦ ap (side after) e ∙ c.here ∙ sym (ap (side node) e) | inr d ↦ c.others p d ] }

  pub accepted_all : {A E : Type 0} (r : Result A E) (new : Slot) → AllowsSecond node child f → OnOk r (side_of new ≡ page_after child node.file.page_size f (side_of old)) → OnErr r (side_of new ≡ side_of old) → All (IsSlot node.file.page_size node.children) (set node.slots.items page new)
  accepted_all r new allows ok err = either r _ _ _ (λ now. second_all new now allows) (λ now. left_all new now) ok err

  -- memory lacked
  for_first : (o : Option ℕ) → IsNone o → IsSomeAnd (second_in o f) (Allows (side_of old)) → IsSome (bytes_down node.file.page_size f) → (0 < length (side_of old).copy → ⊥) → IsForFirstCopy node f
  for_first (Some c) none allows some room = absurd cc
  for_first None none allows some room = record {
    page = page;
    about = at.about;
    nothing = ap (λ (s : Side). s.right) seen ∙ answer_for_nothing node.file.page_size f (side_of old) allows (there (bytes_down node.file.page_size f) some);
    no_copy = ap (λ (s : Side). s.copy) seen ∙ no_bytes (side_of old).copy room;
  }
    where
      there : (o : Option (List ℕ)) → IsSome o → o ≢ None
      there None s e = absurd cc
      there (Some bytes) s e = absurd cc

  first_copy : AllowsSecond node child f → IsNone child → IsSome (bytes_down node.file.page_size f) → (0 < length (side_of old).copy → ⊥) → IsForFirstCopy node f
  first_copy allows none = for_first child none (second_here allows)

  pub first_copies : {A E : Type 0} (r : Result A E) → AllowsSecond node child f → OnErr r (IsNone child) → OnErr r (IsSome (bytes_down node.file.page_size f)) → (0 < length (side_of old).copy → IsOk r) → OnErr r (IsForFirstCopy node f)
  first_copies r allows none some room = for_both r _ _ _ _ (first_copy allows) none some room
