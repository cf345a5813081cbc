-- One page of a table is another, and the others stay.
use Rattle.std.specs.Prelude.{vec_len, slice_range}
use Rattle.std.proofs.Common.{◌≡◌, ◌≢◌, ℕ, ◌+◌, ◌-◌, ◌<◌, drop, length-drop, sym, ◌∙◌, ap, subst, arith, List, length, get_or, All, inl, inr}
use Rattle.std.proofs.Math.ListN.{set}
use Rattle.std.proofs.lemmas.Option.{slice_get-get_or, slice_get_cases}
use Rattle.std.proofs.lemmas.List.{get_or_default, get_or-take, get_or-drop, length-take}
use Rattle.std.proofs.lemmas.List.Elements.{All-set}
use Rattle.tower_core.proofs.Steps.{slice_get-set_same, slice_get-set_other}
use Rattle.tower_core.specs.declared.right.Right.{Right}
use Rattle.layer_laws.specs.Side.{Side, written}
use Rattle.page_messages.specs.declared.slot.Slot.{Slot}
use Rattle.page_messages.specs.declared.paged.About.{About}
use Rattle.page_messages.specs.declared.message.Message.{Message}
use Rattle.page_messages.specs.Message.{Allows}
use Rattle.page_messages.specs.Paged.{IsInside}
use Rattle.page_messages.specs.Kept.{IsKept}
use Rattle.page_messages.specs.Slot.{side_of, IsSlot}
use Rattle.page_messages.proofs.KeptLaws.{written_page, write_some}
use Rattle.coherency_layer.specs.declared.node.Node.{Node}
use Rattle.page_messages.specs.Seen.{side_seen, side_in}
use Rattle.coherency_layer.specs.Node.{side, ChangesPage, MayWrite, OnPages, slots_about}

-- a page that is there
pub page_inside : (node : Node) (page : ℕ) → page < node.file.pages → page < length node.slots.items
page_inside node page inside = let len : vec_len node.slots ≡ length node.slots.items = node.slots.ok.0 in omega (arith, inside, node.whole, len)

pub side_is : (node : Node) (page : ℕ) (slot : Slot) → page < node.file.pages → slot ≡ get_or node.slots.items page slot → side node page ≡ side_of slot
side_is node page slot inside was = ap side_seen (slice_get-get_or node.slots.items page slot (page_inside node page inside)) ∙ ap side_of (sym was)

pub slot_kept : (node : Node) (page : ℕ) (slot : Slot) → page < node.file.pages → slot ≡ get_or node.slots.items page slot → IsKept node.file.page_size node.children (side_of slot)
slot_kept node page slot inside was = subst (IsSlot node.file.page_size node.children) (sym was) (node.kept page slot (page_inside node page inside))

pub changes_page : (old new : Node) (page : ℕ) (slot : Slot) (to : Side) → page < old.file.pages → new.slots.items ≡ set old.slots.items page slot → side_of slot ≡ to → ChangesPage old new page to
changes_page old new page slot to inside now is = record {
  here = ap (λ (xs : List Slot). side_in xs page) now ∙ ap side_seen (slice_get-set_same old.slots.items page slot (page_inside old page inside)) ∙ is;
  others = λ other d. ap (λ (xs : List Slot). side_in xs other) now ∙ ap side_seen (slice_get-set_other old.slots.items page other slot d);
}

pub all_kept : (node : Node) (page : ℕ) (slot : Slot) (to : Side) → side_of slot ≡ to → IsKept node.file.page_size node.children to → All (IsSlot node.file.page_size node.children) (set node.slots.items page slot)
all_kept node page slot to is kept = All-set (IsSlot node.file.page_size node.children) node.slots.items page slot (subst (IsKept node.file.page_size node.children) (sym is) kept) node.kept

-- a write of the node's own
module _ (node : Node) (page : ℕ) (old new : Slot) (bytes : List ℕ) (may : MayWrite node page) (was : old ≡ get_or node.slots.items page old) (is : side_of new ≡ written bytes (side_of old)) where
  pub seen : side node page ≡ side_of old
  seen = side_is node page old may.inside was

  kept_old : IsKept node.file.page_size node.children (side_of old)
  kept_old = slot_kept node page old may.inside was

  has_right : (side_of old).right ≢ Right.Nothing
  has_right = write_some (side_of old).right (ap (λ (s : Side). s.right) (sym seen) ∙ may.right)

  pub copy_long : length (side_of old).copy ≡ node.file.page_size
  copy_long = kept_old.held has_right

  pub write_kept : length bytes ≡ node.file.page_size → All (IsSlot node.file.page_size node.children) (set node.slots.items page new)
  write_kept long = all_kept node page new (written bytes (side_of old)) is (written_page node.file.page_size node.children (side_of old) kept_old bytes has_right long)

  pub write_changes : (after : Node) (last : List ℕ) → after.slots.items ≡ set node.slots.items page new → bytes ≡ last → ChangesPage node after page (written last (side node page))
  write_changes after last now same = changes_page node after page new (written last (side node page)) may.inside now (is ∙ ap (λ (b : List ℕ). written b (side_of old)) same ∙ sym (ap (written last) seen))

-- what holds of a slot of a list holds of what is read there
pub at_slot : (P : Slot → Type 0) (xs : List Slot) (k : ℕ) (slot d : Slot) → k < length xs → slot ≡ get_or xs k slot → P slot → P (get_or xs k d)
at_slot P xs k slot d inside was h = subst P (was ∙ get_or_default xs k slot d inside) h

-- the slot of a page that is there
record IsSlotAt (node : Node) (page : ℕ) : Type 0 where
  slot : Slot
  is : side node page ≡ side_of slot
  at : get_or node.slots.items page slot ≡ slot

slot_at : (node : Node) (page : ℕ) → page < node.file.pages → IsSlotAt node page
slot_at node page inside = elim (slice_get_cases node.slots.items page).1 [
  | inl t ↦ record { slot = t.0; is = ap side_seen t.2; at = t.3 }
  | inr t ↦ let l = page_inside node page inside in absurd (omega (arith, l, t.0))
]

one_long : (xs : List Slot) (k : ℕ) → k < length xs → length (slice_range xs k (k + 1)) ≡ 1
one_long xs k inside = let one : k + 1 - k ≡ 1 = omega arith in rw one (omega (arith, length-take 1 (drop k xs), length-drop k xs))

one_at : (xs : List Slot) (k : ℕ) (d : Slot) → get_or (slice_range xs k (k + 1)) 0 d ≡ get_or xs k d
one_at xs k d =
    let one : k + 1 - k ≡ 1 = omega arith in
    let zero_past : k + 0 ≡ k = omega arith in
    rw one (get_or-take 1 (drop k xs) 0 d (omega arith) ∙ get_or-drop k xs 0 d ∙ ap (λ (n : ℕ). get_or xs n d) zero_past)

-- the pages that decide a message allow it where each of them does
pub all_about : (node : Node) (about : About) (message : Message) → IsInside node.file about → All (λ slot. Allows (side_of slot) message) (slots_about node about) → OnPages node about (λ s. Allows s message)
all_about node (About.Page page) message inside all =
    let t = slot_at node page inside in
    let l = one_long node.slots.items page (page_inside node page inside) in
    subst (λ (s : Side). Allows s message) (ap side_of (one_at node.slots.items page t.slot ∙ t.at) ∙ sym t.is) (all 0 t.slot (omega (arith, l)))
all_about node About.Channel message inside all = λ page lt.
    let t = slot_at node page lt in
    subst (λ (s : Side). Allows s message) (ap side_of t.at ∙ sym t.is) (all page t.slot (page_inside node page lt))

pub about_all : (node : Node) (about : About) (message : Message) → IsInside node.file about → OnPages node about (λ s. Allows s message) → All (λ slot. Allows (side_of slot) message) (slots_about node about)
about_all node (About.Page page) message inside on = λ k d lt.
    let t = slot_at node page inside in
    let l = one_long node.slots.items page (page_inside node page inside) in
    let first : k ≡ 0 = omega (arith, l, lt) in
    let same : get_or (slice_range node.slots.items page (page + 1)) k d ≡ t.slot =
    ap (λ (n : ℕ). get_or (slice_range node.slots.items page (page + 1)) n d) first
    ∙ one_at node.slots.items page d ∙ get_or_default node.slots.items page d t.slot (page_inside node page inside) ∙ t.at in
    subst (λ (s : Side). Allows s message) (t.is ∙ ap side_of (sym same)) on
about_all node About.Channel message inside on = λ k d lt.
    let len : vec_len node.slots ≡ length node.slots.items = node.slots.ok.0 in
    let there : k < node.file.pages = omega (arith, lt, len, node.whole) in
    let t = slot_at node k there in
    let same : get_or node.slots.items k d ≡ t.slot = get_or_default node.slots.items k d t.slot lt ∙ t.at in
    subst (λ (s : Side). Allows s message) (t.is ∙ ap side_of (sym same)) (on k there)

-- what holds of each page that is there
pub side_kept : (node : Node) (page : ℕ) → page < node.file.pages → IsKept node.file.page_size node.children (side node page)
side_kept node page inside =
    let t = slot_at node page inside in
    subst (IsKept node.file.page_size node.children) (sym t.is) (slot_kept node page t.slot inside (sym t.at))
