-- Two nodes of a list change: a node and its parent.
use Rattle.std.specs.Prelude.{◌↔◌, true, false, slice_get, OnOk, OnErr}
use Rattle.std.proofs.Common.{◌≡◌, ◌≢◌, ℕ, ◌+◌, ◌-◌, ◌<◌, inl, inr, sym, ◌∙◌, ap, subst, refl, arith, List, ◌++◌, length, take, drop, get_or, Option, Some, None, Result, Ok, Err}
use Rattle.std.proofs.Math.ListN.{set}
use Rattle.std.proofs.lemmas.Option.{slice_get-get_or}
use Rattle.std.proofs.lemmas.List.{set-append_left, set-append_right, length-set, length-take, take-append-drop, get_or-take, get_or-drop}
use Rattle.tower_core.specs.declared.right.Right.{Right}
use Rattle.tower_core.specs.TreeShape as trees
use Rattle.tower_core.specs.TreeShape.{TreeShape, parent, IsTree, IsUpper, IsChild}
use Rattle.tower_core.proofs.Steps.{slice_get-set_same, slice_get-set_other}
use Rattle.layer_laws.specs.Side.{Side}
use Rattle.page_messages.specs.declared.kinds.Asked.{Asked}
use Rattle.page_messages.specs.declared.kinds.Called.{Called}
use Rattle.page_messages.specs.declared.paged.About.{About}
use Rattle.page_messages.specs.declared.paged.PagedFile.{PagedFile}
use Rattle.page_messages.specs.Carried.{asked_down, asked_up, called_up}
use Rattle.page_messages.specs.Masks.{IsIn}
use Rattle.page_messages.specs.Rights.{asked_right, called_right}
use Rattle.page_messages.specs.Rules.{MayAsk, MayServe, MayCall, MayObey}
use Rattle.page_messages.proofs.NodeSets.{same_or_not}
use Rattle.coherency_layer.specs.declared.node.Node.{Node}
use Rattle.coherency_layer.specs.Node as layers
use Rattle.coherency_layer.specs.Node.{side, about_asked, about_called, IsSameNode, OnPages, MayCallAbout}
use Rattle.vmm_cache.specs.declared.leaf.Leaf.{Leaf as LeafTable}
use Rattle.vmm_cache.specs.Used.{uses_after}
use Rattle.vmm_cache.specs.Uses.{uses_called}
use Rattle.page_exchange.specs.declared.table.Table.{Table}
use Rattle.page_exchange.specs.declared.table.Table.TheVariants.{Layer, Leaf}
use Rattle.page_exchange.specs.Table as tables
use Rattle.page_exchange.specs.Table.{file_of, frames_of, is_layer, uses_asked, uses_of, IsSameTable, MayAskAbout, MayObeyAbout}
use Rattle.page_exchange.specs.Allowed.{AllowAsking, AllowCalling}
use Rattle.page_exchange.specs.Exchange.{IsPair, IsOwnChange, IsAboveChange, LacksCopy, may_be_full}
use Rattle.page_exchange.specs.Moved.{AreExchangedAt}
use Rattle.page_exchange.specs.Wire.{WentOver, WireSeen}
use Rattle.page_messages.specs.Written.{asked_by, called_of}
use Rattle.page_exchange.specs.Steps.{step_asked, step_called}
use Rattle.page_exchange.proofs.Moved.{exchanged_between}
use Rattle.page_exchange.specs.Listed.{side_seen, sides_in, uses_seen, uses_in, held_in, FramesAllow, IsTableOf, AreTablesOf, AreTablesWith, AreSameTables, LacksRoom, UsesFollow}
use Rattle.page_exchange.proofs.Using.{asked_after, asked_other, called_after, called_other}

pub record AreTwo (xs ys : List Table) (node above : ℕ) (own own' : Table) (upper upper' : Node) : Type 0 where
  pub old_own : slice_get xs node ≡ Some own
  pub old_above : slice_get xs above ≡ Some (Layer upper)
  pub new_own : slice_get ys node ≡ Some own'
  pub new_above : slice_get ys above ≡ Some (Layer upper')
  pub others : (m : ℕ) → m ≢ node → m ≢ above → slice_get ys m ≡ slice_get xs m
  pub len : length ys ≡ length xs

-- two parts put together again
joined : (xs low high : List Table) (n q : ℕ) (a b : Table) → low ≡ take n xs → high ≡ drop n xs → q < n → n < length xs → set low q b ++ set high 0 a ≡ set (set xs q b) n a
joined xs low high n q a b l h below inside =
    let long : length low ≡ n = ap length l ∙ omega (arith, length-take n xs, inside) in
    let whole : low ++ high ≡ xs = ap (λ (t : List Table). t ++ high) l ∙ ap (λ (t : List Table). take n xs ++ t) h ∙ take-append-drop n xs in
    let front : set (low ++ high) q b ≡ set low q b ++ high = set-append_left low high q b (omega (arith, long, below)) in
    let long' : length (set low q b) ≡ n = length-set low q b ∙ long in
    let back : set (set low q b ++ high) n a ≡ set low q b ++ set high (n - n) a = set-append_right (set low q b) high n n a long' (omega arith) in
    let none : n - n ≡ 0 = omega arith in
    sym (ap (λ (k : ℕ). set low q b ++ set high k a) none) ∙ sym back ∙ ap (λ (t : List Table). set t n a) (sym front ∙ ap (λ (t : List Table). set t q b) whole)

two_are : (xs low high : List Table) (n q : ℕ) (r s own' : Table) (upper upper' : Node) → low ≡ take n xs → high ≡ drop n xs → get_or low q s ≡ Layer upper → q < n → n < length xs → AreTwo xs (set low q (Layer upper') ++ set high 0 own') n q (get_or high 0 r) own' upper upper'
two_are xs low high n q r s own' upper upper' l h layer below inside =
    let e = joined xs low high n q own' (Layer upper') l h below inside in
    let differ : q ≢ n = λ x. absurd (omega (arith, x, below)) in
    let q_in : q < length xs = omega (arith, below, inside) in
    let n_in : n < length (set xs q (Layer upper')) = subst (λ (k : ℕ). n < k) (sym (length-set xs q (Layer upper'))) inside in
    let own : get_or high 0 r ≡ get_or xs n r = ap (λ (t : List Table). get_or t 0 r) h ∙ get_or-drop n xs 0 r ∙ ap (λ (k : ℕ). get_or xs k r) (let z : n + 0 ≡ n = omega arith in z) in
    let above : get_or low q s ≡ get_or xs q s = ap (λ (t : List Table). get_or t q s) l ∙ get_or-take n xs q s below in
    record {
      old_own = slice_get-get_or xs n r inside ∙ ap Some (sym own);
      old_above = slice_get-get_or xs q s q_in ∙ ap Some (sym above ∙ layer);
      new_own = ap (λ (t : List Table). slice_get t n) e ∙ slice_get-set_same (set xs q (Layer upper')) n own' n_in;
      new_above = ap (λ (t : List Table). slice_get t q) e ∙ slice_get-set_other (set xs q (Layer upper')) n q own' differ ∙ slice_get-set_same xs q (Layer upper') q_in;
      others = λ m dn dq. ap (λ (t : List Table). slice_get t m) e ∙ slice_get-set_other (set xs q (Layer upper')) n m own' dn ∙ slice_get-set_other xs q m (Layer upper') dq;
      len = ap length e ∙ length-set (set xs q (Layer upper')) n own' ∙ length-set xs q (Layer upper');
    }

-- a node and its parent, where the list was taken apart before the node
pub two_parted : (shape : TreeShape) (pages page : ℕ) (xs : List Table) (n : ℕ) {low high : List Table} {q : ℕ} (r s own' : Table) (upper upper' : Node) → AreTablesWith shape pages page xs → IsUpper shape n
    → low ≡ take n xs → high ≡ drop n xs → get_or low q s ≡ Layer upper → q ≡ parent shape n → (0 < n → q < n) → AreTwo xs (set low q (Layer upper') ++ set high 0 own') n (parent shape n) (get_or high 0 r) own' upper upper'
two_parted shape pages page xs n {low} {high} {q} r s own' upper upper' with_page un front back layer is below =
    let inside : n < length xs = subst (λ (k : ℕ). n < k) (sym with_page.tables_are.many) un.inside in
    subst (λ (k : ℕ). AreTwo xs (set low q (Layer upper') ++ set high 0 own') n k (get_or high 0 r) own' upper upper') is
    (two_are xs low high n q r s own' upper upper' front back layer (below un.above) inside)

-- the parent is a layer, since nothing stands on a leaf
pub no_leaf_above : (shape : TreeShape) (pages page : ℕ) (xs : List Table) (n : ℕ) {low : List Table} {q : ℕ} (s : Table) (leaf : LeafTable) → AreTablesWith shape pages page xs → IsTree shape → IsUpper shape n
    → low ≡ take n xs → get_or low q s ≡ Leaf leaf → q ≡ parent shape n → (0 < n → q < n) → ⊥
no_leaf_above shape pages page xs n {low} {q} s leaf with_page tree un front is_leaf is below =
    let lower : q < n = below un.above in
    let inside : n < length xs = subst (λ (k : ℕ). n < k) (sym with_page.tables_are.many) un.inside in
    let q_in : q < length xs = omega (arith, lower, inside) in
    let there : slice_get xs q ≡ Some (Leaf leaf) = slice_get-get_or xs q s q_in ∙ ap Some (sym (ap (λ (t : List Table). get_or t q s) front ∙ get_or-take n xs q s lower) ∙ is_leaf) in
    let of = with_page.tables_are.each q (Leaf leaf) there in
    let none : trees.frames_of shape q ≡ 0 = tree.leaves n q (record { upper = un; hangs = sym is }) in
    let no : false ≡ true = of.layer none in
    let f : ⊥ = cc in f

pub on_both_ok : {A E : Type 0} (r : Result A E) {P Q R : Type 0} → (P → Q → R) → OnOk r P → OnOk r Q → OnOk r R
on_both_ok (Ok x) f p q = f p q
on_both_ok (Err e) f p q = q

pub on_both_err : {A E : Type 0} (r : Result A E) {P Q R : Type 0} → (P → Q → R) → OnErr r P → OnErr r Q → OnErr r R
on_both_err (Ok x) f p q = q
on_both_err (Err e) f p q = f p q

-- what follows from success and from an error alike
pub either_way : {A E : Type 0} (r : Result A E) {P Q P' Q' R : Type 0} → (P → Q → R) → (P' → Q' → R) → OnOk r P → OnOk r Q → OnErr r P' → OnErr r Q' → R
either_way (Ok x) f g p q p' q' = f p q
either_way (Err e) f g p q p' q' = g p' q'

-- a message that is not the end of a channel is about a page
pub asks_of_page : (what : Asked) (page : ℕ) → what ≢ Asked.Done → about_asked what page ≡ About.Page page
asks_of_page Asked.PageInRead page d = refl
asks_of_page Asked.PageInWrite page d = refl
asks_of_page Asked.PageOut page d = refl
asks_of_page Asked.WriteOut page d = refl
asks_of_page Asked.Sync page d = refl
asks_of_page Asked.Done page d = absurd (d refl)

pub orders_of_page : (what : Called) (page : ℕ) → what ≢ Called.Destroy → about_called what page ≡ About.Page page
orders_of_page Called.FlushBack page d = refl
orders_of_page Called.DenyWrites page d = refl
orders_of_page Called.WriteBack page d = refl
orders_of_page Called.DeleteRange page d = refl
orders_of_page Called.Destroy page d = absurd (d refl)

same_some : (x y : Table) → Some x ≡ Some y → x ≡ y
same_some x y e = cc

-- a table that is still of its file
pub still_of : (shape : TreeShape) (file : PagedFile) (number : ℕ) (old new : Table) → IsSameTable old new → IsTableOf shape file number old → IsTableOf shape file number new
still_of shape file number old new same of = record {
  file_is = same.file ∙ of.file_is;
  children = λ child upper. subst (λ (mask : ℕ). IsIn mask child ↔ IsChild shape child number) (sym same.children) (of.children child upper);
  frames = same.frames ∙ of.frames;
  layer = λ none. same.kind ∙ of.layer none;
}

layer_same : (old new : Node) → IsSameNode old new → IsSameTable (Layer old) (Layer new)
layer_same old new same = record { kind = refl; file = same.file; children = same.children; frames = refl }

-- what a table allows of a page, by the node's frames
pub table_asks : (table : Table) (what : Asked) (page : ℕ) → (frames_of table ≡ 0 → is_layer table ≡ true) → page < (file_of table).pages → what ≢ Asked.Done → MayAsk (tables.side table page) what
    → FramesAllow (frames_of table) (held_in (λ p n. tables.side table p) (file_of table).pages 0) (tables.side table page).right (uses_of table) what page → MayAskAbout table what page
table_asks (Layer node) Asked.PageInRead page kind inside of_page may frames = record { inside = inside; no_leaf = λ e. cc; may = may }
table_asks (Layer node) Asked.PageInWrite page kind inside of_page may frames = record { inside = inside; no_leaf = λ e. cc; may = may }
table_asks (Layer node) Asked.PageOut page kind inside of_page may frames = absurd (frames.0 refl)
table_asks (Layer node) Asked.WriteOut page kind inside of_page may frames = record { inside = inside; no_leaf = λ e. cc; may = may }
table_asks (Layer node) Asked.Sync page kind inside of_page may frames = record { inside = inside; no_leaf = λ e. cc; may = may }
table_asks (Layer node) Asked.Done page kind inside of_page may frames = absurd (of_page refl)
table_asks (Leaf leaf) Asked.PageInRead page kind inside of_page may frames = record { inside = inside; may = (may, frames (λ z. let no : false ≡ true = kind z in let f : ⊥ = cc in f)) }
table_asks (Leaf leaf) Asked.PageInWrite page kind inside of_page may frames = record { inside = inside; may = (may, frames (λ z. let no : false ≡ true = kind z in let f : ⊥ = cc in f)) }
table_asks (Leaf leaf) Asked.PageOut page kind inside of_page may frames = record { inside = inside; may = (may, frames.1) }
table_asks (Leaf leaf) Asked.WriteOut page kind inside of_page may frames = record { inside = inside; may = (may, tt) }
table_asks (Leaf leaf) Asked.Sync page kind inside of_page may frames = record { inside = inside; may = (may, tt) }
table_asks (Leaf leaf) Asked.Done page kind inside of_page may frames = absurd (of_page refl)

pub table_obeys : (table : Table) (what : Called) (page : ℕ) → what ≢ Called.Destroy → MayObey (tables.side table page) what → MayObeyAbout table what page
table_obeys (Layer node) Called.FlushBack page of_page may = may
table_obeys (Layer node) Called.DenyWrites page of_page may = may
table_obeys (Layer node) Called.WriteBack page of_page may = may
table_obeys (Layer node) Called.DeleteRange page of_page may = may
table_obeys (Layer node) Called.Destroy page of_page may = absurd (of_page refl)
table_obeys (Leaf leaf) Called.FlushBack page of_page may = may
table_obeys (Leaf leaf) Called.DenyWrites page of_page may = may
table_obeys (Leaf leaf) Called.WriteBack page of_page may = may
table_obeys (Leaf leaf) Called.DeleteRange page of_page may = may
table_obeys (Leaf leaf) Called.Destroy page of_page may = absurd (of_page refl)

module _ (shape : TreeShape) (xs ys : List Table) (node : ℕ) (own own' : Table) (upper upper' : Node) (two : AreTwo xs ys node (parent shape node) own own' upper upper') where
  pub at_own : (page : ℕ) → sides_in xs page node ≡ tables.side own page
  at_own page = ap (λ (o : Option Table). side_seen o page) two.old_own

  pub at_above : (page : ℕ) → sides_in xs page (parent shape node) ≡ side upper page
  at_above page = ap (λ (o : Option Table). side_seen o page) two.old_above

  at_own' : (page : ℕ) → sides_in ys page node ≡ tables.side own' page
  at_own' page = ap (λ (o : Option Table). side_seen o page) two.new_own

  at_above' : (page : ℕ) → sides_in ys page (parent shape node) ≡ side upper' page
  at_above' page = ap (λ (o : Option Table). side_seen o page) two.new_above

  at_other : (page m : ℕ) → m ≢ node → m ≢ parent shape node → sides_in ys page m ≡ sides_in xs page m
  at_other page m dn dq = ap (λ (o : Option Table). side_seen o page) (two.others m dn dq)

  by_three : (P : ℕ → Type 0) (m : ℕ) → P node → P (parent shape node) → (m ≢ node → m ≢ parent shape node → P m) → P m
  by_three P m pn pq other = elim (same_or_not m node) [
    | inl e ↦ subst P (sym e) pn
    | inr d ↦ elim (same_or_not m (parent shape node)) [ inl e ↦ subst P (sym e) pq | inr dq ↦ other d dq ]
  ]

  exchanged : (page : ℕ) (about : About) (right : Right) (down up : Option (List ℕ)) (listed : List ℕ) → about ≡ About.Page page → IsOwnChange own own' about right down listed → IsAboveChange upper upper' node about right up
      → AreExchangedAt shape node page right down up (sides_in xs) (sides_in ys)
  exchanged page about right down up listed is own_change above_change = exchanged_between shape node page right down up (sides_in xs) (sides_in ys) own own' listed at_own at_own'
      (subst (λ (a : About). IsOwnChange own own' a right down listed) is own_change) upper upper' at_above at_above'
      (subst (λ (a : About). IsAboveChange upper upper' node a right up) is above_change) (λ p m dn dq. at_other p m dn dq)

  pub asked_moved : (page : ℕ) (what : Asked) → what ≢ Asked.Done → IsOwnChange own own' (about_asked what page) (asked_right what) (asked_down (tables.side own page).right (side upper page).copy what) (uses_asked what page (uses_of own))
      → IsAboveChange upper upper' node (about_asked what page) (asked_right what) (asked_up (tables.side own page) what)
      → AreExchangedAt shape node page (asked_right what) (asked_down (sides_in xs page node).right (sides_in xs page (parent shape node)).copy what) (asked_up (sides_in xs page node) what) (sides_in xs) (sides_in ys)
  asked_moved page what d o a =
      subst (λ (s : Side). AreExchangedAt shape node page (asked_right what) (asked_down s.right (sides_in xs page (parent shape node)).copy what) (asked_up s what) (sides_in xs) (sides_in ys)) (sym (at_own page))
      (subst (λ (s : Side). AreExchangedAt shape node page (asked_right what) (asked_down (tables.side own page).right s.copy what) (asked_up (tables.side own page) what) (sides_in xs) (sides_in ys)) (sym (at_above page))
      (exchanged page (about_asked what page) (asked_right what) (asked_down (tables.side own page).right (side upper page).copy what) (asked_up (tables.side own page) what) (uses_asked what page (uses_of own)) (asks_of_page what page d) o a))

  pub called_moved : (page : ℕ) (what : Called) → what ≢ Called.Destroy → IsOwnChange own own' (about_called what page) (called_right what) None (uses_called what page (uses_of own))
      → IsAboveChange upper upper' node (about_called what page) (called_right what) (called_up (tables.side own page) what)
      → AreExchangedAt shape node page (called_right what) None (called_up (sides_in xs page node) what) (sides_in xs) (sides_in ys)
  called_moved page what d o a =
      subst (λ (s : Side). AreExchangedAt shape node page (called_right what) None (called_up s what) (sides_in xs) (sides_in ys)) (sym (at_own page))
      (exchanged page (about_called what page) (called_right what) None (called_up (tables.side own page) what) (uses_called what page (uses_of own)) (orders_of_page what page d) o a)

  pub asked_frames : (wire : WireSeen) (page : ℕ) (what : Asked) → WentOver wire (file_of own) (asked_by (tables.side own page) (side upper page).copy page what)
      → (file : PagedFile) → AreTablesOf shape file xs → WentOver wire file (asked_by (sides_in xs page node) (sides_in xs page (parent shape node)).copy page what)
  asked_frames wire page what went file are =
      subst (λ (s : Side). WentOver wire file (asked_by s (sides_in xs page (parent shape node)).copy page what)) (sym (at_own page))
      (subst (λ (s : Side). WentOver wire file (asked_by (tables.side own page) s.copy page what)) (sym (at_above page))
      (subst (λ (f : PagedFile). WentOver wire f (asked_by (tables.side own page) (side upper page).copy page what)) (are.each node own two.old_own).file_is went))

  pub called_frames : (wire : WireSeen) (page : ℕ) (what : Called) → WentOver wire (file_of own) (called_of (tables.side own page) page what)
      → (file : PagedFile) → AreTablesOf shape file xs → WentOver wire file (called_of (sides_in xs page node) page what)
  called_frames wire page what went file are =
      subst (λ (s : Side). WentOver wire file (called_of s page what)) (sym (at_own page))
      (subst (λ (f : PagedFile). WentOver wire f (called_of (tables.side own page) page what)) (are.each node own two.old_own).file_is went)

  pub still : tables.IsLeft own own' → layers.IsLeft upper upper' → AreSameTables xs ys
  still lo lu = record {
    sides = λ page m. by_three (λ k. sides_in ys page k ≡ sides_in xs page k) m
        (at_own' page ∙ lo.sides page ∙ sym (at_own page))
        (at_above' page ∙ lu.sides page ∙ sym (at_above page))
        (λ dn dq. at_other page m dn dq);
    uses = λ m. by_three (λ k. uses_in ys k ≡ uses_in xs k) m
        (ap uses_seen two.new_own ∙ lo.uses ∙ sym (ap uses_seen two.old_own))
        (ap uses_seen two.new_above ∙ sym (ap uses_seen two.old_above))
        (λ dn dq. ap uses_seen (two.others m dn dq));
  }

  pub stay : (file : PagedFile) → IsSameTable own own' → IsSameNode upper upper' → AreTablesOf shape file xs → AreTablesOf shape file ys
  stay file so su are = record {
    many = two.len ∙ are.many;
    each = λ m. by_three (λ k. (n : Table) → slice_get ys k ≡ Some n → IsTableOf shape file k n) m
        (λ n e. subst (IsTableOf shape file node) (same_some own' n (sym two.new_own ∙ e)) (still_of shape file node own own' so (are.each node own two.old_own)))
        (λ n e. subst (IsTableOf shape file (parent shape node)) (same_some (Layer upper') n (sym two.new_above ∙ e)) (still_of shape file (parent shape node) (Layer upper) (Layer upper') (layer_same upper upper' su) (are.each (parent shape node) (Layer upper) two.old_above)))
        (λ dn dq n e. are.each m n (sym (two.others m dn dq) ∙ e));
  }

  module _ (pages page : ℕ) (with_page : AreTablesWith shape pages page xs) where
    own_of : IsTableOf shape with_page.file node own
    own_of = with_page.tables_are.each node own two.old_own

    above_of : IsTableOf shape with_page.file (parent shape node) (Layer upper)
    above_of = with_page.tables_are.each (parent shape node) (Layer upper) two.old_above

    file_inside : page < with_page.file.pages
    file_inside = subst (λ (n : ℕ). page < n) (sym with_page.pages_are) with_page.inside

    own_inside : page < (file_of own).pages
    own_inside = subst (λ (f : PagedFile). page < f.pages) (sym own_of.file_is) file_inside

    above_inside : page < upper.file.pages
    above_inside = subst (λ (f : PagedFile). page < f.pages) (sym above_of.file_is) file_inside

    pub may_ask : (what : Asked) → what ≢ Asked.Done → MayAsk (sides_in xs page node) what → FramesAllow (trees.frames_of shape node) (held_in (sides_in xs) pages node) (sides_in xs page node).right (uses_in xs node) what page → MayAskAbout own what page
    may_ask what of_page may frames = table_asks own what page (λ z. own_of.layer (sym own_of.frames ∙ z)) own_inside of_page
        (subst (λ (s : Side). MayAsk s what) (at_own page) may)
        (subst (λ (f : PagedFile). FramesAllow (frames_of own) (held_in (λ p n. tables.side own p) f.pages node) (tables.side own page).right (uses_of own) what page) (sym own_of.file_is)
        (subst (λ (n : ℕ). FramesAllow (frames_of own) (held_in (λ p m. tables.side own p) n node) (tables.side own page).right (uses_of own) what page) (sym with_page.pages_are)
        (subst (λ (k : ℕ). FramesAllow k (held_in (λ p n. tables.side own p) pages node) (tables.side own page).right (uses_of own) what page) (sym own_of.frames)
        (subst (λ (o : Option Table). FramesAllow (trees.frames_of shape node) (held_in (λ p n. side_seen o p) pages node) (side_seen o page).right (uses_seen o) what page) two.old_own frames))))

    pub may_obey : (what : Called) → what ≢ Called.Destroy → AllowCalling shape (sides_in xs page) node what → MayObeyAbout own what page
    may_obey what of_page allow = table_obeys own what page of_page (subst (λ (s : Side). MayObey s what) (at_own page) allow.own)

    pub asked_follows : (what : Asked) {down : Option (List ℕ)} → IsOwnChange own own' (about_asked what page) (asked_right what) down (uses_asked what page (uses_of own)) → UsesFollow shape page (step_asked what node) (uses_in xs) (uses_in ys)
    asked_follows what {down = down} change m some = by_three (λ k. trees.frames_of shape k ≢ 0 → uses_in ys k ≡ uses_after k (step_asked what node) page (uses_in xs k)) m
        (λ leaf. ap uses_seen two.new_own ∙ change.uses (λ z. leaf (sym own_of.frames ∙ z)) ∙ asked_after what node page (uses_of own) ∙ ap (uses_after node (step_asked what node) page) (sym (ap uses_seen two.old_own)))
        (λ leaf. absurd (leaf (sym above_of.frames)))
        (λ dn dq leaf. ap uses_seen (two.others m dn dq) ∙ asked_other what m node page (uses_in xs m) dn) some

    pub called_follows : (what : Called) → IsOwnChange own own' (about_called what page) (called_right what) None (uses_called what page (uses_of own)) → UsesFollow shape page (step_called what node) (uses_in xs) (uses_in ys)
    called_follows what change m some = by_three (λ k. trees.frames_of shape k ≢ 0 → uses_in ys k ≡ uses_after k (step_called what node) page (uses_in xs k)) m
        (λ leaf. ap uses_seen two.new_own ∙ change.uses (λ z. leaf (sym own_of.frames ∙ z)) ∙ called_after what node page (uses_of own) ∙ ap (uses_after node (step_called what node) page) (sym (ap uses_seen two.old_own)))
        (λ leaf. absurd (leaf (sym above_of.frames)))
        (λ dn dq leaf. ap uses_seen (two.others m dn dq) ∙ called_other what m node page (uses_in xs m) dn) some

    module _ (un : IsUpper shape node) (uq : IsUpper shape (parent shape node)) where
      pub pair_is : IsPair own upper node
      pair_is = record { file = above_of.file_is ∙ sym own_of.file_is; child = (above_of.children node uq).1 (record { upper = un; hangs = refl }) }

      pub may_serve : (what : Asked) → what ≢ Asked.Done → AllowAsking shape (sides_in xs page) node (may_be_full (sides_in xs page node) what) what → OnPages upper (about_asked what page) (λ s. MayServe s node (may_be_full (tables.side own page) what) what)
      may_serve what of_page allow =
          subst (λ (a : About). OnPages upper a (λ s. MayServe s node (may_be_full (tables.side own page) what) what)) (sym (asks_of_page what page of_page))
          (subst (λ (s : Side). MayServe s node (may_be_full (tables.side own page) what) what) (at_above page)
          (subst (λ (s : Side). MayServe (sides_in xs page (parent shape node)) node (may_be_full s what) what) (at_own page) (allow.above uq)))

      pub may_call : (what : Called) → what ≢ Called.Destroy → AllowCalling shape (sides_in xs page) node what → MayCallAbout upper node what page
      may_call what of_page allow = record {
        inside = above_inside;
        child_is = pair_is.child;
        may = subst (λ (a : About). OnPages upper a (λ s. MayCall s node what)) (sym (orders_of_page what page of_page)) (subst (λ (s : Side). MayCall s node what) (at_above page) (allow.above uq));
      }

  pub known_is : (page : ℕ) → (sides_in xs page (parent shape node)).kids node ≡ (sides_in xs page node).right → (side upper page).kids node ≡ (tables.side own page).right
  known_is page known = sym (ap (λ (s : Side). s.kids node) (at_above page)) ∙ known ∙ ap (λ (s : Side). s.right) (at_own page)

  pub lacks_room : (page : ℕ) → LacksCopy own page → LacksRoom (sides_in xs page node)
  lacks_room page lacks = record { nothing = ap (λ (s : Side). s.right) (at_own page) ∙ lacks.nothing }
