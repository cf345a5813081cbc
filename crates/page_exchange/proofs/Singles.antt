-- One node of a list changes.
use Rattle.std.specs.Prelude.{slice_get, OnOk, OnErr}
use Rattle.std.proofs.Common.{◌≡◌, ◌≢◌, ℕ, ◌<◌, inl, inr, sym, ◌∙◌, ap, subst, refl, arith, List, length, get_or, Option, Some, None, Result, Ok, Err}
use Rattle.std.proofs.Math.ListN.{set}
use Rattle.std.proofs.lemmas.Option.{slice_get-get_or}
use Rattle.std.proofs.lemmas.List.{length-set}
use Rattle.tower_core.specs.declared.right.Right.{Right}
use Rattle.tower_core.specs.declared.step.Step.{Step}
use Rattle.tower_core.specs.declared.step.Step.TheVariants.{Reads, Writes}
use Rattle.tower_core.specs.TreeShape as trees
use Rattle.tower_core.specs.TreeShape.{TreeShape, parent, IsUpper}
use Rattle.tower_core.proofs.Steps.{slice_get-set_same, slice_get-set_other}
use Rattle.layer_laws.specs.Side.{Side, written}
use Rattle.page_messages.specs.declared.kinds.Asked.{Asked}
use Rattle.page_messages.specs.declared.kinds.Called.{Called}
use Rattle.page_messages.specs.declared.paged.About.{About}
use Rattle.page_messages.specs.declared.paged.PagedFile.{PagedFile}
use Rattle.page_messages.specs.Carried.{asked_down, asked_up, called_up}
use Rattle.page_messages.specs.Rights.{asked_right, called_right}
use Rattle.page_messages.specs.Rules.{MayAsk, MayObey}
use Rattle.page_messages.proofs.NodeSets.{same_or_not}
use Rattle.coherency_layer.specs.Node.{about_asked, about_called}
use Rattle.vmm_cache.specs.Used.{uses_after}
use Rattle.vmm_cache.specs.Uses.{used_last, uses_called}
use Rattle.page_exchange.specs.declared.table.Table.{Table}
use Rattle.page_exchange.specs.Table.{file_of, frames_of, side, uses_asked, uses_of, IsLeft, IsSameTable, IsUsed, IsWritten, ListsUses, MayAskAbout, MayObeyAbout}
use Rattle.page_exchange.specs.Allowed.{AllowCalling}
use Rattle.page_exchange.specs.Exchange.{IsOwnChange}
use Rattle.page_exchange.specs.Ground.{IsAnswered}
use Rattle.page_exchange.specs.Moved.{AreAskedAt, AreExchangedAt}
use Rattle.page_exchange.specs.Wire.{WentOver, WireSeen}
use Rattle.page_exchange.specs.Steps.{AreSentAt, IsSent, step_asked, step_called}
use Rattle.page_exchange.proofs.Moved.{exchanged_with_ground}
use Rattle.page_exchange.proofs.Owns.{like_same}
use Rattle.page_exchange.specs.Listed.{side_seen, sides_in, uses_seen, uses_in, held_in, FramesAllow, IsTableOf, AreTablesOf, UsesFollow}
use Rattle.page_exchange.proofs.Pairs.{asks_of_page, orders_of_page, still_of, table_asks, table_obeys}
use Rattle.page_exchange.proofs.Sending.{asked_sent, called_sent, read_above}
use Rattle.page_exchange.proofs.Going.{asked_at, base_above}
use Rattle.page_messages.specs.Written.{asked_by, called_of}
use Rattle.page_exchange.proofs.Using.{asked_after, asked_other, called_after, called_other, reads_after, reads_other, writes_after, writes_other}

pub record IsOne (xs ys : List Table) (node : ℕ) (own own' : Table) : Type 0 where
  pub old : slice_get xs node ≡ Some own
  pub new : slice_get ys node ≡ Some own'
  pub others : (m : ℕ) → m ≢ node → slice_get ys m ≡ slice_get xs m
  pub len : length ys ≡ length xs

-- a node of the list, which is another now
pub one_is : (shape : TreeShape) (file : PagedFile) (xs : List Table) (node : ℕ) (own own' : Table) → AreTablesOf shape file xs → IsUpper shape node → own ≡ get_or xs node own → IsOne xs (set xs node own') node own own'
one_is shape file xs node own own' tables upper is =
    let inside : node < length xs = subst (λ (k : ℕ). node < k) (sym tables.many) upper.inside in
    record {
      old = slice_get-get_or xs node own inside ∙ ap Some (sym is);
      new = slice_get-set_same xs node own' inside;
      others = λ m d. slice_get-set_other xs node m own' d;
      len = length-set xs node own';
    }

-- a node of the list
pub there : (shape : TreeShape) (file : PagedFile) (xs : List Table) (node : ℕ) (own : Table) → AreTablesOf shape file xs → IsUpper shape node → own ≡ get_or xs node own → slice_get xs node ≡ Some own
there shape file xs node own tables upper is = (one_is shape file xs node own own tables upper is).old

same_some : (x y : Table) → Some x ≡ Some y → x ≡ y
same_some x y e = cc

module _ (shape : TreeShape) (file : PagedFile) (xs ys : List Table) (node : ℕ) (own own' : Table) (tables : AreTablesOf shape file xs) (one : IsOne xs ys node own own') where
  pub at_own : (page : ℕ) → sides_in xs page node ≡ side own page
  at_own page = ap (λ (o : Option Table). side_seen o page) one.old

  at_own' : (page : ℕ) → sides_in ys page node ≡ side own' page
  at_own' page = ap (λ (o : Option Table). side_seen o page) one.new

  at_other : (page m : ℕ) → m ≢ node → sides_in ys page m ≡ sides_in xs page m
  at_other page m d = ap (λ (o : Option Table). side_seen o page) (one.others m d)

  by_two : (P : ℕ → Type 0) (m : ℕ) → P node → (m ≢ node → P m) → P m
  by_two P m pn other = elim (same_or_not m node) [ inl e ↦ subst P (sym e) pn | inr d ↦ other d ]

  pub stay : IsSameTable own own' → AreTablesOf shape file ys
  stay same = record {
    many = one.len ∙ tables.many;
    each = λ m. by_two (λ k. (n : Table) → slice_get ys k ≡ Some n → IsTableOf shape file k n) m
        (λ n e. subst (IsTableOf shape file node) (same_some own' n (sym one.new ∙ e)) (still_of shape file node own own' same (tables.each node own one.old)))
        (λ d n e. tables.each m n (sym (one.others m d) ∙ e));
  }

  pub stay_either : {A E : Type 0} (r : Result A E) {P : Type 0} → (P → IsSameTable own own') → OnOk r P → OnErr r (IsLeft own own') → AreTablesOf shape file ys
  stay_either (Ok x) f p left = stay (f p)
  stay_either (Err e) f p left = stay left.same

  pub file_is : file_of own ≡ file
  file_is = (tables.each node own one.old).file_is

  exchanged : (page : ℕ) (about : About) (right : Right) (down up : Option (List ℕ)) (listed : List ℕ) → parent shape node ≡ 0 → about ≡ About.Page page → IsOwnChange own own' about right down listed
      → AreExchangedAt shape node page right down up (sides_in xs) (sides_in ys)
  exchanged page about right down up listed ground is change = exchanged_with_ground shape node page right down up (sides_in xs) (sides_in ys) own own' listed at_own at_own'
      (subst (λ (a : About). IsOwnChange own own' a right down listed) is change) ground at_other

  pub asked_moved : (page : ℕ) (what : Asked) (bytes : List ℕ) → parent shape node ≡ 0 → what ≢ Asked.Done → IsOwnChange own own' (about_asked what page) (asked_right what) (asked_down (side own page).right bytes what) (uses_asked what page (uses_of own))
      → AreExchangedAt shape node page (asked_right what) (asked_down (sides_in xs page node).right bytes what) (asked_up (sides_in xs page node) what) (sides_in xs) (sides_in ys)
  asked_moved page what bytes ground d change =
      subst (λ (s : Side). AreExchangedAt shape node page (asked_right what) (asked_down s.right bytes what) (asked_up s what) (sides_in xs) (sides_in ys)) (sym (at_own page))
      (exchanged page (about_asked what page) (asked_right what) (asked_down (side own page).right bytes what) (asked_up (side own page) what) (uses_asked what page (uses_of own)) ground (asks_of_page what page d) change)

  pub called_moved : (page : ℕ) (what : Called) → parent shape node ≡ 0 → what ≢ Called.Destroy → IsOwnChange own own' (about_called what page) (called_right what) None (uses_called what page (uses_of own))
      → AreExchangedAt shape node page (called_right what) None (called_up (sides_in xs page node) what) (sides_in xs) (sides_in ys)
  called_moved page what ground d change =
      subst (λ (s : Side). AreExchangedAt shape node page (called_right what) None (called_up s what) (sides_in xs) (sides_in ys)) (sym (at_own page))
      (exchanged page (about_called what page) (called_right what) None (called_up (side own page) what) (uses_called what page (uses_of own)) ground (orders_of_page what page d) change)

  -- an access of the node's own
  pub uses_own : uses_in xs node ≡ uses_of own
  uses_own = ap uses_seen one.old

  frames_own : frames_of own ≡ trees.frames_of shape node
  frames_own = (tables.each node own one.old).frames

  one_follows : (page : ℕ) (step : Step) (listed : List ℕ) → ListsUses own own' listed → listed ≡ uses_after node step page (uses_of own) → ((m : ℕ) (u : List ℕ) → m ≢ node → u ≡ uses_after m step page u) → UsesFollow shape page step (uses_in xs) (uses_in ys)
  one_follows page step listed lists here there m some = by_two (λ k. trees.frames_of shape k ≢ 0 → uses_in ys k ≡ uses_after k step page (uses_in xs k)) m
      (λ leaf. ap uses_seen one.new ∙ lists (λ z. leaf (sym frames_own ∙ z)) ∙ here ∙ ap (uses_after node step page) (sym uses_own))
      (λ d leaf. ap uses_seen (one.others m d) ∙ there m (uses_in xs m) d) some

  pub asked_follows : (page : ℕ) (what : Asked) → ListsUses own own' (uses_asked what page (uses_of own)) → UsesFollow shape page (step_asked what node) (uses_in xs) (uses_in ys)
  asked_follows page what lists = one_follows page (step_asked what node) (uses_asked what page (uses_of own)) lists (asked_after what node page (uses_of own)) (λ m u d. asked_other what m node page u d)

  pub called_follows : (page : ℕ) (what : Called) → ListsUses own own' (uses_called what page (uses_of own)) → UsesFollow shape page (step_called what node) (uses_in xs) (uses_in ys)
  called_follows page what lists = one_follows page (step_called what node) (uses_called what page (uses_of own)) lists (called_after what node page (uses_of own)) (λ m u d. called_other what m node page u d)

  pub read_follows : (page : ℕ) → IsUsed own own' page → UsesFollow shape page (Reads node) (uses_in xs) (uses_in ys)
  read_follows page used = one_follows page (Reads node) (used_last page (uses_of own)) used.uses (reads_after node page (uses_of own)) (λ m u d. reads_other m node page u d)

  pub write_follows : (page : ℕ) (bytes : List ℕ) → IsWritten own own' page bytes → UsesFollow shape page (Writes node) (uses_in xs) (uses_in ys)
  write_follows page bytes write = one_follows page (Writes node) (used_last page (uses_of own)) write.uses (writes_after node page (uses_of own)) (λ m u d. writes_other m node page u d)

  pub used_sides : (page : ℕ) → IsUsed own own' page → (p m : ℕ) → sides_in ys p m ≡ sides_in xs p m
  used_sides page used p m = by_two (λ k. sides_in ys p k ≡ sides_in xs p k) m (at_own' p ∙ used.sides p ∙ sym (at_own p)) (λ d. at_other p m d)

  -- nothing changed
  pub left : IsLeft own own' → (p m : ℕ) → sides_in ys p m ≡ sides_in xs p m
  left l p m = by_two (λ k. sides_in ys p k ≡ sides_in xs p k) m (at_own' p ∙ l.sides p ∙ sym (at_own p)) (λ d. at_other p m d)

  pub left_uses : IsLeft own own' → (m : ℕ) → uses_in ys m ≡ uses_in xs m
  left_uses l m = by_two (λ k. uses_in ys k ≡ uses_in xs k) m (ap uses_seen one.new ∙ l.uses ∙ sym uses_own) (λ d. ap uses_seen (one.others m d))

  -- a write of the node's own
  pub wrote : (page : ℕ) (bytes : List ℕ) → IsWritten own own' page bytes → AreSentAt shape page (Some bytes) (Writes node) (sides_in xs) (sides_in ys)
  wrote page bytes write = record {
    to = sides_in ys page;
    here = record {
      own = at_own' page ∙ write.here ∙ sym (ap (written bytes) (at_own page));
      others = λ m d. at_other page m d;
    };
    kept = λ m. like_same (sides_in ys page m) (sides_in ys page m) refl;
    others = λ p m d. by_two (λ k. sides_in ys p k ≡ sides_in xs p k) m (at_own' p ∙ write.others p d ∙ sym (at_own p)) (λ n. at_other p m n);
  }

  pub own_file : file_of own ≡ file
  own_file = (tables.each node own one.old).file_is

  pub may_ask : (page : ℕ) (what : Asked) → page < file.pages → what ≢ Asked.Done → MayAsk (sides_in xs page node) what → FramesAllow (trees.frames_of shape node) (held_in (sides_in xs) file.pages node) (sides_in xs page node).right (uses_in xs node) what page → MayAskAbout own what page
  may_ask page what inside of_page may frames = table_asks own what page (λ z. (tables.each node own one.old).layer (sym frames_own ∙ z)) (subst (λ (f : PagedFile). page < f.pages) (sym own_file) inside) of_page
      (subst (λ (s : Side). MayAsk s what) (at_own page) may)
      (subst (λ (f : PagedFile). FramesAllow (frames_of own) (held_in (λ p n. side own p) f.pages node) (side own page).right (uses_of own) what page) (sym own_file)
      (subst (λ (k : ℕ). FramesAllow k (held_in (λ p n. side own p) file.pages node) (side own page).right (uses_of own) what page) (sym frames_own)
      (subst (λ (o : Option Table). FramesAllow (trees.frames_of shape node) (held_in (λ p n. side_seen o p) file.pages node) (side_seen o page).right (uses_seen o) what page) one.old frames)))

  pub may_obey : (page : ℕ) (what : Called) → what ≢ Called.Destroy → AllowCalling shape (sides_in xs page) node what → MayObeyAbout own what page
  may_obey page what of_page allow = table_obeys own what page of_page (subst (λ (s : Side). MayObey s what) (at_own page) allow.own)

  -- the parent is the ground
  module _ (page : ℕ) (upper : IsUpper shape node) (ground : parent shape node ≡ 0) where
    apart : parent shape node < node
    apart = let a = upper.above in omega (arith, a, ground)

    pub answered_sent : (told : Option (List (List ℕ))) (wire : WireSeen) (what : Asked) → what ≢ Asked.Done → MayAsk (sides_in xs page node) what → IsAnswered told wire own own' what page
        → IsSent shape told page (step_asked what node) (sides_in xs) (sides_in ys)
    answered_sent told wire what of_page may answered = asked_sent shape told page node what (sides_in xs) (sides_in ys) answered.bytes of_page apart may
        (read_above shape told page (sides_in xs page) node what answered.bytes ground (λ asks none. answered.read asks (sym (ap (λ (s : Side). s.right) (at_own page)) ∙ none)))
        (asked_moved page what answered.bytes ground of_page answered.change)

    pub obeyed_sent : (told : Option (List (List ℕ))) (what : Called) → what ≢ Called.Destroy → IsOwnChange own own' (about_called what page) (called_right what) None (uses_called what page (uses_of own))
        → IsSent shape told page (step_called what node) (sides_in xs) (sides_in ys)
    obeyed_sent told what of_page change = called_sent shape told page node what (sides_in xs) (sides_in ys) of_page apart (called_moved page what ground of_page change)

    pub answered_frames : (told : Option (List (List ℕ))) (wire : WireSeen) (what : Asked) → what ≢ Asked.Done → IsAnswered told wire own own' what page → AreAskedAt shape wire file node page what (sides_in xs) (sides_in ys)
    answered_frames told wire what of_page answered = asked_at shape wire file node page what (sides_in xs) (sides_in ys) answered.bytes answered.bytes (base_above shape (sides_in xs page) node answered.bytes ground)
        (asked_moved page what answered.bytes ground of_page answered.change)
        (subst (λ (s : Side). WentOver wire file (asked_by s answered.bytes page what)) (sym (at_own page)) (subst (λ (f : PagedFile). WentOver wire f (asked_by (side own page) answered.bytes page what)) own_file answered.frames))

  pub called_frames : (wire : WireSeen) (page : ℕ) (what : Called) → WentOver wire (file_of own) (called_of (side own page) page what) → WentOver wire file (called_of (sides_in xs page node) page what)
  called_frames wire page what went =
      subst (λ (s : Side). WentOver wire file (called_of s page what)) (sym (at_own page)) (subst (λ (f : PagedFile). WentOver wire f (called_of (side own page) page what)) own_file went)
