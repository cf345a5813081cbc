-- What holds of every leaf: of the pages that it holds, and of those that it does not.
use Rattle.std.specs.Prelude.{IsSome, reverse, nat_eq, slice_get, ◌||◌}
use Rattle.std.proofs.Common.{◌≡◌, ◌≢◌, ℕ, ◌<◌, ◌≤◌, sym, ◌∙◌, ap, subst, refl, arith, inl, inr, Bool, true, false, cond, List, [], ◌∷◌, ◌++◌, length, Option, Some, None, Contains}
use Rattle.std.specs.List.{IsDistinct, AllByRecursion, list_any}
use Rattle.std.specs.Map.{keys_of, lookup}
use Rattle.std.specs.Option.{option_map, is_some}
use Rattle.std.proofs.lemmas.Bool.Decides.{eqb_tells}
use Rattle.std.proofs.lemmas.List.{length-reverse, reverse-append, map-append}
use Rattle.std.proofs.lemmas.List.Elements.{All-weaker, All-contains_itself, Contains-append_cases, Contains-append_left, Contains-append_right}
use Rattle.std.proofs.lemmas.Map.Entries.{length-keys_of}
use Rattle.std.proofs.lemmas.Map.Keys.{IsDistinct-head, IsDistinct-tail}
use Rattle.lru.specs.LruCache.{LruCache, last_entry}
use Rattle.lru.proofs.Pairs.{cut_end, last_of_push}
use Rattle.lru.proofs.Splits.{Contains-head, Contains-tail, Contains-cons, Contains-nil}
use Rattle.tower_core.specs.declared.right.Right.{Right}
use Rattle.tower_core.specs.Count.{count_below}
use Rattle.tower_core.specs.Trail.{holds}
use Rattle.tower_core.proofs.Counts.{count_below-less, count_below-zero}
use Rattle.layer_laws.specs.Side.{Side}
use Rattle.page_messages.specs.declared.slot.Slot.{Slot}
use Rattle.page_messages.specs.declared.paged.PagedFile.{PagedFile}
use Rattle.page_messages.specs.Kept.{IsKept}
use Rattle.page_messages.specs.Slot.{side_of}
use Rattle.page_messages.proofs.NodeSets.{none_among}
use Rattle.page_messages.specs.Seen.{side_seen, no_side}
use Rattle.page_messages.specs.declared.paged.About.{About}
use Rattle.page_messages.specs.declared.kinds.Called.{Called}
use Rattle.page_messages.specs.Letters.{reply}
use Rattle.page_messages.specs.Paged.{page_about}
use Rattle.page_messages.specs.Rules.{NoKidHolds, NoKidWrites, MayObey}
use Rattle.vmm_cache.specs.declared.leaf.Leaf.{Leaf}
use Rattle.vmm_cache.specs.Bare.{IsSeenAs}
use Rattle.vmm_cache.specs.Uses.{oldest}
use Rattle.vmm_cache.specs.Frames.{slot_in, side_in, uses_in, IsFramed}
use Rattle.vmm_cache.specs.Leaf.{side, uses_of, held_of, IsLeaf, MayObeyAt}
use Rattle.vmm_cache.proofs.Listing.{eq_same, eq_apart, reverse_cons}

-- who has no children gave nothing
nobody : (right : Right) → (right ≢ Right.Nothing → ⊥) → right ≡ Right.Nothing
nobody Right.Nothing h = refl
nobody Right.Read h = absurd (h (λ e. let f : ⊥ = cc in f))
nobody Right.Write h = absurd (h (λ e. let f : ⊥ = cc in f))

pub no_kids : (page_size : ℕ) (s : Side) → IsKept page_size 0 s → (child : ℕ) → s.kids child ≡ Right.Nothing
no_kids page_size s kept child = nobody (s.kids child) (λ some. let among = (none_among [] child).0 (kept.known child some) in absurd (let lt : among.0 < 0 = among.1 in omega arith))

-- a page that the leaf does not hold
pub unheld : (held : LruCache ℕ Slot) (page : ℕ) → slot_in held page ≡ None → side_in held page ≡ no_side
unheld held page none = ap side_seen none

pub seen_bare : (leaf : Leaf) (page : ℕ) → slot_in leaf.held page ≡ None → IsSeenAs leaf.file (side leaf page) (side_of leaf.bare)
seen_bare leaf page none =
    let bare = unheld leaf.held page none in
    let kept = leaf.nothing.kept leaf.file.page_size in
    record {
      right = leaf.nothing.right ∙ ap (λ (s : Side). s.right) (sym bare);
      kids = λ child. no_kids leaf.file.page_size (side_of leaf.bare) kept child ∙ ap (λ (s : Side). s.kids child) (sym bare);
      same = λ some. absurd (some (ap (λ (s : Side). s.right) bare));
      kept = kept;
    }

-- THE VICTIM is the first of the list
first_back : (us : List (ℕ × Slot)) (x : ℕ × Slot) → slice_get (reverse (keys_of (us ++ x ∷ []))) 0 ≡ Some x.0
first_back us x = ap (λ (ks : List ℕ). slice_get (reverse ks) 0) (map-append (λ (e : ℕ × Slot). e.0) us (x ∷ [])) ∙ ap (λ (ks : List ℕ). slice_get ks 0) (reverse-append (keys_of us) (x.0 ∷ []))

pub victim_is : (held : LruCache ℕ Slot) → option_map {T = ℕ × Slot} (λ e. e.0) (last_entry held.entries) ≡ oldest (uses_in held)
victim_is held = at held.entries
  where
    at : (es : List (ℕ × Slot)) → option_map {T = ℕ × Slot} (λ e. e.0) (last_entry es) ≡ oldest (reverse (keys_of es))
    at [] = refl
    at (e ∷ es) =
        let cut = cut_end (e ∷ es) (omega arith) in
        let last = last_of_push cut.0 cut.1 in
        subst (λ (xs : List (ℕ × Slot)). option_map {T = ℕ × Slot} (λ e. e.0) (last_entry xs) ≡ oldest (reverse (keys_of xs))) (sym cut.2)
        (ap (option_map {T = ℕ × Slot} (λ e. e.0)) last.0 ∙ sym (first_back cut.0 cut.1))

-- a list backwards has the same elements
pub from_back : (xs : List ℕ) (x : ℕ) → Contains (reverse xs) x → Contains xs x
from_back [] x c = c
from_back (y ∷ xs) x c = elim (Contains-append_cases (reverse xs) (y ∷ []) x (subst (λ (l : List ℕ). Contains l x) (reverse_cons y xs) c)) [
  | inl d ↦ Contains-tail y xs x (from_back xs x d)
  | inr d ↦ elim (Contains-cons y [] x d) [ inl e ↦ subst (Contains (y ∷ xs)) e (Contains-head y xs) | inr n ↦ absurd (Contains-nil x n) ]
]

pub to_back : (xs : List ℕ) (x : ℕ) → Contains xs x → Contains (reverse xs) x
to_back [] x c = c
to_back (y ∷ xs) x c = subst (λ (l : List ℕ). Contains l x) (sym (reverse_cons y xs)) (elim (Contains-cons y xs x c) [
  | inl e ↦ Contains-append_right (reverse xs) (y ∷ []) x (subst (Contains (y ∷ [])) e (Contains-head y []))
  | inr d ↦ Contains-append_left (reverse xs) (y ∷ []) x (to_back xs x d)
])

-- a page is listed exactly if it has a frame
pub listed : (es : List (ℕ × Slot)) (page : ℕ) → Contains (keys_of es) page → IsSome (lookup (nat_eq page) es)
listed [] page c = absurd (Contains-nil page c)
listed (e ∷ es) page c = elim (eqb_tells page e.0) [
  | inl same ↦ rw same.0 refl
  | inr apart ↦ rw apart.0 (elim (Contains-cons e.0 (keys_of es) page c) [ inl s ↦ absurd (apart.1 (sym s)) | inr d ↦ listed es page d ])
]

pub unlisted : (es : List (ℕ × Slot)) (page : ℕ) → IsSome (lookup (nat_eq page) es) → Contains (keys_of es) page
unlisted [] page some = absurd (let f : ⊥ = cc in f)
unlisted (e ∷ es) page some = elim (eqb_tells page e.0) [
  | inl same ↦ subst (Contains (e.0 ∷ keys_of es)) (sym same.1) (Contains-head e.0 (keys_of es))
  | inr apart ↦ Contains-tail e.0 (keys_of es) page (unlisted es page (subst (λ (b : Bool). IsSome (cond b (Some e.1) (lookup (nat_eq page) es))) apart.0 some))
]

tests : (es : List (ℕ × Slot)) (page : ℕ) → is_some (lookup (nat_eq page) es) ≡ list_any (nat_eq page) (keys_of es)
tests [] page = refl
tests (e ∷ es) page = elim (eqb_tells page e.0) [ inl same ↦ rw same.0 refl | inr apart ↦ rw apart.0 (tests es page) ]

-- as many numbers pass as there are in a list of those that do, each once
pub counted : (xs : List ℕ) (n : ℕ) (test : ℕ → Bool) → IsDistinct nat_eq xs → ((x : ℕ) → Contains xs x → x < n) → ((x : ℕ) → test x ≡ list_any (nat_eq x) xs) → count_below test n ≡ length xs
counted [] n test distinct inside is = count_below-zero test n (λ x lt. is x)
counted (x ∷ xs) n test distinct inside is =
    let rest : ℕ → Bool = λ y. list_any (nat_eq y) xs in
    let less = count_below-less test rest x n (inside x (Contains-head x xs)) (is x ∙ ap (λ (b : Bool). b || list_any (nat_eq x) xs) (eq_same x)) (gone xs (IsDistinct-head nat_eq x xs distinct))
    (λ y lt d. sym (is y ∙ ap (λ (b : Bool). b || list_any (nat_eq y) xs) (eq_apart y x d))) in
    let here = counted xs n rest (IsDistinct-tail nat_eq x xs distinct) (λ y c. inside y (Contains-tail x xs y c)) (λ y. refl) in
    omega (arith, less, here)
  where
    gone : (ys : List ℕ) → AllByRecursion (λ y. nat_eq x y ≡ false) ys → list_any (nat_eq x) ys ≡ false
    gone [] h = refl
    gone (y ∷ ys) h = rw h.0 (gone ys h.1)

module _ (leaf : Leaf) (distinct : IsDistinct nat_eq (keys_of leaf.held.entries)) (few : length leaf.held.entries ≤ leaf.held.cap) where
  some_if : (o : Option Slot) → (side_seen o).right ≢ Right.Nothing → IsSome o
  some_if None some = absurd (some refl)
  some_if (Some slot) some = refl

  pub held_here : (page : ℕ) → (side leaf page).right ≢ Right.Nothing → IsSome (slot_in leaf.held page)
  held_here page some = some_if (slot_in leaf.held page) some

  holds_some : (right : Right) → right ≢ Right.Nothing → holds right ≡ true
  holds_some Right.Nothing some = absurd (some refl)
  holds_some Right.Read some = refl
  holds_some Right.Write some = refl

  holds_as : (o : Option Slot) → (IsSome o → (side_seen o).right ≢ Right.Nothing) → holds (side_seen o).right ≡ is_some o
  holds_as None h = refl
  holds_as (Some slot) h = holds_some (side_of slot).right (h refl)

  framed_if : (page : ℕ) → Contains (uses_of leaf) page → IsFramed leaf.file page (side leaf page)
  framed_if page c = leaf.framed page (listed leaf.held.entries page (from_back (keys_of leaf.held.entries) page c))

  many : count_below (λ page. holds (side leaf page).right) leaf.file.pages ≡ length (keys_of leaf.held.entries)
  many = counted (keys_of leaf.held.entries) leaf.file.pages (λ page. holds (side leaf page).right) distinct
      (λ page c. (framed_if page (to_back (keys_of leaf.held.entries) page c)).inside)
      (λ page. holds_as (slot_in leaf.held page) (λ some. (leaf.framed page some).right) ∙ tests leaf.held.entries page)

  pub held_is : length leaf.held.entries ≡ held_of leaf
  held_is = sym (many ∙ length-keys_of leaf.held.entries)

  kids_as : (page : ℕ) (o : Option Slot) → slot_in leaf.held page ≡ o → (child : ℕ) → (side leaf page).kids child ≡ Right.Nothing
  kids_as page None is child = ap (λ (s : Side). s.kids child) (unheld leaf.held page is)
  kids_as page (Some slot) is child = no_kids leaf.file.page_size (side leaf page) (leaf.framed page (subst IsSome (sym is) refl)).kept child

  pub is_leaf : IsLeaf leaf
  is_leaf = record {
    held = λ page. (λ c. (framed_if page c).right, λ some. to_back (keys_of leaf.held.entries) page (unlisted leaf.held.entries page (held_here page some)));
    inside = All-weaker (Contains (uses_of leaf)) (λ page. page < leaf.file.pages) (λ page c. (framed_if page c).inside) (uses_of leaf) (All-contains_itself (uses_of leaf));
    many = length-reverse (keys_of leaf.held.entries) ∙ sym many;
    few = omega (arith, few, held_is);
    kids = λ page. kids_as page (slot_in leaf.held page) refl;
  }

-- a leaf that holds no page
no_entries : (es : List (ℕ × Slot)) → length es ≡ 0 → es ≡ []
no_entries [] e = refl
no_entries (x ∷ es) e = absurd (omega (arith, e))

pub nothing_held : (held : LruCache ℕ Slot) (page : ℕ) → uses_in held ≡ [] → side_in held page ≡ no_side
nothing_held held page none =
    let long : length held.entries ≡ 0 = sym (length-reverse (keys_of held.entries) ∙ length-keys_of held.entries) ∙ ap length none in
    ap (λ (es : List (ℕ × Slot)). side_seen (lookup (nat_eq page) es)) (no_entries held.entries long)

-- what is decided of a page, is decided of what the code reads of it
module _ (file : PagedFile) (s found : Side) (seen : IsSeenAs file s found) where
  no_holder : NoKidHolds s → NoKidHolds found
  no_holder none child = seen.kids child ∙ none child

  no_writer : NoKidWrites s → NoKidWrites found
  no_writer none child w = none child (sym (seen.kids child) ∙ w)

  pub obeys : (what : Called) → MayObey s what → MayObey found what
  obeys Called.FlushBack may = (seen.right ∙ may.0, no_holder may.1)
  obeys Called.DenyWrites may = (seen.right ∙ may.0, no_writer may.1)
  obeys Called.WriteBack may = seen.right ∙ may
  obeys Called.DeleteRange may = (seen.right ∙ may.0, no_holder may.1)
  obeys Called.Destroy may = (seen.right ∙ may.0, no_holder may.1)

  same_write : s.right ≡ Right.Write → found ≡ s
  same_write w = seen.same (λ n. let e : Right.Write ≡ Right.Nothing = sym w ∙ n in let f : ⊥ = cc in f)

  pub replies : (what : Called) → MayObey s what → reply found what ≡ reply s what
  replies Called.FlushBack may = ap (λ (t : Side). reply t Called.FlushBack) (same_write may.0)
  replies Called.DenyWrites may = ap (λ (t : Side). reply t Called.DenyWrites) (same_write may.0)
  replies Called.WriteBack may = ap (λ (t : Side). reply t Called.WriteBack) (same_write may)
  replies Called.DeleteRange may = refl
  replies Called.Destroy may = refl

pub obeys_at : (leaf : Leaf) (what : Called) (about : About) → MayObeyAt leaf what about → MayObey (side leaf (page_about about)) what
obeys_at leaf what (About.Page page) may = may
obeys_at leaf what About.Channel may = subst (MayObey (side leaf 0)) (sym may.0) (subst (λ (s : Side). MayObey s Called.Destroy) (sym (nothing_held leaf.held 0 may.1)) (refl, λ child. refl))
