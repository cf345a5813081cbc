-- A blank disk is made, over plain variables.
use Rattle.std.proofs.Common.{◌≡◌, inl, inr, ℕ, suc, ◌+◌, ◌<◌, ◌≤◌, Bool, true, false, not, ◌||◌, List, [], ◌∷◌, ◌++◌, set, Option, Some, None, IfSome, Result, Ok, Err, refl, sym, ap, ◌∙◌, subst, arith}
use Rattle.std.specs.Prelude.{is_some, OnOk}
use Rattle.std.specs.Option.{option_map}
use Rattle.spr_io.specs.Content.{Content, HasNothingPending, flushed, written}
use Rattle.disk_format.specs.declared.shape.ImageShape.{ImageShape}
use Rattle.disk_format.specs.declared.why.BadImage.{BadImage}
use Rattle.disk_format.specs.VersionOne.{header}
use Rattle.page_ground.specs.Seen.{Imaged}
use Rattle.disk_format.specs.Image.{image, pages_of}
use Rattle.page_ground.specs.declared.fault.StoreFault.{StoreFault}
use Rattle.disk_layer.specs.Disk.{Disk, HasImage, IsBlank, formatted, pages_on, kept_on}
use Rattle.disk_layer.specs.Calls.{Stored, IsNone}
use Rattle.disk_layer.specs.Making.{Making, Began, StaysBlank, SameMaking, IsImageOf, IsBlankOrMade, made_disk, pages_made}
use Rattle.mirror_rules.specs.Tree.{Image, Cell, Seat, In, Out, Why, Blank, Bad, Down, seats, is_live}
use Rattle.mirror_rules.specs.Tree as machine
use Rattle.mirror_rules.specs.Claims.{Pairs, pairs_none, pairs_more, Every, every_none, every_more, Nth, nth_here, nth_later, Has, has_here, has_later, IsLive}
use Rattle.mirror_rules.specs.Steps.{Says, Done, Fault, Looked, looked_out, looked_stale, looked_same, looked_refused}
use Rattle.mirror_rules.specs.Opening.{Only, only_here, only_later, Fills, fill_end, fill_next, fill_gone, Makes, made, unmade_blank, unmade_whole, begun, NotBlank, filled_in, filled_bad, filled_down, Renews, renew_end, renew_next, renew_made, renew_left, renew_gone}
use Rattle.mirror_rules.proofs.OpenLaws.{nth-same, blank-live}
use Rattle.mirror_rules.proofs.RoundLaws.{live-tree, live-seats}
use Rattle.mirror_layer.specs.declared.node.Mark.{Mark}
use Rattle.mirror_layer.specs.declared.node.Mark.TheVariants as mark
use Rattle.mirror_layer.specs.declared.node.Node.{Node}
use Rattle.mirror_layer.specs.Shut.{ShutSeen, CanRenew, CanMake}
use Rattle.mirror_layer.specs.View.{Beside, as_image, image_in, is_blank_in, why_from, why_of, cell_from, cell_of, seat_of, store_of, tree_of, beside_in, beside_of, beside_of_shut}
use Rattle.mirror_layer.specs.Calls.{answered, all_told}
use Rattle.mirror_layer.specs.Places.{Exchanged, IsLeaf, LeafTells, first_seat}
use Rattle.mirror_layer.specs.Renewing.{blanks, IsUnmade, MakesPages, MadeDisk, LeftUnmade, left_blank, left_whole, left_gone, stored, RenewsShut, RenewsLeaf}
use Rattle.mirror_layer.proofs.CloseSteps.{shut_seen, told-kept}
use Rattle.mirror_layer.proofs.PlaceSteps.{leaf-row}
use Rattle.mirror_layer.proofs.JoinSteps.{nth-plug, only-plug}
use Rattle.mirror_layer.proofs.EnterSteps.{Visit, spare-at, visit-row, visit-tells}
use Rattle.mirror_layer.proofs.FillingSteps.{fills-out, fills-live, fills-length}

-- how many disks are blank
pub looks-blanks : {s : Says} {xs ys : List Seat} → Pairs (Looked s) xs ys → blanks ys ≡ blanks xs
looks-blanks pairs_none = refl
looks-blanks (pairs_more (looked_out {b = Blank}) h) = ap (λ n. 1 + n) (looks-blanks h)
looks-blanks (pairs_more (looked_out {b = Bad}) h) = looks-blanks h
looks-blanks (pairs_more (looked_out {b = Down}) h) = looks-blanks h
looks-blanks (pairs_more looked_stale h) = looks-blanks h
looks-blanks (pairs_more (looked_same e) h) = looks-blanks h
looks-blanks (pairs_more (looked_refused l) h) = looks-blanks h

fills-blanks : {n p : ℕ} {s : Says} {F : List (List ℕ)} {xs ys : List Seat} → Fills n p xs s F ys → blanks ys ≡ blanks xs
fills-blanks fill_end = refl
fills-blanks (fill_next h r) = fills-blanks r ∙ looks-blanks h.each
fills-blanks (fill_gone h) = looks-blanks h.each

blanks-more : (x : Seat) (xs : List Seat) → blanks (x ∷ xs) ≡ blanks (x ∷ []) + blanks xs
blanks-more (In b c) xs = omega arith
blanks-more (Out Blank s) xs = omega arith
blanks-more (Out Bad s) xs = omega arith
blanks-more (Out Down s) xs = omega arith

pub only-blanks : {x y : Seat} {i : ℕ} {xs ys : List Seat} → Only x y i xs ys → blanks ys + blanks (x ∷ []) ≡ blanks xs + blanks (y ∷ [])
only-blanks {x} {y} (only_here {xs = xs}) = omega (arith, blanks-more x xs, blanks-more y xs)
only-blanks (only_later {z = z} {xs = xs} {ys = ys} o) = omega (arith, only-blanks o, blanks-more z xs, blanks-more z ys)

pub nth-blanks : {i : ℕ} {x : Seat} {xs : List Seat} → Nth i xs x → blanks (x ∷ []) ≤ blanks xs
nth-blanks {x = x} (nth_here {xs = xs}) = omega (arith, blanks-more x xs)
nth-blanks (nth_later {x = z} {xs = xs} h) = omega (arith, nth-blanks h, blanks-more z xs)

other-blanks : (x : Seat) → NotBlank x → blanks (x ∷ []) ≡ 0
other-blanks (In b c) filled_in = refl
other-blanks (Out Bad s) filled_bad = refl
other-blanks (Out Blank s) x = elim x [ ]
other-blanks (Out Down s) filled_down = refl

only-at : {x y z : Seat} {i : ℕ} {xs ys : List Seat} → Only x y i xs ys → Nth i xs z → x ≡ z
only-at only_here nth_here = refl
only-at (only_later o) (nth_later k) = only-at o k

fills-nth : {n p : ℕ} {s : Says} {F : List (List ℕ)} {i : ℕ} {b : Why} {t : machine.Store} {xs ys : List Seat} → Fills n p xs s F ys → Nth i ys (Out b t) → (x : Seat) → Nth i xs x → x ≡ Out b t
fills-nth fill_end k x h = nth-same h k
fills-nth (fill_next l r) k x h = fills-nth r k x (looks-nth l.each (fills-nth r k) h) where
  looks-nth : {s : Says} {i : ℕ} {b : Why} {t : machine.Store} {x : Seat} {xs ys : List Seat} → Pairs (Looked s) xs ys → ((y : Seat) → Nth i ys y → y ≡ Out b t) → Nth i xs x → Nth i ys x
  looks-nth pairs_none f k = elim k [ ]
  looks-nth (pairs_more looked_out m) f nth_here = nth_here
  looks-nth (pairs_more looked_stale m) f nth_here = nth_here
  looks-nth (pairs_more (looked_same e) m) f nth_here = nth_here
  looks-nth (pairs_more (looked_refused l) m) f nth_here = let q = f _ nth_here in cc
  looks-nth (pairs_more l m) f (nth_later k) = nth_later (looks-nth m (λ y h. f y (nth_later h)) k)
fills-nth (fill_gone l) k x h = gone l.each k h where
  gone : {s : Says} {i : ℕ} {b : Why} {t : machine.Store} {x : Seat} {xs ys : List Seat} → Pairs (Looked s) xs ys → Nth i ys (Out b t) → Nth i xs x → x ≡ Out b t
  gone pairs_none k h = elim h [ ]
  gone (pairs_more looked_out m) nth_here nth_here = refl
  gone (pairs_more l m) (nth_later k) (nth_later h) = gone m k h

only-first : {x y : Seat} {i : ℕ} {xs ys : List Seat} → Only x y i xs ys → Nth i xs x
only-first only_here = nth_here
only-first (only_later o) = nth_later (only-first o)

-- a making leaves one blank disk less
pub renews-blanks : {told : Bool} {g n i : ℕ} {x : Seat} {xs ys : List Seat} → Renews told g n i 1 xs (Done true) ys → Nth i xs x → blanks ys + blanks (x ∷ []) ≤ blanks xs
renews-blanks {x = x} (renew_next {x = z} h p renew_end) k = let e : z ≡ x = nth-same h k in let o : blanks (x ∷ []) ≡ 0 = other-blanks x (subst NotBlank e p) in omega (arith, o)
renews-blanks {x = x} (renew_made {b = b} f m o renew_end) k =
    let e : x ≡ Out Blank b = fills-nth f (only-first o) x k in
    let u : blanks (x ∷ []) ≡ 1 = ap (λ v. blanks (v ∷ [])) e in
    omega (arith, only-blanks o, fills-blanks f, u)
renews-blanks {x = x} (renew_left {b = b} l f m o renew_end) k =
    let e : x ≡ Out Blank b = fills-nth f (only-first o) x k in
    let u : blanks (x ∷ []) ≡ 1 = ap (λ v. blanks (v ∷ [])) e in
    omega (arith, only-blanks o, fills-blanks f, u)

pub blanks_append : (xs ys : List Seat) → blanks (xs ++ ys) ≡ blanks xs + blanks ys
blanks_append [] ys = omega arith
blanks_append (x ∷ xs) ys = omega (arith, blanks-more x (xs ++ ys), blanks-more x xs, blanks_append xs ys)

-- a blank disk is found so, and has its store
pub record FoundBlank (s : ShutSeen) : Type 0 where
  pub reason : BadImage
  pub bad : s.bad ≡ Some reason
  pub zeros : s.blank ≡ true

found-by : (bad : Option BadImage) (k : Bool) → why_from bad k ≡ Blank → (w : BadImage) × (bad ≡ Some w) × (k ≡ true)
found-by None k e = cc
found-by (Some w) true e = (w, refl, refl)
found-by (Some w) false e = cc

pub found-blank : (s : ShutSeen) → why_of s ≡ Blank → FoundBlank s
found-blank s e = let r = found-by s.bad s.blank e in record { reason = r.0; bad = r.1; zeros = r.2 }

pub blank-bad : (bad : Option BadImage) (k : Bool) → is_some bad ≡ true → k ≡ true → why_from bad k ≡ Blank
blank-bad None k e h = cc
blank-bad (Some w) true e h = refl
blank-bad (Some w) false e h = cc

can-make : {T : Type 0} (content : T → Option Content) (faults : T → ℕ) (bad : Option BadImage) (k : Bool) (opened : ℕ) (o : Option T) (w : BadImage) → bad ≡ Some w → CanRenew bad k opened content faults o → (t : T) × (o ≡ Some t) × CanMake k opened (content t) (faults t)
can-make content faults None k opened o w e h = cc
can-make content faults (Some b) k opened None w e h = absurd h
can-make content faults (Some b) k opened (Some t) w e h = (t, refl, h)

-- what the store of a blank disk is known by, when it is taken
pub record Taken {T : Type 0} (content : T → Option Content) (faults : T → ℕ) (opened : ℕ) (o : Option T) : Type 0 where
  pub store : T
  pub is : o ≡ Some store
  pub zeros : IsBlank (content store)
  pub calm : opened ≡ faults store

pub blank-taken-store : {T : Type 0} (content : T → Option Content) (faults : T → ℕ) (bad : Option BadImage) (k : Bool) (opened : ℕ) (o : Option T) → why_from bad k ≡ Blank → CanRenew bad k opened content faults o → Taken content faults opened o
blank-taken-store content faults bad k opened o e h =
    let f = found-by bad k e in
    let c = can-make content faults bad k opened o f.0 f.1 h in
    record { store = c.0; is = c.1; zeros = c.2.zeros f.2; calm = c.2.calm }

-- how a making ends
some-flushed : (c : Option Content) → is_some (flushed c) ≡ is_some c
some-flushed None = refl
some-flushed (Some c) = refl

some-written : (k : ℕ) (x : List ℕ) (c : Option Content) → is_some (written k x c) ≡ is_some c
some-written k x None = refl
some-written k x (Some c) = refl

some-formatted : (shape : ImageShape) (n : ℕ) (c : Option Content) → is_some (formatted shape n c) ≡ is_some c
some-formatted shape n None = refl
some-formatted shape n (Some c) = refl

pub began-told : {before : Stored} {m : Making} → Began before m → is_some m.content ≡ is_some before.content
began-told {before} {m} b = ap is_some b.content ∙ some-formatted before.shape _ before.content

pub made-by : {told : Bool} {g n : ℕ} {xs ys : List Seat} (before : Stored) (m k : Making) (d : Disk) → Began before m → SameMaking m k → MakesPages told n xs m (Ok true) ys k → d ≡ made_disk g k → pages_on d ≡ pages_made k → HasImage d → HasNothingPending d.content
    → MadeDisk told g n xs ys before d
made-by {told} {g} before m k d b s h e p i q = record {
  pages = h.0;
  fills = h.1;
  disk = ap (λ (v : Disk). v.disk) e ∙ s.disk ∙ b.disk;
  shape = ap (λ (v : Disk). v.shape) e ∙ s.shape ∙ b.shape;
  generation = ap (λ (v : Disk). v.generation) e;
  calm = ap (λ (v : Disk). v.faults) e ∙ h.3 ∙ b.calm;
  opened = ap (λ (v : Disk). v.opened) e ∙ h.3 ∙ b.calm;
  tells = ap (λ (v : Disk). is_some v.content) e ∙ some-flushed (written 0 (header k.shape g) k.content) ∙ some-written 0 (header k.shape g) k.content ∙ s.told ∙ began-told b;
  stands = λ t. subst (λ v. IfSome v (λ ps. ps ≡ h.0)) (sym p) (h.2 t);
  image = i;
  kept = q;
}

whole-image : (shape : ImageShape) (g : ℕ) (F : List (List ℕ)) (left : Option Content) (o : Option Content) (size : ℕ) (entries : List ℕ) → is_some left ≡ is_some o → IsImageOf shape g (option_map {T = Content} (λ c. pages_of size c.blocks entries) o) left
    → IfSome (option_map {T = Content} (λ c. pages_of size c.blocks entries) o) (λ ps. ps ≡ F) → IfSome left (λ c. image shape c.blocks ≡ Some (record { generation = g; pages = F }))
whole-image shape g F None o size entries e h k = tt
whole-image shape g F (Some c) None size entries e h k = cc
whole-image shape g F (Some c) (Some d) size entries e h k = h ∙ ap (λ (v : List (List ℕ)). Some (record { generation = g; pages = v })) k

pub unended-by : {told : Bool} {g n faults : ℕ} {xs ys : List Seat} (before : Stored) (m k : Making) (left : Option Content) → Began before m → SameMaking m k → MakesPages told n xs m (Ok true) ys k → IsUnmade before.shape k.content → k.faults < faults → is_some left ≡ is_some k.content
    → (IsBlank k.content → IsBlankOrMade g k left) → LeftUnmade told g n xs ys before None left faults
unended-by {told} {g} {n} {faults} {xs} {ys} before m k left b s h u l t w =
    let same : k.shape ≡ before.shape = s.shape ∙ b.shape in
    let lt : before.faults < faults = omega (arith, l, h.3, b.calm) in
    elim (w u.0) [
      | inl q ↦ left_blank (omega arith) h.1 lt (q.0, subst (λ v. IsNone v left) same q.1)
      | inr q ↦ left_whole h.1 lt (λ r. subst (λ v. IfSome left (λ c. image v c.blocks ≡ Some (record { generation = g; pages = h.0 }))) same (whole-image k.shape g h.0 left k.content k.shape.page_size k.entries t q (h.2 r)))
    ]

pub unwritten-by : {told : Bool} {g n faults : ℕ} {xs ys : List Seat} (before : Stored) (m k : Making) (left : Option Content) → Began before m → MakesPages told n xs m (Ok false) ys k → IsUnmade before.shape k.content → left ≡ k.content → faults ≡ k.faults → LeftUnmade told g n xs ys before None left faults
unwritten-by before m k left b h u e f = left_blank h.2 h.3 (omega (arith, h.4, f, b.calm)) (subst (λ v. IsUnmade before.shape v) (sym e) u)

pub gone-by : {told : Bool} {g n faults : ℕ} {xs ys : List Seat} {f : StoreFault} (before : Stored) (m k : Making) (left : Option Content) → Began before m → MakesPages told n xs m (Err f) ys k → IsUnmade before.shape k.content → left ≡ k.content → faults ≡ k.faults → LeftUnmade told g n xs ys before (Some f) left faults
gone-by {told} {g} {n} {faults} {xs} {ys} {f} before m k left b h u e q =
    subst (λ v. LeftUnmade told g n xs ys before (Some f) left v) (sym (q ∙ h.2 ∙ b.calm)) (left_gone h.1 (subst (λ v. IsUnmade before.shape v) (sym e) u))

-- the disk that was made, as the machine sees it
content-some : (o : Option Content) → is_some o ≡ true → (c : Content) × (o ≡ Some c)
content-some None e = cc
content-some (Some c) e = (c, refl)

made-cell : (d : Disk) (s : ShutSeen) (g : ℕ) (F : List (List ℕ)) (k : Content) → d.content ≡ Some k → d.disk ≡ s.disk → d.generation ≡ g → d.faults ≡ s.faults → IfSome (pages_on d) (λ ps. ps ≡ F) → HasNothingPending d.content → HasImage d → cell_of d ≡ made g F (store_of s)
made-cell d s g F k e a b n st q i =
    let pages : pages_of d.shape.page_size k.blocks d.entries ≡ F = subst (λ (v : Option Content). IfSome (option_map {T = Content} (λ c. pages_of d.shape.page_size c.blocks d.entries) v) (λ ps. ps ≡ F)) e st in
    let still : k.kept ≡ k.blocks = subst HasNothingPending e q in
    let have : image d.shape k.blocks ≡ Some (record { generation = d.generation; pages = pages_of d.shape.page_size k.blocks d.entries }) =
    subst (λ (v : Option Content). IfSome v (λ c. image d.shape c.blocks ≡ Some (record { generation = d.generation; pages = pages_of d.shape.page_size c.blocks d.entries }))) e i in
    let is : ◌≡◌ {A = Imaged} (record { generation = d.generation; pages = pages_of d.shape.page_size k.blocks d.entries }) (record { generation = g; pages = F }) =
    ap (λ (v : ℕ). record { generation = v; pages = pages_of d.shape.page_size k.blocks d.entries }) b ∙ ap (λ (v : List (List ℕ)). record { generation = g; pages = v }) pages in
    let on : pages_on d ≡ Some F = ap (λ (v : Option Content). option_map {T = Content} (λ c. pages_of d.shape.page_size c.blocks d.entries) v) e ∙ ap (λ (v : List (List ℕ)). Some v) pages in
    let kept : kept_on d ≡ Some (Some (record { generation = g; pages = F })) =
    ap (λ (v : Option Content). option_map {T = Content} (λ c. image d.shape c.kept) v) e ∙ ap (λ (v : List (List ℕ)). Some (image d.shape v)) still ∙ ap (λ (v : Option Imaged). Some v) have ∙ ap (λ (v : Imaged). Some (Some v)) is in
    ap (λ (v : ℕ). cell_from v d.generation (pages_on d) (kept_on d) d.faults) a
    ∙ ap (λ (v : ℕ). cell_from s.disk v (pages_on d) (kept_on d) d.faults) b
    ∙ ap (λ (v : Option (List (List ℕ))). cell_from s.disk g v (kept_on d) d.faults) on
    ∙ ap (λ (v : Option (Option Imaged)). cell_from s.disk g (Some F) v d.faults) kept
    ∙ ap (λ (v : ℕ). cell_from s.disk g (Some F) (Some (Some (record { generation = g; pages = F }))) v) n

makes-by : {told : Bool} {g n : ℕ} {xs ys : List Seat} (s : ShutSeen) (d : Disk) → (told ≡ true → is_some s.content ≡ true) → (h : MadeDisk told g n xs ys (stored s) d) → Makes told g h.pages (store_of s) (cell_of d)
makes-by {g = g} s d t h = record {
  disk = h.disk;
  generation = h.generation;
  faults = h.calm;
  cell = λ q. let c = content-some d.content (h.tells ∙ t q) in made-cell d s g h.pages c.0 c.1 h.disk h.generation h.calm (h.stands q) h.kept h.image;
}

-- and what is left of one that was not
none-image : (shape : ImageShape) (o : Option Content) → IsNone shape o → image_in shape (λ c. c.blocks) o ≡ None
none-image shape None h = refl
none-image shape (Some c) h = ap (λ (v : Option Imaged). option_map {T = Imaged} as_image v) h

blank-still : (k : Bool) (o : Option Content) → k ≡ true → IsBlank o → is_blank_in k o ≡ true
blank-still k None e h = e
blank-still k (Some c) e h = h

whole-told : (shape : ImageShape) (g : ℕ) (F : List (List ℕ)) (o : Option Content) → is_some o ≡ true → IfSome o (λ c. image shape c.blocks ≡ Some (record { generation = g; pages = F })) → image_in shape (λ c. c.blocks) o ≡ Some (record { generation = g; pages = F })
whole-told shape g F None e h = cc
whole-told shape g F (Some c) e h = ap (λ (v : Option Imaged). option_map {T = Imaged} as_image v) h

-- a leaf that was taken out
pub stays : {told : Bool} {g n i : ℕ} {b : Why} {t : machine.Store} (x : Seat) {xs : List Seat} → NotBlank x → Nth i xs (Out b t) → Renews told g n i 1 (set xs i x) (Done true) (set xs i x)
stays x p k = renew_next (nth-plug x k) p renew_end

pub mark-filled : (m : Mark) (c : Cell) → NotBlank (seat_of m c)
mark-filled mark.Live c = filled_in
mark-filled mark.Left c = filled_in
mark-filled mark.Down c = filled_down

pub other-filled : (w : Why) (s : machine.Store) → (w ≡ Blank → ⊥) → NotBlank (Out w s)
other-filled Blank s f = absurd (f refl)
other-filled Bad s f = filled_bad
other-filled Down s f = filled_down

plug-blank : {told : Bool} {g n i : ℕ} (s : ShutSeen) {a : Says} (xs : List Seat) {ys : List Seat} → why_of s ≡ Blank → Renews told g n i 1 (set xs i (Out Blank (store_of s))) a ys → Renews told g n i 1 (set xs i (Out (why_of s) (store_of s))) a ys
plug-blank {told} {g} {n} {i} s {a} xs {ys} e h = subst (λ v. Renews told g n i 1 (set xs i (Out v (store_of s))) a ys) (sym e) h

pub renewed-made : {told : Bool} {g n i : ℕ} {b : Why} {u : machine.Store} (s : ShutSeen) (d : Disk) {xs ys : List Seat} → why_of s ≡ Blank → (told ≡ true → is_some s.content ≡ true) → MadeDisk told g n xs ys (stored s) d → Nth i xs (Out b u)
    → Renews told g n i 1 (set xs i (Out (why_of s) (store_of s))) (Done true) (set ys i (In true (cell_of d)))
renewed-made s d {xs = xs} e t h k =
    let f = fills-out Blank (store_of s) h.fills k in
    plug-blank s xs e (renew_made f.0 (makes-by s d t h) (only-plug (Out Blank (store_of s)) (In true (cell_of d)) f.1) renew_end)

pub renewed-left : {told : Bool} {g n i : ℕ} {b : Why} {u : machine.Store} (s t : ShutSeen) {xs ys : List Seat} → why_of s ≡ Blank → (told ≡ true → is_some s.content ≡ true) → RenewsShut told g n xs s (Ok None) ys t → Nth i xs (Out b u)
    → Renews told g n i 1 (set xs i (Out (why_of s) (store_of s))) (Done true) (set ys i (Out (why_of t) (store_of t)))
renewed-left {told} {g} {n} {i} s t {xs} {ys} e tells h k =
    let f = found-blank s e in
    let down : why_of t ≡ Down = ap (λ (v : ShutSeen). why_of v) h.0 in
    let disk : t.disk ≡ s.disk = ap (λ (v : ShutSeen). v.disk) h.0 in
    let shape : t.shape ≡ s.shape = ap (λ (v : ShutSeen). v.shape) h.0 in
    let blank : t.blank ≡ true = ap (λ (v : ShutSeen). v.blank) h.0 ∙ f.zeros in
    subst (λ v. Renews told g n i 1 (set xs i (Out (why_of s) (store_of s))) (Done true) (set ys i (Out v (store_of t)))) (sym down) (plug-blank s xs e (by h.2 disk shape blank))
  where
    by : LeftUnmade told g n xs ys (stored s) None t.content t.faults → t.disk ≡ s.disk → t.shape ≡ s.shape → t.blank ≡ true → Renews told g n i 1 (set xs i (Out Blank (store_of s))) (Done true) (set ys i (Out Down (store_of t)))
    by (left_blank j l lt m) d sh z =
        let f = fills-out Blank (store_of s) l k in
        renew_left j f.0 (unmade_blank d lt (subst (λ v. image_in v (λ c. c.blocks) t.content ≡ None) (sym sh) (none-image s.shape t.content m.1)) (blank-still t.blank t.content z m.0)) (only-plug (Out Blank (store_of s)) (Out Down (store_of t)) f.1) renew_end
    by (left_whole {F = F} l lt w) d sh z =
        let f = fills-out Blank (store_of s) l k in
        renew_left (omega arith) f.0 (unmade_whole d lt (fills-length l) (λ q. subst (λ v. image_in v (λ c. c.blocks) t.content ≡ Some (record { generation = g; pages = F })) (sym sh) (whole-told s.shape g F t.content (h.1 ∙ tells q) (w q)))) (only-plug (Out Blank (store_of s)) (Out Down (store_of t)) f.1) renew_end

pub renewed-gone : {told : Bool} {g n i : ℕ} {b : Why} {u : machine.Store} {f : StoreFault} (s t : ShutSeen) {xs ys : List Seat} → why_of s ≡ Blank → RenewsShut told g n xs s (Err f) ys t → Nth i xs (Out b u)
    → Renews told g n i 1 (set xs i (Out (why_of s) (store_of s))) (Fault f.disk f.count) (set ys i (Out (why_of t) (store_of t)))
renewed-gone {told} {g} {n} {i} {f = f} s t {xs} {ys} e h k =
    let o = found-blank s e in
    let same : why_of t ≡ Blank = ap (λ (v : ShutSeen). why_of v) h.0 ∙ e in
    let disk : t.disk ≡ s.disk = ap (λ (v : ShutSeen). v.disk) h.0 in
    let shape : t.shape ≡ s.shape = ap (λ (v : ShutSeen). v.shape) h.0 in
    let blank : t.blank ≡ true = ap (λ (v : ShutSeen). v.blank) h.0 ∙ o.zeros in
    subst (λ v. Renews told g n i 1 (set xs i (Out (why_of s) (store_of s))) (Fault f.disk f.count) (set ys i (Out v (store_of t)))) (sym same) (plug-blank s xs e (by h.2 refl disk shape blank refl))
  where
    by : {o : Option StoreFault} {m : ℕ} → LeftUnmade told g n xs ys (stored s) o t.content m → o ≡ Some f → t.disk ≡ s.disk → t.shape ≡ s.shape → t.blank ≡ true → m ≡ t.faults → Renews told g n i 1 (set xs i (Out Blank (store_of s))) (Fault f.disk f.count) (set ys i (Out Blank (store_of t)))
    by (left_blank j l lt m) q d sh z r = cc
    by (left_whole l lt w) q d sh z r = cc
    by (left_gone {f = e} l m) q d sh z r =
        let same : e ≡ f = cc in
        let v = fills-out Blank (store_of s) l k in
        subst (λ (w : StoreFault). Renews told g n i 1 (set xs i (Out Blank (store_of s))) (Fault w.disk w.count) (set ys i (Out Blank (store_of t)))) same
        (renew_gone v.0 (begun d (sym r) (subst (λ v. image_in v (λ c. c.blocks) t.content ≡ None) (sym sh) (none-image s.shape t.content m.1)) (blank-still t.blank t.content z m.0)) (only-plug (Out Blank (store_of s)) (Out Blank (store_of t)) v.1))

-- the other disks that are out stay where they are
pub left-out : {told : Bool} {g n faults : ℕ} {xs ys : List Seat} {before : Stored} {o : Option StoreFault} {left : Option Content} → LeftUnmade told g n xs ys before o left faults → (i : ℕ) (b : Why) (s : machine.Store) → Nth i xs (Out b s) → Nth i ys (Out b s)
left-out (left_blank j l lt m) i b s k = (fills-out b s l k).1
left-out (left_whole l lt w) i b s k = (fills-out b s l k).1
left-out (left_gone l m) i b s k = (fills-out b s l k).1

pub made-out : {told : Bool} {g n : ℕ} {xs ys : List Seat} {before : Stored} {d : Disk} → MadeDisk told g n xs ys before d → (i : ℕ) (b : Why) (s : machine.Store) → Nth i xs (Out b s) → Nth i ys (Out b s)
made-out h i b s k = (fills-out b s h.fills k).1

-- what no call changes
pub there-told : (there b : Bool) → there ≡ true → (not there || b) ≡ true → b ≡ true
there-told true b e h = h
there-told false b e h = cc

abbrev besides : ℕ → ImageShape → Bool → Bool → ℕ → Beside
besides disk shape there told opened = record { disk = disk; shape = shape; there = there; told = told; opened = opened }

shut-told : (there b : Bool) → there ≡ true → b ≡ (not there || b)
shut-told true b e = refl
shut-told false b e = cc

pub made-beside : {told : Bool} {g n : ℕ} {xs ys : List Seat} (s : ShutSeen) (d : Disk) → s.there ≡ true → s.opened ≡ s.faults → MadeDisk told g n xs ys (stored s) d → beside_of d ≡ beside_of_shut s
made-beside s d t o h =
    ap (λ v. besides v d.shape true (is_some (kept_on d)) d.opened) h.disk
    ∙ ap (λ v. besides s.disk v true (is_some (kept_on d)) d.opened) h.shape
    ∙ ap (λ v. besides s.disk s.shape v (is_some (kept_on d)) d.opened) (sym t)
    ∙ ap (λ v. besides s.disk s.shape s.there v d.opened) (told-kept d ∙ h.tells ∙ shut-told s.there (is_some s.content) t)
    ∙ ap (λ v. besides s.disk s.shape s.there (not s.there || is_some s.content) v) (h.opened ∙ sym o)

pub left-beside : (s t u : ShutSeen) → t ≡ u → u.disk ≡ s.disk → u.shape ≡ s.shape → u.there ≡ s.there → u.opened ≡ s.opened → is_some u.content ≡ is_some s.content → beside_of_shut t ≡ beside_of_shut s
left-beside s t u e a b c o d =
    ap beside_of_shut e
    ∙ ap (λ v. besides v u.shape u.there (not u.there || is_some u.content) u.opened) a
    ∙ ap (λ v. besides s.disk v u.there (not u.there || is_some u.content) u.opened) b
    ∙ ap (λ v. besides s.disk s.shape v (not v || is_some u.content) u.opened) c
    ∙ ap (λ v. besides s.disk s.shape s.there (not s.there || v) u.opened) d
    ∙ ap (λ v. besides s.disk s.shape s.there (not s.there || is_some s.content) v) o

-- one disk, and then those after it
pub renews-more : {told : Bool} {g n i m : ℕ} {s : Says} {xs ys zs : List Seat} → Renews told g n i 1 xs (Done true) ys → Renews told g n (i + 1) m ys s zs → Renews told g n i (suc m) xs s zs
renews-more (renew_next h p renew_end) k = renew_next h p k
renews-more (renew_made f m o renew_end) k = renew_made f m o k
renews-more (renew_left l f m o renew_end) k = renew_left l f m o k

pub renews-first : {told : Bool} {g n i m d e : ℕ} {xs ys : List Seat} → Renews told g n i 1 xs (Fault d e) ys → Renews told g n i (suc m) xs (Fault d e) ys
renews-first (renew_next h p k) = elim k [ ]
renews-first (renew_made f m o k) = elim k [ ]
renews-first (renew_left l f m o k) = elim k [ ]
renews-first (renew_gone f b o) = renew_gone f b o

pub renews-live : {told : Bool} {g n i m : ℕ} {s : Says} {xs ys : List Seat} → Renews told g n i m xs s ys → Has IsLive xs → Has IsLive ys
renews-live renew_end l = l
renews-live (renew_next h p r) l = renews-live r l
renews-live (renew_made f m o k) l = renews-live k (blank-live o (fills-live f l))
renews-live (renew_left j f m o k) l = renews-live k (blank-live o (fills-live f l))
renews-live (renew_gone f b o) l = blank-live o (fills-live f l)

-- a leaf is taken out, it may be made, and it is put back
live-plug : {i : ℕ} {b : Why} {t : machine.Store} (y : Seat) {xs : List Seat} → Nth i xs (Out b t) → Has IsLive xs → Has IsLive (set xs i y)
live-plug y nth_here (has_here h) = elim h [ ]
live-plug y nth_here (has_later h) = has_later h
live-plug y (nth_later k) (has_here h) = has_here h
live-plug y (nth_later k) (has_later h) = has_later (live-plug y k h)

pub blank-taken : {D H : Type 0} {p : ℕ} {spare leaf : Node D H} {s : machine.Store} (n m : Node D H) → Exchanged p spare leaf n m → first_seat leaf ≡ Out Blank s → is_live (tree_of n) ≡ true → is_live (tree_of m) ≡ true
blank-taken {p = p} {spare = spare} {s = s} n m x e l =
    let k : Nth p (seats (tree_of n)) (Out Blank s) = subst (λ v. Nth p (seats (tree_of n)) v) e x.seat in
    live-tree (tree_of m) (subst (λ v. Has IsLive v) (sym x.row) (live-plug (first_seat spare) k (live-seats (tree_of n) l)))

pub blank-room : {D H : Type 0} {p k : ℕ} {spare leaf m : Node D H} {s : machine.Store} (n : Node D H) → Exchanged p spare leaf n m → first_seat leaf ≡ Out Blank s → blanks (seats (tree_of n)) ≤ k → 1 ≤ k
blank-room {leaf = leaf} n x e l = let b = nth-blanks x.seat in let u : blanks (first_seat leaf ∷ []) ≡ 1 = ap (λ v. blanks (v ∷ [])) e in omega (arith, b, u, l)

pub visit-renews : {D H : Type 0} {p g pages : ℕ} {shape : ImageShape} {told : Bool} (r : Result (Unit {0}) StoreFault) (spare leaf leaf2 spare2 n m m2 k : Node D H) → Visit p shape spare leaf leaf2 spare2 n m m2 k
    → (LeafTells told (beside_in m) leaf → RenewsLeaf told g pages (seats (tree_of m)) (first_seat leaf) r (seats (tree_of m2)) (first_seat leaf2)) → (told ≡ true → all_told (beside_in n) ≡ true) → Renews told g pages p 1 (seats (tree_of n)) (answered r) (seats (tree_of k))
visit-renews {p = p} {g} {pages} {told = told} r spare leaf leaf2 spare2 n m m2 k v h t =
    let s = spare-at v.idle v.first in
    let e = h (visit-tells v t) p s.0 s.1 s.3 in
    subst (λ y. Renews told g pages p 1 (seats (tree_of n)) (answered r) y) (sym v.then.row)
    (subst (λ x. Renews told g pages p 1 x (answered r) (set (seats (tree_of m2)) p (first_seat leaf2))) (visit-row v) e)

-- a turn of the loop over the places
pub renew-ends : {told : Bool} {n g pages i m : ℕ} (r : Result (Unit {0}) StoreFault) (f : StoreFault) {xs ys : List Seat} → r ≡ Err f → n ≡ suc m → Renews told g pages i 1 xs (answered r) ys → Renews told g pages i n xs (Fault f.disk f.count) ys
renew-ends {told} {n} {g} {pages} {i} {m} r f {xs} {ys} e q h =
    subst (λ k. Renews told g pages i k xs (Fault f.disk f.count) ys) (sym q) (renews-first (subst (λ (x : Result (Unit {0}) StoreFault). Renews told g pages i 1 xs (answered x) ys) e h))

pub renew-goes : {told : Bool} {n g pages i m : ℕ} (r : Result (Unit {0}) StoreFault) (u : Unit {0}) {s : Says} {xs ys zs : List Seat} → r ≡ Ok u → n ≡ suc m → Renews told g pages i 1 xs (answered r) ys → Renews told g pages (i + 1) m ys s zs → Renews told g pages i n xs s zs
renew-goes {told} {n} {g} {pages} {i} {m} r u {s} {xs} {ys} {zs} e q h k =
    subst (λ t. Renews told g pages i t xs s zs) (sym q) (renews-more (subst (λ (x : Result (Unit {0}) StoreFault). Renews told g pages i 1 xs (answered x) ys) e h) k)

pub renews-none : {told : Bool} {n g pages i : ℕ} {xs : List Seat} → n ≡ 0 → Renews told g pages i n xs (Done true) xs
renews-none {told} {n} {g} {pages} {i} {xs} q = subst (λ t. Renews told g pages i t xs (Done true) xs) (sym q) renew_end

-- the memory for the makings
pub every-last : {A : Type 0} {P : A → Type 0} (xs : List A) {x : A} → Every P (xs ++ (x ∷ [])) → Every P xs × P x
every-last [] (every_more p h) = (every_none, p)
every-last (y ∷ xs) (every_more p h) = let r = every-last xs h in (every_more p r.0, r.1)

pub every-push : {A : Type 0} {P : A → Type 0} {xs : List A} {x : A} → Every P xs → P x → Every P (xs ++ (x ∷ []))
every-push every_none p = every_more p every_none
every-push (every_more q h) p = every_more q (every-push h p)

-- the same, as the code has them
pub began-as : {fresh shape : ImageShape} (disk : ℕ) (content : Option Content) (faults : ℕ) (m : Making) → fresh ≡ shape → Began (record { disk = disk; shape = fresh; content = content; faults = faults }) m → Began (record { disk = disk; shape = shape; content = content; faults = faults }) m
began-as disk content faults m e h = subst (λ (v : ImageShape). Began (record { disk = disk; shape = v; content = content; faults = faults }) m) e h

pub begun-unmade : {fresh shape : ImageShape} (a b : Option Content) → fresh ≡ shape → StaysBlank fresh a b → IsBlank a → IsUnmade shape b
begun-unmade a b e h z = (h.blank z, subst (λ v. IsNone v b) e (h.none z))

pub unbegun-by : {told : Bool} {g n faults : ℕ} {xs : List Seat} (before : Stored) (left : Option Content) (fresh : ImageShape) → fresh ≡ before.shape → StaysBlank fresh before.content left → IsBlank before.content → before.faults < faults → LeftUnmade told g n xs xs before None left faults
unbegun-by before left fresh e h z l = left_blank (omega arith) fill_end l (h.blank z, subst (λ v. IsNone v left) e (h.none z))

pub makes-as : (told v w : Bool) (n : ℕ) (xs : List Seat) (m : Making) (ys : List Seat) (k : Making) → v ≡ w → MakesPages told n xs m (Ok v) ys k → MakesPages told n xs m (Ok w) ys k
makes-as told v w n xs m ys k e h = subst (λ u. MakesPages told n xs m (Ok u) ys k) e h

pub can-at : {T : Type 0} (content : T → Option Content) (faults : T → ℕ) (bad : Option BadImage) (k : Bool) (opened : ℕ) (o : Option T) (t : T) → why_from bad k ≡ Blank → o ≡ Some t → CanRenew bad k opened content faults o → CanMake k opened (content t) (faults t)
can-at content faults None k opened o t e q h = cc
can-at content faults (Some b) k opened o t e q h = subst (λ v. CanRenew (Some b) k opened content faults v) q h

pub can-none : {T : Type 0} (content : T → Option Content) (faults : T → ℕ) (bad : Option BadImage) (k : Bool) (opened : ℕ) (t : T) → bad ≡ None → CanRenew bad k opened content faults (Some t)
can-none content faults bad k opened t e = subst (λ v. CanRenew v k opened content faults (Some t)) (sym e) tt

pub can-back : {T : Type 0} (content : T → Option Content) (faults : T → ℕ) (bad : Option BadImage) (k : Bool) (opened : ℕ) (t : T) → IsBlank (content t) → opened ≡ faults t → CanRenew bad k opened content faults (Some t)
can-back content faults None k opened t z e = tt
can-back content faults (Some b) k opened t z e = record { zeros = λ q. z; calm = e }

pub left-later : {told : Bool} {g n faults opened : ℕ} {xs ys : List Seat} {before : Stored} {o : Option StoreFault} {left : Option Content} → opened ≡ before.faults → LeftUnmade told g n xs ys before o left faults → opened ≤ faults
left-later e (left_blank j l lt m) = omega (arith, e)
left-later e (left_whole l lt w) = omega (arith, e)
left-later e (left_gone l m) = omega (arith, e)

pub left-gone-is : {told : Bool} {g n faults opened : ℕ} {xs ys : List Seat} {before : Stored} {o : Option StoreFault} {f : StoreFault} {left : Option Content} → opened ≡ before.faults → o ≡ Some f → LeftUnmade told g n xs ys before o left faults → IsBlank left × (opened ≡ faults)
left-gone-is e q (left_blank j l lt m) = cc
left-gone-is e q (left_whole l lt w) = cc
left-gone-is e q (left_gone l m) = (m.0, e)

pub made-taken : {T : Type 0} {told : Bool} {g n : ℕ} {xs ys : List Seat} (content : T → Option Content) (faults : T → ℕ) (s : ShutSeen) (disk : ℕ) (shape k : ImageShape) (bad : Option BadImage) (blank : Bool) (opened : ℕ) (o : Option T) (t : T) (d : Disk) → shut_seen content faults disk shape bad blank opened o ≡ s → o ≡ Some t → s.shape ≡ k
    → MadeDisk told g n xs ys (record { disk = disk; shape = k; content = content t; faults = faults t }) d → MadeDisk told g n xs ys (stored s) d
made-taken {told = told} {g = g} {n = n} {xs = xs} {ys = ys} content faults s disk shape k bad blank opened o t d view q e h =
    let same : k ≡ shape = sym (ap (λ (v : ShutSeen). v.shape) view ∙ e) in
    let a : MadeDisk told g n xs ys (stored (shut_seen content faults disk shape bad blank opened (Some t))) d = subst (λ (v : ImageShape). MadeDisk told g n xs ys (record { disk = disk; shape = v; content = content t; faults = faults t }) d) same h in
    subst (λ v. MadeDisk told g n xs ys (stored v) d) view (subst (λ v. MadeDisk told g n xs ys (stored (shut_seen content faults disk shape bad blank opened v)) d) (sym q) a)

pub many-both : {E : Type 0} (r : Result (Unit {0}) E) (a b c : ℕ) (xs ys : List Seat) → b ≡ a + blanks xs → OnOk r (c ≡ b + blanks ys) → OnOk r (c ≡ a + blanks (xs ++ ys))
many-both (Ok u) a b c xs ys e h = omega (arith, e, h, blanks_append xs ys)
many-both (Err f) a b c xs ys e h = tt

pub shut-as : (told : Bool) (g n : ℕ) (xs : List Seat) (s : ShutSeen) (ys : List Seat) (t : ShutSeen) {v w : Option Disk} → v ≡ w → RenewsShut told g n xs s (Ok v) ys t → RenewsShut told g n xs s (Ok w) ys t
shut-as told g n xs s ys t e h = subst (λ (u : Option Disk). RenewsShut told g n xs s (Ok u) ys t) e h

-- a leaf as the code has it
why-at : (s k : ShutSeen) (t : Bool) → k ≡ s → (t ≡ true → why_of k ≡ Blank) → t ≡ true → why_of s ≡ Blank
why-at s k t e f q = subst (λ v. why_of v ≡ Blank) e (f q)

pub blank-seat : (s k : ShutSeen) (t : Bool) → k ≡ s → (t ≡ true → why_of k ≡ Blank) → t ≡ true → Out (why_of s) (store_of s) ≡ Out Blank (store_of s)
blank-seat s k t e f q = ap (λ v. Out v (store_of s)) (why-at s k t e f q)

pub other-at : {told : Bool} {g n i : ℕ} {b : Why} {u : machine.Store} (s k : ShutSeen) (t : Bool) {xs : List Seat} → k ≡ s → (t ≡ false → why_of k ≡ Blank → ⊥) → t ≡ false → Nth i xs (Out b u)
    → Renews told g n i 1 (set xs i (Out (why_of s) (store_of s))) (Done true) (set xs i (Out (why_of s) (store_of s)))
other-at s k t e f q h = stays (Out (why_of s) (store_of s)) (other-filled (why_of s) (store_of s) (subst (λ v. why_of v ≡ Blank → ⊥) e (f q))) h

tells-at : {told : Bool} {A : Type 0} (s k : ShutSeen) → k ≡ s → k.there ≡ true → (told ≡ true → A × ((beside_of_shut s).told ≡ true)) → told ≡ true → is_some s.content ≡ true
tells-at s k e t h q = there-told s.there (is_some s.content) (subst (λ (v : ShutSeen). v.there ≡ true) e t) (h q).1

pub gone-at : {told : Bool} {g n i : ℕ} {b : Why} {u : machine.Store} {f : StoreFault} (s k t : ShutSeen) (o : Bool) (xs ys : List Seat) → k ≡ s → (o ≡ true → why_of k ≡ Blank) → o ≡ true → RenewsShut told g n xs k (Err f) ys t → Nth i xs (Out b u)
    → Renews told g n i 1 (set xs i (Out (why_of s) (store_of s))) (Fault f.disk f.count) (set ys i (Out (why_of t) (store_of t)))
gone-at {told} {g} {n} {f = f} s k t o xs ys e w q h l = renewed-gone s t {xs = xs} {ys = ys} (why-at s k o e w q) (subst (λ v. RenewsShut told g n xs v (Err f) ys t) e h) l

pub left-at : {told : Bool} {A : Type 0} {g n i : ℕ} {b : Why} {u : machine.Store} (s k t : ShutSeen) (o : Bool) (xs ys : List Seat) → k ≡ s → (o ≡ true → why_of k ≡ Blank) → o ≡ true → k.there ≡ true → (told ≡ true → A × ((beside_of_shut s).told ≡ true)) → RenewsShut told g n xs k (Ok None) ys t → Nth i xs (Out b u)
    → Renews told g n i 1 (set xs i (Out (why_of s) (store_of s))) (Done true) (set ys i (Out (why_of t) (store_of t)))
left-at {told} {A} {g} {n} s k t o xs ys e w q r m h l = renewed-left s t {xs = xs} {ys = ys} (why-at s k o e w q) (tells-at {A = A} s k e r m) (subst (λ v. RenewsShut told g n xs v (Ok None) ys t) e h) l

pub made-at : {told : Bool} {A : Type 0} {g n i : ℕ} {b : Why} {u : machine.Store} (s k : ShutSeen) (d : Disk) (o : Bool) (xs ys : List Seat) → k ≡ s → (o ≡ true → why_of k ≡ Blank) → o ≡ true → k.there ≡ true → (told ≡ true → A × ((beside_of_shut s).told ≡ true)) → MadeDisk told g n xs ys (stored k) d → Nth i xs (Out b u)
    → Renews told g n i 1 (set xs i (Out (why_of s) (store_of s))) (Done true) (set ys i (In true (cell_of d)))
made-at {told} {A} {g} {n} s k d o xs ys e w q r m h l = renewed-made s d {xs = xs} {ys = ys} (why-at s k o e w q) (tells-at {A = A} s k e r m) (subst (λ v. MadeDisk told g n xs ys (stored v) d) e h) l

pub own-gone : (s k t : ShutSeen) → k ≡ s → t ≡ record k { content = t.content; faults = t.faults } → is_some t.content ≡ is_some k.content → beside_of_shut t ≡ beside_of_shut s
own-gone s k t e h q = subst (λ v. beside_of_shut t ≡ beside_of_shut v) e (left-beside k t (record k { content = t.content; faults = t.faults }) h refl refl refl refl q)

pub own-left : (s k t : ShutSeen) → k ≡ s → t ≡ record k { bad = None; content = t.content; faults = t.faults } → is_some t.content ≡ is_some k.content → beside_of_shut t ≡ beside_of_shut s
own-left s k t e h q = subst (λ v. beside_of_shut t ≡ beside_of_shut v) e (left-beside k t (record k { bad = None; content = t.content; faults = t.faults }) h refl refl refl refl q)

pub own-made : {told : Bool} {g n : ℕ} {xs ys : List Seat} (s k : ShutSeen) (d : Disk) → k ≡ s → k.there ≡ true → k.opened ≡ k.faults → MadeDisk told g n xs ys (stored k) d → beside_of d ≡ beside_of_shut s
own-made s k d e t o h = subst (λ v. beside_of d ≡ beside_of_shut v) e (made-beside k d t o h)

pub room-after : {D H : Type 0} {told : Bool} {g n p : ℕ} {xs ys : List Seat} (old new : ℕ) (r : Result (Unit {0}) StoreFault) (leaf : Node D H) → IsLeaf leaf → Renews told g n p 1 xs (answered r) ys → Nth p xs (first_seat leaf) → blanks xs ≤ old → old ≤ blanks (seats (tree_of leaf)) + new → OnOk r (blanks ys ≤ new)
room-after old new (Ok u) leaf one h k l m = let b = renews-blanks h k in let q : blanks (seats (tree_of leaf)) ≡ blanks (first_seat leaf ∷ []) = ap blanks (leaf-row leaf one) in omega (arith, b, q, l, m)
room-after old new (Err f) leaf one h k l m = tt

pub last-taken : {shape : ImageShape} (old new : List ImageShape) (x : ImageShape) → old ≡ new ++ (x ∷ []) → Every (λ (f : ImageShape). f ≡ shape) old → Every (λ (f : ImageShape). f ≡ shape) new × (x ≡ shape)
last-taken {shape} old new x e h = every-last new (subst (λ v. Every (λ (f : ImageShape). f ≡ shape) v) e h)
