-- The stores that a ground gives back, over plain variables.
use Rattle.std.proofs.Common.{◌≡◌, ◌≢◌, ℕ, zero, suc, ◌+◌, ◌<◌, ◌≤◌, Bool, true, false, List, [], ◌∷◌, ◌++◌, length, get_or, map, take, Option, Some, None, refl, sym, ap, ◌∙◌, subst, arith}
use Rattle.std.specs.Prelude.{is_some}
use Rattle.std.proofs.lemmas.Grind.{common_steps}
use Rattle.std.proofs.lemmas.List.{length-map}
use Rattle.std.specs.Option.{option_map}
use Rattle.spr_io.specs.Content.{Content}
use Rattle.disk_format.specs.declared.shape.ImageShape.{ImageShape}
use Rattle.disk_format.specs.declared.why.BadImage.{BadImage}
use Rattle.page_ground.specs.Seen.{Imaged}
use Rattle.disk_format.specs.Image.{image}
use Rattle.disk_layer.specs.Disk.{Disk, HasImage, kept_on}
use Rattle.mirror_rules.specs.Tree.{Cell, Seat, In, Out, closed}
use Rattle.mirror_rules.specs.Tree as machine
use Rattle.mirror_rules.specs.Claims.{Pairs, pairs_none, pairs_more, Every, every_none, every_more, Has, has_here, has_later, Nth, nth_here, nth_later}
use Rattle.mirror_rules.specs.Guards.{Direct, Leaves, leaves, leaves_none, shows_now, shows_out}
use Rattle.mirror_rules.specs.Fates.{faults_of}
use Rattle.mirror_rules.proofs.RoundLaws.{pairs-append}
use Rattle.mirror_layer.specs.declared.node.Mark.{Mark}
use Rattle.mirror_layer.specs.declared.node.Mark.TheVariants as mark
use Rattle.mirror_layer.specs.Shut.{ShutSeen, content_in, faults_in}
use Rattle.mirror_layer.specs.View.{Beside, as_image, cell_of, seat_of, store_of, beside_of, beside_of_shut, why_from, why_of}
use Rattle.mirror_layer.specs.Ground.{Differ}
use Rattle.mirror_layer.specs.Stores.{Finds, kept_of, Shuts, shuts, Stored, stored, Left, left, GivesBack, Numbered}

-- a closed disk, as the machine sees its store
abbrev pub shut_cell : Cell → machine.Store
shut_cell c = record { disk = c.disk; image = Some c.now; kept = c.kept; blank = false; faults = c.faults }

pub finds : (d : Disk) (c : Option Content) → HasImage (record d { content = c }) → Finds d.shape d.disk c d.faults (shut_cell (cell_of (record d { content = c })))
finds d None h = record { number = refl; count = refl; now = tt; last = tt; zeros = tt }
finds d (Some c) h = record { number = refl; count = refl; now = sym (ap (λ v. option_map {T = Imaged} as_image v) h); last = refl; zeros = λ e. cc }

leaves-cell : (m : Mark) (c : Cell) → Leaves Direct (seat_of m c) (shut_cell c)
leaves-cell mark.Live c = leaves shows_now refl
leaves-cell mark.Left c = leaves shows_now refl
leaves-cell mark.Down c = leaves (shows_out refl) refl

faults-cell : (m : Mark) (c : Cell) → c.faults ≡ faults_of (seat_of m c)
faults-cell mark.Live c = refl
faults-cell mark.Left c = refl
faults-cell mark.Down c = refl

kept-cell : (m : Mark) (c : Cell) → c.kept ≡ kept_of (seat_of m c)
kept-cell mark.Live c = refl
kept-cell mark.Left c = refl
kept-cell mark.Down c = refl

pub some-mapped : {A B : Type 0} (f : A → B) (o : Option A) → is_some (option_map f o) ≡ is_some o
some-mapped f None = refl
some-mapped f (Some x) = refl

-- a disk tells what it keeps if its store tells what it holds
pub told-kept : (d : Disk) → is_some (kept_on d) ≡ is_some d.content
told-kept d = some-mapped {A = Content} {B = Option Imaged} (λ c. image d.shape c.kept) d.content

shut-opened : {T : Type 0} (content : T → Option Content) (faults : T → ℕ) (m : Mark) (d : Disk) (t : T) (places : List (Option T)) → content t ≡ d.content → faults t ≡ d.faults → HasImage d → d.opened ≤ d.faults → get_or places d.disk None ≡ Some t
    → Pairs (Shuts content faults places) (beside_of d ∷ []) (seat_of m (cell_of d) ∷ [])
shut-opened content faults m d t places e f h l p =
    let a : Finds d.shape d.disk d.content d.faults (shut_cell (cell_of d)) = finds d d.content h in
    let b : Finds d.shape d.disk (content t) d.faults (shut_cell (cell_of d)) = subst (λ v. Finds d.shape d.disk v d.faults (shut_cell (cell_of d))) (sym e) a in
    let k : Finds d.shape d.disk (content t) (faults t) (shut_cell (cell_of d)) = subst (λ v. Finds d.shape d.disk (content t) v (shut_cell (cell_of d))) (sym f) b in
    pairs_more (shuts p k (leaves-cell m (cell_of d)) (faults-cell m (cell_of d)) (kept-cell m (cell_of d)) (ap is_some e ∙ sym (told-kept d)) (subst (λ v. d.opened ≤ v) (sym f) l)) pairs_none

-- a disk that was not opened
abbrev pub shut_seen : {T : Type 0} (content : T → Option Content) (faults : T → ℕ) → ℕ → ImageShape → Option BadImage → Bool → ℕ → Option T → ShutSeen
shut_seen content faults disk shape bad blank opened o = record { disk = disk; shape = shape; there = is_some o; bad = bad; blank = blank; content = content_in content o; faults = faults_in faults o; opened = opened }

pub finds-shut : (shape : ImageShape) (disk : ℕ) (bad : Option BadImage) (blank there : Bool) (opened n : ℕ) (c : Option Content) → Finds shape disk c n (store_of (record { disk = disk; shape = shape; there = there; bad = bad; blank = blank; content = c; faults = n; opened = opened }))
finds-shut shape disk bad blank there opened n None = record { number = refl; count = refl; now = tt; last = tt; zeros = tt }
finds-shut shape disk bad blank there opened n (Some c) = record { number = refl; count = refl; now = refl; last = refl; zeros = λ e. refl }

leaves-shut : (b : machine.Why) (s : machine.Store) (i : Option machine.Image) → s.image ≡ i → Leaves Direct (Out b s) s
leaves-shut b s None e = leaves_none e e
leaves-shut b s (Some i) e = leaves (shows_out e) e

shut-there : {T : Type 0} (content : T → Option Content) (faults : T → ℕ) (disk : ℕ) (shape : ImageShape) (bad : Option BadImage) (blank : Bool) (opened : ℕ) (o : Option T) (places : List (Option T)) → is_some o ≡ true → opened ≤ faults_in faults o → get_or places disk None ≡ o
    → Pairs (Shuts content faults places) (beside_of_shut (shut_seen content faults disk shape bad blank opened o) ∷ []) (Out (why_from bad blank) (store_of (shut_seen content faults disk shape bad blank opened o)) ∷ [])
shut-there content faults disk shape bad blank opened None places e l p = cc
shut-there content faults disk shape bad blank opened (Some t) places e l p =
    let h : ShutSeen = shut_seen content faults disk shape bad blank opened (Some t) in
    pairs_more (shuts p (finds-shut shape disk bad blank true opened (faults t) (content t)) (leaves-shut (why_from bad blank) (store_of h) (store_of h).image refl) refl refl refl l) pairs_none

pub shut-shut : {T : Type 0} (content : T → Option Content) (faults : T → ℕ) (h : ShutSeen) (disk : ℕ) (shape : ImageShape) (bad : Option BadImage) (blank : Bool) (opened : ℕ) (o : Option T) (places : List (Option T)) → shut_seen content faults disk shape bad blank opened o ≡ h → h.there ≡ true
    → h.opened ≤ h.faults → get_or places disk None ≡ o → Pairs (Shuts content faults places) (beside_of_shut h ∷ []) (Out (why_of h) (store_of h) ∷ [])
shut-shut content faults h disk shape bad blank opened o places e t l p =
    subst (λ (v : ShutSeen). Pairs (Shuts content faults places) (beside_of_shut v ∷ []) (Out (why_of v) (store_of v) ∷ [])) e
    (shut-there content faults disk shape bad blank opened o places (ap (λ (v : ShutSeen). v.there) e ∙ t) (subst (λ (v : ShutSeen). v.opened ≤ v.faults) (sym e) l) p)

-- two sides
pub every_left : {A : Type 0} {P : A → Type 0} (xs ys : List A) → Every P (xs ++ ys) → Every P xs
every_left [] ys h = every_none
every_left (x ∷ xs) ys (every_more h i) = every_more h (every_left xs ys i)

pub every_right : {A : Type 0} {P : A → Type 0} (xs ys : List A) → Every P (xs ++ ys) → Every P ys
every_right [] ys h = h
every_right (x ∷ xs) ys (every_more h i) = every_right xs ys i

pub every_both : {A : Type 0} {P : A → Type 0} (xs ys : List A) → Every P xs → Every P ys → Every P (xs ++ ys)
every_both [] ys every_none k = k
every_both (x ∷ xs) ys (every_more h i) k = every_more h (every_both xs ys i k)

pub every-first : {A : Type 0} {P : A → Type 0} {x : A} {xs : List A} → Every P (x ∷ xs) → P x
every-first (every_more h i) = h

pub differ_left : (xs ys : List Beside) → Differ (xs ++ ys) → Differ xs
differ_left [] ys h = tt
differ_left (x ∷ xs) ys h = (every_left xs ys h.0, differ_left xs ys h.1)

pub differ_right : (xs ys : List Beside) → Differ (xs ++ ys) → Differ ys
differ_right [] ys h = h
differ_right (x ∷ xs) ys h = differ_right xs ys h.1

-- the numbers of one side are not those of the other
abbrev pub Apart : List Beside → List Beside → Type 0
Apart ys xs = Every (λ (b : Beside). Every (λ (x : Beside). x.disk ≢ b.disk) ys) xs

pub apart : (xs ys : List Beside) → Differ (xs ++ ys) → Apart ys xs
apart [] ys h = every_none
apart (x ∷ xs) ys h = every_more (every_right xs ys h.0) (apart xs ys h.1)

shuts-still : {T : Type 0} {content : T → Option Content} {faults : T → ℕ} {places after : List (Option T)} (ys : List Beside) → ((d : ℕ) → Every (λ (b : Beside). b.disk ≢ d) ys → get_or after d None ≡ get_or places d None)
    → {bs : List Beside} {xs : List Seat} → Apart ys bs → Pairs (Shuts content faults places) bs xs → Pairs (Shuts content faults after) bs xs
shuts-still ys k every_none pairs_none = pairs_none
shuts-still ys k (every_more {x = b} a as') (pairs_more (shuts p f l c kept told since) h) = pairs_more (shuts (k b.disk a ∙ p) f l c kept told since) (shuts-still ys k as' h)

pub shut-both : {T : Type 0} {content : T → Option Content} {faults : T → ℕ} {places after : List (Option T)} (bs cs : List Beside) {xs ys : List Seat} → Differ (bs ++ cs) → ((d : ℕ) → Every (λ (b : Beside). b.disk ≢ d) cs → get_or after d None ≡ get_or places d None)
    → Pairs (Shuts content faults places) bs xs → Pairs (Shuts content faults after) cs ys → Pairs (Shuts content faults after) (bs ++ cs) (xs ++ ys)
shut-both bs cs d k h i = pairs-append (shuts-still cs k (apart bs cs d) h) i

-- at a leaf
pub shut-held : {T : Type 0} (content : T → Option Content) (faults : T → ℕ) (m : Mark) (d h : Disk) (t : T) (n : ℕ) (places : List (Option T)) → d ≡ h → n ≡ d.disk → content t ≡ d.content → faults t ≡ d.faults → HasImage d → d.opened ≤ d.faults → get_or places n None ≡ Some t
    → Pairs (Shuts content faults places) (beside_of h ∷ []) (seat_of m (cell_of h) ∷ [])
shut-held content faults m d h t n places v q e f i l p =
    subst (λ (k : Disk). Pairs (Shuts content faults places) (beside_of k ∷ []) (seat_of m (cell_of k) ∷ [])) v
    (shut-opened content faults m d t places e f i l (subst (λ k. get_or places k None ≡ Some t) q p))

pub other-number : (n m d : ℕ) → n ≡ m → m ≢ d → d ≢ n
other-number n m d e h q = h (sym (q ∙ e))

pub others-both : (xs ys : List Beside) (d : ℕ) {T : Type 0} {a b c : T} → Every (λ (x : Beside). x.disk ≢ d) (xs ++ ys) → (Every (λ (x : Beside). x.disk ≢ d) xs → b ≡ a) → (Every (λ (x : Beside). x.disk ≢ d) ys → c ≡ b) → c ≡ a
others-both xs ys d h f g = g (every_right xs ys h) ∙ f (every_left xs ys h)

-- a list of stores that grows from places
pub every-at : {A : Type 0} {P : A → Type 0} (xs : List A) (k : ℕ) (x : A) → Every P xs → k < length xs → P (get_or xs k x)
every-at [] k x every_none l = absurd (omega arith)
every-at (y ∷ ys) zero x (every_more h i) l = h
every-at (y ∷ ys) (suc k) x (every_more h i) l = every-at ys k x i (omega arith)

pub or-any : {A : Type 0} (xs : List A) (k : ℕ) (x y : A) → k < length xs → get_or xs k x ≡ get_or xs k y
or-any [] k x y l = absurd (omega arith)
or-any (z ∷ zs) zero x y l = refl
or-any (z ∷ zs) (suc k) x y l = or-any zs k x y (omega arith)

pub taken-more : {T : Type 0} (stores : List T) (store : T) (xs : List (Option T)) (k : ℕ) → map (λ s. Some s) stores ≡ take k xs → k < length xs → get_or xs k None ≡ Some store → map (λ s. Some s) (stores ++ store ∷ []) ≡ take (k + 1) xs
taken-more stores store xs k e l h = grind (arith, common_steps)

-- each place has a store
shut-at : {T : Type 0} {content : T → Option Content} {faults : T → ℕ} {places : List (Option T)} (n : ℕ) {bs : List Beside} {xs : List Seat} → Pairs (Shuts content faults places) bs xs → Has (λ (b : Beside). b.disk ≡ n) bs → (t : T) × (get_or places n None ≡ Some t)
shut-at n pairs_none h = elim h [ ]
shut-at {places = places} n (pairs_more (shuts {t = t} p f l c kept told since) i) (has_here e) = (t, subst (λ k. get_or places k None ≡ Some t) e p)
shut-at n (pairs_more h i) (has_later k) = shut-at n i k

every-of : {A : Type 0} {P : A → Type 0} (x : A) (xs : List A) → ((k : ℕ) → k < length xs → P (get_or xs k x)) → Every P xs
every-of x [] f = every_none
every-of x (y ∷ ys) f = every_more (f 0 (omega arith)) (every-of x ys (λ k l. f (suc k) (omega arith)))

some-not : {A : Type 0} (o : Option A) (x : A) → o ≡ Some x → o ≢ None
some-not o x e n = let q = sym n ∙ e in cc

pub all-there : {T : Type 0} {content : T → Option Content} {faults : T → ℕ} (places : List (Option T)) {bs : List Beside} {xs : List Seat} → Pairs (Shuts content faults places) bs xs → ((n : ℕ) → n < length bs → Has (λ (b : Beside). b.disk ≡ n) bs) → length places ≡ length bs
    → Every (λ p. p ≢ None) places
all-there places h e n = every-of None places (λ k l. let a = shut-at k h (e k (omega (arith, n))) in some-not (get_or places k None) a.0 a.1)

some-same : {T : Type 0} (x y : T) → Some x ≡ Some y → x ≡ y
some-same x y q = cc

pub nth-some : {T : Type 0} (stores : List T) (n : ℕ) (t : T) → get_or (map (λ s. Some s) stores) n None ≡ Some t → Nth n stores t
nth-some [] n t q = cc
nth-some (s ∷ ss) zero t q = subst (λ v. Nth zero (s ∷ ss) v) (some-same s t q) nth_here
nth-some (s ∷ ss) (suc n) t q = nth_later (nth-some ss n t q)

nth-of : {T : Type 0} (stores : List T) (places : List (Option T)) (n : ℕ) (t : T) → map (λ s. Some s) stores ≡ places → get_or places n None ≡ Some t → Nth n stores t
nth-of stores places n t e p = nth-some stores n t (subst (λ v. get_or v n None ≡ Some t) (sym e) p)

backs : {T : Type 0} {content : T → Option Content} {faults : T → ℕ} (stores : List T) (places : List (Option T)) → map (λ s. Some s) stores ≡ places → {bs : List Beside} {xs : List Seat} → Pairs (Shuts content faults places) bs xs
    → (ss : List machine.Store) × Pairs (Stored content faults stores) bs ss × Pairs Left xs ss
backs stores places e pairs_none = ([], pairs_none, pairs_none)
backs stores places e (pairs_more {x = b} (shuts {t = t} {s = s} p f l c kept told since) h) = let r = backs stores places e h in (s ∷ r.0, pairs_more (stored (nth-of stores places b.disk t e p) f told since) r.1, pairs_more (left l c kept) r.2)

pub gives-back : {T : Type 0} {content : T → Option Content} {faults : T → ℕ} (stores : List T) (places : List (Option T)) {bs : List Beside} {xs : List Seat} → map (λ s. Some s) stores ≡ places → length places ≡ length bs
    → Pairs (Shuts content faults places) bs xs → GivesBack content faults bs xs stores
gives-back stores places e n h =
    let r = backs stores places e h in
    record { many = sym (length-map stores (λ s. Some s)) ∙ ap length e ∙ n; seen = r.0; stored = r.1; left = r.2 }

pub places-below : {bs : List Beside} {T : Type 0} (places : List (Option T)) → length places ≡ length bs → Numbered bs → Every (λ (b : Beside). b.disk < length places) bs
places-below {bs} places e n = subst (λ k. Every (λ (b : Beside). b.disk < k) bs) (sym e) n.below
