-- A tree whose disks have their stores, over plain variables.
use Rattle.std.proofs.Common.{◌≡◌, ◌≢◌, ℕ, zero, suc, ◌<◌, ◌≤◌, Bool, true, List, [], ◌∷◌, length, map, Option, Some, Ok, Err, refl, sym, ap, ◌∙◌, subst, arith}
use Rattle.std.specs.Prelude.{◌||◌, ltb}
use Rattle.std.specs.List.Sorted.{IsPermutation}
use Rattle.spr_io.specs.Content.{Content}
use Rattle.disk_format.specs.declared.shape.ImageShape.{ImageShape}
use Rattle.disk_format.specs.declared.why.BadImage as images
use Rattle.disk_layer.specs.Disk.{Suits}
use Rattle.stack_accept.specs.Plan.{Plan, disks_in, numbers_below}
use Rattle.mirror_rules.specs.Tree.{Seat, seats, is_live, owes, limit}
use Rattle.mirror_rules.proofs.RoundLaws.{live-seats}
use Rattle.mirror_rules.specs.Tree as machine
use Rattle.mirror_rules.specs.Claims.{Every, every_none, every_more, Has, has_here, has_later, Pairs, pairs_none, pairs_more, Nth}
use Rattle.mirror_layer.specs.Shut.{ShutSeen}
use Rattle.mirror_layer.specs.declared.node.Node.{Node}
use Rattle.mirror_layer.specs.declared.refuse.Refusal.{Refusal}
use Rattle.mirror_layer.specs.declared.refuse.Refusal.TheVariants as why
use Rattle.mirror_layer.specs.View.{Beside, beside_in, beside_of_shut, tree_of}
use Rattle.mirror_layer.specs.Calls.{all_told}
use Rattle.mirror_layer.specs.Ground.{Differ, Counted}
use Rattle.mirror_layer.specs.Stores.{Finds, Numbered, GivesBack}
use Rattle.mirror_layer.specs.Filling.{HasStore, has_store, Fills, fills, Apart}
use Rattle.mirror_layer.specs.Meeting.{IsNew, AllNew, Found, IsBadOf, Met, shuts_in}
use Rattle.mirror_layer.specs.declared.came.Notice.{Notice}
use Rattle.mirror_layer.specs.Coming.{AllCome}
use Rattle.mirror_layer.specs.Bringing.{Brought, brought, Lies, lies, Seen, IsReady, RefusedOver, refused, lacked, UnitedAs, IsFirstOf, IsBadStore, bad_store}
use Rattle.mirror_rules.specs.Opening.{Opens, Good, BadImage, Lost}
use Rattle.mirror_layer.proofs.CloseSteps.{nth-some}
use Rattle.mirror_layer.proofs.OpenSteps.{news}
use Rattle.mirror_layer.proofs.PlaceSteps.{row-length}
use Rattle.mirror_layer.proofs.EnterSteps.{told-every}
use Rattle.mirror_layer.proofs.SizeSteps.{sizes}
use Rattle.mirror_layer.proofs.LastSteps.{lasting, blames}
use Rattle.mirror_layer.proofs.NumberSteps.{numbers-apart, numbers-many, numbers-under, numbers-each}

-- the store of each number that is there
pub placed-stores : {T : Type 0} {size number : T → ℕ} {shape : ImageShape} (stores : List T) (ns : List ℕ) → Every (λ n. n < length stores) ns → Every (λ s. Suits shape (size s) (number s)) stores
    → Every (HasStore size number shape (map (λ s. Some s) stores)) ns
placed-stores stores [] every_none h = every_none
placed-stores {size = size} {number = number} {shape = shape} stores (n ∷ ns) (every_more l ls) h = every_more (one stores n l h) (placed-stores stores ns ls h)
  where
    one : {T : Type 0} {size number : T → ℕ} {shape : ImageShape} (stores : List T) (n : ℕ) → n < length stores → Every (λ s. Suits shape (size s) (number s)) stores → HasStore size number shape (map (λ s. Some s) stores) n
    one [] n l h = absurd (omega (arith, l))
    one (s ∷ stores) zero l (every_more p q) = has_store {t = s} refl p
    one (s ∷ stores) (suc n) l (every_more p q) = elim (one stores n (omega (arith, l)) q) [ has_store {t} e f ↦ has_store {t = t} e f ]

-- what the machine sees of them
pub brought-all : {T : Type 0} {content : T → Option Content} {faults : T → ℕ} {shape : ImageShape} {stores : List T} {ns : List ℕ} {ss : List ShutSeen} {ts : List machine.Store}
    → Pairs (Fills content faults shape (map (λ s. Some s) stores)) ns ss → Pairs Found ss ts → Pairs (Brought content faults shape stores) ns ts
brought-all pairs_none pairs_none = pairs_none
brought-all {content = content} {faults = faults} {shape = shape} {stores = stores} (pairs_more {x = n} {y = s} (fills {t} e d h c f) fs) (pairs_more {y = u} g gs) =
    pairs_more (brought {t = t} (nth-some stores n t e) (subst (λ v. Finds shape n (content t) v u) f (subst (λ v. Finds shape n v s.faults u) c (subst (λ v. Finds shape v s.content s.faults u) d (subst (λ v. Finds v s.disk s.content s.faults u) h g))))) (brought-all fs gs)

pub lies-all : {T : Type 0} {content : T → Option Content} {faults : T → ℕ} {shape : ImageShape} {stores : List T} {ns : List ℕ} {ss : List ShutSeen}
    → Pairs (Fills content faults shape (map (λ s. Some s) stores)) ns ss → Every IsNew ss → Pairs (Lies content faults shape stores) ns (map beside_of_shut ss)
lies-all pairs_none every_none = pairs_none
lies-all {stores = stores} (pairs_more {x = n} {y = s} (fills {t} e d h c f) fs) (every_more w ws) =
    pairs_more (lies {t = t} (nth-some stores n t e) (rw (d, h, c, w.there, w.taken ∙ f) refl)) (lies-all fs ws)

-- what is said of each of them
pub lies-there : {T : Type 0} {content : T → Option Content} {faults : T → ℕ} {shape : ImageShape} {stores : List T} {ns : List ℕ} {bs : List Beside} → Pairs (Lies content faults shape stores) ns bs → Every (λ (b : Beside). b.there ≡ true) bs
lies-there pairs_none = every_none
lies-there (pairs_more (lies a e) h) = every_more (ap (λ (b : Beside). b.there) e) (lies-there h)

pub lies-shapes : {T : Type 0} {content : T → Option Content} {faults : T → ℕ} {shape : ImageShape} {stores : List T} {ns : List ℕ} {bs : List Beside} → Pairs (Lies content faults shape stores) ns bs → Every (λ (b : Beside). b.shape ≡ shape) bs
lies-shapes pairs_none = every_none
lies-shapes (pairs_more (lies a e) h) = every_more (ap (λ (b : Beside). b.shape) e) (lies-shapes h)

lies-differ : {T : Type 0} {content : T → Option Content} {faults : T → ℕ} {shape : ImageShape} {stores : List T} {ns : List ℕ} {bs : List Beside} → Pairs (Lies content faults shape stores) ns bs → Apart ns → Differ bs
lies-differ pairs_none a = tt
lies-differ (pairs_more {x = n} {y = b} (lies c e) h) a = (others b h (ap (λ (b : Beside). b.disk) e) a.0, lies-differ h a.1)
  where
    others : {T : Type 0} {content : T → Option Content} {faults : T → ℕ} {shape : ImageShape} {stores : List T} {n : ℕ} (b : Beside) {ns : List ℕ} {bs : List Beside} → Pairs (Lies content faults shape stores) ns bs → b.disk ≡ n
        → Every (λ m. m ≢ n) ns → Every (λ (x : Beside). x.disk ≢ b.disk) bs
    others b pairs_none q every_none = every_none
    others b (pairs_more (lies c e) h) q (every_more f g) = every_more (λ z. f (sym (ap (λ (v : Beside). v.disk) e) ∙ (z ∙ q))) (others b h q g)

lies-every : {T : Type 0} {content : T → Option Content} {faults : T → ℕ} {shape : ImageShape} {stores : List T} {P : ℕ → Type 0} {ns : List ℕ} {bs : List Beside} → Pairs (Lies content faults shape stores) ns bs → Every P ns → Every (λ (b : Beside). P b.disk) bs
lies-every pairs_none every_none = every_none
lies-every {P = P} (pairs_more (lies c e) h) (every_more f g) = every_more (subst P (sym (ap (λ (b : Beside). b.disk) e)) f) (lies-every h g)

lies-has : {T : Type 0} {content : T → Option Content} {faults : T → ℕ} {shape : ImageShape} {stores : List T} {d : ℕ} {ns : List ℕ} {bs : List Beside} → Pairs (Lies content faults shape stores) ns bs → Has (λ m. m ≡ d) ns → Has (λ (b : Beside). b.disk ≡ d) bs
lies-has pairs_none h = elim h [ ]
lies-has (pairs_more (lies c e) h) (has_here q) = has_here (ap (λ (b : Beside). b.disk) e ∙ q)
lies-has (pairs_more (lies c e) h) (has_later i) = has_later (lies-has h i)

lies-many : {T : Type 0} {content : T → Option Content} {faults : T → ℕ} {shape : ImageShape} {stores : List T} {ns : List ℕ} {bs : List Beside} → Pairs (Lies content faults shape stores) ns bs → length bs ≡ length ns
lies-many pairs_none = refl
lies-many (pairs_more a h) = ap suc (lies-many h)

-- the disks, if the plan has each once
pub record Ordered {T : Type 0} (stores : List T) (bs : List Beside) : Type 0 where
  pub differ : Differ bs
  pub numbered : Numbered bs
  pub many : length bs ≡ length stores

pub lies-ordered : {T : Type 0} {content : T → Option Content} {faults : T → ℕ} {shape : ImageShape} {stores : List T} {ns : List ℕ} {bs : List Beside} → Pairs (Lies content faults shape stores) ns bs → IsPermutation ns (numbers_below (length stores))
    → Ordered stores bs
lies-ordered {stores = stores} {ns = ns} {bs = bs} h p =
    let many : length bs ≡ length stores = lies-many h ∙ numbers-many ns (length stores) p in record {
      differ = lies-differ h (numbers-apart ns (length stores) p);
      numbered = record {
        below = lies-every {P = λ n. n < length bs} h (subst (λ k. Every (λ m. m < k) ns) (sym many) (numbers-under ns (length stores) p));
        each = λ n l. lies-has h (numbers-each ns (length stores) p n (omega (arith, l, many)));
      };
      many = many;
    }

-- a tree of a plan whose disks have just got these stores
pub record Filled {D H : Type 0} {T : Type 0} (content : T → Option Content) (faults : T → ℕ) (shape : ImageShape) (stores : List T) (plan : Plan) (n : Node D H) : Type 0 where
  pub new : AllNew n
  pub fills : Pairs (Fills content faults shape (map (λ s. Some s) stores)) (disks_in plan) (shuts_in n)
  pub lies : Pairs (Lies content faults shape stores) (disks_in plan) (beside_in n)
  pub ordered : Ordered stores (beside_in n)

pub filled : {D H : Type 0} {T : Type 0} {content : T → Option Content} {faults : T → ℕ} {shape : ImageShape} {stores : List T} (places : List (Option T)) (plan planned : Plan) (n : Node D H) → planned ≡ plan → places ≡ map (λ s. Some s) stores → AllNew n
    → Pairs (Fills content faults shape places) (disks_in planned) (shuts_in n) → IsPermutation (disks_in plan) (numbers_below (length stores)) → Filled content faults shape stores plan n
filled {content = content} {faults = faults} {shape = shape} {stores = stores} places plan planned n e q new f p =
    let x = news n new in
    let fs = subst (λ v. Pairs (Fills content faults shape v) (disks_in plan) (shuts_in n)) q (subst (λ v. Pairs (Fills content faults shape places) (disks_in v) (shuts_in n)) e f) in
    let ls = subst (λ bs. Pairs (Lies content faults shape stores) (disks_in plan) bs) (sym x.1) (lies-all fs x.0) in
    record { new = new; fills = fs; lies = ls; ordered = lies-ordered ls p }

-- what the machine sees of them
abbrev pub seen-by : {D H : Type 0} {T : Type 0} {content : T → Option Content} {faults : T → ℕ} {shape : ImageShape} {stores : List T} {plan : Plan} {n : Node D H} {xs : List Seat} → Filled content faults shape stores plan n → Met (shuts_in n) xs
    → Seen content faults shape stores plan (beside_in n)
seen-by {xs = xs} f m = record { stores_seen = m.seen; row = xs; brought = brought-all f.fills m.found; lies = f.lies; meets = m.meets }

-- how many disks there are, and whether a raise is owed
pub disks-row : {D H : Type 0} (n : Node D H) (disks : ℕ) → disks ≡ length (beside_in n) → disks ≡ length (seats (tree_of n))
disks-row n disks e = e ∙ sym (row-length n)

pub owes-by : {owed : Bool} {disks : ℕ} (us : List Seat) (g : ℕ) → disks ≡ length us → owed ≡ (ltb 1 disks || ltb 1 g) → owed ≡ owes us g
owes-by us g e o = o ∙ ap (λ n. ltb 1 n || ltb 1 g) e

-- an opening that went well
pub ready : {D H : Type 0} {T : Type 0} {content : T → Option Content} {faults : T → ℕ} {shape : ImageShape} {stores : List T} {plan : Plan} (n m : Node D H) (places : List (Option T)) (emptied : List T) (room : ℕ) (owed : Bool) (g : ℕ) (words came : List (Option Notice))
    → Filled content faults shape stores plan n → beside_in m ≡ beside_in n → UnitedAs (Ok g) shape (shuts_in n) (beside_in n) (seats (tree_of m)) came → owed ≡ owes (seats (tree_of m)) g → is_live (tree_of m) ≡ true → Pairs Counted (beside_in m) (seats (tree_of m)) → g ≤ limit
    → length places ≡ length stores → words ≡ came → length came ≡ length stores → emptied ≡ [] → length stores ≤ room → IsReady content faults shape stores plan (beside_in m) (seats (tree_of m)) owed g words places emptied room
ready {content = content} {faults = faults} {shape = shape} {stores = stores} {plan = plan} n m places emptied room owed g words came f same united due live counts within many is worded empty enough =
    let us = seats (tree_of m) in
    let goes = united.0 in
    let r : IsReady content faults shape stores plan (beside_in n) us owed g words places emptied room = record {
      seen = seen-by f goes.met;
      opens = subst (λ o. Opens (all_told (beside_in n)) shape.pages goes.row (Good o g) us) (sym due) goes.opens;
      live = live-seats (tree_of m) live;
      counts = subst (λ bs. Pairs Counted bs us) same counts;
      within = within;
      differ = f.ordered.differ;
      keeps = record { numbered = f.ordered.numbered; many = many ∙ sym f.ordered.many; empty = empty; enough = omega (arith, enough, f.ordered.many) };
      words_many = ap (λ v. length v) is ∙ (worded ∙ sym f.ordered.many);
      came = subst (λ v. AllCome (all_told (beside_in n)) shape.pages goes.row us v) (sym is) united.1;
    } in
    subst (λ bs. IsReady content faults shape stores plan bs us owed g words places emptied room) (sym same) r

-- why the blocks of the first disk's store are no image
bad-first : {T : Type 0} {content : T → Option Content} {faults : T → ℕ} {shape : ImageShape} {stores : List T} {disk : ℕ} {bad : images.BadImage} {ns : List ℕ} (s : ShutSeen) {ss : List ShutSeen}
    → Pairs (Fills content faults shape (map (λ s. Some s) stores)) ns (s ∷ ss) → s.disk ≡ disk → IsBadOf s.shape s.content bad → IsBadStore content shape stores disk bad
bad-first {content = content} {shape = shape} {stores = stores} {disk = disk} {bad = bad} s (pairs_more {x = n} (fills {t} e d h c f) fs) q r =
    bad_store {t = t} (subst (λ v. Nth v stores t) (sym d ∙ q) (nth-some stores n t e)) (subst (λ v. IsBadOf shape v bad) c (subst (λ v. IsBadOf v s.content bad) h r))

bad-placed : {T : Type 0} {content : T → Option Content} {faults : T → ℕ} {shape : ImageShape} {stores : List T} {disk : ℕ} {bad : images.BadImage} {ns : List ℕ} {ss : List ShutSeen}
    → Pairs (Fills content faults shape (map (λ s. Some s) stores)) ns ss → IsFirstOf ss disk bad → IsBadStore content shape stores disk bad
bad-placed {content = content} {faults = faults} {shape = shape} {stores = stores} {ns = ns} fs f = bad-first f.shut (subst (λ v. Pairs (Fills content faults shape (map (λ s. Some s) stores)) ns v) f.first fs) f.number f.reason

-- and one that was refused
pub refused-as : {D H : Type 0} {T : Type 0} {content : T → Option Content} {faults : T → ℕ} {shape : ImageShape} {stores : List T} {plan : Plan} (n m : Node D H) (reason : Refusal) (after : List T) (words : List (Option Notice)) → Filled content faults shape stores plan n → beside_in m ≡ beside_in n
    → UnitedAs (Err reason) shape (shuts_in n) (beside_in n) (seats (tree_of m)) words → GivesBack content faults (beside_in m) (seats (tree_of m)) after → RefusedOver content faults shape stores plan reason after
refused-as {content = content} {faults = faults} {shape = shape} n m (why.BadImage disk bad) after words f same goes back =
    refused {reason = why.BadImage disk bad} (seen-by f goes.0.met) goes.0.opens refl (bad-placed f.fills goes.1) (blames (BadImage disk) goes.0.opens goes.0.met.meets)
    (λ told. lasting (subst (λ t. Opens t shape.pages goes.0.row (BadImage disk) (seats (tree_of m))) told goes.0.opens) goes.0.met.meets (sizes (brought-all f.fills goes.0.met.found) f.lies (told-every (beside_in n) told)))
    (subst (λ bs. GivesBack content faults bs (seats (tree_of m)) after) same back)
refused-as {content = content} {faults = faults} {shape = shape} n m (why.StoreFault fault) after words f same goes back =
    refused {reason = why.StoreFault fault} (seen-by f goes.met) goes.opens (refl, refl) tt (blames (Lost fault.disk fault.count) goes.opens goes.met.meets)
    (λ told. lasting (subst (λ t. Opens t shape.pages goes.row (Lost fault.disk fault.count) (seats (tree_of m))) told goes.opens) goes.met.meets (sizes (brought-all f.fills goes.met.found) f.lies (told-every (beside_in n) told)))
    (subst (λ bs. GivesBack content faults bs (seats (tree_of m)) after) same back)
refused-as {content = content} {faults = faults} n m why.Memory after words f same goes back = lacked (brought-all f.fills goes.found) f.lies goes.rests (subst (λ bs. GivesBack content faults bs (seats (tree_of m)) after) same back)
