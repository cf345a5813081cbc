-- The opening of each disk, over plain variables.
use Rattle.std.proofs.Common.{◌≡◌, inl, inr, ℕ, ◌<◌, Bool, true, false, List, [], ◌∷◌, ◌++◌, Option, Some, None, Result, Ok, Err, refl, sym, ap, ◌∙◌, subst}
use Rattle.std.specs.Prelude.{IfSome, OnOk}
use Rattle.disk_layer.specs.declared.refused.OpenWhy.{OpenWhy}
use Rattle.std.specs.Option.{option_map}
use Rattle.spr_io.specs.Content.{Content}
use Rattle.disk_format.specs.declared.shape.ImageShape.{ImageShape}
use Rattle.disk_format.specs.declared.why.BadImage.{BadImage}
use Rattle.disk_format.specs.VersionOne as format
use Rattle.page_ground.specs.Seen.{Imaged}
use Rattle.disk_format.specs.Image.{front_of, imaged}
use Rattle.disk_layer.specs.Disk.{Disk, is_blank}
use Rattle.disk_layer.specs.Calls as calls
use Rattle.mirror_rules.specs.Tree.{Cell, Seat, In, Out, seats}
use Rattle.mirror_rules.specs.Tree as machine
use Rattle.mirror_rules.specs.Claims.{pairs_none, pairs_more}
use Rattle.mirror_rules.specs.Opening.{Meets, meets_good, meets_blank, meets_bad, meets_down}
use Rattle.mirror_rules.proofs.RoundLaws.{pairs-append, pairs-map}
use Rattle.mirror_layer.specs.declared.node.Node.{Node, Opened, Shut, Coherency', Mirror'}
use Rattle.mirror_layer.specs.Shut.{ShutSeen}
use Rattle.mirror_layer.specs.Stores.{Finds}
use Rattle.mirror_layer.specs.View.{cell_of, why_from, why_of, store_of, tree_of, image_in, is_blank_in, as_image}
use Rattle.mirror_layer.specs.Meeting.{IsNew, AllNew, shuts_in, Found, Met, MeetsLeaf, Reasons, Rests, rests_met, rests_shut, Rested}
use Rattle.mirror_layer.proofs.CloseSteps.{shut_cell, finds, finds-shut}

found-as : {shape k : ImageShape} {disk d n m : ℕ} {c e : Option Content} (t : machine.Store) → shape ≡ k → disk ≡ d → c ≡ e → n ≡ m → Finds shape disk c n t → Finds k d e m t
found-as {shape} {k} {disk} {d} {n} {m} {c} {e} t a b f g h =
    subst (λ v. Finds k d e v t) g (subst (λ v. Finds k d v n t) f (subst (λ v. Finds k v c n t) b (subst (λ v. Finds v disk c n t) a h)))

pub met-good : (s : ShutSeen) (d : Disk) → calls.Opened (record { disk = s.disk; shape = s.shape; content = s.content; faults = s.faults }) d → Met (s ∷ []) (In false (cell_of d) ∷ [])
met-good s d o = record {
  seen = shut_cell (cell_of d) ∷ [];
  found = pairs_more (found-as (shut_cell (cell_of d)) o.shape o.disk o.content o.calm (finds d d.content o.image)) pairs_none;
  meets = pairs_more (meets_good {s = shut_cell (cell_of d)} refl) pairs_none;
}

no-image : (b : BadImage) (shape : ImageShape) (content : Option Content) → IfSome content (λ c. format.image_in shape (front_of shape c.blocks) ≡ Err b) → image_in shape (λ c. c.blocks) content ≡ None
no-image b shape None h = refl
no-image b shape (Some c) h = ap (λ v. option_map {T = Imaged} as_image (imaged shape c.blocks v)) h

found-self : (s : ShutSeen) → Found s (store_of s)
found-self s = finds-shut s.shape s.disk s.bad s.blank s.there s.opened s.faults s.content

abbrev changed : ShutSeen → Option BadImage → Bool → ℕ → ShutSeen
changed s b k n = record s { bad = b; blank = k; faults = n }

down : (s : ShutSeen) (b : Option BadImage) (k : Bool) (n : ℕ) → b ≡ None → s.faults < n → Meets (store_of s) (Out (why_from b k) (store_of (changed s b k n)))
down s b k n e l = subst (λ v. Meets (store_of s) (Out (why_from v k) (store_of (changed s v k n)))) (sym e) (meets_down refl refl l)

blank-in : (k : Bool) (content : Option Content) → IfSome content (λ c. k ≡ is_blank c.blocks) → is_blank_in k content ≡ k
blank-in k None h = refl
blank-in k (Some c) h = sym h

meets-by : (w : BadImage) (k : Bool) (s : machine.Store) → s.image ≡ None → s.blank ≡ k → Meets s (Out (why_from (Some w) k) s)
meets-by w true s e b = meets_blank e b
meets-by w false s e b = meets_bad e b

bad : (s : ShutSeen) (b : Option BadImage) (k : Bool) (n : ℕ) (w : BadImage) → b ≡ Some w → n ≡ s.faults → IfSome s.content (λ c. format.image_in s.shape (front_of s.shape c.blocks) ≡ Err w) → IfSome s.content (λ c. k ≡ is_blank c.blocks)
    → Found s (store_of (changed s b k n)) × Meets (store_of (changed s b k n)) (Out (why_from b k) (store_of (changed s b k n)))
bad s b k n w e q h z = (
  found-as (store_of (changed s b k n)) refl refl refl q (found-self (changed s b k n)),
  subst (λ v. Meets (store_of (changed s v k n)) (Out (why_from v k) (store_of (changed s v k n)))) (sym e) (meets-by w k (store_of (changed s (Some w) k n)) (no-image w s.shape s.content h) (blank-in k s.content z)),
)

pub met-none : (s t : ShutSeen) → MeetsLeaf s (Ok None) t → Met (s ∷ []) (Out (why_of t) (store_of t) ∷ [])
met-none s t h = subst (λ (v : ShutSeen). Met (s ∷ []) (Out (why_of v) (store_of v) ∷ [])) (sym h.0) (elim h.1 as (λ _. Met (s ∷ []) (Out (why_from t.bad t.blank) (store_of (changed s t.bad t.blank t.faults)) ∷ [])) [
  | inl a ↦ record { seen = store_of s ∷ []; found = pairs_more (found-self s) pairs_none; meets = pairs_more (down s t.bad t.blank t.faults a.0 a.1) pairs_none }
  | inr a ↦ let r = bad s t.bad t.blank t.faults a.0 a.1 a.2.2 a.2.1 a.2.3 in record { seen = store_of (changed s t.bad t.blank t.faults) ∷ []; found = pairs_more r.0 pairs_none; meets = pairs_more r.1 pairs_none }
])

pub rested : {cs : List ShutSeen} {xs : List Seat} → Met cs xs → Rested cs xs
rested m = record { seen = m.seen; found = m.found; rests = pairs-map (λ s x. rests_met) m.meets }

pub rested-new : (s : ShutSeen) → IsNew s → Rested (s ∷ []) (Out (why_of s) (store_of s) ∷ [])
rested-new s n = record {
  seen = store_of s ∷ [];
  found = pairs_more (found-self s) pairs_none;
  rests = pairs_more (subst (λ v. Rests (store_of s) (Out (why_from v s.blank) (store_of s))) (sym n.unknown) rests_shut) pairs_none;
}

pub met-both : {cs bs : List ShutSeen} {xs ys : List Seat} → Met cs xs → Met bs ys → Met (cs ++ bs) (xs ++ ys)
met-both a b = record { seen = a.seen ++ b.seen; found = pairs-append a.found b.found; meets = pairs-append a.meets b.meets }

pub rested-both : {cs bs : List ShutSeen} {xs ys : List Seat} → Rested cs xs → Rested bs ys → Rested (cs ++ bs) (xs ++ ys)
rested-both a b = record { seen = a.seen ++ b.seen; found = pairs-append a.found b.found; rests = pairs-append a.rests b.rests }

pub rested-all : {D H : Type 0} (n : Node D H) → AllNew n → Rested (shuts_in n) (seats (tree_of n))
rested-all (Opened m d) h = absurd h
rested-all (Shut s) h = rested-new s h
rested-all (Coherency' p t) h = rested-all t h
rested-all (Mirror' p l q r) h = rested-both (rested-all l h.0) (rested-all r h.1)

-- at a leaf, and of two sides
pub good-at : (s k t : ShutSeen) (o : Option Disk) (d : Disk) → o ≡ Some d → k ≡ s → MeetsLeaf k (Ok o) t → Met (s ∷ []) (In false (cell_of d) ∷ [])
good-at s k t o d e q h = met-good s d (subst (λ v. MeetsLeaf v (Ok (Some d)) t) q (subst (λ v. MeetsLeaf k (Ok v) t) e h))

pub none-at : (s k t : ShutSeen) (o : Option Disk) → o ≡ None → k ≡ s → MeetsLeaf k (Ok o) t → Met (s ∷ []) (Out (why_of t) (store_of t) ∷ [])
none-at s k t o e q h = met-none s t (subst (λ v. MeetsLeaf v (Ok None) t) q (subst (λ v. MeetsLeaf k (Ok v) t) e h))

pub new-at : (s k t : ShutSeen) → t ≡ k → k ≡ s → IsNew s → Rested (s ∷ []) (Out (why_of t) (store_of t) ∷ [])
new-at s k t e q n = subst (λ (v : ShutSeen). Rested (s ∷ []) (Out (why_of v) (store_of v) ∷ [])) (sym (e ∙ q)) (rested-new s n)

pub met-then : (r : Result (Unit {0}) OpenWhy) {cs : List ShutSeen} (bs : List ShutSeen) {xs : List Seat} (ys : List Seat) → Met cs xs → OnOk r (Met bs ys) → OnOk r (Met (cs ++ bs) (xs ++ ys))
met-then (Ok u) bs ys a h = met-both a h
met-then (Err e) bs ys a h = tt

-- why blocks are no image
pub reasons-good : (s : ShutSeen) → Reasons (s ∷ []) (None ∷ [])
reasons-good s = pairs_more {x = s} {y = None} tt pairs_none

reasons-none : (s t : ShutSeen) → MeetsLeaf s (Ok None) t → Reasons (s ∷ []) (t.bad ∷ [])
reasons-none s t h = elim h.1 as (λ _. Reasons (s ∷ []) (t.bad ∷ [])) [
  | inl a ↦ subst (λ v. Reasons (s ∷ []) (v ∷ [])) (sym a.0) (reasons-good s)
  | inr a ↦ subst (λ v. Reasons (s ∷ []) (v ∷ [])) (sym a.1) (pairs_more {x = s} {y = Some a.0} (a.2.0, a.2.1) pairs_none)
]

pub reasons-at : (s k t : ShutSeen) (o : Option Disk) → o ≡ None → k ≡ s → MeetsLeaf k (Ok o) t → Reasons (s ∷ []) (t.bad ∷ [])
reasons-at s k t o e q h = reasons-none s t (subst (λ v. MeetsLeaf v (Ok None) t) q (subst (λ v. MeetsLeaf k (Ok v) t) e h))

pub reasons-then : (r : Result (Unit {0}) OpenWhy) {cs : List ShutSeen} (bs : List ShutSeen) {xs : List (Option BadImage)} (ys : List (Option BadImage)) → Reasons cs xs → OnOk r (Reasons bs ys) → OnOk r (Reasons (cs ++ bs) (xs ++ ys))
reasons-then (Ok u) bs ys a h = pairs-append a h
reasons-then (Err e) bs ys a h = tt
