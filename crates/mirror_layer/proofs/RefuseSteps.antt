-- The refusal of a ground of which no disk is good, over plain variables.
use Rattle.std.proofs.Common.{◌≡◌, ℕ, Bool, true, false, List, [], ◌∷◌, ◌++◌, Option, Some, None, refl, subst}
use Rattle.std.specs.Prelude.{is_some, IfSome, IfNone}
use Rattle.disk_format.specs.declared.why.BadImage.{BadImage}
use Rattle.page_ground.specs.declared.fault.StoreFault.{StoreFault}
use Rattle.mirror_rules.specs.Tree.{Cell, Store, Seat, In, Out}
use Rattle.mirror_rules.specs.Claims.{Every, every_none, every_more}
use Rattle.mirror_rules.specs.Opening.{IsBad, is_blank, is_bad, NotGood, LastDown, last_here, last_later}
use Rattle.mirror_layer.specs.declared.node.Mark.{Mark}
use Rattle.mirror_layer.specs.declared.node.Mark.TheVariants as mark
use Rattle.mirror_layer.specs.Shut.{ShutSeen}
use Rattle.mirror_layer.specs.View.{seat_of, why_from, why_of, store_of}
use Rattle.mirror_layer.proofs.CloseSteps.{every_both}

waiting-good : (c : Cell) → Every NotGood (In false c ∷ []) → ⊥
waiting-good c (every_more p q) = elim p [ ]

waiting-bad : (c : Cell) → Every IsBad (In false c ∷ []) → ⊥
waiting-bad c (every_more p q) = elim p [ ]

pub opened-good : (m : Mark) (c : Cell) → m ≡ mark.Left → Every NotGood (seat_of m c ∷ []) → ⊥
opened-good m c e h = waiting-good c (subst (λ v. Every NotGood (seat_of v c ∷ [])) e h)

pub opened-bad : (m : Mark) (c : Cell) → m ≡ mark.Left → Every IsBad (seat_of m c ∷ []) → ⊥
opened-bad m c e h = waiting-bad c (subst (λ v. Every IsBad (seat_of v c ∷ [])) e h)

pub bad-there : (bad : Option BadImage) (k : Bool) (s : Store) → Every IsBad (Out (why_from bad k) s ∷ []) → bad ≡ None → ⊥
bad-there None k s (every_more p q) e = elim p [ ]
bad-there (Some b) k s h e = cc

pub down-here : (r : Option StoreFault) (s : ShutSeen) → IfSome r (λ (f : StoreFault). (s.bad ≡ None) × (f ≡ record { disk = s.disk; count = s.faults })) → IfSome r (λ (f : StoreFault). LastDown f.disk f.count (Out (why_of s) (store_of s) ∷ []))
down-here None s h = tt
down-here (Some f) s h =
    rw (h.0, h.1) (last_here refl refl every_none)

none-good : (bad : Option BadImage) (k : Bool) (s : Store) → is_some bad ≡ true → Every IsBad (Out (why_from bad k) s ∷ [])
none-good None k s e = cc
none-good (Some b) true s e = every_more is_blank every_none
none-good (Some b) false s e = every_more is_bad every_none

pub none-down : (r : Option StoreFault) (s : ShutSeen) → IfNone r (is_some s.bad ≡ true) → IfNone r (Every IsBad (Out (why_of s) (store_of s) ∷ []))
none-down None s h = none-good s.bad s.blank (store_of s) h
none-down (Some f) s h = tt

pub later-down : {d k : ℕ} (xs ys : List Seat) → LastDown d k ys → LastDown d k (xs ++ ys)
later-down [] ys h = h
later-down (x ∷ xs) ys h = last_later (later-down xs ys h)

earlier-down : {d k : ℕ} {xs ys : List Seat} → LastDown d k xs → Every IsBad ys → LastDown d k (xs ++ ys)
earlier-down {ys = ys} (last_here {xs = xs} a b h) k = last_here a b (every_both xs ys h k)
earlier-down (last_later h) k = last_later (earlier-down h k)

pub down-left : (r : Option StoreFault) (xs ys : List Seat) → IfSome r (λ (f : StoreFault). LastDown f.disk f.count xs) → Every IsBad ys → IfSome r (λ (f : StoreFault). LastDown f.disk f.count (xs ++ ys))
down-left None xs ys h k = tt
down-left (Some f) xs ys h k = earlier-down h k

pub bad-all : (r : Option StoreFault) (xs ys : List Seat) → IfNone r (Every IsBad xs) → Every IsBad ys → IfNone r (Every IsBad (xs ++ ys))
bad-all None xs ys h k = every_both xs ys h k
bad-all (Some f) xs ys h k = tt
