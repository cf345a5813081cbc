-- Laws of the subcontracts that the program has.
use Rattle.std.proofs.Common.{◌≡◌, ℕ, ◌<◌, ◌^◌, Bool, true, false, cond, eqb, Option, Some, None, lit<, refl, ap, subst, eqb-true}
use Rattle.sub_core.specs.declared.shape.Form.{Form}
use Rattle.sub_core.specs.Forms.{IsTagOf}
use Rattle.sub_basic.specs.declared.TheConstants.{SINGLETON, CLUSTER}
use Rattle.sub_caching.specs.declared.TheConstants.{CACHING}
use Rattle.sub_reconnect.specs.declared.TheConstants.{RECONNECTABLE}
use Rattle.client_objects.specs.declared.kind.ObjectKind.{ObjectKind}
use Rattle.client_objects.specs.declared.kind.ObjectKind.TheVariants.{Singleton, Cluster, Caching, Reconnectable}
use Rattle.client_objects.specs.Kinds.{id_of, kind_of, form_of, form_at}

-- an identifier has two bytes
pub id_fits : (kind : ObjectKind) → id_of kind < 2 ^ 16
id_fits Singleton = lit< tt
id_fits Cluster = lit< tt
id_fits Caching = lit< tt
id_fits Reconnectable = lit< tt

-- an object of any kind may have no tag
pub no_tag : (kind : ObjectKind) → IsTagOf (form_of kind) 0
no_tag Singleton = refl
no_tag Cluster = tt
no_tag Caching = refl
no_tag Reconnectable = refl

-- the identifier of a kind leads to it
pub kind_of-id : (kind : ObjectKind) → kind_of (id_of kind) ≡ Some kind
kind_of-id Singleton = refl
kind_of-id Cluster = refl
kind_of-id Caching = refl
kind_of-id Reconnectable = refl

pub form_at-id : (kind : ObjectKind) → form_at (id_of kind) ≡ form_of kind
form_at-id Singleton = refl
form_at-id Cluster = refl
form_at-id Caching = refl
form_at-id Reconnectable = refl

by_tests : (id : ℕ) (kind : ObjectKind) (a b c d : Bool) → (a ≡ true → id ≡ SINGLETON) → (b ≡ true → id ≡ CLUSTER) → (c ≡ true → id ≡ CACHING) → (d ≡ true → id ≡ RECONNECTABLE)
    → cond a (Some Singleton) (cond b (Some Cluster) (cond c (Some Caching) (cond d (Some Reconnectable) None))) ≡ Some kind → id ≡ id_of kind
by_tests id kind true b c d first second third fourth is = let same : Singleton ≡ kind = cc in subst (λ k. id ≡ id_of k) same (first refl)
by_tests id kind false true c d first second third fourth is = let same : Cluster ≡ kind = cc in subst (λ k. id ≡ id_of k) same (second refl)
by_tests id kind false false true d first second third fourth is = let same : Caching ≡ kind = cc in subst (λ k. id ≡ id_of k) same (third refl)
by_tests id kind false false false true first second third fourth is = let same : Reconnectable ≡ kind = cc in subst (λ k. id ≡ id_of k) same (fourth refl)
by_tests id kind false false false false first second third fourth is = absurd cc

-- and only that one does
pub id_of-kind : (id : ℕ) (kind : ObjectKind) → kind_of id ≡ Some kind → id ≡ id_of kind
id_of-kind id kind is =
    by_tests id kind (eqb id SINGLETON) (eqb id CLUSTER) (eqb id CACHING) (eqb id RECONNECTABLE)
    (eqb-true id SINGLETON) (eqb-true id CLUSTER) (eqb-true id CACHING) (eqb-true id RECONNECTABLE) is
