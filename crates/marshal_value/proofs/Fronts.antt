-- Values that were read before others.
use Rattle.std.proofs.Common.{◌≡◌, ℕ, zero, suc, List, [], ◌∷◌, ◌++◌, Ok, Err, refl, sym, ap, ◌∙◌}
use Rattle.marshal_buf.specs.Reading.{Reading}
use Rattle.marshal_value.specs.declared.value.Value.{Value}
use Rattle.marshal_value.specs.Tree.{Tree, Trees, none, one, AsSequence, tree_of, trees_of}
use Rattle.marshal_value.specs.declared.why.ValueWhy.{ValueWhy}
use Rattle.marshal_value.specs.declared.why.ValueWhy.TheVariants as why
use Rattle.marshal_value.specs.declared.why.BadValue.{BadValue}
use Rattle.idl_reader.specs.Tree.{TypeTree}
use Rattle.marshal_value.specs.Reading.{Reads, ◌>>=◌, number_from, values_at, fields_at, sequence_at, Refuses}

abbrev pub joined : Trees → Trees → Trees
joined none ws = ws
joined (one v vs) ws = one v (joined vs ws)

-- these values, and then those that are read
abbrev pub with_front : Trees → Reads Trees → Reads Trees
with_front front read = read >>= λ vs. Ok (joined front vs.0, vs.1)

pub joined-none : (vs : Trees) → joined vs none ≡ vs
joined-none none = refl
joined-none (one v vs) = ap (one v) (joined-none vs)

joined-one : (front : Trees) (v : Tree) (vs : Trees) → joined (joined front (one v none)) vs ≡ joined front (one v vs)
joined-one none v vs = refl
joined-one (one w front) v vs = ap (one w) (joined-one front v vs)

pub trees_push : (vs : List Value) (v : Value) → trees_of (vs ++ v ∷ []) ≡ joined (trees_of vs) (one (tree_of v) none)
trees_push [] v = refl
trees_push (w ∷ vs) v = ap (one (tree_of w)) (trees_push vs v)

-- one more value in front
pub front_more : (front : Trees) (v : Tree) (read : Reads Trees) → with_front front (read >>= λ vs. Ok (one v vs.0, vs.1)) ≡ with_front (joined front (one v none)) read
front_more front v (Ok vs) = ap (λ (t : Trees). Ok (t, vs.1)) (sym (joined-one front v vs.0))
front_more front v (Err e) = refl

pub front_end : (front : Trees) (r : Reading) → with_front front (Ok (none, r)) ≡ Ok (front, r)
front_end front r = ap (λ (t : Trees). Ok (t, r)) (joined-none front)

-- a value of a sequence
pub values_step : (read : Reading → Reads Tree) (front : Trees) (n : ℕ) (v : Tree) (r s : Reading) → read r ≡ Ok (v, s) → with_front front (values_at read (suc n) r) ≡ with_front (joined front (one v none)) (values_at read n s)
unfolding values_at
values_step read front n v r s e =
    ap (λ (x : Reads Tree). with_front front (x >>= λ v. values_at read n v.1 >>= λ vs. Ok (one v.0 vs.0, vs.1))) e ∙ front_more front v (values_at read n s)

pub values_stop : (read : Reading → Reads Tree) (front : Trees) (n : ℕ) (e : BadValue) (r : Reading) → read r ≡ Err e → with_front front (values_at read (suc n) r) ≡ Err e
unfolding values_at
values_stop read front n e r is = ap (λ (x : Reads Tree). with_front front (x >>= λ v. values_at read n v.1 >>= λ vs. Ok (one v.0 vs.0, vs.1))) is

pub values_end : (read : Reading → Reads Tree) (front : Trees) (r : Reading) → with_front front (values_at read zero r) ≡ Ok (front, r)
unfolding values_at
values_end read front r = front_end front r

-- a value of a field
pub fields_step : (read : TypeTree → Reading → Reads Tree) (front : Trees) (ty : TypeTree) (tys : List TypeTree) (v : Tree) (r s : Reading) → read ty r ≡ Ok (v, s) → with_front front (fields_at read (ty ∷ tys) r) ≡ with_front (joined front (one v none)) (fields_at read tys s)
unfolding fields_at
fields_step read front ty tys v r s e =
    ap (λ (x : Reads Tree). with_front front (x >>= λ v. fields_at read tys v.1 >>= λ vs. Ok (one v.0 vs.0, vs.1))) e ∙ front_more front v (fields_at read tys s)

pub fields_stop : (read : TypeTree → Reading → Reads Tree) (front : Trees) (ty : TypeTree) (tys : List TypeTree) (e : BadValue) (r : Reading) → read ty r ≡ Err e → with_front front (fields_at read (ty ∷ tys) r) ≡ Err e
unfolding fields_at
fields_stop read front ty tys e r is = ap (λ (x : Reads Tree). with_front front (x >>= λ v. fields_at read tys v.1 >>= λ vs. Ok (one v.0 vs.0, vs.1))) is

pub fields_end : (read : TypeTree → Reading → Reads Tree) (front : Trees) (r : Reading) → with_front front (fields_at read [] r) ≡ Ok (front, r)
unfolding fields_at
fields_end read front r = front_end front r

-- a count, and the values
pub sequence_is : (read : Reading → Reads Tree) (n : ℕ) (vs : Trees) (r s r' : Reading) → number_from 4 r ≡ Ok (n, s) → values_at read n s ≡ Ok (vs, r') → sequence_at read r ≡ Ok (AsSequence vs, r')
unfolding sequence_at
sequence_is read n vs r s r' first others =
    ap (λ (x : Reads ℕ). x >>= λ n. values_at read n.0 n.1 >>= λ vs. Ok (AsSequence vs.0, vs.1)) first
    ∙ ap (λ (x : Reads Trees). x >>= λ vs. Ok (AsSequence vs.0, vs.1)) others

pub sequence_stop : (read : Reading → Reads Tree) (e : BadValue) (r : Reading) → number_from 4 r ≡ Err e → sequence_at read r ≡ Err e
unfolding sequence_at
sequence_stop read e r is = ap (λ (x : Reads ℕ). x >>= λ n. values_at read n.0 n.1 >>= λ vs. Ok (AsSequence vs.0, vs.1)) is

pub sequence_stop_later : (read : Reading → Reads Tree) (n : ℕ) (e : BadValue) (r s : Reading) → number_from 4 r ≡ Ok (n, s) → values_at read n s ≡ Err e → sequence_at read r ≡ Err e
unfolding sequence_at
sequence_stop_later read n e r s first others =
    ap (λ (x : Reads ℕ). x >>= λ n. values_at read n.0 n.1 >>= λ vs. Ok (AsSequence vs.0, vs.1)) first
    ∙ ap (λ (x : Reads Trees). x >>= λ vs. Ok (AsSequence vs.0, vs.1)) others

pub refuses_map : {P Q : Type 0} (w : ValueWhy) (at : ℕ) → (P → Q) → Refuses w at P → Refuses w at Q
refuses_map why.Short at f p = f p
refuses_map why.Bool at f p = f p
refuses_map why.Enum at f p = f p
refuses_map why.Utf8 at f p = f p
refuses_map why.DoorIndex at f p = f p
refuses_map why.Memory at f p = p

-- where the reading has no refusal, memory ran out
pub refuses_only : {P : Type 0} (w : ValueWhy) (at : ℕ) → (P → ⊥) → Refuses w at P → w ≡ why.Memory
refuses_only why.Short at f p = absurd (f p)
refuses_only why.Bool at f p = absurd (f p)
refuses_only why.Enum at f p = absurd (f p)
refuses_only why.Utf8 at f p = absurd (f p)
refuses_only why.DoorIndex at f p = absurd (f p)
refuses_only why.Memory at f p = refl
