-- What tries lose, by the link's count and by the packets' numbers.
use Rattle.std.proofs.Common.{◌≡◌, ℕ, zero, suc, ◌+◌, ◌-◌, ◌*◌, ◌<◌, ◌≤◌, Bool, true, false, ◌&&◌, inl, inr, Option, Some, refl, sym, ap, subst, ◌∙◌, arith, add-suc, add-zero, add-one}
use Rattle.std.specs.Prelude.{IfSome}
use Rattle.link_lossy.specs.Links.{LinkSeen, Sends}
use Rattle.link_lossy.specs.Tries.{Arrives, LoseAll, Loses, all_lost, is_lost, packets_before, sent_by}

-- what holds after some tries that each lost something
pub record Passed (tries : ℕ) (before after : LinkSeen) : Type 0 where
  pub test : after.loses ≡ before.loses
  pub least : before.packets ≤ after.packets
  pub most : after.packets ≤ before.packets + tries * 2
  pub count : before.count + tries ≤ after.count

pub passed : (tries : ℕ) (before after : LinkSeen) → LoseAll tries before after → Passed tries before after
unfolding LoseAll
passed zero before after is = subst (Passed zero before) (sym is) (record { test = refl; least = omega arith; most = omega arith; count = omega arith })
passed (suc tries) before after (mid, earlier, inl lost) =
    let p = passed tries before mid earlier in
    let r = lost.rose refl in
    record { test = lost.test ∙ p.test; least = omega arith; most = omega arith; count = omega arith }
passed (suc tries) before after (mid, earlier, inr (there, came, back)) =
    let p = passed tries before mid earlier in
    let r = back.rose refl in
    record { test = back.test ∙ came.test ∙ p.test; least = omega arith; most = omega arith; count = omega arith }

-- one more try
pub one_more : (tries : ℕ) (before mid after : LinkSeen) → LoseAll tries before mid → Loses mid after → LoseAll (tries + 1) before after
unfolding LoseAll
one_more tries before mid after earlier lost = rw add-one (mid, earlier, lost)

-- what a packet's fate is, by its number
pub fate : (loses : ℕ → Bool) (lost : Bool) (before after : LinkSeen) → before.loses ≡ Some loses → Sends lost before after → lost ≡ loses (before.packets + 1)
fate loses lost before after is s =
    let told : IfSome (Some loses) (λ l. lost ≡ l after.packets) = subst (λ (o : Option (ℕ → Bool)). IfSome o (λ l. lost ≡ l after.packets)) is s.told in
    told ∙ ap loses s.packets

-- what is told after some tries that each lost something
pub record Told (loses : ℕ → Bool) (tries : ℕ) (before after : LinkSeen) : Type 0 where
  pub test : after.loses ≡ Some loses
  pub packets : after.packets ≡ packets_before loses before.packets tries
  pub all : all_lost loses before.packets tries ≡ true

-- the parts of a try, by the number of its request
by_request : (loses : ℕ → Bool) (n : ℕ) → true ≡ loses n → (sent_by loses n ≡ 1) × (is_lost loses n ≡ true)
by_request loses n e = (rw (← e) refl, rw (← e) refl)

pub by_reply : (loses : ℕ → Bool) (n : ℕ) (second : Bool) → false ≡ loses n → second ≡ loses (n + 1) → (sent_by loses n ≡ 2) × (is_lost loses n ≡ second)
by_reply loses n second e f = (rw (← e) refl, rw (← e, ← f) refl)

pub told : (loses : ℕ → Bool) (tries : ℕ) (before after : LinkSeen) → before.loses ≡ Some loses → LoseAll tries before after → Told loses tries before after
unfolding LoseAll all_lost packets_before
told loses zero before after is same = subst (Told loses zero before) (sym same) (record { test = is; packets = refl; all = refl })
told loses (suc tries) before after is (mid, earlier, inl lost) =
    let t = told loses tries before mid is earlier in
    let first = by_request loses (mid.packets + 1) (fate loses true mid after t.test lost) in
    let at : packets_before loses before.packets tries ≡ mid.packets = sym t.packets in
    record {
      test = lost.test ∙ t.test;
      packets = rw (at, first.0) lost.packets;
      all = rw (t.all, at) first.1;
    }
told loses (suc tries) before after is (mid, earlier, inr (there, came, back)) =
    let t = told loses tries before mid is earlier in
    let one = fate loses false mid there t.test came in
    let two = fate loses true there after (came.test ∙ t.test) back ∙ ap (λ (n : ℕ). loses (n + 1)) came.packets in
    let both = by_reply loses (mid.packets + 1) true one two in
    let at : packets_before loses before.packets tries ≡ mid.packets = sym t.packets in
    record {
      test = back.test ∙ came.test ∙ t.test;
      packets = rw (at, both.0) (omega arith);
      all = rw (t.all, at) both.1;
    }

-- a try that lost nothing, and so not all tries lose something
later : (loses : ℕ → Bool) (packets tries more : ℕ) → all_lost loses packets tries ≡ false → all_lost loses packets (tries + more) ≡ false
unfolding all_lost
later loses packets tries zero e = rw add-zero e
later loses packets tries (suc more) e = rw (add-suc, later loses packets tries more e) refl

and_false : (a : Bool) → (a && false) ≡ false
and_false true = refl
and_false false = refl

here : (loses : ℕ → Bool) (tries : ℕ) (before mid after : LinkSeen) → before.loses ≡ Some loses → LoseAll tries before mid → Arrives mid after → all_lost loses before.packets (suc tries) ≡ false
unfolding all_lost
here loses tries before mid after is earlier (there, came, back) =
    let t = told loses tries before mid is earlier in
    let one = fate loses false mid there t.test came in
    let two = fate loses false there after (came.test ∙ t.test) back ∙ ap (λ (n : ℕ). loses (n + 1)) came.packets in
    let both = by_reply loses (mid.packets + 1) false one two in
    let at : packets_before loses before.packets tries ≡ mid.packets = sym t.packets in
    rw (at, both.1) (and_false (all_lost loses before.packets tries))

pub not_all : (loses : ℕ → Bool) (all tries : ℕ) (before mid after : LinkSeen) → before.loses ≡ Some loses → tries < all → LoseAll tries before mid → Arrives mid after → all_lost loses before.packets all ≡ false
not_all loses all tries before mid after is few earlier arrives =
    let e : suc tries + (all - suc tries) ≡ all = omega arith in
    subst (λ (n : ℕ). all_lost loses before.packets n ≡ false) e (later loses before.packets (suc tries) (all - suc tries) (here loses tries before mid after is earlier arrives))
