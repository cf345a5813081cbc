-- An opening, and what is said of it beside, over plain variables.
use Rattle.std.proofs.Common.{ℕ, Bool, true, List, sym, subst}
use Rattle.mirror_rules.specs.Tree.{Store, Seat}
use Rattle.mirror_rules.specs.Claims.{Pairs, Every}
use Rattle.mirror_rules.specs.Opening.{Meets, Outcome, Good, BadImage, Lost, Opens}
use Rattle.mirror_rules.specs.Fates.{Sized}
use Rattle.mirror_rules.proofs.EntryLaws.{guards-open, guards-joined, opens-within, opening-end}
use Rattle.mirror_rules.proofs.GivesLaws.{opens-gives}
use Rattle.mirror_rules.proofs.LevelLaws.{opens-kept}
use Rattle.mirror_rules.proofs.LeftLaws.{opens-excused}
use Rattle.mirror_rules.proofs.BlameLaws.{opens-blame, opens-whole}
use Rattle.mirror_layer.specs.Lasting.{Lasting, Given, Blames}

pub lasting : {n : ℕ} {o : Outcome} {ss : List Store} {row us : List Seat} → Opens true n row o us → Pairs Meets ss row → Every (Sized n) ss → Lasting n ss row us
lasting h m z = record {
  sized = z;
  ends = λ v t. opening-end h m z t;
  guards = λ v Vs L past t g. guards-open h m z t g;
}

pub given : {n g : ℕ} {ss : List Store} {row us : List Seat} {owed : Bool} → Opens true n row (Good owed g) us → Pairs Meets ss row → Every (Sized n) ss → Given ss row us g
given {n} {g} {ss} {row} {us} {owed} h m z = record {
  within = λ Vs L past u k. opens-within h m z u k;
  joins = λ v Vs L past t u k. guards-joined h m z t u k;
  gives = λ t e. opens-gives t (subst (λ v. Opens true n v (Good owed g) us) (sym e) h) (subst (λ v. Pairs Meets ss v) (sym e) m) z;
  level = λ v t. opens-kept h m z t;
}

pub blames : {told : Bool} {n : ℕ} {ss : List Store} {row us : List Seat} (o : Outcome) → Opens told n row o us → Pairs Meets ss row → Blames o ss us
blames (Good owed g) h m = record { excused = opens-excused h m; whole = λ calm. opens-whole h m calm }
blames (BadImage d) h m = tt
blames (Lost d k) h m = opens-blame h m
