use Rattle.std.proofs.Common.{◌≡◌, ◌<◌, ℕ, length, refl, sym, ap, subst, ◌∙◌, arith}
use Rattle.link_lossy.specs.Reading.{request_at}
use Rattle.link_lossy.specs.Attempts.{MayTry, Moment}
use Rattle.link_lossy.proofs.Holding.{ok_of}
use Rattle.link_lossy.proofs.Losing.{passed}
use Rattle.link_lossy.proofs.Trying.{Stands, all_lost_so, answers_by, at_start, caller_tries, goes_on_by, may_try, out_kept, still}
use Rattle.link_lossy.proofs.calling.try_all.Goals as goal

pub loop-try-init : goal.loop-try-init
loop-try-init g c = record {
  out = refl;
  caller = refl;
  stands = λ number request e. at_start g.F.Serve.served number request (length c.args.out.now) (record { link = g.L.Link.seen c.args.link.now; far = c.args.far.now; value = c.args.serve.now });
}

pub try_once-requires-clause-packets : goal.try_once-requires-clause-packets
try_once-requires-clause-packets g c =
    let x = ok_of (request_at c.args.bytes.now) c.requires.form in
    let s = c.loop-try.invariant.stands x.0.0 x.0.1 x.1 in
    let p = passed c.loop-try._try (g.L.Link.seen c.args.link.now) (g.L.Link.seen c.loop-try.link) s.lost in
    omega (arith, p.most, c.requires.packets, c.loop-try-test.true)

pub try_once-requires-clause-tried : goal.try_once-requires-clause-tried
try_once-requires-clause-tried g c = λ number request e.
    let s = c.loop-try.invariant.stands number request e in
    let may = may_try g.F.Serve.served number request (length c.args.out.now) c.args.far.now c.loop-try.far c.args.serve.now c.loop-try.serve s.service (c.requires.new number request e) s.stands in
    subst (λ (n : ℕ). MayTry number n c.loop-try.far) (sym (ap length c.loop-try.invariant.out)) may

pub try_once-requires-clause-may : goal.try_once-requires-clause-may
try_once-requires-clause-may g c = λ number request e fresh.
    let s = c.loop-try.invariant.stands number request e in
    let same = still g.F.Serve.served number request (length c.args.out.now) c.args.far.now c.loop-try.far c.args.serve.now c.loop-try.serve s.service s.stands fresh in
    let may = c.requires.may number request e in
    subst (λ (v : _). g.F.Serve.may_serve v request (length c.loop-try.out)) (sym same)
    (subst (λ (n : ℕ). g.F.Serve.may_serve c.args.serve.now request n) (sym (ap length c.loop-try.invariant.out)) may)

pub loop-try-preserved : goal.loop-try-preserved
loop-try-preserved g c =
    let x = ok_of (request_at c.args.bytes.now) c.requires.form in
    let i = c.loop-try.invariant in
    let old : Moment _ = record { link = g.L.Link.seen c.args.link.now; far = c.args.far.now; value = c.args.serve.now } in
    let mid : Moment _ = record { link = g.L.Link.seen c.loop-try.link; far = c.loop-try.far; value = c.loop-try.serve } in
    let new : Moment _ = record { link = g.L.Link.seen c.try_once.new.link; far = c.try_once.new.far; value = c.try_once.new.serve } in
    record {
      out = out_kept g.F.Serve.served x.0.0 x.0.1 c.args.out.now c.loop-try.out c.try_once.new.out mid new c.try_once.result i.out c.in_default.is (c.try_once.ensures x.0.0 x.0.1 x.1);
      caller = caller_tries g.F.Serve.served x.0.0 x.0.1 mid new c.loop-try.out c.try_once.new.out c.try_once.result (c.try_once.ensures x.0.0 x.0.1 x.1) ∙ i.caller;
      stands = λ number request e. goes_on_by g.F.Serve.served number request c.args.out.now c.loop-try.out c.try_once.new.out old mid new c.loop-try._try c.try_once.result (c.requires.new number request e) i.out c.in_default.is (i.stands number request e) (c.try_once.ensures number request e);
    }

pub returns-in-Some-clause-sent : goal.returns-in-Some-clause-sent
returns-in-Some-clause-sent g c = λ number request e.
    let i = c.loop-try.invariant in
    let few : c.loop-try._try < 8 = omega (arith, c.loop-try-test.true) in
    answers_by g.F.Serve.served number request c.args.out.now c.loop-try.out c.try_once.new.out
    (record { link = g.L.Link.seen c.args.link.now; far = c.args.far.now; value = c.args.serve.now })
    (record { link = g.L.Link.seen c.loop-try.link; far = c.loop-try.far; value = c.loop-try.serve })
    (record { link = g.L.Link.seen c.try_once.new.link; far = c.try_once.new.far; value = c.try_once.new.serve })
    c.loop-try._try c.try_once.result c.in-Some.answer (c.requires.new number request e) few i.out c.in-Some.is (i.stands number request e) (c.try_once.ensures number request e)

pub returns-in-Some-clause-caller : goal.returns-in-Some-clause-caller
returns-in-Some-clause-caller g c =
    let x = ok_of (request_at c.args.bytes.now) c.requires.form in
    caller_tries g.F.Serve.served x.0.0 x.0.1
    (record { link = g.L.Link.seen c.loop-try.link; far = c.loop-try.far; value = c.loop-try.serve })
    (record { link = g.L.Link.seen c.try_once.new.link; far = c.try_once.new.far; value = c.try_once.new.serve })
    c.loop-try.out c.try_once.new.out c.try_once.result (c.try_once.ensures x.0.0 x.0.1 x.1) ∙ c.loop-try.invariant.caller

pub returns-clause-sent : goal.returns-clause-sent
returns-clause-sent g c = λ number request e.
    let i = c.loop-try.invariant in
    let old : Moment _ = record { link = g.L.Link.seen c.args.link.now; far = c.args.far.now; value = c.args.serve.now } in
    let new : Moment _ = record { link = g.L.Link.seen c.loop-try.link; far = c.loop-try.far; value = c.loop-try.serve } in
    let all : c.loop-try._try ≡ 8 = omega (arith, c.loop-try-test.false, c.loop-try.auto._try-end) in
    let s = subst (λ (n : ℕ). Stands g.F.Serve.served number request (length c.args.out.now) old n new) all (i.stands number request e) in
    rw c.count.ensures (all_lost_so g.F.Serve.served number request old new c.args.out.now c.loop-try.out i.out s)

pub returns-clause-caller : goal.returns-clause-caller
returns-clause-caller g c = c.loop-try.invariant.caller
