use Rattle.std.proofs.Common.{◌≡◌, ℕ, ◌+◌, true, length, Result, Ok, refl, sym, ap, subst, ◌∙◌, arith}
use Rattle.std.specs.Prelude.{IsOk}
use Rattle.link_lossy.specs.declared.request.Request.{Request}
use Rattle.link_lossy.specs.declared.why.BadLink.{BadLink}
use Rattle.link_lossy.specs.Forms.{request_bytes}
use Rattle.link_lossy.specs.Reading.{request_at}
use Rattle.link_lossy.specs.Ends.{CallerSeen, is_new}
use Rattle.link_lossy.proofs.Requests.{request_again}
use Rattle.link_lossy.proofs.Ending.{bounds, call_at, later_of, told_of, with_next}
use Rattle.link_lossy.proofs.calling.call.Goals as goal

-- what is read again is what was put
is_ok_of : {A E : Type 0} (r : Result A E) (x : A) → r ≡ Ok x → IsOk r
is_ok_of r x e = rw e refl

number_is : (read : Result (ℕ × Request) BadLink) (number n : ℕ) (request r : Request) → read ≡ Ok (number, request) → read ≡ Ok (n, r) → n ≡ number
number_is read number n request r e f = let both : ◌≡◌ {A = ℕ × Request} (n, r) (number, request) = cc in ap (λ (x : ℕ × Request). x.0) both

request_is : (read : Result (ℕ × Request) BadLink) (number n : ℕ) (request r : Request) → read ≡ Ok (number, request) → read ≡ Ok (n, r) → r ≡ request
request_is read number n request r e f = let both : ◌≡◌ {A = ℕ × Request} (n, r) (number, request) = cc in ap (λ (x : ℕ × Request). x.1) both

pub try_all-requires-clause-form : goal.try_all-requires-clause-form
try_all-requires-clause-form g c =
    let bytes : c.put_request.new.buf.bytes ≡ request_bytes c.take_number-number.result c.args.request.now = grind (arith, c.in-Ok.ensures.ok.bytes, c.new-sent.ensures.bytes) in
    let read : request_at c.as_slice.result.now ≡ Ok (c.take_number-number.result, c.args.request.now) = ap request_at (c.as_slice.ensures.value ∙ bytes) ∙ request_again c.take_number-number.result c.args.request.now c.in-Ok.ensures.form in
    is_ok_of (request_at c.as_slice.result.now) (c.take_number-number.result, c.args.request.now) read

pub try_all-requires-clause-new : goal.try_all-requires-clause-new
try_all-requires-clause-new g c =
    let bytes : c.put_request.new.buf.bytes ≡ request_bytes c.take_number-number.result c.args.request.now = grind (arith, c.in-Ok.ensures.ok.bytes, c.new-sent.ensures.bytes) in
    let read : request_at c.as_slice.result.now ≡ Ok (c.take_number-number.result, c.args.request.now) = ap request_at (c.as_slice.ensures.value ∙ bytes) ∙ request_again c.take_number-number.result c.args.request.now c.in-Ok.ensures.form in
    λ number request e.
    let n : c.take_number-number.result ≡ number = number_is (request_at c.as_slice.result.now) number c.take_number-number.result request c.args.request.now e read in
    subst (λ (k : ℕ). is_new k c.args.far.now.last ≡ true) (sym c.take_number-number.ensures.number ∙ n) c.requires.new

pub try_all-requires-clause-may : goal.try_all-requires-clause-may
try_all-requires-clause-may g c =
    let bytes : c.put_request.new.buf.bytes ≡ request_bytes c.take_number-number.result c.args.request.now = grind (arith, c.in-Ok.ensures.ok.bytes, c.new-sent.ensures.bytes) in
    let read : request_at c.as_slice.result.now ≡ Ok (c.take_number-number.result, c.args.request.now) = ap request_at (c.as_slice.ensures.value ∙ bytes) ∙ request_again c.take_number-number.result c.args.request.now c.in-Ok.ensures.form in
    λ number request e.
    let r : c.args.request.now ≡ request = request_is (request_at c.as_slice.result.now) number c.take_number-number.result request c.args.request.now e read in
    subst (λ (x : Request). g.F.Serve.may_serve c.args.serve.now x (length c.args.out.now)) r c.requires.may

pub returns-in-Ok-clause-call : goal.returns-in-Ok-clause-call
returns-in-Ok-clause-call g c =
    let bytes : c.put_request.new.buf.bytes ≡ request_bytes c.take_number-number.result c.args.request.now = grind (arith, c.in-Ok.ensures.ok.bytes, c.new-sent.ensures.bytes) in
    let read : request_at c.as_slice.result.now ≡ Ok (c.take_number-number.result, c.args.request.now) = ap request_at (c.as_slice.ensures.value ∙ bytes) ∙ request_again c.take_number-number.result c.args.request.now c.in-Ok.ensures.form in
    let sent = c.try_all.ensures.sent c.take_number-number.result c.args.request.now read in
    with_next g.F.Serve.served c.args.request.now c.try_all.result (g.L.Link.seen c.args.link.now) (g.L.Link.seen c.try_all.new.link) c.args.far.now.last c.try_all.new.far.last c.args.serve.now c.try_all.new.serve c.args.out.now c.try_all.new.out
    c.take_number-number.result c.args.near.now.next c.take_number-number.new.self.next c.take_number-number.ensures.number (ap (λ (e : CallerSeen). e.next) c.take_number-number.ensures.next) sent

pub returns-in-Ok-clause-told : goal.returns-in-Ok-clause-told
returns-in-Ok-clause-told g c =
    let bytes : c.put_request.new.buf.bytes ≡ request_bytes c.take_number-number.result c.args.request.now = grind (arith, c.in-Ok.ensures.ok.bytes, c.new-sent.ensures.bytes) in
    let read : request_at c.as_slice.result.now ≡ Ok (c.take_number-number.result, c.args.request.now) = ap request_at (c.as_slice.ensures.value ∙ bytes) ∙ request_again c.take_number-number.result c.args.request.now c.in-Ok.ensures.form in
    let sent = c.try_all.ensures.sent c.take_number-number.result c.args.request.now read in
    told_of (call_at c.args.request.now sent.0 c.try_all.result (g.L.Link.seen c.args.link.now) (g.L.Link.seen c.try_all.new.link) c.take_number-number.result (c.take_number-number.result + 1) c.args.far.now.last c.try_all.new.far.last c.args.serve.now c.try_all.new.serve c.args.out.now c.try_all.new.out) sent.1.ended

pub returns-in-Ok-clause-new : goal.returns-in-Ok-clause-new
returns-in-Ok-clause-new g c =
    let bytes : c.put_request.new.buf.bytes ≡ request_bytes c.take_number-number.result c.args.request.now = grind (arith, c.in-Ok.ensures.ok.bytes, c.new-sent.ensures.bytes) in
    let read : request_at c.as_slice.result.now ≡ Ok (c.take_number-number.result, c.args.request.now) = ap request_at (c.as_slice.ensures.value ∙ bytes) ∙ request_again c.take_number-number.result c.args.request.now c.in-Ok.ensures.form in
    let sent = c.try_all.ensures.sent c.take_number-number.result c.args.request.now read in
    let below : is_new c.take_number-number.result c.args.far.now.last ≡ true = subst (λ (k : ℕ). is_new k c.args.far.now.last ≡ true) (sym c.take_number-number.ensures.number) c.requires.new in
    let follows : c.take_number-number.result + 1 ≡ c.take_number-number.new.self.next = ap (λ (k : ℕ). k + 1) c.take_number-number.ensures.number ∙ sym (ap (λ (e : CallerSeen). e.next) c.take_number-number.ensures.next) in
    subst (λ (k : ℕ). is_new k c.try_all.new.far.last ≡ true) follows (later_of g.F.Serve.served (call_at c.args.request.now sent.0 c.try_all.result (g.L.Link.seen c.args.link.now) (g.L.Link.seen c.try_all.new.link) c.take_number-number.result (c.take_number-number.result + 1) c.args.far.now.last c.try_all.new.far.last c.args.serve.now c.try_all.new.serve c.args.out.now c.try_all.new.out) sent.1 below)

pub returns-in-Ok-clause-packets : goal.returns-in-Ok-clause-packets
returns-in-Ok-clause-packets g c =
    let bytes : c.put_request.new.buf.bytes ≡ request_bytes c.take_number-number.result c.args.request.now = grind (arith, c.in-Ok.ensures.ok.bytes, c.new-sent.ensures.bytes) in
    let read : request_at c.as_slice.result.now ≡ Ok (c.take_number-number.result, c.args.request.now) = ap request_at (c.as_slice.ensures.value ∙ bytes) ∙ request_again c.take_number-number.result c.args.request.now c.in-Ok.ensures.form in
    let sent = c.try_all.ensures.sent c.take_number-number.result c.args.request.now read in
    let b = bounds (call_at c.args.request.now sent.0 c.try_all.result (g.L.Link.seen c.args.link.now) (g.L.Link.seen c.try_all.new.link) c.take_number-number.result (c.take_number-number.result + 1) c.args.far.now.last c.try_all.new.far.last c.args.serve.now c.try_all.new.serve c.args.out.now c.try_all.new.out) sent.1.ended in
    (b.least, b.most)

pub returns-in-Ok-clause-test : goal.returns-in-Ok-clause-test
returns-in-Ok-clause-test g c =
    let bytes : c.put_request.new.buf.bytes ≡ request_bytes c.take_number-number.result c.args.request.now = grind (arith, c.in-Ok.ensures.ok.bytes, c.new-sent.ensures.bytes) in
    let read : request_at c.as_slice.result.now ≡ Ok (c.take_number-number.result, c.args.request.now) = ap request_at (c.as_slice.ensures.value ∙ bytes) ∙ request_again c.take_number-number.result c.args.request.now c.in-Ok.ensures.form in
    let sent = c.try_all.ensures.sent c.take_number-number.result c.args.request.now read in
    (bounds (call_at c.args.request.now sent.0 c.try_all.result (g.L.Link.seen c.args.link.now) (g.L.Link.seen c.try_all.new.link) c.take_number-number.result (c.take_number-number.result + 1) c.args.far.now.last c.try_all.new.far.last c.args.serve.now c.try_all.new.serve c.args.out.now c.try_all.new.out) sent.1.ended).test

pub returns-in-Ok-clause-count : goal.returns-in-Ok-clause-count
returns-in-Ok-clause-count g c =
    let bytes : c.put_request.new.buf.bytes ≡ request_bytes c.take_number-number.result c.args.request.now = grind (arith, c.in-Ok.ensures.ok.bytes, c.new-sent.ensures.bytes) in
    let read : request_at c.as_slice.result.now ≡ Ok (c.take_number-number.result, c.args.request.now) = ap request_at (c.as_slice.ensures.value ∙ bytes) ∙ request_again c.take_number-number.result c.args.request.now c.in-Ok.ensures.form in
    let sent = c.try_all.ensures.sent c.take_number-number.result c.args.request.now read in
    (bounds (call_at c.args.request.now sent.0 c.try_all.result (g.L.Link.seen c.args.link.now) (g.L.Link.seen c.try_all.new.link) c.take_number-number.result (c.take_number-number.result + 1) c.args.far.now.last c.try_all.new.far.last c.args.serve.now c.try_all.new.serve c.args.out.now c.try_all.new.out) sent.1.ended).count
