use Rattle.std.proofs.Common.{◌≡◌, true, false, List, ℕ, Some, None, Result, Ok, Err, refl, sym, ap, ◌∙◌}
use Rattle.std.proofs.lemmas.List.{length-take-le}
use Rattle.link_lossy.specs.declared.serve.Served.{Served}
use Rattle.link_lossy.specs.declared.serve.ServeErr.{ServeErr}
use Rattle.link_lossy.specs.declared.serve.ServeErr.TheVariants as refusals
use Rattle.link_lossy.specs.Seen.{ReturnedSeen}
use Rattle.link_lossy.specs.Reading.{reply_at}
use Rattle.link_lossy.specs.Services.{Service, is_memory, reply_of}
use Rattle.link_lossy.proofs.Replies.{reply_again}
use Rattle.link_lossy.proofs.ends.serve_into.Goals as goal

-- there is a reply exactly if memory did not run out
has_reply : (number caller : ℕ) (answer : Result Served ServeErr) (bytes : List ℕ) (r : ReturnedSeen) → reply_of number caller answer bytes ≡ Some r → is_memory answer ≡ false
has_reply number caller (Ok served) bytes r e = refl
has_reply number caller (Err (refusals.StoreFault disk count)) bytes r e = refl
has_reply number caller (Err refusals.TrailFull) bytes r e = refl
has_reply number caller (Err refusals.Memory) bytes r e = absurd cc

has_none : (number caller : ℕ) (answer : Result Served ServeErr) (bytes : List ℕ) → reply_of number caller answer bytes ≡ None → is_memory answer ≡ true
has_none number caller (Ok served) bytes e = absurd cc
has_none number caller (Err (refusals.StoreFault disk count)) bytes e = absurd cc
has_none number caller (Err refusals.TrailFull) bytes e = absurd cc
has_none number caller (Err refusals.Memory) bytes e = refl

pub returns-in-Some-clause-served : goal.returns-in-Some-clause-served
returns-in-Some-clause-served g c =
    let s : Service = record { answer = c.serve-served.result; bytes = c.serve-served.new.out } in
    let is : reply_of c.args.number c.args.caller s.answer s.bytes ≡ Some c.in-Some.reply = sym c.reply_of.ensures.value ∙ c.in-Some.is in (
      s,
      c.serve-served.ensures,
      c.serve-served.auto.out ∙ length-take-le c.args.len c.args.room.now c.requires.len,
      (
        has_reply c.args.number c.args.caller s.answer s.bytes c.in-Some.reply is,
        record {
          returned = c.in-Some.reply;
          is = is;
          read = ap reply_at c.keep.ensures.bytes ∙ reply_again c.in-Some.reply c.in-Some.ensures.form;
          answer = c.in-Some.ensures.answer;
        },
      ),
    )

pub returns-in-None-clause-served : goal.returns-in-None-clause-served
returns-in-None-clause-served g c =
    let s : Service = record { answer = c.serve-served.result; bytes = c.serve-served.new.out } in
    let is : reply_of c.args.number c.args.caller s.answer s.bytes ≡ None = sym c.reply_of.ensures.value ∙ c.in-None.is in
    (s, c.serve-served.ensures, c.serve-served.auto.out ∙ length-take-le c.args.len c.args.room.now c.requires.len, (has_none c.args.number c.args.caller s.answer s.bytes is, refl))
