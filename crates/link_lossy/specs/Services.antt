-- What serving a call gives, the reply to it, and what the caller has of that.
use Rattle.std.specs.Prelude.{ℕ, ◌^◌, ◌==◌, Bool, true, false, ◌&&◌, if◌then◌else◌, nat_lt, List, [], length, Option, Some, None, Result, Ok, Err}
use Rattle.std.specs.Option.{option_map}
use Rattle.hist_plain.specs.declared.event.Answer.{Answer}
use Rattle.hist_plain.specs.declared.event.Answer.TheVariants as answers
use Rattle.link_lossy.specs.declared.serve.Served.{Served}
use Rattle.link_lossy.specs.declared.serve.ServeErr.{ServeErr}
use Rattle.link_lossy.specs.declared.serve.ServeErr.TheVariants as refusals
use Rattle.link_lossy.specs.declared.refusal.LinkErr.{LinkErr}
use Rattle.link_lossy.specs.declared.refusal.LinkErr.TheVariants as errs
use Rattle.link_lossy.specs.Seen.{ReturnedSeen}

-- A SERVICE: the answer or the refusal, and the bytes that it left
pub record Service : Type 0 where
  pub answer : Result Served ServeErr
  pub bytes : List ℕ

-- the kind of an answer's reply, its value and its data
abbrev pub kind_of : Answer → ℕ
kind_of answers.Bytes = 0
kind_of answers.Done = 1
kind_of (answers.Life life) = 2
kind_of (answers.Revoked life) = 3

abbrev pub value_of : Answer → ℕ
value_of answers.Bytes = 0
value_of answers.Done = 0
value_of (answers.Life life) = life
value_of (answers.Revoked life) = life

abbrev pub data_of : Answer → List ℕ → List ℕ
data_of answers.Bytes bytes = bytes
data_of answers.Done bytes = []
data_of (answers.Life life) bytes = []
data_of (answers.Revoked life) bytes = []

-- THE REPLY to a call of this number and caller; there is none if serving it lacked memory
abbrev pub reply_of : ℕ → ℕ → Result Served ServeErr → List ℕ → Option ReturnedSeen
reply_of number caller (Ok served) bytes = Some (record { number = number; caller = caller; kind = kind_of served.answer; value = value_of served.answer; disk = 0; place = served.place; rest = data_of served.answer bytes })
reply_of number caller (Err (refusals.StoreFault disk count)) bytes = Some (record { number = number; caller = caller; kind = 4; value = count; disk = disk; place = 0; rest = [] })
reply_of number caller (Err refusals.TrailFull) bytes = Some (record { number = number; caller = caller; kind = 5; value = 0; disk = 0; place = 0; rest = [] })
reply_of number caller (Err refusals.Memory) bytes = None

-- whether serving lacked memory
abbrev pub is_memory : Result Served ServeErr → Bool
is_memory (Ok served) = false
is_memory (Err (refusals.StoreFault disk count)) = false
is_memory (Err refusals.TrailFull) = false
is_memory (Err refusals.Memory) = true

-- WHAT A CALL ANSWERS if the reply to its service comes
abbrev pub answer_to : Result Served ServeErr → Result Served LinkErr
answer_to (Ok served) = Ok served
answer_to (Err (refusals.StoreFault disk count)) = Err (errs.StoreFault disk count)
answer_to (Err refusals.TrailFull) = Err errs.TrailFull
answer_to (Err refusals.Memory) = Err errs.Memory

-- and what it leaves in `out`: the bytes that were read, else what was there
abbrev pub shown_of : Answer → List ℕ → List ℕ → List ℕ
shown_of answers.Bytes bytes out = bytes
shown_of answers.Done bytes out = out
shown_of (answers.Life life) bytes out = out
shown_of (answers.Revoked life) bytes out = out

abbrev pub shown : Result Served ServeErr → List ℕ → List ℕ → List ℕ
shown (Ok served) bytes out = shown_of served.answer bytes out
shown (Err why) bytes out = out

-- a number that a life can be
abbrev pub life_at : ℕ → Option ℕ
life_at value = if nat_lt value (2 ^ 32) then Some value else None

abbrev pub answered : Answer → ℕ → Result Served LinkErr
answered answer place = Ok (record { answer = answer; place = place })

-- what a call with an `out` of so many bytes answers by a reply. Nobody writes the kinds of a length now
abbrev pub result_of : ReturnedSeen → ℕ → Option (Result Served LinkErr)
result_of r len =
    if r.kind == 0 then (if length r.rest == len then Some (answered answers.Bytes r.place) else None) else (
    if r.kind == 1 then Some (answered answers.Done r.place) else (
    if r.kind == 2 then option_map {T = ℕ} (λ life. answered (answers.Life life) r.place) (life_at r.value) else (
    if r.kind == 3 then option_map {T = ℕ} (λ life. answered (answers.Revoked life) r.place) (life_at r.value) else (
    if r.kind == 4 then Some (Err (errs.StoreFault r.disk r.value)) else (
    if r.kind == 5 then Some (Err errs.TrailFull) else None)))))

-- what `out` has then
abbrev pub shown_by : ReturnedSeen → List ℕ → List ℕ
shown_by r out = if r.kind == 0 && length r.rest == length out then r.rest else out
