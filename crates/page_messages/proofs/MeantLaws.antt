-- What is written is read as it was meant.
use Rattle.std.specs.Prelude.{◌==◌, ◌&&◌, nat_lt}
use Rattle.std.specs.Bool.{then_some}
use Rattle.std.proofs.Common.{◌≡◌, ℕ, ◌+◌, ◌*◌, ◌/◌, ◌%◌, ◌<◌, sym, ◌∙◌, ap, refl, arith, Bool, true, false, cond, List, [], ◌∷◌, length, replicate, Some, None}
use Rattle.std.proofs.Math.Nat.{mul-div_cancel}
use Rattle.std.proofs.lemmas.Bool.{eq-eqb, lt-ltb}
use Rattle.std.proofs.lemmas.Nat.{mod-mul-add}
use Rattle.tower_core.specs.declared.right.Right.{Right}
use Rattle.layer_laws.specs.Side.{Side}
use Rattle.layer_laws.specs.Sent.{up_for}
use Rattle.pager_channel.specs.declared.operation.Operation.{Operation}
use Rattle.pager_channel.specs.declared.numbers.Ops.{Ops}
use Rattle.pager_channel.specs.Flags.{has_data}
use Rattle.page_messages.specs.declared.kinds.Asked.{Asked}
use Rattle.page_messages.specs.declared.kinds.Called.{Called}
use Rattle.page_messages.specs.declared.kinds.Answer.{Answer}
use Rattle.page_messages.specs.declared.paged.PagedFile.{PagedFile}
use Rattle.page_messages.specs.declared.paged.About.{About}
use Rattle.page_messages.specs.Carried.{about_sent, answered, asked_down, asked_up, called_up}
use Rattle.page_messages.specs.Kinds.{access_of, answer_in, asked_in, bytes_down, bytes_up, called_in, question_of, reply_in, reply_of, right_of}
use Rattle.page_messages.specs.Letters.{LetterSeen, answer, bare, is_paged, is_zeros, order, question, reply}
use Rattle.page_messages.specs.Paged.{IsPagedFile, about_of, page_at, placed}
use Rattle.page_messages.specs.Rights.{asked_right, called_right, IsForPage}
use Rattle.page_messages.specs.Sealed.{sealed}
use Rattle.page_messages.proofs.KindLaws.{both, same_number}

-- THE PAGE
no_rest : (p size : ℕ) → 0 < size → p * size % size ≡ 0
no_rest p size h = ap (λ (k : ℕ). k % size) (let e : p * size ≡ p * size + 0 = omega arith in e) ∙ mod-mul-add p size 0 h

-- a page's start is of that page
placed_page : (file : PagedFile) (page : ℕ) → IsPagedFile file → page < file.pages →
    then_some (file.page_size == file.page_size && page * file.page_size % file.page_size == 0 && nat_lt (page_at file (page * file.page_size)) file.pages) (About.Page (page_at file (page * file.page_size))) ≡ Some (About.Page page)
placed_page file page paged inside =
    let at : page * file.page_size / file.page_size ≡ page = mul-div_cancel page paged.some in
    rw (at, no_rest page file.page_size paged.some, eq-eqb file.page_size file.page_size refl, lt-ltb page file.pages inside) refl

placed_sent : (file : PagedFile) (page : ℕ) (which : Operation) → IsPagedFile file → page < file.pages →
    placed file which (cond (is_paged which) (page * file.page_size) 0) (cond (is_paged which) file.page_size 0) ≡ Some (about_sent which page)
placed_sent file page Operation.Done paged inside = refl
placed_sent file page Operation.Destroy paged inside = refl
placed_sent file page _ paged inside = placed_page file page paged inside

pub about_its_page : (ops : Ops) (file : PagedFile) (page : ℕ) (letter : LetterSeen) → IsPagedFile file → page < file.pages → about_of file (sealed ops file page letter) ≡ Some (about_sent letter.which page)
about_its_page ops file page letter paged inside = rw (eq-eqb file.number file.number refl) (placed_sent file page letter.which paged inside)

-- THE KIND
page_out_is : (changed : Bool) → question_of Operation.PageOut (cond changed 1 0) 0 ≡ Some Asked.PageOut
page_out_is true = refl
page_out_is false = refl

write_out_is : (changed : Bool) → question_of Operation.WriteOut (cond changed 1 0) 1 ≡ Some Asked.WriteOut
write_out_is true = refl
write_out_is false = refl

sync_is : (changed : Bool) → question_of Operation.Sync (cond changed 1 0) 2 ≡ Some Asked.Sync
sync_is true = refl
sync_is false = refl

pub question_is : (ops : Ops) (file : PagedFile) (page : ℕ) (s : Side) (what : Asked) → asked_in (sealed ops file page (question s what)) ≡ Some what
question_is ops file page s Asked.PageInRead = refl
question_is ops file page s Asked.PageInWrite = refl
question_is ops file page s Asked.PageOut = page_out_is s.changed
question_is ops file page s Asked.WriteOut = write_out_is s.changed
question_is ops file page s Asked.Sync = sync_is s.changed
question_is ops file page s Asked.Done = refl

-- a grant, with zeros or without
abbrev pub granted_page : Bool → Right → List ℕ → LetterSeen
granted_page zeros right bytes = cond zeros (bare Operation.ZeroFill right 4) (record { which = Operation.PageIn; right = right; flags = 3; body = bytes })

read_grant_is : (ops : Ops) (file : PagedFile) (page : ℕ) (bytes : List ℕ) (zeros : Bool) → answer_in (sealed ops file page (granted_page zeros Right.Read bytes)) ≡ Some Answer.Grant
read_grant_is ops file page bytes true = refl
read_grant_is ops file page bytes false = refl

write_grant_is : (ops : Ops) (file : PagedFile) (page : ℕ) (bytes : List ℕ) (zeros : Bool) → answer_in (sealed ops file page (granted_page zeros Right.Write bytes)) ≡ Some Answer.Grant
write_grant_is ops file page bytes true = refl
write_grant_is ops file page bytes false = refl

pub answer_is : (ops : Ops) (file : PagedFile) (page : ℕ) (right : Right) (bytes : List ℕ) (what : Asked) → answer_in (sealed ops file page (answer right bytes what)) ≡ Some (answered right what)
answer_is ops file page right bytes Asked.PageInRead = read_grant_is ops file page bytes (is_zeros bytes)
answer_is ops file page Right.Nothing bytes Asked.PageInWrite = write_grant_is ops file page bytes (is_zeros bytes)
answer_is ops file page Right.Read bytes Asked.PageInWrite = refl
answer_is ops file page Right.Write bytes Asked.PageInWrite = refl
answer_is ops file page right bytes Asked.PageOut = refl
answer_is ops file page right bytes Asked.WriteOut = refl
answer_is ops file page right bytes Asked.Sync = refl
answer_is ops file page right bytes Asked.Done = refl

pub order_is : (ops : Ops) (file : PagedFile) (page : ℕ) (what : Called) → called_in (sealed ops file page (order what)) ≡ Some what
order_is ops file page Called.FlushBack = refl
order_is ops file page Called.DenyWrites = refl
order_is ops file page Called.WriteBack = refl
order_is ops file page Called.DeleteRange = refl
order_is ops file page Called.Destroy = refl

flushed_is : (changed : Bool) → reply_of Operation.FlushBack (cond changed 7 6) 0 ≡ Some Called.FlushBack
flushed_is true = refl
flushed_is false = refl

denied_is : (changed : Bool) → reply_of Operation.DenyWrites (cond changed 7 6) 1 ≡ Some Called.DenyWrites
denied_is true = refl
denied_is false = refl

written_is : (changed : Bool) → reply_of Operation.WriteBack (cond changed 7 6) 2 ≡ Some Called.WriteBack
written_is true = refl
written_is false = refl

pub reply_is : (ops : Ops) (file : PagedFile) (page : ℕ) (s : Side) (what : Called) → reply_in (sealed ops file page (reply s what)) ≡ Some what
reply_is ops file page s Called.FlushBack = flushed_is s.changed
reply_is ops file page s Called.DenyWrites = denied_is s.changed
reply_is ops file page s Called.WriteBack = written_is s.changed
reply_is ops file page s Called.DeleteRange = refl
reply_is ops file page s Called.Destroy = refl

-- THE RIGHT
pub question_right : (ops : Ops) (file : PagedFile) (page : ℕ) (s : Side) (what : Asked) → right_of (sealed ops file page (question s what)).head.access ≡ asked_right what
question_right ops file page s Asked.PageInRead = refl
question_right ops file page s Asked.PageInWrite = refl
question_right ops file page s Asked.PageOut = refl
question_right ops file page s Asked.WriteOut = refl
question_right ops file page s Asked.Sync = refl
question_right ops file page s Asked.Done = refl

granted_right : (ops : Ops) (file : PagedFile) (page : ℕ) (right : Right) (bytes : List ℕ) (zeros : Bool) → (sealed ops file page (granted_page zeros right bytes)).head.access ≡ access_of right
granted_right ops file page right bytes true = refl
granted_right ops file page right bytes false = refl

pub answer_right : (ops : Ops) (file : PagedFile) (page : ℕ) (right : Right) (bytes : List ℕ) (what : Asked) → right_of (sealed ops file page (answer right bytes what)).head.access ≡ asked_right what
answer_right ops file page right bytes Asked.PageInRead = ap right_of (granted_right ops file page Right.Read bytes (is_zeros bytes))
answer_right ops file page Right.Nothing bytes Asked.PageInWrite = ap right_of (granted_right ops file page Right.Write bytes (is_zeros bytes))
answer_right ops file page Right.Read bytes Asked.PageInWrite = refl
answer_right ops file page Right.Write bytes Asked.PageInWrite = refl
answer_right ops file page right bytes Asked.PageOut = refl
answer_right ops file page right bytes Asked.WriteOut = refl
answer_right ops file page right bytes Asked.Sync = refl
answer_right ops file page right bytes Asked.Done = refl

pub order_right : (ops : Ops) (file : PagedFile) (page : ℕ) (what : Called) → right_of (sealed ops file page (order what)).head.access ≡ called_right what
order_right ops file page Called.FlushBack = refl
order_right ops file page Called.DenyWrites = refl
order_right ops file page Called.WriteBack = refl
order_right ops file page Called.DeleteRange = refl
order_right ops file page Called.Destroy = refl

pub reply_right : (ops : Ops) (file : PagedFile) (page : ℕ) (s : Side) (what : Called) → right_of (sealed ops file page (reply s what)).head.access ≡ called_right what
reply_right ops file page s Called.FlushBack = refl
reply_right ops file page s Called.DenyWrites = refl
reply_right ops file page s Called.WriteBack = refl
reply_right ops file page s Called.DeleteRange = refl
reply_right ops file page s Called.Destroy = refl

-- THE BYTES
-- a copy that is given back, of flags without data and with
pushed_up : (plain full : ℕ) (changed : Bool) (copy : List ℕ) → has_data plain ≡ false → has_data full ≡ true →
    cond (has_data (cond changed full plain)) (Some (cond changed copy [])) None ≡ up_for changed copy
pushed_up plain full true copy none some = rw some refl
pushed_up plain full false copy none some = rw none refl

pub question_up : (ops : Ops) (file : PagedFile) (page : ℕ) (s : Side) (what : Asked) → bytes_up (sealed ops file page (question s what)) ≡ asked_up s what
question_up ops file page s Asked.PageInRead = refl
question_up ops file page s Asked.PageInWrite = refl
question_up ops file page s Asked.PageOut = pushed_up 0 1 s.changed s.copy refl refl
question_up ops file page s Asked.WriteOut = pushed_up 0 1 s.changed s.copy refl refl
question_up ops file page s Asked.Sync = pushed_up 0 1 s.changed s.copy refl refl
question_up ops file page s Asked.Done = refl

-- bytes that are all zeros
pub zeros_are : (bytes : List ℕ) → is_zeros bytes ≡ true → bytes ≡ replicate (length bytes) 0
zeros_are [] h = refl
zeros_are (x ∷ xs) h =
    let t = both (x == 0) (is_zeros xs) h in
    ap (λ (k : ℕ). k ∷ xs) (same_number x 0 t.0) ∙ ap (λ (l : List ℕ). 0 ∷ l) (zeros_are xs t.1)

granted_down : (ops : Ops) (file : PagedFile) (page : ℕ) (right : Right) (bytes : List ℕ) (zeros : Bool) → is_zeros bytes ≡ zeros → length bytes ≡ file.page_size → bytes_down file.page_size (sealed ops file page (granted_page zeros right bytes)) ≡ Some bytes
granted_down ops file page right bytes true e long = ap Some (ap (λ (n : ℕ). replicate n 0) (sym long) ∙ sym (zeros_are bytes e))
granted_down ops file page right bytes false e long = refl

pub answer_down : (ops : Ops) (file : PagedFile) (page : ℕ) (right : Right) (bytes : List ℕ) (what : Asked) → (IsForPage what → length bytes ≡ file.page_size) → bytes_down file.page_size (sealed ops file page (answer right bytes what)) ≡ asked_down right bytes what
answer_down ops file page right bytes Asked.PageInRead long = granted_down ops file page Right.Read bytes (is_zeros bytes) refl (long tt)
answer_down ops file page Right.Nothing bytes Asked.PageInWrite long = granted_down ops file page Right.Write bytes (is_zeros bytes) refl (long tt)
answer_down ops file page Right.Read bytes Asked.PageInWrite long = refl
answer_down ops file page Right.Write bytes Asked.PageInWrite long = refl
answer_down ops file page right bytes Asked.PageOut long = refl
answer_down ops file page right bytes Asked.WriteOut long = refl
answer_down ops file page right bytes Asked.Sync long = refl
answer_down ops file page right bytes Asked.Done long = refl

pub order_down : (ops : Ops) (file : PagedFile) (page : ℕ) (what : Called) → bytes_down file.page_size (sealed ops file page (order what)) ≡ None
order_down ops file page Called.FlushBack = refl
order_down ops file page Called.DenyWrites = refl
order_down ops file page Called.WriteBack = refl
order_down ops file page Called.DeleteRange = refl
order_down ops file page Called.Destroy = refl

pub reply_up : (ops : Ops) (file : PagedFile) (page : ℕ) (s : Side) (what : Called) → bytes_up (sealed ops file page (reply s what)) ≡ called_up s what
reply_up ops file page s Called.FlushBack = pushed_up 6 7 s.changed s.copy refl refl
reply_up ops file page s Called.DenyWrites = pushed_up 6 7 s.changed s.copy refl refl
reply_up ops file page s Called.WriteBack = pushed_up 6 7 s.changed s.copy refl refl
reply_up ops file page s Called.DeleteRange = refl
reply_up ops file page s Called.Destroy = refl
