-- What a node writes can be sent, and whoever reads it knows what it means.
use Rattle.std.specs.Prelude.{◌&&◌, if◌then◌else◌}
use Rattle.std.proofs.Common.{◌≡◌, ℕ, ◌+◌, ◌<◌, sym, ◌∙◌, ap, refl, arith, Bool, true, false, cond, List, [], length}
use Rattle.tower_core.specs.declared.right.Right.{Right}
use Rattle.layer_laws.specs.Side.{Side}
use Rattle.pager_channel.specs.declared.operation.Operation.{Operation}
use Rattle.pager_channel.specs.Flags.{has_data, is_to_cache, is_to_file}
use Rattle.pager_channel.specs.Numbers.{IsOfObject}
use Rattle.page_messages.specs.declared.kinds.Asked.{Asked}
use Rattle.page_messages.specs.declared.kinds.Called.{Called}
use Rattle.page_messages.specs.Kept.{IsKept}
use Rattle.page_messages.specs.Rules.{MayAsk, MayServe, MayObey}
use Rattle.page_messages.specs.Rights.{IsForPage}
use Rattle.page_messages.specs.Letters.{IsLetter, is_paged, is_zeros, bare, question, answer, order, reply}
use Rattle.page_messages.proofs.KeptLaws.{write_some}

no_data : (b : Bool) → b ≡ false → b ≡ true → ⊥
no_data b none full = let no : true ≡ false = sym full ∙ none in cc

-- a letter without data, of flags below 8
bare_letter : (page_size : ℕ) (which : Operation) (right : Right) (flags : ℕ) → flags < 16 → is_to_cache flags && is_to_file flags ≡ false → IsOfObject flags which → has_data flags ≡ false → IsLetter page_size (bare which right flags)
bare_letter page_size which right flags low one object none = record {
  flags = low;
  one_object = one;
  object = object;
  paged = λ full. absurd (no_data (has_data flags) none full);
  body = ap (λ (b : Bool). cond b page_size 0) (sym none);
}

-- a letter that gives a copy back
pushed_letter : (page_size : ℕ) (s : Side) (which : Operation) (right : Right) (changed : Bool) (flags : ℕ) → length s.copy ≡ page_size → flags + 1 < 16 →
    is_to_cache flags && is_to_file flags ≡ false → IsOfObject flags which → has_data flags ≡ false →
    is_to_cache (flags + 1) && is_to_file (flags + 1) ≡ false → IsOfObject (flags + 1) which → has_data (flags + 1) ≡ true → is_paged which ≡ true →
    IsLetter page_size (record { which = which; right = right; flags = if changed then flags + 1 else flags; body = if changed then s.copy else [] })
pushed_letter page_size s which right true flags long low one object none one' object' full paged = record {
  flags = low;
  one_object = one';
  object = object';
  paged = λ _. paged;
  body = long ∙ ap (λ (b : Bool). cond b page_size 0) (sym full);
}
pushed_letter page_size s which right false flags long low one object none one' object' full paged = bare_letter page_size which right flags (omega (arith, low)) one object none

grant_letter : (page_size : ℕ) (right : Right) (page : List ℕ) (zeros : Bool) → length page ≡ page_size → IsLetter page_size (cond zeros (bare Operation.ZeroFill right 4) (record { which = Operation.PageIn; right = right; flags = 3; body = page }))
grant_letter page_size right page true long = bare_letter page_size Operation.ZeroFill right 4 (omega arith) refl (record { cache = refl; file = refl }) refl
grant_letter page_size right page false long = record { flags = omega arith; one_object = refl; object = record { cache = refl; file = refl }; paged = λ _. refl; body = long }

module _ (page_size children : ℕ) (s : Side) (kept : IsKept page_size children s) where
  pub question_letter : (what : Asked) → MayAsk s what → IsLetter page_size (question s what)
  question_letter Asked.PageInRead may = bare_letter page_size Operation.PageIn Right.Read 0 (omega arith) refl (record { cache = refl; file = refl }) refl
  question_letter Asked.PageInWrite may = bare_letter page_size Operation.PageIn Right.Write 0 (omega arith) refl (record { cache = refl; file = refl }) refl
  question_letter Asked.PageOut may = pushed_letter page_size s Operation.PageOut Right.Nothing s.changed 0 (kept.held may.0) (omega arith) refl (record { cache = refl; file = refl }) refl refl (record { cache = refl; file = refl }) refl refl
  question_letter Asked.WriteOut may = pushed_letter page_size s Operation.WriteOut Right.Read s.changed 0 (kept.held (write_some s.right may.0)) (omega arith) refl (record { cache = refl; file = refl }) refl refl (record { cache = refl; file = refl }) refl refl
  question_letter Asked.Sync may = pushed_letter page_size s Operation.Sync Right.Write s.changed 0 (kept.held (write_some s.right may)) (omega arith) refl (record { cache = refl; file = refl }) refl refl (record { cache = refl; file = refl }) refl refl
  question_letter Asked.Done may = bare_letter page_size Operation.Done Right.Nothing 0 (omega arith) refl (record { cache = refl; file = refl }) refl

  pub reply_letter : (what : Called) → MayObey s what → IsLetter page_size (reply s what)
  reply_letter Called.FlushBack may = pushed_letter page_size s Operation.FlushBack Right.Nothing s.changed 6 (kept.held (write_some s.right may.0)) (omega arith) refl (record { cache = refl; file = refl }) refl refl (record { cache = refl; file = refl }) refl refl
  reply_letter Called.DenyWrites may = pushed_letter page_size s Operation.DenyWrites Right.Read s.changed 6 (kept.held (write_some s.right may.0)) (omega arith) refl (record { cache = refl; file = refl }) refl refl (record { cache = refl; file = refl }) refl refl
  reply_letter Called.WriteBack may = pushed_letter page_size s Operation.WriteBack Right.Write s.changed 6 (kept.held (write_some s.right may)) (omega arith) refl (record { cache = refl; file = refl }) refl refl (record { cache = refl; file = refl }) refl refl
  reply_letter Called.DeleteRange may = bare_letter page_size Operation.DeleteRange Right.Nothing 6 (omega arith) refl (record { cache = refl; file = refl }) refl
  reply_letter Called.Destroy may = bare_letter page_size Operation.Destroy Right.Nothing 6 (omega arith) refl (record { cache = refl; file = refl }) refl

pub order_letter : (page_size : ℕ) (what : Called) → IsLetter page_size (order what)
order_letter page_size Called.FlushBack = bare_letter page_size Operation.FlushBack Right.Nothing 4 (omega arith) refl (record { cache = refl; file = refl }) refl
order_letter page_size Called.DenyWrites = bare_letter page_size Operation.DenyWrites Right.Read 4 (omega arith) refl (record { cache = refl; file = refl }) refl
order_letter page_size Called.WriteBack = bare_letter page_size Operation.WriteBack Right.Write 4 (omega arith) refl (record { cache = refl; file = refl }) refl
order_letter page_size Called.DeleteRange = bare_letter page_size Operation.DeleteRange Right.Nothing 4 (omega arith) refl (record { cache = refl; file = refl }) refl
order_letter page_size Called.Destroy = bare_letter page_size Operation.Destroy Right.Nothing 4 (omega arith) refl (record { cache = refl; file = refl }) refl

pub answer_letter : (page_size : ℕ) (right : Right) (page : List ℕ) (what : Asked) → (IsForPage what → length page ≡ page_size) → IsLetter page_size (answer right page what)
answer_letter page_size right page Asked.PageInRead long = grant_letter page_size Right.Read page (is_zeros page) (long tt)
answer_letter page_size Right.Nothing page Asked.PageInWrite long = grant_letter page_size Right.Write page (is_zeros page) (long tt)
answer_letter page_size Right.Read page Asked.PageInWrite long = bare_letter page_size Operation.PageIn Right.Write 2 (omega arith) refl (record { cache = refl; file = refl }) refl
answer_letter page_size Right.Write page Asked.PageInWrite long = bare_letter page_size Operation.PageIn Right.Write 2 (omega arith) refl (record { cache = refl; file = refl }) refl
answer_letter page_size right page Asked.PageOut long = bare_letter page_size Operation.PageOut Right.Nothing 2 (omega arith) refl (record { cache = refl; file = refl }) refl
answer_letter page_size right page Asked.WriteOut long = bare_letter page_size Operation.WriteOut Right.Read 2 (omega arith) refl (record { cache = refl; file = refl }) refl
answer_letter page_size right page Asked.Sync long = bare_letter page_size Operation.Sync Right.Write 2 (omega arith) refl (record { cache = refl; file = refl }) refl
answer_letter page_size right page Asked.Done long = bare_letter page_size Operation.Done Right.Nothing 2 (omega arith) refl (record { cache = refl; file = refl }) refl

-- a page that is granted is there
served_page : (page_size children : ℕ) (s : Side) (child : ℕ) (full : Bool) (what : Asked) → IsKept page_size children s → MayServe s child full what → IsForPage what → length s.copy ≡ page_size
served_page page_size children s child full Asked.PageInRead kept may for_page = kept.held may.0
served_page page_size children s child full Asked.PageInWrite kept may for_page = kept.held (write_some s.right may.0)
served_page page_size children s child full Asked.PageOut kept may for_page = elim for_page [ ]
served_page page_size children s child full Asked.WriteOut kept may for_page = elim for_page [ ]
served_page page_size children s child full Asked.Sync kept may for_page = elim for_page [ ]
served_page page_size children s child full Asked.Done kept may for_page = elim for_page [ ]

pub served_letter : (page_size children : ℕ) (s : Side) (child : ℕ) (full : Bool) (what : Asked) → IsKept page_size children s → MayServe s child full what → IsLetter page_size (answer (s.kids child) s.copy what)
served_letter page_size children s child full what kept may = answer_letter page_size (s.kids child) s.copy what (served_page page_size children s child full what kept may)
