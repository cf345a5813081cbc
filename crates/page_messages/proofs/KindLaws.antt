-- What the kind of a frame tells of its right and its data.
use Rattle.std.specs.Prelude.{◌==◌, ◌&&◌, ◌||◌, IsSomeAnd}
use Rattle.std.specs.Bool.{then_some}
use Rattle.std.proofs.Common.{◌≡◌, ◌≢◌, ℕ, inl, inr, sym, ◌∙◌, ap, subst, refl, Bool, true, false, cond, List, length, Option, Some, None}
use Rattle.std.proofs.lemmas.Bool.Decides.{eqb_tells}
use Rattle.std.proofs.lemmas.List.{length-replicate}
use Rattle.tower_core.specs.declared.right.Right.{Right}
use Rattle.pager_channel.specs.declared.operation.Operation.{Operation}
use Rattle.pager_channel.specs.Flags.{has_data}
use Rattle.page_messages.specs.declared.kinds.Asked.{Asked}
use Rattle.page_messages.specs.declared.kinds.Called.{Called}
use Rattle.page_messages.specs.declared.kinds.Answer.{Answer}
use Rattle.page_messages.specs.Kinds.{question_of, order_of, answer_of, reply_of, right_of, page_asked, is_with_or_without, is_granted, bytes_by}
use Rattle.page_messages.specs.Rights.{asked_right, called_right, Pushes, GivesBack}

pub both : (a b : Bool) → (a && b) ≡ true → (a ≡ true) × (b ≡ true)
both true b e = (refl, e)
both false b e = absurd cc

pub chosen : {A : Type 0} (b : Bool) (x y : A) → then_some b x ≡ Some y → (b ≡ true) × (x ≡ y)
chosen true x y e = (refl, cc)
chosen false x y e = absurd cc

pub same_number : (a b : ℕ) → (a == b) ≡ true → a ≡ b
same_number a b e = elim (eqb_tells a b) [ inl t ↦ t.1 | inr n ↦ absurd (let no : true ≡ false = sym e ∙ n.0 in let f : ⊥ = cc in f) ]

-- a test of the flags, and one of the right
record IsTested {A : Type 0} (flags_ok : Bool) (access n : ℕ) (x y : A) : Type 0 where
  flags : flags_ok ≡ true
  access_is : access ≡ n
  same : x ≡ y

tested : {A : Type 0} (flags_ok : Bool) (access n : ℕ) (x y : A) → then_some (flags_ok && (access == n)) x ≡ Some y → IsTested flags_ok access n x y
tested flags_ok access n x y e =
    let c = chosen (flags_ok && (access == n)) x y e in
    let b = both flags_ok (access == n) c.0 in
    record { flags = b.0; access_is = same_number access n b.1; same = c.1 }

-- flags that are these have no data, where these have none
bare_flags : (flags n : ℕ) → (flags == n) ≡ true → has_data n ≡ false → has_data flags ≡ true → ⊥
bare_flags flags n t none full = let no : true ≡ false = sym full ∙ ap has_data (same_number flags n t) ∙ none in let f : ⊥ = cc in f

-- A QUESTION
pub record IsAsking (what : Asked) (flags access : ℕ) : Type 0 where
  pub right : right_of access ≡ asked_right what
  pub full : has_data flags ≡ true → Pushes what

page_asks : (access : ℕ) (what : Asked) → page_asked access ≡ Some what → right_of access ≡ asked_right what
page_asks access what e = elim (eqb_tells access 1) [
  | inl one ↦ ap right_of one.1 ∙ ap asked_right (let e' : ◌≡◌ {A = Option Asked} (Some Asked.PageInRead) (Some what) = subst (λ (b : Bool). cond b (Some Asked.PageInRead) (then_some (access == 2) Asked.PageInWrite) ≡ Some what) one.0 e in let s : Asked.PageInRead ≡ what = cc in s)
  | inr other ↦
      let c = chosen (access == 2) Asked.PageInWrite what (subst (λ (b : Bool). cond b (Some Asked.PageInRead) (then_some (access == 2) Asked.PageInWrite) ≡ Some what) other.0 e) in
      ap right_of (same_number access 2 c.0) ∙ ap asked_right c.1
]

asks : (flags_ok : Bool) (flags access n : ℕ) (x what : Asked) → right_of n ≡ asked_right x → (has_data flags ≡ true → flags_ok ≡ true → Pushes x) → then_some (flags_ok && (access == n)) x ≡ Some what → IsAsking what flags access
asks flags_ok flags access n x what right full e =
    let t = tested flags_ok access n x what e in
    record { right = ap right_of t.access_is ∙ right ∙ ap asked_right t.same; full = λ d. subst Pushes t.same (full d t.flags) }

pub question_says : (which : Operation) (flags access : ℕ) (what : Asked) → question_of which flags access ≡ Some what → IsAsking what flags access
question_says Operation.PageIn flags access what e = elim (eqb_tells flags 0) [
  | inl zero ↦ record {
    right = page_asks access what (subst (λ (b : Bool). cond b (page_asked access) None ≡ Some what) zero.0 e);
    full = λ d. absurd (bare_flags flags 0 zero.0 refl d);
  }
  | inr other ↦ absurd (let e' : ◌≡◌ {A = Option Asked} None (Some what) = subst (λ (b : Bool). cond b (page_asked access) None ≡ Some what) other.0 e in let f : ⊥ = cc in f)
]
question_says Operation.PageOut flags access what e = asks (is_with_or_without 0 flags) flags access 0 Asked.PageOut what refl (λ d t. tt) e
question_says Operation.WriteOut flags access what e = asks (is_with_or_without 0 flags) flags access 1 Asked.WriteOut what refl (λ d t. tt) e
question_says Operation.Sync flags access what e = asks (is_with_or_without 0 flags) flags access 2 Asked.Sync what refl (λ d t. tt) e
question_says Operation.Done flags access what e = asks (flags == 0) flags access 0 Asked.Done what refl (λ d t. absurd (bare_flags flags 0 t refl d)) e
question_says which flags access what e = absurd cc

-- AN ORDER has no data
pub record IsOrdering (size : ℕ) (which : Operation) (what : Called) (flags access : ℕ) : Type 0 where
  pub right : right_of access ≡ called_right what
  pub bare : has_data flags ≡ false
  pub brings : (sent : Option (List ℕ)) → bytes_by size which sent ≡ sent

orders : (size : ℕ) (which : Operation) (flags access n : ℕ) (x what : Called) → right_of n ≡ called_right x → ((sent : Option (List ℕ)) → bytes_by size which sent ≡ sent) → then_some ((flags == 4) && (access == n)) x ≡ Some what → IsOrdering size which what flags access
orders size which flags access n x what right brings e =
    let t = tested (flags == 4) access n x what e in
    record { right = ap right_of t.access_is ∙ right ∙ ap called_right t.same; bare = ap has_data (same_number flags 4 t.flags); brings = brings }

pub order_says : (size : ℕ) (which : Operation) (flags access : ℕ) (what : Called) → order_of which flags access ≡ Some what → IsOrdering size which what flags access
order_says size Operation.FlushBack flags access what e = orders size Operation.FlushBack flags access 0 Called.FlushBack what refl (λ sent. refl) e
order_says size Operation.DenyWrites flags access what e = orders size Operation.DenyWrites flags access 1 Called.DenyWrites what refl (λ sent. refl) e
order_says size Operation.WriteBack flags access what e = orders size Operation.WriteBack flags access 2 Called.WriteBack what refl (λ sent. refl) e
order_says size Operation.DeleteRange flags access what e = orders size Operation.DeleteRange flags access 0 Called.DeleteRange what refl (λ sent. refl) e
order_says size Operation.Destroy flags access what e = orders size Operation.Destroy flags access 0 Called.Destroy what refl (λ sent. refl) e
order_says size which flags access what e = absurd cc

-- AN ANSWER TO AN ORDER
pub record IsReplying (what : Called) (flags access : ℕ) : Type 0 where
  pub right : right_of access ≡ called_right what
  pub full : has_data flags ≡ true → GivesBack what

replies : (flags_ok : Bool) (flags access n : ℕ) (x what : Called) → right_of n ≡ called_right x → (has_data flags ≡ true → flags_ok ≡ true → GivesBack x) → then_some (flags_ok && (access == n)) x ≡ Some what → IsReplying what flags access
replies flags_ok flags access n x what right full e =
    let t = tested flags_ok access n x what e in
    record { right = ap right_of t.access_is ∙ right ∙ ap called_right t.same; full = λ d. subst GivesBack t.same (full d t.flags) }

pub reply_says : (which : Operation) (flags access : ℕ) (what : Called) → reply_of which flags access ≡ Some what → IsReplying what flags access
reply_says Operation.FlushBack flags access what e = replies (is_with_or_without 6 flags) flags access 0 Called.FlushBack what refl (λ d t. tt) e
reply_says Operation.DenyWrites flags access what e = replies (is_with_or_without 6 flags) flags access 1 Called.DenyWrites what refl (λ d t. tt) e
reply_says Operation.WriteBack flags access what e = replies (is_with_or_without 6 flags) flags access 2 Called.WriteBack what refl (λ d t. tt) e
reply_says Operation.DeleteRange flags access what e = replies (flags == 6) flags access 0 Called.DeleteRange what refl (λ d t. absurd (bare_flags flags 6 t refl d)) e
reply_says Operation.Destroy flags access what e = replies (flags == 6) flags access 0 Called.Destroy what refl (λ d t. absurd (bare_flags flags 6 t refl d)) e
reply_says which flags access what e = absurd cc

-- AN ANSWER: a grant brings a page, and no other answer has data
pub record IsGranting (size : ℕ) (which : Operation) (flags access : ℕ) : Type 0 where
  pub given : right_of access ≢ Right.Nothing
  pub brings : (body : List ℕ) → (has_data flags ≡ true → length body ≡ size) → IsSomeAnd (bytes_by size which (cond (has_data flags) (Some body) None)) (λ bytes. length bytes ≡ size)

abbrev pub settled_right : Answer → Right
settled_right Answer.Upgrade = Right.Write
settled_right Answer.WriteOut = Right.Read
settled_right Answer.Sync = Right.Write
settled_right what = Right.Nothing

pub record IsSettling (size : ℕ) (which : Operation) (what : Answer) (flags access : ℕ) : Type 0 where
  pub right : right_of access ≡ settled_right what
  pub brings : (body : List ℕ) → bytes_by size which (cond (has_data flags) (Some body) None) ≡ None

abbrev pub AnswerSays : ℕ → Operation → Answer → ℕ → ℕ → Type 0
AnswerSays size which Answer.Grant flags access = IsGranting size which flags access
AnswerSays size which what flags access = IsSettling size which what flags access

granted_some : (access : ℕ) → is_granted access ≡ true → right_of access ≢ Right.Nothing
granted_some access e = elim (eqb_tells access 1) [
  | inl one ↦ λ n. let no : Right.Read ≡ Right.Nothing = sym (ap right_of one.1) ∙ n in cc
  | inr other ↦
      let two : (access == 2) ≡ true = subst (λ (b : Bool). (b || (access == 2)) ≡ true) other.0 e in
      λ n. let no : Right.Write ≡ Right.Nothing = sym (ap right_of (same_number access 2 two)) ∙ n in cc
]

no_data : (flags n : ℕ) (body : List ℕ) → (flags == n) ≡ true → has_data n ≡ false → cond (has_data flags) (Some body) None ≡ None
no_data flags n body t none = ap (λ (b : Bool). cond b (Some body) None) (ap has_data (same_number flags n t) ∙ none)

settles : (size : ℕ) (which : Operation) (flags access n : ℕ) (x what : Answer) → ((what : Answer) → x ≡ what → IsSettling size which what flags access → AnswerSays size which what flags access) → right_of n ≡ settled_right x → ((s : Option (List ℕ)) → bytes_by size which s ≡ s) →
    then_some ((flags == 2) && (access == n)) x ≡ Some what → AnswerSays size which what flags access
settles size which flags access n x what into right brings e =
    let t = tested (flags == 2) access n x what e in
    into what t.same (record {
      right = ap right_of t.access_is ∙ right ∙ ap settled_right t.same;
      brings = λ body. brings (cond (has_data flags) (Some body) None) ∙ no_data flags 2 body t.flags refl;
    })

-- what is no grant
no_grant : (size : ℕ) (which : Operation) (flags access : ℕ) (x what : Answer) → x ≢ Answer.Grant → x ≡ what → IsSettling size which what flags access → AnswerSays size which what flags access
no_grant size which flags access x Answer.Grant d e h = absurd (d e)
no_grant size which flags access x Answer.Upgrade d e h = h
no_grant size which flags access x Answer.PageOut d e h = h
no_grant size which flags access x Answer.WriteOut d e h = h
no_grant size which flags access x Answer.Sync d e h = h
no_grant size which flags access x Answer.Done d e h = h

granting : (size : ℕ) (which : Operation) (flags access : ℕ) (what : Answer) → Answer.Grant ≡ what → IsGranting size which flags access → AnswerSays size which what flags access
granting size which flags access what e g = subst (λ (a : Answer). AnswerSays size which a flags access) e g

full_page : (b : Bool) (size : ℕ) (body : List ℕ) → b ≡ true → (b ≡ true → length body ≡ size) → IsSomeAnd (cond b (Some body) None) (λ bytes. length bytes ≡ size)
full_page true size body e h = h refl
full_page false size body e h = absurd cc

pub answer_says : (size : ℕ) (which : Operation) (flags access : ℕ) (what : Answer) → answer_of which flags access ≡ Some what → AnswerSays size which what flags access
answer_says size Operation.PageIn flags access what e = elim (eqb_tells flags 3) [
  | inl three ↦
      let c = chosen (is_granted access) Answer.Grant what (subst (λ (b : Bool). cond b (then_some (is_granted access) Answer.Grant) (then_some ((flags == 2) && (access == 2)) Answer.Upgrade) ≡ Some what) three.0 e) in
      granting size Operation.PageIn flags access what c.1 (record {
        given = granted_some access c.0;
        brings = λ body h. full_page (has_data flags) size body (ap has_data three.1) h;
      })
  | inr other ↦ settles size Operation.PageIn flags access 2 Answer.Upgrade what (λ w t h. no_grant size Operation.PageIn flags access Answer.Upgrade w (λ x. cc) t h) refl (λ s. refl)
      (subst (λ (b : Bool). cond b (then_some (is_granted access) Answer.Grant) (then_some ((flags == 2) && (access == 2)) Answer.Upgrade) ≡ Some what) other.0 e)
]
answer_says size Operation.ZeroFill flags access what e =
    let c = chosen ((flags == 4) && is_granted access) Answer.Grant what e in
    granting size Operation.ZeroFill flags access what c.1 (record {
      given = granted_some access (both (flags == 4) (is_granted access) c.0).1;
      brings = λ body h. length-replicate size 0;
    })
answer_says size Operation.PageOut flags access what e = settles size Operation.PageOut flags access 0 Answer.PageOut what (λ w t h. no_grant size Operation.PageOut flags access Answer.PageOut w (λ x. cc) t h) refl (λ s. refl) e
answer_says size Operation.WriteOut flags access what e = settles size Operation.WriteOut flags access 1 Answer.WriteOut what (λ w t h. no_grant size Operation.WriteOut flags access Answer.WriteOut w (λ x. cc) t h) refl (λ s. refl) e
answer_says size Operation.Sync flags access what e = settles size Operation.Sync flags access 2 Answer.Sync what (λ w t h. no_grant size Operation.Sync flags access Answer.Sync w (λ x. cc) t h) refl (λ s. refl) e
answer_says size Operation.Done flags access what e = settles size Operation.Done flags access 0 Answer.Done what (λ w t h. no_grant size Operation.Done flags access Answer.Done w (λ x. cc) t h) refl (λ s. refl) e
answer_says size which flags access what e = absurd cc
