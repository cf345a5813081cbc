-- An exchange of a node and the ground: what was written, and what was read of it.
use Rattle.std.specs.Prelude.{IsErrAnd, IfErr}
use Rattle.std.proofs.Common.{◌⊎◌, inl, inr, Result, Ok, Err, ◌≡◌, ◌≢◌, ℕ, ◌<◌, sym, ◌∙◌, ap, subst, refl, true, List, length, Option, Some, None}
use Rattle.page_ground.specs.Seen.{Seen}
use Rattle.tower_core.specs.declared.right.Right.{Right}
use Rattle.layer_laws.specs.Side.{Side}
use Rattle.pager_channel.specs.declared.numbers.Ops.{Ops}
use Rattle.pager_channel.specs.Flags.{has_data}
use Rattle.pager_channel.specs.Seen.{FrameSeen}
use Rattle.page_messages.specs.declared.kinds.Asked.{Asked}
use Rattle.page_messages.specs.declared.kinds.Called.{Called}
use Rattle.page_messages.specs.declared.paged.About.{About}
use Rattle.page_messages.specs.declared.paged.PagedFile.{PagedFile}
use Rattle.page_messages.specs.Carried.{asked_up, called_up}
use Rattle.page_messages.specs.Kinds.{called_in, bytes_up}
use Rattle.page_messages.specs.Letters.{question, answer, order, reply}
use Rattle.page_messages.specs.Paged.{about_of}
use Rattle.page_messages.specs.Rights.{called_right, IsForPage}
use Rattle.page_messages.specs.Sealed.{sealed}
use Rattle.page_messages.proofs.MeantLaws as meant
use Rattle.page_messages.proofs.KeptLaws.{write_some}
use Rattle.coherency_layer.specs.Node.{about_called}
use Rattle.vmm_cache.specs.Uses.{uses_called}
use Rattle.page_exchange.specs.declared.table.Table.{Table}
use Rattle.page_exchange.specs.Table.{AllowsAnswer, AllowsOrder, IsForFirstCopy, MayAskAbout, MayObeyAbout, Obeys, Takes, file_of, reply_to, side, uses_of}
use Rattle.page_exchange.specs.declared.ground.GroundErr.{GroundErr}
use Rattle.page_exchange.specs.declared.ground.GroundErr.TheVariants as errors
use Rattle.page_exchange.specs.Exchange.{IsOwnChange, LacksCopy}
use Rattle.page_exchange.specs.Ground.{IsOneCall, IsCalmCall, IsOfGround, IsAnswered, IsWhy, UnlessFault, pages_given}
use Rattle.page_exchange.specs.Wire.{AreSent}
use Rattle.page_exchange.proofs.Exchanges.{Reads}
use Rattle.page_exchange.proofs.Frames as frames
use Rattle.page_exchange.proofs.Owns as owns

-- data are a page
question_sized : (ops : Ops) (file : PagedFile) (page : ℕ) (s : Side) (what : Asked) → has_data (sealed ops file page (question s what)).head.flags ≡ true → (sealed ops file page (question s what)).head.size ≡ file.page_size
question_sized ops file page s Asked.PageInRead full = refl
question_sized ops file page s Asked.PageInWrite full = refl
question_sized ops file page s Asked.PageOut full = refl
question_sized ops file page s Asked.WriteOut full = refl
question_sized ops file page s Asked.Sync full = refl
question_sized ops file page s Asked.Done full = absurd cc

reply_sized : (ops : Ops) (file : PagedFile) (page : ℕ) (s : Side) (what : Called) → has_data (sealed ops file page (reply s what)).head.flags ≡ true → (sealed ops file page (reply s what)).head.size ≡ file.page_size
reply_sized ops file page s Called.FlushBack full = refl
reply_sized ops file page s Called.DenyWrites full = refl
reply_sized ops file page s Called.WriteBack full = refl
reply_sized ops file page s Called.DeleteRange full = refl
reply_sized ops file page s Called.Destroy full = absurd cc

-- what asks for a page takes none up, and what takes one up asks for none
asks_or_gives : (s : Side) (what : Asked) → (asked_up s what ≡ None) ⊎ (IsForPage what → ⊥)
asks_or_gives s Asked.PageInRead = inl refl
asks_or_gives s Asked.PageInWrite = inl refl
asks_or_gives s Asked.PageOut = inr (λ h. h)
asks_or_gives s Asked.WriteOut = inr (λ h. h)
asks_or_gives s Asked.Sync = inr (λ h. h)
asks_or_gives s Asked.Done = inl refl

-- who has nothing gives nothing
gives_nothing : (own : Table) (what : Asked) (page : ℕ) → MayAskAbout own what page → (side own page).right ≡ Right.Nothing → asked_up (side own page) what ≡ None
gives_nothing own Asked.PageInRead page may e = refl
gives_nothing own Asked.PageInWrite page may e = refl
gives_nothing own Asked.PageOut page may e = absurd ((owns.may_ask own Asked.PageOut page (λ d. cc) may).0 e)
gives_nothing own Asked.WriteOut page may e = absurd (write_some (side own page).right (owns.may_ask own Asked.WriteOut page (λ d. cc) may).0 e)
gives_nothing own Asked.Sync page may e = absurd (write_some (side own page).right (owns.may_ask own Asked.Sync page (λ d. cc) may) e)
gives_nothing own Asked.Done page may e = refl

given_pages : (page : ℕ) (up up' : Option (List ℕ)) (pages pages' new : Option (List (List ℕ))) → up ≡ up' → pages ≡ pages' → new ≡ pages_given page up pages → new ≡ pages_given page up' pages'
given_pages page up up' pages pages' new e e' is = is ∙ ap (λ (u : Option (List ℕ)). pages_given page u pages) e ∙ ap (pages_given page up') e'

pub once_size : (before after : Seen) → IsOneCall before after → after.page_size ≡ before.page_size
once_size before after (inl same) = ap (λ (s : Seen). s.page_size) same
once_size before after (inr keeps) = keeps.same_size

pub memory_why : {A : Type 0} (r : Result A GroundErr) (before after : Seen) (own : Table) (page : ℕ) → IsErrAnd r (λ e. e ≡ errors.Memory) → LacksCopy own page → IfErr r (IsWhy before after own page)
memory_why (Ok x) before after own page is h = tt
memory_why (Err e) before after own page is h = subst (IsWhy before after own page) (sym is) h

pub unless_memory : {A : Type 0} (r : Result A GroundErr) (P : Type 0) → IsErrAnd r (λ e. e ≡ errors.Memory) → P → UnlessFault r P
unless_memory {A = A} (Ok x) P is h = h
unless_memory {A = A} (Err e) P is h = subst (λ (e : GroundErr). UnlessFault {A = A} (Err e) P) (sym is) h

-- what the ground writes is of the node's file and right
pub answer_of_own : (ops : Ops) (own : Table) (page : ℕ) (what : Asked) (bytes second : List ℕ) (file : PagedFile) (right : Right) → file ≡ file_of own → right ≡ (side own page).right
    → AreSent ops second (sealed ops file page (answer right bytes what)) → AreSent ops second (sealed ops (file_of own) page (answer (side own page).right bytes what))
answer_of_own ops own page what bytes second file right is has sent =
    subst (λ (f : PagedFile). AreSent ops second (sealed ops f page (answer (side own page).right bytes what))) is
    (subst (λ (r : Right). AreSent ops second (sealed ops file page (answer r bytes what))) has sent)

pub order_of_own : (ops : Ops) (own : Table) (page : ℕ) (what : Called) (first : List ℕ) (file : PagedFile) → file ≡ file_of own
    → AreSent ops first (sealed ops file page (order what)) → AreSent ops first (sealed ops (file_of own) page (order what))
order_of_own ops own page what first file is sent = subst (λ (f : PagedFile). AreSent ops first (sealed ops f page (order what))) is sent

-- A QUESTION of a node, and the ground's answer
module _ (ops : Ops) (own : Table) (page : ℕ) (what : Asked) (first : List ℕ) (q : FrameSeen) (may : MayAskAbout own what page) (asked : AreSent ops first (sealed ops (file_of own) page (question (side own page) what))) (read : Reads ops first q) where
  q_is : q ≡ sealed ops (file_of own) page (question (side own page) what)
  q_is = read (sealed ops (file_of own) page (question (side own page) what)) asked

  pub asked_sized : has_data q.head.flags ≡ true → q.head.size ≡ (file_of own).page_size
  asked_sized = subst (λ (f : FrameSeen). has_data f.head.flags ≡ true → f.head.size ≡ (file_of own).page_size) (sym q_is) (question_sized ops (file_of own) page (side own page) what)

  q_up : bytes_up q ≡ asked_up (side own page) what
  q_up = ap bytes_up q_is ∙ meant.question_up ops (file_of own) page (side own page) what

  pub asked_once : (before mid after : Seen) → IsOneCall before mid → ((IsForPage what → (side own page).right ≢ Right.Nothing) → mid ≡ before) → IsOneCall mid after → (bytes_up q ≡ None → after ≡ mid) → IsOneCall before after
  asked_once before mid after one idle two still = elim (asks_or_gives (side own page) what) [
    | inl none ↦ subst (IsOneCall before) (sym (still (q_up ∙ none))) one
    | inr other ↦ subst (λ (s : Seen). IsOneCall s after) (idle (λ h. absurd (other h))) two
  ]

  pub asked_calm : (before mid after : Seen) → IsCalmCall before mid → ((IsForPage what → (side own page).right ≢ Right.Nothing) → mid ≡ before) → IsCalmCall mid after → (bytes_up q ≡ None → after ≡ mid) → IsCalmCall before after
  asked_calm before mid after one idle two still = elim (asks_or_gives (side own page) what) [
    | inl none ↦ subst (IsCalmCall before) (sym (still (q_up ∙ none))) one
    | inr other ↦ subst (λ (s : Seen). IsCalmCall s after) (idle (λ h. absurd (other h))) two
  ]

  -- nothing is asked for and nothing comes up
  pub asked_idle : (before mid after : Seen) → ((IsForPage what → (side own page).right ≢ Right.Nothing) → mid ≡ before) → (bytes_up q ≡ None → after ≡ mid) → (IsForPage what → (side own page).right ≢ Right.Nothing) → asked_up (side own page) what ≡ None → after ≡ before
  asked_idle before mid after idle still has none = still (q_up ∙ none) ∙ idle has

  pub asked_given : (pages pages' new : Option (List (List ℕ))) → pages ≡ pages' → new ≡ pages_given page (bytes_up q) pages → new ≡ pages_given page (asked_up (side own page) what) pages'
  asked_given pages pages' new e is = given_pages page (bytes_up q) (asked_up (side own page) what) pages pages' new q_up e is

  module _ (bytes second : List ℕ) (a : FrameSeen) (answered : AreSent ops second (sealed ops (file_of own) page (answer (side own page).right bytes what))) (heard : Reads ops second a) where
    a_is : a ≡ sealed ops (file_of own) page (answer (side own page).right bytes what)
    a_is = heard (sealed ops (file_of own) page (answer (side own page).right bytes what)) answered

    pub ground_taken : AllowsAnswer own a
    ground_taken = subst (AllowsAnswer own) (sym a_is) (frames.answer_taken ops own page what bytes may)

    pub ground_lacks : IsForFirstCopy own a → LacksCopy own page
    ground_lacks h = owns.lacks_copy own page a what (ap (about_of (file_of own)) a_is ∙ frames.answers_about ops own page what bytes may) h

    -- then the ground was not written
    pub ground_same : (pages pages' new : Option (List (List ℕ))) → pages ≡ pages' → new ≡ pages_given page (bytes_up q) pages → IsForFirstCopy own a → new ≡ pages'
    ground_same pages pages' new e is h = is ∙ ap (λ (u : Option (List ℕ)). pages_given page u pages) (q_up ∙ gives_nothing own what page may (ground_lacks h).nothing) ∙ e

    pub ground_answered : (pages : Option (List (List ℕ))) (own' : Table) (packet packet' : List ℕ) → length bytes ≡ (file_of own).page_size → IsOfGround pages own what page bytes → Takes own own' a → IsAnswered pages (record { ops = ops; first = first; second = second; first_packet = packet; second_packet = packet' }) own own' what page
    ground_answered pages own' packet packet' long of c = record {
      bytes = bytes;
      read = of;
      frames = record { asks = asked; answers = answered };
      change = frames.answer_made ops own page what bytes may own' (λ h. long) (subst (Takes own own') a_is c);
    }

-- AN ORDER of the ground, and a node's answer
module _ (ops : Ops) (own : Table) (page : ℕ) (what : Called) (first : List ℕ) (o : FrameSeen) (inside : page < (file_of own).pages) (obeys : MayObeyAbout own what page)
    (called : AreSent ops first (sealed ops (file_of own) page (order what))) (read : Reads ops first o) where
  o_is : o ≡ sealed ops (file_of own) page (order what)
  o_is = read (sealed ops (file_of own) page (order what)) called

  pub ground_obeyed : AllowsOrder own o
  ground_obeyed = subst (AllowsOrder own) (sym o_is) (frames.order_obeyed ops own page what inside obeys)

  pub ordered_made : (own' : Table) → Obeys own own' o → IsOwnChange own own' (about_called what page) (called_right what) None (uses_called what page (uses_of own))
  ordered_made own' c = frames.order_made ops own page what inside own' (subst (Obeys own own') o_is c)

  module _ (second : List ℕ) (replied : (what : Called) (about : About) → called_in o ≡ Some what → about_of (file_of own) o ≡ Some about → AreSent ops second (reply_to ops own what about)) where
    pub ground_reply : AreSent ops second (sealed ops (file_of own) page (reply (side own page) what))
    ground_reply = subst (AreSent ops second) (frames.reply_is ops own page what inside)
        (replied what (about_called what page) (ap called_in o_is ∙ meant.order_is ops (file_of own) page what)
        (ap (about_of (file_of own)) o_is ∙ frames.orders_about ops own page what inside))

    module _ (r : FrameSeen) (heard : Reads ops second r) where
      r_is : r ≡ sealed ops (file_of own) page (reply (side own page) what)
      r_is = heard (sealed ops (file_of own) page (reply (side own page) what)) ground_reply

      pub reply_is_page : has_data r.head.flags ≡ true → r.head.size ≡ (file_of own).page_size
      reply_is_page = subst (λ (f : FrameSeen). has_data f.head.flags ≡ true → f.head.size ≡ (file_of own).page_size) (sym r_is) (reply_sized ops (file_of own) page (side own page) what)

      pub reply_idle : (before after : Seen) → (bytes_up r ≡ None → after ≡ before) → called_up (side own page) what ≡ None → after ≡ before
      reply_idle before after still none = still (ap bytes_up r_is ∙ meant.reply_up ops (file_of own) page (side own page) what ∙ none)

      pub reply_given : (pages new : Option (List (List ℕ))) → new ≡ pages_given page (bytes_up r) pages → new ≡ pages_given page (called_up (side own page) what) pages
      reply_given pages new is = given_pages page (bytes_up r) (called_up (side own page) what) pages pages new (ap bytes_up r_is ∙ meant.reply_up ops (file_of own) page (side own page) what) refl is
