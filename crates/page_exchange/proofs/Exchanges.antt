-- An exchange of a node and its parent: what was written, and what was read of it.
use Rattle.std.specs.Prelude.{IfErr, IsErrAnd, OnErr}
use Rattle.std.proofs.Common.{◌≡◌, ℕ, ◌<◌, refl, sym, ◌∙◌, ap, subst, List, length, Some, None, Result, Ok, Err}
use Rattle.pager_channel.specs.declared.numbers.Ops.{Ops}
use Rattle.pager_channel.specs.Seen.{FrameSeen}
use Rattle.page_messages.specs.declared.kinds.Asked.{Asked}
use Rattle.page_messages.specs.declared.kinds.Called.{Called}
use Rattle.page_messages.specs.declared.paged.About.{About}
use Rattle.page_messages.specs.declared.paged.PagedFile.{PagedFile}
use Rattle.page_messages.specs.Carried.{asked_down, asked_up, called_up}
use Rattle.page_messages.specs.Kinds.{asked_in, called_in}
use Rattle.page_messages.specs.Letters.{question, answer, order, reply}
use Rattle.page_messages.specs.Paged.{about_of}
use Rattle.page_messages.specs.Rights.{asked_right, called_right, IsForPage}
use Rattle.page_messages.specs.Rules.{MayServe}
use Rattle.page_messages.specs.Sealed.{sealed}
use Rattle.page_messages.proofs.MeantLaws as meant
use Rattle.page_messages.proofs.KeptLaws.{write_some}
use Rattle.coherency_layer.specs.declared.node.Node.{Node}
use Rattle.coherency_layer.specs.Node.{side, OnPages, about_asked, about_called, MayCallAbout, AllowsFirst, AllowsSecond, IsChange, IsForFirstCopy, answer_to}
use Rattle.coherency_layer.proofs.Tables.{side_kept}
use Rattle.vmm_cache.specs.Uses.{uses_called}
use Rattle.page_exchange.specs.declared.table.Table.{Table}
use Rattle.page_exchange.specs.Table as tables
use Rattle.page_exchange.specs.Exchange.{IsPair, IsOwnChange, IsAboveChange, IsLack, Knows, LacksCopy, letters_asked, may_be_full}
use Rattle.page_messages.specs.declared.refusal.NodeErr.{NodeErr}
use Rattle.page_messages.specs.declared.refusal.NodeErr.TheVariants as errors
use Rattle.tower_core.specs.declared.right.Right.{Right}
use Rattle.page_exchange.specs.Wire.{AreSent, WentOver, WireSeen}
use Rattle.page_messages.specs.Written.{asked_by, asked_of}
use Rattle.page_exchange.proofs.Frames as frames
use Rattle.page_exchange.proofs.Owns as owns

-- who reads what was written reads this
abbrev pub Reads : Ops → List ℕ → FrameSeen → Type 0
Reads ops bytes read = (f : FrameSeen) → AreSent ops bytes f → read ≡ f

pub on-err : {A E : Type 0} (r : Result A E) (P : Type 0) → P → OnErr r P
on-err (Ok x) P h = tt
on-err (Err e) P h = h

pub on-refused : {A E : Type 0} (r : Result A E) (P : E → Type 0) (e : E) → IsErrAnd r (λ x. x ≡ e) → P e → IfErr r P
on-refused (Ok x) P e is h = tt
on-refused (Err x) P e is h = subst P (sym is) h

-- what the parent writes, where it knows the node's right
pub agreed : (wire : WireSeen) (own : Table) (above : Node) (node page : ℕ) (what : Asked) → Knows above own node page
    → WentOver wire (tables.file_of own) (letters_asked own above node page what) → WentOver wire (tables.file_of own) (asked_by (tables.side own page) (side above page).copy page what)
agreed wire own above node page what known = subst (λ (r : Right). WentOver wire (tables.file_of own) (asked_of (tables.side own page) r (side above page).copy page what)) known

-- A QUESTION AND ITS ANSWER
module _ (ops : Ops) (own : Table) (above : Node) (node page : ℕ) (what : Asked) (first : List ℕ) (q : FrameSeen) (pair : IsPair own above node) (may : tables.MayAskAbout own what page)
    (serves : OnPages above (about_asked what page) (λ s. MayServe s node (may_be_full (tables.side own page) what) what))
    (asked : AreSent ops first (sealed ops (tables.file_of own) page (question (tables.side own page) what))) (read : Reads ops first q) where
  q_is : q ≡ sealed ops (tables.file_of own) page (question (tables.side own page) what)
  q_is = read (sealed ops (tables.file_of own) page (question (tables.side own page) what)) asked

  pub served : AllowsFirst above (Some node) q
  served = subst (AllowsFirst above (Some node)) (sym q_is) (frames.question_served ops own above node page what pair may serves)

  pub above_made : (above' : Node) → IsChange above above' (Some node) q → IsAboveChange above above' node (about_asked what page) (asked_right what) (asked_up (tables.side own page) what)
  above_made above' c = frames.question_made ops own above node page what pair may above' (subst (IsChange above above' (Some node)) q_is c)

  module _ (second : List ℕ) (answered : (what : Asked) (about : About) → asked_in q ≡ Some what → about_of above.file q ≡ Some about → AreSent ops second (answer_to ops above node what about)) where
    pub answer_sent : AreSent ops second (sealed ops (tables.file_of own) page (answer ((side above page).kids node) (side above page).copy what))
    answer_sent = subst (AreSent ops second) (frames.answer_of ops own above node page what pair may)
        (answered what (about_asked what page) (ap asked_in q_is ∙ meant.question_is ops (tables.file_of own) page (tables.side own page) what)
        (ap (about_of above.file) q_is ∙ frames.asks_about ops own above node page what pair may))

    module _ (a : FrameSeen) (heard : Reads ops second a) (known : (side above page).kids node ≡ (tables.side own page).right) where
      a_is : a ≡ sealed ops (tables.file_of own) page (answer (tables.side own page).right (side above page).copy what)
      a_is = heard (sealed ops (tables.file_of own) page (answer ((side above page).kids node) (side above page).copy what)) answer_sent
          ∙ ap (λ (r : Right). sealed ops (tables.file_of own) page (answer r (side above page).copy what)) known

      pub taken : tables.AllowsAnswer own a
      taken = subst (tables.AllowsAnswer own) (sym a_is) (frames.answer_taken ops own page what (side above page).copy may)

      inside_above : page < above.file.pages
      inside_above = subst (λ (file : PagedFile). page < file.pages) (sym pair.file) (owns.ask_inside own what page may)

      -- a page that is granted is there
      long : (what : Asked) → OnPages above (about_asked what page) (λ s. MayServe s node (may_be_full (tables.side own page) what) what) → IsForPage what → length (side above page).copy ≡ (tables.file_of own).page_size
      long Asked.PageInRead on h = (side_kept above page inside_above).held on.0 ∙ ap (λ (file : PagedFile). file.page_size) pair.file
      long Asked.PageInWrite on h = (side_kept above page inside_above).held (write_some (side above page).right on.0) ∙ ap (λ (file : PagedFile). file.page_size) pair.file
      long Asked.PageOut on h = elim h [ ]
      long Asked.WriteOut on h = elim h [ ]
      long Asked.Sync on h = elim h [ ]
      long Asked.Done on h = elim h [ ]

      pub own_made : (own' : Table) → tables.Takes own own' a → IsOwnChange own own' (about_asked what page) (asked_right what) (asked_down (tables.side own page).right (side above page).copy what) (tables.uses_asked what page (tables.uses_of own))
      own_made own' c = frames.answer_made ops own page what (side above page).copy may own' (long what serves) (subst (tables.Takes own own') a_is c)

      lacks : tables.IsForFirstCopy own a → LacksCopy own page
      lacks h = owns.lacks_copy own page a what (ap (about_of (tables.file_of own)) a_is ∙ frames.answers_about ops own page what (side above page).copy may) h

      -- so it is taken, but for want of memory
      pub lacked : (err : NodeErr) → tables.IsNotTaken own a err → IsLack own page err
      lacked (errors.NotAllowed at) h = absurd (h taken)
      lacked errors.Memory h = (refl, lacks h)

-- AN ORDER AND ITS ANSWER
module _ (ops : Ops) (own : Table) (above : Node) (node page : ℕ) (what : Called) (first : List ℕ) (o : FrameSeen) (pair : IsPair own above node) (may : MayCallAbout above node what page)
    (obeys : tables.MayObeyAbout own what page) (called : AreSent ops first (sealed ops above.file page (order what))) (read : Reads ops first o) where
  inside : page < (tables.file_of own).pages
  inside = frames.inside_own ops own above node page what pair may

  o_is : o ≡ sealed ops (tables.file_of own) page (order what)
  o_is = read (sealed ops above.file page (order what)) called ∙ frames.same_order ops own above node page what pair may

  pub order_sent : AreSent ops first (sealed ops (tables.file_of own) page (order what))
  order_sent = subst (λ (file : PagedFile). AreSent ops first (sealed ops file page (order what))) pair.file called

  pub obeyed : tables.AllowsOrder own o
  obeyed = subst (tables.AllowsOrder own) (sym o_is) (frames.order_obeyed ops own page what inside obeys)

  pub obeyer_made : (own' : Table) → tables.Obeys own own' o → IsOwnChange own own' (about_called what page) (called_right what) None (uses_called what page (tables.uses_of own))
  obeyer_made own' c = frames.order_made ops own page what inside own' (subst (tables.Obeys own own') o_is c)

  module _ (second : List ℕ) (replied : (what : Called) (about : About) → called_in o ≡ Some what → about_of (tables.file_of own) o ≡ Some about → AreSent ops second (tables.reply_to ops own what about)) where
    pub reply_sent : AreSent ops second (sealed ops (tables.file_of own) page (reply (tables.side own page) what))
    reply_sent = subst (AreSent ops second) (frames.reply_is ops own page what inside)
        (replied what (about_called what page) (ap called_in o_is ∙ meant.order_is ops (tables.file_of own) page what)
        (ap (about_of (tables.file_of own)) o_is ∙ frames.orders_about ops own page what inside))

    module _ (r : FrameSeen) (heard : Reads ops second r) where
      r_is : r ≡ sealed ops (tables.file_of own) page (reply (tables.side own page) what)
      r_is = heard (sealed ops (tables.file_of own) page (reply (tables.side own page) what)) reply_sent

      pub hears : AllowsSecond above (Some node) r
      hears = subst (AllowsSecond above (Some node)) (sym r_is) (frames.reply_heard ops own above node page what pair may)

      pub caller_made : (above' : Node) → IsChange above above' (Some node) r → IsAboveChange above above' node (about_called what page) (called_right what) (called_up (tables.side own page) what)
      caller_made above' c = frames.reply_made ops own above node page what pair may above' (subst (IsChange above above' (Some node)) r_is c)

      -- the parent has the page, so it lacks no memory for it
      pub has_copy : IsForFirstCopy above r → ⊥
      has_copy h = frames.has_right ops own above node page what pair may r r_is h
