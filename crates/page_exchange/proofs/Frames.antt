-- The frames of an exchange: what each node reads in what the other wrote.
use Rattle.std.specs.Prelude.{IsSomeAnd}
use Rattle.std.specs.Option.{option_map}
use Rattle.std.proofs.Common.{◌≡◌, ◌≢◌, ℕ, ◌+◌, cond, ◌<◌, sym, ◌∙◌, ap, subst, refl, Bool, true, false, List, [], length, Option, Some, None}
use Rattle.tower_core.specs.declared.right.Right.{Right}
use Rattle.layer_laws.specs.Side.{Side, kid_after}
use Rattle.pager_channel.specs.declared.numbers.Ops.{Ops}
use Rattle.pager_channel.specs.Flags.{has_data}
use Rattle.pager_channel.specs.declared.flags.TheConstants.{DATA}
use Rattle.pager_channel.specs.Seen.{FrameSeen}
use Rattle.page_messages.specs.declared.kinds.Answer.{Answer}
use Rattle.page_messages.specs.declared.kinds.Asked.{Asked}
use Rattle.page_messages.specs.declared.kinds.Called.{Called}
use Rattle.page_messages.specs.declared.message.Message.{Message}
use Rattle.page_messages.specs.declared.paged.About.{About}
use Rattle.page_messages.specs.declared.paged.PagedFile.{PagedFile}
use Rattle.page_messages.specs.Carried.{about_sent, asked_down, asked_up, called_up}
use Rattle.page_messages.specs.Kinds.{asked_in, reply_in, bytes_up, right_of}
use Rattle.page_messages.specs.Letters.{answer, is_zeros, order, question, reply}
use Rattle.page_messages.specs.Message.{Allows}
use Rattle.page_messages.specs.Paged.{about_of}
use Rattle.page_messages.specs.Rights.{asked_right, called_right, IsForPage}
use Rattle.page_messages.specs.Rules.{MayCall, MayServe}
use Rattle.page_messages.specs.Sealed.{sealed}
use Rattle.page_messages.proofs.MeantLaws as meant
use Rattle.page_messages.proofs.KeptLaws.{write_some, read_some}
use Rattle.coherency_layer.specs.declared.node.Node.{Node}
use Rattle.coherency_layer.specs.Node.{side, OnPages, about_asked, about_called, MayCallAbout, AllowsAbout, AllowsFirst, AllowsSecond, ChangesAbout, IsChange, IsForFirstCopy, answer_to}
use Rattle.coherency_layer.proofs.Tables.{side_kept}
use Rattle.page_exchange.specs.declared.table.Table.{Table}
use Rattle.vmm_cache.specs.Uses.{uses_called}
use Rattle.page_exchange.specs.Table as tables
use Rattle.page_exchange.specs.Exchange.{IsPair, ChangesAbove, IsOwnChange, IsAboveChange, may_be_full}
use Rattle.page_exchange.proofs.Owns as owns

-- WHAT A FRAME IS ABOUT
asked_about : (s : Side) (what : Asked) (page : ℕ) → about_sent (question s what).which page ≡ about_asked what page
asked_about s Asked.PageInRead page = refl
asked_about s Asked.PageInWrite page = refl
asked_about s Asked.PageOut page = refl
asked_about s Asked.WriteOut page = refl
asked_about s Asked.Sync page = refl
asked_about s Asked.Done page = refl

-- a grant is about its page
read_granted : (right : Right) (page : ℕ) (bytes : List ℕ) (zeros : Bool) → about_sent (meant.granted_page zeros right bytes).which page ≡ About.Page page
read_granted right page bytes true = refl
read_granted right page bytes false = refl

answered_about : (right : Right) (bytes : List ℕ) (what : Asked) (page : ℕ) → about_sent (answer right bytes what).which page ≡ about_asked what page
answered_about right bytes Asked.PageInRead page = read_granted Right.Read page bytes (is_zeros bytes)
answered_about Right.Nothing bytes Asked.PageInWrite page = read_granted Right.Write page bytes (is_zeros bytes)
answered_about Right.Read bytes Asked.PageInWrite page = refl
answered_about Right.Write bytes Asked.PageInWrite page = refl
answered_about right bytes Asked.PageOut page = refl
answered_about right bytes Asked.WriteOut page = refl
answered_about right bytes Asked.Sync page = refl
answered_about right bytes Asked.Done page = refl

ordered_about : (what : Called) (page : ℕ) → about_sent (order what).which page ≡ about_called what page
ordered_about Called.FlushBack page = refl
ordered_about Called.DenyWrites page = refl
ordered_about Called.WriteBack page = refl
ordered_about Called.DeleteRange page = refl
ordered_about Called.Destroy page = refl

replied_about : (s : Side) (what : Called) (page : ℕ) → about_sent (reply s what).which page ≡ about_called what page
replied_about s Called.FlushBack page = refl
replied_about s Called.DenyWrites page = refl
replied_about s Called.WriteBack page = refl
replied_about s Called.DeleteRange page = refl
replied_about s Called.Destroy page = refl

-- WHAT A TABLE ALLOWS of a frame that is about this and is this message
allows_about : (node : Node) (f : FrameSeen) (about : About) (message : Message) → about_of node.file f ≡ Some about → OnPages node about (λ s. Allows s message) → AllowsAbout node f message
allows_about node f about message is on = subst (λ (o : Option About). IsSomeAnd o (λ a. OnPages node a (λ s. Allows s message))) (sym is) on

question_allowed : (node : Node) (child : ℕ) (f : FrameSeen) (about : About) (what : Asked) → asked_in f ≡ Some what → about_of node.file f ≡ Some about → OnPages node about (λ s. MayServe s child (has_data f.head.flags) what) → AllowsFirst node (Some child) f
question_allowed node child f about what means is on =
    subst (λ (o : Option Asked). IsSomeAnd (option_map {T = Asked} (Message.Asks child (has_data f.head.flags)) o) (AllowsAbout node f)) (sym means)
    (allows_about node f about (Message.Asks child (has_data f.head.flags) what) is on)

reply_allowed : (node : Node) (child : ℕ) (f : FrameSeen) (about : About) (what : Called) → reply_in f ≡ Some what → about_of node.file f ≡ Some about → OnPages node about (λ s. MayCall s child what) → AllowsSecond node (Some child) f
reply_allowed node child f about what means is on =
    subst (λ (o : Option Called). IsSomeAnd (option_map {T = Called} (Message.Replies child) o) (λ message. (message ≢ Message.Answers Answer.PageOut) × AllowsAbout node f message)) (sym means)
    ((λ e. let f : ⊥ = cc in f), allows_about node f about (Message.Replies child what) is on)

-- WHAT A FRAME MAKES OF A LAYER'S TABLE
above_pages : (old new : Node) (node : ℕ) (f : FrameSeen) (about : About) (right : Right) (up : Option (List ℕ)) → right_of f.head.access ≡ right → bytes_up f ≡ up → ChangesAbout old new (Some node) f (Some about) → ChangesAbove old new node about right up
above_pages old new node f (About.Page page) right up to brings c = record {
  here = c.here ∙ ap (λ (r : Right). kid_after node r (bytes_up f) (side old page)) to ∙ ap (λ (x : Option (List ℕ)). kid_after node right x (side old page)) brings;
  others = c.others;
}
above_pages old new node f About.Channel right up to brings c = c

above_changed : (old new : Node) (node : ℕ) (f : FrameSeen) (about : About) (right : Right) (up : Option (List ℕ)) → about_of old.file f ≡ Some about → right_of f.head.access ≡ right → bytes_up f ≡ up → IsChange old new (Some node) f → IsAboveChange old new node about right up
above_changed old new node f about right up is to brings c = record { same = c.same; pages = above_pages old new node f about right up to brings (subst (ChangesAbout old new (Some node) f) is c.pages) }

-- A QUESTION of a node, at its parent
module _ (ops : Ops) (own : Table) (above : Node) (node page : ℕ) (what : Asked) (pair : IsPair own above node) (may : tables.MayAskAbout own what page) where
  abbrev asks : FrameSeen
  asks = sealed ops (tables.file_of own) page (question (tables.side own page) what)

  pub asks_about : about_of above.file asks ≡ Some (about_asked what page)
  asks_about =
      subst (λ (file : PagedFile). about_of file asks ≡ Some (about_asked what page)) (sym pair.file)
      (meant.about_its_page ops (tables.file_of own) page (question (tables.side own page) what) (owns.paged own) (owns.ask_inside own what page may) ∙ ap Some (asked_about (tables.side own page) what page))

  -- with data only where the page is changed
  full_is : (s : Side) (changed : Bool) → s.changed ≡ changed → has_data (sealed ops (tables.file_of own) page (question s Asked.PageOut)).head.flags ≡ true → changed ≡ true
  full_is s true e h = refl
  full_is s false e h = absurd (let no : false ≡ true = subst (λ (b : Bool). has_data (cond b (0 + DATA) 0) ≡ true) e h in let f : ⊥ = cc in f)

  serve_weak : (s : Side) (what : Asked) → MayServe s node (may_be_full (tables.side own page) what) what → MayServe s node (has_data (sealed ops (tables.file_of own) page (question (tables.side own page) what)).head.flags) what
  serve_weak s Asked.PageInRead h = h
  serve_weak s Asked.PageInWrite h = h
  serve_weak s Asked.PageOut h = (h.0, λ t. h.1 (full_is (tables.side own page) (tables.side own page).changed refl t))
  serve_weak s Asked.WriteOut h = h
  serve_weak s Asked.Sync h = h
  serve_weak s Asked.Done h = h

  on_pages : (about : About) (P Q : Side → Type 0) → ((s : Side) → P s → Q s) → OnPages above about P → OnPages above about Q
  on_pages (About.Page page) P Q f on = f (side above page) on
  on_pages About.Channel P Q f on = λ p lt. f (side above p) (on p lt)

  pub question_served : OnPages above (about_asked what page) (λ s. MayServe s node (may_be_full (tables.side own page) what) what) → AllowsFirst above (Some node) asks
  question_served on = question_allowed above node asks (about_asked what page) what (meant.question_is ops (tables.file_of own) page (tables.side own page) what) asks_about
      (on_pages (about_asked what page) (λ s. MayServe s node (may_be_full (tables.side own page) what) what) (λ s. MayServe s node (has_data asks.head.flags) what) (λ s. serve_weak s what) on)

  pub question_made : (above' : Node) → IsChange above above' (Some node) asks → IsAboveChange above above' node (about_asked what page) (asked_right what) (asked_up (tables.side own page) what)
  question_made above' c = above_changed above above' node asks (about_asked what page) (asked_right what) (asked_up (tables.side own page) what) asks_about (meant.question_right ops (tables.file_of own) page (tables.side own page) what) (meant.question_up ops (tables.file_of own) page (tables.side own page) what) c

  -- what the parent answers is of its own table
  pub answer_of : answer_to ops above node what (about_asked what page) ≡ sealed ops (tables.file_of own) page (answer ((side above page).kids node) (side above page).copy what)
  answer_of = same what
    where
      at_page : (what : Asked) → sealed ops above.file page (answer ((side above page).kids node) (side above page).copy what) ≡ sealed ops (tables.file_of own) page (answer ((side above page).kids node) (side above page).copy what)
      at_page what = ap (λ (file : PagedFile). sealed ops file page (answer ((side above page).kids node) (side above page).copy what)) pair.file

      same : (what : Asked) → answer_to ops above node what (about_asked what page) ≡ sealed ops (tables.file_of own) page (answer ((side above page).kids node) (side above page).copy what)
      same Asked.PageInRead = at_page Asked.PageInRead
      same Asked.PageInWrite = at_page Asked.PageInWrite
      same Asked.PageOut = at_page Asked.PageOut
      same Asked.WriteOut = at_page Asked.WriteOut
      same Asked.Sync = at_page Asked.Sync
      same Asked.Done = ap (λ (file : PagedFile). sealed ops file page (answer Right.Nothing [] Asked.Done)) pair.file

-- AN ANSWER to a question of a node, at that node
module _ (ops : Ops) (own : Table) (page : ℕ) (what : Asked) (bytes : List ℕ) (may : tables.MayAskAbout own what page) where
  abbrev answers : FrameSeen
  answers = sealed ops (tables.file_of own) page (answer (tables.side own page).right bytes what)

  pub answers_about : about_of (tables.file_of own) answers ≡ Some (about_asked what page)
  answers_about = meant.about_its_page ops (tables.file_of own) page (answer (tables.side own page).right bytes what) (owns.paged own) (owns.ask_inside own what page may) ∙ ap Some (answered_about (tables.side own page).right bytes what page)

  pub answer_taken : tables.AllowsAnswer own answers
  answer_taken = owns.answer_allowed own answers what page (meant.answer_is ops (tables.file_of own) page (tables.side own page).right bytes what) answers_about may

  pub answer_made : (own' : Table) → (IsForPage what → length bytes ≡ (tables.file_of own).page_size) → tables.Takes own own' answers
      → IsOwnChange own own' (about_asked what page) (asked_right what) (asked_down (tables.side own page).right bytes what) (tables.uses_asked what page (tables.uses_of own))
  answer_made own' long c = owns.taken own own' answers what page (asked_down (tables.side own page).right bytes what) (meant.answer_is ops (tables.file_of own) page (tables.side own page).right bytes what) answers_about
      (meant.answer_right ops (tables.file_of own) page (tables.side own page).right bytes what) (meant.answer_down ops (tables.file_of own) page (tables.side own page).right bytes what long) c

-- AN ORDER to a node, at that node
module _ (ops : Ops) (own : Table) (page : ℕ) (what : Called) (inside : page < (tables.file_of own).pages) where
  abbrev orders : FrameSeen
  orders = sealed ops (tables.file_of own) page (order what)

  pub orders_about : about_of (tables.file_of own) orders ≡ Some (about_called what page)
  orders_about = meant.about_its_page ops (tables.file_of own) page (order what) (owns.paged own) inside ∙ ap Some (ordered_about what page)

  pub order_obeyed : tables.MayObeyAbout own what page → tables.AllowsOrder own orders
  order_obeyed may = owns.order_allowed own orders what page (meant.order_is ops (tables.file_of own) page what) orders_about may

  pub order_made : (own' : Table) → tables.Obeys own own' orders → IsOwnChange own own' (about_called what page) (called_right what) None (uses_called what page (tables.uses_of own))
  order_made own' c = owns.obeyed own own' orders what page (meant.order_is ops (tables.file_of own) page what) orders_about (meant.order_right ops (tables.file_of own) page what) (meant.order_down ops (tables.file_of own) page what) c

  -- what the node replies
  pub reply_is : tables.reply_to ops own what (about_called what page) ≡ sealed ops (tables.file_of own) page (reply (tables.side own page) what)
  reply_is = same what
    where
      same : (what : Called) → tables.reply_to ops own what (about_called what page) ≡ sealed ops (tables.file_of own) page (reply (tables.side own page) what)
      same Called.FlushBack = refl
      same Called.DenyWrites = refl
      same Called.WriteBack = refl
      same Called.DeleteRange = refl
      same Called.Destroy = refl

-- AN ANSWER to an order of a parent, at that parent
module _ (ops : Ops) (own : Table) (above : Node) (node page : ℕ) (what : Called) (pair : IsPair own above node) (may : MayCallAbout above node what page) where
  abbrev replies : FrameSeen
  replies = sealed ops (tables.file_of own) page (reply (tables.side own page) what)

  pub inside_own : page < (tables.file_of own).pages
  inside_own = subst (λ (file : PagedFile). page < file.pages) pair.file may.inside

  -- the order is in the name of both files
  pub same_order : sealed ops above.file page (order what) ≡ sealed ops (tables.file_of own) page (order what)
  same_order = ap (λ (file : PagedFile). sealed ops file page (order what)) pair.file

  pub replies_about : about_of above.file replies ≡ Some (about_called what page)
  replies_about =
      subst (λ (file : PagedFile). about_of file replies ≡ Some (about_called what page)) (sym pair.file)
      (meant.about_its_page ops (tables.file_of own) page (reply (tables.side own page) what) (owns.paged own) inside_own ∙ ap Some (replied_about (tables.side own page) what page))

  pub reply_heard : AllowsSecond above (Some node) replies
  reply_heard = reply_allowed above node replies (about_called what page) what (meant.reply_is ops (tables.file_of own) page (tables.side own page) what) replies_about may.may

  pub reply_made : (above' : Node) → IsChange above above' (Some node) replies → IsAboveChange above above' node (about_called what page) (called_right what) (called_up (tables.side own page) what)
  reply_made above' c = above_changed above above' node replies (about_called what page) (called_right what) (called_up (tables.side own page) what) replies_about (meant.reply_right ops (tables.file_of own) page (tables.side own page) what) (meant.reply_up ops (tables.file_of own) page (tables.side own page) what) c

-- a parent that gives an order about a page has a right of it
called_page : (what : Called) (page p : ℕ) → about_called what page ≡ About.Page p → p ≡ page
called_page Called.FlushBack page p e = cc
called_page Called.DenyWrites page p e = cc
called_page Called.WriteBack page p e = cc
called_page Called.DeleteRange page p e = cc
called_page Called.Destroy page p e = absurd cc

caller_has : (above : Node) (node page : ℕ) (what : Called) → page < above.file.pages → OnPages above (about_called what page) (λ s. MayCall s node what) → about_called what page ≡ About.Page page → (side above page).right ≢ Right.Nothing
caller_has above node page Called.FlushBack inside on e = (side_kept above page inside).capped node (write_some ((side above page).kids node) on)
caller_has above node page Called.DenyWrites inside on e = (side_kept above page inside).capped node (write_some ((side above page).kids node) on)
caller_has above node page Called.WriteBack inside on e = (side_kept above page inside).capped node (write_some ((side above page).kids node) on)
caller_has above node page Called.DeleteRange inside on e = (side_kept above page inside).capped node (read_some ((side above page).kids node) on)
caller_has above node page Called.Destroy inside on e = absurd cc

pub has_right : (ops : Ops) (own : Table) (above : Node) (node page : ℕ) (what : Called) (pair : IsPair own above node) (may : MayCallAbout above node what page) (r : FrameSeen) → r ≡ sealed ops (tables.file_of own) page (reply (tables.side own page) what) → IsForFirstCopy above r → ⊥
has_right ops own above node page what pair may r is h =
    let both : Some (about_called what page) ≡ Some (About.Page h.page) = sym (ap (about_of above.file) is ∙ replies_about ops own above node page what pair may) ∙ h.about in
    let same : about_called what page ≡ About.Page h.page = cc in
    let at : h.page ≡ page = called_page what page h.page same in
    caller_has above node page what may.inside may.may (same ∙ ap About.Page at) (subst (λ (p : ℕ). (side above p).right ≡ Right.Nothing) at h.nothing)
