-- A node's own table, whether a layer's or a leaf's: what it allows, and what a frame makes of it.
use Rattle.std.specs.Prelude.{IsSomeAnd, IsSome}
use Rattle.std.specs.Option.{option_map}
use Rattle.std.proofs.Common.{◌≡◌, ◌≢◌, ℕ, ◌<◌, sym, ◌∙◌, ap, subst, refl, List, [], Option, Some, None}
use Rattle.tower_core.specs.declared.right.Right.{Right}
use Rattle.layer_laws.specs.Side.{Side, own_after}
use Rattle.pager_channel.specs.Seen.{FrameSeen}
use Rattle.page_messages.specs.declared.kinds.Answer.{Answer}
use Rattle.page_messages.specs.declared.kinds.Asked.{Asked}
use Rattle.page_messages.specs.declared.kinds.Called.{Called}
use Rattle.page_messages.specs.declared.message.Message.{Message}
use Rattle.page_messages.specs.declared.paged.About.{About}
use Rattle.page_messages.specs.declared.slot.Slot.{Slot}
use Rattle.page_messages.specs.After.{after_pager}
use Rattle.page_messages.specs.Carried.{answered, write_answered}
use Rattle.page_messages.specs.Kinds.{answer_in, called_in, bytes_down, right_of}
use Rattle.page_messages.specs.Message.{Allows}
use Rattle.page_messages.specs.Paged.{IsPagedFile, about_of}
use Rattle.page_messages.specs.Rights.{asked_right, called_right}
use Rattle.page_messages.specs.Rules.{MayAsk, MayTake}
use Rattle.coherency_layer.specs.declared.node.Node.{Node}
use Rattle.coherency_layer.specs.Node as layers
use Rattle.coherency_layer.specs.Node.{OnPages, about_asked, about_called}
use Rattle.page_messages.specs.Seen.{side_seen, no_side}
use Rattle.vmm_cache.specs.declared.leaf.Leaf.{Leaf as LeafTable}
use Rattle.vmm_cache.specs.Frames.{slot_in}
use Rattle.vmm_cache.specs.Leaf as leaves
use Rattle.vmm_cache.specs.Leaf.{framed, framed_as}
use Rattle.vmm_cache.specs.Uses.{uses_answered, uses_called}
use Rattle.vmm_cache.proofs.Sides.{no_kids}
use Rattle.page_exchange.specs.declared.table.Table.{Table}
use Rattle.page_exchange.specs.declared.table.Table.TheVariants.{Layer, Leaf}
use Rattle.page_exchange.specs.Table.{AllowsAnswer, AllowsOrder, IsForFirstCopy, IsLike, MayAskAbout, MayObeyAbout, Obeys, Takes, file_of, side, uses_asked, uses_of}
use Rattle.page_exchange.specs.Exchange.{ChangesOwn, IsOwnChange, LacksCopy}

-- WHAT IS KEPT
pub like_same : (to s : Side) → s ≡ to → IsLike to s
like_same to s e = record { right = ap (λ (t : Side). t.right) e; kids = λ child. ap (λ (t : Side). t.kids child) e; whole = λ some. e }

-- a leaf drops a page on which it has no right; nobody else has one there
framed_like : (right : Right) (s : Side) → s.right ≡ right → ((child : ℕ) → s.kids child ≡ Right.Nothing) → IsLike s (framed_as right s)
framed_like Right.Nothing s is none = record { right = sym is; kids = λ child. sym (none child); whole = λ some. absurd (some is) }
framed_like Right.Read s is none = like_same s s refl
framed_like Right.Write s is none = like_same s s refl

-- a page of a leaf: it has a frame, or the leaf has nothing of it
pub leaf_kids : (leaf : LeafTable) (page child : ℕ) → (leaves.side leaf page).kids child ≡ Right.Nothing
leaf_kids leaf page child = by (slot_in leaf.held page) refl
  where
    by : (o : Option Slot) → slot_in leaf.held page ≡ o → (leaves.side leaf page).kids child ≡ Right.Nothing
    by None e = ap (λ (o : Option Slot). (side_seen o).kids child) e
    by (Some slot) e = no_kids leaf.file.page_size (leaves.side leaf page) (leaf.framed page (subst IsSome (sym e) refl)).kept child

pub leaf_nothing : (leaf : LeafTable) (page : ℕ) → (leaves.side leaf page).right ≡ Right.Nothing → leaves.side leaf page ≡ no_side
leaf_nothing leaf page none = by (slot_in leaf.held page) refl
  where
    by : (o : Option Slot) → slot_in leaf.held page ≡ o → leaves.side leaf page ≡ no_side
    by None e = ap side_seen e
    by (Some slot) e = absurd ((leaf.framed page (subst IsSome (sym e) refl)).right none)

-- THE FILE
pub paged : (table : Table) → IsPagedFile (file_of table)
paged (Layer node) = node.paged
paged (Leaf leaf) = leaf.paged

pub ask_inside : (table : Table) (what : Asked) (page : ℕ) → MayAskAbout table what page → page < (file_of table).pages
ask_inside (Layer node) what page may = may.inside
ask_inside (Leaf leaf) what page may = may.inside

pub may_ask : (table : Table) (what : Asked) (page : ℕ) → what ≢ Asked.Done → MayAskAbout table what page → MayAsk (side table page) what
may_ask (Layer node) Asked.PageInRead page d may = may.may
may_ask (Layer node) Asked.PageInWrite page d may = may.may
may_ask (Layer node) Asked.PageOut page d may = may.may
may_ask (Layer node) Asked.WriteOut page d may = may.may
may_ask (Layer node) Asked.Sync page d may = may.may
may_ask (Layer node) Asked.Done page d may = absurd (d refl)
may_ask (Leaf leaf) Asked.PageInRead page d may = may.may.0
may_ask (Leaf leaf) Asked.PageInWrite page d may = may.may.0
may_ask (Leaf leaf) Asked.PageOut page d may = may.may.0
may_ask (Leaf leaf) Asked.WriteOut page d may = may.may.0
may_ask (Leaf leaf) Asked.Sync page d may = may.may.0
may_ask (Leaf leaf) Asked.Done page d may = absurd (d refl)

-- AN ORDER is allowed
layer_about : (node : Node) (f : FrameSeen) (about : About) (message : Message) → about_of node.file f ≡ Some about → OnPages node about (λ s. Allows s message) → layers.AllowsAbout node f message
layer_about node f about message is on = subst (λ (o : Option About). IsSomeAnd o (λ a. OnPages node a (λ s. Allows s message))) (sym is) on

pub order_allowed : (table : Table) (f : FrameSeen) (what : Called) (page : ℕ) → called_in f ≡ Some what → about_of (file_of table) f ≡ Some (about_called what page) → MayObeyAbout table what page → AllowsOrder table f
order_allowed (Layer node) f what page means is may =
    subst (λ (o : Option Called). IsSomeAnd (option_map {T = Called} Message.Orders o) (layers.AllowsAbout node f)) (sym means) (layer_about node f (about_called what page) (Message.Orders what) is may)
order_allowed (Leaf leaf) f what page means is may =
    subst (λ (o : Option Called). IsSomeAnd o (λ w. IsSomeAnd (about_of leaf.file f) (leaves.MayObeyAt leaf w))) (sym means)
    (subst (λ (o : Option About). IsSomeAnd o (leaves.MayObeyAt leaf what)) (sym is) may)

-- AN ANSWER is allowed: a grant for writing, or the right alone
write_taken : (s : Side) (right : Right) → s.right ≡ right → right ≢ Right.Write → MayTake s (write_answered right)
write_taken s Right.Nothing e d = e
write_taken s Right.Read e d = e
write_taken s Right.Write e d = absurd (d refl)

layer_takes : (node : Node) (page : ℕ) (what : Asked) → OnPages node (about_asked what page) (λ s. MayAsk s what) → OnPages node (about_asked what page) (λ s. MayTake s (answered (layers.side node page).right what))
layer_takes node page Asked.PageInRead on = on
layer_takes node page Asked.PageInWrite on = write_taken (layers.side node page) (layers.side node page).right refl on
layer_takes node page Asked.PageOut on = on
layer_takes node page Asked.WriteOut on = on
layer_takes node page Asked.Sync on = on
layer_takes node page Asked.Done on = on

write_no_leaf : (right : Right) → write_answered right ≢ Answer.PageOut
write_no_leaf Right.Nothing = λ e. cc
write_no_leaf Right.Read = λ e. cc
write_no_leaf Right.Write = λ e. cc

no_leaf : (right : Right) (what : Asked) → what ≢ Asked.PageOut → answered right what ≢ Answer.PageOut
no_leaf right Asked.PageInRead d = λ e. cc
no_leaf right Asked.PageInWrite d = write_no_leaf right
no_leaf right Asked.PageOut d = absurd (d refl)
no_leaf right Asked.WriteOut d = λ e. cc
no_leaf right Asked.Sync d = λ e. cc
no_leaf right Asked.Done d = λ e. cc

leaf_write : (leaf : LeafTable) (page : ℕ) (right : Right) → (leaves.side leaf page).right ≡ right → right ≢ Right.Write → (right ≡ Right.Nothing → leaves.HasFrame leaf) → leaves.MayTakeAt leaf (write_answered right) (About.Page page)
leaf_write leaf page Right.Nothing e d frame = (e, frame refl)
leaf_write leaf page Right.Read e d frame = (e, tt)
leaf_write leaf page Right.Write e d frame = absurd (d refl)

leaf_takes : (leaf : LeafTable) (page : ℕ) (what : Asked) → leaves.MayAskOf leaf what page → leaves.MayTakeAt leaf (answered (leaves.side leaf page).right what) (about_asked what page)
leaf_takes leaf page Asked.PageInRead may = may
leaf_takes leaf page Asked.PageInWrite may = leaf_write leaf page (leaves.side leaf page).right refl may.0 may.1
leaf_takes leaf page Asked.PageOut may = may
leaf_takes leaf page Asked.WriteOut may = may
leaf_takes leaf page Asked.Sync may = may
leaf_takes leaf page Asked.Done may = (refl, may)

pub answer_allowed : (table : Table) (f : FrameSeen) (what : Asked) (page : ℕ) → answer_in f ≡ Some (answered (side table page).right what) → about_of (file_of table) f ≡ Some (about_asked what page) → MayAskAbout table what page → AllowsAnswer table f
answer_allowed (Layer node) f what page means is may =
    subst (λ (o : Option Answer). IsSomeAnd (option_map {T = Answer} Message.Answers o) (λ message. (message ≢ Message.Answers Answer.PageOut) × layers.AllowsAbout node f message)) (sym means) (
      (λ e. no_leaf (layers.side node page).right what may.no_leaf (let same : answered (layers.side node page).right what ≡ Answer.PageOut = cc in same)),
      layer_about node f (about_asked what page) (Message.Answers (answered (layers.side node page).right what)) is (layer_takes node page what may.may),
    )
answer_allowed (Leaf leaf) f what page means is may =
    subst (λ (o : Option Answer). IsSomeAnd o (λ w. IsSomeAnd (about_of leaf.file f) (leaves.MayTakeAt leaf w))) (sym means)
    (subst (λ (o : Option About). IsSomeAnd o (leaves.MayTakeAt leaf (answered (leaves.side leaf page).right what))) (sym is) (leaf_takes leaf page what may.may))

-- WHAT A FRAME MAKES OF A LAYER'S TABLE
layer_pages : (old new : Node) (f : FrameSeen) (about : About) (right : Right) (down : Option (List ℕ)) → right_of f.head.access ≡ right → bytes_down old.file.page_size f ≡ down → layers.ChangesAbout old new None f (Some about) → ChangesOwn (Layer old) (Layer new) about right down
layer_pages old new f (About.Page page) right down to brings c = record {
  here = like_same (own_after right down (layers.side old page)) (layers.side new page)
      (c.here ∙ ap (λ (r : Right). own_after r (bytes_down old.file.page_size f) (layers.side old page)) to ∙ ap (λ (x : Option (List ℕ)). own_after right x (layers.side old page)) brings);
  others = c.others;
}
layer_pages old new f About.Channel right down to brings c = c

layer_changed : (old new : Node) (f : FrameSeen) (about : About) (right : Right) (down : Option (List ℕ)) (listed : List ℕ) → about_of old.file f ≡ Some about → right_of f.head.access ≡ right → bytes_down old.file.page_size f ≡ down → layers.IsChange old new None f → IsOwnChange (Layer old) (Layer new) about right down listed
layer_changed old new f about right down listed is to brings c = record {
  same = record { kind = refl; file = c.same.file; children = c.same.children; frames = refl };
  pages = layer_pages old new f about right down to brings (subst (layers.ChangesAbout old new None f) is c.pages);
  uses = λ some. absurd (some refl);
}

-- WHAT A FRAME MAKES OF A LEAF'S TABLE
leaf_page : (old new : LeafTable) (f : FrameSeen) (page : ℕ) (right : Right) (down : Option (List ℕ)) (moves : ℕ → List ℕ → List ℕ) (listed : List ℕ) → right_of f.head.access ≡ right → bytes_down old.file.page_size f ≡ down
    → moves page (leaves.uses_of old) ≡ listed → leaves.Makes old new f moves (About.Page page) → IsOwnChange (Leaf old) (Leaf new) (About.Page page) right down listed
leaf_page old new f page right down moves listed to brings lists c =
    let made : after_pager old.file.page_size f (leaves.side old page) ≡ own_after right down (leaves.side old page) =
    ap (λ (r : Right). own_after r (bytes_down old.file.page_size f) (leaves.side old page)) to ∙ ap (λ (x : Option (List ℕ)). own_after right x (leaves.side old page)) brings in
    record {
      same = record { kind = refl; file = c.same.file; children = refl; frames = c.same.frames };
      pages = record {
        here = subst (IsLike (own_after right down (leaves.side old page))) (sym (c.here ∙ ap framed made)) (framed_like right (own_after right down (leaves.side old page)) refl (λ child. leaf_kids old page child));
        others = c.others;
      };
      uses = λ some. c.uses ∙ lists;
    }

leaf_channel : (old new : LeafTable) (right : Right) (down : Option (List ℕ)) → leaves.IsLeft old new → IsOwnChange (Leaf old) (Leaf new) About.Channel right down (leaves.uses_of old)
leaf_channel old new right down left = record {
  same = record { kind = refl; file = left.same.file; children = refl; frames = left.same.frames };
  pages = left.sides;
  uses = λ some. left.uses;
}

write_listed : (right : Right) (page : ℕ) (uses : List ℕ) → uses_answered (write_answered right) page uses ≡ uses_asked Asked.PageInWrite page uses
write_listed Right.Nothing page uses = refl
write_listed Right.Read page uses = refl
write_listed Right.Write page uses = refl

leaf_taken : (old new : LeafTable) (f : FrameSeen) (page : ℕ) (had : Right) (what : Asked) (down : Option (List ℕ)) → right_of f.head.access ≡ asked_right what → bytes_down old.file.page_size f ≡ down
    → leaves.Makes old new f (uses_answered (answered had what)) (about_asked what page) → IsOwnChange (Leaf old) (Leaf new) (about_asked what page) (asked_right what) down (uses_asked what page (leaves.uses_of old))
leaf_taken old new f page had Asked.PageInRead down to brings c = leaf_page old new f page Right.Read down (uses_answered Answer.Grant) (uses_asked Asked.PageInRead page (leaves.uses_of old)) to brings refl c
leaf_taken old new f page had Asked.PageInWrite down to brings c = leaf_page old new f page Right.Write down (uses_answered (write_answered had)) (uses_asked Asked.PageInWrite page (leaves.uses_of old)) to brings (write_listed had page (leaves.uses_of old)) c
leaf_taken old new f page had Asked.PageOut down to brings c = leaf_page old new f page Right.Nothing down (uses_answered Answer.PageOut) (uses_asked Asked.PageOut page (leaves.uses_of old)) to brings refl c
leaf_taken old new f page had Asked.WriteOut down to brings c = leaf_page old new f page Right.Read down (uses_answered Answer.WriteOut) (leaves.uses_of old) to brings refl c
leaf_taken old new f page had Asked.Sync down to brings c = leaf_page old new f page Right.Write down (uses_answered Answer.Sync) (leaves.uses_of old) to brings refl c
leaf_taken old new f page had Asked.Done down to brings c = leaf_channel old new Right.Nothing down c

leaf_obeyed : (old new : LeafTable) (f : FrameSeen) (page : ℕ) (what : Called) → right_of f.head.access ≡ called_right what → bytes_down old.file.page_size f ≡ None
    → leaves.Makes old new f (uses_called what) (about_called what page) → IsOwnChange (Leaf old) (Leaf new) (about_called what page) (called_right what) None (uses_called what page (leaves.uses_of old))
leaf_obeyed old new f page Called.FlushBack to brings c = leaf_page old new f page Right.Nothing None (uses_called Called.FlushBack) (uses_called Called.FlushBack page (leaves.uses_of old)) to brings refl c
leaf_obeyed old new f page Called.DenyWrites to brings c = leaf_page old new f page Right.Read None (uses_called Called.DenyWrites) (leaves.uses_of old) to brings refl c
leaf_obeyed old new f page Called.WriteBack to brings c = leaf_page old new f page Right.Write None (uses_called Called.WriteBack) (leaves.uses_of old) to brings refl c
leaf_obeyed old new f page Called.DeleteRange to brings c = leaf_page old new f page Right.Nothing None (uses_called Called.DeleteRange) (uses_called Called.DeleteRange page (leaves.uses_of old)) to brings refl c
leaf_obeyed old new f page Called.Destroy to brings c = leaf_channel old new Right.Nothing None c

-- WHAT A FRAME MAKES OF THE TABLE
pub taken : (old new : Table) (f : FrameSeen) (what : Asked) (page : ℕ) (down : Option (List ℕ)) → answer_in f ≡ Some (answered (side old page).right what) → about_of (file_of old) f ≡ Some (about_asked what page) → right_of f.head.access ≡ asked_right what
    → bytes_down (file_of old).page_size f ≡ down → Takes old new f → IsOwnChange old new (about_asked what page) (asked_right what) down (uses_asked what page (uses_of old))
taken (Layer old) (Layer new) f what page down means is to brings c = layer_changed old new f (about_asked what page) (asked_right what) down (uses_asked what page []) is to brings c
taken (Leaf old) (Leaf new) f what page down means is to brings c =
    leaf_taken old new f page (leaves.side old page).right what down to brings
    (subst (λ (o : Option About). IsSomeAnd o (leaves.Makes old new f (uses_answered (answered (leaves.side old page).right what)))) is
    (subst (λ (o : Option Answer). IsSomeAnd o (λ w. IsSomeAnd (about_of old.file f) (leaves.Makes old new f (uses_answered w)))) means c))
taken (Layer old) (Leaf new) f what page down means is to brings c = absurd c
taken (Leaf old) (Layer new) f what page down means is to brings c = absurd c

pub obeyed : (old new : Table) (f : FrameSeen) (what : Called) (page : ℕ) → called_in f ≡ Some what → about_of (file_of old) f ≡ Some (about_called what page) → right_of f.head.access ≡ called_right what
    → bytes_down (file_of old).page_size f ≡ None → Obeys old new f → IsOwnChange old new (about_called what page) (called_right what) None (uses_called what page (uses_of old))
obeyed (Layer old) (Layer new) f what page means is to brings c = layer_changed old new f (about_called what page) (called_right what) None (uses_called what page []) is to brings c
obeyed (Leaf old) (Leaf new) f what page means is to brings c =
    leaf_obeyed old new f page what to brings
    (subst (λ (o : Option About). IsSomeAnd o (leaves.Makes old new f (uses_called what))) is
    (subst (λ (o : Option Called). IsSomeAnd o (λ w. IsSomeAnd (about_of old.file f) (leaves.Makes old new f (uses_called w)))) means c))
obeyed (Layer old) (Leaf new) f what page means is to brings c = absurd c
obeyed (Leaf old) (Layer new) f what page means is to brings c = absurd c

-- WHERE MEMORY LACKS
page_of : (what : Asked) (page p : ℕ) → about_asked what page ≡ About.Page p → p ≡ page
page_of Asked.PageInRead page p e = cc
page_of Asked.PageInWrite page p e = cc
page_of Asked.PageOut page p e = cc
page_of Asked.WriteOut page p e = cc
page_of Asked.Sync page p e = cc
page_of Asked.Done page p e = absurd cc

same_page : (o : Option About) (what : Asked) (page p : ℕ) → o ≡ Some (about_asked what page) → o ≡ Some (About.Page p) → p ≡ page
same_page o what page p is at =
    let both : Some (about_asked what page) ≡ Some (About.Page p) = sym is ∙ at in
    let same : about_asked what page ≡ About.Page p = cc in
    page_of what page p same

pub lacks_copy : (table : Table) (page : ℕ) (f : FrameSeen) (what : Asked) → about_of (file_of table) f ≡ Some (about_asked what page) → IsForFirstCopy table f → LacksCopy table page
lacks_copy (Layer node) page f what is h =
    let at : h.page ≡ page = same_page (about_of node.file f) what page h.page is h.about in
    record {
      nothing = subst (λ (p : ℕ). (layers.side node p).right ≡ Right.Nothing) at h.nothing;
      no_copy = subst (λ (p : ℕ). (layers.side node p).copy ≡ []) at h.no_copy;
    }
lacks_copy (Leaf leaf) page f what is h =
    let at : h.page ≡ page = same_page (about_of leaf.file f) what page h.page is h.about in
    let nothing : (leaves.side leaf page).right ≡ Right.Nothing = subst (λ (p : ℕ). (leaves.side leaf p).right ≡ Right.Nothing) at h.nothing in
    record { nothing = nothing; no_copy = ap (λ (s : Side). s.copy) (leaf_nothing leaf page nothing) }
