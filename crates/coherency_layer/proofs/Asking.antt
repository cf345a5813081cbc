-- What may be asked or ordered about a page.
use Rattle.std.proofs.Common.{ℕ}
use Rattle.page_messages.specs.declared.kinds.Asked.{Asked}
use Rattle.page_messages.specs.Rules.{MayAsk}
use Rattle.coherency_layer.specs.declared.node.Node.{Node}
use Rattle.coherency_layer.specs.Node.{side, OnPages, about_asked, MayAskAbout}

here : (node : Node) (what : Asked) (page : ℕ) → MayAskAbout node what page → OnPages node (about_asked what page) (λ s. MayAsk s what) → MayAsk (side node page) what
here node Asked.PageInRead page m may = may
here node Asked.PageInWrite page m may = may
here node Asked.PageOut page m may = may
here node Asked.WriteOut page m may = may
here node Asked.Sync page m may = may
here node Asked.Done page m may = may page m.inside

pub may_ask_here : (node : Node) (what : Asked) (page : ℕ) → MayAskAbout node what page → MayAsk (side node page) what
may_ask_here node what page m = here node what page m m.may
