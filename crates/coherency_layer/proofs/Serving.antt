-- What a table allows of a message, at one of the pages that decide it.
use Rattle.std.specs.Prelude.{IsSomeAnd}
use Rattle.std.specs.Option.{option_map}
use Rattle.std.proofs.Common.{◌≡◌, ℕ, subst, Option, Some, None}
use Rattle.pager_channel.specs.Flags.{has_data}
use Rattle.pager_channel.specs.Seen.{FrameSeen}
use Rattle.layer_laws.specs.Side.{Side}
use Rattle.page_messages.specs.declared.kinds.Asked.{Asked}
use Rattle.page_messages.specs.declared.kinds.Called.{Called}
use Rattle.page_messages.specs.declared.message.Message.{Message}
use Rattle.page_messages.specs.declared.paged.About.{About}
use Rattle.page_messages.specs.Kinds.{asked_in, called_in}
use Rattle.page_messages.specs.Message.{Allows}
use Rattle.page_messages.specs.Paged.{about_of, page_about}
use Rattle.page_messages.specs.Rules.{MayServe, MayObey}
use Rattle.coherency_layer.specs.declared.node.Node.{Node}
use Rattle.coherency_layer.specs.Node.{side, OnPages, AllowsAbout, AllowsFirst}

-- what the pages decide, one of them does
pub on_one : (node : Node) (about : About) (Holds : Side → Type 0) → OnPages node about Holds → Holds (side node (page_about about))
on_one node (About.Page page) Holds on = on
on_one node About.Channel Holds on = on 0 node.paged.pages

pub at_message : (node : Node) (f : FrameSeen) (message : Message) (about : About) → AllowsAbout node f message → about_of node.file f ≡ Some about → OnPages node about (λ s. Allows s message)
at_message node f message about allows is = subst (λ (o : Option About). IsSomeAnd o (λ a. OnPages node a (λ s. Allows s message))) is allows

pub question_here : (node : Node) (child : ℕ) (f : FrameSeen) (what : Asked) (about : About) → AllowsFirst node (Some child) f → asked_in f ≡ Some what → about_of node.file f ≡ Some about → MayServe (side node (page_about about)) child (has_data f.head.flags) what
question_here node child f what about allows asked is =
    let message : Message = Message.Asks child (has_data f.head.flags) what in
    let a : AllowsAbout node f (Message.Asks child (has_data f.head.flags) what) = subst (λ (o : Option Asked). IsSomeAnd (option_map {T = Asked} (Message.Asks child (has_data f.head.flags)) o) (AllowsAbout node f)) asked allows in
    on_one node about (λ s. MayServe s child (has_data f.head.flags) what) (at_message node f (Message.Asks child (has_data f.head.flags) what) about a is)

pub order_here : (node : Node) (f : FrameSeen) (what : Called) (about : About) → AllowsFirst node None f → called_in f ≡ Some what → about_of node.file f ≡ Some about → MayObey (side node (page_about about)) what
order_here node f what about allows called is =
    let a : AllowsAbout node f (Message.Orders what) = subst (λ (o : Option Called). IsSomeAnd (option_map {T = Called} Message.Orders o) (AllowsAbout node f)) called allows in
    on_one node about (λ s. MayObey s what) (at_message node f (Message.Orders what) about a is)
