-- An answer that a table allows is put, and its buffer keeps the room.
use Rattle.std.specs.Prelude.{IsSomeAnd}
use Rattle.std.specs.Option.{option_map}
use Rattle.std.proofs.Common.{◌≡◌, ℕ, ◌+◌, ◌≤◌, ap, ◌∙◌, refl, arith, [], length, length-append, Option, Some, None}
use Rattle.marshal_buf.specs.Held.{Held}
use Rattle.pager_channel.specs.declared.numbers.Ops.{Ops}
use Rattle.pager_channel.specs.Frame.{frame_bytes}
use Rattle.pager_channel.specs.Seen.{FrameSeen}
use Rattle.page_messages.specs.declared.message.Message.{Message}
use Rattle.page_messages.specs.declared.paged.About.{About}
use Rattle.page_messages.specs.Kinds.{asked_in, called_in}
use Rattle.page_messages.specs.Paged.{about_of}
use Rattle.page_messages.specs.Sealed.{PutsFrame}
use Rattle.pager_channel.specs.Flags.{has_data}
use Rattle.coherency_layer.specs.declared.node.Node.{Node}
use Rattle.coherency_layer.specs.Node.{AllowsFirst, OnPages, WritesAnswer, WritesReply, answer_to, reply_to}
use Rattle.page_messages.specs.Message.{Allows}
use Rattle.vmm_cache.specs.declared.leaf.Leaf.{Leaf}
use Rattle.vmm_cache.specs.Leaf as leaves
use Rattle.page_exchange.specs.Wire.{HasRoom}

-- a frame that is put where an emptied buffer had room leaves the room
put_room : (f : FrameSeen) (old empty new : Held) → HasRoom old → empty.bytes ≡ [] → old.spare + length old.bytes ≤ empty.spare → PutsFrame f empty new → HasRoom new
put_room f old empty new room none spare puts =
    let long : length new.bytes ≡ length empty.bytes + length (frame_bytes f.head f.body) = ap length puts.bytes ∙ length-append empty.bytes (frame_bytes f.head f.body) in
    let s = puts.spare in
    omega (arith, room, spare, s, long)

-- a message that is allowed is one, and is about something
found : {A : Type 0} (o : Option A) (about : Option About) (into : A → Message) (P : Message → About → Type 0) → IsSomeAnd (option_map {T = A} into o) (λ m. IsSomeAnd about (P m)) → (what : A) × (a : About) × (o ≡ Some what) × (about ≡ Some a)
found None about into P h = elim h [ ]
found (Some what) None into P h = elim h [ ]
found (Some what) (Some a) into P h = (what, a, refl, refl)

pub answer_room : (ops : Ops) (node : Node) (child : ℕ) (f : FrameSeen) (old empty new : Held) → AllowsFirst node (Some child) f → HasRoom old → empty.bytes ≡ [] → old.spare + length old.bytes ≤ empty.spare → WritesAnswer ops node child f empty new → HasRoom new
answer_room ops node child f old empty new allows room none spare writes =
    let t = found (asked_in f) (about_of node.file f) (Message.Asks child (has_data f.head.flags)) (λ m a. OnPages node a (λ s. Allows s m)) allows in
    put_room (answer_to ops node child t.0 t.1) old empty new room none spare (writes.puts t.0 t.1 t.2 t.3)

pub reply_room : (ops : Ops) (node : Node) (f : FrameSeen) (old empty new : Held) → AllowsFirst node None f → HasRoom old → empty.bytes ≡ [] → old.spare + length old.bytes ≤ empty.spare → WritesReply ops node f empty new → HasRoom new
reply_room ops node f old empty new allows room none spare writes =
    let t = found (called_in f) (about_of node.file f) Message.Orders (λ m a. OnPages node a (λ s. Allows s m)) allows in
    put_room (reply_to ops node t.0 t.1) old empty new room none spare (writes.puts t.0 t.1 t.2 t.3)

some_two : {A B : Type 0} (o : Option A) (about : Option B) (P : A → B → Type 0) → IsSomeAnd o (λ w. IsSomeAnd about (P w)) → (what : A) × (a : B) × (o ≡ Some what) × (about ≡ Some a)
some_two None about P h = elim h [ ]
some_two (Some what) None P h = elim h [ ]
some_two (Some what) (Some a) P h = (what, a, refl, refl)

pub leaf_room : (ops : Ops) (leaf : Leaf) (f : FrameSeen) (old empty new : Held) → leaves.AllowsFirst leaf f → HasRoom old → empty.bytes ≡ [] → old.spare + length old.bytes ≤ empty.spare → leaves.WritesReply ops leaf f empty new → HasRoom new
leaf_room ops leaf f old empty new allows room none spare writes =
    let t = some_two (called_in f) (about_of leaf.file f) (leaves.MayObeyAt leaf) allows in
    put_room (leaves.reply_to ops leaf t.0 t.1) old empty new room none spare (writes.puts t.0 t.1 t.2 t.3)
