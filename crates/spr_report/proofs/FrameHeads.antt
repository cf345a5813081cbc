-- A frame begins with its head.
use Rattle.std.specs.Prelude.{IsSomeAnd}
use Rattle.std.specs.Option.{option_map}
use Rattle.std.proofs.Common.{◌≡◌, ◌++◌, ◌∙◌, ℕ, List, Option, Some, append_assoc, sym, ap, subst}
use Rattle.hist_plain.specs.declared.event.Event.{Event}
use Rattle.tower_core.specs.TreeShape.{TreeShape}
use Rattle.tower_core.specs.Trail.{State}
use Rattle.layer_laws.specs.Side.{Side}
use Rattle.pager_channel.specs.declared.front.Head.{Head}
use Rattle.pager_channel.specs.declared.numbers.Ops.{Ops}
use Rattle.pager_channel.specs.Frame.{first_part, frame_bytes, second_part}
use Rattle.pager_channel.specs.Seen.{FrameSeen}
use Rattle.page_messages.specs.declared.paged.PagedFile.{PagedFile}
use Rattle.page_messages.specs.Written.{AreFramesFor, AreSent, IsWritten, Letters, letters_of}
use Rattle.spr_report.specs.declared.heads.Heads.{Heads}
use Rattle.spr_report.specs.Heads.{head_bytes, heads_of}
use Rattle.spr_report.specs.Letters.{BeginBoth, BeginsWith, written_heads}

parted : (h : Head) (body : List ℕ) → frame_bytes h body ≡ head_bytes h ++ body
unfolding frame_bytes
parted h body = sym (append_assoc (first_part h) (second_part h) body)

begins : (ops : Ops) (bytes : List ℕ) (f : FrameSeen) → AreSent ops bytes f → BeginsWith bytes f.head
begins ops bytes f sent = (f.body, sent.bytes ∙ parted f.head f.body)

pub begin_both : (shape : TreeShape) (file : PagedFile) (ops : Ops) (state : State) (s : Side) (above : List ℕ) (event : Event) (first second : List ℕ)
    → (IsWritten shape state s above event → heads_of shape file ops state event ≡ option_map {T = Letters} (written_heads file ops) (letters_of s above event))
    → AreFramesFor shape state ops file s above event first second → IsSomeAnd (heads_of shape file ops state event) (BeginBoth first second)
begin_both shape file ops state s above event first second law frames =
    subst (λ (o : Option Heads). IsSomeAnd o (BeginBoth first second)) (sym (law frames.written ∙ ap (option_map {T = Letters} (written_heads file ops)) frames.are))
    (record { first_is = begins ops first _ frames.frames.asks; second_is = begins ops second _ frames.frames.answers })
