use Rattle.std.proofs.Common.{◌≡◌, ℕ, List, ◌++◌, length, refl, sym, ap, ap₂, subst, ◌∙◌}
use Rattle.sub_core.specs.declared.why.ObjectErr.{ObjectErr}
use Rattle.sub_replicon.specs.Calls.{RefusesHeld}
use Rattle.marshal_buf.specs.declared.door.Door.{Door}
use Rattle.name_context.specs.Names.{Kept, object}
use Rattle.sub_replicon.specs.Forms.{replicon_bytes}
use Rattle.sub_replicon.proofs.DomainLaws.{holds_held, none_lacking}
use Rattle.client_replicas.proofs.ReceivedLaws.{same-doors}
use Rattle.client_replicas.proofs.stored.stored_replicon.Goals as goal

pub returns-in-Ok : goal.returns-in-Ok
returns-in-Ok c =
    let begun = c.in_ok-object.ensures.ok in
    let sent = c.in-Ok.ensures.ok in
    let same : sent.doors ≡ c.args.doors.now = same-doors c.new.new.domain c.in_ok-object.object.doors sent.doors c.args.doors.now sent.held begun.enter.held in
    let bytes : c.marshal.new.buf.bytes ≡ replicon_bytes 0 (length c.args.doors.now) =
    sent.puts.bytes ∙ (ap (λ (b : List ℕ). b ++ replicon_bytes (length c.new-stored.result.doors) (length sent.doors)) c.new-stored.ensures.bytes
    ∙ (ap (λ (d : List Door). replicon_bytes (length d) (length sent.doors)) c.new-stored.ensures.doors ∙ ap (λ (d : List Door). replicon_bytes 0 (length d)) same)) in
    let doors : c.marshal.new.buf.doors ≡ c.args.doors.now = sent.puts.doors ∙ (ap (λ (d : List Door). d ++ sent.doors) c.new-stored.ensures.doors ∙ same) in
    ap₂ object bytes doors

pub unreachable-requires : goal.unreachable-requires
unreachable-requires c =
    let domain = c.new.new.domain in
    let ids = c.in_ok-object.object.doors in
    let why = subst (λ (e : ObjectErr). RefusesHeld domain ids e) c.in-Err-NoDoor-default.field-0-0-is c.in-Err-NoDoor-default.ensures.why in
    none_lacking domain ids _ (holds_held domain ids c.args.doors.now c.in_ok-object.ensures.ok.enter.held) why
