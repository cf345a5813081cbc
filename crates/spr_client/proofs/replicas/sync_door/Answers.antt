use Rattle.std.proofs.Common.{◌≡◌, ℕ, List, refl, sym, ap, subst, ◌∙◌}
use Rattle.hist_plain.specs.declared.event.Keep.{Keep}
use Rattle.marshal_buf.specs.declared.door.Door.{Door}
use Rattle.client_objects.specs.declared.target.Way.{Way}
use Rattle.script_meaning.specs.Plan.{Request, asking_at, carrying, sync}
use Rattle.spr_client.specs.declared.client.Client.{Client}
use Rattle.spr_client.specs.Doors.{replica_way}
use Rattle.spr_client.specs.Serving.{CallMade, keep_of}
use Rattle.spr_client.proofs.BackLaws.{done-back, done-ended, keep-again, made-err, made-held, made-ok}
use Rattle.spr_client.proofs.LineLaws.{no-bytes}
use Rattle.spr_client.proofs.replicas.sync_door.Goals as goal

pub returns-in-Ok-clause-done : goal.returns-in-Ok-clause-done
returns-in-Ok-clause-done g c =
    let mount = c.args.common.now.mount.now in
    let caller = c.args.client.now.caller in
    let state = c.args.client.now.state in
    let door = c.args.door in
    let keep = c.args.keep in
    let left = c.call_way.new.client.state in
    let old = c.args.pass.now in
    let new = c.call_way.new.pass in
    let out : List ℕ = c.call_way.new.out in
    let request : Request = asking_at mount state door.view door.file (sync door.view keep) in
    let moved : left ≡ carrying state left.carrier = ap (λ (k : Client). k.state) c.call_way.ensures.same in
    let way : c.replica_way-way.result ≡ replica_way (record { node = door.view; file = door.file }) = c.replica_way-way.ensures ∙ ap (λ (d : Door). replica_way d) c.door_of.ensures in
    let kept : keep_of c.keep_number-life.result ≡ keep = ap keep_of c.keep_number-life.ensures ∙ keep-again keep in
    let made = made-held mount caller (asking_at mount state door.view c.replica_way-way.result.file (sync door.view (keep_of c.keep_number-life.result))) old new state left out c.call_way.result moved c.call_way.ensures.made in
    let by_way = subst (λ (w : Way). CallMade mount caller (asking_at mount state door.view w.file (sync door.view (keep_of c.keep_number-life.result))) old new state left out c.call_way.result) way made in
    let with_keep = subst (λ (k : Keep). CallMade mount caller (asking_at mount state door.view door.file (sync door.view k)) old new state left out c.call_way.result) kept by_way in
    let answer = c.in-Ok.answer in
    done-back mount caller state request old new state left out answer c.reply_to.result (made-ok mount caller request old new state left out c.call_way.result answer c.in-Ok.is with_keep)
    (λ told answered bytes. c.reply_to.ensures told answered (λ read. bytes read ∙ (no-bytes out c.call_way.auto.out ∙ sym c.new.ensures.items)))

pub returns-in-Err-clause-done : goal.returns-in-Err-clause-done
returns-in-Err-clause-done g c =
    let mount = c.args.common.now.mount.now in
    let caller = c.args.client.now.caller in
    let state = c.args.client.now.state in
    let door = c.args.door in
    let keep = c.args.keep in
    let left = c.call_way.new.client.state in
    let old = c.args.pass.now in
    let new = c.call_way.new.pass in
    let out : List ℕ = c.call_way.new.out in
    let request : Request = asking_at mount state door.view door.file (sync door.view keep) in
    let moved : left ≡ carrying state left.carrier = ap (λ (k : Client). k.state) c.call_way.ensures.same in
    let way : c.replica_way-way.result ≡ replica_way (record { node = door.view; file = door.file }) = c.replica_way-way.ensures ∙ ap (λ (d : Door). replica_way d) c.door_of.ensures in
    let kept : keep_of c.keep_number-life.result ≡ keep = ap keep_of c.keep_number-life.ensures ∙ keep-again keep in
    let made = made-held mount caller (asking_at mount state door.view c.replica_way-way.result.file (sync door.view (keep_of c.keep_number-life.result))) old new state left out c.call_way.result moved c.call_way.ensures.made in
    let by_way = subst (λ (w : Way). CallMade mount caller (asking_at mount state door.view w.file (sync door.view (keep_of c.keep_number-life.result))) old new state left out c.call_way.result) way made in
    let with_keep = subst (λ (k : Keep). CallMade mount caller (asking_at mount state door.view door.file (sync door.view k)) old new state left out c.call_way.result) kept by_way in
    let reply = c.in-Err.reply in
    done-ended mount caller state request old new state left reply (made-err mount caller request old new state left out c.call_way.result reply c.in-Err.is with_keep)
