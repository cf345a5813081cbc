use Rattle.std.proofs.Common.{◌≡◌, ◌<◌, ◌⊎◌, inl, inr, ◌∷◌, [], ℕ, List, Option, None, Some, Bool, true, false, length, refl, sym, ap, subst, ◌∙◌, arith}
use Rattle.std.specs.Prelude.{IsSome, unwrap_or}
use Rattle.std.specs.List.{AllByRecursion}
use Rattle.std.proofs.lemmas.List.{with_items_is}
use Rattle.hist_plain.specs.declared.event.Op.{Op}
use Rattle.hist_plain.specs.Event.{fits_page}
use Rattle.hist_plain.specs.Plain.{Told}
use Rattle.marshal_buf.specs.declared.door.Door.{Door}
use Rattle.client_objects.specs.declared.state.ClientState.{ClientState}
use Rattle.client_objects.specs.declared.target.Way.{Way}
use Rattle.client_replicas.specs.declared.door.OpenDoor.{OpenDoor}
use Rattle.client_replicas.specs.declared.replicas.OpenReplicon.{OpenReplicon}
use Rattle.client_replicas.specs.Objects.{doors_of, with_doors}
use Rattle.client_replicas.proofs.NamedLaws.{doors_of-with_doors}
use Rattle.script_meaning.specs.Stack.{pages_of}
use Rattle.script_meaning.specs.Plan.{Plan, access, asking_at, by_door, carrying, is_revoked, plan_by_doors, plan_next, plan_try, replicating, trial_of}
use Rattle.spr_client.specs.declared.client.Client.{Client}
use Rattle.spr_client.specs.Calls.{MayCall}
use Rattle.spr_client.specs.Doors.{doors_left, replica_way}
use Rattle.spr_client.specs.Lines.{IsReplicatedOn, PlanDone}
use Rattle.spr_client.specs.Serving.{CallMade, IsWayTo}
use Rattle.spr_client.proofs.BackLaws.{made-err, made-held, made-ok}
use Rattle.spr_client.proofs.DoorLaws.{any-fails, any-lacks, any-leads, any-unfit, door-route, doors-on, ends-here, goes-on, next-goes, next-said, on-replicating, on-with_doors, same-doors}
use Rattle.spr_client.proofs.LineLaws.{may-still}
use Rattle.spr_client.proofs.Targets.{on_machine-carrying}
use Rattle.spr_client.proofs.replicas.+access_doors.Goals as goal

pub returns-then-not-fits-clause-done : goal.returns-then-not-fits-clause-done
returns-then-not-fits-clause-done g t c = λ more is.
    let mount = c.args.common.now.mount.now in
    let caller = c.args.client.now.caller in
    let state = c.args.client.now.state in
    let name = c.args.name.now in
    let door = c.args.door in
    let op = c.args.op in
    let fit : fits_page mount.page_size (pages_of mount door.file) op ≡ false =
    ap (λ (n : ℕ). fits_page mount.page_size n op) (sym c.pages_of.ensures) ∙ (ap (λ (n : ℕ). fits_page n c.pages_of.result op) (sym c.page_size.ensures.value) ∙ (sym c.fits.ensures ∙ c.if-not-fits.true)) in
    any-unfit mount caller op (plan_next mount name op more) state (by_door door) c.args.pass.now fit

pub returns-in_default-clause-done : goal.returns-in_default-clause-done
returns-in_default-clause-done g t c = λ more is.
    let mount = c.args.common.now.mount.now in
    let caller = c.args.client.now.caller in
    let state = c.args.client.now.state in
    let name = c.args.name.now in
    let door = c.args.door in
    let op = c.args.op in
    let fit : fits_page mount.page_size (pages_of mount door.file) op ≡ true =
    ap (λ (n : ℕ). fits_page mount.page_size n op) (sym c.pages_of.ensures) ∙ (ap (λ (n : ℕ). fits_page n c.pages_of.result op) (sym c.page_size.ensures.value) ∙ (sym c.fits.ensures ∙ c.if-not-fits.false)) in
    any-lacks mount caller op (plan_next mount name op more) state (by_door door) c.args.pass.now fit

pub call_way-requires-clause-route : goal.call_way-requires-clause-route
call_way-requires-clause-route g t c κs within =
    let mount = c.args.common.now.mount.now in
    let door = c.args.door in
    let on = (doors-on mount c.args.name.now c.args.client.now.state.replicas _ c.requires.on.replicas c.requires.first.1).0 in
    subst (λ (w : Way). IsWayTo mount w door.view) (sym (c.replica_way-way.ensures ∙ ap (λ (d : Door). replica_way d) c.door_of.ensures)) (door-route mount door c.nodes-nodes.ensures.sound on)

pub returns-in-Err-clause-done : goal.returns-in-Err-clause-done
returns-in-Err-clause-done g t c = λ more is.
    let mount = c.args.common.now.mount.now in
    let caller = c.args.client.now.caller in
    let state = c.args.client.now.state in
    let name = c.args.name.now in
    let door = c.args.door in
    let op = c.args.op in
    let fit : fits_page mount.page_size (pages_of mount door.file) op ≡ true =
    ap (λ (n : ℕ). fits_page mount.page_size n op) (sym c.pages_of.ensures) ∙ (ap (λ (n : ℕ). fits_page n c.pages_of.result op) (sym c.page_size.ensures.value) ∙ (sym c.fits.ensures ∙ c.if-not-fits.false)) in
    let old = c.args.pass.now in
    let mid = c.call_way.new.pass in
    let out : List ℕ = c.call_way.new.out in
    let back = c.call_way.new.client.state in
    let moved : back ≡ carrying state back.carrier = ap (λ (k : Client). k.state) c.call_way.ensures.same in
    let way : c.replica_way-way.result ≡ replica_way (record { node = door.view; file = door.file }) = c.replica_way-way.ensures ∙ ap (λ (d : Door). replica_way d) c.door_of.ensures in
    let held = made-held mount caller (asking_at mount state door.view c.replica_way-way.result.file (access door.view door.life op)) old mid state back out c.call_way.result moved c.call_way.ensures.made in
    let made = subst (λ (w : Way). CallMade mount caller (asking_at mount state door.view w.file (access door.view door.life op)) old mid state back out c.call_way.result) way held in
    let reply = c.in-Err.reply in
    any-fails mount caller op (plan_next mount name op more) state (by_door door) old mid reply back fit (made-err mount caller (trial_of mount state (by_door door) op) old mid state back out c.call_way.result reply c.in-Err.is made)

pub returns-then-not-is_revoked-clause-done : goal.returns-then-not-is_revoked-clause-done
returns-then-not-is_revoked-clause-done g t c = λ more is.
    let mount = c.args.common.now.mount.now in
    let caller = c.args.client.now.caller in
    let state = c.args.client.now.state in
    let name = c.args.name.now in
    let door = c.args.door in
    let op = c.args.op in
    let fit : fits_page mount.page_size (pages_of mount door.file) op ≡ true =
    ap (λ (n : ℕ). fits_page mount.page_size n op) (sym c.pages_of.ensures) ∙ (ap (λ (n : ℕ). fits_page n c.pages_of.result op) (sym c.page_size.ensures.value) ∙ (sym c.fits.ensures ∙ c.if-not-fits.false)) in
    let old = c.args.pass.now in
    let mid = c.call_way.new.pass in
    let out : List ℕ = c.call_way.new.out in
    let back = c.call_way.new.client.state in
    let moved : back ≡ carrying state back.carrier = ap (λ (k : Client). k.state) c.call_way.ensures.same in
    let way : c.replica_way-way.result ≡ replica_way (record { node = door.view; file = door.file }) = c.replica_way-way.ensures ∙ ap (λ (d : Door). replica_way d) c.door_of.ensures in
    let held = made-held mount caller (asking_at mount state door.view c.replica_way-way.result.file (access door.view door.life op)) old mid state back out c.call_way.result moved c.call_way.ensures.made in
    let made = subst (λ (w : Way). CallMade mount caller (asking_at mount state door.view w.file (access door.view door.life op)) old mid state back out c.call_way.result) way held in
    let answer = c.in-Ok-call_way.answer in
    let came = made-ok mount caller (trial_of mount state (by_door door) op) old mid state back out c.call_way.result answer c.in-Ok-call_way.is made in
    let there : doors_of name back.replicas ≡ doors_of name state.replicas = ap (λ (s : ClientState). doors_of name s.replicas) moved in
    let items = with_items_is c.in-Ok.out out (c.call_way.auto.out ∙ c.deref_mut.ensures.len) in
    let other : is_revoked answer ≡ false = sym c.is_revoked.ensures ∙ c.if-not-is_revoked.true in
    any-leads mount caller op (plan_next mount name op more) state (by_door door) old mid mid out answer c.reply_to.result back back fit came
    (λ told answered bytes. next-said mount caller name op more back told mid c.reply_to.result (inr (ap is_revoked answered ∙ other)) (c.reply_to.ensures told answered (λ read. bytes read ∙ sym items)))

pub returns-then-not-drop_first-clause-done : goal.returns-then-not-drop_first-clause-done
returns-then-not-drop_first-clause-done g t c = λ more is.
    let mount = c.args.common.now.mount.now in
    let caller = c.args.client.now.caller in
    let state = c.args.client.now.state in
    let name = c.args.name.now in
    let door = c.args.door in
    let op = c.args.op in
    let fit : fits_page mount.page_size (pages_of mount door.file) op ≡ true =
    ap (λ (n : ℕ). fits_page mount.page_size n op) (sym c.pages_of.ensures) ∙ (ap (λ (n : ℕ). fits_page n c.pages_of.result op) (sym c.page_size.ensures.value) ∙ (sym c.fits.ensures ∙ c.if-not-fits.false)) in
    let old = c.args.pass.now in
    let mid = c.call_way.new.pass in
    let out : List ℕ = c.call_way.new.out in
    let back = c.call_way.new.client.state in
    let moved : back ≡ carrying state back.carrier = ap (λ (k : Client). k.state) c.call_way.ensures.same in
    let way : c.replica_way-way.result ≡ replica_way (record { node = door.view; file = door.file }) = c.replica_way-way.ensures ∙ ap (λ (d : Door). replica_way d) c.door_of.ensures in
    let held = made-held mount caller (asking_at mount state door.view c.replica_way-way.result.file (access door.view door.life op)) old mid state back out c.call_way.result moved c.call_way.ensures.made in
    let made = subst (λ (w : Way). CallMade mount caller (asking_at mount state door.view w.file (access door.view door.life op)) old mid state back out c.call_way.result) way held in
    let answer = c.in-Ok-call_way.answer in
    let came = made-ok mount caller (trial_of mount state (by_door door) op) old mid state back out c.call_way.result answer c.in-Ok-call_way.is made in
    let there : doors_of name back.replicas ≡ doors_of name state.replicas = ap (λ (s : ClientState). doors_of name s.replicas) moved in
    let items = with_items_is c.in-Ok.out out (c.call_way.auto.out ∙ c.deref_mut.ensures.len) in
    let none : more ≡ [] = ends-here c.drop_first.result more (λ next rest same. c.drop_first.ensures.dropped door next rest (there ∙ (is ∙ ap (λ (ds : List OpenDoor). Some (door ∷ ds)) same))) c.if-not-drop_first.true in
    let kept : c.drop_first.new.self ≡ back.replicas = c.drop_first.ensures.kept door (there ∙ (is ∙ ap (λ (ds : List OpenDoor). Some (door ∷ ds)) none)) in
    subst (λ (rs : List OpenReplicon). PlanDone mount caller (plan_by_doors mount state name op door more) old mid c.reply_to-then-not-drop_first.result (replicating back rs)) (sym kept)
    (any-leads mount caller op (plan_next mount name op more) state (by_door door) old mid mid out answer c.reply_to-then-not-drop_first.result back back fit came
    (λ told answered bytes. next-said mount caller name op more back told mid c.reply_to-then-not-drop_first.result (inl none) (c.reply_to-then-not-drop_first.ensures told answered (λ read. bytes read ∙ sym items))))

pub returns-then-not-drop_first-clause-on : goal.returns-then-not-drop_first-clause-on
returns-then-not-drop_first-clause-on g t c =
    let mount = c.args.common.now.mount.now in
    let state = c.args.client.now.state in
    let name = c.args.name.now in
    let door = c.args.door in
    let more : List OpenDoor = c.requires.first.0 in
    let is = c.requires.first.1 in
    let back = c.call_way.new.client.state in
    let moved : back ≡ carrying state back.carrier = ap (λ (k : Client). k.state) c.call_way.ensures.same in
    let there : doors_of name back.replicas ≡ doors_of name state.replicas = ap (λ (s : ClientState). doors_of name s.replicas) moved in
    let none : more ≡ [] = ends-here c.drop_first.result more (λ next rest same. c.drop_first.ensures.dropped door next rest (there ∙ (is ∙ ap (λ (ds : List OpenDoor). Some (door ∷ ds)) same))) c.if-not-drop_first.true in
    let kept : c.drop_first.new.self ≡ back.replicas = c.drop_first.ensures.kept door (there ∙ (is ∙ ap (λ (ds : List OpenDoor). Some (door ∷ ds)) none)) in
    let on = on_machine-carrying mount state back moved c.requires.on in
    on-replicating mount back c.drop_first.new.self on (subst (λ (rs : List OpenReplicon). AllByRecursion (IsReplicatedOn mount) rs) (sym kept) on.replicas)

pub unreachable-requires-in_default-first : goal.unreachable-requires-in_default-first
unreachable-requires-in_default-first g t c =
    let mount = c.args.common.now.mount.now in
    let state = c.args.client.now.state in
    let name = c.args.name.now in
    let door = c.args.door in
    let more : List OpenDoor = c.requires.first.0 in
    let is = c.requires.first.1 in
    let back = c.call_way.new.client.state in
    let moved : back ≡ carrying state back.carrier = ap (λ (k : Client). k.state) c.call_way.ensures.same in
    let there : doors_of name back.replicas ≡ doors_of name state.replicas = ap (λ (s : ClientState). doors_of name s.replicas) moved in
    let left = goes-on c.drop_first.result more (λ none. c.drop_first.ensures.last door (there ∙ (is ∙ ap (λ (ds : List OpenDoor). Some (door ∷ ds)) none))) c.if-not-drop_first.false in
    let next : OpenDoor = left.0 in
    let rest : List OpenDoor = left.1 in
    let two : doors_of name back.replicas ≡ Some (door ∷ next ∷ rest) = there ∙ (is ∙ ap (λ (ds : List OpenDoor). Some (door ∷ ds)) left.2) in
    let dropped : c.drop_first.new.self ≡ with_doors name (next ∷ rest) back.replicas = c.drop_first.ensures.goes_on door next rest two in
    let some : IsSome (doors_of name back.replicas) = rw two refl in
    let now : doors_of name c.drop_first.new.self ≡ Some (next ∷ rest) = ap (doors_of name) dropped ∙ doors_of-with_doors name (next ∷ rest) back.replicas some in
    let none = c.first.ensures.none c.in_default-first.is in
    let never : Some (next ∷ rest) ≡ None = sym now ∙ none in
    absurd cc

pub access_doors-requires : goal.access_doors-requires
access_doors-requires g t c = λ κs within.
    let mount = c.args.common.now.mount.now in
    let state = c.args.client.now.state in
    let name = c.args.name.now in
    let door = c.args.door in
    let more : List OpenDoor = c.requires.first.0 in
    let is = c.requires.first.1 in
    let back = c.call_way.new.client.state in
    let moved : back ≡ carrying state back.carrier = ap (λ (k : Client). k.state) c.call_way.ensures.same in
    let there : doors_of name back.replicas ≡ doors_of name state.replicas = ap (λ (s : ClientState). doors_of name s.replicas) moved in
    let left = goes-on c.drop_first.result more (λ none. c.drop_first.ensures.last door (there ∙ (is ∙ ap (λ (ds : List OpenDoor). Some (door ∷ ds)) none))) c.if-not-drop_first.false in
    let next : OpenDoor = left.0 in
    let rest : List OpenDoor = left.1 in
    let two : doors_of name back.replicas ≡ Some (door ∷ next ∷ rest) = there ∙ (is ∙ ap (λ (ds : List OpenDoor). Some (door ∷ ds)) left.2) in
    let dropped : c.drop_first.new.self ≡ with_doors name (next ∷ rest) back.replicas = c.drop_first.ensures.goes_on door next rest two in
    let some : IsSome (doors_of name back.replicas) = rw two refl in
    let now : doors_of name c.drop_first.new.self ≡ Some (next ∷ rest) = ap (doors_of name) dropped ∙ doors_of-with_doors name (next ∷ rest) back.replicas some in
    let on = on_machine-carrying mount state back moved c.requires.on in
    let all = doors-on mount name back.replicas (door ∷ next ∷ rest) on.replicas two in
    let before : doors_left name state.replicas ≡ length (door ∷ next ∷ rest) = ap (λ (o : Option (List OpenDoor)). length (unwrap_or o [])) (sym there ∙ two) in
    let after : doors_left name c.drop_first.new.self ≡ length (next ∷ rest) = ap (λ (o : Option (List OpenDoor)). length (unwrap_or o [])) now in
    let lower : doors_left name c.drop_first.new.self < doors_left name state.replicas = omega (arith, before, after) in
    let may = subst (λ (n : ℕ). MayCall mount c.args.common.now.volume.now c.call_way.new.pass n) (sym (ap (λ (k : Client). k.caller) c.call_way.ensures.same))
    (may-still mount c.args.common.now.volume.now c.args.pass.now c.call_way.new.pass c.args.client.now.caller c.requires.may c.call_way.ensures.pass) in
    let on_now = on-replicating mount back c.drop_first.new.self on (subst (λ (rs : List OpenReplicon). AllByRecursion (IsReplicatedOn mount) rs) (sym dropped) (on-with_doors mount name (next ∷ rest) back.replicas on.replicas all.1)) in
    (omega (arith, lower, c.decreases), (within.0, (within.1.0, (within.1.1, (c.requires-raw.1.1.1.1.0, (c.requires-raw.1.1.1.1.1.0, (may, (on_now, c.in-Some.ensures.some))))))))

pub returns-clause-done : goal.returns-clause-done
returns-clause-done g t c = λ more is.
    let mount = c.args.common.now.mount.now in
    let caller = c.args.client.now.caller in
    let state = c.args.client.now.state in
    let name = c.args.name.now in
    let door = c.args.door in
    let op = c.args.op in
    let fit : fits_page mount.page_size (pages_of mount door.file) op ≡ true =
    ap (λ (n : ℕ). fits_page mount.page_size n op) (sym c.pages_of.ensures) ∙ (ap (λ (n : ℕ). fits_page n c.pages_of.result op) (sym c.page_size.ensures.value) ∙ (sym c.fits.ensures ∙ c.if-not-fits.false)) in
    let old = c.args.pass.now in
    let mid = c.call_way.new.pass in
    let out : List ℕ = c.call_way.new.out in
    let back = c.call_way.new.client.state in
    let moved : back ≡ carrying state back.carrier = ap (λ (k : Client). k.state) c.call_way.ensures.same in
    let way : c.replica_way-way.result ≡ replica_way (record { node = door.view; file = door.file }) = c.replica_way-way.ensures ∙ ap (λ (d : Door). replica_way d) c.door_of.ensures in
    let held = made-held mount caller (asking_at mount state door.view c.replica_way-way.result.file (access door.view door.life op)) old mid state back out c.call_way.result moved c.call_way.ensures.made in
    let made = subst (λ (w : Way). CallMade mount caller (asking_at mount state door.view w.file (access door.view door.life op)) old mid state back out c.call_way.result) way held in
    let answer = c.in-Ok-call_way.answer in
    let came = made-ok mount caller (trial_of mount state (by_door door) op) old mid state back out c.call_way.result answer c.in-Ok-call_way.is made in
    let there : doors_of name back.replicas ≡ doors_of name state.replicas = ap (λ (s : ClientState). doors_of name s.replicas) moved in
    let left = goes-on c.drop_first.result more (λ none. c.drop_first.ensures.last door (there ∙ (is ∙ ap (λ (ds : List OpenDoor). Some (door ∷ ds)) none))) c.if-not-drop_first.false in
    let next : OpenDoor = left.0 in
    let rest : List OpenDoor = left.1 in
    let two : doors_of name back.replicas ≡ Some (door ∷ next ∷ rest) = there ∙ (is ∙ ap (λ (ds : List OpenDoor). Some (door ∷ ds)) left.2) in
    let dropped : c.drop_first.new.self ≡ with_doors name (next ∷ rest) back.replicas = c.drop_first.ensures.goes_on door next rest two in
    let some : IsSome (doors_of name back.replicas) = rw two refl in
    let now : doors_of name c.drop_first.new.self ≡ Some (next ∷ rest) = ap (doors_of name) dropped ∙ doors_of-with_doors name (next ∷ rest) back.replicas some in
    let over : is_revoked answer ≡ true = sym c.is_revoked.ensures ∙ c.if-not-is_revoked.false in
    let found = c.in-Some.ensures.some in
    let same = same-doors (doors_of name c.drop_first.new.self) c.in-Some.next next found.0 rest found.1 now in
    let op_is : c.in-Access.op ≡ op = cc (c.in-Access.is) in
    let end = c.access_doors.new.client.state in
    let new = c.access_doors.new.pass in
    let said = c.access_doors.result in
    let then_state : ClientState = replicating back c.drop_first.new.self in
    let done = c.access_doors.ensures.done rest (found.1 ∙ ap (λ (ds : List OpenDoor). Some (c.in-Some.next ∷ ds)) same.1) in
    let mine = subst (λ (n : ℕ). PlanDone mount n (plan_by_doors mount then_state name c.in-Access.op c.in-Some.next rest) mid new said end) (ap (λ (k : Client). k.caller) c.call_way.ensures.same) done in
    let by_op = subst (λ (o : Op). PlanDone mount caller (plan_by_doors mount then_state name o c.in-Some.next rest) mid new said end) op_is mine in
    let by_next = subst (λ (d : OpenDoor). PlanDone mount caller (plan_by_doors mount then_state name op d rest) mid new said end) same.0 by_op in
    let by_state = subst (λ (rs : List OpenReplicon). PlanDone mount caller (plan_by_doors mount (replicating back rs) name op next rest) mid new said end) dropped by_next in
    any-leads mount caller op (plan_next mount name op more) state (by_door door) old mid new out answer said back end fit came
    (λ told answered bytes. subst (λ (p : Plan). PlanDone mount caller p mid new said end)
    (sym (ap (λ (ds : List OpenDoor). plan_next mount name op ds back told) left.2 ∙ next-goes mount name op next rest back told (ap is_revoked answered ∙ over))) by_state)
