use Rattle.std.proofs.Common.{◌≡◌, ◌++◌, ◌∷◌, [], ◌+◌, ℕ, List, Option, None, Some, length, map, refl, sym, ap, subst, ◌∙◌, arith, append-nil, length-append}
use Rattle.std.specs.List.{AllByRecursion}
use Rattle.hist_plain.specs.declared.event.Op.TheVariants as ops
use Rattle.marshal_buf.specs.declared.door.Door.{Door}
use Rattle.script_text.specs.declared.script.Reply.TheVariants as replies
use Rattle.client_objects.specs.declared.state.ClientState.{ClientState}
use Rattle.client_objects.specs.declared.target.Way.{Way}
use Rattle.client_replicas.specs.declared.door.OpenDoor.{OpenDoor}
use Rattle.client_replicas.specs.declared.replicas.OpenReplicon.{OpenReplicon}
use Rattle.client_replicas.specs.Objects.{with_replicon}
use Rattle.client_replicas.specs.Received.{LeadsOnto}
use Rattle.client_replicas.specs.OpenDoors.{first_life, fresh, open_door, with_life}
use Rattle.script_meaning.specs.Plan.{access, asking_at, by_door, carrying, ends, opening, plan_opens, replicating}
use Rattle.spr_client.specs.declared.client.Client.{Client}
use Rattle.spr_client.specs.Doors.{replica_way}
use Rattle.spr_client.specs.Lines.{IsOnMachine, PlanDone}
use Rattle.spr_client.specs.Serving.{CallMade, IsWayTo}
use Rattle.spr_client.proofs.BackLaws.{made-err, made-ok, made-replicas}
use Rattle.spr_client.proofs.DoorLaws.{door-route, life-set, on-behind, one-behind, opens-ended, opens-onward}
use Rattle.spr_client.proofs.LineLaws.{plan-none}
use Rattle.spr_client.proofs.Targets.{on_machine-carrying}
use Rattle.spr_client.proofs.replicas.+open_doors.Goals as goal

no-door : (doors : List Door) → length doors ≡ 0 → doors ≡ []
no-door [] none = refl
no-door (door ∷ doors) none = absurd (omega (arith, none))

pub returns-in_default-clause-done : goal.returns-in_default-clause-done
returns-in_default-clause-done g t c = λ replicas name before is len.
    let mount = c.args.common.now.mount.now in
    let caller = c.args.client.now.caller in
    let given = c.args.client.now.state in
    let state : ClientState = replicating given replicas in
    let none : c.args.doors.now ≡ [] = no-door c.args.doors.now c.in_default.ensures.cases in
    let all : before ++ map fresh c.args.doors.now ≡ before = ap (λ (ds : List Door). before ++ map fresh ds) none ∙ append-nil before in
    let has : given.replicas ≡ with_replicon replicas name before = is ∙ ap (with_replicon replicas name) all in
    let life : c.last_life-life.result ≡ first_life before = c.last_life-life.ensures replicas name before has in
    plan-none mount caller (plan_opens mount name before c.args.doors.now state) c.args.pass.now (replies.Life c.last_life-life.result) given
    (ap (λ (ds : List Door). plan_opens mount name before ds state) none
    ∙ (ap (λ (n : ℕ). ends (replies.Life n) (replicating state (with_replicon replicas name before))) (sym life) ∙ ap (λ (rs : List OpenReplicon). ends (replies.Life c.last_life-life.result) (replicating given rs)) (sym has)))

pub call_way-requires-clause-route : goal.call_way-requires-clause-route
call_way-requires-clause-route g t c κs within =
    let mount = c.args.common.now.mount.now in
    let door = c.in-Some.door.now in
    let parts : c.args.doors.now ≡ door ∷ c.in-Some.more.now = c.in-Some.ensures.cases.0 in
    let lead = (subst (λ (ds : List Door). AllByRecursion (LeadsOnto mount) ds) parts c.requires.lead).0 in
    subst (λ (w : Way). IsWayTo mount w door.node) (sym c.replica_way-way.ensures) (door-route mount (fresh door) c.nodes-nodes.ensures.sound (record { view = lead.view; file = lead.file }))

pub returns-in-Ok-clause-done : goal.returns-in-Ok-clause-done
returns-in-Ok-clause-done g t c = λ replicas name before is len.
    let mount = c.args.common.now.mount.now in
    let caller = c.args.client.now.caller in
    let given = c.args.client.now.state in
    let state : ClientState = replicating given replicas in
    let door = c.in-Some.door.now in
    let more = c.in-Some.more.now in
    let parts : c.args.doors.now ≡ door ∷ more = c.in-Some.ensures.cases.0 in
    let mid = c.call_way.new.client.state in
    let back : ClientState = replicating mid replicas in
    let old = c.args.pass.now in
    let pass = c.call_way.new.pass in
    let out : List ℕ = c.call_way.new.out in
    let moved : mid ≡ carrying given mid.carrier = ap (λ (k : Client). k.state) c.call_way.ensures.same in
    let one = made-replicas mount caller (asking_at mount given door.node c.replica_way-way.result.file (access door.node 0 ops.Open)) old pass given mid out c.call_way.result replicas moved c.call_way.ensures.made in
    let made = subst (λ (w : Way). CallMade mount caller (asking_at mount given door.node w.file (access door.node 0 ops.Open)) old pass state back out c.call_way.result) c.replica_way-way.ensures one in
    let same : mid.replicas ≡ given.replicas = ap (λ (s : ClientState). s.replicas) moved in
    let has : mid.replicas ≡ with_replicon replicas name (before ++ map fresh (door ∷ more)) = same ∙ (is ∙ ap (λ (ds : List Door). with_replicon replicas name (before ++ map fresh ds)) parts) in
    let answer = c.in-Ok.answer in
    let came = made-ok mount caller (opening mount state (by_door (fresh door))) old pass state back out c.call_way.result answer c.in-Ok.is made in
    let life = c.life_in.result in
    let kept : c.keep_last.new.self ≡ with_replicon replicas name ((before ++ open_door door life ∷ []) ++ map fresh more) =
    c.keep_last.ensures replicas name (before ++ map fresh (door ∷ more)) has
    ∙ ap (with_replicon replicas name) (life-set before (map fresh more) (fresh door) c.args.k life len ∙ one-behind before (map fresh more) (open_door door life)) in
    let longer : length (before ++ open_door door life ∷ []) ≡ c.args.k + 1 = (let both = length-append before (open_door door life ∷ []) in omega (arith, both, len)) in
    subst (λ (ds : List Door). PlanDone mount caller (plan_opens mount name before ds state) old c.open_doors.new.pass c.open_doors.result c.open_doors.new.client.state) (sym parts)
    (opens-onward mount caller c.call_way.new.client.caller old pass c.open_doors.new.pass state back c.open_doors.new.client.state name before door more out answer life c.open_doors.result came c.life_in.ensures (ap (λ (k : Client). k.caller) c.call_way.ensures.same)
    (c.open_doors.ensures.done replicas name (before ++ open_door door life ∷ []) kept longer))

pub returns-in-Ok-clause-on : goal.returns-in-Ok-clause-on
returns-in-Ok-clause-on g t c = λ replicas name before is len on all.
    let mount = c.args.common.now.mount.now in
    let caller = c.args.client.now.caller in
    let given = c.args.client.now.state in
    let state : ClientState = replicating given replicas in
    let door = c.in-Some.door.now in
    let more = c.in-Some.more.now in
    let parts : c.args.doors.now ≡ door ∷ more = c.in-Some.ensures.cases.0 in
    let mid = c.call_way.new.client.state in
    let back : ClientState = replicating mid replicas in
    let old = c.args.pass.now in
    let pass = c.call_way.new.pass in
    let out : List ℕ = c.call_way.new.out in
    let moved : mid ≡ carrying given mid.carrier = ap (λ (k : Client). k.state) c.call_way.ensures.same in
    let one = made-replicas mount caller (asking_at mount given door.node c.replica_way-way.result.file (access door.node 0 ops.Open)) old pass given mid out c.call_way.result replicas moved c.call_way.ensures.made in
    let made = subst (λ (w : Way). CallMade mount caller (asking_at mount given door.node w.file (access door.node 0 ops.Open)) old pass state back out c.call_way.result) c.replica_way-way.ensures one in
    let same : mid.replicas ≡ given.replicas = ap (λ (s : ClientState). s.replicas) moved in
    let has : mid.replicas ≡ with_replicon replicas name (before ++ map fresh (door ∷ more)) = same ∙ (is ∙ ap (λ (ds : List Door). with_replicon replicas name (before ++ map fresh ds)) parts) in
    let life = c.life_in.result in
    let kept : c.keep_last.new.self ≡ with_replicon replicas name ((before ++ open_door door life ∷ []) ++ map fresh more) =
    c.keep_last.ensures replicas name (before ++ map fresh (door ∷ more)) has
    ∙ ap (with_replicon replicas name) (life-set before (map fresh more) (fresh door) c.args.k life len ∙ one-behind before (map fresh more) (open_door door life)) in
    let longer : length (before ++ open_door door life ∷ []) ≡ c.args.k + 1 = (let both = length-append before (open_door door life ∷ []) in omega (arith, both, len)) in
    let lead = (subst (λ (ds : List Door). AllByRecursion (LeadsOnto mount) ds) parts c.requires.lead).0 in
    c.open_doors.ensures.on replicas name (before ++ open_door door life ∷ []) kept longer (on_machine-carrying mount state back (ap (λ (s : ClientState). replicating s replicas) moved) on)
    (on-behind mount before (open_door door life) all (record { view = lead.view; file = lead.file }))

pub returns-clause-done : goal.returns-clause-done
returns-clause-done g t c = λ replicas name before is len.
    let mount = c.args.common.now.mount.now in
    let caller = c.args.client.now.caller in
    let given = c.args.client.now.state in
    let state : ClientState = replicating given replicas in
    let door = c.in-Some.door.now in
    let more = c.in-Some.more.now in
    let parts : c.args.doors.now ≡ door ∷ more = c.in-Some.ensures.cases.0 in
    let mid = c.call_way.new.client.state in
    let back : ClientState = replicating mid replicas in
    let old = c.args.pass.now in
    let pass = c.call_way.new.pass in
    let out : List ℕ = c.call_way.new.out in
    let moved : mid ≡ carrying given mid.carrier = ap (λ (k : Client). k.state) c.call_way.ensures.same in
    let one = made-replicas mount caller (asking_at mount given door.node c.replica_way-way.result.file (access door.node 0 ops.Open)) old pass given mid out c.call_way.result replicas moved c.call_way.ensures.made in
    let made = subst (λ (w : Way). CallMade mount caller (asking_at mount given door.node w.file (access door.node 0 ops.Open)) old pass state back out c.call_way.result) c.replica_way-way.ensures one in
    let same : mid.replicas ≡ given.replicas = ap (λ (s : ClientState). s.replicas) moved in
    let has : mid.replicas ≡ with_replicon replicas name (before ++ map fresh (door ∷ more)) = same ∙ (is ∙ ap (λ (ds : List Door). with_replicon replicas name (before ++ map fresh ds)) parts) in
    let reply = c.in-Err.reply in
    let gone : c.give_up_last.new.self ≡ replicas = c.give_up_last.ensures replicas name (before ++ map fresh (door ∷ more)) has in
    subst (λ (rs : List OpenReplicon). PlanDone mount caller (plan_opens mount name before c.args.doors.now state) old pass reply (replicating mid rs)) (sym gone)
    (subst (λ (ds : List Door). PlanDone mount caller (plan_opens mount name before ds state) old pass reply back) (sym parts)
    (opens-ended mount caller old pass state back name before door more reply (made-err mount caller (opening mount state (by_door (fresh door))) old pass state back out c.call_way.result reply c.in-Err.is made)))
