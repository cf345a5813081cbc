use Rattle.std.proofs.Common.{◌≡◌, ℕ, List, refl, sym, ap, subst, ◌∙◌, inl, inr}
use Rattle.hist_plain.specs.declared.event.Op.TheVariants as ops
use Rattle.hist_plain.specs.Plain.{Told}
use Rattle.script_text.specs.declared.script.Reply.{Reply}
use Rattle.vmm_space.specs.Spaces.{SpaceShape, with_region}
use Rattle.client_objects.specs.declared.state.ClientState.{ClientState}
use Rattle.script_meaning.specs.Plan.{Plan, Request, ends, asking, access, life_in, living, mapping, plan_mapped, reply_of}
use Rattle.spr_client.specs.Calls.{CallDone}
use Rattle.spr_client.specs.Lines.{PlanDone}
use Rattle.spr_client.proofs.LineLaws.{no-bytes, plan-ok, plan-refused}
use Rattle.spr_client.proofs.mapping.open_mapped.Goals as goal

pub returns-in-Ok-clause-done : goal.returns-in-Ok-clause-done
returns-in-Ok-clause-done g c = λ space region is leaf file.
    let mount = c.args.common.now.mount.now in
    let caller = c.args.client.now.caller in
    let state : ClientState = mapping c.args.client.now.state space in
    let ask : Request = asking region.file (access region.leaf 0 ops.Open) in
    let go_on : Told → Plan = λ told. ends (reply_of told) (mapping state (with_region space (living region (life_in told.answer)))) in
    let answered = c.in-Ok.answered in
    let out : List ℕ = c.access_at.new.out in
    let there = subst (λ n. CallDone caller (asking c.args.file (access n 0 ops.Open)) c.args.pass.now c.access_at.new.pass out c.access_at.result) (sym leaf) c.access_at.ensures in
    let called = subst (λ n. CallDone caller (asking n (access region.leaf 0 ops.Open)) c.args.pass.now c.access_at.new.pass out c.access_at.result) (sym file) there in
    let done = subst (λ r. CallDone caller ask c.args.pass.now c.access_at.new.pass out r) c.in-Ok.is called in
    plan-ok mount c.args.common.now.volume.now caller (plan_mapped state region) ask state go_on c.args.pass.now c.access_at.new.pass out answered c.reply_to.result (mapping state c.set_life.new.self) c.requires.may refl refl done
    (λ t answer bytes.
    let said : c.reply_to.result ≡ reply_of t = c.reply_to.ensures t answer (λ read. bytes read ∙ (no-bytes out c.access_at.auto.out ∙ sym c.new.ensures.items)) in
    let life : life_in t.answer ≡ c.life_in.result = ap life_in answer ∙ sym c.life_in.ensures in
    let held = c.set_life.ensures.last space region is in
    let left : mapping state (with_region space (living region (life_in t.answer))) ≡ mapping state c.set_life.new.self =
    ap (λ (n : ℕ). mapping state (with_region space (living region n))) life ∙ ap (mapping state) (sym held) in
    ap (λ (r : Reply). ends r (mapping state (with_region space (living region (life_in t.answer))))) (sym said) ∙ ap (λ (s : ClientState). ends c.reply_to.result s) left)

pub returns-in-Ok-clause-on : goal.returns-in-Ok-clause-on
returns-in-Ok-clause-on g c = λ space region is.
    inr (c.life_in.result, ap (mapping c.args.client.now.state) (c.set_life.ensures.last space region is))

pub returns-in-Err-clause-done : goal.returns-in-Err-clause-done
returns-in-Err-clause-done g c = λ space region is leaf file.
    let mount = c.args.common.now.mount.now in
    let caller = c.args.client.now.caller in
    let state : ClientState = mapping c.args.client.now.state space in
    let ask : Request = asking region.file (access region.leaf 0 ops.Open) in
    let go_on : Told → Plan = λ told. ends (reply_of told) (mapping state (with_region space (living region (life_in told.answer)))) in
    let out : List ℕ = c.access_at.new.out in
    let there = subst (λ n. CallDone caller (asking c.args.file (access n 0 ops.Open)) c.args.pass.now c.access_at.new.pass out c.access_at.result) (sym leaf) c.access_at.ensures in
    let called = subst (λ n. CallDone caller (asking n (access region.leaf 0 ops.Open)) c.args.pass.now c.access_at.new.pass out c.access_at.result) (sym file) there in
    let done = subst (λ r. CallDone caller ask c.args.pass.now c.access_at.new.pass out r) c.in-Err.is called in
    subst (λ (s : SpaceShape). PlanDone mount caller (plan_mapped state region) c.args.pass.now c.access_at.new.pass c.refused.result (mapping state s)) (sym (c.give_up_last.ensures.last space region is))
    (plan-refused mount c.args.common.now.volume.now caller (plan_mapped state region) ask state go_on c.args.pass.now c.access_at.new.pass out c.in-Err.err c.refused.result c.requires.may refl refl done c.refused.ensures)

pub returns-in-Err-clause-on : goal.returns-in-Err-clause-on
returns-in-Err-clause-on g c = λ space region is.
    inl (ap (mapping c.args.client.now.state) (c.give_up_last.ensures.last space region is))
