use Rattle.std.proofs.Common.{◌≡◌, ◌⊎◌, ◌-◌, inl, inr, ℕ, List, suc, true, false, sym, ap, subst, ◌∙◌, arith}
use Rattle.std.proofs.lemmas.List.{with_items_is}
use Rattle.hist_plain.specs.declared.event.Op.{Op}
use Rattle.hist_plain.specs.Event.{fits_page}
use Rattle.script_meaning.specs.Stack.{pages_of}
use Rattle.script_meaning.specs.Plan.{access, asking_at, carrying, is_revoked, plan_after, plan_try, trial_of}
use Rattle.spr_client.specs.declared.client.Client.{Client}
use Rattle.spr_client.specs.Lines.{PlanDone}
use Rattle.spr_client.specs.Serving.{CallMade}
use Rattle.spr_client.proofs.BackLaws.{made-err, made-held, made-ok}
use Rattle.spr_client.proofs.ReconnectLaws.{led-node, try-ends, try-fails, try-lacks, try-onward, try-unfit}
use Rattle.spr_client.proofs.Targets.{on_machine-carrying}
use Rattle.spr_client.proofs.reconnecting.+tried.Goals as goal
use Rattle.spr_client.proofs.reconnecting.+tried.Goals.{then-left-eq0-via-then-left-eq0, then-left-eq0-via-else-left-eq0+then-not-is_revoked}

pub returns-then-not-fits-clause-done : goal.returns-then-not-fits-clause-done
returns-then-not-fits-clause-done g t c =
    let mount = c.args.common.now.mount.now in
    let target = c.args.found.target in
    let fit : fits_page mount.page_size (pages_of mount target.file) c.args.op ≡ false =
    ap (λ (n : ℕ). fits_page mount.page_size n c.args.op) (sym c.pages_of.ensures) ∙ (ap (λ (n : ℕ). fits_page n c.pages_of.result c.args.op) (sym c.page_size.ensures.value) ∙ (sym c.fits.ensures ∙ c.if-not-fits.true)) in
    try-unfit mount c.args.client.now.caller c.args.left c.args.name.now c.args.path.now c.args.op c.args.client.now.state target c.args.pass.now fit

pub returns-in_default-clause-done : goal.returns-in_default-clause-done
returns-in_default-clause-done g t c =
    let mount = c.args.common.now.mount.now in
    let target = c.args.found.target in
    let fit : fits_page mount.page_size (pages_of mount target.file) c.args.op ≡ true =
    ap (λ (n : ℕ). fits_page mount.page_size n c.args.op) (sym c.pages_of.ensures) ∙ (ap (λ (n : ℕ). fits_page n c.pages_of.result c.args.op) (sym c.page_size.ensures.value) ∙ (sym c.fits.ensures ∙ c.if-not-fits.false)) in
    try-lacks mount c.args.client.now.caller c.args.left c.args.name.now c.args.path.now c.args.op c.args.client.now.state target c.args.pass.now fit

pub returns-in-Err-clause-done : goal.returns-in-Err-clause-done
returns-in-Err-clause-done g t c =
    let mount = c.args.common.now.mount.now in
    let target = c.args.found.target in
    let fit : fits_page mount.page_size (pages_of mount target.file) c.args.op ≡ true =
    ap (λ (n : ℕ). fits_page mount.page_size n c.args.op) (sym c.pages_of.ensures) ∙ (ap (λ (n : ℕ). fits_page n c.pages_of.result c.args.op) (sym c.page_size.ensures.value) ∙ (sym c.fits.ensures ∙ c.if-not-fits.false)) in
    let caller = c.args.client.now.caller in
    let state = c.args.client.now.state in
    let name = c.args.name.now in
    let path = c.args.path.now in
    let back = c.call_object.new.client.state in
    let old = c.args.pass.now in
    let mid = c.call_object.new.pass in
    let out : List ℕ = c.call_object.new.out in
    let moved : back ≡ carrying state back.carrier = ap (λ (k : Client). k.state) c.call_object.ensures.same in
    let made = made-held mount caller (asking_at mount state c.args.found.node target.file (access c.args.found.node target.life c.args.op)) old mid state back out c.call_object.result moved c.call_object.ensures.made in
    let at_node = subst (λ (n : ℕ). CallMade mount caller (asking_at mount state n target.file (access n target.life c.args.op)) old mid state back out c.call_object.result) (led-node mount name state c.args.found c.requires.led) made in
    let reply = c.in-Err.reply in
    try-fails mount caller c.args.left name path c.args.op state target old mid reply back fit (made-err mount caller (trial_of mount state target c.args.op) old mid state back out c.call_object.result reply c.in-Err.is at_node)

pub returns-in-Err-clause-on : goal.returns-in-Err-clause-on
returns-in-Err-clause-on g t c =
    on_machine-carrying c.args.common.now.mount.now c.args.client.now.state c.call_object.new.client.state (ap (λ (k : Client). k.state) c.call_object.ensures.same) c.requires.on

pub returns-then-left-eq0-clause-done : goal.returns-then-left-eq0-clause-done
returns-then-left-eq0-clause-done g t c =
    let mount = c.args.common.now.mount.now in
    let target = c.args.found.target in
    let fit : fits_page mount.page_size (pages_of mount target.file) c.args.op ≡ true =
    ap (λ (n : ℕ). fits_page mount.page_size n c.args.op) (sym c.pages_of.ensures) ∙ (ap (λ (n : ℕ). fits_page n c.pages_of.result c.args.op) (sym c.page_size.ensures.value) ∙ (sym c.fits.ensures ∙ c.if-not-fits.false)) in
    let caller = c.args.client.now.caller in
    let state = c.args.client.now.state in
    let name = c.args.name.now in
    let path = c.args.path.now in
    let back = c.call_object.new.client.state in
    let old = c.args.pass.now in
    let mid = c.call_object.new.pass in
    let out : List ℕ = c.call_object.new.out in
    let moved : back ≡ carrying state back.carrier = ap (λ (k : Client). k.state) c.call_object.ensures.same in
    let made = made-held mount caller (asking_at mount state c.args.found.node target.file (access c.args.found.node target.life c.args.op)) old mid state back out c.call_object.result moved c.call_object.ensures.made in
    let at_node = subst (λ (n : ℕ). CallMade mount caller (asking_at mount state n target.file (access n target.life c.args.op)) old mid state back out c.call_object.result) (led-node mount name state c.args.found c.requires.led) made in
    let answer = c.in-Ok-call_object.answer in
    let came = made-ok mount caller (trial_of mount state target c.args.op) old mid state back out c.call_object.result answer c.in-Ok-call_object.is at_node in
    let items = with_items_is c.in-Ok.out out (c.call_object.auto.out ∙ c.deref_mut.ensures.len) in
    let why : (c.args.left ≡ 0) ⊎ (is_revoked answer ≡ false) = elim c.then-left-eq0.branch [
      | then-left-eq0-via-then-left-eq0 w ↦ inl (let none = w.if-left-eq0.true in omega (arith, none))
      | then-left-eq0-via-else-left-eq0+then-not-is_revoked w ↦ inr (sym w.is_revoked.ensures ∙ w.if-not-is_revoked.true)
    ] in
    try-ends mount caller c.args.left name path c.args.op state target old mid out answer c.reply_to.result back fit came why
    (λ told answered bytes. c.reply_to.ensures told answered (λ read. bytes read ∙ sym items))

pub returns-then-left-eq0-clause-on : goal.returns-then-left-eq0-clause-on
returns-then-left-eq0-clause-on g t c =
    on_machine-carrying c.args.common.now.mount.now c.args.client.now.state c.call_object.new.client.state (ap (λ (k : Client). k.state) c.call_object.ensures.same) c.requires.on

pub returns-in-Ok-reconnect-clause-done : goal.returns-in-Ok-reconnect-clause-done
returns-in-Ok-reconnect-clause-done g t c =
    let mount = c.args.common.now.mount.now in
    let target = c.args.found.target in
    let fit : fits_page mount.page_size (pages_of mount target.file) c.args.op ≡ true =
    ap (λ (n : ℕ). fits_page mount.page_size n c.args.op) (sym c.pages_of.ensures) ∙ (ap (λ (n : ℕ). fits_page n c.pages_of.result c.args.op) (sym c.page_size.ensures.value) ∙ (sym c.fits.ensures ∙ c.if-not-fits.false)) in
    let caller = c.args.client.now.caller in
    let state = c.args.client.now.state in
    let name = c.args.name.now in
    let path = c.args.path.now in
    let back = c.call_object.new.client.state in
    let old = c.args.pass.now in
    let mid = c.call_object.new.pass in
    let out : List ℕ = c.call_object.new.out in
    let moved : back ≡ carrying state back.carrier = ap (λ (k : Client). k.state) c.call_object.ensures.same in
    let made = made-held mount caller (asking_at mount state c.args.found.node target.file (access c.args.found.node target.life c.args.op)) old mid state back out c.call_object.result moved c.call_object.ensures.made in
    let at_node = subst (λ (n : ℕ). CallMade mount caller (asking_at mount state n target.file (access n target.life c.args.op)) old mid state back out c.call_object.result) (led-node mount name state c.args.found c.requires.led) made in
    let answer = c.in-Ok-call_object.answer in
    let came = made-ok mount caller (trial_of mount state target c.args.op) old mid state back out c.call_object.result answer c.in-Ok-call_object.is at_node in
    let further : ℕ = c.args.left - 1 in
    let is : c.args.left ≡ suc further = let some = c.if-left-eq0.false in omega (arith, some) in
    let over : is_revoked answer ≡ true = sym c.is_revoked.ensures ∙ c.if-not-is_revoked.false in
    let go_on = plan_after mount further name path c.args.op in
    let left = c.reconnect.new.client.state in
    let same : c.reconnect.new.client.caller ≡ c.call_object.new.client.caller = ap (λ (k : Client). k.caller) c.reconnect.ensures.same in
    let op_is : c.in-Access.op ≡ c.args.op = cc (c.in-Access.is) in
    let by_caller = subst (λ (n : ℕ). PlanDone mount n (plan_try mount c.in-Access.op (plan_after mount further name path c.in-Access.op) left c.in-Ok-reconnect.found.target) c.reconnect.new.pass c.tried.new.pass c.tried.result c.tried.new.client.state) same c.tried.ensures.done in
    let tried = subst (λ (o : Op). PlanDone mount c.call_object.new.client.caller (plan_try mount o (plan_after mount further name path o) left c.in-Ok-reconnect.found.target) c.reconnect.new.pass c.tried.new.pass c.tried.result c.tried.new.client.state) op_is by_caller in
    try-onward mount caller c.args.left name path c.args.op state target further c.call_object.new.client.caller old mid c.tried.new.pass out answer c.tried.result back c.tried.new.client.state fit came is over (ap (λ (k : Client). k.caller) c.call_object.ensures.same)
    (c.in-Ok-reconnect.ensures.ok c.args.op go_on c.tried.new.pass c.tried.result c.tried.new.client.state tried)

pub returns-clause-done : goal.returns-clause-done
returns-clause-done g t c =
    let mount = c.args.common.now.mount.now in
    let target = c.args.found.target in
    let fit : fits_page mount.page_size (pages_of mount target.file) c.args.op ≡ true =
    ap (λ (n : ℕ). fits_page mount.page_size n c.args.op) (sym c.pages_of.ensures) ∙ (ap (λ (n : ℕ). fits_page n c.pages_of.result c.args.op) (sym c.page_size.ensures.value) ∙ (sym c.fits.ensures ∙ c.if-not-fits.false)) in
    let caller = c.args.client.now.caller in
    let state = c.args.client.now.state in
    let name = c.args.name.now in
    let path = c.args.path.now in
    let back = c.call_object.new.client.state in
    let old = c.args.pass.now in
    let mid = c.call_object.new.pass in
    let out : List ℕ = c.call_object.new.out in
    let moved : back ≡ carrying state back.carrier = ap (λ (k : Client). k.state) c.call_object.ensures.same in
    let made = made-held mount caller (asking_at mount state c.args.found.node target.file (access c.args.found.node target.life c.args.op)) old mid state back out c.call_object.result moved c.call_object.ensures.made in
    let at_node = subst (λ (n : ℕ). CallMade mount caller (asking_at mount state n target.file (access n target.life c.args.op)) old mid state back out c.call_object.result) (led-node mount name state c.args.found c.requires.led) made in
    let answer = c.in-Ok-call_object.answer in
    let came = made-ok mount caller (trial_of mount state target c.args.op) old mid state back out c.call_object.result answer c.in-Ok-call_object.is at_node in
    let further : ℕ = c.args.left - 1 in
    let is : c.args.left ≡ suc further = let some = c.if-left-eq0.false in omega (arith, some) in
    let over : is_revoked answer ≡ true = sym c.is_revoked.ensures ∙ c.if-not-is_revoked.false in
    let go_on = plan_after mount further name path c.args.op in
    try-onward mount caller c.args.left name path c.args.op state target further c.call_object.new.client.caller old mid c.reconnect.new.pass out answer c.in-Err-reconnect.reply back c.reconnect.new.client.state fit came is over (ap (λ (k : Client). k.caller) c.call_object.ensures.same)
    (c.in-Err-reconnect.ensures.err c.args.op go_on)
