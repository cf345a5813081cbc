use Rattle.std.specs.Global.{Vec}
use Rattle.std.proofs.Common.{◌≡◌, ℕ, List, map, length, sym, ap, ◌∙◌, arith}
use Rattle.std.proofs.lemmas.List.{length-map}
use Rattle.tower_log.specs.declared.logged.Logged.{Logged}
use Rattle.hist_plain.specs.File.{Counted}
use Rattle.script_text.specs.declared.script.Said.{Said}
use Rattle.run_files.proofs.SumLaws.{text-sums}
use Rattle.run_files.proofs.sums.sum_text.Goals as goal

pub summary-requires : goal.summary-requires
summary-requires c =
    let many = c.in_ok-lasts.ensures.many in
    let begun = c.requires.begun in
    let few = c.requires.sound.few_files in
    let same = ap length c.deref.ensures.value in
    omega (arith, many, begun, few, same)

pub returns : goal.returns
returns c =
    text-sums c.args.mount.now (map (λ b. b.items) c.args.begun.now) (map (λ t. t.log) c.args.logs.now) c.summed_calls.result.now _ (map (λ v. v.items) c.args.said.now) c.deref.result.now c.in_ok-lasts.lasts.items c.summary.result c.summed_calls.ensures c.deref.ensures.value
    (record { many = c.in_ok-lasts.ensures.many ∙ sym (length-map c.args.begun.now (λ (v : Vec ℕ). v.items)); each = c.in_ok-lasts.ensures.ends }) c.summary.ensures
