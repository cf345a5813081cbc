use Rattle.std.proofs.Common.{rules, ◌≡◌, List, sym, subst}
use Rattle.std.specs.List.{AllByRecursion}
use Rattle.script_text.specs.declared.script.Script.{Script}
use Rattle.script_text.specs.declared.script.CallLine.{CallLine}
use Rattle.script_text.specs.Grammar.{IsScript}
use Rattle.script_gen.specs.Made.{generated}
use Rattle.script_gen.specs.Laws.{AreMade}
use Rattle.script_gen.proofs.ScriptLaws.{generated-is, generated-made}
use Rattle.script_gen.proofs.whole.generate.Goals as goal

pub returns-clause-script : goal.returns-clause-script
returns-clause-script c =
    let whole : Script = record { clients = c.in_ok-clients.clients; phases = c.push-2.new.self } in
    let e : whole ≡ generated c.args.shape.now c.args.seed c.args.calls = search rules in
    subst (λ (s : Script). IsScript s) (sym e) (generated-is c.args.shape.now c.args.seed c.args.calls c.requires.shape c.requires.calls)

pub returns-clause-made : goal.returns-clause-made
returns-clause-made c =
    let e : c.push-2.new.self ≡ (generated c.args.shape.now c.args.seed c.args.calls).phases = search rules in
    subst (λ (ps : List (List CallLine)). AllByRecursion AreMade ps) (sym e) (generated-made c.args.shape.now c.args.seed c.args.calls c.requires.shape)
