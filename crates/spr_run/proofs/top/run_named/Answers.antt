use Rattle.spr_run.specs.Ways.{outside}
use Rattle.spr_run.proofs.BuiltLaws.{phases-built}
use Rattle.std.proofs.Common.{ℕ, List, refl, subst}
use Rattle.spr_report.specs.Writing.{Finishes}
use Rattle.run_texts.specs.declared.refusal.Refusal.{Refusal}
use Rattle.run_texts.specs.Refusal.{Names, refusal_text, refusal_status}
use Rattle.spr_run.proofs.WayLaws.{ends-runs, ends-unrun}
use Rattle.spr_run.proofs.top.run_named.Goals as goal

pub run_files-requires-clause-calls : goal.run_files-requires-clause-calls
run_files-requires-clause-calls g c κs within = phases-built c.in-Ok.mount c.in-Ok.script c.in-Ok.ensures.script.0 c.in-Ok.ensures.script.1

pub returns-in-Ok : goal.returns-in-Ok
returns-in-Ok g c =
    let o = outside (g.H.Shelf.told c.args.shelf.now) (g.H.Shelf.told c.read_run.new.shelf) (g.B.Bay.told c.args.bay.now) (g.B.Bay.told c.run_files.new.bay) in
    record { ends = ends-runs (record { idl = c.args.idl.now; stack = c.args.stack.now; script = c.args.name.now }) c.args.trace c.args.loss o c.in-Ok.mount c.in-Ok.script c.in-Ok.ops (g.K.Sink.told c.args.sink.now) (g.K.Sink.told c.run_files.new.sink) (g.N.Sink.told c.args.notices.now) (g.N.Sink.told c.run_files.new.notices) c.run_files.result c.in-Ok.ensures.ok c.in-Ok.ensures.calm c.run_files.ensures.says }

pub returns-in-Err : goal.returns-in-Err
returns-in-Err g c =
    let o = outside (g.H.Shelf.told c.args.shelf.now) (g.H.Shelf.told c.read_run.new.shelf) (g.B.Bay.told c.args.bay.now) (g.B.Bay.told c.args.bay.now) in
    let old = g.K.Sink.told c.args.sink.now in
    let new = g.K.Sink.told c.refuse.new.sink in
    let why : Refusal = c.in-Err.refusal in
    let named : List ℕ → List ℕ → List ℕ → Names = λ idl stack script. record { idl = idl; stack = stack; script = script } in
    let ends : Finishes old new (refusal_text (named c.args.idl.now c.args.stack.now c.args.name.now) why) (refusal_status why) c.refuse.result =
    subst (λ n. Finishes old new (refusal_text (named c.args.idl.now c.args.stack.now n) why) (refusal_status why) c.refuse.result) c.as_str-in-Err-2.ensures
    (subst (λ n. Finishes old new (refusal_text (named c.args.idl.now n c.as_str-in-Err-2.result.now) why) (refusal_status why) c.refuse.result) c.as_str-in-Err.ensures
    (subst (λ n. Finishes old new (refusal_text (named n c.as_str-in-Err.result.now c.as_str-in-Err-2.result.now) why) (refusal_status why) c.refuse.result) c.as_str.ensures c.refuse.ensures)) in
    record { ends = ends-unrun (named c.args.idl.now c.args.stack.now c.args.name.now) c.args.trace c.args.loss o why old new (g.N.Sink.told c.args.notices.now) c.refuse.result refl c.in-Err.ensures.err ends }
