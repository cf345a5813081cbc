use Rattle.std.proofs.Common.{ℕ, List, [], refl, subst}
use Rattle.spr_report.specs.Writing.{Finishes}
use Rattle.run_texts.specs.declared.refusal.Refusal.{Refusal}
use Rattle.run_texts.specs.Generated.{Generation}
use Rattle.run_texts.specs.Refusal.{Names, refusal_text, refusal_status}
use Rattle.spr_run.specs.Ways.{outside}
use Rattle.spr_run.proofs.BuiltLaws.{phases-built}
use Rattle.spr_run.proofs.WayLaws.{ends-generates, ends-ungenerated}
use Rattle.spr_run.proofs.generated.run_generated.Goals as goal

pub sum_files-requires-clause-calls : goal.sum_files-requires-clause-calls
sum_files-requires-clause-calls g c κs within = phases-built c.in-Ok.mount c.in-Ok.script c.in-Ok.ensures.script.0 c.in-Ok.ensures.script.1

pub returns-in-Ok : goal.returns-in-Ok
returns-in-Ok g c =
    let o = outside (g.H.Shelf.told c.args.shelf.now) (g.H.Shelf.told c.read_generated.new.shelf) (g.B.Bay.told c.args.bay.now) (g.B.Bay.told c.sum_files.new.bay) in
    let made : Generation = record { idl = c.args.idl.now; stack = c.args.stack.now; seed = c.args.seed; calls = c.args.calls } in
    record { ends = ends-generates made o c.in-Ok.mount c.in-Ok.script c.in-Ok.ops (g.K.Sink.told c.args.sink.now) (g.K.Sink.told c.sum_files.new.sink) (g.N.Sink.told c.args.notices.now) (g.N.Sink.told c.sum_files.new.notices) c.sum_files.result c.in-Ok.ensures.ok c.in-Ok.ensures.calm c.sum_files.ensures.says }

pub returns-in-Err : goal.returns-in-Err
returns-in-Err g c =
    let o = outside (g.H.Shelf.told c.args.shelf.now) (g.H.Shelf.told c.read_generated.new.shelf) (g.B.Bay.told c.args.bay.now) (g.B.Bay.told c.args.bay.now) in
    let old = g.K.Sink.told c.args.sink.now in
    let new = g.K.Sink.told c.refuse.new.sink in
    let why : Refusal = c.in-Err.refusal in
    let made : Generation = record { idl = c.args.idl.now; stack = c.args.stack.now; seed = c.args.seed; calls = c.args.calls } in
    let named : List ℕ → List ℕ → Names = λ idl stack. record { idl = idl; stack = stack; script = [] } in
    let ends : Finishes old new (refusal_text (named c.args.idl.now c.args.stack.now) why) (refusal_status why) c.refuse.result =
    subst (λ n. Finishes old new (refusal_text (named c.args.idl.now n) why) (refusal_status why) c.refuse.result) c.as_str-in-Err.ensures
    (subst (λ n. Finishes old new (refusal_text (named n c.as_str-in-Err.result.now) why) (refusal_status why) c.refuse.result) c.as_str.ensures c.refuse.ensures) in
    record { ends = ends-ungenerated made o why old new (g.N.Sink.told c.args.notices.now) c.refuse.result refl c.in-Err.ensures.err ends }
