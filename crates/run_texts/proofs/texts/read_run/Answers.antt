use Rattle.std.proofs.lemmas.Result.{err_from_is_err_and}
use Rattle.run_texts.specs.Refusal.{Names}
use Rattle.run_texts.proofs.OpsCauses.{behind-interfaces}
use Rattle.run_texts.proofs.texts.read_run.Goals as goal

pub returns-in_err-mount-clause-err : goal.returns-in_err-mount-clause-err
returns-in_err-mount-clause-err g c =
    let told = err_from_is_err_and c.from_residual-in_err-mount.result c.from_residual-in_err-mount.ensures.1 in
    let names : Names = record { idl = c.args.idl.now; stack = c.args.stack.now; script = c.args.name.now } in
    rw (told.1, told.2)
    (behind-interfaces (g.H.Shelf.told c.args.shelf.now) (g.H.Shelf.told c.read_interfaces.new.shelf) (g.H.Shelf.told c.read_stack_and_script.new.shelf) names c.in_ok-ops.ops c.in_ok-ops.ensures.ok c.in_ok-ops.ensures.same c.in_ok-ops.ensures.calm c.in_err-mount.field-0.0 c.in_err-mount.ensures.err)
