use Rattle.std.proofs.lemmas.Result.{err_from_is_err_and}
use Rattle.run_texts.specs.Generated.{Generation}
use Rattle.run_texts.proofs.OpsCauses.{mounted-before, stack-behind-interfaces}
use Rattle.run_texts.proofs.GeneratedLaws.{names-of}
use Rattle.run_texts.proofs.generated.read_generated.Goals as goal

pub returns-in_err-mount-clause-err : goal.returns-in_err-mount-clause-err
returns-in_err-mount-clause-err g c =
    let told = err_from_is_err_and c.from_residual-in_err-mount.result c.from_residual-in_err-mount.ensures.1 in
    let asked : Generation = record { idl = c.args.idl.now; stack = c.args.stack.now; seed = c.args.seed; calls = c.args.calls } in
    rw (told.1, told.2)
    (stack-behind-interfaces (g.H.Shelf.told c.args.shelf.now) (g.H.Shelf.told c.read_interfaces.new.shelf) (g.H.Shelf.told c.read_stack.new.shelf) asked c.in_ok-ops.ops c.in_ok-ops.ensures.ok c.in_ok-ops.ensures.same c.in_ok-ops.ensures.calm c.in_err-mount.field-0.0 c.in_err-mount.ensures.err)

pub script_for-requires-clause-names : goal.script_for-requires-clause-names
script_for-requires-clause-names g c = names-of (g.H.Shelf.told c.read_interfaces.new.shelf) c.args.stack.now c.in_ok-mount.mount c.in_ok-mount.ensures.mounted

pub returns-in-Ok-clause-ok : goal.returns-in-Ok-clause-ok
returns-in-Ok-clause-ok g c =
    let before = g.H.Shelf.told c.args.shelf.now in
    let mid = g.H.Shelf.told c.read_interfaces.new.shelf in
    record {
      interfaces = c.in_ok-ops.ensures.ok;
      stack_is = mounted-before before mid c.args.stack.now c.in_ok-mount.mount c.in_ok-ops.ensures.same c.in_ok-ops.ensures.calm c.in_ok-mount.ensures.mounted;
      script_is = c.in-Ok.ensures.value;
    }
