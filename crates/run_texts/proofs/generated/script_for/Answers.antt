use Rattle.run_texts.proofs.GeneratedLaws.{known-if}
use Rattle.run_texts.proofs.generated.script_for.Goals as goal

pub returns-clause-known : goal.returns-clause-known
returns-clause-known c =
    known-if c.generate.result c.args.mount.now c.in_ok-shape.shape c.args.seed c.args.calls (c.in_ok-shape.ensures.shape c.requires.names) c.in_ok-shape.ensures.machines c.generate.ensures.value c.generate.ensures.made
