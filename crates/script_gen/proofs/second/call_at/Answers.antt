use Rattle.script_gen.proofs.ShapeLaws.{page-sized}
use Rattle.script_gen.proofs.second.call_at.Goals as goal

pub write_by-requires-clause-size : goal.write_by-requires-clause-size
write_by-requires-clause-size c = (page-sized c.args.shape.now.page_size c.requires.page_size).high

pub read_by-requires-clause-size : goal.read_by-requires-clause-size
read_by-requires-clause-size c = (page-sized c.args.shape.now.page_size c.requires.page_size).high
