use Rattle.script_text.proofs.Parsing.{parses_found, parses_only}
use Rattle.script_text.proofs.parse.parse_script.Goals as goal

pub returns-clause-found : goal.returns-clause-found
returns-clause-found c = parses_found c.args.text.now c.parse.result c.parse.ensures

pub returns-clause-only : goal.returns-clause-only
returns-clause-only c = parses_only c.args.text.now c.parse.result c.parse.ensures
