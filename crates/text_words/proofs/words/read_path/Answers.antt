use Rattle.text_words.proofs.WordLaws.{path_found, path_only}
use Rattle.text_words.proofs.words.read_path.Goals as goal

pub returns-clause-found : goal.returns-clause-found
returns-clause-found c = path_found c.args.word.now c.path_parts.result c.path_parts.ensures

pub returns-clause-only : goal.returns-clause-only
returns-clause-only c = path_only c.args.word.now c.path_parts.result c.path_parts.ensures
