use Rattle.text_words.proofs.HexLaws.{hex_found, hex_only}
use Rattle.text_words.proofs.words.hex_bytes.Goals as goal

pub returns-clause-found : goal.returns-clause-found
returns-clause-found c = hex_found c.args.word.now c.decoded.result c.decoded.ensures

pub returns-clause-only : goal.returns-clause-only
returns-clause-only c = hex_only c.args.word.now c.decoded.result c.decoded.ensures
