use Rattle.std.proofs.lemmas.List.{take_rest}
use Rattle.link_lossy.proofs.reading.fields_of.Goals as goal

pub returns : goal.returns
returns c = simp (c.eight_of.ensures, c.four_of.ensures, c.eight_of-2.ensures, c.four_of-2.ensures, c.eight_of-3.ensures, take_rest)
