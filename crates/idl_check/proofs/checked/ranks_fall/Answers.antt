use Rattle.idl_check.proofs.Ranks.{rank_below, rank_falls}
use Rattle.idl_check.proofs.checked.ranks_fall.Goals as goal

pub returns-clause-below : goal.returns-clause-below
returns-clause-below c decls f = rank_below decls f.acyclic

pub returns-clause-fall : goal.returns-clause-fall
returns-clause-fall c decls f = rank_falls decls f.acyclic
