use Rattle.tower_shows.proofs.Firsts.{grant_zeros, grant_others, grant_first, grant_kept}
use Rattle.tower_shows.proofs.law.grants_find_their_page.Goals as goal

pub returns-clause-zeros : goal.returns-clause-zeros
returns-clause-zeros c = λ shape size pages opening trail node page write old new told true_to next none sent began. grant_zeros shape size pages opening trail node page write old new told true_to next sent began none

pub returns-clause-others : goal.returns-clause-others
returns-clause-others c = grant_others

pub returns-clause-first : goal.returns-clause-first
returns-clause-first c = grant_first

pub returns-clause-kept : goal.returns-clause-kept
returns-clause-kept c = λ shape size pages opening trail node page write old new told true_to next none sent began. grant_kept shape size pages opening trail node page write old new told true_to next sent began none
