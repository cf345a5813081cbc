use Rattle.tower_shows.proofs.Stays.{ground_synced, ground_stays, told_stays, told_later}
use Rattle.tower_shows.proofs.law.synced_pages_stay.Goals as goal

pub returns-clause-synced : goal.returns-clause-synced
returns-clause-synced c = ground_synced

pub returns-clause-ground : goal.returns-clause-ground
returns-clause-ground c = ground_stays

pub returns-clause-told : goal.returns-clause-told
returns-clause-told c = told_stays

pub returns-clause-later : goal.returns-clause-later
returns-clause-later c = told_later
