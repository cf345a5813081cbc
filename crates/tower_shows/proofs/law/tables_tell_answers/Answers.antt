use Rattle.tower_shows.proofs.Tells.{told_read, told_write, told_clear, tells_life, tells_revoked, tells_done}
use Rattle.tower_shows.proofs.law.tables_tell_answers.Goals as goal

pub returns-clause-read : goal.returns-clause-read
returns-clause-read c = λ shape size pages opening trail sides told caller number node page off len true_to began. told_read shape size pages opening trail sides told caller number node true_to began page off len

pub returns-clause-write : goal.returns-clause-write
returns-clause-write c = λ shape size pages opening trail sides told caller number node page off new true_to began. told_write shape size pages opening trail sides told caller number node true_to began page off new

pub returns-clause-clear : goal.returns-clause-clear
returns-clause-clear c = λ shape size pages opening trail sides told caller number node page true_to began. told_clear shape size pages opening trail sides told caller number node true_to began page

pub returns-clause-open : goal.returns-clause-open
returns-clause-open c = tells_life

pub returns-clause-revoked : goal.returns-clause-revoked
returns-clause-revoked c = tells_revoked

pub returns-clause-done : goal.returns-clause-done
returns-clause-done c = tells_done
