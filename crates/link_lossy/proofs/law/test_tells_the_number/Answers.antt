use Rattle.link_lossy.proofs.Divisions.{same_number}
use Rattle.link_lossy.proofs.law.test_tells_the_number.Goals as goal

pub returns : goal.returns
returns c = λ n m given other same. same_number n m given other same
