use Rattle.run_files.proofs.HeadlineLaws.{headline-is}
use Rattle.run_files.proofs.promise.headline.Goals as goal

pub returns : goal.returns
returns c = headline-is
