use Rattle.layer_laws.proofs.Telling.{reads_alike, legal_alike}
use Rattle.layer_laws.proofs.pages.granted_pages_tell_answers.Goals as goal

pub returns-clause-answers : goal.returns-clause-answers
returns-clause-answers c = reads_alike

pub returns-clause-legal : goal.returns-clause-legal
returns-clause-legal c = legal_alike
