use Rattle.page_messages.proofs.MeantLaws.{about_its_page}
use Rattle.page_messages.proofs.law.sent_is_about_its_page.Goals as goal

pub returns : goal.returns
returns c = about_its_page
