use Rattle.disk_format.proofs.FreshLaws.{header-reads}
use Rattle.disk_format.proofs.version_1.written_header_is_read.Goals as goal

pub returns : goal.returns
returns c shape generation is some few = header-reads shape generation is some few
