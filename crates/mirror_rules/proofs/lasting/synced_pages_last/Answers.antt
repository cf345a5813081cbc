use Rattle.mirror_rules.proofs.HistoryLaws.{durable}
use Rattle.mirror_rules.proofs.lasting.synced_pages_last.Goals as goal

pub returns : goal.returns
returns c = λ v n d g F ws past counts b owed c ss xs us h cm m o k z. durable h cm m o k z
