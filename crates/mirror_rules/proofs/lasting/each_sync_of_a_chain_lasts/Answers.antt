use Rattle.mirror_rules.proofs.ChainLaws.{chain-lasts}
use Rattle.mirror_rules.proofs.lasting.each_sync_of_a_chain_lasts.Goals as goal

pub returns-clause-calls : goal.returns-clause-calls
returns-clause-calls c = λ v n d g F ws past next counts b owed e ss xs us h cm m o k z. chain-lasts h cm m o k z

pub returns-clause-runs : goal.returns-clause-runs
returns-clause-runs c = λ v n d g Vs ws past next counts b owed e ss xs us h cm m o k z. chain-lasts h cm m o k z
