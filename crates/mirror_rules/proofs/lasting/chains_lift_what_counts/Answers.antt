use Rattle.mirror_rules.proofs.ChainLaws.{chain-lifted, chain-owes}
use Rattle.mirror_rules.proofs.lasting.chains_lift_what_counts.Goals as goal

pub returns-clause-lifted : goal.returns-clause-lifted
returns-clause-lifted c = λ v n F ws past next counts i h z. chain-lifted tt h z

pub returns-clause-owes : goal.returns-clause-owes
returns-clause-owes c = λ v n d g F ws past next counts b owed e ss xs us h cm m o k z. chain-owes tt h cm m o k z

pub returns-clause-lifted_runs : goal.returns-clause-lifted_runs
returns-clause-lifted_runs c = λ v n Vs ws past next counts i h z. chain-lifted tt h z

pub returns-clause-owes_runs : goal.returns-clause-owes_runs
returns-clause-owes_runs c = λ v n d g Vs ws past next counts b owed e ss xs us h cm m o k z. chain-owes tt h cm m o k z
