use Rattle.run_laws.proofs.ImageLaws.{dump-ends-well, format-ends-well}
use Rattle.run_laws.proofs.SoundLaws.{sound-ends-well, sound-sum-ends-well}
use Rattle.run_laws.proofs.sound.sound_run_ends_well.Goals as goal

pub returns-clause-run : goal.returns-clause-run
returns-clause-run c = sound-ends-well

pub returns-clause-sum : goal.returns-clause-sum
returns-clause-sum c = sound-sum-ends-well

pub returns-clause-format : goal.returns-clause-format
returns-clause-format c = format-ends-well

pub returns-clause-dump : goal.returns-clause-dump
returns-clause-dump c = dump-ends-well
