use Rattle.std.proofs.Common.{inl, refl, suc, length, ℕ, List, ap, subst}
use Rattle.stack_engine.specs.Tower.{TowerSeen}
use Rattle.run_files.specs.Beginning.{AreTried}
use Rattle.run_files.proofs.BeginLaws.{all-self, back-tried}
use Rattle.run_files.proofs.SumLaws.{unwritten-read}
use Rattle.run_files.proofs.TowerLaws.{towers-stay}
use Rattle.run_files.proofs.sums.play_read.Goals as goal

pub returns-in_default-clause-halted : goal.returns-in_default-clause-halted
returns-in_default-clause-halted g c = (all-self (length c.args.given.now.script.now.clients) c.args.towers.items, inl refl)

pub returns-in_default-with_capacity-clause-halted : goal.returns-in_default-with_capacity-clause-halted
returns-in_default-with_capacity-clause-halted g c = (all-self (length c.args.given.now.script.now.clients) c.args.towers.items, inl refl)

pub play-requires-clause-towers : goal.play-requires-clause-towers
play-requires-clause-towers g c κs within =
    let caller : ℕ = length c.args.given.now.script.now.clients in
    let begun : List TowerSeen = c.begin_files.new.begun.items in
    towers-stay c.args.given.now.mount.now (suc caller) c.args.towers.items begun (back-tried caller c.args.towers.items begun (subst (λ (n : ℕ). AreTried n c.args.towers.items begun) (ap length c.as_slice.ensures) c.begin_files.ensures.tried)) c.requires.towers

pub play-requires-clause-unwritten : goal.play-requires-clause-unwritten
play-requires-clause-unwritten g c κs within = unwritten-read c.args.towers.items c.begin_files.new.begun.items _ c.in_default-begin_files.ensures.read c.requires.unwritten
