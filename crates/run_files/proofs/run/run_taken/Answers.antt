use Rattle.std.proofs.Common.{inl, arith}
use Rattle.run_files.proofs.SumLaws.{wanted-stopped}
use Rattle.run_files.proofs.run.run_taken.Goals as goal

pub open_files-requires-clause-files : goal.open_files-requires-clause-files
open_files-requires-clause-files g c κs within at f is = (c.requires.parts.each at f is).1

pub open_files-requires-clause-towers : goal.open_files-requires-clause-towers
open_files-requires-clause-towers g c κs within = let number = c.requires.parts.number in let room = c.requires.towers.1 in (c.requires.towers.0, omega (arith, number, room))

pub open_files-requires-clause-rest : goal.open_files-requires-clause-rest
open_files-requires-clause-rest g c κs within = let number = c.requires.parts.number in let room = c.requires.rest.1 in (c.requires.rest.0, omega (arith, number, room))

pub run_as_wanted-requires-clause-opened : goal.run_as_wanted-requires-clause-opened
run_as_wanted-requires-clause-opened g c κs within = (c.args.parts.items, c.requires.parts, c.in-Ok.ensures.opened, c.in-Ok.ensures.made)

pub return_all-requires-clause-halts : goal.return_all-requires-clause-halts
return_all-requires-clause-halts g c κs within = (c.args.parts.items, c.requires.parts, inl c.in-Err.ensures.stopped)

pub returns-in-Ok : goal.returns-in-Ok
returns-in-Ok g c = record { ended = λ before taken. c.run_as_wanted.ensures.ended before c.args.parts.items taken c.requires.parts c.in-Ok.ensures.opened c.in-Ok.ensures.made }

pub returns-in-Err : goal.returns-in-Err
returns-in-Err g c =
    let mount = c.args.given.now.mount.now in
    let after = g.B.Bay.told c.return_all.new.bay in
    record {
      ended = λ before taken.
          wanted-stopped mount c.args.asked.loss c.args.given.now.script.now c.args.given.now.ops.now c.args.wanted before after (g.K.Sink.told c.args.sink.now) (g.K.Sink.told c.return_all.new.sink) (g.N.Sink.told c.args.notices.now) c.return_all.result
          (c.return_all.ensures.ended before c.args.parts.items taken c.requires.parts (inl c.in-Err.ensures.stopped));
    }

pub open_files-requires-clause-made : goal.open_files-requires-clause-made
open_files-requires-clause-made g c κs within = let number = c.requires.parts.number in let room = c.requires.made.1 in (c.requires.made.0, omega (arith, number, room))
