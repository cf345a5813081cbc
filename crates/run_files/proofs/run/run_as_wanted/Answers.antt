use Rattle.std.proofs.Common.{subst, sym}
use Rattle.file_stores.specs.Written.{WrittenBeside}
use Rattle.run_files.specs.declared.run.Wanted.{Wanted}
use Rattle.run_files.specs.Wanted.{SaysWanted}
use Rattle.run_files.proofs.run.run_as_wanted.Goals as goal

pub returns-in-Report : goal.returns-in-Report
returns-in-Report g c =
    let given = c.args.given.now in
    let after = g.B.Bay.told c.run_open.new.bay in
    record {
      ended = λ before olds taken of opens made.
          subst (λ (w : Wanted). WrittenBeside (SaysWanted given.mount.now c.args.asked.loss given.script.now given.ops.now w before after) (g.K.Sink.told c.args.sink.now) (g.K.Sink.told c.run_open.new.sink) (g.N.Sink.told c.args.notices.now) (g.N.Sink.told c.run_open.new.notices) c.run_open.result) (sym c.in-Report.is)
          (c.run_open.ensures.ended before olds taken of opens made);
    }

pub returns-in-Sum : goal.returns-in-Sum
returns-in-Sum g c =
    let given = c.args.given.now in
    let after = g.B.Bay.told c.sum_open.new.bay in
    record {
      ended = λ before olds taken of opens made.
          subst (λ (w : Wanted). WrittenBeside (SaysWanted given.mount.now c.args.asked.loss given.script.now given.ops.now w before after) (g.K.Sink.told c.args.sink.now) (g.K.Sink.told c.sum_open.new.sink) (g.N.Sink.told c.args.notices.now) (g.N.Sink.told c.sum_open.new.notices) c.sum_open.result) (sym c.in-Sum.is)
          (c.sum_open.ensures.ended before olds taken of opens made);
    }
