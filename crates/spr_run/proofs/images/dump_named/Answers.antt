use Rattle.spr_run.specs.Ways.{outside}
use Rattle.std.proofs.Common.{refl, subst}
use Rattle.spr_report.specs.Writing.{Finishes}
use Rattle.run_texts.specs.declared.refusal.Refusal.{Refusal}
use Rattle.run_texts.specs.Refusal.{Names, refusal_text, refusal_status}
use Rattle.spr_run.proofs.WayLaws.{ends-dumps, ends-undumped}
use Rattle.spr_run.proofs.images.dump_named.Goals as goal

pub returns-in-Ok : goal.returns-in-Ok
returns-in-Ok g c =
    let o = outside (g.H.Shelf.told c.args.shelf.now) (g.H.Shelf.told c.read_file.new.shelf) (g.B.Bay.told c.args.bay.now) (g.B.Bay.told c.dump_file.new.bay) in
    record { ends = ends-dumps c.args.stack.now c.args.name.now o c.in-Ok.mount c.in-Ok.file (g.K.Sink.told c.args.sink.now) (g.K.Sink.told c.dump_file.new.sink) (g.N.Sink.told c.args.notices.now) (g.N.Sink.told c.dump_file.new.notices) c.dump_file.result c.in-Ok.ensures.ok c.in-Ok.ensures.calm c.dump_file.ensures.dumps }

pub returns-in-Err : goal.returns-in-Err
returns-in-Err g c =
    let o = outside (g.H.Shelf.told c.args.shelf.now) (g.H.Shelf.told c.read_file.new.shelf) (g.B.Bay.told c.args.bay.now) (g.B.Bay.told c.args.bay.now) in
    let old = g.K.Sink.told c.args.sink.now in
    let new = g.K.Sink.told c.refuse.new.sink in
    let why : Refusal = c.in-Err.refusal in
    record {
      ends = ends-undumped c.args.stack.now c.args.name.now o why old new (g.N.Sink.told c.args.notices.now) c.refuse.result refl c.in-Err.ensures.err
          (subst (λ (names : Names). Finishes old new (refusal_text names why) (refusal_status why) c.refuse.result) c.only_stack.ensures c.refuse.ensures);
    }
