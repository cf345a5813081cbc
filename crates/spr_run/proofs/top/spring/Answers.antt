use Rattle.std.proofs.Common.{ℕ, Err, List, [], ◌∙◌, ap, refl, subst, Some}
use Rattle.file_stores.specs.Written.{Written}
use Rattle.run_texts.specs.Refusal.{Names}
use Rattle.spr_report.specs.declared.status.Status.TheVariants as statuses
use Rattle.spr_run.specs.Ways.{outside, unread, usage, usage_text, SaysCheck, SaysTables, SaysFormatted, SaysListed}
use Rattle.run_texts.specs.Generated.{Generation}
use Rattle.spr_run.proofs.WayLaws.{ends-check, ends-quietly, ends-dump, ends-format, ends-generated, ends-list, ends-run, ends-tables, named-dump}
use Rattle.spr_run.proofs.top.spring.Goals as goal

pub returns-in-Ok-Run : goal.returns-in-Ok-Run
returns-in-Ok-Run g c =
    let asks = c.in-Ok-Run.ensures.ok ∙ ap Some c.in-Ok-Run.field-0-is in
    let o = outside (g.H.Shelf.told c.args.shelf.now) (g.H.Shelf.told c.run_named.new.shelf) (g.B.Bay.told c.args.bay.now) (g.B.Bay.told c.run_named.new.bay) in
    let names : Names = record { idl = c.in-Ok-Run.idl; stack = c.in-Ok-Run.stack; script = c.in-Ok-Run.script } in
    let written = rw c.in-Ok-Run.field-0-is at c.run_named.ensures.ends in
    record { ends = ends-run c.args.words.now names c.in-Ok-Run.trace c.in-Ok-Run.loss o (g.K.Sink.told c.args.sink.now) (g.K.Sink.told c.run_named.new.sink) (g.N.Sink.told c.args.notices.now) (g.N.Sink.told c.run_named.new.notices) c.run_named.result asks written }

pub returns-in-Ok-Gen : goal.returns-in-Ok-Gen
returns-in-Ok-Gen g c =
    let asks = c.in-Ok-Gen.ensures.ok ∙ ap Some c.in-Ok-Gen.field-0-is in
    let o = outside (g.H.Shelf.told c.args.shelf.now) (g.H.Shelf.told c.run_generated.new.shelf) (g.B.Bay.told c.args.bay.now) (g.B.Bay.told c.run_generated.new.bay) in
    let made : Generation = record { idl = c.in-Ok-Gen.idl; stack = c.in-Ok-Gen.stack; seed = c.in-Ok-Gen.seed; calls = c.in-Ok-Gen.calls } in
    let written = rw c.in-Ok-Gen.field-0-is at c.run_generated.ensures.ends in
    record { ends = ends-generated c.args.words.now made o (g.K.Sink.told c.args.sink.now) (g.K.Sink.told c.run_generated.new.sink) (g.N.Sink.told c.args.notices.now) (g.N.Sink.told c.run_generated.new.notices) c.run_generated.result asks written }

pub returns-in-Ok-Check : goal.returns-in-Ok-Check
returns-in-Ok-Check g c =
    let asks = c.in-Ok-Check.ensures.ok ∙ ap Some c.in-Ok-Check.field-0-is in
    let o = outside (g.H.Shelf.told c.args.shelf.now) (g.H.Shelf.told c.check_stack.new.shelf) (g.B.Bay.told c.args.bay.now) (g.B.Bay.told c.args.bay.now) in
    record {
      ends = ends-check c.args.words.now c.in-Ok-Check.stack o (g.K.Sink.told c.args.sink.now) (g.K.Sink.told c.check_stack.new.sink) (g.N.Sink.told c.args.notices.now) c.check_stack.result asks refl
          (subst (λ (s : List ℕ). Written (SaysCheck s o.shelf o.shelf_after) (g.K.Sink.told c.args.sink.now) (g.K.Sink.told c.check_stack.new.sink) c.check_stack.result) c.in-Ok-Check.stack-is c.check_stack.ensures);
    }

pub returns-in-Ok-Idl : goal.returns-in-Ok-Idl
returns-in-Ok-Idl g c =
    let asks = c.in-Ok-Idl.ensures.ok ∙ ap Some c.in-Ok-Idl.field-0-is in
    let o = outside (g.H.Shelf.told c.args.shelf.now) (g.H.Shelf.told c.put_tables.new.shelf) (g.B.Bay.told c.args.bay.now) (g.B.Bay.told c.args.bay.now) in
    record {
      ends = ends-tables c.args.words.now c.in-Ok-Idl.idl o (g.K.Sink.told c.args.sink.now) (g.K.Sink.told c.put_tables.new.sink) (g.N.Sink.told c.args.notices.now) c.put_tables.result asks refl
          (subst (λ (s : List ℕ). Written (SaysTables s o.shelf o.shelf_after) (g.K.Sink.told c.args.sink.now) (g.K.Sink.told c.put_tables.new.sink) c.put_tables.result) c.in-Ok-Idl.idl-is c.put_tables.ensures);
    }

pub returns-in-Ok-Format : goal.returns-in-Ok-Format
returns-in-Ok-Format g c =
    let asks = c.in-Ok-Format.ensures.ok ∙ ap Some c.in-Ok-Format.field-0-is in
    let o = outside (g.H.Shelf.told c.args.shelf.now) (g.H.Shelf.told c.format_stack.new.shelf) (g.B.Bay.told c.args.bay.now) (g.B.Bay.told c.format_stack.new.bay) in
    record {
      ends = ends-format c.args.words.now c.in-Ok-Format.stack o (g.K.Sink.told c.args.sink.now) (g.K.Sink.told c.format_stack.new.sink) (g.N.Sink.told c.args.notices.now) c.format_stack.result asks
          (subst (λ (s : List ℕ). Written (SaysFormatted s o) (g.K.Sink.told c.args.sink.now) (g.K.Sink.told c.format_stack.new.sink) c.format_stack.result) c.in-Ok-Format.stack-is c.format_stack.ensures.ends);
    }

pub returns-in-Ok-Dump : goal.returns-in-Ok-Dump
returns-in-Ok-Dump g c =
    let asks = c.in-Ok-Dump.ensures.ok ∙ ap Some c.in-Ok-Dump.field-0-is in
    let o = outside (g.H.Shelf.told c.args.shelf.now) (g.H.Shelf.told c.dump_named.new.shelf) (g.B.Bay.told c.args.bay.now) (g.B.Bay.told c.dump_named.new.bay) in
    record {
      ends = ends-dump c.args.words.now c.in-Ok-Dump.stack c.in-Ok-Dump.file o (g.K.Sink.told c.args.sink.now) (g.K.Sink.told c.dump_named.new.sink) (g.N.Sink.told c.args.notices.now) (g.N.Sink.told c.dump_named.new.notices) c.dump_named.result asks
          (named-dump o (g.K.Sink.told c.args.sink.now) (g.K.Sink.told c.dump_named.new.sink) (g.N.Sink.told c.args.notices.now) (g.N.Sink.told c.dump_named.new.notices) c.dump_named.result c.in-Ok-Dump.stack-is c.in-Ok-Dump.file-is c.dump_named.ensures.ends);
    }

pub returns-in-Ok-Disks : goal.returns-in-Ok-Disks
returns-in-Ok-Disks g c =
    let asks = c.in-Ok-Disks.ensures.ok ∙ ap Some c.in-Ok-Disks.field-0-is in
    let o = outside (g.H.Shelf.told c.args.shelf.now) (g.H.Shelf.told c.list_named.new.shelf) (g.B.Bay.told c.args.bay.now) (g.B.Bay.told c.list_named.new.bay) in
    record {
      ends = ends-list c.args.words.now c.in-Ok-Disks.stack o (g.K.Sink.told c.args.sink.now) (g.K.Sink.told c.list_named.new.sink) (g.N.Sink.told c.args.notices.now) c.list_named.result asks
          (subst (λ (s : List ℕ). Written (SaysListed s o) (g.K.Sink.told c.args.sink.now) (g.K.Sink.told c.list_named.new.sink) c.list_named.result) c.in-Ok-Disks.stack-is c.list_named.ensures.ends);
    }

pub returns-in-Err-Usage : goal.returns-in-Err-Usage
returns-in-Err-Usage g c =
    let o = outside (g.H.Shelf.told c.args.shelf.now) (g.H.Shelf.told c.args.shelf.now) (g.B.Bay.told c.args.bay.now) (g.B.Bay.told c.args.bay.now) in
    let asks = c.in-Err-Usage.ensures.usage (ap Err c.in-Err-Usage.field-0-is) in
    record {
      ends = ends-quietly c.args.words.now o (g.K.Sink.told c.args.sink.now) (g.K.Sink.told c.finish.new.sink) (g.N.Sink.told c.args.notices.now) c.finish.result
          (record { text = usage_text; status = statuses.Usage; says = usage asks (refl, refl) refl refl; ends = c.finish.ensures });
    }

pub returns-in-Err-Memory : goal.returns-in-Err-Memory
returns-in-Err-Memory g c =
    let o = outside (g.H.Shelf.told c.args.shelf.now) (g.H.Shelf.told c.args.shelf.now) (g.B.Bay.told c.args.bay.now) (g.B.Bay.told c.args.bay.now) in
    record {
      ends = ends-quietly c.args.words.now o (g.K.Sink.told c.args.sink.now) (g.K.Sink.told c.finish-in-Err-Memory.new.sink) (g.N.Sink.told c.args.notices.now) c.finish-in-Err-Memory.result
          (record { text = []; status = statuses.Memory; says = unread (refl, refl) refl refl; ends = c.finish-in-Err-Memory.ensures });
    }
