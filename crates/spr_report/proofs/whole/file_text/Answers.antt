use Rattle.std.proofs.Common.{◌≡◌, ◌++◌, ℕ, List, get_or, map, ap, sym, ◌∙◌}
use Rattle.stack_accept.specs.declared.entries.FileEntry.{FileEntry}
use Rattle.tower_log.specs.Trail.{TrailSeen}
use Rattle.spr_report.specs.Report.{file_part}
use Rattle.spr_report.proofs.PartTexts.{file_text_is, has_log, log_reported}
use Rattle.spr_report.proofs.whole.file_text.Goals as goal

pub bounds-run-number : goal.bounds-run-number
bounds-run-number c = has_log c.args.run.now.mount.now c.args.run.now.logs.now c.args.number c.requires.number c.requires.logs

pub put_file-requires-clause-log : goal.put_file-requires-clause-log
put_file-requires-clause-log c =
    let mount = c.args.run.now.mount.now in
    let is : c.index-files-number.result ≡ get_or mount.files c.args.number c.index-files-number.result =
    c.index-files-number.is ∙ ap (λ (fs : List FileEntry). get_or fs c.args.number c.index-files-number.result) c.files.ensures.value in
    log_reported mount c.args.run.now.logs.now c.args.number c.index-files-number.result c.index-run-number.result c.requires.number is c.requires.logs

pub returns : goal.returns
returns c =
    let mount = c.args.run.now.mount.now in
    let callers = map (λ n. n.now) c.args.names.now.callers.now in
    let file = c.index-files-number.result in
    let is : file ≡ get_or mount.files c.args.number file = c.index-files-number.is ∙ ap (λ (fs : List FileEntry). get_or fs c.args.number file) c.files.ensures.value in
    let part : List ℕ = file_part callers mount c.args.run.now.traced c.args.number file c.index-run-number.result.log in
    file_text_is callers mount c.args.run.now.traced c.args.run.now.logs.now c.args.number file c.index-run-number.result c.put_file.new.out.items
    c.requires.number is c.index-run-number.is c.requires.logs
    (c.in_ok-put_file.ensures
    ∙ (ap (λ (t : TrailSeen). c.new-text.result.items ++ file_part callers mount c.args.run.now.traced c.args.number file t.log) (sym c.index-run-number.is)
    ∙ ap (λ (xs : List ℕ). xs ++ part) c.new-text.ensures.items))
