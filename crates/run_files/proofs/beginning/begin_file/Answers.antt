use Rattle.std.proofs.Common.{◌≡◌, sym, ap, subst, ◌∙◌}
use Rattle.page_messages.specs.declared.paged.PagedFile.{PagedFile}
use Rattle.file_stores.specs.declared.stop.Stop.TheVariants as stops
use Rattle.stack_engine.specs.Engine.{file_in}
use Rattle.run_files.specs.Beginning.{IsCut, failed}
use Rattle.run_files.proofs.BeginLaws.{tried-self}
use Rattle.run_files.proofs.beginning.begin_file.Goals as goal

pub returns-in_default-clause-tried : goal.returns-in_default-clause-tried
returns-in_default-clause-tried g c = tried-self c.args.caller c.args.tower.now

pub returns-in-Err-StoreFault-clause-why : goal.returns-in-Err-StoreFault-clause-why
returns-in-Err-StoreFault-clause-why g c =
    let number : c.file-file.result.number ≡ (file_in c.read_pages.new.tower.engine).number =
    ap (λ (f : PagedFile). f.number) (c.file-file.ensures.value ∙ sym c.read_pages.ensures.tried.back.later.file.file) in
    failed c.in-Err-StoreFault.disk c.in-Err-StoreFault.count (ap (λ n. stops.Store (record { file = n; disk = c.in-Err-StoreFault.disk }) c.in-Err-StoreFault.count) number) (subst (IsCut c.args.caller c.read_pages.new.tower) c.in-Err-StoreFault.field-0-is c.in-Err-StoreFault.ensures.failed)
