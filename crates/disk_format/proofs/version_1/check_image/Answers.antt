use Rattle.std.proofs.Common.{◌≡◌, sym, subst, take, drop, Ok, Err}
use Rattle.disk_format.specs.VersionOne.{header_in, map_in}
use Rattle.std.proofs.lemmas.Result.{err_from_is_err_and}
use Rattle.disk_format.proofs.RowLaws.{image-no_header, image-no_map, header-other}
use Rattle.disk_format.proofs.version_1.check_image.Goals as goal

pub returns-in_err-entries : goal.returns-in_err-entries
returns-in_err-entries c =
    let p = err_from_is_err_and c.from_residual-in_err-entries.result c.from_residual-in_err-entries.ensures.1 in
    rw (p.1, p.2) (record {
      fault = λ m. image-no_map c.args.shape.now (take c.args.shape.now.page_size c.args.bytes.now) (drop c.args.shape.now.page_size c.args.bytes.now) c.in_ok-header.header c.in_err-entries.field-0.0
          (subst (λ b. header_in c.args.shape.now b ≡ Ok c.in_ok-header.header) c.split_at.ensures.front (sym c.in_ok-header.ensures))
          (subst (λ b. map_in c.args.shape.now b ≡ Err c.in_err-entries.field-0.0) c.split_at.ensures.back (c.in_err-entries.ensures.fault m));
      memory = c.in_err-entries.ensures.memory;
    })

pub returns-in_err-header : goal.returns-in_err-header
returns-in_err-header c =
    let p = err_from_is_err_and c.from_residual.result c.from_residual.ensures.1 in
    let shape = c.args.shape.now in
    let block = take shape.page_size c.args.bytes.now in
    let bad = c.in_err-header.field-0.0 in
    let e : header_in shape block ≡ Err bad = subst (λ b. header_in shape b ≡ Err bad) c.split_at.ensures.front (sym c.in_err-header.ensures) in
    rw (p.1, p.2) (record { fault = λ m. image-no_header shape block (drop shape.page_size c.args.bytes.now) bad e; memory = λ m. absurd (header-other shape block bad e m) })
