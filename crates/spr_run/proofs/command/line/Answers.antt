use Rattle.std.proofs.Common.{◌≡◌, ◌∙◌, ap, ap₂}
use Rattle.std.proofs.lemmas.Result.{IfOk-weaker}
use Rattle.clap.specs.Words.{app_of, with_subcommand}
use Rattle.clap.proofs.SimpleLemmas.{plain_fields}
use Rattle.spr_run.specs.Line.{bare}
use Rattle.spr_run.proofs.command.line.Goals as goal

pub returns : goal.returns
returns c =
    let is_run = c.in_ok-run.ensures.shape in
    let is_gen = c.in_ok-generation.ensures.shape in
    let is_check = c.in_ok-check.ensures.shape in
    let is_format = c.in_ok-format.ensures.shape in
    let is_dump = c.in_ok-dump.ensures.shape in
    let is_disks = c.in_ok-disks.ensures.shape in
    let is_idl = c.in_ok-idl.ensures.shape in
    let bare_is : app_of c.bare.result ≡ bare = c.bare.ensures.shape in
    let one = c.in_ok-subcommand.ensures.shape (plain_fields c.in_ok-run.field-0 (ap (λ s. s.is_plain) is_run)).globals ∙ ap₂ with_subcommand bare_is is_run in
    let two = c.in_ok-subcommand-2.ensures.shape (plain_fields c.in_ok-generation.field-0 (ap (λ s. s.is_plain) is_gen)).globals ∙ ap₂ with_subcommand one is_gen in
    let three = c.in_ok-subcommand-3.ensures.shape (plain_fields c.in_ok-check.field-0 (ap (λ s. s.is_plain) is_check)).globals ∙ ap₂ with_subcommand two is_check in
    let four = c.in_ok-subcommand-4.ensures.shape (plain_fields c.in_ok-format.field-0 (ap (λ s. s.is_plain) is_format)).globals ∙ ap₂ with_subcommand three is_format in
    let five = c.in_ok-subcommand-5.ensures.shape (plain_fields c.in_ok-dump.field-0 (ap (λ s. s.is_plain) is_dump)).globals ∙ ap₂ with_subcommand four is_dump in
    let six = c.in_ok-subcommand-6.ensures.shape (plain_fields c.in_ok-disks.field-0 (ap (λ s. s.is_plain) is_disks)).globals ∙ ap₂ with_subcommand five is_disks in
    record {
      shape = IfOk-weaker c.subcommand-7.result _ _ (λ m h. h.shape (plain_fields c.in_ok-idl.field-0 (ap (λ s. s.is_plain) is_idl)).globals ∙ ap₂ with_subcommand six is_idl) c.subcommand-7.ensures;
    }
