use Rattle.std.proofs.Common.{◌≡◌, ◌+◌, ◌*◌, not, drop}
use Rattle.disk_format.specs.Table.{first_place}
use Rattle.disk_format.specs.VersionOne.{is_entry}
use Rattle.disk_format.proofs.version_1.wrong_entry.Given as goal

abbrev pub invariant-loop-page : goal.invariant-loop-page
invariant-loop-page l =
    first_place 4 (λ e. not (is_entry l.shape e)) (l.shape.page_size + 4 * l.page) (drop l.page l.entries)
    ≡ first_place 4 (λ e. not (is_entry l.shape e)) l.shape.page_size l.entries
