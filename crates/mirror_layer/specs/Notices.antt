-- What a user is told of a disk, in a word.
use Rattle.std.specs.Prelude.{ℕ, List, codes, Bool, if◌then◌else◌, Option, Some, None}
use Rattle.mirror_layer.specs.declared.came.Notice.{Notice}
use Rattle.mirror_layer.specs.declared.came.Notice.TheVariants.{Bad, Out, Made, Copied}

abbrev pub notice_word : Notice → List ℕ
notice_word Bad = codes "bad"
notice_word Out = codes "out"
notice_word Made = codes "made"
notice_word Copied = codes "copied"

-- when a ground is closed: of a disk that is live, what the opening made of it; of another that it is out, but for one that was found bad
abbrev pub at_close : Option Notice → Bool → Option Notice
at_close (Some Bad) live = Some Bad
at_close (Some Out) live = Some Out
at_close (Some Made) live = if live then Some Made else Some Out
at_close (Some Copied) live = if live then Some Copied else Some Out
at_close None live = if live then None else Some Out
