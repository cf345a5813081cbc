use Rattle.std.proofs.Common.{◌≡◌, take, map}
use Rattle.stack_seats.specs.Seats.{file_of}
use Rattle.stack_seats.proofs.shape.files_of.Given as goal

abbrev pub invariant-loop-file : goal.invariant-loop-file
invariant-loop-file l = l.found ≡ map file_of (take l.file-index l.files)
