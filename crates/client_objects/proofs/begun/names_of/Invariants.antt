use Rattle.std.proofs.Common.{◌≡◌, take}
use Rattle.client_objects.specs.Views.{file_names}
use Rattle.client_objects.proofs.begun.names_of.Given as goal

abbrev pub invariant-loop-file : goal.invariant-loop-file
invariant-loop-file l = l.names.items ≡ file_names (take l.file-index l.files)
