-- The order in which the operations are looked for.
use Rattle.std.specs.Prelude.{List, [], ◌∷◌}
use Rattle.pager_channel.specs.declared.operation.Operation.{Operation}

abbrev pub order : List Operation
order =
    Operation.PageIn ∷
    Operation.PageOut ∷
    Operation.WriteOut ∷
    Operation.Sync ∷
    Operation.Done ∷
    Operation.FlushBack ∷
    Operation.DenyWrites ∷
    Operation.WriteBack ∷
    Operation.DeleteRange ∷
    Operation.ZeroFill ∷
    Operation.Destroy ∷
    Operation.Bind ∷
    Operation.Read ∷
    Operation.Write ∷
    Operation.Clear ∷
    Operation.FileSync ∷
    Operation.GetLength ∷
    Operation.SetLength ∷
    []
