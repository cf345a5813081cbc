-- The names of the operations.
use Rattle.std.specs.Prelude.{ℕ, List, codes}
use Rattle.pager_channel.specs.declared.operation.Operation.{Operation}

-- as an interface text declares them
abbrev pub operation_name : Operation → List ℕ
operation_name Operation.PageIn = codes "page_in"
operation_name Operation.PageOut = codes "page_out"
operation_name Operation.WriteOut = codes "write_out"
operation_name Operation.Sync = codes "sync"
operation_name Operation.Done = codes "done_with_pager_object"
operation_name Operation.FlushBack = codes "flush_back"
operation_name Operation.DenyWrites = codes "deny_writes"
operation_name Operation.WriteBack = codes "write_back"
operation_name Operation.DeleteRange = codes "delete_range"
operation_name Operation.ZeroFill = codes "zero_fill"
operation_name Operation.Destroy = codes "destroy_cache"
operation_name Operation.Bind = codes "bind"
operation_name Operation.Read = codes "read"
operation_name Operation.Write = codes "write"
operation_name Operation.Clear = codes "clear"
operation_name Operation.FileSync = codes "sync"
operation_name Operation.GetLength = codes "get_length"
operation_name Operation.SetLength = codes "set_length"
