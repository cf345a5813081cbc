-- What the interfaces call the operations.
use Rattle.std.specs.Prelude.{ℕ, List, codes, ◌++◌}
use Rattle.pager_channel.specs.declared.operation.Operation.{Operation}

-- the interface that has an operation, and the operation's name there
pub record Called : Type 0 where
  pub interface : List ℕ
  pub name : List ℕ

abbrev pub of_pager : List ℕ → Called
of_pager name = record { interface = codes "pager"; name = name }

abbrev pub of_cache : List ℕ → Called
of_cache name = record { interface = codes "cache"; name = name }

abbrev pub of_file : List ℕ → Called
of_file name = record { interface = codes "file"; name = name }

abbrev pub called : Operation → Called
called Operation.PageIn = of_pager (codes "page_in")
called Operation.PageOut = of_pager (codes "page_out")
called Operation.WriteOut = of_pager (codes "write_out")
called Operation.Sync = of_pager (codes "sync")
called Operation.Done = of_pager (codes "done_with_pager_object")
called Operation.FlushBack = of_cache (codes "flush_back")
called Operation.DenyWrites = of_cache (codes "deny_writes")
called Operation.WriteBack = of_cache (codes "write_back")
called Operation.DeleteRange = of_cache (codes "delete_range")
called Operation.ZeroFill = of_cache (codes "zero_fill")
called Operation.Destroy = of_cache (codes "destroy_cache")
called Operation.Bind = of_file (codes "bind")
called Operation.Read = of_file (codes "read")
called Operation.Write = of_file (codes "write")
called Operation.Clear = of_file (codes "clear")
called Operation.FileSync = of_file (codes "sync")
called Operation.GetLength = of_file (codes "get_length")
called Operation.SetLength = of_file (codes "set_length")

-- both, with a dot between them
abbrev pub full_name : Operation → List ℕ
full_name which = (called which).interface ++ codes "." ++ (called which).name
