-- A reconnectable object that found its file again.
use Rattle.std.specs.Prelude.{◌≡◌, ℕ, Option, IsSomeAnd}
use Rattle.marshal_buf.specs.declared.door.Door.{Door}
use Rattle.client_objects.specs.declared.kind.ObjectKind.{ObjectKind}
use Rattle.client_objects.specs.declared.target.Target.{Target}

-- it leads where this door does, and is of this life
abbrev pub reconnected : Door → ℕ → Target
reconnected door life = record { kind = ObjectKind.Reconnectable; tag = 0; view = door.node; file = door.file; life = life }

-- there is an object, and it is reconnectable
abbrev pub IsReconnectable : Option Target → Type 0
IsReconnectable target = IsSomeAnd target (λ t. t.kind ≡ ObjectKind.Reconnectable)
