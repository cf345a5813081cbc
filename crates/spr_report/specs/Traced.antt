-- A tracer, seen as what it tells the messages by.
use Rattle.std.specs.Prelude.{Option, Some, None}
use Rattle.tower_core.specs.Sheet.{seen}
use Rattle.spr_report.specs.declared.tracing.Tracer.{Tracer}
use Rattle.spr_report.specs.Tracing.{Tracing}

abbrev pub tracing_of : Tracer → Tracing
tracing_of t = record { shape = t.tree.now; file = t.file; ops = t.ops; state = seen t.sheet }

-- none, if messages are not traced
abbrev pub traced_by : Option Tracer → Option Tracing
traced_by None = None
traced_by (Some t) = Some (tracing_of t)
