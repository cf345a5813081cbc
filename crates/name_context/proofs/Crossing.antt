-- Names may go to another thread.
use denote.Struct.Declared.{shape}
use denote.Param.Send.{IsSend, recorded_send, sendable, struct_send, view_send}
use Rattle.std.proofs.Crossing.{crosses}
use Rattle.name_context.proofs.tree.NameTree.TheSendSync as tree
use Rattle.name_context.proofs.history.Story.TheSendSync as story
use Rattle.name_context.specs.contracts.stack_names.Names as Names
use Rattle.name_context.specs.contracts.stack_names.Names.TheInside as inside

pub names_send : IsSend Names.the_row
names_send =
    view_send inside.the_row _ _ _ _
    (recorded_send inside.the_field.row _ _ inside.the_type.to_one
    (struct_send (shape inside.the_type) (search (crosses, sendable), (tree.the_send, (search crosses, (story.the_send, tt))))))
