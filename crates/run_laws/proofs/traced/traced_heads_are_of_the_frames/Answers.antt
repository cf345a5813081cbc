use Rattle.stack_engine.specs.Engine.{file_in, state_in, tree_in, wire_in}
use Rattle.run_laws.proofs.traced.traced_heads_are_of_the_frames.Goals as goal

pub returns : goal.returns
returns c = λ asked event old new sends.
    c.heads_are_of_the_frames.ensures (tree_in old) (file_in old) (wire_in new).ops (state_in old) _ _ event (wire_in new).first (wire_in new).second sends.frames.went
