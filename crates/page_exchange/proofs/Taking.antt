-- Why an answer is not taken.
use Rattle.std.specs.Prelude.{IfErr}
use Rattle.std.proofs.Common.{None, Result, Ok, Err}
use Rattle.page_messages.specs.declared.refusal.NodeErr.{NodeErr}
use Rattle.page_messages.specs.declared.refusal.NodeErr.TheVariants as errors
use Rattle.pager_channel.specs.Seen.{FrameSeen}
use Rattle.coherency_layer.specs.declared.node.Node.{Node}
use Rattle.coherency_layer.specs.Node as layers
use Rattle.vmm_cache.specs.declared.leaf.Leaf.{Leaf as LeafTable}
use Rattle.vmm_cache.specs.Leaf as leaves
use Rattle.page_exchange.specs.declared.table.Table.TheVariants.{Layer, Leaf}
use Rattle.page_exchange.specs.Table.{IsNotTaken}

pub layer_why : {A : Type 0} (node : Node) (f : FrameSeen) (r : Result A NodeErr) → IfErr r (layers.IsRefusal node f (layers.AllowsSecond node None f)) → IfErr r (layers.IsFirstCopy node f) → IfErr r (IsNotTaken (Layer node) f)
layer_why node f (Ok x) refused memory = tt
layer_why node f (Err (errors.NotAllowed page)) refused memory = refused.0
layer_why node f (Err errors.Memory) refused memory = memory

pub leaf_why : {A : Type 0} (leaf : LeafTable) (f : FrameSeen) (r : Result A NodeErr) → IfErr r (leaves.IsRefusal leaf f (leaves.AllowsSecond leaf f)) → IfErr r (leaves.IsFirstCopy leaf f) → IfErr r (IsNotTaken (Leaf leaf) f)
leaf_why leaf f (Ok x) refused memory = tt
leaf_why leaf f (Err (errors.NotAllowed page)) refused memory = refused.0
leaf_why leaf f (Err errors.Memory) refused memory = memory
