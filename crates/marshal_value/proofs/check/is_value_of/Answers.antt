use Rattle.std.proofs.Common.{sym, ◌∙◌}
use Rattle.marshal_value.specs.Tree.{tree_of}
use Rattle.idl_reader.specs.Tree.{type_tree}
use Rattle.marshal_value.specs.Lookup.{table_of}
use Rattle.marshal_value.proofs.TypeTests.{found_of, told_of}
use Rattle.marshal_value.proofs.check.is_value_of.Goals as goal

pub returns : goal.returns
returns c = (
  λ h. found_of (table_of c.args.set.now) (tree_of c.args.value.now) (type_tree c.args.ty.now) (sym c.is_of.ensures ∙ h),
  λ h. c.is_of.ensures ∙ told_of (table_of c.args.set.now) (tree_of c.args.value.now) (type_tree c.args.ty.now) h,
)
