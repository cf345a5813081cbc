use Rattle.marshal_value.specs.Tree.{tree_of}
use Rattle.idl_reader.specs.Tree.{type_tree}
use Rattle.marshal_value.specs.Lookup.{table_of}
use Rattle.marshal_value.proofs.One.{spelled}
use Rattle.marshal_value.proofs.put.put_value.Goals as goal

pub put_one-requires-clause-fits : goal.put_one-requires-clause-fits
put_one-requires-clause-fits c = spelled (table_of c.args._set.now) (tree_of c.args.value.now) (type_tree c.args._ty.now) c.requires.of
