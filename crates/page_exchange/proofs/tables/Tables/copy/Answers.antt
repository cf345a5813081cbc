use Rattle.std.proofs.Common.{◌∙◌, arith}
use Rattle.std.proofs.lemmas.List.{take_all}
use Rattle.page_exchange.proofs.Copies as copies
use Rattle.page_exchange.proofs.tables.Tables.copy.Goals as goal

pub returns-clause-bytes : goal.returns-clause-bytes
returns-clause-bytes c =
    let long = copies.copy_long c.args.self.now.tree c.args.self.now.file c.args.self.now.nodes.items c.args.self.now.tables c.args.page c.args.node c.requires.may.right in
    c.lend.ensures.bytes ∙ take_all c.args.self.now.file.page_size _ (omega (arith, long))
