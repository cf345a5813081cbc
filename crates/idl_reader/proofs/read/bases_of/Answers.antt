use Rattle.std.proofs.Common.{sym, subst, ap, ◌∙◌, length, [], Ok, ◌+◌}
use Rattle.idl_reader.specs.Left.{left, with_left}
use Rattle.idl_reader.specs.Tokens.{Gap}
use Rattle.idl_reader.specs.Why.{Gives}
use Rattle.idl_reader.specs.Reading.{bases_at, if_after, names_at}
use Rattle.idl_reader.proofs.Bases.{tokens_few, names_at_enough}
use Rattle.idl_reader.proofs.read.bases_of.Goals as goal

pub returns-in-Some : goal.returns-in-Some
unfolding bases_at
returns-in-Some c =
    let after = c.in-Some.after in
    let enough = names_at_enough (length after.bytes.now + 1) (left after) (tokens_few Gap after.place after.bytes.now) in
    let whole = ap (λ o. if_after o (λ rest. names_at (length rest) rest) (Ok ([], left c.args.rest))) (sym c.in-Some.ensures) in
    subst (λ read. Gives (with_left (λ bases. bases)) c.names_of.result read) (enough ∙ sym whole) c.names_of.ensures
