use Rattle.std.proofs.Common.{rules, arith, subst}
use Rattle.idl_tables.specs.TableSet.{Tabled, IsTabled}
use Rattle.idl_tables.proofs.Numbers.{answer_is, number_fits}
use Rattle.idl_tables.proofs.table_set.TableSet.op_number.Goals as goal

pub returns-in_err-number : goal.returns-in_err-number
returns-in_err-number c number =
    let is : IsTabled c.args.self.now = subst (λ (s : Tabled). IsTabled s) c.self.view_is c.self.invariant in
    answer_is c.args.self.now is c.args.interface.now c.args.name.now number c.from_residual.result (search rules)

pub overflow_cast-result : goal.overflow_cast-result
overflow_cast-result c =
    let is : IsTabled c.args.self.now = subst (λ (s : Tabled). IsTabled s) c.self.view_is c.self.invariant in
    let below = number_fits c.args.self.now is c.args.interface.now c.args.name.now c.in_ok-number.number (search rules) in
    omega arith

pub returns : goal.returns
returns c number =
    let is : IsTabled c.args.self.now = subst (λ (s : Tabled). IsTabled s) c.self.view_is c.self.invariant in
    answer_is c.args.self.now is c.args.interface.now c.args.name.now number _ (search rules)
