use Rattle.std.proofs.Common.{◌*◌, ◌≤◌, arith}
use Rattle.std.proofs.lemmas.Nat.{mul-le}
use Rattle.script_gen.proofs.access.address_of.Goals as goal

pub overflow_add-result : goal.overflow_add-result
overflow_add-result c =
    let most : c.from.result * c.from-2.result ≤ 1024 * 4096 = mul-le c.from.result c.from-2.result 1024 4096 (omega arith) (omega arith) in
    omega arith

pub overflow_add-result-2 : goal.overflow_add-result-2
overflow_add-result-2 c =
    let most : c.from.result * c.from-2.result ≤ 1024 * 4096 = mul-le c.from.result c.from-2.result 1024 4096 (omega arith) (omega arith) in
    omega arith
