use native.Mathlib.Omega.{arith}
use Rattle.field.specs.Field.{Bytes}
use Rattle.venuerules.proofs.HeaderLaws.{reserved-is}
use Rattle.venuerules.proofs.is_rest_good.Goals as goal

pub returns-then-reserved-eq-SPACES : goal.returns-then-reserved-eq-SPACES
returns-then-reserved-eq-SPACES c =
    let y : Bytes c.args.msg.now = λ i. (c.shared_slice_known-1.given i).fits in
    let e = reserved-is c.args.msg.now (omega arith) y in
    grind (arith, e)

pub returns-else-reserved-eq-SPACES : goal.returns-else-reserved-eq-SPACES
returns-else-reserved-eq-SPACES c =
    let y : Bytes c.args.msg.now = λ i. (c.shared_slice_known-1.given i).fits in
    let e = reserved-is c.args.msg.now (omega arith) y in
    grind (arith, e)
