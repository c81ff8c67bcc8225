use mathlib.Core.Path.{refl}
use native.Mathlib.Omega.{arith}
use Rattle.numbers.proofs.RefusalLaws.{passed_up}
use Rattle.book.proofs.CallLaws.{turned_down, carried-out, add-passed, add-counted, add-after}
use Rattle.book.proofs.add_symbol.Goals as goal

pub returns-in_err-judge_symbol : goal.returns-in_err-judge_symbol
returns-in_err-judge_symbol c =
    rw (passed_up c.from_residual.result _ c.from_residual.ensures.1) (turned_down _ _ refl _ c.in_err-judge_symbol.ensures)

pub get8-count-requires : goal.get8-count-requires
get8-count-requires c =
    omega (arith, (add-passed _ _ _ _ c.in_ok-judge_symbol.ensures).room)

pub overflow_add-count : goal.overflow_add-count
overflow_add-count c =
    omega (arith, (add-counted _ _ _ _ _ c.get8-count.ensures c.in_ok-judge_symbol.ensures).count)

pub put8-requires : goal.put8-requires
put8-requires c =
    omega (arith, (add-counted _ _ _ _ _ c.get8-count.ensures c.in_ok-judge_symbol.ensures).room)

pub overflow_mul-a : goal.overflow_mul-a
overflow_mul-a c =
    omega (arith, (add-counted _ _ _ _ _ c.get8-count.ensures c.in_ok-judge_symbol.ensures).count)

pub overflow_add-a : goal.overflow_add-a
overflow_add-a c =
    omega (arith, (add-counted _ _ _ _ _ c.get8-count.ensures c.in_ok-judge_symbol.ensures).count)

pub overflow_add-e : goal.overflow_add-e
overflow_add-e c =
    omega (arith, (add-counted _ _ _ _ _ c.get8-count.ensures c.in_ok-judge_symbol.ensures).count)

pub slice_bounds-list-end : goal.slice_bounds-list-end
slice_bounds-list-end c =
    omega (arith, (add-counted _ _ _ _ _ c.get8-count.ensures c.in_ok-judge_symbol.ensures).room)

pub overflow_cast-lot : goal.overflow_cast-lot
overflow_cast-lot c =
    omega (arith, (add-counted _ _ _ _ _ c.get8-count.ensures c.in_ok-judge_symbol.ensures).lot)

pub list-requires : goal.list-requires
list-requires c =
    let z = add-counted _ _ _ _ _ c.get8-count.ensures c.in_ok-judge_symbol.ensures in (omega (arith, z.room), z.eleven)

pub put_hint-requires : goal.put_hint-requires
put_hint-requires c =
    let z = add-counted _ _ _ _ _ c.get8-count.ensures c.in_ok-judge_symbol.ensures in (omega (arith, z.first), z.eleven)

pub returns : goal.returns
returns c =
    carried-out _ _ refl _ c.in_ok-judge_symbol.ensures (add-after _ _ _ _ _ _ _ _ _ (add-counted _ _ _ _ _ c.get8-count.ensures c.in_ok-judge_symbol.ensures).eleven c.get8-count.ensures c.put8.ensures c.list.ensures refl c.put_hint.ensures)
