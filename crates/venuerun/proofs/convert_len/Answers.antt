use Rattle.std.proofs.Common.{sym}
use Rattle.numbers.proofs.RefusalLaws.{never-zero, passed_up}
use Rattle.venuerun.proofs.NeededLaws.{told-refused, told-done}
use Rattle.venuerun.proofs.convert_len.Goals as goal

pub returns-in_err-judge : goal.returns-in_err-judge
returns-in_err-judge c =
    rw (passed_up c.from_residual.result _ c.from_residual.ensures.1) (c.in_err-judge.ensures, told-refused _ _ c.in_err-judge.ensures (never-zero _))

pub needed-requires : goal.needed-requires
needed-requires c = sym c.in_ok-judge.ensures

pub returns : goal.returns
returns c = (c.in_ok-judge.ensures, told-done _ _ c.in_ok-judge.ensures c.needed.ensures)
