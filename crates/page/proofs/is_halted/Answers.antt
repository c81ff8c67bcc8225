use Prim.Native.Nat.{ℕ}
use mathlib.Core.Path.{ap}
use lib.Dec.{eqb}
use Rattle.field.specs.Ascii.{H}
use Rattle.page.specs.Page.{halted_in}
use Rattle.page.proofs.is_halted.Goals as goal

-- `page::is_halted` meets its contract.

pub returns : goal.returns
unfolding halted_in
returns c = ap (λ (x : ℕ). eqb x H) c.get8.ensures
