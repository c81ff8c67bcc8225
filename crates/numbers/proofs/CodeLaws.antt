-- No rejection has the code 0.
-- Assumes nothing.
use Rattle.std.proofs.Common.{◌≡◌, ℕ, ◌≤◌, arith}
use Rattle.numbers.specs.declared.Rejection.{Rejection}
use Rattle.numbers.specs.declared.Rejection.TheVariants as rejection
use Rattle.numbers.specs.Numbers.{code_of}

code-low : (r : Rejection) → 1 ≤ code_of r
code-low rejection.UnknownType = omega arith
code-low rejection.Letter = omega arith
code-low rejection.Length = omega arith
code-low rejection.FixedByte = omega arith
code-low rejection.WrongLine = omega arith
code-low rejection.Symbol = omega arith
code-low rejection.Condition = omega arith
code-low rejection.SizeWithoutPrice = omega arith
code-low rejection.Maker = omega arith
code-low rejection.MakersFull = omega arith
code-low rejection.ClearMark = omega arith
code-low rejection.ItemCount = omega arith
code-low rejection.ItemPrice = omega arith
code-low rejection.ItemShares = omega arith
code-low rejection.FifthLevel = omega arith
code-low rejection.NotPrimary = omega arith
code-low rejection.Status = omega arith

pub code-some : (r : Rejection) → code_of r ≡ 0 → ⊥
code-some r e = omega (arith, code-low r)
