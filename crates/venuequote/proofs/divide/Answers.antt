use mathlib.Core.Path.{◌≡◌, ap, ◌∙◌}
use Prim.Native.Nat.{ℕ, ◌/◌}
use Rattle.venuequote.proofs.WriteLaws.{divide-none, divide-some}
use borrow.Author.Rules.{rules}
use Rattle.venuequote.proofs.divide.Goals as goal

pub returns-then-lot-eq0 : goal.returns-then-lot-eq0
returns-then-lot-eq0 c = divide-none _ _ c.if-lot-eq0.true

pub returns : goal.returns
returns c =
    let e : c.from.result ≡ c.args.lot = search rules in
    ap (λ (n : ℕ). c.args.shares / n) e ∙ divide-some _ _ c.if-lot-eq0.false
