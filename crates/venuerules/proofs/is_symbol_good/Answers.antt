use Prim.Native.Nat.{ℕ, ◌+◌, ◌-◌}
use mathlib.Core.Path.{◌≡◌, ap, ◌∙◌}
use native.Mathlib.Omega.{arith}
use lib.ListN.{take, drop}
use Rattle.field.specs.Field.{part}
use Rattle.text.specs.Form.{padded}
use Rattle.venueform.specs.Form.{symbol_bytes}
use Rattle.venuerules.proofs.QuoteLaws.{symbol-in}
use Rattle.venuerules.proofs.is_symbol_good.Goals as goal

pub slice_bounds-is_padded-end : goal.slice_bounds-is_padded-end
slice_bounds-is_padded-end c =
    let a = c in
    omega (arith, c.symbol_len-end.ensures.0, symbol-in a.args.form a.args.msg.now a.requires)

pub returns : goal.returns
unfolding part
returns c =
    let s = c in
    let a = s.args in
    let n : (26 + s.symbol_len-end.result) - 26 ≡ symbol_bytes a.form = omega (arith, s.symbol_len-end.ensures.0) in
    c.is_padded.ensures ∙ ap (λ (k : ℕ). padded 33 126 (take k (drop 26 a.msg.now))) n
