-- A charge read back: on any bytes, where the block was not refused.
-- Assumes nothing.
use Prim.Native.Nat.{ℕ, ◌+◌, ◌<◌}
use mathlib.Core.Path.{◌≡◌}
use mathlib.Core.Bool.{false}
use mathlib.Core.List.{List}
use native.Mathlib.Omega.{arith}
use lib.Dec.{eqb}
use lib.ListN.{length}
use Rattle.field.specs.Field.{Bytes, part, field}
use Rattle.field.proofs.Laws.{field_lt, length_part}
use Rattle.lists.specs.Lists.{at}
use Rattle.allowance.specs.Allowance.{share_count, shares_from, charges_from, allowance_length, is_used_up, allowance_in, charged, charged_bytes}
use Rattle.allowance.proofs.ByteLaws.{at_part, charged-view}
use Rattle.allowance.proofs.ClaimLaws.{charge-fits}

module _ (r : List ℕ) (i : ℕ) (l : length r ≡ allowance_length) (y : Bytes r) (h : i < share_count) (u : is_used_up (allowance_in r) i ≡ false) where
  share-fits : at (part r shares_from share_count) i < 256
  share-fits = rw (at_part r shares_from share_count i h (omega arith)) (field_lt r (shares_from + i) 1 (omega arith) y)

  fits : eqb (field r 0 1) 0 ≡ false → field r (charges_from + i) 1 + 1 < 256
  unfolding allowance_in
  fits z =
      rw (← at_part r charges_from share_count i h (omega arith))
      (charge-fits (allowance_in r) i (field_lt r 0 1 (omega arith) y) share-fits (length_part r shares_from share_count (omega arith)) (length_part r charges_from share_count (omega arith)) h z u)

  pub charged-allowance : allowance_in (charged_bytes r i) ≡ charged (allowance_in r) i
  charged-allowance = charged-view r l i h fits
