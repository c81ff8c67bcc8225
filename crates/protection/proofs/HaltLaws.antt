-- Round the search: a halted page says no with 26 (T-10).
-- Assumes nothing.
use Prim.Native.Nat.{ℕ}
use mathlib.Core.Path.{◌≡◌, sym}
use mathlib.Core.Bool.{true, false}
use mathlib.Core.List.{List}
use Rattle.ranking.specs.declared.Side.{Side}
use Rattle.entries.specs.Entries.{trading_candidates}
use Rattle.page.specs.Layout.{letter_count}
use Rattle.page.specs.Page.{halted_in}
use Rattle.protection.specs.declared.Protection.{Protection}
use Rattle.protection.specs.Protection.{protection, page_candidates, page_trading}
use Rattle.protection.proofs.ProtectionLaws.{none-protected}

module _ (b : List ℕ) (s : Side) (p : ℕ) where
  pub look-halted : halted_in b ≡ true → record { yes = false; looked = letter_count } ≡ protection s p (page_trading b s)
  unfolding trading_candidates
  look-halted h = rw h (sym (none-protected s p))

  pub look-trading : halted_in b ≡ false → (r : Protection) → r ≡ protection s p (page_candidates b s) → r ≡ protection s p (page_trading b s)
  unfolding trading_candidates
  look-trading h r e = rw h e
