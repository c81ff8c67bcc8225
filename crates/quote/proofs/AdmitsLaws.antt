-- The arms of the one match over the condition byte: neighbours of the table (65 and 66) come as a range, the others as keys.
-- Assumes nothing.
use Prim.Native.Nat.{ℕ, ◌≤◌, ◌<◌}
use mathlib.Core.Path.{◌≡◌, refl}
use mathlib.Core.Bool.{Bool, true, false, not, cond}
use mathlib.Core.List.{[], ◌∷◌}
use mathlib.Core.Logic.{⊎_elim}
use native.Mathlib.Omega.{arith}
use native.Mathlib.Nat.{eq-or-lt_of_le}
use types.Run.{OneOf}
use borrow.Author.Tests.{ne_eqb}
use lib.Dec.{eqb}
use Rattle.lists.specs.Lists.{member}
use Rattle.lists.proofs.Tables.{one_of, none_of}
use Rattle.ranking.specs.declared.Side.{Side}
use Rattle.quote.specs.Quote.{admits, is_bid}

module _ (s : Side) (c : ℕ) where
  pub admits-both : OneOf (72 ∷ 79 ∷ 82 ∷ 87 ∷ []) c → true ≡ admits s c
  unfolding admits member
  admits-both h = rw (one_of (72 ∷ 79 ∷ 82 ∷ 87 ∷ []) c h) (go (eqb c 65) (eqb c 66))
    where
      go : (t u : Bool) → true ≡ cond (cond t true (cond u true true)) true (cond (eqb c 69) (not (is_bid s)) (cond (eqb c 70) (is_bid s) false))
      go true u = refl
      go false true = refl
      go false false = refl

  pub admits-range : 65 ≤ c → c < 67 → true ≡ admits s c
  unfolding admits member
  admits-range h k = ⊎_elim (λ e. rw (← e)) (λ l. let e : c ≡ 66 = omega arith in rw e) (eq-or-lt_of_le h)

  module _ (b : Bool) (i : b ≡ is_bid s) where
    pub admits-offer : c ≡ 69 → not b ≡ admits s c
    unfolding admits member
    admits-offer e = rw (e, i)

    pub admits-bid : c ≡ 70 → b ≡ admits s c
    unfolding admits member
    admits-bid e = rw (e, i)

  pub admits-none : (OneOf (72 ∷ 79 ∷ 82 ∷ 87 ∷ []) c → ⊥) → (c ≡ 69 → ⊥) → (c ≡ 70 → ⊥) → (c ≡ 65 → ⊥) → (c ≡ 66 → ⊥) → false ≡ admits s c
  unfolding admits member
  admits-none h e f a b = rw (ne_eqb _ _ a, ne_eqb _ _ b, none_of (72 ∷ 79 ∷ 82 ∷ 87 ∷ []) c h, ne_eqb _ _ e, ne_eqb _ _ f)
