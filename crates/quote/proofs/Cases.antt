-- Which sides count (document 01, P4 and P5 as far as one quote goes, and the table of conditions), and the times of a quote over the one that stands
-- (document 02, T-02). Checked by computing.
-- Assumes nothing.
use Prim.Native.Nat.{ℕ}
use mathlib.Core.Path.{◌≡◌, refl}
use mathlib.Core.Bool.{true, false}
use mathlib.Core.List.{List, [], ◌∷◌, map}
use Rattle.lists.specs.Lists.{member}
use Rattle.ranking.specs.declared.Side.TheVariants.{Bid, Offer}
use Rattle.quote.specs.declared.Level.{Level}
use Rattle.quote.specs.declared.Quote.{Quote}
use Rattle.quote.specs.Quote.{admits, counts, with_times, time_kept, quote_over}

-- both sides 5.00 with sizes b and o
abbrev quoted : ℕ → ℕ → ℕ → Quote
quoted c b o = record { condition = c; bid = record { price = 5000000; size = b; time = 1 }; offer = record { price = 5000000; size = o; time = 1 } }

-- A, B, H, O, R, W, then E, F, then C, L, N, U, then three other bytes
abbrev conditions : List ℕ
conditions = 65 ∷ 66 ∷ 72 ∷ 79 ∷ 82 ∷ 87 ∷ 69 ∷ 70 ∷ 67 ∷ 76 ∷ 78 ∷ 85 ∷ 0 ∷ 68 ∷ 255 ∷ []

-- 10.00 for so many lots, at a time
abbrev sized : ℕ → ℕ → Level
sized lots time = record { price = 10000000; size = lots; time = time }

-- five lots at 9 over this side
abbrev five : Level → ℕ
five l = time_kept l (sized 5 9)

abbrev sides : ℕ → Level → Level → Quote
sides c b o = record { condition = c; bid = b; offer = o }

pub record Cases : Type 0 where
  -- P4: E, only the offer counts
  pub p4 : (counts Bid (quoted 69 1 1) ≡ false) × (counts Offer (quoted 69 1 1) ≡ true)
  -- P5: price 5.00, size 0, an indication, does not count
  pub p5 : (counts Bid (quoted 82 0 1) ≡ false) × (counts Offer (quoted 82 0 1) ≡ true)
  pub bids : map (admits Bid) conditions ≡ true ∷ true ∷ true ∷ true ∷ true ∷ true ∷ false ∷ true ∷ false ∷ false ∷ false ∷ false ∷ false ∷ false ∷ false ∷ []
  pub offers : map (admits Offer) conditions ≡ true ∷ true ∷ true ∷ true ∷ true ∷ true ∷ true ∷ false ∷ false ∷ false ∷ false ∷ false ∷ false ∷ false ∷ false ∷ []
  -- over five lots, six, four, none; over five at another price; a time that goes back
  pub resent : map five (sized 5 7 ∷ sized 6 7 ∷ sized 4 7 ∷ sized 0 7 ∷ record { price = 10010000; size = 5; time = 7 } ∷ sized 5 11 ∷ []) ≡ 7 ∷ 7 ∷ 9 ∷ 9 ∷ 9 ∷ 11 ∷ []
  -- an indication over five lots
  pub indication : time_kept (sized 5 7) (sized 0 9) ≡ 7
  -- each side by itself, whatever the conditions
  pub bid-alone : quote_over (sides 67 (sized 5 7) (sized 4 8)) (sides 82 (sized 5 9) (sized 5 9)) ≡ sides 82 (sized 5 7) (sized 5 9)
  pub offer-alone : quote_over (sides 82 (sized 4 7) (sized 5 8)) (sides 76 (sized 5 9) (sized 5 9)) ≡ sides 76 (sized 5 9) (sized 5 8)

pub cases : Cases
unfolding counts admits member with_times time_kept quote_over
cases = record { p4 = (refl, refl); p5 = (refl, refl); bids = refl; offers = refl; resent = refl; indication = refl; bid-alone = refl; offer-alone = refl }
