-- Where the fields of a quote of the right length stand, and Q5 of one item.
-- Assumes nothing.
use Prim.Native.Nat.{ℕ, ◌+◌, ◌≤◌, ◌<◌}
use mathlib.Core.Path.{◌≡◌, sym, ap, ◌∙◌}
use mathlib.Core.Bool.{true, false}
use mathlib.Core.List.{List}
use native.Mathlib.Omega.{arith}
use lib.Dec.{leb}
use lib.ListN.{length}
use borrow.Author.Tests.{eqb-true, le-leb, lt-leb}
use Rattle.ranking.specs.declared.Side.TheVariants.{Offer}
use Rattle.venueform.specs.declared.Form.{Form}
use Rattle.venueform.specs.Form.{venue_header, symbol_bytes, side_bytes, side_at, price_at, item_count, item_bytes, item_at}
use Rattle.venueform.proofs.FormLaws.{item-inside, symbol-inside, sides-inside}
use Rattle.venuerules.specs.Rules.{price_most, length_good, item_good}

module _ (f : Form) (m : List ℕ) where
  module _ (g : length_good f m ≡ true) where
    pub length-is : length m ≡ item_at f (item_count f m)
    length-is = eqb-true (length m) (item_at f (item_count f m)) g

    pub symbol-in : venue_header + symbol_bytes f ≤ length m
    symbol-in = omega (arith, length-is, symbol-inside f (item_count f m))

    pub sides-in : f.round ≡ true → side_at f Offer + side_bytes f ≤ length m
    sides-in r = omega (arith, length-is, sides-inside f (item_count f m) r)

    pub item_in : (n i : ℕ) → n ≡ item_count f m → i < n → item_at f i + item_bytes f ≤ length m
    item_in n i e h = omega (arith, length-is, item-inside f (item_count f m) i (omega arith))

  -- Q5 of one item
  item-price : (i a p : ℕ) → a ≡ item_at f i → p ≡ price_at f m a → leb p price_most ≡ item_good f m i
  item-price i a p ea ep = ap (λ (x : ℕ). leb x price_most) (ep ∙ ap (price_at f m) ea)

  pub item-high : (i a p : ℕ) → a ≡ item_at f i → p ≡ price_at f m a → price_most < p → item_good f m i ≡ false
  item-high i a p ea ep h = sym (item-price i a p ea ep) ∙ lt-leb p price_most h

  pub item-low : (i a p : ℕ) → a ≡ item_at f i → p ≡ price_at f m a → p ≤ price_most → item_good f m i ≡ true
  item-low i a p ea ep h = sym (item-price i a p ea ep) ∙ le-leb p price_most h
