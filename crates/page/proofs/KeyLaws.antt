-- Where keys stand, and on what a letter's quote and levels depend: its slot and its own keys.
-- Assumes nothing.
use Prim.Native.Nat.{ℕ, ◌+◌, ◌*◌, ◌-◌, ◌≤◌}
use mathlib.Core.Path.{◌≡◌, refl, ap}
use mathlib.Core.Bool.{Bool, true, false, cond}
use mathlib.Core.List.{List}
use native.Mathlib.Omega.{arith}
use lib.Dec.{eqb}
use Rattle.field.specs.Field.{part}
use Rattle.field.specs.Low.{le, low}
use Rattle.lists.specs.Lists.{upper}
use Rattle.ranking.specs.declared.Side.{Side}
use Rattle.ranking.specs.declared.Side.TheVariants.{Bid, Offer}
use Rattle.quote.specs.Quote.{no_quote, quote_in, quote_length}
use Rattle.levels.specs.Levels.{no_levels, levels_in, levels_length}
use Rattle.keys.specs.Keys.{key_length, quote_key}
use Rattle.page.specs.Page.{agreed, agreed_quote, agreed_side, agreed_levels, first_key, quotes_in, levels_for}
use Rattle.page.specs.Layout.{keys_at, key_row, quote_keys_at, first_keys_at, quote_key_at, first_key_at, slot_at}

-- ---- where keys stand

pub quote-keys-low : (s : Side) → keys_at ≤ quote_keys_at s
quote-keys-low Bid = omega arith
quote-keys-low Offer = omega arith

pub quote-keys-high : (s : Side) → quote_keys_at s + key_row ≤ keys_at + 2 * key_row
quote-keys-high Bid = omega arith
quote-keys-high Offer = omega arith

pub first-keys-low : (s : Side) → keys_at + 2 * key_row ≤ first_keys_at s
first-keys-low Bid = omega arith
first-keys-low Offer = omega arith

pub first-keys-high : (s : Side) → first_keys_at s + key_row ≤ keys_at + 4 * key_row
first-keys-high Bid = omega arith
first-keys-high Offer = omega arith

-- ---- what stands in the same bytes is read alike

module _ (p q : List ℕ) where
  key-same : (at : ℕ) → part q at key_length ≡ part p at key_length → low q at key_length ≡ low p at key_length
  unfolding low
  key-same at e = ap le e

  module _ (l : ℕ) where
    pub quote-same : ((s : Side) → part q (quote_key_at s l) key_length ≡ part p (quote_key_at s l) key_length) → part q (slot_at l) quote_length ≡ part p (slot_at l) quote_length → quotes_in q l ≡ quotes_in p l
    unfolding quotes_in
    quote-same k e = rw (key-same (quote_key_at Bid l) (k Bid), key-same (quote_key_at Offer l) (k Offer), e)

    pub level-same : ((s : Side) → part q (first_key_at s l) key_length ≡ part p (first_key_at s l) key_length) → part q (slot_at l + quote_length) levels_length ≡ part p (slot_at l + quote_length) levels_length → levels_for q l ≡ levels_for p l
    unfolding levels_for
    level-same k e = rw (key-same (first_key_at Bid l) (k Bid), key-same (first_key_at Offer l) (k Offer), e)

-- ---- no quote and no levels, whatever the keys

pub no-quote-agreed : (kb ko : ℕ) → agreed_quote kb ko no_quote ≡ no_quote
unfolding agreed_quote agreed
no-quote-agreed kb ko = go (eqb kb (quote_key Bid no_quote)) (eqb ko (quote_key Offer no_quote))
  where
    go : (t u : Bool) → record { condition = 0; bid = cond t no_quote.bid no_quote.bid; offer = cond u no_quote.offer no_quote.offer } ≡ no_quote
    go true true = refl
    go true false = refl
    go false true = refl
    go false false = refl

pub no-levels-agreed : (kb ko : ℕ) → agreed_levels kb ko no_levels ≡ no_levels
unfolding agreed_levels agreed_side
no-levels-agreed kb ko = go (eqb kb 0) (eqb ko 0)
  where
    go : (t u : Bool) → record { bids = cond t no_levels.bids no_levels.bids; offers = cond u no_levels.offers no_levels.offers } ≡ no_levels
    go true true = refl
    go true false = refl
    go false true = refl
    go false false = refl
