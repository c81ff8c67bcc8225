-- The table of forms: each row's places are sums of the lengths that source document 000 gives, and every field lies in its message.
-- Assumes nothing.
use Prim.Native.Nat.{ℕ, ◌+◌, ◌≤◌, ◌<◌}
use mathlib.Core.Path.{◌≡◌, refl}
use mathlib.Core.Bool.{Bool, true, false}
use native.Mathlib.Omega.{arith}
use Rattle.ranking.specs.declared.Side.TheVariants.{Offer}
use Rattle.venueform.specs.declared.Form.{Form}
use Rattle.venueform.specs.Form.{venue_header, short_round, long_round, short_odd, long_odd, symbol_bytes, side_bytes, bid_at, clear_at, side_at, item_bytes, item_at}

-- ---- 000's totals: 16, 55, 8 and 14 bytes behind the header; 3 and 9 for an appendage

-- 6.3.2.1: symbol 5, price and size twice, clear mark, two counts
pub short-round-sums : item_at short_round 0 ≡ venue_header + (5 + (2 + 2) + (2 + 2) + 1 + 1 + 1)
short-round-sums = refl

-- 6.3.2.2: symbol 11, condition, price and size twice, three codes, maker 4, indicator, timestamp 8, clear mark, two counts
pub long-round-sums : item_at long_round 0 ≡ venue_header + (11 + 1 + (8 + 4) + (8 + 4) + 3 + 4 + 1 + 8 + 1 + 1 + 1)
long-round-sums = refl

-- 6.3.3.1, 6.3.3.2: symbol, clear mark, two counts
pub short-odd-sums : item_at short_odd 0 ≡ venue_header + (5 + 1 + 1 + 1)
short-odd-sums = refl

pub long-odd-sums : item_at long_odd 0 ≡ venue_header + (11 + 1 + 1 + 1)
long-odd-sums = refl

pub item-sums : (item_bytes short_round ≡ 3) × ((item_bytes long_round ≡ 9) × ((item_bytes short_odd ≡ 3) × (item_bytes long_odd ≡ 9)))
item-sums = (refl, (refl, (refl, refl)))

-- the bid stands behind the symbol, in the long form behind the condition; the offer ends where the clear mark stands, or 16 bytes before it
pub side-sums : (bid_at short_round ≡ venue_header + symbol_bytes short_round) × ((bid_at long_round ≡ venue_header + symbol_bytes long_round + 1)
    × ((clear_at short_round ≡ side_at short_round Offer + side_bytes short_round) × (clear_at long_round ≡ side_at long_round Offer + side_bytes long_round + 16)))
side-sums = (refl, (refl, (refl, refl)))

-- ---- places, of any form

abbrev form : Bool → Bool → Form
form r l = record { round = r; long = l }

pub item-inside : (f : Form) (n i : ℕ) → i < n → item_at f i + item_bytes f ≤ item_at f n
item-inside f n i h = go f.round f.long
  where
    go : (r l : Bool) → item_at (form r l) i + item_bytes (form r l) ≤ item_at (form r l) n
    go true true = omega arith
    go true false = omega arith
    go false true = omega arith
    go false false = omega arith

-- the symbol, the clear mark and the counts
pub symbol-inside : (f : Form) (n : ℕ) → venue_header + symbol_bytes f ≤ item_at f n
symbol-inside f n = go f.round f.long
  where
    go : (r l : Bool) → venue_header + symbol_bytes (form r l) ≤ item_at (form r l) n
    go true true = omega arith
    go true false = omega arith
    go false true = omega arith
    go false false = omega arith

pub marks-inside : (f : Form) (n : ℕ) → clear_at f + 3 ≤ item_at f n
marks-inside f n = go f.round f.long
  where
    go : (r l : Bool) → clear_at (form r l) + 3 ≤ item_at (form r l) n
    go true true = omega arith
    go true false = omega arith
    go false true = omega arith
    go false false = omega arith

-- both sides of a round-lot quote; the bid is before the offer
pub sides-inside : (f : Form) (n : ℕ) → f.round ≡ true → side_at f Offer + side_bytes f ≤ item_at f n
sides-inside f n e = rw e (go f.long)
  where
    go : (l : Bool) → side_at (form true l) Offer + side_bytes (form true l) ≤ item_at (form true l) n
    go true = omega arith
    go false = omega arith

-- and what only the long one has
pub own-inside : (f : Form) (n : ℕ) → f.round ≡ true → f.long ≡ true → 81 ≤ item_at f n
own-inside f n e l = rw (e, l) (omega arith)
