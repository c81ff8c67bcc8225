-- Keys: prices in four bytes, of which the higher ranks first on either side. A page has one for each side of each letter's quote and for each letter's
-- best odd lots, side by side, so that all letters are compared at once; 0 is none.
-- Assumes nothing.
use Rattle.std.specs.Prelude.{ℕ, ◌+◌, ◌-◌, cond, ◌==◌, nat_lt}
use Rattle.ranking.specs.declared.Side.{Side}
use Rattle.ranking.specs.declared.Side.TheVariants.{Bid, Offer}
use Rattle.quote.specs.declared.Level.{Level}
use Rattle.quote.specs.declared.Quote.{Quote}
use Rattle.quote.specs.Quote.{admits, side_of}

abbrev pub key_length : ℕ
key_length = 4

-- the highest number of four bytes, for every price that is not below it
abbrev pub full_key : ℕ
full_key = 4294967295

unfoldable pub short_of : ℕ → ℕ
short_of p = cond (nat_lt p full_key) p full_key

-- of bids the price, of offers 2^32 less the price; none is 0
unfoldable pub key_of : Side → ℕ → ℕ
key_of Bid p = short_of p
key_of Offer p = cond (p == 0) 0 (4294967296 - short_of p)

-- 0 without a price or a size
unfoldable pub level_key : Side → Level → ℕ
level_key s l = cond (l.size == 0) 0 (key_of s l.price)

-- and if the condition does not admit the side
unfoldable pub side_key : Side → ℕ → Level → ℕ
side_key s c l = cond (admits s c) (level_key s l) 0

abbrev pub quote_key : Side → Quote → ℕ
quote_key s q = side_key s q.condition (side_of s q)

-- ---- which ranks a key tells

-- the lowest rank of a price with that key
unfoldable pub floor_of : Side → ℕ → ℕ
floor_of Bid t = t
floor_of Offer t = cond (t == 1) 1 (18446744069414584320 + t)

-- the highest key that no price beyond this one has: its own, unless that is of all prices that four bytes can't hold
unfoldable pub bar_of : Side → ℕ → ℕ
bar_of s p = cond (nat_lt p full_key) (key_of s p) (key_of s p - 1)
