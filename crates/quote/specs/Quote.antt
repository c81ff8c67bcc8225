-- Quotes: which sides count, the times of a resent quote, and their bytes (document 01, "Messages"; document 02, T-02).
-- Assumes nothing.
use Rattle.std.specs.Prelude.{ℕ, ◌+◌, ◌^◌, ◌<◌, Bool, true, false, not, ◌&&◌, cond, List, [], ◌∷◌, ◌++◌, eqb, leb, ltb, Option, None, Some}
use Rattle.field.specs.Field.{part, field, be_bytes}
use Rattle.field.specs.Low.{low, le_bytes}
use Rattle.field.specs.Ascii.{A, B, E, F, H, O, R, W}
use Rattle.lists.specs.Lists.{member}
use Rattle.ranking.specs.declared.Side.{Side}
use Rattle.ranking.specs.declared.Side.TheVariants.{Bid, Offer}
use Rattle.ranking.specs.declared.Candidate.{Candidate}
use Rattle.quote.specs.declared.Level.{Level}
use Rattle.quote.specs.declared.Quote.{Quote}

abbrev pub no_level : Level
no_level = record { price = 0; size = 0; time = 0 }

-- the condition of no quote, which Start of Day leaves
abbrev pub no_condition : ℕ
no_condition = 0

-- no quote: no condition, and so neither side counts
abbrev pub no_quote : Quote
no_quote = record { condition = no_condition; bid = no_level; offer = no_level }

-- "a round quote since Start of Day" (document 02, T-07), by its condition: any byte but that of no quote, in the table below or not
abbrev pub is_quoted : ℕ → Bool
is_quoted c = not (eqb c no_condition)

abbrev pub side_of : Side → Quote → Level
side_of Bid q = q.bid
side_of Offer q = q.offer

abbrev pub is_bid : Side → Bool
is_bid Bid = true
is_bid Offer = false

-- "A, B, H, O, R, W admit both sides, E the offer, F the bid, C, L, N, U neither"; no other byte admits a side
unfoldable pub admits : Side → ℕ → Bool
admits s c = cond (member (A ∷ B ∷ H ∷ O ∷ R ∷ W ∷ []) c) true (cond (eqb c E) (not (is_bid s)) (cond (eqb c F) (is_bid s) false))

-- "A side counts if price and size are above zero and the condition admits it"
unfoldable pub counts : Side → Quote → Bool
counts s q = ltb 0 (side_of s q).price && ltb 0 (side_of s q).size && admits s q.condition

abbrev pub empty_side : Level → Bool
empty_side l = eqb l.price 0 && eqb l.size 0

-- "both sides 0 and 0"
unfoldable pub empty_quote : Quote → Bool
empty_quote q = empty_side q.bid && empty_side q.offer

-- the quote under another condition
unfoldable pub with_condition : ℕ → Quote → Quote
with_condition c q = record { condition = c; bid = q.bid; offer = q.offer }

-- ---- the times of a quote's sides (document 02, T-02): "The two sides of letters and makers so have a time each"

abbrev pub with_time : ℕ → Level → Level
with_time t l = record { price = l.price; size = l.size; time = t }

-- the quote with a time for each side
unfoldable pub with_times : (Side → ℕ) → Quote → Quote
with_times t q = record { condition = q.condition; bid = with_time (t Bid) q.bid; offer = with_time (t Offer) q.offer }

-- "a round-lot side keeps the time it had if the new quote has the same price and a size no larger"; else it takes the new quote's
unfoldable pub time_kept : Level → Level → ℕ
time_kept standing new = cond (eqb new.price standing.price && leb new.size standing.size) standing.time new.time

-- a quote over the one that stands: each side by itself; "The condition plays no part"
unfoldable pub quote_over : Quote → Quote → Quote
quote_over standing new = with_times (λ s. time_kept (side_of s standing) (side_of s new)) new

-- ---- candidates

abbrev pub level_candidate : ℕ → ℕ → Level → Candidate
level_candidate name condition l = record { name = name; price = l.price; size = l.size; time = l.time; condition = condition }

-- the candidate that a quote is under a name, if that side counts
unfoldable pub candidate_of : Side → ℕ → Quote → Option Candidate
candidate_of s n q = cond (counts s q) (Some (level_candidate n q.condition (side_of s q))) None

-- ---- bytes: a level is price 8, size 4, time 8, their lowest byte first; a quote is condition 1, bid, offer

abbrev pub level_length : ℕ
level_length = 20

abbrev pub bid_at : ℕ
bid_at = 1

abbrev pub offer_at : ℕ
offer_at = bid_at + level_length

abbrev pub quote_length : ℕ
quote_length = offer_at + level_length

unfoldable pub level_in : List ℕ → Level
level_in b = record { price = low b 0 8; size = low b 8 4; time = low b 12 8 }

unfoldable pub level_bytes : Level → List ℕ
level_bytes l = le_bytes 8 l.price ++ le_bytes 4 l.size ++ le_bytes 8 l.time

unfoldable pub quote_in : List ℕ → Quote
quote_in b = record { condition = field b 0 1; bid = level_in (part b bid_at level_length); offer = level_in (part b offer_at level_length) }

unfoldable pub quote_bytes : Quote → List ℕ
quote_bytes q = be_bytes 1 q.condition ++ level_bytes q.bid ++ level_bytes q.offer

-- each number fits its bytes
pub record LevelFits (l : Level) : Type 0 where
  pub price : l.price < 256 ^ 8
  pub size : l.size < 256 ^ 4
  pub time : l.time < 256 ^ 8

pub record QuoteFits (q : Quote) : Type 0 where
  pub condition : q.condition < 256 ^ 1
  pub bid : LevelFits q.bid
  pub offer : LevelFits q.offer
