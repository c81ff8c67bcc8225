-- Keys, and what a page says where a key is not its side's own. Each row is checked by computing.
-- Assumes nothing.
use Prim.Native.Nat.{ℕ, ◌+◌, ◌*◌, ◌-◌}
use mathlib.Core.Path.{◌≡◌, refl}
use mathlib.Core.List.{List, [], ◌∷◌}
use lib.ListN.{replicate}
use Rattle.lists.specs.Lists.{member}
use Rattle.field.specs.Field.{be, be_bytes, part, field, splice}
use Rattle.field.specs.Low.{le, le_bytes, low}
use Rattle.ranking.specs.declared.Side.TheVariants.{Bid, Offer}
use Rattle.quote.specs.declared.Level.{Level}
use Rattle.quote.specs.declared.Quote.{Quote}
use Rattle.quote.specs.Quote.{no_level, admits, level_in, level_bytes, quote_in, quote_bytes}
use Rattle.keys.specs.Keys.{short_of, key_of, level_key, side_key, quote_key, bar_of}
use Rattle.levels.specs.Levels.{ranked, cells_in, side_in, levels_in, cells_bytes}
use Rattle.page.specs.Layout.{page_length, quote_key_at, first_key_at}
use Rattle.page.specs.Page.{agreed, agreed_quote, agreed_side, agreed_levels, with_key, with_quote, with_side, quotes_in, levels_for}

abbrev level : ℕ → ℕ → Level
level p z = record { price = p; size = z; time = 7 }

abbrev quote : ℕ → Quote
quote c = record { condition = c; bid = level 20 3; offer = level 24 2 }

pub record Values : Type 0 where
  -- of bids the price, of offers 2^32 less the price; none is 0
  pub bid : key_of Bid 10000000 ≡ 10000000
  pub offer : key_of Offer 10000000 ≡ 4284967296
  pub no-bid : key_of Bid 0 ≡ 0
  pub no-offer : key_of Offer 0 ≡ 0
  -- prices that four bytes can't hold share a key
  pub last-bid : key_of Bid 4294967294 ≡ 4294967294
  pub full-bid : key_of Bid 4294967295 ≡ 4294967295
  pub wide-bid : key_of Bid 18446744073709551615 ≡ 4294967295
  pub last-offer : key_of Offer 4294967294 ≡ 2
  pub full-offer : key_of Offer 4294967295 ≡ 1
  pub wide-offer : key_of Offer 18446744073709551615 ≡ 1
  -- no key without a size, nor under a condition that does not admit the side
  pub sized : level_key Bid (level 20 3) ≡ 20
  pub sizeless : level_key Bid (level 20 0) ≡ 0
  pub admitted : quote_key Bid (quote 82) ≡ 20
  pub closed : quote_key Bid (quote 67) ≡ 0
  pub bid-of-e : quote_key Bid (quote 69) ≡ 0
  pub offer-of-e : quote_key Offer (quote 69) ≡ 4294967272
  -- what no price beyond this one has: beyond a full key there are prices of that key
  pub bar : bar_of Bid 20 ≡ 20
  pub bar-none : bar_of Offer 0 ≡ 0
  pub bar-full-bid : bar_of Bid 4294967295 ≡ 4294967294
  pub bar-full-offer : bar_of Offer 4294967295 ≡ 0

pub values : Values
unfolding short_of key_of level_key side_key bar_of admits member
values =
    record {
      bid = refl;
      offer = refl;
      no-bid = refl;
      no-offer = refl;
      last-bid = refl;
      full-bid = refl;
      wide-bid = refl;
      last-offer = refl;
      full-offer = refl;
      wide-offer = refl;
      sized = refl;
      sizeless = refl;
      admitted = refl;
      closed = refl;
      bid-of-e = refl;
      offer-of-e = refl;
      bar = refl;
      bar-none = refl;
      bar-full-bid = refl;
      bar-full-offer = refl;
    }

-- N's quote under a condition
abbrev page : ℕ → List ℕ
page c = with_quote 78 (quote c) (replicate page_length 0)

-- two odd bids of N
abbrev odds : List ℕ
odds = with_side Bid 78 (level 23 5 ∷ level 22 6 ∷ []) (replicate page_length 0)

pub record Sides : Type 0 where
  -- what is written is read
  pub own : quotes_in (page 82) 78 ≡ quote 82
  -- of a side that does not count too
  pub closed-own : quotes_in (page 67) 78 ≡ quote 67
  -- a side with another key has no quote; the condition and the other side stay
  pub bid-lost : quotes_in (with_key (quote_key_at Bid 78) 21 (page 82)) 78 ≡ record { condition = 82; bid = no_level; offer = level 24 2 }
  pub offer-lost : quotes_in (with_key (quote_key_at Offer 78) 24 (page 82)) 78 ≡ record { condition = 82; bid = level 20 3; offer = no_level }
  pub closed-lost : quotes_in (with_key (quote_key_at Bid 78) 20 (page 67)) 78 ≡ record { condition = 67; bid = no_level; offer = level 24 2 }
  -- another letter's key is not asked
  pub beside : quotes_in (with_key (quote_key_at Bid 79) 21 (page 82)) 78 ≡ quote 82

pub sides : Sides
unfolding agreed agreed_quote with_quote quotes_in short_of key_of level_key side_key admits member be be_bytes part field splice le le_bytes low level_in level_bytes quote_in quote_bytes
sides = record { own = refl; closed-own = refl; bid-lost = refl; offer-lost = refl; closed-lost = refl; beside = refl }

pub record Odds : Type 0 where
  pub own : levels_for odds 78 ≡ record { bids = level 23 5 ∷ level 22 6 ∷ []; offers = [] }
  -- the key is that of the first
  pub second : levels_for (with_key (first_key_at Bid 78) 22 odds) 78 ≡ record { bids = []; offers = [] }
  -- no levels, whatever their key
  pub none : levels_for (with_key (first_key_at Offer 78) 9 odds) 78 ≡ record { bids = level 23 5 ∷ level 22 6 ∷ []; offers = [] }

pub odd_lots : Odds
unfolding agreed_side agreed_levels with_side levels_for short_of key_of level_key part splice le le_bytes low level_in level_bytes ranked cells_in side_in levels_in cells_bytes
odd_lots = record { own = refl; second = refl; none = refl }
