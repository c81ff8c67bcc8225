-- T-06's search on a page, letter by letter. Each row is checked by computing.
-- Assumes nothing.
use Prim.Native.Nat.{ℕ}
use mathlib.Core.Path.{◌≡◌, refl}
use mathlib.Core.Bool.{true, false}
use mathlib.Core.List.{List, [], ◌∷◌}
use lib.ListN.{replicate}
use Rattle.lists.specs.Lists.{member, first_from}
use Rattle.field.specs.Field.{be, be_bytes, part, field, splice}
use Rattle.field.specs.Low.{le, le_bytes, low}
use Rattle.ranking.specs.declared.Side.{Side}
use Rattle.ranking.specs.declared.Side.TheVariants.{Bid, Offer}
use Rattle.ranking.specs.Ranking.{compared_by, lower, higher, by_price, compared, better}
use Rattle.quote.specs.declared.Quote.{Quote}
use Rattle.quote.specs.Quote.{admits, counts, candidate_of, level_in, level_bytes, quote_in, quote_bytes}
use Rattle.keys.specs.Keys.{key_length, short_of, key_of, level_key, side_key}
use Rattle.entries.specs.Entries.{letters, maker_candidate, finra_best, as_d, letter_candidate, candidates, trading_candidates}
use Rattle.page.specs.Page.{agreed, agreed_quote, with_quote, quotes_in, maker_in, maker_bytes, makers_in, halted_in}
use Rattle.page.specs.Layout.{page_length, cell_at, status_at, quote_key_at}
use Rattle.field.specs.Ascii.{H, T}
use Rattle.protection.specs.declared.Protection.{Protection}
use Rattle.protection.specs.Protection.{first_yes, protection, page_candidates, page_trading}

-- a bid and an offer, one lot each, time 7
abbrev quoted : ℕ → ℕ → ℕ → Quote
quoted c b o = record { condition = c; bid = record { price = b; size = 1; time = 7 }; offer = record { price = o; size = 1; time = 7 } }

-- A has 20 and 40, D's makers 21 and 39 and, under L, 30 and 30; N has 22 and 38, Z 24 and 36; D's slot and S's have 99 and 1 and are not read;
-- C's condition admits neither side. The page keeps entries of nobody: zeros
abbrev page : List ℕ
page =
    splice
    (splice
    (with_quote 90 (quoted 82 24 36)
    (with_quote 83 (quoted 82 99 1)
    (with_quote 78 (quoted 82 22 38)
    (with_quote 68 (quoted 82 99 1)
    (with_quote 67 (quoted 67 30 30)
    (with_quote 65 (quoted 82 20 40) (replicate page_length 0)))))))
    (cell_at 3) (maker_bytes (record { name = 1296900128; quote = quoted 76 30 30 })))
    (cell_at 15) (maker_bytes (record { name = 1296900129; quote = quoted 82 21 39 }))

abbrev asked : Side → ℕ → Protection
asked s x = protection s x (page_candidates page s)

abbrev yes : ℕ → Protection
yes looked = record { yes = true; looked = looked }

abbrev no : Protection
no = record { yes = false; looked = 26 }

-- T-10: the page halted; another status is trading, as a page without one is
abbrev halted : ℕ → Side → ℕ → Protection
halted status s x = protection s x (page_trading (splice page status_at (status ∷ [])) s)

pub record Bids : Type 0 where
  pub bid-0 : asked Bid 0 ≡ yes 1
  pub bid-20 : asked Bid 20 ≡ yes 1
  pub bid-21 : asked Bid 21 ≡ yes 4
  pub bid-22 : asked Bid 22 ≡ yes 14
  pub bid-23 : asked Bid 23 ≡ yes 26
  pub bid-24 : asked Bid 24 ≡ yes 26
  pub bid-25 : asked Bid 25 ≡ no

pub bids : Bids
unfolding letters maker_candidate finra_best as_d letter_candidate quotes_in maker_in maker_bytes makers_in member first_from be be_bytes part field splice le le_bytes low compared_by lower higher by_price compared better admits counts candidate_of level_in level_bytes quote_in quote_bytes candidates first_yes protection page_candidates halted_in trading_candidates agreed agreed_quote with_quote short_of key_of level_key side_key
bids = record { bid-0 = refl; bid-20 = refl; bid-21 = refl; bid-22 = refl; bid-23 = refl; bid-24 = refl; bid-25 = refl }

pub record Offers : Type 0 where
  pub offer-0 : asked Offer 0 ≡ no
  pub offer-35 : asked Offer 35 ≡ no
  pub offer-36 : asked Offer 36 ≡ yes 26
  pub offer-38 : asked Offer 38 ≡ yes 14
  pub offer-39 : asked Offer 39 ≡ yes 4
  pub offer-40 : asked Offer 40 ≡ yes 1

pub offers : Offers
unfolding letters maker_candidate finra_best as_d letter_candidate quotes_in maker_in maker_bytes makers_in member first_from be be_bytes part field splice le le_bytes low compared_by lower higher by_price compared better admits counts candidate_of level_in level_bytes quote_in quote_bytes candidates first_yes protection page_candidates halted_in trading_candidates agreed agreed_quote with_quote short_of key_of level_key side_key
offers = record { offer-0 = refl; offer-35 = refl; offer-36 = refl; offer-38 = refl; offer-39 = refl; offer-40 = refl }

pub record Halted : Type 0 where
  pub halted-bid : halted H Bid 0 ≡ no
  pub halted-offer : halted H Offer 40 ≡ no

pub halts : Halted
unfolding letters maker_candidate finra_best as_d letter_candidate quotes_in maker_in maker_bytes makers_in member first_from be be_bytes part field splice le le_bytes low compared_by lower higher by_price compared better admits counts candidate_of level_in level_bytes quote_in quote_bytes candidates first_yes protection page_candidates halted_in trading_candidates agreed agreed_quote with_quote short_of key_of level_key side_key
halts = record { halted-bid = refl; halted-offer = refl }

pub record Trading : Type 0 where
  pub trading-bid : halted T Bid 21 ≡ yes 4
  pub any-bid : halted 104 Bid 21 ≡ yes 4

pub trading : Trading
unfolding letters maker_candidate finra_best as_d letter_candidate quotes_in maker_in maker_bytes makers_in member first_from be be_bytes part field splice le le_bytes low compared_by lower higher by_price compared better admits counts candidate_of level_in level_bytes quote_in quote_bytes candidates first_yes protection page_candidates halted_in trading_candidates agreed agreed_quote with_quote short_of key_of level_key side_key
trading = record { trading-bid = refl; any-bid = refl }

-- a side whose key is another's has no quote; the other side of that letter stands
abbrev stray : Side → ℕ → Protection
stray s x = protection s x (page_candidates (splice page (quote_key_at Bid 90) (le_bytes key_length 25)) s)

pub record Stray : Type 0 where
  pub stray-bid : stray Bid 24 ≡ no
  pub stray-offer : stray Offer 36 ≡ yes 26

pub strays : Stray
unfolding letters maker_candidate finra_best as_d letter_candidate quotes_in maker_in maker_bytes makers_in member first_from be be_bytes part field splice le le_bytes low compared_by lower higher by_price compared better admits counts candidate_of level_in level_bytes quote_in quote_bytes candidates first_yes protection page_candidates halted_in trading_candidates agreed agreed_quote with_quote short_of key_of level_key side_key
strays = record { stray-bid = refl; stray-offer = refl }
