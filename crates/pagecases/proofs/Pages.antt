-- T-04's sentence on a page, stop by stop, and T-10's halt at each. Each row is checked by computing.
-- Assumes nothing.
use Prim.Native.Nat.{ℕ, ◌+◌}
use mathlib.Core.Path.{◌≡◌, refl}
use mathlib.Core.List.{List, [], ◌∷◌, ◌++◌}
use lib.ListN.{replicate}
use Rattle.lists.specs.Lists.{member}
use Rattle.field.specs.Field.{be, be_bytes, part, field, splice}
use Rattle.field.specs.Low.{le, le_bytes, low}
use Rattle.ranking.specs.Ranking.{compared_by, lower, higher, by_price, compared, better, why_ahead}
use Rattle.ranking.specs.declared.Side.TheVariants.{Bid}
use Rattle.quote.specs.declared.Level.{Level}
use Rattle.quote.specs.declared.Quote.{Quote}
use Rattle.keys.specs.Keys.{short_of, key_of, level_key, side_key}
use Rattle.quote.specs.Quote.{no_level, admits, counts, candidate_of, level_in, level_bytes, quote_in, quote_bytes}
use Rattle.levels.specs.Levels.{ranked, cells_in, side_in, levels_in, cells_bytes}
use Rattle.entries.specs.Entries.{letters, maker_candidate, finra_best, as_d, letter_candidate, national_best, national_reason, odd_candidate, ranks, letter_levels, odd_best, entries_by, entries_of, unless_halted}
use Rattle.entries.specs.Publication.{no_entry, publication}
use Rattle.page.specs.Page.{agreed, agreed_quote, agreed_side, agreed_levels, with_quote, with_side, quotes_in, levels_for, maker_in, maker_bytes, makers_in, page_entries, halted_in, published_entries}
use Rattle.page.specs.Cut.{none_behind, no_makers, cut}
use Rattle.page.specs.Layout.{page_length, cell_at, status_at}

-- a bid of a price and a size, time 7
abbrev bid : ℕ → ℕ → Quote
bid p z = record { condition = 82; bid = record { price = p; size = z; time = 7 }; offer = no_level }

-- an odd bid of a price and shares
abbrev shares : ℕ → ℕ → List Level
shares p z = record { price = p; size = z; time = 7 } ∷ []

-- A bids 20, D's maker MM 21 with an odd bid of D at 22, N 22 with an odd bid of 23, Z 24; the quotes of 98 in D's slot and of 99 in S's are not read
abbrev page : List ℕ
page =
    splice
    (with_quote 90 (bid 24 4)
    (with_quote 83 (bid 99 9)
    (with_side Bid 78 (shares 23 5)
    (with_quote 78 (bid 22 3)
    (with_side Bid 68 (shares 22 6)
    (with_quote 68 (bid 98 9)
    (with_quote 65 (bid 20 1) (replicate page_length 0))))))))
    (cell_at 3) (maker_bytes (record { name = 1296900128; quote = bid 21 2 }))

-- an entry of a letter under R that is alone, of one that is ahead by price; of maker MM; of a letter's odd lot
abbrev national : ℕ → ℕ → ℕ → ℕ → List ℕ
national reason l p z = l ∷ 82 ∷ reason ∷ 32 ∷ be_bytes 8 p ++ be_bytes 4 z

abbrev alone : ℕ → ℕ → ℕ → List ℕ
alone = national 32

abbrev dearer : ℕ → ℕ → ℕ → List ℕ
dearer = national 80

abbrev maker : ℕ → ℕ → List ℕ
maker p z = 77 ∷ 77 ∷ 32 ∷ 32 ∷ be_bytes 8 p ++ be_bytes 4 z

abbrev odd : ℕ → ℕ → ℕ → List ℕ
odd l p z = l ∷ 32 ∷ 32 ∷ 32 ∷ be_bytes 8 p ++ be_bytes 4 z

-- bids only
abbrev shown : List ℕ → List ℕ → List ℕ → List ℕ
shown n f o = n ++ (no_entry ++ (f ++ (no_entry ++ (o ++ no_entry))))

abbrev stopped : ℕ → List ℕ
stopped l = publication (published_entries (cut l page))

-- T-10: the page with a status
abbrev under : ℕ → ℕ → List ℕ
under status l = publication (published_entries (cut l (splice page status_at (status ∷ []))))

pub record Front : Type 0 where
  -- behind A and behind C: D's makers and its odd lot are not there yet, and A has no second
  pub behind-a : stopped 65 ≡ shown (alone 65 20 1) no_entry no_entry
  pub behind-c : stopped 67 ≡ shown (alone 65 20 1) no_entry no_entry
  -- behind D: its maker leads, and its odd lot is beyond it
  pub behind-d : stopped 68 ≡ shown (dearer 68 21 2) (maker 21 2) (odd 68 22 6)
  -- behind M, before N
  pub behind-m : stopped 77 ≡ shown (dearer 68 21 2) (maker 21 2) (odd 68 22 6)

pub front : Front
unfolding letters maker_candidate finra_best as_d letter_candidate national_best national_reason odd_candidate ranks letter_levels odd_best entries_by entries_of no_entry publication quotes_in levels_for maker_in maker_bytes makers_in page_entries halted_in published_entries unless_halted none_behind no_makers cut member be be_bytes part field splice le le_bytes low compared_by lower higher by_price compared better why_ahead admits counts candidate_of level_in level_bytes quote_in quote_bytes ranked cells_in side_in levels_in agreed agreed_quote agreed_side agreed_levels with_quote with_side short_of key_of level_key side_key cells_bytes
front = record { behind-a = refl; behind-c = refl; behind-d = refl; behind-m = refl }

pub record Back : Type 0 where
  -- behind N: its odd lot is judged against the national bid of the cut page
  pub behind-n : stopped 78 ≡ shown (dearer 78 22 3) (maker 21 2) (odd 78 23 5)
  -- S has nothing
  pub behind-s : stopped 83 ≡ shown (dearer 78 22 3) (maker 21 2) (odd 78 23 5)
  -- Z is the whole page; its bid is beyond N's odd lot
  pub behind-z : stopped 90 ≡ shown (dearer 90 24 4) (maker 21 2) no_entry

pub back : Back
unfolding letters maker_candidate finra_best as_d letter_candidate national_best national_reason odd_candidate ranks letter_levels odd_best entries_by entries_of no_entry publication quotes_in levels_for maker_in maker_bytes makers_in page_entries halted_in published_entries unless_halted none_behind no_makers cut member be be_bytes part field splice le le_bytes low compared_by lower higher by_price compared better why_ahead admits counts candidate_of level_in level_bytes quote_in quote_bytes ranked cells_in side_in levels_in agreed agreed_quote agreed_side agreed_levels with_quote with_side short_of key_of level_key side_key cells_bytes
back = record { behind-n = refl; behind-s = refl; behind-z = refl }

pub record Halted : Type 0 where
  -- halted: none at every cut
  pub halted-a : under 72 65 ≡ shown no_entry no_entry no_entry
  pub halted-d : under 72 68 ≡ shown no_entry no_entry no_entry
  pub halted-z : under 72 90 ≡ shown no_entry no_entry no_entry

pub halted : Halted
unfolding letters maker_candidate finra_best as_d letter_candidate national_best national_reason odd_candidate ranks letter_levels odd_best entries_by entries_of no_entry publication quotes_in levels_for maker_in maker_bytes makers_in page_entries halted_in published_entries unless_halted none_behind no_makers cut member be be_bytes part field splice le le_bytes low compared_by lower higher by_price compared better why_ahead admits counts candidate_of level_in level_bytes quote_in quote_bytes ranked cells_in side_in levels_in agreed agreed_quote agreed_side agreed_levels with_quote with_side short_of key_of level_key side_key cells_bytes
halted = record { halted-a = refl; halted-d = refl; halted-z = refl }

pub record Trading : Type 0 where
  -- every other byte is trading
  pub trading-n : under 84 78 ≡ shown (dearer 78 22 3) (maker 21 2) (odd 78 23 5)
  pub trading-h : under 104 78 ≡ shown (dearer 78 22 3) (maker 21 2) (odd 78 23 5)

pub trading : Trading
unfolding letters maker_candidate finra_best as_d letter_candidate national_best national_reason odd_candidate ranks letter_levels odd_best entries_by entries_of no_entry publication quotes_in levels_for maker_in maker_bytes makers_in page_entries halted_in published_entries unless_halted none_behind no_makers cut member be be_bytes part field splice le le_bytes low compared_by lower higher by_price compared better why_ahead admits counts candidate_of level_in level_bytes quote_in quote_bytes ranked cells_in side_in levels_in agreed agreed_quote agreed_side agreed_levels with_quote with_side short_of key_of level_key side_key cells_bytes
trading = record { trading-n = refl; trading-h = refl }
