-- T-07 on a page's bytes: the condition byte of a slot tells whether its letter has a round quote since Start of Day, and the walk may be stopped behind
-- any letter. Each row is checked by computing.
-- Assumes nothing.
use Prim.Native.Nat.{ℕ, ◌+◌}
use mathlib.Core.Path.{◌≡◌, refl}
use mathlib.Core.List.{List, [], ◌∷◌}
use lib.ListN.{replicate}
use Rattle.lists.specs.Lists.{at, member}
use Rattle.field.specs.Field.{be, be_bytes, part, field, splice}
use Rattle.field.specs.Low.{le, le_bytes, low}
use Rattle.ranking.specs.declared.Side.TheVariants.{Bid}
use Rattle.ranking.specs.Ranking.{compared_by, lower, higher, by_price, compared, better}
use Rattle.quote.specs.declared.Level.{Level}
use Rattle.quote.specs.declared.Quote.{Quote}
use Rattle.keys.specs.Keys.{short_of, key_of, level_key, side_key}
use Rattle.quote.specs.Quote.{no_level, admits, counts, candidate_of, level_in, level_bytes, quote_in, quote_bytes}
use Rattle.levels.specs.Levels.{side_levels, ranked, cells_in, side_in, levels_in, cells_bytes}
use Rattle.entries.specs.Entries.{letters, maker_candidate, finra_best, as_d, letter_candidate, national_best, odd_candidate, ranks, letter_levels, odd_best, entries_by, entries_of}
use Rattle.entries.specs.Publication.{no_entry, entry_bytes, odd_name}
use Rattle.page.specs.Page.{agreed, agreed_quote, agreed_side, agreed_levels, with_quote, with_side, quotes_in, levels_for, maker_in, maker_bytes, makers_in, page_entries}
use Rattle.page.specs.Cut.{none_behind, no_makers, cut}
use Rattle.page.specs.Layout.{page_length, cell_at}

-- a bid of 20 for one lot under a condition
abbrev bid : ℕ → Quote
bid c = record { condition = c; bid = record { price = 20; size = 1; time = 7 }; offer = no_level }

-- an odd bid of five shares at this price
abbrev shares : ℕ → List Level
shares p = record { price = p; size = 5; time = 7 } ∷ []

-- N's odd bid of 23 beside N's quote under a condition; D's of 24; then MM's quote under a condition
abbrev of_n : ℕ → List ℕ
of_n c = with_side Bid 78 (shares 23) (with_quote 78 (bid c) (replicate page_length 0))

abbrev with_d : ℕ → List ℕ
with_d c = with_side Bid 68 (shares 24) (of_n c)

abbrev with_maker : ℕ → List ℕ → List ℕ
with_maker c p = splice p (cell_at 3) (maker_bytes (record { name = 1296900128; quote = bid c }))

-- whose odd bid is published; a space is none
abbrev whose : List ℕ → ℕ
whose p = at (entry_bytes odd_name ((page_entries p).odd Bid)) 0

pub record Closed : Type 0 where
  -- the byte that Start of Day writes is no quote, another byte outside the table is one
  pub no-quote : whose (of_n 0) ≡ 78
  pub other_byte : whose (of_n 255) ≡ 32
  pub admitted : whose (of_n 82) ≡ 78
  pub hidden : whose (of_n 69) ≡ 32
  -- D by its FINRA best; stopped before D, D with its makers holds nothing; N is behind M
  pub d-alone : whose (with_d 82) ≡ 78
  pub d-stands : whose (with_maker 82 (with_d 82)) ≡ 68
  pub d-closed : whose (with_maker 76 (with_d 67)) ≡ 32
  pub before-d : whose (cut 67 (with_maker 82 (with_d 82))) ≡ 32
  pub behind-d : whose (cut 68 (with_maker 82 (with_d 82))) ≡ 68
  pub before-n : whose (cut 77 (with_d 82)) ≡ 32
  -- and D's levels are cut off with its makers
  pub d-cut : side_levels Bid (levels_for (cut 67 (with_d 82)) 68) ≡ []

pub closed : Closed
unfolding letters maker_candidate finra_best as_d letter_candidate national_best odd_candidate ranks letter_levels odd_best entries_by entries_of no_entry quotes_in levels_for maker_in maker_bytes makers_in page_entries none_behind no_makers cut member be be_bytes part field splice le le_bytes low compared_by lower higher by_price compared better admits counts candidate_of level_in level_bytes quote_in quote_bytes ranked cells_in side_in levels_in agreed agreed_quote agreed_side agreed_levels with_quote with_side short_of key_of level_key side_key cells_bytes
closed =
    record {
      no-quote = refl;
      other_byte = refl;
      admitted = refl;
      hidden = refl;
      d-alone = refl;
      d-stands = refl;
      d-closed = refl;
      before-d = refl;
      behind-d = refl;
      before-n = refl;
      d-cut = refl;
    }
