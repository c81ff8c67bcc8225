-- T-13 on small lists of candidates, on all letters and on a page. Each row is checked by computing.
-- Assumes nothing.
use Prim.Native.Nat.{ℕ, ◌+◌, ◌-◌, ◌%◌}
use mathlib.Core.Path.{◌≡◌, refl}
use mathlib.Core.Bool.{cond}
use mathlib.Core.List.{List, [], ◌∷◌, map}
use Rattle.std.specs.Prelude.{Option, None, Some}
use lib.Dec.{eqb}
use lib.ListN.{replicate}
use Rattle.lists.specs.Lists.{member}
use Rattle.field.specs.Field.{be, be_bytes, part, field, splice}
use Rattle.field.specs.Ascii.{H, T}
use Rattle.field.specs.Low.{le, le_bytes, low}
use Rattle.ranking.specs.declared.Side.{Side}
use Rattle.ranking.specs.declared.Side.TheVariants.{Bid, Offer}
use Rattle.ranking.specs.declared.Candidate.{Candidate}
use Rattle.ranking.specs.Ranking.{compared_by, lower, higher, by_price, compared, better}
use Rattle.quote.specs.declared.Quote.{Quote}
use Rattle.quote.specs.Quote.{admits, counts, candidate_of, level_in, level_bytes, quote_in, quote_bytes}
use Rattle.keys.specs.Keys.{short_of, key_of, level_key, side_key}
use Rattle.entries.specs.Entries.{letters, maker_candidate, finra_best, as_d, letter_candidate, candidates, trading_candidates}
use Rattle.page.specs.Page.{agreed, agreed_quote, with_quote, quotes_in, maker_in, maker_bytes, makers_in, halted_in}
use Rattle.page.specs.Layout.{page_length, cell_at, status_at}
use Rattle.protection.specs.Protection.{page_candidates, page_trading}
use Rattle.sweep.specs.Sweep.{Step, without, play, swept, filled, step_bytes, steps_bytes}
use Rattle.sweep.specs.Division.{worth, total, worth_of, steps_in}

abbrev step : ℕ → ℕ → ℕ → Step
step l p n = record { letter = l; price = p; lots = n }

abbrev candidate : ℕ → ℕ → ℕ → ℕ → Candidate
candidate name price size time = record { name = name; price = price; size = size; time = time; condition = 82 }

-- A 10.00 x 3, B 10.00 x 5, C 10.01 x 4
abbrev three : List Candidate
three = candidate 65 10000000 3 7 ∷ candidate 66 10000000 5 9 ∷ candidate 67 10010000 4 1 ∷ []

-- every letter but S, one lot each: two letters at each price, the later letter first by its time
abbrev all : ℕ → Option Candidate
all l = cond (eqb l 83) None (Some (candidate l (100 + (l + 1) % 2) 1 (200 - l)))

-- ---- a page: A has 20 and 40, D's makers 21 and 39 for 2 and 3 lots and, under L, 30 and 30; N has 21 and 38 for 5, Z 21 and 38 for 4; D's slot and S's
-- have 99 and 1 and are not read; C's condition admits neither side. The page keeps entries of nobody: zeros

abbrev quoted : ℕ → ℕ → ℕ → ℕ → Quote
quoted c b o lots = record { condition = c; bid = record { price = b; size = lots; time = 7 }; offer = record { price = o; size = lots; time = 7 } }

abbrev page : List ℕ
page =
    splice
    (splice
    (splice
    (with_quote 90 (quoted 82 21 38 4)
    (with_quote 83 (quoted 82 99 1 1)
    (with_quote 78 (quoted 82 21 38 5)
    (with_quote 68 (quoted 82 99 1 1)
    (with_quote 67 (quoted 67 30 30 1)
    (with_quote 65 (quoted 82 20 40 1) (replicate page_length 0)))))))
    (cell_at 3) (maker_bytes (record { name = 1296900128; quote = quoted 76 30 30 9 })))
    (cell_at 7) (maker_bytes (record { name = 1296900130; quote = quoted 82 21 39 3 })))
    (cell_at 15) (maker_bytes (record { name = 1296900129; quote = quoted 82 21 39 2 }))

abbrev tried : Side → ℕ → List Step
tried s w = swept s w (page_candidates page s)

-- T-10: the page halted; another status is trading, as a page without one is
abbrev halted : ℕ → Side → ℕ → List Step
halted status s w = swept s w (page_trading (splice page status_at (status ∷ [])) s)

pub record Lists : Type 0 where
  -- ten to buy: B before A by its size, then two of C; ten to sell: C first
  pub bought : play Offer 25 10 three ≡ step 66 10000000 5 ∷ step 65 10000000 3 ∷ step 67 10010000 2 ∷ []
  pub sold : play Bid 25 10 three ≡ step 67 10010000 4 ∷ step 66 10000000 5 ∷ step 65 10000000 1 ∷ []
  -- fifteen to buy: all twelve, three not found; what the first step fills needs no second
  pub short : filled (play Offer 25 15 three) ≡ 12
  pub one : play Offer 25 5 three ≡ step 66 10000000 5 ∷ []
  -- what they cost, and what the candidates show
  pub cost : worth (play Offer 25 10 three) ≡ 100020000
  pub most : total (λ c. c.size) three ≡ 12
  pub other : worth_of (λ c. cond (eqb c.name 65) 2 4) three ≡ 100040000

pub lists : Lists
unfolding letters maker_candidate finra_best as_d letter_candidate quotes_in maker_in maker_bytes makers_in member be be_bytes part field splice le le_bytes low compared_by lower higher by_price compared better admits counts candidate_of level_in level_bytes quote_in quote_bytes candidates page_candidates halted_in trading_candidates without play swept filled step_bytes steps_bytes worth total steps_in agreed agreed_quote with_quote short_of key_of level_key side_key
lists = record { bought = refl; sold = refl; short = refl; one = refl; cost = refl; most = refl; other = refl }

pub record Letters : Type 0 where
  -- 25 letters
  pub steps-25 : map (λ x. x.letter) (swept Offer 1000000 all)
      ≡ 89 ∷ 87 ∷ 85 ∷ 81 ∷ 79 ∷ 77 ∷ 75 ∷ 73 ∷ 71 ∷ 69 ∷ 67 ∷ 65 ∷ 90 ∷ 88 ∷ 86 ∷ 84 ∷ 82 ∷ 80 ∷ 78 ∷ 76 ∷ 74 ∷ 72 ∷ 70 ∷ 68 ∷ 66 ∷ []
  pub filled-25 : filled (swept Bid 1000000 all) ≡ 25

pub lettered : Letters
unfolding letters maker_candidate finra_best as_d letter_candidate quotes_in maker_in maker_bytes makers_in member be be_bytes part field splice le le_bytes low compared_by lower higher by_price compared better admits counts candidate_of level_in level_bytes quote_in quote_bytes candidates page_candidates halted_in trading_candidates without play swept filled step_bytes steps_bytes worth total steps_in agreed agreed_quote with_quote short_of key_of level_key side_key
lettered = record { steps-25 = refl; filled-25 = refl }

pub record Sold : Type 0 where
  -- the page, and its steps' bytes
  pub page-sold : tried Bid 20 ≡ step 78 21 5 ∷ step 90 21 4 ∷ step 68 21 3 ∷ step 65 20 1 ∷ []

pub solds : Sold
unfolding letters maker_candidate finra_best as_d letter_candidate quotes_in maker_in maker_bytes makers_in member be be_bytes part field splice le le_bytes low compared_by lower higher by_price compared better admits counts candidate_of level_in level_bytes quote_in quote_bytes candidates page_candidates halted_in trading_candidates without play swept filled step_bytes steps_bytes worth total steps_in agreed agreed_quote with_quote short_of key_of level_key side_key
solds = record { page-sold = refl }

pub record Bought : Type 0 where
  pub page-bought : tried Offer 10 ≡ step 78 38 5 ∷ step 90 38 4 ∷ step 68 39 1 ∷ []

pub boughts : Bought
unfolding letters maker_candidate finra_best as_d letter_candidate quotes_in maker_in maker_bytes makers_in member be be_bytes part field splice le le_bytes low compared_by lower higher by_price compared better admits counts candidate_of level_in level_bytes quote_in quote_bytes candidates page_candidates halted_in trading_candidates without play swept filled step_bytes steps_bytes worth total steps_in agreed agreed_quote with_quote short_of key_of level_key side_key
boughts = record { page-bought = refl }

pub record Bytes : Type 0 where
  pub page-bytes : steps_bytes (tried Offer 6) ≡ 78 ∷ 0 ∷ 0 ∷ 0 ∷ 0 ∷ 0 ∷ 0 ∷ 0 ∷ 38 ∷ 0 ∷ 0 ∷ 0 ∷ 5 ∷ 90 ∷ 0 ∷ 0 ∷ 0 ∷ 0 ∷ 0 ∷ 0 ∷ 0 ∷ 38 ∷ 0 ∷ 0 ∷ 0 ∷ 1 ∷ []
  pub wide : step_bytes (step 65 72623859790382856 16909060) ≡ 65 ∷ 1 ∷ 2 ∷ 3 ∷ 4 ∷ 5 ∷ 6 ∷ 7 ∷ 8 ∷ 1 ∷ 2 ∷ 3 ∷ 4 ∷ []
  pub back : steps_in 2 (steps_bytes (tried Offer 6)) ≡ step 78 38 5 ∷ step 90 38 1 ∷ []

pub bytes : Bytes
unfolding letters maker_candidate finra_best as_d letter_candidate quotes_in maker_in maker_bytes makers_in member be be_bytes part field splice le le_bytes low compared_by lower higher by_price compared better admits counts candidate_of level_in level_bytes quote_in quote_bytes candidates page_candidates halted_in trading_candidates without play swept filled step_bytes steps_bytes worth total steps_in agreed agreed_quote with_quote short_of key_of level_key side_key
bytes = record { page-bytes = refl; wide = refl; back = refl }

pub record Halted : Type 0 where
  pub halted-sold : halted H Bid 20 ≡ []
  pub halted-bought : halted H Offer 10 ≡ []

pub halts : Halted
unfolding letters maker_candidate finra_best as_d letter_candidate quotes_in maker_in maker_bytes makers_in member be be_bytes part field splice le le_bytes low compared_by lower higher by_price compared better admits counts candidate_of level_in level_bytes quote_in quote_bytes candidates page_candidates halted_in trading_candidates without play swept filled step_bytes steps_bytes worth total steps_in agreed agreed_quote with_quote short_of key_of level_key side_key
halts = record { halted-sold = refl; halted-bought = refl }

pub record Trading : Type 0 where
  pub trading-sold : halted T Bid 3 ≡ step 78 21 3 ∷ []
  pub any-sold : halted 104 Bid 3 ≡ step 78 21 3 ∷ []

pub trading : Trading
unfolding letters maker_candidate finra_best as_d letter_candidate quotes_in maker_in maker_bytes makers_in member be be_bytes part field splice le le_bytes low compared_by lower higher by_price compared better admits counts candidate_of level_in level_bytes quote_in quote_bytes candidates page_candidates halted_in trading_candidates without play swept filled step_bytes steps_bytes worth total steps_in agreed agreed_quote with_quote short_of key_of level_key side_key
trading = record { trading-sold = refl; any-sold = refl }
