-- Odd lots of a closed venue (document 02, T-07), by computing: whose odd bid and odd offer is the best.
-- Assumes nothing.
use Prim.Native.Nat.{ℕ}
use mathlib.Core.Path.{◌≡◌, refl}
use mathlib.Core.Bool.{cond}
use mathlib.Core.List.{List, [], ◌∷◌, map}
use Rattle.std.specs.Prelude.{Option, None, Some}
use lib.Dec.{eqb}
use Rattle.lists.specs.Lists.{member}
use Rattle.ranking.specs.declared.Side.TheVariants.{Bid, Offer}
use Rattle.ranking.specs.declared.Candidate.{Candidate}
use Rattle.ranking.specs.Ranking.{compared_by, lower, higher, by_price, compared, better}
use Rattle.quote.specs.declared.Level.{Level}
use Rattle.quote.specs.declared.Quote.{Quote}
use Rattle.quote.specs.Quote.{no_level, no_quote, admits, counts, candidate_of}
use Rattle.levels.specs.Levels.{Standing, no_levels}
use Rattle.entries.specs.Entries.{Maker, Entries, letters, maker_candidate, finra_best, as_d, letter_candidate, national_best, odd_candidate, ranks, letter_levels, odd_best, entries_by, entries_of}

-- so many lots or shares at a price, time 7
abbrev for : ℕ → ℕ → Level
for size price = record { price = price; size = size; time = 7 }

abbrev quote : ℕ → Level → Level → Quote
quote c b o = record { condition = c; bid = b; offer = o }

-- a quote of N's, and no other letter's; one of D's beside it
abbrev of_n : Quote → ℕ → Quote
of_n q l = cond (eqb l 78) q no_quote

abbrev of_d : Quote → (ℕ → Quote) → ℕ → Quote
of_d q quotes l = cond (eqb l 68) q (quotes l)

-- an odd bid at 23 and an odd offer at 25: of N for five shares, of D for six
abbrev in_n : ℕ → Standing
in_n l = cond (eqb l 78) (record { bids = for 5 23 ∷ []; offers = for 5 25 ∷ [] }) no_levels

abbrev in_d : ℕ → Standing
in_d l = cond (eqb l 68) (record { bids = for 6 23 ∷ []; offers = for 6 25 ∷ [] }) no_levels

abbrev in_both : ℕ → Standing
in_both l = cond (eqb l 68) (in_d l) (in_n l)

-- maker MM; one that bids 21 and offers 27
abbrev mm : Quote → List Maker
mm q = record { name = 1296900128; quote = q } ∷ []

abbrev stands : List Maker
stands = mm (quote 82 (for 2 21) (for 2 27))

-- whose odd lots are the best, of the bids and of the offers; 0 is none
abbrev name_of : Option Candidate → ℕ
name_of None = 0
name_of (Some c) = c.name

abbrev whose : Entries → List ℕ
whose e = name_of (e.odd Bid) ∷ name_of (e.odd Offer) ∷ []

abbrev both : ℕ → List ℕ
both l = l ∷ l ∷ []

abbrev neither : List ℕ
neither = 0 ∷ 0 ∷ []

-- N's odd lots beside N's quote, 0 and 0 under a condition, and beside any quote of N's
abbrev under : ℕ → List ℕ
under c = whose (entries_of (of_n (quote c no_level no_level)) [] in_n)

abbrev besides : Quote → List ℕ
besides q = whose (entries_of (of_n q) [] in_n)

-- D's odd lots and these makers, no letter having a quote
abbrev beside : List Maker → List ℕ
beside ms = whose (entries_of (of_n no_quote) ms in_d)

-- the odd lots of both, N's quote being under a condition
abbrev two : ℕ → List Maker → List ℕ
two c ms = whose (entries_of (of_n (quote c no_level no_level)) ms in_both)

pub record Closed : Type 0 where
  -- A, B, H, O, R, W admit both sides, whatever price and size the quote shows
  pub both-sides : map under (65 ∷ 66 ∷ 72 ∷ 79 ∷ 82 ∷ 87 ∷ []) ≡ both 78 ∷ both 78 ∷ both 78 ∷ both 78 ∷ both 78 ∷ both 78 ∷ []
  -- E hides the odd bids, F the odd offers; C, L, N and U hide both
  pub one-side : map under (69 ∷ 70 ∷ []) ≡ (0 ∷ 78 ∷ []) ∷ (78 ∷ 0 ∷ []) ∷ []
  pub no-side : map under (67 ∷ 76 ∷ 78 ∷ 85 ∷ []) ≡ neither ∷ neither ∷ neither ∷ neither ∷ []
  -- no round quote; any other byte is one and admits neither
  pub no-quote : besides no_quote ≡ both 78
  pub other-bytes : map under (1 ∷ 32 ∷ 68 ∷ 255 ∷ []) ≡ neither ∷ neither ∷ neither ∷ neither ∷ []
  -- an indication admits by its condition; sides with price and size hide by theirs
  pub indication : besides (quote 82 (for 0 21) (for 0 27)) ≡ both 78
  pub closing : besides (quote 67 (for 2 21) (for 2 27)) ≡ neither
  -- D: no maker; a maker on both sides, on one, with an indication, under L
  pub d-alone : beside [] ≡ neither
  pub d-stands : beside stands ≡ both 68
  pub d-bid : beside (mm (quote 82 (for 2 21) no_level)) ≡ 68 ∷ 0 ∷ []
  pub d-offer : beside (mm (quote 82 (for 0 21) (for 2 27))) ≡ 0 ∷ 68 ∷ []
  pub d-closed : beside (mm (quote 76 (for 2 21) (for 2 27))) ≡ neither
  -- "whatever quotes it had": a quote under the letter D neither shows nor hides D's
  pub d-quote : whose (entries_of (of_d (quote 82 (for 2 21) (for 2 27)) (of_n no_quote)) [] in_d) ≡ neither
  pub d-closing : whose (entries_of (of_d (quote 67 no_level no_level) (of_n no_quote)) stands in_d) ≡ both 68
  -- the FINRA best, also where another letter is the national best; not the national best
  pub d-behind : whose (entries_of (of_n (quote 82 (for 9 22) (for 9 26))) stands in_d) ≡ both 68
  pub d-national : whose (entries_of (of_n (quote 82 (for 9 22) (for 9 26))) [] in_d) ≡ neither
  -- the other letter's levels go by its own quote; a level that doesn't rank is nowhere
  pub leads : two 82 stands ≡ both 68
  pub next : two 82 [] ≡ both 78
  pub n-closed : two 67 stands ≡ both 68
  pub nowhere : two 67 [] ≡ neither

pub closed : Closed
unfolding letters maker_candidate finra_best as_d letter_candidate national_best odd_candidate ranks letter_levels odd_best entries_by entries_of member compared_by lower higher by_price compared better admits counts candidate_of
closed =
    record {
      both-sides = refl;
      one-side = refl;
      no-side = refl;
      no-quote = refl;
      other-bytes = refl;
      indication = refl;
      closing = refl;
      d-alone = refl;
      d-stands = refl;
      d-bid = refl;
      d-offer = refl;
      d-closed = refl;
      d-quote = refl;
      d-closing = refl;
      d-behind = refl;
      d-national = refl;
      leads = refl;
      next = refl;
      n-closed = refl;
      nowhere = refl;
    }
