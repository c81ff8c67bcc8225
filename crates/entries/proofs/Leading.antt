-- What put the leader ahead (document 02, T-08), by computing: the names of the national entries.
-- Assumes nothing.
use Prim.Native.Nat.{ℕ}
use mathlib.Core.Path.{◌≡◌, refl}
use mathlib.Core.Bool.{cond}
use mathlib.Core.List.{List, [], ◌∷◌, ◌++◌}
use lib.Dec.{eqb}
use lib.ListN.{take, drop}
use Rattle.lists.specs.Lists.{member}
use Rattle.field.specs.Field.{be_bytes}
use Rattle.ranking.specs.Ranking.{compared_by, lower, higher, by_price, compared, better, why_ahead}
use Rattle.quote.specs.declared.Level.{Level}
use Rattle.quote.specs.declared.Quote.{Quote}
use Rattle.quote.specs.Quote.{no_level, no_quote, admits, counts, candidate_of}
use Rattle.levels.specs.Levels.{Standing, no_levels}
use Rattle.entries.specs.Entries.{Maker, Entries, letters, maker_candidate, finra_best, as_d, letter_candidate, national_best, national_reason, odd_candidate, ranks, letter_levels, odd_best, entries_by, entries_of}
use Rattle.entries.specs.Publication.{no_entry, publication}

-- so many lots at a price and a time
abbrev for : ℕ → ℕ → ℕ → Level
for size price time = record { price = price; size = size; time = time }

abbrev quote : Level → Level → Quote
quote b o = record { condition = 82; bid = b; offer = o }

-- quotes of A, N and P, and of no other letter
abbrev three : Quote → Quote → Quote → ℕ → Quote
three a n p l = cond (eqb l 65) a (cond (eqb l 78) n (cond (eqb l 80) p no_quote))

-- three lots bid at 20 and offered at 30, both at time 7: N's quote, and this one of P's
abbrev plain : Quote
plain = quote (for 3 20 7) (for 3 30 7)

abbrev with : Quote → ℕ → Quote
with p = three no_quote plain p

-- maker MM, and NN beside it
abbrev mm : Quote → List Maker
mm q = record { name = 1296900128; quote = q } ∷ []

abbrev both : Quote → Quote → List Maker
both q r = record { name = 1296900128; quote = q } ∷ record { name = 1313742880; quote = r } ∷ []

abbrev no_odd : ℕ → Standing
no_odd l = no_levels

-- the entries' names: entry k of six
abbrev name_at : ℕ → Entries → List ℕ
name_at k e = take 4 (drop k (publication e))

-- those of the national bid and offer
abbrev told : (ℕ → Quote) → List Maker → List ℕ
told quotes ms = name_at 0 (entries_of quotes ms no_odd) ++ name_at 16 (entries_of quotes ms no_odd)

-- a letter's bid and offer under R, with the third byte of each
abbrev leads : ℕ → ℕ → ℕ → List ℕ
leads l b o = l ∷ 82 ∷ b ∷ 32 ∷ l ∷ 82 ∷ o ∷ 32 ∷ []

pub record Leading : Type 0 where
  -- "a space if there is no second": one letter, or one beside an indication or a quote under C; none is four spaces
  pub alone : told (with no_quote) [] ≡ leads 78 32 32
  pub indication : told (with (quote (for 0 21 7) (for 0 29 7))) [] ≡ leads 78 32 32
  pub closing : told (with (record { condition = 67; bid = for 9 21 7; offer = for 9 29 7 })) [] ≡ leads 78 32 32
  pub nobody : told (three no_quote no_quote no_quote) [] ≡ 32 ∷ 32 ∷ 32 ∷ 32 ∷ 32 ∷ 32 ∷ 32 ∷ 32 ∷ []
  -- each reason on each side; what comes behind the one that decides would go the other way
  pub price-size : told (with (quote (for 9 19 6) (for 2 30 6))) [] ≡ leads 78 80 83
  pub size-time : told (with (quote (for 2 20 6) (for 3 30 8))) [] ≡ leads 78 83 84
  pub time-letter : told (with (quote (for 3 20 8) (for 3 30 7))) [] ≡ leads 78 84 76
  pub letter-price : told (with (quote (for 3 20 7) (for 9 31 6))) [] ≡ leads 78 76 80
  -- the higher letter leads: it wins by price, by size, by time
  pub later-price : told (with (quote (for 1 21 9) (for 1 29 9))) [] ≡ leads 80 80 80
  pub later-size : told (with (quote (for 4 20 9) (for 4 30 9))) [] ≡ leads 80 83 83
  pub later-time : told (with (quote (for 3 20 6) (for 3 30 6))) [] ≡ leads 80 84 84
  -- a side with one candidate beside a side with two
  pub one-side : told (with (quote (for 3 20 8) no_level)) [] ≡ leads 78 84 32
  -- "by the comparison with the second best": not with the third, wherever it stands
  pub third_last : told (three plain (quote (for 3 20 8) (for 3 30 8)) (quote (for 9 19 6) (for 9 31 6))) [] ≡ leads 65 84 84
  pub third-first : told (three plain (quote (for 9 19 6) (for 9 31 6)) (quote (for 3 20 8) (for 3 30 8))) [] ≡ leads 65 84 84
  pub leader-last : told (three (quote (for 3 20 8) (for 3 30 8)) (quote (for 9 19 6) (for 9 31 6)) plain) [] ≡ leads 80 84 84
  pub leader-between : told (three (quote (for 2 20 6) (for 2 30 6)) plain (quote (for 9 19 6) (for 9 31 6))) [] ≡ leads 78 83 83
  -- a tie of three; two that tie behind the leader
  pub tie : told (three plain plain plain) [] ≡ leads 65 76 76
  pub tie-behind : told (three (quote (for 2 20 6) (for 2 30 6)) plain (quote (for 2 20 6) (for 2 30 6))) [] ≡ leads 78 83 83
  -- D is one candidate: its second maker is no second; with its FINRA best it leads a letter, or is the second
  pub d-alone : told (three no_quote no_quote no_quote) (both plain plain) ≡ leads 68 32 32
  pub d-leads : told (with no_quote) (both plain (quote (for 3 20 6) (for 3 30 6))) ≡ leads 68 84 84
  pub d-tie : told (with no_quote) (mm plain) ≡ leads 68 76 76
  pub d-second : told (with no_quote) (both (quote (for 2 20 6) (for 9 31 6)) (quote (for 9 19 6) (for 2 30 6))) ≡ leads 78 83 83
  -- the condition stands before it; the FINRA and the odd entries show none
  pub condition : name_at 0 (entries_of (three no_quote (record { condition = 65; bid = for 3 20 7; offer = no_level }) plain) [] no_odd) ≡ 78 ∷ 65 ∷ 76 ∷ 32 ∷ []
  pub finra : name_at 32 (entries_of (with no_quote) (both plain (quote (for 3 20 6) (for 3 30 6))) no_odd) ≡ 78 ∷ 78 ∷ 32 ∷ 32 ∷ []
  pub odd : name_at 64 (entries_of (with plain) [] (λ l. cond (eqb l 78) (record { bids = for 5 21 7 ∷ []; offers = [] }) no_levels)) ≡ 78 ∷ 32 ∷ 32 ∷ 32 ∷ []

pub leading : Leading
unfolding be_bytes no_entry publication letters maker_candidate finra_best as_d letter_candidate national_best national_reason odd_candidate ranks letter_levels odd_best entries_by entries_of member compared_by lower higher by_price compared better why_ahead admits counts candidate_of
leading =
    record {
      alone = refl;
      indication = refl;
      closing = refl;
      nobody = refl;
      price-size = refl;
      size-time = refl;
      time-letter = refl;
      letter-price = refl;
      later-price = refl;
      later-size = refl;
      later-time = refl;
      one-side = refl;
      third_last = refl;
      third-first = refl;
      leader-last = refl;
      leader-between = refl;
      tie = refl;
      tie-behind = refl;
      d-alone = refl;
      d-leads = refl;
      d-tie = refl;
      d-second = refl;
      condition = refl;
      finra = refl;
      odd = refl;
    }
