-- Number 1, "every other call: the opening or length isn't a book's": it goes before every other check of every call but make, by each of mark, n, count,
-- day flag and offset whatever bytes stand behind them, and by the length. A sound opening passes.
-- Assumes nothing.
use Prim.Native.Nat.{ℕ}
use mathlib.Core.Path.{◌≡◌, refl}
use mathlib.Core.List.{List, [], ◌∷◌, ◌++◌, map}
use lib.ListN.{replicate}
use Rattle.field.specs.Field.{be_bytes}
use Rattle.field.specs.Field as Field
use Rattle.lists.specs.Lists as Lists
use Rattle.text.specs.Form as Form
use Rattle.allowance.specs.Allowance as Allowance
use Rattle.venue.specs.Venue as Venue
use Rattle.venuerun.specs.Run as VenueRun
use Rattle.opening.specs.Layout.{mark}
use Rattle.opening.specs.Opening as Opening
use Rattle.line.specs.Line as Line
use Rattle.work.specs.Work as Work
use Rattle.calls.specs.Call.{add, open_line, start_day, end_day, take, read, protected, convert_len, convert, snapshot_len, snapshot, try_order, set_allowance, tick, call}
use Rattle.calls.specs.Call as Call

-- a mark, n, the count of symbols, the day flag, the offset of the first page; then any bytes
abbrev book : List ℕ → ℕ → ℕ → ℕ → ℕ → List ℕ → List ℕ
book m n count day offset rest = m ++ (n ∷ count ∷ day ∷ (be_bytes 4 offset ++ rest))

-- the numbers of the other calls, with arguments that their next check refuses
unfoldable pub asked : List ℕ → List ℕ
unfolding Field.be Field.be_bytes Field.part Field.field Lists.same_list Form.symbol_good Opening.symbols_of Opening.count_of Opening.sound Opening.rest_in Work.listed_of Line.done Venue.size_good Venue.block_good Venue.venue_number VenueRun.convert_number Allowance.setting_number Call.number_of Call.answer_of Call.number_on Call.call
asked b = map (λ c. (call b c).answer.number) (add [] 0 0 ∷ open_line 64 0 ∷ start_day ∷ end_day ∷ take 64 [] 0 ∷ read [] 0 ∷ protected [] 0 0 ∷ convert_len [] ∷ convert [] 0 ∷ snapshot_len [] ∷ snapshot [] 0 ∷ try_order [] 0 0 0 ∷ set_allowance 0 [] ∷ tick ∷ [])

abbrev no_book : List ℕ → Type 0
no_book b = asked b ≡ 1 ∷ 1 ∷ 1 ∷ 1 ∷ 1 ∷ 1 ∷ 1 ∷ 1 ∷ 1 ∷ 1 ∷ 1 ∷ 1 ∷ 1 ∷ 1 ∷ []

-- QUOTEBK2, and RUOTEBK1
pub the-last-byte-of-the-mark : (rest : List ℕ) → no_book (book (81 ∷ 85 ∷ 79 ∷ 84 ∷ 69 ∷ 66 ∷ 75 ∷ 50 ∷ []) 1 0 0 976 rest)
unfolding asked
the-last-byte-of-the-mark rest = refl

pub the-first-byte-of-the-mark : (rest : List ℕ) → no_book (book (82 ∷ 85 ∷ 79 ∷ 84 ∷ 69 ∷ 66 ∷ 75 ∷ 49 ∷ []) 1 0 0 976 rest)
unfolding asked
the-first-byte-of-the-mark rest = refl

-- n 0 and 65
pub no-symbols : (rest : List ℕ) → no_book (book mark 0 0 0 976 rest)
unfolding asked
no-symbols rest = refl

pub symbols-65 : (rest : List ℕ) → no_book (book mark 65 0 0 976 rest)
unfolding asked
symbols-65 rest = refl

-- a count above n
pub count-above-n : (rest : List ℕ) → no_book (book mark 1 2 0 976 rest)
unfolding asked
count-above-n rest = refl

-- a day flag of 2
pub day-flag-2 : (rest : List ℕ) → no_book (book mark 1 0 2 976 rest)
unfolding asked
day-flag-2 rest = refl

-- an offset of 975 and of 977; of 847, a book without room for an allowance
pub offset-975 : (rest : List ℕ) → no_book (book mark 1 0 0 975 rest)
unfolding asked
offset-975 rest = refl

pub offset-977 : (rest : List ℕ) → no_book (book mark 1 0 0 977 rest)
unfolding asked
offset-977 rest = refl

pub offset-847 : (rest : List ℕ) → no_book (book mark 1 0 0 847 rest)
unfolding asked
offset-847 rest = refl

-- a byte too few, a byte too many
pub a-byte-too-few : no_book (book mark 1 0 0 976 (replicate 7683 0))
unfolding asked
a-byte-too-few = refl

pub a-byte-too-many : no_book (book mark 1 0 0 976 (replicate 7685 0))
unfolding asked
a-byte-too-many = refl

-- a book of one symbol: 3, 7, Start and End by the day, 9, 9, 10, 78, 78, 10, 10, 10, 84, a tick that is done; none listed, the day closed; then one listed, the day open
pub sound-closed : asked (book mark 1 0 0 976 (replicate 7684 0)) ≡ 3 ∷ 7 ∷ 0 ∷ 12 ∷ 9 ∷ 9 ∷ 10 ∷ 78 ∷ 78 ∷ 10 ∷ 10 ∷ 10 ∷ 84 ∷ 0 ∷ []
unfolding asked
sound-closed = refl

pub sound-full-open : asked (book mark 1 1 1 976 (replicate 7684 0)) ≡ 3 ∷ 7 ∷ 11 ∷ 0 ∷ 9 ∷ 9 ∷ 10 ∷ 78 ∷ 78 ∷ 10 ∷ 10 ∷ 10 ∷ 84 ∷ 0 ∷ []
unfolding asked
sound-full-open = refl
