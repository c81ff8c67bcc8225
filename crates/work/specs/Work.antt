-- What a message does to a book: its code, its parts on the pages, and what is told of it.
-- Assumes nothing.
use Rattle.std.specs.Prelude.{ℕ, Bool, true, false, cond, List, [], ◌∷◌, map, eqb, Option, None, Some}
use Rattle.std.specs.Int.Bits.{bit_or}
use Rattle.message.specs.Message.{symbol_of, code_of, Part, round_part, odd_part, maker_part, finra_part, status_part, parts_of, partly_taken}
use Rattle.entries.specs.Publication.{change_flags}
use Rattle.update.specs.Parts.{Reading, known_of, round_on, odd_on_page, maker_on, finra_on, status_on}
use Rattle.told.specs.declared.Told.{Told}
use Rattle.opening.specs.Opening.{symbols_of, pages_in, reading_for, on_page, each_page}

-- a listed symbol with its round lot and, by document 02, T-10, its primary letter
pub record Listed : Type 0 where
  pub symbol : ℕ
  pub lot : ℕ
  pub primary : ℕ

unfoldable pub is_listed : ℕ → List Listed → Bool
is_listed s [] = false
is_listed s (x ∷ xs) = cond (eqb x.symbol s) true (is_listed s xs)

-- what the list has of a symbol; 0 of one that is not listed
unfoldable pub listed_with : (Listed → ℕ) → ℕ → List Listed → ℕ
listed_with f s [] = 0
listed_with f s (x ∷ xs) = cond (eqb x.symbol s) (f x) (listed_with f s xs)

abbrev pub lot_of : ℕ → List Listed → ℕ
lot_of s ls = listed_with (λ x. x.lot) s ls

abbrev pub primary_of : ℕ → List Listed → ℕ
primary_of s ls = listed_with (λ x. x.primary) s ls

unfoldable pub find_reading : ℕ → List Reading → Option Reading
find_reading s [] = None
find_reading s (r ∷ rs) = cond (eqb r.symbol s) (Some r) (find_reading s rs)

abbrev pub listing : Reading → Listed
listing r = record { symbol = r.symbol; lot = r.lot; primary = r.primary }

unfoldable pub listed_of : List Reading → List Listed
listed_of rs = map listing rs

-- flags of a message: "set exactly if that published entry changed (for FINRA Open and Close, in any symbol)"; publications before and after
unfoldable pub flags_of : List (List ℕ) → List (List ℕ) → ℕ
flags_of [] bs = 0
flags_of (a ∷ xs) [] = 0
flags_of (a ∷ xs) (b ∷ ys) = bit_or (change_flags a b) (flags_of xs ys)

-- one part on the page of its symbol; FINRA Close and Open on every page
unfoldable pub part_on : Part → List ℕ → List ℕ
part_on (round_part s l q) b = on_page s (round_on l q) b
part_on (odd_part s l o) b = on_page s (odd_on_page l o) b
part_on (maker_part s m q) b = on_page s (maker_on m q) b
part_on (finra_part c) b = each_page (finra_on c) 0 (symbols_of b) b
part_on (status_part s x) b = on_page s (status_on x) b

unfoldable pub parts_on : List Part → List ℕ → List ℕ
parts_on [] b = b
parts_on (r ∷ rs) b = parts_on rs (part_on r b)

-- the code of a message on a line with that letter, and the book after it
abbrev pub code_on : ℕ → List ℕ → List ℕ → ℕ
code_on letter m b = code_of (known_of (reading_for b (symbol_of m))) letter m

abbrev pub message_on : ℕ → List ℕ → List ℕ → List ℕ
message_on letter m b = parts_on (parts_of (code_on letter m b) m) b

unfoldable pub messages_on : ℕ → List (List ℕ) → List ℕ → List ℕ
messages_on letter [] b = b
messages_on letter (m ∷ ms) b = messages_on letter ms (message_on letter m b)

abbrev pub publications : List Reading → List (List ℕ)
publications rs = map (λ r. r.entries) rs

unfoldable pub told_on : List ℕ → ℕ → List (List ℕ) → List Told
told_on b letter [] = []
told_on b letter (m ∷ ms) =
    record {
      code = code_on letter m b;
      flags = flags_of (publications (pages_in b)) (publications (pages_in (message_on letter m b)));
      partly = partly_taken (code_on letter m b) m;
    } ∷ told_on (message_on letter m b) letter ms
