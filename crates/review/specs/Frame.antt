-- Which symbols a block may touch: those that an accepted or partly accepted message in it names; an accepted FINRA Open or Close touches every symbol.
-- Assumes nothing.
use Rattle.std.specs.Prelude.{ℕ, Bool, true, false, cond, List, [], ◌∷◌, eqb, Some, None, Option}
use Rattle.message.specs.declared.Kind.{Kind}
use Rattle.message.specs.declared.Kind.TheVariants as kind
use Rattle.message.specs.Message.{kind_of, symbol_of}
use Rattle.block.specs.Block.{messages_of}
use Rattle.opening.specs.Opening.{lines_in, page_at, page_place}
use Rattle.line.specs.Line.{done}
use Rattle.calls.specs.Call.{take, number_of, letter_of, number_on}
use Rattle.told.specs.Told.{is_accepted, is_partly}
use Rattle.work.specs.Work.{told_on}
use Rattle.told.specs.declared.Told.{Told}
use Rattle.review.specs.Reviewer.{Review, told_r}

-- "A message names the symbol in its bytes 20-30, if its type has one"; FINRA Open and Close go to every page
abbrev pub touches_by : List ℕ → ℕ → Kind → Bool
touches_by m s kind.Inquiry = false
touches_by m s kind.Close = true
touches_by m s kind.Open = true
touches_by m s kind.Test = false
touches_by m s kind.RoundLot = eqb (symbol_of m) s
touches_by m s (kind.OddLot finra) = eqb (symbol_of m) s
touches_by m s kind.Maker = eqb (symbol_of m) s
touches_by m s kind.Status = eqb (symbol_of m) s
touches_by m s kind.Unknown = false

abbrev pub touches : List ℕ → ℕ → Bool
touches m s = touches_by m s (kind_of m)

-- one of these messages touches the symbol
unfoldable pub touched : List (List ℕ) → ℕ → Bool
touched [] s = false
touched (m ∷ ms) s = cond (touches m s) true (touched ms s)

-- the messages that are told of as accepted or partly accepted
unfoldable pub taken_of : List (List ℕ) → List Told → List (List ℕ)
taken_of [] ts = []
taken_of (m ∷ ms) [] = []
taken_of (m ∷ ms) (t ∷ ts) = cond (cond (is_accepted t) true (is_partly t)) (m ∷ taken_of ms ts) (taken_of ms ts)

-- the accepted and partly accepted messages of a block, as the book's bytes and as the reviewer have it; a refused block has none
unfoldable pub taken_on : List ℕ → ℕ → List ℕ → ℕ → List (List ℕ)
taken_on b i k room = cond (done (number_on b (take i k room))) (taken_of (messages_of k) (told_on b (letter_of (lines_in b i)) (messages_of k))) []

unfoldable pub taken_r : Review → ℕ → List ℕ → ℕ → List (List ℕ)
taken_r v i k room =
    cond (done (number_of v.rest v.symbols (take i k room)))
    (taken_of (messages_of k) (told_r v.symbols v.history (letter_of (v.rest.lines i)) (messages_of k)))
    []

-- "That a block changes nothing of a symbol means that no byte of its page changes": the bytes of a symbol's page
abbrev pub bytes_at : List ℕ → Option ℕ → List ℕ
bytes_at b (Some k) = page_at b k
bytes_at b None = []

unfoldable pub page_of : List ℕ → ℕ → List ℕ
page_of b s = bytes_at b (page_place b s)
