-- Lines in any arrival order (document 02, T-09): blocks that are received, their mixings, and what each line is told.
-- Assumes nothing.
use Rattle.std.specs.Prelude.{ℕ, ◌≡◌, Bool, true, not, ◌&&◌, cond, List, [], ◌∷◌, map, eqb, Some}
use Rattle.opening.specs.declared.Line.{Line}
use Rattle.opening.specs.Opening.{lines_in}
use Rattle.calls.specs.Call.{Call, take, Answer, answers, bytes_after}

-- a block on its line, with the length of its answer buffer; any bytes, any line, any length
pub record Received : Type 0 where
  pub line : ℕ
  pub block : List ℕ
  pub room : ℕ

abbrev pub call_of : Received → Call
call_of x = take x.line x.block x.room

-- "no other call comes between"
abbrev pub calls : List Received → List Call
calls xs = map call_of xs

-- the blocks of one line, in their order
abbrev pub of_line : ℕ → List Received → List Received
of_line i [] = []
of_line i (x ∷ xs) = cond (eqb x.line i) (x ∷ of_line i xs) (of_line i xs)

-- xs is a mixing of the blocks that f gives for each line: "each line's blocks keep their order and the lengths of their answer buffers"
abbrev pub Mixing : (ℕ → List Received) → List Received → Type 0
Mixing f xs = (i : ℕ) → of_line i xs ≡ f i

-- "each letter has at most one line"
abbrev pub OneLineEach : List ℕ → Type 0
OneLineEach b = (i j : ℕ) (x y : Line) → lines_in b i ≡ Some x → lines_in b j ≡ Some y → x.letter ≡ y.letter → i ≡ j

-- ---- "Change flags may differ": an answer without them

-- the third of each four bytes made 0
abbrev pub unflagged : List ℕ → List ℕ
unflagged [] = []
unflagged (i ∷ []) = i ∷ []
unflagged (i ∷ c ∷ []) = i ∷ c ∷ []
unflagged (i ∷ c ∷ f ∷ []) = i ∷ c ∷ 0 ∷ []
unflagged (i ∷ c ∷ f ∷ z ∷ rest) = i ∷ c ∷ 0 ∷ z ∷ unflagged rest

abbrev pub without_flags : Answer → Answer
without_flags a =
    record {
      number = a.number;
      gap = a.gap;
      expected = a.expected;
      count = a.count;
      accepted = a.accepted;
      partly = a.partly;
      rejected = a.rejected;
      answers = unflagged a.answers;
      publication = a.publication;
      found = a.found;
      amount = a.amount;
      output = a.output;
    }

-- what line i is told, block by block, of the answers to a list of blocks: number, gap, next expected, count, counts and codes
abbrev pub heard : ℕ → List Received → List Answer → List Answer
heard i [] rest = []
heard i (x ∷ xs) [] = []
heard i (x ∷ xs) (a ∷ rest) = cond (eqb x.line i) (without_flags a ∷ heard i xs rest) (heard i xs rest)

-- the codes of a block's messages: the second of each four bytes
abbrev pub codes_in : List ℕ → List ℕ
codes_in [] = []
codes_in (i ∷ []) = []
codes_in (i ∷ c ∷ []) = []
codes_in (i ∷ c ∷ f ∷ []) = []
codes_in (i ∷ c ∷ f ∷ z ∷ rest) = c ∷ codes_in rest

-- each message's code on line i, block by block
abbrev pub codes : ℕ → List Received → List Answer → List (List ℕ)
codes i xs told = map (λ (a : Answer). codes_in a.answers) (heard i xs told)

-- ---- T-14: "T-09 then covers lists in which none was refused here"

-- no answer is 86
abbrev pub none_used_up : List Answer → Bool
none_used_up [] = true
none_used_up (a ∷ rest) = not (eqb a.number 86) && none_used_up rest

abbrev pub NoneRefused : List ℕ → List Received → Type 0
NoneRefused b xs = none_used_up (answers b (calls xs)) ≡ true

-- ---- what two lists of blocks leave alike on a book

pub record Same (b : List ℕ) (xs ys : List Received) : Type 0 where
  -- every byte of the book
  pub book : bytes_after b (calls xs) ≡ bytes_after b (calls ys)
  -- on every line, block by block, the whole answer but for the change flags
  pub told : (i : ℕ) → heard i xs (answers b (calls xs)) ≡ heard i ys (answers b (calls ys))
