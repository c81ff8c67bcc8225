-- DEMAND 3, closed, on bytes.
-- It rests on these definitions, and on nothing else:
--   `call`, `answers`, `bytes_after` (book/specs/Call.antt): what a call, and a list of calls, does to bytes, and what it answers;
--   `fresh_review`, `review_answers`, `review_after`, `reviewed` (review/specs/Reviewer.antt): the reviewer, its answers to the same calls, and a
--   symbol's 96 bytes worked out anew from the history alone;
--   `blocks_are_bytes` (review/specs/Lists.antt): each element of each block is a byte.
-- Assumes nothing.
use Prim.Native.Nat.{ℕ}
use mathlib.Core.Path.{◌≡◌, refl, ap, ◌∙◌}
use mathlib.Core.Bool.{Bool, true, false, cond}
use mathlib.Core.List.{List}
use lib.ListN.{length}
use Rattle.field.specs.Field.{be_bytes}
use Rattle.lists.specs.Lists.{member}
use Rattle.lists.proofs.Members.{In}
use Rattle.entries.specs.Entries.{entries_of, unless_halted}
use Rattle.entries.proofs.LengthLaws.{length-publication}
use Rattle.line.specs.Line.{done}
use Rattle.calls.specs.Call.{Call, make, read, protected, convert_len, convert, snapshot, try_order, number_of, call, answers, bytes_after}
use Rattle.calls.proofs.ProtectedLaws.{protected-keeps}
use Rattle.calls.proofs.ConvertLaws.{length-keeps, convert-keeps}
use Rattle.calls.proofs.OrderLaws.{order-keeps}
use Rattle.work.specs.Work.{Listed}
use Rattle.review.specs.Reviewer.{quote_of, makers_of, levels_of, halted_of, parts, reviewed_by, reviewed, Review, fresh_review, rest_after, symbols_after, history_after, review_call, review_answers, review_after}
use Rattle.review.specs.Lists.{blocks_are_bytes}
use Rattle.review.specs.Numbers.{numbers_of}
use Rattle.review.proofs.RunLaws.{answers_agree, reads-agree}
use Rattle.review.proofs.NumberLaws.{number-known}
use Rattle.review.proofs.ReportLaws.{of-each, number-told, room-known, refused-same}
use Rattle.entries.specs.Publication.{publication_length}
use Rattle.text.specs.Form.{symbol_length}

-- the eleven bytes of a symbol that the reviewer holds
abbrev pub symbol_bytes : Listed → List ℕ
symbol_bytes x = be_bytes symbol_length x.symbol

-- of memory m, lent for n symbols, and the calls cs after the make
pub record Agreed (m : List ℕ) (n : ℕ) (cs : List Call) : Type 0 where
  -- (a) call by call, every answer is the reviewer's: numbers, gaps, line records, counts, codes, flags and reads
  pub told : answers (call m (make n)).bytes cs ≡ review_answers (fresh_review n) cs
  -- (b) then, for each symbol that the reviewer holds, a read into a buffer of 96 answers 0 and gives the bytes that the reviewer works out anew
  pub shown : (x : Listed) → In x (review_after (fresh_review n) cs).symbols
      → ((call (bytes_after (call m (make n)).bytes cs) (read (symbol_bytes x) publication_length)).answer.number ≡ 0)
      × ((call (bytes_after (call m (make n)).bytes cs) (read (symbol_bytes x) publication_length)).answer.publication ≡ reviewed (review_after (fresh_review n) cs).history x.symbol)

-- for all memory m and all n for which make answers 0, and all lists of calls, in any order, whose blocks are bytes
pub demand3 : (m : List ℕ) (n : ℕ) → (call m (make n)).answer.number ≡ 0 → (cs : List Call) → blocks_are_bytes cs ≡ true → Agreed m n cs
demand3 m n made cs bytes = record { told = answers_agree m n made cs bytes; shown = reads-agree m n made cs bytes }

-- those bytes are 96
pub reviewed-length : (h : List (List ℕ)) (s : ℕ) → length (reviewed h s) ≡ publication_length
unfolding reviewed_by
reviewed-length h s = length-publication (unless_halted (halted_of (parts h) s) (entries_of (quote_of (parts h) s) (makers_of (parts h) s) (levels_of (parts h) s)))

-- ---- beside it, for any bytes and any call

-- a call that answers neither 0 nor 70 changes no byte at all
pub refusal-changes-nothing : (b : List ℕ) (c : Call) → done (call b c).answer.number ≡ false → (call b c).bytes ≡ b
refusal-changes-nothing b c e = refused-same b c e

short-known : (s : List ℕ) (room : ℕ) → member (numbers_of (snapshot s room)) 81 ≡ true
unfolding member
short-known s room = refl

-- every number is one of document 01's for that call
pub numbers-known : (b : List ℕ) (c : Call) → member (numbers_of c) (call b c).answer.number ≡ true
numbers-known b =
    of-each (λ (c : Call). member (numbers_of c) (call b c).answer.number ≡ true) (λ c w. ap (member (numbers_of c)) (number-told b c w) ∙ number-known b c)
    (λ s room. room-known b s room (numbers_of (snapshot s room)) (short-known s room) (number-known b (snapshot s room)))

-- a query alters nothing, refused or not: no byte of the book, and nothing that the reviewer holds
pub query-alters-nothing : (b : List ℕ) (v : Review) (s : List ℕ) (m x : ℕ) → ((call b (protected s m x)).bytes ≡ b) × (review_call v (protected s m x) ≡ v)
unfolding review_call rest_after symbols_after history_after
query-alters-nothing b v s m x = (protected-keeps b s m x, go (done (number_of v.rest v.symbols (protected s m x))))
  where
    go : (t : Bool) → cond t v v ≡ v
    go true = refl
    go false = refl

-- nor does a conversion, nor the question for its length
pub conversion-alters-nothing : (b : List ℕ) (v : Review) (x : List ℕ) (room : ℕ)
    → ((call b (convert_len x)).bytes ≡ b) × ((call b (convert x room)).bytes ≡ b) × (review_call v (convert_len x) ≡ v) × (review_call v (convert x room) ≡ v)
unfolding review_call rest_after symbols_after history_after
conversion-alters-nothing b v x room =
    (length-keeps b x, convert-keeps b x room, go (done (number_of v.rest v.symbols (convert_len x))), go (done (number_of v.rest v.symbols (convert x room))))
  where
    go : (t : Bool) → cond t v v ≡ v
    go true = refl
    go false = refl

-- trying an order likewise
pub order-alters-nothing : (b : List ℕ) (v : Review) (s : List ℕ) (m w room : ℕ) → ((call b (try_order s m w room)).bytes ≡ b) × (review_call v (try_order s m w room) ≡ v)
unfolding review_call rest_after symbols_after history_after
order-alters-nothing b v s m w room = (order-keeps b s m w room, go (done (number_of v.rest v.symbols (try_order s m w room))))
  where
    go : (t : Bool) → cond t v v ≡ v
    go true = refl
    go false = refl
