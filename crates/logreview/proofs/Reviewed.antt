-- DEMAND 3 about the code that replays a log: the contracts of `replay` and `restore` are `replayed` and `restored`.
-- It rests on `demand3` and on these definitions: `calls_in`, `fitting`, `replayed` (logcalls/specs/Replayed.antt: the calls in a log, those that the
-- output has room for, what a replay leaves and writes), `restored` (logcalls/specs/Restored.antt) and `answers_bytes` (logcalls/specs/Answers.antt).
-- Assumes nothing.
use Prim.Native.Nat.{ℕ, ◌+◌}
use mathlib.Core.Path.{◌≡◌, refl, ap, sym, ◌∙◌}
use mathlib.Core.Bool.{true, false, cond}
use mathlib.Core.List.{List, [], ◌∷◌, ◌++◌}
use native.Mathlib.Omega.{arith}
use lib.Dec.{eqb}
use lib.ListN.{length, take}
use borrow.Author.Tests.{eq-eqb}
use Rattle.field.specs.Field.{splice}
use Rattle.lists.proofs.Members.{In}
use Rattle.entries.specs.Publication.{publication_length}
use Rattle.work.specs.Work.{Listed}
use Rattle.logform.specs.Log.{head_length, head_of}
use Rattle.calls.specs.Call.{Call, Answer, make, read, call, answers, bytes_after}
use Rattle.review.specs.Reviewer.{Review, fresh_review, reviewed, review_answers, review_after}
use Rattle.review.specs.Lists.{are_bytes, blocks_are_bytes}
use Rattle.review.proofs.Demand3.{symbol_bytes, demand3}
use Rattle.logcalls.specs.Answers.{answers_bytes}
use Rattle.logcalls.specs.Replayed.{calls_in, fitting, Replayed, replayed}
use Rattle.logcalls.specs.Restored.{restored}
use Rattle.logreview.proofs.LogLaws.{from_bytes, append-bytes, append-after, later-answers, fitting-bytes, fitting-first, fitting-all}

-- memory m made a book for n symbols, then calls of any source: those before a checkpoint, those of an earlier replay, or none; then a log from a place on
module _ (m : List ℕ) (n : ℕ) (before : List Call) (log : List ℕ) (at : ℕ) (out : List ℕ) where
  abbrev pub book : List ℕ
  book = bytes_after (call m (make n)).bytes before

  abbrev pub after : Replayed
  after = replayed book log at out

  -- the calls of the log that were carried out
  abbrev pub carried : List Call
  carried = fitting (length out) 0 book (calls_in log at)

  abbrev pub reviewer_before : Review
  reviewer_before = review_after (fresh_review n) before

  abbrev pub reviewer_after : Review
  reviewer_after = review_after (fresh_review n) (before ++ carried)

  pub record Reviewed : Type 0 where
    -- they are the log's first calls, and all of them unless the output had no room
    pub first : carried ≡ take (length carried) (calls_in log at)
    pub all : (after.number ≡ 93 → ⊥) → carried ≡ calls_in log at
    -- what is written is what the reviewer answers to them, and nothing else of the output changes
    pub told : after.output ≡ splice out 0 (answers_bytes (review_answers reviewer_before carried))
    pub written : after.written ≡ length (answers_bytes (review_answers reviewer_before carried))
    -- every later list of calls is answered by the reviewer's answers
    pub later : (cs : List Call) → blocks_are_bytes cs ≡ true → answers after.bytes cs ≡ review_answers reviewer_after cs
    -- every read afterwards is the reviewer's
    pub shown : (x : Listed) → In x reviewer_after.symbols
        → ((call after.bytes (read (symbol_bytes x) publication_length)).answer.number ≡ 0)
        × ((call after.bytes (read (symbol_bytes x) publication_length)).answer.publication ≡ reviewed reviewer_after.history x.symbol)

  -- for all memory on which make answers 0, and all logs, which are bytes
  pub replay-reviewed : (call m (make n)).answer.number ≡ 0 → blocks_are_bytes before ≡ true → are_bytes log ≡ true → Reviewed
  unfolding replayed
  replay-reviewed made ready bytes =
      record {
        first = fitting-first (length out) 0 book (calls_in log at);
        all = fitting-all log (length out) (length log) at 0 book;
        told = ap (λ (xs : List Answer). splice out 0 (answers_bytes xs)) same;
        written = none_before (length (answers_bytes (answers book carried))) ∙ ap (λ (xs : List Answer). length (answers_bytes xs)) same;
        later = λ cs e. ap (λ (b : List ℕ). answers b cs) (sym joined) ∙ later-answers (call m (make n)).bytes (fresh_review n) (before ++ carried) cs (demand3 m n made ((before ++ carried) ++ cs) (append-bytes (before ++ carried) cs whole e)).told;
        shown = λ x i. rw joined at ((demand3 m n made (before ++ carried) whole).shown x i);
      }
    where
      none_before : (k : ℕ) → 0 + k ≡ k
      none_before k = omega arith

      whole : blocks_are_bytes (before ++ carried) ≡ true
      whole = append-bytes before carried ready (fitting-bytes (length out) 0 book (calls_in log at) (from_bytes log bytes (length log) at))

      joined : bytes_after (call m (make n)).bytes (before ++ carried) ≡ bytes_after book carried
      joined = append-after (call m (make n)).bytes before carried

      same : answers book carried ≡ review_answers reviewer_before carried
      same = later-answers (call m (make n)).bytes (fresh_review n) before carried (demand3 m n made (before ++ carried) whole).told

-- a book that `restore` rebuilds: the head is there and make answers 0
pub restore-reviewed : (m log out : List ℕ) → (head_of log).number ≡ 0 → (call m (make (head_of log).n)).answer.number ≡ 0 → are_bytes log ≡ true
    → (restored m log out ≡ after m (head_of log).n [] log head_length out) × Reviewed m (head_of log).n [] log head_length out
unfolding restored
restore-reviewed m log out h made bytes =
    (rw (eq-eqb _ _ h, eq-eqb _ _ made) refl, replay-reviewed m (head_of log).n [] log head_length out made (unfold blocks_are_bytes in refl) bytes)
