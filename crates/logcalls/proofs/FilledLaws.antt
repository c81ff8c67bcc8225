-- How many bytes a call fills.
-- Assumes nothing.
use Prim.Native.Nat.{ℕ, zero, suc, ◌+◌, ◌*◌}
use mathlib.Core.Path.{◌≡◌, refl, ap, sym, ◌∙◌}
use mathlib.Core.Bool.{Bool, true, false, cond}
use mathlib.Core.List.{List, [], ◌∷◌, ◌++◌}
use Rattle.std.specs.Prelude.{Option, None, Some}
use native.Mathlib.Omega.{arith}
use lib.Dec.{eqb, ltb}
use borrow.Author.Tests.{eqb-true}
use Rattle.field.specs.Field.{be}
use lib.ListN.{length, length-append}
use Rattle.block.specs.Block.{count_in, messages_from, messages_of, answer_length}
use Rattle.block.proofs.WrittenLaws.{length-messages}
use Rattle.told.specs.Told.{quads, tally}
use Rattle.told.specs.declared.Told.{Told}
use Rattle.work.specs.Work.{told_on, message_on}
use Rattle.opening.specs.declared.Line.{Line}
use Rattle.opening.specs.Opening.{sound, rest_in, lines_in}
use Rattle.allowance.specs.Allowance.{is_used_up}
use Rattle.line.specs.Line.{done, on_line, block_number, gap_told, advanced}
use Rattle.line.proofs.GateLaws.{block-nine}
use Rattle.block.specs.Written.{joined}
use Rattle.venue.specs.Venue.{venue_number}
use Rattle.venuerun.specs.Run.{needed_of, convert_number, venue_run}
use Rattle.venuerun.proofs.VenueLaws.{run_length}
use Rattle.sweep.specs.Sweep.{Step, swept, step_length, step_bytes, steps_bytes}
use Rattle.sweep.proofs.LoopLaws.{length-step}
use Rattle.snapshot.specs.Snapshot.{Snapshot, snapshot_of}
use Rattle.snapshot.specs.Feed.{feed_blocks, feed_bytes}
use Rattle.calls.proofs.ConvertLaws.{convert-done}
use Rattle.calls.proofs.SnapshotLaws.{feed-answer}
use Rattle.calls.specs.Call.{convert, snapshot, try_order, fed, published_on, quotes_on, run_told, steps_told, order_side, lot_on, candidates_on, Call, Answer, bare, report, take, letter_of, line_answer, number_of, answer_of, number_on, answer_on, call}

length-quads : (i : ℕ) (ts : List Told) → length (quads i ts) ≡ 4 * length ts
unfolding quads
length-quads i [] = refl
length-quads i (t ∷ ts) = omega (arith, length-quads (i + 1) ts)

length-told : (b : List ℕ) (letter : ℕ) (ms : List (List ℕ)) → length (told_on b letter ms) ≡ length ms
unfolding told_on
length-told b letter [] = refl
length-told b letter (m ∷ ms) = ap suc (length-told (message_on letter m b) letter ms)

-- a call that fills the answer buffer alone, by n bytes
pub record AnswersOnly (n : ℕ) (a : Answer) : Type 0 where
  pub publication : a.publication ≡ []
  pub output : a.output ≡ []
  pub found : a.found ≡ 0
  pub amount : a.amount ≡ 0
  pub size : length a.answers ≡ n

module _ (b : List ℕ) (i : ℕ) (k : List ℕ) (room : ℕ) where
  -- four bytes for each message of a block that was taken
  taken-size : (letter : ℕ) → length (quads 0 (told_on b letter (messages_of k))) ≡ 4 * count_in k
  unfolding messages_of
  taken-size letter =
      let n : length (told_on b letter (messages_from k 0 (count_in k))) ≡ count_in k = length-told b letter (messages_from k 0 (count_in k)) ∙ length-messages k 0 (count_in k) in
      length-quads 0 (told_on b letter (messages_from k 0 (count_in k))) ∙ ap (λ (x : ℕ). 4 * x) n

  abbrev Fills : Answer → Type 0
  Fills a = AnswersOnly (cond (done a.number) (4 * count_in k) 0) a

  -- whether the line's share and the spare are used (T-14)
  abbrev used : Bool
  used = is_used_up (rest_in b).allowance i

  pub take-fills : Fills (call b (take i k room)).answer
  unfolding call number_on number_of answer_of rest_in done quads
  take-fills = go (sound b) (ltb room answer_length) (lines_in b i)
    where
      none_filled : (n : ℕ) → cond {A = ℕ} (done n) (4 * count_in k) 0 ≡ 0 → Fills (bare n)
      none_filled n e = record { publication = refl; output = refl; found = refl; amount = refl; size = sym e }

      lined : (r : Line) (n : ℕ) (d : Bool) → done n ≡ d → Fills (cond d (report n (gap_told r k) (advanced r k) (told_on b r.letter (messages_of k))) (report n 0 r []))
      lined r n true e = record { publication = refl; output = refl; found = refl; amount = refl; size = rw e (taken-size r.letter) }
      lined r n false e = record { publication = refl; output = refl; found = refl; amount = refl; size = rw e refl }

      numbered : Bool → Bool → Option Line → ℕ
      numbered s t o = cond s (cond t 9 (on_line (rest_in b).day used k o)) 1

      go : (s t : Bool) (o : Option Line)
          → Fills (cond s (cond (eqb (numbered s t o) 9) (bare (numbered s t o)) (line_answer (numbered s t o) k (told_on b (letter_of o) (messages_of k)) o)) (bare 1))
      go false t o = none_filled 1 refl
      go true true o = none_filled 9 refl
      go true false None = none_filled 21 refl
      go true false (Some r) = rw (block-nine r (rest_in b).day used k) (lined r (block_number r (rest_in b).day used k) (done (block_number r (rest_in b).day used k)) refl)

-- ---- a call that fills the output alone, by n bytes, and may tell two numbers

abbrev pub output_only : Answer → Answer
output_only a =
    record { number = a.number; gap = 0; expected = 0; count = 0; accepted = 0; partly = 0; rejected = 0; answers = []; publication = []; found = a.found; amount = a.amount; output = a.output }

pub record OutputOnly (n : ℕ) (a : Answer) : Type 0 where
  pub shape : a ≡ output_only a
  pub size : length a.output ≡ n

module _ (b v : List ℕ) (room : ℕ) where
  placed : convert_number v room ≡ 0 → venue_number v ≡ 0
  unfolding convert_number
  placed e = go (eqb (venue_number v) 0) refl e
    where
      go : (t : Bool) → eqb (venue_number v) 0 ≡ t → cond t (cond (ltb room (needed_of v)) 80 0) (venue_number v) ≡ 0 → venue_number v ≡ 0
      go true z e = eqb-true (venue_number v) 0 z
      go false z e = e

  pub convert-fills : OutputOnly (call b (convert v room)).answer.amount (call b (convert v room)).answer
  unfolding call number_on number_of answer_of
  convert-fills = go (sound b)
    where
      run : List ℕ
      run = joined (venue_run (lot_on b) v)

      numbered : Bool → ℕ
      numbered s = cond s (convert_number v room) 1

      told : Bool → Bool → Answer
      told s d = cond s (cond d (run_told (numbered s) (needed_of v) run) (bare (numbered s))) (bare 1)

      placed-told : (d : Bool) → done (convert_number v room) ≡ d → OutputOnly (told true d).amount (told true d)
      placed-told true e = record { shape = refl; size = run_length v (placed (eqb-true (convert_number v room) 0 (sym (convert-done v room) ∙ e))) (lot_on b) }
      placed-told false e = record { shape = refl; size = refl }

      go : (s : Bool) → OutputOnly (told s (done (numbered s))).amount (told s (done (numbered s)))
      go false = record { shape = refl; size = refl }
      go true = placed-told (done (convert_number v room)) refl

  -- and tells one number
  pub convert-finds : (call b (convert v room)).answer.found ≡ 0
  unfolding call number_on number_of answer_of
  convert-finds = go (sound b)
    where
      run : List ℕ
      run = joined (venue_run (lot_on b) v)

      told : (n : ℕ) (d : Bool) → (cond {A = Answer} d (run_told n (needed_of v) run) (bare n)).found ≡ 0
      told n true = refl
      told n false = refl

      go : (s : Bool) → (cond {A = Answer} s (cond (done (cond s (convert_number v room) 1)) (run_told (cond s (convert_number v room) 1) (needed_of v) run) (bare (cond s (convert_number v room) 1))) (bare 1)).found ≡ 0
      go true = told (convert_number v room) (done (convert_number v room))
      go false = refl

length-steps : (xs : List Step) → length (steps_bytes xs) ≡ step_length * length xs
unfolding steps_bytes
length-steps [] = refl
length-steps (x ∷ xs) = length-append (step_bytes x) (steps_bytes xs) ∙ omega (arith, length-step x, length-steps xs)

pub order-fills : (b s : List ℕ) (m w room : ℕ) → OutputOnly (step_length * (call b (try_order s m w room)).answer.found) (call b (try_order s m w room)).answer
unfolding call number_on number_of answer_of
order-fills b s m w room = go (sound b) (done (number_on b (try_order s m w room)))
  where
    xs : List Step
    xs = swept (order_side m) w (candidates_on b (be s) (order_side m))

    told : Bool → Bool → Answer
    told t d = cond t (cond d (steps_told (number_on b (try_order s m w room)) w xs) (bare (number_on b (try_order s m w room)))) (bare 1)

    go : (t d : Bool) → OutputOnly (step_length * (told t d).found) (told t d)
    go false d = record { shape = refl; size = refl }
    go true true = record { shape = refl; size = length-steps xs }
    go true false = record { shape = refl; size = refl }

pub feed-fills : (b s : List ℕ) (room : ℕ) → OutputOnly (call b (snapshot s room)).answer.amount (call b (snapshot s room)).answer
unfolding call
feed-fills b s room = rw (feed-answer b s room) (go (done (number_on b (snapshot s room))) (ltb room (length (feed_bytes x))))
  where
    x : Snapshot
    x = snapshot_of s (published_on b (be s)) (quotes_on b (be s))

    n : ℕ
    n = number_on b (snapshot s room)

    told : Bool → Bool → Answer
    told d t = cond d (cond t (bare 81) (fed n (length (feed_blocks x)) (length (feed_bytes x)) (feed_bytes x))) (bare n)

    go : (d t : Bool) → OutputOnly (told d t).amount (told d t)
    go false t = record { shape = refl; size = refl }
    go true true = record { shape = refl; size = refl }
    go true false = record { shape = refl; size = refl }
