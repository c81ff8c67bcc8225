-- T-11 on any bytes: what the two calls answer, and that they change nothing of the book.
-- Assumes nothing.
use Prim.Native.Nat.{ℕ}
use mathlib.Core.Path.{◌≡◌, refl, sym, ◌∙◌}
use mathlib.Core.Bool.{Bool, true, false, ◌&&◌, cond}
use mathlib.Core.List.{List, []}
use lib.Dec.{eqb, ltb}
use lib.ListN.{length}
use Rattle.field.specs.Field.{splice}
use Rattle.field.proofs.ZeroLaws.{splice-nothing}
use Rattle.block.specs.Written.{joined}
use Rattle.venue.specs.Venue.{venue_count, venue_sequence, block_good, venue_messages, messages_good, messages_placed, venue_number}
use Rattle.venuerun.specs.Run.{needed_of, needed_told, convert_number, venue_run}
use Rattle.opening.specs.Opening.{sound}
use Rattle.line.specs.Line.{done}
use Rattle.calls.specs.Call.{convert_len, convert, number_of, Answer, bare, run_told, lot_on, answer_of, after_call, number_on, answer_on, call}
use Rattle.calls.specs.Buffers.{run_out}

-- 0, 78 and 79: of these, 0 alone is done
venue-done : (v : List ℕ) → done (venue_number v) ≡ eqb (venue_number v) 0
unfolding venue_number done
venue-done v = go (block_good v && messages_good (venue_count v) (venue_sequence v) 0 (venue_messages v)) (messages_placed (venue_messages v))
  where
    go : (s t : Bool) → done (cond s (cond t 0 79) 78) ≡ eqb (cond s (cond t 0 79) 78) 0
    go true true = refl
    go true false = refl
    go false t = refl

-- 80 besides
pub convert-done : (v : List ℕ) (room : ℕ) → done (convert_number v room) ≡ eqb (convert_number v room) 0
unfolding convert_number venue_number done
convert-done v room = go (block_good v && messages_good (venue_count v) (venue_sequence v) 0 (venue_messages v)) (messages_placed (venue_messages v)) (ltb room (needed_of v))
  where
    go : (s t u : Bool)
        → done (cond (eqb (cond s (cond t 0 79) 78) 0) (cond u 80 0) (cond s (cond t 0 79) 78)) ≡ eqb (cond (eqb (cond s (cond t 0 79) 78) 0) (cond u 80 0) (cond s (cond t 0 79) 78)) 0
    go true true true = refl
    go true true false = refl
    go true false u = refl
    go false t u = refl

same : (t : Bool) (b : List ℕ) → cond t b b ≡ b
same true b = refl
same false b = refl

module _ (b v : List ℕ) where
  -- the book isn't changed, whatever is answered
  pub length-keeps : (call b (convert_len v)).bytes ≡ b
  unfolding call after_call
  length-keeps = same (done (number_on b (convert_len v))) b

  pub convert-keeps : (room : ℕ) → (call b (convert v room)).bytes ≡ b
  unfolding call after_call
  convert-keeps room = same (done (number_on b (convert v room))) b

  -- ---- the needed length

  length-answer : sound b ≡ true → answer_on b (convert_len v) ≡ run_told (venue_number v) (needed_told v) []
  unfolding number_on number_of answer_of needed_told
  length-answer s = rw (s, venue-done v) (go (eqb (venue_number v) 0))
    where
      go : (t : Bool) → cond t (run_told (venue_number v) (needed_of v) []) (bare (venue_number v)) ≡ run_told (venue_number v) (cond t (needed_of v) 0) []
      go true = refl
      go false = refl

  pub length-told : sound b ≡ true → (n l : ℕ) → n ≡ venue_number v → l ≡ needed_told v → record { bytes = b; answer = run_told n l [] } ≡ call b (convert_len v)
  unfolding call
  length-told s n l en el = (λ i. record { bytes = b; answer = run_told (en i) (el i) [] }) ∙ sym (λ i. record { bytes = length-keeps i; answer = length-answer s i }) ∙ sym whole
    where
      whole : call b (convert_len v) ≡ record { bytes = (call b (convert_len v)).bytes; answer = answer_on b (convert_len v) }
      whole = refl

  pub length-unsound : sound b ≡ false → record { bytes = b; answer = run_told 1 0 [] } ≡ call b (convert_len v)
  unfolding call number_on done
  length-unsound s = sym (rw s)

  -- ---- the run

  module _ (o : List ℕ) where
    run-answer : sound b ≡ true
        → answer_on b (convert v (length o))
        ≡ cond (eqb (convert_number v (length o)) 0) (run_told (convert_number v (length o)) (needed_of v) (joined (venue_run (lot_on b) v))) (bare (convert_number v (length o)))
    unfolding number_on number_of answer_of
    run-answer s = rw (s, convert-done v (length o))

    out-is : (a : Answer) → answer_on b (convert v (length o)) ≡ a → run_out b v o ≡ record { number = a.number; length = a.amount; output = splice o 0 a.output }
    unfolding run_out call
    out-is a e = λ i. record { number = (e i).number; length = (e i).amount; output = splice o 0 (e i).output }

    -- a refusal fills nothing
    bare-out : (n : ℕ) → answer_on b (convert v (length o)) ≡ bare n → record { number = n; length = 0; output = o } ≡ run_out b v o
    bare-out n e = (λ i. record { number = n; length = 0; output = sym (splice-nothing o 0) i }) ∙ sym (out-is (bare n) e)

    pub run-unsound : sound b ≡ false → record { number = 1; length = 0; output = o } ≡ run_out b v o
    run-unsound s = bare-out 1 answer
      where
        answer : answer_on b (convert v (length o)) ≡ bare 1
        answer = rw s

    pub run-refused : sound b ≡ true → (n : ℕ) → n ≡ convert_number v (length o) → eqb n 0 ≡ false → record { number = n; length = 0; output = o } ≡ run_out b v o
    run-refused s n e z = bare-out n (run-answer s ∙ rw (← e, z))

    pub run-done : sound b ≡ true → 0 ≡ convert_number v (length o) → (w : List ℕ) → w ≡ splice o 0 (joined (venue_run (lot_on b) v))
        → record { number = 0; length = needed_of v; output = w } ≡ run_out b v o
    run-done s e w ew =
        (λ i. record { number = 0; length = needed_of v; output = ew i })
        ∙ sym (out-is (run_told 0 (needed_of v) (joined (venue_run (lot_on b) v))) (run-answer s ∙ rw (← e)))
