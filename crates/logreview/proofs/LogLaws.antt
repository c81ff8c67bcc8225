-- What is needed of the calls in a log: their blocks are bytes; those that are carried out come first, and are all of them unless there was no room.
-- Assumes nothing.
use Prim.Native.Nat.{ℕ, zero, suc, ◌+◌, ◌-◌, ◌≤◌, ◌<◌}
use mathlib.Core.Path.{◌≡◌, refl, ap, sym, ◌∙◌}
use mathlib.Core.Bool.{Bool, true, false, ◌&&◌, cond}
use mathlib.Core.List.{List, [], ◌∷◌, ◌++◌}
use Rattle.std.specs.Prelude.{Option, None, Some}
use native.Mathlib.Omega.{arith}
use lib.Dec.{ltb, eqb, leb}
use lib.ListN.{length, take, drop}
use Rattle.lists.specs.Lists.{every}
use Rattle.lists.proofs.Tests.{and-true}
use Rattle.field.specs.Field.{part}
use Rattle.logform.specs.Log.{check_length, entry_at, arguments_of}
use Rattle.logform.specs.declared.Place.{Place}
use Rattle.logform.specs.declared.Entry.{Entry}
use Rattle.logform.specs.declared.Entry.TheVariants.{End, Cut, Damaged, Record}
use Rattle.calls.specs.Call.{Call, Answer, call, answers, bytes_after}
use Rattle.review.specs.Lists.{are_bytes, block_is_bytes, blocks_are_bytes}
use Rattle.review.specs.Reviewer.{Review, review_call, review_answers, review_after}
use Rattle.logcalls.specs.Kinds.{call_of}
use Rattle.logcalls.specs.Answers.{answer_bytes, answer_most}
use Rattle.logcalls.specs.Replayed.{Next, stops, calls, next_by, next_in, next_at, calls_by, calls_from, place_by, place_after, number_by, fitting}

-- ---- bytes of a log are bytes

drop-bytes : (k : ℕ) (s : List ℕ) → are_bytes s ≡ true → are_bytes (drop k s) ≡ true
unfolding every
drop-bytes zero s e = e
drop-bytes (suc k) [] e = refl
drop-bytes (suc k) (x ∷ s) e = drop-bytes k s (and-true (ltb x 256) (are_bytes s) e).1

take-bytes : (k : ℕ) (s : List ℕ) → are_bytes s ≡ true → are_bytes (take k s) ≡ true
unfolding every
take-bytes zero s e = refl
take-bytes (suc k) [] e = refl
take-bytes (suc k) (x ∷ s) e =
    let b : (ltb x 256 ≡ true) × (are_bytes s ≡ true) = and-true (ltb x 256) (are_bytes s) e in
    rw b.0 (take-bytes k s b.1)

part_bytes : (s : List ℕ) (at w : ℕ) → are_bytes s ≡ true → are_bytes (part s at w) ≡ true
unfolding part
part_bytes s at w e = take-bytes w (drop at s) (drop-bytes at s e)

-- whatever call a record's arguments give
abbrev option_bytes : Option Call → Bool
option_bytes None = true
option_bytes (Some c) = block_is_bytes c

both : (t : Bool) (o p : Option Call) → option_bytes o ≡ true → option_bytes p ≡ true → option_bytes (cond t o p) ≡ true
both true o p a b = a
both false o p a b = b

given : (t : Bool) (c : Call) → block_is_bytes c ≡ true → option_bytes (cond t (Some c) None) ≡ true
given true c e = e
given false c e = refl

call-bytes : (k : ℕ) (a : List ℕ) → are_bytes a ≡ true → option_bytes (call_of k a) ≡ true
unfolding call_of
call-bytes k a e =
    both (eqb k 1) _ _ (given (eqb (length a) 4) _ refl)
    (both (eqb k 2) _ _ (given (leb 5 (length a)) _ refl)
    (both (eqb k 3) _ _ (given (eqb (length a) 5) _ refl)
    (both (eqb k 4) _ _ (given (eqb (length a) 0) _ refl)
    (both (eqb k 5) _ _ (given (eqb (length a) 0) _ refl)
    (both (eqb k 6) _ _ (given (leb 12 (length a)) _ (drop-bytes 12 a e))
    (both (eqb k 7) _ _ (given (leb 8 (length a)) _ refl)
    (both (eqb k 8) _ _ (given (leb 9 (length a)) _ refl)
    (both (eqb k 9) _ _ refl
    (both (eqb k 10) _ _ (given (leb 8 (length a)) _ refl)
    (both (eqb k 11) _ _ refl
    (both (eqb k 12) _ _ (given (leb 8 (length a)) _ refl)
    (both (eqb k 13) _ _ (given (leb 13 (length a)) _ refl)
    (both (eqb k 14) _ _ (given (leb 4 (length a)) _ refl)
    (both (eqb k 15) _ _ (given (eqb (length a) 0) _ refl) refl))))))))))))))

module _ (log : List ℕ) (bytes : are_bytes log ≡ true) where
  abbrev next_bytes : Next → Bool
  next_bytes (stops n) = true
  next_bytes (calls c n) = block_is_bytes c

  next-bytes : (at : ℕ) → next_bytes (next_at log at) ≡ true
  unfolding next_at
  next-bytes at = go (entry_at log at)
    where
      by : (n : ℕ) (o : Option Call) → option_bytes o ≡ true → next_bytes (next_by n o) ≡ true
      by n None e = refl
      by n (Some c) e = e

      go : (x : Entry) → next_bytes (next_in log x) ≡ true
      go End = refl
      go Cut = refl
      go Damaged = refl
      go (Record p) = by (p.stop + check_length) (call_of p.kind (arguments_of log p)) (call-bytes p.kind (arguments_of log p) (part_bytes log p.start (p.stop - p.start) bytes))

  -- the blocks of a log that is bytes are bytes
  pub from_bytes : (k at : ℕ) → blocks_are_bytes (calls_from k log at) ≡ true
  unfolding calls_from blocks_are_bytes
  from_bytes zero at = refl
  from_bytes (suc k) at = go (next_at log at) (next-bytes at) (from_bytes k)
    where
      go : (x : Next) → next_bytes x ≡ true → ((next : ℕ) → blocks_are_bytes (calls_from k log next) ≡ true) → blocks_are_bytes (calls_by (calls_from k log) x) ≡ true
      go (stops n) e ih = refl
      go (calls c next) e ih = rw e (ih next)

-- ---- lists of calls, one behind the other

pub append-bytes : (xs ys : List Call) → blocks_are_bytes xs ≡ true → blocks_are_bytes ys ≡ true → blocks_are_bytes (xs ++ ys) ≡ true
unfolding blocks_are_bytes
append-bytes [] ys a b = b
append-bytes (c ∷ xs) ys a b =
    let p : (block_is_bytes c ≡ true) × (blocks_are_bytes xs ≡ true) = and-true (block_is_bytes c) (blocks_are_bytes xs) a in
    rw p.0 (append-bytes xs ys p.1 b)

pub append-after : (b : List ℕ) (xs ys : List Call) → bytes_after b (xs ++ ys) ≡ bytes_after (bytes_after b xs) ys
append-after b [] ys = refl
append-after b (c ∷ xs) ys = append-after (call b c).bytes xs ys

rest : List Answer → List Answer
rest [] = []
rest (x ∷ xs) = xs

-- if all answers agree, so do those behind the first list
pub later-answers : (b : List ℕ) (v : Review) (xs ys : List Call) → answers b (xs ++ ys) ≡ review_answers v (xs ++ ys) → answers (bytes_after b xs) ys ≡ review_answers (review_after v xs) ys
later-answers b v [] ys e = e
later-answers b v (c ∷ xs) ys e = later-answers (call b c).bytes (review_call v c) xs ys (unfold rest in ap rest e)

-- ---- the calls that the output has room for

-- the output's place behind a call's answer
abbrev behind : ℕ → List ℕ → Call → ℕ
behind w b c = w + length (answer_bytes (call b c).answer)

pub fitting-bytes : (n w : ℕ) (b : List ℕ) (cs : List Call) → blocks_are_bytes cs ≡ true → blocks_are_bytes (fitting n w b cs) ≡ true
unfolding fitting blocks_are_bytes
fitting-bytes n w b [] e = refl
fitting-bytes n w b (c ∷ cs) e =
    let p : (block_is_bytes c ≡ true) × (blocks_are_bytes cs ≡ true) = and-true (block_is_bytes c) (blocks_are_bytes cs) e in
    go (ltb (n - w) answer_most) p.0 (fitting-bytes n (behind w b c) (call b c).bytes cs p.1)
  where
    go : (t : Bool) → block_is_bytes c ≡ true → blocks_are_bytes (fitting n (behind w b c) (call b c).bytes cs) ≡ true
        → blocks_are_bytes (cond t [] (c ∷ fitting n (behind w b c) (call b c).bytes cs)) ≡ true
    go true h k = refl
    go false h k = rw h k

-- they come first
pub fitting-first : (n w : ℕ) (b : List ℕ) (cs : List Call) → fitting n w b cs ≡ take (length (fitting n w b cs)) cs
unfolding fitting
fitting-first n w b [] = refl
fitting-first n w b (c ∷ cs) = go (ltb (n - w) answer_most) (fitting n (behind w b c) (call b c).bytes cs) (fitting-first n (behind w b c) (call b c).bytes cs)
  where
    go : (t : Bool) (fs : List Call) → fs ≡ take (length fs) cs → cond t [] (c ∷ fs) ≡ take (length (cond t [] (c ∷ fs))) (c ∷ cs)
    go true fs e = refl
    go false fs e = ap (λ (xs : List Call). c ∷ xs) e

-- and are all calls in the log, unless the replay stopped for want of room
pub fitting-all : (log : List ℕ) (n k at w : ℕ) (b : List ℕ)
    → (number_by (next_at log (place_after (length (fitting n w b (calls_from k log at))) log at)) ≡ 93 → ⊥) → fitting n w b (calls_from k log at) ≡ calls_from k log at
unfolding fitting calls_from place_after
fitting-all log n zero at w b h = refl
fitting-all log n (suc k) at w b h = go (next_at log at) refl h (λ (next v : ℕ) (a : List ℕ). fitting-all log n k next v a)
  where
    go : (x : Next) → next_at log at ≡ x
        → (number_by (next_at log (place_after (length (fitting n w b (calls_by (calls_from k log) x))) log at)) ≡ 93 → ⊥)
        → ((next v : ℕ) (a : List ℕ) → (number_by (next_at log (place_after (length (fitting n v a (calls_from k log next))) log next)) ≡ 93 → ⊥) → fitting n v a (calls_from k log next) ≡ calls_from k log next)
        → fitting n w b (calls_by (calls_from k log) x) ≡ calls_by (calls_from k log) x
    go (stops m) e h ih = refl
    go (calls c next) e h ih = room (ltb (n - w) answer_most) (fitting n (behind w b c) (call b c).bytes (calls_from k log next)) (ih next (behind w b c) (call b c).bytes) h
      where
        room : (t : Bool) (fs : List Call) → ((number_by (next_at log (place_after (length fs) log next)) ≡ 93 → ⊥) → fs ≡ calls_from k log next)
            → (number_by (next_at log (place_after (length (cond t [] (c ∷ fs))) log at)) ≡ 93 → ⊥) → cond t [] (c ∷ fs) ≡ c ∷ calls_from k log next
        room true fs i g = absurd (g (ap number_by e))
        room false fs i g = ap (λ (xs : List Call). c ∷ xs) (i (λ q. g (ap (λ (x : Next). number_by (next_at log (place_by (place_after (length fs) log) at x))) e ∙ q)))
