-- The length of a book by the code's tests, and reports as numbers.
-- Assumes nothing.
use Prim.Native.Nat.{ℕ, ◌≤◌, ◌<◌}
use mathlib.Core.Path.{◌≡◌, ap, sym, ◌∙◌}
use mathlib.Core.Bool.{Bool, cond}
use mathlib.Core.List.{List, [], ◌∷◌}
use borrow.Author.Tests.{le-leb, lt-leb}
use Rattle.block.specs.Written.{Out, written_out}
use Rattle.calls.specs.Buffers.{TakenBlock, taken, FeedOut, feed_out, OrderOut, order_out, RunOut, run_out}
use Rattle.calls.specs.Call.{Outcome, queried, run_told, fed, call, protected, convert_len, snapshot_len}
use Rattle.quotebook.specs.Interface.{book_len, numbered, taken_numbers, query_numbers, protected_numbers, amount_numbers, length_numbers, run_numbers, converted_numbers, out_numbers, written_numbers, order_numbers, tried_numbers, SizeNumbers, size_numbers, feed_sized, feed_numbers, head_numbers, log_numbers, replayed_numbers, restored_numbers, QueryNumbers}
use Rattle.std.specs.Prelude.{Result, Ok, Err}
use Rattle.std.specs.Result.{result_unwrap_or}
use Rattle.numbers.specs.declared.Refusal.{Refusal}
use Rattle.numbers.specs.Numbers.{answered, told_if_ok}
use Rattle.logform.specs.Log.{Told, told, head_of}
use Rattle.logform.specs.declared.Head.{Head}
use Rattle.logcalls.specs.Replayed.{Replayed, replayed}
use Rattle.logcalls.specs.Restored.{restored}
use Rattle.opening.specs.Layout.{book_length, symbols_most}

module _ (n : ℕ) where
  pub len-none : n < 1 → 0 ≡ book_len n
  unfolding book_len
  len-none h = rw (lt-leb 1 n h)

  pub len-many : 1 ≤ n → symbols_most < n → 0 ≡ book_len n
  unfolding book_len
  len-many l h = rw (le-leb 1 n l, lt-leb n symbols_most h)

  pub len-good : 1 ≤ n → n ≤ 64 → book_length n ≡ book_len n
  unfolding book_len
  len-good l u = rw (le-leb 1 n l, le-leb n symbols_most u)

pub numbers-told : (b : List ℕ) → (i : ℕ) → (k : List ℕ) → (answer : List ℕ) → (t : TakenBlock) → t ≡ taken b i k answer → numbered t ≡ taken_numbers b i k answer
unfolding taken_numbers
numbers-told b i k answer t h = ap numbered h

pub numbers-written : (b ns : List ℕ) (s : ℕ) (out : List ℕ) (o : Out) → o ≡ written_out b ns s out → out_numbers o ≡ written_numbers b ns s out
unfolding written_numbers
numbers-written b ns s out o h = ap out_numbers h

pub query-told : (b s : List ℕ) (m x n y l : ℕ) (t : Bool) → y ≡ cond t 1 0 → record { bytes = b; answer = queried n (cond t 1 0) l } ≡ call b (protected s m x)
    → record { number = n; report = n ∷ y ∷ l ∷ [] } ≡ protected_numbers b s m x
unfolding protected_numbers
query-told b s m x n y l t e h = rw e (ap (λ (o : Outcome). query_numbers o.answer) h)

pub length-numbered : (b v : List ℕ) (n l : ℕ) → record { bytes = b; answer = run_told n l [] } ≡ call b (convert_len v) → record { number = n; report = n ∷ l ∷ [] } ≡ length_numbers b v
unfolding length_numbers
length-numbered b v n l h = ap (λ (o : Outcome). amount_numbers o.answer) h

pub run-numbered : (b v out : List ℕ) (o : RunOut) → o ≡ run_out b v out → run_numbers o ≡ converted_numbers b v out
unfolding converted_numbers
run-numbered b v out o h = ap run_numbers h

pub size-told : (b s : List ℕ) (n k l : ℕ) → record { bytes = b; answer = fed n k l [] } ≡ call b (snapshot_len s) → record { number = n; size = k ∷ l ∷ [] } ≡ size_numbers b s
unfolding size_numbers
size-told b s n k l h = ap (λ (o : Outcome). record { number = o.answer.number; size = o.answer.found ∷ o.answer.amount ∷ [] }) h

pub feed-sized : (b s out : List ℕ) (f : FeedOut) → f ≡ feed_out b s out → feed_sized f ≡ feed_numbers b s out
unfolding feed_numbers
feed-sized b s out f h = ap feed_sized h

pub order-told : (b s : List ℕ) (m w : ℕ) (steps : List ℕ) (o : OrderOut) → o ≡ order_out b s m w steps → order_numbers o ≡ tried_numbers b s m w steps
unfolding tried_numbers
order-told b s m w steps o h = ap order_numbers h

pub head-numbered : (log : List ℕ) (h : Told) → h ≡ head_of log → record { number = h.number; report = h.number ∷ h.n ∷ h.requests ∷ [] } ≡ head_numbers log
unfolding head_numbers
head-numbered log h e = ap (λ (x : Told). record { number = x.number; report = x.number ∷ x.n ∷ x.requests ∷ [] }) e

pub replay-numbered : (b log : List ℕ) (from : ℕ) (out : List ℕ) (r : Replayed) → r ≡ replayed b log from out → log_numbers r ≡ replayed_numbers b log from out
unfolding replayed_numbers
replay-numbered b log from out r e = ap log_numbers e

pub restore-numbered : (b log out : List ℕ) (r : Replayed) → r ≡ restored b log out → log_numbers r ≡ restored_numbers b log out
unfolding restored_numbers
restore-numbered b log out r e = ap log_numbers e

-- ---- a call's parts

module _ {A : Type 0} (none : A) (r : Result A Refusal) (n : ℕ) (a : A) (number : n ≡ answered r) (value : a ≡ result_unwrap_or r none) where
  pub part-told : (f : A → ℕ) → f none ≡ 0 → told_if_ok r f ≡ f a
  part-told f z = go r value
    where
      go : (x : Result A Refusal) → a ≡ result_unwrap_or x none → told_if_ok x f ≡ f a
      go (Ok v) e = ap f (sym e)
      go (Err x) e = sym z ∙ ap f (sym e)

-- the head of a log by its parts
pub head-parts : (r : Result Head Refusal) (n : ℕ) (h : Head) → n ≡ answered r → h ≡ result_unwrap_or r (record { n = 0; requests = 0 }) → record { number = n; n = h.n; requests = h.requests } ≡ told r
head-parts (Ok v) n h a b = λ j. record { number = a j; n = (b j).n; requests = (b j).requests }
head-parts (Err v) n h a b = λ j. record { number = a j; n = (b j).n; requests = (b j).requests }
