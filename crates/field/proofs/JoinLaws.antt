-- Parts of lists end to end.
-- Assumes nothing.
use Prim.Native.Nat.{ℕ, ◌+◌, ◌≤◌}
use mathlib.Core.Path.{◌≡◌, sym, ap}
use mathlib.Core.List.{List, ◌++◌}
use native.Mathlib.Omega.{arith}
use lib.ListN.{length, take, drop, length-drop}
use lib.Seq.{take-append-le, drop-append-le, drop-append-add, take-length}
use Rattle.field.specs.Field.{part}

pub part-front : (a x : List ℕ) (i w : ℕ) → i + w ≤ length a → part (a ++ x) i w ≡ part a i w
unfolding part
part-front a x i w h =
    let c : w ≤ length (drop i a) = rw length-drop (omega arith) in
    rw (drop-append-le i a x (omega arith), take-append-le w (drop i a) x c)

pub part-after : (a x : List ℕ) (n i w : ℕ) → length a ≡ n → part (a ++ x) (n + i) w ≡ part x i w
unfolding part
part-after a x n i w e = ap (take w) (rw (sym e) (drop-append-add a x i))

pub part-whole : (a : List ℕ) (n : ℕ) → length a ≡ n → part a 0 n ≡ a
unfolding part
part-whole a n e = rw (sym e) (take-length a)
