-- Parts of zeros, and of a list in which zeros were written.
-- Assumes nothing.
use Prim.Native.Nat.{ℕ, zero, suc, ◌+◌, ◌-◌, ◌≤◌}
use mathlib.Core.Path.{◌≡◌, refl, ap, ◌∙◌}
use mathlib.Core.List.{List, [], ◌∷◌, append-nil}
use native.Mathlib.Omega.{arith}
use native.Mathlib.Nat.{add-zero}
use lib.Dec.{lit<}
use lib.ListN.{length, take, drop, replicate, length-replicate, take-append-drop}
use Rattle.field.specs.Field.{Bytes, part, splice}
use Rattle.field.proofs.Laws.{part-splice}

drop-zeros : (i n : ℕ) → drop {A = ℕ} i (replicate n 0) ≡ replicate (n - i) 0
drop-zeros zero n = let e : n ≡ n - 0 = omega arith in ap (λ (k : ℕ). replicate {A = ℕ} k 0) e
drop-zeros (suc i) zero = let e : 0 ≡ 0 - suc i = omega arith in ap (λ (k : ℕ). replicate {A = ℕ} k 0) e
drop-zeros (suc i) (suc n) = drop-zeros i n ∙ (let e : n - i ≡ suc n - suc i = omega arith in ap (λ (k : ℕ). replicate {A = ℕ} k 0) e)

take-zeros : (w n : ℕ) → w ≤ n → take {A = ℕ} w (replicate n 0) ≡ replicate w 0
take-zeros zero n h = refl
take-zeros (suc w) zero h = absurd (omega arith)
take-zeros (suc w) (suc n) h = ap (λ (z : List ℕ). 0 ∷ z) (take-zeros w n (omega arith))

pub part-zeros : (n i w : ℕ) → i + w ≤ n → part (replicate n 0) i w ≡ replicate w 0
unfolding part
part-zeros n i w h = ap (take w) (drop-zeros i n) ∙ take-zeros w (n - i) (omega arith)

pub length-zeros : (n : ℕ) → length {A = ℕ} (replicate n 0) ≡ n
length-zeros n = length-replicate {A = ℕ} n 0

pub bytes-zeros : (n : ℕ) → Bytes (replicate n 0)
bytes-zeros zero i = lit< tt
bytes-zeros (suc n) zero = lit< tt
bytes-zeros (suc n) (suc i) = bytes-zeros n i

-- n zeros written at a
pub part-zeroed : (p : List ℕ) (a n at w : ℕ) → a ≤ length p → a ≤ at → at + w ≤ a + n → part (splice p a (replicate n 0)) at w ≡ replicate w 0
part-zeroed p a n at w h l k =
    let e : at ≡ a + (at - a) = omega arith in
    let m : (at - a) + w ≤ length {A = ℕ} (replicate n 0) = rw (length-zeros n) (omega arith) in
    ap (λ (i : ℕ). part (splice p a (replicate n 0)) i w) e ∙ part-splice p a (replicate n 0) (at - a) w h m ∙ part-zeros n (at - a) w (omega arith)

-- nothing written
pub splice-nothing : (p : List ℕ) (a : ℕ) → splice p a [] ≡ p
unfolding splice
splice-nothing p a = rw (append-nil (take a p), add-zero a) (take-append-drop a p)
