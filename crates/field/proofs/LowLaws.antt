-- The laws of `specs/Low.antt`, each over the width. Assumes nothing.
use mathlib.Core.Path.{◌≡◌, refl, sym, ap, ap₂, ◌∙◌, subst}
use Prim.Native.Nat.{ℕ, zero, suc, ◌+◌, ◌*◌, ◌/◌, ◌%◌, ◌^◌, ◌≤◌, ◌<◌}
use mathlib.Core.List.{List, [], ◌∷◌, ◌++◌}
use native.Mathlib.Nat.{mul-add, mul_assoc, mul_comm, pow-suc, pow-succ', mod-eq_of_lt, mod-lt, zero-lt-suc, add-zero, zero-add, suc-add, div-one, div-add-mod', div-div-eq-div-mul}
use native.Mathlib.Omega.{arith}
use native.Mathlib.Numerals.{add-one}
use lib.Dec.{lit<}
use lib.ListN.{length, take, drop}
use Rattle.field.specs.Field.{Bytes, be, be_bytes, part, field, splice}
use Rattle.field.specs.Low.{le, le_bytes, low}
use Rattle.field.specs.code.Swap.{swapped}
use Rattle.field.proofs.Laws.{be-append, length-be_bytes, bytes-be_bytes, be_bytes-join, part_join, part-part, length_part, bytes-part, splice-join}

-- ---- le

pub le-append : (a b : List ℕ) → le (a ++ b) ≡ le a + 256 ^ length a * le b
unfolding le
le-append [] b = omega arith
le-append (x ∷ a) b =
    ap (λ (n : ℕ). x + 256 * n) (le-append a b)
    ∙ omega (
      arith,
      mul-add 256 (le a) (256 ^ length a * le b),
      mul_assoc 256 (256 ^ length a) (le b),
      ap (λ (n : ℕ). n * le b) (mul_comm 256 (256 ^ length a) ∙ sym (pow-suc 256 (length a))),
    )

-- each is below its width's bound
pub le-lt : (bs : List ℕ) → Bytes bs → le bs < 256 ^ length bs
unfolding le
le-lt [] h = lit< tt
le-lt (b ∷ bs) h = let k : b < 256 = h 0 in omega (arith, le-lt bs (λ i. h (suc i)), pow-succ' 256 (length bs))

pub low-lt : (p : List ℕ) (at w : ℕ) → at + w ≤ length p → Bytes p → low p at w < 256 ^ w
unfolding low
low-lt p at w h b = subst (λ (n : ℕ). le (part p at w) < 256 ^ n) (length_part p at w h) (le-lt (part p at w) (bytes-part p at w b))

-- a number within a part; at the part's start
pub low_part : (p : List ℕ) (at n k w : ℕ) → k + w ≤ n → low (part p at n) k w ≡ low p (at + k) w
unfolding low
low_part p at n k w h = ap le (part-part p at n k w h)

pub low-part-0 : (p : List ℕ) (at n w : ℕ) → w ≤ n → low (part p at n) 0 w ≡ low p at w
low-part-0 p at n w h = low_part p at n 0 w (omega arith) ∙ ap (λ (k : ℕ). low p k w) (add-zero at)

pub low-join : (m n : ℕ) (p : List ℕ) (at : ℕ) → at + (m + n) ≤ length p → low p at m + low p (at + m) n * 256 ^ m ≡ low p at (m + n)
unfolding low
low-join m n p at h =
    sym (ap le (part_join p at m n) ∙ le-append (part p at m) (part p (at + m) n)
    ∙ ap (λ (k : ℕ). le (part p at m) + 256 ^ k * le (part p (at + m) n)) (length_part p at m (omega arith))
    ∙ ap (λ (k : ℕ). le (part p at m) + k) (mul_comm (256 ^ m) (le (part p (at + m) n))))

-- of one byte, both orders are one
pub low-one : (p : List ℕ) (at : ℕ) → low p at 1 ≡ field p at 1
unfolding low field part le be
low-one p at = single (drop at p)
  where
    single : (l : List ℕ) → le (take 1 l) ≡ be (take 1 l)
    single [] = refl
    single (x ∷ l) = omega arith

-- ---- le_bytes

pub length-le_bytes : (w v : ℕ) → length (le_bytes w v) ≡ w
unfolding le_bytes
length-le_bytes zero v = refl
length-le_bytes (suc w) v = ap suc (length-le_bytes w (v / 256))

pub bytes-le_bytes : (w v : ℕ) → Bytes (le_bytes w v)
unfolding le_bytes
bytes-le_bytes zero v i = lit< tt
bytes-le_bytes (suc w) v zero = mod-lt v (zero-lt-suc 255)
bytes-le_bytes (suc w) v (suc i) = bytes-le_bytes w (v / 256) i

pub le-le_bytes : (w v : ℕ) → v < 256 ^ w → le (le_bytes w v) ≡ v
unfolding le le_bytes
le-le_bytes zero v h = omega arith
le-le_bytes (suc w) v h = let k : v / 256 < 256 ^ w = omega (arith, pow-succ' 256 w) in omega (arith, le-le_bytes w (v / 256) k)

le_bytes-low : (w v q : ℕ) → le_bytes w (v + 256 ^ w * q) ≡ le_bytes w v
unfolding le_bytes
le_bytes-low zero v q = refl
le_bytes-low (suc w) v q =
    let e : 256 ^ suc w * q ≡ 256 * (256 ^ w * q) = ap (λ (n : ℕ). n * q) (pow-succ' 256 w) ∙ mul_assoc 256 (256 ^ w) q in
    let h : (v + 256 ^ suc w * q) % 256 ≡ v % 256 = omega arith in
    let t : (v + 256 ^ suc w * q) / 256 ≡ v / 256 + 256 ^ w * q = omega arith in
    ap₂ ◌∷◌ h (ap (le_bytes w) t ∙ le_bytes-low w (v / 256) q)

pub le_bytes-mod : (w v : ℕ) → le_bytes w (v % 256 ^ w) ≡ le_bytes w v
le_bytes-mod w v =
    let e : v % 256 ^ w + 256 ^ w * (v / 256 ^ w) ≡ v = omega (arith, div-add-mod' v (256 ^ w), mul_comm (256 ^ w) (v / 256 ^ w)) in
    sym (le_bytes-low w (v % 256 ^ w) (v / 256 ^ w)) ∙ ap (le_bytes w) e

pub le_bytes-join : (m n v : ℕ) → le_bytes (m + n) v ≡ le_bytes m v ++ le_bytes n (v / 256 ^ m)
unfolding le_bytes
le_bytes-join zero n v = ap₂ le_bytes (zero-add n) (sym (div-one v))
le_bytes-join (suc m) n v =
    ap (λ (k : ℕ). le_bytes k v) (suc-add m n)
    ∙ ap (λ (l : List ℕ). (v % 256) ∷ l) (le_bytes-join m n (v / 256)
    ∙ ap (λ (k : ℕ). le_bytes m (v / 256) ++ le_bytes n k) (div-div-eq-div-mul v 256 (256 ^ m) ∙ ap (λ (k : ℕ). v / k) (sym (pow-succ' 256 m))))

pub le_bytes-one : (v : ℕ) → le_bytes 1 v ≡ be_bytes 1 v
unfolding le_bytes be_bytes
le_bytes-one v = ap (λ (n : ℕ). n % 256 ∷ []) (sym (div-one v))

-- the bytes of a list's value are the list
pub le_bytes-le : (bs : List ℕ) → Bytes bs → le_bytes (length bs) (le bs) ≡ bs
unfolding le le_bytes
le_bytes-le [] h = refl
le_bytes-le (b ∷ bs) h =
    let k : b < 256 = h 0 in
    let r : (b + 256 * le bs) % 256 ≡ b = omega arith in
    let q : (b + 256 * le bs) / 256 ≡ le bs = omega arith in
    ap₂ ◌∷◌ r (ap (le_bytes (length bs)) q ∙ le_bytes-le bs (λ i. h (suc i)))

-- a number of m + n bytes is written as its remainder in m bytes and its quotient in n bytes
pub put-low-join : (m n : ℕ) (p : List ℕ) (at v : ℕ) → splice (splice p at (le_bytes m (v % 256 ^ m))) (at + m) (le_bytes n (v / 256 ^ m)) ≡ splice p at (le_bytes (m + n) v)
put-low-join m n p at v =
    ap (λ (b : List ℕ). splice (splice p at b) (at + m) (le_bytes n (v / 256 ^ m))) (le_bytes-mod m v)
    ∙ splice-join p at m (le_bytes m v) (le_bytes n (v / 256 ^ m)) (length-le_bytes m v)
    ∙ ap (splice p at) (sym (le_bytes-join m n v))

-- ---- swapped

-- the halves change places
pub swap-join : (m n v : ℕ) → swapped m (v % 256 ^ m) * 256 ^ n + swapped n (v / 256 ^ m) ≡ swapped (m + n) v
unfolding swapped
swap-join m n v =
    ap (λ (l : List ℕ). be l * 256 ^ n + be (le_bytes n (v / 256 ^ m))) (le_bytes-mod m v)
    ∙ ap (λ (k : ℕ). be (le_bytes m v) * 256 ^ k + be (le_bytes n (v / 256 ^ m))) (sym (length-le_bytes n (v / 256 ^ m)))
    ∙ sym (be-append (le_bytes m v) (le_bytes n (v / 256 ^ m)))
    ∙ ap be (sym (le_bytes-join m n v))

-- it is the same, read the one way or the other
swap-back : (w v : ℕ) → swapped w v ≡ le (be_bytes w v)
unfolding swapped be le_bytes le be_bytes
swap-back zero v = refl
swap-back (suc w) v =
    let e : be_bytes (suc w) v ≡ be_bytes w (v / 256) ++ ((v % 256) ∷ []) =
    ap (λ (k : ℕ). be_bytes k v) (sym (add-one w)) ∙ be_bytes-join w 1 v
    ∙ ap (λ (n : ℕ). be_bytes w (v / 256) ++ (n % 256 ∷ [])) (div-one v) in
    ap (λ (k : ℕ). v % 256 * 256 ^ k + be (le_bytes w (v / 256))) (length-le_bytes w (v / 256))
    ∙ ap (λ (k : ℕ). v % 256 * 256 ^ w + k) (swap-back w (v / 256))
    ∙ omega (
      arith,
      ap le e,
      le-append (be_bytes w (v / 256)) ((v % 256) ∷ []),
      ap (λ (k : ℕ). 256 ^ k * (v % 256 + 256 * 0)) (length-be_bytes w (v / 256)),
      mul_comm (256 ^ w) (v % 256),
    )

-- what was read in the machine's order and swapped is the field
pub swapped-low : (p : List ℕ) (at w : ℕ) → at + w ≤ length p → Bytes p → swapped w (low p at w) ≡ field p at w
unfolding swapped low field
swapped-low p at w h b =
    ap (λ (k : ℕ). be (le_bytes k (le (part p at w)))) (sym (length_part p at w h)) ∙ ap be (le_bytes-le (part p at w) (bytes-part p at w b))

-- what was swapped and written in the machine's order are the bytes, the highest first
pub le_bytes-swapped : (w v : ℕ) → le_bytes w (swapped w v) ≡ be_bytes w v
le_bytes-swapped w v =
    ap (le_bytes w) (swap-back w v)
    ∙ ap (λ (k : ℕ). le_bytes k (le (be_bytes w v))) (sym (length-be_bytes w v))
    ∙ le_bytes-le (be_bytes w v) (bytes-be_bytes w v)

-- ---- the arithmetic of the code

pub swap-two : (v : ℕ) → v < 65536 → v % 256 * 256 + v / 256 ≡ swapped 2 v
unfolding swapped be le_bytes
swap-two v h = omega arith

pub swap_four : (v : ℕ) → v < 4294967296 → v % 256 * 16777216 + v / 256 % 256 * 65536 + v / 65536 % 256 * 256 + v / 16777216 ≡ swapped 4 v
unfolding swapped be le_bytes
swap_four v h =
    let a : v / 65536 ≡ v / 256 / 256 = omega arith in
    let b : v / 16777216 ≡ v / 256 / 256 / 256 = omega arith in
    let c : v / 256 / 256 / 256 % 256 ≡ v / 256 / 256 / 256 = mod-eq_of_lt (omega arith) in
    rw (a, b, c) (omega arith)
