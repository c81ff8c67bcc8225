-- The loops of the writer, turn by turn, over plain values.
-- Assumes nothing.
use Prim.Native.Nat.{ℕ, ◌+◌, ◌≤◌, ◌<◌}
use mathlib.Core.Path.{◌≡◌, refl, sym, ap, ◌∙◌}
use mathlib.Core.Bool.{Bool, true, false, cond}
use mathlib.Core.List.{List, [], ◌∷◌}
use native.Mathlib.Omega.{arith}
use native.Mathlib.Nat.{add-zero}
use native.Mathlib.Numerals.{add-one}
use lib.ListN.{length, set, take, drop, get_or, drop_of_length-le}
use lib.Seq.{drop-cons, drop-drop, get_or-take, get_or-drop}
use borrow.Author.Tests.{eq-eqb, ne_eqb}
use Rattle.field.specs.Field.{part, splice, be_bytes}
use Rattle.field.proofs.Laws.{splice-join, splice-one, splice-part, length-splice}
use Rattle.block.specs.Block.{offset_at, is_control}
use Rattle.block.specs.Written.{offsets, cut_by, any_control}

cons-at : (l : List ℕ) (i : ℕ) → i < length l → drop i l ≡ get_or l i 0 ∷ drop (i + 1) l
cons-at l i h = drop-cons l i 0 h ∙ ap (λ (k : ℕ). get_or l i 0 ∷ drop k l) (sym (add-one i))

splice-none : (s : List ℕ) (at : ℕ) → at ≤ length s → s ≡ splice s at []
unfolding part
splice-none s at h = sym (splice-part s at 0 (omega arith))

-- ---- a copy

pub copy-again : (s m w : List ℕ) (at i : ℕ) → i < length m → at + i < length s → splice s (at + i) (drop i m) ≡ w
    → splice (set s (at + i) (get_or m i 0)) (at + (i + 1)) (drop (i + 1) m) ≡ w
copy-again s m w at i h l inv =
    let e : at + (i + 1) ≡ at + i + 1 = omega arith in
    ap (λ (k : ℕ). splice (set s (at + i) (get_or m i 0)) k (drop (i + 1) m)) e
    ∙ ap (λ (z : List ℕ). splice z (at + i + 1) (drop (i + 1) m)) (splice-one s (at + i) (get_or m i 0) l)
    ∙ splice-join s (at + i) 1 (get_or m i 0 ∷ []) (drop (i + 1) m) refl
    ∙ ap (splice s (at + i)) (sym (cons-at m i h))
    ∙ inv

pub copy-end : (s m w : List ℕ) (at i : ℕ) → length m ≤ i → at + i ≤ length s → splice s (at + i) (drop i m) ≡ w → s ≡ w
copy-end s m w at i h l inv = splice-none s (at + i) l ∙ ap (splice s (at + i)) (sym (drop_of_length-le m h)) ∙ inv

-- ---- the table

pub length-put : (b b' : List ℕ) (at v : ℕ) → b' ≡ splice b at (be_bytes 2 v) → at + 2 ≤ length b → length b' ≡ length b
unfolding be_bytes
length-put b b' at v e h = ap length e ∙ length-splice b at (be_bytes 2 v) h

pub offsets-again : (b b' ns w : List ℕ) (a i : ℕ) → i < length ns → splice b (offset_at i) (offsets a (drop i ns)) ≡ w → b' ≡ splice b (offset_at i) (be_bytes 2 a)
    → splice b' (offset_at (i + 1)) (offsets (a + get_or ns i 0) (drop (i + 1) ns)) ≡ w
unfolding offsets be_bytes
offsets-again b b' ns w a i h inv e =
    let q : offset_at (i + 1) ≡ offset_at i + 2 = omega arith in
    (λ j. splice (e j) (q j) (offsets (a + get_or ns i 0) (drop (i + 1) ns)))
    ∙ splice-join b (offset_at i) 2 (be_bytes 2 a) (offsets (a + get_or ns i 0) (drop (i + 1) ns)) refl
    ∙ ap (λ (l : List ℕ). splice b (offset_at i) (offsets a l)) (sym (cons-at ns i h))
    ∙ inv

pub offsets-end : (b ns w : List ℕ) (a i : ℕ) → length ns ≤ i → offset_at i ≤ length b → splice b (offset_at i) (offsets a (drop i ns)) ≡ w → b ≡ w
unfolding offsets
offsets-end b ns w a i h l inv = splice-none b (offset_at i) l ∙ ap (λ (x : List ℕ). splice b (offset_at i) (offsets a x)) (sym (drop_of_length-le ns h)) ∙ inv

-- ---- a control message

pub control-step : (ns b : List ℕ) (i a : ℕ) → i < length ns → any_control (cut_by (drop i ns) (drop a b)) ≡ cond (is_control (take (get_or ns i 0) (drop a b))) true (any_control (cut_by (drop (i + 1) ns) (drop (a + get_or ns i 0) b)))
unfolding any_control cut_by
control-step ns b i a h = rw (cons-at ns i h, drop-drop (get_or ns i 0) a b)

pub control-end : (ns b : List ℕ) (i a : ℕ) → length ns ≤ i → any_control (cut_by (drop i ns) (drop a b)) ≡ false
unfolding any_control cut_by
control-end ns b i a h = rw (drop_of_length-le ns h)

-- the first byte of a message of n bytes, 20 or more, that starts at a
first_byte : (b : List ℕ) (a n : ℕ) → 20 ≤ n → get_or (take n (drop a b)) 0 0 ≡ get_or b a 0
first_byte b a n h = get_or-take n (drop a b) 0 0 (omega arith) ∙ get_or-drop a b 0 0 ∙ ap (λ (k : ℕ). get_or b k 0) (add-zero a)

module _ (ns b : List ℕ) (w : Bool) (i a : ℕ) (h : i < length ns) (n : 20 ≤ get_or ns i 0) (inv : any_control (cut_by (drop i ns) (drop a b)) ≡ w) where
  pub control-found : get_or b a 0 ≡ 67 → true ≡ w
  control-found e = sym (ap (λ (t : Bool). cond t true (any_control (cut_by (drop (i + 1) ns) (drop (a + get_or ns i 0) b)))) (eq-eqb (get_or (take (get_or ns i 0) (drop a b)) 0 0) 67 (first_byte b a (get_or ns i 0) n ∙ e))) ∙ sym (control-step ns b i a h) ∙ inv

  pub control-not : (get_or b a 0 ≡ 67 → ⊥) → any_control (cut_by (drop (i + 1) ns) (drop (a + get_or ns i 0) b)) ≡ w
  control-not e = sym (ap (λ (t : Bool). cond t true (any_control (cut_by (drop (i + 1) ns) (drop (a + get_or ns i 0) b)))) (ne_eqb (get_or (take (get_or ns i 0) (drop a b)) 0 0) 67 (λ z. e (sym (first_byte b a (get_or ns i 0) n) ∙ z)))) ∙ sym (control-step ns b i a h) ∙ inv
