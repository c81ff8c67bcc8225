-- Cells of one width, end to end in a list of bytes: one written, or each changed; and the readings of a range of cells.
-- Assumes nothing.
use Prim.Native.Nat.{ℕ, zero, suc, ◌+◌, ◌*◌, ◌≤◌, ◌<◌}
use mathlib.Core.Path.{◌≡◌, refl, sym, ap, ◌∙◌, subst}
use mathlib.Core.Bool.{Bool, true, false, cond}
use mathlib.Core.Logic.{⊎_elim}
use mathlib.Core.List.{List, [], ◌∷◌, ◌++◌, map}
use native.Mathlib.Omega.{arith}
use native.Mathlib.Nat.{mul-le-mul_right, suc-mul, eq-or-lt_of_le}
use native.Mathlib.Numerals.{add-one}
use lib.Dec.{ltb, eqb}
use lib.ListN.{length}
use borrow.Author.Tests.{ltb-true, ltb-false}
use Rattle.field.specs.Field.{part, splice}
use Rattle.field.proofs.Laws.{length_part, length-splice, part-put, part-before, part-behind}
use Rattle.lists.specs.Lists.{range}
use Rattle.lists.proofs.Ranges.{map_range}
use Rattle.lists.proofs.Tests.{Cut, equal, apart, cut}
use Rattle.update.proofs.Model.{set_at}

-- cell k ends before cell j starts, if k is below j
pub cell-order : (w k j : ℕ) → k < j → k * w + w ≤ j * w
cell-order w k j h = omega (arith, mul-le-mul_right w h, suc-mul k w)

-- ---- one cell written

module _ (b : List ℕ) (base w n k : ℕ) (new : List ℕ) (room : base + n * w ≤ length b) (below : k < n) (wide : length new ≡ w) where
  inside : base + k * w + length new ≤ length b
  inside = omega (arith, cell-order w k n below)

  pub length-put : length (splice b (base + k * w) new) ≡ length b
  length-put = length-splice b (base + k * w) new inside

  pub cell_same : part (splice b (base + k * w) new) (base + k * w) w ≡ new
  cell_same = part-put b (base + k * w) new w wide (omega (arith, inside))

  pub put-before : (at m : ℕ) → at + m ≤ base + k * w → part (splice b (base + k * w) new) at m ≡ part b at m
  put-before at m h = part-before b (base + k * w) new at m (omega (arith, inside)) h

  pub put-behind : (at m : ℕ) → base + k * w + w ≤ at → part (splice b (base + k * w) new) at m ≡ part b at m
  put-behind at m h = part-behind b (base + k * w) new at m (omega arith)

  pub cell_other : (j : ℕ) → (k ≡ j → ⊥) → part (splice b (base + k * w) new) (base + j * w) w ≡ part b (base + j * w) w
  cell_other j d = go (ltb j k) refl
    where
      go : (t : Bool) → ltb j k ≡ t → part (splice b (base + k * w) new) (base + j * w) w ≡ part b (base + j * w) w
      go true e = put-before (base + j * w) w (omega (arith, cell-order w j k (ltb-true j k e)))
      go false e =
          let l : k < j = omega (arith, ltb-false j k e, d) in
          put-behind (base + j * w) w (omega (arith, cell-order w k j l))

pub length-cell : (b : List ℕ) (base w n k : ℕ) → base + n * w ≤ length b → k < n → length (part b (base + k * w) w) ≡ w
length-cell b base w n k room below = length_part b (base + k * w) w (omega (arith, cell-order w k n below))

-- ---- each cell changed

-- the k cells from i on, each changed by f
unfoldable pub each_cell : ℕ → ℕ → (List ℕ → List ℕ) → ℕ → ℕ → List ℕ → List ℕ
each_cell base w f i zero b = b
each_cell base w f i (suc k) b = each_cell base w f (i + 1) k (splice b (base + i * w) (f (part b (base + i * w) w)))

-- what that leaves: each of those cells is changed by f, and nothing before or behind them
pub record Each (base w : ℕ) (f : List ℕ → List ℕ) (i k : ℕ) (b b' : List ℕ) : Type 0 where
  pub size : length b' ≡ length b
  pub before : (at m : ℕ) → at + m ≤ base + i * w → part b' at m ≡ part b at m
  pub behind : (at m : ℕ) → base + (i + k) * w ≤ at → part b' at m ≡ part b at m
  pub cell : (j : ℕ) → i ≤ j → j < i + k → part b' (base + j * w) w ≡ f (part b (base + j * w) w)

module _ (base w n : ℕ) (f : List ℕ → List ℕ) (keeps : (c : List ℕ) → length c ≡ w → length (f c) ≡ w) where
  pub each-cell : (i k : ℕ) (b : List ℕ) → base + n * w ≤ length b → i + k ≤ n → Each base w f i k b (each_cell base w f i k b)
  unfolding each_cell
  each-cell i zero b r h = record { size = refl; before = λ at m o. refl; behind = λ at m o. refl; cell = λ j lo hi. absurd (omega arith) }
  each-cell i (suc k) b r h =
      let l : i < n = omega arith in
      let new : List ℕ = f (part b (base + i * w) w) in
      let wide : length new ≡ w = keeps (part b (base + i * w) w) (length-cell b base w n i r l) in
      let b₁ : List ℕ = splice b (base + i * w) new in
      let e : length b₁ ≡ length b = length-put b base w n i new r l wide in
      let next : i * w + w ≡ (i + 1) * w = sym (ap (λ (z : ℕ). z * w) (add-one i) ∙ suc-mul i w) in
      let last : i + 1 + k ≡ i + suc k = omega arith in
      let d : Each base w f (i + 1) k b₁ (each_cell base w f (i + 1) k b₁) = each-cell (i + 1) k b₁ (omega (arith, e)) (omega arith) in
      record {
        size = d.size ∙ e;
        before = λ at m o. d.before at m (omega (arith, next)) ∙ put-before b base w n i new r l wide at m o;
        behind = λ at m o.
            d.behind at m (subst (λ (z : ℕ). base + z * w ≤ at) (sym last) o)
            ∙ put-behind b base w n i new r l wide at m (omega (arith, o, cell-order w i (i + suc k) (omega arith)));
        cell = λ j lo hi.
            ⊎_elim
            (λ q. subst (λ (z : ℕ). part (each_cell base w f (i + 1) k b₁) (base + z * w) w ≡ f (part b (base + z * w) w)) q
            (d.before (base + i * w) w (omega (arith, next)) ∙ cell_same b base w n i new r l wide))
            (λ (q : i < j). d.cell j (omega arith) (omega arith) ∙ ap f (cell_other b base w n i new r l wide j (λ z. omega arith)))
            (eq-or-lt_of_le lo);
      }

-- ---- readings of a range

-- readings that differ at k alone
pub map-set : {A : Type 0} (f g : ℕ → A) (n k : ℕ) (a : A) → g k ≡ a → ((j : ℕ) → j < n → (k ≡ j → ⊥) → g j ≡ f j) → map g (range n 0) ≡ map (set_at k a f) (range n 0)
map-set {A} f g n k a e o = map_range (set_at k a f) g n 0 (λ j l h. go j (omega arith) (cut k j))
  where
    go : (j : ℕ) → j < n → Cut k j → g j ≡ cond (eqb k j) a (f j)
    go j h (equal t p) = rw t (ap g (sym p) ∙ e)
    go j h (apart t p) = rw t (o j h p)

pub length-range : {A : Type 0} (f : ℕ → A) (n k : ℕ) → length (map f (range n k)) ≡ n
length-range f zero k = refl
length-range f (suc n) k = ap suc (length-range f n (suc k))

pub map-map-range : {A B : Type 0} (h : A → B) (f : ℕ → A) (n k : ℕ) → map h (map f (range n k)) ≡ map (λ j. h (f j)) (range n k)
map-map-range h f zero k = refl
map-map-range h f (suc n) k = ap (λ z. h (f k) ∷ z) (map-map-range h f n (suc k))

pub range_snoc : {A : Type 0} (f : ℕ → A) (n k : ℕ) → map f (range (suc n) k) ≡ map f (range n k) ++ (f (k + n) ∷ [])
range_snoc f zero k = let e : k ≡ k + 0 = omega arith in ap (λ (j : ℕ). f j ∷ []) e
range_snoc f (suc n) k =
    let e : suc k + n ≡ k + suc n = omega arith in
    ap {B = List _} (λ z. f k ∷ z) (range_snoc f n (suc k) ∙ ap (λ (j : ℕ). map f (range n (suc k)) ++ (f j ∷ [])) e)
