-- Levels of a side in bytes: their length, that they read back, and what any bytes read as.
-- Assumes nothing.
use Prim.Native.Nat.{ℕ, zero, suc, ◌*◌, ◌≤◌}
use mathlib.Core.Path.{◌≡◌, refl, ap, ap₂, ◌∙◌}
use mathlib.Core.Bool.{Bool, true, false, cond}
use mathlib.Core.List.{List, [], ◌∷◌, ◌++◌}
use Rattle.std.specs.Prelude.{Option, None, Some}
use native.Mathlib.Omega.{arith}
use lib.ListN.{length, take, drop, replicate, length-append, length-replicate, length-drop}
use lib.Seq.{take_at, drop_at, length-take-le}
use Rattle.field.specs.Field.{Bytes, part}
use Rattle.field.proofs.Laws.{bytes_take, bytes_drop, bytes-part, length_part}
use Rattle.ranking.specs.declared.Side.{Side}
use Rattle.ranking.specs.declared.Side.TheVariants.{Bid, Offer}
use Rattle.quote.specs.declared.Level.{Level}
use Rattle.quote.specs.Quote.{level_bytes, level_length}
use Rattle.quote.proofs.QuoteLaws.{length-level, level-back, level-fits, zero-level, no-level-bytes}
use Rattle.levels.specs.Levels.{empty_cell, behind, ranked, cells_in, side_in, levels_in, cells_bytes, side_length, levels_length}
use Rattle.levels.specs.code.Cells.{padded_cells, cells_of, joined_levels}
use Rattle.levels.proofs.LevelLaws.{Behind, Ranked, Fit, SideGood, LevelsGood, behind-trans}

-- ---- the reading of any cells

pub ranked-elim : (s : Side) (P : List Level → Type 0) (y : Option Level) (x : Level) (xs : List Level)
    → P [] → (empty_cell x ≡ false → behind s y x ≡ true → P (x ∷ ranked s (Some x) xs)) → P (ranked s y (x ∷ xs))
unfolding ranked
ranked-elim s P y x xs cut kept = go (empty_cell x) refl (behind s y x) refl
  where
    go : (a : Bool) → empty_cell x ≡ a → (b : Bool) → behind s y x ≡ b → P (cond a [] (cond b (x ∷ ranked s (Some x) xs) []))
    go true e b f = cut
    go false e true f = kept e f
    go false e false f = cut

module _ (s : Side) where
  ranked-behind : (y : Level) (xs : List Level) → Behind s y.price (ranked s (Some y) xs)
  unfolding ranked
  ranked-behind y [] = tt
  ranked-behind y (x ∷ xs) = ranked-elim s (Behind s y.price) (Some y) x xs tt (λ e f. (f, behind-trans s y.price x.price (ranked s (Some x) xs) f (ranked-behind x xs)))

  -- best first, no price twice, none empty
  pub ranked-falls : (y : Option Level) (xs : List Level) → Ranked s (ranked s y xs)
  unfolding ranked
  ranked-falls y [] = tt
  ranked-falls y (x ∷ xs) = ranked-elim s (Ranked s) y x xs tt (λ e f. (e, ranked-behind x xs, ranked-falls (Some x) xs))

  pub ranked-short : (y : Option Level) (xs : List Level) → length (ranked s y xs) ≤ length xs
  unfolding ranked
  ranked-short y [] = omega arith
  ranked-short y (x ∷ xs) = ranked-elim s (λ l. length l ≤ suc (length xs)) y x xs (omega arith) (λ e f. omega (arith, ranked-short (Some x) xs))

  ranked-fit : (y : Option Level) (xs : List Level) → Fit xs → Fit (ranked s y xs)
  unfolding ranked
  ranked-fit y [] f = tt
  ranked-fit y (x ∷ xs) f = ranked-elim s Fit y x xs tt (λ e b. (f.0, ranked-fit (Some x) xs f.1))

  cells-length : (k : ℕ) (b : List ℕ) → length (cells_in k b) ≡ k
  unfolding cells_in
  cells-length zero b = refl
  cells-length (suc k) b = ap suc (cells-length k (drop level_length b))

  pub side-falls : (b : List ℕ) → Ranked s (side_in s b)
  unfolding side_in
  side-falls b = ranked-falls None (cells_in 4 b)

  pub side-short : (b : List ℕ) → length (side_in s b) ≤ 4
  unfolding side_in
  side-short b = omega (arith, ranked-short None (cells_in 4 b), cells-length 4 b)

cells_fit : (k : ℕ) (b : List ℕ) → level_length * k ≤ length b → Bytes b → Fit (cells_in k b)
unfolding cells_in
cells_fit zero b h f = tt
cells_fit (suc k) b h f =
    (level-fits (take level_length b) (length-take-le level_length b (omega arith)) (bytes_take level_length b f), cells_fit k (drop level_length b) (simp length-drop (omega arith)) (bytes_drop level_length b f))

-- what stands in 80 bytes is good, and so is what stands in 160
pub side-good : (s : Side) (b : List ℕ) → length b ≡ side_length → Bytes b → SideGood s (side_in s b)
unfolding side_in
side-good s b h f = record {
  ranked = ranked-falls s None (cells_in 4 b);
  fit = ranked-fit s None (cells_in 4 b) (cells_fit 4 b (omega arith) f);
  short = omega (arith, ranked-short s None (cells_in 4 b), cells-length s 4 b);
}

pub levels-good : (b : List ℕ) → length b ≡ levels_length → Bytes b → LevelsGood (levels_in b)
unfolding levels_in
levels-good b h f = record {
  bids = side-good Bid (part b 0 side_length) (length_part b 0 side_length (omega arith)) (bytes-part b 0 side_length f);
  offers = side-good Offer (part b side_length side_length) (length_part b side_length side_length (omega arith)) (bytes-part b side_length side_length f);
}

-- ---- bytes of levels

pub length-cells : (k : ℕ) (ls : List Level) → length (cells_bytes k ls) ≡ level_length * k
unfolding cells_bytes
length-cells zero ls = refl
length-cells (suc k) [] = length-append (replicate level_length 0) (cells_bytes k []) ∙ omega (arith, length-cells k [], length-replicate {A = ℕ} level_length 0)
length-cells (suc k) (x ∷ xs) = length-append (level_bytes x) (cells_bytes k xs) ∙ omega (arith, length-cells k xs, length-level x)

-- the bytes of the cells that levels are
pub cells-bytes : (k : ℕ) (ls : List Level) → joined_levels (padded_cells k ls) ≡ cells_bytes k ls
unfolding joined_levels padded_cells cells_bytes
cells-bytes zero ls = refl
cells-bytes (suc k) [] = ap₂ ◌++◌ no-level-bytes (cells-bytes k [])
cells-bytes (suc k) (x ∷ xs) = ap (λ (b : List ℕ). level_bytes x ++ b) (cells-bytes k xs)

-- ---- the cells of good levels read back

-- cells that the levels' bytes are read as
cells-of : (k : ℕ) (ls : List Level) → Fit ls → cells_in k (cells_bytes k ls) ≡ padded_cells k ls
unfolding cells_in cells_bytes padded_cells
cells-of zero ls f = refl
cells-of (suc k) [] f =
    rw (take_at (replicate level_length 0) (cells_bytes k []) level_length (length-replicate {A = ℕ} level_length 0), drop_at (replicate level_length 0) (cells_bytes k []) level_length (length-replicate {A = ℕ} level_length 0), zero-level, cells-of k [] tt)
cells-of (suc k) (x ∷ xs) f =
    rw (take_at (level_bytes x) (cells_bytes k xs) level_length (length-level x), drop_at (level_bytes x) (cells_bytes k xs) level_length (length-level x), level-back x f.0, cells-of k xs f.1)

-- each is behind the one before
abbrev Next : Side → Option Level → List Level → Type 0
Next s None ls = Unit {0}
Next s (Some y) ls = Behind s y.price ls

next-behind : (s : Side) (y : Option Level) (x : Level) (xs : List Level) → Next s y (x ∷ xs) → behind s y x ≡ true
next-behind s None x xs n = refl
next-behind s (Some y) x xs n = n.0

none_read : (s : Side) (y : Option Level) (k : ℕ) → ranked s y (padded_cells k []) ≡ []
unfolding ranked padded_cells
none_read s y zero = refl
none_read s y (suc k) = refl

next-read : (s : Side) (y : Option Level) (k : ℕ) (ls : List Level) → length ls ≤ k → Ranked s ls → Next s y ls → ranked s y (padded_cells k ls) ≡ ls
unfolding ranked padded_cells
next-read s y k [] h r n = none_read s y k
next-read s y zero (x ∷ xs) h r n = absurd (omega arith)
next-read s y (suc k) (x ∷ xs) h r n = rw (r.0, next-behind s y x xs n) (ap (λ (l : List Level). x ∷ l) (next-read s (Some x) k xs (omega arith) r.2 r.1))

-- levels as cells are read as the levels
pub cells-read : (s : Side) (ls : List Level) → length ls ≤ 4 → Ranked s ls → ranked s None (cells_of ls) ≡ ls
cells-read s ls h r = next-read s None 4 ls h r tt

pub side-back : (s : Side) (ls : List Level) → SideGood s ls → side_in s (cells_bytes 4 ls) ≡ ls
unfolding side_in
side-back s ls g = ap (ranked s None) (cells-of 4 ls g.fit) ∙ cells-read s ls g.short g.ranked
