-- A symbol that no part of the history names has no quotes, no makers and no levels, and trades.
-- Assumes nothing.
use Prim.Native.Nat.{ℕ}
use mathlib.Core.Path.{◌≡◌, refl}
use mathlib.Core.Bool.{Bool, false}
use mathlib.Core.List.{List, [], ◌∷◌}
use Rattle.std.specs.Prelude.{None}
use lib.Dec.{eqb}
use Rattle.levels.specs.Levels.{no_levels}
use Rattle.message.specs.Message.{Part, round_part, odd_part, maker_part, finra_part, status_part}
use Rattle.review.specs.Reviewer.{rounds_of, maker_quotes, maker_of, names_of, makers_of, levels_of, halted_of}

-- a part names its symbol; FINRA Close and Open name none
abbrev pub names : Part → ℕ → Bool
names (round_part t k q) s = eqb t s
names (odd_part t k o) s = eqb t s
names (maker_part t m q) s = eqb t s
names (finra_part c) s = false
names (status_part t x) s = eqb t s

abbrev pub Silent : ℕ → List Part → Type 0
Silent s [] = Unit {0}
Silent s (p ∷ h) = (names p s ≡ false) × Silent s h

pub silent-rounds : (s l : ℕ) (h : List Part) → Silent s h → rounds_of h s l ≡ []
unfolding rounds_of
silent-rounds s l [] n = refl
silent-rounds s l (round_part t k q ∷ h) n = rw n.0 (silent-rounds s l h n.1)
silent-rounds s l (odd_part t k o ∷ h) n = silent-rounds s l h n.1
silent-rounds s l (maker_part t m q ∷ h) n = silent-rounds s l h n.1
silent-rounds s l (finra_part c ∷ h) n = silent-rounds s l h n.1
silent-rounds s l (status_part t x ∷ h) n = silent-rounds s l h n.1

pub silent-levels : (s l : ℕ) (h : List Part) → Silent s h → levels_of h s l ≡ no_levels
unfolding levels_of
silent-levels s l [] n = refl
silent-levels s l (round_part t k q ∷ h) n = silent-levels s l h n.1
silent-levels s l (odd_part t k o ∷ h) n = rw n.0 (silent-levels s l h n.1)
silent-levels s l (maker_part t m q ∷ h) n = silent-levels s l h n.1
silent-levels s l (finra_part c ∷ h) n = silent-levels s l h n.1
silent-levels s l (status_part t x ∷ h) n = silent-levels s l h n.1

silent-quotes : (s m : ℕ) (h : List Part) → Silent s h → maker_quotes h s m ≡ []
unfolding maker_quotes
silent-quotes s m [] n = refl
silent-quotes s m (round_part t k q ∷ h) n = silent-quotes s m h n.1
silent-quotes s m (odd_part t k o ∷ h) n = silent-quotes s m h n.1
silent-quotes s m (maker_part t k q ∷ h) n = rw n.0 (silent-quotes s m h n.1)
silent-quotes s m (finra_part c ∷ h) n = silent-quotes s m h n.1
silent-quotes s m (status_part t x ∷ h) n = silent-quotes s m h n.1

pub silent-maker : (s m : ℕ) (h : List Part) → Silent s h → maker_of h s m ≡ None
unfolding maker_of
silent-maker s m h n = rw (silent-quotes s m h n)

silent-names : (s : ℕ) (h : List Part) → Silent s h → names_of h s ≡ []
unfolding names_of
silent-names s [] n = refl
silent-names s (round_part t k q ∷ h) n = silent-names s h n.1
silent-names s (odd_part t k o ∷ h) n = silent-names s h n.1
silent-names s (maker_part t k q ∷ h) n = rw n.0 (silent-names s h n.1)
silent-names s (finra_part c ∷ h) n = silent-names s h n.1
silent-names s (status_part t x ∷ h) n = silent-names s h n.1

pub silent-halted : (s : ℕ) (h : List Part) → Silent s h → halted_of h s ≡ false
unfolding halted_of
silent-halted s [] n = refl
silent-halted s (round_part t k q ∷ h) n = silent-halted s h n.1
silent-halted s (odd_part t k o ∷ h) n = silent-halted s h n.1
silent-halted s (maker_part t k q ∷ h) n = silent-halted s h n.1
silent-halted s (finra_part c ∷ h) n = silent-halted s h n.1
silent-halted s (status_part t x ∷ h) n = rw n.0 (silent-halted s h n.1)

pub silent-makers : (s : ℕ) (h : List Part) → Silent s h → makers_of h s ≡ []
unfolding makers_of
silent-makers s h n = rw (silent-names s h n)
