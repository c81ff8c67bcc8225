-- Tests and what they say.
-- Assumes nothing.
use Prim.Native.Nat.{ℕ, ◌≤◌}
use mathlib.Core.Path.{◌≡◌, refl}
use mathlib.Core.Bool.{Bool, true, false, ◌&&◌, cond}
use native.Mathlib.Omega.{arith}
use lib.Dec.{eqb, leb}
use borrow.Author.Tests.{eqb-true, eqb-false, leb-true, le-leb}
use Rattle.std.specs.Int.{from_bool}
use Rattle.lists.specs.Lists.{upper}

-- a test is not true and false
pub clash : {A : Type 0} → true ≡ false → A
clash {A} e = absurd (let z : ◌≡◌ {A = ℕ} 0 1 = cc in omega arith)

-- a test as a number, as `u8::from(t)` and the like give it
pub from_bool-cond : (t : Bool) → from_bool t ≡ cond t 1 0
from_bool-cond true = refl
from_bool-cond false = refl

pub and-true : (s t : Bool) → s && t ≡ true → (s ≡ true) × (t ≡ true)
and-true true t e = (refl, e)
and-true false t e = clash (cc)

-- A to Z
pub upper-low : (l : ℕ) → upper l ≡ true → (65 ≤ l) × (l ≤ 90)
upper-low l e = let b = and-true (leb 65 l) (leb l 90) e in (leb-true 65 l b.0, leb-true l 90 b.1)

pub is-upper : (l : ℕ) → 65 ≤ l → l ≤ 90 → upper l ≡ true
is-upper l h k = rw (le-leb 65 l h, le-leb l 90 k)

-- an equality test, with what it says
pub data Cut (a b : ℕ) : Type 0 where
  equal : eqb a b ≡ true → a ≡ b → Cut a b
  apart : eqb a b ≡ false → (a ≡ b → ⊥) → Cut a b

pub cut : (a b : ℕ) → Cut a b
cut a b = go (eqb a b) refl
  where
    go : (t : Bool) → eqb a b ≡ t → Cut a b
    go true e = equal e (eqb-true a b e)
    go false e = apart e (eqb-false a b e)
