-- Which records hold a call.
-- Assumes nothing.
use Prim.Native.Nat.{ℕ}
use mathlib.Core.Path.{◌≡◌, refl, ap, sym, ◌∙◌}
use mathlib.Core.Bool.{Bool, true, false, cond}
use Rattle.std.specs.Prelude.{None, Some}
use mathlib.Core.List.{List}
use borrow.Author.Tests.{ne_eqb}
use Rattle.lists.specs.Lists.{is_some}
use Rattle.calls.specs.Call.{Call}
use Rattle.logcalls.specs.Kinds.{call_of}
use Rattle.logcalls.specs.code.Told.{kind_number}
use Rattle.logcalls.specs.declared.Kind.{Kind}

pub no-kind : (k : ℕ) → (k ≡ 1 → ⊥) → (k ≡ 2 → ⊥) → (k ≡ 3 → ⊥) → (k ≡ 4 → ⊥) → (k ≡ 5 → ⊥) → (k ≡ 6 → ⊥) → (k ≡ 7 → ⊥) → (k ≡ 8 → ⊥) → (k ≡ 9 → ⊥) → (k ≡ 10 → ⊥) → (k ≡ 11 → ⊥) → (k ≡ 12 → ⊥) → (k ≡ 13 → ⊥) → (k ≡ 14 → ⊥) → (k ≡ 15 → ⊥) → (a : List ℕ) → call_of k a ≡ None
unfolding call_of
no-kind k h1 h2 h3 h4 h5 h6 h7 h8 h9 h10 h11 h12 h13 h14 h15 a = rw (ne_eqb k 1 h1, ne_eqb k 2 h2, ne_eqb k 3 h3, ne_eqb k 4 h4, ne_eqb k 5 h5, ne_eqb k 6 h6, ne_eqb k 7 h7, ne_eqb k 8 h8, ne_eqb k 9 h9, ne_eqb k 10 h10, ne_eqb k 11 h11, ne_eqb k 12 h12, ne_eqb k 13 h13, ne_eqb k 14 h14, ne_eqb k 15 h15) refl

-- the number that was read as this kind
pub kind-is : (f k : Kind) (n : ℕ) → f ≡ k → kind_number f ≡ n → n ≡ kind_number k
kind-is f k n h e = sym e ∙ ap kind_number h

-- a test that decides whether there is a call
pub some-if : (t : Bool) (c : Call) → t ≡ is_some (cond t (Some c) None)
some-if true c = refl
some-if false c = refl
