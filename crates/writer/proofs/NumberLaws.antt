-- Each `return` of the writer's checks, and what passing them tells.
-- Assumes nothing.
use Prim.Native.Nat.{ℕ, ◌≤◌, ◌<◌}
use mathlib.Core.Path.{◌≡◌, refl}
use mathlib.Core.Bool.{Bool, true, false, cond}
use mathlib.Core.List.{List}
use native.Mathlib.Omega.{arith}
use lib.Dec.{leb}
use lib.ListN.{length}
use borrow.Author.Tests.{le-leb, lt-leb, leb-true}
use Rattle.block.specs.Written.{Out, length_with, cut_by, lengths_good, control_mixed, any_control, write_number, written_out}
use Rattle.numbers.specs.declared.Refusal.{Refusal}
use Rattle.numbers.specs.Numbers.{number_of}
use Rattle.numbers.proofs.RefusalLaws.{never-zero}
use Rattle.writer.proofs.GoodLaws.{Good, good-is, cut-count}

module _ (ns b : List ℕ) where
  pub mixed-few : length ns < 2 → false ≡ control_mixed (cut_by ns b)
  unfolding control_mixed
  mixed-few h = rw (cut-count ns b, lt-leb 2 (length ns) h)

  pub mixed-any : 2 ≤ length ns → (t : Bool) → t ≡ any_control (cut_by ns b) → t ≡ control_mixed (cut_by ns b)
  unfolding control_mixed
  mixed-any h t e = rw (cut-count ns b, le-leb 2 (length ns) h) e

  module _ (room : ℕ) where
    pub number-71 : lengths_good ns (length b) ≡ false → 71 ≡ write_number ns b room
    unfolding write_number
    number-71 g = rw g

    module _ (g : lengths_good ns (length b) ≡ true) where
      pub number-72 : control_mixed (cut_by ns b) ≡ true → 72 ≡ write_number ns b room
      unfolding write_number
      number-72 m = rw (g, m)

      module _ (m : control_mixed (cut_by ns b) ≡ false) where
        pub number-73 : room < length_with (length ns) (length b) → 73 ≡ write_number ns b room
        unfolding write_number
        number-73 h = rw (g, m, lt-leb (length_with (length ns) (length b)) room h)

        pub number-0 : length_with (length ns) (length b) ≤ room → 0 ≡ write_number ns b room
        unfolding write_number
        number-0 h = rw (g, m, le-leb (length_with (length ns) (length b)) room h)

    pub passed : 0 ≡ write_number ns b room → (Good ns (length b)) × (length_with (length ns) (length b) ≤ room)
    unfolding write_number
    passed e = go (lengths_good ns (length b)) refl (control_mixed (cut_by ns b)) (leb (length_with (length ns) (length b)) room) refl e
      where
        go : (t : Bool) → lengths_good ns (length b) ≡ t → (u v : Bool) → leb (length_with (length ns) (length b)) room ≡ v → ◌≡◌ {A = ℕ} 0 (cond t (cond u 72 (cond v 0 73)) 71)
            → (Good ns (length b)) × (length_with (length ns) (length b) ≤ room)
        go true g false true w z = (good-is ns (length b) g, leb-true (length_with (length ns) (length b)) room w)
        go true g true v w z = absurd (omega (arith, z))
        go true g false false w z = absurd (omega (arith, z))
        go false g u v w z = absurd (omega (arith, z))

    pub passed-alone : 0 ≡ write_number ns b room → control_mixed (cut_by ns b) ≡ false
    unfolding write_number
    passed-alone e = go (lengths_good ns (length b)) (control_mixed (cut_by ns b)) (leb (length_with (length ns) (length b)) room) e
      where
        go : (t u v : Bool) → ◌≡◌ {A = ℕ} 0 (cond t (cond u 72 (cond v 0 73)) 71) → u ≡ false
        go t false v z = refl
        go true true v z = absurd (omega (arith, z))
        go false true v z = absurd (omega (arith, z))

  -- a refused call changes nothing of the output
  pub refused : (s : ℕ) (r : Refusal) (out : List ℕ) → number_of r ≡ write_number ns b (length out) → ◌≡◌ {A = Out} (record { number = number_of r; length = 0; output = out }) (written_out b ns s out)
  unfolding written_out
  refused s r out e = rw (← e, never-zero r)
