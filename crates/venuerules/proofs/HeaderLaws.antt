-- Four spaces as one number.
-- Assumes nothing.
use Prim.Native.Nat.{ℕ, ◌≤◌}
use mathlib.Core.Path.{◌≡◌, refl}
use mathlib.Core.Bool.{Bool, true, false}
use mathlib.Core.List.{List, [], ◌∷◌}
use native.Mathlib.Omega.{arith}
use lib.Dec.{eqb}
use lib.ListN.{length}
use borrow.Author.Tests.{eq-eqb, eqb-true}
use Rattle.field.specs.Field.{Bytes, be, part, field}
use Rattle.field.proofs.Laws.{length_part, bytes-part}
use Rattle.lists.specs.Lists.{every}
use Rattle.lists.proofs.Tests.{and-true, Cut, equal, apart, cut}
use Rattle.text.specs.Form.{is_space}
use Rattle.venueform.specs.Form.{venue_header}
use Rattle.venuerules.specs.Rules.{reserved_good}

-- bytes are 32 each exactly if their number is that of four spaces
four-spaces : (l : List ℕ) → length l ≡ 4 → Bytes l → eqb (be l) 538976288 ≡ every is_space l
unfolding be every
four-spaces [] n y = absurd (omega arith)
four-spaces (a ∷ []) n y = absurd (omega arith)
four-spaces (a ∷ b ∷ []) n y = absurd (omega arith)
four-spaces (a ∷ b ∷ c ∷ []) n y = absurd (omega arith)
four-spaces (a ∷ b ∷ c ∷ d ∷ []) n y = go (cut (be (a ∷ b ∷ c ∷ d ∷ [])) 538976288)
  where
    go : Cut (be (a ∷ b ∷ c ∷ d ∷ [])) 538976288 → eqb (be (a ∷ b ∷ c ∷ d ∷ [])) 538976288 ≡ every is_space (a ∷ b ∷ c ∷ d ∷ [])
    go (equal t e) =
        rw (t, eq-eqb a 32 (omega (arith, y 0, y 1, y 2, y 3)), eq-eqb b 32 (omega (arith, y 0, y 1, y 2, y 3)), eq-eqb c 32 (omega (arith, y 0, y 1, y 2, y 3)), eq-eqb d 32 (omega (arith, y 0, y 1, y 2, y 3)))
    go (apart t e) = rw t (each (every is_space (a ∷ b ∷ c ∷ d ∷ [])) refl)
      where
        each : (u : Bool) → every is_space (a ∷ b ∷ c ∷ d ∷ []) ≡ u → false ≡ u
        each false q = refl
        each true q =
            let h = and-true (eqb a 32) _ q in
            let i = and-true (eqb b 32) _ h.1 in
            let j = and-true (eqb c 32) _ i.1 in
            let k = and-true (eqb d 32) _ j.1 in
            absurd (e (omega (arith, eqb-true a 32 h.0, eqb-true b 32 i.0, eqb-true c 32 j.0, eqb-true d 32 k.0)))
four-spaces (a ∷ b ∷ c ∷ d ∷ e ∷ l) n y = absurd (omega arith)

pub reserved-is : (m : List ℕ) → venue_header ≤ length m → Bytes m → eqb (field m 14 4) 538976288 ≡ reserved_good m
unfolding field
reserved-is m h y = four-spaces (part m 14 4) (length_part m 14 4 (omega arith)) (bytes-part m 14 4 y)
