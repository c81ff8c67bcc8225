-- Each `return` of the conversion.
-- Assumes nothing.
use Prim.Native.Nat.{ℕ, ◌+◌, ◌-◌, ◌≤◌}
use mathlib.Core.Path.{◌≡◌, refl, sym, ap, ◌∙◌}
use mathlib.Core.Bool.{Bool, true, false, ◌&&◌, cond}
use mathlib.Core.List.{List, [], ◌++◌, map}
use native.Mathlib.Omega.{arith}
use lib.Dec.{eqb, ltb}
use lib.ListN.{length, take, drop, replicate}
use lib.Seq.{length-take-le}
use borrow.Author.Tests.{eq-eqb, ne_eqb, eqb-true, ltb-false}
use borrow.Rule.Slice.PartMut.{put_mid}
use Rattle.field.specs.Field.{splice}
use Rattle.lists.proofs.Tests.{clash}
use Rattle.field.proofs.Laws.{lent_back}
use Rattle.block.specs.Written.{joined}
use Rattle.opening.specs.Opening.{sound}
use Rattle.venue.specs.Venue.{venue_sequence, venue_messages, venue_number}
use Rattle.venuequote.specs.Quote.{converted_for}
use Rattle.venuerun.specs.Run.{run_of, needed_of, convert_number, venue_run}
use Rattle.venuerun.specs.code.Walk.{converted_from}
use Rattle.venuerun.proofs.VenueLaws.{run_length}
use Rattle.calls.specs.Buffers.{RunOut, run_out}
use Rattle.calls.proofs.ConvertLaws.{run-refused, run-done}
use Rattle.calls.specs.Call.{lot_on}
use Rattle.convert.specs.code.Lots.{lots_for}
use Rattle.convert.proofs.LotLaws.{lots-convert}

module _ (b v o : List ℕ) (s : sound b ≡ true) (n l : ℕ) (en : n ≡ convert_number v (length o)) (el : l ≡ cond (eqb (convert_number v (length o)) 0) (needed_of v) 0) where
  pub out-refused : eqb n 0 ≡ false → record { number = n; length = l; output = o } ≡ run_out b v o
  out-refused h =
      let z : l ≡ 0 = el ∙ rw (← en, h) in
      rw z (run-refused b v o s n en h)

  module _ (h : n ≡ 0) where
    done : 0 ≡ convert_number v (length o)
    done = sym h ∙ en

    pub needs-is : l ≡ needed_of v
    needs-is = el ∙ rw (← en, eq-eqb n 0 h)

    -- neither 78 nor 79 nor 80
    pub good : (venue_number v ≡ 0) × (needed_of v ≤ length o)
    unfolding convert_number
    good = go (eqb (venue_number v) 0) refl (ltb (length o) (needed_of v)) refl done
      where
        go : (t : Bool) → eqb (venue_number v) 0 ≡ t → (u : Bool) → ltb (length o) (needed_of v) ≡ u → ◌≡◌ {A = ℕ} 0 (cond t (cond u 80 0) (venue_number v)) → (venue_number v ≡ 0) × (needed_of v ≤ length o)
        go true et true eu q = absurd (omega arith)
        go true et false eu q = (eqb-true (venue_number v) 0 et, ltb-false (length o) (needed_of v) eu)
        go false et u eu q = clash (sym (eq-eqb (venue_number v) 0 (sym q)) ∙ et)

    pub lent_length : length (take (l - 0) o) ≡ needed_of v
    lent_length =
        let z : l - 0 ≡ needed_of v = omega (arith, needs-is) in
        ap (λ (k : ℕ). length (take k o)) z ∙ length-take-le (needed_of v) o good.1

    pub out-done : (z : List ℕ) → z ≡ joined (venue_run (lot_on b) v) → record { number = n; length = l; output = put_mid 0 (l - 0) o z } ≡ run_out b v o
    out-done z e =
        let k : length z ≡ l - 0 = ap length e ∙ run_length v good.0 (lot_on b) ∙ omega (arith, needs-is) in
        (λ i. record { number = h i; length = needs-is i; output = lent_back 0 (l - 0) o z k i })
        ∙ run-done b v o s done (splice o 0 z) (ap (splice o 0) e)

-- the run by the lots that were collected
pub run-by-lots : (b v ls zs out : List ℕ) → ls ≡ splice zs 0 (lots_for b (venue_messages v)) → out ≡ joined (run_of (venue_sequence v) (converted_from ls 0 (venue_messages v))) → out ≡ joined (venue_run (lot_on b) v)
unfolding splice
run-by-lots b v ls zs out el eo =
    eo ∙ ap (λ (ms : List (List ℕ)). joined (run_of (venue_sequence v) ms)) (lots-convert b (venue_messages v) ls (drop (0 + length (lots_for b (venue_messages v))) zs) 0 el)
