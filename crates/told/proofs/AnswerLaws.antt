-- The answer bytes and the counts of a block, message by message.
-- Assumes nothing.
use Prim.Native.Nat.{ℕ, ◌+◌, ◌*◌, ◌≤◌}
use mathlib.Core.Path.{◌≡◌, refl, ap, ◌∙◌}
use mathlib.Core.Bool.{Bool, true, false, cond}
use mathlib.Core.List.{List, ◌∷◌}
use native.Mathlib.Omega.{arith}
use Rattle.field.specs.Field.{splice}
use Rattle.field.proofs.Laws.{splice-join}
use Rattle.told.specs.declared.Told.{Told}
use Rattle.told.specs.declared.Tally.{Tally}
use Rattle.told.specs.Told.{quads, tally, is_accepted, is_partly, is_rejected}
use Rattle.told.specs.code.Steps.{quad, tally_with, tally_of}

-- ---- one message's four bytes and counts

pub quads-join : (a : List ℕ) (i : ℕ) (t : Told) (ts : List Told) → splice (splice a (4 * i) (quad i t)) (4 * (i + 1)) (quads (i + 1) ts) ≡ splice a (4 * i) (quads i (t ∷ ts))
unfolding quads
quads-join a i t ts =
    let n : 4 * (i + 1) ≡ 4 * i + 4 = omega arith in
    ap (λ (k : ℕ). splice (splice a (4 * i) (quad i t)) k (quads (i + 1) ts)) n ∙ splice-join a (4 * i) 4 (quad i t) (quads (i + 1) ts) refl

-- counts so far, and those of the rest
abbrev pub plus : Tally → Tally → Tally
plus s t = record { accepted = s.accepted + t.accepted; partly = s.partly + t.partly; rejected = s.rejected + t.rejected }

pub tally-step : (s : Tally) (t : Told) (ts : List Told) → plus (tally_with s t) (tally_of ts) ≡ plus s (tally_of (t ∷ ts))
unfolding tally_with tally
tally-step s t ts =
    let a : s.accepted + cond (is_accepted t) 1 0 + tally is_accepted ts ≡ s.accepted + (cond (is_accepted t) 1 0 + tally is_accepted ts) = omega arith in
    let b : s.partly + cond (is_partly t) 1 0 + tally is_partly ts ≡ s.partly + (cond (is_partly t) 1 0 + tally is_partly ts) = omega arith in
    let c : s.rejected + cond (is_rejected t) 1 0 + tally is_rejected ts ≡ s.rejected + (cond (is_rejected t) 1 0 + tally is_rejected ts) = omega arith in
    λ i. record { accepted = a i; partly = b i; rejected = c i }

pub at_most_one : (t : Bool) → cond t 1 0 ≤ 1
at_most_one true = omega arith
at_most_one false = omega arith
