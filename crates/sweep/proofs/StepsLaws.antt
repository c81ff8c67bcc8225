-- The steps as their bytes say them: of a page of bytes each number fits, so the bytes give the steps back.
-- Assumes nothing.
use Prim.Native.Nat.{ℕ, zero, suc, ◌+◌, ◌*◌, ◌^◌, ◌≤◌, ◌<◌}
use mathlib.Core.Path.{◌≡◌, refl, ap, ◌∙◌}
use mathlib.Core.Logic.{inl, inr}
use mathlib.Core.List.{List, [], ◌∷◌, ◌++◌}
use Rattle.std.specs.Prelude.{Option}
use native.Mathlib.Omega.{arith}
use lib.ListN.{length, drop, length-append}
use Rattle.field.specs.Field.{be_bytes, part, field}
use Rattle.field.specs.Ascii.{A}
use Rattle.field.proofs.Laws.{be-be_bytes}
use Rattle.lists.specs.Lists.{range}
use Rattle.lists.proofs.Members.{In, in-collect}
use Rattle.ranking.specs.declared.Side.{Side}
use Rattle.ranking.specs.declared.Candidate.{Candidate}
use Rattle.ranking.proofs.Bridge.{Counting, OrCounting}
use Rattle.entries.specs.Entries.{letters}
use Rattle.sweep.specs.Sweep.{Step, least, listed, swept, filled, step_bytes, steps_bytes, step_length}
use Rattle.sweep.specs.Division.{shown, step_in, steps_in}
use Rattle.sweep.proofs.GreedyLaws.{Least, all, most, least-is}
use Rattle.sweep.proofs.PlayLaws.{Made}
use Rattle.sweep.proofs.SweepLaws.{Lettered, swept-fills, swept-made}
use Rattle.sweep.proofs.LoopLaws.{length-step}

-- each number fits its bytes
pub record StepFits (x : Step) : Type 0 where
  pub letter : x.letter < 256 ^ 1
  pub price : x.price < 256 ^ 8
  pub lots : x.lots < 256 ^ 4

step_back : (x : Step) (rest : List ℕ) → StepFits x → step_in (step_bytes x ++ rest) ≡ x
unfolding step_bytes be_bytes part field
step_back x rest f = λ k. record {
  letter = be-be_bytes 1 x.letter f.letter k;
  price = be-be_bytes 8 x.price f.price k;
  lots = be-be_bytes 4 x.lots f.lots k;
}

behind-step : (x : Step) (rest : List ℕ) → drop step_length (step_bytes x ++ rest) ≡ rest
unfolding step_bytes be_bytes
behind-step x rest = refl

pub steps_back : (xs : List Step) → ((x : Step) → In x xs → StepFits x) → steps_in (length xs) (steps_bytes xs) ≡ xs
unfolding steps_in steps_bytes
steps_back [] f = refl
steps_back (x ∷ xs) f = (λ k. step_back x (steps_bytes xs) (f x (inl refl)) k ∷ steps_in (length xs) (behind-step x (steps_bytes xs) k)) ∙ ap (λ (ys : List Step). x ∷ ys) (steps_back xs (λ y m. f y (inr m)))

pub length-steps : (xs : List Step) → length (steps_bytes xs) ≡ length xs * step_length
unfolding steps_bytes
length-steps [] = refl
length-steps (x ∷ xs) =
    length-append (step_bytes x) (steps_bytes xs) ∙ omega (arith, length-step x, length-steps xs)

-- ---- the steps of an order on candidates that count

in_letters : (a n k : ℕ) → In a (range n k) → a < k + n
in_letters a zero k m = absurd m
in_letters a (suc n) k (inl p) = omega arith
in_letters a (suc n) k (inr m) = omega (arith, in_letters a n (suc k) m)

one-of-filled : (x : Step) (xs : List Step) → In x xs → x.lots ≤ filled xs
unfolding filled
one-of-filled x [] m = absurd m
one-of-filled x (y ∷ ys) (inl p) = let e : x.lots ≡ y.lots = ap (λ (z : Step). z.lots) p in omega arith
one-of-filled x (y ∷ ys) (inr m) = omega (arith, one-of-filled x ys m)

least-below : (a b : ℕ) → least a b ≤ a
least-below a b = go (least-is a b)
  where
    go : Least a b → least a b ≤ a
    go (all e h) = omega arith
    go (most e h) = omega arith

pub swept-fits : (f : ℕ → Option Candidate) → Lettered f → ((l : ℕ) → OrCounting (f l)) → (s : Side) (w : ℕ) → w < 256 ^ 4 → (x : Step) → In x (swept s w f) → StepFits x
unfolding letters
swept-fits f t k s w h x m =
    let r : Made (listed f) x = swept-made f t s w x m in
    let c = in-collect f r.on (range 26 A) r.member in
    let n : Counting r.on = rw c.2 at (k c.0) in
    record {
      letter = omega (arith, r.letter, t.named c.0 r.on c.2, in_letters c.0 26 A c.1);
      price = rw r.price n.fits;
      lots = omega (arith, one-of-filled x (swept s w f) m, swept-fills f t s w, least-below w (shown (listed f)));
    }
