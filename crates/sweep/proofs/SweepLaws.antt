-- T-13 over a symbol's national candidates: at most 25 steps, what they fill, and that no other division that fills as many lots is better.
-- Assumes nothing.
use Prim.Native.Nat.{ℕ, zero, suc, ◌+◌, ◌≤◌, ◌<◌}
use mathlib.Core.Path.{◌≡◌, refl, sym, ap, ◌∙◌}
use mathlib.Core.Logic.{inl, inr}
use mathlib.Core.List.{List, [], ◌∷◌}
use Rattle.std.specs.Prelude.{Option, None, Some}
use native.Mathlib.Omega.{arith}
use lib.ListN.{length}
use Rattle.field.specs.Ascii.{A, S}
use Rattle.lists.specs.Lists.{collect, cons_option, range}
use Rattle.lists.proofs.Tests.{Cut, equal, apart, cut}
use Rattle.lists.proofs.Members.{In, Distinct, in-collect}
use Rattle.ranking.specs.declared.Side.{Side}
use Rattle.ranking.specs.declared.Candidate.{Candidate}
use Rattle.quote.specs.declared.Quote.{Quote}
use Rattle.entries.specs.Entries.{Maker, letters, finra_best, letter_candidate, candidates}
use Rattle.walk.proofs.WalkLaws.{letter-named}
use Rattle.sweep.specs.Sweep.{Step, least, listed, swept, filled, steps_most}
use Rattle.sweep.specs.Division.{worth, total, shown, worth_of, Within, NoWorse}
use Rattle.sweep.proofs.SelectionLaws.{name_of}
use Rattle.sweep.proofs.PlayLaws.{Made, play-fills, play-best, play-few, play-made, play-once}
use Rattle.sweep.proofs.DividedLaws.{divided, play-within, play-lots, play-worth}

-- ---- candidates by letter: each under its letter, S without one

pub record Lettered (c : ℕ → Option Candidate) : Type 0 where
  pub named : (l : ℕ) (x : Candidate) → c l ≡ Some x → x.name ≡ l
  pub processor : c S ≡ None

-- those of a symbol are such
pub candidates-lettered : (quotes : ℕ → Quote) (makers : List Maker) (s : Side) → Lettered (candidates quotes makers s)
unfolding candidates letter_candidate
candidates-lettered quotes makers s = record { named = letter-named s quotes (finra_best makers s); processor = refl }

in-range : (a n k : ℕ) → In a (range n k) → k ≤ a
in-range a zero k m = absurd m
in-range a (suc n) k (inl p) = omega arith
in-range a (suc n) k (inr m) = omega (arith, in-range a n (suc k) m)

range-in : (a n k : ℕ) → k ≤ a → a < k + n → In a (range n k)
range-in a zero k l h = absurd (omega arith)
range-in a (suc n) k l h = go (cut a k) (λ (x : suc k ≤ a). range-in a n (suc k) x (omega arith))
  where
    go : Cut a k → (suc k ≤ a → In a (range n (suc k))) → In a (range (suc n) k)
    go (equal t e) down = inl e
    go (apart t e) down = inr (down (omega (arith, e)))

module _ (f : ℕ → Option Candidate) (w : Lettered f) where
  distinct-letters : (n k : ℕ) → Distinct name_of (collect f (range n k))
  distinct-letters zero k = tt
  distinct-letters (suc n) k = go (f k) refl (distinct-letters n (suc k))
    where
      go : (o : Option Candidate) → f k ≡ o → Distinct name_of (collect f (range n (suc k))) → Distinct name_of (cons_option o (collect f (range n (suc k))))
      go None e down = down
      go (Some c) e down = (
        (λ y m z.
            let r = in-collect f y (range n (suc k)) m in
            omega (arith, in-range r.0 n (suc k) r.1, w.named r.0 y r.2, w.named k c e)),
        down,
      )

  collect-length : (xs : List ℕ) → length (collect f xs) ≤ length xs
  collect-length [] = omega arith
  collect-length (x ∷ xs) = go (f x) (collect-length xs)
    where
      go : (o : Option Candidate) → length (collect f xs) ≤ length xs → length (cons_option o (collect f xs)) ≤ length (x ∷ xs)
      go None h = omega arith
      go (Some c) h = omega arith

  collect-fewer : (a : ℕ) → f a ≡ None → (xs : List ℕ) → In a xs → length (collect f xs) < length xs
  collect-fewer a e [] m = absurd m
  collect-fewer a e (x ∷ xs) (inl p) = rw (ap f (sym p) ∙ e) (omega (arith, collect-length xs))
  collect-fewer a e (x ∷ xs) (inr m) = go (f x) (collect-fewer a e xs m)
    where
      go : (o : Option Candidate) → length (collect f xs) < length xs → length (cons_option o (collect f xs)) < length (x ∷ xs)
      go None h = omega arith
      go (Some c) h = omega arith

  -- each name once
  pub listed-distinct : Distinct name_of (listed f)
  unfolding letters
  listed-distinct = distinct-letters 26 A

  -- "at most 25": S has nothing
  pub listed-few : length (listed f) ≤ steps_most
  unfolding letters
  listed-few = omega (arith, collect-fewer S w.processor (range 26 A) (range-in S 26 A (omega arith) (omega arith)))

  -- ---- the order

  module _ (s : Side) (lots : ℕ) where
    pub swept-few : length (swept s lots f) ≤ steps_most
    unfolding swept
    swept-few = play-few s steps_most lots (listed f)

    -- all that is wanted, as far as it is shown
    pub swept-fills : filled (swept s lots f) ≡ least lots (shown (listed f))
    unfolding swept
    swept-fills = play-fills s (listed f) listed-distinct steps_most listed-few lots

    -- "No other division over the same candidates, none beyond its shown size, that fills as many lots costs less to buy or brings more to sell."
    pub swept-best : (t : Candidate → ℕ) → Within t (listed f) → total t (listed f) ≡ filled (swept s lots f) → NoWorse s (worth (swept s lots f)) (worth_of t (listed f))
    unfolding swept
    swept-best t b z = play-best s (listed f) listed-distinct steps_most listed-few lots t b z

    -- the steps are such a division: each on a candidate of its own, within its shown size, with as many lots and the same worth
    pub swept-made : (x : Step) → In x (swept s lots f) → Made (listed f) x
    unfolding swept
    swept-made x m = play-made s steps_most lots (listed f) x m

    pub swept_once : Distinct (λ (x : Step). x.letter) (swept s lots f)
    unfolding swept
    swept_once = play-once s steps_most lots (listed f)

    pub swept-within : Within (divided (swept s lots f)) (listed f)
    unfolding swept
    swept-within = play-within s (listed f) listed-distinct steps_most listed-few lots

    pub swept-lots : total (divided (swept s lots f)) (listed f) ≡ filled (swept s lots f)
    unfolding swept
    swept-lots = play-lots s (listed f) listed-distinct steps_most listed-few lots

    pub swept-worth : worth_of (divided (swept s lots f)) (listed f) ≡ worth (swept s lots f)
    unfolding swept
    swept-worth = play-worth s (listed f) listed-distinct steps_most listed-few lots
