-- Round the steps: a halted page fills nothing (T-10).
-- Assumes nothing.
use Prim.Native.Nat.{ℕ, ◌-◌}
use mathlib.Core.Path.{◌≡◌, refl}
use mathlib.Core.Bool.{Bool, true, false, cond}
use mathlib.Core.List.{List, []}
use Rattle.std.specs.Prelude.{Option, None}
use native.Mathlib.Omega.{arith}
use lib.Dec.{eqb}
use Rattle.field.specs.Field.{Bytes, splice}
use Rattle.ranking.specs.declared.Side.{Side}
use Rattle.ranking.specs.declared.Candidate.{Candidate}
use Rattle.ranking.proofs.Bridge.{OrCounting}
use Rattle.entries.specs.Entries.{letters, trading_candidates}
use Rattle.lists.proofs.Tests.{clash}
use Rattle.page.specs.Page.{halted_in}
use Rattle.protection.specs.Protection.{page_candidates, page_trading}
use Rattle.sweep.specs.Sweep.{Step, play, swept, filled, steps_bytes}
use Rattle.sweep.specs.code.Next.{SweptOut, swept_out}
use Rattle.sweep.proofs.SweepLaws.{Lettered}
use Rattle.sweep.proofs.NextLaws.{page-counts}
use Rattle.sweep.proofs.LoopLaws.{page-lettered}

-- no candidate, no step
pub none-swept : (s : Side) (w : ℕ) → swept s w (λ l. None) ≡ []
unfolding swept play letters
none-swept s w = go (eqb w 0)
  where
    go : (t : Bool) → ◌≡◌ {A = List Step} (cond t [] []) []
    go true = refl
    go false = refl

module _ (p : List ℕ) (s : Side) (w : ℕ) (out : List ℕ) where
  pub play-halted : halted_in p ≡ true → record { steps = 0; unfilled = w; out = out } ≡ swept_out s w (page_trading p s) out
  unfolding trading_candidates swept_out filled steps_bytes splice
  play-halted h =
      let e : w ≡ w - 0 = omega arith in
      rw (h, none-swept s w) (λ j. record { steps = 0; unfilled = e j; out = out })

  pub play-trading : halted_in p ≡ false → (o : SweptOut) → o ≡ swept_out s w (page_candidates p s) out → o ≡ swept_out s w (page_trading p s) out
  unfolding trading_candidates
  play-trading h o e = rw h e

-- ---- the candidates of a page, none while it is halted

pub trading-lettered : (p : List ℕ) (s : Side) → Lettered (page_trading p s)
unfolding trading_candidates
trading-lettered p s = go (halted_in p)
  where
    go : (t : Bool) → Lettered (cond {A = Side → ℕ → Option Candidate} t (λ z l. None) (page_candidates p) s)
    go true = record { named = λ l x e. clash (cc); processor = refl }
    go false = page-lettered p s

pub trading-counts : (p : List ℕ) → Bytes p → (s : Side) (l : ℕ) → OrCounting (page_trading p s l)
unfolding trading_candidates
trading-counts p b s l = go (halted_in p)
  where
    go : (t : Bool) → OrCounting (cond {A = Side → ℕ → Option Candidate} t (λ z l. None) (page_candidates p) s l)
    go true = tt
    go false = page-counts p b s l
