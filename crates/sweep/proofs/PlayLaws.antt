-- T-13's steps over any candidates of different names: what they fill, that no other division that fills as many lots is better, whose they are.
-- Assumes nothing.
use Prim.Native.Nat.{ℕ, zero, suc, ◌*◌, ◌-◌, ◌≤◌}
use mathlib.Core.Path.{◌≡◌, sym, ap, ◌∙◌}
use mathlib.Core.Bool.{Bool, true, false, cond}
use mathlib.Core.Logic.{inl, inr}
use mathlib.Core.List.{List, [], ◌∷◌}
use Rattle.std.specs.Prelude.{Option, None, Some}
use native.Mathlib.Omega.{arith}
use lib.Dec.{eqb}
use lib.ListN.{length}
use Rattle.lists.proofs.Members.{In, Distinct}
use Rattle.ranking.specs.declared.Side.{Side}
use Rattle.ranking.specs.declared.Candidate.{Candidate}
use Rattle.ranking.specs.Ranking.{better, best}
use Rattle.sweep.specs.Sweep.{Step, least, step_on, without, play_by, play, filled}
use Rattle.sweep.specs.Division.{worth, total, shown, worth_of, Within, NoWorse}
use Rattle.sweep.proofs.GreedyLaws.{Least, all, most, least-is, walk-fills, within-each, each_within, walk-optimal}
use Rattle.sweep.proofs.SelectionLaws.{name_of, in_without, not-in-without, ranked, play-walks, top, is-top, in-ranked, ranked-sorted, ranked-total}

module _ (s : Side) (cs : List Candidate) (d : Distinct name_of cs) (k : ℕ) (h : length cs ≤ k) (w : ℕ) where
  -- all that is wanted, as far as it is shown
  pub play-fills : filled (play s k w cs) ≡ least w (shown cs)
  play-fills = ap filled (play-walks s k w cs) ∙ walk-fills (ranked s k cs) w ∙ ap (least w) (ranked-total s (λ c. c.size) k cs h d)

  -- no division that fills as many lots costs less to buy or brings more to sell
  pub play-best : (t : Candidate → ℕ) → Within t cs → total t cs ≡ filled (play s k w cs) → NoWorse s (worth (play s k w cs)) (worth_of t cs)
  play-best t b z =
      rw (play-walks s k w cs, ← ranked-total s (λ c. t c * c.price) k cs h d)
      (walk-optimal s t (ranked s k cs) (ranked-sorted s k cs) (each_within t (ranked s k cs) (λ c m. within-each t cs b c (in-ranked s k c cs m))) w
      (ranked-total s t k cs h d ∙ z ∙ ap filled (play-walks s k w cs)))

pub play-few : (s : Side) (k w : ℕ) (cs : List Candidate) → length (play s k w cs) ≤ k
unfolding play
play-few s zero w cs = omega arith
play-few s (suc k) w cs = go (eqb w 0) (best (better s) cs) (λ v ds. play-few s k v ds)
  where
    go : (t : Bool) (o : Option Candidate) → ((v : ℕ) (ds : List Candidate) → length (play s k v ds) ≤ k) → length (cond t [] (play_by w cs (play s k) o)) ≤ suc k
    go true o down = omega arith
    go false None down = omega arith
    go false (Some c) down = omega (arith, down (w - least w c.size) (without c.name cs))

-- ---- the steps are a division: each on a candidate of its own, within its shown size

pub record Made (cs : List Candidate) (x : Step) : Type 0 where
  pub on : Candidate
  pub member : In on cs
  pub letter : x.letter ≡ on.name
  pub price : x.price ≡ on.price
  pub lots : x.lots ≤ on.size

least_under : (a b : ℕ) → least a b ≤ b
least_under a b = go (least-is a b)
  where
    go : Least a b → least a b ≤ b
    go (all e h) = omega arith
    go (most e h) = omega arith

module _ (s : Side) where
  pub play-made : (k w : ℕ) (cs : List Candidate) (x : Step) → In x (play s k w cs) → Made cs x
  unfolding play
  play-made zero w cs x m = absurd m
  play-made (suc k) w [] x m = absurd (nothing (eqb w 0) m)
    where
      nothing : (t : Bool) → In x (cond t [] []) → ⊥
      nothing true m = m
      nothing false m = m
  play-made (suc k) w (y ∷ ys) x m = go (eqb w 0) (λ n. play-made k (w - least w (top s y ys).size) (without (top s y ys).name (y ∷ ys)) x n) m
    where
      go : (t : Bool) → (In x (play s k (w - least w (top s y ys).size) (without (top s y ys).name (y ∷ ys))) → Made (without (top s y ys).name (y ∷ ys)) x)
          → In x (cond t [] (step_on w (top s y ys) ∷ play s k (w - least w (top s y ys).size) (without (top s y ys).name (y ∷ ys)))) → Made (y ∷ ys) x
      go true down m = absurd m
      go false down (inl p) =
          record {
            on = top s y ys;
            member = (is-top s y ys).member;
            letter = ap (λ (z : Step). z.letter) p;
            price = ap (λ (z : Step). z.price) p;
            lots = rw p (least_under w (top s y ys).size);
          }
      go false down (inr n) =
          let r = down n in
          record { on = r.on; member = in_without (top s y ys).name r.on (y ∷ ys) r.member; letter = r.letter; price = r.price; lots = r.lots }

  -- no letter twice
  pub play-once : (k w : ℕ) (cs : List Candidate) → Distinct (λ (x : Step). x.letter) (play s k w cs)
  unfolding play
  play-once zero w cs = tt
  play-once (suc k) w [] = nothing (eqb w 0)
    where
      nothing : (t : Bool) → Distinct (λ (x : Step). x.letter) (cond t [] [])
      nothing true = tt
      nothing false = tt
  play-once (suc k) w (y ∷ ys) = go (eqb w 0) (play-once k (w - least w (top s y ys).size) (without (top s y ys).name (y ∷ ys)))
    where
      go : (t : Bool) → Distinct (λ (x : Step). x.letter) (play s k (w - least w (top s y ys).size) (without (top s y ys).name (y ∷ ys)))
          → Distinct (λ (x : Step). x.letter) (cond t [] (step_on w (top s y ys) ∷ play s k (w - least w (top s y ys).size) (without (top s y ys).name (y ∷ ys))))
      go true down = tt
      go false down = (
        (λ x m e.
            let r = play-made k (w - least w (top s y ys).size) (without (top s y ys).name (y ∷ ys)) x m in
            not-in-without (top s y ys).name r.on (y ∷ ys) r.member (sym r.letter ∙ e)),
        down,
      )
