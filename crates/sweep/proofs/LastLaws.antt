-- The steps by the last one alone, as the code has them that keeps no list of those used: each goes to the best candidate behind the last.
-- Assumes nothing.
use Prim.Native.Nat.{ℕ, zero, suc, ◌-◌}
use mathlib.Core.Path.{◌≡◌, refl, ap, ◌∙◌}
use mathlib.Core.Bool.{Bool, true, false, cond}
use mathlib.Core.List.{List, [], ◌∷◌}
use Rattle.std.specs.Prelude.{Option, None, Some}
use lib.Dec.{eqb}
use Rattle.lists.proofs.Tests.{clash}
use Rattle.lists.proofs.Members.{In, Distinct, in-collect}
use Rattle.ranking.specs.declared.Side.{Side}
use Rattle.ranking.specs.declared.Candidate.{Candidate}
use Rattle.ranking.specs.Ranking.{pick, better, best}
use Rattle.ranking.proofs.OrderLaws.{IsBest, best-is, keep}
use Rattle.ranking.proofs.RankingLaws.{better-weak}
use Rattle.sweep.specs.Sweep.{Step, least, step_on, without, play_by, play}
use Rattle.sweep.proofs.SelectionLaws.{name_of, one_name, behind, first-behind, next-behind}

-- those behind the last one used, if there is one
abbrev pub behind_last : Side → Option Candidate → List Candidate → List Candidate
behind_last s None cs = cs
behind_last s (Some a) cs = behind s a cs

-- a step on the best, then the next behind it
abbrev pub on_best : ℕ → (ℕ → Option Candidate → List Step) → Option Candidate → List Step
on_best w next None = []
on_best w next (Some c) = step_on w c ∷ next (w - least w c.size) (Some c)

-- behind the last one used, k steps at most
unfoldable pub play_from : Side → List Candidate → ℕ → ℕ → Option Candidate → List Step
play_from s cs zero w o = []
play_from s cs (suc k) w o = cond (eqb w 0) [] (on_best w (play_from s cs k) (best (better s) (behind_last s o cs)))

module _ (s : Side) where
  in-behind : (a c : Candidate) (cs : List Candidate) → In c (behind s a cs) → In c cs × (better s a c ≡ true)
  in-behind a c cs m =
      let r = in-collect (keep (better s a)) c cs m in
      go r.0 r.1 (better s a r.0) refl r.2
    where
      go : (d : Candidate) → In d cs → (t : Bool) → better s a d ≡ t → cond t (Some d) None ≡ Some c → In c cs × (better s a c ≡ true)
      go d n true e f = let p : d ≡ c = cc in rw (← p) (n, e)
      go d n false e f = clash (cc)

  -- the best of a list, if it has one
  best_of : (cs : List Candidate) (c : Candidate) → best (better s) cs ≡ Some c → IsBest (better s) cs c
  best_of [] c e = clash (cc)
  best_of (x ∷ xs) c e = let p : pick (better s) x (best (better s) xs) ≡ c = cc in rw (← p) (best-is (better s) (better-weak s) x xs)

  module _ (cs : List Candidate) (d : Distinct name_of cs) where
    -- the best of those behind the last one used, taken out: those behind it
    rest-behind : (o : Option Candidate) (c : Candidate) → best (better s) (behind_last s o cs) ≡ Some c → without c.name (behind_last s o cs) ≡ behind s c cs
    rest-behind None c e =
        let b : IsBest (better s) cs c = best_of cs c e in
        first-behind s c cs b.top (λ x n f. one_name c x cs d n b.member f)
    rest-behind (Some a) c e =
        let b : IsBest (better s) (behind s a cs) c = best_of (behind s a cs) c e in
        let m = in-behind a c cs b.member in
        first-behind s c (behind s a cs) b.top (λ x n f. one_name c x cs d (in-behind a x cs n).0 m.0 f) ∙ next-behind s a c cs m.1

    -- no list of those used is needed
    pub play-from : (k w : ℕ) (o : Option Candidate) → play s k w (behind_last s o cs) ≡ play_from s cs k w o
    unfolding play play_from
    play-from zero w o = refl
    play-from (suc k) w o = go (best (better s) (behind_last s o cs)) refl (λ v c. play-from k v (Some c))
      where
        go : (b : Option Candidate) → best (better s) (behind_last s o cs) ≡ b → ((v : ℕ) (c : Candidate) → play s k v (behind s c cs) ≡ play_from s cs k v (Some c))
            → cond (eqb w 0) [] (play_by w (behind_last s o cs) (play s k) b) ≡ cond (eqb w 0) [] (on_best w (play_from s cs k) b)
        go None e down = refl
        go (Some c) e down =
            ap (λ (l : List Step). cond (eqb w 0) [] (step_on w c ∷ l)) (ap (play s k (w - least w c.size)) (rest-behind o c e) ∙ down (w - least w c.size) c)
