-- The steps are themselves a division of that kind: within the shown sizes, with as many lots and the same worth.
-- Assumes nothing.
use Prim.Native.Nat.{ℕ, ◌+◌, ◌*◌, ◌-◌, ◌≤◌}
use mathlib.Core.Path.{◌≡◌, refl, sym, ap, ◌∙◌}
use mathlib.Core.Bool.{Bool, true, false, cond}
use mathlib.Core.Logic.{inl, inr}
use mathlib.Core.List.{List, [], ◌∷◌}
use native.Mathlib.Omega.{arith}
use lib.Dec.{eqb}
use lib.ListN.{length}
use Rattle.lists.proofs.Tests.{Cut, equal, apart, cut}
use Rattle.lists.proofs.Members.{In, Distinct}
use Rattle.ranking.specs.declared.Side.{Side}
use Rattle.ranking.specs.declared.Candidate.{Candidate}
use Rattle.sweep.specs.Sweep.{Step, least, step_on, play, filled}
use Rattle.sweep.specs.Division.{worth, total, worth_of, Within}
use Rattle.sweep.proofs.GreedyLaws.{walk, each_within}
use Rattle.sweep.proofs.SelectionLaws.{name_of, one_name, ranked, play-walks, ranked-total, ranked-distinct}
use Rattle.sweep.proofs.PlayLaws.{Made, play-made}

-- the lots that the steps take from a letter
unfoldable pub lots_on : List Step → ℕ → ℕ
lots_on [] n = 0
lots_on (x ∷ xs) n = cond (eqb x.letter n) x.lots (lots_on xs n)

abbrev pub divided : List Step → Candidate → ℕ
divided xs c = lots_on xs c.name

total-same : (f g : Candidate → ℕ) (cs : List Candidate) → ((c : Candidate) → In c cs → f c ≡ g c) → total f cs ≡ total g cs
unfolding total
total-same f g [] h = refl
total-same f g (c ∷ cs) h = λ i. h c (inl refl) i + total-same f g cs (λ d m. h d (inr m)) i

total-none : (f : Candidate → ℕ) (cs : List Candidate) → ((c : Candidate) → In c cs → f c ≡ 0) → total f cs ≡ 0
unfolding total
total-none f [] h = refl
total-none f (c ∷ cs) h = omega (arith, h c (inl refl), total-none f cs (λ d m. h d (inr m)))

module _ (w : ℕ) (c : Candidate) (xs : List Step) where
  own-step : lots_on (step_on w c ∷ xs) c.name ≡ least w c.size
  unfolding lots_on
  own-step = go (cut c.name c.name)
    where
      go : Cut c.name c.name → cond (eqb c.name c.name) (least w c.size) (lots_on xs c.name) ≡ least w c.size
      go (equal t e) = rw t
      go (apart t e) = absurd (e refl)

  other_step : (n : ℕ) → (n ≡ c.name → ⊥) → lots_on (step_on w c ∷ xs) n ≡ lots_on xs n
  unfolding lots_on
  other_step n d = go (cut c.name n)
    where
      go : Cut c.name n → cond (eqb c.name n) (least w c.size) (lots_on xs n) ≡ lots_on xs n
      go (equal t e) = absurd (d (sym e))
      go (apart t e) = rw t

nothing : (g : Candidate → ℕ) (c : Candidate) → divided [] c * g c ≡ 0
unfolding lots_on
nothing g c = omega arith

-- down a list of different names: a sum over the candidates is the same sum over the steps
walk-divided : (g : Candidate → ℕ) (v : List Step → ℕ) → v [] ≡ 0 → ((w : ℕ) (c : Candidate) (xs : List Step) → v (step_on w c ∷ xs) ≡ least w c.size * g c + v xs)
    → (cs : List Candidate) → Distinct name_of cs → (w : ℕ) → total (λ c. divided (walk w cs) c * g c) cs ≡ v (walk w cs)
unfolding walk total
walk-divided g v z s [] d w = sym z
walk-divided g v z s (x ∷ xs) d w = go (eqb w 0) (walk-divided g v z s xs d.1 (w - least w x.size))
  where
    go : (t : Bool) → total (λ c. divided (walk (w - least w x.size) xs) c * g c) xs ≡ v (walk (w - least w x.size) xs)
        → total (λ c. divided (cond t [] (step_on w x ∷ walk (w - least w x.size) xs)) c * g c) (x ∷ xs) ≡ v (cond t [] (step_on w x ∷ walk (w - least w x.size) xs))
    go true down = total-none (λ c. divided [] c * g c) (x ∷ xs) (λ c m. nothing g c) ∙ sym z
    go false down =
        (λ i. own-step w x (walk (w - least w x.size) xs) i * g x
        + total-same (λ c. divided (step_on w x ∷ walk (w - least w x.size) xs) c * g c) (λ c. divided (walk (w - least w x.size) xs) c * g c) xs
        (λ c m. ap (λ (n : ℕ). n * g c) (other_step w x (walk (w - least w x.size) xs) c.name (d.0 c m))) i)
        ∙ ap (λ (n : ℕ). least w x.size * g x + n) down ∙ sym (s w x (walk (w - least w x.size) xs))

-- ---- within the shown sizes

-- the step of a letter, if there is one
pub data Found (xs : List Step) (n : ℕ) : Type 0 where
  missing : lots_on xs n ≡ 0 → Found xs n
  found : (x : Step) → In x xs → x.letter ≡ n → lots_on xs n ≡ x.lots → Found xs n

find : (xs : List Step) (n : ℕ) → Found xs n
unfolding lots_on
find [] n = missing refl
find (x ∷ xs) n = go (cut x.letter n) (find xs n)
  where
    go : Cut x.letter n → Found xs n → Found (x ∷ xs) n
    go (equal t e) f = found x (inl refl) e (rw t)
    go (apart t e) (missing a) = missing (rw t a)
    go (apart t e) (found y m a b) = found y (inr m) a (rw t b)

module _ (s : Side) (cs : List Candidate) (d : Distinct name_of cs) (k : ℕ) (h : length cs ≤ k) (w : ℕ) where
  pub play-within : Within (divided (play s k w cs)) cs
  play-within = each_within (divided (play s k w cs)) cs (λ c m. go c m (find (play s k w cs) c.name))
    where
      go : (c : Candidate) → In c cs → Found (play s k w cs) c.name → lots_on (play s k w cs) c.name ≤ c.size
      go c m (missing a) = omega arith
      go c m (found x n a b) =
          let r : Made cs x = play-made s k w cs x n in
          let e : r.on ≡ c = one_name c r.on cs d r.member m (sym r.letter ∙ a) in
          let l : r.on.size ≡ c.size = ap (λ (z : Candidate). z.size) e in
          omega (arith, r.lots)

  by-steps : (g : Candidate → ℕ) (v : List Step → ℕ) → v [] ≡ 0 → ((w : ℕ) (c : Candidate) (xs : List Step) → v (step_on w c ∷ xs) ≡ least w c.size * g c + v xs)
      → total (λ c. divided (play s k w cs) c * g c) cs ≡ v (play s k w cs)
  by-steps g v z e =
      sym (ranked-total s (λ c. divided (play s k w cs) c * g c) k cs h d)
      ∙ ap (λ (xs : List Step). total (λ c. divided xs c * g c) (ranked s k cs)) (play-walks s k w cs)
      ∙ walk-divided g v z e (ranked s k cs) (ranked-distinct s k cs) w
      ∙ ap v (sym (play-walks s k w cs))

  -- as many lots
  pub play-lots : total (divided (play s k w cs)) cs ≡ filled (play s k w cs)
  unfolding filled
  play-lots =
      total-same (divided (play s k w cs)) (λ c. divided (play s k w cs) c * 1) cs (λ c m. omega arith)
      ∙ by-steps (λ c. 1) filled refl (λ w c xs. omega arith)

  -- the same worth
  pub play-worth : worth_of (divided (play s k w cs)) cs ≡ worth (play s k w cs)
  unfolding worth
  play-worth = by-steps (λ c. c.price) worth refl (λ w c xs. refl)
