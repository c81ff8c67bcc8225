-- Down a list in order of price, as many lots as are wanted and shown from each: no other division that fills as many is better.
-- Assumes nothing.
use Prim.Native.Nat.{ℕ, ◌+◌, ◌*◌, ◌-◌, ◌≤◌, ◌<◌}
use mathlib.Core.Path.{◌≡◌, refl, sym, ap, ◌∙◌}
use mathlib.Core.Bool.{Bool, true, false, cond}
use mathlib.Core.Logic.{inl, inr}
use mathlib.Core.List.{List, [], ◌∷◌}
use native.Mathlib.Omega.{arith}
use native.Mathlib.Nat.{add-mul, mul-le-mul_left}
use lib.Dec.{eqb, leb}
use borrow.Author.Tests.{leb-true, leb-false, ltb-false, eqb-true}
use Rattle.lists.proofs.Members.{In}
use Rattle.ranking.specs.declared.Side.{Side}
use Rattle.ranking.specs.declared.Side.TheVariants.{Bid, Offer}
use Rattle.ranking.specs.declared.Candidate.{Candidate}
use Rattle.ranking.specs.Ranking.{ahead}
use Rattle.sweep.specs.Sweep.{Step, least, step_on, filled}
use Rattle.sweep.specs.Division.{worth, total, shown, worth_of, Within, NoWorse}

-- ---- no worse: a preorder that sums and multiples keep

module _ (s : Side) where
  pub no-worse-same : (a : ℕ) → NoWorse s a a
  no-worse-same a = go s
    where
      go : (s : Side) → NoWorse s a a
      go Bid = omega arith
      go Offer = omega arith

  pub no-worse-then : (a b c : ℕ) → NoWorse s a b → NoWorse s b c → NoWorse s a c
  no-worse-then a b c = go s
    where
      go : (s : Side) → NoWorse s a b → NoWorse s b c → NoWorse s a c
      go Bid x y = omega arith
      go Offer x y = omega arith

  no-worse-sum : (a b c d : ℕ) → NoWorse s a b → NoWorse s c d → NoWorse s (a + c) (b + d)
  no-worse-sum a b c d = go s
    where
      go : (s : Side) → NoWorse s a b → NoWorse s c d → NoWorse s (a + c) (b + d)
      go Bid x y = omega arith
      go Offer x y = omega arith

  no-worse-times : (e p q : ℕ) → NoWorse s p q → NoWorse s (e * p) (e * q)
  no-worse-times e p q = go s
    where
      go : (s : Side) → NoWorse s p q → NoWorse s (e * p) (e * q)
      go Bid x = mul-le-mul_left e x
      go Offer x = mul-le-mul_left e x

  pub not-ahead : (p q : ℕ) → ahead s q p ≡ false → NoWorse s p q
  not-ahead p q = go s
    where
      go : (s : Side) → ahead s q p ≡ false → NoWorse s p q
      go Bid e = ltb-false p q e
      go Offer e = ltb-false q p e

-- ---- down a list, in its order

unfoldable pub walk : ℕ → List Candidate → List Step
walk w [] = []
walk w (c ∷ cs) = cond (eqb w 0) [] (step_on w c ∷ walk (w - least w c.size) cs)

-- no later price is better
abbrev pub Sorted : Side → List Candidate → Type 0
Sorted s [] = Unit {0}
Sorted s (c ∷ cs) = ((d : Candidate) → In d cs → NoWorse s c.price d.price) × Sorted s cs

-- all of what is wanted, or all that is shown
pub data Least (a b : ℕ) : Type 0 where
  all : least a b ≡ a → a ≤ b → Least a b
  most : least a b ≡ b → b < a → Least a b

pub least-is : (a b : ℕ) → Least a b
least-is a b = go (leb a b) refl
  where
    go : (t : Bool) → leb a b ≡ t → Least a b
    go true e = all (rw e) (leb-true a b e)
    go false e = most (rw e) (leb-false a b e)

-- nothing wanted, nothing done
walk_none : (cs : List Candidate) → walk 0 cs ≡ []
unfolding walk
walk_none [] = refl
walk_none (c ∷ cs) = refl

-- one step, whether or not any are wanted
module _ (w : ℕ) (c : Candidate) (cs : List Candidate) where
  none_left : w ≡ 0 → walk (w - least w c.size) cs ≡ []
  none_left e = let z : w - least w c.size ≡ 0 = omega arith in rw z (walk_none cs)

  no-lots : w ≡ 0 → least w c.size ≡ 0
  no-lots e = go (least-is w c.size)
    where
      go : Least w c.size → least w c.size ≡ 0
      go (all x y) = x ∙ e
      go (most x y) = absurd (omega arith)

  walk-filled : filled (walk w (c ∷ cs)) ≡ least w c.size + filled (walk (w - least w c.size) cs)
  unfolding walk filled
  walk-filled = go (eqb w 0) refl
    where
      go : (t : Bool) → eqb w 0 ≡ t → filled (cond t [] (step_on w c ∷ walk (w - least w c.size) cs)) ≡ least w c.size + filled (walk (w - least w c.size) cs)
      go true e = let z : w ≡ 0 = eqb-true w 0 e in rw (none_left z, no-lots z)
      go false e = refl

  walk-worth : worth (walk w (c ∷ cs)) ≡ least w c.size * c.price + worth (walk (w - least w c.size) cs)
  unfolding walk worth
  walk-worth = go (eqb w 0) refl
    where
      go : (t : Bool) → eqb w 0 ≡ t → worth (cond t [] (step_on w c ∷ walk (w - least w c.size) cs)) ≡ least w c.size * c.price + worth (walk (w - least w c.size) cs)
      go true e = let z : w ≡ 0 = eqb-true w 0 e in rw (none_left z, no-lots z) (let y : 0 * c.price ≡ 0 = omega arith in rw y)
      go false e = refl

-- ---- it fills what is wanted, as far as it is shown

pub walk-fills : (cs : List Candidate) (w : ℕ) → filled (walk w cs) ≡ least w (shown cs)
unfolding walk filled total
walk-fills [] w = go (least-is w 0)
  where
    go : Least w 0 → 0 ≡ least w 0
    go (all x y) = omega arith
    go (most x y) = omega arith
walk-fills (c ∷ cs) w = walk-filled w c cs ∙ ap (λ (n : ℕ). least w c.size + n) (walk-fills cs (w - least w c.size)) ∙ go (least-is w c.size) (least-is (w - least w c.size) (shown cs)) (least-is w (c.size + shown cs))
  where
    go : Least w c.size → Least (w - least w c.size) (shown cs) → Least w (c.size + shown cs) → least w c.size + least (w - least w c.size) (shown cs) ≡ least w (c.size + shown cs)
    go (all a b) (all d e) (all f g) = omega arith
    go (all a b) (all d e) (most f g) = omega arith
    go (all a b) (most d e) (all f g) = omega arith
    go (all a b) (most d e) (most f g) = omega arith
    go (most a b) (all d e) (all f g) = omega arith
    go (most a b) (all d e) (most f g) = omega arith
    go (most a b) (most d e) (all f g) = omega arith
    go (most a b) (most d e) (most f g) = omega arith

-- ---- none beyond its shown size: of each candidate

pub within-each : (t : Candidate → ℕ) (cs : List Candidate) → Within t cs → (c : Candidate) → In c cs → t c ≤ c.size
within-each t [] h c m = absurd m
within-each t (x ∷ xs) h c (inl p) = rw p h.0
within-each t (x ∷ xs) h c (inr m) = within-each t xs h.1 c m

pub each_within : (t : Candidate → ℕ) (cs : List Candidate) → ((c : Candidate) → In c cs → t c ≤ c.size) → Within t cs
each_within t [] h = tt
each_within t (x ∷ xs) h = (h x (inl refl), each_within t xs (λ c m. h c (inr m)))

-- ---- no other division is better

-- a division that fills e lots more than the walk is no better than the walk with e lots more at a price q that no candidate betters
pub walk-best : (s : Side) (t : Candidate → ℕ) (cs : List Candidate) → Sorted s cs → Within t cs → (w e q : ℕ) → ((c : Candidate) → In c cs → NoWorse s q c.price)
    → total t cs ≡ filled (walk w cs) + e → NoWorse s (worth (walk w cs) + e * q) (worth_of t cs)
unfolding total walk filled worth
walk-best s t [] o h w e q b z =
    let y : e ≡ 0 = omega arith in
    let x : 0 + e * q ≡ 0 = ap (λ (n : ℕ). 0 + n * q) y ∙ omega arith in
    rw x (no-worse-same s 0)
walk-best s t (c ∷ cs) o h w e q b z =
    let g : ℕ = least w c.size in
    let r : ℕ = w - least w c.size in
    let p : ℕ = c.price in
    let f : total t cs ≡ filled (walk r cs) + (total t cs - filled (walk r cs)) = omega (arith, rest (least-is w c.size), walk-filled w c cs) in
    let k : ℕ = total t cs - filled (walk r cs) in
    let i : NoWorse s (worth (walk r cs) + k * p) (worth_of t cs) = walk-best s t cs o.1 h.1 r k p (λ d m. o.0 d m) f in
    let l : t c + k ≡ g + e = omega (arith, walk-filled w c cs) in
    let v : t c * p + k * p ≡ g * p + e * p = sym (add-mul (t c) k p) ∙ ap (λ (n : ℕ). n * p) l ∙ add-mul g e p in
    let a : worth (walk w (c ∷ cs)) + e * p ≡ t c * p + (worth (walk r cs) + k * p) = omega (arith, walk-worth w c cs) in
    no-worse-then s (worth (walk w (c ∷ cs)) + e * q) (worth (walk w (c ∷ cs)) + e * p) (t c * p + worth_of t cs)
    (no-worse-sum s (worth (walk w (c ∷ cs))) (worth (walk w (c ∷ cs))) (e * q) (e * p) (no-worse-same s (worth (walk w (c ∷ cs)))) (no-worse-times s e q p (b c (inl refl))))
    (rw a (no-worse-sum s (t c * p) (t c * p) (worth (walk r cs) + k * p) (worth_of t cs) (no-worse-same s (t c * p)) i))
  where
    -- behind the first candidate the walk fills no more than the division
    rest : Least w c.size → filled (walk (w - least w c.size) cs) ≤ total t cs
    rest (all x y) = let u : w - least w c.size ≡ 0 = omega arith in rw (u, walk_none cs) (omega arith)
    rest (most x y) = omega (arith, walk-filled w c cs, h.0)

-- a division that fills as many lots is no better
pub walk-optimal : (s : Side) (t : Candidate → ℕ) (cs : List Candidate) → Sorted s cs → Within t cs → (w : ℕ) → total t cs ≡ filled (walk w cs) → NoWorse s (worth (walk w cs)) (worth_of t cs)
walk-optimal s t cs o h w z = go cs o h z
  where
    at : (cs : List Candidate) → Sorted s cs → Within t cs → (q : ℕ) → ((c : Candidate) → In c cs → NoWorse s q c.price) → total t cs ≡ filled (walk w cs) → NoWorse s (worth (walk w cs)) (worth_of t cs)
    at cs o h q b z =
        let x : worth (walk w cs) + 0 * q ≡ worth (walk w cs) = omega arith in
        rw x at (walk-best s t cs o h w 0 q b (z ∙ omega arith))

    go : (cs : List Candidate) → Sorted s cs → Within t cs → total t cs ≡ filled (walk w cs) → NoWorse s (worth (walk w cs)) (worth_of t cs)
    go [] o h z = at [] o h 0 (λ c m. absurd m) z
    go (c ∷ cs) o h z = at (c ∷ cs) o h c.price (λ d m. elim m [ inl p ↦ rw p (no-worse-same s c.price) | inr m' ↦ o.0 d m' ]) z
