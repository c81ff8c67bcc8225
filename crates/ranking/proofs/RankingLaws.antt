-- The order of candidates: strict, and total where names differ.
-- Assumes nothing.
use Rattle.std.proofs.Common.{◌≡◌, ℕ, ◌≤◌, Bool, true, false, not, [], ◌∷◌, sym, refl, ◌∙◌, arith, ltb-false, ltb-true, lt-ltb}
use Rattle.lists.proofs.Tests.{clash}
use Rattle.ranking.specs.declared.Side.{Side}
use Rattle.ranking.specs.declared.Side.TheVariants.{Bid, Offer}
use Rattle.ranking.specs.declared.Candidate.{Candidate}
use Rattle.ranking.specs.Ranking.{ahead, compared_by, lower, higher, by_price, by_name, pricing, sizing, timing, naming, compared, better}
use Rattle.ranking.specs.Held.{lateness}
use Rattle.ranking.proofs.OrderLaws.{Weak, lex, lex-left, lex-ahead, ahead_by, ahead-lex, peel, AllWeak, steps-weak, same_step, Rising, closer, low-weak, high-weak, low-tie}

by_price-weak : (s : Side) → Weak (by_price s)
unfolding by_price lower higher
by_price-weak Bid = high-weak (λ (c : Candidate). c.price)
by_price-weak Offer = low-weak (λ (c : Candidate). c.price)

all-weak : (s : Side) → AllWeak (pricing s) (sizing ∷ timing ∷ naming ∷ [])
all-weak s = (by_price-weak s, (high-weak (λ (c : Candidate). c.size), (low-weak (λ (c : Candidate). c.time), low-weak (λ (c : Candidate). c.name))))

rising : (s : Side) → Rising (pricing s) (sizing ∷ timing ∷ naming ∷ [])
rising s = (omega arith, (omega arith, (omega arith, tt)))

pub better-weak : (s : Side) → Weak (better s)
unfolding better compared
better-weak s = steps-weak (pricing s) (sizing ∷ timing ∷ naming ∷ []) (all-weak s)

-- both ways round the same of the four decides
pub same-reason : (s : Side) (a b : Candidate) → (compared s a b).by ≡ (compared s b a).by
unfolding compared
same-reason s a b = same_step (pricing s) (sizing ∷ timing ∷ naming ∷ []) (all-weak s) a b

-- of two that lose to b, the better one is decided no earlier
pub closer-reason : (s : Side) (b x y : Candidate) → better s x b ≡ false → better s y x ≡ false → lateness (compared s b y).by ≤ lateness (compared s b x).by
unfolding better compared
closer-reason s b x y e f = closer (pricing s) (sizing ∷ timing ∷ naming ∷ []) (all-weak s) (rising s) b x y e f

-- the better price decides
better-price : (s : Side) (a b : Candidate) → better s a b ≡ lex (by_price s) (ahead_by sizing (timing ∷ naming ∷ [])) a b
unfolding better compared
better-price s a b = ahead-lex (pricing s) sizing (timing ∷ naming ∷ []) a b

pub better-ahead : (s : Side) (a b : Candidate) → ahead s a.price b.price ≡ true → better s a b ≡ true
unfolding by_price
better-ahead s a b e = better-price s a b ∙ lex-ahead (by_price s) (ahead_by sizing (timing ∷ naming ∷ [])) a b e

pub better-not-ahead : (s : Side) (a b : Candidate) → better s a b ≡ false → ahead s a.price b.price ≡ false
unfolding by_price
better-not-ahead s a b e = lex-left (by_price s) (ahead_by sizing (timing ∷ naming ∷ [])) a b (sym (better-price s a b) ∙ e)

by-name : (s : Side) (a b : Candidate) → better s a b ≡ false → better s b a ≡ false → by_name a b ≡ false
unfolding better compared compared_by
by-name s a b e f = peel timing naming [] a b (times a b e f) (times b a f e)
  where
    sizes : (a b : Candidate) → ahead_by (pricing s) (sizing ∷ timing ∷ naming ∷ []) a b ≡ false → ahead_by (pricing s) (sizing ∷ timing ∷ naming ∷ []) b a ≡ false
        → ahead_by sizing (timing ∷ naming ∷ []) a b ≡ false
    sizes a b e f = peel (pricing s) sizing (timing ∷ naming ∷ []) a b e f

    times : (a b : Candidate) → ahead_by (pricing s) (sizing ∷ timing ∷ naming ∷ []) a b ≡ false → ahead_by (pricing s) (sizing ∷ timing ∷ naming ∷ []) b a ≡ false
        → ahead_by timing (naming ∷ []) a b ≡ false
    times a b e f = peel sizing timing (naming ∷ []) a b (sizes a b e f) (sizes b a f e)

-- two candidates of which neither is better have one name
pub better-tie : (s : Side) (a b : Candidate) → better s a b ≡ false → better s b a ≡ false → a.name ≡ b.name
better-tie s a b e f = low-tie (λ (c : Candidate). c.name) a b (by-name s a b e f) (by-name s b a f e)

-- of two candidates with different names exactly one is better
pub better-total : (s : Side) (a b : Candidate) → (a.name ≡ b.name → ⊥) → better s a b ≡ not (better s b a)
better-total s a b n = go (better s a b) refl (better s b a) refl
  where
    go : (t : Bool) → better s a b ≡ t → (u : Bool) → better s b a ≡ u → t ≡ not u
    go true e true f = clash (sym f ∙ (better-weak s).asym a b e)
    go true e false f = refl
    go false e true f = refl
    go false e false f = absurd (n (better-tie s a b e f))

-- ---- prices

pub ahead-chain : (s : Side) (p q r : ℕ) → ahead s p q ≡ true → ahead s q r ≡ true → ahead s p r ≡ true
ahead-chain Bid p q r e f = lt-ltb r p (omega (arith, ltb-true q p e, ltb-true r q f))
ahead-chain Offer p q r e f = lt-ltb p r (omega (arith, ltb-true p q e, ltb-true q r f))

-- what is not behind one that is ahead of r is ahead of r
pub ahead-up : (s : Side) (p q r : ℕ) → ahead s q p ≡ false → ahead s q r ≡ true → ahead s p r ≡ true
ahead-up Bid p q r e f = lt-ltb r p (omega (arith, ltb-false p q e, ltb-true r q f))
ahead-up Offer p q r e f = lt-ltb p r (omega (arith, ltb-false q p e, ltb-true q r f))
