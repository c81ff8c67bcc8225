-- A side's levels are read best first, so the odd best is the best of the letters' first levels, and may be tested against the national best once.
-- Assumes nothing.
use Prim.Native.Nat.{ℕ, ◌+◌, ◌^◌, ◌<◌}
use mathlib.Core.Path.{◌≡◌, refl, sym, ap, ◌∙◌, fun_ext}
use mathlib.Core.Bool.{Bool, true, false, cond}
use mathlib.Core.List.{List, [], ◌∷◌, ◌++◌}
use Rattle.std.specs.Prelude.{Option, None, Some}
use lib.Dec.{eqb, ltb}
use borrow.Author.Tests.{lt-ltb}
use Rattle.lists.specs.Lists.{map_option, bind_option, cons_option, collect, gather, upper}
use Rattle.lists.proofs.Tests.{clash}
use Rattle.ranking.specs.declared.Side.{Side}
use Rattle.ranking.specs.declared.Side.TheVariants.{Bid, Offer}
use Rattle.ranking.specs.declared.Candidate.{Candidate}
use Rattle.ranking.specs.Ranking.{ahead, better, pick, best}
use Rattle.ranking.specs.Held.{no_candidate, or_none}
use Rattle.ranking.specs.code.Choice.{rank_of, beyond_of}
use Rattle.ranking.proofs.OrderLaws.{Top, best-top, keep, best-keep}
use Rattle.ranking.proofs.RankingLaws.{better-weak, better-ahead, better-not-ahead, ahead-chain, ahead-up}
use Rattle.ranking.proofs.ChoiceLaws.{rank-zero, rank-some}
use Rattle.ranking.proofs.Bridge.{OrCounting, rank-ahead}
use Rattle.quote.specs.declared.Level.{Level}
use Rattle.quote.specs.Quote.{level_candidate, quote_length}
use Rattle.levels.specs.Levels.{side_levels, no_levels, empty_cell, behind, ranked, cells_in, side_in, levels_in, side_length, levels_length}
use Rattle.entries.specs.Entries.{beyond, odd_candidate, ranks, letter_levels}
use Rattle.page.specs.Page.{agreed_side, agreed_levels, first_key, quotes_in, levels_for}
use Rattle.slots.specs.code.Slots.{first_of}
use Rattle.keys.specs.Keys.{key_length}
use Rattle.field.specs.Low.{low}
use Rattle.field.specs.Field.{part}
use Rattle.field.specs.Ascii.{S}
use Rattle.page.specs.Layout.{slot_at, first_key_at}

-- ---- what is read of a side falls: each level ranks behind all before it

abbrev Behind : Side → ℕ → List Level → Type 0
Behind s p [] = Unit {0}
Behind s p (x ∷ xs) = (ahead s p x.price ≡ true) × Behind s p xs

abbrev pub Falling : Side → List Level → Type 0
Falling s [] = Unit {0}
Falling s (x ∷ xs) = Behind s x.price xs × Falling s xs

behind-chain : (s : Side) (p q : ℕ) (xs : List Level) → ahead s p q ≡ true → Behind s q xs → Behind s p xs
behind-chain s p q [] e b = tt
behind-chain s p q (x ∷ xs) e b = (ahead-chain s p q x.price e b.0, behind-chain s p q xs e b.1)

ranked-behind : (s : Side) (y : Level) (xs : List Level) → Behind s y.price (ranked s (Some y) xs)
unfolding ranked
ranked-behind s y [] = tt
ranked-behind s y (x ∷ xs) = go (empty_cell x) (ahead s y.price x.price) refl (ranked-behind s x xs)
  where
    go : (a b : Bool) → ahead s y.price x.price ≡ b → Behind s x.price (ranked s (Some x) xs) → Behind s y.price (cond a [] (cond b (x ∷ ranked s (Some x) xs) []))
    go true b e d = tt
    go false true e d = (e, behind-chain s y.price x.price (ranked s (Some x) xs) e d)
    go false false e d = tt

ranked-falls : (s : Side) (y : Option Level) (xs : List Level) → Falling s (ranked s y xs)
unfolding ranked
ranked-falls s y [] = tt
ranked-falls s y (x ∷ xs) = go (empty_cell x) (behind s y x) (ranked-falls s (Some x) xs)
  where
    go : (a b : Bool) → Falling s (ranked s (Some x) xs) → Falling s (cond a [] (cond b (x ∷ ranked s (Some x) xs) []))
    go true b d = tt
    go false true d = (ranked-behind s x xs, d)
    go false false d = tt

pub levels-fall : (b : List ℕ) (s : Side) → Falling s (side_levels s (levels_in b))
unfolding levels_in side_in
levels-fall b Bid = ranked-falls Bid None (cells_in 4 (part b 0 side_length))
levels-fall b Offer = ranked-falls Offer None (cells_in 4 (part b side_length side_length))

-- also those of a side whose key is its own, or not
side-falls : (s : Side) (k : ℕ) (vs : List Level) → Falling s vs → Falling s (agreed_side s k vs)
unfolding agreed_side
side-falls s k vs f = go (eqb k (first_key s vs))
  where
    go : (t : Bool) → Falling s (cond t vs [])
    go true = f
    go false = tt

agreed-falls : (kb ko : ℕ) (b : List ℕ) (s : Side) → Falling s (side_levels s (agreed_levels kb ko (levels_in b)))
unfolding agreed_levels
agreed-falls kb ko b Bid = side-falls Bid kb (levels_in b).bids (levels-fall b Bid)
agreed-falls kb ko b Offer = side-falls Offer ko (levels_in b).offers (levels-fall b Offer)

pub page-falls : (p : List ℕ) (s : Side) (fb : Option Candidate) (l : ℕ) → Falling s (letter_levels s (quotes_in p) fb (levels_for p) l)
unfolding letter_levels levels_for
page-falls p s fb l = go (eqb l S) (ranks s (quotes_in p) fb l) (upper l)
  where
    none-falls : (s : Side) → Falling s (side_levels s no_levels)
    none-falls Bid = tt
    none-falls Offer = tt

    go : (t r u : Bool) → Falling s (cond t [] (cond r (side_levels s (cond u (agreed_levels (low p (first_key_at Bid l) key_length) (low p (first_key_at Offer l) key_length) (levels_in (part p (slot_at l + quote_length) levels_length))) no_levels)) []))
    go true r u = tt
    go false false u = tt
    go false true true = agreed-falls (low p (first_key_at Bid l) key_length) (low p (first_key_at Offer l) key_length) (part p (slot_at l + quote_length) levels_length) s
    go false true false = none-falls s

-- ---- the first level stands for its letter

not_beyond : (s : Side) (nb : Option Candidate) (p q : ℕ) → ahead s p q ≡ true → beyond s nb p ≡ false → beyond s nb q ≡ false
not_beyond s None p q e f = f
not_beyond s (Some c) p q e f = go (ahead s q c.price) refl
  where
    go : (t : Bool) → ahead s q c.price ≡ t → ahead s q c.price ≡ false
    go true h = clash (sym (ahead-chain s p q c.price e h) ∙ f)
    go false h = h

module _ (s : Side) (nb : Option Candidate) (l : ℕ) where
  none-behind : (p : ℕ) (xs : List Level) → beyond s nb p ≡ false → Behind s p xs → collect (odd_candidate s nb l) xs ≡ []
  unfolding odd_candidate
  none-behind p [] e b = refl
  none-behind p (x ∷ xs) e b = rw (not_beyond s nb p x.price b.0 e) (none-behind p xs e b.1)

  top-behind : (y : Level) (xs : List Level) → Behind s y.price xs → Top (better s) (better-weak s) (level_candidate l 32 y) (collect (odd_candidate s nb l) xs)
  unfolding odd_candidate
  top-behind y [] b = tt
  top-behind y (x ∷ xs) b = go (beyond s nb x.price) (top-behind y xs b.1)
    where
      go : (t : Bool) → Top (better s) (better-weak s) (level_candidate l 32 y) (collect (odd_candidate s nb l) xs)
          → Top (better s) (better-weak s) (level_candidate l 32 y) (cons_option (cond t (Some (level_candidate l 32 x)) None) (collect (odd_candidate s nb l) xs))
      go true d = (better-ahead s (level_candidate l 32 y) (level_candidate l 32 x) b.0, d)
      go false d = d

  one-letter : (xs : List Level) (ys zs : List Candidate) → Falling s xs → best (better s) ys ≡ best (better s) zs
      → best (better s) (collect (odd_candidate s nb l) xs ++ ys) ≡ best (better s) (cons_option (bind_option (first_of xs) (odd_candidate s nb l)) zs)
  unfolding odd_candidate
  one-letter [] ys zs f e = e
  one-letter (x ∷ xs) ys zs f e = go (beyond s nb x.price) refl
    where
      go : (t : Bool) → beyond s nb x.price ≡ t
          → best (better s) (cons_option (cond t (Some (level_candidate l 32 x)) None) (collect (odd_candidate s nb l) xs) ++ ys)
          ≡ best (better s) (cons_option (cond t (Some (level_candidate l 32 x)) None) zs)
      go true h =
          best-top (better s) (better-weak s) (level_candidate l 32 x) (collect (odd_candidate s nb l) xs) ys (top-behind x xs f.0)
          ∙ ap (λ (o : Option Candidate). Some (pick (better s) (level_candidate l 32 x) o)) e
      go false h = rw (none-behind x.price xs h f.0) e

-- ---- tested once

pub collect-bind : {A B C : Type 0} (g : A → Option B) (k : B → Option C) (xs : List A) → collect k (collect g xs) ≡ collect (λ x. bind_option (g x) k) xs
collect-bind g k [] = refl
collect-bind {B = B} g k (x ∷ xs) = go (g x) (collect-bind g k xs)
  where
    go : (o : Option B) → collect k (collect g xs) ≡ collect (λ x. bind_option (g x) k) xs
        → collect k (cons_option o (collect g xs)) ≡ cons_option (bind_option o k) (collect (λ x. bind_option (g x) k) xs)
    go None e = e
    go (Some y) e = ap (cons_option (k y)) e

module _ (s : Side) (nb : Option Candidate) where
  abbrev pub far : Candidate → Bool
  far c = beyond s nb c.price

  far-up : (x y : Candidate) → better s y x ≡ false → far y ≡ true → far x ≡ true
  far-up x y = go nb
    where
      go : (nb : Option Candidate) → better s y x ≡ false → beyond s nb y.price ≡ true → beyond s nb x.price ≡ true
      go None e f = refl
      go (Some c) e f = ahead-up s x.price y.price c.price (better-not-ahead s y x e) f

  odd_is : (l : ℕ) (o : Option Level) → bind_option o (odd_candidate s nb l) ≡ bind_option (map_option (level_candidate l 32) o) (keep far)
  unfolding odd_candidate
  odd_is l None = refl
  odd_is l (Some v) = refl

  module _ (levels : ℕ → List Level) (f : (l : ℕ) → Falling s (levels l)) where
    first-only : (ls : List ℕ)
        → best (better s) (gather (λ l. collect (odd_candidate s nb l) (levels l)) ls) ≡ best (better s) (collect (λ l. bind_option (first_of (levels l)) (odd_candidate s nb l)) ls)
    first-only [] = refl
    first-only (l ∷ ls) =
        one-letter s nb l (levels l) (gather (λ l. collect (odd_candidate s nb l) (levels l)) ls) (collect (λ l. bind_option (first_of (levels l)) (odd_candidate s nb l)) ls) (f l) (first-only ls)

    -- the best of all levels that are beyond is the best of the first levels that are
    pub odd-firsts : (ls : List ℕ)
        → best (better s) (gather (λ l. collect (odd_candidate s nb l) (levels l)) ls)
        ≡ best (better s) (collect (λ l. bind_option (map_option (level_candidate l 32) (first_of (levels l))) (keep far)) ls)
    odd-firsts ls = first-only ls ∙ ap (λ (g : ℕ → Option Candidate). best (better s) (collect g ls)) (fun_ext (λ l. odd_is l (first_of (levels l))))

    -- and the best first level, if that is
    pub odd-once : (ls : List ℕ)
        → best (better s) (gather (λ l. collect (odd_candidate s nb l) (levels l)) ls)
        ≡ bind_option (best (better s) (collect (λ l. map_option (level_candidate l 32) (first_of (levels l))) ls)) (keep far)
    odd-once ls =
        odd-firsts ls
        ∙ ap (best (better s)) (sym (collect-bind (λ l. map_option (level_candidate l 32) (first_of (levels l))) (keep far) ls))
        ∙ best-keep (better s) (better-weak s) far far-up (collect (λ l. map_option (level_candidate l 32) (first_of (levels l))) ls)

  -- beyond, by ranks
  pub beyond-rank : (r : ℕ) → OrCounting nb → (r ≡ 0 → ⊥) → r < 2 ^ 64 → ltb (rank_of s (or_none nb).price) (rank_of s r) ≡ beyond s nb r
  beyond-rank r = go nb
    where
      go : (nb : Option Candidate) → OrCounting nb → (r ≡ 0 → ⊥) → r < 2 ^ 64 → ltb (rank_of s (or_none nb).price) (rank_of s r) ≡ beyond s nb r
      go None h n f = rw (rank-zero s) (lt-ltb 0 (rank_of s r) (rank-some s r n f))
      go (Some d) h n f = rank-ahead s r d.price n h.price f h.fits

  pub beyond-is : (o : Option Candidate) → OrCounting nb → OrCounting o → beyond_of s (or_none nb) (or_none o) ≡ or_none (bind_option o (keep far))
  unfolding beyond_of
  beyond-is None h k = same (ltb (rank_of s (or_none nb).price) (rank_of s 0))
    where
      same : (t : Bool) → cond t no_candidate no_candidate ≡ no_candidate
      same true = refl
      same false = refl
  beyond-is (Some c) h k = rw (beyond-rank c.price h k.price k.fits) (by (beyond s nb c.price))
    where
      by : (t : Bool) → cond t c no_candidate ≡ or_none (cond t (Some c) None)
      by true = refl
      by false = refl
