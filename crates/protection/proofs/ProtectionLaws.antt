-- What the search answers: yes exactly if the national best reaches the price, at the first letter that says so.
-- Assumes nothing.
use Prim.Native.Nat.{ℕ, zero, suc, ◌+◌, ◌-◌, ◌≤◌, ◌<◌}
use mathlib.Core.Path.{◌≡◌, refl, sym, ap, ◌∙◌}
use mathlib.Core.Bool.{Bool, true, false, cond}
use mathlib.Core.List.{List}
use Rattle.std.specs.Prelude.{Option, None, Some}
use native.Mathlib.Omega.{arith}
use native.Mathlib.Numerals.{add-one}
use borrow.Author.Tests.{leb-true, le-leb, ltb-false}
use Rattle.field.specs.Ascii.{A, Z}
use Rattle.lists.specs.Lists.{range, collect, first_from}
use Rattle.lists.proofs.Tests.{clash}
use Rattle.lists.proofs.Searches.{Hit, first-hit, first-before, first-none}
use Rattle.ranking.specs.declared.Side.{Side}
use Rattle.ranking.specs.declared.Side.TheVariants.{Bid, Offer}
use Rattle.ranking.specs.declared.Candidate.{Candidate}
use Rattle.ranking.specs.Ranking.{ahead, better, best}
use Rattle.ranking.proofs.OrderLaws.{either, best-cons}
use Rattle.ranking.proofs.RankingLaws.{better-weak, better-not-ahead}
use Rattle.quote.specs.declared.Quote.{Quote}
use Rattle.entries.specs.Entries.{Maker, Entries, letters, finra_best, national_best, entries_by, entries_of, candidates, no_best, unless_halted, trading_candidates}
use Rattle.page.specs.Page.{quotes_in, makers_in, occupied, page_entries, halted_in, published_entries}
use Rattle.page.specs.Layout.{letter_count}
use Rattle.protection.specs.declared.Protection.{Protection}
use Rattle.protection.specs.Protection.{reaches, answers_yes, first_yes, looked_at, protection, page_candidates, page_trading}

-- ---- the best reaches a price exactly if one of the candidates does

-- what is not behind a price that reaches, reaches too
reaches-up : (s : Side) (p x y : ℕ) → ahead s x y ≡ false → reaches s p x ≡ true → reaches s p y ≡ true
reaches-up Bid p x y e f = le-leb p y (omega (arith, ltb-false y x e, leb-true p x f))
reaches-up Offer p x y e f = le-leb y p (omega (arith, ltb-false x y e, leb-true x p f))

module _ (s : Side) (p : ℕ) where
  abbrev yes : Option Candidate → Bool
  yes = answers_yes s p

  -- the better of two
  yes-either : (a b : Option Candidate) → yes (either (better s) a b) ≡ cond (yes a) true (yes b)
  yes-either None b = refl
  yes-either (Some x) None = go (reaches s p x.price)
    where
      go : (t : Bool) → t ≡ cond t true false
      go true = refl
      go false = refl
  yes-either (Some x) (Some y) = go (better s y x) refl (reaches s p x.price) refl (reaches s p y.price) refl
    where
      go : (t : Bool) → better s y x ≡ t → (u : Bool) → reaches s p x.price ≡ u → (v : Bool) → reaches s p y.price ≡ v
          → reaches s p (cond {A = Candidate} t y x).price ≡ cond u true v
      go true e true f v g = reaches-up s p x.price y.price (better-not-ahead s x y ((better-weak s).asym y x e)) f
      go true e false f v g = g
      go false e true f v g = f
      go false e false f true g = clash (sym (reaches-up s p y.price x.price (better-not-ahead s y x e) g) ∙ f)
      go false e false f false g = f

  -- the best of the k candidates from i on
  pub yes-best : (c : ℕ → Option Candidate) (k i : ℕ) → (looked_at (first_from (λ l. yes (c l)) i k)).yes ≡ yes (best (better s) (collect c (range k i)))
  unfolding first_from
  yes-best c zero i = refl
  yes-best c (suc k) i =
      rw (add-one i)
      (go (yes (c i)) (yes-best c k (suc i))
      ∙ sym (ap yes (best-cons (better s) (c i) (collect c (range k (suc i)))) ∙ yes-either (c i) (best (better s) (collect c (range k (suc i))))))
    where
      go : (t : Bool) → (looked_at (first_from (λ l. yes (c l)) (suc i) k)).yes ≡ yes (best (better s) (collect c (range k (suc i))))
          → (looked_at (cond t (Some i) (first_from (λ l. yes (c l)) (suc i) k))).yes ≡ cond t true (yes (best (better s) (collect c (range k (suc i)))))
      go true e = refl
      go false e = e

  -- "The yes must equal what the national best .. says about that price"
  pub protection-best : (quotes : ℕ → Quote) (makers : List Maker) → (protection s p (candidates quotes makers s)).yes ≡ yes (national_best quotes (finra_best makers) s)
  unfolding protection first_yes candidates national_best letters
  protection-best quotes makers = yes-best (candidates quotes makers s) letter_count A

  -- of the page, worked out anew from its bytes, whatever they are
  pub page-best : (b : List ℕ) → (protection s p (page_candidates b s)).yes ≡ yes ((page_entries b).national s)
  unfolding page_candidates page_entries entries_of entries_by
  page-best b = protection-best (quotes_in b) (occupied (makers_in b))

  -- T-10: without a candidate it is no, all 26 looked at
  pub none-protected : protection s p (λ l. None) ≡ record { yes = false; looked = letter_count }
  unfolding protection first_yes first_from
  none-protected = refl

  -- of the page that may be halted
  pub published-best : (b : List ℕ) → (protection s p (page_trading b s)).yes ≡ yes ((published_entries b).national s)
  unfolding trading_candidates published_entries unless_halted
  published-best b = go (halted_in b)
    where
      go : (t : Bool) → (protection s p (cond t (λ s l. None) (page_candidates b) s)).yes ≡ yes ((cond {A = Entries} t no_best (page_entries b)).national s)
      go true = ap (λ (r : Protection). r.yes) none-protected
      go false = page-best b

  -- ---- the letter that is found is the first

  module _ (c : ℕ → Option Candidate) where
    -- yes: the letter at that position answers yes, and none before it; no: none of the 26 does
    pub data First : Protection → Type 0 where
      found : (l : ℕ) → A ≤ l → l ≤ Z → yes (c l) ≡ true → ((j : ℕ) → A ≤ j → j < l → yes (c j) ≡ false) → First (record { yes = true; looked = l + 1 - A })
      nowhere : ((j : ℕ) → A ≤ j → j ≤ Z → yes (c j) ≡ false) → First (record { yes = false; looked = 26 })

    pub protection-first : First (protection s p c)
    unfolding protection first_yes
    protection-first = go (first_from (λ l. yes (c l)) A letter_count) refl
      where
        go : (f : Option ℕ) → first_from (λ l. yes (c l)) A letter_count ≡ f → First (looked_at f)
        go (Some l) e =
            let h : Hit (λ l. yes (c l)) A letter_count l = first-hit (λ l. yes (c l)) A letter_count l e in
            found l h.low (omega (arith, h.high)) h.holds (first-before (λ l. yes (c l)) letter_count A l e)
        go None e = nowhere (λ j lo hi. first-none (λ l. yes (c l)) letter_count A e j lo (omega arith))

    -- a no looks at all letters
    pub no-looked : (protection s p c).yes ≡ false → (protection s p c).looked ≡ 26
    unfolding protection first_yes
    no-looked = go (first_from (λ l. yes (c l)) A letter_count)
      where
        go : (f : Option ℕ) → (looked_at f).yes ≡ false → (looked_at f).looked ≡ 26
        go (Some l) e = clash e
        go None e = refl
