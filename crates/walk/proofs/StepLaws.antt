-- The walk's steps, as the code makes them: one law for each `return`, what a call returned being a variable with an equation.
-- Assumes nothing.
use Prim.Native.Nat.{ℕ, zero, suc, ◌+◌, ◌-◌, ◌≤◌, ◌<◌}
use mathlib.Core.Path.{◌≡◌, refl, sym, ap, ◌∙◌}
use mathlib.Core.Bool.{Bool, true, false, not, ◌&&◌, cond}
use mathlib.Core.List.{List}
use Rattle.std.specs.Prelude.{Option, None, Some}
use native.Mathlib.Omega.{arith}
use lib.Dec.{eqb, ltb}
use borrow.Author.Tests.{eqb-true, eq-eqb, ne_eqb, lt-ltb}
use Rattle.lists.specs.Lists.{member, bind_option, map_option, is_some}
use Rattle.lists.proofs.Searches.{less_one}
use Rattle.lists.proofs.Tests.{clash}
use Rattle.field.specs.Field.{part, field}
use Rattle.field.specs.Low.{low}
use Rattle.ranking.specs.declared.Side.{Side}
use Rattle.ranking.specs.declared.Side.TheVariants.{Bid, Offer}
use Rattle.ranking.specs.declared.Candidate.{Candidate}
use Rattle.ranking.specs.declared.Sides.{Sides}
use Rattle.ranking.specs.declared.Lead.{Lead}
use Rattle.ranking.specs.Held.{no_candidate, or_none}
use Rattle.ranking.specs.code.Choice.{live, choose, step_sides, best_from, lead_with, lead_from}
use Rattle.ranking.proofs.ChoiceLaws.{choose-none, lead-live}
use Rattle.quote.specs.declared.Quote.{Quote}
use Rattle.quote.specs.Quote.{is_quoted, side_of, admits, counts, level_candidate, candidate_of, level_in, quote_in, quote_length, level_length}
use Rattle.quote.proofs.QuoteLaws.{level-at}
use Rattle.entries.specs.Entries.{as_d, maker_candidate, letter_candidate, ranks, letter_levels}
use Rattle.levels.specs.Levels.{side_levels}
use Rattle.page.specs.Page.{quotes_in, levels_for, maker_in}
use Rattle.slots.specs.code.Slots.{first_in}
use Rattle.slots.proofs.ReadLaws.{quote-condition as kept-condition}
use Rattle.walk.specs.code.Walk.{asked, maker_at, standing_at, first_by}
use Rattle.walk.proofs.ReadLaws.{quote-side, quote-condition, maker-at}
use Rattle.page.specs.Layout.{cell_length, slot_at, cell_at, in_quote}
use Rattle.field.specs.Ascii.{A, D, S, Z}
use Rattle.text.specs.Form.{name_length}

-- ---- a side of a quote

module _ (s : Side) (n : ℕ) (p : List ℕ) (at o : ℕ) (eo : o ≡ in_quote s) where
  abbrev quote : Quote
  quote = quote_in (part p at quote_length)

  side-at : side_of s quote ≡ record { price = low p (at + o) 8; size = low p (at + o + 8) 4; time = low p (at + o + 12) 8 }
  side-at = sym (quote-side p at s) ∙ ap (λ (i : ℕ). level_in (part p (at + i) level_length)) (sym eo) ∙ level-at p (at + o)

  module _ (v : ℕ) (ev : v ≡ low p (at + o) 8) where
    pub quoted-priceless : v ≡ 0 → no_candidate ≡ or_none (candidate_of s n quote)
    unfolding candidate_of counts
    quoted-priceless h = rw (side-at, ← ev, h)

    module _ (z : ℕ) (ez : z ≡ low p (at + o + 8) 4) where
      pub quoted-sizeless : z ≡ 0 → no_candidate ≡ or_none (candidate_of s n quote)
      unfolding candidate_of counts
      quoted-sizeless h = rw (side-at, ← ez, h) (go (ltb 0 (low p (at + o) 8)) _)
        where
          go : (u : Bool) (x : Candidate) → no_candidate ≡ or_none (cond (u && false && admits s quote.condition) (Some x) None)
          go true x = refl
          go false x = refl

      module _ (c : ℕ) (ec : c ≡ field p at 1) (t : Bool) (et : t ≡ admits s c) where
        pub quoted-not : t ≡ false → no_candidate ≡ or_none (candidate_of s n quote)
        unfolding candidate_of counts
        quoted-not h =
            go (ltb 0 (side_of s quote).price) (ltb 0 (side_of s quote).size) (admits s quote.condition) (ap (admits s) (sym (quote-condition p at) ∙ sym ec) ∙ sym et ∙ h)
          where
            go : (u w a : Bool) → a ≡ false → no_candidate ≡ or_none (cond (u && w && a) (Some (level_candidate n quote.condition (side_of s quote))) None)
            go true true true e = clash e
            go true true false e = refl
            go true false a e = refl
            go false w a e = refl

        pub quoted-some : (w : ℕ) → w ≡ low p (at + o + 12) 8 → (v ≡ 0 → ⊥) → (z ≡ 0 → ⊥) → t ≡ true
            → record { name = n; price = v; size = z; time = w; condition = c } ≡ or_none (candidate_of s n quote)
        unfolding candidate_of counts
        quoted-some w ew hv hz h =
            let a : ltb 0 v ≡ true = lt-ltb 0 v (omega (arith, hv)) in
            let b : ltb 0 z ≡ true = lt-ltb 0 z (omega (arith, hz)) in
            rw (side-at, ← ev, ← ez, ← ew, ← quote-condition p at, ← ec, ← et, h, a, b)

-- ---- a maker

-- R alone counts
pub maker-r : (p : List ℕ) (a : ℕ) (s : Side) → field p (a + name_length) 1 ≡ 82 → bind_option (maker_in (part p a cell_length)) (maker_candidate s) ≡ candidate_of s (field p a 4) (quote_in (part p (a + name_length) quote_length))
unfolding maker_candidate member
maker-r p a s e = rw (maker-at p a, e)

closed : (s : Side) (n : ℕ) (q : Quote) → q.condition ≡ 76 → candidate_of s n q ≡ None
unfolding candidate_of counts admits member
closed s n q e = go (ltb 0 (side_of s q).price) (ltb 0 (side_of s q).size) (admits s q.condition) (ap (admits s) e)
  where
    go : (u v t : Bool) → t ≡ false → cond (u && v && t) (Some (level_candidate n q.condition (side_of s q))) None ≡ None
    go false v t f = refl
    go true false t f = refl
    go true true true f = clash f
    go true true false f = refl

pub maker-other : (p : List ℕ) (a : ℕ) (s : Side) → (field p (a + name_length) 1 ≡ 82 → ⊥) → bind_option (maker_in (part p a cell_length)) (maker_candidate s) ≡ None
unfolding maker_candidate member
maker-other p a s n = rw (maker-at p a, ne_eqb (field p (a + name_length) 1) 82 n) (go (eqb (field p (a + name_length) 1) 76) refl)
  where
    go : (t : Bool) → eqb (field p (a + name_length) 1) 76 ≡ t
        → bind_option (cond (cond t true false) (Some (record { name = field p a 4; quote = quote_in (part p (a + name_length) quote_length) })) None) (maker_candidate s) ≡ None
    go true e = closed s (field p a 4) (quote_in (part p (a + name_length) quote_length)) (sym (quote-condition p (a + name_length)) ∙ eqb-true (field p (a + name_length) 1) 76 e)
    go false e = refl

-- both sides of a step, each chosen
pub sides-read : (f : Side → ℕ → Candidate) (k : ℕ) (t : Sides Candidate) (rb ro : Candidate) → rb ≡ choose Bid t.bid (f Bid k) → ro ≡ choose Offer t.offer (f Offer k)
    → ◌≡◌ {A = Sides Candidate} (record { bid = rb; offer = ro }) (step_sides f k t)
unfolding step_sides
sides-read f k t rb ro eb eo = λ i. record { bid = eb i; offer = eo i }

-- a step in which neither side has a candidate
sides-none : (f : Side → ℕ → Option Candidate) (k : ℕ) (t : Sides Candidate) → ((s : Side) → f s k ≡ None) → t ≡ step_sides (asked f) k t
unfolding step_sides
sides-none f k t e = λ i. record { bid = one Bid t.bid i; offer = one Offer t.offer i }
  where
    one : (s : Side) (b : Candidate) → b ≡ choose s b (or_none (f s k))
    one s b = rw (e s) (choose-none s b)

module _ (p : List ℕ) (k : ℕ) (t : Sides Candidate) (a : ℕ) (ea : a ≡ cell_at k) (c : ℕ) (ec : c ≡ field p (a + name_length) 1) where
  pub maker-free : (c ≡ 82 → ⊥) → t ≡ step_sides (asked (maker_at p)) k t
  unfolding maker_at
  maker-free n = sides-none (maker_at p) k t (λ s. rw (← ea) (maker-other p a s (λ e. n (ec ∙ e))))

-- ---- a letter's national candidate

module _ (p : List ℕ) (s : Side) (f : Candidate) (l : ℕ) where
  pub standing-d : (r : Candidate) → l ≡ D → r ≡ as_d f → r ≡ standing_at p s f l
  unfolding standing_at
  standing-d r e h = rw (eq-eqb l D e) h

  module _ (n : l ≡ D → ⊥) where
    pub standing-s : l ≡ S → no_candidate ≡ standing_at p s f l
    unfolding standing_at
    standing-s e = rw (ne_eqb l D n, eq-eqb l S e)

    pub standing-quote : (r : Candidate) → (l ≡ S → ⊥) → r ≡ or_none (candidate_of s l (quotes_in p l)) → r ≡ standing_at p s f l
    unfolding standing_at
    standing-quote r m h = rw (ne_eqb l D n, ne_eqb l S m) h

-- D's candidate counts if its FINRA best does
lead-d : (s : Side) (l : Lead) (c : Candidate) → lead_with s l (as_d c) ≡ lead_with s l (or_none (map_option as_d (live c)))
unfolding live as_d
lead-d s l c = lead-live s l (as_d c) ∙ ap (λ (o : Option Candidate). lead_with s l (or_none o)) (go (eqb c.price 0) (eqb c.size 0))
  where
    go : (t u : Bool) → cond t None (cond u None (Some (as_d c))) ≡ map_option as_d (cond t None (cond u None (Some c)))
    go true u = refl
    go false true = refl
    go false false = refl

module _ (p : List ℕ) (s : Side) (f : Candidate) where
  lead-standing : (t : Lead) (j : ℕ) → lead_with s t (standing_at p s f j) ≡ lead_with s t (or_none (letter_candidate s (quotes_in p) (live f) j))
  unfolding standing_at letter_candidate
  lead-standing t j = go (eqb j D) (eqb j S)
    where
      go : (d u : Bool) → lead_with s t (cond d (as_d f) (cond u no_candidate (or_none (candidate_of s j (quotes_in p j)))))
          ≡ lead_with s t (or_none (cond d (map_option as_d (live f)) (cond u None (candidate_of s j (quotes_in p j)))))
      go true u = lead-d s t f
      go false true = refl
      go false false = refl

  pub leads-standing : (k i : ℕ) (t : Lead) → lead_from s (standing_at p s f) i k t ≡ lead_from s (λ j. or_none (letter_candidate s (quotes_in p) (live f) j)) i k t
  unfolding lead_from
  leads-standing zero i t = refl
  leads-standing (suc k) i t =
      ap (lead_from s (standing_at p s f) (i + 1) k) (lead-standing t i) ∙ leads-standing k (i + 1) (lead_with s t (or_none (letter_candidate s (quotes_in p) (live f) i)))

-- ---- a letter's first levels

-- whether a candidate is one
pub stands-not : (c : Candidate) → c.price ≡ 0 → false ≡ is_some (live c)
unfolding live
stands-not c e = rw (eq-eqb c.price 0 e)

pub stands_by : (c : Candidate) → (c.price ≡ 0 → ⊥) → not (eqb c.size 0) ≡ is_some (live c)
unfolding live
stands_by c n = rw (ne_eqb c.price 0 n) (go (eqb c.size 0))
  where
    go : (t : Bool) → not t ≡ is_some (cond t None (Some c))
    go true = refl
    go false = refl

-- whether a letter's levels rank: D's by its FINRA best, any other's by its condition
module _ (p : List ℕ) (l : ℕ) (s : Side) (fb : Option Candidate) where
  pub ranks-d : (t : Bool) → l ≡ D → t ≡ is_some fb → t ≡ ranks s (quotes_in p) fb l
  unfolding ranks
  ranks-d t e h = rw (eq-eqb l D e) h

  module _ (h : A ≤ l) (k : l ≤ Z) (n : l ≡ D → ⊥) (a : ℕ) (ea : a ≡ slot_at l) (q : ℕ) (eq : q ≡ field p a 1) where
    condition-is : q ≡ (quotes_in p l).condition
    condition-is = eq ∙ quote-condition p a ∙ ap (λ (i : ℕ). (quote_in (part p i quote_length)).condition) ea ∙ sym (kept-condition p l h k)

    ranks_by : (v : Bool) → is_quoted q ≡ v → cond v (admits s q) true ≡ ranks s (quotes_in p) fb l
    unfolding ranks
    ranks_by v e = rw (ne_eqb l D n, ← condition-is, e)

    pub ranks-quoted : (u t : Bool) → u ≡ is_quoted q → u ≡ true → t ≡ admits s q → t ≡ ranks s (quotes_in p) fb l
    ranks-quoted u t eu e et = et ∙ ranks_by true (sym eu ∙ e)

    pub ranks-unquoted : (u : Bool) → u ≡ is_quoted q → u ≡ false → true ≡ ranks s (quotes_in p) fb l
    ranks-unquoted u eu e = ranks_by false (sym eu ∙ e)

  pub first-s : l ≡ S → no_candidate ≡ or_none (first_by p s fb l)
  unfolding first_by first_in letter_levels
  first-s e = rw (eq-eqb l S e)

  module _ (m : l ≡ S → ⊥) (t : Bool) (et : t ≡ ranks s (quotes_in p) fb l) where
    pub first-ranks : (r : Candidate) → t ≡ true → r ≡ or_none (first_in l (side_levels s (levels_for p l))) → r ≡ or_none (first_by p s fb l)
    unfolding first_by letter_levels
    first-ranks r e h = rw (ne_eqb l S m, ← et, e) h

    pub first-not : t ≡ false → no_candidate ≡ or_none (first_by p s fb l)
    unfolding first_by first_in letter_levels
    first-not e = rw (ne_eqb l S m, ← et, e)

-- ---- one letter more

module _ (s : Side) (c : ℕ → Candidate) (n : ℕ) where
  module _ (w : Lead) where
    pub lead-again : (i : ℕ) (t u : Lead) (x : Candidate) → i < n → lead_from s c i (n - i) t ≡ w → x ≡ c i → u ≡ lead_with s t x → lead_from s c (i + 1) (n - (i + 1)) u ≡ w
    unfolding lead_from
    lead-again i t u x h inv ex eu = rw (eu, ex) (sym (step i t h) ∙ inv)
      where
        step : (i : ℕ) (t : Lead) → i < n → lead_from s c i (n - i) t ≡ lead_from s c (i + 1) (n - (i + 1)) (lead_with s t (c i))
        step i t h = rw (less_one n i h)

    pub lead-end : (i : ℕ) (t : Lead) → n ≤ i → lead_from s c i (n - i) t ≡ w → t ≡ w
    unfolding lead_from
    lead-end i t h inv = let e : n - i ≡ 0 = omega arith in rw e at inv

  module _ (w : Candidate) where
    pub best-again : (i : ℕ) (t u x : Candidate) → i < n → best_from s c i (n - i) t ≡ w → x ≡ c i → u ≡ choose s t x → best_from s c (i + 1) (n - (i + 1)) u ≡ w
    unfolding best_from
    best-again i t u x h inv ex eu = rw (eu, ex) (sym (step i t h) ∙ inv)
      where
        step : (i : ℕ) (t : Candidate) → i < n → best_from s c i (n - i) t ≡ best_from s c (i + 1) (n - (i + 1)) (choose s t (c i))
        step i t h = rw (less_one n i h)

    pub best-end : (i : ℕ) (t : Candidate) → n ≤ i → best_from s c i (n - i) t ≡ w → t ≡ w
    unfolding best_from
    best-end i t h inv = let e : n - i ≡ 0 = omega arith in rw e at inv
