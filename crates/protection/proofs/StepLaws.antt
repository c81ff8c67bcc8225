-- The search's steps, as the code makes them: one law for each `return`, what a call returned being a variable with an equation.
-- Assumes nothing.
use Prim.Native.Nat.{ℕ, zero, suc, ◌+◌, ◌-◌, ◌≤◌}
use mathlib.Core.Path.{◌≡◌, refl, sym, ap, ◌∙◌}
use mathlib.Core.Bool.{Bool, true, false, ◌&&◌, cond}
use mathlib.Core.List.{List}
use Rattle.std.specs.Prelude.{Option, None, Some, ◌||◌}
use Rattle.std.specs.List.{list_any, range_with_len}
use native.Mathlib.Omega.{arith}
use lib.Dec.{eqb, ltb, leb}
use borrow.Author.Tests.{ne_eqb, lt-ltb, le-ltb}
use Rattle.field.specs.Field.{Bytes, part, field}
use Rattle.field.specs.Low.{low}
use Rattle.field.specs.Ascii.{A, D, S, Z}
use Rattle.lists.specs.Lists.{member, map_option, bind_option, first_from}
use Rattle.lists.proofs.Tests.{Cut, equal, apart, cut}
use Rattle.ranking.specs.declared.Side.{Side}
use Rattle.ranking.specs.declared.Side.TheVariants.{Bid, Offer}
use Rattle.ranking.specs.declared.Candidate.{Candidate}
use Rattle.quote.specs.declared.Level.{Level}
use Rattle.quote.specs.declared.Quote.{Quote}
use Rattle.quote.specs.Quote.{side_of, admits, counts, level_candidate, candidate_of, level_in, quote_in, quote_length, level_length}
use Rattle.quote.proofs.QuoteLaws.{level-at}
use Rattle.text.specs.Form.{name_length}
use Rattle.entries.specs.Entries.{as_d, maker_candidate, finra_best, letter_candidate, candidates}
use Rattle.keys.specs.Keys.{key_length, side_key, quote_key}
use Rattle.page.specs.Page.{agreed, quotes_in, maker_in, makers_in, occupied}
use Rattle.page.specs.Layout.{cell_length, slot_at, cell_at, quote_key_at, in_quote, maker_count, letter_count}
use Rattle.slots.proofs.ReadLaws.{quote-sides, quote-condition as kept-condition}
use Rattle.walk.specs.code.Walk.{maker_at}
use Rattle.walk.proofs.ReadLaws.{quote-side, quote-condition}
use Rattle.walk.proofs.StepLaws.{maker-r, maker-other}
use Rattle.walk.proofs.WalkLaws.{finra-is}
use Rattle.protection.specs.Protection.{reaches, answers_yes, first_yes, looked_at, protection, page_candidates}
use Rattle.protection.specs.code.Search.{level_yes, maker_yes, letter_yes}
use Rattle.protection.proofs.ProtectionLaws.{yes-best}

and-false : (t : Bool) → (t && false) ≡ false
and-false true = refl
and-false false = refl

pub reaches-bid : (s : Side) (p x : ℕ) → s ≡ Bid → leb p x ≡ reaches s p x
reaches-bid s p x e = rw e

pub reaches-offer : (s : Side) (p x : ℕ) → s ≡ Offer → leb x p ≡ reaches s p x
reaches-offer s p x e = rw e

-- ---- a level

module _ (s : Side) (x : ℕ) (p : List ℕ) (at v : ℕ) (ev : v ≡ low p at 8) (t : Bool) (et : t ≡ reaches s x v) where
  level_by : level_yes s x (level_in (part p at level_length)) ≡ (t && (ltb 0 v && ltb 0 (low p (at + 8) 4)))
  unfolding level_yes
  level_by = rw (level-at p at, ← ev, ← et)

  pub level-short : t ≡ false → false ≡ level_yes s x (level_in (part p at level_length))
  level-short h = sym (level_by ∙ rw h)

  pub level-priceless : v ≡ 0 → false ≡ level_yes s x (level_in (part p at level_length))
  level-priceless h = sym (level_by ∙ rw (le-ltb 0 v (omega arith)) (and-false t))

  pub level-sized : (v ≡ 0 → ⊥) → t ≡ true → (z : ℕ) (r : Bool) → z ≡ low p (at + 8) 4 → r ≡ ltb 0 z → r ≡ level_yes s x (level_in (part p at level_length))
  level-sized n h z r ez er = er ∙ ap (ltb 0) ez ∙ sym (level_by ∙ rw (h, lt-ltb 0 v (omega (arith, n))))

-- ---- a side of a quote

module _ (s : Side) (x : ℕ) where
  -- a quote that counts and reaches the price: its level does, and its condition admits the side
  quote-is : (n : ℕ) (q : Quote) → answers_yes s x (candidate_of s n q) ≡ (level_yes s x (side_of s q) && admits s q.condition)
  unfolding candidate_of counts level_yes
  quote-is n q = go (ltb 0 (side_of s q).price) (ltb 0 (side_of s q).size) (admits s q.condition) (reaches s x (side_of s q).price) refl
    where
      go : (u v t r : Bool) → reaches s x (side_of s q).price ≡ r
          → answers_yes s x (cond (u && v && t) (Some (level_candidate n q.condition (side_of s q))) None) ≡ ((r && (u && v)) && t)
      go true true true true e = e
      go true true true false e = e
      go true true false true e = refl
      go true true false false e = refl
      go true false t true e = refl
      go true false t false e = refl
      go false v t true e = refl
      go false v t false e = refl

  module _ (p : List ℕ) (at o : ℕ) (eo : o ≡ in_quote s) (t : Bool) (et : t ≡ level_yes s x (level_in (part p (at + o) level_length))) where
    quote-by : (n : ℕ) → answers_yes s x (candidate_of s n (quote_in (part p at quote_length))) ≡ (t && admits s (field p at 1))
    quote-by n = quote-is n (quote_in (part p at quote_length)) ∙ rw (et, eo, quote-side p at s, quote-condition p at)

-- ---- a side of a letter's quote

-- a level whose key is not its own is none
level-agreed : (s : Side) (x : ℕ) (t : Bool) (v : Level) → level_yes s x (agreed t v) ≡ (t && level_yes s x v)
unfolding level_yes agreed
level-agreed s x true v = refl
level-agreed s x false v = and-false (reaches s x 0)

module _ (s : Side) (x : ℕ) (p : List ℕ) (l : ℕ) (lo : A ≤ l) (hi : l ≤ Z) where
  abbrev answer : Bool
  answer = answers_yes s x (candidate_of s 0 (quotes_in p l))

  abbrev stored : Quote
  stored = quote_in (part p (slot_at l) quote_length)

  -- the key that stands on the page
  abbrev key : ℕ
  key = low p (quote_key_at s l) key_length

  agreed-is : answer ≡ ((eqb key (quote_key s stored) && level_yes s x (side_of s stored)) && admits s stored.condition)
  agreed-is =
      quote-is s x 0 (quotes_in p l)
      ∙ rw (quote-sides p l lo hi s, kept-condition p l lo hi, level-agreed s x (eqb key (quote_key s stored)) (side_of s stored))

  module _ (a o : ℕ) (ea : a ≡ slot_at l) (eo : o ≡ in_quote s) (t : Bool) (et : t ≡ level_yes s x (level_in (part p (a + o) level_length))) where
    abbrev level : Level
    level = level_in (part p (a + o) level_length)

    side-is : level ≡ side_of s stored
    side-is = rw (ea, eo) (quote-side p (slot_at l) s)

    told_is : level_yes s x (side_of s stored) ≡ t
    told_is = ap (level_yes s x) (sym side-is) ∙ sym et

    pub letter-short : t ≡ false → false ≡ answer
    letter-short h = sym (agreed-is ∙ rw (told_is, h, and-false (eqb key (quote_key s stored))))

    module _ (c : ℕ) (u : Bool) (ec : c ≡ field p a 1) (eu : u ≡ admits s c) where
      condition-is : stored.condition ≡ c
      condition-is = sym (ec ∙ ap (λ (i : ℕ). field p i 1) ea ∙ quote-condition p (slot_at l))

      letter-is : answer ≡ ((eqb key (side_key s c level) && t) && u)
      letter-is =
          agreed-is ∙ (λ j. (eqb key (side_key s (condition-is j) (sym side-is j)) && level_yes s x (sym side-is j)) && admits s (condition-is j))
          ∙ (λ j. (eqb key (side_key s c level) && sym et j) && sym eu j)

      pub letter-closed : u ≡ false → false ≡ answer
      letter-closed h = sym (letter-is ∙ (λ j. (eqb key (side_key s c level) && t) && h j) ∙ and-false (eqb key (side_key s c level) && t))

      pub letter-keyed : (v : Level) (k b y : ℕ) (r : Bool) → t ≡ true → u ≡ true → v ≡ level → k ≡ side_key s c v → b ≡ quote_key_at s l → y ≡ low p b key_length → r ≡ eqb y k → r ≡ answer
      letter-keyed v k b y r ht hu ev ek eb ey er = er ∙ sym (letter-is ∙ (λ j. (eqb key (side_key s c level) && ht j) && hu j) ∙ go (eqb key (side_key s c level)) ∙ same)
        where
          go : (w : Bool) → ((w && true) && true) ≡ w
          go true = refl
          go false = refl

          same : eqb key (side_key s c level) ≡ eqb y k
          same = rw (← ev, ← ek, ← eb, ← ey)

-- ---- a maker

-- R admits either side
admits-r : (s : Side) → admits s 82 ≡ true
unfolding admits member
admits-r s = refl

module _ (s : Side) (x : ℕ) (p : List ℕ) (k a o : ℕ) (ea : a ≡ cell_at k) (eo : o ≡ in_quote s) (t : Bool) (et : t ≡ level_yes s x (level_in (part p (a + name_length + o) level_length))) where
  maker-by : maker_yes p s x k ≡ (t && eqb (field p (a + name_length) 1) 82)
  unfolding maker_yes maker_at
  maker-by = rw (← ea) (go (cut (field p (a + name_length) 1) 82))
    where
      go : Cut (field p (a + name_length) 1) 82
          → answers_yes s x (bind_option (maker_in (part p a cell_length)) (maker_candidate s)) ≡ (t && eqb (field p (a + name_length) 1) 82)
      go (equal u e) = rw (u, maker-r p a s e) (quote-by s x p (a + name_length) o eo t et (field p a 4) ∙ rw (e, admits-r s))
      go (apart u n) = rw (u, maker-other p a s n) (sym (and-false t))

  pub maker-short : t ≡ false → false ≡ maker_yes p s x k
  maker-short h = sym (maker-by ∙ rw h)

  pub maker-regular : (c : ℕ) (r : Bool) → t ≡ true → c ≡ field p (a + name_length) 1 → r ≡ eqb c 82 → r ≡ maker_yes p s x k
  maker-regular c r h ec er = er ∙ ap (λ (n : ℕ). eqb n 82) ec ∙ sym (maker-by ∙ rw h)

-- ---- a letter

-- D under its own name has the price of its FINRA best
as-d-yes : (s : Side) (x : ℕ) (o : Option Candidate) → answers_yes s x (map_option as_d o) ≡ answers_yes s x o
unfolding as_d
as-d-yes s x None = refl
as-d-yes s x (Some c) = refl

-- any of a range is the first of it
any-first : (f : ℕ → Bool) (k i : ℕ) → list_any f (range_with_len i k) ≡ (looked_at (first_from f i k)).yes
unfolding first_from
any-first f zero i = refl
any-first f (suc k) i = go (f i) (any-first f k (i + 1))
  where
    go : (t : Bool) → list_any f (range_with_len (i + 1) k) ≡ (looked_at (first_from f (i + 1) k)).yes
        → t || list_any f (range_with_len (i + 1) k) ≡ (looked_at (cond t (Some i) (first_from f (i + 1) k))).yes
    go true e = refl
    go false e = e

module _ (s : Side) (x : ℕ) (p : List ℕ) where
  d-found : Bytes p → (f : Option ℕ) → f ≡ first_from (maker_yes p s x) 0 maker_count → (looked_at f).yes ≡ letter_yes p s x D
  unfolding letter_yes page_candidates candidates letter_candidate maker_yes
  d-found b f e =
      ap (λ (g : Option ℕ). (looked_at g).yes) e ∙ yes-best s x (maker_at p s) maker_count 0 ∙ ap (answers_yes s x) (finra-is p b s)
      ∙ sym (as-d-yes s x (finra_best (occupied (makers_in p)) s))

  pub d-any : Bytes p → (r : Bool) → r ≡ list_any (maker_yes p s x) (range_with_len 0 maker_count) → r ≡ letter_yes p s x D
  d-any b r e = e ∙ any-first (maker_yes p s x) maker_count 0 ∙ d-found b (first_from (maker_yes p s x) 0 maker_count) refl

  pub letter-d : (l : ℕ) (r : Bool) → l ≡ D → r ≡ letter_yes p s x D → r ≡ letter_yes p s x l
  letter-d l r e h = h ∙ ap (letter_yes p s x) (sym e)

  pub letter-s : (l : ℕ) → l ≡ S → false ≡ letter_yes p s x l
  unfolding letter_yes page_candidates candidates letter_candidate
  letter-s l e = rw e

  pub letter-other : (l : ℕ) (r : Bool) → (l ≡ D → ⊥) → (l ≡ S → ⊥) → r ≡ answers_yes s x (candidate_of s 0 (quotes_in p l)) → r ≡ letter_yes p s x l
  unfolding letter_yes page_candidates candidates letter_candidate
  letter-other l r n m er = er ∙ rw (ne_eqb l D n, ne_eqb l S m) (quote-is s x 0 (quotes_in p l) ∙ sym (quote-is s x l (quotes_in p l)))

  -- ---- the search

  pub search-found : (l : ℕ) → Some l ≡ first_from (letter_yes p s x) A letter_count → record { yes = true; looked = l + 1 - A } ≡ protection s x (page_candidates p s)
  unfolding protection first_yes letter_yes
  search-found l e = ap looked_at e

  pub search-none : None ≡ first_from (letter_yes p s x) A letter_count → record { yes = false; looked = letter_count } ≡ protection s x (page_candidates p s)
  unfolding protection first_yes letter_yes
  search-none e = ap looked_at e
