-- The reviewer's makers: how one more part alters them, and which they are.
-- Assumes nothing.
use Prim.Native.Nat.{ℕ}
use mathlib.Core.Path.{◌≡◌, refl, sym, ap, ◌∙◌}
use mathlib.Core.Bool.{Bool, true, false, ◌&&◌, cond}
use mathlib.Core.Logic.{inl, inr}
use mathlib.Core.List.{List, [], ◌∷◌}
use Rattle.std.specs.Prelude.{Option, None, Some}
use lib.Dec.{eqb}
use lib.ListN.{length}
use Rattle.lists.specs.Lists.{collect, cons_option, map_option, member}
use Rattle.lists.proofs.Tests.{clash, Cut, equal, apart, cut}
use Rattle.lists.proofs.Members.{In, Distinct, in-collect, collect-in, same_length}
use Rattle.quote.specs.declared.Quote.{Quote}
use Rattle.quote.specs.Quote.{empty_quote, with_condition, with_times}
use Rattle.levels.specs.Levels.{Odd}
use Rattle.message.specs.Message.{Part, round_part, odd_part, maker_part, finra_part, status_part}
use Rattle.entries.specs.Entries.{Maker, finra_best}
use Rattle.page.specs.Page.{occupied}
use Rattle.makers.specs.Makers.{find_maker, maker_over}
use Rattle.update.proofs.Model.{as_maker, standing, marked}
use Rattle.review.specs.Runs.{run_time, latest}
use Rattle.review.specs.Reviewer.{maker_quotes, condition_of, standing_maker, maker_of, with_name, names_of, makers_of}
use Rattle.review.proofs.CellLaws.{Sole, in-find, find-in, occupied-distinct}
use Rattle.review.proofs.TimeLaws.{over-latest}
use Rattle.entries.proofs.FinraLaws.{finra-same}

-- ---- one more part

-- a maker's newest quote stands, or frees its cell
newest-stands : (m : ℕ) (q : Quote) (qs : List Quote) → map_option (standing_maker m (λ c. c)) (latest (cond (empty_quote q) [] (q ∷ qs))) ≡ standing m (with_times (run_time (q ∷ qs)) q)
unfolding standing empty_quote with_times with_condition
newest-stands m q qs = go (empty_quote q)
  where
    go : (u : Bool) → map_option (standing_maker m (λ c. c)) (latest (cond u [] (q ∷ qs))) ≡ cond u None (Some (as_maker m (with_times (run_time (q ∷ qs)) q)))
    go true = refl
    go false = refl

pub maker-maker : (t k : ℕ) (q : Quote) (h : List Part) (s m : ℕ)
    → maker_of (maker_part t k q ∷ h) s m ≡ cond (eqb t s && eqb k m) (standing m (maker_over (maker_of h s m) q)) (maker_of h s m)
unfolding maker_of maker_quotes condition_of
maker-maker t k q h s m = go (eqb t s && eqb k m)
  where
    qs : List Quote
    qs = maker_quotes h s m

    go : (b : Bool)
        → map_option (standing_maker m (λ c. cond b c (condition_of h s m c))) (latest (cond b (cond (empty_quote q) [] (q ∷ qs)) qs))
        ≡ cond b (standing m (maker_over (map_option (standing_maker m (condition_of h s m)) (latest qs)) q)) (map_option (standing_maker m (condition_of h s m)) (latest qs))
    go true = newest-stands m q qs ∙ sym (ap (standing m) (over-latest m (condition_of h s m) qs q))
    go false = refl

mark-standing : (m c : ℕ) (d : ℕ → ℕ) (o : Option Quote) → map_option (standing_maker m (λ _. c)) o ≡ map_option (marked c) (map_option (standing_maker m d) o)
unfolding with_condition
mark-standing m c d None = refl
mark-standing m c d (Some q) = refl

pub maker-finra : (c : ℕ) (h : List Part) (s m : ℕ) → maker_of (finra_part c ∷ h) s m ≡ map_option (marked c) (maker_of h s m)
unfolding maker_of maker_quotes condition_of
maker-finra c h s m = mark-standing m c (condition_of h s m) (latest (maker_quotes h s m))

pub maker-round : (t k : ℕ) (q : Quote) (h : List Part) (s m : ℕ) → maker_of (round_part t k q ∷ h) s m ≡ maker_of h s m
unfolding maker_of maker_quotes condition_of
maker-round t k q h s m = refl

pub maker-odd : (t k : ℕ) (o : Odd) (h : List Part) (s m : ℕ) → maker_of (odd_part t k o ∷ h) s m ≡ maker_of h s m
unfolding maker_of maker_quotes condition_of
maker-odd t k o h s m = refl

pub maker-status : (t x : ℕ) (h : List Part) (s m : ℕ) → maker_of (status_part t x ∷ h) s m ≡ maker_of h s m
unfolding maker_of maker_quotes condition_of
maker-status t x h s m = refl

-- ---- which makers the history has

member-in : (n : ℕ) (xs : List ℕ) → member xs n ≡ true → In n xs
unfolding member
member-in n [] e = clash (sym e)
member-in n (x ∷ xs) e = go (cut n x) (member-in n xs)
  where
    go : Cut n x → (member xs n ≡ true → In n xs) → In n (x ∷ xs)
    go (equal t p) down = inl p
    go (apart t p) down = inr (down (rw t at e))

in-member : (n : ℕ) (xs : List ℕ) → In n xs → member xs n ≡ true
unfolding member
in-member n [] m = absurd m
in-member n (x ∷ xs) (inl p) = go (cut n x)
  where
    go : Cut n x → cond (eqb n x) true (member xs n) ≡ true
    go (equal t q) = rw t
    go (apart t q) = absurd (q p)
in-member n (x ∷ xs) (inr m) = go (eqb n x) (in-member n xs m)
  where
    go : (t : Bool) → member xs n ≡ true → cond t true (member xs n) ≡ true
    go true e = refl
    go false e = e

name_new : (n : ℕ) (xs : List ℕ) → In n (with_name n xs)
name_new n xs = go (member xs n) refl
  where
    go : (t : Bool) → member xs n ≡ t → In n (cond t xs (n ∷ xs))
    go true e = member-in n xs e
    go false e = inl refl

name-old : (n k : ℕ) (xs : List ℕ) → In k xs → In k (with_name n xs)
name-old n k xs m = go (member xs n)
  where
    go : (t : Bool) → In k (cond t xs (n ∷ xs))
    go true = m
    go false = inr m

name-distinct : (n : ℕ) (xs : List ℕ) → Distinct (λ (k : ℕ). k) xs → Distinct (λ (k : ℕ). k) (with_name n xs)
name-distinct n xs d = go (member xs n) refl
  where
    go : (t : Bool) → member xs n ≡ t → Distinct (λ (k : ℕ). k) (cond t xs (n ∷ xs))
    go true e = d
    go false e = (λ y m p. clash (sym (in-member y xs m) ∙ ap (λ (k : ℕ). member xs k) p ∙ e), d)

last-named : (h : List Part) (s m : ℕ) (q : Quote) → latest (maker_quotes h s m) ≡ Some q → In m (names_of h s)
unfolding maker_quotes names_of
last-named [] s m q e = clash (cc)
last-named (round_part t k r ∷ h) s m q e = last-named h s m q e
last-named (odd_part t k o ∷ h) s m q e = last-named h s m q e
last-named (maker_part t k r ∷ h) s m q e = go (eqb t s) (cut k m) (last-named h s m q) e
  where
    go : (b : Bool) → Cut k m → (latest (maker_quotes h s m) ≡ Some q → In m (names_of h s))
        → latest (cond (b && eqb k m) (cond (empty_quote r) [] (r ∷ maker_quotes h s m)) (maker_quotes h s m)) ≡ Some q
        → In m (cond b (with_name k (names_of h s)) (names_of h s))
    go true (equal u p) down e = rw (sym p) (name_new k (names_of h s))
    go true (apart u p) down e = name-old k m (names_of h s) (down (rw u at e))
    go false c down e = down e
last-named (finra_part c ∷ h) s m q e = last-named h s m q e
last-named (status_part t x ∷ h) s m q e = last-named h s m q e

pub names-distinct : (h : List Part) (s : ℕ) → Distinct (λ (k : ℕ). k) (names_of h s)
unfolding names_of
names-distinct [] s = tt
names-distinct (round_part t k r ∷ h) s = names-distinct h s
names-distinct (odd_part t k o ∷ h) s = names-distinct h s
names-distinct (maker_part t k r ∷ h) s = go (eqb t s) (names-distinct h s)
  where
    go : (b : Bool) → Distinct (λ (k : ℕ). k) (names_of h s) → Distinct (λ (k : ℕ). k) (cond b (with_name k (names_of h s)) (names_of h s))
    go true d = name-distinct k (names_of h s) d
    go false d = d
names-distinct (finra_part c ∷ h) s = names-distinct h s
names-distinct (status_part t x ∷ h) s = names-distinct h s

-- a maker that stands has its name, and its name is among the history's
standing-name : (m : ℕ) (c : ℕ → ℕ) (o : Option Quote) (x : Maker) → map_option (standing_maker m c) o ≡ Some x → (x.name ≡ m) × ((q : Quote) × (o ≡ Some q))
standing-name m c None x e = clash (cc)
standing-name m c (Some q) x e = (ap (λ (o : Option Maker). elim o [ None ↦ 0 | Some y ↦ y.name ]) (sym e), (q, refl))

pub maker-name : (h : List Part) (s m : ℕ) (x : Maker) → maker_of h s m ≡ Some x → x.name ≡ m
unfolding maker_of
maker-name h s m x e = (standing-name m (condition_of h s m) (latest (maker_quotes h s m)) x e).0

maker-named : (h : List Part) (s m : ℕ) (x : Maker) → maker_of h s m ≡ Some x → In m (names_of h s)
unfolding maker_of
maker-named h s m x e = let r = (standing-name m (condition_of h s m) (latest (maker_quotes h s m)) x e).1 in last-named h s m r.0 r.1

pub in-makers : (h : List Part) (s : ℕ) (x : Maker) → In x (makers_of h s) → maker_of h s x.name ≡ Some x
unfolding makers_of
in-makers h s x m =
    let r = in-collect (maker_of h s) x (names_of h s) m in
    ap (maker_of h s) (maker-name h s r.0 x r.2) ∙ r.2

pub makers-in : (h : List Part) (s m : ℕ) (x : Maker) → maker_of h s m ≡ Some x → In x (makers_of h s)
unfolding makers_of
makers-in h s m x e = collect-in (maker_of h s) m x (names_of h s) (maker-named h s m x e) e

-- a collection over distinct names is distinct
collect-distinct : (f : ℕ → Option Maker) → ((m : ℕ) (x : Maker) → f m ≡ Some x → x.name ≡ m) → (xs : List ℕ)
    → Distinct (λ (k : ℕ). k) xs → Distinct (λ (x : Maker). x.name) (collect f xs)
collect-distinct f n [] d = tt
collect-distinct f n (k ∷ ks) d = go (f k) refl (collect-distinct f n ks d.1)
  where
    go : (o : Option Maker) → f k ≡ o → Distinct (λ (x : Maker). x.name) (collect f ks) → Distinct (λ (x : Maker). x.name) (cons_option o (collect f ks))
    go None e r = r
    go (Some x) e r =
        (λ y m p. let s = in-collect f y ks m in d.0 s.0 s.1 (sym (n s.0 y s.2) ∙ p ∙ n k x e), r)

pub makers-distinct : (h : List Part) (s : ℕ) → Distinct (λ (x : Maker). x.name) (makers_of h s)
unfolding makers_of
makers-distinct h s = collect-distinct (maker_of h s) (maker-name h s) (names_of h s) (names-distinct h s)

-- ---- cells in which each name is found as the history has it: as many makers, and the same best

module _ (h : List Part) (s : ℕ) (cs : List (Option Maker)) (sole : Sole cs) (found : (m : ℕ) → find_maker m cs ≡ maker_of h s m) where
  to : (x : Maker) → In x (occupied cs) → In x (makers_of h s)
  to x m = makers-in h s x.name x (sym (found x.name) ∙ in-find x cs sole m)

  from : (x : Maker) → In x (makers_of h s) → In x (occupied cs)
  from x m = (find-in x.name x cs (found x.name ∙ in-makers h s x m)).0

  pub same_count : length (occupied cs) ≡ length (makers_of h s)
  same_count = same_length (λ (x : Maker). x.name) (occupied cs) (makers_of h s) (occupied-distinct cs sole) (makers-distinct h s) to from

  one_name : (a b : Maker) → In a (occupied cs) → In b (occupied cs) → a.name ≡ b.name → a ≡ b
  one_name a b m n p =
      let e : find_maker a.name cs ≡ Some a = in-find a cs sole m in
      let f : find_maker b.name cs ≡ Some b = in-find b cs sole n in
      let g : find_maker a.name cs ≡ find_maker b.name cs = ap (λ (k : ℕ). find_maker k cs) p in
      cc

  pub same-finra : finra_best (occupied cs) ≡ finra_best (makers_of h s)
  same-finra = finra-same (occupied cs) (makers_of h s) to from one_name
