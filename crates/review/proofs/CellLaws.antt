-- The sixteen cells of a page: what a maker's quote, its release and a FINRA Close or Open do to the maker found under each name.
-- Assumes nothing.
use Prim.Native.Nat.{ℕ, zero, suc, ◌<◌}
use mathlib.Core.Path.{◌≡◌, refl, sym, ap, ◌∙◌}
use mathlib.Core.Bool.{Bool, true, false, cond}
use mathlib.Core.Logic.{◌⊎◌, inl, inr}
use mathlib.Core.List.{List, [], ◌∷◌}
use Rattle.std.specs.Prelude.{Option, None, Some}
use native.Mathlib.Omega.{arith}
use lib.Dec.{eqb}
use lib.ListN.{length, replicate, length-map}
use borrow.Author.Tests.{eq-eqb, ne_eqb}
use Rattle.lists.specs.Lists.{is_some, map_option}
use Rattle.lists.proofs.Tests.{clash, Cut, equal, apart, cut}
use Rattle.lists.proofs.Members.{In, Distinct}
use Rattle.quote.specs.declared.Quote.{Quote}
use Rattle.quote.specs.Quote.{empty_quote}
use Rattle.entries.specs.Entries.{Maker}
use Rattle.page.specs.Page.{occupied}
use Rattle.makers.specs.Makers.{named, find_maker}
use Rattle.update.proofs.Model.{as_maker, rewrite, allocate, standing, maker_put, marked, mark_all}

-- no two cells have one name
abbrev pub Sole : List (Option Maker) → Type 0
Sole [] = Unit {0}
Sole (None ∷ cs) = Sole cs
Sole (Some x ∷ cs) = (find_maker x.name cs ≡ None) × Sole cs

-- what is found is a member, under that name
pub find-in : (m : ℕ) (x : Maker) (cs : List (Option Maker)) → find_maker m cs ≡ Some x → In x (occupied cs) × (x.name ≡ m)
unfolding find_maker
find-in m x [] e = clash (cc)
find-in m x (None ∷ cs) e = find-in m x cs e
find-in m x (Some y ∷ cs) e = go (cut y.name m) (λ d. find-in m x cs d)
  where
    go : Cut y.name m → (find_maker m cs ≡ Some x → In x (occupied cs) × (x.name ≡ m)) → In x (y ∷ occupied cs) × (x.name ≡ m)
    go (equal t p) down =
        let q : y ≡ x = let z : ◌≡◌ {A = Option Maker} (cond (eqb y.name m) (Some y) (find_maker m cs)) (Some x) = e in cc in
        (inl (sym q), ap (λ (k : Maker). k.name) (sym q) ∙ p)
    go (apart t p) down = let r = down (rw t at e) in (inr r.0, r.1)

-- a member is found, if no two cells have one name
pub in-find : (x : Maker) (cs : List (Option Maker)) → Sole cs → In x (occupied cs) → find_maker x.name cs ≡ Some x
unfolding find_maker
in-find x [] s m = absurd m
in-find x (None ∷ cs) s m = in-find x cs s m
in-find x (Some y ∷ cs) s (inl p) = rw (eq-eqb y.name x.name (ap (λ (k : Maker). k.name) (sym p))) (ap Some (sym p))
in-find x (Some y ∷ cs) s (inr m) = go (cut y.name x.name) (in-find x cs s.1 m)
  where
    go : Cut y.name x.name → find_maker x.name cs ≡ Some x → cond (eqb y.name x.name) (Some y) (find_maker x.name cs) ≡ Some x
    go (equal t p) e = clash (let n : find_maker x.name cs ≡ None = ap (λ (k : ℕ). find_maker k cs) (sym p) ∙ s.0 in cc)
    go (apart t p) e = rw t e

-- a cell that is none or has the name m
abbrev pub Fit : ℕ → Option Maker → Type 0
Fit m None = Unit {0}
Fit m (Some y) = y.name ≡ m

named_other : (m k : ℕ) (c : Option Maker) → Fit m c → (m ≡ k → ⊥) → named k c ≡ false
named_other m k None f h = refl
named_other m k (Some y) f h = ne_eqb y.name k (λ p. h (sym f ∙ p))

-- after a rewrite: the others
pub rewrite-other : (m k : ℕ) (c : Option Maker) (cs : List (Option Maker)) → Fit m c → (m ≡ k → ⊥) → find_maker k (rewrite m c cs) ≡ find_maker k cs
unfolding find_maker
rewrite-other m k c [] f h = refl
rewrite-other m k c (None ∷ cs) f h = rewrite-other m k c cs f h
rewrite-other m k c (Some x ∷ cs) f h = go (cut x.name m) (rewrite-other m k c cs f h)
  where
    go : Cut x.name m → find_maker k (rewrite m c cs) ≡ find_maker k cs → find_maker k (cond (eqb x.name m) (c ∷ cs) (Some x ∷ rewrite m c cs)) ≡ cond (eqb x.name k) (Some x) (find_maker k cs)
    go (equal t p) e = rw (t, named_other m k c f h, ne_eqb x.name k (λ q. h (sym p ∙ q)))
    go (apart t p) e = rw (t, e)

-- after a rewrite: the one rewritten
found-there : (m : ℕ) (c : Option Maker) (cs : List (Option Maker)) → Fit m c → find_maker m cs ≡ None → cond (named m c) c (find_maker m cs) ≡ c
found-there m None cs f e = e
found-there m (Some y) cs f e = rw (eq-eqb y.name m f)

pub rewrite-same : (m : ℕ) (c : Option Maker) (cs : List (Option Maker)) → Fit m c → Sole cs → is_some (find_maker m cs) ≡ true → find_maker m (rewrite m c cs) ≡ c
unfolding find_maker
rewrite-same m c [] f s h = clash (sym h)
rewrite-same m c (None ∷ cs) f s h = rewrite-same m c cs f s h
rewrite-same m c (Some x ∷ cs) f s h = go (cut x.name m) (rewrite-same m c cs f s.1) h
  where
    go : Cut x.name m → (is_some (find_maker m cs) ≡ true → find_maker m (rewrite m c cs) ≡ c)
        → is_some (cond (eqb x.name m) (Some x) (find_maker m cs)) ≡ true
        → find_maker m (cond (eqb x.name m) (c ∷ cs) (Some x ∷ rewrite m c cs)) ≡ c
    go (equal t p) down h = rw t (found-there m c cs f (ap (λ (k : ℕ). find_maker k cs) (sym p) ∙ s.0))
    go (apart t p) down h = rw (t, t) (down (rw t at h))

-- a rewrite keeps the names apart
sole-cons : (m : ℕ) (c : Option Maker) (cs : List (Option Maker)) → Fit m c → find_maker m cs ≡ None → Sole cs → Sole (c ∷ cs)
sole-cons m None cs f e s = s
sole-cons m (Some y) cs f e s = (ap (λ (k : ℕ). find_maker k cs) f ∙ e, s)

pub rewrite-sole : (m : ℕ) (c : Option Maker) (cs : List (Option Maker)) → Fit m c → Sole cs → Sole (rewrite m c cs)
rewrite-sole m c [] f s = tt
rewrite-sole m c (None ∷ cs) f s = rewrite-sole m c cs f s
rewrite-sole m c (Some x ∷ cs) f s = go (cut x.name m) (rewrite-sole m c cs f s.1)
  where
    go : Cut x.name m → Sole (rewrite m c cs) → Sole (cond (eqb x.name m) (c ∷ cs) (Some x ∷ rewrite m c cs))
    go (equal t p) r = rw t (sole-cons m c cs f (ap (λ (k : ℕ). find_maker k cs) (sym p) ∙ s.0) s.1)
    go (apart t p) r = rw t (rewrite-other m x.name c cs f (λ q. p (sym q)) ∙ s.0, r)

pub rewrite-length : (m : ℕ) (c : Option Maker) (cs : List (Option Maker)) → length (rewrite m c cs) ≡ length cs
rewrite-length m c [] = refl
rewrite-length m c (x ∷ cs) = go (named m x) (rewrite-length m c cs)
  where
    go : (t : Bool) → length (rewrite m c cs) ≡ length cs → length (cond t (c ∷ cs) (x ∷ rewrite m c cs)) ≡ suc (length cs)
    go true e = refl
    go false e = ap suc e

-- an allocation: the others, the new one, the names, the length
pub allocate-other : (y : Maker) (k : ℕ) (cs : List (Option Maker)) → (y.name ≡ k → ⊥) → find_maker k (allocate y cs) ≡ find_maker k cs
unfolding find_maker
allocate-other y k [] h = refl
allocate-other y k (None ∷ cs) h = rw (ne_eqb y.name k h)
allocate-other y k (Some x ∷ cs) h = rw (allocate-other y k cs h)

pub allocate-same : (y : Maker) (cs : List (Option Maker)) → find_maker y.name cs ≡ None → length (occupied cs) < length cs → find_maker y.name (allocate y cs) ≡ Some y
unfolding find_maker
allocate-same y [] e h = absurd (omega arith)
allocate-same y (None ∷ cs) e h = rw (eq-eqb y.name y.name refl)
allocate-same y (Some x ∷ cs) e h = go (cut x.name y.name) (allocate-same y cs) e
  where
    go : Cut x.name y.name → (find_maker y.name cs ≡ None → length (occupied cs) < length cs → find_maker y.name (allocate y cs) ≡ Some y)
        → cond (eqb x.name y.name) (Some x) (find_maker y.name cs) ≡ None
        → cond (eqb x.name y.name) (Some x) (find_maker y.name (allocate y cs)) ≡ Some y
    go (equal t p) down e = clash (let z : Some x ≡ None = rw t at e in cc)
    go (apart t p) down e = rw t (down (rw t at e) (omega arith))

pub allocate-sole : (y : Maker) (cs : List (Option Maker)) → find_maker y.name cs ≡ None → Sole cs → Sole (allocate y cs)
unfolding find_maker
allocate-sole y [] e s = tt
allocate-sole y (None ∷ cs) e s = (e, s)
allocate-sole y (Some x ∷ cs) e s = go (cut x.name y.name) (allocate-sole y cs) e
  where
    go : Cut x.name y.name → (find_maker y.name cs ≡ None → Sole cs → Sole (allocate y cs))
        → cond (eqb x.name y.name) (Some x) (find_maker y.name cs) ≡ None
        → Sole (Some x ∷ allocate y cs)
    go (equal t p) down e = clash (let z : Some x ≡ None = rw t at e in cc)
    go (apart t p) down e = (allocate-other y x.name cs (λ q. p (sym q)) ∙ s.0, down (rw t at e) s.1)

pub allocate-length : (y : Maker) (cs : List (Option Maker)) → length (allocate y cs) ≡ length cs
allocate-length y [] = refl
allocate-length y (None ∷ cs) = refl
allocate-length y (Some x ∷ cs) = ap suc (allocate-length y cs)

-- ---- a maker's quote

-- the maker has a cell, or one is free, unless its quote is empty
unfoldable pub Room : ℕ → Quote → List (Option Maker) → Type 0
Room m q cs = empty_quote q ≡ false → (is_some (find_maker m cs) ≡ true) ⊎ (length (occupied cs) < length cs)

pub room-same : (m : ℕ) (q v : Quote) (cs : List (Option Maker)) → empty_quote v ≡ empty_quote q → Room m q cs → Room m v cs
unfolding Room
room-same m q v cs e r n = r (sym e ∙ n)

not_some : {A : Type 0} (o : Option A) → is_some o ≡ false → o ≡ None
not_some None e = refl
not_some (Some a) e = clash e

fit-standing : (m : ℕ) (q : Quote) → Fit m (standing m q)
unfolding standing
fit-standing m q = go (empty_quote q)
  where
    go : (t : Bool) → Fit m (cond t None (Some (as_maker m q)))
    go true = tt
    go false = refl

module _ (m : ℕ) (q : Quote) (cs : List (Option Maker)) where
  pub put_other : (k : ℕ) → (m ≡ k → ⊥) → find_maker k (maker_put m q cs) ≡ find_maker k cs
  unfolding maker_put
  put_other k h = go (is_some (find_maker m cs)) (empty_quote q)
    where
      go : (t u : Bool) → find_maker k (cond t (rewrite m (standing m q) cs) (cond u cs (allocate (as_maker m q) cs))) ≡ find_maker k cs
      go true u = rewrite-other m k (standing m q) cs (fit-standing m q) h
      go false true = refl
      go false false = allocate-other (as_maker m q) k cs h

  pub put_same : Sole cs → Room m q cs → find_maker m (maker_put m q cs) ≡ standing m q
  unfolding maker_put standing Room
  put_same s r = go (is_some (find_maker m cs)) refl (empty_quote q) refl
    where
      room : is_some (find_maker m cs) ≡ false → (is_some (find_maker m cs) ≡ true) ⊎ (length (occupied cs) < length cs) → length (occupied cs) < length cs
      room e (inl t) = clash (sym t ∙ e)
      room e (inr h) = h

      go : (t : Bool) → is_some (find_maker m cs) ≡ t → (u : Bool) → empty_quote q ≡ u
          → find_maker m (cond t (rewrite m (cond u None (Some (as_maker m q))) cs) (cond u cs (allocate (as_maker m q) cs))) ≡ cond u None (Some (as_maker m q))
      go true e true f = rewrite-same m None cs tt s e
      go true e false f = rewrite-same m (Some (as_maker m q)) cs refl s e
      go false e true f = not_some (find_maker m cs) e
      go false e false f = allocate-same (as_maker m q) cs (not_some (find_maker m cs) e) (room e (r f))

  pub put-sole : Sole cs → Sole (maker_put m q cs)
  unfolding maker_put
  put-sole s = go (is_some (find_maker m cs)) refl (empty_quote q)
    where
      go : (t : Bool) → is_some (find_maker m cs) ≡ t → (u : Bool) → Sole (cond t (rewrite m (standing m q) cs) (cond u cs (allocate (as_maker m q) cs)))
      go true e u = rewrite-sole m (standing m q) cs (fit-standing m q) s
      go false e true = s
      go false e false = allocate-sole (as_maker m q) cs (not_some (find_maker m cs) e) s

  pub put-length : length (maker_put m q cs) ≡ length cs
  unfolding maker_put
  put-length = go (is_some (find_maker m cs)) (empty_quote q)
    where
      go : (t u : Bool) → length (cond t (rewrite m (standing m q) cs) (cond u cs (allocate (as_maker m q) cs))) ≡ length cs
      go true u = rewrite-length m (standing m q) cs
      go false true = refl
      go false false = allocate-length (as_maker m q) cs

-- ---- FINRA Close and Open

pub mark-find : (c k : ℕ) (cs : List (Option Maker)) → find_maker k (mark_all c cs) ≡ map_option (marked c) (find_maker k cs)
unfolding mark_all find_maker
mark-find c k [] = refl
mark-find c k (None ∷ cs) = mark-find c k cs
mark-find c k (Some x ∷ cs) = go (eqb x.name k) (mark-find c k cs)
  where
    go : (t : Bool) → find_maker k (mark_all c cs) ≡ map_option (marked c) (find_maker k cs)
        → cond t (Some (marked c x)) (find_maker k (mark_all c cs)) ≡ map_option (marked c) (cond t (Some x) (find_maker k cs))
    go true e = refl
    go false e = e

pub mark-sole : (c : ℕ) (cs : List (Option Maker)) → Sole cs → Sole (mark_all c cs)
unfolding mark_all
mark-sole c [] s = tt
mark-sole c (None ∷ cs) s = mark-sole c cs s
mark-sole c (Some x ∷ cs) s = (mark-find c x.name cs ∙ ap (map_option (marked c)) s.0, mark-sole c cs s.1)

pub mark-length : (c : ℕ) (cs : List (Option Maker)) → length (mark_all c cs) ≡ length cs
unfolding mark_all
mark-length c cs = length-map cs (map_option (marked c))

-- ---- empty cells

pub empty-find : (k n : ℕ) → find_maker k (replicate n None) ≡ None
unfolding find_maker
empty-find k zero = refl
empty-find k (suc n) = empty-find k n

pub empty-sole : (n : ℕ) → Sole (replicate n None)
empty-sole zero = tt
empty-sole (suc n) = empty-sole n

-- ---- the occupied cells are distinct

pub occupied-distinct : (cs : List (Option Maker)) → Sole cs → Distinct (λ (x : Maker). x.name) (occupied cs)
occupied-distinct [] s = tt
occupied-distinct (None ∷ cs) s = occupied-distinct cs s
occupied-distinct (Some x ∷ cs) s = (
  λ y m p. clash (let e : find_maker y.name cs ≡ Some y = in-find y cs s.1 m in
      let n : find_maker y.name cs ≡ None = ap (λ (k : ℕ). find_maker k cs) p ∙ s.0 in cc),
  occupied-distinct cs s.1,
)
