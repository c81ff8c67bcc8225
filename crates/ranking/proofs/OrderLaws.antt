-- Orders made of steps, and the best of a list: it depends on the members only, and may be found in parts.
-- Assumes nothing.
use Rattle.std.proofs.Common.{◌≡◌, ℕ, ◌≤◌, Bool, true, false, cond, List, [], ◌∷◌, ◌++◌, sym, refl, ap, ◌∙◌, inl, inr, arith, ltb-false, ltb-true, le-ltb}
use Rattle.std.specs.Prelude.{Option, None, Some}
use Rattle.lists.specs.Lists.{bind_option, cons_option, collect}
use Rattle.lists.proofs.Tests.{clash}
use Rattle.lists.proofs.Members.{In}
use Rattle.ranking.specs.declared.Reason.{Reason}
use Rattle.ranking.specs.declared.Compared.{Compared}
use Rattle.ranking.specs.Ranking.{Step, decide, compared_by, lower, higher, pick, best}
use Rattle.ranking.specs.Held.{lateness}

-- a comparison that is a strict weak order
pub record Weak {A : Type 0} (R : A → A → Bool) : Type 0 where
  pub asym : (a b : A) → R a b ≡ true → R b a ≡ false
  pub steps : (a b c : A) → R a b ≡ false → R b c ≡ false → R a c ≡ false

-- ---- orders by two rules: the first decides; where it sees no difference, the second does

abbrev first : Bool → Bool → Bool → Bool
first true y z = true
first false true z = false
first false false z = z

unfoldable pub lex : {A : Type 0} → (A → A → Bool) → (A → A → Bool) → A → A → Bool
lex P Q a b = first (P a b) (P b a) (Q a b)

first-left : (x y z : Bool) → first x y z ≡ false → x ≡ false
first-left true y z e = e
first-left false y z e = refl

first-right : (x y z : Bool) → first x y z ≡ false → y ≡ false → z ≡ false
first-right true y z e f = clash e
first-right false true z e f = clash f
first-right false false z e f = e

first-false : (x y z : Bool) → x ≡ false → (y ≡ false → z ≡ false) → first x y z ≡ false
first-false true y z e f = e
first-false false true z e f = refl
first-false false false z e f = f refl

first-asym : (x y z w : Bool) → (x ≡ true → y ≡ false) → (z ≡ true → w ≡ false) → first x y z ≡ true → first y x w ≡ false
first-asym true true z w f g e = clash (f refl)
first-asym true false z w f g e = refl
first-asym false true z w f g e = clash (sym e)
first-asym false false z w f g e = g e

module _ {A : Type 0} (P Q : A → A → Bool) where
  pub lex-weak : Weak P → Weak Q → Weak (lex P Q)
  unfolding lex
  lex-weak p q =
      record {
        asym = λ a b. first-asym (P a b) (P b a) (Q a b) (Q b a) (p.asym a b) (q.asym a b);
        steps =
            λ a b c e f.
            let ab : P a b ≡ false = first-left (P a b) (P b a) (Q a b) e in
            let bc : P b c ≡ false = first-left (P b c) (P c b) (Q b c) f in
            first-false (P a c) (P c a) (Q a c)
            (p.steps a b c ab bc)
            (λ ca.
            q.steps a b c
            (first-right (P a b) (P b a) (Q a b) e (p.steps b c a bc ca))
            (first-right (P b c) (P c b) (Q b c) f (p.steps c a b ca ab)));
      }

  pub lex-left : (a b : A) → lex P Q a b ≡ false → P a b ≡ false
  unfolding lex
  lex-left a b e = first-left (P a b) (P b a) (Q a b) e

  lex-second : (a b : A) → lex P Q a b ≡ false → P b a ≡ false → Q a b ≡ false
  unfolding lex
  lex-second a b e f = first-right (P a b) (P b a) (Q a b) e f

  pub lex-right : (a b : A) → lex P Q a b ≡ false → lex P Q b a ≡ false → Q a b ≡ false
  unfolding lex
  lex-right a b e f = first-right (P a b) (P b a) (Q a b) e (lex-left b a f)

  pub lex-ahead : (a b : A) → P a b ≡ true → lex P Q a b ≡ true
  unfolding lex
  lex-ahead a b e = rw e

-- ---- orders by steps

decide-ahead : (r : Reason) (x y : Bool) (z : Compared) → (decide r x y z).ahead ≡ first x y z.ahead
decide-ahead r true y z = refl
decide-ahead r false true z = refl
decide-ahead r false false z = refl

module _ {A : Type 0} where
  abbrev pub ahead_by : Step A → List (Step A) → A → A → Bool
  ahead_by p qs a b = (compared_by p qs a b).ahead

  -- each step is a strict weak order
  abbrev pub AllWeak : Step A → List (Step A) → Type 0
  AllWeak p [] = Weak p.rule
  AllWeak p (q ∷ qs) = Weak p.rule × AllWeak q qs

  pub ahead-lex : (p q : Step A) (qs : List (Step A)) (a b : A) → ahead_by p (q ∷ qs) a b ≡ lex p.rule (ahead_by q qs) a b
  unfolding compared_by lex
  ahead-lex p q qs a b = decide-ahead p.by (p.rule a b) (p.rule b a) (compared_by q qs a b)

  -- a step that sees no difference leaves it to those behind it
  pub peel : (p q : Step A) (qs : List (Step A)) (a b : A) → ahead_by p (q ∷ qs) a b ≡ false → ahead_by p (q ∷ qs) b a ≡ false → ahead_by q qs a b ≡ false
  peel p q qs a b e f = lex-right p.rule (ahead_by q qs) a b (sym (ahead-lex p q qs a b) ∙ e) (sym (ahead-lex p q qs b a) ∙ f)

  weak-same : (R S : A → A → Bool) → ((a b : A) → R a b ≡ S a b) → Weak S → Weak R
  weak-same R S e w =
      record {
        asym = λ a b h. e b a ∙ w.asym a b (sym (e a b) ∙ h);
        steps = λ a b c h k. e a c ∙ w.steps a b c (sym (e a b) ∙ h) (sym (e b c) ∙ k);
      }

  -- then so is the whole
  pub steps-weak : (p : Step A) (qs : List (Step A)) → AllWeak p qs → Weak (ahead_by p qs)
  unfolding compared_by
  steps-weak p [] w = w
  steps-weak p (q ∷ qs) w = weak-same (ahead_by p (q ∷ qs)) (lex p.rule (ahead_by q qs)) (ahead-lex p q qs) (lex-weak p.rule (ahead_by q qs) w.0 (steps-weak q qs w.1))

  -- both ways round the same step decides
  pub same_step : (p : Step A) (qs : List (Step A)) → AllWeak p qs → (a b : A) → (compared_by p qs a b).by ≡ (compared_by p qs b a).by
  unfolding compared_by
  same_step p [] w a b = refl
  same_step p (q ∷ qs) w a b = go (p.rule a b) refl (p.rule b a) refl (same_step q qs w.1 a b)
    where
      go : (s : Bool) → p.rule a b ≡ s → (t : Bool) → p.rule b a ≡ t → (compared_by q qs a b).by ≡ (compared_by q qs b a).by
          → (decide p.by s t (compared_by q qs a b)).by ≡ (decide p.by t s (compared_by q qs b a)).by
      go true e true f h = refl
      go true e false f h = refl
      go false e true f h = refl
      go false e false f h = h

  -- the steps are called in order: later ones have later names
  abbrev pub Rising : Step A → List (Step A) → Type 0
  Rising p [] = Unit {0}
  Rising p (q ∷ qs) = (lateness p.by ≤ lateness q.by) × Rising q qs

  not-before : (p : Step A) (qs : List (Step A)) → Rising p qs → (a b : A) → lateness p.by ≤ lateness (compared_by p qs a b).by
  unfolding compared_by
  not-before p [] r a b = omega arith
  not-before p (q ∷ qs) r a b = go (p.rule a b) (p.rule b a) (not-before q qs r.1 a b)
    where
      go : (s t : Bool) → lateness q.by ≤ lateness (compared_by q qs a b).by → lateness p.by ≤ lateness (decide p.by s t (compared_by q qs a b)).by
      go true t h = omega arith
      go false true h = omega arith
      go false false h = omega (arith, r.0)

  -- of two that lose to b, the better one is decided no earlier: whatever the steps
  pub closer : (p : Step A) (qs : List (Step A)) → AllWeak p qs → Rising p qs → (b x y : A) → ahead_by p qs x b ≡ false → ahead_by p qs y x ≡ false
      → lateness (compared_by p qs b y).by ≤ lateness (compared_by p qs b x).by
  unfolding compared_by
  closer p [] w r b x y e f = omega arith
  closer p (q ∷ qs) w r b x y e f =
      go (p.rule b x) refl (p.rule x b) refl (p.rule b y) refl (p.rule y b) (λ s t. closer q qs w.1 r.1 b x y s t)
    where
      xb : lex p.rule (ahead_by q qs) x b ≡ false
      xb = sym (ahead-lex p q qs x b) ∙ e

      yx : lex p.rule (ahead_by q qs) y x ≡ false
      yx = sym (ahead-lex p q qs y x) ∙ f

      rest : lateness p.by ≤ lateness (compared_by q qs b x).by
      rest = omega (arith, r.0, not-before q qs r.1 b x)

      go : (s : Bool) → p.rule b x ≡ s → (t : Bool) → p.rule x b ≡ t → (u : Bool) → p.rule b y ≡ u → (v : Bool)
          → (ahead_by q qs x b ≡ false → ahead_by q qs y x ≡ false → lateness (compared_by q qs b y).by ≤ lateness (compared_by q qs b x).by)
          → lateness (decide p.by u v (compared_by q qs b y)).by ≤ lateness (decide p.by s t (compared_by q qs b x)).by
      go true bx t bt true by v down = omega arith
      go true bx t bt false by v down = clash (sym bx ∙ w.0.steps b y x by (lex-left p.rule (ahead_by q qs) y x yx))
      go false bx true bt u by v down = clash (sym bt ∙ lex-left p.rule (ahead_by q qs) x b xb)
      go false bx false bt true by v down = rest
      go false bx false bt false by true down = rest
      go false bx false bt false by false down =
          down (lex-second p.rule (ahead_by q qs) x b xb bx) (lex-second p.rule (ahead_by q qs) y x yx (w.0.steps x b y bt by))

module _ {A : Type 0} (k : A → ℕ) where
  pub low-weak : Weak (lower k)
  unfolding lower
  low-weak =
      record {
        asym = λ a b e. le-ltb (k b) (k a) (omega (arith, ltb-true (k a) (k b) e));
        steps = λ a b c e f. le-ltb (k a) (k c) (omega (arith, ltb-false (k a) (k b) e, ltb-false (k b) (k c) f));
      }

  pub high-weak : Weak (higher k)
  unfolding higher
  high-weak =
      record {
        asym = λ a b e. le-ltb (k a) (k b) (omega (arith, ltb-true (k b) (k a) e));
        steps = λ a b c e f. le-ltb (k c) (k a) (omega (arith, ltb-false (k b) (k a) e, ltb-false (k c) (k b) f));
      }

  pub low-tie : (a b : A) → lower k a b ≡ false → lower k b a ≡ false → k a ≡ k b
  unfolding lower
  low-tie a b e f = omega (arith, ltb-false (k a) (k b) e, ltb-false (k b) (k a) f)

-- ---- the best of a list

-- c is a member, and no member is better
pub record IsBest {A : Type 0} (R : A → A → Bool) (xs : List A) (c : A) : Type 0 where
  pub member : In c xs
  pub top : (d : A) → In d xs → R d c ≡ false

-- the better of two that may be none; the first where neither is better
abbrev pub either : {A : Type 0} → (A → A → Bool) → Option A → Option A → Option A
either R None o = o
either R (Some x) o = Some (pick R x o)

pub best-cons : {A : Type 0} (R : A → A → Bool) (o : Option A) (xs : List A) → best R (cons_option o xs) ≡ either R o (best R xs)
best-cons R None xs = refl
best-cons R (Some x) xs = refl

-- those that pass a test
abbrev pub keep : {A : Type 0} → (A → Bool) → A → Option A
keep p a = cond (p a) (Some a) None

module _ {A : Type 0} (R : A → A → Bool) (w : Weak R) where
  irrefl : (a : A) → R a a ≡ false
  irrefl a = go (R a a) refl
    where
      go : (t : Bool) → R a a ≡ t → R a a ≡ false
      go true e = w.asym a a e
      go false e = e

  pub chain : (a b c : A) → R a b ≡ true → R b c ≡ true → R a c ≡ true
  chain a b c e f = go (R a c) refl
    where
      go : (t : Bool) → R a c ≡ t → R a c ≡ true
      go true h = h
      go false h = clash (sym e ∙ w.steps a c b h (w.asym b c f))

  join : (x y : A) (xs : List A) → IsBest R xs y → IsBest R (x ∷ xs) (cond (R y x) y x)
  join x y xs b = go (R y x) refl
    where
      go : (t : Bool) → R y x ≡ t → IsBest R (x ∷ xs) (cond t y x)
      go true e = record { member = inr b.member; top = λ d m. elim m [ inl p ↦ rw p (w.asym y x e) | inr m' ↦ b.top d m' ] }
      go false e = record { member = inl refl; top = λ d m. elim m [ inl p ↦ rw p (irrefl x) | inr m' ↦ w.steps d y x (b.top d m') e ] }

  pub best-is : (x : A) (xs : List A) → IsBest R (x ∷ xs) (pick R x (best R xs))
  best-is x [] = record { member = inl refl; top = λ d m. elim m [ inl p ↦ rw p (irrefl x) | inr m' ↦ absurd m' ] }
  best-is x (y ∷ ys) = join x (pick R y (best R ys)) (y ∷ ys) (best-is y ys)

  -- the same members, and no two of them tie: the same best, whatever their order and repeats
  pub same-best : (xs ys : List A)
      → ((a : A) → In a xs → In a ys)
      → ((a : A) → In a ys → In a xs)
      → ((a b : A) → In a xs → In b xs → R a b ≡ false → R b a ≡ false → a ≡ b)
      → best R xs ≡ best R ys
  same-best [] [] f g t = refl
  same-best [] (y ∷ ys) f g t = absurd (g y (inl refl))
  same-best (x ∷ xs) [] f g t = absurd (f x (inl refl))
  same-best (x ∷ xs) (y ∷ ys) f g t =
      let b = best-is x xs in
      let c = best-is y ys in
      ap Some
      (t (pick R x (best R xs)) (pick R y (best R ys))
      b.member
      (g (pick R y (best R ys)) c.member)
      (c.top (pick R x (best R xs)) (f (pick R x (best R xs)) b.member))
      (b.top (pick R y (best R ys)) (g (pick R y (best R ys)) c.member)))

  -- ---- in parts: the choice is associative

  pick-pick : (x y z : A) → cond (R (cond (R z y) z y) x) (cond (R z y) z y) x ≡ cond (R z (cond (R y x) y x)) z (cond (R y x) y x)
  pick-pick x y z = go (R z y) refl (R y x) refl (R z x) refl
    where
      go : (a : Bool) → R z y ≡ a → (b : Bool) → R y x ≡ b → (c : Bool) → R z x ≡ c
          → cond (R (cond a z y) x) (cond a z y) x ≡ cond (R z (cond b y x)) z (cond b y x)
      go true e true f true g = rw (e, g)
      go true e true f false g = clash (sym (chain z y x e f) ∙ g)
      go true e false f c g = refl
      go false e true f c g = rw (e, f)
      go false e false f c g = rw (f, w.steps z y x e f)

  pub either-either : (a b c : Option A) → either R (either R a b) c ≡ either R a (either R b c)
  either-either None b c = refl
  either-either (Some x) None c = refl
  either-either (Some x) (Some y) None = refl
  either-either (Some x) (Some y) (Some z) = ap Some (sym (pick-pick x y z))

  pub best-append : (xs ys : List A) → best R (xs ++ ys) ≡ either R (best R xs) (best R ys)
  best-append [] ys = refl
  best-append (x ∷ xs) ys = ap (either R (Some x)) (best-append xs ys) ∙ sym (either-either (Some x) (best R xs) (best R ys))

  -- one that is better than each of some others stands for them
  abbrev pub Top : A → List A → Type 0
  Top x [] = Unit {0}
  Top x (y ∷ ys) = (R x y ≡ true) × Top x ys

  pub best-top : (x : A) (xs ys : List A) → Top x xs → best R (x ∷ xs ++ ys) ≡ Some (pick R x (best R ys))
  best-top x [] ys t = refl
  best-top x (y ∷ xs) ys t =
      ap (either R (Some x)) (best-cons R (Some y) (xs ++ ys))
      ∙ sym (either-either (Some x) (Some y) (best R (xs ++ ys)))
      ∙ ap (λ (o : Bool). either R (Some (cond o y x)) (best R (xs ++ ys))) (w.asym x y t.0)
      ∙ best-top x xs ys t.1

  -- a test that whatever is as good passes too: made of each or of the best
  module _ (p : A → Bool) (up : (x y : A) → R y x ≡ false → p y ≡ true → p x ≡ true) where
    keep-step : (x : A) (o : Option A) → either R (keep p x) (bind_option o (keep p)) ≡ bind_option (either R (Some x) o) (keep p)
    keep-step x None = go (p x)
      where
        go : (t : Bool) → either R (cond t (Some x) None) None ≡ cond t (Some x) None
        go true = refl
        go false = refl
    keep-step x (Some y) = go (p x) refl (p y) refl (R y x) refl
      where
        go : (a : Bool) → p x ≡ a → (b : Bool) → p y ≡ b → (c : Bool) → R y x ≡ c → either R (cond a (Some x) None) (cond b (Some y) None) ≡ keep p (cond c y x)
        go true e true f true g = rw (g, f)
        go true e true f false g = rw (g, e)
        go true e false f true g = clash (sym (up y x (w.asym y x g) e) ∙ f)
        go true e false f false g = rw e
        go false e true f true g = rw f
        go false e true f false g = clash (sym (up x y g f) ∙ e)
        go false e false f true g = rw f
        go false e false f false g = rw e

    pub best-keep : (xs : List A) → best R (collect (keep p) xs) ≡ bind_option (best R xs) (keep p)
    best-keep [] = refl
    best-keep (x ∷ xs) = best-cons R (keep p x) (collect (keep p) xs) ∙ ap (either R (keep p x)) (best-keep xs) ∙ keep-step x (best R xs)
