-- Any two mixings of the same blocks, block by block: the first block of one is moved to the front of the other, past blocks of other lines.
-- Assumes nothing.
use Prim.Native.Nat.{ℕ}
use mathlib.Core.Path.{◌≡◌, refl, sym, ap, ◌∙◌}
use mathlib.Core.Bool.{Bool, true, false, not, ◌&&◌, cond}
use mathlib.Core.List.{List, [], ◌∷◌, map}
use native.Mathlib.Omega.{arith}
use lib.Dec.{eqb}
use borrow.Author.Tests.{eq-eqb, ne_eqb}
use Rattle.field.specs.Field.{Bytes}
use Rattle.lists.proofs.Tests.{clash, and-true, Cut, equal, apart, cut}
use Rattle.opening.specs.Opening.{sound}
use Rattle.opening.proofs.OpeningLaws.{Sound}
use Rattle.calls.specs.Call.{Answer, bare, call, bytes_after, answers}
use Rattle.calls.proofs.NumberLaws.{unsound}
use Rattle.review.proofs.ReportLaws.{number-told}
use Rattle.mixing.specs.Mixing.{Received, call_of, calls, of_line, without_flags, heard, none_used_up, NoneRefused, Same}
use Rattle.mixing.proofs.StepLaws.{Passes, Alone}
use Rattle.mixing.proofs.BlockSwaps.{after-sound, after-bytes, after-alone, block-swap, told-swap}
use Rattle.mixing.proofs.PassLaws.{passes-by, unset-left, after-unset, pass-first, pass-second}
use Rattle.mixing.proofs.LineSwaps.{unset}

-- ---- the first block of a line taken out

data Lifted (x : Received) : List Received → List Received → Type 0 where
  here : (y : Received) (zs : List Received) → y ≡ x → Lifted x (y ∷ zs) zs
  there : (u : Received) (ys zs : List Received) → (u.line ≡ x.line → ⊥) → Lifted x ys zs → Lifted x (u ∷ ys) (u ∷ zs)

lifted : (x : Received) (ys rest : List Received) → of_line x.line ys ≡ x ∷ rest → (zs : List Received) × Lifted x ys zs
lifted x [] rest e = absurd (let z : ◌≡◌ {A = ℕ} 0 1 = cc in omega arith)
lifted x (y ∷ ys) rest e = go (cut y.line x.line) (λ f. lifted x ys rest f)
  where
    go : Cut y.line x.line → (of_line x.line ys ≡ x ∷ rest → (zs : List Received) × Lifted x ys zs) → (zs : List Received) × Lifted x (y ∷ ys) zs
    go (equal t z) down =
        let f : y ∷ of_line x.line ys ≡ x ∷ rest = rw t at e in
        (ys, here y ys (cc))
    go (apart t z) down =
        let r = down (rw t at e) in
        (y ∷ r.0, there y ys r.0 z r.1)

module _ (i : ℕ) where
  -- each line's blocks are as they were
  lifted-of : (x : Received) {ys zs : List Received} → Lifted x ys zs → of_line i ys ≡ of_line i (x ∷ zs)
  lifted-of x (here y zs e) = λ k. cond (eqb (e k).line i) (e k ∷ of_line i zs) (of_line i zs)
  lifted-of x (there u ys zs d t) =
      ap (λ (l : List Received). cond (eqb u.line i) (u ∷ l) l) (lifted-of x t) ∙ go (cut u.line i) (cut x.line i)
    where
      go : Cut u.line i → Cut x.line i
          → cond (eqb u.line i) (u ∷ cond (eqb x.line i) (x ∷ of_line i zs) (of_line i zs)) (cond (eqb x.line i) (x ∷ of_line i zs) (of_line i zs))
          ≡ cond (eqb x.line i) (x ∷ cond (eqb u.line i) (u ∷ of_line i zs) (of_line i zs)) (cond (eqb u.line i) (u ∷ of_line i zs) (of_line i zs))
      go (equal p a) (equal q c) = absurd (d (a ∙ sym c))
      go (equal p a) (apart q c) = rw (p, q)
      go (apart p a) (equal q c) = rw (p, q)
      go (apart p a) (apart q c) = rw (p, q)

  same_rest : (x : Received) (xs zs : List Received) → of_line i (x ∷ xs) ≡ of_line i (x ∷ zs) → of_line i xs ≡ of_line i zs
  same_rest x xs zs e = go (eqb x.line i) e
    where
      go : (t : Bool) → cond t (x ∷ of_line i xs) (of_line i xs) ≡ cond t (x ∷ of_line i zs) (of_line i zs) → of_line i xs ≡ of_line i zs
      go true e = cc
      go false e = e

own_line : (x : Received) (xs : List Received) → of_line x.line (x ∷ xs) ≡ x ∷ of_line x.line xs
own_line x xs = go (cut x.line x.line)
  where
    go : Cut x.line x.line → cond (eqb x.line x.line) (x ∷ of_line x.line xs) (of_line x.line xs) ≡ x ∷ of_line x.line xs
    go (equal t e) = rw t
    go (apart t e) = absurd (e refl)

-- ---- on a sound book

-- what line i is told of blocks on a book
abbrev told_to : ℕ → List ℕ → List Received → List Answer
told_to i b xs = heard i xs (answers b (calls xs))

-- a block passes if its answer is not 86, and only then
passes_of : (b : List ℕ) (x : Received) → not (eqb (call b (call_of x)).answer.number 86) ≡ true → Passes b x.line x.block x.room
passes_of b x e z = clash (sym e ∙ ap not (eq-eqb (call b (call_of x)).answer.number 86 (number-told b (call_of x) refl ∙ z)))

of-passes : (b : List ℕ) (x : Received) → Passes b x.line x.block x.room → not (eqb (call b (call_of x)).answer.number 86) ≡ true
of-passes b x p = ap not (ne_eqb (call b (call_of x)).answer.number 86 (λ z. p (sym (number-told b (call_of x) refl) ∙ z)))

-- two lists leave the same, and in the second none is refused with 86
pub record Moved (b : List ℕ) (xs ys : List Received) : Type 0 where
  pub same : Same b xs ys
  pub none : NoneRefused b ys

-- a block taken out of its place goes first
module _ (n : ℕ) where
  move : (x : Received) {ys zs : List Received} → Lifted x ys zs → (b : List ℕ) → Sound n b → Bytes b → Alone b → NoneRefused b ys → Moved b ys (x ∷ zs)
  move x (here y zs e) b g v a w =
      let r : none_used_up (answers b (calls (y ∷ zs))) ≡ none_used_up (answers b (calls (x ∷ zs))) = λ k. none_used_up (answers b (calls (e k ∷ zs))) in
      record { same = record { book = λ k. bytes_after b (calls (e k ∷ zs)); told = λ i k. told_to i b (e k ∷ zs) }; none = sym r ∙ w }
  move x (there u ys zs d t) b g v a w =
      let bu : List ℕ = (call b (call_of u)).bytes in
      let bx : List ℕ = (call b (call_of x)).bytes in
      let hu = and-true (not (eqb (call b (call_of u)).answer.number 86)) (none_used_up (answers (call b (call_of u)).bytes (calls ys))) w in
      let pu : Passes b u.line u.block u.room = passes_of b u hu.0 in
      let r : Moved bu ys (x ∷ zs) =
      move x t bu (after-sound n b g u.line u.block u.room) (after-bytes n b g u.line u.block u.room v) (after-alone n b g u.line u.block u.room pu a) hu.1 in
      let hx = and-true (not (eqb (call bu (call_of x)).answer.number 86)) (none_used_up (answers (call bu (call_of x)).bytes (calls zs))) r.none in
      let qx : Passes bu x.line x.block x.room = passes_of bu x hx.0 in
      let px : Passes b x.line x.block x.room = pass-first n b g v u.line x.line d u.block x.block u.room x.room pu qx in
      let qu : Passes bx u.line u.block u.room = pass-second n b g v u.line x.line d u.block x.block u.room x.room pu qx in
      let s : (call bu (call_of x)).bytes ≡ (call bx (call_of u)).bytes = block-swap n b g a u.line x.line d u.block x.block u.room x.room pu qx px qu in
      let tx : without_flags (call bu (call_of x)).answer ≡ without_flags (call b (call_of x)).answer =
      told-swap n b g a u.line x.line d u.block x.block u.room x.room pu qx px in
      let tu : without_flags (call bx (call_of u)).answer ≡ without_flags (call b (call_of u)).answer =
      told-swap n b g a x.line u.line (λ e. d (sym e)) x.block u.block x.room u.room px qu pu in
      let l : none_used_up (answers (call bx (call_of u)).bytes (calls zs)) ≡ true = sym (ap (λ (c : List ℕ). none_used_up (answers c (calls zs))) s) ∙ hx.1 in
      record {
        same =
            record {
              book = r.same.book ∙ ap (λ (c : List ℕ). bytes_after c (calls zs)) s;
              told = λ i.
                  ap (λ (l : List Answer). cond (eqb u.line i) (without_flags (call b (call_of u)).answer ∷ l) l) (r.same.told i)
                  ∙ (λ k. cond (eqb u.line i)
                  (without_flags (call b (call_of u)).answer ∷ cond (eqb x.line i) (tx k ∷ told_to i (s k) zs) (told_to i (s k) zs))
                  (cond (eqb x.line i) (tx k ∷ told_to i (s k) zs) (told_to i (s k) zs)))
                  ∙ go i (without_flags (call b (call_of u)).answer) (without_flags (call b (call_of x)).answer) (told_to i (call bx (call_of u)).bytes zs) (cut u.line i) (cut x.line i)
                  ∙ (λ k. cond (eqb x.line i)
                  (without_flags (call b (call_of x)).answer ∷ cond (eqb u.line i) (sym tu k ∷ told_to i (call bx (call_of u)).bytes zs) (told_to i (call bx (call_of u)).bytes zs))
                  (cond (eqb u.line i) (sym tu k ∷ told_to i (call bx (call_of u)).bytes zs) (told_to i (call bx (call_of u)).bytes zs)));
            };
        none = λ k. of-passes b x px k && (of-passes bx u qu k && l k);
      }
    where
      go : (i : ℕ) (p q : Answer) (l : List Answer) → Cut u.line i → Cut x.line i
          → cond (eqb u.line i) (p ∷ cond (eqb x.line i) (q ∷ l) l) (cond (eqb x.line i) (q ∷ l) l)
          ≡ cond (eqb x.line i) (q ∷ cond (eqb u.line i) (p ∷ l) l) (cond (eqb u.line i) (p ∷ l) l)
      go i p q l (equal s e) (equal t f) = absurd (d (e ∙ sym f))
      go i p q l (equal s e) (apart t f) = rw (s, t)
      go i p q l (apart s e) (equal t f) = rw (s, t)
      go i p q l (apart s e) (apart t f) = rw (s, t)

  -- ys, in which none is refused with 86, and any other mixing xs of its blocks
  pub sound-mixings : (xs ys : List Received) → ((i : ℕ) → of_line i xs ≡ of_line i ys) → (b : List ℕ) → Sound n b → Bytes b → Alone b → NoneRefused b ys → Moved b ys xs
  sound-mixings [] [] m b g v a w = record { same = record { book = refl; told = λ i. refl }; none = refl }
  sound-mixings [] (y ∷ ys) m b g v a w =
      let e : [] ≡ y ∷ of_line y.line ys = m y.line ∙ own_line y ys in
      absurd (let z : ◌≡◌ {A = ℕ} 0 1 = cc in omega arith)
  sound-mixings (x ∷ xs) ys m b g v a w =
      let r = lifted x ys (of_line x.line xs) (sym (m x.line) ∙ own_line x xs) in
      let zs : List Received = r.0 in
      let t : Lifted x ys zs = r.1 in
      let f : Moved b ys (x ∷ zs) = move x t b g v a w in
      let hx = and-true (not (eqb (call b (call_of x)).answer.number 86)) (none_used_up (answers (call b (call_of x)).bytes (calls zs))) f.none in
      let h : Moved (call b (call_of x)).bytes zs xs =
      sound-mixings xs zs (λ i. same_rest i x xs zs (m i ∙ lifted-of i x t)) (call b (call_of x)).bytes
      (after-sound n b g x.line x.block x.room) (after-bytes n b g x.line x.block x.room v)
      (after-alone n b g x.line x.block x.room (passes_of b x hx.0) a) hx.1 in
      record {
        same =
            record {
              book = f.same.book ∙ h.same.book;
              told = λ i. f.same.told i ∙ ap (λ (l : List Answer). cond (eqb x.line i) (without_flags (call b (call_of x)).answer ∷ l) l) (h.same.told i);
            };
        none = λ k. hx.0 k && h.none k;
      }

  -- without an allowance every block passes
  pub unset-passes : (xs : List Received) (b : List ℕ) → Sound n b → unset b ≡ true → NoneRefused b xs
  unset-passes [] b g u = refl
  unset-passes (x ∷ xs) b g u =
      let p : Passes b x.line x.block x.room = passes-by n b g x.line x.block x.room (λ c. unset-left b u x.line) in
      let w : unset (call b (call_of x)).bytes ≡ true = after-unset n b g x.line x.block x.room p ∙ u in
      let h : NoneRefused (call b (call_of x)).bytes xs = unset-passes xs (call b (call_of x)).bytes (after-sound n b g x.line x.block x.room) w in
      λ k. of-passes b x p k && h k

-- ---- on a book that is none: every block is refused with 1

module _ (b : List ℕ) (e : sound b ≡ false) where
  stays : (x : Received) → (call b (call_of x)).bytes ≡ b
  unfolding call
  stays x = rw (unsound b (call_of x) e refl)

  one : (x : Received) → (call b (call_of x)).answer ≡ bare 1
  unfolding call
  one x = rw e

  none-book : (xs : List Received) → bytes_after b (calls xs) ≡ b
  none-book [] = refl
  none-book (x ∷ xs) = ap (λ (c : List ℕ). bytes_after c (calls xs)) (stays x) ∙ none-book xs

  none_told : (i : ℕ) (xs : List Received) → told_to i b xs ≡ map (λ x. bare 1) (of_line i xs)
  none_told i [] = refl
  none_told i (x ∷ xs) =
      (λ k. cond (eqb x.line i) (without_flags (one x k) ∷ told_to i (stays x k) xs) (told_to i (stays x k) xs))
      ∙ ap (λ (l : List Answer). cond (eqb x.line i) (bare 1 ∷ l) l) (none_told i xs) ∙ go (eqb x.line i)
    where
      go : (t : Bool) → cond t (bare 1 ∷ map (λ x. bare 1) (of_line i xs)) (map (λ x. bare 1) (of_line i xs)) ≡ map (λ x. bare 1) (cond t (x ∷ of_line i xs) (of_line i xs))
      go true = refl
      go false = refl

  pub none-used : (xs : List Received) → NoneRefused b xs
  none-used [] = refl
  none-used (x ∷ xs) = (λ k. not (eqb (one x k).number 86) && none_used_up (answers (stays x k) (calls xs))) ∙ none-used xs

  pub none-mixings : (xs ys : List Received) → ((i : ℕ) → of_line i xs ≡ of_line i ys) → Moved b ys xs
  none-mixings xs ys m =
      record {
        same =
            record {
              book = none-book ys ∙ sym (none-book xs);
              told = λ i. none_told i ys ∙ ap (λ (l : List Received). map (λ x. bare 1) l) (sym (m i)) ∙ sym (none_told i xs);
            };
        none = none-used xs;
      }
