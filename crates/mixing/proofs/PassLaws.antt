-- Blocks that are not refused with 86: two of different lines pass in either order if they pass in one.
-- Assumes nothing.
use Prim.Native.Nat.{ℕ, ◌<◌}
use mathlib.Core.Path.{◌≡◌, refl, sym, ap, ◌∙◌}
use mathlib.Core.Bool.{Bool, true, false, not, ◌&&◌, cond}
use mathlib.Core.List.{List}
use Rattle.std.specs.Prelude.{Option, None, Some}
use native.Mathlib.Omega.{arith}
use lib.Dec.{eqb, ltb}
use lib.ListN.{length}
use borrow.Author.Tests.{eqb-true, eq-eqb}
use Rattle.field.specs.Field.{Bytes, part, splice}
use Rattle.field.proofs.Laws.{bytes-part, field-part-0, length_part, part-behind, part-put}
use Rattle.lists.proofs.Tests.{clash, and-true}
use Rattle.allowance.specs.Allowance.{Allowance, share_count, shares_from, charges_from, allowance_length, is_used_up, allowance_in, charged, charged_bytes}
use Rattle.allowance.proofs.ByteLaws.{length-charged}
use Rattle.allowance.proofs.ViewLaws.{charged-allowance}
use Rattle.block.specs.Block.{idle_block, messages_of, answer_length}
use Rattle.opening.specs.declared.Line.{Line}
use Rattle.opening.specs.Layout.{line_at, line_count, allowance_at}
use Rattle.opening.specs.Opening.{line_bytes, lines_in, rest_in, allowance_on, on_allowance}
use Rattle.opening.proofs.OpeningLaws.{Sound, allowance-by}
use Rattle.opening.proofs.AllowanceLaws.{length-allowance}
use Rattle.opening.proofs.LineLaws.{length-line, line-open, lined-sound, lined-bytes}
use Rattle.line.specs.Line.{on_line, done, advanced, settled}
use Rattle.line.proofs.GateLaws.{left-number, used-number}
use Rattle.work.specs.Work.{messages_on}
use Rattle.calls.specs.Call.{take, letter_of, number_of, advance_on, after_call, number_on, call}
use Rattle.calls.proofs.NumberLaws.{number_same}
use Rattle.mixing.proofs.AllowanceSwaps.{used-before, used-swap}
use Rattle.mixing.proofs.LineSwaps.{unset}
use Rattle.mixing.proofs.StepLaws.{Passes, number_for, number_is, step_is, none_done, low, mid-kept, mid-sound, unset-stays}
use Rattle.mixing.proofs.BlockSwaps.{after, after-sound, second}

-- 86 by whether share and spare are used, and whether the block comes to that check: it is not free, and is taken if share or spare is left
number-used : (t day used : Bool) (k : List ℕ) (o : Option Line) → eqb (cond t 9 (on_line day used k o)) 86 ≡ used && (done (cond t 9 (on_line day false k o)) && not (idle_block k))
unfolding done
number-used true day true k o = refl
number-used true day false k o = refl
number-used false day true k None = refl
number-used false day false k None = refl
number-used false day true k (Some r) = used-number r day k
number-used false day false k (Some r) = left-number r day k

abbrev pub comes_on : List ℕ → ℕ → List ℕ → ℕ → Bool
comes_on b i k room = done (number_for (rest_in b).day (lines_in b i) k room) && not (idle_block k)

module _ (n : ℕ) (b : List ℕ) (sd : Sound n b) (i : ℕ) (k : List ℕ) (room : ℕ) where
  told-used : eqb (number_on b (take i k room)) 86 ≡ is_used_up (allowance_on b) i && comes_on b i k room
  unfolding number_of rest_in
  told-used = ap (λ (z : ℕ). eqb z 86) (number_same n b sd (take i k room)) ∙ number-used (ltb room answer_length) (rest_in b).day (is_used_up (allowance_on b) i) k (lines_in b i)

  left_here : Passes b i k room → comes_on b i k room ≡ true → is_used_up (allowance_on b) i ≡ false
  left_here p c = go (is_used_up (allowance_on b) i) refl
    where
      go : (u : Bool) → is_used_up (allowance_on b) i ≡ u → u ≡ false
      go false e = refl
      go true e = absurd (p (eqb-true (number_on b (take i k room)) 86 (told-used ∙ (λ j. e j && c j))))

  pub passes-by : (comes_on b i k room ≡ true → is_used_up (allowance_on b) i ≡ false) → Passes b i k room
  passes-by f e =
      let t = and-true (is_used_up (allowance_on b) i) (comes_on b i k room) (sym told-used ∙ eq-eqb (number_on b (take i k room)) 86 e) in
      clash (sym t.0 ∙ f t.1)

  comes-low : comes_on b i k room ≡ true → i < line_count
  comes-low c = go (lines_in b i) refl (and-true (done (number_for (rest_in b).day (lines_in b i) k room)) (not (idle_block k)) c).0
    where
      go : (o : Option Line) → lines_in b i ≡ o → done (number_for (rest_in b).day o k room) ≡ true → i < line_count
      go None e d = absurd (none_done (rest_in b).day k room d)
      go (Some r) e d = (line-open b i r e).0

-- ---- the allowance after a block

lined-allowance : (b : List ℕ) (i : ℕ) → i < line_count → (x : Line) → allowance_on (splice b (line_at i) (line_bytes x)) ≡ allowance_on b
lined-allowance b i h x =
    allowance-by b (splice b (line_at i) (line_bytes x)) (part-behind b (line_at i) (line_bytes x) allowance_at allowance_length (omega (arith, length-line x)))

charged-on : (n : ℕ) (b : List ℕ) → Sound n b → Bytes b → (i : ℕ) → i < line_count → is_used_up (allowance_on b) i ≡ false
    → allowance_on (splice b allowance_at (charged_bytes (part b allowance_at allowance_length) i)) ≡ charged (allowance_on b) i
unfolding allowance_on
charged-on n b sd y i h u =
    let a : List ℕ = part b allowance_at allowance_length in
    let l : length (part b allowance_at allowance_length) ≡ allowance_length = length-allowance b (omega (arith, sd.size)) in
    ap allowance_in (part-put b allowance_at (charged_bytes a i) allowance_length (length-charged a l i h) (omega (arith, sd.size)))
    ∙ charged-allowance a i l (bytes-part b allowance_at allowance_length y) h u

settled-allowance : (n : ℕ) (b : List ℕ) → Sound n b → Bytes b → (i : ℕ) → i < line_count → (x : Line) (free : Bool) → (free ≡ false → is_used_up (allowance_on b) i ≡ false)
    → allowance_on (settled i x free b) ≡ cond (not free) (charged (allowance_on b) i) (allowance_on b)
unfolding settled on_allowance
settled-allowance n b sd y i h x true u = lined-allowance b i h x
settled-allowance n b sd y i h x false u =
    charged-on n (splice b (line_at i) (line_bytes x)) (lined-sound n b sd i h x) (lined-bytes n b sd i h x y) i h (ap (λ (z : Allowance). is_used_up z i) (lined-allowance b i h x) ∙ u refl)
    ∙ ap (λ (z : Allowance). charged z i) (lined-allowance b i h x)

module _ (n : ℕ) (b : List ℕ) (sd : Sound n b) (y : Bytes b) (i : ℕ) (k : List ℕ) (room : ℕ) (p : Passes b i k room) where
  mid-allowance : (r : Line) (e : lines_in b i ≡ Some r) → allowance_on (messages_on r.letter (messages_of k) b) ≡ allowance_on b
  mid-allowance r e = allowance-by b (messages_on r.letter (messages_of k) b) ((mid-kept n b sd i k r e).front allowance_at allowance_length (omega arith))

  left-on : (o : Option Line) → lines_in b i ≡ o → done (number_for (rest_in b).day o k room) ≡ true → idle_block k ≡ false → is_used_up (allowance_on b) i ≡ false
  left-on o e f g =
      let c : comes_on b i k room ≡ done (number_for (rest_in b).day o k room) && true = λ j. done (number_for (rest_in b).day (e j) k room) && not (g j) in
      left_here n b sd i k room p (c ∙ ap (λ (t : Bool). t && true) f)

  step-allowance : (o : Option Line) → lines_in b i ≡ o → (t : Bool) → done (number_for (rest_in b).day o k room) ≡ t
      → allowance_on (cond t (advance_on i k o (messages_on (letter_of o) (messages_of k) b)) b) ≡ cond (t && not (idle_block k)) (charged (allowance_on b) i) (allowance_on b)
  step-allowance o e false f = refl
  step-allowance None e true f = absurd (none_done (rest_in b).day k room f)
  step-allowance (Some r) e true f =
      settled-allowance n (messages_on r.letter (messages_of k) b) (mid-sound n b sd i k r e) ((mid-kept n b sd i k r e).bytes y) i (low n b sd i k r e) (advanced r k) (idle_block k)
      (λ g. ap (λ (z : Allowance). is_used_up z i) (mid-allowance r e) ∙ left-on (Some r) e f g)
      ∙ ap (λ (z : Allowance). cond (not (idle_block k)) (charged z i) z) (mid-allowance r e)

  allowance-after : allowance_on (after b i k room) ≡ cond (comes_on b i k room) (charged (allowance_on b) i) (allowance_on b)
  unfolding call after_call
  allowance-after =
      ap (λ (z : ℕ). allowance_on (cond (done z) (advance_on i k (lines_in b i) (messages_on (letter_of (lines_in b i)) (messages_of k) b)) b)) (number_is n b sd i k room p)
      ∙ step-allowance (lines_in b i) refl (done (number_for (rest_in b).day (lines_in b i) k room)) refl

-- without an allowance nothing is used up, and none comes to be set
pub unset-left : (b : List ℕ) → unset b ≡ true → (i : ℕ) → is_used_up (allowance_on b) i ≡ false
unfolding is_used_up allowance_on allowance_in
unset-left b u i = rw (field-part-0 b allowance_at allowance_length 1 (omega arith), u)

pub after-unset : (n : ℕ) (b : List ℕ) → Sound n b → (i : ℕ) (k : List ℕ) (room : ℕ) → Passes b i k room → unset (after b i k room) ≡ unset b
after-unset n b sd i k room p = ap unset (step_is n b sd i k room p) ∙ unset-stays n b sd i k (rest_in b).day (unset b) room (lines_in b i) refl

-- ---- two blocks of different lines

module _ (n : ℕ) (b : List ℕ) (sd : Sound n b) where
  shares-long : length (allowance_on b).shares ≡ share_count
  unfolding allowance_on allowance_in
  shares-long = length_part (part b allowance_at allowance_length) shares_from share_count (omega (arith, length-allowance b (omega (arith, sd.size))))

  charges-long : length (allowance_on b).charges ≡ share_count
  unfolding allowance_on allowance_in
  charges-long = length_part (part b allowance_at allowance_length) charges_from share_count (omega (arith, length-allowance b (omega (arith, sd.size))))

module _ (n : ℕ) (b : List ℕ) (sd : Sound n b) (y : Bytes b) (i j : ℕ) (d : i ≡ j → ⊥) (kx ky : List ℕ) (rx ry : ℕ) (p : Passes b i kx rx) (q : Passes (after b i kx rx) j ky ry) where
  -- the second comes to the check behind the first as it does before it
  comes-behind : comes_on (after b i kx rx) j ky ry ≡ comes_on b j ky ry
  comes-behind = second n b sd i j d kx rx p (λ w v o z. done (number_for w o ky ry) && not (idle_block ky))

  -- what is left for the second behind the first
  left_behind : comes_on b j ky ry ≡ true → is_used_up (cond (comes_on b i kx rx) (charged (allowance_on b) i) (allowance_on b)) j ≡ false
  left_behind c =
      sym (ap (λ (z : Allowance). is_used_up z j) (allowance-after n b sd y i kx rx p))
      ∙ left_here n (after b i kx rx) (after-sound n b sd i kx rx) j ky ry q (comes-behind ∙ c)

  -- the second passes before the first
  pub pass-first : Passes b j ky ry
  pass-first = passes-by n b sd j ky ry (λ c. go (comes_on b i kx rx) refl c (left_behind c))
    where
      go : (t : Bool) → comes_on b i kx rx ≡ t → comes_on b j ky ry ≡ true → is_used_up (cond t (charged (allowance_on b) i) (allowance_on b)) j ≡ false → is_used_up (allowance_on b) j ≡ false
      go true e c u =
          used-before (allowance_on b) (shares-long n b sd) (charges-long n b sd) i j (comes-low n b sd i kx rx e) (comes-low n b sd j ky ry c) d u
      go false e c u = u

  -- and the first passes behind the second
  pub pass-second : Passes (after b j ky ry) i kx rx
  pass-second =
      passes-by n (after b j ky ry) (after-sound n b sd j ky ry) i kx rx
      (λ c. ap (λ (z : Allowance). is_used_up z i) (allowance-after n b sd y j ky ry pass-first) ∙ go (comes_on b j ky ry) refl (sym back ∙ c))
    where
      back : comes_on (after b j ky ry) i kx rx ≡ comes_on b i kx rx
      back = second n b sd j i (λ e. d (sym e)) ky ry pass-first (λ w v o z. done (number_for w o kx rx) && not (idle_block kx))

      go : (t : Bool) → comes_on b j ky ry ≡ t → comes_on b i kx rx ≡ true → is_used_up (cond t (charged (allowance_on b) j) (allowance_on b)) i ≡ false
      go true e c =
          used-swap (allowance_on b) (shares-long n b sd) (charges-long n b sd) i j (comes-low n b sd i kx rx c) (comes-low n b sd j ky ry e) d (left_here n b sd i kx rx p c)
          (sym (ap (λ (t : Bool). is_used_up (cond t (charged (allowance_on b) i) (allowance_on b)) j) c) ∙ left_behind e)
      go false e c = left_here n b sd i kx rx p c
