-- The setting and the tick: what each `return` owes, over plain values.
-- Assumes nothing.
use Prim.Native.Nat.{ℕ, ◌+◌, ◌≤◌}
use mathlib.Core.Path.{◌≡◌, refl, sym, ap, ◌∙◌}
use mathlib.Core.Bool.{Bool, true, false, cond}
use mathlib.Core.List.{List, ◌++◌}
use native.Mathlib.Omega.{arith}
use lib.ListN.{length, length-append}
use borrow.Author.Tests.{eq-eqb, ne_eqb}
use Rattle.field.specs.Field.{part, field, splice, be_bytes}
use Rattle.field.proofs.Laws.{field-part-0, length-be_bytes, splice-inside, splice-join, splice-part}
use Rattle.field.proofs.ZeroLaws.{length-zeros}
use Rattle.numbers.specs.declared.Refusal.{Refusal}
use Rattle.numbers.specs.Numbers.{number_of as refusal_number}
use Rattle.line.proofs.GateLaws.{never-done}
use Rattle.allowance.specs.Allowance.{allowance_length, blocks_most, charges_from, no_charges, setting_bytes, setting_number, share_count, shares_from, ticked_bytes}
use Rattle.allowance.proofs.ClaimLaws.{Settable, settable}
use Rattle.opening.specs.Opening.{sound, on_allowance, rest_in, pages_in}
use Rattle.opening.specs.Layout.{allowance_at, opening_length}
use Rattle.opening.proofs.ReadLaws.{opening-room}
use Rattle.line.specs.Line.{done}
use Rattle.calls.specs.Call.{bare, set_allowance, tick, number_of, answer_of, answer_on, after_call, number_on, call}
use Rattle.work.specs.Work.{listed_of}

module _ (b : List ℕ) where
  -- ---- the setting

  module _ (n : ℕ) (ss : List ℕ) where
    pub setting-unsound : sound b ≡ false → 1 ≡ number_on b (set_allowance n ss)
    unfolding number_on
    setting-unsound e = rw e

    pub setting-judged : (k : ℕ) → sound b ≡ true → k ≡ setting_number n ss → k ≡ number_on b (set_allowance n ss)
    unfolding number_on number_of
    setting-judged k e f = rw e f

    -- a setting carries its number alone
    setting-answer : answer_on b (set_allowance n ss) ≡ bare (number_on b (set_allowance n ss))
    unfolding number_on answer_of
    setting-answer = go (sound b)
      where
        go : (t : Bool) → cond t (bare (cond t (number_of (rest_in b) (listed_of (pages_in b)) (set_allowance n ss)) 1)) (bare 1) ≡ bare (cond t (number_of (rest_in b) (listed_of (pages_in b)) (set_allowance n ss)) 1)
        go true = refl
        go false = refl

    pub setting-refused : (r : Refusal) → refusal_number r ≡ number_on b (set_allowance n ss) → record { bytes = b; answer = bare (refusal_number r) } ≡ call b (set_allowance n ss)
    unfolding call
    setting-refused r e = rw (setting-answer, ← e, never-done r)

    setting-sound : 0 ≡ number_on b (set_allowance n ss) → sound b ≡ true
    unfolding number_on
    setting-sound e = go (sound b) refl
      where
        go : (t : Bool) → sound b ≡ t → t ≡ true
        go true s = refl
        go false s = let q : ◌≡◌ {A = ℕ} 0 1 = e ∙ rw s in absurd (omega arith)

    -- what a setting that is not refused has
    pub record Ready : Type 0 where
      pub good : sound b ≡ true
      pub room : opening_length ≤ length b
      pub most : n ≤ blocks_most
      pub whole : length ss ≡ share_count

    pub ready : 0 ≡ number_on b (set_allowance n ss) → Ready
    unfolding number_on number_of
    ready e =
        let s : sound b ≡ true = setting-sound e in
        let q : 0 ≡ setting_number n ss = e ∙ ap (λ (t : Bool). cond t (setting_number n ss) 1) s in
        let t : Settable n ss = settable n ss (sym q) in
        record { good = s; room = opening-room b s; most = t.most; whole = t.whole }

    -- B, the shares and the charges written one behind the other
    pub setting-done : (m : ℕ) (b₁ b₂ b₃ : List ℕ) → 0 ≡ number_on b (set_allowance n ss) → length ss ≡ share_count → m ≡ n → b₁ ≡ splice b allowance_at (be_bytes 1 m)
        → b₂ ≡ splice b₁ (allowance_at + shares_from) ss → b₃ ≡ splice b₂ (allowance_at + charges_from) no_charges → record { bytes = b₃; answer = bare 0 } ≡ call b (set_allowance n ss)
    unfolding call done after_call
    setting-done m b₁ b₂ b₃ e l f p q r =
        let x : b₂ ≡ splice b allowance_at (be_bytes 1 n ++ ss) =
        q ∙ ap (λ (w : List ℕ). splice w (allowance_at + shares_from) ss) (p ∙ ap (λ (v : ℕ). splice b allowance_at (be_bytes 1 v)) f)
        ∙ splice-join b allowance_at shares_from (be_bytes 1 n) ss (length-be_bytes 1 n) in
        let y : b₃ ≡ splice b allowance_at (setting_bytes n ss) =
        r ∙ ap (λ (w : List ℕ). splice w (allowance_at + charges_from) no_charges) x
        ∙ splice-join b allowance_at charges_from (be_bytes 1 n ++ ss) no_charges (simp length-append (omega (arith, l, length-be_bytes 1 n))) in
        rw (setting-answer, ← e, y)

  -- ---- the tick

  tick-answer : answer_on b tick ≡ bare (number_on b tick)
  unfolding number_on answer_of
  tick-answer = go (sound b)
    where
      go : (t : Bool) → cond t (bare (cond t (number_of (rest_in b) (listed_of (pages_in b)) tick) 1)) (bare 1) ≡ bare (cond t (number_of (rest_in b) (listed_of (pages_in b)) tick) 1)
      go true = refl
      go false = refl

  pub tick-unsound : sound b ≡ false → record { bytes = b; answer = bare 1 } ≡ call b tick
  unfolding call number_on done
  tick-unsound e = rw (tick-answer, e)

  module _ (s : sound b ≡ true) where
    tick-number : number_on b tick ≡ 0
    unfolding number_on number_of
    tick-number = rw s

    first : field (part b allowance_at allowance_length) 0 1 ≡ field b allowance_at 1
    first = field-part-0 b allowance_at allowance_length 1 (omega arith)

    pub tick-unset : (k : ℕ) → k ≡ field b allowance_at 1 → k ≡ 0 → record { bytes = b; answer = bare 0 } ≡ call b tick
    unfolding call done after_call on_allowance ticked_bytes
    tick-unset k e z = rw (tick-answer, tick-number, first, ← e, eq-eqb k 0 z, splice-part b allowance_at allowance_length (omega (arith, opening-room b s)))

    pub tick-done : (k : ℕ) (b₁ : List ℕ) → k ≡ field b allowance_at 1 → (k ≡ 0 → ⊥) → b₁ ≡ splice b (allowance_at + charges_from) no_charges → record { bytes = b₁; answer = bare 0 } ≡ call b tick
    unfolding call done after_call on_allowance ticked_bytes
    tick-done k b₁ e z p =
        rw (tick-answer, tick-number, first, ← e, ne_eqb k 0 z, splice-inside b allowance_at allowance_length charges_from no_charges (omega (arith, opening-room b s)) (omega (arith, length-zeros share_count)), p)
