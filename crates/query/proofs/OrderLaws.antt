-- What trying an order answers, for each `return` of the code.
-- Assumes nothing.
use Prim.Native.Nat.{ℕ, ◌+◌, ◌-◌, ◌<◌, ◌≤◌}
use mathlib.Core.Path.{◌≡◌, refl, sym, ap, ◌∙◌}
use mathlib.Core.Bool.{Bool, true, false, ◌&&◌, cond}
use mathlib.Core.List.{List}
use native.Mathlib.Omega.{arith}
use lib.Dec.{leb, ltb, eqb}
use lib.ListN.{length, take, drop}
use borrow.Author.Tests.{le-leb, lt-leb, lt-ltb, le-ltb, ltb-false}
use Rattle.field.specs.Field.{be, splice}
use Rattle.lists.specs.Lists.{member}
use Rattle.std.specs.Prelude.{Ok, Err}
use Rattle.lists.proofs.Tests.{clash}
use Rattle.text.specs.Form.{symbol_good}
use Rattle.ranking.specs.declared.Side.TheVariants.{Bid, Offer}
use Rattle.page.specs.Layout.{page_length}
use Rattle.protection.specs.Protection.{page_trading}
use Rattle.sweep.specs.Sweep.{steps_length}
use Rattle.sweep.specs.declared.Swept.{Swept}
use Rattle.sweep.specs.code.Next.{SweptOut, swept_out}
use Rattle.opening.specs.Layout.{page_start}
use Rattle.opening.specs.Opening.{sound, page_at, page_place}
use Rattle.update.proofs.SearchLaws.{is_at}
use Rattle.line.proofs.GateLaws.{never-done}
use Rattle.numbers.specs.declared.Refusal.{Refusal}
use Rattle.numbers.specs.Numbers.{answered, number_of}
use Rattle.numbers.proofs.RefusalLaws.{never-zero}
use Rattle.calls.specs.Buffers.{OrderOut, order_out}
use Rattle.calls.specs.Call.{Answer, Outcome, try_order, side_marks, lots_good, asked_side, order_side, number_on}
use Rattle.calls.proofs.NumberLaws.{number-unsound}
use Rattle.calls.proofs.KnownLaws.{lent-page}
use Rattle.calls.proofs.OrderLaws.{order-number, order-refused, order-told}
use Rattle.query.specs.declared.Asked.{Asked}
use Rattle.query.specs.code.Asked.{asked_of, measured_of, against_of}
use Rattle.query.proofs.AskedLaws.{Passed, passed, asked-number}
use Rattle.query.proofs.ReadLaws.{splice-none}

-- ---- 82, 83

module _ (w room : ℕ) where
  pub lots-none : w ≡ 0 → 82 ≡ measured_of w room
  unfolding measured_of
  lots-none e = rw (lt-leb 1 w (omega arith))

  module _ (n : w ≡ 0 → ⊥) where
    low : leb 1 w ≡ true
    low = le-leb 1 w (omega (arith, n))

    pub lots-over : 1000000 < w → 82 ≡ measured_of w room
    unfolding measured_of
    lots-over h = rw (low, lt-leb w 1000000 h)

    module _ (u : w ≤ 1000000) where
      pub room-short : room < steps_length → 83 ≡ measured_of w room
      unfolding measured_of
      room-short h = rw (low, le-leb w 1000000 u, lt-ltb room steps_length h)

      pub room-enough : steps_length ≤ room → 0 ≡ measured_of w room
      unfolding measured_of
      room-enough h = rw (low, le-leb w 1000000 u, le-ltb room steps_length h)

  pub measured : 0 ≡ measured_of w room → (lots_good w ≡ true) × (ltb room steps_length ≡ false)
  unfolding measured_of
  measured e = go (lots_good w) (ltb room steps_length) e
    where
      go : (l t : Bool) → ◌≡◌ {A = ℕ} 0 (cond l (cond t 83 0) 82) → (l ≡ true) × (t ≡ false)
      go true true e = absurd (omega (arith, e))
      go true false e = (refl, refl)
      go false t e = absurd (omega (arith, e))

  pub order-room : 0 ≡ measured_of w room → steps_length ≤ room
  order-room e = ltb-false room steps_length (measured e).1

-- ---- the side

-- B buys at the offers, S sells at the bids
sides : (m : ℕ) → against_of (asked_side m) ≡ order_side m
sides m = go (eqb m 66)
  where
    go : (t : Bool) → against_of (cond t Bid Offer) ≡ cond t Offer Bid
    go true = refl
    go false = refl

-- ---- the number

module _ (b x : List ℕ) (m w room : ℕ) where
  pub refused-asked : (r : Refusal) → Err r ≡ asked_of b x m → number_of r ≡ number_on b (try_order x m w room)
  unfolding measured_of
  refused-asked r e =
      pick (sound b) (symbol_good x && is_at (page_place b (be x))) (member side_marks m) (never-zero r) (ap answered e ∙ asked-number b x m)
      ∙ number (sound b) refl
    where
      y : ℕ
      y = measured_of w room

      pick : {n : ℕ} (s k t : Bool) → eqb n 0 ≡ false → n ≡ cond s (cond k (cond t 0 74) 10) 1 → n ≡ cond s (cond k (cond t y 74) 10) 1
      pick {n} true true true z e = let q : n ≡ 0 = e in clash (sym (ap (λ (j : ℕ). eqb j 0) q) ∙ z)
      pick true true false z e = e
      pick true false t z e = e
      pick false k t z e = e

      number : (s : Bool) → sound b ≡ s → cond s (cond (symbol_good x && is_at (page_place b (be x))) (cond (member side_marks m) y 74) 10) 1 ≡ number_on b (try_order x m w room)
      number true es = sym (order-number b x m w room es)
      number false es = number-unsound b (try_order x m w room) refl es

  pub refused-order : (a : Asked) (r : Refusal) → Ok a ≡ asked_of b x m → number_of r ≡ measured_of w room → number_of r ≡ number_on b (try_order x m w room)
  unfolding measured_of
  refused-order a r e q =
      let z : Passed b x m a = passed b x m a e in
      q ∙ sym (order-number b x m w room z.placed.good ∙ rw (z.placed.symbol, z.placed.place, z.mark))

-- ---- the call

-- what is told and the output after it
told-out : List ℕ → Answer → OrderOut
told-out out a = record { number = a.number; found = a.found; amount = a.amount; steps = splice out 0 a.output }

module _ (b x : List ℕ) (m w : ℕ) (out : List ℕ) where
  -- a refused order fills no byte
  pub try-refused : (r : Refusal) → number_of r ≡ number_on b (try_order x m w (length out)) → record { number = number_of r; found = 0; amount = 0; steps = out } ≡ order_out b x m w out
  unfolding order_out told-out
  try-refused r n =
      (λ i. record { number = number_of r; found = 0; amount = 0; steps = sym (splice-none out) i })
      ∙ ap (λ (o : Outcome). told-out out o.answer) (order-refused b x m w (length out) (number_of r) n (never-done r))

  pub try-done : (a : Asked) (t : Swept) (out' : List ℕ) → Ok a ≡ asked_of b x m → 0 ≡ measured_of w (length out)
      → record { steps = t.steps; unfilled = t.unfilled; out = out' }
      ≡ swept_out (against_of a.side) w (page_trading (take (page_start a.page + page_length - page_start a.page) (drop (page_start a.page) b)) (against_of a.side)) out
      → record { number = 0; found = t.steps; amount = t.unfilled; steps = out' } ≡ order_out b x m w out
  unfolding order_out told-out swept_out
  try-done a t out' e n et =
      let z : Passed b x m a = passed b x m a e in
      let l = measured w (length out) n in
      let es : against_of a.side ≡ order_side m = ap against_of z.side ∙ sides m in
      let g : swept_out (against_of a.side) w (page_trading (take (page_start a.page + page_length - page_start a.page) (drop (page_start a.page) b)) (against_of a.side)) out
      ≡ swept_out (order_side m) w (page_trading (page_at b a.page) (order_side m)) out = rw (es, lent-page b a.page) in
      ap (λ (o : SweptOut). record { number = 0; found = o.steps; amount = o.unfilled; steps = o.out }) (et ∙ g)
      ∙ ap (λ (o : Outcome). told-out out o.answer) (order-told b x m w (length out) a.page z.placed.good z.placed.symbol z.placed.place z.mark l.0 l.1)
