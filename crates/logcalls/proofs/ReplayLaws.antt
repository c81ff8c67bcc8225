-- A log replayed, call by call: what remains gives what the whole gives.
-- Assumes nothing.
use Prim.Native.Nat.{ℕ, zero, suc, ◌+◌, ◌-◌, ◌≤◌, ◌<◌}
use mathlib.Core.Path.{◌≡◌, refl, ap, sym, ◌∙◌}
use mathlib.Core.Bool.{Bool, true, false, cond}
use mathlib.Core.List.{List, [], ◌∷◌, ◌++◌}
use Rattle.std.specs.Prelude.{Option, None, Some}
use native.Mathlib.Omega.{arith}
use lib.Dec.{ltb}
use lib.ListN.{length, length-append}
use borrow.Author.Tests.{lt-ltb, le-ltb, ltb-true, ltb-false}
use Rattle.field.specs.Field.{splice}
use Rattle.field.proofs.Laws.{splice-join}
use Rattle.field.proofs.ZeroLaws.{splice-nothing}
use Rattle.logform.specs.Log.{check_length, entry_at, arguments_of}
use Rattle.logform.specs.declared.Place.{Place}
use Rattle.logform.specs.declared.Entry.{Entry}
use Rattle.logform.specs.declared.Entry.TheVariants.{End, Cut, Damaged, Record}
use Rattle.logform.proofs.LogLaws.{Whole, whole, entry-end}
use Rattle.calls.specs.Call.{Call, call, answers, bytes_after}
use Rattle.logcalls.specs.Kinds.{call_of}
use Rattle.logcalls.specs.Answers.{answer_bytes, answers_bytes, answer_most}
use Rattle.logcalls.specs.Replayed.{Next, stops, calls, next_by, next_in, next_at, calls_by, calls_from, calls_in, place_by, place_after, number_by, fitting, Replayed, replayed_by, replayed}

module _ (log : List ℕ) where
  -- ---- a record moves on

  tagged : Next → ℕ
  tagged (stops n) = 0
  tagged (calls c n) = 1

  next_of : Next → ℕ
  next_of (stops n) = 0
  next_of (calls c n) = n

  clash : {A : Type 0} → ◌≡◌ {A = ℕ} 0 1 → A
  clash e = absurd (omega arith)

  pub next-inside : (at : ℕ) (c : Call) (next : ℕ) → next_at log at ≡ calls c next → (at < next) × (next ≤ length log)
  unfolding next_at tagged next_of
  next-inside at c next e = entry (entry_at log at) refl e
    where
      known : (p : Place) → Whole log at p → (o : Option Call) → next_by (p.stop + check_length) o ≡ calls c next → (at < next) × (next ≤ length log)
      known p w None k = clash (ap tagged k)
      known p w (Some d) k = let n : p.stop + check_length ≡ next = ap next_of k in (omega (arith, w.first, w.order, n), omega (arith, w.inside, n))

      entry : (x : Entry) → entry_at log at ≡ x → next_in log x ≡ calls c next → (at < next) × (next ≤ length log)
      entry End q k = clash (ap tagged k)
      entry Cut q k = clash (ap tagged k)
      entry Damaged q k = clash (ap tagged k)
      entry (Record p) q k = known p (whole log at p q) (call_of p.kind (arguments_of log p)) k

  pub past_end : (at : ℕ) → length log ≤ at → next_at log at ≡ stops 0
  unfolding next_at
  past_end at h = ap (next_in log) (sym (entry-end log at h))

  none-past : (k at : ℕ) → length log ≤ at → calls_from k log at ≡ []
  unfolding calls_from
  none-past zero at h = refl
  none-past (suc k) at h = rw (past_end at h)

  -- how many are asked for does not matter, if it is enough
  enough : (k j at : ℕ) → length log ≤ at + k → length log ≤ at + j → calls_from k log at ≡ calls_from j log at
  unfolding calls_from
  enough zero j at h g = sym (none-past j at (omega arith))
  enough (suc k) zero at h g = none-past (suc k) at (omega arith)
  enough (suc k) (suc j) at h g = go (next_at log at) refl (λ (next : ℕ) (a : length log ≤ next + k) (b : length log ≤ next + j). enough k j next a b)
    where
      go : (x : Next) → next_at log at ≡ x → ((next : ℕ) → length log ≤ next + k → length log ≤ next + j → calls_from k log next ≡ calls_from j log next)
          → calls_by (calls_from k log) x ≡ calls_by (calls_from j log) x
      go (stops n) e ih = refl
      go (calls c next) e ih = let m = next-inside at c next e in ap (λ (cs : List Call). c ∷ cs) (ih next (omega (arith, m.0)) (omega (arith, m.0)))

  -- the calls from a place on
  abbrev left : ℕ → List Call
  left at = calls_from (length log - at) log at

  left-stops : (at n : ℕ) → next_at log at ≡ stops n → left at ≡ []
  left-stops at n e = go (length log - at)
    where
      go : (k : ℕ) → calls_from k log at ≡ []
      go zero = unfold calls_from in refl
      go (suc k) = unfold calls_from in rw e

  left-calls : (at : ℕ) (c : Call) (next : ℕ) → next_at log at ≡ calls c next → left at ≡ c ∷ left next
  unfolding calls_from
  left-calls at c next e =
      let m = next-inside at c next e in
      let s : length log - at ≡ suc (length log - (at + 1)) = omega (arith, m.0, m.1) in
      ap (λ (k : ℕ). calls_from k log at) s ∙ ap (calls_by (calls_from (length log - (at + 1)) log)) e ∙ ap (λ (cs : List Call). c ∷ cs) (enough (length log - (at + 1)) (length log - next) next (omega (arith, m.0, m.1)) (omega (arith, m.1)))

  pub left-all : (at : ℕ) → calls_in log at ≡ left at
  left-all at = enough (length log) (length log - at) at (omega arith) (omega arith)

  -- ---- what remains of a replay

  -- n: the output's length
  abbrev pub remaining : ℕ → List ℕ → ℕ → List ℕ → ℕ → Replayed
  remaining n b at out w = replayed_by b log at out w (fitting n w b (calls_from (length log - at) log at))

  module _ (n : ℕ) (b : List ℕ) (at : ℕ) (out : List ℕ) (w : ℕ) where
    none-run : (k : ℕ) → number_by (next_at log at) ≡ k → record { number = k; place = at; written = w; bytes = b; output = out } ≡ replayed_by b log at out w []
    unfolding place_after answers_bytes
    none-run k e = let z : w ≡ w + 0 = omega arith in λ j. record { number = sym e j; place = at; written = z j; bytes = b; output = sym (splice-nothing out w) j }

    pub remaining-stops : (k : ℕ) → next_at log at ≡ stops k → record { number = k; place = at; written = w; bytes = b; output = out } ≡ remaining n b at out w
    unfolding fitting
    remaining-stops k e = none-run k (ap number_by e) ∙ ap (λ (cs : List Call). replayed_by b log at out w (fitting n w b cs)) (sym (left-stops at k e))

    module _ (c : Call) (next : ℕ) (e : next_at log at ≡ calls c next) where
      pub remaining-full : n - w < answer_most → record { number = 93; place = at; written = w; bytes = b; output = out } ≡ remaining n b at out w
      unfolding fitting
      remaining-full h =
          none-run 93 (ap number_by e)
          ∙ ap (replayed_by b log at out w) (sym (ap (λ (t : Bool). cond t [] (c ∷ fitting n (w + length (answer_bytes (call b c).answer)) (call b c).bytes (left next))) (lt-ltb (n - w) answer_most h)))
          ∙ ap (λ (cs : List Call). replayed_by b log at out w (fitting n w b cs)) (sym (left-calls at c next e))

      step-by : (cs : List Call) → replayed_by (call b c).bytes log next (splice out w (answer_bytes (call b c).answer)) (w + length (answer_bytes (call b c).answer)) cs ≡ replayed_by b log at out w (c ∷ cs)
      unfolding place_after answers_bytes
      step-by cs =
          let x : List ℕ = answer_bytes (call b c).answer in
          let y : List ℕ = answers_bytes (answers (call b c).bytes cs) in
          let p : place_after (length cs) log next ≡ place_by (place_after (length cs) log) at (next_at log at) = ap (place_by (place_after (length cs) log) at) (sym e) in
          let l : w + length x + length y ≡ w + length (x ++ y) = omega (arith, length-append x y) in
          λ j. record { number = number_by (next_at log (p j)); place = p j; written = l j; bytes = bytes_after (call b c).bytes cs; output = splice-join out w (length x) x y refl j }

      pub remaining-goes : answer_most ≤ n - w
          → remaining n (call b c).bytes next (splice out w (answer_bytes (call b c).answer)) (w + length (answer_bytes (call b c).answer)) ≡ remaining n b at out w
      unfolding fitting
      remaining-goes h =
          step-by (fitting n (w + length (answer_bytes (call b c).answer)) (call b c).bytes (left next))
          ∙ ap (replayed_by b log at out w) (sym (ap (λ (t : Bool). cond t [] (c ∷ fitting n (w + length (answer_bytes (call b c).answer)) (call b c).bytes (left next))) (le-ltb (n - w) answer_most h)))
          ∙ ap (λ (cs : List Call). replayed_by b log at out w (fitting n w b cs)) (sym (left-calls at c next e))
