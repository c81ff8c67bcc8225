-- A step and the loop of a replay, return by return.
-- Assumes nothing.
use Prim.Native.Nat.{ℕ, ◌+◌, ◌-◌, ◌≤◌, ◌<◌}
use mathlib.Core.Path.{◌≡◌, refl, ap, sym, ◌∙◌}
use mathlib.Core.Bool.{Bool, true, false, cond}
use mathlib.Core.List.{List}
use Rattle.std.specs.Prelude.{Option, None, Some}
use native.Mathlib.Omega.{arith}
use lib.Dec.{ltb}
use lib.ListN.{length, take, drop, length-drop}
use lib.Seq.{length-take-le}
use borrow.Author.Tests.{lt-ltb, le-ltb, ltb-true, ltb-false}
use borrow.Rule.Slice.PartMut.{put_mid}
use Rattle.field.specs.Field.{part, splice}
use Rattle.field.proofs.Laws.{lent_back, splice-inside, splice-part, length-splice}
use Rattle.lists.specs.Lists.{is_some}
use Rattle.lists.proofs.Tests.{clash}
use Rattle.logform.specs.Log.{check_length, entry_at}
use Rattle.logform.specs.declared.Place.{Place}
use Rattle.logform.specs.declared.Entry.{Entry}
use Rattle.logform.specs.declared.Entry.TheVariants.{End, Cut, Damaged, Record}
use Rattle.calls.specs.Call.{Call, call}
use Rattle.logcalls.specs.Answers.{answer_bytes, answer_most}
use Rattle.logcalls.specs.Kinds.{call_of}
use Rattle.logcalls.specs.Replayed.{Ran, ran_call, Next, stops, calls, next_by, next_in, next_at, Stepped, stopped, went, stepped_by, stepped, fitting, replayed_by, replayed}
use Rattle.logcalls.proofs.ReplayLaws.{next-inside, left-all, remaining, remaining-stops, remaining-full, remaining-goes}
use Rattle.logcalls.proofs.RanLaws.{filled-inside}

-- ---- a step

module _ (b log : List ℕ) (at : ℕ) (out : List ℕ) where
  module _ (x : Entry) (e : x ≡ entry_at log at) where
    entry-steps : (y : Entry) → x ≡ y → stepped_by b at out (next_in log y) ≡ stepped b log at out
    unfolding stepped next_at
    entry-steps y h = ap (λ (z : Entry). stepped_by b at out (next_in log z)) (sym h ∙ e)

    pub step_end : x ≡ End → stopped 0 at b out ≡ stepped b log at out
    step_end h = entry-steps End h

    pub step_cut : x ≡ Cut → stopped 91 at b out ≡ stepped b log at out
    step_cut h = entry-steps Cut h

    pub step-damaged : x ≡ Damaged → stopped 92 at b out ≡ stepped b log at out
    step-damaged h = entry-steps Damaged h

    module _ (p : Place) (h : x ≡ Record p) where
      called : (o : Option Call) → call_of p.kind (take (p.stop - p.start) (drop p.start log)) ≡ o → stepped_by b at out (next_by (p.stop + check_length) o) ≡ stepped b log at out
      unfolding part
      called o k = ap (λ (z : Option Call). stepped_by b at out (next_by (p.stop + check_length) z)) (sym k) ∙ entry-steps (Record p) h

      pub step-no-call : is_some (call_of p.kind (take (p.stop - p.start) (drop p.start log))) ≡ false → stopped 92 at b out ≡ stepped b log at out
      step-no-call f = go (call_of p.kind (take (p.stop - p.start) (drop p.start log))) refl f
        where
          go : (o : Option Call) → call_of p.kind (take (p.stop - p.start) (drop p.start log)) ≡ o → is_some o ≡ false → stopped 92 at b out ≡ stepped b log at out
          go None k g = called None k
          go (Some c) k g = clash g

      pub step-full : is_some (call_of p.kind (take (p.stop - p.start) (drop p.start log))) ≡ true → length out < answer_most → stopped 93 at b out ≡ stepped b log at out
      step-full f s = go (call_of p.kind (take (p.stop - p.start) (drop p.start log))) refl f
        where
          go : (o : Option Call) → call_of p.kind (take (p.stop - p.start) (drop p.start log)) ≡ o → is_some o ≡ true → stopped 93 at b out ≡ stepped b log at out
          go None k g = clash (sym g)
          go (Some c) k g = rw (lt-ltb (length out) answer_most s) at (called (Some c) k)

      pub step-goes : (known : Bool) (n : ℕ) (b₁ o₁ : List ℕ) → is_some (call_of p.kind (take (p.stop - p.start) (drop p.start log))) ≡ true → answer_most ≤ length out
          → ◌≡◌ {A = Ran} (record { known = known; length = n; bytes = b₁; output = o₁ }) (ran_call b out (call_of p.kind (take (p.stop - p.start) (drop p.start log))))
          → record { going = true; number = 0; place = p.stop + check_length; length = n; bytes = b₁; output = o₁ } ≡ stepped b log at out
      step-goes known n b₁ o₁ f s r = go (call_of p.kind (take (p.stop - p.start) (drop p.start log))) refl f r
        where
          go : (o : Option Call) → call_of p.kind (take (p.stop - p.start) (drop p.start log)) ≡ o → is_some o ≡ true
              → ◌≡◌ {A = Ran} (record { known = known; length = n; bytes = b₁; output = o₁ }) (ran_call b out o)
              → record { going = true; number = 0; place = p.stop + check_length; length = n; bytes = b₁; output = o₁ } ≡ stepped b log at out
          go None k g q = clash (sym g)
          go (Some c) k g q = ap (went (p.stop + check_length)) q ∙ (rw (le-ltb (length out) answer_most s) at (called (Some c) k))

-- ---- the loop

-- what stands of a replay: w bytes written, the record at `at` the next
pub record Replaying (b₀ log : List ℕ) (from : ℕ) (out₀ : List ℕ) (b out : List ℕ) (at w : ℕ) : Type 0 where
  pub size : length out ≡ length out₀
  pub book_size : length b ≡ length b₀
  pub inside : w ≤ length out₀
  pub rest : remaining log (length out₀) b at out w ≡ replayed b₀ log from out₀

pub replaying-start : (b log : List ℕ) (from : ℕ) (out : List ℕ) → Replaying b log from out b out from 0
unfolding replayed
replaying-start b log from out =
    record {
      size = refl;
      book_size = refl;
      inside = omega arith;
      rest = ap (λ (cs : List Call). replayed_by b log from out 0 (fitting (length out) 0 b cs)) (sym (left-all log from));
    }

module _ (b₀ log : List ℕ) (from : ℕ) (out₀ : List ℕ) (b out : List ℕ) (at w e : ℕ) (g : Replaying b₀ log from out₀ b out at w) (ends : e ≡ length out₀) where
  lent-size : length (take (e - w) (drop w out)) ≡ length out₀ - w
  lent-size = length-take-le (e - w) (drop w out) (omega (arith, length-drop w out, g.size, ends)) ∙ omega (arith, ends)

  module _ (going : Bool) (number place len : ℕ) (b₁ y : List ℕ)
      (s : ◌≡◌ {A = Stepped} (record { going = going; number = number; place = place; length = len; bytes = b₁; output = y }) (stepped b log at (take (e - w) (drop w out))))
      (kept : length y ≡ length (take (e - w) (drop w out))) where
    back : (x : List ℕ) → length y ≡ length (take (e - w) (drop w out)) → y ≡ splice (take (e - w) (drop w out)) 0 x → put_mid w (e - w) out y ≡ splice out w x
    unfolding part
    back x k q =
        let l : length y ≡ e - w = omega (arith, k, lent-size, ends) in
        let i : length x ≤ e - w = omega (arith, filled-inside (take (e - w) (drop w out)) x, ap length q, l) in
        let z : w + 0 ≡ w = omega arith in
        lent_back w (e - w) out y l ∙ ap (splice out w) q ∙ splice-inside out w (e - w) 0 x (omega (arith, g.size, g.inside, ends)) (omega (arith, i)) ∙ ap (λ (n : ℕ). splice out n x) z

    unchanged : y ≡ take (e - w) (drop w out) → put_mid w (e - w) out y ≡ out
    unfolding part
    unchanged q =
        let l : length y ≡ e - w = omega (arith, kept, lent-size, ends) in
        lent_back w (e - w) out y l ∙ ap (splice out w) q ∙ splice-part out w (e - w) (omega (arith, g.size, g.inside, ends))

    stopped-as : (n : ℕ) → ◌≡◌ {A = Stepped} (record { going = going; number = number; place = place; length = len; bytes = b₁; output = y }) (stopped n at b (take (e - w) (drop w out)))
        → record { number = n; place = at; written = w; bytes = b; output = out } ≡ replayed b₀ log from out₀
        → record { number = number; place = at; written = w; bytes = b₁; output = put_mid w (e - w) out y } ≡ replayed b₀ log from out₀
    stopped-as n q r =
        let en : number ≡ n = ap (λ (z : Stepped). z.number) q in
        let eb : b₁ ≡ b = ap (λ (z : Stepped). z.bytes) q in
        let eo : put_mid w (e - w) out y ≡ out = unchanged (ap (λ (z : Stepped). z.output) q) in
        (λ j. record { number = en j; place = at; written = w; bytes = eb j; output = eo j }) ∙ r

    pub replayed-stop : going ≡ false → record { number = number; place = at; written = w; bytes = b₁; output = put_mid w (e - w) out y } ≡ replayed b₀ log from out₀
    unfolding stepped
    replayed-stop f = go (next_at log at) refl s
      where
        room : (c : Call) (next : ℕ) → next_at log at ≡ calls c next → (t : Bool) → ltb (length (take (e - w) (drop w out))) answer_most ≡ t
            → ◌≡◌ {A = Stepped} (record { going = going; number = number; place = place; length = len; bytes = b₁; output = y }) (cond t (stopped 93 at b (take (e - w) (drop w out))) (went next (ran_call b (take (e - w) (drop w out)) (Some c))))
            → record { number = number; place = at; written = w; bytes = b₁; output = put_mid w (e - w) out y } ≡ replayed b₀ log from out₀
        room c next k true h q =
            let short : length out₀ - w < answer_most = rw lent-size at (ltb-true (length (take (e - w) (drop w out))) answer_most h) in
            stopped-as 93 q (remaining-full log (length out₀) b at out w c next k short ∙ g.rest)
        room c next k false h q = clash (sym (ap (λ (z : Stepped). z.going) q) ∙ f)

        go : (x : Next) → next_at log at ≡ x → ◌≡◌ {A = Stepped} (record { going = going; number = number; place = place; length = len; bytes = b₁; output = y }) (stepped_by b at (take (e - w) (drop w out)) x)
            → record { number = number; place = at; written = w; bytes = b₁; output = put_mid w (e - w) out y } ≡ replayed b₀ log from out₀
        go (stops n) k q = stopped-as n q (remaining-stops log (length out₀) b at out w n k ∙ g.rest)
        go (calls c next) k q = room c next k (ltb (length (take (e - w) (drop w out))) answer_most) refl q

    pub record Went : Type 0 where
      pub on : at < place
      pub low : place ≤ length log
      pub room : w + len ≤ length out₀
      pub next : Replaying b₀ log from out₀ b₁ (put_mid w (e - w) out y) place (w + len)

    pub replaying-goes : length b₁ ≡ length b → going ≡ true → Went
    unfolding stepped
    replaying-goes kb f = go (next_at log at) refl s
      where
        went_on : (c : Call) (next : ℕ) → next_at log at ≡ calls c next → answer_most ≤ length out₀ - w
            → ◌≡◌ {A = Stepped} (record { going = going; number = number; place = place; length = len; bytes = b₁; output = y }) (went next (ran_call b (take (e - w) (drop w out)) (Some c))) → Went
        went_on c next k h q =
            let x : List ℕ = answer_bytes (call b c).answer in
            let m = next-inside log at c next k in
            let ep : next ≡ place = sym (ap (λ (z : Stepped). z.place) q) in
            let el : length x ≡ len = sym (ap (λ (z : Stepped). z.length) q) in
            let eb : (call b c).bytes ≡ b₁ = sym (ap (λ (z : Stepped). z.bytes) q) in
            let ey : y ≡ splice (take (e - w) (drop w out)) 0 x = ap (λ (z : Stepped). z.output) q in
            let i : length x ≤ length out₀ - w = omega (arith, filled-inside (take (e - w) (drop w out)) x, ap length ey, kept, lent-size) in
            let eo : splice out w x ≡ put_mid w (e - w) out y = sym (back x kept ey) in
            let lo : length (splice out w x) ≡ length out₀ = length-splice out w x (omega (arith, g.size, g.inside)) ∙ g.size in
            record {
              on = rw (← ep) m.0;
              low = rw (← ep) m.1;
              room = omega (arith, el, g.inside);
              next =
                  record {
                    size = rw (← eo) lo;
                    book_size = kb ∙ g.book_size;
                    inside = omega (arith, el, g.inside);
                    rest = (λ j. remaining log (length out₀) (sym eb j) (sym ep j) (sym eo j) (w + sym el j)) ∙ remaining-goes log (length out₀) b at out w c next k h ∙ g.rest;
                  };
            }

        room : (c : Call) (next : ℕ) → next_at log at ≡ calls c next → (t : Bool) → ltb (length (take (e - w) (drop w out))) answer_most ≡ t
            → ◌≡◌ {A = Stepped} (record { going = going; number = number; place = place; length = len; bytes = b₁; output = y }) (cond t (stopped 93 at b (take (e - w) (drop w out))) (went next (ran_call b (take (e - w) (drop w out)) (Some c))))
            → Went
        room c next k true h q = clash (sym f ∙ ap (λ (z : Stepped). z.going) q)
        room c next k false h q =
            let wide : answer_most ≤ length out₀ - w = rw lent-size at (ltb-false (length (take (e - w) (drop w out))) answer_most h) in
            went_on c next k wide q

        go : (x : Next) → next_at log at ≡ x → ◌≡◌ {A = Stepped} (record { going = going; number = number; place = place; length = len; bytes = b₁; output = y }) (stepped_by b at (take (e - w) (drop w out)) x) → Went
        go (stops n) k q = clash (sym f ∙ ap (λ (z : Stepped). z.going) q)
        go (calls c next) k q = room c next k (ltb (length (take (e - w) (drop w out))) answer_most) refl q
