-- T-13 on any bytes: what the call answers, and that no other division over the same candidates that fills as many lots is better.
-- Assumes nothing.
use Prim.Native.Nat.{ℕ, ◌*◌, ◌-◌, ◌^◌, ◌≤◌, ◌<◌}
use mathlib.Core.Path.{◌≡◌, refl, sym, ap, ◌∙◌}
use mathlib.Core.Bool.{Bool, true, false, ◌&&◌, cond}
use mathlib.Core.List.{List, []}
use native.Mathlib.Omega.{arith}
use lib.Dec.{leb, ltb}
use lib.ListN.{length}
use borrow.Author.Tests.{leb-true}
use Rattle.field.specs.Field.{Bytes, be}
use Rattle.field.proofs.Laws.{bytes-part}
use Rattle.lists.specs.Lists.{member}
use Rattle.std.specs.Prelude.{Some}
use Rattle.lists.proofs.Tests.{and-true}
use Rattle.text.specs.Form.{symbol_good}
use Rattle.ranking.specs.declared.Candidate.{Candidate}
use Rattle.protection.specs.Protection.{page_trading}
use Rattle.entries.specs.Entries.{trading_candidates}
use Rattle.page.specs.Layout.{page_length}
use Rattle.page.specs.Page.{halted_in}
use Rattle.sweep.specs.Sweep.{Step, least, listed, swept, filled, steps_length, steps_most, step_length, steps_bytes}
use Rattle.sweep.specs.Division.{worth, total, shown, worth_of, Within, NoWorse, steps_in}
use Rattle.sweep.proofs.DividedLaws.{divided}
use Rattle.sweep.proofs.SweepLaws.{swept-few, swept-fills, swept-best, swept-within, swept-lots, swept-worth}
use Rattle.sweep.proofs.StepsLaws.{steps_back, length-steps, swept-fits}
use Rattle.sweep.proofs.HaltLaws.{none-swept, trading-counts, trading-lettered}
use Rattle.update.proofs.SearchLaws.{is_at}
use Rattle.opening.specs.Layout.{page_start}
use Rattle.opening.specs.Opening.{sound, rest_in, page_at, pages_in, page_place}
use Rattle.line.specs.Line.{done}
use Rattle.work.specs.Work.{listed_of}
use Rattle.work.proofs.PlaceLaws.{listed_at}
use Rattle.calls.specs.Call.{Call, try_order, side_marks, lots_good, number_of, Answer, bare, order_side, steps_told, answer_of, candidates_on, after_call, number_on, answer_on, Outcome, call}
use Rattle.calls.proofs.ProtectedLaws.{candidates-at}

module _ (b x : List ℕ) (m w room : ℕ) where
  abbrev asked : Call
  asked = try_order x m w room

  -- the candidates of a symbol's page, and the steps on them
  abbrev pub page_listed : ℕ → List Candidate
  page_listed k = listed (page_trading (page_at b k) (order_side m))

  abbrev pub page_steps : ℕ → List Step
  page_steps k = swept (order_side m) w (page_trading (page_at b k) (order_side m))

  -- the steps that the answer's bytes say
  abbrev pub told_steps : List Step
  told_steps = steps_in (call b (try_order x m w room)).answer.found (call b (try_order x m w room)).answer.output

  -- 10, 74, 82, 83
  pub order-number : sound b ≡ true
      → number_on b (try_order x m w room) ≡ cond (symbol_good x && is_at (page_place b (be x))) (cond (member side_marks m) (cond (lots_good w) (cond (ltb room steps_length) 83 0) 82) 74) 10
  unfolding number_on number_of
  order-number s = rw (s, listed_at b (be x))

  -- the book isn't changed, whatever is answered
  pub order-keeps : (call b (try_order x m w room)).bytes ≡ b
  unfolding call after_call
  order-keeps = go (done (number_on b asked))
    where
      go : (t : Bool) → cond t b b ≡ b
      go true = refl
      go false = refl

  order-answer : answer_on b asked ≡ cond (done (number_on b asked)) (steps_told (number_on b asked) w (swept (order_side m) w (candidates_on b (be x) (order_side m)))) (bare (number_on b asked))
  unfolding number_on answer_of done
  order-answer = go (sound b) (number_of (rest_in b) (listed_of (pages_in b)) asked)
    where
      told : ℕ → Answer
      told n = cond (done n) (steps_told n w (swept (order_side m) w (candidates_on b (be x) (order_side m)))) (bare n)

      go : (t : Bool) (n : ℕ) → cond t (told (cond t n 1)) (bare 1) ≡ told (cond t n 1)
      go true n = refl
      go false n = refl

  -- a refusal carries its number alone
  pub order-refused : (n : ℕ) → n ≡ number_on b (try_order x m w room) → done n ≡ false → record { bytes = b; answer = bare n } ≡ call b (try_order x m w room)
  unfolding call
  order-refused n e d = sym (rw (order-answer, ← e, d))

  module _ (k : ℕ) (s : sound b ≡ true) (g : symbol_good x ≡ true) (e : page_place b (be x) ≡ Some k) (h : member side_marks m ≡ true) (l : lots_good w ≡ true) (r : ltb room steps_length ≡ false) where
    -- else the answer is the page's
    pub order-told : record { bytes = b; answer = steps_told 0 w (page_steps k) } ≡ call b (try_order x m w room)
    unfolding call after_call done
    order-told =
        let n : number_on b asked ≡ 0 = order-number s ∙ rw (g, e, h, l, r) in
        sym (rw (order-answer, n, candidates-at b (be x) k e))

    -- ---- the theorem: on memory of any bytes, of the page that is found

    pub order-found : (call b (try_order x m w room)).answer.found ≡ length (page_steps k)
    order-found = ap (λ (o : Outcome). o.answer.found) (sym order-told)

    order-bytes : (call b (try_order x m w room)).answer.output ≡ steps_bytes (page_steps k)
    order-bytes = ap (λ (o : Outcome). o.answer.output) (sym order-told)

    -- "the lots not found"
    pub order-unfilled : (call b (try_order x m w room)).answer.amount ≡ w - filled (page_steps k)
    order-unfilled = ap (λ (o : Outcome). o.answer.amount) (sym order-told)

    no_steps : halted_in (page_at b k) ≡ true → [] ≡ page_steps k
    unfolding trading_candidates
    no_steps t = rw t (sym (none-swept (order_side m) w))

    -- T-10: "A halted symbol fills nothing"
    pub order-halted : halted_in (page_at b k) ≡ true → record { bytes = b; answer = steps_told 0 w [] } ≡ call b (try_order x m w room)
    order-halted t = ap (λ (xs : List Step). record { bytes = b; answer = steps_told 0 w xs }) (no_steps t) ∙ order-told

    -- "at most 25, each of 13 bytes"
    pub order-few : ((call b (try_order x m w room)).answer.found ≤ steps_most) × (length (call b (try_order x m w room)).answer.output ≡ (call b (try_order x m w room)).answer.found * step_length)
    order-few = (
      rw order-found (swept-few (page_trading (page_at b k) (order_side m)) (trading-lettered (page_at b k) (order_side m)) (order_side m) w),
      rw (order-bytes, order-found) (length-steps (page_steps k)),
    )

    module _ (bs : Bytes b) where
      page-bytes : Bytes (page_at b k)
      unfolding page_at
      page-bytes = bytes-part b (page_start k) page_length bs

      small : w < 256 ^ 4
      small = omega (arith, leb-true w 1000000 (and-true (leb 1 w) (leb w 1000000) l).1)

      pub order-steps : told_steps ≡ page_steps k
      order-steps =
          rw (order-found, order-bytes)
          (steps_back (page_steps k) (swept-fits (page_trading (page_at b k) (order_side m)) (trading-lettered (page_at b k) (order_side m)) (trading-counts (page_at b k) page-bytes (order_side m)) (order_side m) w small))

      -- all that is wanted, as far as it is shown
      pub order-fills : filled told_steps ≡ least w (shown (page_listed k))
      order-fills = rw order-steps (swept-fills (page_trading (page_at b k) (order_side m)) (trading-lettered (page_at b k) (order_side m)) (order_side m) w)

      -- "No other division over the same candidates, none beyond its shown size, that fills as many lots costs less to buy or brings more to sell."
      pub order-best : (t : Candidate → ℕ) → Within t (page_listed k) → total t (page_listed k) ≡ filled told_steps → NoWorse (order_side m) (worth told_steps) (worth_of t (page_listed k))
      order-best t u z =
          rw order-steps
          (swept-best (page_trading (page_at b k) (order_side m)) (trading-lettered (page_at b k) (order_side m)) (order_side m) w t u (z ∙ ap filled order-steps))

      -- and the steps are such a division themselves
      pub order-within : Within (divided told_steps) (page_listed k)
      order-within = rw order-steps (swept-within (page_trading (page_at b k) (order_side m)) (trading-lettered (page_at b k) (order_side m)) (order_side m) w)

      pub order-lots : total (divided told_steps) (page_listed k) ≡ filled told_steps
      order-lots = rw order-steps (swept-lots (page_trading (page_at b k) (order_side m)) (trading-lettered (page_at b k) (order_side m)) (order_side m) w)

      pub order-worth : worth_of (divided told_steps) (page_listed k) ≡ worth told_steps
      order-worth = rw order-steps (swept-worth (page_trading (page_at b k) (order_side m)) (trading-lettered (page_at b k) (order_side m)) (order_side m) w)
