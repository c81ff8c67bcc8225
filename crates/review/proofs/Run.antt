-- Demand 3 of whatever carries calls out: if each call leaves the bytes and gives the answer of `call`, as the contracts of the calls say,
-- then every list of calls is answered as the reviewer answers it.
-- Assumes nothing.
use Prim.Native.Nat.{ℕ}
use mathlib.Core.Path.{◌≡◌, refl, ap, ◌∙◌}
use mathlib.Core.Bool.{true}
use mathlib.Core.List.{List, [], ◌∷◌}
use Rattle.calls.specs.Call.{Call, Answer, Outcome, make, call, answers}
use Rattle.review.specs.Reviewer.{fresh_review, review_answers}
use Rattle.review.specs.Lists.{blocks_are_bytes}
use Rattle.review.proofs.Demand3.{demand3}

module _ (run : List ℕ → Call → Outcome) (meets : (b : List ℕ) (c : Call) → run b c ≡ call b c) where
  -- the answers, call by call, each on the bytes that the one before it left
  abbrev pub answers_of : List ℕ → List Call → List Answer
  answers_of b [] = []
  answers_of b (c ∷ cs) = (run b c).answer ∷ answers_of (run b c).bytes cs

  same-answers : (b : List ℕ) (cs : List Call) → answers_of b cs ≡ answers b cs
  same-answers b [] = refl
  same-answers b (c ∷ cs) = rw (meets b c) (ap (λ (l : List Answer). (call b c).answer ∷ l) (same-answers (call b c).bytes cs))

  pub run-agrees : (m : List ℕ) (n : ℕ) → (run m (make n)).answer.number ≡ 0 → (cs : List Call) → blocks_are_bytes cs ≡ true → answers_of (run m (make n)).bytes cs ≡ review_answers (fresh_review n) cs
  run-agrees m n made cs bytes =
      rw (meets m (make n)) (same-answers (call m (make n)).bytes cs ∙ (demand3 m n (rw (meets m (make n)) at made) cs bytes).told)
