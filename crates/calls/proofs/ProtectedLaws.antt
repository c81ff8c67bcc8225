-- T-06 on any bytes: what the call answers, and that the yes is what the page's national best, worked out anew, says about the price. With T-10:
-- of a halted page that best is none.
-- Assumes nothing.
use Prim.Native.Nat.{ℕ}
use mathlib.Core.Path.{◌≡◌, refl, sym, ap, ◌∙◌}
use mathlib.Core.Bool.{Bool, true, false, ◌&&◌, cond}
use mathlib.Core.List.{List}
use Rattle.field.specs.Field.{be}
use Rattle.lists.specs.Lists.{member}
use Rattle.std.specs.Prelude.{Some, Option}
use Rattle.text.specs.Form.{symbol_good}
use Rattle.page.specs.Page.{halted_in, published_entries}
use Rattle.protection.specs.declared.Protection.{Protection}
use Rattle.protection.specs.Protection.{answers_yes, protection, page_candidates, page_trading}
use Rattle.protection.proofs.ProtectionLaws.{published-best, First, protection-first}
use Rattle.protection.proofs.HaltLaws.{look-halted}
use Rattle.update.specs.Parts.{reading_of}
use Rattle.update.proofs.SearchLaws.{is_at}
use Rattle.opening.specs.Opening.{sound, rest_in, page_at, pages_in, page_place, reading_at}
use Rattle.line.specs.Line.{done}
use Rattle.work.specs.Work.{listed_of}
use Rattle.work.proofs.PlaceLaws.{listed_at}
use Rattle.calls.specs.Call.{Call, protected, side_marks, number_of, Answer, bare, asked_side, protection_told, answer_of, candidates_in, candidates_on, after_call, number_on, answer_on, Outcome, call}

-- a listed symbol's candidates are its page's
pub candidates-at : (b : List ℕ) (s k : ℕ) → page_place b s ≡ Some k → candidates_on b s ≡ page_trading (page_at b k)
unfolding reading_of page_candidates
candidates-at b s k e = ap (λ (f : Option ℕ). candidates_in (reading_at b f)) e

module _ (b x : List ℕ) (m v : ℕ) where
  abbrev asked : Call
  asked = protected x m v

  -- what a symbol's page answers
  abbrev pub page_answer : ℕ → Protection
  page_answer k = protection (asked_side m) v (page_trading (page_at b k) (asked_side m))

  -- 10, then 74
  pub protected-number : sound b ≡ true → number_on b asked ≡ cond (symbol_good x && is_at (page_place b (be x))) (cond (member side_marks m) 0 74) 10
  unfolding number_on number_of
  protected-number s = rw (s, listed_at b (be x))

  -- the book isn't changed, whatever is answered
  pub protected-keeps : (call b asked).bytes ≡ b
  unfolding call after_call
  protected-keeps = go (done (number_on b asked))
    where
      go : (t : Bool) → cond t b b ≡ b
      go true = refl
      go false = refl

  protected-answer : answer_on b asked ≡ cond (done (number_on b asked)) (protection_told (number_on b asked) (protection (asked_side m) v (candidates_on b (be x) (asked_side m)))) (bare (number_on b asked))
  unfolding number_on answer_of done
  protected-answer = go (sound b) (number_of (rest_in b) (listed_of (pages_in b)) asked)
    where
      told : ℕ → Answer
      told n = cond (done n) (protection_told n (protection (asked_side m) v (candidates_on b (be x) (asked_side m)))) (bare n)

      go : (t : Bool) (n : ℕ) → cond t (told (cond t n 1)) (bare 1) ≡ told (cond t n 1)
      go true n = refl
      go false n = refl

  -- a refusal carries its number alone
  pub protected-refused : (n : ℕ) → n ≡ number_on b asked → done n ≡ false → record { bytes = b; answer = bare n } ≡ call b asked
  unfolding call
  protected-refused n e d = sym (rw (protected-answer, ← e, d))

  -- else the answer is the page's
  pub protected-told : (k : ℕ) → sound b ≡ true → symbol_good x ≡ true → page_place b (be x) ≡ Some k → member side_marks m ≡ true
      → record { bytes = b; answer = protection_told 0 (page_answer k) } ≡ call b asked
  unfolding call after_call done
  protected-told k s g e h =
      let n : number_on b asked ≡ 0 = protected-number s ∙ rw (g, e, h) in
      sym (rw (protected-answer, n, candidates-at b (be x) k e))

  -- ---- the theorem: on memory of any bytes, of the page that is found

  module _ (k : ℕ) (s : sound b ≡ true) (g : symbol_good x ≡ true) (e : page_place b (be x) ≡ Some k) (h : member side_marks m ≡ true) where
    -- yes exactly if the national best, worked out anew from the page, reaches the price
    pub protected-best : (call b asked).answer.found ≡ cond (answers_yes (asked_side m) v ((published_entries (page_at b k)).national (asked_side m))) 1 0
    protected-best = ap (λ (o : Outcome). o.answer.found) (sym (protected-told k s g e h)) ∙ ap (λ (t : Bool). cond t 1 0) (published-best (asked_side m) v (page_at b k))

    -- the letters looked at: the position of the first that answers yes, or 26
    pub protected-looked : (call b asked).answer.amount ≡ (page_answer k).looked
    protected-looked = ap (λ (o : Outcome). o.answer.amount) (sym (protected-told k s g e h))

    pub protected-first : First (asked_side m) v (page_trading (page_at b k) (asked_side m)) (page_answer k)
    protected-first = protection-first (asked_side m) v (page_trading (page_at b k) (asked_side m))

    -- T-10: "T-06 says no with 26"
    pub protected-halted : halted_in (page_at b k) ≡ true → record { bytes = b; answer = protection_told 0 (record { yes = false; looked = 26 }) } ≡ call b asked
    protected-halted t =
        ap (λ (a : Protection). record { bytes = b; answer = protection_told 0 a }) (look-halted (page_at b k) (asked_side m) v t) ∙ protected-told k s g e h
