-- Each call's answer is the reviewer's.
-- Assumes nothing.
use Prim.Native.Nat.{ℕ}
use mathlib.Core.Path.{◌≡◌, refl, sym, ap, ◌∙◌, fun_ext}
use mathlib.Core.Bool.{Bool, true, false, cond}
use mathlib.Core.List.{List}
use Rattle.std.specs.Prelude.{Option, None, Some}
use lib.Dec.{eqb}
use Rattle.field.specs.Field.{Bytes, be}
use Rattle.lists.proofs.Tests.{clash}
use Rattle.ranking.specs.declared.Side.{Side}
use Rattle.ranking.specs.declared.Candidate.{Candidate}
use Rattle.protection.specs.Protection.{protection}
use Rattle.snapshot.specs.Snapshot.{Snapshot, shown_of, snapshot_of}
use Rattle.block.specs.Written.{joined}
use Rattle.venuerun.specs.Run.{needed_of, venue_run}
use Rattle.sweep.specs.Sweep.{swept}
use Rattle.block.specs.Block.{messages_of}
use Rattle.update.specs.Parts.{Reading}
use Rattle.update.proofs.EntryLaws.{bytes-every}
use Rattle.opening.specs.declared.Line.{Line}
use Rattle.opening.specs.Opening.{lines_in, rest_in, pages_in}
use Rattle.line.specs.Line.{done}
use Rattle.calls.specs.Call.{Call, make, add, open_line, start_day, end_day, take, read, protected, convert_len, convert, snapshot_len, snapshot, try_order, set_allowance, tick, number_of, Answer, bare, line_answer, published, asked_side, protection_told, order_side, steps_told, size_told, snapshot_told, letter_of, answer_of, run_told, lot_in, lot_on, entries_in, published_on, candidates_in, candidates_on, quotes_for, quotes_on, number_on, answer_on, call}
use Rattle.work.specs.Work.{Listed, is_listed, lot_of, find_reading, listed_of, told_on}
use Rattle.opening.proofs.OpeningLaws.{Sound, sound-is}
use Rattle.opening.proofs.LineLaws.{line-upper, line-open}
use Rattle.calls.proofs.NumberLaws.{number_same, read_done, protected-done, len-done, feed-done, order-done}
use Rattle.review.specs.Reviewer.{parts, rounds_of, quote_of, reviewed, candidates_r, told_r, Review, review_answer}
use Rattle.review.specs.Lists.{block_is_bytes}
use Rattle.review.proofs.Agree.{lot-listed, good-reviewed, good-trading, Core, ReadingOf, missing, found, reading-of}
use Rattle.review.proofs.FeedLaws.{snapshot-same, held-shown}
use Rattle.review.proofs.WorkLaws.{told_same}
use Rattle.review.proofs.BytesLaws.{messages-bytes, told-done}
use Rattle.review.proofs.OnceLaws.{once-reading}
use Rattle.review.proofs.CallLaws.{Agrees, view_of, view-is}

module _ (n : ℕ) (b : List ℕ) (h : List (List ℕ)) (sd : Sound n b) (y : Bytes b) (c : Core (parts h) (pages_in b)) where
  abbrev ls : List Listed
  ls = listed_of (pages_in b)

  -- a symbol that is listed is read as the history gives it
  read_same : (s : ℕ) → is_listed s ls ≡ true → published_on b s ≡ reviewed h s
  read_same s e = ap entries_in (once-reading b c.once s) ∙ go (reading-of s (parts h) (pages_in b) c.good)
    where
      go : ReadingOf s (parts h) (pages_in b) → entries_in (find_reading s (pages_in b)) ≡ reviewed h s
      go (missing u v) = clash (sym e ∙ v)
      go (found r u v w g) = rw (u, sym w) (good-reviewed (parts h) r g)

  -- and has the candidates that the history gives
  candidates-same : (s : ℕ) → is_listed s ls ≡ true → candidates_on b s ≡ candidates_r h s
  candidates-same s e = ap candidates_in (once-reading b c.once s) ∙ go (reading-of s (parts h) (pages_in b) c.good)
    where
      go : ReadingOf s (parts h) (pages_in b) → candidates_in (find_reading s (pages_in b)) ≡ candidates_r h s
      go (missing u v) = clash (sym e ∙ v)
      go (found r u v w g) = rw (u, sym w) (good-trading (parts h) r g)

  -- and quotes that show the same
  quotes-same : (x e : List ℕ) (s : ℕ) → is_listed s ls ≡ true → snapshot_of x e (quotes_on b s) ≡ snapshot_of x e (quote_of (parts h) s)
  unfolding quote_of
  quotes-same x e s t = ap (λ (o : Option Reading). snapshot_of x e (quotes_for o)) (once-reading b c.once s) ∙ go (reading-of s (parts h) (pages_in b) c.good)
    where
      go : ReadingOf s (parts h) (pages_in b) → snapshot_of x e (quotes_for (find_reading s (pages_in b))) ≡ snapshot_of x e (quote_of (parts h) s)
      go (missing u v) = clash (sym t ∙ v)
      go (found r u v w g) =
          rw (u, sym w)
          (snapshot-same r.quotes (quote_of (parts h) r.symbol) (λ l. ap (shown_of l) (g.quotes l) ∙ held-shown l (rounds_of (parts h) r.symbol l)) x e)

  -- what both calls of T-12 are told from
  pub feed-same : (x : List ℕ) → is_listed (be x) ls ≡ true → snapshot_of x (published_on b (be x)) (quotes_on b (be x)) ≡ snapshot_of x (reviewed h (be x)) (quote_of (parts h) (be x))
  feed-same x e = ap (λ (p : List ℕ). snapshot_of x p (quotes_on b (be x))) (read_same (be x) e) ∙ quotes-same x (reviewed h (be x)) (be x) e

  -- and its round lot
  lots-same : lot_on b ≡ (λ s. lot_of s ls)
  lots-same = fun_ext (λ s. ap lot_in (once-reading b c.once s) ∙ sym (lot-listed s (pages_in b)))

  pub told_line : (i : ℕ) (r : Line) (x : List ℕ) → lines_in b i ≡ Some r → Bytes x → told_on b r.letter (messages_of x) ≡ told_r ls h r.letter (messages_of x)
  told_line i r x e z =
      told-done n r.letter (line-upper r (line-open b i r e).1) (messages_of x) b (messages-bytes x z) sd y c.once
      ∙ told_same r.letter ls (messages_of x) h (pages_in b) refl c

  answer-same : (k : Call) → block_is_bytes k ≡ true
      → answer_of (rest_in b) (lot_on b) (told_on b) (published_on b) (candidates_on b) (quotes_on b) (number_of (rest_in b) ls k) k
      ≡ answer_of (rest_in b) (λ s. lot_of s ls) (told_r ls h) (reviewed h) (candidates_r h) (quote_of (parts h)) (number_of (rest_in b) ls k) k
  unfolding answer_of rest_in
  answer-same (make k) z = refl
  answer-same (add x l m) z = refl
  answer-same (open_line i l) z = refl
  answer-same start_day z = refl
  answer-same end_day z = refl
  answer-same (take i x k) z = go (lines_in b i) refl
    where
      go : (o : Option Line) → lines_in b i ≡ o
          → cond (eqb (number_of (rest_in b) ls (take i x k)) 9) (bare (number_of (rest_in b) ls (take i x k))) (line_answer (number_of (rest_in b) ls (take i x k)) x (told_on b (letter_of o) (messages_of x)) o)
          ≡ cond (eqb (number_of (rest_in b) ls (take i x k)) 9) (bare (number_of (rest_in b) ls (take i x k))) (line_answer (number_of (rest_in b) ls (take i x k)) x (told_r ls h (letter_of o) (messages_of x)) o)
      go None e = refl
      go (Some r) e = rw (told_line i r x e (bytes-every x z))
  answer-same (read x k) z = go (done (number_of (rest_in b) ls (read x k))) refl
    where
      go : (t : Bool) → done (number_of (rest_in b) ls (read x k)) ≡ t
          → published (number_of (rest_in b) ls (read x k)) (published_on b (be x)) ≡ published (number_of (rest_in b) ls (read x k)) (reviewed h (be x))
      go true e = rw (read_same (be x) (read_done (rest_in b) ls x k e).1)
      go false e = rw e
  answer-same (set_allowance k ss) z = refl
  answer-same tick z = refl
  answer-same (protected x m v) z = go (done (number_of (rest_in b) ls (protected x m v))) refl
    where
      told : (Side → ℕ → Option Candidate) → Answer
      told cs = protection_told (number_of (rest_in b) ls (protected x m v)) (protection (asked_side m) v (cs (asked_side m)))

      go : (t : Bool) → done (number_of (rest_in b) ls (protected x m v)) ≡ t
          → cond t (told (candidates_on b (be x))) (bare (number_of (rest_in b) ls (protected x m v)))
          ≡ cond t (told (candidates_r h (be x))) (bare (number_of (rest_in b) ls (protected x m v)))
      go true e = ap told (candidates-same (be x) (protected-done (rest_in b) ls x m v e).1)
      go false e = refl
  answer-same (convert_len x) z = refl
  answer-same (convert x k) z =
      ap (λ (l : ℕ → ℕ). cond (done (number_of (rest_in b) ls (convert x k))) (run_told (number_of (rest_in b) ls (convert x k)) (needed_of x) (joined (venue_run l x))) (bare (number_of (rest_in b) ls (convert x k)))) lots-same
  answer-same (snapshot_len x) z = go (done (number_of (rest_in b) ls (snapshot_len x))) refl
    where
      told : Snapshot → Answer
      told f = size_told (number_of (rest_in b) ls (snapshot_len x)) f

      go : (t : Bool) → done (number_of (rest_in b) ls (snapshot_len x)) ≡ t
          → cond t (told (snapshot_of x (published_on b (be x)) (quotes_on b (be x)))) (bare (number_of (rest_in b) ls (snapshot_len x)))
          ≡ cond t (told (snapshot_of x (reviewed h (be x)) (quote_of (parts h) (be x)))) (bare (number_of (rest_in b) ls (snapshot_len x)))
      go true e = ap told (feed-same x (len-done (rest_in b) ls x e).1)
      go false e = refl
  answer-same (snapshot x k) z = go (done (number_of (rest_in b) ls (snapshot x k))) refl
    where
      told : Snapshot → Answer
      told f = snapshot_told (number_of (rest_in b) ls (snapshot x k)) k f

      go : (t : Bool) → done (number_of (rest_in b) ls (snapshot x k)) ≡ t
          → cond t (told (snapshot_of x (published_on b (be x)) (quotes_on b (be x)))) (bare (number_of (rest_in b) ls (snapshot x k)))
          ≡ cond t (told (snapshot_of x (reviewed h (be x)) (quote_of (parts h) (be x)))) (bare (number_of (rest_in b) ls (snapshot x k)))
      go true e = ap told (feed-same x (feed-done (rest_in b) ls x k e).1)
      go false e = refl
  answer-same (try_order x m w k) z = go (done (number_of (rest_in b) ls (try_order x m w k))) refl
    where
      told : (Side → ℕ → Option Candidate) → Answer
      told cs = steps_told (number_of (rest_in b) ls (try_order x m w k)) w (swept (order_side m) w (cs (order_side m)))

      go : (t : Bool) → done (number_of (rest_in b) ls (try_order x m w k)) ≡ t
          → cond t (told (candidates_on b (be x))) (bare (number_of (rest_in b) ls (try_order x m w k)))
          ≡ cond t (told (candidates_r h (be x))) (bare (number_of (rest_in b) ls (try_order x m w k)))
      go true e = ap told (candidates-same (be x) (order-done (rest_in b) ls x m w k e).1)
      go false e = refl

  answer-sound : (k : Call) → answer_on b k ≡ answer_of (rest_in b) (lot_on b) (told_on b) (published_on b) (candidates_on b) (quotes_on b) (number_on b k) k
  unfolding answer_of
  answer-sound (make k) = refl
  answer-sound (add x l m) = rw (sound-is n b sd)
  answer-sound (open_line i l) = rw (sound-is n b sd)
  answer-sound start_day = rw (sound-is n b sd)
  answer-sound end_day = rw (sound-is n b sd)
  answer-sound (take i x k) = rw (sound-is n b sd)
  answer-sound (read x k) = rw (sound-is n b sd)
  answer-sound (protected x m v) = rw (sound-is n b sd)
  answer-sound (convert_len x) = rw (sound-is n b sd)
  answer-sound (convert x k) = rw (sound-is n b sd)
  answer-sound (snapshot_len x) = rw (sound-is n b sd)
  answer-sound (snapshot x k) = rw (sound-is n b sd)
  answer-sound (try_order x m w k) = rw (sound-is n b sd)
  answer-sound (set_allowance k ss) = rw (sound-is n b sd)
  answer-sound tick = rw (sound-is n b sd)

  answer-view : (k : Call) → block_is_bytes k ≡ true → answer_on b k ≡ review_answer (view_of b h) k
  unfolding review_answer
  answer-view k z = answer-sound k ∙ ap (λ (q : ℕ). answer_of (rest_in b) (lot_on b) (told_on b) (published_on b) (candidates_on b) (quotes_on b) q k) (number_same n b sd k) ∙ answer-same k z

pub call-answer : (n : ℕ) (b : List ℕ) (v : Review) (k : Call) → block_is_bytes k ≡ true → Agrees n b v → (call b k).answer ≡ review_answer v k
unfolding call
call-answer n b v k z a = rw (sym (view-is b v a.held)) (answer-view n b v.history a.sound a.bytes a.held.core k z)
