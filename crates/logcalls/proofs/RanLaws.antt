-- A record's call by what its function did: the call, and the output.
-- Assumes nothing.
use Prim.Native.Nat.{ℕ, ◌+◌, ◌*◌, ◌-◌, ◌≤◌, ◌<◌}
use mathlib.Core.Path.{◌≡◌, refl, ap, sym, ◌∙◌}
use mathlib.Core.Bool.{Bool, true, false, cond}
use mathlib.Core.List.{List, [], ◌∷◌, ◌++◌, append-nil, append_assoc}
use Rattle.std.specs.Prelude.{Option, None, Some}
use native.Mathlib.Omega.{arith}
use lib.Dec.{eqb, leb}
use lib.ListN.{length, take, drop, length-append, length-take, length-drop}
use lib.Seq.{length-take-le, drop-append-add, take-length}
use borrow.Author.Tests.{eq-eqb, ne_eqb, le-leb, lt-leb}
use types.Run.{OneOf}
use borrow.Rule.Slice.PartMut.{put_mid}
use Rattle.field.specs.Field.{part, splice, field}
use Rattle.field.proofs.Laws.{lent_back, splice-inside, length-splice}
use Rattle.lists.specs.Lists.{member}
use Rattle.lists.proofs.Tables.{one_of, none_of}
use Rattle.block.specs.Block.{count_in, answer_length}
use Rattle.line.specs.Line.{done}
use Rattle.calls.specs.Call.{Call, Answer, Outcome, bare, call}
use Rattle.calls.specs.Call as calls
use Rattle.calls.specs.declared.Report.{Report}
use Rattle.calls.specs.Buffers.{report_of, TakenBlock, taken}
use Rattle.logcalls.specs.Answers.{words_bytes, words_length, words_of, filled_of, answer_bytes, answer_most, lent_of}
use Rattle.logcalls.specs.Kinds.{exactly, at_least}
use Rattle.logcalls.specs.Replayed.{Ran, ran_call}
use Rattle.logcalls.proofs.WordLaws.{length-words, bare-bytes}
use Rattle.logcalls.proofs.RoomLaws.{lent-most, take-room}
use Rattle.logcalls.proofs.FilledLaws.{AnswersOnly, take-fills}

-- ---- arguments of the right length

module _ (b out : List ℕ) (w : ℕ) (a : List ℕ) (c : Call) where
  pub wrong-length : (length a ≡ w → ⊥) → record { known = false; length = 0; bytes = b; output = out } ≡ ran_call b out (exactly w a c)
  wrong-length h = rw (ne_eqb (length a) w h)

  pub right-length : (r : Ran) → length a ≡ w → r ≡ ran_call b out (Some c) → r ≡ ran_call b out (exactly w a c)
  right-length r h e = rw (eq-eqb (length a) w h) e

  pub too_short : length a < w → record { known = false; length = 0; bytes = b; output = out } ≡ ran_call b out (at_least w a c)
  too_short h = rw (lt-leb w (length a) h)

  pub long-enough : (r : Ran) → w ≤ length a → r ≡ ran_call b out (Some c) → r ≡ ran_call b out (at_least w a c)
  long-enough r h e = rw (le-leb w (length a) h) e

-- the bytes behind the numbers
pub rest-is : (w : ℕ) (a : List ℕ) → take (length a - w) (drop w a) ≡ drop w a
rest-is w a = rw (sym (length-drop w a)) (take-length (drop w a))

-- ---- the answer

-- what was filled behind the words, then the words
pub words-over : (p : List ℕ) (n : ℕ) (w x : List ℕ) → length w ≡ n → n ≤ length p → splice (splice p n x) 0 w ≡ splice p 0 (w ++ x)
unfolding splice
words-over p n w x e h =
    let t : length (take n p) + 0 ≡ 0 + length w = omega (arith, length-take-le n p h, e) in
    let m : 0 + length (w ++ x) ≡ n + length x = omega (arith, length-append w x, e) in
    ap (λ (k : ℕ). w ++ drop k (take n p ++ x ++ drop (n + length x) p)) (sym t)
    ∙ ap (λ (z : List ℕ). w ++ drop (length (take n p) + 0) z) (append_assoc (take n p) x (drop (n + length x) p))
    ∙ ap (λ (z : List ℕ). w ++ z) (drop-append-add (take n p) (x ++ drop (n + length x) p) 0)
    ∙ sym (append_assoc w x (drop (n + length x) p))
    ∙ ap (λ (k : ℕ). w ++ x ++ drop k p) (sym m)

-- d: the call as the code made it
pub ran-bare : (b out : List ℕ) (c d : Call) (n : ℕ) (b₁ o₁ : List ℕ) → ◌≡◌ {A = Outcome} (record { bytes = b₁; answer = bare n }) (call b d) → d ≡ c
    → o₁ ≡ splice out 0 (answer_bytes (bare n)) → record { known = true; length = words_length; bytes = b₁; output = o₁ } ≡ ran_call b out (Some c)
ran-bare b out c d n b₁ o₁ e q o =
    let l : words_length ≡ length (answer_bytes (bare n)) = sym (ap length (bare-bytes n) ∙ length-words (words_of (bare n))) in
    rw (o, l) (ap (λ (x : Outcome). record { known = true; length = length (answer_bytes x.answer); bytes = x.bytes; output = splice out 0 (answer_bytes x.answer) }) (e ∙ ap (call b) q))

pub put-bare-is : (out o₁ : List ℕ) (n : ℕ) → o₁ ≡ splice out 0 (words_bytes (n ∷ 0 ∷ 0 ∷ 0 ∷ 0 ∷ 0 ∷ 0 ∷ 0 ∷ 0 ∷ 0 ∷ 0 ∷ 0 ∷ [])) → o₁ ≡ splice out 0 (answer_bytes (bare n))
put-bare-is out o₁ n e = e ∙ ap (splice out 0) (sym (bare-bytes n))

-- ---- an answer with bytes behind its numbers

pub ran-is : (b out : List ℕ) (c : Call) (a : Answer) (b₁ x ws : List ℕ) (n : ℕ) (o₁ : List ℕ) → ◌≡◌ {A = Outcome} (record { bytes = b₁; answer = a }) (call b c)
    → words_of a ≡ ws → filled_of a ≡ x → length x ≡ n → words_length ≤ length out → o₁ ≡ splice (splice out words_length x) 0 (words_bytes ws)
    → record { known = true; length = words_length + n; bytes = b₁; output = o₁ } ≡ ran_call b out (Some c)
unfolding answer_bytes
ran-is b out c a b₁ x ws n o₁ e w f l h o =
    let y : answer_bytes a ≡ words_bytes ws ++ x = λ i. words_bytes (w i) ++ f i in
    let k : length (words_bytes ws) ≡ words_length = length-words ws ∙ ap (λ (z : List ℕ). 8 * length z) (sym w) in
    let m : words_length + n ≡ length (answer_bytes a) = sym (ap length y ∙ length-append (words_bytes ws) x ∙ omega (arith, k, l)) in
    let p : o₁ ≡ splice out 0 (answer_bytes a) = o ∙ words-over out words_length (words_bytes ws) x k h ∙ ap (splice out 0) (sym y) in
    rw (p, m) (ap (λ (z : Outcome). record { known = true; length = length (answer_bytes z.answer); bytes = z.bytes; output = splice out 0 (answer_bytes z.answer) }) e)

pub filled-inside : (p x : List ℕ) → length x ≤ length (splice p 0 x)
unfolding splice
filled-inside p x = omega (arith, length-append x (drop (0 + length x) p))

-- a part of the output behind the numbers is lent, from words_length to e
module _ (out : List ℕ) (m e : ℕ) (ends : e ≡ words_length + m) (inside : e ≤ length out) where
  pub lent_length : length (take (e - words_length) (drop words_length out)) ≡ m
  lent_length = length-take-le (e - words_length) (drop words_length out) (omega (arith, length-drop words_length out)) ∙ omega arith

  -- y: what the call left of it
  kept-length : (y : List ℕ) → length y ≡ length (take (e - words_length) (drop words_length out)) → length y ≡ e - words_length
  kept-length y l = omega (arith, l, lent_length)

  pub lent-long : (y : List ℕ) → length y ≡ length (take (e - words_length) (drop words_length out)) → length (put_mid words_length (e - words_length) out y) ≡ length out
  lent-long y k = let l : length y ≡ e - words_length = kept-length y k in ap length (lent_back words_length (e - words_length) out y l) ∙ length-splice out words_length y (omega arith)

  pub lent-filled : (y x : List ℕ) → length y ≡ length (take (e - words_length) (drop words_length out)) → y ≡ splice (take (e - words_length) (drop words_length out)) 0 x
      → put_mid words_length (e - words_length) out y ≡ splice out words_length x
  unfolding part
  lent-filled y x k q =
      let l : length y ≡ e - words_length = kept-length y k in
      let i : length x ≤ e - words_length = omega (arith, filled-inside (take (e - words_length) (drop words_length out)) x, ap length q, l) in
      lent_back words_length (e - words_length) out y l ∙ ap (splice out words_length) q ∙ splice-inside out words_length (e - words_length) 0 x (omega arith) (omega arith)

-- ---- a block's answer

done-member : (n : ℕ) → done n ≡ member (0 ∷ 70 ∷ []) n
unfolding done member
done-member n = go (eqb n 0) (eqb n 70)
  where
    go : (t u : Bool) → cond t true u ≡ cond t true (cond u true false)
    go true u = refl
    go false true = refl
    go false false = refl

pub done-one : (n x : ℕ) (k : List ℕ) → OneOf (0 ∷ 70 ∷ []) n → x ≡ count_in k → 4 * x ≡ cond (done n) (4 * count_in k) 0
done-one n x k h e = rw (e, done-member n, one_of (0 ∷ 70 ∷ []) n h)

pub done_none : (n : ℕ) (k : List ℕ) → (OneOf (0 ∷ 70 ∷ []) n → ⊥) → 0 ≡ cond {A = ℕ} (done n) (4 * count_in k) 0
done_none n k h = rw (done-member n, none_of (0 ∷ 70 ∷ []) n h)

pub ran-take : (b out : List ℕ) (i : ℕ) (k : List ℕ) (room e : ℕ) (told : Report) (b₁ y : List ℕ) (n : ℕ) (o₁ : List ℕ) → e ≡ words_length + lent_of room answer_length → answer_most ≤ length out
    → ◌≡◌ {A = TakenBlock} (record { bytes = b₁; report = told; answer = y }) (taken b i k (take (e - words_length) (drop words_length out))) → length y ≡ length (take (e - words_length) (drop words_length out))
    → n ≡ cond (done told.number) (4 * count_in k) 0
    → o₁ ≡ splice (put_mid words_length (e - words_length) out y) 0 (words_bytes (told.number ∷ told.gap ∷ told.expected ∷ told.count ∷ told.accepted ∷ told.partly ∷ told.rejected ∷ 0 ∷ 0 ∷ n ∷ 0 ∷ 0 ∷ []))
    → record { known = true; length = words_length + n; bytes = b₁; output = o₁ } ≡ ran_call b out (Some (calls.take i k room))
unfolding taken
ran-take b out i k room e told b₁ y n o₁ ends long t l en o =
    let m : ℕ = lent_of room answer_length in
    let inside : e ≤ length out = omega (arith, lent-most room answer_length) in
    let q : call b (calls.take i k (length (take (e - words_length) (drop words_length out)))) ≡ call b (calls.take i k room) =
    ap (λ (z : ℕ). call b (calls.take i k z)) (lent_length out m e ends inside) ∙ take-room b i k room in
    let a : Answer = (call b (calls.take i k room)).answer in
    let s : AnswersOnly (cond (done a.number) (4 * count_in k) 0) a = take-fills b i k room in
    let eb : b₁ ≡ (call b (calls.take i k room)).bytes = ap (λ (z : TakenBlock). z.bytes) t ∙ ap (λ (z : Outcome). z.bytes) q in
    let er : told ≡ report_of a = ap (λ (z : TakenBlock). z.report) t ∙ ap (λ (z : Outcome). report_of z.answer) q in
    let re : report_of a ≡ told = sym er in
    let ey : y ≡ splice (take (e - words_length) (drop words_length out)) 0 a.answers = ap (λ (z : TakenBlock). z.answer) t ∙ ap (λ (z : Outcome). splice (take (e - words_length) (drop words_length out)) 0 z.answer.answers) q in
    let ln : length a.answers ≡ n = s.size ∙ ap (λ (z : Report). cond (done z.number) (4 * count_in k) 0) (sym er) ∙ sym en in
    let f : filled_of a ≡ a.answers = (λ j. a.answers ++ (s.publication j ++ s.output j)) ∙ append-nil a.answers in
    let w : words_of a ≡ told.number ∷ told.gap ∷ told.expected ∷ told.count ∷ told.accepted ∷ told.partly ∷ told.rejected ∷ 0 ∷ 0 ∷ n ∷ 0 ∷ 0 ∷ [] =
    λ j. (re j).number ∷ (re j).gap ∷ (re j).expected ∷ (re j).count ∷ (re j).accepted ∷ (re j).partly ∷ (re j).rejected ∷ s.found j ∷ s.amount j ∷ ln j ∷ length (s.publication j) ∷ length (s.output j) ∷ [] in
    ran-is b out (calls.take i k room) a b₁ a.answers _ n o₁ (λ j. record { bytes = eb j; answer = a }) w f ln (omega arith)
    (o ∙ ap (λ (z : List ℕ). splice z 0 (words_bytes (told.number ∷ told.gap ∷ told.expected ∷ told.count ∷ told.accepted ∷ told.partly ∷ told.rejected ∷ 0 ∷ 0 ∷ n ∷ 0 ∷ 0 ∷ []))) (lent-filled out m e ends inside y a.answers l ey))
