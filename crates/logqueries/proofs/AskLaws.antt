-- The calls that read a book, as records of a log.
-- Assumes nothing.
use Prim.Native.Nat.{ℕ, ◌+◌, ◌*◌, ◌-◌, ◌≤◌}
use mathlib.Core.Path.{◌≡◌, refl, ap, sym, subst, ◌∙◌}
use mathlib.Core.Bool.{Bool, true, false, ◌&&◌, cond}
use mathlib.Core.List.{List, [], ◌∷◌, ◌++◌, append-nil}
use Rattle.std.specs.Prelude.{Option, None, Some}
use native.Mathlib.Omega.{arith}
use lib.Dec.{eqb, ltb}
use lib.ListN.{length, take, drop}
use borrow.Rule.Slice.PartMut.{put_mid}
use Rattle.field.specs.Field.{be, part, splice}
use Rattle.field.proofs.Laws.{length_part}
use Rattle.field.proofs.ZeroLaws.{splice-nothing}
use Rattle.lists.proofs.Tests.{and-true, clash}
use Rattle.text.specs.Form.{symbol_good}
use Rattle.entries.specs.Publication.{publication_length}
use Rattle.page.specs.Layout.{entries_at, page_length}
use Rattle.update.proofs.SearchLaws.{is_at}
use Rattle.opening.specs.Layout.{page_start}
use Rattle.opening.specs.Opening.{sound, rest_in, page_at, pages_in, page_place}
use Rattle.opening.proofs.ReadLaws.{found-room}
use Rattle.work.specs.Work.{listed_of, is_listed}
use Rattle.work.proofs.PlaceLaws.{listed_at}
use Rattle.line.specs.Line.{done}
use Rattle.sweep.specs.Sweep.{step_length, steps_length}
use Rattle.calls.specs.Call.{Call, Answer, Outcome, bare, published, published_on, is_known, queried, run_told, number_of, answer_of, after_call, number_on, answer_on, call}
use Rattle.calls.specs.Call as calls
use Rattle.calls.specs.Buffers.{ReadOut, read_out, RunOut, run_out, FeedOut, feed_out, OrderOut, order_out}
use Rattle.calls.proofs.ConvertLaws.{convert-keeps}
use Rattle.calls.proofs.OrderLaws.{order-keeps}
use Rattle.calls.proofs.SnapshotLaws.{feed-keeps}
use Rattle.query.proofs.ReadLaws.{published-at}
use Rattle.logcalls.specs.Answers.{words_bytes, words_length, words_of, filled_of, answer_bytes, answer_most, filled_most, lent_of}
use Rattle.logcalls.specs.Replayed.{Ran, ran_call}
use Rattle.logcalls.proofs.RoomLaws.{lent-most, read-room, convert-room, feed-room, order-room}
use Rattle.logcalls.proofs.FilledLaws.{OutputOnly, output_only, convert-fills, convert-finds, feed-fills, order-fills}
use Rattle.logcalls.proofs.RanLaws.{ran-is, filled-inside, lent_length, lent-filled}

-- ---- an answer of numbers alone

pub ran-words : (b out : List ℕ) (c : Call) (a : Answer) (b₁ ws o₁ : List ℕ) → ◌≡◌ {A = Outcome} (record { bytes = b₁; answer = a }) (call b c) → words_of a ≡ ws → filled_of a ≡ []
    → answer_most ≤ length out → o₁ ≡ splice out 0 (words_bytes ws) → record { known = true; length = words_length; bytes = b₁; output = o₁ } ≡ ran_call b out (Some c)
ran-words b out c a b₁ ws o₁ e w f h o =
    ran-is b out c a b₁ [] ws 0 o₁ e w f refl (omega arith) (o ∙ ap (λ (z : List ℕ). splice z 0 (words_bytes ws)) (sym (splice-nothing out words_length)))

-- ---- an answer that fills a lent part of the output

-- m: the length of the part; e: its end; y: what the call left of it; x: what it filled
pub ran-lent : (b out : List ℕ) (c : Call) (m e : ℕ) (x y ws : List ℕ) (n : ℕ) (b₁ o₁ : List ℕ) → e ≡ words_length + m → e ≤ length out → b₁ ≡ (call b c).bytes
    → words_of (call b c).answer ≡ ws → filled_of (call b c).answer ≡ x → length x ≡ n → y ≡ splice (take (e - words_length) (drop words_length out)) 0 x
    → length y ≡ length (take (e - words_length) (drop words_length out)) → o₁ ≡ splice (put_mid words_length (e - words_length) out y) 0 (words_bytes ws)
    → record { known = true; length = words_length + n; bytes = b₁; output = o₁ } ≡ ran_call b out (Some c)
ran-lent b out c m e x y ws n b₁ o₁ ends inside eb w f l ey ly o =
    ran-is b out c (call b c).answer b₁ x ws n o₁ (λ j. record { bytes = eb j; answer = (call b c).answer }) w f l (omega arith)
    (o ∙ ap (λ (z : List ℕ). splice z 0 (words_bytes ws)) (lent-filled out m e ends inside y x ly ey))

same : (t : Bool) (b : List ℕ) → cond t b b ≡ b
same true b = refl
same false b = refl

-- ---- a read

abbrev publication_only : Answer → Answer
publication_only a =
    record { number = a.number; gap = 0; expected = 0; count = 0; accepted = 0; partly = 0; rejected = 0; answers = []; publication = a.publication; found = 0; amount = 0; output = [] }

record PublicationOnly (a : Answer) : Type 0 where
  shape : a ≡ publication_only a
  size : length a.publication ≡ cond (eqb a.number 0) publication_length 0

module _ (b s : List ℕ) where
  known-length : sound b ≡ true → is_known (listed_of (pages_in b)) s ≡ true → length (published_on b (be s)) ≡ publication_length
  unfolding page_at
  known-length g k = go (page_place b (be s)) refl (sym (listed_at b (be s)) ∙ (and-true (symbol_good s) (is_listed (be s) (listed_of (pages_in b))) k).1)
    where
      go : (r : Option ℕ) → page_place b (be s) ≡ r → is_at r ≡ true → length (published_on b (be s)) ≡ publication_length
      go (Some j) e t =
          let h = found-room b (be s) j (Some j) g (sym e) refl in
          let p : length (page_at b j) ≡ page_length = length_part b (page_start j) page_length h.0 in
          ap length (published-at b (be s) j e) ∙ length_part (page_at b j) entries_at publication_length (omega (arith, p))
      go None e t = clash (sym t)

  read-fills : (room : ℕ) → PublicationOnly (call b (calls.read s room)).answer
  unfolding call number_on number_of answer_of done
  read-fills room = go (sound b) refl (ltb room publication_length) (is_known (listed_of (pages_in b)) s) refl
    where
      numbered : Bool → Bool → Bool → ℕ
      numbered g t k = cond g (cond t 9 (cond k 0 10)) 1

      go : (g : Bool) → sound b ≡ g → (t k : Bool) → is_known (listed_of (pages_in b)) s ≡ k → PublicationOnly (cond g (published (numbered g t k) (published_on b (be s))) (bare 1))
      go false eg t k ek = record { shape = refl; size = refl }
      go true eg true k ek = record { shape = refl; size = refl }
      go true eg false true ek = record { shape = refl; size = known-length eg ek }
      go true eg false false ek = record { shape = refl; size = refl }

  read_keeps : (room : ℕ) → (call b (calls.read s room)).bytes ≡ b
  unfolding call after_call
  read_keeps room = same (done (number_on b (calls.read s room))) b

  pub ran-read : (out : List ℕ) (room e k n : ℕ) (y o₁ : List ℕ) → e ≡ words_length + lent_of room publication_length → answer_most ≤ length out
      → ◌≡◌ {A = ReadOut} (record { number = k; publication = y }) (read_out b s (take (e - words_length) (drop words_length out)))
      → length y ≡ length (take (e - words_length) (drop words_length out)) → n ≡ cond (eqb k 0) publication_length 0
      → o₁ ≡ splice (put_mid words_length (e - words_length) out y) 0 (words_bytes (k ∷ 0 ∷ 0 ∷ 0 ∷ 0 ∷ 0 ∷ 0 ∷ 0 ∷ 0 ∷ 0 ∷ n ∷ 0 ∷ []))
      → record { known = true; length = words_length + n; bytes = b; output = o₁ } ≡ ran_call b out (Some (calls.read s room))
  unfolding read_out
  ran-read out room e k n y o₁ ends long t ly en o =
      let inside : e ≤ length out = omega (arith, lent-most room publication_length) in
      let lent : List ℕ = take (e - words_length) (drop words_length out) in
      let q : call b (calls.read s (length lent)) ≡ call b (calls.read s room) = ap (λ (z : ℕ). call b (calls.read s z)) (lent_length out (lent_of room publication_length) e ends inside) ∙ read-room b s room in
      let a : Answer = (call b (calls.read s room)).answer in
      let f : PublicationOnly a = read-fills room in
      let ek : a.number ≡ k = sym (ap (λ (z : ReadOut). z.number) t ∙ ap (λ (z : Outcome). z.answer.number) q) in
      let ey : y ≡ splice lent 0 a.publication = ap (λ (z : ReadOut). z.publication) t ∙ ap (λ (z : Outcome). splice lent 0 z.answer.publication) q in
      let ln : length a.publication ≡ n = f.size ∙ ap (λ (z : ℕ). cond (eqb z 0) publication_length 0) ek ∙ sym en in
      ran-lent
      b
      out
      (calls.read s room)
      (lent_of room publication_length)
      e
      a.publication
      y
      _
      n
      b
      o₁
      ends
      inside
      (sym (read_keeps room))
      (ap words_of f.shape ∙ (λ j. ek j ∷ 0 ∷ 0 ∷ 0 ∷ 0 ∷ 0 ∷ 0 ∷ 0 ∷ 0 ∷ 0 ∷ ln j ∷ 0 ∷ []))
      (ap filled_of f.shape ∙ append-nil a.publication)
      ln
      ey
      ly
      o

-- ---- an output

-- number, found and amount as the code has them
pub ran-output : (b out : List ℕ) (c : Call) (m e k g v n : ℕ) (y o₁ : List ℕ) → e ≡ words_length + m → e ≤ length out → OutputOnly n (call b c).answer → (call b c).bytes ≡ b
    → k ≡ (call b c).answer.number → g ≡ (call b c).answer.found → v ≡ (call b c).answer.amount
    → y ≡ splice (take (e - words_length) (drop words_length out)) 0 (call b c).answer.output → length y ≡ length (take (e - words_length) (drop words_length out))
    → o₁ ≡ splice (put_mid words_length (e - words_length) out y) 0 (words_bytes (k ∷ 0 ∷ 0 ∷ 0 ∷ 0 ∷ 0 ∷ 0 ∷ g ∷ v ∷ 0 ∷ 0 ∷ n ∷ []))
    → record { known = true; length = words_length + n; bytes = b; output = o₁ } ≡ ran_call b out (Some c)
ran-output b out c m e k g v n y o₁ ends inside f kept ek eg ev ey ly o =
    let dk : (call b c).answer.number ≡ k = sym ek in
    let dg : (call b c).answer.found ≡ g = sym eg in
    let dv : (call b c).answer.amount ≡ v = sym ev in
    ran-lent b out c m e (call b c).answer.output y _ n b o₁ ends inside (sym kept)
    (ap words_of f.shape ∙ (λ j. dk j ∷ 0 ∷ 0 ∷ 0 ∷ 0 ∷ 0 ∷ 0 ∷ dg j ∷ dv j ∷ 0 ∷ 0 ∷ f.size j ∷ []))
    (ap filled_of f.shape) f.size ey ly o

module _ (b out : List ℕ) (room e k n : ℕ) (y o₁ : List ℕ) (long : answer_most ≤ length out) where
  pub ran-convert : (v : List ℕ) → e ≡ words_length + lent_of room filled_most
      → ◌≡◌ {A = RunOut} (record { number = k; length = n; output = y }) (run_out b v (take (e - words_length) (drop words_length out)))
      → length y ≡ length (take (e - words_length) (drop words_length out))
      → o₁ ≡ splice (put_mid words_length (e - words_length) out y) 0 (words_bytes (k ∷ 0 ∷ 0 ∷ 0 ∷ 0 ∷ 0 ∷ 0 ∷ 0 ∷ n ∷ 0 ∷ 0 ∷ n ∷ []))
      → record { known = true; length = words_length + n; bytes = b; output = o₁ } ≡ ran_call b out (Some (calls.convert v room))
  unfolding run_out
  ran-convert v ends t ly o =
      let inside : e ≤ length out = omega (arith, lent-most room filled_most) in
      let lent : List ℕ = take (e - words_length) (drop words_length out) in
      let q : call b (calls.convert v (length lent)) ≡ call b (calls.convert v room) = ap (λ (z : ℕ). call b (calls.convert v z)) (lent_length out (lent_of room filled_most) e ends inside) ∙ convert-room b v room in
      let en : n ≡ (call b (calls.convert v room)).answer.amount = ap (λ (z : RunOut). z.length) t ∙ ap (λ (z : Outcome). z.answer.amount) q in
      ran-output b out (calls.convert v room) (lent_of room filled_most) e k 0 n n y o₁ ends inside
      (subst (λ (z : ℕ). OutputOnly z (call b (calls.convert v room)).answer) (sym en) (convert-fills b v room))
      (convert-keeps b v room)
      (ap (λ (z : RunOut). z.number) t ∙ ap (λ (z : Outcome). z.answer.number) q)
      (sym (convert-finds b v room))
      en
      (ap (λ (z : RunOut). z.output) t ∙ ap (λ (z : Outcome). splice lent 0 z.answer.output) q)
      ly o

  pub convert-most : (v : List ℕ) → e ≡ words_length + lent_of room filled_most
      → ◌≡◌ {A = RunOut} (record { number = k; length = n; output = y }) (run_out b v (take (e - words_length) (drop words_length out)))
      → length y ≡ length (take (e - words_length) (drop words_length out)) → n ≤ filled_most
  unfolding run_out
  convert-most v ends t ly =
      let inside : e ≤ length out = omega (arith, lent-most room filled_most) in
      let lent : List ℕ = take (e - words_length) (drop words_length out) in
      let a : Answer = (call b (calls.convert v (length lent))).answer in
      let en : n ≡ a.amount = ap (λ (z : RunOut). z.length) t in
      let ey : y ≡ splice lent 0 a.output = ap (λ (z : RunOut). z.output) t in
      omega (arith, filled-inside lent a.output, ap length ey, ly, lent_length out (lent_of room filled_most) e ends inside, lent-most room filled_most, (convert-fills b v (length lent)).size, en)

  pub ran-feed : (s : List ℕ) (g : ℕ) → e ≡ words_length + lent_of room filled_most
      → ◌≡◌ {A = FeedOut} (record { number = k; blocks = g; bytes = n; output = y }) (feed_out b s (take (e - words_length) (drop words_length out)))
      → length y ≡ length (take (e - words_length) (drop words_length out))
      → o₁ ≡ splice (put_mid words_length (e - words_length) out y) 0 (words_bytes (k ∷ 0 ∷ 0 ∷ 0 ∷ 0 ∷ 0 ∷ 0 ∷ g ∷ n ∷ 0 ∷ 0 ∷ n ∷ []))
      → record { known = true; length = words_length + n; bytes = b; output = o₁ } ≡ ran_call b out (Some (calls.snapshot s room))
  unfolding feed_out
  ran-feed s g ends t ly o =
      let inside : e ≤ length out = omega (arith, lent-most room filled_most) in
      let lent : List ℕ = take (e - words_length) (drop words_length out) in
      let q : call b (calls.snapshot s (length lent)) ≡ call b (calls.snapshot s room) = ap (λ (z : ℕ). call b (calls.snapshot s z)) (lent_length out (lent_of room filled_most) e ends inside) ∙ feed-room b s room in
      let en : n ≡ (call b (calls.snapshot s room)).answer.amount = ap (λ (z : FeedOut). z.bytes) t ∙ ap (λ (z : Outcome). z.answer.amount) q in
      ran-output b out (calls.snapshot s room) (lent_of room filled_most) e k g n n y o₁ ends inside
      (subst (λ (z : ℕ). OutputOnly z (call b (calls.snapshot s room)).answer) (sym en) (feed-fills b s room))
      (feed-keeps b s room)
      (ap (λ (z : FeedOut). z.number) t ∙ ap (λ (z : Outcome). z.answer.number) q)
      (ap (λ (z : FeedOut). z.blocks) t ∙ ap (λ (z : Outcome). z.answer.found) q)
      en
      (ap (λ (z : FeedOut). z.output) t ∙ ap (λ (z : Outcome). splice lent 0 z.answer.output) q)
      ly o

  pub feed-most : (s : List ℕ) (g : ℕ) → e ≡ words_length + lent_of room filled_most
      → ◌≡◌ {A = FeedOut} (record { number = k; blocks = g; bytes = n; output = y }) (feed_out b s (take (e - words_length) (drop words_length out)))
      → length y ≡ length (take (e - words_length) (drop words_length out)) → n ≤ filled_most
  unfolding feed_out
  feed-most s g ends t ly =
      let inside : e ≤ length out = omega (arith, lent-most room filled_most) in
      let lent : List ℕ = take (e - words_length) (drop words_length out) in
      let a : Answer = (call b (calls.snapshot s (length lent))).answer in
      let en : n ≡ a.amount = ap (λ (z : FeedOut). z.bytes) t in
      let ey : y ≡ splice lent 0 a.output = ap (λ (z : FeedOut). z.output) t in
      omega (arith, filled-inside lent a.output, ap length ey, ly, lent_length out (lent_of room filled_most) e ends inside, lent-most room filled_most, (feed-fills b s (length lent)).size, en)

  pub ran-order : (s : List ℕ) (m w g v : ℕ) → e ≡ words_length + lent_of room steps_length
      → ◌≡◌ {A = OrderOut} (record { number = k; found = g; amount = v; steps = y }) (order_out b s m w (take (e - words_length) (drop words_length out)))
      → length y ≡ length (take (e - words_length) (drop words_length out)) → n ≡ step_length * g
      → o₁ ≡ splice (put_mid words_length (e - words_length) out y) 0 (words_bytes (k ∷ 0 ∷ 0 ∷ 0 ∷ 0 ∷ 0 ∷ 0 ∷ g ∷ v ∷ 0 ∷ 0 ∷ n ∷ []))
      → record { known = true; length = words_length + n; bytes = b; output = o₁ } ≡ ran_call b out (Some (calls.try_order s m w room))
  unfolding order_out
  ran-order s m w g v ends t ly en o =
      let inside : e ≤ length out = omega (arith, lent-most room steps_length) in
      let lent : List ℕ = take (e - words_length) (drop words_length out) in
      let q : call b (calls.try_order s m w (length lent)) ≡ call b (calls.try_order s m w room) = ap (λ (z : ℕ). call b (calls.try_order s m w z)) (lent_length out (lent_of room steps_length) e ends inside) ∙ order-room b s m w room in
      let eg : g ≡ (call b (calls.try_order s m w room)).answer.found = ap (λ (z : OrderOut). z.found) t ∙ ap (λ (z : Outcome). z.answer.found) q in
      ran-output b out (calls.try_order s m w room) (lent_of room steps_length) e k g v n y o₁ ends inside
      (subst (λ (z : ℕ). OutputOnly z (call b (calls.try_order s m w room)).answer) (sym (en ∙ ap (λ (z : ℕ). step_length * z) eg)) (order-fills b s m w room))
      (order-keeps b s m w room)
      (ap (λ (z : OrderOut). z.number) t ∙ ap (λ (z : Outcome). z.answer.number) q)
      eg
      (ap (λ (z : OrderOut). z.amount) t ∙ ap (λ (z : Outcome). z.answer.amount) q)
      (ap (λ (z : OrderOut). z.steps) t ∙ ap (λ (z : Outcome). splice lent 0 z.answer.output) q)
      ly o
