-- Lists of calls: the book and the reviewer stay together from a make that answers 0 on, and every symbol held is a well-formed one.
-- Assumes nothing.
use Prim.Native.Nat.{ℕ}
use mathlib.Core.Path.{◌≡◌, refl, sym, ap, ◌∙◌}
use mathlib.Core.Bool.{Bool, true, false, ◌&&◌, cond}
use mathlib.Core.Logic.{inl, inr}
use mathlib.Core.List.{List, [], ◌∷◌, ◌++◌}
use native.Mathlib.Omega.{arith}
use lib.Dec.{leb, eqb}
use lib.ListN.{length}
use borrow.Author.Tests.{leb-true, eq-eqb}
use Rattle.field.specs.Field.{be, be_bytes}
use Rattle.lists.proofs.Tests.{and-true}
use Rattle.lists.proofs.Members.{In}
use Rattle.text.specs.Form.{symbol_good, symbol_length}
use Rattle.opening.specs.Opening.{fresh_bytes}
use Rattle.line.specs.Line.{done}
use Rattle.calls.specs.Call.{Call, make, add, open_line, start_day, end_day, take, read, protected, convert_len, convert, snapshot_len, snapshot, try_order, set_allowance, tick, number_of, Answer, answer_of, make_good, number_on, after_call, call, bytes_after, answers}
use Rattle.work.specs.Work.{Listed, is_listed, listed_of}
use Rattle.opening.proofs.FreshLaws.{fresh-sound, fresh-bytes, fresh-rest, fresh-pages}
use Rattle.calls.proofs.NumberLaws.{add_done, symbol-back}
use Rattle.review.specs.Reviewer.{parts, reviewed, Review, fresh_review, rest_after, symbols_after, history_after, review_call, review_answer, review_after, review_answers}
use Rattle.review.specs.Lists.{block_is_bytes, blocks_are_bytes}
use Rattle.review.proofs.ListLaws.{core-none}
use Rattle.review.proofs.CallLaws.{Agrees, call-agrees}
use Rattle.review.proofs.AnswerLaws.{call-answer}
use Rattle.entries.specs.Publication.{publication_length}
use Rattle.opening.specs.Layout.{book_length, symbols_most}

-- ---- a list of calls

run-agrees : (n : ℕ) (b : List ℕ) (v : Review) (cs : List Call) → blocks_are_bytes cs ≡ true → Agrees n b v → Agrees n (bytes_after b cs) (review_after v cs)
unfolding blocks_are_bytes
run-agrees n b v [] z a = a
run-agrees n b v (c ∷ cs) z a =
    let t = and-true (block_is_bytes c) (blocks_are_bytes cs) z in
    run-agrees n (call b c).bytes (review_call v c) cs t.1 (call-agrees n b v c t.0 a)

run-answers : (n : ℕ) (b : List ℕ) (v : Review) (cs : List Call) → blocks_are_bytes cs ≡ true → Agrees n b v → answers b cs ≡ review_answers v cs
unfolding blocks_are_bytes
run-answers n b v [] z a = refl
run-answers n b v (c ∷ cs) z a =
    let t = and-true (block_is_bytes c) (blocks_are_bytes cs) z in
    let p : (call b c).answer ≡ review_answer v c = call-answer n b v c t.0 a in
    let q : answers (call b c).bytes cs ≡ review_answers (review_call v c) cs = run-answers n (call b c).bytes (review_call v c) cs t.1 (call-agrees n b v c t.0 a) in
    λ i. p i ∷ q i

-- ---- memory of any bytes in which make has just answered 0

made-good : (m : List ℕ) (n : ℕ) → (call m (make n)).answer.number ≡ 0 → make_good m n ≡ true
unfolding call number_on
made-good m n = go (make_good m n)
  where
    go : (t : Bool) → ◌≡◌ {A = ℕ} (cond t 0 2) 0 → t ≡ true
    go true e = refl
    go false e = absurd (omega arith)

made_bytes : (m : List ℕ) (n : ℕ) → make_good m n ≡ true → (call m (make n)).bytes ≡ fresh_bytes n
unfolding call number_on done after_call
made_bytes m n e = rw e

made-agrees : (m : List ℕ) (n : ℕ) → (call m (make n)).answer.number ≡ 0 → Agrees n (call m (make n)).bytes (fresh_review n)
unfolding make_good parts listed_of
made-agrees m n e =
    let g : make_good m n ≡ true = made-good m n e in
    let a = and-true (leb 1 n) (leb n symbols_most && eqb (length m) (book_length n)) g in
    let c = and-true (leb n symbols_most) (eqb (length m) (book_length n)) a.1 in
    rw (made_bytes m n g)
    (record {
      sound = fresh-sound n (leb-true 1 n a.0) (leb-true n symbols_most c.0);
      bytes = fresh-bytes n (leb-true n symbols_most c.0);
      held = record { rest = fresh-rest n; listed = ap listed_of (fresh-pages n); core = rw (fresh-pages n) core-none };
    })

module _ (m : List ℕ) (n : ℕ) (made : (call m (make n)).answer.number ≡ 0) (cs : List Call) (z : blocks_are_bytes cs ≡ true) where
  pub answers_agree : answers (call m (make n)).bytes cs ≡ review_answers (fresh_review n) cs
  answers_agree = run-answers n (call m (make n)).bytes (fresh_review n) cs z (made-agrees m n made)

  pub after-agrees : Agrees n (bytes_after (call m (make n)).bytes cs) (review_after (fresh_review n) cs)
  after-agrees = run-agrees n (call m (make n)).bytes (fresh_review n) cs z (made-agrees m n made)

-- ---- the eleven bytes of a symbol that is held

abbrev Well : Listed → Type 0
Well x = (symbol_good (be_bytes symbol_length x.symbol) ≡ true) × (be (be_bytes symbol_length x.symbol) ≡ x.symbol)

abbrev Wells : List Listed → Type 0
Wells [] = Unit {0}
Wells (x ∷ xs) = Well x × Wells xs

snoc-wells : (xs : List Listed) (x : Listed) → Wells xs → Well x → Wells (xs ++ (x ∷ []))
snoc-wells [] x w g = (g, tt)
snoc-wells (y ∷ xs) x w g = (w.0, snoc-wells xs x w.1 g)

after-wells : (v : Review) (c : Call) → done (number_of v.rest v.symbols c) ≡ true → Wells v.symbols → Wells (symbols_after v.symbols c)
unfolding symbols_after
after-wells v (make n) d w = tt
after-wells v (add s k l) d w =
    let b : be_bytes symbol_length (be s) ≡ s = symbol-back s (add_done v.rest v.symbols s k l d).good in
    snoc-wells v.symbols (record { symbol = be s; lot = k; primary = l }) w (ap symbol_good b ∙ (add_done v.rest v.symbols s k l d).good, ap be b)
after-wells v (open_line i l) d w = w
after-wells v start_day d w = w
after-wells v end_day d w = w
after-wells v (take i b k) d w = w
after-wells v (read s k) d w = w
after-wells v (protected s m x) d w = w
after-wells v (convert_len x) d w = w
after-wells v (convert x k) d w = w
after-wells v (snapshot_len s) d w = w
after-wells v (snapshot s k) d w = w
after-wells v (try_order s m n k) d w = w
after-wells v (set_allowance n ss) d w = w
after-wells v tick d w = w

call-wells : (v : Review) (c : Call) → Wells v.symbols → Wells (review_call v c).symbols
unfolding review_call
call-wells v c w = go (done (number_of v.rest v.symbols c)) refl
  where
    go : (t : Bool) → done (number_of v.rest v.symbols c) ≡ t
        → Wells (cond t (record { rest = rest_after v.rest c; symbols = symbols_after v.symbols c; history = history_after v.rest v.symbols v.history c }) v).symbols
    go true e = after-wells v c e w
    go false e = w

run-wells : (v : Review) (cs : List Call) → Wells v.symbols → Wells (review_after v cs).symbols
run-wells v [] w = w
run-wells v (c ∷ cs) w = run-wells (review_call v c) cs (call-wells v c w)

well-in : (x : Listed) (xs : List Listed) → Wells xs → In x xs → Well x × (is_listed x.symbol xs ≡ true)
unfolding is_listed
well-in x [] w m = absurd m
well-in x (y ∷ xs) w (inl p) = (rw p w.0, rw (eq-eqb y.symbol x.symbol (ap (λ (z : Listed). z.symbol) (sym p))))
well-in x (y ∷ xs) w (inr m) = let r = well-in x xs w.1 m in (r.0, go (eqb y.symbol x.symbol) r.1)
  where
    go : (t : Bool) → is_listed x.symbol xs ≡ true → cond t true (is_listed x.symbol xs) ≡ true
    go true e = refl
    go false e = e

-- its bytes are a symbol's, and give its number back; it is listed
pub held-symbol : (n : ℕ) (cs : List Call) (x : Listed) → In x (review_after (fresh_review n) cs).symbols
    → (symbol_good (be_bytes symbol_length x.symbol) ≡ true) × ((be (be_bytes symbol_length x.symbol) ≡ x.symbol) × (is_listed x.symbol (review_after (fresh_review n) cs).symbols ≡ true))
held-symbol n cs x i = let w = well-in x (review_after (fresh_review n) cs).symbols (run-wells (fresh_review n) cs tt) i in (w.0.0, (w.0.1, w.1))

-- ---- reads

read_answer : (v : Review) (s : List ℕ) → symbol_good s ≡ true → is_listed (be s) v.symbols ≡ true
    → ((review_answer v (read s publication_length)).number ≡ 0) × ((review_answer v (read s publication_length)).publication ≡ reviewed v.history (be s))
unfolding review_answer answer_of number_of done
read_answer v s g h = (rw (g, h), rw (g, h))

module _ (m : List ℕ) (n : ℕ) (made : (call m (make n)).answer.number ≡ 0) (cs : List Call) (z : blocks_are_bytes cs ≡ true) where
  abbrev b : List ℕ
  b = bytes_after (call m (make n)).bytes cs

  abbrev v : Review
  v = review_after (fresh_review n) cs

  pub reads-agree : (x : Listed) → In x v.symbols
      → ((call b (read (be_bytes symbol_length x.symbol) publication_length)).answer.number ≡ 0) × ((call b (read (be_bytes symbol_length x.symbol) publication_length)).answer.publication ≡ reviewed v.history x.symbol)
  reads-agree x i =
      let s : List ℕ = be_bytes symbol_length x.symbol in
      let w = well-in x v.symbols (run-wells (fresh_review n) cs tt) i in
      let p : (call b (read (be_bytes symbol_length x.symbol) publication_length)).answer ≡ review_answer v (read (be_bytes symbol_length x.symbol) publication_length) =
      call-answer n b v (read (be_bytes symbol_length x.symbol) publication_length) refl (after-agrees m n made cs z) in
      let r = read_answer v (be_bytes symbol_length x.symbol) w.0.0 (ap (λ (k : ℕ). is_listed k v.symbols) w.0.1 ∙ w.1) in
      (ap (λ (a : Answer). a.number) p ∙ r.0, ap (λ (a : Answer). a.publication) p ∙ r.1 ∙ ap (reviewed v.history) w.0.1)
