-- Each block of a snapshot as the code writes it: front, messages, checksum.
-- Assumes nothing.
use Prim.Native.Nat.{ℕ, suc, ◌+◌, ◌*◌, ◌-◌, ◌%◌, ◌≤◌}
use mathlib.Core.Path.{◌≡◌, refl, sym, ap, ◌∙◌}
use mathlib.Core.List.{List, [], ◌∷◌, ◌++◌, append_assoc, append-nil}
use native.Mathlib.Omega.{arith}
use lib.Dec.{lit≤}
use lib.ListN.{length, take, drop, length-append, length-map, drop_of_length-le}
use Rattle.field.specs.Field.{part, splice, be_bytes}
use Rattle.field.specs.Ascii.{A, Z}
use Rattle.field.proofs.Laws.{part-part, length_part}
use Rattle.lists.specs.Lists.{sum}
use Rattle.block.specs.Written.{joined}
use Rattle.entries.specs.Publication.{entry_length, publication_length}
use Rattle.page.specs.Layout.{entries_at, kept_entries}
use Rattle.snapshot.specs.Snapshot.{both_length, both_in, Shown}
use Rattle.snapshot.specs.Feed.{zeros, evened, feed_header, feed_front, feed_with, feed_checksum, feed_block, consolidated, participant, finra_message, consolidated_length, finra_length}
use Rattle.snapshot.proofs.MessageLaws.{Sized, length-consolidated, length-finra}
use Rattle.feedform.proofs.WriteLaws.{Written, begin, behind}
use Rattle.feed.specs.code.Blocks.{Lent, shown_in, of_c, of_p, of_f, only_messages, first_messages, second_messages}
use Rattle.feed.proofs.LetterLaws.{length-letters}

-- ---- the seal

module _ (n q c f : ℕ) (t : List ℕ) where
  abbrev raw : List ℕ
  raw = feed_front n q c f 0 ++ t

  checksum-raw : sum raw % 65536 ≡ feed_checksum raw
  unfolding feed_front be_bytes feed_checksum sum
  checksum-raw = let e : sum raw ≡ sum (take 22 raw ++ drop feed_header raw) = omega arith in ap (λ (k : ℕ). k % 65536) e

  sealed : (k : ℕ) → splice raw 22 (be_bytes 2 k) ≡ feed_front n q c f k ++ t
  unfolding feed_front be_bytes splice
  sealed k = refl

-- a block of an even length has no pad byte
module _ (q f : ℕ) (ms : List (List ℕ)) (even : (feed_header + length (joined ms)) % 2 ≡ 0) where
  with-is : (k : ℕ) → feed_front (feed_header + length (joined ms)) q (length ms) f k ++ joined ms ≡ feed_with q f ms k
  unfolding feed_with
  with-is k =
      let n : feed_header + length (joined ms) ≡ evened (feed_header + length (joined ms)) = omega arith in
      (λ i. feed_front (n i) q (length ms) f k ++ sym (append-nil (joined ms)) i)
      ∙ ap (λ (m : ℕ). feed_front (evened (feed_header + length (joined ms))) q (length ms) f k ++ (joined ms ++ zeros m)) (sym even)

  block-is : (n c : ℕ) (b b' : List ℕ) → n ≡ feed_header + length (joined ms) → c ≡ length ms → b ≡ feed_front n q c f 0 ++ joined ms → b' ≡ splice b 22 (be_bytes 2 (sum b % 65536))
      → b' ≡ feed_block q f ms
  unfolding feed_block
  block-is n c b b' en ec e s =
      let w : List ℕ = feed_front (feed_header + length (joined ms)) q (length ms) f 0 ++ joined ms in
      let r : b ≡ w = e ∙ (λ i. feed_front (en i) q (ec i) f 0 ++ joined ms) in
      s ∙ ap (λ (l : List ℕ). splice l 22 (be_bytes 2 (sum l % 65536))) r
      ∙ ap (λ (k : ℕ). splice w 22 (be_bytes 2 k)) (checksum-raw (feed_header + length (joined ms)) q (length ms) f (joined ms))
      ∙ sealed (feed_header + length (joined ms)) q (length ms) f (joined ms) (feed_checksum w)
      ∙ with-is (feed_checksum w) ∙ ap (λ (l : List ℕ). feed_with q f ms (feed_checksum l)) (with-is 0)

-- ---- pieces

splice-whole : (b x : List ℕ) → length x ≡ length b → splice b 0 x ≡ x
unfolding splice
splice-whole b x e = let h : length b ≤ 0 + length x = omega (arith, e) in ap (λ (l : List ℕ). x ++ l) (drop_of_length-le b h) ∙ append-nil x

joined-append : (a b : List (List ℕ)) → joined (a ++ b) ≡ joined a ++ joined b
joined-append [] b = refl
joined-append (m ∷ a) b = ap (λ (l : List ℕ). m ++ l) (joined-append a b) ∙ sym (append_assoc m (joined a) (joined b))

length_front : (n q c f : ℕ) → length (feed_front n q c f 0) ≡ feed_header
unfolding feed_front be_bytes
length_front n q c f = refl

module _ (s p : List ℕ) (lent : Lent s p) where
  -- the entries as the code hands them on
  national-part : part p entries_at both_length ≡ part (kept_entries p) 0 both_length
  national-part = sym (part-part p entries_at publication_length 0 both_length (lit≤ tt))

  finra-part : part p (entries_at + both_length) both_length ≡ part (kept_entries p) both_length both_length
  finra-part = sym (part-part p entries_at publication_length both_length both_length (lit≤ tt))

  sized : (e : List ℕ) → length e ≡ both_length → Sized (both_in e)
  sized e h = record { bid = length_part e 0 entry_length (omega arith); offer = length_part e entry_length entry_length (omega arith) }

  pub length-kept : length (kept_entries p) ≡ publication_length
  length-kept = length_part p entries_at publication_length (omega (arith, lent.page))

  length-c : length (of_c s p) ≡ consolidated_length
  length-c = length-consolidated s (both_in (part (kept_entries p) 0 both_length)) lent.symbol (sized (part (kept_entries p) 0 both_length) (length_part (kept_entries p) 0 both_length (omega (arith, length-kept))))

  length-f : length (of_f s p) ≡ finra_length
  length-f = length-finra s (both_in (part (kept_entries p) both_length both_length)) lent.symbol (sized (part (kept_entries p) both_length both_length) (length_part (kept_entries p) both_length both_length (omega (arith, length-kept))))

  count-letters : (vs : List Shown) → length (of_p s vs) ≡ length vs
  count-letters vs = length-map vs (participant s)

  module _ (b b1 : List ℕ) (n q c f : ℕ) (e1 : b1 ≡ splice b 0 (feed_front n q c f 0)) where
    -- the front and R C
    opened : (b2 : List ℕ) → b2 ≡ splice b1 24 (consolidated s (both_in (part p entries_at both_length))) → Written b 0 126 (feed_front n q c f 0 ++ of_c s p) b2
    opened b2 e2 =
        behind (begin b 0 24 (feed_front n q c f 0) b1 (length_front n q c f) e1) consolidated_length 126 (of_c s p) b2 length-c refl
        (e2 ∙ ap (λ (e : List ℕ). splice b1 24 (consolidated s (both_in e))) national-part)

    -- R F at the end
    closed : (x : List ℕ) (k at : ℕ) (b3 b4 : List ℕ) → Written b 0 k x b3 → at ≡ k → b4 ≡ splice b3 at (finra_message s (both_in (part p (entries_at + both_length) both_length))) → Written b 0 (k + finra_length) (x ++ of_f s p) b4
    closed x k at b3 b4 w a e =
        let z : 0 + k ≡ k = omega arith in
        behind w finra_length (k + finra_length) (of_f s p) b4 length-f refl
        (e ∙ (λ i. splice b3 ((a ∙ sym z) i) (finra_message s (both_in (finra-part i)))))

  -- ---- all in one

  pub only-is : (k n : ℕ) (b b1 b2 b3 b4 b5 : List ℕ) → k ≡ length (shown_in p A (Z + 1)) → length b ≡ n → n ≡ 194 + 62 * k
      → b1 ≡ splice b 0 (feed_front n 1 (k + 2) 4 0) → b2 ≡ splice b1 24 (consolidated s (both_in (part p entries_at both_length)))
      → b3 ≡ splice b2 126 (joined (of_p s (shown_in p A (Z + 1)))) → b4 ≡ splice b3 (n - 68) (finra_message s (both_in (part p (entries_at + both_length) both_length)))
      → b5 ≡ splice b4 22 (be_bytes 2 (sum b4 % 65536)) → b5 ≡ feed_block 1 4 (only_messages s p)
  unfolding only_messages
  only-is k n b b1 b2 b3 b4 b5 ek eb en e1 e2 e3 e4 e5 =
      let vs = shown_in p A (Z + 1) in
      let front = feed_front n 1 (k + 2) 4 0 in
      let ms : List (List ℕ) = of_c s p ∷ (of_p s vs ++ (of_f s p ∷ [])) in
      let l : length (joined (of_p s vs)) ≡ 62 * k = length-letters s lent.symbol vs ∙ ap (λ (i : ℕ). 62 * i) (sym ek) in
      let w3 : Written b 0 (126 + 62 * k) (front ++ of_c s p ++ joined (of_p s vs)) b3 = behind (opened b b1 n 1 (k + 2) 4 e1 b2 e2) (62 * k) (126 + 62 * k) (joined (of_p s vs)) b3 l refl e3 in
      let w4 : Written b 0 (126 + 62 * k + finra_length) (front ++ of_c s p ++ joined (of_p s vs) ++ of_f s p) b4 = closed b b1 n 1 (k + 2) 4 e1 (front ++ of_c s p ++ joined (of_p s vs)) (126 + 62 * k) (n - 68) b3 b4 w3 (omega arith) e4 in
      let j : front ++ of_c s p ++ joined (of_p s vs) ++ of_f s p ≡ front ++ joined ms =
      append_assoc (front ++ of_c s p) (joined (of_p s vs)) (of_f s p) ∙ append_assoc front (of_c s p) (joined (of_p s vs) ++ of_f s p)
      ∙ ap (λ (t : List ℕ). front ++ (of_c s p ++ (joined (of_p s vs) ++ t))) (sym (append-nil (of_f s p)))
      ∙ ap (λ (t : List ℕ). front ++ (of_c s p ++ t)) (sym (joined-append (of_p s vs) (of_f s p ∷ []))) in
      let m : length (joined ms) ≡ 170 + 62 * k =
      length-append (of_c s p) (joined (of_p s vs ++ (of_f s p ∷ []))) ∙ ap (λ (t : List ℕ). length (of_c s p) + length t) (joined-append (of_p s vs) (of_f s p ∷ []))
      ∙ omega (arith, length-append (joined (of_p s vs)) (of_f s p ++ []), ap length (append-nil (of_f s p)), l, length-c, length-f) in
      let c : length ms ≡ k + 2 = ap suc (length-append (of_p s vs) (of_f s p ∷ [])) ∙ omega (arith, count-letters vs) in
      let r : b4 ≡ front ++ joined ms = w4.is ∙ splice-whole b (front ++ of_c s p ++ joined (of_p s vs) ++ of_f s p) (omega (arith, w4.long)) ∙ j in
      block-is 1 4 ms (omega (arith, m)) n (k + 2) b4 b5 (omega (arith, m)) (sym c) r e5

  -- ---- the first of two

  pub first-is : (to : ℕ) (b b1 b2 b3 b4 : List ℕ) → length (shown_in p A to) ≡ 14 → length b ≡ 994
      → b1 ≡ splice b 0 (feed_front 994 1 15 1 0) → b2 ≡ splice b1 24 (consolidated s (both_in (part p entries_at both_length)))
      → b3 ≡ splice b2 126 (joined (of_p s (shown_in p A to))) → b4 ≡ splice b3 22 (be_bytes 2 (sum b3 % 65536)) → b4 ≡ feed_block 1 1 (first_messages s p to)
  unfolding first_messages
  first-is to b b1 b2 b3 b4 ek eb e1 e2 e3 e4 =
      let vs = shown_in p A to in
      let front = feed_front 994 1 15 1 0 in
      let ms : List (List ℕ) = of_c s p ∷ of_p s vs in
      let l : length (joined (of_p s vs)) ≡ 868 = length-letters s lent.symbol vs ∙ ap (λ (i : ℕ). 62 * i) ek in
      let w3 : Written b 0 994 (front ++ of_c s p ++ joined (of_p s vs)) b3 = behind (opened b b1 994 1 15 1 e1 b2 e2) 868 994 (joined (of_p s vs)) b3 l refl e3 in
      let m : length (joined ms) ≡ 970 = length-append (of_c s p) (joined (of_p s vs)) ∙ omega (arith, l, length-c) in
      let r : b3 ≡ front ++ joined ms = w3.is ∙ splice-whole b (front ++ of_c s p ++ joined (of_p s vs)) (omega (arith, w3.long)) ∙ append_assoc front (of_c s p) (joined (of_p s vs)) in
      block-is 1 1 ms (omega (arith, m)) 994 15 b3 b4 (omega (arith, m)) (omega (arith, count-letters vs)) r e4

  -- ---- the second

  pub second_is : (from k n : ℕ) (b b1 b2 b3 b4 : List ℕ) → k ≡ length (shown_in p from (Z + 1)) → length b ≡ n → n ≡ 92 + 62 * k
      → b1 ≡ splice b 0 (feed_front n 16 (k + 1) 3 0) → b2 ≡ splice b1 24 (joined (of_p s (shown_in p from (Z + 1))))
      → b3 ≡ splice b2 (n - 68) (finra_message s (both_in (part p (entries_at + both_length) both_length))) → b4 ≡ splice b3 22 (be_bytes 2 (sum b3 % 65536))
      → b4 ≡ feed_block 16 3 (second_messages s p from)
  unfolding second_messages
  second_is from k n b b1 b2 b3 b4 ek eb en e1 e2 e3 e4 =
      let vs = shown_in p from (Z + 1) in
      let front = feed_front n 16 (k + 1) 3 0 in
      let ms : List (List ℕ) = of_p s vs ++ (of_f s p ∷ []) in
      let l : length (joined (of_p s vs)) ≡ 62 * k = length-letters s lent.symbol vs ∙ ap (λ (i : ℕ). 62 * i) (sym ek) in
      let w2 : Written b 0 (24 + 62 * k) (front ++ joined (of_p s vs)) b2 = behind (begin b 0 24 front b1 (length_front n 16 (k + 1) 3) e1) (62 * k) (24 + 62 * k) (joined (of_p s vs)) b2 l refl e2 in
      let w3 : Written b 0 (24 + 62 * k + finra_length) (front ++ joined (of_p s vs) ++ of_f s p) b3 = closed b b1 n 16 (k + 1) 3 e1 (front ++ joined (of_p s vs)) (24 + 62 * k) (n - 68) b2 b3 w2 (omega arith) e3 in
      let j : front ++ joined (of_p s vs) ++ of_f s p ≡ front ++ joined ms =
      append_assoc front (joined (of_p s vs)) (of_f s p) ∙ ap (λ (t : List ℕ). front ++ (joined (of_p s vs) ++ t)) (sym (append-nil (of_f s p)))
      ∙ ap (λ (t : List ℕ). front ++ t) (sym (joined-append (of_p s vs) (of_f s p ∷ []))) in
      let m : length (joined ms) ≡ 68 + 62 * k =
      ap length (joined-append (of_p s vs) (of_f s p ∷ [])) ∙ omega (arith, length-append (joined (of_p s vs)) (of_f s p ++ []), ap length (append-nil (of_f s p)), l, length-f) in
      let c : length ms ≡ k + 1 = length-append (of_p s vs) (of_f s p ∷ []) ∙ omega (arith, count-letters vs) in
      let r : b3 ≡ front ++ joined ms = w3.is ∙ splice-whole b (front ++ joined (of_p s vs) ++ of_f s p) (omega (arith, w3.long)) ∙ j in
      block-is 16 3 ms (omega (arith, m)) n (k + 1) b3 b4 (omega (arith, m)) (sym c) r e4
