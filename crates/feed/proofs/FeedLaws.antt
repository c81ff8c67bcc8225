-- The blocks that the code writes are those of the symbol's snapshot.
-- Assumes nothing.
use Prim.Native.Nat.{ℕ, ◌+◌, ◌*◌, ◌-◌, ◌≤◌, ◌<◌}
use mathlib.Core.Path.{◌≡◌, refl, sym, ap, ◌∙◌}
use mathlib.Core.List.{List, [], ◌∷◌, ◌++◌, append-nil}
use native.Mathlib.Omega.{arith}
use lib.ListN.{length, take, drop}
use borrow.Author.Tests.{le-leb, lt-leb}
use borrow.Rule.Slice.PartMut.{put_mid}
use Rattle.field.specs.Field.{splice}
use Rattle.field.specs.Ascii.{A, Z}
use Rattle.field.proofs.Laws.{splice-join, lent_back}
use Rattle.block.specs.Written.{joined}
use Rattle.page.specs.Layout.{kept_entries}
use Rattle.page.specs.Page.{quotes_in}
use Rattle.snapshot.specs.Snapshot.{Shown, Snapshot, snapshot_of}
use Rattle.snapshot.specs.Feed.{consolidated_length, participant_length, finra_length, feed_header, feed_block, feed_bytes}
use Rattle.snapshot.specs.Sizes.{letters_alone, letters_first, first_length, feed_count, feed_length}
use Rattle.snapshot.proofs.PackLaws.{Measured, opening, of_letters, closing, blocks-one, length-one, blocks-two, length-block-first, length-block-second}
use Rattle.snapshot.proofs.ShownLaws.{measured-of}
use Rattle.feed.specs.code.Blocks.{Lent, only_length, second_length, shown_in, only_messages, first_messages, second_messages}
use Rattle.feed.proofs.LetterLaws.{first-are, rest-are}
use Rattle.feed.proofs.BlockLaws.{length-kept}

-- ---- lengths

pub length-alone : (k : ℕ) → k ≤ letters_alone → feed_length k ≡ only_length k
unfolding feed_length feed_count
length-alone k h = rw (le-leb k letters_alone h) (omega arith)

pub length_two : (k : ℕ) → letters_alone < k → feed_length k ≡ first_length + second_length (k - letters_first)
unfolding feed_length feed_count
length_two k h = rw (lt-leb k letters_alone h) (omega arith)

pub size-one : (k : ℕ) → k ≤ letters_alone → (1 ≡ feed_count k) × (consolidated_length + participant_length * k + finra_length + feed_header ≡ feed_length k)
unfolding feed_length feed_count
size-one k h = rw (le-leb k letters_alone h) (refl, omega arith)

pub size-two : (k : ℕ) → letters_alone < k → (2 ≡ feed_count k) × (consolidated_length + participant_length * k + finra_length + 2 * feed_header ≡ feed_length k)
unfolding feed_length feed_count
size-two k h = rw (lt-leb k letters_alone h) (refl, omega arith)

-- ---- the snapshot

module _ (s p : List ℕ) (lent : Lent s p) where
  abbrev x : Snapshot
  x = snapshot_of s (kept_entries p) (quotes_in p)

  measured : Measured x
  measured = measured-of (quotes_in p) s (kept_entries p) lent.symbol (length-kept s p lent)

  only-bytes : length (shown_in p A (Z + 1)) ≤ letters_alone → feed_block 1 4 (only_messages s p) ≡ feed_bytes x
  unfolding feed_bytes snapshot_of only_messages
  only-bytes h = sym (ap joined (blocks-one x measured h) ∙ append-nil (feed_block 1 4 (only_messages s p)))

  only-long : length (shown_in p A (Z + 1)) ≤ letters_alone → length (feed_block 1 4 (only_messages s p)) ≡ feed_length (length (shown_in p A (Z + 1)))
  unfolding snapshot_of only_messages
  only-long h = length-one x measured h

  module _ (l : ℕ) (a : A ≤ l) (z : l ≤ Z + 1) (c : letters_first + length (shown_in p l (Z + 1)) ≡ length (shown_in p A (Z + 1))) where
    abbrev b1 : List ℕ
    b1 = feed_block 1 1 (first_messages s p l)

    abbrev b2 : List ℕ
    b2 = feed_block 16 3 (second_messages s p l)

    both_bytes : b1 ++ b2 ≡ feed_bytes x
    unfolding feed_bytes snapshot_of first_messages second_messages
    both_bytes =
        let t : take letters_first (shown_in p A (Z + 1)) ≡ shown_in p A l = first-are (quotes_in p) l (Z + 1) letters_first a z c in
        let d : drop letters_first (shown_in p A (Z + 1)) ≡ shown_in p l (Z + 1) = rest-are (quotes_in p) l (Z + 1) letters_first a z c in
        sym (ap joined (blocks-two x measured (omega arith))
        ∙ (λ i. feed_block 1 1 (opening x measured ∷ of_letters x measured (t i)) ++ (feed_block 16 3 (closing x measured (d i)) ++ []))
        ∙ ap (λ (b : List ℕ). b1 ++ b) (append-nil b2))

    first-long : length b1 ≡ first_length
    unfolding snapshot_of first_messages
    first-long =
        let t : take letters_first (shown_in p A (Z + 1)) ≡ shown_in p A l = first-are (quotes_in p) l (Z + 1) letters_first a z c in
        ap (λ (vs : List Shown). length (feed_block 1 1 (opening x measured ∷ of_letters x measured vs))) (sym t) ∙ length-block-first x measured (omega arith)

    second-long : length b2 + first_length ≡ feed_length (length (shown_in p A (Z + 1)))
    unfolding snapshot_of second_messages
    second-long =
        let d : drop letters_first (shown_in p A (Z + 1)) ≡ shown_in p l (Z + 1) = rest-are (quotes_in p) l (Z + 1) letters_first a z c in
        ap (λ (vs : List Shown). length (feed_block 16 3 (closing x measured vs)) + first_length) (sym d) ∙ length-block-second x measured (omega arith)

    -- ---- two blocks into the output

    both_is : (n : ℕ) (o d1 d2 : List ℕ) → n ≡ feed_length (length (shown_in p A (Z + 1))) → d1 ≡ b1 → d2 ≡ b2
        → put_mid first_length (n - first_length) (put_mid 0 first_length o d1) d2 ≡ splice o 0 (feed_bytes x)
    both_is n o d1 d2 en e1 e2 =
        let l1 : length d1 ≡ first_length = ap length e1 ∙ first-long in
        let l2 : length d2 ≡ n - first_length = ap length e2 ∙ omega (arith, second-long) in
        let q1 : put_mid 0 first_length o d1 ≡ splice o 0 b1 = lent_back 0 first_length o d1 l1 ∙ ap (splice o 0) e1 in
        lent_back first_length (n - first_length) (put_mid 0 first_length o d1) d2 l2 ∙ (λ i. splice (q1 i) first_length (e2 i)) ∙ splice-join o 0 first_length b1 b2 first-long ∙ ap (splice o 0) both_bytes

    pub two_is : (k : ℕ) (o d1 d2 : List ℕ) → k ≡ length (shown_in p A (Z + 1)) → letters_alone < k → d1 ≡ b1 → d2 ≡ b2
        → put_mid first_length (first_length + feed_header + participant_length * (k - letters_first) + finra_length - first_length) (put_mid 0 first_length o d1) d2 ≡ splice o 0 (feed_bytes x)
    two_is k o d1 d2 ek h e1 e2 =
        let z : feed_length k ≡ first_length + second_length (k - letters_first) = length_two k h in
        let y : feed_length k ≡ feed_length (length (shown_in p A (Z + 1))) = ap feed_length ek in
        both_is (first_length + feed_header + participant_length * (k - letters_first) + finra_length) o d1 d2 (omega (arith, z, y)) e1 e2

  -- one block into the output
  pub only-into : (n : ℕ) (o d : List ℕ) → length (shown_in p A (Z + 1)) ≤ letters_alone → n ≡ feed_length (length (shown_in p A (Z + 1))) → d ≡ feed_block 1 4 (only_messages s p)
      → put_mid 0 (n - 0) o d ≡ splice o 0 (feed_bytes x)
  only-into n o d h en e =
      let l : length d ≡ n - 0 = ap length e ∙ only-long h ∙ omega (arith, en) in
      lent_back 0 (n - 0) o d l ∙ ap (splice o 0) (e ∙ only-bytes h)
