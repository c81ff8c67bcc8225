-- The messages of a block: they cover it behind its table, and a block made of a table and messages gives them back.
-- Assumes nothing.
use Rattle.std.proofs.Common.{◌≡◌, ℕ, zero, suc, ◌+◌, ◌-◌, ◌<◌, ◌≤◌, true, List, [], ◌∷◌, ◌++◌, length, take, drop, sym, refl, ap, ◌∙◌, append_assoc, le_refl, add-zero, arith, length-append, take-append-drop, drop_of_length-le, drop-drop, take_at, drop_at}
use Rattle.field.specs.Field.{part}
use Rattle.field.proofs.Laws.{length_part}
use Rattle.block.specs.Block.{count_in, start_at, message_at, messages_from, messages_of, spaced}
use Rattle.block.specs.Written.{joined}
use Rattle.block.proofs.StartLaws.{last-start, next_start, start-within}

module _ (b : List ℕ) (good : spaced b ≡ true) where
  pub length-message : (i : ℕ) → i < count_in b → length (message_at b i) ≡ start_at b (i + 1) - start_at b i
  unfolding message_at
  length-message i h = length_part b (start_at b i) (start_at b (i + 1) - start_at b i) (omega (arith, next_start b good i h, start-within b good (i + 1) (omega arith)))

  -- "and is at least 20 bytes"
  pub message-long : (i : ℕ) → i < count_in b → 20 ≤ length (message_at b i)
  message-long i h = omega (arith, length-message i h, next_start b good i h)

  -- message i and what follows it
  message-next : (i : ℕ) → i < count_in b → message_at b i ++ drop (start_at b (i + 1)) b ≡ drop (start_at b i) b
  unfolding message_at part
  message-next i h =
      let n : start_at b i + (start_at b (i + 1) - start_at b i) ≡ start_at b (i + 1) = omega (arith, next_start b good i h) in
      ap (λ (x : List ℕ). message_at b i ++ x)
      (sym (ap (λ (k : ℕ). drop k b) n) ∙ sym (drop-drop (start_at b (i + 1) - start_at b i) (start_at b i) b))
      ∙ take-append-drop (start_at b (i + 1) - start_at b i) (drop (start_at b i) b)

  cover-from : (k i : ℕ) → i + k ≡ count_in b → joined (messages_from b i k) ≡ drop (start_at b i) b
  unfolding messages_from
  cover-from zero i e = sym (rw (last-start b i (omega arith)) (drop_of_length-le b (le_refl (length b))))
  cover-from (suc k) i e =
      ap (λ (x : List ℕ). message_at b i ++ x) (cover-from k (i + 1) (omega arith)) ∙ message-next i (omega arith)

  -- header and table, then the messages end to end, are the block
  pub cover : take (start_at b 0) b ++ joined (messages_of b) ≡ b
  unfolding messages_of
  cover = ap (λ (x : List ℕ). take (start_at b 0) b ++ x) (cover-from (count_in b) 0 (omega arith)) ∙ take-append-drop (start_at b 0) b

-- ---- a block that is written from its messages

-- where message i starts behind a table that ends at t
abbrev pub offset_of : ℕ → List (List ℕ) → ℕ → ℕ
offset_of t [] i = t
offset_of t (m ∷ ms) zero = t
offset_of t (m ∷ ms) (suc i) = offset_of (t + length m) ms i

pub first-offset : (t : ℕ) (ms : List (List ℕ)) → offset_of t ms 0 ≡ t
first-offset t [] = refl
first-offset t (m ∷ ms) = refl

-- before: what stands before message i
back_from : (b : List ℕ) (ms : List (List ℕ)) (i : ℕ) (before : List ℕ) → b ≡ before ++ joined ms
    → ((j : ℕ) → j ≤ length ms → start_at b (i + j) ≡ offset_of (length before) ms j)
    → messages_from b i (length ms) ≡ ms
unfolding messages_from message_at part
back_from b [] i before e starts = refl
back_from b (m ∷ ms) i before e starts =
    let s : start_at b i ≡ length before = ap (start_at b) (sym (add-zero i)) ∙ starts 0 (omega arith) in
    let n : start_at b (i + 1) ≡ length before + length m = starts 1 (omega arith) ∙ first-offset (length before + length m) ms in
    let d : drop (start_at b i) b ≡ m ++ joined ms = ap (λ (k : ℕ). drop k b) s ∙ ap (drop (length before)) e ∙ drop_at before (m ++ joined ms) (length before) refl in
    let t : start_at b (i + 1) - start_at b i ≡ length m = omega arith in
    let head : message_at b i ≡ m = ap (λ (k : ℕ). take k (drop (start_at b i) b)) t ∙ ap (take (length m)) d ∙ take_at m (joined ms) (length m) refl in
    let rest : messages_from b (i + 1) (length ms) ≡ ms =
    back_from b ms (i + 1) (before ++ m) (e ∙ sym (append_assoc before m (joined ms)))
    (λ j h.
    let k : i + 1 + j ≡ i + suc j = omega arith in
    ap (start_at b) k ∙ starts (suc j) (omega arith) ∙ ap (λ (l : ℕ). offset_of l ms j) (sym (length-append before m))) in
    ap (λ (x : List ℕ). x ∷ messages_from b (i + 1) (length ms)) head ∙ ap (λ (x : List (List ℕ)). m ∷ x) rest

-- where the count and the offsets are those of the messages, the messages read are the messages written
pub back : (table : List ℕ) (ms : List (List ℕ)) → count_in (table ++ joined ms) ≡ length ms
    → ((j : ℕ) → j ≤ length ms → start_at (table ++ joined ms) j ≡ offset_of (length table) ms j)
    → messages_of (table ++ joined ms) ≡ ms
unfolding messages_of
back table ms c starts =
    ap (messages_from (table ++ joined ms) 0) c
    ∙ back_from (table ++ joined ms) ms 0 table refl (λ j h. let z : 0 + j ≡ j = omega arith in ap (start_at (table ++ joined ms)) z ∙ starts j h)
