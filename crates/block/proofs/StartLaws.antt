-- Where messages start and end in a block whose messages have at least 20 bytes each.
-- Assumes nothing.
use Rattle.std.proofs.Common.{◌≡◌, ℕ, zero, suc, ◌+◌, ◌-◌, ◌<◌, ◌≤◌, true, false, List, length, sym, ap, ◌∙◌, add-zero, arith, lit<, get_or-drop, get_or-take, le-ltb, eq-eqb, ne_eqb, leb-true}
use Rattle.field.specs.Field.{part, field}
use Rattle.field.proofs.Laws.{field-one}
use Rattle.lists.specs.Lists.{at}
use Rattle.lists.proofs.Searches.{all-each}
use Rattle.block.specs.Block.{count_in, start_at, message_at, spaced, spaced_at, no_control_at}

-- past the last message is the block's end
pub last-start : (b : List ℕ) (i : ℕ) → count_in b ≤ i → start_at b i ≡ length b
unfolding start_at
last-start b i h = simp (le-ltb i (count_in b) h)

module _ (b : List ℕ) (good : spaced b ≡ true) where
  -- a message has at least 20 bytes
  pub next_start : (i : ℕ) → i < count_in b → start_at b i + 20 ≤ start_at b (i + 1)
  unfolding spaced
  next_start i h = leb-true _ _ (all-each (spaced_at b) 0 (count_in b) good i (omega arith) (omega arith))

  within : (d i : ℕ) → i + d ≡ count_in b → start_at b i ≤ length b
  within zero i e =
      let l : start_at b i ≡ length b = last-start b i (omega arith) in
      omega arith
  within (suc d) i e = omega (arith, next_start i (omega arith), within d (i + 1) (omega arith))

  pub start-within : (i : ℕ) → i ≤ count_in b → start_at b i ≤ length b
  start-within i h = within (count_in b - i) i (omega arith)

  -- the first 20 bytes of message i stand in the block from its offset on
  pub message-byte : (i k : ℕ) → i < count_in b → k < 20 → at (message_at b i) k ≡ at b (start_at b i + k)
  unfolding message_at part
  message-byte i k h l =
      let n : k < start_at b (i + 1) - start_at b i = omega (arith, next_start i h) in
      rw (get_or-take, get_or-drop)

  -- ---- what is read at the start a of message i

  module _ (i a : ℕ) (h : i < count_in b) (e : a ≡ start_at b i) where
    pub message-inside : a + 20 ≤ length b
    message-inside = omega (arith, next_start i h, start-within (i + 1) (omega arith))

    pub message-field : (k : ℕ) → k < 20 → field b (a + k) 1 ≡ at (message_at b i) k
    message-field k l = field-one b (a + k) (omega (arith, message-inside)) ∙ ap (λ (s : ℕ). at b (s + k)) e ∙ sym (message-byte i k h l)

    pub message-first : field b a 1 ≡ at (message_at b i) 0
    message-first = ap (λ (s : ℕ). field b s 1) (sym (add-zero a)) ∙ message-field 0 (lit< tt)

    pub control-here : (r : ℕ) → r ≡ field b a 1 → r ≡ 67 → no_control_at b i ≡ false
    control-here r er c = rw (eq-eqb (at (message_at b i) 0) 67 (sym message-first ∙ sym er ∙ c))

    pub control-not : (r : ℕ) → r ≡ field b a 1 → (r ≡ 67 → ⊥) → no_control_at b i ≡ true
    control-not r er n = rw (ne_eqb (at (message_at b i) 0) 67 (λ c. n (er ∙ message-first ∙ c)))
