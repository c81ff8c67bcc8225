-- A block written from its messages passes the checks and gives them back; one that passes the checks, taken apart and written again, is itself.
-- Assumes nothing.
use Rattle.std.proofs.Common.{◌≡◌, ℕ, zero, suc, ◌+◌, ◌*◌, ◌<◌, ◌≤◌, Bool, true, false, cond, not, ◌&&◌, ltb, leb, ◌⊎◌, List, [], ◌∷◌, ◌++◌, map, length, take, sym, refl, ap, ◌∙◌, inl, inr, mod-lt, eq-or-lt_of_le, arith, lit<, length-append, length-take-le, le-ltb, lt-ltb, eq-eqb, le-leb, leb-true}
use Rattle.field.specs.Field.{Bytes, be, part, field, be_bytes}
use Rattle.field.proofs.Laws.{be-be_bytes, be_bytes-field, part_join}
use Rattle.field.proofs.JoinLaws.{part-after, part-front}
use Rattle.lists.specs.Lists.{at, all, every}
use Rattle.lists.proofs.Tests.{and-true}
use Rattle.block.specs.Block.{offset_at, block_longest, block_shortest, message_shortest, messages_most, count_in, sequence_in, checksum_of, start_at, message_at, messages_from, messages_of, length_good, spaced, spaced_at, table_good, is_control, no_control_at, control_among, checked}
use Rattle.std.specs.Prelude.{Ok}
use Rattle.block.specs.Written.{joined, length_with, offsets, front, written, any_control, control_mixed}
use Rattle.block.proofs.CheckLaws.{Passed}
use Rattle.block.proofs.MessageLaws.{length-message, message-long, cover, offset_of, first-offset, back}
use Rattle.block.proofs.StartLaws.{next_start, start-within}

-- ---- a control message among others, by the table and by the messages

pub length-messages : (b : List ℕ) (i k : ℕ) → length (messages_from b i k) ≡ k
unfolding messages_from
length-messages b i zero = refl
length-messages b i (suc k) = ap suc (length-messages b (i + 1) k)

any-from : (b : List ℕ) (i k : ℕ) → not (all (no_control_at b) i k) ≡ any_control (messages_from b i k)
unfolding all any_control messages_from
any-from b i zero = refl
any-from b i (suc k) = go (is_control (message_at b i)) (any-from b (i + 1) k)
  where
    go : (t : Bool) → not (all (no_control_at b) (i + 1) k) ≡ any_control (messages_from b (i + 1) k)
        → not (not t && all (no_control_at b) (i + 1) k) ≡ cond t true (any_control (messages_from b (i + 1) k))
    go true e = refl
    go false e = e

pub mixed-is : (b : List ℕ) → control_among b ≡ control_mixed (messages_of b)
unfolding control_among control_mixed messages_of
mixed-is b = rw (length-messages b 0 (count_in b), any-from b 0 (count_in b))

-- ---- the table

length-offsets : (a : ℕ) (ms : List (List ℕ)) → length (offsets a (map length ms)) ≡ 2 * length ms
unfolding offsets be_bytes
length-offsets a [] = refl
length-offsets a (m ∷ ms) =
    let e : 2 * suc (length ms) ≡ suc (suc (2 * length ms)) = omega arith in
    ap (λ (n : ℕ). suc (suc n)) (length-offsets (a + length m) ms) ∙ sym e

-- every offset and the end fit two bytes
offset-in : (a : ℕ) (ms : List (List ℕ)) (j : ℕ) → j ≤ length ms → offset_of a ms j ≤ a + length (joined ms)
offset-in a [] j h = omega arith
offset-in a (m ∷ ms) zero h = omega arith
offset-in a (m ∷ ms) (suc j) h = omega (arith, offset-in (a + length m) ms j (omega arith), length-append m (joined ms))

offset-end : (a : ℕ) (ms : List (List ℕ)) → offset_of a ms (length ms) ≡ a + length (joined ms)
offset-end a [] = omega arith
offset-end a (m ∷ ms) = offset-end (a + length m) ms ∙ omega (arith, length-append m (joined ms))

-- offset j stands at 2j of the table
offset-at : (a : ℕ) (ms : List (List ℕ)) (j : ℕ) → j < length ms → a + length (joined ms) < 65536 → field (offsets a (map length ms)) (2 * j) 2 ≡ offset_of a ms j
unfolding offsets field part be be_bytes
offset-at a [] j h s = absurd (omega arith)
offset-at a (m ∷ ms) zero h s = be-be_bytes 2 a (omega arith)
offset-at a (m ∷ ms) (suc j) h s =
    let e : 2 * suc j ≡ suc (suc (2 * j)) = omega arith in
    ap (λ (i : ℕ). field (offsets a (map length (m ∷ ms))) i 2) e ∙ offset-at (a + length m) ms j (omega arith) (omega (arith, length-append m (joined ms)))

-- ---- header, table and messages, with any checksum field

module _ (s k : ℕ) (ms : List (List ℕ)) where
  abbrev framed : List ℕ
  framed = front s k ms ++ joined ms

  length_front : length (front s k ms) ≡ offset_at (length ms)
  unfolding front be_bytes
  length_front =
      ap (λ (n : ℕ). suc (suc (suc (suc (suc (suc (suc (suc (suc (suc n)))))))))) (length-offsets (offset_at (length ms)) ms) ∙ omega arith

  pub length-framed : length framed ≡ length_with (length ms) (length (joined ms))
  length-framed = length-append (front s k ms) (joined ms) ∙ ap (λ (n : ℕ). n + length (joined ms)) length_front

  framed-version : at framed 0 ≡ 1
  unfolding front be_bytes
  framed-version = refl

  framed-count : count_in framed ≡ length ms
  unfolding front be_bytes
  framed-count = refl

  framed-own : length_with (length ms) (length (joined ms)) < 65536 → field framed 2 2 ≡ length_with (length ms) (length (joined ms))
  unfolding front be_bytes field part be
  framed-own h = be-be_bytes 2 (length_with (length ms) (length (joined ms))) h

  pub framed-sequence : s < 4294967296 → sequence_in framed ≡ s
  unfolding front be_bytes field part be
  framed-sequence h = be-be_bytes 4 s h

  framed-sum : k < 65536 → field framed 8 2 ≡ k
  unfolding front be_bytes field part be
  framed-sum h = be-be_bytes 2 k h

  -- the checksum field plays no part in the checksum
  pub checksum-framed : checksum_of framed ≡ checksum_of (front s 0 ms ++ joined ms)
  unfolding front be_bytes checksum_of
  checksum-framed = refl

  -- the table behind the header's ten bytes
  framed-table : (i : ℕ) → i + 2 ≤ 2 * length ms → field framed (10 + i) 2 ≡ field (offsets (offset_at (length ms)) (map length ms)) i 2
  unfolding front be_bytes field
  framed-table i h =
      let ten : List ℕ = 1 ∷ length ms ∷ (be_bytes 2 (length_with (length ms) (length (joined ms))) ++ (be_bytes 4 s ++ be_bytes 2 k)) in
      ap be (part-after ten (offsets (offset_at (length ms)) (map length ms) ++ joined ms) 10 i 2 refl)
      ∙ ap be (part-front (offsets (offset_at (length ms)) (map length ms)) (joined ms) i 2 (omega (arith, length-offsets (offset_at (length ms)) ms)))

  module _ (fits : length_with (length ms) (length (joined ms)) ≤ block_longest) where
    starts : (j : ℕ) → j ≤ length ms → start_at framed j ≡ offset_of (offset_at (length ms)) ms j
    unfolding start_at
    starts j h = go (eq-or-lt_of_le h)
      where
        go : (j ≡ length ms) ⊎ (j < length ms) → cond (ltb j (count_in framed)) (field framed (offset_at j) 2) (length framed) ≡ offset_of (offset_at (length ms)) ms j
        go (inl e) = rw (e, framed-count, le-ltb (length ms) (length ms) (omega arith)) (length-framed ∙ sym (offset-end (offset_at (length ms)) ms))
        go (inr l) = rw (framed-count, lt-ltb j (length ms) l) (framed-table (2 * j) (omega arith) ∙ offset-at (offset_at (length ms)) ms j l (omega arith))

    pub messages-back : messages_of framed ≡ ms
    messages-back = back (front s k ms) ms framed-count (λ j h. starts j h ∙ ap (λ (t : ℕ). offset_of t ms j) (sym length_front))

-- ---- what is written passes the checks and gives the messages back

all-is : (p : ℕ → Bool) (i k : ℕ) → ((j : ℕ) → i ≤ j → j < i + k → p j ≡ true) → all p i k ≡ true
unfolding all
all-is p i zero h = refl
all-is p i (suc k) h = rw (h i (omega arith) (omega arith), all-is p (i + 1) k (λ j l u. h j (omega arith) (omega arith)))

offset_step : (a : ℕ) (ms : List (List ℕ)) (j : ℕ) → every (leb message_shortest) (map length ms) ≡ true → j < length ms → offset_of a ms j + 20 ≤ offset_of a ms (suc j)
unfolding every
offset_step a [] j g h = absurd (omega arith)
offset_step a (m ∷ ms) zero g h = omega (arith, leb-true message_shortest (length m) (and-true (leb message_shortest (length m)) _ g).0, first-offset (a + length m) ms)
offset_step a (m ∷ ms) (suc j) g h = offset_step (a + length m) ms j (and-true (leb message_shortest (length m)) _ g).1 (omega arith)

-- messages that a block can carry: those for which the writer answers neither 71 nor 72
pub record Carried (ms : List (List ℕ)) : Type 0 where
  pub some : 1 ≤ length ms
  pub few : length ms ≤ messages_most
  pub long : every (leb message_shortest) (map length ms) ≡ true
  pub short : length_with (length ms) (length (joined ms)) ≤ block_longest
  pub alone : control_mixed ms ≡ false

-- 20 bytes a message
joined-long : (ms : List (List ℕ)) → every (leb message_shortest) (map length ms) ≡ true → 20 * length ms ≤ length (joined ms)
unfolding every
joined-long [] g = omega arith
joined-long (m ∷ ms) g =
    let a = and-true (leb message_shortest (length m)) _ g in
    omega (arith, leb-true message_shortest (length m) a.0, joined-long ms a.1, length-append m (joined ms))

module _ (s : ℕ) (ms : List (List ℕ)) (c : Carried ms) where
  abbrev own : ℕ
  own = checksum_of (front s 0 ms ++ joined ms)

  pub written_back : messages_of (written s ms) ≡ ms
  unfolding written
  written_back = messages-back s own ms c.short

  own-fits : own < 65536
  unfolding checksum_of
  own-fits = mod-lt _ (lit< tt)

  table-good : table_good (framed s own ms) ≡ true
  unfolding table_good spaced
  table-good =
      let b = framed s own ms in
      let st : (j : ℕ) → j ≤ length ms → start_at b j ≡ offset_of (offset_at (length ms)) ms j = starts s own ms c.short in
      let f : start_at b 0 ≡ offset_at (length ms) = st 0 (omega arith) ∙ first-offset (offset_at (length ms)) ms in
      let each : all (spaced_at b) 0 (length ms) ≡ true =
      all-is (spaced_at b) 0 (length ms)
      (λ j l u. let e : j + 1 ≡ suc j = omega arith in
      le-leb (start_at b j + 20) (start_at b (j + 1)) (omega (arith, st j (omega arith), ap (start_at b) e ∙ st (suc j) (omega arith), offset_step (offset_at (length ms)) ms j c.long (omega arith)))) in
      rw (framed-count s own ms, le-leb 1 (length ms) c.some, le-leb (length ms) messages_most c.few, le-leb (offset_at (length ms)) (length b) (omega (arith, length-framed s own ms)), eq-eqb (start_at b 0) (offset_at (length ms)) f, each)

  pub written-passes : checked (written s ms) ≡ Ok (length ms)
  unfolding written checked length_good
  written-passes =
      let b = framed s own ms in
      let n : length b ≡ length_with (length ms) (length (joined ms)) = length-framed s own ms in
      let l : block_shortest ≤ length b = omega (arith, n, c.some, joined-long ms c.long) in
      let u : length b ≤ block_longest = omega (arith, n, c.short) in
      let o : field b 2 2 ≡ length b = framed-own s own ms (omega (arith, c.short)) ∙ sym n in
      let k : checksum_of b ≡ field b 8 2 = checksum-framed s own ms ∙ sym (framed-sum s own ms own-fits) in
      let a : control_among b ≡ false = mixed-is b ∙ ap control_mixed (messages-back s own ms c.short) ∙ c.alone in
      rw (le-leb block_shortest (length b) l, le-leb (length b) block_longest u, eq-eqb (field b 2 2) (length b) o, framed-version s own ms, eq-eqb (checksum_of b) (field b 8 2) k, table-good, a, framed-count s own ms)

-- ---- a block that passes the checks, taken apart and written under its own number

two-first : (l : List ℕ) → 2 ≤ length l → part l 0 2 ≡ at l 0 ∷ at l 1 ∷ []
unfolding part
two-first [] h = absurd (omega arith)
two-first (x ∷ []) h = absurd (omega arith)
two-first (x ∷ z ∷ l) h = refl

-- the four fields of a header, then w bytes
header-parts : (b : List ℕ) (w : ℕ) → part b 0 (10 + w) ≡ part b 0 2 ++ (part b 2 2 ++ (part b 4 4 ++ (part b 8 2 ++ part b 10 w)))
header-parts b w =
    let e : 10 + w ≡ 2 + (2 + (4 + (2 + w))) = omega arith in
    ap (part b 0) e ∙ part_join b 0 2 (2 + (4 + (2 + w)))
    ∙ ap (λ (l : List ℕ). part b 0 2 ++ l)
    (part_join b 2 2 (4 + (2 + w))
    ∙ ap (λ (l : List ℕ). part b 2 2 ++ l) (part_join b 4 4 (2 + w) ∙ ap (λ (l : List ℕ). part b 4 4 ++ l) (part_join b 8 2 w)))

module _ (b : List ℕ) (c : ℕ) (y : Bytes b) (p : Passed b c) where
  good : spaced b ≡ true
  good = p.table.apart

  start_is : (i : ℕ) → i < count_in b → start_at b i ≡ field b (offset_at i) 2
  unfolding start_at
  start_is i h = rw (lt-ltb i (count_in b) h)

  -- the table from offset i on
  table-from : (k i : ℕ) → i + k ≡ count_in b → offsets (start_at b i) (map length (messages_from b i k)) ≡ part b (offset_at i) (2 * k)
  unfolding offsets messages_from part
  table-from zero i e = refl
  table-from (suc k) i e =
      let n : start_at b i + length (message_at b i) ≡ start_at b (i + 1) = omega (arith, length-message b good i (omega arith), next_start b good i (omega arith)) in
      let w : 2 * suc k ≡ 2 + 2 * k = omega arith in
      let q : offset_at i + 2 ≡ offset_at (i + 1) = omega arith in
      let o : be_bytes 2 (start_at b i) ≡ part b (offset_at i) 2 =
      ap (be_bytes 2) (start_is i (omega arith)) ∙ be_bytes-field b (offset_at i) 2 (omega (arith, p.table.inside)) y in
      let r : offsets (start_at b i + length (message_at b i)) (map length (messages_from b (i + 1) k)) ≡ part b (offset_at i + 2) (2 * k) =
      ap (λ (a : ℕ). offsets a (map length (messages_from b (i + 1) k))) n ∙ table-from k (i + 1) (omega arith) ∙ ap (λ (a : ℕ). part b a (2 * k)) (sym q) in
      (λ j. o j ++ r j) ∙ sym (part_join b (offset_at i) 2 (2 * k)) ∙ ap (part b (offset_at i)) (sym w)

  whole : length_with (count_in b) (length (joined (messages_of b))) ≡ field b 2 2
  whole =
      let t : length (take (start_at b 0) b) ≡ start_at b 0 = length-take-le (start_at b 0) b (start-within b good 0 (omega arith)) in
      let n : length (take (start_at b 0) b) + length (joined (messages_of b)) ≡ length b = sym (length-append (take (start_at b 0) b) (joined (messages_of b))) ∙ ap length (cover b good) in
      omega (arith, t, n, p.table.first, p.own)

  front-is : front (sequence_in b) (field b 8 2) (messages_of b) ≡ part b 0 (offset_at (count_in b))
  unfolding front messages_of
  front-is =
      let n : length (messages_from b 0 (count_in b)) ≡ count_in b = length-messages b 0 (count_in b) in
      let l : be_bytes 2 (length_with (count_in b) (length (joined (messages_from b 0 (count_in b))))) ≡ part b 2 2 =
      ap (be_bytes 2) whole ∙ be_bytes-field b 2 2 (omega (arith, p.long)) y in
      let t : offsets (offset_at (count_in b)) (map length (messages_from b 0 (count_in b))) ≡ part b 10 (2 * count_in b) =
      ap (λ (a : ℕ). offsets a (map length (messages_from b 0 (count_in b)))) (sym p.table.first) ∙ table-from (count_in b) 0 (omega arith) in
      let h : (1 ∷ count_in b ∷ []) ≡ part b 0 2 = sym (two-first b (omega (arith, p.long)) ∙ ap (λ (v : ℕ). v ∷ count_in b ∷ []) p.version) in
      rw n
      ((λ j. h j ++ (l j ++ (be_bytes-field b 4 4 (omega (arith, p.long)) y j ++ (be_bytes-field b 8 2 (omega (arith, p.long)) y j ++ t j))))
      ∙ sym (header-parts b (2 * count_in b)))

  again : front (sequence_in b) (field b 8 2) (messages_of b) ++ joined (messages_of b) ≡ b
  unfolding part
  again = ap (λ (l : List ℕ). l ++ joined (messages_of b)) (front-is ∙ ap (λ (k : ℕ). take k b) (sym p.table.first)) ∙ cover b good

  pub written-again : written (sequence_in b) (messages_of b) ≡ b
  unfolding written
  written-again =
      let k : checksum_of (front (sequence_in b) 0 (messages_of b) ++ joined (messages_of b)) ≡ field b 8 2 =
      sym (checksum-framed (sequence_in b) (field b 8 2) (messages_of b)) ∙ ap checksum_of again ∙ p.sum in
      ap (λ (v : ℕ). front (sequence_in b) v (messages_of b) ++ joined (messages_of b)) k ∙ again

  long-from : (k i : ℕ) → i + k ≡ count_in b → every (leb message_shortest) (map length (messages_from b i k)) ≡ true
  unfolding every messages_from
  long-from zero i e = refl
  long-from (suc k) i e = rw (le-leb message_shortest (length (message_at b i)) (message-long b good i (omega arith)), long-from k (i + 1) (omega arith))

  pub whole_length : length_with (length (messages_of b)) (length (joined (messages_of b))) ≡ length b
  unfolding messages_of
  whole_length = ap (λ (n : ℕ). length_with n (length (joined (messages_of b)))) (length-messages b 0 (count_in b)) ∙ whole ∙ p.own

  -- a block that passes the checks carries what a block can carry
  pub passed-carried : Carried (messages_of b)
  unfolding messages_of
  passed-carried =
      let n : length (messages_of b) ≡ count_in b = length-messages b 0 (count_in b) in
      record {
        some = rw n p.table.some;
        few = rw n p.table.few;
        long = long-from (count_in b) 0 (omega arith);
        short = omega (arith, whole_length, p.short);
        alone = sym (mixed-is b) ∙ p.alone;
      }
