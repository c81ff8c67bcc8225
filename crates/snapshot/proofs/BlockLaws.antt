-- Blocks, written and read: a run of blocks gives back the messages that it was made of.
-- Assumes nothing.
use Prim.Native.Nat.{ℕ, zero, suc, ◌+◌, ◌%◌, ◌≤◌, ◌<◌}
use mathlib.Core.Path.{◌≡◌, refl, sym, ap, ◌∙◌}
use mathlib.Core.Bool.{Bool, true, false, ◌&&◌, cond}
use mathlib.Core.List.{List, [], ◌∷◌, ◌++◌, append_assoc, append-nil}
use Rattle.std.specs.Prelude.{Option, None, Some}
use native.Mathlib.Omega.{arith}
use native.Mathlib.Nat.{mod-lt}
use borrow.Author.Tests.{le-leb, eq-eqb}
use lib.Dec.{leb, eqb, lit<}
use lib.ListN.{length, take, drop, replicate, length-append, length-replicate}
use Rattle.field.specs.Field.{be, part, field, be_bytes}
use Rattle.field.proofs.Laws.{be-be_bytes}
use Rattle.field.proofs.JoinLaws.{part-front}
use Rattle.lists.specs.Lists.{at, map_option, bind_option}
use Rattle.block.specs.Written.{joined}
use Rattle.snapshot.specs.Feed.{zeros, feed_header, feed_longest, evened, feed_front, feed_with, feed_checksum, feed_block, feed_from, delivery_flag, is_nil, feed_version}
use Rattle.snapshot.specs.Receiver.{size_in, sequence_number_in, message_count_in, delivery_flag_in, sound_block, pad_at_most, message_header, messages_laid, followed, received}
use Rattle.snapshot.proofs.MessageLaws.{Laid}

-- ---- messages end to end

abbrev pub AllLaid : List (List ℕ) → Type 0
AllLaid [] = Unit {0}
AllLaid (m ∷ ms) = Laid m × AllLaid ms

take-length : (m r : List ℕ) → take (length m) (m ++ r) ≡ m
take-length [] r = refl
take-length (x ∷ m) r = ap (λ (l : List ℕ). x ∷ l) (take-length m r)

drop-length : (m r : List ℕ) → drop (length m) (m ++ r) ≡ r
drop-length [] r = refl
drop-length (x ∷ m) r = drop-length m r

pub messages-laid : (ms : List (List ℕ)) (pad : List ℕ) → AllLaid ms → pad_at_most pad ≡ true → messages_laid (length ms) (joined ms ++ pad) ≡ Some ms
unfolding messages_laid field
messages-laid [] pad l p = rw p
messages-laid (m ∷ ms) pad l p =
    let r : List ℕ = joined ms ++ pad in
    let e : (m ++ joined ms) ++ pad ≡ m ++ r = append_assoc m (joined ms) pad in
    let t : field (m ++ r) 0 2 ≡ length m = ap be (part-front m r 0 2 (omega (arith, l.0.long))) ∙ l.0.told in
    let n : length (m ++ r) ≡ length m + length r = length-append m r in
    rw (e, t, le-leb message_header (length m) l.0.long, le-leb (length m) (length (m ++ r)) (omega (arith, n)), take-length m r, drop-length m r, messages-laid ms pad l.1 p)

-- ---- one block

-- what a block can carry
pub record Fills (ms : List (List ℕ)) : Type 0 where
  pub laid : AllLaid ms
  pub some : 1 ≤ length ms
  pub few : length ms < 256
  pub short : evened (feed_header + length (joined ms)) ≤ feed_longest

module _ (q f : ℕ) (ms : List (List ℕ)) (k : ℕ) where
  abbrev size : ℕ
  size = evened (feed_header + length (joined ms))

  abbrev pad : List ℕ
  pad = zeros ((feed_header + length (joined ms)) % 2)

  pub length-with : length (feed_with q f ms k) ≡ size
  unfolding feed_with feed_front be_bytes
  length-with =
      let n : length (joined ms ++ pad) ≡ length (joined ms) + (feed_header + length (joined ms)) % 2 =
      length-append (joined ms) pad ∙ ap (λ (i : ℕ). length (joined ms) + i) (length-replicate {A = ℕ} ((feed_header + length (joined ms)) % 2) 0) in
      omega (arith, n)

  module _ (r : List ℕ) where
    abbrev b : List ℕ
    b = feed_with q f ms k ++ r

    size_back : size < 65536 → size_in b ≡ size
    unfolding feed_with feed_front be_bytes field part be
    size_back h = be-be_bytes 2 size h

    sequence-back : q < 4294967296 → sequence_number_in b ≡ q
    unfolding feed_with feed_front be_bytes field part be
    sequence-back h = be-be_bytes 4 q h

    count-back : message_count_in b ≡ length ms
    unfolding feed_with feed_front be_bytes
    count-back = refl

    flag-back : delivery_flag_in b ≡ f
    unfolding feed_with feed_front be_bytes
    flag-back = refl

  checksum-back : k < 65536 → field (feed_with q f ms k) 22 2 ≡ k
  unfolding feed_with feed_front be_bytes field part be
  checksum-back h = be-be_bytes 2 k h

  -- the checksum's own field plays no part in it
  checksum-own : feed_checksum (feed_with q f ms k) ≡ feed_checksum (feed_with q f ms 0)
  unfolding feed_with feed_front be_bytes feed_checksum
  checksum-own = refl

  behind-front : drop feed_header (feed_with q f ms k) ≡ joined ms ++ pad
  unfolding feed_with feed_front be_bytes
  behind-front = refl

  version-back : at (feed_with q f ms k) 0 ≡ feed_version
  unfolding feed_with feed_front be_bytes
  version-back = refl

pad-is : (n : ℕ) → pad_at_most (zeros (n % 2)) ≡ true
pad-is n = go (n % 2) (mod-lt n (lit< tt))
  where
    go : (k : ℕ) → k < 2 → pad_at_most (zeros k) ≡ true
    go zero h = refl
    go (suc zero) h = refl
    go (suc (suc k)) h = absurd (omega arith)

checksum-fits : (l : List ℕ) → feed_checksum l < 65536
unfolding feed_checksum
checksum-fits l = mod-lt _ (lit< tt)

module _ (q f : ℕ) (ms : List (List ℕ)) (z : Fills ms) where
  abbrev own : ℕ
  own = feed_checksum (feed_with q f ms 0)

  sound-written : sound_block (feed_with q f ms own) ≡ true
  unfolding sound_block
  sound-written =
      let b = feed_with q f ms own in
      let n : length b ≡ size q f ms own = length-with q f ms own in
      let i : size_in b ≡ length b = ap size_in (sym (append-nil b)) ∙ size_back q f ms own [] (omega (arith, z.short)) ∙ sym n in
      let c : feed_checksum b ≡ field b 22 2 = checksum-own q f ms own ∙ sym (checksum-back q f ms own (checksum-fits (feed_with q f ms 0))) in
      let k : message_count_in b ≡ length ms = ap message_count_in (sym (append-nil b)) ∙ count-back q f ms own [] in
      rw (le-leb feed_header (length b) (omega (arith, n)), le-leb (length b) feed_longest (omega (arith, n, z.short)), eq-eqb (length b % 2) 0 (omega (arith, n)), eq-eqb (size_in b) (length b) i, version-back q f ms own, eq-eqb (feed_checksum b) (field b 22 2) c, k, le-leb 1 (length ms) z.some)

  -- "a maximum of 1,000 bytes"
  pub short-block : leb (length (feed_block q f ms)) feed_longest ≡ true
  unfolding feed_block
  short-block = le-leb (length (feed_with q f ms own)) feed_longest (omega (arith, length-with q f ms own, z.short))

  -- the first block of a run, and what stands behind it
  module _ (r : List ℕ) (first : Bool) (n : ℕ) (h : q < 4294967296) (e : f ≡ delivery_flag first (is_nil r)) where
    pub received-one : received (suc n) q first (feed_block q f ms ++ r) ≡ bind_option (Some ms) (followed (is_nil r) (received n (q + length ms) false r))
    unfolding received feed_block
    received-one =
        let w = feed_with q f ms own in
        let b = w ++ r in
        let i : size_in b ≡ length w = size_back q f ms own r (omega (arith, z.short)) ∙ sym (length-with q f ms own) in
        rw (i, take-length w r, drop-length w r, sound-written, eq-eqb (sequence_number_in b) q (sequence-back q f ms own r h), eq-eqb (delivery_flag_in b) (delivery_flag first (is_nil r)) (flag-back q f ms own r ∙ e), count-back q f ms own r, behind-front q f ms own, messages-laid ms (pad q f ms own) z.laid (pad-is (feed_header + length (joined ms))))

-- ---- a run of blocks

abbrev pub AllFill : List (List (List ℕ)) → Type 0
AllFill [] = Unit {0}
AllFill (g ∷ gs) = Fills g × AllFill gs

-- messages of groups, one group after another
abbrev pub ungrouped : List (List (List ℕ)) → List (List ℕ)
ungrouped [] = []
ungrouped (g ∷ gs) = g ++ ungrouped gs

nil-run : (q : ℕ) (first : Bool) (gs : List (List (List ℕ))) → is_nil (joined (feed_from q first gs)) ≡ is_nil gs
unfolding feed_from feed_block feed_with feed_front
nil-run q first [] = refl
nil-run q first (g ∷ gs) = refl

pub run-back : (gs : List (List (List ℕ))) (n q : ℕ) (first : Bool) (g : List (List ℕ)) → Fills g → AllFill gs → length gs < n → q + length (ungrouped (g ∷ gs)) < 4294967296
    → received n q first (joined (feed_from q first (g ∷ gs))) ≡ Some (ungrouped (g ∷ gs))
unfolding feed_from
run-back gs zero q first g a l h s = absurd (omega arith)
run-back [] (suc n) q first g a l h s =
    received-one q (delivery_flag first true) g a [] first n (omega arith) refl ∙ ap Some (sym (append-nil g))
run-back (x ∷ gs) (suc n) q first g a l h s =
    let r : List ℕ = joined (feed_from (q + length g) false (x ∷ gs)) in
    let i : is_nil r ≡ false = nil-run (q + length g) false (x ∷ gs) in
    let m : length (ungrouped (g ∷ x ∷ gs)) ≡ length g + length (ungrouped (x ∷ gs)) = length-append g (ungrouped (x ∷ gs)) in
    let b : received n (q + length g) false r ≡ Some (ungrouped (x ∷ gs)) = run-back gs n (q + length g) false x l.0 l.1 (omega arith) (omega (arith, m)) in
    received-one q (delivery_flag first false) g a r first n (omega arith) (ap (delivery_flag first) (sym i)) ∙ rw (i, b)
