-- A run of blocks: its messages, its numbers, that each block passes checks 30 to 34 and is as full as it can be, and its length.
-- Assumes nothing.
use Rattle.std.proofs.Common.{◌≡◌, ℕ, ◌+◌, ◌*◌, ◌<◌, ◌≤◌, Bool, true, false, cond, ◌&&◌, leb, List, [], ◌∷◌, ◌++◌, map, length, refl, ap, ◌∙◌, append_assoc, mod-lt, arith, lit<, length-append, le-leb, leb-false, leb-true}
use Rattle.lists.specs.Lists.{every, gather}
use Rattle.block.specs.Block.{block_longest, message_shortest, offset_at, sequence_in, messages_of, is_control, checked, checksum_of}
use Rattle.std.specs.Prelude.{Ok}
use Rattle.block.specs.Sequence.{next_of}
use Rattle.block.specs.Written.{joined, length_with, front, written, any_control, control_mixed}
use Rattle.block.proofs.WrittenLaws.{Carried, length-framed, framed-sequence, written_back, written-passes}
use Rattle.venuerun.specs.Run.{with_one, pack_into, packed, run_from, run_of, fill_into, filled}
use Rattle.venuerun.proofs.PackLaws.{pack-cut}

-- ---- lengths

pub length-written : (n : ℕ) (ms : List (List ℕ)) → length (written n ms) ≡ length_with (length ms) (length (joined ms))
unfolding written
length-written n ms = length-framed n (checksum_of (front n 0 ms ++ joined ms)) ms

-- messages end to end, one more behind
joined_snoc : (ms : List (List ℕ)) (m : List ℕ) → length (joined (ms ++ (m ∷ []))) ≡ length (joined ms) + length m
joined_snoc [] m = omega (arith, length-append m [])
joined_snoc (x ∷ ms) m = omega (arith, length-append x (joined (ms ++ (m ∷ []))), length-append x (joined ms), joined_snoc ms m)

-- the bytes of a block
abbrev pub bytes_of : List (List ℕ) → ℕ
bytes_of p = length_with (length p) (length (joined p))

with-snoc : (used : ℕ) (p : List (List ℕ)) (m : List ℕ) → used ≡ bytes_of p → with_one used (length m) ≡ bytes_of (p ++ (m ∷ []))
with-snoc used p m e = omega (arith, length-append p (m ∷ []), joined_snoc p m)

with_first : (m : List ℕ) → with_one (offset_at 0) (length m) ≡ bytes_of (m ∷ [])
with_first m = omega (arith, length-append m [])

-- "equals what is then written": the run of messages is as long as worked out from their lengths alone
length-into : (n used : ℕ) (p ms : List (List ℕ)) → used ≡ bytes_of p → length (joined (run_from n (pack_into used p ms))) ≡ fill_into used (map length ms)
unfolding run_from pack_into fill_into
length-into n used p [] e = omega (arith, length-append (written n p) [], length-written n p)
length-into n used p (m ∷ ms) e =
    go (leb (with_one used (length m)) block_longest) (length-into n (with_one used (length m)) (p ++ (m ∷ [])) ms (with-snoc used p m e))
    (length-into (next_of n (length p)) (with_one (offset_at 0) (length m)) (m ∷ []) ms (with_first m))
  where
    rest : List (List ℕ)
    rest = run_from (next_of n (length p)) (pack_into (with_one (offset_at 0) (length m)) (m ∷ []) ms)

    go : (t : Bool) → length (joined (run_from n (pack_into (with_one used (length m)) (p ++ (m ∷ [])) ms))) ≡ fill_into (with_one used (length m)) (map length ms)
        → length (joined rest) ≡ fill_into (with_one (offset_at 0) (length m)) (map length ms)
        → length (joined (run_from n (cond t (pack_into (with_one used (length m)) (p ++ (m ∷ [])) ms) (p ∷ pack_into (with_one (offset_at 0) (length m)) (m ∷ []) ms))))
        ≡ cond t (fill_into (with_one used (length m)) (map length ms)) (used + fill_into (with_one (offset_at 0) (length m)) (map length ms))
    go true a b = a
    go false a b = length-append (written n p) (joined rest) ∙ omega (arith, length-written n p, b)

pub filled-is-written : (n : ℕ) (ms : List (List ℕ)) → length (joined (run_of n ms)) ≡ filled (map length ms)
unfolding run_of run_from packed filled
filled-is-written n [] = refl
filled-is-written n (m ∷ ms) = length-into n (with_one (offset_at 0) (length m)) (m ∷ []) ms (with_first m)

-- ---- what is packed: all messages, in their order

all-into : (used : ℕ) (p ms : List (List ℕ)) → gather (λ q. q) (pack_into used p ms) ≡ p ++ ms
unfolding pack_into
all-into used p [] = refl
all-into used p (m ∷ ms) =
    go (leb (with_one used (length m)) block_longest) (all-into (with_one used (length m)) (p ++ (m ∷ [])) ms) (all-into (with_one (offset_at 0) (length m)) (m ∷ []) ms)
  where
    go : (t : Bool) → gather (λ q. q) (pack_into (with_one used (length m)) (p ++ (m ∷ [])) ms) ≡ (p ++ (m ∷ [])) ++ ms → gather (λ q. q) (pack_into (with_one (offset_at 0) (length m)) (m ∷ []) ms) ≡ (m ∷ []) ++ ms
        → gather (λ q. q) (cond t (pack_into (with_one used (length m)) (p ++ (m ∷ [])) ms) (p ∷ pack_into (with_one (offset_at 0) (length m)) (m ∷ []) ms)) ≡ p ++ (m ∷ ms)
    go true a b = a ∙ append_assoc p (m ∷ []) ms
    go false a b = ap (λ (l : List (List ℕ)). p ++ l) b

packed_all : (ms : List (List ℕ)) → gather (λ q. q) (packed ms) ≡ ms
unfolding packed
packed_all [] = refl
packed_all (m ∷ ms) = all-into (with_one (offset_at 0) (length m)) (m ∷ []) ms

-- ---- messages that our blocks carry

-- 36 bytes at least, no longer than one block, and no control message
pub record Carriable (m : List ℕ) : Type 0 where
  pub long : 36 ≤ length m
  pub short : offset_at 1 + length m ≤ block_longest
  pub quote : is_control m ≡ false

pub data AllCarriable : List (List ℕ) → Type 0 where
  no_message : AllCarriable []
  and_message : {m : List ℕ} {ms : List (List ℕ)} → Carriable m → AllCarriable ms → AllCarriable (m ∷ ms)

snoc-carriable : (p : List (List ℕ)) (m : List ℕ) → AllCarriable p → Carriable m → AllCarriable (p ++ (m ∷ []))
snoc-carriable [] m no_message c = and_message c no_message
snoc-carriable (x ∷ p) m (and_message a r) c = and_message a (snoc-carriable p m r c)

carriable-long : (p : List (List ℕ)) → AllCarriable p → 36 * length p ≤ length (joined p)
carriable-long [] no_message = omega arith
carriable-long (x ∷ p) (and_message a r) = omega (arith, length-append x (joined p), a.long, carriable-long p r)

carriable-every : (p : List (List ℕ)) → AllCarriable p → every (leb message_shortest) (map length p) ≡ true
unfolding every
carriable-every [] no_message = refl
carriable-every (x ∷ p) (and_message a r) = rw (le-leb message_shortest (length x) (omega (arith, a.long)), carriable-every p r)

carriable-alone : (p : List (List ℕ)) → AllCarriable p → any_control p ≡ false
unfolding any_control
carriable-alone [] no_message = refl
carriable-alone (x ∷ p) (and_message a r) = rw (a.quote, carriable-alone p r)

-- a block that is being filled: some messages, no more than fit
record Filling (used : ℕ) (p : List (List ℕ)) : Type 0 where
  some : 1 ≤ length p
  bytes : used ≡ bytes_of p
  fits : used ≤ block_longest
  carriable : AllCarriable p

none-mixed : (p : List (List ℕ)) → AllCarriable p → control_mixed p ≡ false
unfolding control_mixed
none-mixed p c = rw (carriable-alone p c) (go (leb 2 (length p)))
  where
    go : (t : Bool) → (t && false) ≡ false
    go true = refl
    go false = refl

filling-carried : (used : ℕ) (p : List (List ℕ)) → Filling used p → Carried p
filling-carried used p f =
    record {
      some = f.some;
      few = omega (arith, f.bytes, f.fits, carriable-long p f.carriable);
      long = carriable-every p f.carriable;
      short = omega (arith, f.bytes, f.fits);
      alone = none-mixed p f.carriable;
    }

-- ---- each block of a run

-- what a run of blocks under this number is: each passes checks 30 to 34 and has the number that follows on the one before it
pub data Follows : ℕ → List (List ℕ) → Type 0 where
  end : {s : ℕ} → Follows s []
  next : {s c : ℕ} {x : List ℕ} {xs : List (List ℕ)} → checked x ≡ Ok c → sequence_in x ≡ s → Follows (next_of s c) xs → Follows s (x ∷ xs)

pub data AllCarried : List (List (List ℕ)) → Type 0 where
  no_block : AllCarried []
  and_block : {p : List (List ℕ)} {ps : List (List (List ℕ))} → Carried p → AllCarried ps → AllCarried (p ∷ ps)

into-carried : (used : ℕ) (p ms : List (List ℕ)) → Filling used p → AllCarriable ms → AllCarried (pack_into used p ms)
unfolding pack_into
into-carried used p [] f no_message = and_block (filling-carried used p f) no_block
into-carried used p (m ∷ ms) f (and_message c r) =
    go (leb (with_one used (length m)) block_longest) refl
    (λ h. into-carried (with_one used (length m)) (p ++ (m ∷ [])) ms
    (record { some = omega (arith, length-append p (m ∷ [])); bytes = with-snoc used p m f.bytes; fits = h; carriable = snoc-carriable p m f.carriable c }) r)
    (into-carried (with_one (offset_at 0) (length m)) (m ∷ []) ms (record { some = omega arith; bytes = with_first m; fits = omega (arith, c.short); carriable = and_message c no_message }) r)
  where
    go : (t : Bool) → leb (with_one used (length m)) block_longest ≡ t
        → (with_one used (length m) ≤ block_longest → AllCarried (pack_into (with_one used (length m)) (p ++ (m ∷ [])) ms))
        → AllCarried (pack_into (with_one (offset_at 0) (length m)) (m ∷ []) ms)
        → AllCarried (cond t (pack_into (with_one used (length m)) (p ++ (m ∷ [])) ms) (p ∷ pack_into (with_one (offset_at 0) (length m)) (m ∷ []) ms))
    go true e a b = a (leb-true (with_one used (length m)) block_longest e)
    go false e a b = and_block (filling-carried used p f) b

packed-carried : (ms : List (List ℕ)) → AllCarriable ms → AllCarried (packed ms)
unfolding packed
packed-carried [] no_message = no_block
packed-carried (m ∷ ms) (and_message c r) =
    into-carried (with_one (offset_at 0) (length m)) (m ∷ []) ms (record { some = omega arith; bytes = with_first m; fits = omega (arith, c.short); carriable = and_message c no_message }) r

sequence-written : (s : ℕ) (p : List (List ℕ)) → s < 4294967296 → sequence_in (written s p) ≡ s
unfolding written
sequence-written s p h = framed-sequence s (checksum_of (front s 0 p ++ joined p)) p h

next_fits : (s c : ℕ) → next_of s c < 4294967296
unfolding next_of
next_fits s c = mod-lt (s + c) (lit< tt)

from-follows : (s : ℕ) (ps : List (List (List ℕ))) → s < 4294967296 → AllCarried ps → Follows s (run_from s ps)
unfolding run_from
from-follows s [] h no_block = end
from-follows s (p ∷ ps) h (and_block c r) = next (written-passes s p c) (sequence-written s p h) (from-follows (next_of s (length p)) ps (next_fits s (length p)) r)

from-messages : (s : ℕ) (ps : List (List (List ℕ))) → AllCarried ps → gather messages_of (run_from s ps) ≡ gather (λ q. q) ps
unfolding run_from
from-messages s [] no_block = refl
from-messages s (p ∷ ps) (and_block c r) = λ i. written_back s p c i ++ from-messages (next_of s (length p)) ps r i

module _ (s : ℕ) (ms : List (List ℕ)) (c : AllCarriable ms) where
  -- every block passes checks 30 to 34; numbers follow on from s
  pub run-follows : s < 4294967296 → Follows s (run_of s ms)
  unfolding run_of
  run-follows h = from-follows s (packed ms) h (packed-carried ms c)

  -- the messages of the run's blocks are these, in their order: nothing lost, added or moved
  pub run-messages : gather messages_of (run_of s ms) ≡ ms
  unfolding run_of
  run-messages = from-messages s (packed ms) (packed-carried ms c) ∙ packed_all ms

-- ---- "each with as many messages as fit"

abbrev pub first_of : List (List ℕ) → List ℕ
first_of [] = []
first_of (m ∷ ms) = m

-- of two blocks in a row, the first would be too long with the second's first message
pub data Full : List (List (List ℕ)) → Type 0 where
  empty : Full []
  last : {p : List (List ℕ)} → Full (p ∷ [])
  full : {p q : List (List ℕ)} {ps : List (List (List ℕ))} → block_longest < with_one (bytes_of p) (length (first_of q)) → Full (q ∷ ps) → Full (p ∷ q ∷ ps)

full-before : (p : List (List ℕ)) (m : List ℕ) (ps qs : List (List (List ℕ))) (q : List (List ℕ)) → ps ≡ (m ∷ q) ∷ qs → block_longest < with_one (bytes_of p) (length m) → Full ps → Full (p ∷ ps)
full-before p m ps qs q e h f = rw e (full h (rw e at f))

full-into : (used : ℕ) (p ms : List (List ℕ)) → used ≡ bytes_of p → Full (pack_into used p ms)
unfolding pack_into
full-into used p [] e = last
full-into used p (m ∷ ms) e =
    go (leb (with_one used (length m)) block_longest) refl (full-into (with_one used (length m)) (p ++ (m ∷ [])) ms (with-snoc used p m e))
    (full-into (with_one (offset_at 0) (length m)) (m ∷ []) ms (with_first m))
  where
    go : (t : Bool) → leb (with_one used (length m)) block_longest ≡ t → Full (pack_into (with_one used (length m)) (p ++ (m ∷ [])) ms) → Full (pack_into (with_one (offset_at 0) (length m)) (m ∷ []) ms)
        → Full (cond t (pack_into (with_one used (length m)) (p ++ (m ∷ [])) ms) (p ∷ pack_into (with_one (offset_at 0) (length m)) (m ∷ []) ms))
    go true q a b = a
    go false q a b =
        full-before p m (pack_into (with_one (offset_at 0) (length m)) (m ∷ []) ms) _ _ (pack-cut (with_one (offset_at 0) (length m)) (m ∷ []) ms)
        (omega (arith, e, leb-false (with_one used (length m)) block_longest q)) b

pub run-full : (ms : List (List ℕ)) → Full (packed ms)
unfolding packed
run-full [] = empty
run-full (m ∷ ms) = full-into (with_one (offset_at 0) (length m)) (m ∷ []) ms (with_first m)
