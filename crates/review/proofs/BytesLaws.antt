-- The messages of a block on a book's bytes are those on its readings.
-- Assumes nothing.
use Prim.Native.Nat.{ℕ, zero, suc, ◌+◌, ◌≤◌}
use mathlib.Core.Path.{◌≡◌, refl, ap, ◌∙◌}
use mathlib.Core.Bool.{Bool, true, false, cond}
use mathlib.Core.List.{List, [], ◌∷◌}
use native.Mathlib.Omega.{arith}
use lib.Dec.{leb, eqb}
use lib.ListN.{length}
use Rattle.field.specs.Field.{Bytes}
use Rattle.field.proofs.Laws.{bytes-part}
use Rattle.lists.specs.Lists.{at, upper}
use Rattle.lists.proofs.Tests.{Cut, equal, apart, cut}
use Rattle.message.specs.declared.Message.{Message}
use Rattle.message.specs.Message.{symbol_of, odd_at, odd_length, message_of, Known, code_by, code_of, Part, round_part_of, odd_part_of, maker_part_of, status_part_of, partly_taken, parts_of, round_lot_odd, odd_lot_odd, round_length, round_lot_items, odd_lot_items}
use Rattle.message.proofs.SpokenLaws.{Spoken, refused, idle, finra, round, odd, maker, status, spoken, parts-refused, parts_whole, parts-round, parts-odd, parts-maker, parts-status}
use Rattle.block.specs.Block.{count_in, message_at, messages_from, messages_of}
use Rattle.update.specs.Parts.{Reading, known_of}
use Rattle.opening.specs.Opening.{pages_in, reading_for}
use Rattle.work.specs.Work.{listed_of, part_on, parts_on, code_on, message_on, messages_on, flags_of, publications, told_on}
use Rattle.opening.proofs.OpeningLaws.{Sound}
use Rattle.opening.proofs.PageLaws.{OpeningKept, opening-none, opening-then, kept-sound}
use Rattle.work.proofs.PartLaws.{PartGood, PartDone, part-done}
use Rattle.review.proofs.FitLaws.{quote-fits, name-fits, odd-message}
use Rattle.review.proofs.CodeLaws.{takes_whole, OddTaken, round-taken, odd-taken, maker-taken}
use Rattle.review.proofs.WorkLaws.{parts_reading, code_in, message_reading, messages_reading, told_reading, parts-listed}
use Rattle.review.proofs.PartLaws.{part-listed}
use Rattle.review.proofs.Agree.{Apart}
use Rattle.review.proofs.OnceLaws.{once-first, once-code}

-- ---- the parts of a message that is taken are good

abbrev pub AllPartGood : List Part → Type 0
AllPartGood [] = Unit {0}
AllPartGood (p ∷ ps) = PartGood p × AllPartGood ps

module _ (e : Known) (letter : ℕ) (m : List ℕ) (u : upper letter ≡ true) (by : Bytes m) (c : ℕ) where
  up : at m 2 ≡ letter → upper (at m 2) ≡ true
  up l = rw l u

  -- an odd part with code 0
  odd-good : at m 2 ≡ letter → (i j : ℕ) → 12 ≤ j → length m ≡ odd_length (odd_at m i j) → (z : c ≡ 0) → OddTaken e letter m c (takes_whole c z) (odd_at m i j) → PartGood (odd_part_of m (odd_at m i j))
  odd-good l i j h n z r = (up l, odd-message m by i j h n e.lot (e.levels letter) (r.odd ∙ z))

  good-by : (x : Message) → code_by e letter m x ≡ c → Spoken letter m x → AllPartGood (parts_of c m)
  unfolding odd_at
  good-by x q (refused k lo hi) = rw (parts-refused c m (omega arith) (omega arith)) tt
  good-by x q (idle w) = rw (← q, parts_whole m, w) tt
  good-by x q (finra k d w) = rw (← q, parts_whole m, w) (d, tt)
  good-by x q (round l k n) = rw (parts-round c m k) (go (cut c 0) (leb 60 c))
    where
      round-good : PartGood (round_part_of m)
      round-good = (up l, quote-fits m by (omega (arith, n)))

      go : Cut c 0 → (p : Bool) → AllPartGood (cond (eqb c 0) (round_part_of m ∷ odd_part_of m (round_lot_odd m) ∷ []) (cond p (round_part_of m ∷ []) []))
      go (equal t z) p = rw t (round-good, (odd-good l round_length round_lot_items (omega arith) n z (round-taken e letter m c (takes_whole c z) (round_lot_odd m) q), tt))
      go (apart t z) true = rw t (round-good, tt)
      go (apart t z) false = rw t tt
  good-by x q (odd l k n) = rw (parts-odd c m k) (go (cut c 0))
    where
      go : Cut c 0 → AllPartGood (cond (eqb c 0) (odd_part_of m (odd_lot_odd m) ∷ []) [])
      go (equal t z) = rw t (odd-good l 31 odd_lot_items (omega arith) n z (odd-taken e letter m c (takes_whole c z) (odd_lot_odd m) q), tt)
      go (apart t z) = rw t tt
  good-by x q (maker k n) = rw (parts-maker c m k) (go (cut c 0))
    where
      go : Cut c 0 → AllPartGood (cond (eqb c 0) (maker_part_of m ∷ []) [])
      go (equal t z) =
          rw t ((name-fits m by (omega (arith, n)), quote-fits m by (omega (arith, n)), (maker-taken e letter m c (takes_whole c z) q).condition), tt)
      go (apart t z) = rw t tt
  good-by x q (status k n) = rw (parts-status c m k) (go (eqb c 0))
    where
      go : (t : Bool) → AllPartGood (cond t (status_part_of m ∷ []) [])
      go true = (by 31, tt)
      go false = tt

  parts-good : code_of e letter m ≡ c → AllPartGood (parts_of c m)
  unfolding code_of
  parts-good x = good-by (message_of letter m) x (spoken letter m)

-- ---- the messages of a block of bytes are bytes

abbrev pub AllBytes : List (List ℕ) → Type 0
AllBytes [] = Unit {0}
AllBytes (m ∷ ms) = Bytes m × AllBytes ms

from_bytes : (b : List ℕ) → Bytes b → (i k : ℕ) → AllBytes (messages_from b i k)
unfolding messages_from message_at
from_bytes b y i zero = tt
from_bytes b y i (suc k) = (bytes-part b _ _ y, from_bytes b y (i + 1) k)

pub messages-bytes : (b : List ℕ) → Bytes b → AllBytes (messages_of b)
unfolding messages_of
messages-bytes b y = from_bytes b y 0 (count_in b)

-- ---- on a sound book of bytes

pub record Done (b b' : List ℕ) (rs : List Reading) : Type 0 where
  pub pages : pages_in b' ≡ rs
  pub kept : OpeningKept b b'

-- no symbol twice
abbrev Once : List ℕ → Type 0
Once b = Apart (listed_of (pages_in b))

once_by : (b b' : List ℕ) → listed_of (pages_in b') ≡ listed_of (pages_in b) → Once b → Once b'
once_by b b' e a = rw e a

module _ (n : ℕ) where
  parts-done : (ps : List Part) (b : List ℕ) → Sound n b → Bytes b → Once b → AllPartGood ps → Done b (parts_on ps b) (parts_reading ps (pages_in b))
  unfolding parts_on
  parts-done [] b sd y a g = record { pages = refl; kept = opening-none b }
  parts-done (p ∷ ps) b sd y a g =
      let d : PartDone p b (part_on p b) = part-done n p b sd y (once-first b a) g.0 in
      let r : Done (part_on p b) (parts_on ps (part_on p b)) (parts_reading ps (pages_in (part_on p b))) =
      parts-done ps (part_on p b) (kept-sound b (part_on p b) d.kept n sd) (d.kept.bytes y) (once_by b (part_on p b) (ap listed_of d.pages ∙ part-listed p (pages_in b)) a) g.1 in
      record { pages = r.pages ∙ ap (parts_reading ps) d.pages; kept = opening-then b (part_on p b) (parts_on ps (part_on p b)) d.kept r.kept }

  module _ (letter : ℕ) (u : upper letter ≡ true) where
    pub message-done : (m : List ℕ) (b : List ℕ) → Bytes m → Sound n b → Bytes b → Once b → Done b (message_on letter m b) (message_reading letter m (pages_in b))
    message-done m b by sd y a =
        let d : Done b (message_on letter m b) (parts_reading (parts_of (code_on letter m b) m) (pages_in b)) =
        parts-done (parts_of (code_on letter m b) m) b sd y a (parts-good (known_of (reading_for b (symbol_of m))) letter m u by (code_on letter m b) refl) in
        record { pages = d.pages ∙ ap (λ (c : ℕ). parts_reading (parts_of c m) (pages_in b)) (once-code b a letter m); kept = d.kept }

    next-once : (m : List ℕ) (b : List ℕ) → Done b (message_on letter m b) (message_reading letter m (pages_in b)) → Once b → Once (message_on letter m b)
    next-once m b d a = once_by b (message_on letter m b) (ap listed_of d.pages ∙ parts-listed (parts_of (code_in letter m (pages_in b)) m) (pages_in b)) a

    pub messages-done : (ms : List (List ℕ)) (b : List ℕ) → AllBytes ms → Sound n b → Bytes b → Once b → Done b (messages_on letter ms b) (messages_reading letter ms (pages_in b))
    unfolding messages_on
    messages-done [] b by sd y a = record { pages = refl; kept = opening-none b }
    messages-done (m ∷ ms) b by sd y a =
        let d : Done b (message_on letter m b) (message_reading letter m (pages_in b)) = message-done m b by.0 sd y a in
        let r : Done (message_on letter m b) (messages_on letter ms (message_on letter m b)) (messages_reading letter ms (pages_in (message_on letter m b))) =
        messages-done ms (message_on letter m b) by.1 (kept-sound b (message_on letter m b) d.kept n sd) (d.kept.bytes y) (next-once m b d a) in
        record {
          pages = r.pages ∙ ap (messages_reading letter ms) d.pages;
          kept = opening-then b (message_on letter m b) (messages_on letter ms (message_on letter m b)) d.kept r.kept;
        }

    pub told-done : (ms : List (List ℕ)) (b : List ℕ) → AllBytes ms → Sound n b → Bytes b → Once b → told_on b letter ms ≡ told_reading (pages_in b) letter ms
    unfolding told_on
    told-done [] b by sd y a = refl
    told-done (m ∷ ms) b by sd y a =
        let d : Done b (message_on letter m b) (message_reading letter m (pages_in b)) = message-done m b by.0 sd y a in
        let c : code_on letter m b ≡ code_in letter m (pages_in b) = once-code b a letter m in
        let r : told_on (message_on letter m b) letter ms ≡ told_reading (message_reading letter m (pages_in b)) letter ms =
        told-done ms (message_on letter m b) by.1 (kept-sound b (message_on letter m b) d.kept n sd) (d.kept.bytes y) (next-once m b d a) ∙ ap (λ (rs : List Reading). told_reading rs letter ms) d.pages in
        λ i. record { code = c i; flags = flags_of (publications (pages_in b)) (publications (d.pages i)); partly = partly_taken (c i) m } ∷ r i
