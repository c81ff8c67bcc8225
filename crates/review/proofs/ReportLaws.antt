-- What every answer of the book satisfies, on any bytes: its number is the call's; a refusal changes no byte and fills nothing; when make answers 0.
-- Assumes nothing.
use Prim.Native.Nat.{ℕ, ◌≤◌}
use mathlib.Core.Path.{◌≡◌, refl, sym, ap, ◌∙◌, subst}
use mathlib.Core.Bool.{Bool, true, false, ◌&&◌, cond}
use mathlib.Core.List.{List, []}
use Rattle.std.specs.Prelude.{Option, None, Some}
use native.Mathlib.Omega.{arith}
use lib.Dec.{leb, ltb, eqb}
use lib.ListN.{length}
use borrow.Author.Tests.{leb-true, eqb-true, le-leb, eq-eqb}
use Rattle.field.specs.Field.{be}
use Rattle.ranking.specs.declared.Side.{Side}
use Rattle.ranking.specs.declared.Candidate.{Candidate}
use Rattle.levels.specs.Levels.{Standing, Odd, odd_on, fifth, odd_code}
use Rattle.protection.specs.Protection.{protection}
use Rattle.sweep.specs.Sweep.{swept}
use Rattle.block.specs.Block.{messages_of}
use Rattle.block.specs.Written.{joined}
use Rattle.venuerun.specs.Run.{needed_of, venue_run}
use Rattle.opening.specs.declared.Line.{Line}
use Rattle.opening.specs.Opening.{sound, Rest, rest_in}
use Rattle.line.specs.Line.{done, gap_told, advanced}
use Rattle.calls.specs.Call.{Call, make, add, open_line, start_day, end_day, take, read, protected, convert_len, convert, snapshot_len, snapshot, try_order, set_allowance, tick, Answer, bare, protection_told, asked_side, steps_told, order_side, fed, size_told, report, line_answer, run_told, lot_on, letter_of, answer_of, published_on, candidates_on, quotes_on, make_good, is_make, number_on, call}
use Rattle.calls.proofs.SnapshotLaws.{feed-answer, feed-keeps}
use Rattle.quote.specs.declared.Quote.{Quote}
use Rattle.snapshot.specs.Snapshot.{Snapshot, snapshot_of}
use Rattle.snapshot.specs.Feed.{feed_blocks, feed_bytes}
use Rattle.lists.specs.Lists.{member}
use Rattle.lists.proofs.Tests.{clash}
use Rattle.told.specs.Told.{quads}
use Rattle.work.specs.Work.{told_on}
use Rattle.told.specs.declared.Told.{Told}
use Rattle.review.proofs.FitLaws.{odd-zero}
use Rattle.opening.specs.Layout.{book_length, symbols_most}

-- ---- the number

-- a snapshot's 81 reads the symbol's quotes, and is told with its answer
abbrev pub asks_room : Call → Bool
asks_room (make n) = false
asks_room (add s k l) = false
asks_room (open_line i l) = false
asks_room start_day = false
asks_room end_day = false
asks_room (take i b room) = false
asks_room (read s room) = false
asks_room (protected s m x) = false
asks_room (convert_len v) = false
asks_room (convert v room) = false
asks_room (snapshot_len s) = false
asks_room (snapshot s room) = true
asks_room (try_order s m w room) = false
asks_room (set_allowance n ss) = false
asks_room tick = false

-- of every call, if of a snapshot and of the others
pub of-each : (P : Call → Type 0) → ((c : Call) → asks_room c ≡ false → P c) → ((s : List ℕ) (room : ℕ) → P (snapshot s room)) → (c : Call) → P c
of-each P f g (make n) = f (make n) refl
of-each P f g (add s k l) = f (add s k l) refl
of-each P f g (open_line i l) = f (open_line i l) refl
of-each P f g start_day = f start_day refl
of-each P f g end_day = f end_day refl
of-each P f g (take i b room) = f (take i b room) refl
of-each P f g (read s room) = f (read s room) refl
of-each P f g (protected s m x) = f (protected s m x) refl
of-each P f g (convert_len v) = f (convert_len v) refl
of-each P f g (convert v room) = f (convert v room) refl
of-each P f g (snapshot_len s) = f (snapshot_len s) refl
of-each P f g (snapshot s room) = g s room
of-each P f g (try_order s m w room) = f (try_order s m w room) refl
of-each P f g (set_allowance n ss) = f (set_allowance n ss) refl
of-each P f g tick = f tick refl

module _ (r : Rest) (lot : ℕ → ℕ) (ts : ℕ → List (List ℕ) → List Told) (p : ℕ → List ℕ) (cs : ℕ → Side → ℕ → Option Candidate) (qs : ℕ → ℕ → Quote) (k : ℕ) where
  line-number : (b : List ℕ) (us : List Told) (o : Option Line) → (line_answer k b us o).number ≡ k
  line-number b us None = refl
  line-number b us (Some x) = go (done k)
    where
      go : (t : Bool) → (cond {A = Answer} t (report k (gap_told x b) (advanced x b) us) (report k 0 x [])).number ≡ k
      go true = refl
      go false = refl

  answer-number : (c : Call) → asks_room c ≡ false → (answer_of r lot ts p cs qs k c).number ≡ k
  unfolding answer_of
  answer-number (make n) e = refl
  answer-number (add s n l) e = refl
  answer-number (open_line i l) e = refl
  answer-number start_day e = refl
  answer-number end_day e = refl
  answer-number (take i b room) e = go (eqb k 9)
    where
      go : (t : Bool) → (cond {A = Answer} t (bare k) (line_answer k b (ts (letter_of (r.lines i)) (messages_of b)) (r.lines i))).number ≡ k
      go true = refl
      go false = line-number b (ts (letter_of (r.lines i)) (messages_of b)) (r.lines i)
  answer-number (read s room) e = refl
  answer-number (set_allowance n ss) e = refl
  answer-number tick e = refl
  answer-number (protected s m x) e = go (done k)
    where
      go : (t : Bool) → (cond {A = Answer} t (protection_told k (protection (asked_side m) x (cs (be s) (asked_side m)))) (bare k)).number ≡ k
      go true = refl
      go false = refl
  answer-number (convert_len v) e = go (done k)
    where
      go : (t : Bool) → (cond {A = Answer} t (run_told k (needed_of v) []) (bare k)).number ≡ k
      go true = refl
      go false = refl
  answer-number (convert v room) e = go (done k)
    where
      go : (t : Bool) → (cond {A = Answer} t (run_told k (needed_of v) (joined (venue_run lot v))) (bare k)).number ≡ k
      go true = refl
      go false = refl
  answer-number (snapshot_len s) e = go (done k)
    where
      go : (t : Bool) → (cond {A = Answer} t (size_told k (snapshot_of s (p (be s)) (qs (be s)))) (bare k)).number ≡ k
      go true = refl
      go false = refl
  answer-number (snapshot s room) e = clash e
  answer-number (try_order s m w room) e = go (done k)
    where
      go : (t : Bool) → (cond {A = Answer} t (steps_told k w (swept (order_side m) w (cs (be s) (order_side m)))) (bare k)).number ≡ k
      go true = refl
      go false = refl

number-other : (b : List ℕ) (c : Call) → asks_room c ≡ false → is_make c ≡ false
    → (cond {A = Answer} (sound b) (answer_of (rest_in b) (lot_on b) (told_on b) (published_on b) (candidates_on b) (quotes_on b) (number_on b c) c) (bare 1)).number ≡ number_on b c
unfolding number_on
number-other b c w m = go (sound b) refl
  where
    go : (t : Bool) → sound b ≡ t → (cond {A = Answer} t (answer_of (rest_in b) (lot_on b) (told_on b) (published_on b) (candidates_on b) (quotes_on b) (number_on b c) c) (bare 1)).number ≡ number_on b c
    go true e = answer-number (rest_in b) (lot_on b) (told_on b) (published_on b) (candidates_on b) (quotes_on b) (number_on b c) c w
    go false e = rw (m, e)

-- the number that a call answers
pub number-told : (b : List ℕ) (c : Call) → asks_room c ≡ false → (call b c).answer.number ≡ number_on b c
unfolding call
number-told b (make n) w = refl
number-told b (add s k l) w = number-other b (add s k l) refl refl
number-told b (open_line i l) w = number-other b (open_line i l) refl refl
number-told b start_day w = number-other b start_day refl refl
number-told b end_day w = number-other b end_day refl refl
number-told b (take i x room) w = number-other b (take i x room) refl refl
number-told b (read s room) w = number-other b (read s room) refl refl
number-told b (protected s m x) w = number-other b (protected s m x) refl refl
number-told b (convert_len v) w = number-other b (convert_len v) refl refl
number-told b (convert v room) w = number-other b (convert v room) refl refl
number-told b (snapshot_len s) w = number-other b (snapshot_len s) refl refl
number-told b (snapshot s room) w = clash w
number-told b (try_order s m x room) w = number-other b (try_order s m x room) refl refl
number-told b (set_allowance n ss) w = number-other b (set_allowance n ss) refl refl
number-told b tick w = number-other b tick refl refl

-- of a snapshot: that number, or 81 where it is 0
module _ (b s : List ℕ) (room : ℕ) where
  abbrev x : Snapshot
  x = snapshot_of s (published_on b (be s)) (quotes_on b (be s))

  abbrev told : ℕ → Bool → Bool → Answer
  told n d short = cond d (cond short (bare 81) (fed n (length (feed_blocks x)) (length (feed_bytes x)) (feed_bytes x))) (bare n)

  told_is : (call b (snapshot s room)).answer ≡ told (number_on b (snapshot s room)) (done (number_on b (snapshot s room))) (ltb room (length (feed_bytes x)))
  unfolding call
  told_is = feed-answer b s room

  pub room-known : (ns : List ℕ) → member ns 81 ≡ true → member ns (number_on b (snapshot s room)) ≡ true → member ns (call b (snapshot s room)).answer.number ≡ true
  room-known ns e f = ap (λ (a : Answer). member ns a.number) told_is ∙ go (done (number_on b (snapshot s room))) (ltb room (length (feed_bytes x)))
    where
      go : (d short : Bool) → member ns (told (number_on b (snapshot s room)) d short).number ≡ true
      go true true = e
      go true false = f
      go false short = f

-- ---- refusals

others_same : (b : List ℕ) (c : Call) → asks_room c ≡ false → done (call b c).answer.number ≡ false → (call b c).bytes ≡ b
unfolding call
others_same b c w e = let d : done (number_on b c) ≡ false = sym (ap done (number-told b c w)) ∙ e in rw d

-- a call that answers neither 0 nor 70 changes no byte at all
pub refused-same : (b : List ℕ) (c : Call) → done (call b c).answer.number ≡ false → (call b c).bytes ≡ b
refused-same b = of-each (λ (c : Call). done (call b c).answer.number ≡ false → (call b c).bytes ≡ b) (others_same b) (λ s room e. feed-keeps b s room)

abbrev Fills : Answer → Type 0
Fills a = (a.answers ≡ []) × (a.publication ≡ []) × (a.found ≡ 0) × (a.amount ≡ 0) × (a.output ≡ [])

line-empty : (k : ℕ) (b : List ℕ) (ts : List Told) (o : Option Line) → done k ≡ false → Fills (line_answer k b ts o)
unfolding quads
line-empty k b ts None e = (refl, refl, refl, refl, refl)
line-empty k b ts (Some r) e = rw e (refl, refl, refl, refl, refl)

answer-empty : (r : Rest) (lot : ℕ → ℕ) (ts : ℕ → List (List ℕ) → List Told) (p : ℕ → List ℕ) (cs : ℕ → Side → ℕ → Option Candidate) (qs : ℕ → ℕ → Quote) (k : ℕ) (c : Call) → done k ≡ false → Fills (answer_of r lot ts p cs qs k c)
unfolding answer_of
answer-empty r lot ts p cs qs k (make n) e = (refl, refl, refl, refl, refl)
answer-empty r lot ts p cs qs k (add s n l) e = (refl, refl, refl, refl, refl)
answer-empty r lot ts p cs qs k (open_line i l) e = (refl, refl, refl, refl, refl)
answer-empty r lot ts p cs qs k start_day e = (refl, refl, refl, refl, refl)
answer-empty r lot ts p cs qs k end_day e = (refl, refl, refl, refl, refl)
answer-empty r lot ts p cs qs k (take i b room) e = go (eqb k 9)
  where
    go : (t : Bool) → Fills (cond {A = Answer} t (bare k) (line_answer k b (ts (letter_of (r.lines i)) (messages_of b)) (r.lines i)))
    go true = (refl, refl, refl, refl, refl)
    go false = line-empty k b (ts (letter_of (r.lines i)) (messages_of b)) (r.lines i) e
answer-empty r lot ts p cs qs k (read s room) e = (refl, rw e, refl, refl, refl)
answer-empty r lot ts p cs qs k (protected s m x) e = rw e (refl, refl, refl, refl, refl)
answer-empty r lot ts p cs qs k (convert_len v) e = rw e (refl, refl, refl, refl, refl)
answer-empty r lot ts p cs qs k (convert v room) e = rw e (refl, refl, refl, refl, refl)
answer-empty r lot ts p cs qs k (snapshot_len s) e = rw e (refl, refl, refl, refl, refl)
answer-empty r lot ts p cs qs k (snapshot s room) e = rw e (refl, refl, refl, refl, refl)
answer-empty r lot ts p cs qs k (try_order s m w room) e = rw e (refl, refl, refl, refl, refl)
answer-empty r lot ts p cs qs k (set_allowance n ss) e = (refl, refl, refl, refl, refl)
answer-empty r lot ts p cs qs k tick e = (refl, refl, refl, refl, refl)

others-empty : (b : List ℕ) (c : Call) → asks_room c ≡ false → done (call b c).answer.number ≡ false → Fills (call b c).answer
unfolding call
others-empty b c w e = go (is_make c) (sound b)
  where
    d : done (number_on b c) ≡ false
    d = sym (ap done (number-told b c w)) ∙ e

    go : (m s : Bool) → Fills (cond {A = Answer} m (bare (number_on b c)) (cond {A = Answer} s (answer_of (rest_in b) (lot_on b) (told_on b) (published_on b) (candidates_on b) (quotes_on b) (number_on b c) c) (bare 1)))
    go true s = (refl, refl, refl, refl, refl)
    go false true = answer-empty (rest_in b) (lot_on b) (told_on b) (published_on b) (candidates_on b) (quotes_on b) (number_on b c) c d
    go false false = (refl, refl, refl, refl, refl)

feed-empty : (b s : List ℕ) (room : ℕ) → done (call b (snapshot s room)).answer.number ≡ false → Fills (call b (snapshot s room)).answer
feed-empty b s room e =
    subst (λ (a : Answer). Fills a) (sym (told_is b s room))
    (go (done (number_on b (snapshot s room))) refl (ltb room (length (feed_bytes (x b s room)))) (sym (ap (λ (a : Answer). done a.number) (told_is b s room)) ∙ e))
  where
    go : (d : Bool) → done (number_on b (snapshot s room)) ≡ d → (short : Bool) → done (told b s room (number_on b (snapshot s room)) d short).number ≡ false → Fills (told b s room (number_on b (snapshot s room)) d short)
    go true q true e = (refl, refl, refl, refl, refl)
    go true q false e = clash (sym q ∙ e)
    go false q short e = (refl, refl, refl, refl, refl)

-- and fills nothing: no answer, publication or output buffer; a query tells no and 0
pub refused-empty : (b : List ℕ) (c : Call) → done (call b c).answer.number ≡ false
    → ((call b c).answer.answers ≡ []) × ((call b c).answer.publication ≡ []) × ((call b c).answer.found ≡ 0) × ((call b c).answer.amount ≡ 0) × ((call b c).answer.output ≡ [])
refused-empty b = of-each (λ (c : Call). done (call b c).answer.number ≡ false → Fills (call b c).answer) (others-empty b) (feed-empty b)

-- ---- make

-- make answers 0 exactly if n is 1 to 64 and the length is right
pub made-exactly : (m : List ℕ) (n : ℕ) → 1 ≤ n → n ≤ symbols_most → length m ≡ book_length n → (call m (make n)).answer.number ≡ 0
unfolding call number_on make_good
made-exactly m n low up l = rw (le-leb 1 n low, le-leb n symbols_most up, eq-eqb (length m) (book_length n) l)

pub made-only : (m : List ℕ) (n : ℕ) → (call m (make n)).answer.number ≡ 0 → (1 ≤ n) × (n ≤ symbols_most) × (length m ≡ book_length n)
unfolding call number_on make_good
made-only m n = go (leb 1 n) refl (leb n symbols_most) refl (eqb (length m) (book_length n)) refl
  where
    go : (a : Bool) → leb 1 n ≡ a → (b : Bool) → leb n symbols_most ≡ b → (c : Bool) → eqb (length m) (book_length n) ≡ c
        → ◌≡◌ {A = ℕ} (cond (a && (b && c)) 0 2) 0 → (1 ≤ n) × (n ≤ symbols_most) × (length m ≡ book_length n)
    go true x true y true z e = (leb-true 1 n x, leb-true n symbols_most y, eqb-true (length m) (book_length n) z)
    go true x true y false z e = absurd (omega arith)
    go true x false y c z e = absurd (omega arith)
    go false x b y c z e = absurd (omega arith)

-- ---- an odd part with code 0 is one that the levels take

pub odd-levels : (lot : ℕ) (v : Standing) (o : Odd) → odd_code lot v o ≡ 0 → (w : Standing) × (odd_on o v ≡ Some w)
odd-levels lot v o e = go (odd_on o v) refl
  where
    go : (w : Option Standing) → odd_on o v ≡ w → (u : Standing) × (odd_on o v ≡ Some u)
    go None q = absurd (let z : ◌≡◌ {A = ℕ} 64 0 = sym (ap fifth q) ∙ (odd-zero lot v o e).1 in omega arith)
    go (Some w) q = (w, q)
