-- The number of a call on a sound book, and what a call that is done was.
-- Assumes nothing.
use Prim.Native.Nat.{ℕ, zero, suc, ◌<◌}
use mathlib.Core.Path.{◌≡◌, refl, sym, ap, ◌∙◌}
use mathlib.Core.Bool.{Bool, true, false, not, ◌&&◌, cond}
use mathlib.Core.List.{List, [], ◌∷◌}
use Rattle.std.specs.Prelude.{None, Some, Result, Ok, Err, Option}
use native.Mathlib.Omega.{arith}
use lib.Dec.{ltb, leb, eqb, lit<}
use lib.ListN.{length, length-map}
use borrow.Author.Tests.{ltb-true, leb-true, le-leb, eqb-true, eq-eqb, ne_eqb}
use Rattle.field.specs.Field.{Bytes, be, be_bytes}
use Rattle.field.proofs.Laws.{be_bytes-be}
use Rattle.lists.specs.Lists.{at, member, is_some, between, upper, every, sum}
use Rattle.lists.proofs.Tests.{clash, and-true, upper-low, Cut, equal, apart, cut}
use Rattle.field.specs.Ascii.{S}
use Rattle.text.specs.Form.{is_space, padded, symbol_good, letter_good, symbol_length}
use Rattle.update.specs.Parts.{reading_of}
use Rattle.update.proofs.TableLaws.{length-range}
use Rattle.update.proofs.CellLaws.{member_below}
use Rattle.opening.specs.Opening.{symbols_of, count_of, sound, Rest, rest_in, page_at, pages_in}
use Rattle.line.specs.Line.{arrival_number_of, block_number, checked_number_of, done, line_number}
use Rattle.calls.specs.Call.{Call, make, add, open_line, start_day, end_day, take, read, protected, convert_len, convert, snapshot_len, snapshot, try_order, set_allowance, tick, lots, side_marks, lots_good, number_of, make_good, is_make, number_on}
use Rattle.block.specs.Block.{answer_length, checked, count_in, idle_block, sequence_in}
use Rattle.block.specs.Sequence.{arrival_of}
use Rattle.block.specs.declared.Arrival.{Arrival}
use Rattle.numbers.specs.declared.Refusal.{Refusal}
use Rattle.allowance.specs.Allowance.{blocks_most, is_used_up, setting_number, share_count}
use Rattle.opening.specs.declared.Line.{Line}
use Rattle.line.proofs.GateLaws.{refused-done}
use Rattle.work.specs.Work.{Listed, is_listed, listing, listed_of}
use Rattle.opening.proofs.OpeningLaws.{Sound, sound-is}
use Rattle.entries.specs.Publication.{publication_length}
use Rattle.sweep.specs.Sweep.{steps_length}
use Rattle.opening.specs.Layout.{line_count, book_length, symbols_most}

-- ---- 1: bytes that are no book

pub number-unsound : (b : List ℕ) (c : Call) → is_make c ≡ false → sound b ≡ false → 1 ≡ number_on b c
unfolding number_on
number-unsound b c m e = rw (m, e)

pub number-sound : (b : List ℕ) (c : Call) → is_make c ≡ false → 0 ≡ number_on b c → sound b ≡ true
unfolding number_on
number-sound b c m e = go (sound b) refl
  where
    go : (t : Bool) → sound b ≡ t → t ≡ true
    go true s = refl
    go false s = let z : ◌≡◌ {A = ℕ} 0 1 = e ∙ rw (m, s) in absurd (omega arith)

-- ---- on a sound book every number is worked out from n, lines, day and symbols

module _ (n : ℕ) (b : List ℕ) (sd : Sound n b) where
  make_same : (k : ℕ) → make_good b k ≡ eqb k (symbols_of b)
  unfolding make_good
  make_same k = rw sd.symbols (go (cut k n))
    where
      last : (x y : Bool) → (x && (y && false)) ≡ false
      last true true = refl
      last true false = refl
      last false y = refl

      go : Cut k n → (leb 1 k && (leb k symbols_most && eqb (length b) (book_length k))) ≡ eqb k n
      go (equal t e) = rw (t, e, le-leb 1 n sd.low, le-leb n symbols_most sd.up, eq-eqb (length b) (book_length n) sd.size)
      go (apart t e) = rw (t, ne_eqb (length b) (book_length k) (λ z. e (omega (arith, z, sd.size)))) (last (leb 1 k) (leb k symbols_most))

  make-number : (k : ℕ) → cond (make_good b k) 0 2 ≡ number_of (rest_in b) (listed_of (pages_in b)) (make k)
  unfolding number_of rest_in
  make-number k = ap (λ (t : Bool). cond t 0 2) (make_same k)

  pub number_same : (c : Call) → number_on b c ≡ number_of (rest_in b) (listed_of (pages_in b)) c
  unfolding number_on
  number_same (make k) = make-number k
  number_same (add x k l) = rw (sound-is n b sd)
  number_same (open_line i l) = rw (sound-is n b sd)
  number_same start_day = rw (sound-is n b sd)
  number_same end_day = rw (sound-is n b sd)
  number_same (take i x k) = rw (sound-is n b sd)
  number_same (read x k) = rw (sound-is n b sd)
  number_same (protected x m v) = rw (sound-is n b sd)
  number_same (convert_len x) = rw (sound-is n b sd)
  number_same (convert x k) = rw (sound-is n b sd)
  number_same (snapshot_len x) = rw (sound-is n b sd)
  number_same (snapshot x room) = rw (sound-is n b sd)
  number_same (try_order x m w k) = rw (sound-is n b sd)
  number_same (set_allowance k ss) = rw (sound-is n b sd)
  number_same tick = rw (sound-is n b sd)

  rest-n : (rest_in b).n ≡ n
  unfolding rest_in
  rest-n = sd.symbols

  pub make-done : (k : ℕ) → done (number_of (rest_in b) (listed_of (pages_in b)) (make k)) ≡ true → k ≡ n
  unfolding number_of done
  make-done k d = go (cut k (rest_in b).n) d
    where
      go : Cut k (rest_in b).n → done (cond (eqb k (rest_in b).n) 0 2) ≡ true → k ≡ n
      go (equal t e) d = e ∙ rest-n
      go (apart t e) d = clash (sym (rw t at d))

  pub listed-length : length (listed_of (pages_in b)) ≡ count_of b
  unfolding listed_of pages_in
  listed-length = length-map (pages_in b) listing ∙ length-range (λ k. reading_of (page_at b k)) (count_of b) 0

  pub page-free : ltb (length (listed_of (pages_in b))) (rest_in b).n ≡ true → count_of b < n
  page-free h = omega (arith, ltb-true (length (listed_of (pages_in b))) (rest_in b).n h, listed-length, rest-n)

-- an unsound book does nothing
pub unsound : (b : List ℕ) (c : Call) → sound b ≡ false → is_make c ≡ false → done (number_on b c) ≡ false
unfolding number_on done
unsound b c e m = rw (m, e)

-- ---- what a call that is done was

-- with share and spare used, only a free block is taken
used-refused : (A : Type 0) (x : Line) (day : Bool) (b : List ℕ) (t : Bool) → idle_block b ≡ false → done (cond t 9 (block_number x day true b)) ≡ true → A
unfolding done block_number line_number
used-refused A x day b true f h = clash (sym h)
used-refused A x day b false f h = go (checked b) refl h
  where
    arrived : (d : Bool) (a : Option Arrival) → done (cond d (arrival_number_of true a) 20) ≡ true → true ≡ false
    arrived true (Some a) h = sym h
    arrived true None h = sym h
    arrived false a h = sym h

    go : (y : Result ℕ Refusal) → checked b ≡ y → done (checked_number_of x day true b y) ≡ true → A
    go (Ok c) e h = clash (arrived day (arrival_of (sequence_in b) x.expected (count_in b)) (rw f at h))
    go (Err n) e h = clash (sym h ∙ refused-done b n e)

module _ (r : Rest) (ls : List Listed) where
  pub record AddDone (s : List ℕ) (k l : ℕ) : Type 0 where
    pub good : symbol_good s ≡ true
    pub lot : member lots k ≡ true
    pub letter : letter_good l ≡ true
    pub new : is_listed (be s) ls ≡ false
    pub room : ltb (length ls) r.n ≡ true

  pub add_done : (s : List ℕ) (k l : ℕ) → done (number_of r ls (add s k l)) ≡ true → AddDone s k l
  unfolding done number_of
  add_done s k l = go (symbol_good s) refl (member lots k) refl (letter_good l) refl (is_listed (be s) ls) refl (ltb (length ls) r.n) refl
    where
      go : (a : Bool) → symbol_good s ≡ a → (b : Bool) → member lots k ≡ b → (f : Bool) → letter_good l ≡ f → (c : Bool) → is_listed (be s) ls ≡ c → (d : Bool) → ltb (length ls) r.n ≡ d
          → done (cond a (cond b (cond f (cond c 4 (cond d 0 5)) 75) 6) 3) ≡ true → AddDone s k l
      go true x true w true v false y true z e = record { good = x; lot = w; letter = v; new = y; room = z }
      go true x true w true v false y false z e = clash (sym e)
      go true x true w true v true y d z e = clash (sym e)
      go true x true w false v c y d z e = clash (sym e)
      go true x false w f v c y d z e = clash (sym e)
      go false x b w f v c y d z e = clash (sym e)

  pub open_done : (i l : ℕ) → done (number_of r ls (open_line i l)) ≡ true → (i < line_count) × (letter_good l ≡ true)
  unfolding done number_of
  open_done i l d =
      let e : (ltb i line_count && letter_good l) ≡ true = go (ltb i line_count && letter_good l) (is_some (r.lines i)) d in
      let t = and-true (ltb i line_count) (letter_good l) e in
      (ltb-true i line_count t.0, t.1)
    where
      go : (a b : Bool) → done (cond a (cond b 8 0) 7) ≡ true → a ≡ true
      go true b e = refl
      go false b e = clash (sym e)

  pub take_done : (i : ℕ) (b : List ℕ) (k : ℕ) → done (number_of r ls (take i b k)) ≡ true → r.lines i ≡ None → ⊥
  unfolding done number_of
  take_done i b k d e = go (ltb k answer_length) (rw e at d)
    where
      go : (t : Bool) → done (cond t 9 21) ≡ true → ⊥
      go true d = clash (sym d)
      go false d = clash (sym d)

  -- a block that is taken and not free had share or spare left
  pub take_left : (i : ℕ) (b : List ℕ) (k : ℕ) (x : Line) → done (number_of r ls (take i b k)) ≡ true → r.lines i ≡ Some x → idle_block b ≡ false → is_used_up r.allowance i ≡ false
  unfolding number_of
  take_left i b k x d e f = go (is_used_up r.allowance i) (ltb k answer_length) (rw e at d)
    where
      go : (u t : Bool) → done (cond t 9 (block_number x r.day u b)) ≡ true → u ≡ false
      go false t h = refl
      go true t h = used-refused (true ≡ false) x r.day b t f h

  pub setting-done : (n : ℕ) (ss : List ℕ) → done (number_of r ls (set_allowance n ss)) ≡ true → setting_number n ss ≡ 0
  unfolding done number_of setting_number
  setting-done n ss = go (leb 1 n && leb n blocks_most) (eqb (length ss) share_count && leb (sum ss) n)
    where
      go : (a b : Bool) → done (cond a (cond b 0 85) 84) ≡ true → ◌≡◌ {A = ℕ} (cond a (cond b 0 85) 84) 0
      go true true e = refl
      go true false e = clash (sym e)
      go false b e = clash (sym e)

  pub read_done : (s : List ℕ) (k : ℕ) → done (number_of r ls (read s k)) ≡ true → (symbol_good s ≡ true) × (is_listed (be s) ls ≡ true)
  unfolding done number_of
  read_done s k = go (ltb k publication_length) (symbol_good s) (is_listed (be s) ls)
    where
      go : (a b c : Bool) → done (cond a 9 (cond (b && c) 0 10)) ≡ true → (b ≡ true) × (c ≡ true)
      go true b c e = clash (sym e)
      go false true true e = (refl, refl)
      go false true false e = clash (sym e)
      go false false c e = clash (sym e)

  pub protected-done : (s : List ℕ) (m x : ℕ) → done (number_of r ls (protected s m x)) ≡ true → (symbol_good s ≡ true) × (is_listed (be s) ls ≡ true) × (member side_marks m ≡ true)
  unfolding done number_of
  protected-done s m x = go (symbol_good s) (is_listed (be s) ls) (member side_marks m)
    where
      go : (a b c : Bool) → done (cond (a && b) (cond c 0 74) 10) ≡ true → (a ≡ true) × (b ≡ true) × (c ≡ true)
      go true true true e = (refl, refl, refl)
      go true true false e = clash (sym e)
      go true false c e = clash (sym e)
      go false b c e = clash (sym e)

  known-done : (s : List ℕ) → done (cond (symbol_good s && is_listed (be s) ls) 0 10) ≡ true → (symbol_good s ≡ true) × (is_listed (be s) ls ≡ true)
  unfolding done
  known-done s = go (symbol_good s) (is_listed (be s) ls)
    where
      go : (a b : Bool) → done (cond (a && b) 0 10) ≡ true → (a ≡ true) × (b ≡ true)
      go true true e = (refl, refl)
      go true false e = clash (sym e)
      go false b e = clash (sym e)

  -- of both calls of T-12
  pub len-done : (s : List ℕ) → done (number_of r ls (snapshot_len s)) ≡ true → (symbol_good s ≡ true) × (is_listed (be s) ls ≡ true)
  unfolding number_of
  len-done s e = known-done s e

  pub feed-done : (s : List ℕ) (room : ℕ) → done (number_of r ls (snapshot s room)) ≡ true → (symbol_good s ≡ true) × (is_listed (be s) ls ≡ true)
  unfolding number_of
  feed-done s room e = known-done s e

  pub order-done : (s : List ℕ) (m w k : ℕ) → done (number_of r ls (try_order s m w k)) ≡ true → (symbol_good s ≡ true) × (is_listed (be s) ls ≡ true)
  unfolding done number_of
  order-done s m w k = go (symbol_good s) (is_listed (be s) ls) (member side_marks m) (lots_good w) (ltb k steps_length)
    where
      go : (a b c d f : Bool) → done (cond (a && b) (cond c (cond d (cond f 83 0) 82) 74) 10) ≡ true → (a ≡ true) × (b ≡ true)
      go true true c d f e = (refl, refl)
      go true false c d f e = clash (sym e)
      go false b c d f e = clash (sym e)

-- ---- what they say of the arguments' bytes

pub lot-fits : (k : ℕ) → member lots k ≡ true → k < 256
unfolding every
lot-fits k e = member_below lots 256 k refl e

pub letter-fits : (l : ℕ) → letter_good l ≡ true → l < 256
letter-fits l e = omega (arith, (upper-low l (and-true (upper l) (not (eqb l S)) e).0).1)

spaces : (s : List ℕ) → every is_space s ≡ true → Bytes s
unfolding every
spaces [] e i = lit< tt
spaces (x ∷ s) e zero = omega (arith, eqb-true x 32 (and-true (eqb x 32) (every is_space s) e).0)
spaces (x ∷ s) e (suc i) = spaces s (and-true (eqb x 32) (every is_space s) e).1 i

padded-bytes : (low high : ℕ) → high < 256 → (s : List ℕ) → padded low high s ≡ true → Bytes s
unfolding padded
padded-bytes low high h [] e = λ i. lit< tt
padded-bytes low high h (x ∷ s) e = go (between low high x) refl (padded-bytes low high h s) e
  where
    head : x < 256 → Bytes s → Bytes (x ∷ s)
    head a b zero = a
    head a b (suc i) = b i

    go : (t : Bool) → between low high x ≡ t → (padded low high s ≡ true → Bytes s) → cond t (padded low high s) (every is_space (x ∷ s)) ≡ true → Bytes (x ∷ s)
    go true t down e = head (omega (arith, leb-true x high (and-true (leb low x) (leb x high) t).1)) (down e)
    go false t down e = spaces (x ∷ s) e

pub symbol-eleven : (s : List ℕ) → symbol_good s ≡ true → length s ≡ symbol_length
unfolding symbol_good
symbol-eleven s e = eqb-true (length s) symbol_length (and-true (eqb (length s) symbol_length) (upper (at s 0) && padded 33 126 s) e).0

pub symbol-bytes : (s : List ℕ) → symbol_good s ≡ true → Bytes s
unfolding symbol_good
symbol-bytes s e =
    padded-bytes 33 126 (lit< tt) s (and-true (upper (at s 0)) (padded 33 126 s) (and-true (eqb (length s) symbol_length) (upper (at s 0) && padded 33 126 s) e).1).1

-- the bytes of a symbol's number are the symbol
pub symbol-back : (s : List ℕ) → symbol_good s ≡ true → be_bytes symbol_length (be s) ≡ s
symbol-back s g = ap (λ (n : ℕ). be_bytes n (be s)) (sym (symbol-eleven s g)) ∙ be_bytes-be s (symbol-bytes s g)
