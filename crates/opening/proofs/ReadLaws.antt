-- What the code reads of a book: whether it is sound, a page's symbol, a line.
-- Assumes nothing.
use Rattle.std.proofs.Common.{◌≡◌, ℕ, ◌+◌, ◌-◌, ◌*◌, ◌/◌, ◌%◌, ◌<◌, ◌≤◌, Bool, true, false, ◌&&◌, eqb, ltb, List, length, sym, refl, ap, ◌∙◌, arith, le-ltb, lt-ltb, eq-eqb, ne_eqb}
use Rattle.field.specs.Field.{Bytes, be, part, field, splice, be_bytes}
use Rattle.field.proofs.Laws.{field-join, field_lt, field-part, field-part-0, be_bytes-field, part-all}
use Rattle.lists.specs.Lists.{first_from, same_list}
use Rattle.std.specs.Prelude.{Some, Option, None}
use Rattle.lists.proofs.Searches.{first-start}
use Rattle.lists.proofs.Tests.{Cut, equal, apart, cut}
use Rattle.text.specs.Form.{letter_good, symbol_length}
use Rattle.update.proofs.TableLaws.{cell-order}
use Rattle.opening.specs.Opening.{symbols_of, count_of, sound, line_in, lines_in, page_at, first_place, page_place, bucket_of, hint_of, is_place, hinted}
use Rattle.opening.proofs.OpeningLaws.{Sound, same-is, sound-of}
use Rattle.opening.proofs.PageLaws.{place-hit}
use Rattle.page.specs.Layout.{hints_at, hint_count, page_length, page_symbol}
use Rattle.opening.specs.Layout.{n_at, count_at, day_at, line_length, opening_length, book_length, line_count, page_start, line_at, symbols_most, mark}

-- ---- a sound opening

-- the mark as one number
pub mark-bytes : be_bytes 8 5860677713450388273 ≡ mark
unfolding be_bytes
mark-bytes = refl

mark-number : be mark ≡ 5860677713450388273
unfolding be
mark-number = refl

pub unsound-by : (b : List ℕ) → (Sound (symbols_of b) b → ⊥) → false ≡ sound b
unsound-by b h = go (sound b) refl
  where
    go : (t : Bool) → sound b ≡ t → false ≡ t
    go true e = absurd (h (sound-of b e))
    go false e = refl

same-self : (a b : List ℕ) → a ≡ b → mark ≡ b → true ≡ same_list a b
unfolding same_list
same-self a b e m = rw (e, ← m) refl

mark-of : (b : List ℕ) → part b 0 n_at ≡ mark → field b 0 8 ≡ 5860677713450388273
unfolding field
mark-of b e = ap be e ∙ mark-number

-- the mark, asked as one number
pub marked-test : (b : List ℕ) → n_at ≤ length b → Bytes b → eqb (field b 0 8) 5860677713450388273 ≡ same_list (part b 0 n_at) mark
marked-test b long y = go (cut (field b 0 8) 5860677713450388273) (same_list (part b 0 n_at) mark) refl
  where
    go : Cut (field b 0 8) 5860677713450388273 → (s : Bool) → same_list (part b 0 n_at) mark ≡ s → eqb (field b 0 8) 5860677713450388273 ≡ same_list (part b 0 n_at) mark
    go (equal t e) s q = t ∙ same-self (part b 0 n_at) mark (sym (be_bytes-field b 0 8 long y) ∙ ap (be_bytes 8) e ∙ mark-bytes) refl
    go (apart t d) true q = absurd (d (mark-of b (same-is (part b 0 n_at) mark q)))
    go (apart t d) false q = t ∙ sym q

-- what a sound book's length has room for
pub opening-room : (b : List ℕ) → sound b ≡ true → opening_length ≤ length b
opening-room b e = omega (arith, (sound-of b e).size)

-- a sound book's day flag is 0 or 1
pub day-flag : (b : List ℕ) (d : ℕ) → sound b ≡ true → d ≡ field b day_at 1 → d ≤ 1
day-flag b d e de = omega (arith, (sound-of b e).day, de)

pub counted-room : (b : List ℕ) (c k : ℕ) → sound b ≡ true → c ≡ field b count_at 1 → k < c → (page_start k + page_length ≤ length b) × (k < symbols_most)
unfolding count_of
counted-room b c k e ce h =
    let s : Sound (symbols_of b) b = sound-of b e in
    (omega (arith, s.size, s.count, ce, cell-order page_length k (symbols_of b) (omega (arith, s.count, ce))), omega (arith, s.count, s.up, ce))

-- ---- a symbol: 8, 2 and 1 bytes

symbol-joined : (p : List ℕ) (at : ℕ) → at + symbol_length ≤ length p → field p at symbol_length ≡ field p at 8 * 16777216 + (field p (at + 8) 2 * 256 + field p (at + 10) 1)
symbol-joined p at h =
    let e : at + 8 + 2 ≡ at + 10 = omega arith in
    let j : field p (at + 8) 2 * 256 + field p (at + 8 + 2) 1 ≡ field p (at + 8) 3 = field-join 2 1 p (at + 8) (omega arith) in
    let k : field p at 8 * 16777216 + field p (at + 8) 3 ≡ field p at symbol_length = field-join 8 3 p at (omega arith) in
    rw (← k, ← j, e)

-- the symbol's number from what is read of its bytes
pub symbol-number : (s : List ℕ) (high middle low : ℕ) → length s ≡ symbol_length → high ≡ field s 0 8 → middle ≡ field s 8 2 → low ≡ field s 10 1
    → be s ≡ high * 16777216 + (middle * 256 + low)
unfolding field
symbol-number s high middle low l h m o =
    let w : part s 0 symbol_length ≡ s = ap (λ (n : ℕ). part s 0 n) (sym l) ∙ part-all s in
    rw (h, m, o) (ap be (sym w) ∙ symbol-joined s 0 (omega arith))

module _ (b : List ℕ) (at high middle low : ℕ) (room : at + symbol_length ≤ length b) (y : Bytes b) (m : middle < 65536) (l : low < 256) where
  abbrev asked : ℕ
  asked = high * 16777216 + (middle * 256 + low)

  two : field b (at + 8) 2 < 65536
  two = field_lt b (at + 8) 2 (omega arith) y

  one : field b (at + 10) 1 < 256
  one = field_lt b (at + 10) 1 (omega arith) y

  -- asked part by part
  pub symbol-parts : eqb (field b at 8) high && eqb (field b (at + 8) 2) middle && eqb (field b (at + 10) 1) low ≡ eqb (field b at symbol_length) asked
  symbol-parts = go (cut (field b at 8) high) (cut (field b (at + 8) 2) middle) (cut (field b (at + 10) 1) low)
    where
      other : (field b at symbol_length ≡ asked → ⊥) → false ≡ eqb (field b at symbol_length) asked
      other d = sym (ne_eqb (field b at symbol_length) asked d)

      go : Cut (field b at 8) high → Cut (field b (at + 8) 2) middle → Cut (field b (at + 10) 1) low
          → eqb (field b at 8) high && eqb (field b (at + 8) 2) middle && eqb (field b (at + 10) 1) low ≡ eqb (field b at symbol_length) asked
      go (apart t d) u v = rw t (other (λ q. d (omega (arith, q, two, one, symbol-joined b at room))))
      go (equal s e) (apart t d) v = rw (s, t) (other (λ q. d (omega (arith, q, two, one, symbol-joined b at room))))
      go (equal r e) (equal s f) (apart t d) = rw (r, s, t) (other (λ q. d (omega (arith, q, two, one, symbol-joined b at room))))
      go (equal r e) (equal s f) (equal t g) = rw (r, s, t) (sym (eq-eqb (field b at symbol_length) asked (omega (arith, e, f, g, symbol-joined b at room))))

-- whether page k has the symbol
pub page-symbol : (b : List ℕ) (k v n : ℕ) (t r : Bool) → v ≡ n → r ≡ eqb (field b (page_start k) symbol_length) n → r ≡ t → eqb (page_symbol (page_at b k)) v ≡ t
unfolding page_at
page-symbol b k v n t r ve re te = rw (ve, field-part-0 b (page_start k) page_length symbol_length (omega arith)) (sym re ∙ te)

abbrev pub has_symbol : List ℕ → ℕ → ℕ → Bool
has_symbol b v k = eqb (page_symbol (page_at b k)) v

pub find-start : (b : List ℕ) (v c : ℕ) → c ≡ field b count_at 1 → first_from (has_symbol b v) 0 (c - 0) ≡ first_place b v
unfolding first_place count_of
find-start b v c e = first-start (has_symbol b v) c ∙ ap (first_from (has_symbol b v) 0) e

-- ---- the hinted page

-- the bucket from the first 8 bytes
pub bucket-high : (high middle low : ℕ) → middle < 65536 → low < 256 → bucket_of (high * 16777216 + (middle * 256 + low)) ≡ high % hint_count
bucket-high high middle low m l = let e : (high * 16777216 + (middle * 256 + low)) / 16777216 ≡ high = omega arith in ap (λ (k : ℕ). k % hint_count) e

module _ (b : List ℕ) (v k : ℕ) where
  pub place-counted : (c : ℕ) (r : Bool) → c ≡ field b count_at 1 → k < c → r ≡ eqb (field b (page_start k) symbol_length) v → r ≡ is_place b v k
  unfolding is_place count_of
  place-counted c r ce h e =
      let l : ltb k (field b count_at 1) ≡ true = lt-ltb k (field b count_at 1) (omega arith) in
      rw l (sym (page-symbol b k v v r r refl e refl))

  pub place-above : (c : ℕ) → c ≡ field b count_at 1 → c ≤ k → false ≡ is_place b v k
  unfolding is_place count_of
  place-above c ce h = let l : ltb k (field b count_at 1) ≡ false = le-ltb k (field b count_at 1) (omega arith) in rw l

  module _ (v' : ℕ) (ve : v' ≡ v) (e : k ≡ hint_of b v) (r : Bool) (re : r ≡ is_place b v' k) where
    pub hint_holds : r ≡ true → Some k ≡ page_place b v
    unfolding page_place
    hint_holds t = rw (← e, ← ve, ← re, t)

    pub hint_fails : (w : Option ℕ) → r ≡ false → w ≡ first_place b v' → w ≡ page_place b v
    unfolding page_place
    hint_fails w t f = rw (← e, ← ve, ← re, t) f

-- the byte that is read
pub hint-read : (b : List ℕ) (v high k at : ℕ) → bucket_of v ≡ high % hint_count → at ≡ page_start 0 + (hints_at + high % hint_count) → k ≡ field b at 1 → k ≡ hint_of b v
unfolding hint_of page_at
hint-read b v high k at e a r = r ∙ ap (λ (i : ℕ). field b i 1) a ∙ sym (field-part b (page_start 0) page_length (hints_at + high % hint_count) 1 (omega arith)) ∙ ap (λ (i : ℕ). field (part b (page_start 0) page_length) (hints_at + i) 1) (sym e)

-- and the byte that is written
pub hint-put : (b s b' : List ℕ) (high k at : ℕ) → length s ≡ symbol_length → Bytes s → high ≡ field s 0 8 → at ≡ page_start 0 + (hints_at + high % hint_count) → b' ≡ splice b at (be_bytes 1 k) → b' ≡ hinted (be s) k b
unfolding hinted
hint-put b s b' high k at w y h a e =
    let n : be s ≡ high * 16777216 + (field s 8 2 * 256 + field s 10 1) = symbol-number s high (field s 8 2) (field s 10 1) w h refl refl in
    let q : bucket_of (be s) ≡ high % hint_count = ap bucket_of n ∙ bucket-high high (field s 8 2) (field s 10 1) (field_lt s 8 2 (omega arith) y) (field_lt s 10 1 (omega arith) y) in
    e ∙ ap (λ (i : ℕ). splice b i (be_bytes 1 k)) (a ∙ ap (λ (i : ℕ). page_start 0 + (hints_at + i)) (sym q))

pub first-room : (b : List ℕ) → sound b ≡ true → book_length 1 ≤ length b
first-room b e = omega (arith, (sound-of b e).size, (sound-of b e).low)

pub pages-room : (b : List ℕ) (n : ℕ) → sound b ≡ true → n ≡ field b n_at 1 → (n ≤ symbols_most) × (length b ≡ book_length n)
unfolding symbols_of
pages-room b n e ne = let s : Sound (symbols_of b) b = sound-of b e in (omega (arith, s.up, ne), omega (arith, s.size, ne))

pub found-room : (b : List ℕ) (v k : ℕ) (r : Option ℕ) → sound b ≡ true → r ≡ page_place b v → r ≡ Some k → (page_start k + page_length ≤ length b) × (k < symbols_most)
unfolding count_of
found-room b v k r s e f = counted-room b (count_of b) k s refl (place-hit b v k (sym e ∙ f)).0

-- ---- a line as it stands

module _ (b : List ℕ) (i : ℕ) where
  pub line-above : 63 < i → None ≡ lines_in b i
  unfolding lines_in
  line-above h = rw (le-ltb i line_count (omega arith))

  module _ (l : ℕ) (low : i ≤ 63) (le : l ≡ field b (line_at i) 1) where
    letter-is : field (part b (line_at i) line_length) 0 1 ≡ l
    letter-is = field-part-0 b (line_at i) line_length 1 (omega arith) ∙ sym le

    pub line-closed : letter_good l ≡ false → None ≡ lines_in b i
    unfolding lines_in line_in
    line-closed g = rw (lt-ltb i line_count (omega arith), letter-is, g)

    pub line-is : (e n : ℕ) → letter_good l ≡ true → e ≡ field b (line_at i + 1) 4 → n ≡ field b (line_at i + 5) 8 → Some (record { letter = l; expected = e; count = n }) ≡ lines_in b i
    unfolding lines_in line_in
    line-is e n g ee ne =
        let x : field (part b (line_at i) line_length) 1 4 ≡ e = field-part b (line_at i) line_length 1 4 (omega arith) ∙ sym ee in
        let y : field (part b (line_at i) line_length) 5 8 ≡ n = field-part b (line_at i) line_length 5 8 (omega arith) ∙ sym ne in
        rw (lt-ltb i line_count (omega arith), letter-is, g, x, y)
