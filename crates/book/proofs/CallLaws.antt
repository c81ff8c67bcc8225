-- What each call returns, for each `return` of the code: the number, and the record that `call` gives.
-- Assumes nothing.
use Prim.Native.Nat.{ℕ, ◌+◌, ◌-◌, ◌<◌, ◌≤◌}
use mathlib.Core.Path.{◌≡◌, refl, sym, ap, ◌∙◌}
use mathlib.Core.Bool.{Bool, true, false, cond}
use mathlib.Core.List.{List}
use Rattle.std.specs.Prelude.{Option, None, Some}
use Rattle.std.specs.Prelude as std
use native.Mathlib.Omega.{arith}
use lib.Dec.{eqb, ltb}
use lib.ListN.{length}
use borrow.Author.Tests.{lt-ltb, le-ltb, lt-leb, le-leb, eq-eqb, ne_eqb}
use borrow.Rule.Slice.PartMut.{put_mid}
use Rattle.field.specs.Field.{be, field, splice, be_bytes}
use Rattle.lists.specs.Lists.{member, is_some}
use Rattle.lists.proofs.Tests.{clash, Cut, equal, apart, cut}
use Rattle.numbers.specs.declared.Refusal.{Refusal}
use Rattle.numbers.specs.Numbers.{number_of as refusal_number}
use Rattle.line.proofs.GateLaws.{never-done}
use Rattle.text.specs.Form.{symbol_good, letter_good, symbol_length}
use Rattle.update.specs.Parts.{blank_page, new_head, emptied}
use Rattle.update.proofs.TableLaws.{cell-order}
use Rattle.update.proofs.SearchLaws.{is_at}
use Rattle.update.proofs.BlankLaws.{length-blank}
use Rattle.update.proofs.StoreLaws.{length-head}
use Rattle.opening.specs.Opening.{symbols_of, count_of, sound, line_bytes, lines_in, rest_in, pages_in, page_place, hinted, each_page, fresh_bytes, restart_lines}
use Rattle.line.specs.Line.{done}
use Rattle.calls.specs.Call.{Call, make, add, open_line, start_day, end_day, read, protected, convert_len, convert, snapshot_len, snapshot, try_order, set_allowance, tick, lots, number_of, bare, answer_of, after_call, make_good, number_on, answer_on, call}
use Rattle.work.specs.Work.{listed_of}
use Rattle.calls.specs.Call as calls
use Rattle.book.specs.code.Day.{day_number}
use Rattle.opening.proofs.OpeningLaws.{Sound, sound-of}
use Rattle.calls.proofs.NumberLaws.{number-sound, listed-length, page-free, AddDone, add_done, open_done, lot-fits, symbol-eleven}
use Rattle.work.proofs.PlaceLaws.{listed_at}
use Rattle.opening.proofs.WriteLaws.{page-back}
use Rattle.page.specs.Layout.{page_length}
use Rattle.opening.specs.Layout.{n_at, count_at, day_at, opening_length, book_length, line_count, page_start, line_at, symbols_most}

-- ---- the calls that answer with their number alone

abbrev pub bare_call : Call → Bool
bare_call (make n) = true
bare_call (add s k l) = true
bare_call (open_line i l) = true
bare_call start_day = true
bare_call end_day = true
bare_call (calls.take i k room) = false
bare_call (read s room) = false
bare_call (protected s m x) = false
bare_call (convert_len v) = false
bare_call (convert v room) = false
bare_call (snapshot_len s) = false
bare_call (snapshot s room) = false
bare_call (try_order s m w room) = false
bare_call (set_allowance n ss) = true
bare_call tick = true

-- `is_some` as the code says it
given_is : {A : Type 0} (o : Option A) → std.is_some o ≡ is_some o
given_is None = refl
given_is (Some a) = refl

place_is : (o : Option ℕ) → std.is_some o ≡ is_at o
place_is None = refl
place_is (Some k) = refl

either : (t : Bool) (x : ℕ) → cond t (bare (cond t x 1)) (bare 1) ≡ bare (cond t x 1)
either true x = refl
either false x = refl

module _ (b : List ℕ) where
  bare-answer : (c : Call) → bare_call c ≡ true → answer_on b c ≡ bare (number_on b c)
  unfolding number_on answer_of
  bare-answer (make n) p = refl
  bare-answer (add s k l) p = either (sound b) (number_of (rest_in b) (listed_of (pages_in b)) (add s k l))
  bare-answer (open_line i l) p = either (sound b) (number_of (rest_in b) (listed_of (pages_in b)) (open_line i l))
  bare-answer start_day p = either (sound b) (number_of (rest_in b) (listed_of (pages_in b)) start_day)
  bare-answer end_day p = either (sound b) (number_of (rest_in b) (listed_of (pages_in b)) end_day)
  bare-answer (calls.take i k room) p = clash (sym p)
  bare-answer (read s room) p = clash (sym p)
  bare-answer (protected s m x) p = clash (sym p)
  bare-answer (convert_len v) p = clash (sym p)
  bare-answer (convert v room) p = clash (sym p)
  bare-answer (snapshot_len s) p = clash (sym p)
  bare-answer (snapshot s room) p = clash (sym p)
  bare-answer (try_order s m w room) p = clash (sym p)
  bare-answer (set_allowance n ss) p = either (sound b) (number_of (rest_in b) (listed_of (pages_in b)) (set_allowance n ss))
  bare-answer tick p = either (sound b) (number_of (rest_in b) (listed_of (pages_in b)) tick)

  module _ (c : Call) (plain : bare_call c ≡ true) where
    -- a refused call changes no byte
    pub refused : (k : ℕ) → k ≡ number_on b c → done k ≡ false → record { bytes = b; answer = bare k } ≡ call b c
    unfolding call
    refused k e d = rw (bare-answer c plain, ← e, d)

    -- by any check
    pub turned_down : (r : Refusal) → refusal_number r ≡ number_on b c → record { bytes = b; answer = bare (refusal_number r) } ≡ call b c
    turned_down r e = refused (refusal_number r) e (never-done r)

    pub carried-out : (b' : List ℕ) → 0 ≡ number_on b c → b' ≡ after_call b c → record { bytes = b'; answer = bare 0 } ≡ call b c
    unfolding call done
    carried-out b' e a = rw (bare-answer c plain, ← e, a)

  -- ---- make

  module _ (n : ℕ) where
    pub make-none : n < 1 → 2 ≡ number_on b (make n)
    unfolding number_on make_good
    make-none h = rw (lt-leb 1 n h)

    pub make-many : 1 ≤ n → symbols_most < n → 2 ≡ number_on b (make n)
    unfolding number_on make_good
    make-many l h = rw (le-leb 1 n l, lt-leb n symbols_most h)

    pub make-length : 1 ≤ n → n ≤ symbols_most → (length b ≡ book_length n → ⊥) → 2 ≡ number_on b (make n)
    unfolding number_on make_good
    make-length l u h = rw (le-leb 1 n l, le-leb n symbols_most u, ne_eqb (length b) (book_length n) h)

    pub make-zero : 1 ≤ n → n ≤ symbols_most → length b ≡ book_length n → 0 ≡ number_on b (make n)
    unfolding number_on make_good
    make-zero l u h = rw (le-leb 1 n l, le-leb n symbols_most u, eq-eqb (length b) (book_length n) h)

    pub make-after : (b' : List ℕ) → b' ≡ fresh_bytes n → b' ≡ after_call b (make n)
    unfolding after_call
    make-after b' e = e

  -- ---- Start and End of Day

  -- judged by the day flag: 0 or 1 in a sound opening
  pub start-judged : day_number b 0 11 ≡ number_on b start_day
  unfolding day_number number_on number_of rest_in
  start-judged = go (sound b) refl
    where
      go : (t : Bool) → sound b ≡ t → ◌≡◌ {A = ℕ} (cond t (cond (eqb (field b day_at 1) 0) 0 11) 1) (cond t (cond (eqb (field b day_at 1) 1) 11 0) 1)
      go false e = refl
      go true e = flag (cut (field b day_at 1) 0)
        where
          flag : Cut (field b day_at 1) 0 → ◌≡◌ {A = ℕ} (cond (eqb (field b day_at 1) 0) 0 11) (cond (eqb (field b day_at 1) 1) 11 0)
          flag (equal t z) = rw z
          flag (apart t z) = let o : field b day_at 1 ≡ 1 = omega (arith, (sound-of b e).day, z) in rw o

  pub end-judged : day_number b 1 12 ≡ number_on b end_day
  unfolding day_number number_on number_of rest_in
  end-judged = refl

  module _ (day number : ℕ) where
    pub day-unsound : sound b ≡ false → 1 ≡ day_number b day number
    unfolding day_number
    day-unsound e = rw e

    pub day-asked : sound b ≡ true → (d : ℕ) → d ≡ field b day_at 1 → d ≡ day → 0 ≡ day_number b day number
    unfolding day_number
    day-asked e d de h = rw (e, eq-eqb (field b day_at 1) day (sym de ∙ h))

    pub day-else : sound b ≡ true → (d : ℕ) → d ≡ field b day_at 1 → (d ≡ day → ⊥) → number ≡ day_number b day number
    unfolding day_number
    day-else e d de h = rw (e, ne_eqb (field b day_at 1) day (λ z. h (de ∙ z)))

    pub day-passed : 0 ≡ day_number b day number → sound b ≡ true
    unfolding day_number
    day-passed e = go (sound b) e
      where
        go : (t : Bool) → 0 ≡ cond t (cond (eqb (field b day_at 1) day) 0 number) 1 → t ≡ true
        go true w = refl
        go false w = absurd (omega (arith, w))

  pub start-after : (b1 b2 b3 : List ℕ) (n : ℕ) → n ≡ field b n_at 1 → b1 ≡ each_page emptied 0 n b → b2 ≡ restart_lines 0 line_count b1 → b3 ≡ splice b2 day_at (be_bytes 1 1) → b3 ≡ after_call b start_day
  unfolding after_call symbols_of be_bytes
  start-after b1 b2 b3 n ne e1 e2 e3 = e3 ∙ rw (e2, e1, ne)

  pub end_after : (b' : List ℕ) → b' ≡ splice b day_at (be_bytes 1 0) → b' ≡ after_call b end_day
  unfolding after_call be_bytes
  end_after b' e = e

  -- ---- a line opened

  module _ (i l : ℕ) where
    pub open_above : sound b ≡ true → 63 < i → 7 ≡ number_on b (open_line i l)
    unfolding number_on number_of
    open_above s h = rw (s, le-ltb i line_count (omega arith))

    module _ (s : sound b ≡ true) (low : i ≤ 63) where
      below : ltb i line_count ≡ true
      below = lt-ltb i line_count (omega arith)

      pub open-letter : letter_good l ≡ false → 7 ≡ number_on b (open_line i l)
      unfolding number_on number_of
      open-letter g = rw (s, below, g)

      module _ (g : letter_good l ≡ true) where
        pub open-standing : std.is_some (lines_in b i) ≡ true → 8 ≡ number_on b (open_line i l)
        unfolding number_on number_of rest_in
        open-standing f = rw (s, below, g, sym (given_is (lines_in b i)) ∙ f)

        pub open-new : std.is_some (lines_in b i) ≡ false → 0 ≡ number_on b (open_line i l)
        unfolding number_on number_of rest_in
        open-new f = rw (s, below, g, sym (given_is (lines_in b i)) ∙ f)

    pub open-passed : 0 ≡ number_on b (open_line i l) → (opening_length ≤ length b) × (i < line_count)
    unfolding number_on done
    open-passed n =
        let s : sound b ≡ true = number-sound b (open_line i l) refl n in
        let m : number_of (rest_in b) (listed_of (pages_in b)) (open_line i l) ≡ 0 = sym (rw s at n) in
        (omega (arith, (sound-of b s).size), (open_done (rest_in b) (listed_of (pages_in b)) i l (ap done m)).0)

    pub open_after : (b' : List ℕ) → b' ≡ splice b (line_at i) (line_bytes (record { letter = l; expected = 1; count = 0 })) → b' ≡ after_call b (open_line i l)
    unfolding after_call
    open_after b' e = e

  -- ---- a symbol added

  module _ (x : List ℕ) (k p : ℕ) where
    add-number : sound b ≡ true
        → number_on b (add x k p) ≡ cond (symbol_good x) (cond (member lots k) (cond (letter_good p) (cond (is_at (page_place b (be x))) 4 (cond (ltb (count_of b) (symbols_of b)) 0 5)) 75) 6) 3
    unfolding number_on number_of rest_in
    add-number s = rw (s, listed_at b (be x), listed-length (symbols_of b) b (sound-of b s))

    module _ (s : sound b ≡ true) where
      pub add-symbol : symbol_good x ≡ false → 3 ≡ number_on b (add x k p)
      add-symbol g = sym (add-number s ∙ rw g)

      module _ (g : symbol_good x ≡ true) where
        pub add-lot : member lots k ≡ false → 6 ≡ number_on b (add x k p)
        add-lot m = sym (add-number s ∙ rw (g, m))

        pub add-letter : member lots k ≡ true → letter_good p ≡ false → 75 ≡ number_on b (add x k p)
        add-letter m l = sym (add-number s ∙ rw (g, m, l))

        module _ (m : member lots k ≡ true) (l : letter_good p ≡ true) where
          pub add-listed : std.is_some (page_place b (be x)) ≡ true → 4 ≡ number_on b (add x k p)
          add-listed f = sym (add-number s ∙ rw (g, m, l, sym (place_is (page_place b (be x))) ∙ f))

          module _ (f : std.is_some (page_place b (be x)) ≡ false) (c n : ℕ) (ce : c ≡ field b count_at 1) (ne : n ≡ field b n_at 1) where
            pub add-new : c < n → 0 ≡ number_on b (add x k p)
            unfolding count_of symbols_of
            add-new h = sym (add-number s ∙ rw (g, m, l, sym (place_is (page_place b (be x))) ∙ f, ← ce, ← ne, lt-ltb c n h))

            pub add-full : n ≤ c → 5 ≡ number_on b (add x k p)
            unfolding count_of symbols_of
            add-full h = sym (add-number s ∙ rw (g, m, l, sym (place_is (page_place b (be x))) ∙ f, ← ce, ← ne, le-ltb c n h))

    -- what an add that passed its checks has room for
    pub record Addable (c : ℕ) : Type 0 where
      pub eleven : length x ≡ symbol_length
      pub lot : k < 256
      pub count : c < symbols_most
      pub room : page_start c + page_length ≤ length b
      pub first : book_length 1 ≤ length b

    pub add-passed : 0 ≡ number_on b (add x k p) → Addable (count_of b)
    unfolding number_on done
    add-passed o =
        let s : sound b ≡ true = number-sound b (add x k p) refl o in
        let m : number_of (rest_in b) (listed_of (pages_in b)) (add x k p) ≡ 0 = sym (rw s at o) in
        let a : AddDone (rest_in b) (listed_of (pages_in b)) x k p = add_done (rest_in b) (listed_of (pages_in b)) x k p (ap done m) in
        let sd : Sound (symbols_of b) b = sound-of b s in
        let f : count_of b < symbols_of b = page-free (symbols_of b) b sd a.room in
        record {
          eleven = symbol-eleven x a.good;
          lot = lot-fits k a.lot;
          count = omega (arith, sd.up);
          room = omega (arith, sd.size, cell-order page_length (count_of b) (symbols_of b) f);
          first = omega (arith, sd.size, sd.low);
        }

    -- the same, with the count as it was read
    pub add-counted : (c : ℕ) → c ≡ field b count_at 1 → 0 ≡ number_on b (add x k p) → Addable c
    unfolding count_of
    add-counted c e o = rw e (add-passed o)

    pub add-after : (b1 q b2 b3 : List ℕ) (c : ℕ) → length x ≡ symbol_length → c ≡ field b count_at 1 → b1 ≡ splice b count_at (be_bytes 1 (c + 1)) → q ≡ blank_page (new_head x k p)
        → b2 ≡ put_mid (page_start c) ((page_start c + page_length) - page_start c) b1 q → b3 ≡ hinted (be x) c b2 → b3 ≡ after_call b (add x k p)
    unfolding after_call count_of
    add-after b1 q b2 b3 c l ce e f g h =
        let w : length q ≡ page_length = ap length f ∙ length-blank (new_head x k p) (length-head x k p l) in
        h ∙ ap (hinted (be x) c) (g ∙ page-back b1 c q w) ∙ rw (e, f, ce)
