-- A sound book stays sound, and its bytes stay bytes, whatever its lines and pages hold; no call changes the length of what it is lent.
-- Assumes nothing.
use Prim.Native.Nat.{ℕ, ◌<◌}
use mathlib.Core.Path.{◌≡◌, refl, sym, ◌∙◌}
use mathlib.Core.Bool.{Bool, true, false, ◌&&◌, cond}
use mathlib.Core.List.{List}
use Rattle.std.specs.Prelude.{Option, None, Some}
use lib.Dec.{leb, eqb, lit≤}
use lib.ListN.{length}
use borrow.Author.Tests.{eqb-true}
use native.Mathlib.Omega.{arith}
use Rattle.field.specs.Field.{Bytes, part, splice}
use Rattle.field.proofs.Laws.{bytes-part}
use Rattle.allowance.specs.Allowance.{allowance_length, charged_bytes, setting_bytes, ticked_bytes}
use Rattle.allowance.proofs.ByteLaws.{length-charged, bytes-charged, length-ticked, bytes-ticked, length-setting}
use Rattle.allowance.proofs.ClaimLaws.{Settable, settable, bytes-setting}
use Rattle.opening.proofs.AllowanceLaws.{length-allowance, allowed-sound, allowed-bytes}
use Rattle.block.specs.Block.{messages_of, idle_block}
use Rattle.update.specs.Parts.{emptied}
use Rattle.update.proofs.BlankLaws.{emptied-kept}
use Rattle.opening.specs.declared.Line.{Line}
use Rattle.opening.specs.Opening.{symbols_of, count_of, sound, lines_in, rest_in, pages_in, each_page, fresh_bytes, restart_lines, line_bytes, on_allowance}
use Rattle.line.specs.Line.{done, advanced, settled}
use Rattle.calls.specs.Call.{Call, make, add, open_line, start_day, end_day, take, read, protected, convert_len, convert, snapshot_len, snapshot, try_order, set_allowance, tick, letter_of, advance_on, after_call, make_good, is_make, number_on, call}
use Rattle.work.specs.Work.{listed_of, messages_on}
use Rattle.opening.proofs.OpeningLaws.{Sound, sound-of}
use Rattle.opening.proofs.PageLaws.{OpeningKept, kept-sound, each-kept}
use Rattle.opening.proofs.LineLaws.{line-upper, line-open, lined-sound, lined-bytes}
use Rattle.opening.proofs.DayLaws.{dayed-sound, dayed-bytes, relined-sound, relined-bytes}
use Rattle.opening.proofs.FreshLaws.{fresh-sound, fresh-bytes, fresh-length}
use Rattle.opening.proofs.AddLaws.{added-sound, added-bytes}
use Rattle.calls.proofs.NumberLaws.{number_same, make-done, page-free, unsound, AddDone, add_done, open_done, take_done, setting-done, lot-fits, letter-fits, symbol-eleven, symbol-bytes}
use Rattle.work.proofs.KeptLaws.{messages-kept}
use Rattle.opening.specs.Layout.{allowance_at, line_at, line_count, book_length, symbols_most}
use Rattle.text.specs.Form.{symbol_length}

-- sound, and bytes if it was bytes
pub record Stays (n : ℕ) (b b' : List ℕ) : Type 0 where
  pub sound : Sound n b'
  pub bytes : Bytes b → Bytes b'

settled-stays : {n : ℕ} {b x y : List ℕ} (t : Bool) → Stays n b x → Stays n b y → Stays n b (cond t x y)
settled-stays true s u = s
settled-stays false s u = u

module _ (n : ℕ) (b : List ℕ) (sd : Sound n b) where
  take-stays : (i : ℕ) (x : List ℕ) (k : ℕ) → done (number_on b (take i x k)) ≡ true → (o : Option Line) → lines_in b i ≡ o
      → Stays n b (advance_on i x o (messages_on (letter_of o) (messages_of x) b))
  unfolding rest_in settled on_allowance
  take-stays i x k d None e = absurd (take_done (rest_in b) (listed_of (pages_in b)) i x k (rw (number_same n b sd (take i x k)) at d) e)
  take-stays i x k d (Some r) e =
      let g = line-open b i r e in
      let b₁ : List ℕ = messages_on r.letter (messages_of x) b in
      let c : OpeningKept b b₁ = messages-kept n r.letter (line-upper r g.1) (messages_of x) b sd in
      let s : Sound n b₁ = kept-sound b b₁ c n sd in
      let b₂ : List ℕ = splice b₁ (line_at i) (line_bytes (advanced r x)) in
      let t : Sound n b₂ = lined-sound n b₁ s i g.0 (advanced r x) in
      let a : List ℕ = part b₂ allowance_at allowance_length in
      let l : length (part b₂ allowance_at allowance_length) ≡ allowance_length = length-allowance b₂ (omega (arith, t.size)) in
      settled-stays (idle_block x)
      (record { sound = t; bytes = λ y. lined-bytes n b₁ s i g.0 (advanced r x) (c.bytes y) })
      (record {
        sound = allowed-sound n b₂ t (charged_bytes a i) (length-charged a l i g.0);
        bytes = λ y. let z : Bytes b₂ = lined-bytes n b₁ s i g.0 (advanced r x) (c.bytes y) in allowed-bytes n b₂ t (charged_bytes a i) (length-charged a l i g.0) z (bytes-charged a l i g.0 (bytes-part b₂ allowance_at allowance_length z));
      })

  after-stays : (c : Call) → done (number_on b c) ≡ true → Stays n b (after_call b c)
  unfolding after_call on_allowance
  after-stays (make k) d =
      let e : k ≡ n = make-done n b sd k (rw (number_same n b sd (make k)) at d) in
      rw e (record { sound = fresh-sound n sd.low sd.up; bytes = λ y. fresh-bytes n sd.up })
  after-stays (add x l m) d =
      let g : AddDone (rest_in b) (listed_of (pages_in b)) x l m = add_done (rest_in b) (listed_of (pages_in b)) x l m (rw (number_same n b sd (add x l m)) at d) in
      let w : length x ≡ symbol_length = symbol-eleven x g.good in
      let r : count_of b < n = page-free n b sd g.room in
      record { sound = added-sound n b sd x l m w r; bytes = λ y. added-bytes n b sd x l m w r y (symbol-bytes x g.good) (lot-fits l g.lot) (letter-fits m g.letter) }
  after-stays (open_line i l) d =
      let g = open_done (rest_in b) (listed_of (pages_in b)) i l (rw (number_same n b sd (open_line i l)) at d) in
      let x : Line = record { letter = l; expected = 1; count = 0 } in
      record { sound = lined-sound n b sd i g.0 x; bytes = lined-bytes n b sd i g.0 x }
  after-stays start_day d =
      let b₁ : List ℕ = each_page emptied 0 (symbols_of b) b in
      let c : OpeningKept b b₁ = each-kept n emptied (λ p w. emptied-kept p w) b sd in
      let s₁ : Sound n b₁ = kept-sound b b₁ c n sd in
      let s₂ : Sound n (restart_lines 0 line_count b₁) = relined-sound n b₁ s₁ in
      record {
        sound = dayed-sound n (restart_lines 0 line_count b₁) s₂ 1 (lit≤ tt);
        bytes = λ y. dayed-bytes n (restart_lines 0 line_count b₁) s₂ 1 (lit≤ tt) (relined-bytes n b₁ s₁ (c.bytes y));
      }
  after-stays end_day d = record { sound = dayed-sound n b sd 0 (lit≤ tt); bytes = dayed-bytes n b sd 0 (lit≤ tt) }
  after-stays (take i x k) d = take-stays i x k d (lines_in b i) refl
  after-stays (read x k) d = record { sound = sd; bytes = λ y. y }
  after-stays (protected x m v) d = record { sound = sd; bytes = λ y. y }
  after-stays (convert_len x) d = record { sound = sd; bytes = λ y. y }
  after-stays (convert x k) d = record { sound = sd; bytes = λ y. y }
  after-stays (snapshot_len x) d = record { sound = sd; bytes = λ y. y }
  after-stays (snapshot x room) d = record { sound = sd; bytes = λ y. y }
  after-stays (try_order x m w k) d = record { sound = sd; bytes = λ y. y }
  after-stays (set_allowance k ss) d =
      let s : Settable k ss = settable k ss (setting-done (rest_in b) (listed_of (pages_in b)) k ss (rw (number_same n b sd (set_allowance k ss)) at d)) in
      let w : length (setting_bytes k ss) ≡ allowance_length = length-setting k ss s.whole in
      record { sound = allowed-sound n b sd (setting_bytes k ss) w; bytes = λ y. allowed-bytes n b sd (setting_bytes k ss) w y (bytes-setting k ss s) }
  after-stays tick d =
      let a : List ℕ = part b allowance_at allowance_length in
      let l : length (part b allowance_at allowance_length) ≡ allowance_length = length-allowance b (omega (arith, sd.size)) in
      record {
        sound = allowed-sound n b sd (ticked_bytes a) (length-ticked a l);
        bytes = λ y. allowed-bytes n b sd (ticked_bytes a) (length-ticked a l) y (bytes-ticked a l (bytes-part b allowance_at allowance_length y));
      }

  -- a sound book stays sound, and bytes stay bytes
  pub call_stays : (c : Call) → Stays n b (call b c).bytes
  unfolding call
  call_stays c = go (done (number_on b c)) refl
    where
      go : (t : Bool) → done (number_on b c) ≡ t → Stays n b (cond t (after_call b c) b)
      go true d = after-stays c d
      go false d = record { sound = sd; bytes = λ y. y }

-- ---- on any bytes

make-length : (b : List ℕ) (n : ℕ) → length (call b (make n)).bytes ≡ length b
unfolding call number_on done after_call make_good
make-length b n = go (leb 1 n) (leb n symbols_most) (eqb (length b) (book_length n)) refl
  where
    go : (x y z : Bool) → eqb (length b) (book_length n) ≡ z → length (cond (done (cond (x && (y && z)) 0 2)) (fresh_bytes n) b) ≡ length b
    go true true true r = fresh-length n ∙ sym (eqb-true (length b) (book_length n) r)
    go true true false r = refl
    go true false z r = refl
    go false y z r = refl

other_length : (b : List ℕ) (c : Call) → is_make c ≡ false → length (call b c).bytes ≡ length b
unfolding call
other_length b c m = go (sound b) refl
  where
    go : (t : Bool) → sound b ≡ t → length (cond (done (number_on b c)) (after_call b c) b) ≡ length b
    go true e = let s : Sound (symbols_of b) b = sound-of b e in (call_stays (symbols_of b) b s c).sound.size ∙ sym s.size
    go false e = rw (unsound b c e m)

-- no call changes the length
pub call_length : (b : List ℕ) (c : Call) → length (call b c).bytes ≡ length b
call_length b (make n) = make-length b n
call_length b (add s k l) = other_length b (add s k l) refl
call_length b (open_line i l) = other_length b (open_line i l) refl
call_length b start_day = other_length b start_day refl
call_length b end_day = other_length b end_day refl
call_length b (take i x k) = other_length b (take i x k) refl
call_length b (read s k) = other_length b (read s k) refl
call_length b (protected s m x) = other_length b (protected s m x) refl
call_length b (convert_len x) = other_length b (convert_len x) refl
call_length b (convert x k) = other_length b (convert x k) refl
call_length b (snapshot_len s) = other_length b (snapshot_len s) refl
call_length b (snapshot s room) = other_length b (snapshot s room) refl
call_length b (try_order s m w k) = other_length b (try_order s m w k) refl
call_length b (set_allowance n ss) = other_length b (set_allowance n ss) refl
call_length b tick = other_length b tick refl
