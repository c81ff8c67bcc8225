-- What the calls for a snapshot answer, for each `return` of the code.
-- Assumes nothing.
use Prim.Native.Nat.{ℕ, ◌+◌, ◌-◌, ◌<◌, ◌≤◌}
use mathlib.Core.Path.{◌≡◌, refl, sym, ap, ◌∙◌}
use mathlib.Core.Bool.{Bool, true, false, ◌&&◌, cond}
use mathlib.Core.List.{List, []}
use native.Mathlib.Omega.{arith}
use lib.Dec.{ltb}
use lib.ListN.{length, take, drop}
use borrow.Author.Tests.{lt-ltb, le-ltb}
use Rattle.field.specs.Field.{be, part, splice}
use Rattle.field.specs.Ascii.{A, Z}
use Rattle.field.proofs.Laws.{length_part}
use Rattle.field.proofs.ZeroLaws.{splice-nothing}
use Rattle.std.specs.Prelude.{Result, Ok, Err}
use Rattle.lists.proofs.Tests.{clash}
use Rattle.text.specs.Form.{symbol_good, symbol_length}
use Rattle.snapshot.specs.Snapshot.{Snapshot, snapshot_of}
use Rattle.snapshot.specs.Feed.{feed_blocks, feed_bytes}
use Rattle.snapshot.specs.Sizes.{feed_count, feed_length}
use Rattle.snapshot.proofs.PackLaws.{Measured}
use Rattle.snapshot.proofs.RoundLaws.{length-feed, count-feed}
use Rattle.snapshot.proofs.ShownLaws.{measured-of}
use Rattle.page.specs.Layout.{page_length, kept_entries}
use Rattle.page.specs.Page.{quotes_in}
use Rattle.feed.specs.code.Blocks.{Lent, shown_in}
use Rattle.feed.proofs.BlockLaws.{length-kept}
use Rattle.update.proofs.SearchLaws.{is_at}
use Rattle.opening.specs.Layout.{page_start, symbols_most}
use Rattle.opening.specs.Opening.{sound, page_at, page_place}
use Rattle.line.proofs.GateLaws.{never-done}
use Rattle.numbers.specs.declared.Refusal.{Refusal}
use Rattle.numbers.specs.Numbers.{answered, number_of}
use Rattle.calls.specs.Buffers.{FeedOut, feed_of, feed_out}
use Rattle.calls.specs.Call.{snapshot_len, snapshot, bare, fed, size_told, snapshot_told, Outcome, number_on, call}
use Rattle.calls.proofs.NumberLaws.{symbol-eleven, number-unsound}
use Rattle.calls.proofs.SnapshotLaws.{outcome, len-number, feed-number, len-refused, feed-refused, len-told, feed-told}
use Rattle.calls.specs.code.Known.{known_of}
use Rattle.calls.proofs.KnownLaws.{Placed, known-number, known_passed, placed-room, lent-page, lent-long}
use Rattle.recovery.specs.code.Page.{page_snapshot}

-- a refusal's number is the call's, of both calls
known-is : (b x : List ℕ) (m : ℕ) → (sound b ≡ true → m ≡ cond (symbol_good x && is_at (page_place b (be x))) 0 10) → (sound b ≡ false → 1 ≡ m) → answered (known_of b x) ≡ m
known-is b x m known unknown = known-number b x ∙ go (sound b) refl
  where
    go : (s : Bool) → sound b ≡ s → cond s (cond (symbol_good x && is_at (page_place b (be x))) 0 10) 1 ≡ m
    go true es = sym (known es)
    go false es = unknown es

-- the page of a known symbol lies in the book
pub known-room : (b x : List ℕ) (k : ℕ) → Ok k ≡ known_of b x → (page_start k + page_length ≤ length b) × (k < symbols_most)
known-room b x k e = placed-room b x k (known_passed b x k e)

pub lent-for : (b x : List ℕ) (k : ℕ) → Ok k ≡ known_of b x → Lent x (take (page_start k + page_length - page_start k) (drop (page_start k) b))
lent-for b x k e = let z : Placed b x k = known_passed b x k e in record { symbol = symbol-eleven x z.symbol; page = lent-long b x k z }

-- ---- the first call

module _ (b x : List ℕ) where
  pub len-refusal : (r : Refusal) → Err r ≡ known_of b x → record { bytes = b; answer = fed (number_of r) 0 0 [] } ≡ call b (snapshot_len x)
  len-refusal r e =
      len-refused b x (number_of r) (ap answered e ∙ known-is b x (number_on b (snapshot_len x)) (len-number b x) (λ s. number-unsound b (snapshot_len x) refl s)) (never-done r)

  pub len-done : (k : ℕ) (n : ℕ) (blocks bytes : ℕ) → Ok k ≡ known_of b x → n ≡ length (shown_in (take (page_start k + page_length - page_start k) (drop (page_start k) b)) A (Z + 1))
      → blocks ≡ feed_count n → bytes ≡ feed_length n → record { bytes = b; answer = fed 0 blocks bytes [] } ≡ call b (snapshot_len x)
  unfolding snapshot_of
  len-done k n blocks bytes e en eb ey =
      let p : List ℕ = take (page_start k + page_length - page_start k) (drop (page_start k) b) in
      let z : Placed b x k = known_passed b x k e in
      let l : Lent x p = lent-for b x k e in
      let m : Measured (page_snapshot x p) = measured-of (quotes_in p) x (kept_entries p) l.symbol (length-kept x p l) in
      let cb : blocks ≡ length (feed_blocks (page_snapshot x p)) = eb ∙ ap feed_count en ∙ sym (count-feed (page_snapshot x p) m) in
      let cy : bytes ≡ length (feed_bytes (page_snapshot x p)) = ey ∙ ap feed_length en ∙ sym (length-feed (page_snapshot x p) m) in
      (λ i. outcome b (fed 0 (cb i) (cy i) []))
      ∙ ap (λ (q : List ℕ). outcome b (size_told 0 (page_snapshot x q))) (lent-page b k)
      ∙ len-told b x k z.good z.symbol z.place

-- ---- 81, and the snapshot of a page

module _ (s p o : List ℕ) (lent : Lent s p) (n blocks bytes : ℕ) (en : n ≡ length (shown_in p A (Z + 1))) (eb : blocks ≡ feed_count n) (ey : bytes ≡ feed_length n) where
  abbrev x : Snapshot
  x = page_snapshot s p

  measured : Measured x
  measured = measured-of (quotes_in p) s (kept_entries p) lent.symbol (length-kept s p lent)

  long : bytes ≡ length (feed_bytes x)
  unfolding snapshot_of
  long = ey ∙ ap feed_length en ∙ sym (length-feed x measured)

  counted : blocks ≡ length (feed_blocks x)
  unfolding snapshot_of
  counted = eb ∙ ap feed_count en ∙ sym (count-feed x measured)

  pub fill-short : length o < bytes → record { number = 81; blocks = 0; bytes = 0; output = o } ≡ feed_of o (snapshot_told 0 (length o) x)
  fill-short h = rw (lt-ltb (length o) (length (feed_bytes x)) (omega (arith, long))) (λ i. record { number = 81; blocks = 0; bytes = 0; output = sym (splice-nothing o 0) i })

  pub fill_done : (o' : List ℕ) → bytes ≤ length o → o' ≡ splice o 0 (feed_bytes x) → record { number = 0; blocks = blocks; bytes = bytes; output = o' } ≡ feed_of o (snapshot_told 0 (length o) x)
  fill_done o' h w =
      rw (le-ltb (length o) (length (feed_bytes x)) (omega (arith, long))) (λ i. record { number = 0; blocks = counted i; bytes = long i; output = w i })

-- ---- the second call

module _ (b x o : List ℕ) where
  pub feed-refusal : (r : Refusal) → Err r ≡ known_of b x → record { number = number_of r; blocks = 0; bytes = 0; output = o } ≡ feed_out b x o
  unfolding feed_out
  feed-refusal r e =
      let c = snapshot x (length o) in
      let n : number_of r ≡ number_on b c = ap answered e ∙ known-is b x (number_on b c) (feed-number b x (length o)) (λ s. number-unsound b c refl s) in
      let q : ◌≡◌ {A = FeedOut} (record { number = number_of r; blocks = 0; bytes = 0; output = o }) (feed_of o (bare (number_of r))) =
      λ i. record { number = number_of r; blocks = 0; bytes = 0; output = sym (splice-nothing o 0) i } in
      q ∙ ap (λ (w : Outcome). feed_of o w.answer) (feed-refused b x (length o) (number_of r) n (never-done r))

  pub feed-done : (k : ℕ) (w : FeedOut) → Ok k ≡ known_of b x
      → w ≡ feed_of o (snapshot_told 0 (length o) (page_snapshot x (take (page_start k + page_length - page_start k) (drop (page_start k) b)))) → w ≡ feed_out b x o
  unfolding feed_out
  feed-done k w e ew =
      let z : Placed b x k = known_passed b x k e in
      ew ∙ ap (λ (q : List ℕ). feed_of o (snapshot_told 0 (length o) (page_snapshot x q))) (lent-page b k)
      ∙ ap (λ (v : Outcome). feed_of o v.answer) (feed-told b x k z.good z.symbol z.place (length o))
