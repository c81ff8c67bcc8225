-- Where no flag is set, the entries stand already: nothing has to be written.
-- Assumes nothing.
use Prim.Native.Nat.{ℕ, ◌+◌, ◌*◌, ◌^◌, ◌≤◌, ◌<◌}
use mathlib.Core.Path.{◌≡◌, refl, sym, ap, ap₂, ◌∙◌}
use mathlib.Core.Bool.{Bool, true, false, ◌&&◌}
use mathlib.Core.List.{List, ◌++◌}
use native.Mathlib.Omega.{arith}
use lib.Dec.{eqb, lit<, lit≤}
use lib.ListN.{length}
use borrow.Author.Tests.{eqb-true}
use Rattle.lists.proofs.Tests.{and-true}
use Rattle.field.specs.Field.{Bytes, part, field, be_bytes}
use Rattle.field.proofs.Laws.{be_bytes-field, length_part, bytes-part, part_join, part-all}
use Rattle.publication.specs.declared.Published.{Published}
use Rattle.walk.specs.declared.BestEntries.{BestEntries}
use Rattle.entries.specs.Publication.{publication, same_entry, flag, change_flags, publication_length, entry_length}
use Rattle.page.specs.Page.{published_entries, refreshed}
use Rattle.walk.specs.Bests.{bests_of}
use Rattle.publication.specs.code.Entry.{as_entries, published_bytes}
use Rattle.page.proofs.FrameLaws.{refreshed-same}
use Rattle.publication.proofs.PublicationLaws.{renewed}
use Rattle.entries.proofs.LengthLaws.{length-publication, bytes-publication}
use Rattle.page.specs.Layout.{entries_at, slots_at, page_length, kept_entries}

flag-zero : (k : ℕ) → 0 < 2 ^ k → (t : Bool) → flag k t ≡ 0 → t ≡ true
flag-zero k h true e = refl
flag-zero k h false e = absurd (omega arith)

-- two publications
module _ (a b : List ℕ) (la : length a ≡ publication_length) (lb : length b ≡ publication_length) (ba : Bytes a) (bb : Bytes b) where
  number_same : (at w : ℕ) → at + w ≤ publication_length → eqb (field a at w) (field b at w) ≡ true → part a at w ≡ part b at w
  number_same at w h e =
      sym (be_bytes-field a at w (omega arith) ba) ∙ ap (be_bytes w) (eqb-true (field a at w) (field b at w) e) ∙ be_bytes-field b at w (omega arith) bb

  join-same : (at m n : ℕ) → part a at m ≡ part b at m → part a (at + m) n ≡ part b (at + m) n → part a at (m + n) ≡ part b at (m + n)
  join-same at m n e f = part_join a at m n ∙ ap₂ (λ (x y : List ℕ). x ++ y) e f ∙ sym (part_join b at m n)

  entry-same : (k : ℕ) → entry_length * k + entry_length ≤ publication_length → same_entry a b k ≡ true → part a (entry_length * k) 16 ≡ part b (entry_length * k) 16
  entry-same k h e =
      let x = eqb (field a (entry_length * k) 4) (field b (entry_length * k) 4) in
      let y = eqb (field a (entry_length * k + 4) 8) (field b (entry_length * k + 4) 8) in
      let t = and-true (x && y) (eqb (field a (entry_length * k + 12) 4) (field b (entry_length * k + 12) 4)) e in
      let u = and-true x y t.0 in
      let z : entry_length * k + 4 + 8 ≡ entry_length * k + 12 = omega arith in
      join-same (entry_length * k) 4 12 (number_same (entry_length * k) 4 (omega arith) u.0)
      (join-same (entry_length * k + 4) 8 4 (number_same (entry_length * k + 4) 8 (omega arith) u.1) (rw z (number_same (entry_length * k + 12) 4 (omega arith) t.1)))

  pub no_flag : change_flags a b ≡ 0 → a ≡ b
  unfolding change_flags
  no_flag e =
      sym (whole a la)
      ∙ join-same 0 16 80 (same 0 (lit≤ tt) (lit< tt) (omega arith))
      (join-same 16 16 64 (same 1 (lit≤ tt) (lit< tt) (omega arith))
      (join-same 32 16 48 (same 2 (lit≤ tt) (lit< tt) (omega arith))
      (join-same 48 16 32 (same 3 (lit≤ tt) (lit< tt) (omega arith))
      (join-same 64 16 16 (same 4 (lit≤ tt) (lit< tt) (omega arith)) (same 5 (lit≤ tt) (lit< tt) (omega arith))))))
      ∙ whole b lb
    where
      whole : (l : List ℕ) → length l ≡ publication_length → part l 0 publication_length ≡ l
      whole l w = ap (part l 0) (sym w) ∙ part-all l

      same : (k : ℕ) → entry_length * k + entry_length ≤ publication_length → 0 < 2 ^ k → flag k (same_entry a b k) ≡ 0 → part a (entry_length * k) 16 ≡ part b (entry_length * k) 16
      same k h z f = entry-same k h (flag-zero k z (same_entry a b k) f)

-- the walk's entries stand already
module _ (p : List ℕ) (w : length p ≡ page_length) (b : Bytes p) (e : BestEntries) (x : Published) (ee : e ≡ bests_of (published_entries p)) (ex : published_bytes x ≡ publication (as_entries e)) where
  pub renewed-none : (r : ℕ) → r ≡ change_flags (kept_entries p) (published_bytes x) → r ≡ 0
      → (0 ≡ change_flags (kept_entries p) (publication (published_entries p))) × (p ≡ refreshed p)
  renewed-none r er z =
      let f = sym z ∙ (renewed p b e x ee ex _ r er refl).0 in
      let s : entries_at + publication_length ≤ length p = omega arith in
      let t : slots_at ≤ length p = omega arith in
      (f, sym (refreshed-same p t (no_flag (kept_entries p) (publication (published_entries p)) (length_part p entries_at publication_length s) (length-publication (published_entries p)) (bytes-part p entries_at publication_length b) (bytes-publication (published_entries p)) (sym f))))
