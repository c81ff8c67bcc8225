-- The frame over lists of calls, by the reviewer's codes: a block changes nothing of a symbol that no accepted or partly accepted message in it names,
-- unless it is an accepted FINRA Open or Close. A refused block has no accepted message, and changes nothing of any symbol.
-- It rests on the definitions of `Demand3` and on `page_of`, `touched` and `taken_r` (review/specs/Frame.antt).
-- Assumes nothing.
use Prim.Native.Nat.{ℕ}
use mathlib.Core.Path.{◌≡◌, ap, ◌∙◌}
use mathlib.Core.Bool.{true, false}
use mathlib.Core.List.{List}
use lib.ListN.{length}
use Rattle.lists.proofs.Members.{In}
use Rattle.calls.specs.Call.{Call, make, take, call, bytes_after}
use Rattle.work.specs.Work.{Listed, is_listed}
use Rattle.review.specs.Reviewer.{fresh_review, review_after}
use Rattle.review.specs.Lists.{are_bytes, blocks_are_bytes}
use Rattle.review.specs.Frame.{touched, taken_r, page_of}
use Rattle.review.proofs.CallLaws.{Agrees}
use Rattle.review.proofs.RunLaws.{after-agrees}
use Rattle.review.proofs.PlaceLaws.{listed-in, listed-page}
use Rattle.review.proofs.AgreedFrame.{agreed-frame}
use Rattle.page.specs.Layout.{page_length}

-- of memory m, lent for n symbols, the calls cs after the make, and a block on line i after them
pub record Framed (m : List ℕ) (n : ℕ) (cs : List Call) (i : ℕ) (block : List ℕ) (room : ℕ) : Type 0 where
  -- each symbol that the reviewer holds has a page
  pub page : (x : Listed) → In x (review_after (fresh_review n) cs).symbols → length (page_of (bytes_after (call m (make n)).bytes cs) x.symbol) ≡ page_length
  -- and no byte of it changes, if no accepted or partly accepted message touches it
  pub same : (s : ℕ) → touched (taken_r (review_after (fresh_review n) cs) i block room) s ≡ false
      → page_of (call (bytes_after (call m (make n)).bytes cs) (take i block room)).bytes s ≡ page_of (bytes_after (call m (make n)).bytes cs) s

pub frame : (m : List ℕ) (n : ℕ) → (call m (make n)).answer.number ≡ 0 → (cs : List Call) → blocks_are_bytes cs ≡ true
    → (i : ℕ) (block : List ℕ) (room : ℕ) → are_bytes block ≡ true → Framed m n cs i block room
frame m n made cs bytes i block room own =
    let a : Agrees n (bytes_after (call m (make n)).bytes cs) (review_after (fresh_review n) cs) = after-agrees m n made cs bytes in
    record {
      page = λ x p. listed-page n (bytes_after (call m (make n)).bytes cs) a.sound x.symbol (ap (is_listed x.symbol) a.held.listed ∙ listed-in x (review_after (fresh_review n) cs).symbols p);
      same = agreed-frame n (bytes_after (call m (make n)).bytes cs) (review_after (fresh_review n) cs) a i block room own;
    }
