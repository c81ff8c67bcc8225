-- A call answers to a buffer of the most bytes that it may fill as to any longer one.
-- Assumes nothing.
use Prim.Native.Nat.{ℕ, ◌+◌, ◌*◌, ◌≤◌, ◌<◌}
use mathlib.Core.Path.{◌≡◌, refl, ap, sym, ◌∙◌}
use mathlib.Core.Bool.{Bool, true, false, cond}
use mathlib.Core.List.{List}
use native.Mathlib.Omega.{arith}
use lib.Dec.{ltb, leb, eqb}
use lib.ListN.{length}
use borrow.Author.Tests.{le-ltb, ltb-true, ltb-false, eqb-true}
use Rattle.block.specs.Block.{answer_length}
use Rattle.entries.specs.Publication.{publication_length}
use Rattle.venue.specs.Venue.{venue_number}
use Rattle.venuerun.specs.Run.{needed_of, convert_number}
use Rattle.venuerun.proofs.VenueLaws.{run-longest}
use Rattle.sweep.specs.Sweep.{steps_length}
use Rattle.snapshot.specs.Snapshot.{Snapshot}
use Rattle.snapshot.specs.Feed.{consolidated_length, participant_length, finra_length, feed_header, feed_blocks, feed_bytes}
use Rattle.snapshot.specs.Sizes.{letters_alone, feed_count, feed_length}
use Rattle.snapshot.proofs.PackLaws.{Measured}
use Rattle.snapshot.proofs.RoundLaws.{length-feed}
use Rattle.snapshot.proofs.ShownLaws.{measured-of}
use Rattle.std.specs.Prelude.{Some, None, Option}
use Rattle.field.specs.Field.{be}
use Rattle.field.proofs.Laws.{length_part}
use Rattle.text.specs.Form.{symbol_good}
use Rattle.page.specs.Layout.{entries_at, page_length, kept_entries}
use Rattle.page.specs.Page.{quotes_in}
use Rattle.opening.specs.Layout.{page_start}
use Rattle.opening.specs.Opening.{sound, page_at, page_place}
use Rattle.opening.proofs.ReadLaws.{found-room}
use Rattle.line.specs.Line.{done}
use Rattle.calls.proofs.NumberLaws.{number-unsound, symbol-eleven}
use Rattle.calls.proofs.SnapshotLaws.{outcome, page_feed, feed-number, feed-refused, feed-told}
use Rattle.calls.specs.Call.{Call, take, read, convert, snapshot, try_order, bare, fed, number_of, answer_of, after_call, number_on, call}
use Rattle.logcalls.specs.Answers.{lent_of, filled_most}

pub lent-room : (room most n : ℕ) → n ≤ most → ltb (lent_of room most) n ≡ ltb room n
lent-room room most n h = go (ltb room most) refl
  where
    go : (t : Bool) → ltb room most ≡ t → ltb (cond t room most) n ≡ ltb room n
    go true e = refl
    go false e = let k : most ≤ room = ltb-false room most e in rw (le-ltb most n h, le-ltb room n (omega arith))

pub lent-most : (room most : ℕ) → lent_of room most ≤ most
lent-most room most = go (ltb room most) refl
  where
    go : (t : Bool) → ltb room most ≡ t → cond t room most ≤ most
    go true e = let h : room < most = ltb-true room most e in omega arith
    go false e = omega arith

module _ (b : List ℕ) where
  pub take-room : (i : ℕ) (k : List ℕ) (room : ℕ) → call b (take i k (lent_of room answer_length)) ≡ call b (take i k room)
  unfolding call number_on number_of answer_of after_call
  take-room i k room = rw (lent-room room answer_length answer_length (omega arith))

  pub read-room : (s : List ℕ) (room : ℕ) → call b (read s (lent_of room publication_length)) ≡ call b (read s room)
  unfolding call number_on number_of answer_of after_call
  read-room s room = rw (lent-room room publication_length publication_length (omega arith))

  pub order-room : (s : List ℕ) (m w room : ℕ) → call b (try_order s m w (lent_of room steps_length)) ≡ call b (try_order s m w room)
  unfolding call number_on number_of answer_of after_call
  order-room s m w room = rw (lent-room room steps_length steps_length (omega arith))

  convert-number : (v : List ℕ) (room : ℕ) → convert_number v (lent_of room filled_most) ≡ convert_number v room
  unfolding convert_number
  convert-number v room = go (eqb (venue_number v) 0) refl
    where
      go : (t : Bool) → eqb (venue_number v) 0 ≡ t
          → cond t (cond (ltb (lent_of room filled_most) (needed_of v)) 80 0) (venue_number v) ≡ cond t (cond (ltb room (needed_of v)) 80 0) (venue_number v)
      go true e = rw (lent-room room filled_most (needed_of v) (run-longest v (eqb-true (venue_number v) 0 e)))
      go false e = refl

  pub convert-room : (v : List ℕ) (room : ℕ) → call b (convert v (lent_of room filled_most)) ≡ call b (convert v room)
  unfolding call number_on number_of answer_of after_call
  convert-room v room = rw (convert-number v room)

  -- a symbol's snapshot has at most 1,706 bytes
  feed-most : (x : Snapshot) → Measured x → length (feed_bytes x) ≤ filled_most
  unfolding feed_length feed_count
  feed-most x m = go (leb (length x.letters) letters_alone) (length-feed x m)
    where
      go : (t : Bool) → length (feed_bytes x) ≡ consolidated_length + participant_length * length x.letters + finra_length + feed_header * cond t 1 2 → length (feed_bytes x) ≤ filled_most
      go true e = omega (arith, e, m.few)
      go false e = omega (arith, e, m.few)

  pub feed-room : (s : List ℕ) (room : ℕ) → call b (snapshot s (lent_of room filled_most)) ≡ call b (snapshot s room)
  unfolding done page_at
  feed-room s room = go (sound b) refl (symbol_good s) refl (page_place b (be s)) refl
    where
      refused : (n : ℕ) → ((r : ℕ) → n ≡ number_on b (snapshot s r)) → done n ≡ false → call b (snapshot s (lent_of room filled_most)) ≡ call b (snapshot s room)
      refused n e d = sym (feed-refused b s (lent_of room filled_most) n (e (lent_of room filled_most)) d) ∙ feed-refused b s room n (e room) d

      go : (t : Bool) → sound b ≡ t → (g : Bool) → symbol_good s ≡ g → (f : Option ℕ) → page_place b (be s) ≡ f → call b (snapshot s (lent_of room filled_most)) ≡ call b (snapshot s room)
      go false et g eg f ef = refused 1 (λ r. number-unsound b (snapshot s r) refl et) refl
      go true et false eg f ef = refused 10 (λ r. sym (feed-number b s r et ∙ rw eg)) refl
      go true et true eg None ef = refused 10 (λ r. sym (feed-number b s r et ∙ rw (eg, ef))) refl
      go true et true eg (Some k) ef =
          let w : length (page_at b k) ≡ page_length = length_part b (page_start k) page_length (found-room b (be s) k (page_place b (be s)) et refl ef).0 in
          let x : Snapshot = page_feed b s k in
          let m : Measured x = measured-of (quotes_in (page_at b k)) s (kept_entries (page_at b k)) (symbol-eleven s eg) (length_part (page_at b k) entries_at publication_length (omega (arith, w))) in
          sym (feed-told b s k et eg ef (lent_of room filled_most))
          ∙ ap (λ (t : Bool). outcome b (cond t (bare 81) (fed 0 (length (feed_blocks x)) (length (feed_bytes x)) (feed_bytes x)))) (lent-room room filled_most (length (feed_bytes x)) (feed-most x m))
          ∙ feed-told b s k et eg ef room
