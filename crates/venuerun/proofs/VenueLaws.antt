-- The run of a venue's block: its length worked out first is the length written, each block passes checks 30 to 34, the messages are the
-- converted ones in their order, numbers follow on, each block is as full as it can be, and no run is longer than 3,600 bytes.
-- Assumes nothing.
use Rattle.std.specs.Prelude.{Option, Some, None}
use Rattle.std.proofs.Common.{◌≡◌, ℕ, zero, suc, ◌+◌, ◌*◌, ◌≤◌, Bool, true, false, cond, leb, List, [], ◌∷◌, map, length, sym, refl, ap, ◌∙◌, arith, leb-true}
use lib.ListN.{length-map}
use Rattle.field.specs.Field.{Bytes, part, field}
use Rattle.field.proofs.Laws.{field_lt, length_part}
use Rattle.lists.specs.Lists.{sum, gather}
use Rattle.lists.proofs.Tests.{clash, and-true}
use Rattle.block.specs.Block.{block_longest, offset_at, messages_of, is_control}
use Rattle.block.specs.Written.{joined}
use Rattle.venueform.specs.declared.Form.{Form}
use Rattle.venueform.specs.Form.{layout_of, item_count}
use Rattle.venuerules.specs.Rules.{length_good}
use Rattle.venuerules.proofs.QuoteLaws.{length-is}
use Rattle.venuequote.specs.Quote.{our_kind, our_header, converted_as, converted_by, converted, length_by, converted_length, symbol_named, converted_for}
use Rattle.venuequote.specs.code.Ready.{ready_by, ready}
use Rattle.venue.specs.Venue.{venue_first, venue_sequence, venue_count, lies_at, venue_from, venue_messages, venue_number}
use Rattle.venue.proofs.BlockLaws.{Sound}
use Rattle.venue.proofs.WalkLaws.{lies-is}
use Rattle.venuerun.specs.Run.{with_one, packed, converted_in, fill_into, filled, needed_of, venue_run}
use Rattle.venuerun.specs.code.Walk.{stands, lengths_from}
use Rattle.venuerun.proofs.StandLaws.{ready-length, ready-fits, ready-is, length_from}
use Rattle.venuerun.proofs.RunLaws.{filled-is-written, Carriable, AllCarriable, no_message, and_message, Follows, run-follows, run-messages, Full, run-full}

-- ---- each message

ready-quote : (m : List ℕ) → ready m ≡ true → (lot : ℕ) → is_control (converted lot m) ≡ false
unfolding ready converted converted_as our_header our_kind
ready-quote m r lot = go (layout_of m) r
  where
    go : (l : Option Form) → ready_by m l ≡ true → is_control (converted_by lot m l) ≡ false
    go (Some f) e = refl
    go None e = clash (sym e)

ready-carriable : (lots : ℕ → ℕ) (m : List ℕ) → ready m ≡ true → Carriable (converted_for lots m)
unfolding converted_for
ready-carriable lots m r =
    let l = ready-length m r (lots (symbol_named m)) in
    let k = ready-fits m r in
    record { long = omega (arith, l, k.0); short = omega (arith, l, k.1); quote = ready-quote m r (lots (symbol_named m)) }

-- our message is never so long that four of the source's bytes would not do, 100 apart
ready-short : (m : List ℕ) → ready m ≡ true → converted_length m + 100 ≤ 4 * length m
unfolding ready converted_length
ready-short m r = go (layout_of m) r
  where
    go : (l : Option Form) → ready_by m l ≡ true → length_by m l + 100 ≤ 4 * length m
    go (Some f) e = rw (length-is f m (and-true (length_good f m) _ e).0) (forms f.round f.long (item_count f m))
      where
        forms : (t u : Bool) (n : ℕ) → cond t 60 36 + 12 * n + 100 ≤ 4 * (cond t (cond u 78 39) (cond u 37 31) + 3 + (cond u 8 2 + 1) * n)
        forms true true n = omega arith
        forms true false n = omega arith
        forms false true n = omega arith
        forms false false n = omega arith
    go None e = clash (sym e)

-- ---- the messages of a block

module _ (b : List ℕ) where
  stands-carriable : (lots : ℕ → ℕ) (n p : ℕ) → stands b p n ≡ true → AllCarriable (map (converted_for lots) (venue_from b p n))
  unfolding stands venue_from
  stands-carriable lots zero p s = no_message
  stands-carriable lots (suc n) p s =
      let a = and-true (lies_at b p) _ s in
      let r = and-true (ready (part b p (field b p 2))) _ a.1 in
      and_message (ready-carriable lots (part b p (field b p 2)) r.0) (stands-carriable lots n (p + field b p 2) r.1)

  stands-lengths : (lots : ℕ → ℕ) (n p : ℕ) → stands b p n ≡ true → map length (map (converted_for lots) (venue_from b p n)) ≡ lengths_from b p n
  unfolding stands venue_from converted_for
  stands-lengths lots zero p s = refl
  stands-lengths lots (suc n) p s =
      let a = and-true (lies_at b p) _ s in
      let m : List ℕ = part b p (field b p 2) in
      let r = and-true (ready m) _ a.1 in
      λ j. ready-length m r.0 (lots (symbol_named m)) j ∷ stands-lengths lots n (p + field b p 2) r.1 j

  stands-short : (n p : ℕ) → p ≤ length b → stands b p n ≡ true → sum (lengths_from b p n) + 100 * n + 4 * p ≤ 4 * length b
  unfolding stands venue_from sum
  stands-short zero p h s = omega arith
  stands-short (suc n) p h s =
      let a = and-true (lies_at b p) _ s in
      let l = lies-is b p a.0 in
      let m : List ℕ = part b p (field b p 2) in
      let r = and-true (ready m) _ a.1 in
      omega (arith, ready-short m r.0, length_part b p (field b p 2) l.inside, stands-short n (p + field b p 2) l.inside r.1)

  -- no block is over 1,000 bytes
  fill-most : (used n p : ℕ) → used ≤ block_longest → stands b p n ≡ true → fill_into used (lengths_from b p n) ≤ 1000 + 1000 * n
  unfolding fill_into stands venue_from
  fill-most used zero p h s = omega arith
  fill-most used (suc n) p h s =
      go (leb (with_one used (converted_length m)) block_longest) refl (λ k. fill-most (with_one used (converted_length m)) n (p + field b p 2) k r.1)
      (fill-most (with_one (offset_at 0) (converted_length m)) n (p + field b p 2) (omega (arith, (ready-fits m r.0).1)) r.1)
    where
      m : List ℕ
      m = part b p (field b p 2)

      r : (ready m ≡ true) × (stands b (p + field b p 2) n ≡ true)
      r = and-true (ready m) _ (and-true (lies_at b p) _ s).1

      rest : List ℕ
      rest = lengths_from b (p + field b p 2) n

      go : (t : Bool) → leb (with_one used (converted_length m)) block_longest ≡ t
          → (with_one used (converted_length m) ≤ block_longest → fill_into (with_one used (converted_length m)) rest ≤ 1000 + 1000 * n)
          → fill_into (with_one (offset_at 0) (converted_length m)) rest ≤ 1000 + 1000 * n
          → cond t (fill_into (with_one used (converted_length m)) rest) (used + fill_into (with_one (offset_at 0) (converted_length m)) rest) ≤ 1000 + 1000 * suc n
      go true e x y = let z = x (leb-true (with_one used (converted_length m)) block_longest e) in omega arith
      go false e x y = omega arith

  filled-most : (n p : ℕ) → stands b p n ≡ true → filled (lengths_from b p n) ≤ 1000 * n
  unfolding filled stands venue_from
  filled-most zero p s = omega arith
  filled-most (suc n) p s =
      let m : List ℕ = part b p (field b p 2) in
      let r = and-true (ready m) _ (and-true (lies_at b p) _ s).1 in
      omega (arith, fill-most (with_one (offset_at 0) (converted_length m)) n (p + field b p 2) (omega (arith, (ready-fits m r.0).1)) r.1)

-- ten bytes for each block and two for each message are twelve at most
fill-sum : (used : ℕ) (ns : List ℕ) → fill_into used ns ≤ used + sum ns + 12 * length ns
unfolding fill_into sum
fill-sum used [] = omega arith
fill-sum used (n ∷ ns) = go (leb (with_one used n) block_longest) (fill-sum (with_one used n) ns) (fill-sum (with_one (offset_at 0) n) ns)
  where
    go : (t : Bool) → fill_into (with_one used n) ns ≤ with_one used n + sum ns + 12 * length ns → fill_into (with_one (offset_at 0) n) ns ≤ with_one (offset_at 0) n + sum ns + 12 * length ns
        → cond t (fill_into (with_one used n) ns) (used + fill_into (with_one (offset_at 0) n) ns) ≤ used + (n + sum ns) + 12 * suc (length ns)
    go true x y = omega arith
    go false x y = omega arith

filled-sum : (ns : List ℕ) → filled ns ≤ sum ns + 12 * length ns
unfolding filled sum
filled-sum [] = omega arith
filled-sum (n ∷ ns) = omega (arith, fill-sum (with_one (offset_at 0) n) ns)

-- ---- a block that is neither 78 nor 79

module _ (b : List ℕ) (z : venue_number b ≡ 0) where
  -- "The needed output length can be worked out first, without writing, and equals what is then written"
  pub run_length : (lots : ℕ → ℕ) → length (joined (venue_run lots b)) ≡ needed_of b
  unfolding needed_of
  run_length lots =
      filled-is-written (venue_sequence b) (converted_in lots b) ∙ ap filled (stands-lengths b lots (venue_count b) venue_first (ready-is b z).stand)

  all-carriable : (lots : ℕ → ℕ) → AllCarriable (converted_in lots b)
  all-carriable lots = stands-carriable b lots (venue_count b) venue_first (ready-is b z).stand

  -- each block of the run passes checks 30 to 34; the first has the venue block's number, each next one the number that follows
  pub venue-follows : (lots : ℕ → ℕ) → Bytes b → Follows (venue_sequence b) (venue_run lots b)
  venue-follows lots y =
      let s : Sound b = (ready-is b z).sound in
      run-follows (venue_sequence b) (converted_in lots b) (all-carriable lots) (field_lt b 3 4 (omega (arith, s.long)) y)

  -- its messages are the venue's in our form, nothing lost, added or moved
  pub venue-messages : (lots : ℕ → ℕ) → gather messages_of (venue_run lots b) ≡ map (converted_for lots) (venue_messages b)
  venue-messages lots = run-messages (venue_sequence b) (converted_in lots b) (all-carriable lots)

  -- "each with as many messages as fit"
  pub venue-full : (lots : ℕ → ℕ) → Full (packed (converted_in lots b))
  venue-full lots = run-full (converted_in lots b)

  pub run-longest : needed_of b ≤ 3600
  unfolding needed_of
  run-longest =
      let r = ready-is b z in
      let n : length (lengths_from b venue_first (venue_count b)) ≡ venue_count b = length-map (venue_messages b) converted_length ∙ length_from b (venue_count b) venue_first in
      omega (
        arith,
        n,
        r.sound.short,
        filled-sum (lengths_from b venue_first (venue_count b)),
        stands-short b (venue_count b) venue_first (omega (arith, r.sound.long)) r.stand,
        filled-most b (venue_count b) venue_first r.stand,
      )
