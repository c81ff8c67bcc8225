-- What a good block has.
-- Assumes nothing.
use Prim.Native.Nat.{ℕ, ◌≤◌}
use mathlib.Core.Path.{◌≡◌}
use mathlib.Core.Bool.{true}
use mathlib.Core.List.{List}
use lib.Dec.{leb, eqb}
use lib.ListN.{length}
use borrow.Author.Tests.{leb-true}
use Rattle.field.specs.Field.{field}
use Rattle.lists.specs.Lists.{at}
use Rattle.lists.proofs.Tests.{and-true}
use Rattle.block.specs.Block.{checksum_of}
use Rattle.venue.specs.Venue.{venue_first, venue_shortest, venue_longest, venue_count, size_good, laid_from, block_good}

pub size-lengths : (b : List ℕ) → size_good b ≡ true → (venue_shortest ≤ length b) × (length b ≤ venue_longest)
unfolding size_good
size-lengths b e =
    let s = and-true (leb venue_shortest (length b)) _ e in
    let l = and-true (leb (length b) venue_longest) _ s.1 in
    (leb-true venue_shortest (length b) s.0, leb-true (length b) venue_longest l.0)

-- what a block that follows B1 to B8 has
pub record Sound (b : List ℕ) : Type 0 where
  pub long : venue_shortest ≤ length b
  pub short : length b ≤ venue_longest
  pub some : 1 ≤ venue_count b
  pub laid : laid_from b venue_first (venue_count b) ≡ true

pub sound-is : (b : List ℕ) → block_good b ≡ true → Sound b
unfolding block_good
sound-is b e =
    let s = and-true (size_good b) _ e in
    let v = and-true (eqb (at b 0) 0) _ s.1 in
    let k = and-true (eqb (checksum_of b) (field b 8 2)) _ v.1 in
    let n = and-true (leb 1 (venue_count b)) _ k.1 in
    let z = size-lengths b s.0 in
    record { long = z.0; short = z.1; some = leb-true 1 (venue_count b) n.0; laid = n.1 }
