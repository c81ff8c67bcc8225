-- Checks 84 and 85: what each `return` owes.
-- Assumes nothing.
use Prim.Native.Nat.{ℕ, ◌≤◌, ◌<◌}
use mathlib.Core.Path.{◌≡◌}
use mathlib.Core.List.{List}
use lib.ListN.{length}
use borrow.Author.Tests.{le-leb, lt-leb, eq-eqb, ne_eqb}
use Rattle.lists.specs.Lists.{sum}
use Rattle.allowance.specs.Allowance.{blocks_most, setting_number, share_count}

module _ (b : ℕ) (ss : List ℕ) where
  pub blocks-none : b < 1 → 84 ≡ setting_number b ss
  unfolding setting_number
  blocks-none h = rw (lt-leb 1 b h)

  module _ (low : 1 ≤ b) where
    pub blocks-many : blocks_most < b → 84 ≡ setting_number b ss
    unfolding setting_number
    blocks-many h = rw (le-leb 1 b low, lt-leb b blocks_most h)

    module _ (up : b ≤ blocks_most) where
      pub shares-count : (length ss ≡ share_count → ⊥) → 85 ≡ setting_number b ss
      unfolding setting_number
      shares-count h = rw (le-leb 1 b low, le-leb b blocks_most up, ne_eqb (length ss) share_count h)

      module _ (w : length ss ≡ share_count) (t : ℕ) (e : t ≡ sum ss) where
        pub shares-many : b < t → 85 ≡ setting_number b ss
        unfolding setting_number
        shares-many h = rw (le-leb 1 b low, le-leb b blocks_most up, eq-eqb (length ss) share_count w, ← e, lt-leb t b h)

        pub setting-good : t ≤ b → 0 ≡ setting_number b ss
        unfolding setting_number
        setting-good h = rw (le-leb 1 b low, le-leb b blocks_most up, eq-eqb (length ss) share_count w, ← e, le-leb t b h)
