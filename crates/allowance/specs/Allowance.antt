-- One allowance for all lines (document 02, T-14), and its bytes in the opening of a book.
-- Assumes nothing.
use Rattle.std.specs.Prelude.{ℕ, ◌+◌, ◌-◌, Bool, false, ◌&&◌, cond, List, [], ◌∷◌, ◌++◌, eqb, leb, length, replicate, set}
use Rattle.field.specs.Field.{part, field, splice, be_bytes}
use Rattle.lists.specs.Lists.{at, sum}

-- "a guaranteed share for each of the 64 lines, a byte each"
abbrev pub share_count : ℕ
share_count = 64

-- "1 to 255"
abbrev pub blocks_most : ℕ
blocks_most = 255

-- B blocks for each tick, 0 where none is set; the share of each line; the blocks charged to each line in this tick
pub record Allowance : Type 0 where
  pub blocks : ℕ
  pub shares : List ℕ
  pub charges : List ℕ

-- ---- what is left

-- "charged, to its line's share first, then to the spare": what the lines have charged beyond their shares is charged to the spare
unfoldable pub spare_charged : List ℕ → List ℕ → ℕ
spare_charged [] cs = 0
spare_charged (s ∷ ss) [] = 0
spare_charged (s ∷ ss) (c ∷ cs) = (c - s) + spare_charged ss cs

-- "the spare, which is B less all shares"; 0 if they are more
abbrev pub spare : Allowance → ℕ
spare a = a.blocks - sum a.shares

abbrev pub share_used : Allowance → ℕ → Bool
share_used a i = leb (at a.shares i) (at a.charges i)

abbrev pub spare_used : Allowance → Bool
spare_used a = leb (spare a) (spare_charged a.shares a.charges)

-- 86: "share and spare used"; without an allowance none is
unfoldable pub is_used_up : Allowance → ℕ → Bool
is_used_up a i = cond (eqb a.blocks 0) false (share_used a i && spare_used a)

-- ---- how it moves; "without one, a tick call answers 0 and changes nothing, and the book behaves as before"

abbrev pub with_charges : Allowance → List ℕ → Allowance
with_charges a cs = cond (eqb a.blocks 0) a (record { blocks = a.blocks; shares = a.shares; charges = cs })

-- a block of line i is charged
unfoldable pub charged : Allowance → ℕ → Allowance
charged a i = with_charges a (set a.charges i (at a.charges i + 1))

abbrev pub no_charges : List ℕ
no_charges = replicate share_count 0

-- "a tick call starts the next"
unfoldable pub ticked : Allowance → Allowance
ticked a = with_charges a no_charges

-- "and so does a setting"
abbrev pub set_to : ℕ → List ℕ → Allowance
set_to b ss = record { blocks = b; shares = ss; charges = no_charges }

-- "A made book has no allowance"
abbrev pub no_allowance : Allowance
no_allowance = record { blocks = 0; shares = replicate share_count 0; charges = no_charges }

-- "84 B is 0 or above 255, then 85 not 64 shares or their sum above B"
unfoldable pub setting_number : ℕ → List ℕ → ℕ
setting_number b ss = cond (leb 1 b && leb b blocks_most) (cond (eqb (length ss) share_count && leb (sum ss) b) 0 85) 84

-- ---- its bytes: B, the shares, the charges

abbrev pub shares_from : ℕ
shares_from = 1

abbrev pub charges_from : ℕ
charges_from = shares_from + share_count

abbrev pub allowance_length : ℕ
allowance_length = charges_from + share_count

unfoldable pub allowance_in : List ℕ → Allowance
allowance_in r = record { blocks = field r 0 1; shares = part r shares_from share_count; charges = part r charges_from share_count }

-- one more for line i
unfoldable pub charged_bytes : List ℕ → ℕ → List ℕ
charged_bytes r i = cond (eqb (field r 0 1) 0) r (splice r (charges_from + i) (be_bytes 1 (field r (charges_from + i) 1 + 1)))

abbrev pub charged_to : ℕ → List ℕ → List ℕ
charged_to i r = charged_bytes r i

unfoldable pub ticked_bytes : List ℕ → List ℕ
ticked_bytes r = cond (eqb (field r 0 1) 0) r (splice r charges_from no_charges)

abbrev pub setting_bytes : ℕ → List ℕ → List ℕ
setting_bytes b ss = be_bytes 1 b ++ ss ++ no_charges
