-- What the rows of snapshots are written with: headers and messages byte by byte.
-- Assumes nothing.
use Prim.Native.Nat.{ℕ}
use mathlib.Core.List.{List, [], ◌∷◌, ◌++◌}
use lib.ListN.{replicate}
use Rattle.field.specs.Ascii.{C, D, F, P, R, S, space}
use Rattle.snapshot.specs.Snapshot.{Priced, Shown, BothEntries}

abbrev pub zt : List ℕ
zt = 90 ∷ 84 ∷ replicate 9 space

abbrev pub priced : ℕ → ℕ → Priced
priced p z = record { price = p; size = z }

abbrev pub shown : ℕ → ℕ → Priced → Priced → Shown
shown l c b o = record { letter = l; condition = c; bid = b; offer = o }

-- 10.00 for 3 and 10.02 for 2, as an entry has them behind its name
abbrev pub ten : List ℕ
ten = 0 ∷ 0 ∷ 0 ∷ 0 ∷ 0 ∷ 152 ∷ 150 ∷ 128 ∷ 0 ∷ 0 ∷ 0 ∷ 3 ∷ []

abbrev pub ten02 : List ℕ
ten02 = 0 ∷ 0 ∷ 0 ∷ 0 ∷ 0 ∷ 152 ∷ 228 ∷ 160 ∷ 0 ∷ 0 ∷ 0 ∷ 2 ∷ []

-- "None is four spaces and zeros"
abbrev pub nothing : List ℕ
nothing = replicate 4 space ++ replicate 12 0

abbrev pub nobody : BothEntries
nobody = record { bid = nothing; offer = nothing }

-- a block's header: size, number, messages, delivery flag, checksum
abbrev pub header : ℕ → ℕ → ℕ → ℕ → ℕ → ℕ → ℕ → List ℕ
header size size' q c f sum sum' = (11 ∷ size ∷ size' ∷ 0 ∷ 0 ∷ 0 ∷ q ∷ c ∷ f ∷ replicate 13 0) ++ (sum ∷ sum' ∷ [])

-- R C: its header and symbol, what T-12 leaves blank, the two national entries
abbrev pub any_c : List ℕ → List ℕ → List ℕ
any_c b o = (0 ∷ 102 ∷ R ∷ C ∷ S ∷ zt) ++ (space ∷ replicate 41 0) ++ b ++ replicate 4 space ++ o ++ replicate 12 space

abbrev pub any_p : ℕ → ℕ → List ℕ → List ℕ → List ℕ
any_p l c b o = (0 ∷ 62 ∷ R ∷ P ∷ l ∷ zt) ++ (c ∷ b) ++ o ++ replicate 4 space ++ replicate 16 0 ++ (space ∷ [])

abbrev pub any_f : List ℕ → List ℕ → List ℕ
any_f b o = (0 ∷ 68 ∷ R ∷ F ∷ D ∷ zt) ++ (space ∷ b) ++ (space ∷ o) ++ (space ∷ replicate 16 0) ++ (space ∷ [])

-- no price, no size, no maker
abbrev pub blank_f : List ℕ
blank_f = replicate 12 0 ++ replicate 4 space

abbrev pub blank_c : List ℕ
blank_c = space ∷ space ∷ replicate 12 0
