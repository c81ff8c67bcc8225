-- What is told of a block's messages: their answer bytes, and how many were accepted, partly accepted and rejected.
-- Assumes nothing.
use Rattle.std.specs.Prelude.{ℕ, ◌+◌, Bool, not, ◌&&◌, cond, List, [], ◌∷◌, eqb}
use Rattle.told.specs.declared.Told.{Told}

-- "the answer buffer's four bytes at 4i hold i, the code, the change flags and 0"
unfoldable pub quads : ℕ → List Told → List ℕ
quads i [] = []
quads i (t ∷ ts) = i ∷ t.code ∷ t.flags ∷ 0 ∷ quads (i + 1) ts

unfoldable pub tally : (Told → Bool) → List Told → ℕ
tally f [] = 0
tally f (t ∷ ts) = cond (f t) 1 0 + tally f ts

-- "accepted (code 0), partly accepted (Q K with 60 to 64) and rejected (the rest)"
abbrev pub is_accepted : Told → Bool
is_accepted t = eqb t.code 0

abbrev pub is_partly : Told → Bool
is_partly t = t.partly

abbrev pub is_rejected : Told → Bool
is_rejected t = not (eqb t.code 0) && not t.partly
