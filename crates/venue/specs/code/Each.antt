-- What the walk over a venue's messages relies on: a rule of each message, by its place and its bytes.
-- Assumes nothing.
use Rattle.std.specs.Prelude.{ℕ, ◌+◌, ◌<◌, ◌≤◌, ◌≡◌, Bool, true, ◌&&◌, List, [], ◌∷◌, length}
use Rattle.venueform.specs.Form.{venue_header}
use denote.Ref.{Bor}

-- the rule holds of all messages, the first of them message i
unfoldable pub all_by : (ℕ → List ℕ → Bool) → ℕ → List (List ℕ) → Bool
all_by rule i [] = true
all_by rule i (m ∷ ms) = rule i m && all_by rule (i + 1) ms

-- a test may be asked of each whole message
abbrev pub Tries : (ℕ → Bor (List ℕ) → Type 0) → Type 0
Tries pre = (i : ℕ) (m : Bor (List ℕ)) → i < 256 → venue_header ≤ length m.now → pre i m

-- what a test answers is the rule
abbrev pub Decides : (ℕ → Bor (List ℕ) → Bool → Type 0) → (ℕ → List ℕ → Bool) → Type 0
Decides post rule = (i : ℕ) (m : Bor (List ℕ)) (r : Bool) → post i m r → r ≡ rule i m.now
