-- A snapshot shows no times: the quotes as a page holds them and as the history gives them show the same.
-- Assumes nothing.
use Prim.Native.Nat.{ℕ, zero, suc}
use mathlib.Core.Path.{◌≡◌, refl}
use mathlib.Core.Bool.{not, ◌&&◌, cond}
use mathlib.Core.List.{List, [], ◌∷◌}
use Rattle.std.specs.Prelude.{Option, None, Some}
use Rattle.field.specs.Field.{part}
use Rattle.field.specs.Ascii.{A, D, S}
use Rattle.lists.specs.Lists.{member, or_else, cons_option}
use Rattle.quote.specs.declared.Quote.{Quote}
use Rattle.quote.specs.Quote.{no_quote, is_quoted, with_times, quote_over}
use Rattle.snapshot.specs.Snapshot.{Shown, shown_of, both_length, both_in, is_shown, shown_from, snapshot_of}
use Rattle.review.specs.Runs.{latest}
use Rattle.review.proofs.TimeLaws.{held}

module _ (q r : ℕ → Quote) (e : (l : ℕ) → shown_of l (q l) ≡ shown_of l (r l)) where
  shown-same : (n l : ℕ) → shown_from q n l ≡ shown_from r n l
  unfolding is_shown
  shown-same zero l = refl
  shown-same (suc n) l = λ i. cons_option (cond (not (member (D ∷ S ∷ []) l) && is_quoted (e l i).condition) (Some (e l i)) None) (shown-same n (suc l) i)

  pub snapshot-same : (s b : List ℕ) → snapshot_of s b q ≡ snapshot_of s b r
  unfolding snapshot_of
  snapshot-same s b = λ i. record { symbol = s; national = both_in (part b 0 both_length); finra = both_in (part b both_length both_length); letters = shown-same 26 A i }

pub held-shown : (l : ℕ) (qs : List Quote) → shown_of l (held qs) ≡ shown_of l (or_else (latest qs) no_quote)
unfolding held quote_over with_times
held-shown l [] = refl
held-shown l (q ∷ qs) = refl

-- the newest quote, whatever its times
pub newest-shown : (l : ℕ) (q : Quote) (qs : List Quote) → shown_of l (or_else (latest (q ∷ qs)) no_quote) ≡ shown_of l q
unfolding with_times
newest-shown l q qs = refl
