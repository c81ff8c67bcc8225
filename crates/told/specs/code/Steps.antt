-- One message's answer and counts as the code has them.
-- Assumes nothing.
use Rattle.std.specs.Prelude.{ℕ, ◌+◌, cond, List, [], ◌∷◌}
use Rattle.told.specs.declared.Told.{Told}
use Rattle.told.specs.declared.Tally.{Tally}
use Rattle.told.specs.Told.{tally, is_accepted, is_partly, is_rejected}

-- its four bytes in the answer buffer
abbrev pub quad : ℕ → Told → List ℕ
quad i t = i ∷ t.code ∷ t.flags ∷ 0 ∷ []

-- the counts with it
unfoldable pub tally_with : Tally → Told → Tally
tally_with s t =
    record {
      accepted = s.accepted + cond (is_accepted t) 1 0;
      partly = s.partly + cond (is_partly t) 1 0;
      rejected = s.rejected + cond (is_rejected t) 1 0;
    }

abbrev pub tally_of : List Told → Tally
tally_of ts = record { accepted = tally is_accepted ts; partly = tally is_partly ts; rejected = tally is_rejected ts }
