-- The messages of a block as the code writes them, from a symbol's bytes and its page.
-- Assumes nothing.
use Rattle.std.specs.Prelude.{ℕ, ◌+◌, ◌*◌, ◌-◌, ◌≡◌, List, [], ◌∷◌, ◌++◌, map, length}
use Rattle.field.specs.Field.{part}
use Rattle.field.specs.Ascii.{A, Z}
use Rattle.text.specs.Form.{symbol_length}
use Rattle.page.specs.Layout.{page_length, kept_entries}
use Rattle.page.specs.Page.{quotes_in}
use Rattle.snapshot.specs.Snapshot.{both_length, both_in, Shown, shown_from}
use Rattle.snapshot.specs.Feed.{consolidated, participant, finra_message, consolidated_length, participant_length, finra_length, feed_header}

-- a symbol's bytes, and a page
pub record Lent (s p : List ℕ) : Type 0 where
  pub symbol : length s ≡ symbol_length
  pub page : length p ≡ page_length

-- a block with all messages of k letters, and the second of two blocks with k of them
abbrev pub only_length : ℕ → ℕ
only_length k = feed_header + consolidated_length + participant_length * k + finra_length

abbrev pub second_length : ℕ → ℕ
second_length k = feed_header + participant_length * k + finra_length

-- the letters from `from` on, before `to`, that have a message
abbrev pub shown_in : List ℕ → ℕ → ℕ → List Shown
shown_in p from to = shown_from (quotes_in p) (to - from) from

abbrev pub of_c : List ℕ → List ℕ → List ℕ
of_c s p = consolidated s (both_in (part (kept_entries p) 0 both_length))

abbrev pub of_p : List ℕ → List Shown → List (List ℕ)
of_p s vs = map (participant s) vs

abbrev pub of_f : List ℕ → List ℕ → List ℕ
of_f s p = finra_message s (both_in (part (kept_entries p) both_length both_length))

-- all in one block; the first of two, with the letters before l; the second
unfoldable pub only_messages : List ℕ → List ℕ → List (List ℕ)
only_messages s p = of_c s p ∷ (of_p s (shown_in p A (Z + 1)) ++ (of_f s p ∷ []))

unfoldable pub first_messages : List ℕ → List ℕ → ℕ → List (List ℕ)
first_messages s p l = of_c s p ∷ of_p s (shown_in p A l)

unfoldable pub second_messages : List ℕ → List ℕ → ℕ → List (List ℕ)
second_messages s p l = of_p s (shown_in p l (Z + 1)) ++ (of_f s p ∷ [])
