-- What the walk looks at, one candidate after another, in the words of Entries and Page: for the contracts of its steps.
-- Assumes nothing.
use Rattle.std.specs.Prelude.{ℕ, ◌+◌, ◌-◌, ◌≤◌, ◌≡◌, Bool, true, false, cond, List, eqb, ltb, Option}
use Rattle.field.specs.Field.{part}
use Rattle.field.specs.Ascii.{A, D, S, Z, space}
use Rattle.lists.specs.Lists.{bind_option, is_some}
use Rattle.ranking.specs.declared.Side.{Side}
use Rattle.ranking.specs.declared.Candidate.{Candidate}
use Rattle.ranking.specs.declared.Sides.{Sides}
use Rattle.ranking.specs.declared.Side.TheVariants.{Bid, Offer}
use Rattle.ranking.specs.Held.{no_candidate, or_none, both_sides, no_lead}
use Rattle.ranking.specs.declared.Lead.{Lead}
use Rattle.ranking.specs.code.Choice.{live, choose, lead_with, lead_from}
use Rattle.ranking.specs.code.Chosen.{any_other}
use Rattle.quote.specs.Quote.{candidate_of, level_candidate, level_in, quote_length, level_length}
use Rattle.entries.specs.Entries.{as_d, finra_best, maker_candidate, letter_levels}
use Rattle.page.specs.Page.{quotes_in, levels_for, maker_in, makers_in, occupied}
use Rattle.page.specs.Layout.{cell_length, cell_at, slot_at, in_levels, first_keys_at}
use Rattle.slots.specs.code.Slots.{first_in}
use Rattle.keys.specs.Keys.{full_key}
use Rattle.keysets.specs.Sets.{key_at, key_count, has, set_of, with_member, fold_set}
use Rattle.walk.specs.declared.Shown.{Shown}

-- a side's candidate or none, with none as price 0
abbrev pub asked : (Side → ℕ → Option Candidate) → Side → ℕ → Candidate
asked f s k = or_none (f s k)

-- the same for one side
abbrev pub asked_of : (ℕ → Option Candidate) → ℕ → Candidate
asked_of f k = or_none (f k)

-- maker cell k
unfoldable pub maker_at : List ℕ → Side → ℕ → Option Candidate
maker_at p s k = bind_option (maker_in (part p (cell_at k) cell_length)) (maker_candidate s)

-- the FINRA best of both sides
unfoldable pub finra_sides : List ℕ → Sides Candidate
finra_sides p = both_sides (λ s. or_none (finra_best (occupied (makers_in p)) s))

-- a letter's national candidate, D's by its FINRA best f; one that doesn't count has no price or no size
unfoldable pub standing_at : List ℕ → Side → Candidate → ℕ → Candidate
standing_at p s f l = cond (eqb l D) (as_d f) (cond (eqb l S) no_candidate (or_none (candidate_of s l (quotes_in p l))))

-- a letter's first level: its best, if the letter's levels rank, D's by its FINRA best
unfoldable pub first_by : List ℕ → Side → Option Candidate → ℕ → Option Candidate
first_by p s fb l = first_in l (letter_levels s (quotes_in p) fb (levels_for p) l)

-- a candidate for D that counts, or none: whether D's levels rank, and whether D counts beside a leader, depend on no more of its FINRA best
unfoldable pub mark_of : Bool → Candidate
mark_of t = cond t (record { name = 0; price = 1; size = 1; time = 0; condition = 0 }) no_candidate

-- ---- the letters of a set, by their places from A on

-- D's place
abbrev pub d_place : ℕ
d_place = 3

unfoldable pub lead_step : List ℕ → Side → Candidate → ℕ → Lead → Lead
lead_step p s f i l = lead_with s l (standing_at p s f (A + i))

unfoldable pub odd_step : List ℕ → Side → Candidate → ℕ → Candidate → Candidate
odd_step p s f i b = choose s b (or_none (first_by p s (live f) (A + i)))

-- ---- what the leader so far shows

abbrev pub no_shown : Shown
no_shown = record { letter = 0; size = 0; time = 0; decided = 0 }

abbrev pub shown_of : Candidate → Shown
shown_of c = record { letter = c.name; size = c.size; time = c.time; decided = 0 }

abbrev pub won_by : Shown → ℕ → Shown
won_by x r = record { letter = x.letter; size = x.size; time = x.time; decided = r }

abbrev pub kept_by : Shown → ℕ → Shown
kept_by b r = cond (ltb b.decided r) (won_by b r) b

unfoldable pub beside_of : Shown → Shown → Shown
beside_of b x =
    cond (eqb x.size 0) b
    (cond (eqb b.size 0) x
    (cond (ltb b.size x.size) (won_by x 2)
    (cond (ltb x.size b.size) (kept_by b 2)
    (cond (ltb x.time b.time) (won_by x 3)
    (cond (ltb b.time x.time) (kept_by b 3) (kept_by b 4))))))

unfoldable pub show_step : List ℕ → Side → Candidate → ℕ → Shown → Shown
show_step p s f i b = beside_of b (shown_of (standing_at p s f (A + i)))

-- those who may lead: the letters with the highest key, D by its FINRA best's key d
unfoldable pub members_of : ℕ → ℕ → ℕ → ℕ
members_of same d top = cond (eqb top 0) 0 (cond (eqb d top) (with_member same d_place) same)

-- the key of every price that four bytes can't hold
abbrev pub full_of : Side → ℕ
full_of Bid = full_key
full_of Offer = 1

-- all letters have to be looked at: the highest key tells no price, D's own slot has it, or nobody counts who has it
unfoldable pub is_hidden : Side → ℕ → ℕ → ℕ → Bool
is_hidden s top same size = cond (eqb top 0) false (cond (eqb top (full_of s)) true (cond (has same d_place) true (eqb size 0)))

-- a letter that counts, other than the n-th
unfoldable pub another : List ℕ → Side → Candidate → ℕ → ℕ → Bool
another p s f n l = cond (eqb l n) false (is_some (live (standing_at p s f l)))

-- a leader without a second among those of its price is ahead by price if any other letter counts
unfoldable pub ahead_of_all : List ℕ → Side → Candidate → Lead → Lead
ahead_of_all p s f l = record { best = l.best; decided = cond (eqb l.decided 0) (cond (any_other (standing_at p s f) l.best.name A 26) 1 0) l.decided }

-- the same by the leader's letter, and what put it ahead of those of its price
unfoldable pub decided_by : List ℕ → Side → Candidate → ℕ → ℕ → ℕ
decided_by p s f n by = cond (eqb by 0) (cond (any_other (standing_at p s f) n A 26) 1 0) by

-- a leader stands at a letter
abbrev pub InLetters : Shown → Type 0
InLetters m = (m.size ≡ 0 → ⊥) → (A ≤ m.letter) × (m.letter ≤ Z)

-- the leader as a candidate
unfoldable pub led_by : List ℕ → Side → Candidate → Shown → ℕ → Lead
led_by p s f m by = cond (eqb m.size 0) no_lead (record { best = standing_at p s f m.letter; decided = by })

-- both sides' leaders of the letters A to l
unfoldable pub leaders_of : List ℕ → ℕ → Sides Candidate → Sides Lead
leaders_of p l f = record { bid = lead_from Bid (standing_at p Bid f.bid) A (l + 1 - A) no_lead; offer = lead_from Offer (standing_at p Offer f.offer) A (l + 1 - A) no_lead }

-- ---- the best odd lot above a bar

-- the best of the first levels of the letters with a key above k
unfoldable pub odd_above : List ℕ → Side → Candidate → ℕ → Candidate
odd_above p s f k = fold_set (odd_step p s f) (has (set_of (λ i. ltb k (key_at p (first_keys_at s) i)) key_count)) 0 key_count no_candidate

-- a letter, or 0 for none
abbrev pub LetterOrNone : ℕ → Type 0
LetterOrNone l = (l ≡ 0 → ⊥) → (A ≤ l) × (l ≤ Z)

-- the first level that stands under it, whether or not it counts
unfoldable pub stored_first : List ℕ → Side → ℕ → Candidate
stored_first p s l = cond (eqb l 0) no_candidate (level_candidate l space (level_in (part p (slot_at l + quote_length + in_levels s) level_length)))
