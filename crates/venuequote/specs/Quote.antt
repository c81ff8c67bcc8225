-- A quote of source document 000 in our form (document 02, T-11): P and K become our Q K, R and M our Q M.
-- Assumes nothing.
use Rattle.std.specs.Prelude.{ℕ, zero, suc, ◌+◌, ◌/◌, cond, List, [], ◌∷◌, ◌++◌, eqb, replicate, Option, Some, None}
use Rattle.field.specs.Field.{be, field, be_bytes}
use Rattle.field.specs.Ascii.{K, M, Q}
use Rattle.lists.specs.Lists.{at}
use Rattle.ranking.specs.declared.Side.TheVariants.{Bid, Offer}
use Rattle.venueform.specs.declared.Form.{Form}
use Rattle.venueform.specs.Form.{participant_in, time_in, reference_in, layout_of, symbol_in, price_bytes, size_bytes, price_at, side_at, condition_in, mark_in, count_in, item_count, item_at}
use Rattle.venuerules.specs.Rules.{our_length}

-- "Round sizes that 000 gives in shares are divided by the symbol's round lot and the rest is dropped; a symbol not listed goes through with its size
-- undivided": its lot is 0 here
unfoldable pub divided : ℕ → ℕ → ℕ
divided lot shares = cond (eqb lot 0) shares (shares / lot)

-- 0 category, 1 type, 2 letter, 3 zero
unfoldable pub our_kind : Form → List ℕ → List ℕ
our_kind f m = Q ∷ cond f.round K M ∷ participant_in m ∷ 0 ∷ []

-- the kind, 4-11 timestamp, 12-19 reference number
unfoldable pub our_header : Form → List ℕ → List ℕ
our_header f m = our_kind f m ++ be_bytes 8 (time_in m) ++ reference_in m

-- price 8, size 4, from the price at i and the shares behind it
unfoldable pub our_side_at : ℕ → Form → List ℕ → ℕ → List ℕ
our_side_at lot f m i = be_bytes 8 (price_at f m i) ++ be_bytes 4 (divided lot (field m (i + price_bytes f) (size_bytes f)))

-- 31 condition, 32-43 bid, 44-55 offer
unfoldable pub our_round : ℕ → Form → List ℕ → List ℕ
our_round lot f m = (condition_in f m ∷ []) ++ our_side_at lot f m (side_at f Bid) ++ our_side_at lot f m (side_at f Offer)

-- clear mark, the two counts, then zero, in a Q M twice
unfoldable pub our_marks : Form → List ℕ → List ℕ
our_marks f m = (mark_in f m ∷ count_in f Bid m ∷ count_in f Offer m ∷ []) ++ replicate (cond f.round 1 2) 0

-- price 8, shares 4, from the appendage at i: shares as they are
unfoldable pub our_item_at : Form → List ℕ → ℕ → List ℕ
our_item_at f m i = be_bytes 8 (price_at f m i) ++ be_bytes 4 (at m (i + price_bytes f))

-- n items from item i on
unfoldable pub our_items : Form → List ℕ → ℕ → ℕ → List ℕ
our_items f m i zero = []
our_items f m i (suc n) = our_item_at f m (item_at f i) ++ our_items f m (i + 1) n

-- a quote of this form, the round lot of its symbol at hand
unfoldable pub converted_as : ℕ → Form → List ℕ → List ℕ
converted_as lot f m = our_header f m ++ symbol_in f m ++ cond f.round (our_round lot f m) [] ++ our_marks f m ++ our_items f m 0 (item_count f m)

-- ---- a message, by its layout: one that is no quote has no place here

abbrev pub converted_by : ℕ → List ℕ → Option Form → List ℕ
converted_by lot m (Some f) = converted_as lot f m
converted_by lot m None = []

unfoldable pub converted : ℕ → List ℕ → List ℕ
converted lot m = converted_by lot m (layout_of m)

-- its length in our form, without writing it
abbrev pub length_by : List ℕ → Option Form → ℕ
length_by m (Some f) = our_length f m
length_by m None = 0

unfoldable pub converted_length : List ℕ → ℕ
converted_length m = length_by m (layout_of m)

-- the symbol that it names, as one number
abbrev pub named_by : List ℕ → Option Form → ℕ
named_by m (Some f) = be (symbol_in f m)
named_by m None = 0

unfoldable pub symbol_named : List ℕ → ℕ
symbol_named m = named_by m (layout_of m)

-- `lots` gives a symbol's round lot, 0 if it is not listed
unfoldable pub converted_for : (ℕ → ℕ) → List ℕ → List ℕ
converted_for lots m = converted (lots (symbol_named m)) m
