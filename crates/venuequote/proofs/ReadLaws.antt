-- What our readers find in a converted message: each field is the source's, one fact for short and long forms alike.
-- Assumes nothing.
use Prim.Native.Nat.{ℕ, zero, suc, ◌+◌, ◌*◌, ◌/◌, ◌^◌, ◌≤◌, ◌<◌}
use mathlib.Core.Path.{◌≡◌, refl, sym, ap, ◌∙◌}
use mathlib.Core.Bool.{Bool, true, false, cond}
use mathlib.Core.List.{List, [], ◌∷◌, ◌++◌, append_assoc}
use native.Mathlib.Omega.{arith}
use native.Mathlib.Nat.{div-le_self}
use lib.ListN.{length, drop, get_or, replicate, length-append}
use lib.Seq.{drop_at, get_or-drop}
use lib.Dec.{eqb}
use Rattle.field.specs.Field.{Bytes, be, part, field, be_bytes}
use Rattle.field.specs.Ascii.{K, M, Q}
use Rattle.field.proofs.Laws.{be-be_bytes, field_lt}
use Rattle.field.proofs.JoinLaws.{part-front, part-after, part-whole}
use Rattle.lists.specs.Lists.{at}
use Rattle.ranking.specs.declared.Side.{Side}
use Rattle.ranking.specs.declared.Side.TheVariants.{Bid, Offer}
use Rattle.quote.specs.declared.Level.{Level}
use Rattle.levels.specs.Levels.{item_length}
use Rattle.levels.specs.Levels as levels
use Rattle.message.specs.Message.{time_of, symbol_text, level_at, quote_at, odd_at, round_lot_odd, odd_lot_odd, round_lot_items, odd_lot_items}
use Rattle.text.specs.Form.{symbol_length}
use Rattle.venueform.specs.declared.Form.{Form}
use Rattle.venueform.specs.Form.{participant_in, time_in, symbol_in, price_bytes, size_bytes, side_bytes, side_at, price_at, price_in, shares_in, condition_in, mark_in, count_in, item_count, item_bytes, item_at, item_price, item_shares}
use Rattle.venuerules.specs.Rules.{length_good}
use Rattle.venuerules.proofs.QuoteLaws.{symbol-in, sides-in, item_in}
use Rattle.venuequote.specs.Quote.{divided, our_kind, our_header, our_side_at, our_round, our_marks, our_item_at, our_items, converted_as}
use Rattle.venuequote.proofs.WriteLaws.{length-header, length-symbol, length-round, length-marks, length-item}

-- a byte behind n others
at_after : (a b : List ℕ) (n i : ℕ) → length a ≡ n → at (a ++ b) (n + i) ≡ at b i
at_after a b n i e = sym (get_or-drop n (a ++ b) i 0) ∙ ap (λ (l : List ℕ). get_or l i 0) (drop_at a b n e)

field-after : (a b : List ℕ) (n i w : ℕ) → length a ≡ n → field (a ++ b) (n + i) w ≡ field b i w
unfolding field
field-after a b n i w e = ap be (part-after a b n i w e)

one : (x : ℕ) → be (x ∷ []) ≡ x
unfolding be
one x = omega arith

-- ---- what fits our fields

module _ (f : Form) (m : List ℕ) (g : length_good f m ≡ true) (y : Bytes m) where
  time-fits : time_in m < 256 ^ 8
  time-fits = omega (arith, field_lt m 5 4 (omega (arith, symbol-in f m g)) y, field_lt m 9 4 (omega (arith, symbol-in f m g)) y)

  price-fits : (i : ℕ) → i + price_bytes f ≤ length m → price_at f m i < 256 ^ 8
  price-fits i h = go f.long (field_lt m i (price_bytes f) h y)
    where
      go : (t : Bool) → field m i (cond t 8 2) < 256 ^ (cond t 8 2) → field m i (cond t 8 2) * cond t 1 10000 < 256 ^ 8
      go true h = omega arith
      go false h = omega arith

  divided-fits : (lot shares : ℕ) → shares < 256 ^ 4 → divided lot shares < 256 ^ 4
  unfolding divided
  divided-fits lot shares h = go (eqb lot 0)
    where
      go : (t : Bool) → cond t shares (shares / lot) < 256 ^ 4
      go true = h
      go false = omega (arith, div-le_self shares lot)

  shares-fits : (i : ℕ) → i + size_bytes f ≤ length m → field m i (size_bytes f) < 256 ^ 4
  shares-fits i h = go f.long (field_lt m i (size_bytes f) h y)
    where
      go : (t : Bool) → field m i (cond t 4 2) < 256 ^ (cond t 4 2) → field m i (cond t 4 2) < 256 ^ 4
      go true h = h
      go false h = omega arith

  module _ (lot : ℕ) where
    abbrev ours : List ℕ
    ours = converted_as lot f m

    -- ---- header

    -- category Q; type K or M; the letter; zero
    pub reads-category : at ours 0 ≡ Q
    unfolding converted_as our_header our_kind
    reads-category = refl

    pub reads_type : at ours 1 ≡ cond f.round K M
    unfolding converted_as our_header our_kind
    reads_type = refl

    pub reads-letter : at ours 2 ≡ participant_in m
    unfolding converted_as our_header our_kind
    reads-letter = refl

    pub reads-zero : at ours 3 ≡ 0
    unfolding converted_as our_header our_kind
    reads-zero = refl

    pub reads-time : time_of ours ≡ time_in m
    unfolding time_of converted_as our_header our_kind be_bytes field part be
    reads-time = be-be_bytes 8 (time_in m) time-fits

    -- ---- symbol

    abbrev behind : List ℕ
    behind = cond f.round (our_round lot f m) [] ++ (our_marks f m ++ our_items f m 0 (item_count f m))

    parts_are : ours ≡ (our_header f m ++ symbol_in f m) ++ behind
    unfolding converted_as
    parts_are =
        ap (λ (l : List ℕ). l ++ our_items f m 0 (item_count f m)) (append_assoc (our_header f m ++ symbol_in f m) (cond f.round (our_round lot f m) []) (our_marks f m))
        ∙ append_assoc (our_header f m ++ symbol_in f m) (cond f.round (our_round lot f m) [] ++ our_marks f m) (our_items f m 0 (item_count f m))
        ∙ ap (λ (l : List ℕ). (our_header f m ++ symbol_in f m) ++ l) (append_assoc (cond f.round (our_round lot f m) []) (our_marks f m) (our_items f m 0 (item_count f m)))

    pub reads-symbol : symbol_text ours ≡ symbol_in f m
    reads-symbol =
        ap (λ (l : List ℕ). part l 20 symbol_length) (parts_are ∙ append_assoc (our_header f m) (symbol_in f m) behind)
        ∙ part-after (our_header f m) (symbol_in f m ++ behind) 20 0 symbol_length (length-header f m g)
        ∙ part-front (symbol_in f m) behind 0 symbol_length (omega (arith, length-symbol f m g))
        ∙ part-whole (symbol_in f m) symbol_length (length-symbol f m g)

    length_front : length (our_header f m ++ symbol_in f m) ≡ 31
    length_front = length-append (our_header f m) (symbol_in f m) ∙ (λ i. length-header f m g i + length-symbol f m g i)

    field-behind : (i w : ℕ) → field ours (31 + i) w ≡ field behind i w
    field-behind i w = ap (λ (l : List ℕ). field l (31 + i) w) parts_are ∙ field-after (our_header f m ++ symbol_in f m) behind 31 i w length_front

    -- ---- round part

    abbrev side : Side → Level
    side s = record { price = price_in f s m; size = divided lot (shares_in f s m); time = time_in m }

    module _ (r : f.round ≡ true) where
      behind-round : behind ≡ our_round lot f m ++ (our_marks f m ++ our_items f m 0 (item_count f m))
      behind-round = ap (λ (t : Bool). cond t (our_round lot f m) [] ++ (our_marks f m ++ our_items f m 0 (item_count f m))) r

      in-round : (i w : ℕ) → field ours (31 + i) w ≡ field (our_round lot f m ++ (our_marks f m ++ our_items f m 0 (item_count f m))) i w
      in-round i w = field-behind i w ∙ ap (λ (l : List ℕ). field l i w) behind-round

      side-in : (s : Side) → side_at f s + side_bytes f ≤ length m
      side-in Bid = omega (arith, sides-in f m g r)
      side-in Offer = sides-in f m g r

      price-in : (s : Side) → price_in f s m < 256 ^ 8
      price-in s = price-fits (side_at f s) (omega (arith, side-in s))

      size-in : (s : Side) → divided lot (shares_in f s m) < 256 ^ 4
      size-in s = divided-fits lot (shares_in f s m) (shares-fits (side_at f s + price_bytes f) (omega (arith, side-in s)))

      reads-condition : field ours 31 1 ≡ condition_in f m
      unfolding our_round our_side_at be_bytes field part be
      reads-condition = in-round 0 1 ∙ one (condition_in f m)

      reads-bid : level_at ours 32 ≡ side Bid
      unfolding level_at our_round our_side_at be_bytes field part be
      reads-bid =
          λ i. record {
            price = (in-round 1 8 ∙ be-be_bytes 8 (price_in f Bid m) (price-in Bid)) i;
            size = (in-round 9 4 ∙ be-be_bytes 4 (divided lot (shares_in f Bid m)) (size-in Bid)) i;
            time = reads-time i;
          }

      reads-offer : level_at ours 44 ≡ side Offer
      unfolding level_at our_round our_side_at be_bytes field part be
      reads-offer =
          λ i. record {
            price = (in-round 13 8 ∙ be-be_bytes 8 (price_in f Offer m) (price-in Offer)) i;
            size = (in-round 21 4 ∙ be-be_bytes 4 (divided lot (shares_in f Offer m)) (size-in Offer)) i;
            time = reads-time i;
          }

      -- condition, prices in millionths, sizes in round lots, the time
      pub reads-quote : quote_at ours ≡ record { condition = condition_in f m; bid = side Bid; offer = side Offer }
      unfolding quote_at
      reads-quote = λ i. record { condition = reads-condition i; bid = reads-bid i; offer = reads-offer i }

      in-marks : (i : ℕ) → at ours (56 + i) ≡ at (our_marks f m ++ our_items f m 0 (item_count f m)) i
      in-marks i =
          ap (λ (l : List ℕ). at l (56 + i)) (parts_are ∙ ap (λ (l : List ℕ). (our_header f m ++ symbol_in f m) ++ l) behind-round ∙ sym (append_assoc (our_header f m ++ symbol_in f m) (our_round lot f m) (our_marks f m ++ our_items f m 0 (item_count f m))))
          ∙ at_after ((our_header f m ++ symbol_in f m) ++ our_round lot f m) (our_marks f m ++ our_items f m 0 (item_count f m)) 56 i
          (length-append (our_header f m ++ symbol_in f m) (our_round lot f m) ∙ (λ j. length_front j + length-round f m lot j))

      pub reads-round-odd : round_lot_odd ours ≡ record { mark = mark_in f m; bids = count_in f Bid m; offers = count_in f Offer m; time = time_in m; items = round_lot_items }
      unfolding odd_at our_marks
      reads-round-odd = λ i. record { mark = in-marks 0 i; bids = in-marks 1 i; offers = in-marks 2 i; time = reads-time i; items = round_lot_items }

      pub reads-round-zero : at ours 59 ≡ 0
      unfolding our_marks
      reads-round-zero = in-marks 3 ∙ ap (λ (t : Bool). at ((mark_in f m ∷ count_in f Bid m ∷ count_in f Offer m ∷ []) ++ replicate (cond t 1 2) 0 ++ our_items f m 0 (item_count f m)) 3) r

      pub round_items : drop round_lot_items ours ≡ our_items f m 0 (item_count f m)
      unfolding converted_as
      round_items =
          drop_at (our_header f m ++ symbol_in f m ++ cond f.round (our_round lot f m) [] ++ our_marks f m) (our_items f m 0 (item_count f m)) round_lot_items
          (length-append (our_header f m ++ symbol_in f m ++ cond f.round (our_round lot f m) []) (our_marks f m)
          ∙ omega (arith, length-append (our_header f m ++ symbol_in f m) (cond f.round (our_round lot f m) []), length_front, round-long, length-marks f m, marks-four))
        where
          round-long : length (cond f.round (our_round lot f m) []) ≡ 25
          round-long = ap (λ (t : Bool). length (cond t (our_round lot f m) [])) r ∙ length-round f m lot

          marks-four : ◌≡◌ {A = ℕ} (cond f.round 4 5) 4
          marks-four = ap (λ (t : Bool). cond t 4 5) r

    -- ---- an odd-lot message

    module _ (r : f.round ≡ false) where
      behind-odd : behind ≡ our_marks f m ++ our_items f m 0 (item_count f m)
      behind-odd = ap (λ (t : Bool). cond t (our_round lot f m) [] ++ (our_marks f m ++ our_items f m 0 (item_count f m))) r

      in-odd : (i : ℕ) → at ours (31 + i) ≡ at (our_marks f m ++ our_items f m 0 (item_count f m)) i
      in-odd i =
          ap (λ (l : List ℕ). at l (31 + i)) (parts_are ∙ ap (λ (l : List ℕ). (our_header f m ++ symbol_in f m) ++ l) behind-odd)
          ∙ at_after (our_header f m ++ symbol_in f m) (our_marks f m ++ our_items f m 0 (item_count f m)) 31 i length_front

      pub reads-odd : odd_lot_odd ours ≡ record { mark = mark_in f m; bids = count_in f Bid m; offers = count_in f Offer m; time = time_in m; items = odd_lot_items }
      unfolding odd_at our_marks
      reads-odd = λ i. record { mark = in-odd 0 i; bids = in-odd 1 i; offers = in-odd 2 i; time = reads-time i; items = odd_lot_items }

      pub reads-odd-zeros : (at ours 34 ≡ 0) × (at ours 35 ≡ 0)
      unfolding our_marks
      reads-odd-zeros = (
        in-odd 3 ∙ ap (λ (t : Bool). at ((mark_in f m ∷ count_in f Bid m ∷ count_in f Offer m ∷ []) ++ replicate (cond t 1 2) 0 ++ our_items f m 0 (item_count f m)) 3) r,
        in-odd 4 ∙ ap (λ (t : Bool). at ((mark_in f m ∷ count_in f Bid m ∷ count_in f Offer m ∷ []) ++ replicate (cond t 1 2) 0 ++ our_items f m 0 (item_count f m)) 4) r,
      )

      pub odd-items : drop odd_lot_items ours ≡ our_items f m 0 (item_count f m)
      odd-items =
          ap (drop odd_lot_items) (parts_are ∙ ap (λ (l : List ℕ). (our_header f m ++ symbol_in f m) ++ l) behind-odd ∙ sym (append_assoc (our_header f m ++ symbol_in f m) (our_marks f m) (our_items f m 0 (item_count f m))))
          ∙ drop_at ((our_header f m ++ symbol_in f m) ++ our_marks f m) (our_items f m 0 (item_count f m)) odd_lot_items
          (length-append (our_header f m ++ symbol_in f m) (our_marks f m) ∙ omega (arith, length_front, length-marks f m, marks-five))
        where
          marks-five : ◌≡◌ {A = ℕ} (cond f.round 4 5) 5
          marks-five = ap (λ (t : Bool). cond t 4 5) r

  -- ---- items, of either message: price in millionths, shares as they are

  item-fits : (i : ℕ) → i < item_count f m → (item_price f m i < 256 ^ 8) × (item_shares f m i < 256 ^ 4)
  item-fits i h =
      let n : item_at f i + item_bytes f ≤ length m = item_in f m g (item_count f m) i refl h in
      (price-fits (item_at f i) (omega arith), omega (arith, y (item_at f i + price_bytes f)))

  item-first : (n i : ℕ) → i < item_count f m → levels.item_at (our_items f m i (suc n)) 0 ≡ record { price = item_price f m i; shares = item_shares f m i }
  unfolding levels.item_at our_items our_item_at be_bytes field part be
  item-first n i h = λ k. record { price = be-be_bytes 8 (item_price f m i) (item-fits i h).0 k; shares = be-be_bytes 4 (item_shares f m i) (item-fits i h).1 k }

  item-later : (n i j : ℕ) → levels.item_at (our_items f m i (suc n)) (suc j) ≡ levels.item_at (our_items f m (i + 1) n) j
  unfolding levels.item_at our_items
  item-later n i j =
      let a : item_length * suc j ≡ item_length + item_length * j = omega arith in
      let b : item_length * suc j + 8 ≡ item_length + (item_length * j + 8) = omega arith in
      λ k. record {
        price = (ap (λ (x : ℕ). field (our_item_at f m (item_at f i) ++ our_items f m (i + 1) n) x 8) a ∙ field-after (our_item_at f m (item_at f i)) (our_items f m (i + 1) n) item_length (item_length * j) 8 (length-item f m (item_at f i))) k;
        shares = (ap (λ (x : ℕ). field (our_item_at f m (item_at f i) ++ our_items f m (i + 1) n) x 4) b ∙ field-after (our_item_at f m (item_at f i)) (our_items f m (i + 1) n) item_length (item_length * j + 8) 4 (length-item f m (item_at f i))) k;
      }

  items-read : (n i j : ℕ) → i + n ≡ item_count f m → j < n → levels.item_at (our_items f m i n) j ≡ record { price = item_price f m (i + j); shares = item_shares f m (i + j) }
  items-read zero i j e h = absurd (omega arith)
  items-read (suc n) i zero e h =
      let o : i ≡ i + 0 = omega arith in
      item-first n i (omega arith) ∙ (λ k. record { price = item_price f m (o k); shares = item_shares f m (o k) })
  items-read (suc n) i (suc j) e h =
      let c : (i + 1) + j ≡ i + suc j = omega arith in
      item-later n i j ∙ items-read n (i + 1) j (omega arith) (omega arith) ∙ (λ k. record { price = item_price f m (c k); shares = item_shares f m (c k) })

  pub reads-item : (i : ℕ) → i < item_count f m → levels.item_at (our_items f m 0 (item_count f m)) i ≡ record { price = item_price f m i; shares = item_shares f m i }
  reads-item i h =
      let z : 0 + i ≡ i = omega arith in
      items-read (item_count f m) 0 i (omega arith) h ∙ (λ k. record { price = item_price f m (z k); shares = item_shares f m (z k) })
