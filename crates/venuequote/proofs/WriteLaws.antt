-- The writes of a quote in our form, joined one behind the other, over plain values.
-- Assumes nothing.
use Rattle.std.specs.Prelude.{Option, Some, None}
use Prim.Native.Nat.{ℕ, zero, suc, ◌+◌, ◌*◌, ◌-◌, ◌/◌, ◌≤◌, ◌<◌}
use mathlib.Core.Path.{◌≡◌, refl, sym, ap, ◌∙◌}
use mathlib.Core.Bool.{Bool, true, false, cond}
use mathlib.Core.List.{List, [], ◌∷◌, ◌++◌, append-nil}
use native.Mathlib.Omega.{arith}
use lib.ListN.{length, replicate, set, take, drop, length-append, drop_of_length-le}
use Rattle.field.specs.Field.{Bytes, part, field, splice, be_bytes}
use Rattle.field.proofs.Laws.{splice-join, splice-one, be_bytes-field, lent_back, length_part, length-be_bytes, length-splice}
use Rattle.field.proofs.ZeroLaws.{splice-nothing}
use Rattle.field.specs.Ascii.{K, M, Q}
use borrow.Author.Tests.{eq-eqb, ne_eqb}
use borrow.Rule.Slice.PartMut.{put_mid}
use Rattle.lists.specs.Lists.{at}
use Rattle.lists.proofs.Tests.{clash, and-true}
use Rattle.lists.proofs.Searches.{less_one}
use Rattle.ranking.specs.declared.Side.TheVariants.{Bid, Offer}
use Rattle.text.specs.Form.{symbol_length}
use Rattle.levels.specs.Levels.{item_length}
use Rattle.venueform.specs.declared.Form.{Form}
use Rattle.venueform.specs.Form.{layout_of, venue_header, participant_in, time_in, reference_in, symbol_bytes, symbol_in, price_bytes, size_bytes, side_bytes, bid_at, price_at, condition_in, mark_in, count_in, clear_at, item_count, item_at}
use Rattle.venuerules.specs.Rules.{length_good, our_length}
use Rattle.venuerules.proofs.QuoteLaws.{symbol-in}
use Rattle.venuequote.specs.Quote.{divided, our_kind, our_header, our_side_at, our_round, our_marks, our_item_at, our_items, converted_as, converted_by, converted, length_by, converted_length}
use Rattle.venuequote.specs.code.Ready.{ready_by, ready}

-- bytes written, then bytes behind them
pub then : (to n : ℕ) (o o1 o2 a b : List ℕ) → length a ≡ n → o1 ≡ splice o to a → o2 ≡ splice o1 (to + n) b → o2 ≡ splice o to (a ++ b)
then to n o o1 o2 a b l e1 e2 = e2 ∙ ap (λ (x : List ℕ). splice x (to + n) b) e1 ∙ splice-join o to n a b l

-- all of it written over
pub whole : (o b : List ℕ) → length b ≡ length o → splice o 0 b ≡ b
unfolding splice
whole o b e =
    let h : length o ≤ 0 + length b = omega (arith, e) in
    ap (λ (l : List ℕ). b ++ l) (drop_of_length-le o h) ∙ append-nil b

-- ---- sizes, spaces

pub divide-none : (lot shares : ℕ) → lot ≡ 0 → shares ≡ divided lot shares
unfolding divided
divide-none lot shares e = rw (eq-eqb lot 0 e)

pub divide-some : (lot shares : ℕ) → (lot ≡ 0 → ⊥) → shares / lot ≡ divided lot shares
unfolding divided
divide-some lot shares e = rw (ne_eqb lot 0 e)

pub marks-room-odd : (t : Bool) (to n : ℕ) → t ≡ false → to + cond t 4 5 ≤ n → to + 5 ≤ n
marks-room-odd t to n e h = rw e at h

-- how much room a message has
module _ (f : Form) (m : List ℕ) (n : ℕ) (e : n ≡ our_length f m) where
  pub quote-room : 36 ≤ n
  quote-room = rw e (go f.round (item_count f m))
    where
      go : (t : Bool) (k : ℕ) → 36 ≤ cond t 60 36 + 12 * k
      go true k = omega arith
      go false k = omega arith

  pub quote-room-round : f.round ≡ true → n ≡ 60 + 12 * item_count f m
  quote-room-round r = e ∙ ap (λ (t : Bool). cond t 60 36 + 12 * item_count f m) r

  pub quote-room-odd : f.round ≡ false → n ≡ 36 + 12 * item_count f m
  quote-room-odd r = e ∙ ap (λ (t : Bool). cond t 60 36 + 12 * item_count f m) r

-- ---- by the layout

module _ (m : List ℕ) (l : Option Form) (e : l ≡ layout_of m) where
  pub len-quote : (f : Form) (n : ℕ) → l ≡ Some f → n ≡ our_length f m → n ≡ converted_length m
  unfolding converted_length
  len-quote f n q h = h ∙ ap (length_by m) (sym q ∙ e)

  pub len-other : l ≡ None → 0 ≡ converted_length m
  unfolding converted_length
  len-other q = ap (length_by m) (sym q ∙ e)

  -- a message that can be converted is a quote as long as its counts say
  pub ready-quote : (f : Form) → l ≡ Some f → ready m ≡ true → length_good f m ≡ true
  unfolding ready
  ready-quote f q r = (and-true (length_good f m) _ (ap (ready_by m) (sym q ∙ e) ∙ r)).0

  pub ready-other : {A : Type 0} → l ≡ None → ready m ≡ true → A
  unfolding ready
  ready-other q r = clash (sym (ap (ready_by m) (sym q ∙ e) ∙ r))

  pub length-quote : (f : Form) (n : ℕ) → l ≡ Some f → n ≡ converted_length m → n ≡ our_length f m
  unfolding converted_length
  length-quote f n q h = h ∙ sym (ap (length_by m) (sym q ∙ e))

  pub quote-is : (f : Form) (lot : ℕ) (o : List ℕ) → l ≡ Some f → o ≡ converted_as lot f m → o ≡ converted lot m
  unfolding converted
  quote-is f lot o q h = h ∙ ap (converted_by lot m) (sym q ∙ e)

module _ (f : Form) (m : List ℕ) where
  -- ---- header

  pub kind-is : (o z : List ℕ) (k p : ℕ) → k ≡ cond f.round K M → p ≡ participant_in m → z ≡ Q ∷ k ∷ p ∷ 0 ∷ [] → put_mid 0 4 o z ≡ splice o 0 (our_kind f m)
  unfolding our_kind
  kind-is o z k p ek ep e = lent_back 0 4 o z (ap length e) ∙ ap (splice o 0) e ∙ (λ i. splice o 0 (Q ∷ ek i ∷ ep i ∷ 0 ∷ []))

  pub header_is : (o o1 o2 o3 : List ℕ) (t r : ℕ) → venue_header ≤ length m → Bytes m → o1 ≡ splice o 0 (our_kind f m) → t ≡ time_in m → o2 ≡ splice o1 4 (be_bytes 8 t)
      → r ≡ field m 18 8 → o3 ≡ splice o2 12 (be_bytes 8 r) → o3 ≡ splice o 0 (our_header f m)
  unfolding our_header our_kind be_bytes
  header_is o o1 o2 o3 t r h y e1 et e2 er e3 =
      let q : be_bytes 8 r ≡ reference_in m = ap (be_bytes 8) er ∙ be_bytes-field m 18 8 (omega arith) y in
      then 0 12 o o2 o3 (our_kind f m ++ be_bytes 8 t) (be_bytes 8 r) refl (then 0 4 o o1 o2 (our_kind f m) (be_bytes 8 t) refl e1 e2) e3
      ∙ (λ i. splice o 0 (our_kind f m ++ be_bytes 8 (et i) ++ q i))

  -- ---- symbol

  pub symbol-long : (to n : ℕ) (o z : List ℕ) → n ≡ 11 → f.long ≡ true → length_good f m ≡ true → z ≡ take 11 (drop 26 m) → put_mid to n o z ≡ splice o to (symbol_in f m)
  unfolding part
  symbol-long to n o z en l g e =
      let h : 37 ≤ length m = rw l at (symbol-in f m g) in
      lent_back to n o z (ap length e ∙ length_part m 26 11 h ∙ sym en) ∙ ap (splice o to) (e ∙ sym (rw l (append-nil (part m 26 11))))

  pub symbol-short : (to n k : ℕ) (o z y : List ℕ) → n ≡ 5 → k ≡ 6 → f.long ≡ false → length_good f m ≡ true → z ≡ take 5 (drop 26 m) → y ≡ replicate 6 32
      → put_mid (to + 5) k (put_mid to n o z) y ≡ splice o to (symbol_in f m)
  unfolding part
  symbol-short to n k o z y en ek l g e ey =
      let h : 31 ≤ length m = rw l at (symbol-in f m g) in
      let five : length z ≡ 5 = ap length e ∙ length_part m 26 5 h in
      then to 5 o (put_mid to n o z) (put_mid (to + 5) k (put_mid to n o z) y) z y five (lent_back to n o z (five ∙ sym en)) (lent_back (to + 5) k (put_mid to n o z) y (ap length ey ∙ sym ek))
      ∙ (λ i. splice o to (e i ++ ey i)) ∙ sym (rw l refl)

  -- ---- round part

  pub side-is : (to i lot n s p q : ℕ) (o o1 o2 : List ℕ) → n ≡ price_bytes f → s ≡ field m (i + n) (size_bytes f) → p ≡ price_at f m i → o1 ≡ splice o to (be_bytes 8 p)
      → q ≡ divided lot s → o2 ≡ splice o1 (to + 8) (be_bytes 4 q) → o2 ≡ splice o to (our_side_at lot f m i)
  unfolding our_side_at
  side-is to i lot n s p q o o1 o2 en es ep e1 eq e2 =
      let k : q ≡ divided lot (field m (i + price_bytes f) (size_bytes f)) = eq ∙ ap (divided lot) (es ∙ ap (λ (x : ℕ). field m (i + x) (size_bytes f)) en) in
      then to 8 o o1 o2 (be_bytes 8 p) (be_bytes 4 q) (length-be_bytes 8 p) e1 e2 ∙ (λ j. splice o to (be_bytes 8 (ep j) ++ be_bytes 4 (k j)))

  length-side : (lot i : ℕ) → length (our_side_at lot f m i) ≡ 12
  unfolding our_side_at be_bytes
  length-side lot i = refl

  pub round_is : (lot b n c : ℕ) (o o1 o2 o3 : List ℕ) → b ≡ bid_at f → c ≡ condition_in f m → o1 ≡ splice o 31 (c ∷ []) → o2 ≡ splice o1 32 (our_side_at lot f m b)
      → n ≡ side_bytes f → o3 ≡ splice o2 44 (our_side_at lot f m (b + n)) → o3 ≡ splice o 31 (our_round lot f m)
  unfolding our_round
  round_is lot b n c o o1 o2 o3 eb ec e1 e2 en e3 =
      then 31 13 o o2 o3 ((c ∷ []) ++ our_side_at lot f m b) (our_side_at lot f m (b + n)) (ap suc (length-side lot b)) (then 31 1 o o1 o2 (c ∷ []) (our_side_at lot f m b) refl e1 e2) e3
      ∙ (λ j. splice o 31 ((ec j ∷ []) ++ our_side_at lot f m (eb j) ++ our_side_at lot f m (eb j + en j)))

  -- ---- odd part

  module _ (to n k x y z : ℕ) (o zs : List ℕ) (en : n ≡ 4) (ek : k ≡ clear_at f) (ex : x ≡ at m k) (ey : y ≡ at m (k + 1)) (ez : z ≡ at m (k + 2)) (e : zs ≡ x ∷ y ∷ z ∷ 0 ∷ []) where
    four : put_mid to n o zs ≡ splice o to (mark_in f m ∷ count_in f Bid m ∷ count_in f Offer m ∷ 0 ∷ [])
    four =
        lent_back to n o zs (ap length e ∙ sym en) ∙ ap (splice o to) e
        ∙ (λ j. splice o to (ex j ∷ ey j ∷ ez j ∷ 0 ∷ []))
        ∙ (λ j. splice o to (at m (ek j) ∷ at m (ek j + 1) ∷ at m (ek j + 2) ∷ 0 ∷ []))

    pub marks-round : f.round ≡ true → put_mid to n o zs ≡ splice o to (our_marks f m)
    unfolding our_marks
    marks-round r = four ∙ sym (rw r refl)

    pub marks-odd : to + 5 ≤ length o → f.round ≡ false → set (put_mid to n o zs) (to + 4) 0 ≡ splice o to (our_marks f m)
    unfolding our_marks
    marks-odd h r =
        let l : length (put_mid to n o zs) ≡ length o = ap length four ∙ length-splice o to (mark_in f m ∷ count_in f Bid m ∷ count_in f Offer m ∷ 0 ∷ []) (omega arith) in
        then to 4 o (put_mid to n o zs) (set (put_mid to n o zs) (to + 4) 0) (mark_in f m ∷ count_in f Bid m ∷ count_in f Offer m ∷ 0 ∷ []) (0 ∷ []) refl four (splice-one (put_mid to n o zs) (to + 4) 0 (omega (arith, l))) ∙ sym (rw r refl)

  pub item-is : (to i n s p : ℕ) (o o1 o2 : List ℕ) → n ≡ price_bytes f → s ≡ at m (i + n) → p ≡ price_at f m i → o1 ≡ splice o to (be_bytes 8 p)
      → o2 ≡ splice o1 (to + 8) (be_bytes 4 s) → o2 ≡ splice o to (our_item_at f m i)
  unfolding our_item_at
  item-is to i n s p o o1 o2 en es ep e1 e2 =
      let k : s ≡ at m (i + price_bytes f) = es ∙ ap (λ (x : ℕ). at m (i + x)) en in
      then to 8 o o1 o2 (be_bytes 8 p) (be_bytes 4 s) (length-be_bytes 8 p) e1 e2 ∙ (λ j. splice o to (be_bytes 8 (ep j) ++ be_bytes 4 (k j)))

  pub length-item : (i : ℕ) → length (our_item_at f m i) ≡ item_length
  unfolding our_item_at be_bytes
  length-item i = refl

  pub items-start : (to n : ℕ) (o : List ℕ) → splice o (to + item_length * 0) (our_items f m 0 (n - 0)) ≡ splice o to (our_items f m 0 n)
  items-start to n o =
      let a : to + item_length * 0 ≡ to = omega arith in
      let z : n - 0 ≡ n = omega arith in
      λ i. splice o (a i) (our_items f m 0 (z i))

  -- items from i on, written from their place on
  pub items-again : (to n i a : ℕ) (o o1 w : List ℕ) → i < n → splice o (to + item_length * i) (our_items f m i (n - i)) ≡ w → a ≡ item_at f i → o1 ≡ splice o (to + item_length * i) (our_item_at f m a)
      → splice o1 (to + item_length * (i + 1)) (our_items f m (i + 1) (n - (i + 1))) ≡ w
  unfolding our_items
  items-again to n i a o o1 w h inv ea e =
      let p : to + item_length * (i + 1) ≡ to + item_length * i + item_length = omega arith in
      (λ j. splice (e j) (p j) (our_items f m (i + 1) (n - (i + 1))))
      ∙ splice-join o (to + item_length * i) item_length (our_item_at f m a) (our_items f m (i + 1) (n - (i + 1))) (length-item a)
      ∙ ap (λ (b : ℕ). splice o (to + item_length * i) (our_item_at f m b ++ our_items f m (i + 1) (n - (i + 1)))) ea
      ∙ sym (ap (λ (k : ℕ). splice o (to + item_length * i) (our_items f m i k)) (less_one n i h))
      ∙ inv

  pub items-end : (to n i : ℕ) (o w : List ℕ) → n ≤ i → splice o (to + item_length * i) (our_items f m i (n - i)) ≡ w → o ≡ w
  unfolding our_items
  items-end to n i o w h inv =
      let z : n - i ≡ 0 = omega arith in
      sym (splice-nothing o (to + item_length * i)) ∙ sym (ap (λ (k : ℕ). splice o (to + item_length * i) (our_items f m i k)) z) ∙ inv

  -- ---- lengths

  length-items : (i n : ℕ) → length (our_items f m i n) ≡ item_length * n
  unfolding our_items
  length-items i zero = refl
  length-items i (suc n) = length-append (our_item_at f m (item_at f i)) (our_items f m (i + 1) n) ∙ (λ j. length-item (item_at f i) j + length-items (i + 1) n j) ∙ omega arith

  pub length-round : (lot : ℕ) → length (our_round lot f m) ≡ 25
  unfolding our_round our_side_at be_bytes
  length-round lot = refl

  pub length-marks : length (our_marks f m) ≡ cond f.round 4 5
  unfolding our_marks
  length-marks = go f.round
    where
      go : (t : Bool) → length ((mark_in f m ∷ count_in f Bid m ∷ count_in f Offer m ∷ []) ++ replicate (cond t 1 2) 0) ≡ cond t 4 5
      go true = refl
      go false = refl

  module _ (g : length_good f m ≡ true) where
    pub length-header : length (our_header f m) ≡ 20
    unfolding our_header our_kind be_bytes
    length-header = ap (λ (n : ℕ). suc (suc (suc (suc (suc (suc (suc (suc (suc (suc (suc (suc n)))))))))))) (length_part m 18 8 (omega (arith, symbol-in f m g)))

    pub length-symbol : length (symbol_in f m) ≡ symbol_length
    length-symbol =
        let p : length (part m venue_header (symbol_bytes f)) ≡ symbol_bytes f = length_part m venue_header (symbol_bytes f) (symbol-in f m g) in
        length-append (part m venue_header (symbol_bytes f)) (replicate (symbol_length - symbol_bytes f) 32) ∙ ap (λ (n : ℕ). n + length {A = ℕ} (replicate (symbol_length - symbol_bytes f) 32)) p ∙ go f.long
      where
        go : (t : Bool) → cond t 11 5 + length {A = ℕ} (replicate (symbol_length - cond t 11 5) 32) ≡ symbol_length
        go true = refl
        go false = refl

    pub length-converted : (lot : ℕ) → length (converted_as lot f m) ≡ our_length f m
    unfolding converted_as
    length-converted lot =
        let r : length (cond f.round (our_round lot f m) []) + cond f.round 4 5 + 31 ≡ cond f.round 60 36 = go f.round in
        length-append (our_header f m ++ symbol_in f m ++ cond f.round (our_round lot f m) [] ++ our_marks f m) (our_items f m 0 (item_count f m))
        ∙ ap (λ (n : ℕ). n + length (our_items f m 0 (item_count f m))) (length-append (our_header f m ++ symbol_in f m ++ cond f.round (our_round lot f m) []) (our_marks f m))
        ∙ ap (λ (n : ℕ). n + length (our_marks f m) + length (our_items f m 0 (item_count f m))) (length-append (our_header f m ++ symbol_in f m) (cond f.round (our_round lot f m) []))
        ∙ ap (λ (n : ℕ). n + length (cond f.round (our_round lot f m) []) + length (our_marks f m) + length (our_items f m 0 (item_count f m))) (length-append (our_header f m) (symbol_in f m))
        ∙ omega (arith, length-header, length-symbol, length-marks, length-items 0 (item_count f m), r)
      where
        go : (t : Bool) → length (cond t (our_round lot f m) []) + cond t 4 5 + 31 ≡ cond t 60 36
        go true = omega (arith, length-round lot)
        go false = refl

    -- ---- the whole message

    abbrev front : List ℕ
    front = our_header f m ++ symbol_in f m

    length_front : length front ≡ 31
    length_front = length-append (our_header f m) (symbol_in f m) ∙ (λ i. length-header i + length-symbol i)

    module _ (lot : ℕ) (o o1 o2 : List ℕ) (fits : length o ≡ our_length f m) (e1 : o1 ≡ splice o 0 (our_header f m)) (e2 : o2 ≡ splice o1 20 (symbol_in f m)) where
      two : o2 ≡ splice o 0 front
      two = then 0 20 o o1 o2 (our_header f m) (symbol_in f m) length-header e1 e2

      pub quote-round : (o3 o4 o5 : List ℕ) → f.round ≡ true → o3 ≡ splice o2 31 (our_round lot f m) → o4 ≡ splice o3 56 (our_marks f m)
          → o5 ≡ splice o4 60 (our_items f m 0 (item_count f m)) → o5 ≡ converted_as lot f m
      unfolding converted_as
      quote-round o3 o4 o5 r e3 e4 e5 =
          let l3 : length (front ++ our_round lot f m) ≡ 56 = length-append front (our_round lot f m) ∙ (λ i. length_front i + length-round lot i) in
          let lm : length (our_marks f m) ≡ 4 = length-marks ∙ ap (λ (t : Bool). cond t 4 5) r in
          let l4 : length (front ++ our_round lot f m ++ our_marks f m) ≡ 60 = length-append (front ++ our_round lot f m) (our_marks f m) ∙ (λ i. l3 i + lm i) in
          let t3 = then 0 31 o o2 o3 front (our_round lot f m) length_front two e3 in
          let t4 = then 0 56 o o3 o4 (front ++ our_round lot f m) (our_marks f m) l3 t3 e4 in
          then 0 60 o o4 o5 (front ++ our_round lot f m ++ our_marks f m) (our_items f m 0 (item_count f m)) l4 t4 e5
          ∙ ap (λ (x : List ℕ). splice o 0 (front ++ x ++ our_marks f m ++ our_items f m 0 (item_count f m))) (sym (rw r refl))
          ∙ whole o (converted_as lot f m) (length-converted lot ∙ sym fits)

      pub quote-odd : (o4 o5 : List ℕ) → f.round ≡ false → o4 ≡ splice o2 31 (our_marks f m) → o5 ≡ splice o4 36 (our_items f m 0 (item_count f m)) → o5 ≡ converted_as lot f m
      unfolding converted_as
      quote-odd o4 o5 r e4 e5 =
          let lm : length (our_marks f m) ≡ 5 = length-marks ∙ ap (λ (t : Bool). cond t 4 5) r in
          let l4 : length (front ++ our_marks f m) ≡ 36 = length-append front (our_marks f m) ∙ (λ i. length_front i + lm i) in
          let t4 = then 0 31 o o2 o4 front (our_marks f m) length_front two e4 in
          then 0 36 o o4 o5 (front ++ our_marks f m) (our_items f m 0 (item_count f m)) l4 t4 e5
          ∙ ap (λ (x : List ℕ). splice o 0 (x ++ our_marks f m ++ our_items f m 0 (item_count f m))) (sym (append-nil front))
          ∙ ap (λ (x : List ℕ). splice o 0 (front ++ x ++ our_marks f m ++ our_items f m 0 (item_count f m))) (sym (rw r refl))
          ∙ whole o (converted_as lot f m) (length-converted lot ∙ sym fits)
