-- Which codes a converted message can still get: 0, 41, 45, 47 and 61 to 64, on a line of any letter and whatever stands of its symbol.
-- Assumes nothing.
use Prim.Native.Nat.{ℕ, ◌+◌, ◌*◌}
use mathlib.Core.Path.{◌≡◌, refl, sym, ap, ◌∙◌}
use mathlib.Core.Bool.{Bool, true, false, not, ◌&&◌, cond}
use mathlib.Core.List.{List, [], ◌∷◌, ◌++◌}
use Rattle.std.specs.Prelude.{Option, None, Some}
use lib.Dec.{leb, eqb}
use lib.ListN.{length}
use borrow.Author.Tests.{eq-eqb}
use Rattle.field.specs.Field.{Bytes}
use Rattle.lists.specs.Lists.{at, member}
use Rattle.lists.proofs.Tests.{and-true, Cut, equal, apart, cut}
use Rattle.text.specs.Form.{symbol_good, letter_good}
use Rattle.quote.specs.declared.Quote.{Quote}
use Rattle.levels.specs.declared.Item.{Item}
use Rattle.levels.specs.Levels.{Standing, Odd, odd_in, odd_on, items_bad, clear_marks, odd_bad, fifth, odd_code}
use Rattle.message.specs.declared.Kind.{Kind}
use Rattle.message.specs.declared.Kind.TheVariants as kind
use Rattle.message.specs.declared.Message.{Message}
use Rattle.message.specs.declared.Message.TheVariants as says
use Rattle.message.specs.declared.OddPart.{OddPart}
use Rattle.message.specs.Message.{quote_kind, kind_of, symbol_text, quote_at, round_lot_odd, odd_lot_odd, odd_of, odd_length, side_bad, round_conditions, price_fault, quote_fault, is_d, read_round_lot, read_odd_lot, read_by, is_unknown, message_of, Known, code_by, code_of}
use Rattle.ranking.specs.declared.Side.TheVariants.{Bid, Offer}
use Rattle.venueform.specs.declared.Form.{Form}
use Rattle.venueform.specs.Form.{participant_in, from_finra, condition_in, mark_in, count_in, item_count}
use Rattle.venuerules.specs.Rules.{length_good, sender_good, symbol_formed, mark_good, quote_good, condition_held, quote_placed}
use Rattle.venuequote.specs.Quote.{converted_as}
use Rattle.venuequote.proofs.WriteLaws.{length-converted}
use Rattle.venuequote.proofs.ReadLaws.{reads-category, reads_type, reads-letter, reads-zero, reads-quote, reads-round-odd, reads-round-zero, reads-odd, reads-odd-zeros}

abbrev pub codes_left : List ℕ
codes_left = 0 ∷ 41 ∷ 45 ∷ 47 ∷ 61 ∷ 62 ∷ 63 ∷ 64 ∷ []

abbrev Left : ℕ → Type 0
Left c = member codes_left c ≡ true

either : (t : Bool) (x y : ℕ) → Left x → Left y → Left (cond t x y)
either true x y a b = a
either false x y a b = b

is-left : (x : ℕ) → member codes_left x ≡ true → Left x
is-left x e = e

left-0 : Left 0
unfolding member
left-0 = refl

left-41 : Left 41
unfolding member
left-41 = refl

left-45 : Left 45
unfolding member
left-45 = refl

left-47 : Left 47
unfolding member
left-47 = refl

left-61 : Left 61
unfolding member
left-61 = refl

left-62 : Left 62
unfolding member
left-62 = refl

left-63 : Left 63
unfolding member
left-63 = refl

left-64 : Left 64
unfolding member
left-64 = refl

-- ---- the odd part, its clear mark good

items_left : (lot : ℕ) (xs : List Item) → Left (items_bad lot xs)
unfolding items_bad
items_left lot [] = left-0
items_left lot (x ∷ xs) = either (eqb x.price 0) 62 _ left-62 (either (leb lot x.shares) 63 _ left-63 (items_left lot xs))

fifth-left : (o : Option Standing) → Left (fifth o)
fifth-left None = left-64
fifth-left (Some v) = left-0

odd-left : (lot : ℕ) (v : Standing) (o : Odd) → member clear_marks o.mark ≡ true → Left (odd_code lot v o)
unfolding odd_code odd_bad
odd-left lot v o e =
    rw e
    (either (eqb (cond (leb (length o.bids) 4 && leb (length o.offers) 4) (items_bad lot (o.bids ++ o.offers)) 61) 0) (fifth (odd_on o v)) _ (fifth-left (odd_on o v))
    (either (leb (length o.bids) 4 && leb (length o.offers) 4) (items_bad lot (o.bids ++ o.offers)) 61 (items_left lot (o.bids ++ o.offers)) left-61))

price-left : (q : Quote) → Left (price_fault q 0)
unfolding price_fault
price-left q = either (side_bad q.bid) 47 _ left-47 (either (side_bad q.offer) 47 0 left-47 left-0)

-- ---- a message

module _ (e : Known) (letter lot : ℕ) (f : Form) (m : List ℕ) (y : Bytes m) (g : quote_good f m ≡ true) (p : quote_placed f m ≡ true) where
  abbrev ours : List ℕ
  ours = converted_as lot f m

  good : length_good f m ≡ true
  unfolding quote_good
  good = (and-true (length_good f m) _ g).0

  mark-good : member clear_marks (mark_in f m) ≡ true
  unfolding quote_good
  mark-good = (and-true (mark_good (mark_in f m)) _ (and-true (symbol_formed f m) _ (and-true (sender_good f m) _ (and-true (length_good f m) _ g).1).1).1).0

  held : condition_held f m ≡ true
  unfolding quote_placed
  held = (and-true (condition_held f m) _ (and-true (not (from_finra m)) _ (and-true (letter_good (participant_in m)) _ p).1).1).0

  no-finra : from_finra m ≡ false
  unfolding quote_placed
  no-finra = go (from_finra m) (and-true (not (from_finra m)) _ (and-true (letter_good (participant_in m)) _ p).1).0
    where
      go : (t : Bool) → not t ≡ true → t ≡ false
      go true h = sym h
      go false h = refl

  off-d : at ours 2 ≡ letter → is_d letter ≡ false
  off-d h = ap is_d (sym h ∙ reads-letter f m good y lot) ∙ no-finra

  -- what the message says, if it says it on this line
  abbrev by : Message → ℕ
  by x = code_by e letter ours x

  said : (k : Kind) → kind_of ours ≡ k → is_unknown k ≡ false → (at ours 2 ≡ letter → Left (by (read_by letter ours k))) → Left (code_of e letter ours)
  unfolding code_of message_of
  said k ek u h = rw (ek, u) (go (cut (at ours 2) letter))
    where
      go : Cut (at ours 2) letter → Left (by (cond (eqb (at ours 2) letter) (read_by letter ours k) (says.Refused 41)))
      go (equal t q) = rw t (h q)
      go (apart t q) = rw t left-41

  symbol : (x : Message) → Left (by x) → Left (by (cond (symbol_good (symbol_text ours)) x (says.Refused 45)))
  symbol x h = go (symbol_good (symbol_text ours))
    where
      go : (t : Bool) → Left (by (cond t x (says.Refused 45)))
      go true = h
      go false = left-45

  -- a round-lot quote
  module _ (r : f.round ≡ true) where
    kind-round : kind_of ours ≡ kind.RoundLot
    unfolding kind_of quote_kind
    kind-round = rw (reads-category f m good y lot, reads_type f m good y lot, r)

    length-round : eqb (length ours) (odd_length (round_lot_odd ours)) ≡ true
    length-round =
        rw (reads-round-odd f m good y lot r)
        (eq-eqb (length ours) (60 + 12 * (count_in f Bid m + count_in f Offer m)) (length-converted f m good lot ∙ ap (λ (t : Bool). cond t 60 36 + 12 * item_count f m) r))

    fault-is : quote_fault round_conditions (quote_at ours) 0 ≡ price_fault (quote_at ours) 0
    unfolding quote_fault
    fault-is =
        let c : (quote_at ours).condition ≡ condition_in f m = ap (λ (q : Quote). q.condition) (reads-quote f m good y lot r) in
        let h : member round_conditions (condition_in f m) ≡ true = rw r at held in
        rw (c, h)

    marked-round : member clear_marks (odd_of ours (round_lot_odd ours)).mark ≡ true
    unfolding odd_in
    marked-round = ap (λ (o : OddPart). member clear_marks o.mark) (reads-round-odd f m good y lot r) ∙ mark-good

    round-left : Left (by (says.RoundLot (quote_fault round_conditions (quote_at ours) 0) (quote_at ours) (round_lot_odd ours)))
    round-left =
        rw (fault-is)
        (either e.listed _ 45
        (either (eqb (price_fault (quote_at ours) 0) 0) _ _ (odd-left e.lot (e.levels letter) (odd_of ours (round_lot_odd ours)) marked-round) (price-left (quote_at ours)))
        left-45)

    read-round : at ours 2 ≡ letter → Left (by (read_by letter ours kind.RoundLot))
    unfolding read_round_lot
    read-round h =
        rw (length-round, reads-zero f m good y lot, reads-round-zero f m good y lot r, off-d h)
        (symbol _ round-left)

    code-round : Left (code_of e letter ours)
    code-round = said kind.RoundLot kind-round refl read-round

  -- an odd-lot quote
  module _ (r : f.round ≡ false) where
    kind-odd : kind_of ours ≡ kind.OddLot false
    unfolding kind_of quote_kind
    kind-odd = rw (reads-category f m good y lot, reads_type f m good y lot, r)

    length-odd : eqb (length ours) (odd_length (odd_lot_odd ours)) ≡ true
    length-odd =
        rw (reads-odd f m good y lot r)
        (eq-eqb (length ours) (36 + 12 * (count_in f Bid m + count_in f Offer m)) (length-converted f m good lot ∙ ap (λ (t : Bool). cond t 60 36 + 12 * item_count f m) r))

    marked-odd : member clear_marks (odd_of ours (odd_lot_odd ours)).mark ≡ true
    unfolding odd_in
    marked-odd = ap (λ (o : OddPart). member clear_marks o.mark) (reads-odd f m good y lot r) ∙ mark-good

    odd-lot-left : Left (by (says.OddLot (odd_lot_odd ours)))
    odd-lot-left = either e.listed _ 45 (odd-left e.lot (e.levels letter) (odd_of ours (odd_lot_odd ours)) marked-odd) left-45

    read-odd : at ours 2 ≡ letter → Left (by (read_by letter ours (kind.OddLot false)))
    unfolding read_odd_lot
    read-odd h =
        rw (length-odd, reads-zero f m good y lot, (reads-odd-zeros f m good y lot r).0, (reads-odd-zeros f m good y lot r).1, off-d h)
        (symbol _ odd-lot-left)

    code-odd : Left (code_of e letter ours)
    code-odd = said (kind.OddLot false) kind-odd refl read-odd

  -- never 40, 42, 43, 44, 46 or 60
  pub converted-code : member codes_left (code_of e letter (converted_as lot f m)) ≡ true
  converted-code = go f.round refl
    where
      go : (t : Bool) → f.round ≡ t → Left (code_of e letter ours)
      go true r = code-round r
      go false r = code-odd r
