-- Round and odd parts: what is written in a letter's slot and in its keys is read back, and every other reading of the page stays. For a page of `page_length`
-- bytes.
-- Assumes nothing.
use Prim.Native.Nat.{ℕ, zero, suc, ◌+◌, ◌*◌, ◌-◌, ◌≤◌, ◌<◌}
use mathlib.Core.Path.{◌≡◌, refl, sym, ap, ◌∙◌, fun_ext}
use mathlib.Core.Bool.{Bool, true, false, cond}
use mathlib.Core.Logic.{◌⊎◌, inl, inr}
use mathlib.Core.List.{List, [], ◌∷◌}
use native.Mathlib.Omega.{arith}
use lib.Dec.{ltb, eqb, lit<}
use lib.ListN.{length, replicate}
use borrow.Author.Tests.{ltb-true, ltb-false, eq-eqb}
use Rattle.field.specs.Field.{Bytes, part, splice}
use Rattle.field.specs.Low.{le, low}
use Rattle.field.proofs.Laws.{length_part, bytes-part, bytes-append, part-put, part-before, part-behind, part-other}
use Rattle.field.proofs.ZeroLaws.{bytes-zeros}
use Rattle.lists.specs.Lists.{upper}
use Rattle.lists.proofs.Tests.{Cut, equal, apart, cut, upper-low}
use Rattle.ranking.specs.declared.Side.{Side}
use Rattle.ranking.specs.declared.Side.TheVariants.{Bid, Offer}
use Rattle.quote.specs.declared.Level.{Level}
use Rattle.quote.specs.declared.Quote.{Quote}
use Rattle.quote.specs.Quote.{quote_over, quote_in, quote_bytes, level_bytes, LevelFits, QuoteFits, quote_length, level_length}
use Rattle.quote.proofs.QuoteLaws.{length-quote, quote-back, quote-fits, bytes-quote, bytes-level}
use Rattle.quote.proofs.OverLaws.{over-fits}
use Rattle.levels.specs.Levels.{Standing, no_levels, side_levels, Odd, touches, idle_odd, side_in, levels_in, cells_bytes, side_length, levels_length}
use Rattle.levels.proofs.LevelLaws.{SideGood, LevelsGood, OddGood, empty-good, none-good, odd-good-levels}
use Rattle.levels.proofs.SideLaws.{length-cells, side-back, levels-good}
use Rattle.levels.proofs.TouchLaws.{odd-untouched}
use Rattle.oddpart.proofs.AnswerLaws.{odd-idle, idle-touches}
use Rattle.keys.specs.Keys.{key_length, quote_key}
use Rattle.page.specs.Page.{agreed, agreed_quote, agreed_side, agreed_levels, first_key, quotes_in, levels_for, with_key, with_quote, with_side, makers_in, halted_in, refreshed}
use Rattle.page.proofs.KeyLaws.{quote-keys-low, quote-keys-high, first-keys-low, first-keys-high, quote-same, level-same}
use Rattle.slots.proofs.ReadLaws.{quote-here, side-here, side-at}
use Rattle.update.specs.Parts.{reading_of, put_round, round_on, after_odd, put_side, put_levels, put_odd, odd_on_page}
use Rattle.update.proofs.Model.{set_at, worked, round_reading, odd_reading}
use Rattle.update.proofs.EntryLaws.{quote-letter, level-letter, makers-same, Kept, kept-none, kept_then, kept-splice, refreshed-kept, reads-by, halted-same}
use Rattle.update.proofs.KeyLaws.{quote-key-small, first-key-small, Beside, before, behind, quote-rows, first_rows, quote-first, first-quote, key-kept, key-front, key_back, key-other}
use Rattle.field.specs.Ascii.{A}
use Rattle.entries.specs.Publication.{publication_length}
use Rattle.page.specs.Layout.{entries_at, slot_length, cells_at, cell_length, page_length, page_symbol, page_lot, page_primary, kept_entries, slot_at, cell_at, status_at, keys_at, key_row, quote_keys_at, first_keys_at, quote_key_at, first_key_at, in_levels}

-- ---- what every write of a letter's quote and levels leaves: all but that letter's quote and levels

pub record Leaves (l : ℕ) (p p' : List ℕ) : Type 0 where
  pub kept : Kept p p'
  pub makers : makers_in p' ≡ makers_in p
  pub halted : halted_in p' ≡ halted_in p
  pub entries : kept_entries p' ≡ kept_entries p
  pub quotes : (j : ℕ) → (l ≡ j → ⊥) → quotes_in p' j ≡ quotes_in p j
  pub levels : (j : ℕ) → (l ≡ j → ⊥) → levels_for p' j ≡ levels_for p j

leaves_none : (l : ℕ) (p : List ℕ) → length p ≡ page_length → Leaves l p p
leaves_none l p w = record { kept = kept-none p w; makers = refl; halted = refl; entries = refl; quotes = λ j d. refl; levels = λ j d. refl }

leaves-then : (l : ℕ) (p q r : List ℕ) → Leaves l p q → Leaves l q r → Leaves l p r
leaves-then l p q r x y =
    record {
      kept = kept_then p q r x.kept y.kept;
      makers = y.makers ∙ x.makers;
      halted = y.halted ∙ x.halted;
      entries = y.entries ∙ x.entries;
      quotes = λ j d. y.quotes j d ∙ x.quotes j d;
      levels = λ j d. y.levels j d ∙ x.levels j d;
    }

-- a function that differs at l alone
set-by : {A : Type 0} (l : ℕ) (a : A) (f g : ℕ → A) → g l ≡ a → ((j : ℕ) → (l ≡ j → ⊥) → g j ≡ f j) → g ≡ set_at l a f
set-by {A} l a f g here other = fun_ext (λ j. go j (cut l j))
  where
    go : (j : ℕ) → Cut l j → g j ≡ cond (eqb l j) a (f j)
    go j (equal t e) = rw t (ap g (sym e) ∙ here)
    go j (apart t e) = rw t (other j e)

-- what stands there set again: nothing is set
set_same : {A : Type 0} (l : ℕ) (f : ℕ → A) → set_at l (f l) f ≡ f
set_same {A} l f = fun_ext (λ j. go j (cut l j))
  where
    go : (j : ℕ) → Cut l j → cond (eqb l j) (f l) (f j) ≡ f j
    go j (equal t e) = rw t (ap f e)
    go j (apart t e) = rw t

-- ---- a write in a letter's slot

module _ (p : List ℕ) (w : length p ≡ page_length) (l : ℕ) (u : upper l ≡ true) (a : ℕ) (new : List ℕ) (lo : slot_at l ≤ a) (hi : a + length new ≤ slot_at l + slot_length) where
  above : A ≤ l
  above = (upper-low l u).0

  within : a + length new ≤ cells_at
  within = omega (arith, above, (upper-low l u).1)

  slot-behind : (at m : ℕ) → cells_at ≤ at → part (splice p a new) at m ≡ part p at m
  slot-behind at m h = part-behind p a new at m (omega (arith, within))

  -- another letter's slot
  slot-other : (j : ℕ) → upper j ≡ true → (l ≡ j → ⊥) → (at m : ℕ) → slot_at j ≤ at → at + m ≤ slot_at j + slot_length → part (splice p a new) at m ≡ part p at m
  slot-other j b d at m x y = go (ltb j l) refl
    where
      go : (t : Bool) → ltb j l ≡ t → part (splice p a new) at m ≡ part p at m
      go true e = part-before p a new at m (omega (arith, within)) (omega (arith, ltb-true j l e, (upper-low j b).0))
      go false e =
          let k : l < j = omega (arith, ltb-false j l e, d) in
          part-behind p a new at m (omega (arith, above))

  slot-quote : (j : ℕ) → part (splice p a new) (slot_at j) quote_length ≡ part p (slot_at j) quote_length → quotes_in (splice p a new) j ≡ quotes_in p j
  slot-quote j e = quote-same p (splice p a new) j (λ s. slot-behind (quote_key_at s j) key_length (omega (arith, quote-keys-low s))) e

  slot-level : (j : ℕ) → part (splice p a new) (slot_at j + quote_length) levels_length ≡ part p (slot_at j + quote_length) levels_length → levels_for (splice p a new) j ≡ levels_for p j
  slot-level j e = level-same p (splice p a new) j (λ s. slot-behind (first_key_at s j) key_length (omega (arith, first-keys-low s))) e

  slot-leaves : Bytes new → Leaves l p (splice p a new)
  slot-leaves b =
      record {
        kept = kept-splice p a new w (omega arith) (omega (arith, within)) b;
        makers = makers-same p (splice p a new) (λ k h. slot-behind (cell_at k) cell_length (omega arith));
        halted = halted-same p (splice p a new) (slot-behind status_at 1 (omega arith));
        entries = part-before p a new entries_at publication_length (omega (arith, within)) (omega arith);
        quotes = λ j d. quote-letter p (splice p a new) j (λ v. slot-quote j (slot-other j v d (slot_at j) quote_length (omega arith) (omega arith)));
        levels = λ j d. level-letter p (splice p a new) j (λ v. slot-level j (slot-other j v d (slot_at j + quote_length) levels_length (omega arith) (omega arith)));
      }

-- ---- a write of a letter's key, in the row at a

module _ (p : List ℕ) (w : length p ≡ page_length) (l : ℕ) (u : upper l ≡ true) (a : ℕ) (lo : keys_at ≤ a) (hi : a + key_row ≤ page_length) (k : ℕ) where
  abbrev q : List ℕ
  q = with_key (a + key_length * (l - A)) k p

  key-before : (i m : ℕ) → i + m ≤ keys_at → part q i m ≡ part p i m
  key-before = key-front p w l u a lo hi k

  key-quote : (j : ℕ) → ((t : Side) → Beside a (quote_keys_at t) l j) → quotes_in q j ≡ quotes_in p j
  key-quote j r =
      quote-letter p q j
      (λ v. quote-same p q j (λ t. key-other p w l u a lo hi k (quote_keys_at t) j v (r t)) (key-before (slot_at j) quote_length (omega (arith, (upper-low j v).0, (upper-low j v).1))))

  key-level : (j : ℕ) → ((t : Side) → Beside a (first_keys_at t) l j) → levels_for q j ≡ levels_for p j
  key-level j r =
      level-letter p q j
      (λ v. level-same p q j (λ t. key-other p w l u a lo hi k (first_keys_at t) j v (r t)) (key-before (slot_at j + quote_length) levels_length (omega (arith, (upper-low j v).0, (upper-low j v).1))))

  key-leaves : ((j : ℕ) → (l ≡ j → ⊥) → (t : Side) → Beside a (quote_keys_at t) l j) → ((j : ℕ) → (l ≡ j → ⊥) → (t : Side) → Beside a (first_keys_at t) l j) → Leaves l p q
  key-leaves f g =
      record {
        kept = key-kept p w l u a lo hi k;
        makers = makers-same p q (λ i h. key-before (cell_at i) cell_length (omega arith));
        halted = halted-same p q (key-before status_at 1 (omega arith));
        entries = key-before entries_at publication_length (omega arith);
        quotes = λ j d. key-quote j (f j d);
        levels = λ j d. key-level j (g j d);
      }

-- of its quote, of its levels
module _ (s : Side) where
  quote-low : keys_at ≤ quote_keys_at s
  quote-low = quote-keys-low s

  quote-high : quote_keys_at s + key_row ≤ page_length
  quote-high = omega (arith, quote-keys-high s)

  first-low : keys_at ≤ first_keys_at s
  first-low = omega (arith, first-keys-low s)

  first-high : first_keys_at s + key_row ≤ page_length
  first-high = omega (arith, first-keys-high s)

  module _ (p : List ℕ) (w : length p ≡ page_length) (l : ℕ) (u : upper l ≡ true) (k : ℕ) where
    quote-key-leaves : Leaves l p (with_key (quote_key_at s l) k p)
    quote-key-leaves = key-leaves p w l u (quote_keys_at s) quote-low quote-high k (λ j d t. quote-rows l j s t d) (λ j d t. quote-first l j s t)

    first-key-leaves : Leaves l p (with_key (first_key_at s l) k p)
    first-key-leaves = key-leaves p w l u (first_keys_at s) first-low first-high k (λ j d t. first-quote l j s t) (λ j d t. first_rows l j s t d)

-- ---- a letter's quote, written

-- a quote with its own keys is itself
own-quote : (q : Quote) → agreed_quote (quote_key Bid q) (quote_key Offer q) q ≡ q
unfolding agreed_quote agreed
own-quote q = rw (eq-eqb (quote_key Bid q) (quote_key Bid q) refl, eq-eqb (quote_key Offer q) (quote_key Offer q) refl)

module _ (p : List ℕ) (w : length p ≡ page_length) (l : ℕ) (u : upper l ≡ true) (q : Quote) where
  abbrev slotted : List ℕ
  slotted = splice p (slot_at l) (quote_bytes q)

  abbrev once : List ℕ
  once = with_key (quote_key_at Bid l) (quote_key Bid q) slotted

  round-low : slot_at l ≤ slot_at l
  round-low = omega arith

  round-high : slot_at l + length (quote_bytes q) ≤ slot_at l + slot_length
  round-high = omega (arith, length-quote q)

  in-slot : Leaves l p slotted
  in-slot = slot-leaves p w l u (slot_at l) (quote_bytes q) round-low round-high (bytes-quote q)

  in-once : Leaves l slotted once
  in-once = quote-key-leaves Bid slotted in-slot.kept.size l u (quote_key Bid q)

  once-size : length once ≡ page_length
  once-size = in-once.kept.size

  pub round-leaves : Leaves l p (put_round l q p)
  unfolding put_round with_quote
  round-leaves = leaves-then l p once _ (leaves-then l p slotted once in-slot in-once) (quote-key-leaves Offer once once-size l u (quote_key Offer q))

  pub put-round-levels : levels_for (put_round l q p) ≡ levels_for p
  unfolding put_round with_quote
  put-round-levels = set-by l (levels_for p l) (levels_for p) (levels_for (with_key (quote_key_at Offer l) (quote_key Offer q) once)) here round-leaves.levels ∙ set_same l (levels_for p)
    where
      here : levels_for (with_key (quote_key_at Offer l) (quote_key Offer q) once) l ≡ levels_for p l
      here =
          key-level once once-size l u (quote_keys_at Offer) (quote-low Offer) (quote-high Offer) (quote_key Offer q) l (λ t. quote-first l l Offer t)
          ∙ key-level slotted in-slot.kept.size l u (quote_keys_at Bid) (quote-low Bid) (quote-high Bid) (quote_key Bid q) l (λ t. quote-first l l Bid t)
          ∙ slot-level p w l u (slot_at l) (quote_bytes q) round-low round-high l (part-behind p (slot_at l) (quote_bytes q) (slot_at l + quote_length) levels_length (omega (arith, length-quote q)))

  put-round-quotes : QuoteFits q → quotes_in (put_round l q p) ≡ set_at l q (quotes_in p)
  unfolding put_round with_quote low
  put-round-quotes f = set-by l q (quotes_in p) (quotes_in twice) here round-leaves.quotes
    where
      twice : List ℕ
      twice = with_key (quote_key_at Offer l) (quote_key Offer q) once

      offered : low twice (quote_key_at Offer l) key_length ≡ quote_key Offer q
      offered = key_back once once-size l u (quote_keys_at Offer) (quote-low Offer) (quote-high Offer) (quote_key Offer q) (quote-key-small Offer q)

      bid : low twice (quote_key_at Bid l) key_length ≡ quote_key Bid q
      bid =
          ap le (key-other once once-size l u (quote_keys_at Offer) (quote-low Offer) (quote-high Offer) (quote_key Offer q) (quote_keys_at Bid) l u (behind (omega arith)))
          ∙ key_back slotted in-slot.kept.size l u (quote_keys_at Bid) (quote-low Bid) (quote-high Bid) (quote_key Bid q) (quote-key-small Bid q)

      stored : part twice (slot_at l) quote_length ≡ quote_bytes q
      stored =
          key-before once once-size l u (quote_keys_at Offer) (quote-low Offer) (quote-high Offer) (quote_key Offer q) (slot_at l) quote_length (omega (arith, (upper-low l u).1))
          ∙ key-before slotted in-slot.kept.size l u (quote_keys_at Bid) (quote-low Bid) (quote-high Bid) (quote_key Bid q) (slot_at l) quote_length (omega (arith, (upper-low l u).1))
          ∙ part-put p (slot_at l) (quote_bytes q) quote_length (length-quote q) (omega (arith, (upper-low l u).1))

      here : quotes_in twice l ≡ q
      here = quote-here twice l (upper-low l u).0 (upper-low l u).1 ∙ (λ i. agreed_quote (bid i) (offered i) (quote_in (stored i))) ∙ ap (agreed_quote (quote_key Bid q) (quote_key Offer q)) (quote-back q f) ∙ own-quote q

  pub put-round-kept : Kept p (put_round l q p)
  put-round-kept = round-leaves.kept

  -- the entries stand
  pub round-stands : kept_entries (put_round l q p) ≡ kept_entries p
  round-stands = round-leaves.entries

-- in a page of bytes a letter's quote fits
agreed-fits : (t : Bool) (v : Level) → LevelFits v → LevelFits (agreed t v)
unfolding agreed
agreed-fits true v f = f
agreed-fits false v f = record { price = lit< tt; size = lit< tt; time = lit< tt }

quotes-fit : (p : List ℕ) → length p ≡ page_length → Bytes p → (l : ℕ) → upper l ≡ true → QuoteFits (quotes_in p l)
unfolding agreed_quote
quotes-fit p w b l u =
    let f : QuoteFits (quote_in (part p (slot_at l) quote_length)) =
    quote-fits (part p (slot_at l) quote_length) (length_part p (slot_at l) quote_length (omega (arith, (upper-low l u).0, (upper-low l u).1))) (bytes-part p (slot_at l) quote_length b) in
    rw (quote-here p l (upper-low l u).0 (upper-low l u).1) (record { condition = f.condition; bid = agreed-fits _ _ f.bid; offer = agreed-fits _ _ f.offer })

module _ (p : List ℕ) (w : length p ≡ page_length) (l : ℕ) (u : upper l ≡ true) (q : Quote) where
  abbrev over : Quote
  over = quote_over (quotes_in p l) q

  pub round-kept : Kept p (round_on l q p)
  unfolding round_on
  round-kept = kept_then p _ _ (put-round-kept p w l u _) (refreshed-kept _ (put-round-kept p w l u _).size)

  -- a round part replaces its letter's quote; a resent side keeps its time
  pub round-reads : Bytes p → QuoteFits q → reading_of (round_on l q p) ≡ round_reading l q (reading_of p)
  unfolding round_on round_reading reading_of
  round-reads b f =
      reads-by p (put_round l over p) (halted_in p) (set_at l over (quotes_in p)) (makers_in p) (levels_for p) (put-round-kept p w l u over) (round-leaves p w l u over).halted
      (put-round-quotes p w l u over (over-fits (quotes_in p l) q (quotes-fit p w b l u) f)) (round-leaves p w l u over).makers (put-round-levels p w l u over)

-- ---- a side of a letter's levels, written

-- in a page of bytes every letter's levels are best first, at most four, and fit
agreed-good : (s : Side) (k : ℕ) (vs : List Level) → SideGood s vs → SideGood s (agreed_side s k vs)
unfolding agreed_side
agreed-good s k vs g = go (eqb k (first_key s vs))
  where
    go : (t : Bool) → SideGood s (cond t vs [])
    go true = g
    go false = empty-good s

pub levels-for-good : (p : List ℕ) → length p ≡ page_length → Bytes p → (l : ℕ) → LevelsGood (levels_for p l)
unfolding levels_for agreed_levels
levels-for-good p w b l = go (upper l) refl
  where
    stored : Standing
    stored = levels_in (part p (slot_at l + quote_length) levels_length)

    go : (t : Bool) → upper l ≡ t → LevelsGood (cond t (agreed_levels (low p (first_key_at Bid l) key_length) (low p (first_key_at Offer l) key_length) (levels_in (part p (slot_at l + quote_length) levels_length))) no_levels)
    go true u =
        let g : LevelsGood (levels_in (part p (slot_at l + quote_length) levels_length)) =
        levels-good (part p (slot_at l + quote_length) levels_length) (length_part p (slot_at l + quote_length) levels_length (omega (arith, (upper-low l u).0, (upper-low l u).1)))
        (bytes-part p (slot_at l + quote_length) levels_length b) in
        record { bids = agreed-good Bid _ _ g.bids; offers = agreed-good Offer _ _ g.offers }
    go false u = none-good

bytes-cells : (k : ℕ) (vs : List Level) → Bytes (cells_bytes k vs)
unfolding cells_bytes
bytes-cells zero vs i = lit< tt
bytes-cells (suc k) [] i = bytes-append (replicate level_length 0) (cells_bytes k []) (bytes-zeros level_length) (bytes-cells k []) i
bytes-cells (suc k) (v ∷ vs) i = bytes-append (level_bytes v) (cells_bytes k vs) (bytes-level v) (bytes-cells k vs) i

-- a side with its own key is itself
own-side : (s : Side) (vs : List Level) → agreed_side s (first_key s vs) vs ≡ vs
unfolding agreed_side
own-side s vs = rw (eq-eqb (first_key s vs) (first_key s vs) refl)

abbrev other_side : Side → Side
other_side Bid = Offer
other_side Offer = Bid

-- where a side's levels stand
abbrev side_at : Side → ℕ → ℕ
side_at s l = slot_at l + quote_length + in_levels s

pub side-inside : (s : Side) → in_levels s + side_length ≤ levels_length
side-inside Bid = omega arith
side-inside Offer = omega arith

sides_apart : (s : Side) → (in_levels (other_side s) + side_length ≤ in_levels s) ⊎ (in_levels s + side_length ≤ in_levels (other_side s))
sides_apart Bid = inr (omega arith)
sides_apart Offer = inl (omega arith)

side-rows : (s : Side) (l : ℕ) → Beside (first_keys_at s) (first_keys_at (other_side s)) l l
side-rows Bid l = before (omega arith)
side-rows Offer l = behind (omega arith)

side-read : (p : List ℕ) (l : ℕ) → upper l ≡ true → (s : Side) → side_levels s (levels_for p l) ≡ agreed_side s (low p (first_key_at s l) key_length) (side_in s (part p (side_at s l) side_length))
side-read p l u s = side-here p l (upper-low l u).0 (upper-low l u).1 s ∙ ap (agreed_side s (low p (first_key_at s l) key_length)) (side-at p l s)

-- a letter's levels with one side set
abbrev pub set_side : Side → List Level → Standing → Standing
set_side Bid vs v = record { bids = vs; offers = v.offers }
set_side Offer vs v = record { bids = v.bids; offers = vs }

module _ (s : Side) (p : List ℕ) (w : length p ≡ page_length) (l : ℕ) (u : upper l ≡ true) (vs : List Level) where
  abbrev put : List ℕ
  put = splice p (side_at s l) (cells_bytes 4 vs)

  four : length (cells_bytes 4 vs) ≡ side_length
  four = length-cells 4 vs

  side-low : slot_at l ≤ side_at s l
  side-low = omega arith

  side-high : side_at s l + length (cells_bytes 4 vs) ≤ slot_at l + slot_length
  side-high = omega (arith, four, side-inside s)

  in-put : Leaves l p put
  in-put = slot-leaves p w l u (side_at s l) (cells_bytes 4 vs) side-low side-high (bytes-cells 4 vs)

  put-size : length put ≡ page_length
  put-size = in-put.kept.size

  pub side-leaves : Leaves l p (with_side s l vs p)
  unfolding with_side
  side-leaves = leaves-then l p put _ in-put (first-key-leaves s put put-size l u (first_key s vs))

  side-quote : quotes_in (with_side s l vs p) l ≡ quotes_in p l
  unfolding with_side
  side-quote =
      key-quote put put-size l u (first_keys_at s) (first-low s) (first-high s) (first_key s vs) l (λ t. first-quote l l s t)
      ∙ slot-quote p w l u (side_at s l) (cells_bytes 4 vs) side-low side-high l (part-before p (side_at s l) (cells_bytes 4 vs) (slot_at l) quote_length (omega (arith, side-high, (upper-low l u).1)) (omega arith))

  pub side-quotes : quotes_in (with_side s l vs p) ≡ quotes_in p
  side-quotes = set-by l (quotes_in p l) (quotes_in p) (quotes_in (with_side s l vs p)) side-quote side-leaves.quotes ∙ set_same l (quotes_in p)

  side_before : (i m : ℕ) → i + m ≤ keys_at → part (with_key (first_key_at s l) (first_key s vs) put) i m ≡ part put i m
  side_before = key-before put put-size l u (first_keys_at s) (first-low s) (first-high s) (first_key s vs)

  -- the side written
  side-own : SideGood s vs → side_levels s (levels_for (with_side s l vs p) l) ≡ vs
  unfolding with_side
  side-own g =
      let k : low (with_key (first_key_at s l) (first_key s vs) put) (first_key_at s l) key_length ≡ first_key s vs =
      key_back put put-size l u (first_keys_at s) (first-low s) (first-high s) (first_key s vs) (first-key-small s vs) in
      let e : part (with_key (first_key_at s l) (first_key s vs) put) (side_at s l) side_length ≡ cells_bytes 4 vs =
      side_before (side_at s l) side_length (omega (arith, side-inside s, (upper-low l u).1)) ∙ part-put p (side_at s l) (cells_bytes 4 vs) side_length four (omega (arith, side-inside s, (upper-low l u).1)) in
      side-read (with_key (first_key_at s l) (first_key s vs) put) l u s
      ∙ (λ i. agreed_side s (k i) (side_in s (e i)))
      ∙ ap (agreed_side s (first_key s vs)) (side-back s vs g)
      ∙ own-side s vs

  -- the other side's key and cells keep their bytes
  other_key : part (with_side s l vs p) (first_key_at (other_side s) l) key_length ≡ part p (first_key_at (other_side s) l) key_length
  unfolding with_side
  other_key =
      key-other put put-size l u (first_keys_at s) (first-low s) (first-high s) (first_key s vs) (first_keys_at (other_side s)) l u (side-rows s l)
      ∙ slot-behind p w l u (side_at s l) (cells_bytes 4 vs) side-low side-high (first_key_at (other_side s) l) key_length (omega (arith, first-keys-low (other_side s)))

  other-cells : part (with_side s l vs p) (side_at (other_side s) l) side_length ≡ part p (side_at (other_side s) l) side_length
  unfolding with_side
  other-cells =
      side_before (side_at (other_side s) l) side_length (omega (arith, side-inside (other_side s), (upper-low l u).1))
      ∙ part-other p (side_at s l) (cells_bytes 4 vs) (side_at (other_side s) l) side_length (omega (arith, side-inside s, (upper-low l u).1)) (apart_by (sides_apart s))
    where
      apart_by : (in_levels (other_side s) + side_length ≤ in_levels s) ⊎ (in_levels s + side_length ≤ in_levels (other_side s))
          → (side_at (other_side s) l + side_length ≤ side_at s l) ⊎ (side_at s l + length (cells_bytes 4 vs) ≤ side_at (other_side s) l)
      apart_by (inl h) = inl (omega arith)
      apart_by (inr h) = inr (omega (arith, four))

  side-other : side_levels (other_side s) (levels_for (with_side s l vs p) l) ≡ side_levels (other_side s) (levels_for p l)
  unfolding low
  side-other =
      side-read (with_side s l vs p) l u (other_side s) ∙ (λ i. agreed_side (other_side s) (le (other_key i)) (side_in (other_side s) (other-cells i))) ∙ sym (side-read p l u (other_side s))

both-sides : (s : Side) (vs : List Level) (v x : Standing) → side_levels s x ≡ vs → side_levels (other_side s) x ≡ side_levels (other_side s) v → x ≡ set_side s vs v
both-sides Bid vs v x a b = λ i. record { bids = a i; offers = b i }
both-sides Offer vs v x a b = λ i. record { bids = b i; offers = a i }

pub side-levels : (s : Side) (p : List ℕ) → length p ≡ page_length → (l : ℕ) → upper l ≡ true → (vs : List Level) → SideGood s vs → levels_for (with_side s l vs p) l ≡ set_side s vs (levels_for p l)
side-levels s p w l u vs g = both-sides s vs (levels_for p l) (levels_for (with_side s l vs p) l) (side-own s p w l u vs g) (side-other s p w l u vs)

-- ---- a side that a part touches, written

module _ (s : Side) (p : List ℕ) (w : length p ≡ page_length) (l : ℕ) (u : upper l ≡ true) (o : Odd) (v : Standing) where
  put-side-leaves : Leaves l p (put_side s l o v p)
  unfolding put_side
  put-side-leaves = go (touches o s)
    where
      go : (t : Bool) → Leaves l p (cond t (with_side s l (side_levels s v) p) p)
      go true = side-leaves s p w l u (side_levels s v)
      go false = leaves_none l p w

  put-side-quotes : quotes_in (put_side s l o v p) ≡ quotes_in p
  unfolding put_side
  put-side-quotes = go (touches o s)
    where
      go : (t : Bool) → quotes_in (cond t (with_side s l (side_levels s v) p) p) ≡ quotes_in p
      go true = side-quotes s p w l u (side_levels s v)
      go false = refl

  -- an untouched side has its levels already
  put-side-levels : SideGood s (side_levels s v) → (touches o s ≡ false → side_levels s v ≡ side_levels s (levels_for p l)) → levels_for (put_side s l o v p) l ≡ set_side s (side_levels s v) (levels_for p l)
  unfolding put_side
  put-side-levels g k = go (touches o s) refl
    where
      go : (t : Bool) → touches o s ≡ t → levels_for (cond t (with_side s l (side_levels s v) p) p) l ≡ set_side s (side_levels s v) (levels_for p l)
      go true e = side-levels s p w l u (side_levels s v) g
      go false e = both-sides s (side_levels s v) (levels_for p l) (levels_for p l) (sym (k e)) refl

-- ---- an odd part

module _ (p : List ℕ) (w : length p ≡ page_length) (l : ℕ) (u : upper l ≡ true) (o : Odd) where
  abbrev after : Standing
  after = after_odd o (levels_for p l)

  abbrev bidden : List ℕ
  bidden = put_side Bid l o after p

  in-bidden : Leaves l p bidden
  in-bidden = put-side-leaves Bid p w l u o after

  bidden-size : length bidden ≡ page_length
  bidden-size = in-bidden.kept.size

  pub levels-leaves : Leaves l p (put_levels l o p)
  unfolding put_levels
  levels-leaves = leaves-then l p bidden _ in-bidden (put-side-leaves Offer bidden bidden-size l u o after)

  put-levels-quotes : quotes_in (put_levels l o p) ≡ quotes_in p
  unfolding put_levels
  put-levels-quotes = put-side-quotes Offer bidden bidden-size l u o after ∙ put-side-quotes Bid p w l u o after

  put-levels-levels : LevelsGood after → levels_for (put_levels l o p) ≡ set_at l after (levels_for p)
  unfolding put_levels
  put-levels-levels g =
      let b : levels_for bidden l ≡ set_side Bid after.bids (levels_for p l) = put-side-levels Bid p w l u o after g.bids (odd-untouched o (levels_for p l) Bid) in
      set-by l after (levels_for p) (levels_for (put_side Offer l o after bidden))
      (put-side-levels Offer bidden bidden-size l u o after g.offers (λ e. odd-untouched o (levels_for p l) Offer e ∙ sym (ap (λ (v : Standing). v.offers) b)) ∙ ap (set_side Offer after.offers) b)
      levels-leaves.levels

  pub put-odd-is : put_odd l o p ≡ put_levels l o p
  unfolding put_odd put_levels put_side
  put-odd-is = go (idle_odd o) refl
    where
      go : (t : Bool) → idle_odd o ≡ t → cond t p (put_levels l o p) ≡ put_levels l o p
      go true e = rw (idle-touches o Bid e, idle-touches o Offer e)
      go false e = refl

  -- a side that the part does not touch keeps the bytes of its cells and of its key
  pub untouched-kept : (s : Side) → touches o s ≡ false
      → (part (put_odd l o p) (slot_at l + quote_length + in_levels s) side_length ≡ part p (slot_at l + quote_length + in_levels s) side_length)
      × (part (put_odd l o p) (first_key_at s l) key_length ≡ part p (first_key_at s l) key_length)
  unfolding put_levels put_side
  untouched-kept Bid e = rw (put-odd-is, e) (go (touches o Offer))
    where
      go : (t : Bool) → (part (cond t (with_side Offer l after.offers p) p) (side_at Bid l) side_length ≡ part p (side_at Bid l) side_length) × (part (cond t (with_side Offer l after.offers p) p) (first_key_at Bid l) key_length ≡ part p (first_key_at Bid l) key_length)
      go true = (other-cells Offer p w l u after.offers, other_key Offer p w l u after.offers)
      go false = (refl, refl)
  untouched-kept Offer e = rw (put-odd-is, e) (go (touches o Bid))
    where
      go : (t : Bool) → (part (cond t (with_side Bid l after.bids p) p) (side_at Offer l) side_length ≡ part p (side_at Offer l) side_length) × (part (cond t (with_side Bid l after.bids p) p) (first_key_at Offer l) key_length ≡ part p (first_key_at Offer l) key_length)
      go true = (other-cells Bid p w l u after.bids, other_key Bid p w l u after.bids)
      go false = (refl, refl)

  put-odd-kept : Kept p (put_odd l o p)
  unfolding put_odd
  put-odd-kept = go (idle_odd o)
    where
      go : (t : Bool) → Kept p (cond t p (put_levels l o p))
      go true = kept-none p w
      go false = levels-leaves.kept

  -- the entries stand
  pub odd-stands : kept_entries (put_odd l o p) ≡ kept_entries p
  unfolding put_odd
  odd-stands = go (idle_odd o)
    where
      go : (t : Bool) → kept_entries (cond t p (put_levels l o p)) ≡ kept_entries p
      go true = refl
      go false = levels-leaves.entries

  pub odd-kept : Kept p (odd_on_page l o p)
  unfolding odd_on_page
  odd-kept = kept_then p (put_odd l o p) (refreshed (put_odd l o p)) put-odd-kept (refreshed-kept (put_odd l o p) put-odd-kept.size)

  -- an odd part changes its letter's levels
  pub odd-reads : OddGood o → LevelsGood (levels_for p l) → reading_of (odd_on_page l o p) ≡ odd_reading l o (reading_of p)
  unfolding odd_on_page put_odd odd_reading reading_of
  odd-reads f g = go (idle_odd o) refl
    where
      then : (p' : List ℕ) → Kept p p' → halted_in p' ≡ halted_in p → quotes_in p' ≡ quotes_in p → makers_in p' ≡ makers_in p → levels_for p' ≡ set_at l after (levels_for p)
          → reading_of (refreshed p') ≡ worked (page_symbol p) (page_lot p) (page_primary p) (halted_in p) (quotes_in p) (makers_in p) (set_at l after (levels_for p))
      then p' = reads-by p p' (halted_in p) (quotes_in p) (makers_in p) (set_at l after (levels_for p))

      go : (t : Bool) → idle_odd o ≡ t → reading_of (refreshed (cond t p (put_levels l o p))) ≡ worked (page_symbol p) (page_lot p) (page_primary p) (halted_in p) (quotes_in p) (makers_in p) (set_at l after (levels_for p))
      go true e = then p (kept-none p w) refl refl refl (sym (rw (odd-idle 0 (levels_for p l) o e).1 (set_same l (levels_for p))))
      go false e = then (put_levels l o p) levels-leaves.kept levels-leaves.halted put-levels-quotes levels-leaves.makers (put-levels-levels (odd-good-levels o (levels_for p l) f g))
