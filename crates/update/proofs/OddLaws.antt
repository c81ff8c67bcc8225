-- What the functions that write an odd part owe, over plain values: refused by a check or by an item, or written on the sides that it touches.
-- Assumes nothing.
use Prim.Native.Nat.{ℕ, ◌+◌, ◌≤◌}
use mathlib.Core.Path.{◌≡◌, refl, sym, ap, ◌∙◌}
use mathlib.Core.Bool.{Bool, true, false, cond}
use mathlib.Core.List.{List, []}
use Rattle.std.specs.Prelude.{Option, None, Some, Result, Ok, Err}
use native.Mathlib.Omega.{arith}
use borrow.Author.Tests.{ne_eqb}
use lib.Dec.{eqb}
use lib.ListN.{length}
use Rattle.field.specs.Field.{part}
use Rattle.lists.specs.Lists.{upper, or_else}
use Rattle.lists.proofs.Tests.{upper-low}
use Rattle.ranking.specs.declared.Side.{Side}
use Rattle.ranking.specs.declared.Side.TheVariants.{Bid, Offer}
use Rattle.quote.specs.declared.Level.{Level}
use Rattle.quote.specs.Quote.{quote_length}
use Rattle.keys.specs.Keys.{key_length}
use Rattle.field.specs.Low.{low}
use Rattle.levels.specs.declared.Levels.{Levels}
use Rattle.levels.specs.declared.Rejected.{Rejected}
use Rattle.numbers.specs.Numbers.{code_of}
use Rattle.levels.specs.Levels.{Standing, side_levels, Odd, side_items, touches, odd_bad, fifth, odd_code, items_from, odd_in, side_in, side_length}
use Rattle.levels.specs.code.Cells.{cells_of}
use Rattle.levels.proofs.LevelLaws.{Ranked}
use Rattle.levels.proofs.SideLaws.{side-falls, side-short}
use Rattle.levels.proofs.TouchLaws.{side_run, both_run, odd-runs, still}
use Rattle.oddpart.specs.code.Part.{touched_by}
use Rattle.oddpart.proofs.ItemsLaws.{Gives, part-cells}
use Rattle.oddpart.proofs.OddLaws.{odd-priced}
use Rattle.oddpart.proofs.PartLaws.{touches-bids, touches-offers}
use Rattle.page.specs.Layout.{page_length, page_lot, slot_at, first_key_at, in_levels}
use Rattle.page.specs.Page.{agreed_side, first_key, levels_for}
use Rattle.slots.specs.code.Slots.{with_cells}
use Rattle.slots.proofs.ReadLaws.{side-here, side-at}
use Rattle.update.specs.Parts.{put_side, put_levels}
use Rattle.update.specs.code.Update.{odd_code_on, odd_taken, Put, side_part, one_side, both_sides}
use Rattle.update.proofs.KeyLaws.{cells-side}
use Rattle.update.proofs.SlotLaws.{put-odd-is}

-- ---- one side, and both

module _ (s : Side) (l : ℕ) (p : List ℕ) (k c : Result Levels Rejected) (e : c ≡ k) where
  pub one-rejected : (x : Rejected) → c ≡ Err x → ◌≡◌ {A = Put} (record { code = code_of x.by; page = p }) (one_side s l k p)
  one-rejected x f = rw (← e, f)

  pub one_written : (v : Levels) (p' : List ℕ) → c ≡ Ok v → p' ≡ with_cells s l v.cells p → ◌≡◌ {A = Put} (record { code = 0; page = p' }) (one_side s l k p)
  one_written v p' f g = rw (g, ← e, f)

module _ (l : ℕ) (p : List ℕ) (j k b : Result Levels Rejected) (e : b ≡ j) where
  pub bids-rejected : (x : Rejected) → b ≡ Err x → ◌≡◌ {A = Put} (record { code = code_of x.by; page = p }) (both_sides l j k p)
  bids-rejected x f = rw (← e, f)

  module _ (v : Levels) (q : b ≡ Ok v) (o : Result Levels Rejected) (d : o ≡ k) where
    pub offers-rejected : (x : Rejected) → o ≡ Err x → ◌≡◌ {A = Put} (record { code = code_of x.by; page = p }) (both_sides l j k p)
    offers-rejected x f = rw (← e, ← d, q, f)

    pub both-written : (w : Levels) (y z : List ℕ) → o ≡ Ok w → y ≡ with_cells Bid l v.cells p → z ≡ with_cells Offer l w.cells y → ◌≡◌ {A = Put} (record { code = 0; page = z }) (both_sides l j k p)
    both-written w y z f g h = rw (h, g, ← e, ← d, q, f)

-- ---- what a page's levels are: at most four, best first

agreed-short : (s : Side) (k : ℕ) (vs : List Level) → length vs ≤ 4 → length (agreed_side s k vs) ≤ 4
unfolding agreed_side
agreed-short s k vs h = go (eqb k (first_key s vs))
  where
    go : (t : Bool) → length (cond t vs []) ≤ 4
    go true = h
    go false = omega arith

agreed-falls : (s : Side) (k : ℕ) (vs : List Level) → Ranked s vs → Ranked s (agreed_side s k vs)
unfolding agreed_side
agreed-falls s k vs h = go (eqb k (first_key s vs))
  where
    go : (t : Bool) → Ranked s (cond t vs [])
    go true = h
    go false = tt

module _ (p : List ℕ) (l : ℕ) (u : upper l ≡ true) (s : Side) where
  stands : side_levels s (levels_for p l) ≡ agreed_side s (low p (first_key_at s l) key_length) (side_in s (part p (slot_at l + quote_length + in_levels s) side_length))
  stands = side-here p l (upper-low l u).0 (upper-low l u).1 s ∙ ap (agreed_side s (low p (first_key_at s l) key_length)) (side-at p l s)

  levels-short : length (side_levels s (levels_for p l)) ≤ 4
  levels-short = rw stands (agreed-short s _ (side_in s (part p (slot_at l + quote_length + in_levels s) side_length)) (side-short s (part p (slot_at l + quote_length + in_levels s) side_length)))

  levels-fall : Ranked s (side_levels s (levels_for p l))
  levels-fall = rw stands (agreed-falls s _ (side_in s (part p (slot_at l + quote_length + in_levels s) side_length)) (side-falls s (part p (slot_at l + quote_length + in_levels s) side_length)))

-- ---- the whole part: its code and the page after it

-- by what both sides' items give
abbrev put_by : ℕ → Odd → List ℕ → Option (List Level) → Option (List Level) → Put
put_by l o p None y = record { code = 64; page = p }
put_by l o p (Some b) None = record { code = 64; page = p }
put_by l o p (Some b) (Some a) = let v : Standing = record { bids = b; offers = a } in record { code = 0; page = put_side Offer l o v (put_side Bid l o v p) }

abbrev Taken : ℕ → Odd → List ℕ → Put → Type 0
Taken l o p r = (r.code ≡ odd_code_on l o p) × (r.page ≡ odd_taken l o p)

module _ (p : List ℕ) (w : length p ≡ page_length) (l : ℕ) (u : upper l ≡ true) (mark bids offers t : ℕ) (s : List ℕ) (lot : ℕ) (h : lot ≡ page_lot p) (j : ℕ) (a : j ≡ odd_bad lot (odd_in mark bids offers 0 s)) where
  abbrev o : Odd
  o = odd_in mark bids offers t s

  abbrev v : Standing
  v = levels_for p l

  -- the checks do not read the time
  checked : j ≡ odd_bad (page_lot p) o
  unfolding odd_bad odd_in
  checked = a ∙ ap (λ (n : ℕ). odd_bad n (odd_in mark bids offers 0 s)) h

  -- a part that a check rejects writes nothing
  pub check-refused : (j ≡ 0 → ⊥) → Taken l o p (record { code = j; page = p })
  unfolding odd_code
  check-refused n =
      let z : eqb (odd_bad (page_lot p) o) 0 ≡ false = ne_eqb (odd_bad (page_lot p) o) 0 (λ q. n (checked ∙ q)) in
      (checked ∙ rw z, rw (z, z))

  module _ (g : j ≡ 0) where
    bad : odd_bad (page_lot p) o ≡ 0
    bad = sym checked ∙ g

    taken : (x y : Option (List Level)) → side_run Bid o v ≡ x → side_run Offer o v ≡ y → Taken l o p (put_by l o p x y)
    unfolding odd_code put_levels
    taken x y e f = rw (put-odd-is p w l u o, bad, odd-runs o v, e, f) (go x y)
      where
        go : (x y : Option (List Level)) → ((put_by l o p x y).code ≡ fifth (both_run x y)) × ((put_by l o p x y).page ≡ cond (eqb (fifth (both_run x y)) 0) (put_side Offer l o (or_else (both_run x y) v) (put_side Bid l o (or_else (both_run x y) v) p)) p)
        go None y = (refl, refl)
        go (Some b) None = (refl, refl)
        go (Some b) (Some c) = (refl, refl)

    gives : (c : Side) → Gives (side_part c mark t l (side_items c o) p) (side_run c o v)
    unfolding odd_in
    gives Bid = part-cells Bid t mark o.bids v.bids (odd-priced (page_lot p) o bad).0 (levels-short p l u Bid) (levels-fall p l u Bid)
    gives Offer = part-cells Offer t mark o.offers v.offers (odd-priced (page_lot p) o bad).1 (levels-short p l u Offer) (levels-fall p l u Offer)

    module _ (b c : Bool) (eb : b ≡ touched_by mark Bid bids) (ec : c ≡ touched_by mark Offer offers) where
      bid-touched : touches o Bid ≡ b
      bid-touched = sym (eb ∙ touches-bids mark bids offers t s)

      offer-touched : touches o Offer ≡ c
      offer-touched = sym (ec ∙ touches-offers mark bids offers t s)

      -- a side's cells written are its levels written
      bid-put : (m : Standing) → b ≡ true → with_cells Bid l (cells_of m.bids) p ≡ put_side Bid l o m p
      unfolding put_side
      bid-put m e = rw (bid-touched ∙ e) (cells-side Bid l m.bids p)

      offer-put : (m : Standing) (q : List ℕ) → c ≡ true → with_cells Offer l (cells_of m.offers) q ≡ put_side Offer l o m q
      unfolding put_side
      offer-put m q e = rw (offer-touched ∙ e) (cells-side Offer l m.offers q)

      bid-left : (m : Standing) → b ≡ false → p ≡ put_side Bid l o m p
      unfolding put_side
      bid-left m e = rw (bid-touched ∙ e)

      offer-left : (m : Standing) (q : List ℕ) → c ≡ false → q ≡ put_side Offer l o m q
      unfolding put_side
      offer-left m q e = rw (offer-touched ∙ e)

      by : (x y : Option (List Level)) → side_run Bid o v ≡ x → side_run Offer o v ≡ y → (r : Put) → r ≡ put_by l o p x y → Taken l o p r
      by x y e f r d = let k = taken x y e f in (ap (λ (z : Put). z.code) d ∙ k.0, ap (λ (z : Put). z.page) d ∙ k.1)

      pub none-touched : b ≡ false → c ≡ false → Taken l o p (record { code = 0; page = p })
      none-touched e f =
          by (Some v.bids) (Some v.offers) (still Bid o v (bid-touched ∙ e)) (still Offer o v (offer-touched ∙ f)) (record { code = 0; page = p })
          (λ i. record { code = 0; page = (bid-left v e ∙ offer-left v (put_side Bid l o v p) f) i })

      module _ (code : ℕ) (p' : List ℕ) where
        abbrev r : Put
        r = record { code = code; page = p' }

        pub bids-touched : b ≡ true → c ≡ false → r ≡ one_side Bid l (side_part Bid mark t l (items_from s 0 bids) p) p → Taken l o p r
        unfolding odd_in
        bids-touched e f d = go (side_run Bid o v) refl (gives Bid)
          where
            go : (x : Option (List Level)) → side_run Bid o v ≡ x → Gives (side_part Bid mark t l (items_from s 0 bids) p) x → Taken l o p r
            go None k m = by None (Some v.offers) k (still Offer o v (offer-touched ∙ f)) r (d ∙ rw m.1)
            go (Some ls) k m =
                let n : Standing = record { bids = ls; offers = v.offers } in
                by (Some ls) (Some v.offers) k (still Offer o v (offer-touched ∙ f)) r (d ∙ rw m (λ i. record { code = 0; page = (bid-put n e ∙ offer-left n (put_side Bid l o n p) f) i }))

        pub offers-touched : b ≡ false → c ≡ true → r ≡ one_side Offer l (side_part Offer mark t l (items_from s bids offers) p) p → Taken l o p r
        unfolding odd_in
        offers-touched e f d = go (side_run Offer o v) refl (gives Offer)
          where
            go : (y : Option (List Level)) → side_run Offer o v ≡ y → Gives (side_part Offer mark t l (items_from s bids offers) p) y → Taken l o p r
            go None k m = by (Some v.bids) None (still Bid o v (bid-touched ∙ e)) k r (d ∙ rw m.1)
            go (Some ls) k m =
                let n : Standing = record { bids = v.bids; offers = ls } in
                by (Some v.bids) (Some ls) (still Bid o v (bid-touched ∙ e)) k r (d ∙ rw m (λ i. record { code = 0; page = (ap (with_cells Offer l (cells_of ls)) (bid-left n e) ∙ offer-put n (put_side Bid l o n p) f) i }))

        pub both-touched : b ≡ true → c ≡ true → r ≡ both_sides l (side_part Bid mark t l (items_from s 0 bids) p) (side_part Offer mark t l (items_from s bids offers) p) p → Taken l o p r
        unfolding odd_in
        both-touched e f d = go (side_run Bid o v) refl (gives Bid) (side_run Offer o v) refl (gives Offer)
          where
            go : (x : Option (List Level)) → side_run Bid o v ≡ x → Gives (side_part Bid mark t l (items_from s 0 bids) p) x
                → (y : Option (List Level)) → side_run Offer o v ≡ y → Gives (side_part Offer mark t l (items_from s bids offers) p) y → Taken l o p r
            go None k m y k' m' = by None y k k' r (d ∙ rw m.1)
            go (Some ls) k m None k' m' = by (Some ls) None k k' r (d ∙ rw (m, m'.1))
            go (Some ls) k m (Some ns) k' m' =
                let n : Standing = record { bids = ls; offers = ns } in
                by (Some ls) (Some ns) k k' r (d ∙ rw (m, m') (λ i. record { code = 0; page = (ap (with_cells Offer l (cells_of ns)) (bid-put n e) ∙ offer-put n (put_side Bid l o n p) f) i }))
