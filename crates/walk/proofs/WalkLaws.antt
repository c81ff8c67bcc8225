-- The walk gives the six entries of the page cut where it stops: makers and letters one after another, one level for each letter and side.
-- Assumes nothing.
use Prim.Native.Nat.{ℕ, ◌+◌, ◌-◌, ◌^◌, ◌≤◌, ◌<◌}
use mathlib.Core.Path.{◌≡◌, refl, sym, ap, ◌∙◌}
use mathlib.Core.Bool.{Bool, true, false, ◌&&◌, cond}
use mathlib.Core.List.{List, [], ◌∷◌, map}
use Rattle.std.specs.Prelude.{Option, None, Some}
use native.Mathlib.Omega.{arith}
use native.Mathlib.Nat.{lt_of_lt_of_le, pow-le-pow_right, min-le_left}
use lib.Dec.{eqb, ltb, lit≤}
use lib.ListN.{length, take, drop, length-take}
use borrow.Author.Tests.{ltb-true, eqb-true}
use Rattle.lists.specs.Lists.{member, is_some, map_option, bind_option, cons_option, collect, gather, range, upper}
use Rattle.lists.proofs.Tests.{clash}
use Rattle.field.specs.Field.{Bytes, part, field}
use Rattle.field.specs.Low.{low}
use Rattle.field.proofs.Laws.{bytes-part}
use Rattle.field.proofs.LowLaws.{le-lt}
use Rattle.ranking.specs.declared.Side.{Side}
use Rattle.ranking.specs.declared.Side.TheVariants.{Bid, Offer}
use Rattle.ranking.specs.declared.Candidate.{Candidate}
use Rattle.ranking.specs.declared.Sides.{Sides}
use Rattle.ranking.specs.declared.Lead.{Lead}
use Rattle.ranking.specs.Ranking.{better, best}
use Rattle.ranking.specs.Held.{no_candidate, or_none, of_side, no_sides, lead_of, no_lead}
use Rattle.ranking.specs.code.Choice.{live, best_from, sides_from, lead_from, beyond_of}
use Rattle.ranking.proofs.OrderLaws.{keep}
use Rattle.ranking.proofs.ChoiceLaws.{best-stops, lead-stops}
use Rattle.ranking.proofs.LeadLaws.{side-lead}
use Rattle.ranking.proofs.Bridge.{OrCounting, live-counts, live_back, side-best, best-counts}
use Rattle.quote.specs.declared.Quote.{Quote}
use Rattle.quote.specs.declared.Level.{Level}
use Rattle.keys.specs.Keys.{key_length, quote_key}
use Rattle.quote.specs.Quote.{no_level, no_quote, side_of, admits, counts, level_candidate, candidate_of, level_in, quote_in, quote_length, level_length}
use Rattle.levels.specs.Levels.{side_levels, no_levels, side_in, levels_in, side_length, levels_length}
use Rattle.quote.proofs.QuoteLaws.{level-at}
use Rattle.walk.specs.declared.BestEntries.{BestEntries}
use Rattle.entries.specs.Entries.{Maker, Entries, letters, as_d, maker_candidate, finra_best, letter_candidate, national_best, national_reason, odd_candidate, ranks, letter_levels, odd_best, entries_by, entries_of}
use Rattle.page.specs.Page.{agreed, agreed_quote, agreed_side, agreed_levels, first_key, quotes_in, levels_for, maker_in, makers_in, same, occupied, page_entries}
use Rattle.page.specs.Cut.{cut}
use Rattle.walk.specs.Bests.{bests_of}
use Rattle.walk.specs.code.Walk.{asked, asked_of, maker_at, finra_sides, standing_at, first_by}
use Rattle.slots.specs.code.Slots.{first_of, first_in}
use Rattle.slots.proofs.ReadLaws.{side-at, first_cell}
use Rattle.walk.proofs.ReadLaws.{quote-side, maker-at, front, cell-live}
use Rattle.walk.proofs.StepLaws.{leads-standing}
use Rattle.walk.proofs.OddLaws.{collect-bind, page-falls, far, odd-once, beyond-is}
use Rattle.entries.proofs.NoneLaws.{no-candidate}
use Rattle.page.proofs.CutLaws.{cut-bytes, cut-quote, cut-levels, cut-no-quote, cut-no-levels, cut-makers, cut-no-makers}
use Rattle.page.specs.Layout.{cell_length, page_length, maker_count, slot_at, cell_at, quote_key_at, first_key_at, in_quote, in_levels}
use Rattle.field.specs.Ascii.{A, D, S, Z}
use Rattle.text.specs.Form.{name_length}

-- ---- whatever stands in a page of bytes fits

low_below : (p : List ℕ) (at w : ℕ) → Bytes p → low p at w < 256 ^ w
unfolding low part
low_below p at w b = lt_of_lt_of_le (le-lt (part p at w) (bytes-part p at w b)) (pow-le-pow_right (omega arith) short)
  where
    short : length (take w (drop at p)) ≤ w
    short = rw (length-take w (drop at p)) (min-le_left w (length (drop at p)))

price-below : (p : List ℕ) (at : ℕ) → Bytes p → (level_in (part p at level_length)).price < 2 ^ 64
price-below p at b = rw (level-at p at) (low_below p at 8 b)

-- ---- each candidate is none or counts

pub record SixCount (e : Entries) : Type 0 where
  pub national : (s : Side) → OrCounting (e.national s)
  pub finra : (s : Side) → OrCounting (e.finra s)
  pub odd : (s : Side) → OrCounting (e.odd s)

pub candidate-counts : (s : Side) (n : ℕ) (q : Quote) → (side_of s q).price < 2 ^ 64 → OrCounting (candidate_of s n q)
unfolding candidate_of counts
candidate-counts s n q h = go (ltb 0 (side_of s q).price) refl (ltb 0 (side_of s q).size) refl (admits s q.condition)
  where
    go : (u : Bool) → ltb 0 (side_of s q).price ≡ u → (v : Bool) → ltb 0 (side_of s q).size ≡ v → (t : Bool)
        → OrCounting (cond (u && v && t) (Some (level_candidate n q.condition (side_of s q))) None)
    go false e v f t = tt
    go true e false f t = tt
    go true e true f false = tt
    go true e true f true =
        let x : 0 < (side_of s q).price = ltb-true 0 (side_of s q).price e in
        let y : 0 < (side_of s q).size = ltb-true 0 (side_of s q).size f in
        record { price = λ z. omega arith; size = λ z. omega arith; fits = h }

-- a letter's candidate has its letter as its name
pub letter-named : (s : Side) (quotes : ℕ → Quote) (o : Option Candidate) (j : ℕ) (c : Candidate) → letter_candidate s quotes o j ≡ Some c → c.name ≡ j
unfolding letter_candidate candidate_of as_d
letter-named s quotes o j c h = go (eqb j D) refl (eqb j S) (counts s (quotes j)) o h
  where
    named : (x : Candidate) → Some x ≡ Some c → x.name ≡ j → c.name ≡ j
    named x e n = sym (ap (λ (y : Option Candidate). (or_none y).name) e) ∙ n

    go : (t : Bool) → eqb j D ≡ t → (u v : Bool) (o : Option Candidate)
        → cond t (map_option as_d o) (cond u None (cond v (Some (level_candidate j (quotes j).condition (side_of s (quotes j)))) None)) ≡ Some c → c.name ≡ j
    go true e u v None h = clash (sym (ap is_some h))
    go true e u v (Some x) h = named (as_d x) h (sym (eqb-true j D e))
    go false e true v o h = clash (sym (ap is_some h))
    go false e false true o h = named (level_candidate j (quotes j).condition (side_of s (quotes j))) h refl
    go false e false false o h = clash (sym (ap is_some h))

module _ (p : List ℕ) (b : Bytes p) where
  quote-counts : (s : Side) (n at : ℕ) → OrCounting (candidate_of s n (quote_in (part p at quote_length)))
  quote-counts s n at = candidate-counts s n (quote_in (part p at quote_length)) (rw (← quote-side p at s) (price-below p (at + in_quote s) b))

  pub maker-counts : (s : Side) (k : ℕ) → OrCounting (maker_at p s k)
  unfolding maker_at maker_candidate
  maker-counts s k = rw (maker-at p (cell_at k)) (go (member (76 ∷ 82 ∷ []) (field p (cell_at k + name_length) 1)))
    where
      go : (t : Bool) → OrCounting (bind_option (cond t (Some (record { name = field p (cell_at k) 4; quote = quote_in (part p (cell_at k + name_length) quote_length) })) None) (maker_candidate s))
      go true = quote-counts s (field p (cell_at k) 4) (cell_at k + name_length)
      go false = tt

  as-d-counts : (o : Option Candidate) → OrCounting o → OrCounting (map_option as_d o)
  unfolding as_d
  as-d-counts None h = tt
  as-d-counts (Some c) h = record { price = h.price; size = h.size; fits = h.fits }

  -- a side of a quote whose key is its own, or not
  agreed-below : (s : Side) (kb ko at : ℕ) → (side_of s (agreed_quote kb ko (quote_in (part p at quote_length)))).price < 2 ^ 64
  unfolding agreed_quote agreed
  agreed-below s kb ko at = go s
    where
      one : (t : Bool) (v : Level) → v.price < 2 ^ 64 → (cond t v no_level).price < 2 ^ 64
      one true v h = h
      one false v h = omega arith

      side : (s : Side) → (side_of s (quote_in (part p at quote_length))).price < 2 ^ 64
      side s = rw (← quote-side p at s) (price-below p (at + in_quote s) b)

      go : (s : Side) → (side_of s (record { condition = (quote_in (part p at quote_length)).condition; bid = cond (eqb kb (quote_key Bid (quote_in (part p at quote_length)))) (quote_in (part p at quote_length)).bid no_level; offer = cond (eqb ko (quote_key Offer (quote_in (part p at quote_length)))) (quote_in (part p at quote_length)).offer no_level })).price < 2 ^ 64
      go Bid = one (eqb kb (quote_key Bid (quote_in (part p at quote_length)))) (quote_in (part p at quote_length)).bid (side Bid)
      go Offer = one (eqb ko (quote_key Offer (quote_in (part p at quote_length)))) (quote_in (part p at quote_length)).offer (side Offer)

  quotes-below : (s : Side) (l : ℕ) → (side_of s (quotes_in p l)).price < 2 ^ 64
  unfolding quotes_in
  quotes-below s l = go (upper l)
    where
      none_below : (s : Side) → (side_of s no_quote).price < 2 ^ 64
      none_below Bid = omega arith
      none_below Offer = omega arith

      go : (u : Bool) → (side_of s (cond u (agreed_quote (low p (quote_key_at Bid l) key_length) (low p (quote_key_at Offer l) key_length) (quote_in (part p (slot_at l) quote_length))) no_quote)).price < 2 ^ 64
      go true = agreed-below s (low p (quote_key_at Bid l) key_length) (low p (quote_key_at Offer l) key_length) (slot_at l)
      go false = none_below s

  pub letter-counts : (s : Side) (o : Option Candidate) (l : ℕ) → OrCounting o → OrCounting (letter_candidate s (quotes_in p) o l)
  unfolding letter_candidate
  letter-counts s o l h = go (eqb l D) (eqb l S)
    where
      go : (d t : Bool) → OrCounting (cond d (map_option as_d o) (cond t None (candidate_of s l (quotes_in p l))))
      go true t = as-d-counts o h
      go false true = tt
      go false false = candidate-counts s l (quotes_in p l) (quotes-below s l)

  -- a candidate that doesn't count has no price or no size
  pub standing-below : (s : Side) (f : Candidate) (l : ℕ) → f.price < 2 ^ 64 → (standing_at p s f l).price < 2 ^ 64
  unfolding standing_at as_d
  standing-below s f l h = go (eqb l D) (eqb l S) (candidate_of s l (quotes_in p l)) (candidate-counts s l (quotes_in p l) (quotes-below s l))
    where
      go : (d t : Bool) (o : Option Candidate) → OrCounting o → (cond d (record { name = D; price = f.price; size = f.size; time = f.time; condition = f.condition }) (cond t no_candidate (or_none o))).price < 2 ^ 64
      go true t o k = h
      go false true o k = omega arith
      go false false None k = omega arith
      go false false (Some x) k = k.fits

  -- the first of a side's levels counts
  side-counts : (s : Side) (l at : ℕ) → OrCounting (first_in l (side_in s (part p at side_length)))
  unfolding first_in
  side-counts s l at =
      rw (first_cell s (part p at side_length), front p at level_length side_length (lit≤ tt), cell-live l (level_in (part p at level_length)))
      (live-counts (level_candidate l 32 (level_in (part p at level_length))) (price-below p at b))

  levels-count : (s : Side) (l : ℕ) → OrCounting (first_in l (side_levels s (levels_for p l)))
  unfolding levels_for agreed_levels agreed_side first_in
  levels-count s l = go s (upper l)
    where
      one : (s : Side) (t : Bool) (vs : List Level) → OrCounting (map_option (level_candidate l 32) (first_of vs)) → OrCounting (map_option (level_candidate l 32) (first_of (cond t vs [])))
      one s true vs h = h
      one s false vs h = tt

      stored : (s : Side) → OrCounting (map_option (level_candidate l 32) (first_of (side_levels s (levels_in (part p (slot_at l + quote_length) levels_length)))))
      stored s = rw (side-at p l s) (side-counts s l (slot_at l + quote_length + in_levels s))

      go : (s : Side) (u : Bool) → OrCounting (map_option (level_candidate l 32) (first_of (side_levels s (cond u (agreed_levels (low p (first_key_at Bid l) key_length) (low p (first_key_at Offer l) key_length) (levels_in (part p (slot_at l + quote_length) levels_length))) no_levels))))
      go Bid true = one Bid (eqb (low p (first_key_at Bid l) key_length) (first_key Bid (levels_in (part p (slot_at l + quote_length) levels_length)).bids)) (levels_in (part p (slot_at l + quote_length) levels_length)).bids (stored Bid)
      go Offer true = one Offer (eqb (low p (first_key_at Offer l) key_length) (first_key Offer (levels_in (part p (slot_at l + quote_length) levels_length)).offers)) (levels_in (part p (slot_at l + quote_length) levels_length)).offers (stored Offer)
      go Bid false = tt
      go Offer false = tt

  pub first-counts : (s : Side) (o : Option Candidate) (l : ℕ) → OrCounting (first_by p s o l)
  unfolding first_by first_in letter_levels
  first-counts s o l = go (eqb l S) (ranks s (quotes_in p) o l)
    where
      go : (t r : Bool) → OrCounting (map_option (level_candidate l 32) (first_of (cond t [] (cond r (side_levels s (levels_for p l)) []))))
      go true r = tt
      go false false = tt
      go false true = levels-count s l

  -- ---- the makers

  abbrev fb : Side → Option Candidate
  fb s = finra_best (occupied (makers_in p)) s

  maker-list : (s : Side) → collect (maker_at p s) (range maker_count 0) ≡ collect (maker_candidate s) (occupied (makers_in p))
  unfolding maker_at makers_in
  maker-list s = sym (ap (collect (maker_candidate s)) (occupied-is (range maker_count 0)) ∙ collect-bind (λ k. maker_in (part p (cell_at k) cell_length)) (maker_candidate s) (range maker_count 0))
    where
      occupied-is : (ks : List ℕ) → collect same (map (λ k. maker_in (part p (cell_at k) cell_length)) ks) ≡ collect (λ k. maker_in (part p (cell_at k) cell_length)) ks
      occupied-is [] = refl
      occupied-is (k ∷ ks) = ap (cons_option (maker_in (part p (cell_at k) cell_length))) (occupied-is ks)

  pub finra-is : (s : Side) → best (better s) (collect (maker_at p s) (range maker_count 0)) ≡ fb s
  unfolding finra_best
  finra-is s = ap (best (better s)) (maker-list s)

  pub finra-counts : (s : Side) → OrCounting (fb s)
  unfolding finra_best
  finra-counts s = rw (← maker-list s) (best-counts s (maker_at p s) (maker-counts s) (range maker_count 0))

  -- the best first level, if it is beyond a national best
  pub odd_is : (s : Side) (o nb : Option Candidate) (k : ℕ) → OrCounting nb
      → beyond_of s (or_none nb) (or_none (best (better s) (collect (first_by p s o) (range k A))))
      ≡ or_none (best (better s) (gather (λ l. collect (odd_candidate s nb l) (letter_levels s (quotes_in p) o (levels_for p) l)) (range k A)))
  unfolding first_by first_in
  odd_is s o nb k h =
      beyond-is s nb (best (better s) (collect (first_by p s o) (range k A))) h (best-counts s (first_by p s o) (first-counts s o) (range k A))
      ∙ ap or_none (sym (odd-once s nb (letter_levels s (quotes_in p) o (levels_for p)) (page-falls p s o) (range k A)))

  -- ---- the six entries are none or count

  abbrev nb : Side → Option Candidate
  nb s = national_best (quotes_in p) fb s

  national-best-counts : (s : Side) → OrCounting (nb s)
  unfolding national_best
  national-best-counts s = best-counts s (letter_candidate s (quotes_in p) (fb s)) (λ l. letter-counts s (fb s) l (finra-counts s)) letters

  odd-best-counts : (s : Side) → OrCounting (odd_best (quotes_in p) fb (levels_for p) nb s)
  unfolding odd_best first_by first_in
  odd-best-counts s =
      rw (odd-once s (nb s) (letter_levels s (quotes_in p) (fb s) (levels_for p)) (page-falls p s (fb s)) letters)
      (kept (best (better s) (collect (λ l. map_option (level_candidate l 32) (first_of (letter_levels s (quotes_in p) (fb s) (levels_for p) l))) letters)) (best-counts s (first_by p s (fb s)) (first-counts s (fb s)) letters))
    where
      kept : (o : Option Candidate) → OrCounting o → OrCounting (bind_option o (keep (far s (nb s))))
      kept None h = tt
      kept (Some c) h = go (far s (nb s) c)
        where
          go : (t : Bool) → OrCounting (cond t (Some c) None)
          go true = h
          go false = tt

  pub six-count : SixCount (page_entries p)
  unfolding page_entries entries_of entries_by
  six-count = record { national = national-best-counts; finra = finra-counts; odd = odd-best-counts }

-- ---- the makers, on the cut page

module _ (p : List ℕ) (w : length p ≡ page_length) (l : ℕ) (lo : A ≤ l) (hi : l ≤ Z) where
  pub finra-none : l < D → no_sides ≡ finra_sides (cut l p)
  unfolding finra_sides finra_best
  finra-none h = rw (cut-no-makers p w l lo hi h)

  pub finra-walked : Bytes p → (r : Sides Candidate) → D ≤ l → r ≡ sides_from (asked (maker_at p)) 0 maker_count no_sides → r ≡ finra_sides (cut l p)
  unfolding finra_sides sides_from
  finra-walked b r h e = e ∙ (λ i. record { bid = side Bid i; offer = side Offer i })
    where
      side : (s : Side) → best_from s (asked (maker_at p) s) 0 maker_count no_candidate ≡ or_none (finra_best (occupied (makers_in (cut l p))) s)
      side s =
          side-best s (maker_at p s) (maker-counts p b s) 0 maker_count ∙ ap or_none (finra-is p b s)
          ∙ ap (λ (ms : List (Option Maker)). or_none (finra_best (occupied ms) s)) (sym (cut-makers p w l lo hi h))

-- ---- the letters

module _ (p : List ℕ) (w : length p ≡ page_length) (b : Bytes p) (l : ℕ) (lo : A ≤ l) (hi : l ≤ Z) (s : Side) where
  abbrev c : List ℕ
  c = cut l p

  cb : Bytes c
  cb = cut-bytes p w l lo hi b

  -- up to l the letters are those of the page, behind it they have no candidate
  national-here : (j : ℕ) → A ≤ j → j ≤ l → letter_candidate s (quotes_in p) (fb c cb s) j ≡ letter_candidate s (quotes_in c) (fb c cb s) j
  unfolding letter_candidate
  national-here j a z = rw (cut-quote p w l lo hi j a z)

  no-finra : l < D → fb c cb s ≡ None
  unfolding finra_best
  no-finra h = rw (cut-no-makers p w l lo hi h)

  national-behind : (j : ℕ) → l < j → j ≤ Z → letter_candidate s (quotes_in c) (fb c cb s) j ≡ None
  unfolding letter_candidate
  national-behind j a z = rw (cut-no-quote p w l lo hi j a z, no-candidate s j) (go (eqb j D) refl (eqb j S))
    where
      go : (t : Bool) → eqb j D ≡ t → (u : Bool) → cond t (map_option as_d (fb c cb s)) (cond u None None) ≡ None
      go true e u = let k : j ≡ D = eqb-true j D e in ap (map_option as_d) (no-finra (omega arith))
      go false e true = refl
      go false e false = refl

  first-here : (o : Option Candidate) (j : ℕ) → A ≤ j → j ≤ l → first_by p s o j ≡ first_by c s o j
  unfolding first_by letter_levels ranks
  first-here o j a z = rw (cut-levels p w l lo hi j a z, cut-quote p w l lo hi j a z)

  first-behind : (o : Option Candidate) (j : ℕ) → l < j → j ≤ Z → first_by c s o j ≡ None
  unfolding first_by first_in letter_levels
  first-behind o j a z = rw (cut-no-levels p w l lo hi j a z) (go (eqb j S) (ranks s (quotes_in c) o j) s)
    where
      go : (t r : Bool) (s : Side) → map_option (level_candidate j 32) (first_of (cond t [] (cond r (side_levels s no_levels) []))) ≡ None
      go true r s = refl
      go false false s = refl
      go false true Bid = refl
      go false true Offer = refl

  -- a walk that stops at l finds the best of the cut page
  stops : (f g : ℕ → Option Candidate) → ((j : ℕ) → OrCounting (g j)) → ((j : ℕ) → A ≤ j → j ≤ l → f j ≡ g j) → ((j : ℕ) → l < j → j ≤ Z → g j ≡ None)
      → best_from s (λ j. or_none (f j)) A (l + 1 - A) no_candidate ≡ or_none (best (better s) (collect g letters))
  unfolding letters
  stops f g n e q =
      best-stops s (λ j. or_none (f j)) (λ j. or_none (g j)) A (l + 1 - A) 26 no_candidate (omega arith)
      (λ j a z. ap or_none (e j a (omega arith))) (λ j a z. ap or_none (q j (omega arith) (omega arith)))
      ∙ side-best s g n A 26

  module _ (f : Sides Candidate) (ef : f ≡ finra_sides c) where
    finra-side : of_side s f ≡ or_none (fb c cb s)
    unfolding finra_sides
    finra-side = ap (of_side s) ef ∙ go s
      where
        go : (s : Side) → of_side s (finra_sides c) ≡ or_none (fb c cb s)
        go Bid = refl
        go Offer = refl

    finra-live : live (of_side s f) ≡ fb c cb s
    finra-live = ap live finra-side ∙ live_back (fb c cb s) (finra-counts c cb s)

    national-side : (n : Lead) → n ≡ lead_from s (standing_at p s (of_side s f)) A (l + 1 - A) no_lead → n ≡ lead_of (nb c cb s) (national_reason (quotes_in c) (fb c cb) s)
    unfolding national_best national_reason letters
    national-side n e =
        e
        ∙ leads-standing p s (of_side s f) (l + 1 - A) A no_lead
        ∙ ap (λ (o : Option Candidate). lead_from s (λ j. or_none (letter_candidate s (quotes_in p) o j)) A (l + 1 - A) no_lead) finra-live
        ∙ lead-stops s (λ j. or_none (letter_candidate s (quotes_in p) (fb c cb s) j)) (λ j. or_none (letter_candidate s (quotes_in c) (fb c cb s) j)) A (l + 1 - A) 26 no_lead (omega arith)
        (λ j a z. ap or_none (national-here j a (omega arith))) (λ j a z. ap or_none (national-behind j (omega arith) (omega arith)))
        ∙ side-lead s (letter_candidate s (quotes_in c) (fb c cb s)) (λ j. letter-counts c cb s (fb c cb s) j (finra-counts c cb s)) (letter-named s (quotes_in c) (fb c cb s)) A 26

    first-side : (t : Candidate) → t ≡ best_from s (asked_of (first_by p s (live (of_side s f)))) A (l + 1 - A) no_candidate → t ≡ or_none (best (better s) (collect (first_by c s (fb c cb s)) letters))
    first-side t e =
        e
        ∙ ap (λ (o : Option Candidate). best_from s (λ j. or_none (first_by p s o j)) A (l + 1 - A) no_candidate) finra-live
        ∙ stops (first_by p s (fb c cb s)) (first_by c s (fb c cb s)) (first-counts c cb s (fb c cb s)) (first-here (fb c cb s)) (first-behind (fb c cb s))

    odd-side : (n o : Candidate) → n ≡ or_none (nb c cb s) → o ≡ beyond_of s n (best_from s (asked_of (first_by p s (live (of_side s f)))) A (l + 1 - A) no_candidate)
        → o ≡ or_none (odd_best (quotes_in c) (fb c cb) (levels_for c) (nb c cb) s)
    unfolding odd_best letters
    odd-side n o en eo = eo ∙ (λ i. beyond_of s (en i) (first-side _ refl i)) ∙ odd_is c cb s (fb c cb s) (nb c cb s) 26 (national-best-counts c cb s)

-- ---- the whole

module _ (p : List ℕ) (w : length p ≡ page_length) (b : Bytes p) (l : ℕ) (lo : A ≤ l) (hi : l ≤ Z) (f : Sides Candidate) (ef : f ≡ finra_sides (cut l p)) (n : Sides Lead) (o : Sides Candidate)
    (en : (s : Side) → of_side s n ≡ lead_from s (standing_at p s (of_side s f)) A (l + 1 - A) no_lead)
    (eo : (s : Side) → of_side s o ≡ beyond_of s (of_side s n).best (best_from s (asked_of (first_by p s (live (of_side s f)))) A (l + 1 - A) no_candidate)) where
  abbrev six : BestEntries
  six = record { national = n; finra = f; odd = o }

  pub walked : six ≡ bests_of (page_entries (cut l p))
  unfolding bests_of page_entries entries_of entries_by
  walked =
      λ i. record {
        national = record { bid = national Bid i; offer = national Offer i };
        finra = record { bid = finra Bid i; offer = finra Offer i };
        odd = record { bid = odd Bid i; offer = odd Offer i };
      }
    where
      cc' : Bytes (cut l p)
      cc' = cut-bytes p w l lo hi b

      finra : (s : Side) → of_side s f ≡ or_none (fb (cut l p) cc' s)
      finra s = finra-side p w b l lo hi s f ef

      national : (s : Side) → of_side s n ≡ lead_of (nb (cut l p) cc' s) (national_reason (quotes_in (cut l p)) (fb (cut l p) cc') s)
      national s = national-side p w b l lo hi s f ef (of_side s n) (en s)

      odd : (s : Side) → of_side s o ≡ or_none (odd_best (quotes_in (cut l p)) (fb (cut l p) cc') (levels_for (cut l p)) (nb (cut l p) cc') s)
      odd s = odd-side p w b l lo hi s f ef (of_side s n).best (of_side s o) (ap (λ (x : Lead). x.best) (national s)) (eo s)

-- the same, side by side
pub walked_both : (p : List ℕ) → length p ≡ page_length → Bytes p → (l : ℕ) → A ≤ l → l ≤ Z → (f : Sides Candidate) → f ≡ finra_sides (cut l p) → (nb na : Lead) (xb xa ob oa : Candidate)
    → nb ≡ lead_from Bid (standing_at p Bid f.bid) A (l + 1 - A) no_lead → na ≡ lead_from Offer (standing_at p Offer f.offer) A (l + 1 - A) no_lead
    → xb ≡ best_from Bid (asked_of (first_by p Bid (live f.bid))) A (l + 1 - A) no_candidate → ob ≡ beyond_of Bid nb.best xb
    → xa ≡ best_from Offer (asked_of (first_by p Offer (live f.offer))) A (l + 1 - A) no_candidate → oa ≡ beyond_of Offer na.best xa
    → ◌≡◌ {A = BestEntries} (record { national = record { bid = nb; offer = na }; finra = f; odd = record { bid = ob; offer = oa } }) (bests_of (page_entries (cut l p)))
walked_both p w b l lo hi f ef nb na xb xa ob oa eb ea exb eob exa eoa = walked p w b l lo hi f ef (record { bid = nb; offer = na }) (record { bid = ob; offer = oa }) leads odds
  where
    leads : (s : Side) → of_side s (record { bid = nb; offer = na }) ≡ lead_from s (standing_at p s (of_side s f)) A (l + 1 - A) no_lead
    leads Bid = eb
    leads Offer = ea

    odds : (s : Side) → of_side s (record { bid = ob; offer = oa }) ≡ beyond_of s (of_side s (record { bid = nb; offer = na })).best (best_from s (asked_of (first_by p s (live (of_side s f)))) A (l + 1 - A) no_candidate)
    odds Bid = eob ∙ ap (beyond_of Bid nb.best) exb
    odds Offer = eoa ∙ ap (beyond_of Offer na.best) exa
