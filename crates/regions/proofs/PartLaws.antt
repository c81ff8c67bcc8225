-- Each part of a message writes what is its letter's own, by what stands there, and then the entries are worked out.
-- Assumes nothing.
use Prim.Native.Nat.{ℕ, zero, suc, ◌+◌, ◌*◌, ◌≤◌, ◌<◌}
use mathlib.Core.Path.{◌≡◌, refl, sym, ap, subst}
use mathlib.Core.Bool.{Bool, true, false, not, cond}
use mathlib.Core.List.{List}
use Rattle.std.specs.Prelude.{Option, Some, None}
use native.Mathlib.Omega.{arith}
use lib.ListN.{length}
use Rattle.field.specs.Field.{part, splice, be_bytes}
use Rattle.field.specs.Ascii.{D}
use Rattle.field.proofs.Laws.{length_part, length-be_bytes}
use Rattle.lists.specs.Lists.{upper, is_some}
use Rattle.lists.proofs.Tests.{upper-low}
use Rattle.quote.specs.declared.Quote.{Quote}
use Rattle.quote.specs.declared.Level.{Level}
use Rattle.quote.specs.Quote.{empty_quote, quote_bytes, quote_over, quote_length}
use Rattle.quote.proofs.QuoteLaws.{length-quote}
use Rattle.ranking.specs.declared.Side.{Side}
use Rattle.ranking.specs.declared.Side.TheVariants.{Bid, Offer}
use Rattle.levels.specs.Levels.{Standing, side_levels, Odd, touches, idle_odd, cells_bytes, side_length, levels_length}
use Rattle.levels.proofs.SideLaws.{length-cells}
use Rattle.keys.specs.Keys.{key_length, quote_key}
use Rattle.field.specs.Low.{le_bytes}
use Rattle.field.proofs.LowLaws.{length-le_bytes}
use Rattle.page.proofs.KeyLaws.{quote-keys-high, first-keys-high, quote-same, level-same}
use Rattle.message.specs.Message.{Part, round_part, odd_part, maker_part, finra_part, status_part}
use Rattle.message.proofs.SpokenLaws.{Shaped}
use Rattle.entries.specs.Entries.{Maker}
use Rattle.page.specs.Layout.{slot_length, cell_length, maker_count, cells_at, page_length, slot_at, cell_at, status_at, quote_key_at, first_key_at, in_levels}
use Rattle.page.specs.Page.{first_key, quotes_in, levels_for, with_key, with_quote, with_side, maker_in, makers_in, refreshed}
use Rattle.makers.specs.Makers.{named, find_maker, cell_of, maker_place, free_place, cell_for, put_at, put_maker_by, put_maker, maker_over, mark_cell, mark_cells}
use Rattle.update.specs.Parts.{put_round, round_on, after_odd, put_side, put_levels, put_odd, odd_on_page, maker_on, finra_on, put_status, status_on}
use Rattle.update.proofs.EntryLaws.{makers-same}
use Rattle.update.proofs.SearchLaws.{first-same}
use Rattle.update.proofs.SlotLaws.{side-inside}
use Rattle.update.proofs.CellLaws.{length-for, mark-length}
use Rattle.update.proofs.MakerLaws.{maker-hit, free-hit}
use Rattle.regions.proofs.RegionLaws.{in_within, Covers, stretch, Reads, Local, local-none, local-then, local-wider, local-choose, local-splice}
use Rattle.regions.proofs.OwnLaws.{slot_of, places_of, cells, status, own, places-own, cells-own, status-own, slot-place, quote-key-place, first-key-place}

-- ---- a part: what it writes, then the entries

abbrev pub writes : Part → List ℕ → List ℕ
writes (round_part s l q) p = put_round l (quote_over (quotes_in p l) q) p
writes (odd_part s l o) p = put_odd l o p
writes (maker_part s m q) p = put_maker m (maker_over (find_maker m (makers_in p)) q) p
writes (finra_part c) p = mark_cells c 0 maker_count p
writes (status_part s x) p = put_status x p

abbrev pub changes : Part → List ℕ → List ℕ
changes r p = refreshed (writes r p)

pub round-changes : (s l : ℕ) (q : Quote) (p : List ℕ) → round_on l q p ≡ changes (round_part s l q) p
unfolding round_on
round-changes s l q p = refl

pub odd-changes : (s l : ℕ) (o : Odd) (p : List ℕ) → odd_on_page l o p ≡ changes (odd_part s l o) p
unfolding odd_on_page
odd-changes s l o p = refl

pub maker-changes : (s m : ℕ) (q : Quote) (p : List ℕ) → maker_on m q p ≡ changes (maker_part s m q) p
unfolding maker_on
maker-changes s m q p = refl

pub finra-changes : (c : ℕ) (p : List ℕ) → finra_on c p ≡ changes (finra_part c) p
unfolding finra_on
finra-changes c p = refl

pub status-changes : (s x : ℕ) (p : List ℕ) → status_on x p ≡ changes (status_part s x) p
unfolding status_on
status-changes s x p = refl

-- sent on the line of a letter, where P tells whose line a symbol's trading statuses come on: makers' quotes, FINRA Close and Open come on D's line
abbrev pub SentBy : (ℕ → Type 0) → ℕ → Part → Type 0
SentBy P l (round_part s k q) = k ≡ l
SentBy P l (odd_part s k o) = k ≡ l
SentBy P l (maker_part s m q) = l ≡ D
SentBy P l (finra_part c) = l ≡ D
SentBy P l (status_part s x) = P s

pub sent-map : (P Q : ℕ → Type 0) → ((s : ℕ) → P s → Q s) → (l : ℕ) (r : Part) → SentBy P l r → SentBy Q l r
sent-map P Q f l (round_part s k q) e = e
sent-map P Q f l (odd_part s k o) e = e
sent-map P Q f l (maker_part s m q) e = e
sent-map P Q f l (finra_part c) e = e
sent-map P Q f l (status_part s x) e = f s e

-- to a page whose primary letter is m
abbrev pub Sent : ℕ → ℕ → Part → Type 0
Sent m l r = SentBy (λ s. m ≡ l) l r

pub sent-shaped : (P : ℕ → Type 0) (l : ℕ) → upper l ≡ true → (r : Part) → SentBy P l r → Shaped r
sent-shaped P l u (round_part s k q) e = rw e u
sent-shaped P l u (odd_part s k o) e = rw e u
sent-shaped P l u (maker_part s m q) e = tt
sent-shaped P l u (finra_part c) e = tt
sent-shaped P l u (status_part s x) e = tt

-- ---- a letter's quote and levels: its slot and its keys

module _ (l : ℕ) where
  quote-in : Covers (places_of l) (slot_at l) quote_length
  quote-in i lo hi = slot-place l i (in_within (slot_at l) slot_length i lo (omega arith))

  levels-in : Covers (places_of l) (slot_at l + quote_length) levels_length
  levels-in i lo hi = slot-place l i (in_within (slot_at l) slot_length i (omega arith) (omega arith))

  quote-key-in : (s : Side) → Covers (places_of l) (quote_key_at s l) key_length
  quote-key-in s i lo hi = quote-key-place s l i (in_within (quote_key_at s l) key_length i lo hi)

  first-key-in : (s : Side) → Covers (places_of l) (first_key_at s l) key_length
  first-key-in s i lo hi = first-key-place s l i (in_within (first_key_at s l) key_length i lo hi)

  pub quotes-read : Reads page_length (places_of l) (λ p. quotes_in p l)
  quotes-read p q v w a =
      quote-same q p l (λ s. stretch (places_of l) p q a key_length (quote_key_at s l) (quote-key-in s)) (stretch (places_of l) p q a quote_length (slot_at l) quote-in)

  pub levels-read : Reads page_length (places_of l) (λ p. levels_for p l)
  levels-read p q v w a =
      level-same q p l (λ s. stretch (places_of l) p q a key_length (first_key_at s l) (first-key-in s)) (stretch (places_of l) p q a levels_length (slot_at l + quote_length) levels-in)

  module _ (u : upper l ≡ true) where
    slot-end : slot_at l + slot_length ≤ page_length
    slot-end = omega (arith, (upper-low l u).0, (upper-low l u).1)

    -- the same bytes, whatever stands there
    bytes-local : (a w : ℕ) (b : List ℕ) → a + w ≤ page_length → Covers (places_of l) a w → length b ≡ w → Local page_length (places_of l) (λ p. splice p a b)
    bytes-local a w b top c n = local-splice page_length (places_of l) a w (λ p. b) top c (λ p h. n) (λ p q v w a. refl)

    quote-key-local : (s : Side) (k : ℕ) → Local page_length (places_of l) (with_key (quote_key_at s l) k)
    quote-key-local s k =
        bytes-local (quote_key_at s l) key_length (le_bytes key_length k) (omega (arith, quote-keys-high s, (upper-low l u).0, (upper-low l u).1)) (quote-key-in s) (length-le_bytes key_length k)

    first-key-local : (s : Side) (k : ℕ) → Local page_length (places_of l) (with_key (first_key_at s l) k)
    first-key-local s k =
        bytes-local (first_key_at s l) key_length (le_bytes key_length k) (omega (arith, first-keys-high s, (upper-low l u).0, (upper-low l u).1)) (first-key-in s) (length-le_bytes key_length k)

    quote-local : (q : Quote) → Local page_length (places_of l) (with_quote l q)
    unfolding with_quote
    quote-local q =
        local-then page_length (places_of l) (λ p. with_key (quote_key_at Bid l) (quote_key Bid q) (splice p (slot_at l) (quote_bytes q))) (with_key (quote_key_at Offer l) (quote_key Offer q))
        (local-then page_length (places_of l) (λ p. splice p (slot_at l) (quote_bytes q)) (with_key (quote_key_at Bid l) (quote_key Bid q))
        (bytes-local (slot_at l) quote_length (quote_bytes q) (omega (arith, slot-end)) quote-in (length-quote q)) (quote-key-local Bid (quote_key Bid q)))
        (quote-key-local Offer (quote_key Offer q))

    round-local : (s : ℕ) (q : Quote) → Local page_length (places_of l) (writes (round_part s l q))
    unfolding put_round
    round-local s q =
        local-choose page_length (places_of l) (with_quote l) (λ p. quote_over (quotes_in p l) q) (λ p x v w a. λ k. quote_over (quotes-read p x v w a k) q)
        (λ p. quote-local (quote_over (quotes_in p l) q))

    side-in : (s : Side) → Covers (places_of l) (slot_at l + quote_length + in_levels s) side_length
    side-in s i lo hi = slot-place l i (in_within (slot_at l) slot_length i (omega arith) (omega (arith, side-inside s)))

    -- a side of its levels
    side-local : (s : Side) (vs : List Level) → Local page_length (places_of l) (with_side s l vs)
    unfolding with_side
    side-local s vs =
        local-then page_length (places_of l) (λ p. splice p (slot_at l + quote_length + in_levels s) (cells_bytes 4 vs)) (with_key (first_key_at s l) (first_key s vs))
        (bytes-local (slot_at l + quote_length + in_levels s) side_length (cells_bytes 4 vs) (omega (arith, slot-end, side-inside s)) (side-in s) (length-cells 4 vs))
        (first-key-local s (first_key s vs))

    side-put-local : (s : Side) (o : Odd) (v : Standing) → Local page_length (places_of l) (put_side s l o v)
    unfolding put_side
    side-put-local s o v = go (touches o s)
      where
        go : (t : Bool) → Local page_length (places_of l) (λ p. cond t (with_side s l (side_levels s v) p) p)
        go true = side-local s (side_levels s v)
        go false = local-none page_length (places_of l)

    both_put : Odd → Standing → List ℕ → List ℕ
    both_put o v p = put_side Offer l o v (put_side Bid l o v p)

    levels-local : (o : Odd) → Local page_length (places_of l) (put_levels l o)
    unfolding put_levels both_put
    levels-local o =
        local-choose page_length (places_of l) (both_put o) (λ p. after_odd o (levels_for p l)) (λ p x v w a. λ k. after_odd o (levels-read p x v w a k))
        (λ p.
        local-then page_length (places_of l) (put_side Bid l o (after_odd o (levels_for p l))) (put_side Offer l o (after_odd o (levels_for p l)))
        (side-put-local Bid o (after_odd o (levels_for p l))) (side-put-local Offer o (after_odd o (levels_for p l))))

    odd_local : (s : ℕ) (o : Odd) → Local page_length (places_of l) (writes (odd_part s l o))
    unfolding put_odd
    odd_local s o = go (idle_odd o)
      where
        go : (t : Bool) → Local page_length (places_of l) (λ p. cond t p (put_levels l o p))
        go true = local-none page_length (places_of l)
        go false = levels-local o

-- ---- the makers' cells

cell_in : (k : ℕ) → k < maker_count → Covers cells (cell_at k) cell_length
cell_in k h i lo hi = in_within cells_at (maker_count * cell_length) i (omega arith) (omega arith)

cell-part : (k : ℕ) → k < maker_count → Reads page_length cells (λ p. part p (cell_at k) cell_length)
cell-part k h p q v w a = stretch cells p q a cell_length (cell_at k) (cell_in k h)

cell-read : (k : ℕ) → k < maker_count → Reads page_length cells (λ p. cell_of p k)
cell-read k h p q v w a = ap maker_in (cell-part k h p q v w a)

pub makers-read : Reads page_length cells makers_in
makers-read p q v w a = makers-same q p (λ k h. cell-part k h p q v w a)

cell-local : (k : ℕ) → k < maker_count → (f : List ℕ → List ℕ) → ((c : List ℕ) → length c ≡ cell_length → length (f c) ≡ cell_length)
    → Local page_length cells (λ p. splice p (cell_at k) (f (part p (cell_at k) cell_length)))
cell-local k h f n =
    local-splice page_length cells (cell_at k) cell_length (λ p. f (part p (cell_at k) cell_length)) (omega arith) (cell_in k h)
    (λ p w. n (part p (cell_at k) cell_length) (length_part p (cell_at k) cell_length (omega arith))) (λ p q v w a. ap f (cell-part k h p q v w a))

module _ (m : ℕ) (q : Quote) where
  place_read : Reads page_length cells (λ p. maker_place p m)
  unfolding maker_place
  place_read p x v w a = first-same (λ k. named m (cell_of p k)) (λ k. named m (cell_of x k)) maker_count 0 (λ k l h. ap (named m) (cell-read k (omega arith) p x v w a))

  free-read : Reads page_length cells free_place
  unfolding free_place
  free-read p x v w a =
      first-same (λ k. not (is_some (cell_of p k))) (λ k. not (is_some (cell_of x k))) maker_count 0 (λ k l h. ap (λ (c : Option Maker). not (is_some c)) (cell-read k (omega arith) p x v w a))

  put_local : (k : ℕ) → k < maker_count → Local page_length cells (λ p. splice p (cell_at k) (cell_for m q))
  put_local k h = cell-local k h (λ c. cell_for m q) (λ c w. length-for m q)

  free_local : Local page_length cells (λ p. put_at p (free_place p) (cell_for m q))
  free_local = local-choose page_length cells (λ r p. put_at p r (cell_for m q)) free_place free-read (λ p. go p (free_place p) refl)
    where
      go : (p : List ℕ) (r : Option ℕ) → free_place p ≡ r → Local page_length cells (λ x. put_at x r (cell_for m q))
      go p (Some k) e = put_local k (free-hit p k e).0
      go p None e = local-none page_length cells

  new-local : (t : Bool) → Local page_length cells (λ p. cond t p (put_at p (free_place p) (cell_for m q)))
  new-local true = local-none page_length cells
  new-local false = free_local

  put-maker-local : Local page_length cells (put_maker m q)
  unfolding put_maker
  put-maker-local = local-choose page_length cells (λ r p. put_maker_by m q p r) (λ p. maker_place p m) place_read (λ p. go p (maker_place p m) refl)
    where
      go : (p : List ℕ) (r : Option ℕ) → maker_place p m ≡ r → Local page_length cells (λ x. put_maker_by m q x r)
      go p (Some k) e = put_local k (maker-hit p m k e).0
      go p None e = new-local (empty_quote q)

maker-local : (s m : ℕ) (q : Quote) → Local page_length cells (writes (maker_part s m q))
maker-local s m q =
    local-choose page_length cells (λ x p. put_maker m x p) (λ p. maker_over (find_maker m (makers_in p)) q)
    (λ p x v w a. λ k. maker_over (find_maker m (makers-read p x v w a k)) q) (λ p. put-maker-local m (maker_over (find_maker m (makers_in p)) q))

marks-local : (c i k : ℕ) → i + k ≤ maker_count → Local page_length cells (mark_cells c i k)
unfolding mark_cells
marks-local c i zero h = local-none page_length cells
marks-local c i (suc k) h =
    local-then page_length cells (λ p. splice p (cell_at i) (mark_cell c (part p (cell_at i) cell_length))) (mark_cells c (i + 1) k)
    (cell-local i (omega arith) (mark_cell c) (mark-length c)) (marks-local c (i + 1) k (omega arith))

-- ---- the trading status

status-local : (s x : ℕ) → Local page_length status (writes (status_part s x))
unfolding put_status
status-local s x =
    local-splice page_length status status_at 1 (λ p. be_bytes 1 x) (omega arith) (in_within status_at 1) (λ p w. length-be_bytes 1 x) (λ p q v w a. refl)

-- ---- every part

module _ (n l : ℕ) (u : upper l ≡ true) where
  pub part-local : (r : Part) → Sent n l r → Local page_length (own n l) (writes r)
  part-local (round_part s k q) e =
      subst (λ (j : ℕ). Local page_length (own n l) (writes (round_part s j q))) (sym e)
      (local-wider page_length (places_of l) (own n l) (writes (round_part s l q)) (places-own n l) (round-local l u s q))
  part-local (odd_part s k o) e =
      subst (λ (j : ℕ). Local page_length (own n l) (writes (odd_part s j o))) (sym e)
      (local-wider page_length (places_of l) (own n l) (writes (odd_part s l o)) (places-own n l) (odd_local l u s o))
  part-local (maker_part s m q) e = local-wider page_length cells (own n l) (writes (maker_part s m q)) (cells-own n l e) (maker-local s m q)
  part-local (finra_part c) e = local-wider page_length cells (own n l) (writes (finra_part c)) (cells-own n l e) (marks-local c 0 maker_count (omega arith))
  part-local (status_part s x) e = local-wider page_length status (own n l) (writes (status_part s x)) (status-own n l e) (status-local s x)
