-- A page that is written twice needs its entries worked out once: no update reads them.
-- Assumes nothing.
use Prim.Native.Nat.{ℕ, ◌+◌, ◌-◌, ◌≤◌}
use mathlib.Core.Path.{◌≡◌, refl, sym, ap, ◌∙◌}
use mathlib.Core.Bool.{Bool, true, false, cond}
use mathlib.Core.List.{List, ◌++◌, append_assoc}
use native.Mathlib.Omega.{arith}
use lib.ListN.{length, take, drop, length-append, take-append-drop}
use lib.Seq.{take-append-add, drop-append-add, take-append-le, take-take, take_at, drop_at, length-take-le}
use Rattle.field.specs.Field.{splice}
use Rattle.field.proofs.Laws.{length-splice}
use Rattle.lists.specs.Lists.{upper}
use Rattle.lists.proofs.Tests.{upper-low}
use Rattle.ranking.specs.declared.Side.{Side}
use Rattle.ranking.specs.declared.Side.TheVariants.{Bid, Offer}
use Rattle.quote.specs.declared.Level.{Level}
use Rattle.levels.specs.Levels.{Standing, side_levels, Odd, touches, idle_odd, cells_bytes}
use Rattle.levels.proofs.SideLaws.{length-cells}
use Rattle.field.specs.Low.{le_bytes}
use Rattle.field.proofs.LowLaws.{length-le_bytes}
use Rattle.keys.specs.Keys.{key_length}
use Rattle.entries.specs.Entries.{Entries}
use Rattle.entries.specs.Publication.{publication, publication_length}
use Rattle.page.specs.Page.{first_key, levels_for, with_key, with_side, published_entries, refreshed}
use Rattle.page.proofs.KeyLaws.{first-keys-low, first-keys-high}
use Rattle.update.specs.Parts.{after_odd, put_side, put_levels, put_odd}
use Rattle.entries.proofs.LengthLaws.{length-publication}
use Rattle.page.proofs.FrameLaws.{levels-kept, published-kept, refreshed-twice}
use Rattle.update.proofs.SlotLaws.{side-inside}
use Rattle.quote.specs.Quote.{quote_length}
use Rattle.page.specs.Layout.{entries_at, slots_at, page_length, slot_at, in_levels, first_key_at}

-- ---- two writes

-- a write behind the first list
splice-append : (a b : List ℕ) (n j : ℕ) (l : List ℕ) → length a ≡ n → splice (a ++ b) (n + j) l ≡ a ++ splice b j l
unfolding splice
splice-append a b n j l e =
    let t : take (n + j) (a ++ b) ≡ a ++ take j b = rw (sym e) (take-append-add a b j) in
    let k : n + j + length l ≡ n + (j + length l) = omega arith in
    let d : drop (n + j + length l) (a ++ b) ≡ drop (j + length l) b = ap (λ (m : ℕ). drop m (a ++ b)) k ∙ rw (sym e) (drop-append-add a b (j + length l)) in
    (λ i. t i ++ l ++ d i)
    ∙ ap (λ (z : List ℕ). z ++ drop (j + length l) b) (append_assoc a (take j b) l)
    ∙ append_assoc a (take j b ++ l) (drop (j + length l) b)

-- two writes at one place: the second
pub splice-over : (p : List ℕ) (at : ℕ) (x y : List ℕ) → at ≤ length p → length x ≡ length y → splice (splice p at x) at y ≡ splice p at y
unfolding splice
splice-over p at x y h e =
    let f : length (take at p) ≡ at = length-take-le at p h in
    let t : take at (take at p ++ x ++ drop (at + length x) p) ≡ take at p =
    ap (take at) (append_assoc (take at p) x (drop (at + length x) p)) ∙ take_at (take at p) (x ++ drop (at + length x) p) at f in
    let g : length (take at p ++ x) ≡ at + length y = length-append (take at p) x ∙ (omega (arith, f, e)) in
    let d : drop (at + length y) (take at p ++ x ++ drop (at + length x) p) ≡ drop (at + length y) p =
    drop_at (take at p ++ x) (drop (at + length x) p) (at + length y) g ∙ ap (λ (k : ℕ). drop (at + k) p) e in
    λ i. t i ++ y ++ d i

module _ (p : List ℕ) (at n j : ℕ) (x l : List ℕ) (e : at + length x ≡ n) (h : n ≤ length p) where
  whole : (b : List ℕ) → splice b at x ≡ take at b ++ x ++ drop n b
  unfolding splice
  whole b = ap (λ (k : ℕ). take at b ++ x ++ drop k b) e

  left-first : splice (splice p at x) (n + j) l ≡ take at p ++ x ++ splice (drop n p) j l
  left-first =
      let f : length (take at p) ≡ at = length-take-le at p (omega arith) in
      let g : length (take at p ++ x) ≡ n = length-append (take at p) x ∙ (omega (arith, f)) in
      ap (λ (z : List ℕ). splice z (n + j) l) (whole p) ∙ splice-append (take at p ++ x) (drop n p) n j l g

  right-first : splice (splice p (n + j) l) at x ≡ take at p ++ x ++ splice (drop n p) j l
  right-first =
      let c : splice p (n + j) l ≡ take n p ++ splice (drop n p) j l =
      ap (λ (z : List ℕ). splice z (n + j) l) (sym (take-append-drop n p)) ∙ splice-append (take n p) (drop n p) n j l (length-take-le n p h) in
      let t : take at (take n p ++ splice (drop n p) j l) ≡ take at p =
      take-append-le at (take n p) (splice (drop n p) j l) (omega (arith, length-take-le n p h)) ∙ take-take at n p (omega arith) in
      let d : drop n (take n p ++ splice (drop n p) j l) ≡ splice (drop n p) j l = drop_at (take n p) (splice (drop n p) j l) n (length-take-le n p h) in
      ap (λ (z : List ℕ). splice z at x) c ∙ whole (take n p ++ splice (drop n p) j l) ∙ (λ i. t i ++ x ++ d i)

  -- two writes apart: in either order
  pub splice-swap : splice (splice p at x) (n + j) l ≡ splice (splice p (n + j) l) at x
  splice-swap = left-first ∙ sym right-first

-- ---- refreshes

-- a change that writes behind the entries, the same whatever stands in them
pub record Late (g : List ℕ → List ℕ) : Type 0 where
  pub size : (p : List ℕ) → length p ≡ page_length → length (g p) ≡ page_length
  pub swap : (p e : List ℕ) → length p ≡ page_length → length e ≡ publication_length → g (splice p entries_at e) ≡ splice (g p) entries_at e

late-splice : (a : ℕ) (l : List ℕ) → slots_at ≤ a → a + length l ≤ page_length → Late (λ p. splice p a l)
late-splice a l lo hi =
    let k : slots_at + (a - slots_at) ≡ a = omega arith in
    record {
      size = λ p w. length-splice p a l (omega arith) ∙ w;
      swap = λ p e w n.
          ap (λ (b : ℕ). splice (splice p entries_at e) b l) (sym k)
          ∙ splice-swap p entries_at slots_at (a - slots_at) e l (omega (arith, n)) (omega arith)
          ∙ ap (λ (b : ℕ). splice (splice p b l) entries_at e) k;
    }

late-none : Late (λ p. p)
late-none = record { size = λ p w. w; swap = λ p e w n. refl }

late-then : (g h : List ℕ → List ℕ) → Late g → Late h → Late (λ p. h (g p))
late-then g h x y =
    record {
      size = λ p w. y.size (g p) (x.size p w);
      swap = λ p e w n. ap h (x.swap p e w n) ∙ y.swap (g p) e (x.size p w) n;
    }

late-side : (s : Side) (l : ℕ) → upper l ≡ true → (vs : List Level) → Late (with_side s l vs)
unfolding with_side
late-side s l u vs =
    late-then (λ p. splice p (slot_at l + quote_length + in_levels s) (cells_bytes 4 vs)) (with_key (first_key_at s l) (first_key s vs))
    (late-splice (slot_at l + quote_length + in_levels s) (cells_bytes 4 vs) (omega arith) (omega (arith, length-cells 4 vs, side-inside s, (upper-low l u).0, (upper-low l u).1)))
    (late-splice (first_key_at s l) (le_bytes key_length (first_key s vs)) (omega (arith, first-keys-low s)) (omega (arith, length-le_bytes key_length (first_key s vs), first-keys-high s, (upper-low l u).0, (upper-low l u).1)))

late-put : (s : Side) (l : ℕ) → upper l ≡ true → (o : Odd) (v : Standing) → Late (put_side s l o v)
unfolding put_side
late-put s l u o v = go (touches o s)
  where
    go : (t : Bool) → Late (λ p. cond t (with_side s l (side_levels s v) p) p)
    go true = late-side s l u (side_levels s v)
    go false = late-none

-- a refresh, such a change, a refresh: the first refresh is not needed
pub late-refresh : (g : List ℕ → List ℕ) → Late g → (p : List ℕ) → length p ≡ page_length → refreshed (g (refreshed p)) ≡ refreshed (g p)
unfolding refreshed
late-refresh g x p w =
    let E : List ℕ = publication (published_entries p) in
    let y : List ℕ = g p in
    let n : length E ≡ publication_length = length-publication (published_entries p) in
    let k : length (publication (published_entries y)) ≡ publication_length = length-publication (published_entries y) in
    ap (λ (z : List ℕ). splice z entries_at (publication (published_entries z))) (x.swap p E w n)
    ∙ ap (λ (e : Entries). splice (splice y entries_at E) entries_at (publication e)) (published-kept y E n)
    ∙ splice-over y entries_at E (publication (published_entries y)) (omega (arith, x.size p w)) (n ∙ sym k)

refreshed-levels : (p : List ℕ) → levels_for (refreshed p) ≡ levels_for p
unfolding refreshed
refreshed-levels p = levels-kept p (publication (published_entries p)) (length-publication (published_entries p))

module _ (x : List ℕ) (w : length x ≡ page_length) (l : ℕ) (u : upper l ≡ true) (o : Odd) where
  -- the sides that it touches written
  both_put : Standing → List ℕ → List ℕ
  both_put v p = put_side Offer l o v (put_side Bid l o v p)

  levels-refresh : refreshed (put_levels l o (refreshed x)) ≡ refreshed (put_levels l o x)
  unfolding put_levels both_put
  levels-refresh =
      ap (λ (v : ℕ → Standing). refreshed (both_put (after_odd o (v l)) (refreshed x))) (refreshed-levels x)
      ∙ late-refresh (both_put (after_odd o (levels_for x l)))
      (late-then (put_side Bid l o (after_odd o (levels_for x l))) (put_side Offer l o (after_odd o (levels_for x l))) (late-put Bid l u o (after_odd o (levels_for x l))) (late-put Offer l u o (after_odd o (levels_for x l))))
      x w

  -- an odd part on a page whose entries are worked out: written without them, then worked out once
  pub one-refresh : refreshed (put_odd l o (refreshed x)) ≡ refreshed (put_odd l o x)
  unfolding put_odd
  one-refresh = go (idle_odd o)
    where
      go : (t : Bool) → refreshed (cond t (refreshed x) (put_levels l o (refreshed x))) ≡ refreshed (cond t x (put_levels l o x))
      go true = refreshed-twice x (omega arith)
      go false = levels-refresh
