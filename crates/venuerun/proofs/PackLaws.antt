-- Packing, block by block: the first block has as many messages as fit, and the rest is packed alike; likewise the length worked out first.
-- Assumes nothing.
use Rattle.std.proofs.Common.{◌≡◌, ℕ, suc, ◌+◌, ◌*◌, ◌<◌, ◌≤◌, Bool, true, false, cond, leb, List, [], ◌∷◌, ◌++◌, map, length, take, drop, sym, refl, ap, ◌∙◌, append_assoc, append-nil, arith, length-take-le, le-leb, leb-true}
use borrow.Author.Tests.{lt-leb}
use Rattle.lists.specs.Lists.{sum}
use Rattle.block.specs.Block.{block_longest, offset_at}
use Rattle.block.specs.Sequence.{next_of}
use Rattle.block.specs.Written.{written}
use Rattle.venuerun.specs.declared.Fill.{Fill}
use Rattle.venuerun.specs.Run.{with_one, pack_into, packed, run_from, run_of, fill_into, filled}
use Rattle.venuerun.specs.code.Walk.{filled_with, fit_count, fit_used}

-- ---- the first block

pub count_most : (used : ℕ) (ns : List ℕ) → fit_count used ns ≤ length ns
unfolding fit_count
count_most used [] = omega arith
count_most used (n ∷ ns) = go (leb (with_one used n) block_longest) (count_most (with_one used n) ns)
  where
    go : (t : Bool) → fit_count (with_one used n) ns ≤ length ns → cond t (suc (fit_count (with_one used n) ns)) 0 ≤ suc (length ns)
    go true h = omega arith
    go false h = omega arith

pub used-most : (used : ℕ) (ns : List ℕ) → used ≤ block_longest → fit_used used ns ≤ block_longest
unfolding fit_used
used-most used [] h = h
used-most used (n ∷ ns) h = go (leb (with_one used n) block_longest) refl (λ l. used-most (with_one used n) ns l)
  where
    go : (t : Bool) → leb (with_one used n) block_longest ≡ t → (with_one used n ≤ block_longest → fit_used (with_one used n) ns ≤ block_longest) → cond t (fit_used (with_one used n) ns) used ≤ block_longest
    go true e r = r (leb-true (with_one used n) block_longest e)
    go false e r = h

-- its bytes: what it had, and two for each message's offset beside the messages
pub used-is : (used : ℕ) (ns : List ℕ) → fit_used used ns ≡ used + (2 * fit_count used ns + sum (take (fit_count used ns) ns))
unfolding fit_used fit_count sum
used-is used [] = omega arith
used-is used (n ∷ ns) = go (leb (with_one used n) block_longest) (used-is (with_one used n) ns)
  where
    go : (t : Bool) → fit_used (with_one used n) ns ≡ with_one used n + (2 * fit_count (with_one used n) ns + sum (take (fit_count (with_one used n) ns) ns))
        → cond t (fit_used (with_one used n) ns) used ≡ used + (2 * cond t (suc (fit_count (with_one used n) ns)) 0 + sum (take (cond t (suc (fit_count (with_one used n) ns)) 0) (n ∷ ns)))
    go true h = h ∙ omega arith
    go false h = omega arith

pub count-first : (n : ℕ) (ns : List ℕ) → with_one (offset_at 0) n ≤ block_longest → fit_count (offset_at 0) (n ∷ ns) ≡ suc (fit_count (with_one (offset_at 0) n) ns)
unfolding fit_count
count-first n ns h = rw (le-leb (with_one (offset_at 0) n) block_longest h)

pub used-first : (n : ℕ) (ns : List ℕ) → with_one (offset_at 0) n ≤ block_longest → fit_used (offset_at 0) (n ∷ ns) ≡ fit_used (with_one (offset_at 0) n) ns
unfolding fit_used
used-first n ns h = rw (le-leb (with_one (offset_at 0) n) block_longest h)

-- ---- packed, block by block

pub pack-cut : (used : ℕ) (block ms : List (List ℕ))
    → pack_into used block ms ≡ (block ++ take (fit_count used (map length ms)) ms) ∷ packed (drop (fit_count used (map length ms)) ms)
unfolding pack_into packed fit_count
pack-cut used block [] = ap (λ (b : List (List ℕ)). b ∷ []) (sym (append-nil block))
pack-cut used block (m ∷ ms) = go (leb (with_one used (length m)) block_longest) (pack-cut (with_one used (length m)) (block ++ (m ∷ [])) ms)
  where
    k : ℕ
    k = fit_count (with_one used (length m)) (map length ms)

    go : (t : Bool) → pack_into (with_one used (length m)) (block ++ (m ∷ [])) ms ≡ ((block ++ (m ∷ [])) ++ take k ms) ∷ packed (drop k ms)
        → cond t (pack_into (with_one used (length m)) (block ++ (m ∷ [])) ms) (block ∷ pack_into (with_one (offset_at 0) (length m)) (m ∷ []) ms)
        ≡ (block ++ take (cond t (suc k) 0) (m ∷ ms)) ∷ packed (drop (cond t (suc k) 0) (m ∷ ms))
    go true h = h ∙ ap (λ (b : List (List ℕ)). b ∷ packed (drop k ms)) (append_assoc block (m ∷ []) (take k ms))
    go false h = ap (λ (b : List (List ℕ)). b ∷ packed (m ∷ ms)) (sym (append-nil block))

pub packed-cut : (m : List ℕ) (ms : List (List ℕ)) (k : ℕ) → with_one (offset_at 0) (length m) ≤ block_longest → k ≡ fit_count (offset_at 0) (map length (m ∷ ms))
    → packed (m ∷ ms) ≡ take k (m ∷ ms) ∷ packed (drop k (m ∷ ms))
unfolding packed
packed-cut m ms k h e =
    pack-cut (with_one (offset_at 0) (length m)) (m ∷ []) ms
    ∙ sym (ap (λ (j : ℕ). take j (m ∷ ms) ∷ packed (drop j (m ∷ ms))) (e ∙ count-first (length m) (map length ms) h))

-- the run: its first block, and the rest under the number that follows
pub run-cut : (s : ℕ) (m : List ℕ) (ms : List (List ℕ)) (k : ℕ) → with_one (offset_at 0) (length m) ≤ block_longest → k ≡ fit_count (offset_at 0) (map length (m ∷ ms)) → k ≤ length (m ∷ ms)
    → run_of s (m ∷ ms) ≡ written s (take k (m ∷ ms)) ∷ run_of (next_of s k) (drop k (m ∷ ms))
unfolding run_of run_from
run-cut s m ms k h e l =
    ap (run_from s) (packed-cut m ms k h e)
    ∙ ap (λ (j : ℕ). written s (take k (m ∷ ms)) ∷ run_from (next_of s j) (packed (drop k (m ∷ ms)))) (length-take-le k (m ∷ ms) l)

-- ---- the length worked out first, block by block

fill-cut : (used : ℕ) (ns : List ℕ) → fill_into used ns ≡ fit_used used ns + filled (drop (fit_count used ns) ns)
unfolding fill_into filled fit_used fit_count
fill-cut used [] = omega arith
fill-cut used (n ∷ ns) = go (leb (with_one used n) block_longest) (fill-cut (with_one used n) ns)
  where
    go : (t : Bool) → fill_into (with_one used n) ns ≡ fit_used (with_one used n) ns + filled (drop (fit_count (with_one used n) ns) ns)
        → cond t (fill_into (with_one used n) ns) (used + fill_into (with_one (offset_at 0) n) ns)
        ≡ cond t (fit_used (with_one used n) ns) used + filled (drop (cond t (suc (fit_count (with_one used n) ns)) 0) (n ∷ ns))
    go true h = h
    go false h = refl

pub filled-cut : (n : ℕ) (ns : List ℕ) → with_one (offset_at 0) n ≤ block_longest
    → filled (n ∷ ns) ≡ fit_used (offset_at 0) (n ∷ ns) + filled (drop (fit_count (offset_at 0) (n ∷ ns)) (n ∷ ns))
unfolding filled
filled-cut n ns h =
    fill-cut (with_one (offset_at 0) n) ns
    ∙ (λ i. sym (used-first n ns h) i + filled (drop (sym (count-first n ns h) i) (n ∷ ns)))

-- message by message
pub fill_start : (n : ℕ) (ns : List ℕ) → with_one (offset_at 0) n ≤ block_longest → 0 + fill_into (offset_at 0) (n ∷ ns) ≡ filled (n ∷ ns)
unfolding fill_into filled
fill_start n ns h = rw (le-leb (with_one (offset_at 0) n) block_longest h) (omega arith)

pub fill-joins : (f : Fill) (n : ℕ) → with_one f.used n ≤ block_longest → record { used = f.used + 2 + n; closed = f.closed } ≡ filled_with f n
unfolding filled_with
fill-joins f n h =
    let e : f.used + 2 + n ≡ with_one f.used n = omega arith in
    rw (le-leb (with_one f.used n) block_longest h) (λ i. record { used = e i; closed = f.closed })

pub fill-closes : (f : Fill) (n : ℕ) → block_longest < with_one f.used n → record { used = 10 + 2 + n; closed = f.closed + f.used } ≡ filled_with f n
unfolding filled_with
fill-closes f n h =
    let e : 10 + 2 + n ≡ with_one (offset_at 0) n = omega arith in
    rw (lt-leb (with_one f.used n) block_longest h) (λ i. record { used = e i; closed = f.closed + f.used })

pub fill-again : (f g : Fill) (n w : ℕ) (ns : List ℕ) → f.closed + fill_into f.used (n ∷ ns) ≡ w → g ≡ filled_with f n → g.closed + fill_into g.used ns ≡ w
unfolding fill_into filled_with
fill-again f g n w ns inv e = ap (λ (x : Fill). x.closed + fill_into x.used ns) e ∙ go (leb (with_one f.used n) block_longest) ∙ inv
  where
    with' : Bool → Fill
    with' t = cond t (record { used = with_one f.used n; closed = f.closed }) (record { used = with_one (offset_at 0) n; closed = f.closed + f.used })

    go : (t : Bool) → (with' t).closed + fill_into (with' t).used ns ≡ f.closed + cond t (fill_into (with_one f.used n) ns) (f.used + fill_into (with_one (offset_at 0) n) ns)
    go true = refl
    go false = omega arith

pub fill-fits : (f g : Fill) (n : ℕ) → with_one (offset_at 0) n ≤ block_longest → f.used ≤ block_longest → g ≡ filled_with f n → (g.used ≤ block_longest) × (g.closed ≤ f.closed + block_longest)
unfolding filled_with
fill-fits f g n h u e = rw e (go (leb (with_one f.used n) block_longest) refl)
  where
    with' : Bool → Fill
    with' t = cond t (record { used = with_one f.used n; closed = f.closed }) (record { used = with_one (offset_at 0) n; closed = f.closed + f.used })

    go : (t : Bool) → leb (with_one f.used n) block_longest ≡ t → ((with' t).used ≤ block_longest) × ((with' t).closed ≤ f.closed + block_longest)
    go true q = (leb-true (with_one f.used n) block_longest q, omega arith)
    go false q = (h, omega arith)
