-- One page of a book changed, or each of them: the opening stays, and the readings are those of the changed pages.
-- Assumes nothing.
use Rattle.std.proofs.Common.{◌≡◌, ℕ, zero, suc, ◌+◌, ◌<◌, ◌≤◌, Bool, true, false, cond, ◌&&◌, eqb, ltb, List, map, length, sym, refl, ap, ◌∙◌, arith, ltb-true, eqb-true}
use Rattle.field.specs.Field.{Bytes, part, splice}
use Rattle.field.proofs.Laws.{bytes-splice}
use Rattle.lists.specs.Lists.{range}
use Rattle.lists.proofs.Ranges.{map_range}
use Rattle.std.specs.Prelude.{Some, None, Option}
use Rattle.lists.proofs.Searches.{Hit, first-hit, first-none}
use Rattle.lists.proofs.Tests.{clash, and-true}
use Rattle.update.specs.Parts.{Reading, reading_of}
use Rattle.update.proofs.Model.{set_at, on_reading}
use Rattle.update.proofs.TableLaws.{length-put, cell_same, cell_other, put-before, each_cell, Each, each-cell, map-set, map-map-range}
use Rattle.update.proofs.SearchLaws.{found_by, is_at, first-same, first-is, on-place}
use Rattle.update.proofs.EntryLaws.{Kept}
use Rattle.opening.specs.Opening.{symbols_of, count_of, page_at, set_page, pages_in, first_place, hint_of, is_place, page_place, on_place, on_page, each_page}
use Rattle.opening.proofs.OpeningLaws.{Sound, Front, sound-by, count_by, page-room, length-page, bytes-page}
use Rattle.page.specs.Layout.{page_length, page_symbol}
use Rattle.opening.specs.Layout.{opening_length, page_start}

-- what every change of pages keeps: the length, the opening, and that it is bytes
pub record OpeningKept (b b' : List ℕ) : Type 0 where
  pub size : length b' ≡ length b
  pub front : Front b b' opening_length
  pub bytes : Bytes b → Bytes b'

pub opening-none : (b : List ℕ) → OpeningKept b b
opening-none b = record { size = refl; front = λ at m h. refl; bytes = λ y. y }

pub opening-then : (a b c : List ℕ) → OpeningKept a b → OpeningKept b c → OpeningKept a c
opening-then a b c x y = record { size = y.size ∙ x.size; front = λ at m h. y.front at m h ∙ x.front at m h; bytes = λ z. y.bytes (x.bytes z) }

module _ (b b' : List ℕ) (k : OpeningKept b b') where
  pub kept-sound : (n : ℕ) → Sound n b → Sound n b'
  kept-sound n s = sound-by b b' n s k.size (λ at m h. k.front at m (omega arith))

  pub kept-count : count_of b' ≡ count_of b
  kept-count = count_by b b' (λ at m h. k.front at m (omega arith))

-- ---- where a symbol's page is

module _ (b : List ℕ) (s : ℕ) where
  abbrev has : ℕ → Bool
  has k = eqb (page_symbol (page_at b k)) s

  is-place : (k : ℕ) → is_place b s k ≡ true → (k < count_of b) × (has k ≡ true)
  unfolding is_place
  is-place k e = let t = and-true (ltb k (count_of b)) (has k) e in (ltb-true k (count_of b) t.0, t.1)

  first-at : (k : ℕ) → first_place b s ≡ Some k → (k < count_of b) × (has k ≡ true)
  unfolding first_place
  first-at k e = let h : Hit has 0 (count_of b) k = first-hit has 0 (count_of b) k e in (omega (arith, h.high), h.holds)

  -- the page that is found is counted and has the symbol
  pub place-hit : (k : ℕ) → page_place b s ≡ Some k → (k < count_of b) × (page_symbol (page_at b k) ≡ s)
  unfolding page_place
  place-hit k e = let h = go (is_place b s (hint_of b s)) refl e in (h.0, eqb-true (page_symbol (page_at b k)) s h.1)
    where
      go : (t : Bool) → is_place b s (hint_of b s) ≡ t → cond t (Some (hint_of b s)) (first_place b s) ≡ Some k → (k < count_of b) × (has k ≡ true)
      go true p q = let z : hint_of b s ≡ k = cc in rw z at (is-place (hint_of b s) p)
      go false p q = first-at k q

  -- a page is found exactly if a search from the first on finds one
  pub place_at : is_at (page_place b s) ≡ is_at (first_place b s)
  unfolding page_place first_place
  place_at = go (is_place b s (hint_of b s)) refl (first_place b s) refl
    where
      go : (t : Bool) → is_place b s (hint_of b s) ≡ t → (r : Option ℕ) → first_place b s ≡ r → is_at (cond t (Some (hint_of b s)) r) ≡ is_at r
      go true p (Some k) q = refl
      go true p None q = clash (sym (is-place (hint_of b s) p).1 ∙ first-none has (count_of b) 0 q (hint_of b s) (omega arith) (omega (arith, (is-place (hint_of b s) p).0)))
      go false p r q = refl

  -- where only one counted page has the symbol, it is the first
  pub place-first : ((j k : ℕ) → j < k → k < count_of b → has j ≡ true → has k ≡ true → ⊥) → page_place b s ≡ first_place b s
  unfolding page_place first_place
  place-first once = go (is_place b s (hint_of b s)) refl
    where
      before : is_place b s (hint_of b s) ≡ true → (j : ℕ) → j < hint_of b s → (t : Bool) → has j ≡ t → has j ≡ false
      before p j l true e = absurd (once j (hint_of b s) l (is-place (hint_of b s) p).0 e (is-place (hint_of b s) p).1)
      before p j l false e = e

      go : (t : Bool) → is_place b s (hint_of b s) ≡ t → cond t (Some (hint_of b s)) (first_place b s) ≡ first_place b s
      go true p = sym (first-is has (count_of b) 0 (hint_of b s) (omega arith) (omega (arith, (is-place (hint_of b s) p).0)) (is-place (hint_of b s) p).1 (λ j l u. before p j u (has j) refl))
      go false p = refl

-- the count, the symbols of the counted pages and the first page's hints tell where a symbol's page is
pub place-by : (b b' : List ℕ) (s : ℕ) → count_of b' ≡ count_of b → ((j : ℕ) → j < count_of b → page_symbol (page_at b' j) ≡ page_symbol (page_at b j)) → hint_of b' s ≡ hint_of b s
    → page_place b' s ≡ page_place b s
unfolding page_place first_place is_place
place-by b b' s c h e = rw e (λ i. cond (at-hint (hint_of b s) i) (Some (hint_of b s)) (first i))
  where
    first : first_place b' s ≡ first_place b s
    first = rw c (first-same (has b' s) (has b s) (count_of b) 0 (λ j l u. ap (λ (z : ℕ). eqb z s) (h j (omega arith))))

    at-hint : (k : ℕ) → is_place b' s k ≡ is_place b s k
    at-hint k = rw c (go (ltb k (count_of b)) refl)
      where
        go : (t : Bool) → ltb k (count_of b) ≡ t → (t && has b' s k) ≡ (t && has b s k)
        go true q = ap (λ (z : ℕ). eqb z s) (h k (ltb-true k (count_of b) q))
        go false q = refl

pub at_same : (i j : ℕ) → Some i ≡ Some j → i ≡ j
at_same i j e = cc

pub nowhere : {A : Type 0} (k : ℕ) → None ≡ Some k → A
nowhere k e = clash (cc)

-- ---- one page written

module _ (n : ℕ) (b : List ℕ) (sd : Sound n b) (k : ℕ) (below : k < n) (p : List ℕ) (size : length p ≡ page_length) where
  pub set-kept : (Bytes b → Bytes p) → OpeningKept b (set_page b k p)
  unfolding set_page
  set-kept y =
      record {
        size = length-put b opening_length page_length n k p (page-room n b sd) below size;
        front = λ at m h. put-before b opening_length page_length n k p (page-room n b sd) below size at m (omega arith);
        bytes = λ z. bytes-splice b (page_start k) p z (y z);
      }

  pub set_same : page_at (set_page b k p) k ≡ p
  unfolding set_page page_at
  set_same = cell_same b opening_length page_length n k p (page-room n b sd) below size

  pub set_other : (j : ℕ) → (k ≡ j → ⊥) → page_at (set_page b k p) j ≡ page_at b j
  unfolding set_page page_at
  set_other j d = cell_other b opening_length page_length n k p (page-room n b sd) below size j d

-- ---- a symbol's page changed

module _ (n : ℕ) (b : List ℕ) (sd : Sound n b) (s : ℕ) (h : List ℕ → List ℕ) (keeps : (p : List ℕ) → length p ≡ page_length → Kept p (h p)) where
  within : (k : ℕ) → page_place b s ≡ Some k → k < n
  within k e = omega (arith, (place-hit b s k e).0, sd.count)

  wide : (k : ℕ) → page_place b s ≡ Some k → Kept (page_at b k) (h (page_at b k))
  wide k e = keeps (page_at b k) (length-page n b sd k (within k e))

  pub on-kept : OpeningKept b (on_page s h b)
  unfolding on_page
  on-kept = go (page_place b s) refl
    where
      go : (r : Option ℕ) → page_place b s ≡ r → OpeningKept b (on_place h b r)
      go (Some k) e = set-kept n b sd k (within k e) (h (page_at b k)) (wide k e).size (λ z. (wide k e).bytes (bytes-page b k z))
      go None e = opening-none b

  pub on_same : (k : ℕ) → page_place b s ≡ Some k → page_at (on_page s h b) k ≡ h (page_at b k)
  unfolding on_page
  on_same k e = rw e (set_same n b sd k (within k e) (h (page_at b k)) (wide k e).size)

  -- no byte of another page changes
  pub on-other : (j : ℕ) → (page_place b s ≡ Some j → ⊥) → page_at (on_page s h b) j ≡ page_at b j
  unfolding on_page
  on-other j d = go (page_place b s) refl
    where
      go : (r : Option ℕ) → page_place b s ≡ r → page_at (on_place h b r) j ≡ page_at b j
      go (Some k) e = set_other n b sd k (within k e) (h (page_at b k)) (wide k e).size j (λ z. d (e ∙ ap Some z))
      go None e = refl

  -- where the symbol's page is the first that has it
  pub on-reads : page_place b s ≡ first_place b s → (g : Reading → Reading) → ((k : ℕ) → k < count_of b → reading_of (h (page_at b k)) ≡ g (reading_of (page_at b k)))
      → pages_in (on_page s h b) ≡ on_reading s g (pages_in b)
  unfolding pages_in first_place reading_of
  on-reads one g reads = rw (kept-count b (on_page s h b) on-kept) (go (page_place b s) refl ∙ ap (found_by after none) one ∙ sym (on-place s g f (count_of b)))
    where
      f : ℕ → Reading
      f k = reading_of (page_at b k)

      none : List Reading
      none = map f (range (count_of b) 0)

      after : ℕ → List Reading
      after k = map (set_at k (g (f k)) f) (range (count_of b) 0)

      go : (r : Option ℕ) → page_place b s ≡ r
          → map (λ k. reading_of (page_at (on_page s h b) k)) (range (count_of b) 0) ≡ found_by after none (page_place b s)
      go (Some k) e =
          rw e
          (map-set f (λ j. reading_of (page_at (on_page s h b) j)) (count_of b) k (g (f k)) (ap reading_of (on_same k e) ∙ reads k (place-hit b s k e).0)
          (λ j l d. ap reading_of (on-other j (λ z. d (at_same k j (sym e ∙ z))))))
      go None e = rw e (map_range f (λ j. reading_of (page_at (on_page s h b) j)) (count_of b) 0 (λ j a l. ap reading_of (on-other j (λ z. nowhere j (sym e ∙ z)))))

-- ---- every page changed

each-is : (h : List ℕ → List ℕ) (i k : ℕ) (b : List ℕ) → each_page h i k b ≡ each_cell opening_length page_length h i k b
unfolding each_page each_cell set_page page_at
each-is h i zero b = refl
each-is h i (suc k) b = each-is h (i + 1) k (splice b (page_start i) (h (part b (page_start i) page_length)))

module _ (n : ℕ) (h : List ℕ → List ℕ) (keeps : (p : List ℕ) → length p ≡ page_length → Kept p (h p)) where
  each-bytes : (i k : ℕ) (b : List ℕ) → Sound n b → i + k ≤ n → Bytes b → Bytes (each_page h i k b)
  unfolding each_page
  each-bytes i zero b sd l y = y
  each-bytes i (suc k) b sd l y =
      let w : Kept (page_at b i) (h (page_at b i)) = keeps (page_at b i) (length-page n b sd i (omega arith)) in
      let o : OpeningKept b (set_page b i (h (page_at b i))) = set-kept n b sd i (omega arith) (h (page_at b i)) w.size (λ z. w.bytes (bytes-page b i z)) in
      each-bytes (i + 1) k (set_page b i (h (page_at b i))) (kept-sound b (set_page b i (h (page_at b i))) o n sd) (omega arith) (o.bytes y)

  module _ (b : List ℕ) (sd : Sound n b) where
    abbrev each : List ℕ
    each = each_page h 0 (symbols_of b) b

    all-pages : Each opening_length page_length h 0 (symbols_of b) b each
    all-pages =
        rw (each-is h 0 (symbols_of b) b)
        (each-cell opening_length page_length n h (λ p w. (keeps p w).size) 0 (symbols_of b) b (page-room n b sd) (omega (arith, sd.symbols)))

    pub each-kept : OpeningKept b each
    each-kept =
        record {
          size = all-pages.size;
          front = λ at m l. all-pages.before at m (omega arith);
          bytes = λ y. each-bytes 0 (symbols_of b) b sd (omega (arith, sd.symbols)) y;
        }

    pub each-page : (k : ℕ) → k < n → page_at each k ≡ h (page_at b k)
    unfolding page_at
    each-page k l = all-pages.cell k (omega arith) (omega (arith, sd.symbols))

    pub each-reads : (g : Reading → Reading) → ((p : List ℕ) → length p ≡ page_length → reading_of (h p) ≡ g (reading_of p)) → pages_in each ≡ map g (pages_in b)
    unfolding pages_in
    each-reads g reads =
        rw (kept-count b each each-kept)
        (map_range (λ k. g (reading_of (page_at b k))) (λ k. reading_of (page_at each k)) (count_of b) 0
        (λ j a l. ap reading_of (each-page j (omega (arith, sd.count))) ∙ reads (page_at b j) (length-page n b sd j (omega (arith, sd.count))))
        ∙ sym (map-map-range g (λ k. reading_of (page_at b k)) (count_of b) 0))
