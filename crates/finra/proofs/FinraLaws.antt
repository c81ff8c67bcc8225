-- Pages lent one after another, as FINRA Close and Open do: the page that is lent, the book that comes back, the flags of the counted pages together.
-- Assumes nothing.
use Prim.Native.Nat.{ℕ, zero, suc, ◌+◌, ◌-◌, ◌≤◌, ◌<◌}
use mathlib.Core.Path.{◌≡◌, refl, sym, ap, ◌∙◌}
use mathlib.Core.Bool.{true}
use mathlib.Core.List.{List}
use native.Mathlib.Omega.{arith}
use native.Mathlib.Nat.{sub-zero}
use borrow.Rule.Slice.PartMut.{put_mid}
use lib.Bits.{bit_or, or_zero_l}
use lib.ListN.{length, take, drop}
use Rattle.field.specs.Field.{field}
use Rattle.entries.specs.Publication.{change_flags}
use Rattle.update.specs.Parts.{finra_on}
use Rattle.update.proofs.TableLaws.{length-put, cell_other, length-cell}
use Rattle.update.proofs.MakerLaws.{finra-kept}
use Rattle.opening.specs.Opening.{symbols_of, count_of, sound, page_at, set_page, each_page}
use Rattle.finra.specs.code.Flags.{or_from, page_flags, finra_flags}
use Rattle.opening.proofs.OpeningLaws.{Sound, sound-of}
use Rattle.finra.proofs.OrLaws.{or-again, or-end}
use Rattle.opening.proofs.WriteLaws.{lent-page, page-back}
use Rattle.page.specs.Layout.{page_length, kept_entries}
use Rattle.opening.specs.Layout.{n_at, count_at, opening_length, book_length, page_start, symbols_most}

-- ---- a page lent

-- the part of a book that is lent as page k
abbrev pub lent : List ℕ → ℕ → List ℕ
lent b k = take (page_start k + page_length - page_start k) (drop (page_start k) b)

-- the book with that part given back as p
abbrev pub back : List ℕ → ℕ → List ℕ → List ℕ
back b k p = put_mid (page_start k) (page_start k + page_length - page_start k) b p

-- ---- FINRA Close and Open, page by page

module _ (c n : ℕ) (b₀ : List ℕ) where
  -- the pages before k are marked: what remains gives w, and no byte of a page from k on has changed
  pub record Marking (w b : List ℕ) (k : ℕ) : Type 0 where
    pub low : k ≤ n
    pub size : length b ≡ length b₀
    pub ahead : (j : ℕ) → k ≤ j → page_at b j ≡ page_at b₀ j
    pub pages : each_page (finra_on c) k (n - k) b ≡ w

  pub marking-start : (w : List ℕ) (k : ℕ) → k ≤ n → each_page (finra_on c) k (n - k) b₀ ≡ w → Marking w b₀ k
  marking-start w k h e = record { low = h; size = refl; ahead = λ j l. refl; pages = e }

  module _ (room : book_length n ≤ length b₀) (w b : List ℕ) (k : ℕ) (h : k < n) (g : Marking w b k) where
    here : length (finra_on c (page_at b k)) ≡ page_length
    unfolding page_at
    here = (finra-kept c (page_at b k) (length-cell b opening_length page_length n k (omega (arith, g.size)) h)).size

    step : (r : ℕ) → n - k ≡ suc r → each_page (finra_on c) k (n - k) b ≡ w → each_page (finra_on c) (k + 1) r (set_page b k (finra_on c (page_at b k))) ≡ w
    unfolding each_page
    step r z e = rw z at e

    next : Marking w (set_page b k (finra_on c (page_at b k))) (k + 1)
    unfolding set_page page_at
    next =
        let i : book_length n ≤ length b = omega (arith, g.size) in
        record {
          low = omega arith;
          size = length-put b opening_length page_length n k (finra_on c (page_at b k)) i h here ∙ g.size;
          ahead = λ j l. cell_other b opening_length page_length n k (finra_on c (page_at b k)) i h here j (λ z. omega arith) ∙ g.ahead j (omega arith);
          pages = step (n - (k + 1)) (omega arith) g.pages;
        }

    pub marking-again : (p : List ℕ) → p ≡ finra_on c (lent b k) → Marking w (back b k p) (k + 1)
    marking-again p e =
        let q : p ≡ finra_on c (page_at b k) = e ∙ ap (finra_on c) (lent-page b k) in
        rw (page-back b k p (ap length q ∙ here), q) next

  pub marking-end : (w b : List ℕ) (k : ℕ) → n ≤ k → Marking w b k → b ≡ w
  unfolding each_page
  marking-end w b k h g = let z : n - k ≡ 0 = omega arith in rw z at g.pages

  -- the flags of the pages from i on, joined on the way
  module _ (i : ℕ) where
    abbrev pub Joined : ℕ → ℕ → Type 0
    Joined flags k = bit_or flags (or_from (page_flags c b₀) k (n - k)) ≡ or_from (page_flags c b₀) i (n - i)

    pub joined-start : Joined 0 i
    joined-start = or_zero_l _

    pub joined-again : (w b : List ℕ) (flags k f : ℕ) → k < n → Marking w b k → Joined flags k
        → f ≡ change_flags (kept_entries (lent b k)) (kept_entries (finra_on c (lent b k))) → Joined (bit_or flags f) (k + 1)
    joined-again w b flags k f h g q e =
        let z : n - k ≡ suc (n - (k + 1)) = omega arith in
        let x : f ≡ page_flags c b₀ k = e ∙ ap (λ (p : List ℕ). change_flags (kept_entries p) (kept_entries (finra_on c p))) (lent-page b k ∙ g.ahead k (omega arith)) in
        rw x (sym (or-again (page_flags c b₀) flags k (n - (k + 1))) ∙ (rw z at q))

    pub joined_end : (flags k : ℕ) → n ≤ k → Joined flags k → flags ≡ or_from (page_flags c b₀) i (n - i)
    joined_end flags k h q = let z : n - k ≡ 0 = omega arith in sym (or-end (page_flags c b₀) flags k) ∙ (rw z at q)

-- ---- the counted pages, then the others

-- j pages from i on, then k more
each-join : (h : List ℕ → List ℕ) (j i k : ℕ) (b : List ℕ) → each_page h (i + j) k (each_page h i j b) ≡ each_page h i (j + k) b
unfolding each_page
each-join h zero i k b = let z : i + 0 ≡ i = omega arith in let y : 0 + k ≡ k = omega arith in rw (z, y)
each-join h (suc j) i k b =
    let z : i + suc j ≡ i + 1 + j = omega arith in
    let y : suc j + k ≡ suc (j + k) = omega arith in
    rw (z, y) (each-join h j (i + 1) k (set_page b i (h (page_at b i))))

-- n and the count, as read from the opening
pub finra-room : (b : List ℕ) → sound b ≡ true → (n count : ℕ) → n ≡ field b n_at 1 → count ≡ field b count_at 1
    → ((1 ≤ n) × (n ≤ symbols_most)) × ((count ≤ n) × (book_length n ≤ length b))
unfolding symbols_of count_of
finra-room b s n count en ec =
    let sd : Sound (symbols_of b) b = sound-of b s in
    ((omega (arith, sd.low), omega (arith, sd.up)), (omega (arith, sd.count), omega (arith, sd.size)))

-- the two together are what a FINRA Close or Open does to the book
pub finra-whole : (c : ℕ) (b : List ℕ) → sound b ≡ true → (n count : ℕ) → n ≡ field b n_at 1 → count ≡ field b count_at 1
    → (flags : ℕ) (b₁ b₂ : List ℕ) → flags ≡ or_from (page_flags c b) 0 (count - 0) → b₁ ≡ each_page (finra_on c) 0 (count - 0) b → b₂ ≡ each_page (finra_on c) count (n - count) b₁
    → (flags ≡ finra_flags c b) × (b₂ ≡ each_page (finra_on c) 0 (symbols_of b) b)
unfolding symbols_of count_of
finra-whole c b s n count en ec flags b₁ b₂ ef e₁ e₂ =
    let sd : Sound (symbols_of b) b = sound-of b s in
    let z : 0 + count ≡ count = omega arith in
    let y : count + (n - count) ≡ n = omega (arith, sd.count) in
    (rw (← ec) (ef ∙ ap (or_from (page_flags c b) 0) (sub-zero count)), rw (← en) (e₂ ∙ ap (each_page (finra_on c) count (n - count)) (e₁ ∙ ap (λ (k : ℕ). each_page (finra_on c) 0 k b) (sub-zero count)) ∙ (rw (z, y) at (each-join (finra_on c) count 0 (n - count) b))))
