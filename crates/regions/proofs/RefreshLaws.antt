-- A page written in a region, then its entries worked out: two such changes of regions apart, in either order, leave the same page to the byte, whatever
-- its bytes. Nothing here looks into how entries are worked out: only that writing them does not move them.
-- Assumes nothing.
use Prim.Native.Nat.{ℕ}
use mathlib.Core.Path.{◌≡◌, refl, sym, ap, ◌∙◌}
use mathlib.Core.List.{List}
use native.Mathlib.Omega.{arith}
use lib.ListN.{length}
use Rattle.field.specs.Field.{splice}
use Rattle.entries.specs.Entries.{Entries}
use Rattle.entries.specs.Publication.{publication, publication_length}
use Rattle.entries.proofs.LengthLaws.{length-publication}
use Rattle.page.specs.Layout.{entries_at, page_length}
use Rattle.page.specs.Page.{published_entries, refreshed}
use Rattle.page.proofs.FrameLaws.{published-kept}
use Rattle.update.proofs.RefreshLaws.{splice-over}
use Rattle.regions.proofs.RegionLaws.{Region, within, in_within, Apart, Reads, Local, local-splice, local-swap, local-reads}

-- where a page keeps its entries
abbrev pub entries_kept : Region
entries_kept = within entries_at publication_length

-- the same bytes written there
abbrev written : List ℕ → List ℕ → List ℕ
written e p = splice p entries_at e

written-local : (e : List ℕ) → length e ≡ publication_length → Local page_length entries_kept (written e)
written-local e n =
    local-splice page_length entries_kept entries_at publication_length (λ p. e) (omega arith) (in_within entries_at publication_length) (λ p w. n) (λ p q v w a. refl)

-- what is not read of the entries stays
pub refreshed-reads : {A : Type 0} (R : Region) (f : List ℕ → A) → Reads page_length R f → Apart entries_kept R → (p : List ℕ) → length p ≡ page_length → f (refreshed p) ≡ f p
unfolding refreshed
refreshed-reads R f x d p w =
    local-reads page_length entries_kept R (written (publication (published_entries p))) f (written-local (publication (published_entries p)) (length-publication (published_entries p))) x d p w

-- worked out, written, worked out: the first is not needed
module _ (R : Region) (g : List ℕ → List ℕ) (x : Local page_length R g) (d : Apart R entries_kept) where
  pub late : (p : List ℕ) → length p ≡ page_length → refreshed (g (refreshed p)) ≡ refreshed (g p)
  unfolding refreshed
  late p w =
      let E : List ℕ = publication (published_entries p) in
      let n : length E ≡ publication_length = length-publication (published_entries p) in
      let y : List ℕ = g p in
      let k : length (publication (published_entries y)) ≡ publication_length = length-publication (published_entries y) in
      ap (λ (z : List ℕ). splice z entries_at (publication (published_entries z))) (local-swap page_length R entries_kept g (written E) x (written-local E n) d p w)
      ∙ ap (λ (e : Entries). splice (splice y entries_at E) entries_at (publication e)) (published-kept y E n)
      ∙ splice-over y entries_at E (publication (published_entries y)) (omega (arith, x.size p w)) (n ∙ sym k)

-- in either order
pub refresh-swap : (R S : Region) (g h : List ℕ → List ℕ) → Local page_length R g → Local page_length S h → Apart R entries_kept → Apart S entries_kept → Apart R S
    → (p : List ℕ) → length p ≡ page_length → refreshed (g (refreshed (h p))) ≡ refreshed (h (refreshed (g p)))
refresh-swap R S g h x y dx dy d p w =
    late R g x dx (h p) (y.size p w) ∙ ap refreshed (local-swap page_length R S g h x y d p w) ∙ sym (late S h y dy (g p) (x.size p w))
