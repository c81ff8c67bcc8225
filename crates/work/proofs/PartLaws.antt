-- One part of a message on a book: the opening stays, and the pages read as `part_reading` has them.
-- Assumes nothing.
use Prim.Native.Nat.{ℕ, ◌^◌, ◌<◌}
use mathlib.Core.Path.{◌≡◌}
use mathlib.Core.Bool.{true}
use mathlib.Core.List.{List, [], ◌∷◌}
use native.Mathlib.Omega.{arith}
use lib.ListN.{length}
use Rattle.field.specs.Field.{Bytes}
use Rattle.lists.specs.Lists.{upper}
use Rattle.quote.specs.Quote.{QuoteFits}
use Rattle.levels.proofs.LevelLaws.{OddGood}
use Rattle.message.specs.Message.{Part, round_part, odd_part, maker_part, finra_part, status_part}
use Rattle.update.specs.Parts.{round_on, odd_on_page, maker_on, finra_on, status_on}
use Rattle.update.proofs.Model.{round_reading, odd_reading, maker_reading, finra_reading, status_reading, part_reading}
use Rattle.update.proofs.CellLaws.{Stands}
use Rattle.message.proofs.SpokenLaws.{Shaped, AllShaped}
use Rattle.update.proofs.EntryLaws.{Kept}
use Rattle.update.proofs.SlotLaws.{round-kept, round-reads, levels-for-good, odd-kept, odd-reads}
use Rattle.update.proofs.MakerLaws.{maker-kept, maker-reads, finra-kept, finra-reads}
use Rattle.update.proofs.StatusLaws.{status-kept, status-reads}
use Rattle.opening.specs.Opening.{count_of, page_at, pages_in, first_place, page_place}
use Rattle.work.specs.Work.{part_on, parts_on}
use Rattle.opening.proofs.OpeningLaws.{Sound, length-page, bytes-page}
use Rattle.opening.proofs.PageLaws.{OpeningKept, opening-none, opening-then, kept-sound, on-kept, on-reads, each-kept, each-reads}
use Rattle.page.specs.Layout.{page_length}

-- on any bytes: a part keeps the opening
pub part-kept : (n : ℕ) (r : Part) (b : List ℕ) → Sound n b → Shaped r → OpeningKept b (part_on r b)
unfolding part_on
part-kept n (round_part s l q) b sd u = on-kept n b sd s (round_on l q) (λ p w. round-kept p w l u q)
part-kept n (odd_part s l o) b sd u = on-kept n b sd s (odd_on_page l o) (λ p w. odd-kept p w l u o)
part-kept n (maker_part s m q) b sd u = on-kept n b sd s (maker_on m q) (λ p w. maker-kept m q p w)
part-kept n (finra_part c) b sd u = each-kept n (finra_on c) (λ p w. finra-kept c p w) b sd
part-kept n (status_part s x) b sd u = on-kept n b sd s (status_on x) (λ p w. status-kept x p w)

pub parts-kept : (n : ℕ) (rs : List Part) (b : List ℕ) → Sound n b → AllShaped rs → OpeningKept b (parts_on rs b)
unfolding parts_on
parts-kept n [] b sd s = opening-none b
parts-kept n (r ∷ rs) b sd s =
    let k : OpeningKept b (part_on r b) = part-kept n r b sd s.0 in
    opening-then b (part_on r b) (parts_on rs (part_on r b)) k (parts-kept n rs (part_on r b) (kept-sound b (part_on r b) k n sd) s.1)

-- what the checks of a message give of its parts
abbrev pub PartGood : Part → Type 0
PartGood (round_part s l q) = (upper l ≡ true) × QuoteFits q
PartGood (odd_part s l o) = (upper l ≡ true) × OddGood o
PartGood (maker_part s m q) = (m < 256 ^ 4) × QuoteFits q × Stands q.condition
PartGood (finra_part c) = Stands c
PartGood (status_part s x) = x < 256

pub record PartDone (r : Part) (b b' : List ℕ) : Type 0 where
  pub pages : pages_in b' ≡ part_reading r (pages_in b)
  pub kept : OpeningKept b b'

-- in a sound book of bytes where each symbol's page is the first that has it
pub part-done : (n : ℕ) (r : Part) (b : List ℕ) → Sound n b → Bytes b → ((s : ℕ) → page_place b s ≡ first_place b s) → PartGood r → PartDone r b (part_on r b)
unfolding part_on part_reading
part-done n (round_part s l q) b sd y one (u, f) =
    let keeps : (p : List ℕ) → length p ≡ page_length → Kept p (round_on l q p) = λ p w. round-kept p w l u q in
    record {
      pages = on-reads n b sd s (round_on l q) keeps (one s) (round_reading l q) (λ k x. round-reads (page_at b k) (length-page n b sd k (omega (arith, sd.count))) l u q (bytes-page b k y) f);
      kept = on-kept n b sd s (round_on l q) keeps;
    }
part-done n (odd_part s l o) b sd y one (u, f) =
    let keeps : (p : List ℕ) → length p ≡ page_length → Kept p (odd_on_page l o p) = λ p w. odd-kept p w l u o in
    let wide : (k : ℕ) → k < count_of b → length (page_at b k) ≡ page_length = λ k x. length-page n b sd k (omega (arith, sd.count)) in
    record {
      pages = on-reads n b sd s (odd_on_page l o) keeps (one s) (odd_reading l o)
          (λ k x. odd-reads (page_at b k) (wide k x) l u o f (levels-for-good (page_at b k) (wide k x) (bytes-page b k y) l));
      kept = on-kept n b sd s (odd_on_page l o) keeps;
    }
part-done n (maker_part s m q) b sd y one (i, f, c) =
    let keeps : (p : List ℕ) → length p ≡ page_length → Kept p (maker_on m q p) = λ p w. maker-kept m q p w in
    record {
      pages = on-reads n b sd s (maker_on m q) keeps (one s) (maker_reading m q) (λ k x. maker-reads m q (page_at b k) (length-page n b sd k (omega (arith, sd.count))) (bytes-page b k y) i f c);
      kept = on-kept n b sd s (maker_on m q) keeps;
    }
part-done n (finra_part c) b sd y one s =
    record {
      pages = each-reads n (finra_on c) (λ p w. finra-kept c p w) b sd (finra_reading c) (λ p w. finra-reads c p w s);
      kept = each-kept n (finra_on c) (λ p w. finra-kept c p w) b sd;
    }
part-done n (status_part s x) b sd y one h =
    let keeps : (p : List ℕ) → length p ≡ page_length → Kept p (status_on x p) = λ p w. status-kept x p w in
    record {
      pages = on-reads n b sd s (status_on x) keeps (one s) (status_reading x) (λ k z. status-reads x (page_at b k) (length-page n b sd k (omega (arith, sd.count))) h);
      kept = on-kept n b sd s (status_on x) keeps;
    }
