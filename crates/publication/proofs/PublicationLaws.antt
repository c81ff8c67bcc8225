-- The publication's bytes and flags, as the code makes them: one law for each `return`. Its length, and that its elements are bytes.
-- Assumes nothing.
use Prim.Native.Nat.{ℕ, ◌+◌, ◌*◌, ◌/◌, ◌%◌, ◌^◌, ◌<◌}
use mathlib.Core.Path.{◌≡◌, refl, ap, ◌∙◌}
use mathlib.Core.Bool.{Bool, true, false, ◌&&◌, cond}
use mathlib.Core.List.{List, [], ◌∷◌, ◌++◌}
use Rattle.std.specs.Prelude.{Option, None, Some}
use native.Mathlib.Omega.{arith}
use lib.Dec.{eqb, lit<}
use borrow.Author.Tests.{eq-eqb, ne_eqb}
use Rattle.field.specs.Field.{Bytes, field, splice, be_bytes}
use Rattle.field.proofs.Laws.{be-be_bytes, field-part, splice-join}
use Rattle.ranking.specs.declared.Side.TheVariants.{Bid, Offer}
use Rattle.ranking.specs.declared.Candidate.{Candidate}
use Rattle.ranking.specs.declared.Reason.{Reason}
use Rattle.ranking.specs.declared.Reason.TheVariants.{Price, Size, Time, Name}
use Rattle.ranking.specs.Held.{or_none, decided_at}
use Rattle.ranking.proofs.Bridge.{OrCounting}
use Rattle.publication.specs.declared.Entry.{Entry}
use Rattle.publication.specs.declared.Published.{Published}
use Rattle.walk.specs.declared.BestEntries.{BestEntries}
use Rattle.entries.specs.Entries.{Entries}
use Rattle.entries.specs.Publication.{no_entry, entry_bytes, reason_byte, national_name, finra_name, odd_name, publication, same_entry, flag, change_flags, publication_length, entry_length}
use Rattle.page.specs.Page.{published_entries, refreshed}
use Rattle.walk.specs.Bests.{bests_of}
use Rattle.publication.specs.code.Entry.{priced, reason_of, as_entries, bytes_of, published_bytes, holds}
use Rattle.walk.proofs.WalkLaws.{SixCount}
use Rattle.walk.proofs.HaltLaws.{published-count}
use Rattle.page.specs.Layout.{entries_at, kept_entries, entry_at}

-- ---- one entry

module _ (c : Candidate) (n : ℕ) where
  pub named_none : c.price ≡ 0 → bytes_of (record { name = 538976288; price = 0; size = 0 }) ≡ entry_bytes (λ c. be_bytes 4 n) (priced c)
  unfolding priced bytes_of no_entry be_bytes
  named_none e = rw (eq-eqb c.price 0 e)

  pub named_some : (c.price ≡ 0 → ⊥) → bytes_of (record { name = n; price = c.price; size = c.size }) ≡ entry_bytes (λ c. be_bytes 4 n) (priced c)
  unfolding priced bytes_of
  named_some z = rw (ne_eqb c.price 0 z)

  pub named-as : (name : Candidate → List ℕ) (r : Entry) → be_bytes 4 n ≡ name c → bytes_of r ≡ entry_bytes (λ c. be_bytes 4 n) (priced c) → bytes_of r ≡ entry_bytes name (priced c)
  unfolding priced
  named-as name r e er = er ∙ go (eqb c.price 0)
    where
      go : (t : Bool) → entry_bytes (λ c. be_bytes 4 n) (cond t None (Some c)) ≡ entry_bytes name (cond t None (Some c))
      go true = refl
      go false = ap (λ (b : List ℕ). b ++ (be_bytes 8 c.price ++ be_bytes 4 c.size)) e

pub national-name : (n c r d : ℕ) → r < 256 → r ≡ reason_byte (reason_of d)
    → be_bytes 4 (n % 256 * 16777216 + c % 256 * 65536 + r * 256 + 32) ≡ be_bytes 1 n ++ be_bytes 1 c ++ (reason_byte (reason_of d) ∷ 32 ∷ [])
unfolding be_bytes
national-name n c r d k er =
    let v = n % 256 * 16777216 + c % 256 * 65536 + r * 256 + 32 in
    let a : v / 16777216 % 256 ≡ n / 1 % 256 = omega arith in
    let b : v / 65536 % 256 ≡ c / 1 % 256 = omega arith in
    let x : v / 256 % 256 ≡ r = omega arith in
    let e : v / 1 % 256 ≡ 32 = omega arith in
    λ i. a i ∷ b i ∷ (x ∙ er) i ∷ e i ∷ []

pub odd-name : (n : ℕ) → be_bytes 4 (n % 256 * 16777216 + 2105376) ≡ be_bytes 1 n ++ (32 ∷ 32 ∷ 32 ∷ [])
unfolding be_bytes
odd-name n =
    let v = n % 256 * 16777216 + 2105376 in
    let a : v / 16777216 % 256 ≡ n / 1 % 256 = omega arith in
    let b : v / 65536 % 256 ≡ 32 = omega arith in
    let d : v / 256 % 256 ≡ 32 = omega arith in
    let e : v / 1 % 256 ≡ 32 = omega arith in
    λ i. a i ∷ b i ∷ d i ∷ e i ∷ []

-- ---- six

pub six-bytes : (e : BestEntries) (p : Published)
    → bytes_of p.national.bid ≡ entry_bytes (national_name (reason_of e.national.bid.decided)) (priced e.national.bid.best)
    → bytes_of p.national.offer ≡ entry_bytes (national_name (reason_of e.national.offer.decided)) (priced e.national.offer.best)
    → bytes_of p.finra.bid ≡ entry_bytes finra_name (priced e.finra.bid) → bytes_of p.finra.offer ≡ entry_bytes finra_name (priced e.finra.offer)
    → bytes_of p.odd.bid ≡ entry_bytes odd_name (priced e.odd.bid) → bytes_of p.odd.offer ≡ entry_bytes odd_name (priced e.odd.offer)
    → published_bytes p ≡ publication (as_entries e)
unfolding published_bytes publication as_entries
six-bytes e p a b c d f g = λ i. a i ++ (b i ++ (c i ++ (d i ++ (f i ++ g i))))

-- ---- flags

-- each number fits its bytes
pub record EntryFits (e : Entry) : Type 0 where
  pub name : e.name < 256 ^ 4
  pub price : e.price < 256 ^ 8
  pub size : e.size < 256 ^ 4

module _ (e : Entry) (f : EntryFits e) where
  name_back : field (bytes_of e) 0 4 ≡ e.name
  unfolding bytes_of be_bytes field
  name_back = be-be_bytes 4 e.name f.name

  price-back : field (bytes_of e) 4 8 ≡ e.price
  unfolding bytes_of be_bytes field
  price-back = be-be_bytes 8 e.price f.price

  size_back : field (bytes_of e) 12 4 ≡ e.size
  unfolding bytes_of be_bytes field
  size_back = be-be_bytes 4 e.size f.size

  module _ (p : List ℕ) (at n : ℕ) (en : n ≡ field p at 4) where
    pub other-name : (n ≡ e.name → ⊥) → false ≡ holds p at e
    unfolding holds
    other-name h = rw (← en, name_back, ne_eqb _ _ h)

    module _ (h : n ≡ e.name) (q : ℕ) (eq : q ≡ field p (at + 4) 8) where
      pub other-price : (q ≡ e.price → ⊥) → false ≡ holds p at e
      unfolding holds
      other-price k = rw (← en, name_back, eq-eqb _ _ h, ← eq, price-back, ne_eqb _ _ k)

      pub by_size : q ≡ e.price → (z : ℕ) → z ≡ field p (at + 12) 4 → eqb z e.size ≡ holds p at e
      unfolding holds
      by_size k z ez = rw (← en, name_back, eq-eqb _ _ h, ← eq, price-back, eq-eqb _ _ k, ← ez, size_back)

-- entry k of six
module _ (p b : List ℕ) where
  pub flag_is : (k : ℕ) (e : Entry) (a : ℕ) → k < 6 → field b (entry_length * k) 4 ≡ field (bytes_of e) 0 4 → field b (entry_length * k + 4) 8 ≡ field (bytes_of e) 4 8 → field b (entry_length * k + 12) 4 ≡ field (bytes_of e) 12 4
      → a ≡ cond (holds p (entry_at k) e) 0 (2 ^ k) → a ≡ flag k (same_entry (kept_entries p) b k)
  unfolding holds
  flag_is k e a h en ep ez ea =
      let q : entry_at k + 4 ≡ entries_at + (entry_length * k + 4) = omega arith in
      let z : entry_at k + 12 ≡ entries_at + (entry_length * k + 12) = omega arith in
      ea
      ∙ rw (en, ep, ez, q, z, field-part p entries_at publication_length (entry_length * k) 4 (omega arith), field-part p entries_at publication_length (entry_length * k + 4) 8 (omega arith), field-part p entries_at publication_length (entry_length * k + 12) 4 (omega arith))
      (go (eqb (field p (entry_at k) 4) (field (bytes_of e) 0 4) && eqb (field p (entries_at + (entry_length * k + 4)) 8) (field (bytes_of e) 4 8) && eqb (field p (entries_at + (entry_length * k + 12)) 4) (field (bytes_of e) 12 4)))
    where
      go : (t : Bool) → cond t 0 (2 ^ k) ≡ flag k t
      go true = refl
      go false = refl

pub flags-are : (p : List ℕ) (x : Published) (a b c d e f : ℕ) → a ≡ cond (holds p (entry_at 0) x.national.bid) 0 1 → b ≡ cond (holds p (entry_at 1) x.national.offer) 0 2
    → c ≡ cond (holds p (entry_at 2) x.finra.bid) 0 4 → d ≡ cond (holds p (entry_at 3) x.finra.offer) 0 8 → e ≡ cond (holds p (entry_at 4) x.odd.bid) 0 16 → f ≡ cond (holds p (entry_at 5) x.odd.offer) 0 32
    → a + b + c + d + e + f ≡ change_flags (kept_entries p) (published_bytes x)
unfolding change_flags published_bytes bytes_of be_bytes field
flags-are p x a b c d e f ea eb ec ed ee ef =
    let six = published_bytes x in
    λ i.
    flag_is p six 0 x.national.bid a (lit< tt) refl refl refl ea i + flag_is p six 1 x.national.offer b (lit< tt) refl refl refl eb i
    + flag_is p six 2 x.finra.bid c (lit< tt) refl refl refl ec i + flag_is p six 3 x.finra.offer d (lit< tt) refl refl refl ed i
    + flag_is p six 4 x.odd.bid e (lit< tt) refl refl refl ee i + flag_is p six 5 x.odd.offer f (lit< tt) refl refl refl ef i

-- ---- writing

pub put_three : (p : List ℕ) (at : ℕ) (e : Entry) → splice (splice (splice p at (be_bytes 4 e.name)) (at + 4) (be_bytes 8 e.price)) (at + 12) (be_bytes 4 e.size) ≡ splice p at (bytes_of e)
unfolding bytes_of be_bytes
put_three p at e = rw (splice-join p at 4 _ _ refl, splice-join p at 12 _ _ refl)

-- one entry after another
pub put_six : (x : Published) (p a b c d e f : List ℕ) → a ≡ splice p entries_at (bytes_of x.national.bid) → b ≡ splice a (entry_at 1) (bytes_of x.national.offer)
    → c ≡ splice b (entry_at 2) (bytes_of x.finra.bid) → d ≡ splice c (entry_at 3) (bytes_of x.finra.offer) → e ≡ splice d (entry_at 4) (bytes_of x.odd.bid)
    → f ≡ splice e (entry_at 5) (bytes_of x.odd.offer) → f ≡ splice p entries_at (published_bytes x)
unfolding published_bytes bytes_of be_bytes
put_six x p a b c d e f ea eb ec ed ee ef =
    rw (ef, ee, ed, ec, eb, ea, splice-join p entries_at entry_length _ _ refl, splice-join p entries_at (2 * entry_length) _ _ refl, splice-join p entries_at (3 * entry_length) _ _ refl, splice-join p entries_at (4 * entry_length) _ _ refl, splice-join p entries_at (5 * entry_length) _ _ refl)

-- ---- the whole

priced-back : (o : Option Candidate) → OrCounting o → priced (or_none o) ≡ o
unfolding priced
priced-back None k = refl
priced-back (Some c) k = rw (ne_eqb c.price 0 k.price)

reason-back : (r : Option Reason) → reason_of (decided_at r) ≡ r
unfolding reason_of
reason-back None = refl
reason-back (Some Price) = refl
reason-back (Some Size) = refl
reason-back (Some Time) = refl
reason-back (Some Name) = refl

publication-back : (v : Entries) → SixCount v → publication (as_entries (bests_of v)) ≡ publication v
unfolding publication as_entries bests_of
publication-back v h =
    λ i.
    entry_bytes (national_name (reason-back (v.reason Bid) i)) (priced-back (v.national Bid) (h.national Bid) i)
    ++ (entry_bytes (national_name (reason-back (v.reason Offer) i)) (priced-back (v.national Offer) (h.national Offer) i)
    ++ (entry_bytes finra_name (priced-back (v.finra Bid) (h.finra Bid) i)
    ++ (entry_bytes finra_name (priced-back (v.finra Offer) (h.finra Offer) i)
    ++ (entry_bytes odd_name (priced-back (v.odd Bid) (h.odd Bid) i)
    ++ entry_bytes odd_name (priced-back (v.odd Offer) (h.odd Offer) i)))))

module _ (p : List ℕ) (b : Bytes p) (e : BestEntries) (x : Published) (ee : e ≡ bests_of (published_entries p)) (ex : published_bytes x ≡ publication (as_entries e)) where
  published-is : published_bytes x ≡ publication (published_entries p)
  published-is = ex ∙ ap (λ (v : BestEntries). publication (as_entries v)) ee ∙ publication-back (published_entries p) (published-count p b)

  pub renewed : (last : List ℕ) (r : ℕ) → r ≡ change_flags (kept_entries p) (published_bytes x) → last ≡ splice p entries_at (published_bytes x)
      → (r ≡ change_flags (kept_entries p) (publication (published_entries p))) × (last ≡ refreshed p)
  unfolding refreshed
  renewed last r er el = (er ∙ ap (change_flags (kept_entries p)) published-is, el ∙ ap (splice p entries_at) published-is)
