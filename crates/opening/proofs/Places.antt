-- Where the page of a symbol is, from a book's bytes: the hint, the count and the symbols of two pages. Each row is checked by computing.
-- Assumes nothing.
use Rattle.std.proofs.Common.{◌≡◌, ℕ, List, [], ◌∷◌, replicate, refl}
use Rattle.field.specs.Field.{be, be_bytes, part, field, splice}
use Rattle.lists.specs.Lists.{first_from}
use Rattle.std.specs.Prelude.{Some, None}
use Rattle.opening.specs.Opening.{count_of, page_at, first_place, bucket_of, hint_of, is_place, page_place, hinted}
use Rattle.opening.specs.Layout.{count_at, page_start, book_length}

-- ABC and XYZ
abbrev abc : List ℕ
abc = 65 ∷ 66 ∷ 67 ∷ 32 ∷ 32 ∷ 32 ∷ 32 ∷ 32 ∷ 32 ∷ 32 ∷ 32 ∷ []

abbrev xyz : List ℕ
xyz = 88 ∷ 89 ∷ 90 ∷ 32 ∷ 32 ∷ 32 ∷ 32 ∷ 32 ∷ 32 ∷ 32 ∷ 32 ∷ []

-- a book of two pages with these symbols, and a byte written
abbrev book : ℕ → List ℕ → List ℕ → ℕ → ℕ → List ℕ
book count s t at hint = splice (splice (splice (splice (replicate (book_length 2) 0) count_at (count ∷ [])) (page_start 0) s) (page_start 1) t) at (hint ∷ [])

pub record Places : Type 0 where
  -- the first 8 bytes tell the bucket; the hints stand at 989 to 1239
  pub bucket-abc : bucket_of (be abc) ≡ 219
  pub bucket-xyz : bucket_of (be xyz) ≡ 217
  pub written : field (hinted (be xyz) 7 (replicate (book_length 1) 0)) 1206 1 ≡ 7
  -- a right hint
  pub right : page_place (book 2 abc xyz 1206 1) (be xyz) ≡ Some 1
  -- a hint to a page with another symbol: the first that has it
  pub another : page_place (book 2 abc xyz 1206 0) (be xyz) ≡ Some 1
  -- a hint at and above the count: the same
  pub at-the-count : page_place (book 1 xyz xyz 1206 1) (be xyz) ≡ Some 0
  pub above-the-count : page_place (book 2 abc xyz 1206 255) (be xyz) ≡ Some 1
  -- of two pages with one symbol the hinted one; by the hint of another bucket the first
  pub the_second : page_place (book 2 xyz xyz 1206 1) (be xyz) ≡ Some 1
  pub the-first : page_place (book 2 xyz xyz 1206 0) (be xyz) ≡ Some 0
  pub another-bucket : page_place (book 2 xyz xyz 1208 1) (be xyz) ≡ Some 0
  -- a symbol on no counted page
  pub not_listed : page_place (book 2 abc abc 1206 1) (be xyz) ≡ None
  pub none-counted : page_place (book 0 xyz xyz 1206 0) (be xyz) ≡ None

pub places : Places
unfolding be be_bytes part field splice first_from count_of page_at first_place hint_of is_place page_place hinted
places =
    record {
      bucket-abc = refl;
      bucket-xyz = refl;
      written = refl;
      right = refl;
      another = refl;
      at-the-count = refl;
      above-the-count = refl;
      the_second = refl;
      the-first = refl;
      another-bucket = refl;
      not_listed = refl;
      none-counted = refl;
    }
