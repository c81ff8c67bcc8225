-- The bytes of levels and quotes: their lengths, that they read back, and that other places stay as they were.
-- Assumes nothing.
use Prim.Native.Nat.{ℕ, ◌+◌}
use mathlib.Core.Path.{◌≡◌, refl}
use mathlib.Core.List.{List, ◌++◌}
use native.Mathlib.Omega.{arith}
use lib.Dec.{lit≤}
use lib.ListN.{length, replicate}
use Rattle.field.specs.Field.{Bytes, be_bytes, part, field, splice}
use Rattle.field.specs.Low.{le, le_bytes, low}
use Rattle.field.proofs.Laws.{be-be_bytes, bytes-append, bytes-be_bytes, field_lt, field-part-0, length_part, bytes-part, part-part, splice-join}
use Rattle.field.proofs.LowLaws.{le-le_bytes, bytes-le_bytes, low-lt, low_part, low-part-0}
use Rattle.quote.specs.declared.Level.{Level}
use Rattle.quote.specs.declared.Quote.{Quote}
use Rattle.quote.specs.Quote.{no_level, level_in, level_bytes, quote_in, quote_bytes, LevelFits, QuoteFits, quote_length, level_length, bid_at, offer_at}

-- three parts of a record written in a row are the record
three-written : (p q r u : List ℕ) (at m n : ℕ) (a b c : List ℕ) → length a ≡ m → length (a ++ b) ≡ n → q ≡ splice p at a → r ≡ splice q (at + m) b → u ≡ splice r (at + n) c → u ≡ splice p at (a ++ b ++ c)
three-written p q r u at m n a b c k l e f g = rw (g, f, e, splice-join p at m a b k, splice-join p at n (a ++ b) c l)

-- ---- a level

pub length-level : (l : Level) → length (level_bytes l) ≡ level_length
unfolding level_bytes le_bytes
length-level l = refl

pub bytes-level : (l : Level) → Bytes (level_bytes l)
unfolding level_bytes
bytes-level l = bytes-append (le_bytes 8 l.price ++ le_bytes 4 l.size) (le_bytes 8 l.time) (bytes-append (le_bytes 8 l.price) (le_bytes 4 l.size) (bytes-le_bytes 8 l.price) (bytes-le_bytes 4 l.size)) (bytes-le_bytes 8 l.time)

-- a level's fields, by their places in a page
pub level-at : (p : List ℕ) (at : ℕ) → level_in (part p at level_length) ≡ record { price = low p at 8; size = low p (at + 8) 4; time = low p (at + 12) 8 }
unfolding level_in
level-at p at = λ k. record {
  price = low-part-0 p at level_length 8 (lit≤ tt) k;
  size = low_part p at level_length 8 4 (lit≤ tt) k;
  time = low_part p at level_length 12 8 (lit≤ tt) k;
}

pub level-read : (p : List ℕ) (at a b c : ℕ) → a ≡ low p at 8 → b ≡ low p (at + 8) 4 → c ≡ low p (at + 12) 8 → record { price = a; size = b; time = c } ≡ level_in (part p at level_length)
level-read p at a b c e f g = rw (e, f, g, level-at p at)

-- three numbers written in a row are the level
pub level-written : (p q r u : List ℕ) (at : ℕ) (l : Level) → q ≡ splice p at (le_bytes 8 l.price) → r ≡ splice q (at + 8) (le_bytes 4 l.size) → u ≡ splice r (at + 12) (le_bytes 8 l.time) → u ≡ splice p at (level_bytes l)
unfolding level_bytes le_bytes
level-written p q r u at l e f g = three-written p q r u at 8 12 _ _ _ refl refl e f g

-- the level of a level's bytes is the level
pub level-back : (l : Level) → LevelFits l → level_in (level_bytes l) ≡ l
unfolding level_in level_bytes le_bytes low part
level-back l f = λ k. record {
  price = le-le_bytes 8 l.price f.price k;
  size = le-le_bytes 4 l.size f.size k;
  time = le-le_bytes 8 l.time f.time k;
}

-- what stands in 20 bytes fits
pub level-fits : (b : List ℕ) → length b ≡ level_length → Bytes b → LevelFits (level_in b)
unfolding level_in
level-fits b n k = record {
  price = low-lt b 0 8 (omega arith) k;
  size = low-lt b 8 4 (omega arith) k;
  time = low-lt b 12 8 (omega arith) k;
}

pub zero-level : level_in (replicate level_length 0) ≡ no_level
unfolding level_in low le part
zero-level = refl

pub no-level-bytes : level_bytes no_level ≡ replicate level_length 0
unfolding level_bytes le_bytes
no-level-bytes = refl

-- ---- a quote

pub length-quote : (q : Quote) → length (quote_bytes q) ≡ quote_length
unfolding quote_bytes level_bytes be_bytes le_bytes
length-quote q = refl

pub bytes-quote : (q : Quote) → Bytes (quote_bytes q)
unfolding quote_bytes
bytes-quote q = bytes-append (be_bytes 1 q.condition ++ level_bytes q.bid) (level_bytes q.offer) (bytes-append (be_bytes 1 q.condition) (level_bytes q.bid) (bytes-be_bytes 1 q.condition) (bytes-level q.bid)) (bytes-level q.offer)

pub quote-at : (p : List ℕ) (at : ℕ) → quote_in (part p at quote_length) ≡ record { condition = field p at 1; bid = level_in (part p (at + bid_at) level_length); offer = level_in (part p (at + offer_at) level_length) }
unfolding quote_in
quote-at p at = λ k. record {
  condition = field-part-0 p at quote_length 1 (lit≤ tt) k;
  bid = level_in (part-part p at quote_length bid_at level_length (lit≤ tt) k);
  offer = level_in (part-part p at quote_length offer_at level_length (lit≤ tt) k);
}

pub quote-read : (p : List ℕ) (at a : ℕ) (b c : Level) → a ≡ field p at 1 → b ≡ level_in (part p (at + bid_at) level_length) → c ≡ level_in (part p (at + offer_at) level_length) → record { condition = a; bid = b; offer = c } ≡ quote_in (part p at quote_length)
quote-read p at a b c e f g = rw (e, f, g, quote-at p at)

pub quote-written : (p q r u : List ℕ) (at : ℕ) (x : Quote) → q ≡ splice p at (be_bytes 1 x.condition) → r ≡ splice q (at + 1) (level_bytes x.bid) → u ≡ splice r (at + offer_at) (level_bytes x.offer) → u ≡ splice p at (quote_bytes x)
unfolding quote_bytes level_bytes be_bytes le_bytes
quote-written p q r u at x e f g = three-written p q r u at 1 offer_at _ _ _ refl refl e f g

pub quote-back : (q : Quote) → QuoteFits q → quote_in (quote_bytes q) ≡ q
unfolding quote_in quote_bytes level_bytes be_bytes le_bytes field part
quote-back q f = λ k. record {
  condition = be-be_bytes 1 q.condition f.condition k;
  bid = level-back q.bid f.bid k;
  offer = level-back q.offer f.offer k;
}

pub quote-fits : (b : List ℕ) → length b ≡ quote_length → Bytes b → QuoteFits (quote_in b)
unfolding quote_in
quote-fits b n k = record {
  condition = field_lt b 0 1 (omega arith) k;
  bid = level-fits (part b bid_at level_length) (length_part b bid_at level_length (omega arith)) (bytes-part b bid_at level_length k);
  offer = level-fits (part b offer_at level_length) (length_part b offer_at level_length (omega arith)) (bytes-part b offer_at level_length k);
}
