-- Snapshots by computing (document 02, T-12): every byte of some, the blocks of those with most letters, and what a subscriber reads.
-- Assumes nothing.
use Prim.Native.Nat.{ℕ, ◌+◌}
use mathlib.Core.Path.{◌≡◌, refl}
use mathlib.Core.Bool.{cond}
use mathlib.Core.List.{List, [], ◌∷◌, ◌++◌, map}
use Rattle.std.specs.Prelude.{Option, None, Some}
use lib.Dec.{eqb}
use lib.ListN.{take, drop, replicate, set}
use Rattle.field.specs.Field.{be, part, field, be_bytes}
use Rattle.field.specs.Ascii.{A, C, D, N, R, space}
use Rattle.lists.specs.Lists.{member, range, same_list, sum}
use Rattle.block.specs.Written.{joined}
use Rattle.quote.specs.declared.Quote.{Quote}
use Rattle.quote.specs.Quote.{no_quote}
use Rattle.entries.specs.Publication.{no_entry}
use Rattle.snapshot.specs.Snapshot.{Shown, Snapshot, is_shown, snapshot_of}
use Rattle.snapshot.specs.Feed.{opened, consolidated, national_side, priced_bytes, participant, finra_side, finra_message, feed_messages, fitting, grouped, feed_front, feed_with, feed_checksum, feed_block, feed_from, feed_blocks, feed_bytes}
use Rattle.snapshot.specs.Receiver.{sound_block, messages_laid, received, snapshot_in, decoded}
use Rattle.snapshot.proofs.Words.{zt, priced, shown, ten, ten02, nothing, nobody, header, any_c, any_p, any_f, blank_f, blank_c}

-- ---- of a symbol's publication and its letters' quotes

-- the publication's first four entries, and nothing behind them
pub four-entries : snapshot_of zt (range 96 0) (λ l. no_quote)
    ≡ record { symbol = zt; national = record { bid = range 16 0; offer = range 16 16 }; finra = record { bid = range 16 32; offer = range 16 48 }; letters = [] }
unfolding part member is_shown snapshot_of
four-entries = refl

abbrev quoted : ℕ → Quote
quoted c = record { condition = c; bid = record { price = 10000000; size = 3; time = 7 }; offer = record { price = 10020000; size = 2; time = 8 } }

-- condition, prices and sizes of a letter with a quote, without its times
pub latest-quote : (snapshot_of zt [] (λ l. cond (eqb l N) (quoted C) no_quote)).letters ≡ shown N C (priced 10000000 3) (priced 10020000 2) ∷ []
unfolding part member is_shown snapshot_of
latest-quote = refl

-- A to Z without D and S, from A on, by any condition that is not 0
abbrev pub exchanges : List ℕ
exchanges = range 3 A ++ (range 14 69 ++ range 7 84)

pub every-letter : map (λ (v : Shown). v.letter) (snapshot_of zt [] (λ l. quoted 1)).letters ≡ exchanges
unfolding part member is_shown snapshot_of
every-letter = refl

-- ---- every byte

-- a symbol without quotes: R C and R F, "even with no maker", in one block of 194 bytes
abbrev pub empty : Snapshot
empty = record { symbol = zt; national = nobody; finra = nobody; letters = [] }

pub empty-symbol : feed_bytes empty ≡ header 0 194 1 2 4 10 254 ++ any_c blank_c blank_c ++ any_f blank_f blank_f
unfolding part be_bytes opened consolidated national_side priced_bytes participant finra_side finra_message feed_messages fitting grouped feed_front feed_with sum feed_checksum feed_block feed_from feed_blocks feed_bytes
empty-symbol = refl

-- N R 10.00 for 3, 10.02 for 2: the tape program's quote
abbrev pub one : Snapshot
one =
    record {
      symbol = zt;
      national = record { bid = N ∷ R ∷ space ∷ space ∷ ten; offer = N ∷ R ∷ space ∷ space ∷ ten02 };
      finra = nobody;
      letters = shown N R (priced 10000000 3) (priced 10020000 2) ∷ [];
    }

pub one-letter : feed_bytes one ≡ header 1 0 1 3 4 22 138 ++ any_c (N ∷ R ∷ ten) (N ∷ R ∷ ten02) ++ any_p N R ten ten02 ++ any_f blank_f blank_f
unfolding part be_bytes opened consolidated national_side priced_bytes participant finra_side finra_message feed_messages fitting grouped feed_front feed_with sum feed_checksum feed_block feed_from feed_blocks feed_bytes
one-letter = refl

-- a letter whose quote is 0 and 0 on both sides has its message; T-08's byte is carried nowhere
abbrev pub empty_quote : Snapshot
empty_quote = record { symbol = zt; national = nobody; finra = nobody; letters = shown A C (priced 0 0) (priced 0 0) ∷ [] }

pub empty-quote : drop 24 (feed_bytes empty_quote) ≡ any_c blank_c blank_c ++ any_p A C (replicate 12 0) (replicate 12 0) ++ any_f blank_f blank_f
unfolding part be_bytes opened consolidated national_side priced_bytes participant finra_side finra_message feed_messages fitting grouped feed_front feed_with sum feed_checksum feed_block feed_from feed_blocks feed_bytes
empty-quote = refl

-- D leads the bid by price: D with R in R C, its maker in R F alone
abbrev pub leads : Snapshot
leads =
    record {
      symbol = zt;
      national = record { bid = D ∷ R ∷ 80 ∷ space ∷ ten; offer = N ∷ R ∷ 76 ∷ space ∷ ten02 };
      finra = record { bid = A ∷ C ∷ space ∷ space ∷ ten; offer = nothing };
      letters = shown N R (priced 0 0) (priced 10020000 2) ∷ [];
    }

pub d-leads : drop 24 (feed_bytes leads) ≡ any_c (D ∷ R ∷ ten) (N ∷ R ∷ ten02) ++ any_p N R (replicate 12 0) ten02 ++ any_f (ten ++ (A ∷ C ∷ space ∷ space ∷ [])) blank_f
unfolding part be_bytes opened consolidated national_side priced_bytes participant finra_side finra_message feed_messages fitting grouped feed_front feed_with sum feed_checksum feed_block feed_from feed_blocks feed_bytes
d-leads = refl

-- an indication, a price with size 0, stays in its price
abbrev pub indicated : Snapshot
indicated = record { symbol = zt; national = nobody; finra = nobody; letters = shown N R (priced 10000000 0) (priced 10020000 2) ∷ [] }

pub an-indication : drop 24 (feed_bytes indicated) ≡ any_c blank_c blank_c ++ any_p N R (take 8 ten ++ replicate 4 0) ten02 ++ any_f blank_f blank_f
unfolding part be_bytes opened consolidated national_side priced_bytes participant finra_side finra_message feed_messages fitting grouped feed_front feed_with sum feed_checksum feed_block feed_from feed_blocks feed_bytes
an-indication = refl

-- ---- blocks: the headers of a snapshot with k letters, each R with nothing

abbrev pub letters_of : ℕ → Snapshot
letters_of k = record { symbol = zt; national = nobody; finra = nobody; letters = map (λ l. shown l R (priced 0 0) (priced 0 0)) (take k exchanges) }

abbrev pub headers : Snapshot → List (List ℕ)
headers x = map (take 24) (feed_blocks x)

-- 13 letters fill a block of 1,000 bytes
pub thirteen : headers (letters_of 13) ≡ header 3 232 1 15 4 61 249 ∷ []
unfolding part be_bytes opened consolidated national_side priced_bytes participant finra_side finra_message feed_messages fitting grouped feed_front feed_with sum feed_checksum feed_block feed_from feed_blocks
thirteen = refl

-- of 14, R F stands alone in the second block, which has number 16
pub fourteen : headers (letters_of 14) ≡ header 3 226 1 15 1 61 113 ∷ header 0 92 16 1 3 4 233 ∷ []
unfolding part be_bytes opened consolidated national_side priced_bytes participant finra_side finra_message feed_messages fitting grouped feed_front feed_with sum feed_checksum feed_block feed_from feed_blocks
fourteen = refl

-- all that there can be
pub twenty-four : headers (letters_of 24) ≡ header 3 226 1 15 1 61 113 ∷ header 2 200 16 11 3 44 245 ∷ []
unfolding part be_bytes opened consolidated national_side priced_bytes participant finra_side finra_message feed_messages fitting grouped feed_front feed_with sum feed_checksum feed_block feed_from feed_blocks
twenty-four = refl

-- the pad byte, which no snapshot needs: of a message of five bytes
abbrev pub five : List ℕ
five = 0 ∷ 5 ∷ R ∷ C ∷ D ∷ []

pub padded : feed_block 1 4 (five ∷ []) ≡ header 0 30 1 1 4 1 13 ++ five ++ (0 ∷ [])
unfolding be_bytes feed_front feed_with sum feed_checksum feed_block
padded = refl

-- ---- a subscriber

pub one-decoded : decoded (feed_bytes one) ≡ Some one
unfolding no_entry be part field be_bytes opened consolidated national_side priced_bytes participant finra_side finra_message feed_messages fitting grouped feed_front feed_with sum feed_checksum feed_block feed_from feed_blocks feed_bytes member same_list sound_block messages_laid received snapshot_in decoded
one-decoded = refl

-- 002's own order, R C behind R P, and no R F
abbrev pub behind : List ℕ
behind = (11 ∷ 0 ∷ 188 ∷ 0 ∷ 0 ∷ 0 ∷ 1 ∷ 2 ∷ 4 ∷ replicate 13 0) ++ (18 ∷ 214 ∷ []) ++ any_p N R ten ten02 ++ any_c (N ∷ R ∷ ten) (N ∷ R ∷ ten02)

pub other-order : decoded behind ≡ Some one
unfolding no_entry be part field sum feed_checksum member same_list sound_block messages_laid received snapshot_in decoded
other-order = refl

-- T-08's byte is a space
pub leads-decoded : decoded (feed_bytes leads)
    ≡ Some (record {
      symbol = zt;
      national = record { bid = D ∷ R ∷ space ∷ space ∷ ten; offer = N ∷ R ∷ space ∷ space ∷ ten02 };
      finra = record { bid = A ∷ C ∷ space ∷ space ∷ ten; offer = nothing };
      letters = shown N R (priced 0 0) (priced 10020000 2) ∷ [];
    })
unfolding no_entry be part field be_bytes opened consolidated national_side priced_bytes participant finra_side finra_message feed_messages fitting grouped feed_front feed_with sum feed_checksum feed_block feed_from feed_blocks feed_bytes member same_list sound_block messages_laid received snapshot_in decoded
leads-decoded = refl

-- two blocks; one of them lost
pub two-decoded : decoded (feed_bytes (letters_of 14)) ≡ Some (letters_of 14)
unfolding no_entry be part field be_bytes opened consolidated national_side priced_bytes participant finra_side finra_message feed_messages fitting grouped feed_front feed_with sum feed_checksum feed_block feed_from feed_blocks feed_bytes member same_list sound_block messages_laid received snapshot_in decoded
two-decoded = refl

pub last-lost : decoded (take 994 (feed_bytes (letters_of 14))) ≡ None
unfolding no_entry be part field be_bytes opened consolidated national_side priced_bytes participant finra_side finra_message feed_messages fitting grouped feed_front feed_with sum feed_checksum feed_block feed_from feed_blocks feed_bytes member same_list sound_block messages_laid received snapshot_in decoded
last-lost = refl

pub first-lost : decoded (drop 994 (feed_bytes (letters_of 14))) ≡ None
unfolding no_entry be part field be_bytes opened consolidated national_side priced_bytes participant finra_side finra_message feed_messages fitting grouped feed_front feed_with sum feed_checksum feed_block feed_from feed_blocks feed_bytes member same_list sound_block messages_laid received snapshot_in decoded
first-lost = refl

-- a byte altered
pub damaged : decoded (set (feed_bytes one) 100 1) ≡ None
unfolding no_entry be part field be_bytes opened consolidated national_side priced_bytes participant finra_side finra_message feed_messages fitting grouped feed_front feed_with sum feed_checksum feed_block feed_from feed_blocks feed_bytes member same_list sound_block messages_laid received snapshot_in decoded
damaged = refl

-- another version, number, delivery flag, each with its checksum
pub another-version : decoded (set (set (feed_bytes one) 0 10) 23 137) ≡ None
unfolding no_entry be part field be_bytes opened consolidated national_side priced_bytes participant finra_side finra_message feed_messages fitting grouped feed_front feed_with sum feed_checksum feed_block feed_from feed_blocks feed_bytes member same_list sound_block messages_laid received snapshot_in decoded
another-version = refl

pub another-number : decoded (set (set (feed_bytes one) 6 2) 23 139) ≡ None
unfolding no_entry be part field be_bytes opened consolidated national_side priced_bytes participant finra_side finra_message feed_messages fitting grouped feed_front feed_with sum feed_checksum feed_block feed_from feed_blocks feed_bytes member same_list sound_block messages_laid received snapshot_in decoded
another-number = refl

pub another-flag : decoded (set (set (feed_bytes one) 8 1) 23 135) ≡ None
unfolding no_entry be part field be_bytes opened consolidated national_side priced_bytes participant finra_side finra_message feed_messages fitting grouped feed_front feed_with sum feed_checksum feed_block feed_from feed_blocks feed_bytes member same_list sound_block messages_laid received snapshot_in decoded
another-flag = refl

-- behind the messages a pad byte of 0 alone
pub pad-admitted : messages_laid 1 (five ++ (0 ∷ [])) ≡ Some (five ∷ [])
unfolding be part field messages_laid
pad-admitted = refl

pub pad-of-1 : messages_laid 1 (five ++ (1 ∷ [])) ≡ None
unfolding be part field messages_laid
pad-of-1 = refl

-- R C twice, R F twice, a letter twice, a message of no snapshot, a message of another symbol
pub twice : snapshot_in (any_c blank_c blank_c ∷ any_c blank_c blank_c ∷ []) ≡ None
unfolding be part field member same_list snapshot_in
twice = refl

pub finra-twice : snapshot_in (any_c blank_c blank_c ∷ any_f blank_f blank_f ∷ any_f blank_f blank_f ∷ []) ≡ None
unfolding be part field member same_list snapshot_in
finra-twice = refl

pub no-such-message : snapshot_in (any_c blank_c blank_c ∷ (five ++ zt) ∷ []) ≡ None
unfolding be part field member same_list snapshot_in
no-such-message = refl

pub letter-twice : snapshot_in (any_c blank_c blank_c ∷ any_p N R ten ten02 ∷ any_p N C ten ten02 ∷ []) ≡ None
unfolding be part field member same_list snapshot_in
letter-twice = refl

pub other-symbol : snapshot_in (any_c blank_c blank_c ∷ set (any_p N R ten ten02) 6 85 ∷ []) ≡ None
unfolding be part field member same_list snapshot_in
other-symbol = refl
