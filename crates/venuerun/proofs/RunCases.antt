-- Venues' blocks and the runs that they become, by computing (document 02, T-11): whole blocks, byte for byte.
-- Assumes nothing.
use Rattle.std.proofs.Common.{◌≡◌, ℕ, ◌+◌, cond, eqb, List, [], ◌∷◌, ◌++◌, map, length, replicate, refl}
use Rattle.field.specs.Field.{be, part, field, be_bytes}
use Rattle.lists.specs.Lists.{member, every, all, sum}
use Rattle.text.specs.Form.{padded}
use Rattle.block.specs.Block.{checksum_of, sequence_in}
use Rattle.block.specs.Sequence.{next_of}
use Rattle.block.specs.Written.{joined, offsets, front, written}
use Rattle.venueform.specs.Form.{layout_of}
use Rattle.venuerules.specs.Rules.{pair_good, participant_good, time_good, reference_good, header_good, control_good, sender_good, items_good, odd_good, market_good, finra_good, own_good, round_good, quote_good, message_good, quote_placed, message_placed}
use Rattle.venue.specs.Venue.{size_good, laid_from, block_good, venue_from, messages_good, messages_placed, venue_number}
use Rattle.venuequote.specs.Quote.{divided, our_kind, our_header, our_side_at, our_round, our_marks, our_item_at, our_items, converted_as, converted, converted_length, symbol_named, converted_for}
use Rattle.venuerun.specs.Run.{pack_into, packed, run_from, run_of, fill_into, filled, needed_of, convert_number, venue_run}

-- ---- what is listed: IBM 100, BRK.A 1, ZT 25, ABCDEFpA.CL 10, TEN 10

abbrev named : List ℕ → ℕ → ℕ
named s n = be (s ++ replicate n 32)

unfoldable lots : ℕ → ℕ
unfolding be
lots s =
    cond (eqb s (named (73 ∷ 66 ∷ 77 ∷ []) 8)) 100
    (cond (eqb s (named (66 ∷ 82 ∷ 75 ∷ 46 ∷ 65 ∷ []) 6)) 1
    (cond (eqb s (named (90 ∷ 84 ∷ []) 9)) 25
    (cond (eqb s (named (65 ∷ 66 ∷ 67 ∷ 68 ∷ 69 ∷ 70 ∷ 112 ∷ 65 ∷ 46 ∷ 67 ∷ 76 ∷ []) 0)) 10
    (cond (eqb s (named (84 ∷ 69 ∷ 78 ∷ []) 8)) 10 0))))

-- its number in an output of just enough bytes and of one less, the bytes that it needs, and its run
pub record Told : Type 0 where
  pub enough : ℕ
  pub short : ℕ
  pub needed : ℕ
  pub run : List ℕ

unfoldable pub told : List ℕ → ℕ → Told
unfolding be part field be_bytes member every all sum padded checksum_of next_of offsets front written layout_of pair_good participant_good time_good reference_good header_good control_good sender_good items_good odd_good market_good finra_good own_good round_good quote_good message_good quote_placed message_placed size_good laid_from block_good venue_from messages_good messages_placed venue_number divided our_kind our_header our_side_at our_round our_marks our_item_at our_items converted_as converted converted_length symbol_named converted_for pack_into packed run_from run_of fill_into filled needed_of convert_number lots
told b room = record { enough = convert_number b (room + 1); short = convert_number b room; needed = needed_of b; run = joined (venue_run lots b) }

-- short round lot, one message
pub short-round : told
    (0 ∷ 0 ∷ 52 ∷ 0 ∷ 0 ∷ 0 ∷ 1 ∷ 1 ∷ 9 ∷ 29 ∷ 0 ∷ 42 ∷ 81 ∷ 80 ∷ 78 ∷ 106 ∷ 11 ∷ 20 ∷ 88 ∷ 57 ∷ 245 ∷ 174 ∷ 139 ∷ 1 ∷ 32 ∷ 32 ∷ 32 ∷ 32 ∷ 0 ∷ 0 ∷
    0 ∷ 0 ∷ 0 ∷ 0 ∷ 0 ∷ 0 ∷ 73 ∷ 66 ∷ 77 ∷ 32 ∷ 32 ∷ 3 ∷ 232 ∷ 1 ∷ 44 ∷ 3 ∷ 234 ∷ 0 ∷ 200 ∷ 32 ∷ 0 ∷ 0 ∷ []) 71
    ≡ record {
      enough = 0;
      short = 80;
      needed = 72;
      run =
          (1 ∷ 1 ∷ 0 ∷ 72 ∷ 0 ∷ 0 ∷ 0 ∷ 1 ∷ 10 ∷ 237 ∷ 0 ∷ 12 ∷ 81 ∷ 75 ∷ 78 ∷ 0 ∷ 24 ∷ 176 ∷ 172 ∷ 7 ∷ 124 ∷ 243 ∷ 30 ∷ 139 ∷ 0 ∷ 0 ∷ 0 ∷ 0 ∷ 0 ∷ 0 ∷
          0 ∷ 0 ∷ 73 ∷ 66 ∷ 77 ∷ 32 ∷ 32 ∷ 32 ∷ 32 ∷ 32 ∷ 32 ∷ 32 ∷ 32 ∷ 82 ∷ 0 ∷ 0 ∷ 0 ∷ 0 ∷ 0 ∷ 152 ∷ 150 ∷ 128 ∷ 0 ∷ 0 ∷ 0 ∷ 3 ∷ 0 ∷ 0 ∷ 0 ∷ 0 ∷ 0 ∷
          152 ∷ 228 ∷ 160 ∷ 0 ∷ 0 ∷ 0 ∷ 2 ∷ 32 ∷ 0 ∷ 0 ∷ 0 ∷ []);
    }
unfolding told
short-round = refl

-- long round lot, rest dropped, pad byte
pub long-round : told
    (0 ∷ 0 ∷ 92 ∷ 0 ∷ 0 ∷ 0 ∷ 2 ∷ 1 ∷ 14 ∷ 103 ∷ 0 ∷ 81 ∷ 81 ∷ 75 ∷ 78 ∷ 106 ∷ 11 ∷ 20 ∷ 88 ∷ 57 ∷ 245 ∷ 174 ∷ 139 ∷ 1 ∷ 32 ∷ 32 ∷ 32 ∷ 32 ∷ 0 ∷ 0 ∷
    48 ∷ 48 ∷ 48 ∷ 48 ∷ 48 ∷ 55 ∷ 73 ∷ 66 ∷ 77 ∷ 32 ∷ 32 ∷ 32 ∷ 32 ∷ 32 ∷ 32 ∷ 32 ∷ 32 ∷ 79 ∷ 0 ∷ 0 ∷ 0 ∷ 0 ∷ 13 ∷ 141 ∷ 236 ∷ 200 ∷ 0 ∷ 0 ∷ 0 ∷
    250 ∷ 0 ∷ 0 ∷ 0 ∷ 0 ∷ 13 ∷ 142 ∷ 0 ∷ 80 ∷ 0 ∷ 0 ∷ 0 ∷ 99 ∷ 32 ∷ 32 ∷ 32 ∷ 32 ∷ 32 ∷ 32 ∷ 32 ∷ 32 ∷ 0 ∷ 0 ∷ 0 ∷ 0 ∷ 0 ∷ 0 ∷ 0 ∷ 0 ∷ 32 ∷ 0 ∷ 0 ∷
    0 ∷ []) 71
    ≡ record {
      enough = 0;
      short = 80;
      needed = 72;
      run =
          (1 ∷ 1 ∷ 0 ∷ 72 ∷ 0 ∷ 0 ∷ 0 ∷ 2 ∷ 11 ∷ 126 ∷ 0 ∷ 12 ∷ 81 ∷ 75 ∷ 78 ∷ 0 ∷ 24 ∷ 176 ∷ 172 ∷ 7 ∷ 124 ∷ 243 ∷ 30 ∷ 139 ∷ 0 ∷ 0 ∷ 48 ∷ 48 ∷ 48 ∷
          48 ∷ 48 ∷ 55 ∷ 73 ∷ 66 ∷ 77 ∷ 32 ∷ 32 ∷ 32 ∷ 32 ∷ 32 ∷ 32 ∷ 32 ∷ 32 ∷ 79 ∷ 0 ∷ 0 ∷ 0 ∷ 0 ∷ 13 ∷ 141 ∷ 236 ∷ 200 ∷ 0 ∷ 0 ∷ 0 ∷ 2 ∷ 0 ∷ 0 ∷ 0 ∷
          0 ∷ 13 ∷ 142 ∷ 0 ∷ 80 ∷ 0 ∷ 0 ∷ 0 ∷ 0 ∷ 32 ∷ 0 ∷ 0 ∷ 0 ∷ []);
    }
unfolding told
long-round = refl

-- short round lot with appendages
pub short-appendages : told
    (0 ∷ 0 ∷ 62 ∷ 0 ∷ 0 ∷ 0 ∷ 3 ∷ 1 ∷ 14 ∷ 165 ∷ 0 ∷ 51 ∷ 81 ∷ 80 ∷ 78 ∷ 106 ∷ 11 ∷ 20 ∷ 88 ∷ 57 ∷ 245 ∷ 174 ∷ 139 ∷ 1 ∷ 32 ∷ 32 ∷ 32 ∷ 32 ∷ 0 ∷ 0 ∷
    0 ∷ 0 ∷ 0 ∷ 0 ∷ 0 ∷ 0 ∷ 73 ∷ 66 ∷ 77 ∷ 32 ∷ 32 ∷ 3 ∷ 232 ∷ 1 ∷ 44 ∷ 3 ∷ 234 ∷ 0 ∷ 200 ∷ 88 ∷ 1 ∷ 2 ∷ 3 ∷ 233 ∷ 99 ∷ 3 ∷ 233 ∷ 0 ∷ 255 ∷ 255 ∷
    255 ∷ 0 ∷ []) 107
    ≡ record {
      enough = 0;
      short = 80;
      needed = 108;
      run =
          (1 ∷ 1 ∷ 0 ∷ 108 ∷ 0 ∷ 0 ∷ 0 ∷ 3 ∷ 18 ∷ 120 ∷ 0 ∷ 12 ∷ 81 ∷ 75 ∷ 78 ∷ 0 ∷ 24 ∷ 176 ∷ 172 ∷ 7 ∷ 124 ∷ 243 ∷ 30 ∷ 139 ∷ 0 ∷ 0 ∷ 0 ∷ 0 ∷ 0 ∷ 0 ∷
          0 ∷ 0 ∷ 73 ∷ 66 ∷ 77 ∷ 32 ∷ 32 ∷ 32 ∷ 32 ∷ 32 ∷ 32 ∷ 32 ∷ 32 ∷ 82 ∷ 0 ∷ 0 ∷ 0 ∷ 0 ∷ 0 ∷ 152 ∷ 150 ∷ 128 ∷ 0 ∷ 0 ∷ 0 ∷ 3 ∷ 0 ∷ 0 ∷ 0 ∷ 0 ∷ 0 ∷
          152 ∷ 228 ∷ 160 ∷ 0 ∷ 0 ∷ 0 ∷ 2 ∷ 88 ∷ 1 ∷ 2 ∷ 0 ∷ 0 ∷ 0 ∷ 0 ∷ 0 ∷ 0 ∷ 152 ∷ 189 ∷ 144 ∷ 0 ∷ 0 ∷ 0 ∷ 99 ∷ 0 ∷ 0 ∷ 0 ∷ 0 ∷ 0 ∷ 152 ∷ 189 ∷
          144 ∷ 0 ∷ 0 ∷ 0 ∷ 0 ∷ 0 ∷ 0 ∷ 0 ∷ 0 ∷ 39 ∷ 15 ∷ 216 ∷ 240 ∷ 0 ∷ 0 ∷ 0 ∷ 255 ∷ []);
    }
unfolding told
short-appendages = refl

-- odd lot short
pub short-odd : told
    (0 ∷ 0 ∷ 50 ∷ 0 ∷ 0 ∷ 0 ∷ 4 ∷ 1 ∷ 8 ∷ 110 ∷ 0 ∷ 40 ∷ 81 ∷ 82 ∷ 78 ∷ 106 ∷ 11 ∷ 20 ∷ 88 ∷ 57 ∷ 245 ∷ 174 ∷ 139 ∷ 1 ∷ 32 ∷ 32 ∷ 32 ∷ 32 ∷ 0 ∷ 0 ∷
    0 ∷ 0 ∷ 0 ∷ 0 ∷ 0 ∷ 0 ∷ 90 ∷ 84 ∷ 32 ∷ 32 ∷ 32 ∷ 83 ∷ 1 ∷ 1 ∷ 3 ∷ 233 ∷ 24 ∷ 3 ∷ 235 ∷ 0 ∷ []) 71
    ≡ record {
      enough = 0;
      short = 80;
      needed = 72;
      run =
          (1 ∷ 1 ∷ 0 ∷ 72 ∷ 0 ∷ 0 ∷ 0 ∷ 4 ∷ 10 ∷ 77 ∷ 0 ∷ 12 ∷ 81 ∷ 77 ∷ 78 ∷ 0 ∷ 24 ∷ 176 ∷ 172 ∷ 7 ∷ 124 ∷ 243 ∷ 30 ∷ 139 ∷ 0 ∷ 0 ∷ 0 ∷ 0 ∷ 0 ∷ 0 ∷
          0 ∷ 0 ∷ 90 ∷ 84 ∷ 32 ∷ 32 ∷ 32 ∷ 32 ∷ 32 ∷ 32 ∷ 32 ∷ 32 ∷ 32 ∷ 83 ∷ 1 ∷ 1 ∷ 0 ∷ 0 ∷ 0 ∷ 0 ∷ 0 ∷ 0 ∷ 0 ∷ 152 ∷ 189 ∷ 144 ∷ 0 ∷ 0 ∷ 0 ∷ 24 ∷
          0 ∷ 0 ∷ 0 ∷ 0 ∷ 0 ∷ 153 ∷ 11 ∷ 176 ∷ 0 ∷ 0 ∷ 0 ∷ 0 ∷ []);
    }
unfolding told
short-odd = refl

-- odd lot long, clear alone
pub long-odd : told
    (0 ∷ 0 ∷ 50 ∷ 0 ∷ 0 ∷ 0 ∷ 5 ∷ 1 ∷ 7 ∷ 101 ∷ 0 ∷ 40 ∷ 81 ∷ 77 ∷ 78 ∷ 106 ∷ 11 ∷ 20 ∷ 88 ∷ 57 ∷ 245 ∷ 174 ∷ 139 ∷ 1 ∷ 32 ∷ 32 ∷ 32 ∷ 32 ∷ 0 ∷ 0 ∷
    0 ∷ 0 ∷ 0 ∷ 0 ∷ 0 ∷ 0 ∷ 66 ∷ 82 ∷ 75 ∷ 46 ∷ 65 ∷ 32 ∷ 32 ∷ 32 ∷ 32 ∷ 32 ∷ 32 ∷ 66 ∷ 0 ∷ 0 ∷ []) 47
    ≡ record {
      enough = 0;
      short = 80;
      needed = 48;
      run =
          (1 ∷ 1 ∷ 0 ∷ 48 ∷ 0 ∷ 0 ∷ 0 ∷ 5 ∷ 7 ∷ 18 ∷ 0 ∷ 12 ∷ 81 ∷ 77 ∷ 78 ∷ 0 ∷ 24 ∷ 176 ∷ 172 ∷ 7 ∷ 124 ∷ 243 ∷ 30 ∷ 139 ∷ 0 ∷ 0 ∷ 0 ∷ 0 ∷ 0 ∷ 0 ∷
          0 ∷ 0 ∷ 66 ∷ 82 ∷ 75 ∷ 46 ∷ 65 ∷ 32 ∷ 32 ∷ 32 ∷ 32 ∷ 32 ∷ 32 ∷ 66 ∷ 0 ∷ 0 ∷ 0 ∷ 0 ∷ []);
    }
unfolding told
long-odd = refl

-- long round lot with appendages, crossed market
pub long-appendages : told
    (0 ∷ 0 ∷ 118 ∷ 0 ∷ 0 ∷ 0 ∷ 6 ∷ 1 ∷ 21 ∷ 73 ∷ 0 ∷ 108 ∷ 81 ∷ 75 ∷ 78 ∷ 106 ∷ 11 ∷ 20 ∷ 88 ∷ 57 ∷ 245 ∷ 174 ∷ 139 ∷ 1 ∷ 32 ∷ 32 ∷ 32 ∷ 32 ∷ 0 ∷ 0 ∷
    0 ∷ 0 ∷ 0 ∷ 0 ∷ 0 ∷ 0 ∷ 73 ∷ 66 ∷ 77 ∷ 32 ∷ 32 ∷ 32 ∷ 32 ∷ 32 ∷ 32 ∷ 32 ∷ 32 ∷ 69 ∷ 0 ∷ 0 ∷ 0 ∷ 0 ∷ 0 ∷ 167 ∷ 216 ∷ 192 ∷ 0 ∷ 0 ∷ 4 ∷ 176 ∷ 0 ∷
    0 ∷ 0 ∷ 0 ∷ 0 ∷ 152 ∷ 150 ∷ 128 ∷ 0 ∷ 0 ∷ 0 ∷ 199 ∷ 32 ∷ 32 ∷ 65 ∷ 32 ∷ 32 ∷ 32 ∷ 32 ∷ 32 ∷ 0 ∷ 0 ∷ 0 ∷ 0 ∷ 0 ∷ 0 ∷ 0 ∷ 0 ∷ 66 ∷ 2 ∷ 1 ∷ 0 ∷ 0 ∷
    0 ∷ 0 ∷ 0 ∷ 167 ∷ 216 ∷ 193 ∷ 7 ∷ 1 ∷ 71 ∷ 174 ∷ 20 ∷ 122 ∷ 225 ∷ 71 ∷ 174 ∷ 1 ∷ 0 ∷ 0 ∷ 0 ∷ 0 ∷ 0 ∷ 137 ∷ 84 ∷ 64 ∷ 3 ∷ []) 107
    ≡ record {
      enough = 0;
      short = 80;
      needed = 108;
      run =
          (1 ∷ 1 ∷ 0 ∷ 108 ∷ 0 ∷ 0 ∷ 0 ∷ 6 ∷ 18 ∷ 27 ∷ 0 ∷ 12 ∷ 81 ∷ 75 ∷ 78 ∷ 0 ∷ 24 ∷ 176 ∷ 172 ∷ 7 ∷ 124 ∷ 243 ∷ 30 ∷ 139 ∷ 0 ∷ 0 ∷ 0 ∷ 0 ∷ 0 ∷ 0 ∷
          0 ∷ 0 ∷ 73 ∷ 66 ∷ 77 ∷ 32 ∷ 32 ∷ 32 ∷ 32 ∷ 32 ∷ 32 ∷ 32 ∷ 32 ∷ 69 ∷ 0 ∷ 0 ∷ 0 ∷ 0 ∷ 0 ∷ 167 ∷ 216 ∷ 192 ∷ 0 ∷ 0 ∷ 0 ∷ 12 ∷ 0 ∷ 0 ∷ 0 ∷ 0 ∷
          0 ∷ 152 ∷ 150 ∷ 128 ∷ 0 ∷ 0 ∷ 0 ∷ 1 ∷ 66 ∷ 2 ∷ 1 ∷ 0 ∷ 0 ∷ 0 ∷ 0 ∷ 0 ∷ 0 ∷ 167 ∷ 216 ∷ 193 ∷ 0 ∷ 0 ∷ 0 ∷ 7 ∷ 1 ∷ 71 ∷ 174 ∷ 20 ∷ 122 ∷ 225 ∷
          71 ∷ 174 ∷ 0 ∷ 0 ∷ 0 ∷ 1 ∷ 0 ∷ 0 ∷ 0 ∷ 0 ∷ 0 ∷ 137 ∷ 84 ∷ 64 ∷ 0 ∷ 0 ∷ 0 ∷ 3 ∷ []);
    }
unfolding told
long-appendages = refl

-- all four types in one block
pub all-four : told
    (0 ∷ 0 ∷ 216 ∷ 0 ∷ 0 ∷ 0 ∷ 7 ∷ 4 ∷ 38 ∷ 12 ∷ 0 ∷ 42 ∷ 81 ∷ 80 ∷ 78 ∷ 106 ∷ 11 ∷ 20 ∷ 88 ∷ 57 ∷ 245 ∷ 174 ∷ 139 ∷ 1 ∷ 32 ∷ 32 ∷ 32 ∷ 32 ∷ 0 ∷ 0 ∷
    49 ∷ 50 ∷ 51 ∷ 65 ∷ 98 ∷ 67 ∷ 73 ∷ 66 ∷ 77 ∷ 32 ∷ 32 ∷ 3 ∷ 232 ∷ 1 ∷ 44 ∷ 3 ∷ 234 ∷ 0 ∷ 200 ∷ 32 ∷ 0 ∷ 0 ∷ 0 ∷ 81 ∷ 81 ∷ 75 ∷ 80 ∷ 0 ∷ 0 ∷ 0 ∷
    7 ∷ 0 ∷ 0 ∷ 0 ∷ 8 ∷ 2 ∷ 32 ∷ 32 ∷ 32 ∷ 32 ∷ 0 ∷ 0 ∷ 0 ∷ 0 ∷ 0 ∷ 0 ∷ 0 ∷ 0 ∷ 65 ∷ 66 ∷ 67 ∷ 68 ∷ 69 ∷ 70 ∷ 112 ∷ 65 ∷ 46 ∷ 67 ∷ 76 ∷ 79 ∷ 0 ∷ 0 ∷
    0 ∷ 0 ∷ 0 ∷ 188 ∷ 97 ∷ 78 ∷ 0 ∷ 0 ∷ 0 ∷ 255 ∷ 0 ∷ 0 ∷ 0 ∷ 0 ∷ 0 ∷ 188 ∷ 97 ∷ 79 ∷ 0 ∷ 0 ∷ 0 ∷ 10 ∷ 67 ∷ 65 ∷ 32 ∷ 32 ∷ 32 ∷ 32 ∷ 32 ∷ 32 ∷ 0 ∷
    0 ∷ 0 ∷ 0 ∷ 0 ∷ 0 ∷ 0 ∷ 0 ∷ 32 ∷ 0 ∷ 0 ∷ 0 ∷ 43 ∷ 81 ∷ 82 ∷ 78 ∷ 106 ∷ 11 ∷ 20 ∷ 88 ∷ 57 ∷ 245 ∷ 174 ∷ 139 ∷ 3 ∷ 32 ∷ 32 ∷ 32 ∷ 32 ∷ 0 ∷ 0 ∷ 0 ∷
    0 ∷ 0 ∷ 0 ∷ 0 ∷ 0 ∷ 90 ∷ 84 ∷ 32 ∷ 32 ∷ 32 ∷ 88 ∷ 1 ∷ 2 ∷ 3 ∷ 233 ∷ 24 ∷ 3 ∷ 235 ∷ 0 ∷ 3 ∷ 236 ∷ 1 ∷ 0 ∷ 40 ∷ 81 ∷ 77 ∷ 78 ∷ 106 ∷ 11 ∷ 20 ∷ 88 ∷
    57 ∷ 245 ∷ 174 ∷ 139 ∷ 4 ∷ 32 ∷ 32 ∷ 32 ∷ 32 ∷ 0 ∷ 0 ∷ 0 ∷ 0 ∷ 0 ∷ 0 ∷ 0 ∷ 0 ∷ 66 ∷ 82 ∷ 75 ∷ 46 ∷ 65 ∷ 32 ∷ 32 ∷ 32 ∷ 32 ∷ 32 ∷ 32 ∷ 66 ∷ 0 ∷
    0 ∷ []) 245
    ≡ record {
      enough = 0;
      short = 80;
      needed = 246;
      run =
          (1 ∷ 4 ∷ 0 ∷ 246 ∷ 0 ∷ 0 ∷ 0 ∷ 7 ∷ 41 ∷ 222 ∷ 0 ∷ 18 ∷ 0 ∷ 78 ∷ 0 ∷ 138 ∷ 0 ∷ 210 ∷ 81 ∷ 75 ∷ 78 ∷ 0 ∷ 24 ∷ 176 ∷ 172 ∷ 7 ∷ 124 ∷ 243 ∷ 30 ∷
          139 ∷ 0 ∷ 0 ∷ 49 ∷ 50 ∷ 51 ∷ 65 ∷ 98 ∷ 67 ∷ 73 ∷ 66 ∷ 77 ∷ 32 ∷ 32 ∷ 32 ∷ 32 ∷ 32 ∷ 32 ∷ 32 ∷ 32 ∷ 82 ∷ 0 ∷ 0 ∷ 0 ∷ 0 ∷ 0 ∷ 152 ∷ 150 ∷ 128 ∷
          0 ∷ 0 ∷ 0 ∷ 3 ∷ 0 ∷ 0 ∷ 0 ∷ 0 ∷ 0 ∷ 152 ∷ 228 ∷ 160 ∷ 0 ∷ 0 ∷ 0 ∷ 2 ∷ 32 ∷ 0 ∷ 0 ∷ 0 ∷ 81 ∷ 75 ∷ 80 ∷ 0 ∷ 0 ∷ 0 ∷ 0 ∷ 1 ∷ 161 ∷ 59 ∷ 134 ∷
          8 ∷ 0 ∷ 0 ∷ 0 ∷ 0 ∷ 0 ∷ 0 ∷ 0 ∷ 0 ∷ 65 ∷ 66 ∷ 67 ∷ 68 ∷ 69 ∷ 70 ∷ 112 ∷ 65 ∷ 46 ∷ 67 ∷ 76 ∷ 79 ∷ 0 ∷ 0 ∷ 0 ∷ 0 ∷ 0 ∷ 188 ∷ 97 ∷ 78 ∷ 0 ∷ 0 ∷
          0 ∷ 25 ∷ 0 ∷ 0 ∷ 0 ∷ 0 ∷ 0 ∷ 188 ∷ 97 ∷ 79 ∷ 0 ∷ 0 ∷ 0 ∷ 1 ∷ 32 ∷ 0 ∷ 0 ∷ 0 ∷ 81 ∷ 77 ∷ 78 ∷ 0 ∷ 24 ∷ 176 ∷ 172 ∷ 7 ∷ 124 ∷ 243 ∷ 30 ∷ 139 ∷
          0 ∷ 0 ∷ 0 ∷ 0 ∷ 0 ∷ 0 ∷ 0 ∷ 0 ∷ 90 ∷ 84 ∷ 32 ∷ 32 ∷ 32 ∷ 32 ∷ 32 ∷ 32 ∷ 32 ∷ 32 ∷ 32 ∷ 88 ∷ 1 ∷ 2 ∷ 0 ∷ 0 ∷ 0 ∷ 0 ∷ 0 ∷ 0 ∷ 0 ∷ 152 ∷ 189 ∷
          144 ∷ 0 ∷ 0 ∷ 0 ∷ 24 ∷ 0 ∷ 0 ∷ 0 ∷ 0 ∷ 0 ∷ 153 ∷ 11 ∷ 176 ∷ 0 ∷ 0 ∷ 0 ∷ 0 ∷ 0 ∷ 0 ∷ 0 ∷ 0 ∷ 0 ∷ 153 ∷ 50 ∷ 192 ∷ 0 ∷ 0 ∷ 0 ∷ 1 ∷ 81 ∷ 77 ∷
          78 ∷ 0 ∷ 24 ∷ 176 ∷ 172 ∷ 7 ∷ 124 ∷ 243 ∷ 30 ∷ 139 ∷ 0 ∷ 0 ∷ 0 ∷ 0 ∷ 0 ∷ 0 ∷ 0 ∷ 0 ∷ 66 ∷ 82 ∷ 75 ∷ 46 ∷ 65 ∷ 32 ∷ 32 ∷ 32 ∷ 32 ∷ 32 ∷ 32 ∷
          66 ∷ 0 ∷ 0 ∷ 0 ∷ 0 ∷ []);
    }
unfolding told
all-four = refl

-- symbols not listed: undivided
pub not_listed : told
    (0 ∷ 0 ∷ 134 ∷ 0 ∷ 0 ∷ 0 ∷ 8 ∷ 2 ∷ 23 ∷ 231 ∷ 0 ∷ 42 ∷ 81 ∷ 80 ∷ 78 ∷ 106 ∷ 11 ∷ 20 ∷ 88 ∷ 57 ∷ 245 ∷ 174 ∷ 139 ∷ 1 ∷ 32 ∷ 32 ∷ 32 ∷ 32 ∷ 0 ∷ 0 ∷
    0 ∷ 0 ∷ 0 ∷ 0 ∷ 0 ∷ 0 ∷ 48 ∷ 49 ∷ 78 ∷ 32 ∷ 32 ∷ 3 ∷ 232 ∷ 1 ∷ 44 ∷ 3 ∷ 234 ∷ 0 ∷ 200 ∷ 32 ∷ 0 ∷ 0 ∷ 0 ∷ 81 ∷ 81 ∷ 75 ∷ 78 ∷ 106 ∷ 11 ∷ 20 ∷ 88 ∷
    57 ∷ 245 ∷ 174 ∷ 139 ∷ 2 ∷ 32 ∷ 32 ∷ 32 ∷ 32 ∷ 0 ∷ 0 ∷ 0 ∷ 0 ∷ 0 ∷ 0 ∷ 0 ∷ 0 ∷ 73 ∷ 66 ∷ 77 ∷ 88 ∷ 32 ∷ 32 ∷ 32 ∷ 32 ∷ 32 ∷ 32 ∷ 32 ∷ 82 ∷ 0 ∷
    0 ∷ 0 ∷ 0 ∷ 0 ∷ 15 ∷ 66 ∷ 64 ∷ 0 ∷ 0 ∷ 0 ∷ 99 ∷ 0 ∷ 0 ∷ 0 ∷ 0 ∷ 0 ∷ 30 ∷ 132 ∷ 128 ∷ 255 ∷ 255 ∷ 255 ∷ 255 ∷ 32 ∷ 32 ∷ 32 ∷ 32 ∷ 32 ∷ 32 ∷ 32 ∷
    32 ∷ 0 ∷ 0 ∷ 0 ∷ 0 ∷ 0 ∷ 0 ∷ 0 ∷ 0 ∷ 32 ∷ 0 ∷ 0 ∷ 0 ∷ []) 133
    ≡ record {
      enough = 0;
      short = 80;
      needed = 134;
      run =
          (1 ∷ 2 ∷ 0 ∷ 134 ∷ 0 ∷ 0 ∷ 0 ∷ 8 ∷ 25 ∷ 87 ∷ 0 ∷ 14 ∷ 0 ∷ 74 ∷ 81 ∷ 75 ∷ 78 ∷ 0 ∷ 24 ∷ 176 ∷ 172 ∷ 7 ∷ 124 ∷ 243 ∷ 30 ∷ 139 ∷ 0 ∷ 0 ∷ 0 ∷ 0 ∷
          0 ∷ 0 ∷ 0 ∷ 0 ∷ 48 ∷ 49 ∷ 78 ∷ 32 ∷ 32 ∷ 32 ∷ 32 ∷ 32 ∷ 32 ∷ 32 ∷ 32 ∷ 82 ∷ 0 ∷ 0 ∷ 0 ∷ 0 ∷ 0 ∷ 152 ∷ 150 ∷ 128 ∷ 0 ∷ 0 ∷ 1 ∷ 44 ∷ 0 ∷ 0 ∷
          0 ∷ 0 ∷ 0 ∷ 152 ∷ 228 ∷ 160 ∷ 0 ∷ 0 ∷ 0 ∷ 200 ∷ 32 ∷ 0 ∷ 0 ∷ 0 ∷ 81 ∷ 75 ∷ 78 ∷ 0 ∷ 24 ∷ 176 ∷ 172 ∷ 7 ∷ 124 ∷ 243 ∷ 30 ∷ 139 ∷ 0 ∷ 0 ∷ 0 ∷
          0 ∷ 0 ∷ 0 ∷ 0 ∷ 0 ∷ 73 ∷ 66 ∷ 77 ∷ 88 ∷ 32 ∷ 32 ∷ 32 ∷ 32 ∷ 32 ∷ 32 ∷ 32 ∷ 82 ∷ 0 ∷ 0 ∷ 0 ∷ 0 ∷ 0 ∷ 15 ∷ 66 ∷ 64 ∷ 0 ∷ 0 ∷ 0 ∷ 99 ∷ 0 ∷ 0 ∷
          0 ∷ 0 ∷ 0 ∷ 30 ∷ 132 ∷ 128 ∷ 255 ∷ 255 ∷ 255 ∷ 255 ∷ 32 ∷ 0 ∷ 0 ∷ 0 ∷ []);
    }
unfolding told
not_listed = refl

-- lots of 1, 10, 25 and 100
pub round-lots : told
    (0 ∷ 0 ∷ 218 ∷ 0 ∷ 0 ∷ 0 ∷ 9 ∷ 4 ∷ 35 ∷ 22 ∷ 0 ∷ 81 ∷ 81 ∷ 75 ∷ 78 ∷ 106 ∷ 11 ∷ 20 ∷ 88 ∷ 57 ∷ 245 ∷ 174 ∷ 139 ∷ 1 ∷ 32 ∷ 32 ∷ 32 ∷ 32 ∷ 0 ∷ 0 ∷
    0 ∷ 0 ∷ 0 ∷ 0 ∷ 0 ∷ 0 ∷ 66 ∷ 82 ∷ 75 ∷ 46 ∷ 65 ∷ 32 ∷ 32 ∷ 32 ∷ 32 ∷ 32 ∷ 32 ∷ 82 ∷ 0 ∷ 0 ∷ 0 ∷ 0 ∷ 0 ∷ 15 ∷ 66 ∷ 64 ∷ 0 ∷ 0 ∷ 0 ∷ 77 ∷ 0 ∷ 0 ∷
    0 ∷ 0 ∷ 0 ∷ 30 ∷ 132 ∷ 128 ∷ 0 ∷ 0 ∷ 0 ∷ 1 ∷ 32 ∷ 32 ∷ 32 ∷ 32 ∷ 32 ∷ 32 ∷ 32 ∷ 32 ∷ 0 ∷ 0 ∷ 0 ∷ 0 ∷ 0 ∷ 0 ∷ 0 ∷ 0 ∷ 32 ∷ 0 ∷ 0 ∷ 0 ∷ 42 ∷ 81 ∷
    80 ∷ 78 ∷ 106 ∷ 11 ∷ 20 ∷ 88 ∷ 57 ∷ 245 ∷ 174 ∷ 139 ∷ 2 ∷ 32 ∷ 32 ∷ 32 ∷ 32 ∷ 0 ∷ 0 ∷ 0 ∷ 0 ∷ 0 ∷ 0 ∷ 0 ∷ 0 ∷ 84 ∷ 69 ∷ 78 ∷ 32 ∷ 32 ∷ 0 ∷ 100 ∷
    0 ∷ 9 ∷ 0 ∷ 200 ∷ 0 ∷ 19 ∷ 32 ∷ 0 ∷ 0 ∷ 0 ∷ 42 ∷ 81 ∷ 80 ∷ 78 ∷ 106 ∷ 11 ∷ 20 ∷ 88 ∷ 57 ∷ 245 ∷ 174 ∷ 139 ∷ 3 ∷ 32 ∷ 32 ∷ 32 ∷ 32 ∷ 0 ∷ 0 ∷ 0 ∷
    0 ∷ 0 ∷ 0 ∷ 0 ∷ 0 ∷ 90 ∷ 84 ∷ 32 ∷ 32 ∷ 32 ∷ 0 ∷ 100 ∷ 255 ∷ 255 ∷ 0 ∷ 200 ∷ 0 ∷ 24 ∷ 32 ∷ 0 ∷ 0 ∷ 0 ∷ 42 ∷ 81 ∷ 80 ∷ 78 ∷ 106 ∷ 11 ∷ 20 ∷ 88 ∷
    57 ∷ 245 ∷ 174 ∷ 139 ∷ 4 ∷ 32 ∷ 32 ∷ 32 ∷ 32 ∷ 0 ∷ 0 ∷ 0 ∷ 0 ∷ 0 ∷ 0 ∷ 0 ∷ 0 ∷ 73 ∷ 66 ∷ 77 ∷ 32 ∷ 32 ∷ 0 ∷ 0 ∷ 0 ∷ 99 ∷ 0 ∷ 0 ∷ 0 ∷ 100 ∷ 32 ∷
    0 ∷ 0 ∷ 0 ∷ []) 257
    ≡ record {
      enough = 0;
      short = 80;
      needed = 258;
      run =
          (1 ∷ 4 ∷ 1 ∷ 2 ∷ 0 ∷ 0 ∷ 0 ∷ 9 ∷ 34 ∷ 200 ∷ 0 ∷ 18 ∷ 0 ∷ 78 ∷ 0 ∷ 138 ∷ 0 ∷ 198 ∷ 81 ∷ 75 ∷ 78 ∷ 0 ∷ 24 ∷ 176 ∷ 172 ∷ 7 ∷ 124 ∷ 243 ∷ 30 ∷
          139 ∷ 0 ∷ 0 ∷ 0 ∷ 0 ∷ 0 ∷ 0 ∷ 0 ∷ 0 ∷ 66 ∷ 82 ∷ 75 ∷ 46 ∷ 65 ∷ 32 ∷ 32 ∷ 32 ∷ 32 ∷ 32 ∷ 32 ∷ 82 ∷ 0 ∷ 0 ∷ 0 ∷ 0 ∷ 0 ∷ 15 ∷ 66 ∷ 64 ∷ 0 ∷ 0 ∷
          0 ∷ 77 ∷ 0 ∷ 0 ∷ 0 ∷ 0 ∷ 0 ∷ 30 ∷ 132 ∷ 128 ∷ 0 ∷ 0 ∷ 0 ∷ 1 ∷ 32 ∷ 0 ∷ 0 ∷ 0 ∷ 81 ∷ 75 ∷ 78 ∷ 0 ∷ 24 ∷ 176 ∷ 172 ∷ 7 ∷ 124 ∷ 243 ∷ 30 ∷ 139 ∷
          0 ∷ 0 ∷ 0 ∷ 0 ∷ 0 ∷ 0 ∷ 0 ∷ 0 ∷ 84 ∷ 69 ∷ 78 ∷ 32 ∷ 32 ∷ 32 ∷ 32 ∷ 32 ∷ 32 ∷ 32 ∷ 32 ∷ 82 ∷ 0 ∷ 0 ∷ 0 ∷ 0 ∷ 0 ∷ 15 ∷ 66 ∷ 64 ∷ 0 ∷ 0 ∷ 0 ∷
          0 ∷ 0 ∷ 0 ∷ 0 ∷ 0 ∷ 0 ∷ 30 ∷ 132 ∷ 128 ∷ 0 ∷ 0 ∷ 0 ∷ 1 ∷ 32 ∷ 0 ∷ 0 ∷ 0 ∷ 81 ∷ 75 ∷ 78 ∷ 0 ∷ 24 ∷ 176 ∷ 172 ∷ 7 ∷ 124 ∷ 243 ∷ 30 ∷ 139 ∷ 0 ∷
          0 ∷ 0 ∷ 0 ∷ 0 ∷ 0 ∷ 0 ∷ 0 ∷ 90 ∷ 84 ∷ 32 ∷ 32 ∷ 32 ∷ 32 ∷ 32 ∷ 32 ∷ 32 ∷ 32 ∷ 32 ∷ 82 ∷ 0 ∷ 0 ∷ 0 ∷ 0 ∷ 0 ∷ 15 ∷ 66 ∷ 64 ∷ 0 ∷ 0 ∷ 10 ∷ 61 ∷
          0 ∷ 0 ∷ 0 ∷ 0 ∷ 0 ∷ 30 ∷ 132 ∷ 128 ∷ 0 ∷ 0 ∷ 0 ∷ 0 ∷ 32 ∷ 0 ∷ 0 ∷ 0 ∷ 81 ∷ 75 ∷ 78 ∷ 0 ∷ 24 ∷ 176 ∷ 172 ∷ 7 ∷ 124 ∷ 243 ∷ 30 ∷ 139 ∷ 0 ∷ 0 ∷
          0 ∷ 0 ∷ 0 ∷ 0 ∷ 0 ∷ 0 ∷ 73 ∷ 66 ∷ 77 ∷ 32 ∷ 32 ∷ 32 ∷ 32 ∷ 32 ∷ 32 ∷ 32 ∷ 32 ∷ 82 ∷ 0 ∷ 0 ∷ 0 ∷ 0 ∷ 0 ∷ 0 ∷ 0 ∷ 0 ∷ 0 ∷ 0 ∷ 0 ∷ 0 ∷ 0 ∷ 0 ∷
          0 ∷ 0 ∷ 0 ∷ 0 ∷ 0 ∷ 0 ∷ 0 ∷ 0 ∷ 0 ∷ 1 ∷ 32 ∷ 0 ∷ 0 ∷ 0 ∷ []);
    }
unfolding told
round-lots = refl

-- ---- packing, by the lengths of messages: each block's lengths, its number and the length of all

pub record Packed : Type 0 where
  pub blocks : List (List ℕ)
  pub numbers : List ℕ
  pub bytes : ℕ

unfoldable pub packing : ℕ → List ℕ → Packed
unfolding be part field be_bytes sum checksum_of next_of offsets front written pack_into packed run_from run_of fill_into filled
packing s ns =
    record {
      blocks = map (map length) (packed (map (λ n. replicate n 81) ns));
      numbers = map sequence_in (run_of s (map (λ n. replicate n 81) ns));
      bytes = filled ns;
    }

-- 1,000 bytes fit, 1,001 do not
pub just-full : packing 7 (500 ∷ 486 ∷ []) ≡ record { blocks = (500 ∷ 486 ∷ []) ∷ []; numbers = 7 ∷ []; bytes = 1000 }
unfolding packing
just-full = refl

pub one-too-many : packing 7 (500 ∷ 487 ∷ []) ≡ record { blocks = (500 ∷ []) ∷ (487 ∷ []) ∷ []; numbers = 7 ∷ 8 ∷ []; bytes = 1011 }
unfolding packing
one-too-many = refl

-- a long message closes a block, and the next one begins anew
pub a-long-one : packing 1 (60 ∷ 948 ∷ 60 ∷ 36 ∷ []) ≡ record { blocks = (60 ∷ []) ∷ (948 ∷ []) ∷ (60 ∷ 36 ∷ []) ∷ []; numbers = 1 ∷ 2 ∷ 3 ∷ []; bytes = 1142 }
unfolding packing
a-long-one = refl

-- numbers past the modulus: two messages, then one
pub past-the-modulus : packing 4294967295 (400 ∷ 400 ∷ 400 ∷ []) ≡ record { blocks = (400 ∷ 400 ∷ []) ∷ (400 ∷ []) ∷ []; numbers = 4294967295 ∷ 1 ∷ []; bytes = 1226 }
unfolding packing
past-the-modulus = refl
