-- Decoding by 002's layout (document 02, T-12): a subscriber that knows section 2 and the tables of 3.3 to 3.5, and nothing of how blocks are filled.
-- It admits the three messages in any order, a snapshot without FINRA's, and a pad byte; it looks at no field that is unused here.
-- Assumes nothing.
use Rattle.std.specs.Prelude.{ℕ, zero, suc, ◌+◌, ◌%◌, Bool, true, false, not, ◌&&◌, ◌||◌, cond, List, [], ◌∷◌, ◌++◌, map, leb, eqb, length, take, drop, Option, None, Some}
use Rattle.field.specs.Field.{part, field}
use Rattle.field.specs.Ascii.{C, F, P, R}
use Rattle.lists.specs.Lists.{at, member, same_list, map_option, bind_option}
use Rattle.text.specs.Form.{symbol_length}
use Rattle.entries.specs.Publication.{no_entry}
use Rattle.snapshot.specs.Snapshot.{Priced, Shown, BothEntries, Snapshot}
use Rattle.snapshot.specs.Feed.{spaces, feed_version, feed_header, feed_longest, consolidated_length, participant_length, finra_length, delivery_flag, feed_checksum, is_nil}

-- ---- a block (2.1 to 2.3)

abbrev pub size_in : List ℕ → ℕ
size_in b = field b 1 2

abbrev pub sequence_number_in : List ℕ → ℕ
sequence_number_in b = field b 3 4

abbrev pub message_count_in : List ℕ → ℕ
message_count_in b = at b 7

abbrev pub delivery_flag_in : List ℕ → ℕ
delivery_flag_in b = at b 8

unfoldable pub sound_block : List ℕ → Bool
sound_block b =
    leb feed_header (length b)
    && (leb (length b) feed_longest
    && (eqb (length b % 2) 0
    && (eqb (size_in b) (length b)
    && (eqb (at b 0) feed_version
    && (eqb (feed_checksum b) (field b 22 2) && leb 1 (message_count_in b))))))

-- 2.1: the block's end, or a pad byte of "binary zero (Hex 0x00)"
abbrev pub pad_at_most : List ℕ → Bool
pad_at_most [] = true
pad_at_most (x ∷ []) = eqb x 0
pad_at_most (x ∷ y ∷ b) = false

-- a message's header (2.4)
abbrev pub message_header : ℕ
message_header = 5

-- 2.4.1: "the total message length inclusive of the Message Header and Message Body"; that many messages, end to end
unfoldable pub messages_laid : ℕ → List ℕ → Option (List (List ℕ))
messages_laid zero b = cond (pad_at_most b) (Some []) None
messages_laid (suc k) b =
    cond (leb message_header (field b 0 2) && leb (field b 0 2) (length b))
    (map_option (λ (ms : List (List ℕ)). take (field b 0 2) b ∷ ms) (messages_laid k (drop (field b 0 2) b)))
    None

-- a block's messages, and those of the blocks behind it, if there are any
abbrev pub followed : Bool → Option (List (List ℕ)) → List (List ℕ) → Option (List (List ℕ))
followed true rest ms = Some ms
followed false rest ms = map_option (λ (ns : List (List ℕ)). ms ++ ns) rest

-- the messages of the blocks from this number on, for at most that many blocks
unfoldable pub received : ℕ → ℕ → Bool → List ℕ → Option (List (List ℕ))
received zero sequence first b = None
received (suc n) sequence first b =
    cond (sound_block (take (size_in b) b) && (eqb (sequence_number_in b) sequence && eqb (delivery_flag_in b) (delivery_flag first (is_nil (drop (size_in b) b)))))
    (bind_option (messages_laid (message_count_in b) (drop feed_header (take (size_in b) b)))
    (followed (is_nil (drop (size_in b) b)) (received n (sequence + message_count_in b) false (drop (size_in b) b))))
    None

-- ---- messages (3.3 to 3.5), by their places behind the header

abbrev pub symbol_in : List ℕ → List ℕ
symbol_in m = part m message_header symbol_length

abbrev pub is_message : ℕ → ℕ → List ℕ → Bool
is_message type length' m = eqb (at m 2) R && (eqb (at m 3) type && eqb (length m) length')

abbrev pub is_consolidated : List ℕ → Bool
is_consolidated m = is_message C consolidated_length m

abbrev pub is_participant : List ℕ → Bool
is_participant m = is_message P participant_length m

abbrev pub is_finra : List ℕ → Bool
is_finra m = is_message F finra_length m

abbrev pub is_known : List ℕ → Bool
is_known m = is_consolidated m || (is_participant m || is_finra m)

abbrev pub is_about : List ℕ → List ℕ → Bool
is_about symbol m = same_list (symbol_in m) symbol

-- 2.4.3: Participant ID
abbrev pub letter_in : List ℕ → ℕ
letter_in m = at m 4

-- a publication's national entry: letter, condition, two spaces, price, size
abbrev pub national_at : List ℕ → ℕ → List ℕ
national_at m i = part m i 2 ++ spaces 2 ++ part m (i + 2) 12

abbrev pub national_in : List ℕ → BothEntries
national_in m = record { bid = national_at m 58; offer = national_at m 76 }

-- a publication's FINRA entry: maker, price, size
abbrev pub finra_at : List ℕ → ℕ → List ℕ
finra_at m i = part m (i + 12) 4 ++ part m i 12

abbrev pub finra_in : List ℕ → BothEntries
finra_in m = record { bid = finra_at m 17; offer = finra_at m 34 }

abbrev pub priced_at : List ℕ → ℕ → Priced
priced_at m i = record { price = field m i 8; size = field m (i + 8) 4 }

abbrev pub shown_in : List ℕ → Shown
shown_in m = record { letter = letter_in m; condition = at m 16; bid = priced_at m 17; offer = priced_at m 29 }

-- ---- a snapshot

abbrev pub every_message : (List ℕ → Bool) → List (List ℕ) → Bool
every_message p [] = true
every_message p (m ∷ ms) = p m && every_message p ms

-- the messages for which a test holds
abbrev pub chosen : (List ℕ → Bool) → List (List ℕ) → List (List ℕ)
chosen p [] = []
chosen p (m ∷ ms) = cond (p m) (m ∷ chosen p ms) (chosen p ms)

abbrev pub is_distinct : List ℕ → Bool
is_distinct [] = true
is_distinct (x ∷ xs) = not (member xs x) && is_distinct xs

-- of a snapshot with Consolidated message c, Participant messages ps and FINRA messages fs: no other message, one symbol, FINRA's once at most, no
-- letter twice
abbrev pub well_made : List ℕ → List (List ℕ) → List (List ℕ) → List (List ℕ) → Bool
well_made c ps fs ms =
    every_message is_known ms && (every_message (is_about (symbol_in c)) ms && (leb (length fs) 1 && is_distinct (map letter_in ps)))

-- 3.5: "If FINRA BBO is not available, FINRA BBO Snapshot message may not be published"
abbrev pub finra_of : List (List ℕ) → BothEntries
finra_of [] = record { bid = no_entry; offer = no_entry }
finra_of (m ∷ ms) = finra_in m

abbrev pub snapshot_by : List (List ℕ) → List (List ℕ) → List (List ℕ) → List (List ℕ) → Option Snapshot
snapshot_by [] ps fs ms = None
snapshot_by (c ∷ []) ps fs ms =
    cond (well_made c ps fs ms) (Some (record { symbol = symbol_in c; national = national_in c; finra = finra_of fs; letters = map shown_in ps })) None
snapshot_by (c ∷ d ∷ cs) ps fs ms = None

unfoldable pub snapshot_in : List (List ℕ) → Option Snapshot
snapshot_in ms = snapshot_by (chosen is_consolidated ms) (chosen is_participant ms) (chosen is_finra ms) ms

-- what the bytes of a snapshot tell, if they are one
unfoldable pub decoded : List ℕ → Option Snapshot
decoded b = bind_option (received (length b) 1 true b) snapshot_in

-- ---- what is carried

-- of a national entry: its third byte (T-08's) and its fourth, a space, have no place in 002
abbrev pub carried_entry : List ℕ → List ℕ
carried_entry e = part e 0 2 ++ spaces 2 ++ part e 4 12

abbrev pub carried_both : BothEntries → BothEntries
carried_both e = record { bid = carried_entry e.bid; offer = carried_entry e.offer }

abbrev pub carried : Snapshot → Snapshot
carried x = record { symbol = x.symbol; national = carried_both x.national; finra = x.finra; letters = x.letters }
