-- A publication's bytes, and which of its entries changed (document 01, "Publication" and the change flags).
-- Assumes nothing.
use Rattle.std.specs.Prelude.{ℕ, ◌+◌, ◌*◌, ◌^◌, Bool, true, false, ◌&&◌, List, [], ◌∷◌, ◌++◌, eqb, replicate, Option, None, Some}
use Rattle.field.specs.Field.{field, be_bytes}
use Rattle.field.specs.Ascii.{L, P, S, T, space}
use Rattle.ranking.specs.declared.Side.TheVariants.{Bid, Offer}
use Rattle.ranking.specs.declared.Candidate.{Candidate}
use Rattle.ranking.specs.declared.Reason.{Reason}
use Rattle.ranking.specs.declared.Reason.TheVariants.{Price, Size, Time, Name}
use Rattle.entries.specs.Entries.{Entries}

-- "six entries of 16 bytes: 4 bytes of name, price 8, size 4"
abbrev pub entry_length : ℕ
entry_length = 16

abbrev pub publication_length : ℕ
publication_length = 6 * entry_length

-- "None is four spaces and zeros"
unfoldable pub no_entry : List ℕ
no_entry = space ∷ space ∷ space ∷ space ∷ replicate 12 0

-- "4 bytes of name, price 8, size 4"
abbrev pub entry_bytes : (Candidate → List ℕ) → Option Candidate → List ℕ
entry_bytes name None = no_entry
entry_bytes name (Some c) = name c ++ (be_bytes 8 c.price ++ be_bytes 4 c.size)

-- "P, S, T or L by the comparison with the second best, or a space if there is no second" (document 02, T-08)
abbrev pub reason_byte : Option Reason → ℕ
reason_byte None = space
reason_byte (Some Price) = P
reason_byte (Some Size) = S
reason_byte (Some Time) = T
reason_byte (Some Name) = L

-- "national: letter, condition", what put it ahead, a space
abbrev pub national_name : Option Reason → Candidate → List ℕ
national_name r c = be_bytes 1 c.name ++ be_bytes 1 c.condition ++ (reason_byte r ∷ space ∷ [])

-- "FINRA: maker"
abbrev pub finra_name : Candidate → List ℕ
finra_name c = be_bytes 4 c.name

-- "odd: letter, three spaces"
abbrev pub odd_name : Candidate → List ℕ
odd_name c = be_bytes 1 c.name ++ (space ∷ space ∷ space ∷ [])

-- "national bid, offer, FINRA bid, offer, odd bid, offer"
unfoldable pub publication : Entries → List ℕ
publication e =
    entry_bytes (national_name (e.reason Bid)) (e.national Bid)
    ++ (entry_bytes (national_name (e.reason Offer)) (e.national Offer)
    ++ (entry_bytes finra_name (e.finra Bid)
    ++ (entry_bytes finra_name (e.finra Offer)
    ++ (entry_bytes odd_name (e.odd Bid)
    ++ entry_bytes odd_name (e.odd Offer)))))

unfoldable pub no_entries : List ℕ
no_entries = no_entry ++ (no_entry ++ (no_entry ++ (no_entry ++ (no_entry ++ no_entry))))

-- ---- change flags, from a publication before and after

-- entry k: name, price and size
abbrev pub same_entry : List ℕ → List ℕ → ℕ → Bool
same_entry a b k =
    eqb (field a (entry_length * k) 4) (field b (entry_length * k) 4) && eqb (field a (entry_length * k + 4) 8) (field b (entry_length * k + 4) 8) && eqb (field a (entry_length * k + 12) 4) (field b (entry_length * k + 12) 4)

-- "1 national bid, 2 national offer, 4 FINRA bid, 8 FINRA offer, 16 odd bid, 32 odd offer, set exactly if that published entry changed"
abbrev pub flag : ℕ → Bool → ℕ
flag k true = 0
flag k false = 2 ^ k

unfoldable pub change_flags : List ℕ → List ℕ → ℕ
change_flags a b =
    flag 0 (same_entry a b 0) + flag 1 (same_entry a b 1) + flag 2 (same_entry a b 2) + flag 3 (same_entry a b 3)
    + flag 4 (same_entry a b 4) + flag 5 (same_entry a b 5)
