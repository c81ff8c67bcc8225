-- A publication is 96 bytes.
-- Assumes nothing.
use Prim.Native.Nat.{ℕ, zero, suc, ◌+◌, ◌<◌}
use mathlib.Core.Path.{◌≡◌, ap₂, ◌∙◌}
use mathlib.Core.List.{List, [], ◌∷◌, ◌++◌}
use Rattle.std.specs.Prelude.{Option, None, Some}
use native.Mathlib.Omega.{arith}
use lib.Dec.{lit<}
use lib.ListN.{length, get_or, replicate, length-append, length-replicate}
use Rattle.field.specs.Field.{Bytes, be_bytes}
use Rattle.field.proofs.Laws.{length-be_bytes, bytes-be_bytes, bytes-append}
use Rattle.ranking.specs.declared.Side.TheVariants.{Bid, Offer}
use Rattle.ranking.specs.declared.Candidate.{Candidate}
use Rattle.ranking.specs.declared.Reason.{Reason}
use Rattle.ranking.specs.declared.Reason.TheVariants.{Price, Size, Time, Name}
use Rattle.entries.specs.Entries.{Entries}
use Rattle.entries.specs.Publication.{no_entry, entry_bytes, reason_byte, national_name, finra_name, odd_name, publication, publication_length}

-- n bytes
record Run (n : ℕ) (l : List ℕ) : Type 0 where
  long : length l ≡ n
  bytes : Bytes l

run-append : {m n : ℕ} {a b : List ℕ} → Run m a → Run n b → Run (m + n) (a ++ b)
run-append {m} {n} {a} {b} r s = record { long = length-append a b ∙ ap₂ (λ (x y : ℕ). x + y) r.long s.long; bytes = bytes-append a b r.bytes s.bytes }

run-number : (w v : ℕ) → Run w (be_bytes w v)
run-number w v = record { long = length-be_bytes w v; bytes = bytes-be_bytes w v }

run-same : (n v : ℕ) → v < 256 → Run n (replicate n v)
run-same n v h = record { long = length-replicate n v; bytes = all n }
  where
    all : (n : ℕ) (i : ℕ) → get_or (replicate n v) i 0 < 256
    all zero i = omega arith
    all (suc n) zero = h
    all (suc n) (suc i) = all n i

run-reason : (r : Option Reason) → Run 1 (reason_byte r ∷ [])
run-reason None = run-same 1 32 (lit< tt)
run-reason (Some Price) = run-same 1 80 (lit< tt)
run-reason (Some Size) = run-same 1 83 (lit< tt)
run-reason (Some Time) = run-same 1 84 (lit< tt)
run-reason (Some Name) = run-same 1 76 (lit< tt)

run-entry : (name : Candidate → List ℕ) → ((c : Candidate) → Run 4 (name c)) → (o : Option Candidate) → Run 16 (entry_bytes name o)
unfolding no_entry
run-entry name h None = run-append (run-same 4 32 (lit< tt)) (run-same 12 0 (lit< tt))
run-entry name h (Some c) = run-append (h c) (run-append (run-number 8 c.price) (run-number 4 c.size))

run-publication : (e : Entries) → Run publication_length (publication e)
unfolding publication
run-publication e =
    run-append (national (e.reason Bid) (e.national Bid))
    (run-append (national (e.reason Offer) (e.national Offer))
    (run-append (finra (e.finra Bid))
    (run-append (finra (e.finra Offer))
    (run-append (odd (e.odd Bid)) (odd (e.odd Offer))))))
  where
    national : (r : Option Reason) (o : Option Candidate) → Run 16 (entry_bytes (national_name r) o)
    national r = run-entry (national_name r) (λ c. run-append (run-append (run-number 1 c.name) (run-number 1 c.condition)) (run-append (run-reason r) (run-same 1 32 (lit< tt))))

    finra : (o : Option Candidate) → Run 16 (entry_bytes finra_name o)
    finra = run-entry finra_name (λ c. run-number 4 c.name)

    odd : (o : Option Candidate) → Run 16 (entry_bytes odd_name o)
    odd = run-entry odd_name (λ c. run-append (run-number 1 c.name) (run-same 3 32 (lit< tt)))

pub length-publication : (e : Entries) → length (publication e) ≡ publication_length
length-publication e = (run-publication e).long

pub bytes-publication : (e : Entries) → Bytes (publication e)
bytes-publication e = (run-publication e).bytes
