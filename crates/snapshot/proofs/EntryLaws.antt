-- "the publication's national and FINRA entries, T-08's byte aside" (document 02, T-12): what a subscriber reads of a publication's entries.
-- Assumes nothing.
use Prim.Native.Nat.{ℕ, ◌+◌, ◌≤◌}
use mathlib.Core.Path.{◌≡◌, refl, ap, ◌∙◌}
use mathlib.Core.List.{List, [], ◌∷◌, ◌++◌}
use Rattle.std.specs.Prelude.{Option, None, Some}
use native.Mathlib.Omega.{arith}
use lib.Dec.{lit≤}
use lib.ListN.{length}
use Rattle.field.specs.Field.{part, be_bytes}
use Rattle.field.specs.Ascii.{A}
use Rattle.field.proofs.Laws.{part-part}
use Rattle.field.proofs.JoinLaws.{part-front, part-after, part-whole}
use Rattle.ranking.specs.declared.Side.TheVariants.{Bid, Offer}
use Rattle.ranking.specs.declared.Candidate.{Candidate}
use Rattle.ranking.specs.declared.Reason.{Reason}
use Rattle.quote.specs.declared.Quote.{Quote}
use Rattle.entries.specs.Entries.{Entries}
use Rattle.entries.specs.Publication.{entry_length, no_entry, entry_bytes, national_name, finra_name, odd_name, publication}
use Rattle.snapshot.specs.Snapshot.{BothEntries, both_length, both_in, Snapshot, shown_from, snapshot_of}
use Rattle.snapshot.specs.Receiver.{carried_entry, carried_both, carried}

-- ---- four entries in front

module _ (a b c d r : List ℕ) (la : length a ≡ entry_length) (lb : length b ≡ entry_length) (lc : length c ≡ entry_length) (ld : length d ≡ entry_length) where
  abbrev e : List ℕ
  e = a ++ (b ++ (c ++ (d ++ r)))

  first_two : both_in (part e 0 both_length) ≡ record { bid = a; offer = b }
  first_two =
      let x : part (part e 0 both_length) 0 entry_length ≡ a = part-part e 0 both_length 0 entry_length (lit≤ tt) ∙ part-front a (b ++ (c ++ (d ++ r))) 0 entry_length (omega (arith, la)) ∙ part-whole a entry_length la in
      let y : part (part e 0 both_length) entry_length entry_length ≡ b =
      part-part e 0 both_length entry_length entry_length (lit≤ tt) ∙ part-after a (b ++ (c ++ (d ++ r))) entry_length 0 entry_length la
      ∙ part-front b (c ++ (d ++ r)) 0 entry_length (omega (arith, lb)) ∙ part-whole b entry_length lb in
      λ i. record { bid = x i; offer = y i }

  next-two : both_in (part e both_length both_length) ≡ record { bid = c; offer = d }
  next-two =
      let x : part (part e both_length both_length) 0 entry_length ≡ c =
      part-part e both_length both_length 0 entry_length (lit≤ tt) ∙ part-after a (b ++ (c ++ (d ++ r))) entry_length entry_length entry_length la
      ∙ part-after b (c ++ (d ++ r)) entry_length 0 entry_length lb ∙ part-front c (d ++ r) 0 entry_length (omega (arith, lc)) ∙ part-whole c entry_length lc in
      let y : part (part e both_length both_length) entry_length entry_length ≡ d =
      part-part e both_length both_length entry_length entry_length (lit≤ tt) ∙ part-after a (b ++ (c ++ (d ++ r))) entry_length both_length entry_length la
      ∙ part-after b (c ++ (d ++ r)) entry_length entry_length entry_length lb ∙ part-after c (d ++ r) entry_length 0 entry_length lc
      ∙ part-front d r 0 entry_length (omega (arith, ld)) ∙ part-whole d entry_length ld in
      λ i. record { bid = x i; offer = y i }

-- ---- their bytes

national-long : (r : Option Reason) (o : Option Candidate) → length (entry_bytes (national_name r) o) ≡ entry_length
unfolding no_entry be_bytes
national-long r None = refl
national-long r (Some c) = refl

finra-long : (o : Option Candidate) → length (entry_bytes finra_name o) ≡ entry_length
unfolding no_entry be_bytes
finra-long None = refl
finra-long (Some c) = refl

-- a national entry comes back with a space for T-08's byte
national-carried : (r : Option Reason) (o : Option Candidate) → carried_entry (entry_bytes (national_name r) o) ≡ entry_bytes (national_name None) o
unfolding no_entry be_bytes part
national-carried r None = refl
national-carried r (Some c) = refl

-- what is read of a publication
abbrev pub entries_read : List ℕ → Entries → (ℕ → Quote) → Snapshot
entries_read s e q =
    record {
      symbol = s;
      national = record { bid = entry_bytes (national_name None) (e.national Bid); offer = entry_bytes (national_name None) (e.national Offer) };
      finra = record { bid = entry_bytes finra_name (e.finra Bid); offer = entry_bytes finra_name (e.finra Offer) };
      letters = shown_from q 26 A;
    }

pub carried-entries : (s : List ℕ) (e : Entries) (q : ℕ → Quote) → carried (snapshot_of s (publication e) q) ≡ entries_read s e q
unfolding snapshot_of publication
carried-entries s e q =
    let a : List ℕ = entry_bytes (national_name (e.reason Bid)) (e.national Bid) in
    let b : List ℕ = entry_bytes (national_name (e.reason Offer)) (e.national Offer) in
    let c : List ℕ = entry_bytes finra_name (e.finra Bid) in
    let d : List ℕ = entry_bytes finra_name (e.finra Offer) in
    let r : List ℕ = entry_bytes odd_name (e.odd Bid) ++ entry_bytes odd_name (e.odd Offer) in
    let la = national-long (e.reason Bid) (e.national Bid) in
    let lb = national-long (e.reason Offer) (e.national Offer) in
    let lc = finra-long (e.finra Bid) in
    let ld = finra-long (e.finra Offer) in
    let n : BothEntries → BothEntries → Snapshot = λ (x y : BothEntries). record { symbol = s; national = carried_both x; finra = y; letters = shown_from q 26 A } in
    (λ i. n (first_two a b c d r la lb lc ld i) (next-two a b c d r la lb lc ld i))
    ∙ (λ i. record { symbol = s; national = record { bid = national-carried (e.reason Bid) (e.national Bid) i; offer = national-carried (e.reason Offer) (e.national Offer) i }; finra = record { bid = c; offer = d }; letters = shown_from q 26 A })
