-- Both ways round (document 02, T-01): what the writer wrote passes 30 to 34 and yields the same messages, and a block that passes them, taken apart
-- and given to the writer under its own number, comes back byte for byte.
-- Assumes nothing.
use Prim.Native.Nat.{ℕ, suc, ◌+◌, ◌≤◌}
use mathlib.Core.Path.{◌≡◌, refl, sym, ap, ◌∙◌}
use mathlib.Core.List.{List, [], ◌∷◌, map}
use native.Mathlib.Omega.{arith}
use borrow.Author.Tests.{le-leb, eq-eqb}
use lib.ListN.{length, length-append}
use Rattle.field.specs.Field.{Bytes, splice}
use Rattle.lists.specs.Lists.{sum}
use Rattle.block.specs.Block.{block_longest, messages_most, sequence_in, messages_of, checked}
use Rattle.std.specs.Prelude.{Ok}
use Rattle.block.specs.Written.{joined, length_with, cut_by, lengths_good, written, write_number, written_out}
use Rattle.block.proofs.CheckLaws.{passed as passed_is}
use Rattle.block.proofs.WrittenLaws.{whole_length, Carried, written_back, written-passes, written-again, passed-carried}
use Rattle.writer.proofs.GoodLaws.{Good, cut-count, cut-lengths, cut-joined, cut-back}
use Rattle.writer.proofs.NumberLaws.{passed, passed-alone}

module _ (b ns : List ℕ) (s room : ℕ) (e : 0 ≡ write_number ns b room) where
  good : Good ns (length b)
  good = (passed ns b room e).0

  can : Carried (cut_by ns b)
  can =
      let c : length (cut_by ns b) ≡ length ns = cut-count ns b in
      let j : joined (cut_by ns b) ≡ b = cut-joined ns b good.adds in
      record {
        some = rw c good.some;
        few = rw c good.few;
        long = rw (cut-lengths ns b (omega (arith, good.adds))) good.long;
        short = rw (c, j) good.short;
        alone = passed-alone ns b room e;
      }

  -- "any block written passes those checks and yields the same messages": those whose bytes and lengths were lent
  pub written-round : (checked (written s (cut_by ns b)) ≡ Ok (length ns))
      × ((messages_of (written s (cut_by ns b)) ≡ cut_by ns b)
      × ((joined (cut_by ns b) ≡ b) × (map length (cut_by ns b) ≡ ns)))
  written-round = (
    written-passes s (cut_by ns b) can ∙ ap Ok (cut-count ns b),
    (
      written_back s (cut_by ns b) can,
      (cut-joined ns b good.adds, cut-lengths ns b (omega (arith, good.adds))),
    ),
  )

sum-lengths : (ms : List (List ℕ)) → sum (map length ms) ≡ length (joined ms)
unfolding sum
sum-lengths [] = refl
sum-lengths (m ∷ ms) = ap (λ (n : ℕ). length m + n) (sum-lengths ms) ∙ sym (length-append m (joined ms))

length-lengths : (ms : List (List ℕ)) → length (map length ms) ≡ length ms
length-lengths [] = refl
length-lengths (m ∷ ms) = ap suc (length-lengths ms)

module _ (b out : List ℕ) (c : ℕ) (y : Bytes b) (pass : checked b ≡ Ok c) (room : length b ≤ length out) where
  abbrev ms : List (List ℕ)
  ms = messages_of b

  carries : Carried ms
  carries = passed-carried b c y (passed_is b c pass)

  len : length_with (length (map length ms)) (length (joined ms)) ≡ length b
  len = ap (λ (n : ℕ). length_with n (length (joined ms))) (length-lengths ms) ∙ whole_length b c y (passed_is b c pass)

  number : write_number (map length ms) (joined ms) (length out) ≡ 0
  unfolding write_number lengths_good
  number =
      let k = carries in
      let n : length (map length ms) ≡ length ms = length-lengths ms in
      let some : 1 ≤ length (map length ms) = rw n k.some in
      let few : length (map length ms) ≤ messages_most = rw n k.few in
      rw (
        le-leb 1 (length (map length ms)) some,
        le-leb (length (map length ms)) messages_most few,
        k.long,
        eq-eqb (sum (map length ms)) (length (joined ms)) (sum-lengths ms),
        le-leb (length_with (length (map length ms)) (length (joined ms))) block_longest (omega (arith, len, (passed_is b c pass).short)),
        cut-back ms,
        k.alone,
        le-leb (length_with (length (map length ms)) (length (joined ms))) (length out) (omega (arith, len)),
      )

  -- "Any block that passes checks 30 to 34, taken apart and written again under its own number, comes back byte for byte"
  pub block-round : written_out (joined ms) (map length ms) (sequence_in b) out ≡ record { number = 0; length = length b; output = splice out 0 b }
  unfolding written_out
  block-round =
      let w : written (sequence_in b) (cut_by (map length ms) (joined ms)) ≡ b = ap (written (sequence_in b)) (cut-back ms) ∙ written-again b c y (passed_is b c pass) in
      rw number (λ i. record { number = 0; length = len i; output = splice out 0 (w i) })
