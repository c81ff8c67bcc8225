-- The output after the messages were copied into their place and framed.
-- Assumes nothing.
use Prim.Native.Nat.{ℕ, ◌+◌, ◌-◌, ◌≤◌}
use mathlib.Core.Path.{◌≡◌, refl, sym, ap, ◌∙◌}
use mathlib.Core.List.{List, ◌++◌}
use native.Mathlib.Omega.{arith}
use lib.ListN.{length, take, drop, length-append}
use lib.Seq.{take-add, drop_at, length-take-le, drop-append-add, drop-drop}
use borrow.Rule.Slice.PartMut.{put_mid}
use Rattle.field.specs.Field.{part, splice}
use Rattle.field.proofs.Laws.{part-put, length-splice, lent_back}
use Rattle.block.specs.Block.{offset_at, checksum_of}
use Rattle.block.specs.Written.{Out, joined, length_with, front, cut_by, written, write_number, written_out}
use Rattle.block.proofs.WrittenLaws.{length-framed}
use Rattle.writer.proofs.GoodLaws.{Good, cut-count, cut-joined}

-- w bytes from a on, of the first a + w
drop-take : (l : List ℕ) (a w : ℕ) → a ≤ length l → drop a (take (a + w) l) ≡ part l a w
unfolding part
drop-take l a w h = ap (drop a) (take-add a w l) ∙ drop_at (take a l) (take w (drop a l)) a (length-take-le a l h)

drop-behind : (l : List ℕ) (a : ℕ) (b : List ℕ) (m : ℕ) → a ≤ length l → drop (a + length b + m) (splice l a b) ≡ drop (a + length b + m) l
unfolding splice
drop-behind l a b m h =
    let n : length (take a l ++ b) ≡ a + length b = length-append (take a l) b ∙ ap (λ (k : ℕ). k + length b) (length-take-le a l h) in
    ap (λ (k : ℕ). drop (k + m) (take a l ++ b ++ drop (a + length b) l)) (sym n)
    ∙ drop-append-add (take a l ++ b) (drop (a + length b) l) m
    ∙ drop-drop m (a + length b) l

module _ (b ns out : List ℕ) (s : ℕ) (g : Good ns (length b)) (r : length_with (length ns) (length b) ≤ length out) where
  abbrev len : ℕ
  len = length_with (length ns) (length b)

  length-out : (out1 : List ℕ) → out1 ≡ splice out (offset_at (length ns)) b → length out1 ≡ length out
  length-out out1 e = ap length e ∙ length-splice out (offset_at (length ns)) b r

  pub lent_length : (out1 : List ℕ) → out1 ≡ splice out (offset_at (length ns)) b → length (take (len - 0) out1) ≡ len
  lent_length out1 e =
      let z : len - 0 ≡ len = omega arith in
      rw z (length-take-le len out1 (omega (arith, length-out out1 e)))

  lent-messages : (out1 : List ℕ) → out1 ≡ splice out (offset_at (length ns)) b → drop (offset_at (length ns)) (take (len - 0) out1) ≡ b
  lent-messages out1 e =
      let z : len - 0 ≡ offset_at (length ns) + length b = omega arith in
      ap (λ (k : ℕ). drop (offset_at (length ns)) (take k out1)) z
      ∙ drop-take out1 (offset_at (length ns)) (length b) (omega (arith, length-out out1 e))
      ∙ ap (λ (l : List ℕ). part l (offset_at (length ns)) (length b)) e
      ∙ part-put out (offset_at (length ns)) b (length b) refl (omega arith)

  length-block : length (written s (cut_by ns b)) ≡ len
  unfolding written
  length-block =
      length-framed s (checksum_of (front s 0 (cut_by ns b) ++ joined (cut_by ns b))) (cut_by ns b)
      ∙ (λ i. length_with (cut-count ns b i) (length (cut-joined ns b g.adds i)))

  over : (p : List ℕ) → length p ≡ len → splice (splice out (offset_at (length ns)) b) 0 p ≡ splice out 0 p
  unfolding splice
  over p e =
      let n : 0 + length p ≡ offset_at (length ns) + length b + 0 = omega (arith, e) in
      ap (λ (k : ℕ). p ++ drop k (splice out (offset_at (length ns)) b)) n
      ∙ ap (λ (l : List ℕ). p ++ l) (drop-behind out (offset_at (length ns)) b 0 (omega arith))
      ∙ ap (λ (k : ℕ). p ++ drop k out) (sym n)

  pub out-is : (out1 p : List ℕ) → out1 ≡ splice out (offset_at (length ns)) b → p ≡ written s (cut_by ns (drop (offset_at (length ns)) (take (len - 0) out1))) → 0 ≡ write_number ns b (length out)
      → ◌≡◌ {A = Out} (record { number = 0; length = len; output = put_mid 0 (len - 0) out1 p }) (written_out b ns s out)
  unfolding written_out
  out-is out1 p e f n =
      let q : p ≡ written s (cut_by ns b) = f ∙ ap (λ (l : List ℕ). written s (cut_by ns l)) (lent-messages out1 e) in
      let l : length p ≡ len = ap length q ∙ length-block in
      let z : len - 0 ≡ len = omega arith in
      let o : put_mid 0 (len - 0) out1 p ≡ splice out 0 (written s (cut_by ns b)) =
      lent_back 0 (len - 0) out1 p (l ∙ sym z) ∙ ap (λ (x : List ℕ). splice x 0 p) e ∙ over p l ∙ ap (splice out 0) q in
      rw (← n) (λ i. record { number = 0; length = len; output = o i })
