-- Header, table and checksum written round messages that stand in their place.
-- Assumes nothing.
use Prim.Native.Nat.{ℕ, ◌+◌, ◌*◌, ◌≤◌}
use mathlib.Core.Path.{◌≡◌, refl, sym, ap, ◌∙◌}
use mathlib.Core.List.{List, [], ◌∷◌, ◌++◌}
use native.Mathlib.Omega.{arith}
use lib.ListN.{length, drop, length-drop}
use Rattle.field.specs.Field.{splice, be_bytes}
use Rattle.field.proofs.Laws.{splice-join, be_bytes-one}
use Rattle.lists.specs.Lists.{sum}
use Rattle.block.specs.Block.{offset_at, messages_most, checksum_of}
use Rattle.block.specs.Written.{joined, length_with, offsets, front, cut_by, written}
use Rattle.writer.proofs.GoodLaws.{cut-count, cut-lengths, cut-joined}

-- the checksum into its field
put-checksum : (s k : ℕ) (ms : List (List ℕ)) → splice (front s 0 ms ++ joined ms) 8 (be_bytes 2 k) ≡ front s k ms ++ joined ms
unfolding front be_bytes splice
put-checksum s k ms = refl

length-table : (a : ℕ) (ns : List ℕ) → length (offsets a ns) ≡ 2 * length ns
unfolding offsets be_bytes
length-table a [] = refl
length-table a (n ∷ ns) = omega (arith, length-table (a + n) ns)

module _ (b : List ℕ) (ns : List ℕ) (few : length ns ≤ messages_most) (adds : offset_at (length ns) + sum ns ≡ length b) where
  abbrev ms : List (List ℕ)
  ms = cut_by ns (drop (offset_at (length ns)) b)

  -- the six writes in front of the messages
  abbrev head : ℕ → List ℕ
  head s = (1 ∷ length ns ∷ []) ++ (be_bytes 2 (length b) ++ (be_bytes 4 s ++ (be_bytes 2 0 ++ offsets (offset_at (length ns)) ns)))

  rest : length (drop (offset_at (length ns)) b) ≡ sum ns
  rest = simp length-drop (omega arith)

  front-is : (s : ℕ) → front s 0 ms ++ joined ms ≡ head s ++ drop (offset_at (length ns)) b
  unfolding front
  front-is s =
      let j : joined ms ≡ drop (offset_at (length ns)) b = cut-joined ns (drop (offset_at (length ns)) b) (sym rest) in
      let l : length_with (length ns) (length (drop (offset_at (length ns)) b)) ≡ length b = omega (arith, rest) in
      rw (j, cut-count ns (drop (offset_at (length ns)) b), cut-lengths ns (drop (offset_at (length ns)) b) (omega (arith, rest)), l)

  written-head : (s : ℕ) → splice b 0 (head s) ≡ head s ++ drop (offset_at (length ns)) b
  unfolding splice be_bytes
  written-head s =
      let n : 0 + length (head s) ≡ offset_at (length ns) = omega (arith, length-table (offset_at (length ns)) ns) in
      ap (λ (k : ℕ). head s ++ drop k b) n

  writes : (s : ℕ) → splice (splice (splice (splice (splice (splice b 0 (be_bytes 1 1)) 1 (be_bytes 1 (length ns))) 2 (be_bytes 2 (length b))) 4 (be_bytes 4 s)) 8 (be_bytes 2 0)) 10 (offsets (offset_at (length ns)) ns)
      ≡ splice b 0 (head s)
  unfolding be_bytes
  writes s =
      let t = offsets (offset_at (length ns)) ns in
      let one : be_bytes 1 (length ns) ≡ length ns ∷ [] = be_bytes-one (length ns) (omega arith) in
      rw one
      (ap (λ (x : List ℕ). splice (splice (splice (splice x 2 (be_bytes 2 (length b))) 4 (be_bytes 4 s)) 8 (be_bytes 2 0)) 10 t) (splice-join b 0 1 (be_bytes 1 1) (length ns ∷ []) refl)
      ∙ ap (λ (x : List ℕ). splice (splice (splice x 4 (be_bytes 4 s)) 8 (be_bytes 2 0)) 10 t) (splice-join b 0 2 (1 ∷ length ns ∷ []) (be_bytes 2 (length b)) refl)
      ∙ ap (λ (x : List ℕ). splice (splice x 8 (be_bytes 2 0)) 10 t) (splice-join b 0 4 ((1 ∷ length ns ∷ []) ++ be_bytes 2 (length b)) (be_bytes 4 s) refl)
      ∙ ap (λ (x : List ℕ). splice x 10 t) (splice-join b 0 8 (((1 ∷ length ns ∷ []) ++ be_bytes 2 (length b)) ++ be_bytes 4 s) (be_bytes 2 0) refl)
      ∙ splice-join b 0 10 ((((1 ∷ length ns ∷ []) ++ be_bytes 2 (length b)) ++ be_bytes 4 s) ++ be_bytes 2 0) t refl)

  pub frame_is : (s c l k : ℕ) (b1 b2 b3 b4 b5 b6 b7 : List ℕ) → c ≡ length ns → l ≡ length b
      → b1 ≡ splice b 0 (be_bytes 1 1) → b2 ≡ splice b1 1 (be_bytes 1 c) → b3 ≡ splice b2 2 (be_bytes 2 l) → b4 ≡ splice b3 4 (be_bytes 4 s) → b5 ≡ splice b4 8 (be_bytes 2 0)
      → b6 ≡ splice b5 10 (offsets (offset_at (length ns)) ns) → k ≡ checksum_of b6 → b7 ≡ splice b6 8 (be_bytes 2 k) → b7 ≡ written s ms
  unfolding written
  frame_is s c l k b1 b2 b3 b4 b5 b6 b7 ec el e1 e2 e3 e4 e5 e6 ek e7 =
      let six : b6 ≡ front s 0 ms ++ joined ms = e6 ∙ rw (e5, e4, e3, e2, e1, ec, el) (writes s) ∙ written-head s ∙ sym (front-is s) in
      e7 ∙ rw (ek, six) (put-checksum s (checksum_of (front s 0 ms ++ joined ms)) ms)
