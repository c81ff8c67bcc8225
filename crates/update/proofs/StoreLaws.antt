-- What the functions on a page owe, over plain values.
-- Assumes nothing.
use Prim.Native.Nat.{ℕ, suc, ◌+◌, ◌-◌, ◌<◌}
use mathlib.Core.Path.{◌≡◌, refl, sym, ap, ap₂, ◌∙◌}
use mathlib.Core.List.{List, [], ◌∷◌, ◌++◌, append-nil, append_assoc}
use native.Mathlib.Omega.{arith}
use lib.ListN.{length, take, drop, replicate, length-append, length-replicate, drop_of_length-le}
use lib.Seq.{take-add, take_all}
use Rattle.field.specs.Field.{Bytes, part, field, splice, be_bytes}
use Rattle.field.proofs.Laws.{splice-join, length-be_bytes, be_bytes-field, be_bytes-one, part-put}
use Rattle.entries.specs.Publication.{no_entry, no_entries, publication_length}
use Rattle.update.specs.Parts.{blank_page, new_head, emptied}
use Rattle.text.specs.Form.{symbol_length}
use Rattle.page.specs.Layout.{entries_at, slots_at, quotes_length, page_length, lot_at, primary_at, hints_at, hint_count, head_length}

-- ---- Start of Day

length-no_entries : length no_entries ≡ publication_length
unfolding no_entries no_entry
length-no_entries = refl

write-rest : (p rest : List ℕ) → length rest ≡ (publication_length + quotes_length) → length p ≡ page_length → splice p entries_at rest ≡ part p 0 head_length ++ rest
unfolding splice part
write-rest p rest n w =
    ap (λ (k : ℕ). take head_length p ++ rest ++ drop (entries_at + k) p) n
    ∙ ap (λ (l : List ℕ). take head_length p ++ rest ++ l) (drop_of_length-le p {i = page_length} (omega arith))
    ∙ append-nil (take head_length p ++ rest)

pub empty-is : (p p' p'' : List ℕ) → length p ≡ page_length → p' ≡ splice p entries_at no_entries → p'' ≡ splice p' slots_at (replicate (page_length - slots_at) 0) → p'' ≡ emptied p
unfolding emptied blank_page
empty-is p p' p'' w e f =
    let n : length (no_entries ++ replicate quotes_length 0) ≡ (publication_length + quotes_length) = length-append no_entries (replicate quotes_length 0) ∙ ap₂ ◌+◌ length-no_entries (length-replicate {A = ℕ} quotes_length 0) in
    f ∙ ap (λ (z : List ℕ). splice z slots_at (replicate quotes_length 0)) e
    ∙ splice-join p entries_at publication_length no_entries (replicate quotes_length 0) length-no_entries
    ∙ write-rest p (no_entries ++ replicate quotes_length 0) n w

-- ---- a symbol is listed

pub length-head : (s : List ℕ) (lot primary : ℕ) → length s ≡ symbol_length → length (new_head s lot primary) ≡ head_length
length-head s lot primary e = length-append s (lot ∷ primary ∷ replicate hint_count 0) ∙ ap₂ ◌+◌ e (ap (λ (k : ℕ). suc (suc k)) (length-replicate {A = ℕ} hint_count 0))

module _ (p s : List ℕ) (lot primary : ℕ) (w : length p ≡ page_length) (eleven : length s ≡ symbol_length) (b : Bytes s) (small : lot < 256) (letter : primary < 256) where
  head : List ℕ
  head = be_bytes 8 (field s 0 8) ++ be_bytes 2 (field s 8 2) ++ be_bytes 1 (field s 10 1) ++ be_bytes 1 lot ++ be_bytes 1 primary

  head-is : head ≡ s ++ (lot ∷ primary ∷ [])
  unfolding head part
  head-is =
      rw (be_bytes-field s 0 8 (omega arith) b, be_bytes-field s 8 2 (omega arith) b, be_bytes-field s 10 1 (omega arith) b, be_bytes-one lot small, be_bytes-one primary letter)
      (ap (λ (l : List ℕ). l ++ (lot ∷ []) ++ (primary ∷ []))
      (ap (λ (l : List ℕ). l ++ take 1 (drop 10 s)) (sym (take-add 8 2 s)) ∙ sym (take-add 10 1 s) ∙ take_all symbol_length s (omega arith))
      ∙ append_assoc s (lot ∷ []) (primary ∷ []))

  pub list-is : (p1 p2 p3 p4 p5 p6 p7 : List ℕ) (x y z : ℕ) → x ≡ field s 0 8 → y ≡ field s 8 2 → z ≡ field s 10 1
      → p1 ≡ splice p 0 (be_bytes 8 x) → p2 ≡ splice p1 8 (be_bytes 2 y) → p3 ≡ splice p2 10 (be_bytes 1 z) → p4 ≡ splice p3 lot_at (be_bytes 1 lot) → p5 ≡ splice p4 primary_at (be_bytes 1 primary)
      → p6 ≡ splice p5 hints_at (replicate (head_length - hints_at) 0) → p7 ≡ emptied p6 → p7 ≡ blank_page (new_head s lot primary)
  unfolding emptied head
  list-is p1 p2 p3 p4 p5 p6 p7 x y z ex ey ez e1 e2 e3 e4 e5 e6 e7 =
      let a : p2 ≡ splice p 0 (be_bytes 8 (field s 0 8) ++ be_bytes 2 (field s 8 2)) = e2 ∙ rw (e1, ex, ey) (splice-join p 0 8 _ _ (length-be_bytes 8 (field s 0 8))) in
      let n2 : length (be_bytes 8 (field s 0 8) ++ be_bytes 2 (field s 8 2)) ≡ 10 = length-append (be_bytes 8 (field s 0 8)) (be_bytes 2 (field s 8 2)) ∙ ap₂ ◌+◌ (length-be_bytes 8 (field s 0 8)) (length-be_bytes 2 (field s 8 2)) in
      let c : p3 ≡ splice p 0 (be_bytes 8 (field s 0 8) ++ be_bytes 2 (field s 8 2) ++ be_bytes 1 (field s 10 1)) = e3 ∙ rw (a, ez) (splice-join p 0 10 _ _ n2) in
      let n3 : length (be_bytes 8 (field s 0 8) ++ be_bytes 2 (field s 8 2) ++ be_bytes 1 (field s 10 1)) ≡ symbol_length =
      length-append (be_bytes 8 (field s 0 8) ++ be_bytes 2 (field s 8 2)) (be_bytes 1 (field s 10 1)) ∙ ap₂ ◌+◌ n2 (length-be_bytes 1 (field s 10 1)) in
      let s3 : List ℕ = be_bytes 8 (field s 0 8) ++ be_bytes 2 (field s 8 2) ++ be_bytes 1 (field s 10 1) in
      let d : p4 ≡ splice p 0 (s3 ++ be_bytes 1 lot) = e4 ∙ rw c (splice-join p 0 symbol_length _ _ n3) in
      let n4 : length (s3 ++ be_bytes 1 lot) ≡ primary_at = length-append s3 (be_bytes 1 lot) ∙ ap₂ ◌+◌ n3 (length-be_bytes 1 lot) in
      let f : p5 ≡ splice p 0 (s ++ (lot ∷ primary ∷ [])) = e5 ∙ rw d (splice-join p 0 primary_at _ _ n4) ∙ ap (splice p 0) head-is in
      let n5 : length (s ++ (lot ∷ primary ∷ [])) ≡ hints_at = length-append s (lot ∷ primary ∷ []) ∙ ap (λ (k : ℕ). k + 2) eleven in
      let g : p6 ≡ splice p 0 (new_head s lot primary) =
      e6 ∙ rw f (splice-join p 0 hints_at (s ++ (lot ∷ primary ∷ [])) (replicate hint_count 0) n5) ∙ ap (splice p 0) (append_assoc s (lot ∷ primary ∷ []) (replicate hint_count 0)) in
      e7 ∙ ap blank_page (ap (λ (l : List ℕ). part l 0 head_length) g ∙ part-put p 0 (new_head s lot primary) head_length (length-head s lot primary eleven) (omega arith))
