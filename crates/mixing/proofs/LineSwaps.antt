-- What a taken block writes into the opening, its line's record and its charge, before or after the messages of a block: the same bytes, and the same is told.
-- Assumes nothing.
use Prim.Native.Nat.{ℕ, ◌+◌, ◌<◌, ◌≤◌}
use mathlib.Core.Path.{◌≡◌, refl, sym, ap, ◌∙◌}
use mathlib.Core.Bool.{Bool, true, false, ◌||◌, cond}
use mathlib.Core.List.{List, [], ◌∷◌, map}
use Rattle.std.specs.Prelude.{Option, Some, None}
use mathlib.Core.Logic.{◌⊎◌, inl, inr}
use native.Mathlib.Omega.{arith}
use lib.Dec.{eqb, ltb}
use lib.ListN.{length}
use borrow.Author.Tests.{ltb-true, ltb-false}
use Rattle.field.specs.Field.{be, part, field, splice, be_bytes}
use Rattle.field.proofs.Laws.{length-be_bytes, field-part, field-part-0, splice-part, splice-inside}
use Rattle.lists.specs.Lists.{upper}
use Rattle.lists.proofs.Tests.{clash}
use Rattle.allowance.specs.Allowance.{allowance_length, charges_from, charged_to, charged_bytes}
use Rattle.message.specs.Message.{symbol_of, code_of, partly_taken, Part, round_part, odd_part, maker_part, finra_part, status_part, parts_of}
use Rattle.message.proofs.SpokenLaws.{Shaped, AllShaped, shaped}
use Rattle.page.specs.Layout.{hints_at, page_length, page_symbol}
use Rattle.update.specs.Parts.{Reading, reading_of, known_of}
use Rattle.opening.specs.declared.Line.{Line}
use Rattle.opening.specs.Layout.{lines_at, line_length, line_count, lines_length, allowance_at, opening_length, book_length, page_start, line_at}
use Rattle.opening.specs.Opening.{line_bytes, on_allowance, count_of, page_at, pages_in, bucket_of, hint_of, page_place, reading_at, reading_for}
use Rattle.opening.proofs.OpeningLaws.{Sound, sound-by, count_by, pages-by}
use Rattle.opening.proofs.PageLaws.{OpeningKept, place-by}
use Rattle.opening.proofs.LineLaws.{length-line}
use Rattle.line.specs.Line.{settled}
use Rattle.work.proofs.PartLaws.{part-kept}
use Rattle.work.specs.Work.{part_on, parts_on, code_on, message_on, messages_on, told_on}
use Rattle.regions.proofs.RegionLaws.{Region, within, in_within, of-within, Apart, within-apart, Alike, stretch, part-read, Local, local-then, local-wider, local-splice, local-swap, local-reads}
use Rattle.mixing.proofs.PartSwaps.{same-book, hit_by, hits, on_hit, part_sound, page-after}
use Rattle.mixing.proofs.MessageSwaps.{message-sound, quiet}

-- the lines and the allowance
abbrev pub behind_head : Region
behind_head = within lines_at lines_length

abbrev opening : Region
opening = within 0 opening_length

-- ---- whatever is written there, before or after messages

module _ (n : ℕ) (w : List ℕ → List ℕ) (l : Local (book_length n) behind_head w) where
  opening-local : Local (book_length n) opening w
  opening-local =
      local-wider (book_length n) behind_head opening w (λ i e. let z = of-within lines_at lines_length i e in in_within 0 opening_length i (omega arith) (omega (arith, z.1))) l

  module _ (b : List ℕ) (sd : Sound n b) where
    -- the head
    head-kept : (a m : ℕ) → a + m ≤ lines_at → part (w b) a m ≡ part b a m
    head-kept a m h =
        local-reads (book_length n) behind_head (within a m) w (λ z. part z a m) l (part-read (book_length n) a m) (λ k r s. within-apart a m lines_at lines_length h k s r) b sd.size

    pub write-sound : Sound n (w b)
    write-sound = sound-by b (w b) n sd (l.size b sd.size ∙ sym sd.size) (λ a m h. head-kept a m h)

    count_kept : count_of (w b) ≡ count_of b
    count_kept = count_by b (w b) (λ a m h. head-kept a m h)

    page-kept : (k : ℕ) → page_at (w b) k ≡ page_at b k
    unfolding page_at
    page-kept k =
        local-reads (book_length n) behind_head (within (page_start k) page_length) w (λ z. part z (page_start k) page_length) l (part-read (book_length n) (page_start k) page_length)
        (within-apart lines_at lines_length (page_start k) page_length (omega arith)) b sd.size

    pages-kept : pages_in (w b) ≡ pages_in b
    pages-kept = pages-by b (w b) count_kept (λ k h. page-kept k)

    place_kept : (s : ℕ) → page_place (w b) s ≡ page_place b s
    unfolding hint_of
    place_kept s = place-by b (w b) s count_kept (λ k l. ap (λ (p : List ℕ). page_symbol p) (page-kept k)) (ap (λ (p : List ℕ). field p (hints_at + bucket_of s) 1) (page-kept 0))

    hits-kept : (r : Part) (k : ℕ) → hits r (w b) k ≡ hits r b k
    hits-kept (round_part s l q) k = ap (λ (z : Option ℕ). hit_by z k) (place_kept s)
    hits-kept (odd_part s l o) k = ap (λ (z : Option ℕ). hit_by z k) (place_kept s)
    hits-kept (maker_part s m q) k = ap (λ (z : Option ℕ). hit_by z k) (place_kept s)
    hits-kept (finra_part c) k = refl
    hits-kept (status_part s x) k = ap (λ (z : Option ℕ). hit_by z k) (place_kept s)

    code-kept : (l : ℕ) (m : List ℕ) → code_on l m (w b) ≡ code_on l m b
    code-kept l m = ap (λ (r : Option Reading). code_of (known_of r) l m) (ap (reading_at (w b)) (place_kept (symbol_of m)) ∙ go (page_place b (symbol_of m)))
      where
        go : (o : Option ℕ) → reading_at (w b) o ≡ reading_at b o
        go (Some k) = ap (λ (p : List ℕ). Some (reading_of p)) (page-kept k)
        go None = refl

  part-after : (b : List ℕ) → Sound n b → (r : Part) → Shaped r → part_on r (w b) ≡ w (part_on r b)
  part-after b sd r e =
      let b' : List ℕ = w b in
      let s' : Sound n b' = write-sound b sd in
      let o : OpeningKept b (part_on r b) = part-kept n r b sd e in
      let o' : OpeningKept b' (part_on r b') = part-kept n r b' s' e in
      let s : Sound n (part_on r b) = part_sound n b sd r e in
      let a : Alike opening (w b) (w (part_on r b)) =
      opening-local.inside b (part_on r b) sd.size s.size (λ k m. sym (o.front k 1 (omega (arith, in_opening k m)))) in
      same-book n (part_on r b') (w (part_on r b))
      (o'.front 0 opening_length (omega arith) ∙ stretch opening (w b) (w (part_on r b)) a opening_length 0 (in_within 0 opening_length))
      (λ k m.
      page-after n b' s' r e k m
      ∙ (λ t. on_hit r (hits-kept b sd r k t) (page-kept b sd k t))
      ∙ sym (page-after n b sd r e k m) ∙ sym (page-kept (part_on r b) s k))
      (o'.size ∙ s'.size) (l.size (part_on r b) s.size)
    where
      in_opening : (k : ℕ) → opening k ≡ true → k < opening_length
      in_opening k m = omega (arith, (of-within 0 opening_length k m).1)

  module _ (c : ℕ) (u : upper c ≡ true) where
    parts-after : (rs : List Part) → AllShaped rs → (b : List ℕ) → Sound n b → parts_on rs (w b) ≡ w (parts_on rs b)
    unfolding parts_on
    parts-after [] a b sd = refl
    parts-after (r ∷ rs) a b sd = ap (parts_on rs) (part-after b sd r a.0) ∙ parts-after rs a.1 (part_on r b) (part_sound n b sd r a.0)

    message-after : (m b : List ℕ) → Sound n b → message_on c m (w b) ≡ w (message_on c m b)
    message-after m b sd =
        ap (λ (k : ℕ). parts_on (parts_of k m) (w b)) (code-kept b sd c m) ∙ parts-after (parts_of (code_on c m b) m) (shaped (known_of (reading_for b (symbol_of m))) c m u) b sd

    pub messages-after : (ms : List (List ℕ)) (b : List ℕ) → Sound n b → messages_on c ms (w b) ≡ w (messages_on c ms b)
    unfolding messages_on
    messages-after [] b sd = refl
    messages-after (m ∷ ms) b sd = ap (messages_on c ms) (message-after m b sd) ∙ messages-after ms (message_on c m b) (message-sound n c u m b sd)

    pub told-after : (ms : List (List ℕ)) (b : List ℕ) → Sound n b → map quiet (told_on (w b) c ms) ≡ map quiet (told_on b c ms)
    unfolding told_on
    told-after [] b sd = refl
    told-after (m ∷ ms) b sd =
        let q : code_on c m (w b) ≡ code_on c m b = code-kept b sd c m in
        let r : map quiet (told_on (message_on c m (w b)) c ms) ≡ map quiet (told_on (message_on c m b) c ms) =
        ap (λ (z : List ℕ). map quiet (told_on z c ms)) (message-after m b sd) ∙ told-after ms (message_on c m b) (message-sound n c u m b sd) in
        λ k. record { code = q k; flags = 0; partly = partly_taken (q k) m } ∷ r k

-- ---- a line's record, and the charge of its block

-- line i's record written
abbrev pub line_set : ℕ → Line → List ℕ → List ℕ
line_set i x b = splice b (line_at i) (line_bytes x)

abbrev pub charge_at : ℕ → ℕ
charge_at i = allowance_at + (charges_from + i)

-- one more charged to line i
abbrev pub charge_set : ℕ → List ℕ → List ℕ
charge_set i b = splice b (charge_at i) (be_bytes 1 (field b (charge_at i) 1 + 1))

-- bare: the block is free, or no allowance is set
abbrev pub settle_set : ℕ → Line → Bool → List ℕ → List ℕ
settle_set i x bare b = cond bare (line_set i x b) (charge_set i (line_set i x b))

-- where both stand
abbrev pub own_of : ℕ → Region
own_of i k = within (line_at i) line_length k || within (charge_at i) 1 k

or_left : (s t : Bool) → s ≡ true → s || t ≡ true
or_left true t e = refl
or_left false t e = clash (sym e)

or_right : (s t : Bool) → t ≡ true → s || t ≡ true
or_right true t e = refl
or_right false t e = e

or-either : (s t : Bool) → s || t ≡ true → (s ≡ true) ⊎ (t ≡ true)
or-either true t e = inl refl
or-either false t e = inr e

module _ (i : ℕ) (h : i < line_count) where
  own_behind : (k : ℕ) → own_of i k ≡ true → behind_head k ≡ true
  own_behind k e = go (or-either (within (line_at i) line_length k) (within (charge_at i) 1 k) e)
    where
      go : (within (line_at i) line_length k ≡ true) ⊎ (within (charge_at i) 1 k ≡ true) → behind_head k ≡ true
      go (inl x) = let z = of-within (line_at i) line_length k x in in_within lines_at lines_length k (omega (arith, z.0)) (omega (arith, z.1))
      go (inr x) = let z = of-within (charge_at i) 1 k x in in_within lines_at lines_length k (omega (arith, z.0)) (omega (arith, z.1))

  module _ (n : ℕ) (x : Line) where
    line-local : Local (book_length n) (own_of i) (line_set i x)
    line-local =
        local-splice (book_length n) (own_of i) (line_at i) line_length (λ b. line_bytes x) (omega arith)
        (λ k lo hi. or_left (within (line_at i) line_length k) (within (charge_at i) 1 k) (in_within (line_at i) line_length k lo hi)) (λ p v. length-line x) (λ p q v u a. refl)

    charge-local : Local (book_length n) (own_of i) (charge_set i)
    unfolding field
    charge-local =
        local-splice (book_length n) (own_of i) (charge_at i) 1 (λ b. be_bytes 1 (be (part b (charge_at i) 1) + 1)) (omega arith) own
        (λ p v. length-be_bytes 1 (be (part p (charge_at i) 1) + 1)) (λ p q v u a. ap (λ (z : List ℕ). be_bytes 1 (be z + 1)) (a (charge_at i) (own (charge_at i) (omega arith) (omega arith))))
      where
        own : (k : ℕ) → charge_at i ≤ k → k < charge_at i + 1 → own_of i k ≡ true
        own k lo hi = or_right (within (line_at i) line_length k) (within (charge_at i) 1 k) (in_within (charge_at i) 1 k lo hi)

    pub settle-local : (t : Bool) → Local (book_length n) (own_of i) (settle_set i x t)
    settle-local true = line-local
    settle-local false = local-then (book_length n) (own_of i) (line_set i x) (charge_set i) line-local charge-local

    pub settle-behind : (t : Bool) → Local (book_length n) behind_head (settle_set i x t)
    settle-behind t = local-wider (book_length n) (own_of i) behind_head (settle_set i x t) own_behind (settle-local t)

-- a charge stands behind every line's record
record-charge : (i j : ℕ) → i < line_count → Apart (within (line_at i) line_length) (within (charge_at j) 1)
record-charge i j h = within-apart (line_at i) line_length (charge_at j) 1 (omega arith)

order : (A : ℕ → ℕ → Type 0) (i j : ℕ) → (i ≡ j → ⊥) → (i < j → A i j) → (j < i → A i j) → A i j
order A i j d f g = go (ltb i j) refl
  where
    go : (t : Bool) → ltb i j ≡ t → A i j
    go true e = f (ltb-true i j e)
    go false e = g (omega (arith, ltb-false i j e, d))

records-apart : (i j : ℕ) → (i ≡ j → ⊥) → Apart (within (line_at i) line_length) (within (line_at j) line_length)
records-apart i j d k x y =
    order (λ i j. ⊥) i j d (λ h. within-apart (line_at i) line_length (line_at j) line_length (omega arith) k x y) (λ h. within-apart (line_at j) line_length (line_at i) line_length (omega arith) k y x)

charges-apart : (i j : ℕ) → (i ≡ j → ⊥) → Apart (within (charge_at i) 1) (within (charge_at j) 1)
charges-apart i j d k x y = order (λ i j. ⊥) i j d (λ h. within-apart (charge_at i) 1 (charge_at j) 1 (omega arith) k x y) (λ h. within-apart (charge_at j) 1 (charge_at i) 1 (omega arith) k y x)

pub owns-apart : (i j : ℕ) → i < line_count → j < line_count → (i ≡ j → ⊥) → Apart (own_of i) (own_of j)
owns-apart i j h q d k x y =
    go (or-either (within (line_at i) line_length k) (within (charge_at i) 1 k) x) (or-either (within (line_at j) line_length k) (within (charge_at j) 1 k) y)
  where
    go : (within (line_at i) line_length k ≡ true) ⊎ (within (charge_at i) 1 k ≡ true) → (within (line_at j) line_length k ≡ true) ⊎ (within (charge_at j) 1 k ≡ true) → ⊥
    go (inl x) (inl y) = records-apart i j d k x y
    go (inl x) (inr y) = record-charge i j h k x y
    go (inr x) (inl y) = record-charge j i q k y x
    go (inr x) (inr y) = charges-apart i j d k x y

-- the head, and the other lines' records
pub head_apart : (i at m : ℕ) → at + m ≤ lines_at → Apart (own_of i) (within at m)
head_apart i at m h k x y = go (or-either (within (line_at i) line_length k) (within (charge_at i) 1 k) x)
  where
    go : (within (line_at i) line_length k ≡ true) ⊎ (within (charge_at i) 1 k ≡ true) → ⊥
    go (inl x) = within-apart at m (line_at i) line_length (omega arith) k y x
    go (inr x) = within-apart at m (charge_at i) 1 (omega arith) k y x

pub line-apart : (i j : ℕ) → j < line_count → (i ≡ j → ⊥) → Apart (own_of i) (within (line_at j) line_length)
line-apart i j h d k x y = go (or-either (within (line_at i) line_length k) (within (charge_at i) 1 k) x)
  where
    go : (within (line_at i) line_length k ≡ true) ⊎ (within (charge_at i) 1 k ≡ true) → ⊥
    go (inl x) = records-apart i j d k x y
    go (inr x) = record-charge j i h k y x

-- two lines', in either order
pub settle-swap : (n i j : ℕ) → i < line_count → j < line_count → (i ≡ j → ⊥) → (x y : Line) (s t : Bool) (b : List ℕ) → Sound n b
    → settle_set i x s (settle_set j y t b) ≡ settle_set j y t (settle_set i x s b)
settle-swap n i j h k d x y s t b sd =
    local-swap (book_length n) (own_of i) (own_of j) (settle_set i x s) (settle_set j y t) (settle-local i h n x s) (settle-local j k n y t) (owns-apart i j h k d) b sd.size

-- ---- as the block call writes it

-- no allowance is set
abbrev pub unset : List ℕ → Bool
unset b = eqb (field b allowance_at 1) 0

module _ (n i : ℕ) (h : i < line_count) (b : List ℕ) (v : length b ≡ book_length n) where
  charged-is : on_allowance (charged_to i) b ≡ cond (unset b) b (charge_set i b)
  unfolding on_allowance charged_bytes
  charged-is =
      rw (field-part-0 b allowance_at allowance_length 1 (omega arith), field-part b allowance_at allowance_length (charges_from + i) 1 (omega arith)) (go (unset b))
    where
      go : (t : Bool) → splice b allowance_at (cond t (part b allowance_at allowance_length) (splice (part b allowance_at allowance_length) (charges_from + i) (be_bytes 1 (field b (charge_at i) 1 + 1))))
          ≡ cond t b (splice b (charge_at i) (be_bytes 1 (field b (charge_at i) 1 + 1)))
      go true = splice-part b allowance_at allowance_length (omega (arith, v))
      go false =
          splice-inside b allowance_at allowance_length (charges_from + i) (be_bytes 1 (field b (charge_at i) 1 + 1)) (omega (arith, v))
          (omega (arith, length-be_bytes 1 (field b (charge_at i) 1 + 1)))

pub set_apart : (i : ℕ) → i < line_count → Apart (own_of i) (within allowance_at 1)
set_apart i h k x y = go (or-either (within (line_at i) line_length k) (within (charge_at i) 1 k) x)
  where
    go : (within (line_at i) line_length k ≡ true) ⊎ (within (charge_at i) 1 k ≡ true) → ⊥
    go (inl x) = within-apart (line_at i) line_length allowance_at 1 (omega arith) k x y
    go (inr x) = within-apart allowance_at 1 (charge_at i) 1 (omega arith) k y x

-- whether one is set stays
unset-by : (n i : ℕ) → i < line_count → (w : List ℕ → List ℕ) → Local (book_length n) (own_of i) w → (b : List ℕ) → length b ≡ book_length n → unset (w b) ≡ unset b
unfolding field
unset-by n i h w l b v =
    ap (λ (z : List ℕ). eqb (be z) 0)
    (local-reads (book_length n) (own_of i) (within allowance_at 1) w (λ z. part z allowance_at 1) l (part-read (book_length n) allowance_at 1) (set_apart i h) b v)

pub settled_is : (n i : ℕ) → i < line_count → (x : Line) (free : Bool) (b : List ℕ) → length b ≡ book_length n → settled i x free b ≡ settle_set i x (free || unset b) b
unfolding settled
settled_is n i h x true b v = refl
settled_is n i h x false b v =
    charged-is n i h (line_set i x b) ((line-local i h n x).size b v)
    ∙ ap (λ (t : Bool). cond t (line_set i x b) (charge_set i (line_set i x b))) (unset-by n i h (line_set i x) (line-local i h n x) b v)
