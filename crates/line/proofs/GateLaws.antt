-- The checks of a block call: what each `return` of the judging functions owes, over plain values.
-- Assumes nothing.
use Prim.Native.Nat.{ℕ, ◌≤◌, ◌<◌}
use mathlib.Core.Path.{◌≡◌, refl, sym, ap, ◌∙◌}
use mathlib.Core.Bool.{Bool, true, false, not, ◌&&◌, cond}
use mathlib.Core.List.{List}
use Rattle.std.specs.Prelude.{Option, None, Some, Result, Ok, Err}
use lib.Dec.{leb, eqb}
use borrow.Author.Tests.{lt-ltb, le-ltb}
use Rattle.lists.specs.Lists.{at}
use Rattle.field.specs.Field.{field, splice}
use Rattle.block.specs.Block.{count_in, sequence_in, checksum_of, length_good, table_good, control_among, checked, idle_block, answer_length}
use Rattle.block.specs.Sequence.{gap_of, next_of, arrival_of}
use Rattle.numbers.specs.declared.Refusal.{Refusal}
use Rattle.std.specs.Option.{ok_or}
use Rattle.numbers.specs.Numbers.{number_of}
use Rattle.numbers.specs.declared.Refusal.TheVariants as refusal
use Rattle.block.specs.declared.Arrival.{Arrival}
use Rattle.block.proofs.CheckLaws.{passed}
use Rattle.opening.specs.declared.Line.{Line}
use Rattle.line.specs.code.Gate.{Gate}
use Rattle.line.specs.code.Gate as gate
use Rattle.allowance.specs.Allowance.{is_used_up, charged_to}
use Rattle.opening.specs.Opening.{sound, line_bytes, lines_in, rest_in, line_after, allowance_on, on_allowance}
use Rattle.opening.specs.Layout.{line_at, line_count}
use Rattle.opening.proofs.LineLaws.{line-open}
use Rattle.line.specs.Line.{arrival_number_of, checked_number_of, line_number, block_number, done, gap_told, advanced, settled}
use Rattle.line.specs.code.Gate.{gate_by, gate_of, gate_told}
use Rattle.line.specs.declared.Stopped.{Stopped}
use Rattle.lists.proofs.Tests.{clash}
use Rattle.numbers.proofs.RefusalLaws.{never-zero, never-gap}

-- the number of a refused block is neither 0 nor 70, not the answer buffer's 9 and not the allowance's 86
refused-number : (k : List ℕ) (n : Refusal) → checked k ≡ Err n → (done (number_of n) ≡ false) × (eqb (number_of n) 9 ≡ false) × (eqb (number_of n) 86 ≡ false)
unfolding checked done
refused-number k n = go (length_good k) (eqb (at k 0) 1) (eqb (checksum_of k) (field k 8 2)) (table_good k) (control_among k)
  where
    go : (s t u v w : Bool)
        → cond s (cond t (cond u (cond v (cond w (Err refusal.ControlNotAlone) (Ok (count_in k))) (Err refusal.Offsets)) (Err refusal.Checksum)) (Err refusal.Version)) (Err refusal.BlockLength) ≡ Err n
        → (cond (eqb (number_of n) 0) true (eqb (number_of n) 70) ≡ false) × (eqb (number_of n) 9 ≡ false) × (eqb (number_of n) 86 ≡ false)
    go true true true true true e = let z : n ≡ refusal.ControlNotAlone = cc in (rw z, rw z, rw z)
    go true true true true false e = clash (cc)
    go true true true false w e = let z : n ≡ refusal.Offsets = cc in (rw z, rw z, rw z)
    go true true false v w e = let z : n ≡ refusal.Checksum = cc in (rw z, rw z, rw z)
    go true false u v w e = let z : n ≡ refusal.Version = cc in (rw z, rw z, rw z)
    go false t u v w e = let z : n ≡ refusal.BlockLength = cc in (rw z, rw z, rw z)

-- no refusal has the number of a call that is done
pub never-done : (r : Refusal) → done (number_of r) ≡ false
unfolding done
never-done r = rw (never-zero r, never-gap r)

pub refused-done : (k : List ℕ) (n : Refusal) → checked k ≡ Err n → done (number_of n) ≡ false
refused-done k n e = never-done n

-- a block's number is never 9
pub block-nine : (r : Line) (day used : Bool) (k : List ℕ) → eqb (block_number r day used k) 9 ≡ false
unfolding block_number line_number
block-nine r day used k = go (checked k) refl
  where
    arrived : (a : Option Arrival) → eqb (arrival_number_of used a) 9 ≡ false
    arrived (Some a) = gap used (eqb a.gap 0)
      where
        gap : (u t : Bool) → eqb (cond u 86 (cond t 0 70)) 9 ≡ false
        gap true t = refl
        gap false true = refl
        gap false false = refl
    arrived None = refl

    line : (s t : Bool) → eqb (cond s 0 (cond t (arrival_number_of used (arrival_of (sequence_in k) r.expected (count_in k))) 20)) 9 ≡ false
    line true t = refl
    line false true = arrived (arrival_of (sequence_in k) r.expected (count_in k))
    line false false = refl

    go : (x : Result ℕ Refusal) → checked k ≡ x → eqb (checked_number_of r day used k x) 9 ≡ false
    go (Ok c) e = line (idle_block k) day
    go (Err n) e = (refused-number k n e).1

-- 86 is the allowance's alone: with share or spare left no block has it
pub left-number : (r : Line) (day : Bool) (k : List ℕ) → eqb (block_number r day false k) 86 ≡ false
unfolding block_number line_number
left-number r day k = go (checked k) refl
  where
    arrived : (a : Option Arrival) → eqb (arrival_number_of false a) 86 ≡ false
    arrived (Some a) = gap (eqb a.gap 0)
      where
        gap : (t : Bool) → eqb (cond t 0 70) 86 ≡ false
        gap true = refl
        gap false = refl
    arrived None = refl

    line : (s t : Bool) → eqb (cond s 0 (cond t (arrival_number_of false (arrival_of (sequence_in k) r.expected (count_in k))) 20)) 86 ≡ false
    line true t = refl
    line false true = arrived (arrival_of (sequence_in k) r.expected (count_in k))
    line false false = refl

    go : (x : Result ℕ Refusal) → checked k ≡ x → eqb (checked_number_of r day false k x) 86 ≡ false
    go (Ok c) e = line (idle_block k) day
    go (Err n) e = (refused-number k n e).2

-- a block comes to 86 if it is not free and is taken where share or spare is left; it is refused there if both are used
pub used-number : (r : Line) (day : Bool) (k : List ℕ) → eqb (block_number r day true k) 86 ≡ done (block_number r day false k) && not (idle_block k)
unfolding block_number line_number done
used-number r day k = go (checked k) refl
  where
    arrived : (a : Option Arrival) → eqb (arrival_number_of true a) 86 ≡ done (arrival_number_of false a) && true
    arrived (Some a) = gap (eqb a.gap 0)
      where
        gap : (t : Bool) → true ≡ done (cond t 0 70) && true
        gap true = refl
        gap false = refl
    arrived None = refl

    line : (s t : Bool) → eqb (cond s 0 (cond t (arrival_number_of true (arrival_of (sequence_in k) r.expected (count_in k))) 20)) 86
        ≡ done (cond s 0 (cond t (arrival_number_of false (arrival_of (sequence_in k) r.expected (count_in k))) 20)) && not s
    line true t = refl
    line false true = arrived (arrival_of (sequence_in k) r.expected (count_in k))
    line false false = refl

    refused : (n : ℕ) → done n ≡ false → eqb n 86 ≡ false → eqb n 86 ≡ done n && not (idle_block k)
    refused n d e = e ∙ sym (ap (λ (t : Bool). t && not (idle_block k)) d)

    go : (x : Result ℕ Refusal) → checked k ≡ x → eqb (checked_number_of r day true k x) 86 ≡ done (checked_number_of r day false k x) && not (idle_block k)
    go (Ok c) e = line (idle_block k) day
    go (Err n) e = let z = refused-number k n e in refused (number_of n) z.0 z.2

-- a block that is taken leaves the line at its number + c
next-is : (s e c g n : ℕ) → arrival_of s e c ≡ Some (record { gap = g; next = n }) → n ≡ next_of s c
unfolding arrival_of
next-is s e c g n = go (leb (gap_of s e) 2147483647)
  where
    go : (t : Bool) → cond {A = Option Arrival} t (Some (record { gap = gap_of s e; next = next_of s c })) None ≡ Some (record { gap = g; next = n }) → n ≡ next_of s c
    go true h = let z : ◌≡◌ {A = Arrival} (record { gap = gap_of s e; next = next_of s c }) (record { gap = g; next = n }) = cc in sym (ap (λ (a : Arrival). a.next) z)
    go false h = clash (cc)

module _ (r : Line) (day used : Bool) (k : List ℕ) where
  -- refused by its own checks
  pub gate-refused : (n : Refusal) (x : ℕ) → checked k ≡ Err n → x ≡ number_of n → gate.refused x r ≡ gate_by r (block_number r day used k) k
  unfolding block_number
  gate-refused n x e f = rw (f, e, refused-done k n e)

  module _ (c : ℕ) (e : checked k ≡ Ok c) where
    counted : c ≡ count_in k
    counted = (passed k c e).counted

    -- C I, C T, C 5
    pub admit-idle : idle_block k ≡ true → gate.taken 0 0 c r true ≡ gate_by r (block_number r day used k) k
    unfolding block_number line_number gap_told advanced done
    admit-idle i = rw (e, i, counted)

    pub admit-closed : idle_block k ≡ false → day ≡ false → gate.refused 20 r ≡ gate_by r (block_number r day used k) k
    unfolding block_number line_number done
    admit-closed i d = rw (e, i, d)

    pub admit-duplicate : idle_block k ≡ false → day ≡ true → arrival_of (sequence_in k) r.expected c ≡ None → gate.refused 35 r ≡ gate_by r (block_number r day used k) k
    unfolding block_number line_number done
    admit-duplicate i d a = rw (e, i, d, ← counted, a)

    -- share and spare are used
    pub admit-used : (g n : ℕ) → idle_block k ≡ false → day ≡ true → arrival_of (sequence_in k) r.expected c ≡ Some (record { gap = g; next = n }) → used ≡ true → gate.refused 86 r ≡ gate_by r (block_number r day used k) k
    unfolding block_number line_number done
    admit-used g n i d a u = rw (e, i, d, ← counted, a, u)

    pub admit-taken : (g n w : ℕ) (x : Line) → idle_block k ≡ false → day ≡ true → arrival_of (sequence_in k) r.expected c ≡ Some (record { gap = g; next = n }) → used ≡ false → w ≡ cond (eqb g 0) 0 70
        → x ≡ line_after r (next_of (sequence_in k) c) c → gate.taken w g c x false ≡ gate_by r (block_number r day used k) k
    unfolding block_number line_number gap_told advanced done
    admit-taken g n w x i d a u f h = rw (e, i, d, ← counted, a, u, f, h, ← next-is _ _ _ _ _ a) (go (eqb g 0))
      where
        go : (t : Bool) → gate.taken (cond t 0 70) g c (line_after r n c) false
            ≡ cond (cond (eqb (cond t 0 70) 0) true (eqb (cond t 0 70) 70))
            (gate.taken (cond t 0 70) g c (line_after r n c) false) (gate.refused (cond t 0 70) r)
        go true = refl
        go false = refl

-- ---- the line's record written, and the block charged

module _ (b : List ℕ) (i : ℕ) (x : Line) (free : Bool) (b₁ : List ℕ) (e : b₁ ≡ splice b (line_at i) (line_bytes x)) where
  pub settle-free : free ≡ true → b₁ ≡ settled i x free b
  unfolding settled
  settle-free f = rw f e

  pub settle-charged : (b₂ : List ℕ) → free ≡ false → b₂ ≡ on_allowance (charged_to i) b₁ → b₂ ≡ settled i x free b
  unfolding settled
  settle-charged b₂ f g = rw f (g ∙ ap (on_allowance (charged_to i)) e)

-- ---- 1, 9, 21, then the block's

-- a line that is open is one of the 64
pub open-low : (b : List ℕ) (i : ℕ) (r : Line) → lines_in b i ≡ Some r → i < line_count
open-low b i r f = (line-open b i r f).0

module _ (b : List ℕ) (i : ℕ) (k : List ℕ) (room : ℕ) where
  pub judge-unsound : sound b ≡ false → gate.bare 1 ≡ gate_of b i k room
  unfolding gate_of
  judge-unsound s = rw s

  module _ (s-is : sound b ≡ true) where
    pub judge-short : room < answer_length → gate.bare 9 ≡ gate_of b i k room
    unfolding gate_of
    judge-short h = rw (s-is, lt-ltb room answer_length h)

    module _ (h : answer_length ≤ room) where
      pub judge-closed : (o : Option Line) → o ≡ lines_in b i → (s t : Stopped) → Err s ≡ ok_or o t → t ≡ record { refusal = refusal.LineNotOpen; line = None } → gate_told (Err s) ≡ gate_of b i k room
      unfolding gate_of
      judge-closed None e s t q f = let z : s ≡ t = cc in rw (z, f) (rw (s-is, le-ltb room answer_length h, ← e))
      judge-closed (Some r) e s t q f = clash (cc)

      pub opened : (o : Option Line) → o ≡ lines_in b i → (r : Line) (t : Stopped) → Ok r ≡ ok_or o t → lines_in b i ≡ Some r
      opened None e r t q = clash (cc)
      opened (Some x) e r t q = let z : r ≡ x = cc in sym e ∙ ap Some (sym z)

      module _ (r : Line) (f : lines_in b i ≡ Some r) where
        pub judge-refused : (n : Refusal) → Err n ≡ checked k → gate.refused (number_of n) r ≡ gate_of b i k room
        unfolding gate_of
        judge-refused n e = rw (s-is, le-ltb room answer_length h, f) (gate-refused r (rest_in b).day (is_used_up (rest_in b).allowance i) k n (number_of n) (sym e) refl)

        pub judge-admitted : (g : Gate) (d : Bool) → d ≡ (rest_in b).day → g ≡ gate_by r (block_number r d (is_used_up (allowance_on b) i) k) k → g ≡ gate_of b i k room
        unfolding gate_of rest_in
        judge-admitted g d ed eg = eg ∙ rw (s-is, le-ltb room answer_length h, f, ed)
