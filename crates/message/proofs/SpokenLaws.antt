-- What a message says, and which parts it has: of the line's letter, and of its symbol. `spoken` is the one law by cases over all types; the laws
-- about what a message says go by it.
-- Assumes nothing.
use Prim.Native.Nat.{ℕ, ◌≤◌, ◌<◌}
use mathlib.Core.Path.{◌≡◌, refl}
use mathlib.Core.Bool.{Bool, true, false, ◌&&◌, cond}
use mathlib.Core.List.{List, [], ◌∷◌}
use native.Mathlib.Omega.{arith}
use lib.Dec.{leb, eqb}
use lib.ListN.{length}
use borrow.Author.Tests.{ne_eqb, lt-leb}
use Rattle.lists.specs.Lists.{at, member, upper}
use Rattle.lists.proofs.Tests.{Cut, equal, apart, cut}
use Rattle.text.specs.Form.{symbol_good, maker_good}
use Rattle.message.specs.declared.Kind.{Kind}
use Rattle.message.specs.declared.Kind.TheVariants as kind
use Rattle.message.specs.declared.Message.{Message}
use Rattle.message.specs.declared.Message.TheVariants as says
use Rattle.message.specs.Message.{kind_of, quote_at, maker_name, round_lot_odd, odd_lot_odd, odd_length, round_conditions, maker_conditions, quote_fault, is_d, test_bytes, read_inquiry, read_test, read_finra, read_round_lot, misplaced, read_odd_lot, read_maker, status_of, read_status, read_by, is_unknown, message_of, Known, code_by, code_of, Part, round_part, odd_part, maker_part, finra_part, status_part, round_part_of, odd_part_of, maker_part_of, status_part_of, partly_by, partly_taken, whole_by, parts_of, header_length, test_length, maker_length, status_length, symbol_text, maker_text, header_zero}
use Rattle.field.specs.Ascii.{L, R}

-- ---- what a message says

-- with each saying, the type, the letter and the length that it came of
pub data Spoken (letter : ℕ) (m : List ℕ) : Message → Type 0 where
  refused : (c : ℕ) → 40 ≤ c → c < 46 → Spoken letter m (says.Refused c)
  idle : whole_by m (kind_of m) ≡ [] → Spoken letter m says.Idle
  finra : (c : ℕ) → member maker_conditions c ≡ true → whole_by m (kind_of m) ≡ finra_part c ∷ [] → Spoken letter m (says.Finra c)
  round : at m 2 ≡ letter → kind_of m ≡ kind.RoundLot → length m ≡ odd_length (round_lot_odd m)
      → Spoken letter m (says.RoundLot (quote_fault round_conditions (quote_at m) 0) (quote_at m) (round_lot_odd m))
  odd : {f : Bool} → at m 2 ≡ letter → kind_of m ≡ kind.OddLot f → length m ≡ odd_length (odd_lot_odd m) → Spoken letter m (says.OddLot (odd_lot_odd m))
  maker : kind_of m ≡ kind.Maker → length m ≡ maker_length
      → Spoken letter m (says.Maker (quote_fault maker_conditions (quote_at m) (cond (maker_good (maker_text m)) 0 48)) (maker_name m) (quote_at m))
  status : kind_of m ≡ kind.Status → length m ≡ status_length → Spoken letter m (says.Status (status_of m))

module _ (letter : ℕ) (m : List ℕ) where
  -- a check that refuses with k
  check : (t : Bool) (x : Message) (k : ℕ) → 40 ≤ k → k < 46 → Spoken letter m x → Spoken letter m (cond t x (says.Refused k))
  check true x k lo hi s = s
  check false x k lo hi s = refused k lo hi

  check-not : (t : Bool) (x : Message) (k : ℕ) → 40 ≤ k → k < 46 → Spoken letter m x → Spoken letter m (cond t (says.Refused k) x)
  check-not true x k lo hi s = refused k lo hi
  check-not false x k lo hi s = s

  -- 42, 43, then a message of n bytes
  form : (n : ℕ) (t : Bool) (x : Message) → (length m ≡ n → Spoken letter m x) → Spoken letter m (cond (eqb (length m) n) (cond t x (says.Refused 43)) (says.Refused 42))
  form n t x f = go (cut (length m) n)
    where
      go : Cut (length m) n → Spoken letter m (cond (eqb (length m) n) (cond t x (says.Refused 43)) (says.Refused 42))
      go (equal s e) = rw s (check t x 43 (omega arith) (omega arith) (f e))
      go (apart s e) = rw s (refused 42 (omega arith) (omega arith))

  -- 45
  symbol : (x : Message) → Spoken letter m x → Spoken letter m (cond (symbol_good (symbol_text m)) x (says.Refused 45))
  symbol x s = check (symbol_good (symbol_text m)) x 45 (omega arith) (omega arith) s

  read-spoken : at m 2 ≡ letter → (k : Kind) → kind_of m ≡ k → Spoken letter m (read_by letter m k)
  unfolding read_inquiry read_test read_finra read_round_lot read_odd_lot read_maker read_status member
  read-spoken l kind.Inquiry e = form header_length (header_zero m) _ (λ z. idle (rw e))
  read-spoken l kind.Close e = form header_length (header_zero m) _ (λ z. check (is_d letter) _ 44 (omega arith) (omega arith) (finra L refl (rw e)))
  read-spoken l kind.Open e = form header_length (header_zero m) _ (λ z. check (is_d letter) _ 44 (omega arith) (omega arith) (finra R refl (rw e)))
  read-spoken l kind.Test e = form test_length (header_zero m && test_bytes m) _ (λ z. idle (rw e))
  read-spoken l kind.RoundLot e =
      form (odd_length (round_lot_odd m)) (header_zero m && eqb (at m 59) 0) _ (λ z. check-not (is_d letter) _ 44 (omega arith) (omega arith) (symbol _ (round l e z)))
  read-spoken l (kind.OddLot f) e =
      form (odd_length (odd_lot_odd m)) (header_zero m && (eqb (at m 34) 0 && eqb (at m 35) 0)) _ (λ z. check-not (misplaced f letter) _ 44 (omega arith) (omega arith) (symbol _ (odd l e z)))
  read-spoken l kind.Maker e = form maker_length (header_zero m) _ (λ z. check (is_d letter) _ 44 (omega arith) (omega arith) (symbol _ (maker e z)))
  read-spoken l kind.Status e = form status_length (header_zero m) _ (λ z. symbol _ (status e z))
  read-spoken l kind.Unknown e = refused 40 (omega arith) (omega arith)

  pub spoken : Spoken letter m (message_of letter m)
  unfolding message_of
  spoken = check-not (is_unknown (kind_of m)) _ 40 (omega arith) (omega arith) (go (cut (at m 2) letter))
    where
      go : Cut (at m 2) letter → Spoken letter m (cond (eqb (at m 2) letter) (read_by letter m (kind_of m)) (says.Refused 41))
      go (equal t p) = rw t (read-spoken p (kind_of m) refl)
      go (apart t p) = rw t (refused 41 (omega arith) (omega arith))

-- ---- parts

-- of a letter
abbrev pub Shaped : Part → Type 0
Shaped (round_part s l q) = upper l ≡ true
Shaped (odd_part s l o) = upper l ≡ true
Shaped (maker_part s m q) = Unit {0}
Shaped (finra_part c) = Unit {0}
Shaped (status_part s x) = Unit {0}

abbrev pub AllShaped : List Part → Type 0
AllShaped [] = Unit {0}
AllShaped (r ∷ rs) = Shaped r × AllShaped rs

-- a message's parts: of a Q K with 60 or more the round part alone; of any other with another code than 0 none
pub partly-no : (c : ℕ) (k : Kind) → leb 60 c ≡ false → partly_by c k ≡ false
partly-no c kind.Inquiry e = refl
partly-no c kind.Close e = refl
partly-no c kind.Open e = refl
partly-no c kind.Test e = refl
partly-no c kind.RoundLot e = e
partly-no c (kind.OddLot f) e = refl
partly-no c kind.Maker e = refl
partly-no c kind.Status e = refl
partly-no c kind.Unknown e = refl

module _ (c : ℕ) (m : List ℕ) where
  pub parts-refused : 40 ≤ c → c < 60 → parts_of c m ≡ []
  unfolding parts_of partly_taken
  parts-refused lo hi = rw (ne_eqb c 0 (λ z. omega arith), partly-no c (kind_of m) (lt-leb 60 c hi))

  pub parts-round : kind_of m ≡ kind.RoundLot → parts_of c m ≡ cond (eqb c 0) (round_part_of m ∷ odd_part_of m (round_lot_odd m) ∷ []) (cond (leb 60 c) (round_part_of m ∷ []) [])
  unfolding parts_of partly_taken
  parts-round k = rw k

  pub parts-odd : {f : Bool} → kind_of m ≡ kind.OddLot f → parts_of c m ≡ cond (eqb c 0) (odd_part_of m (odd_lot_odd m) ∷ []) []
  unfolding parts_of partly_taken
  parts-odd k = rw k

  pub parts-maker : kind_of m ≡ kind.Maker → parts_of c m ≡ cond (eqb c 0) (maker_part_of m ∷ []) []
  unfolding parts_of partly_taken
  parts-maker k = rw k

  pub parts-status : kind_of m ≡ kind.Status → parts_of c m ≡ cond (eqb c 0) (status_part_of m ∷ []) []
  unfolding parts_of partly_taken
  parts-status k = rw k

pub parts_whole : (m : List ℕ) → parts_of 0 m ≡ whole_by m (kind_of m)
unfolding parts_of
parts_whole m = refl

-- the parts of a message are of the line's letter
module _ (e : Known) (letter : ℕ) (m : List ℕ) (u : upper letter ≡ true) where
  up : at m 2 ≡ letter → upper (at m 2) ≡ true
  up l = rw l u

  shaped-by : (c : ℕ) (x : Message) → code_by e letter m x ≡ c → Spoken letter m x → AllShaped (parts_of c m)
  shaped-by c x q (refused k lo hi) = rw (parts-refused c m (omega arith) (omega arith)) tt
  shaped-by c x q (idle w) = rw (← q, parts_whole m, w) tt
  shaped-by c x q (finra k d w) = rw (← q, parts_whole m, w) (tt, tt)
  shaped-by c x q (round l k z) = rw (parts-round c m k) (go (eqb c 0) (leb 60 c))
    where
      go : (s t : Bool) → AllShaped (cond s (round_part_of m ∷ odd_part_of m (round_lot_odd m) ∷ []) (cond t (round_part_of m ∷ []) []))
      go true t = (up l, (up l, tt))
      go false true = (up l, tt)
      go false false = tt
  shaped-by c x q (odd l k z) = rw (parts-odd c m k) (go (eqb c 0))
    where
      go : (s : Bool) → AllShaped (cond s (odd_part_of m (odd_lot_odd m) ∷ []) [])
      go true = (up l, tt)
      go false = tt
  shaped-by c x q (maker k z) = rw (parts-maker c m k) (go (eqb c 0))
    where
      go : (s : Bool) → AllShaped (cond s (maker_part_of m ∷ []) [])
      go true = (tt, tt)
      go false = tt
  shaped-by c x q (status k z) = rw (parts-status c m k) (go (eqb c 0))
    where
      go : (s : Bool) → AllShaped (cond s (status_part_of m ∷ []) [])
      go true = (tt, tt)
      go false = tt

  pub shaped : AllShaped (parts_of (code_of e letter m) m)
  unfolding code_of
  shaped = shaped-by (code_of e letter m) (message_of letter m) refl (spoken letter m)
