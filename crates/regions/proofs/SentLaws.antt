-- Whose the parts of a message are: of the letter of the line on which it comes; a trading status that is taken is of its symbol's primary letter.
-- Assumes nothing.
use Prim.Native.Nat.{ℕ}
use mathlib.Core.Path.{◌≡◌, refl, ◌∙◌}
use mathlib.Core.Bool.{Bool, true, false, ◌&&◌, cond}
use mathlib.Core.List.{List, [], ◌∷◌}
use native.Mathlib.Omega.{arith}
use lib.Dec.{eqb, leb}
use lib.ListN.{length}
use Rattle.field.specs.Ascii.{D, L, R}
use Rattle.lists.specs.Lists.{at, member}
use Rattle.lists.proofs.Tests.{Cut, equal, apart, cut}
use Rattle.text.specs.Form.{symbol_good}
use Rattle.message.specs.declared.Kind.{Kind}
use Rattle.message.specs.declared.Kind.TheVariants as kind
use Rattle.message.specs.declared.Message.{Message}
use Rattle.message.specs.declared.Message.TheVariants as says
use Rattle.message.specs.Message.{kind_of, symbol_of, round_lot_odd, odd_lot_odd, odd_length, is_d, header_zero, symbol_text, test_bytes, checked_form, misplaced, read_inquiry, read_test, read_finra, read_round_lot, read_odd_lot, read_maker, read_status, read_by, is_unknown, message_of, Known, status_code, code_by, code_of, Part, round_part_of, odd_part_of, maker_part_of, status_of, statuses, status_part_of, parts_of, header_length, test_length, maker_length, status_length}
use Rattle.message.proofs.SpokenLaws.{Spoken, refused, idle, finra, round, odd, maker, status, spoken, parts-refused, parts_whole, parts-round, parts-odd, parts-maker, parts-status}
use Rattle.regions.proofs.PartLaws.{SentBy}

-- Q U, FINRA Close and Open are taken on D's line alone
abbrev pub Speaks : ℕ → Message → Type 0
Speaks l (says.Refused c) = Unit {0}
Speaks l says.Idle = Unit {0}
Speaks l (says.Finra c) = l ≡ D
Speaks l (says.RoundLot f q o) = Unit {0}
Speaks l (says.OddLot o) = Unit {0}
Speaks l (says.Maker f n q) = l ≡ D
Speaks l (says.Status x) = Unit {0}

module _ (l : ℕ) (m : List ℕ) where
  check : (t : Bool) (x : Message) (k : ℕ) → Speaks l x → Speaks l (cond t x (says.Refused k))
  check true x k s = s
  check false x k s = tt

  check-not : (t : Bool) (x : Message) (k : ℕ) → Speaks l x → Speaks l (cond t (says.Refused k) x)
  check-not true x k s = tt
  check-not false x k s = s

  form : (s t : Bool) (x : Message) → Speaks l x → Speaks l (checked_form s t x)
  form s t x y = check s (cond t x (says.Refused 43)) 42 (check t x 43 y)

  only-d : (x : Message) → (l ≡ D → Speaks l x) → Speaks l (cond (is_d l) x (says.Refused 44))
  only-d x f = go (cut l D)
    where
      go : Cut l D → Speaks l (cond (eqb l D) x (says.Refused 44))
      go (equal t e) = rw t (f e)
      go (apart t e) = rw t tt

  read-speaks : (k : Kind) → Speaks l (read_by l m k)
  unfolding read_inquiry read_test read_finra read_round_lot read_odd_lot read_maker read_status
  read-speaks kind.Inquiry = form (eqb (length m) header_length) (header_zero m) says.Idle tt
  read-speaks kind.Close = form (eqb (length m) header_length) (header_zero m) _ (only-d (says.Finra L) (λ e. e))
  read-speaks kind.Open = form (eqb (length m) header_length) (header_zero m) _ (only-d (says.Finra R) (λ e. e))
  read-speaks kind.Test = form (eqb (length m) test_length) (header_zero m && test_bytes m) says.Idle tt
  read-speaks kind.RoundLot =
      form (eqb (length m) (odd_length (round_lot_odd m))) (header_zero m && eqb (at m 59) 0) _ (check-not (is_d l) _ 44 (check (symbol_good (symbol_text m)) _ 45 tt))
  read-speaks (kind.OddLot f) =
      form (eqb (length m) (odd_length (odd_lot_odd m))) (header_zero m && (eqb (at m 34) 0 && eqb (at m 35) 0)) _ (check-not (misplaced f l) _ 44 (check (symbol_good (symbol_text m)) _ 45 tt))
  read-speaks kind.Maker = form (eqb (length m) maker_length) (header_zero m) _ (only-d _ (λ e. check (symbol_good (symbol_text m)) _ 45 e))
  read-speaks kind.Status = form (eqb (length m) status_length) (header_zero m) _ (check (symbol_good (symbol_text m)) _ 45 tt)
  read-speaks kind.Unknown = tt

  pub speaks : Speaks l (message_of l m)
  unfolding message_of
  speaks = check-not (is_unknown (kind_of m)) _ 40 (check (eqb (at m 2) l) _ 41 (read-speaks (kind_of m)))

-- ---- its parts

abbrev pub AllSent : (ℕ → Type 0) → ℕ → List Part → Type 0
AllSent P l [] = Unit {0}
AllSent P l (r ∷ rs) = SentBy P l r × AllSent P l rs

-- with 0 it comes on the primary letter's line
status-line : (listed : Bool) (n l x : ℕ) → ◌≡◌ {A = ℕ} (cond listed (status_code n l x) 45) 0 → n ≡ l
unfolding status_code
status-line true n l x e = go (cut n l) (member statuses x) e
  where
    go : Cut n l → (t : Bool) → ◌≡◌ {A = ℕ} (cond (eqb n l) (cond t 0 77) 76) 0 → n ≡ l
    go (equal s p) t e = p
    go (apart s p) t e = absurd (let z : ◌≡◌ {A = ℕ} 76 0 = rw s at e in omega arith)
status-line false n l x e = absurd (omega arith)

module _ (P : ℕ → Type 0) (e : Known) (l : ℕ) (m : List ℕ) (f : e.primary ≡ l → P (symbol_of m)) where
  sent-by : (c : ℕ) (x : Message) → code_by e l m x ≡ c → Spoken l m x → Speaks l x → AllSent P l (parts_of c m)
  sent-by c x q (refused k lo hi) s = rw (parts-refused c m (omega arith) (omega arith)) tt
  sent-by c x q (idle w) s = rw (← q, parts_whole m, w) tt
  sent-by c x q (finra k d w) s = rw (← q, parts_whole m, w) (s, tt)
  sent-by c x q (round a k z) s = rw (parts-round c m k) (go (eqb c 0) (leb 60 c))
    where
      go : (i j : Bool) → AllSent P l (cond i (round_part_of m ∷ odd_part_of m (round_lot_odd m) ∷ []) (cond j (round_part_of m ∷ []) []))
      go true j = (a, (a, tt))
      go false true = (a, tt)
      go false false = tt
  sent-by c x q (odd a k z) s = rw (parts-odd c m k) (go (eqb c 0))
    where
      go : (i : Bool) → AllSent P l (cond i (odd_part_of m (odd_lot_odd m) ∷ []) [])
      go true = (a, tt)
      go false = tt
  sent-by c x q (maker k z) s = rw (parts-maker c m k) (go (eqb c 0))
    where
      go : (i : Bool) → AllSent P l (cond i (maker_part_of m ∷ []) [])
      go true = (s, tt)
      go false = tt
  sent-by c x q (status k z) s = rw (parts-status c m k) (go (cut c 0))
    where
      go : Cut c 0 → AllSent P l (cond (eqb c 0) (status_part_of m ∷ []) [])
      go (equal t i) = rw t (f (status-line e.listed e.primary l (status_of m) (q ∙ i)), tt)
      go (apart t i) = rw t tt

  pub sent : AllSent P l (parts_of (code_of e l m) m)
  unfolding code_of
  sent = sent-by (code_of e l m) (message_of l m) refl (spoken l m) (speaks l m)
