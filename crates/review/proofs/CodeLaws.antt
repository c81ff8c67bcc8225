-- What the code of a message says: which checks it has passed.
-- Assumes nothing.
use Prim.Native.Nat.{ℕ, ◌≤◌, ◌<◌}
use mathlib.Core.Path.{◌≡◌, refl, sym, ap, ◌∙◌}
use mathlib.Core.Bool.{Bool, true, false, cond}
use mathlib.Core.List.{List}
use native.Mathlib.Omega.{arith}
use lib.Dec.{eqb, lit<, lit≤}
use lib.ListN.{length}
use Rattle.lists.specs.Lists.{member}
use Rattle.quote.specs.declared.Quote.{Quote}
use Rattle.levels.specs.Levels.{odd_code}
use Rattle.text.specs.Form.{maker_good}
use Rattle.message.specs.declared.Kind.{Kind}
use Rattle.message.specs.declared.Kind.TheVariants as kind
use Rattle.message.specs.declared.Message.{Message}
use Rattle.message.specs.declared.Message.TheVariants as says
use Rattle.message.specs.declared.OddPart.{OddPart}
use Rattle.message.specs.Message.{kind_of, quote_at, maker_name, odd_at, odd_of, side_bad, round_conditions, maker_conditions, price_fault, quote_fault, message_of, Known, maker_code, code_by, code_of, Part, whole_by, maker_text, round_lot_items}
use Rattle.message.proofs.SpokenLaws.{Spoken, refused, idle, finra, round, odd, maker, status, spoken}

-- ---- checks that were passed

-- a code that takes the message, wholly or in part, is none of 40 to 59
unfoldable pub Takes : ℕ → Type 0
Takes c = 40 ≤ c → 60 ≤ c

pub takes_whole : (c : ℕ) → c ≡ 0 → Takes c
unfolding Takes
takes_whole c e h = absurd (omega arith)

pub takes-partly : (c : ℕ) → 60 ≤ c → Takes c
unfolding Takes
takes-partly c e h = e

module _ (e : Known) (letter : ℕ) (m : List ℕ) (c : ℕ) (t : Takes c) where
  refuses : (k : ℕ) → 40 ≤ k → k < 60 → k ≡ c → ⊥
  unfolding Takes
  refuses k lo hi q = omega (arith, t (omega arith))

  -- 45 where the symbol is not listed
  listed : (b : Bool) (x : ℕ) → cond b x 45 ≡ c → (b ≡ true) × (x ≡ c)
  listed true x q = (refl, q)
  listed false x q = absurd (refuses 45 (lit≤ tt) (lit< tt) q)

  -- 46, 47, then 48 where b fails
  fault : (table : List ℕ) (q : Quote) (b : Bool) (x : ℕ) → cond (eqb (quote_fault table q (cond b 0 48)) 0) x (quote_fault table q (cond b 0 48)) ≡ c
      → (member table q.condition ≡ true) × (x ≡ c)
  unfolding quote_fault price_fault
  fault table q b x = go (member table q.condition) (side_bad q.bid) (side_bad q.offer) b
    where
      go : (a s u b : Bool)
          → cond (eqb (cond a (cond s 47 (cond u 47 (cond b 0 48))) 46) 0) x (cond a (cond s 47 (cond u 47 (cond b 0 48))) 46) ≡ c
          → (a ≡ true) × (x ≡ c)
      go true false false true y = (refl, y)
      go true false false false y = absurd (refuses 48 (lit≤ tt) (lit< tt) y)
      go true false true b y = absurd (refuses 47 (lit≤ tt) (lit< tt) y)
      go true true u b y = absurd (refuses 47 (lit≤ tt) (lit< tt) y)
      go false s u b y = absurd (refuses 46 (lit≤ tt) (lit< tt) y)

  -- what is known of a message that is taken, by what it says: of a Q K, wholly or in part, and of a Q M or Q T
  pub record OddTaken (o : OddPart) : Type 0 where
    pub known : e.listed ≡ true
    pub odd : odd_code e.lot (e.levels letter) (odd_of m o) ≡ c

  pub round-taken : (o : OddPart) → code_by e letter m (says.RoundLot (quote_fault round_conditions (quote_at m) 0) (quote_at m) o) ≡ c → OddTaken o
  round-taken o q =
      let a = listed e.listed _ q in
      record { known = a.0; odd = (fault round_conditions (quote_at m) true _ a.1).1 }

  pub round-condition : (o : OddPart) → code_by e letter m (says.RoundLot (quote_fault round_conditions (quote_at m) 0) (quote_at m) o) ≡ c → member round_conditions (quote_at m).condition ≡ true
  round-condition o q = (fault round_conditions (quote_at m) true _ (listed e.listed _ q).1).0

  pub odd-taken : (o : OddPart) → code_by e letter m (says.OddLot o) ≡ c → OddTaken o
  odd-taken o q = let a = listed e.listed _ q in record { known = a.0; odd = a.1 }

  -- of a Q U
  pub record MakerTaken : Type 0 where
    pub known : e.listed ≡ true
    pub condition : member maker_conditions (quote_at m).condition ≡ true
    pub room : maker_code e (maker_name m) (quote_at m) ≡ c

  pub maker-taken : code_by e letter m (says.Maker (quote_fault maker_conditions (quote_at m) (cond (maker_good (maker_text m)) 0 48)) (maker_name m) (quote_at m)) ≡ c → MakerTaken
  maker-taken q =
      let a = listed e.listed _ q in
      let b = fault maker_conditions (quote_at m) (maker_good (maker_text m)) _ a.1 in
      record { known = a.0; condition = b.0; room = b.1 }

  -- of a T S
  pub status-taken : (x : ℕ) → code_by e letter m (says.Status x) ≡ c → e.listed ≡ true
  status-taken x q = (listed e.listed _ q).0

  -- a Q K that is taken has 60 bytes or more; it alone has two parts
  pub long : code_of e letter m ≡ c → kind_of m ≡ kind.RoundLot → round_lot_items ≤ length m
  unfolding code_of odd_at Takes
  long x r = go (message_of letter m) x (spoken letter m)
    where
      count : (k : Kind) → kind_of m ≡ k → length (whole_by m k) ≡ 2
      count k i = ap (λ (j : Kind). length (whole_by m j)) (sym i ∙ r)

      go : (y : Message) → code_by e letter m y ≡ c → Spoken letter m y → round_lot_items ≤ length m
      go y q (refused k lo hi) = absurd (omega (arith, t (omega arith)))
      go y q (idle w) = absurd (omega (arith, count (kind_of m) refl, ap (λ (ps : List Part). length ps) w))
      go y q (finra k d w) = absurd (omega (arith, count (kind_of m) refl, ap (λ (ps : List Part). length ps) w))
      go y q (round l k n) = omega (arith, n)
      go y q (odd l k n) = absurd (omega (arith, count (kind.OddLot _) k))
      go y q (maker k n) = absurd (omega (arith, count kind.Maker k))
      go y q (status k n) = absurd (omega (arith, count kind.Status k))
