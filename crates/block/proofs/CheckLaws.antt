-- What a block that passes checks 30 to 34 satisfies.
-- Assumes nothing.
use Rattle.std.proofs.Common.{◌≡◌, ℕ, ◌≤◌, Bool, true, false, cond, eqb, List, length, refl, arith, eqb-true, leb-true}
use Rattle.field.specs.Field.{field}
use Rattle.lists.specs.Lists.{at}
use Rattle.lists.proofs.Tests.{and-true}
use Rattle.block.specs.Block.{offset_at, block_longest, block_shortest, Readable, count_in, checksum_of, start_at, spaced, length_good, table_good, control_among, checked, messages_most}
use Rattle.std.specs.Prelude.{Result, Ok, Err}
use Rattle.numbers.specs.declared.Refusal.{Refusal}

-- what the rules of check 33 say
pub record Table (b : List ℕ) : Type 0 where
  pub some : 1 ≤ count_in b
  pub few : count_in b ≤ messages_most
  pub inside : offset_at (count_in b) ≤ length b
  pub first : start_at b 0 ≡ offset_at (count_in b)
  pub apart : spaced b ≡ true

pub table : (b : List ℕ) → table_good b ≡ true → Table b
unfolding table_good
table b e =
    let t0 : _ × _ = and-true _ _ e in
    let t1 : _ × _ = and-true _ _ t0.1 in
    let t2 : _ × _ = and-true _ _ t1.1 in
    let t3 : _ × _ = and-true _ _ t2.1 in
    record { some = leb-true _ _ t0.0; few = leb-true _ _ t1.0; inside = leb-true _ _ t2.0; first = eqb-true _ _ t3.0; apart = t3.1 }

pub table-readable : (b : List ℕ) (c : ℕ) → c ≡ count_in b → Table b → length b ≤ block_longest → Readable b c
table-readable b c n t h = record { counted = n; table = rw n t.inside; short = h }

unless : (t : Bool) (x : Result ℕ Refusal) (k : Refusal) (c : ℕ) → cond t x (Err k) ≡ Ok c → (t ≡ true) × (x ≡ Ok c)
unless true x k c e = (refl, e)
unless false x k c e = let z : ◌≡◌ {A = ℕ} 0 1 = cc in absurd (omega arith)

when : (t : Bool) (x : Result ℕ Refusal) (k : Refusal) (c : ℕ) → cond t (Err k) x ≡ Ok c → (t ≡ false) × (x ≡ Ok c)
when true x k c e = let z : ◌≡◌ {A = ℕ} 0 1 = cc in absurd (omega arith)
when false x k c e = (refl, e)

-- what a pass says
pub record Passed (b : List ℕ) (c : ℕ) : Type 0 where
  pub counted : c ≡ count_in b
  pub long : block_shortest ≤ length b
  pub short : length b ≤ block_longest
  pub own : field b 2 2 ≡ length b
  pub version : at b 0 ≡ 1
  pub sum : checksum_of b ≡ field b 8 2
  pub table : Table b
  pub alone : control_among b ≡ false

pub passed : (b : List ℕ) (c : ℕ) → checked b ≡ Ok c → Passed b c
unfolding checked length_good
passed b c e =
    let p0 : (length_good b ≡ true) × _ = unless _ _ _ _ e in
    let p1 : (eqb (at b 0) 1 ≡ true) × _ = unless _ _ _ _ p0.1 in
    let p2 : (eqb (checksum_of b) (field b 8 2) ≡ true) × _ = unless _ _ _ _ p1.1 in
    let p3 : (table_good b ≡ true) × _ = unless _ _ _ _ p2.1 in
    let p4 : (control_among b ≡ false) × (Ok (count_in b) ≡ Ok c) = when _ _ _ _ p3.1 in
    let n : c ≡ count_in b = cc in
    let l0 : _ × _ = and-true _ _ p0.0 in
    let l1 : _ × _ = and-true _ _ l0.1 in
    record {
      counted = n;
      long = leb-true _ _ l0.0;
      short = leb-true _ _ l1.0;
      own = eqb-true _ _ l1.1;
      version = eqb-true _ _ p1.0;
      sum = eqb-true _ _ p2.0;
      table = table b p3.0;
      alone = p4.0;
    }

pub passed-readable : (b : List ℕ) (c : ℕ) → Passed b c → Readable b c
passed-readable b c p = table-readable b c p.counted p.table p.short
