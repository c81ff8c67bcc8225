use Rattle.std.proofs.Common.{◌≡◌, true, eqb, sym, ◌∙◌, arith, eq-eqb, ne_eqb, le-leb}
use borrow.Author.Tests.{lt-leb}
use Rattle.field.specs.Field.{field}
use Rattle.field.proofs.Laws.{field-one}
use Rattle.lists.specs.Lists.{at}
use Rattle.block.specs.Block.{length_good, checksum_of, table_good, checked}
use Rattle.block.proofs.CheckLaws.{table, table-readable}
use Rattle.block.proofs.check_block.Goals as goal

-- each check that has passed, at the place where it is known

pub returns-then-len-lt-SHORTEST : goal.returns-then-len-lt-SHORTEST
unfolding checked length_good
returns-then-len-lt-SHORTEST c = rw (lt-leb _ _ c.if-len-lt-SHORTEST.true)

pub returns-then-len-gt-LONGEST : goal.returns-then-len-gt-LONGEST
unfolding checked length_good
returns-then-len-gt-LONGEST c = rw (le-leb _ _ c.if-len-lt-SHORTEST.false, lt-leb _ _ c.if-len-gt-LONGEST.true)

pub returns-then-get16-len : goal.returns-then-get16-len
unfolding checked length_good
returns-then-get16-len c = rw (le-leb _ _ c.if-len-lt-SHORTEST.false, le-leb _ _ c.if-len-gt-LONGEST.false, ← c.get16.ensures, ne_eqb _ _ c.if-get16-len.true)

pub returns-then-get8-ne1 : goal.returns-then-get8-ne1
unfolding checked length_good
returns-then-get8-ne1 c =
    let length-good : length_good c.args.block.now ≡ true =
    rw (le-leb _ _ c.if-len-lt-SHORTEST.false, le-leb _ _ c.if-len-gt-LONGEST.false, ← c.get16.ensures, eq-eqb _ _ c.if-get16-len.false) in
    let version-is : c.get8.result ≡ at c.args.block.now 0 =
    c.get8.ensures ∙ field-one _ 0 (omega arith) in
    rw (length-good, ← version-is, ne_eqb _ _ c.if-get8-ne1.true)

pub returns-then-checksum-get16 : goal.returns-then-checksum-get16
unfolding checked length_good
returns-then-checksum-get16 c =
    let length-good : length_good c.args.block.now ≡ true =
    rw (le-leb _ _ c.if-len-lt-SHORTEST.false, le-leb _ _ c.if-len-gt-LONGEST.false, ← c.get16.ensures, eq-eqb _ _ c.if-get16-len.false) in
    let version-is : c.get8.result ≡ at c.args.block.now 0 =
    c.get8.ensures ∙ field-one _ 0 (omega arith) in
    let version-good : eqb (at c.args.block.now 0) 1 ≡ true =
    rw (← version-is, eq-eqb _ _ c.if-get8-ne1.false) in
    let v = c in
    rw (length-good, version-good, ← c.checksum.ensures, ← c.get16-2.ensures, ne_eqb _ _ c.if-checksum-get16.true)

pub is_control_among-requires : goal.is_control_among-requires
is_control_among-requires c =
    let table-good : table_good c.args.block.now ≡ true =
    sym c.is_table_good.ensures ∙ c.if-is_table_good.true in
    let t = table _ (table-good) in
    (table-readable _ _ c.count-c.ensures t (omega arith), t.apart)

pub returns-then-is_control_among : goal.returns-then-is_control_among
unfolding checked length_good
returns-then-is_control_among c =
    let length-good : length_good c.args.block.now ≡ true =
    rw (le-leb _ _ c.if-len-lt-SHORTEST.false, le-leb _ _ c.if-len-gt-LONGEST.false, ← c.get16.ensures, eq-eqb _ _ c.if-get16-len.false) in
    let version-is : c.get8.result ≡ at c.args.block.now 0 =
    c.get8.ensures ∙ field-one _ 0 (omega arith) in
    let version-good : eqb (at c.args.block.now 0) 1 ≡ true =
    rw (← version-is, eq-eqb _ _ c.if-get8-ne1.false) in
    let sum-good : let b = c.args.block.now in eqb (checksum_of b) (field b 8 2) ≡ true =
    rw (← c.checksum.ensures, ← c.get16-2.ensures, eq-eqb _ _ c.if-checksum-get16.false) in
    let table-good : table_good c.args.block.now ≡ true =
    sym c.is_table_good.ensures ∙ c.if-is_table_good.true in
    let t = c in
    let s = t in
    let v = s in
    rw (length-good, version-good, sum-good, table-good, sym c.is_control_among.ensures ∙ c.if-is_control_among.true)

pub returns-then-is_table_good : goal.returns-then-is_table_good
unfolding checked length_good
returns-then-is_table_good c =
    let length-good : length_good c.args.block.now ≡ true =
    rw (le-leb _ _ c.if-len-lt-SHORTEST.false, le-leb _ _ c.if-len-gt-LONGEST.false, ← c.get16.ensures, eq-eqb _ _ c.if-get16-len.false) in
    let version-is : c.get8.result ≡ at c.args.block.now 0 =
    c.get8.ensures ∙ field-one _ 0 (omega arith) in
    let version-good : eqb (at c.args.block.now 0) 1 ≡ true =
    rw (← version-is, eq-eqb _ _ c.if-get8-ne1.false) in
    let sum-good : let b = c.args.block.now in eqb (checksum_of b) (field b 8 2) ≡ true =
    rw (← c.checksum.ensures, ← c.get16-2.ensures, eq-eqb _ _ c.if-checksum-get16.false) in
    let table-good : table_good c.args.block.now ≡ true =
    sym c.is_table_good.ensures ∙ c.if-is_table_good.true in
    let t = c in
    let s = t in
    let v = s in
    rw (length-good, version-good, sum-good, table-good, sym c.is_control_among.ensures ∙ c.if-is_control_among.false, ← t.count-c.ensures)

pub returns : goal.returns
unfolding checked length_good
returns c =
    let length-good : length_good c.args.block.now ≡ true =
    rw (le-leb _ _ c.if-len-lt-SHORTEST.false, le-leb _ _ c.if-len-gt-LONGEST.false, ← c.get16.ensures, eq-eqb _ _ c.if-get16-len.false) in
    let version-is : c.get8.result ≡ at c.args.block.now 0 =
    c.get8.ensures ∙ field-one _ 0 (omega arith) in
    let version-good : eqb (at c.args.block.now 0) 1 ≡ true =
    rw (← version-is, eq-eqb _ _ c.if-get8-ne1.false) in
    let sum-good : let b = c.args.block.now in eqb (checksum_of b) (field b 8 2) ≡ true =
    rw (← c.checksum.ensures, ← c.get16-2.ensures, eq-eqb _ _ c.if-checksum-get16.false) in
    let s = c in
    let v = s in
    rw (length-good, version-good, sum-good, sym c.is_table_good.ensures ∙ c.if-is_table_good.false)
