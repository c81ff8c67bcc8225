use Prim.Native.Nat.{◌≤◌}
use mathlib.Core.Path.{sym, ◌∙◌}
use native.Mathlib.Omega.{arith}
use lib.ListN.{length}
use Rattle.block.specs.Written.{length_with}
use Rattle.numbers.proofs.RefusalLaws.{passed_up}
use Rattle.writer.proofs.GoodLaws.{Good}
use Rattle.writer.proofs.NumberLaws.{refused, passed}
use Rattle.writer.proofs.OutLaws.{lent_length, out-is}
use Rattle.writer.proofs.write_block.Goals as goal

-- `writer::write_block` meets its contract.

pub returns-in_err-judge : goal.returns-in_err-judge
returns-in_err-judge c =
    rw (passed_up c.from_residual.result _ c.from_residual.ensures.1) (refused _ _ _ _ c.args.output.now c.in_err-judge.ensures)

pub copy-requires : goal.copy-requires
copy-requires c =
    let pass : (Good c.args.lengths.now (length c.args.messages.now))
    × (length_with (length c.args.lengths.now) (length c.args.messages.now) ≤ length c.args.output.now) =
    passed _ _ _ c.in_ok-judge.ensures in
    omega (arith, pass.1)

pub slice_bounds-frame-end : goal.slice_bounds-frame-end
slice_bounds-frame-end c =
    let pass : (Good c.args.lengths.now (length c.args.messages.now))
    × (length_with (length c.args.lengths.now) (length c.args.messages.now) ≤ length c.args.output.now) =
    passed _ _ _ c.in_ok-judge.ensures in
    omega (arith, pass.1)

pub frame-requires : goal.frame-requires
frame-requires c =
    let pass : (Good c.args.lengths.now (length c.args.messages.now))
    × (length_with (length c.args.lengths.now) (length c.args.messages.now) ≤ length c.args.output.now) =
    passed _ _ _ c.in_ok-judge.ensures in
    let g = pass.0 in
    let n = lent_length _ _ _ c.args.sequence g pass.1 _ c.copy.ensures in
    (omega (arith, n, g.short), (g.few, omega (arith, n, g.adds)))

pub returns : goal.returns
returns c =
    let pass : (Good c.args.lengths.now (length c.args.messages.now))
    × (length_with (length c.args.lengths.now) (length c.args.messages.now) ≤ length c.args.output.now) =
    passed _ _ _ c.in_ok-judge.ensures in
    out-is _ _ _ _ pass.0 pass.1 _ _ c.copy.ensures c.frame.ensures c.in_ok-judge.ensures
