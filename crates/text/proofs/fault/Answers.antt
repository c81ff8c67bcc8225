use Rattle.std.proofs.Common.{◌≡◌, ◌≤◌, rules, eqb, leb}
use borrow.Author.Tests.{tests}
use Rattle.text.specs.Form.{is_space}
use Rattle.text.proofs.FormLaws.{fault-is}
use Rattle.text.proofs.fault.Goals as goal

pub returns : goal.returns
returns c =
    let w : (eqb c.from.result 0 ≡ is_space c.args.x) × (c.from.result ≤ 1) = search (rules, tests) in
    let x : (eqb c.from-2.result 0 ≡ leb 33 c.args.before) × (c.from-2.result ≤ 1) = search (rules, tests) in
    let y : (eqb c.from-3.result 0 ≡ leb 33 c.args.x) × (c.from-3.result ≤ 1) = search (rules, tests) in
    let z : (eqb c.from-4.result 0 ≡ leb c.args.x 126) × (c.from-4.result ≤ 1) = search (rules, tests) in
    fault-is c.from.result c.from-2.result c.from-3.result c.from-4.result c.args.before c.args.x w x y z
