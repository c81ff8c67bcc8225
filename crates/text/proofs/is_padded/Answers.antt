use Rattle.std.proofs.Common.{◌≡◌, rules, drop, sym, ap, ◌∙◌}
use borrow.Author.Tests.{tests}
use Rattle.std.proofs.lemmas.Slice.{between_to_end}
use Rattle.std.specs.List.{position_or_len}
use Rattle.lists.specs.Lists.{every}
use Rattle.lists.proofs.Iteration.{every_from_all, position_from_position}
use Rattle.text.specs.Form.{is_space}
use Rattle.text.proofs.FormLaws.{outside, padded-cut}
use Rattle.text.proofs.is_padded.Goals as goal

pub returns : goal.returns
returns c =
    let s = c.args.s.now in
    let test = outside c.args.low c.args.high in
    let end : c.unwrap_or-end.result ≡ position_or_len test s = c.unwrap_or-end.ensures ∙ position_from_position test s (cc) c.position.ensures.ran (λ x b q k. search (rules, tests)) in
    let blank : c.all.result ≡ every is_space (drop c.unwrap_or-end.result s) = every_from_all is_space (drop c.unwrap_or-end.result s) _ (search (rules, between_to_end)) c.all.ensures.ran (λ x b q k. search (rules, tests)) in
    blank ∙ ap (λ k. every is_space (drop k s)) end ∙ sym (padded-cut c.args.low c.args.high s)
