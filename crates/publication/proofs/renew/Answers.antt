use Prim.Native.Nat.{ℕ}
use mathlib.Core.Path.{ap, ◌∙◌}
use mathlib.Core.List.{List}
use Rattle.field.specs.Field.{Bytes}
use Rattle.page.specs.Page.{published_entries}
use Rattle.walk.specs.Bests.{bests_of}
use Rattle.page.proofs.CutLaws.{cut-whole}
use Rattle.publication.proofs.PublicationLaws.{renewed}
use Rattle.publication.proofs.StandingLaws.{renewed-none}
use Rattle.publication.proofs.renew.Goals as goal

-- `publication::renew` meets its contract.

pub returns-then-changed-eq0 : goal.returns-then-changed-eq0
returns-then-changed-eq0 c =
    let bytes : Bytes c.args.page.now =
    λ i. (c.slice_known-1.given i).fits in
    renewed-none _ c.requires bytes _ _ (c.entries_behind.ensures ∙ ap (λ (x : List ℕ). bests_of (published_entries x)) (cut-whole _)) c.to_publish-published.ensures _ c.flags-changed.ensures c.if-changed-eq0.true

pub returns : goal.returns
returns c =
    let bytes : Bytes c.args.page.now =
    λ i. (c.slice_known-1.given i).fits in
    renewed _ bytes _ _ (c.entries_behind.ensures ∙ ap (λ (x : List ℕ). bests_of (published_entries x)) (cut-whole _)) c.to_publish-published.ensures _ _ c.flags-changed.ensures c.put_entries.ensures
