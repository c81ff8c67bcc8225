use mathlib.Core.Path.{refl}
use Rattle.walk.proofs.WalkLaws.{walked_both}
use Rattle.walk.proofs.LeadingLaws.{leaders-bid, leaders-offer}
use Rattle.walk.proofs.walk_page.Goals as goal

-- `walk::walk_page` meets its contract.

pub returns : goal.returns
returns c =
    walked_both _ c.requires.page_len (λ i. (c.shared_slice_known-1.given i).fits) _ c.requires.a_le_last.0 c.requires.a_le_last.1 _ c.walk_finra-finra.ensures _ _ _ _ _ _ (leaders-bid _ _ _ _ c.leaders-national.ensures) (leaders-offer _ _ _ _ c.leaders-national.ensures)
    refl c.walk_odd-odd.ensures.0 refl c.walk_odd-odd.ensures.1
