use Rattle.walk.proofs.LeadingLaws.{leaders-both, all-is}
use Rattle.walk.proofs.leaders_of_all.Goals as goal

-- `walk::leaders_of_all` meets its contract.

pub returns : goal.returns
returns c = leaders-both _ _ _ _ _ (all-is _ _ _ _ _ _ _ c.copied.ensures c.lead_all-bid.ensures c.copied_lead.ensures) (all-is _ _ _ _ _ _ _ c.copied-2.ensures c.lead_all-offer.ensures c.copied_lead-2.ensures)
