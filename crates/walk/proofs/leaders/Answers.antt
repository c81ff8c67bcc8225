use borrow.Author.Rules.{rules}
use Prim.Native.Nat.{◌^◌, ◌≤◌, ◌<◌}
use mathlib.Core.Path.{sym, ◌∙◌}
use Rattle.ranking.specs.declared.Side.TheVariants.{Bid, Offer}
use Rattle.keys.specs.Keys.{full_key}
use Rattle.walk.proofs.KeyLaws.{same-is, set-small}
use Rattle.walk.proofs.LeadingLaws.{in_letters, leader-is, leaders-both}
use Rattle.walk.proofs.MarkLaws.{decided-told}
use Rattle.walk.proofs.leaders.Goals as goal

-- `walk::leaders` meets its contract.

pub members-bid_set-requires : goal.members-bid_set-requires
members-bid_set-requires c = set-small _ _ c.same-bids.ensures

pub members-offer_set-requires : goal.members-offer_set-requires
members-offer_set-requires c = set-small _ _ c.same-offers.ensures

pub leaders_of_all-requires-then-is_hidden : goal.leaders_of_all-requires-then-is_hidden
leaders_of_all-requires-then-is_hidden c = record { page_len = c.requires.page_len; a_le_last = c.requires.a_le_last }

pub leaders_of_all-requires-then-is_hidden-2 : goal.leaders_of_all-requires-then-is_hidden-2
leaders_of_all-requires-then-is_hidden-2 c = record { page_len = c.requires.page_len; a_le_last = c.requires.a_le_last }

pub decided-bid_by-requires : goal.decided-bid_by-requires
decided-bid_by-requires c = c.requires.page_len

pub decided-offer_by-requires : goal.decided-offer_by-requires
decided-offer_by-requires c = c.requires.page_len

pub led-requires : goal.led-requires
led-requires c =
    let top-bid-fits : c.top_key-top_bid.result ≤ full_key =
    search rules in
    let bid-fits : c.args.finra.bid.price < 2 ^ 64 =
    search rules in
    record { page_len = c.requires.page_len; in_letters = in_letters _ (λ i. (c.shared_slice_known-1.given i).fits) Bid _ bid-fits _ c.top_key-top_bid.ensures.0 c.top_key-top_bid.ensures.1 top-bid-fits _ (same-is _ Bid _ _ _ c.quote_keys.ensures.0 c.same-bids.ensures) _ c.key.ensures _ c.members-bid_set.ensures.0 _ c.leading-bid.ensures (sym c.is_hidden.ensures ∙ c.if-is_hidden.false) }

pub led-requires-2 : goal.led-requires-2
led-requires-2 c =
    let top-offer-fits : c.top_key-top_offer.result ≤ full_key =
    search rules in
    let offer-fits : c.args.finra.offer.price < 2 ^ 64 =
    search rules in
    record { page_len = c.requires.page_len; in_letters = in_letters _ (λ i. (c.shared_slice_known-1.given i).fits) Offer _ offer-fits _ c.top_key-top_offer.ensures.0 c.top_key-top_offer.ensures.1 top-offer-fits _ (same-is _ Offer _ _ _ c.quote_keys-2.ensures.0 c.same-offers.ensures) _ c.key-2.ensures _ c.members-offer_set.ensures.0 _ c.leading-offer.ensures (sym c.is_hidden-2.ensures ∙ c.if-is_hidden-2.false) }

pub returns : goal.returns
returns c =
    let top-bid-fits : c.top_key-top_bid.result ≤ full_key =
    search rules in
    let top-offer-fits : c.top_key-top_offer.result ≤ full_key =
    search rules in
    let bid-fits : c.args.finra.bid.price < 2 ^ 64 =
    search rules in
    let offer-fits : c.args.finra.offer.price < 2 ^ 64 =
    search rules in
    leaders-both _ _ _ _ _
    (leader-is _ (λ i. (c.shared_slice_known-1.given i).fits) Bid _ bid-fits _ c.top_key-top_bid.ensures.0 c.top_key-top_bid.ensures.1 top-bid-fits _ (same-is _ Bid _ _ _ c.quote_keys.ensures.0 c.same-bids.ensures) _ c.key.ensures _ c.members-bid_set.ensures.0 _ c.leading-bid.ensures (sym c.is_hidden.ensures ∙ c.if-is_hidden.false) _ c.if-last-lt-Z.false c.requires.a_le_last.1 _ (decided-told _ _ _ _ _ _ c.stands-d_bid.ensures _ c.decided-bid_by.ensures) _ c.led.ensures)
    (leader-is _ (λ i. (c.shared_slice_known-1.given i).fits) Offer _ offer-fits _ c.top_key-top_offer.ensures.0 c.top_key-top_offer.ensures.1 top-offer-fits _ (same-is _ Offer _ _ _ c.quote_keys-2.ensures.0 c.same-offers.ensures) _ c.key-2.ensures _ c.members-offer_set.ensures.0 _ c.leading-offer.ensures (sym c.is_hidden-2.ensures ∙ c.if-is_hidden-2.false) _ c.if-last-lt-Z.false c.requires.a_le_last.1 _ (decided-told _ _ _ _ _ _ c.stands-d_offer.ensures _ c.decided-offer_by.ensures) _ c.led-2.ensures)
