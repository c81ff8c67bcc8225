use borrow.Author.Rules.{rules}
use Prim.Native.Nat.{◌^◌, ◌<◌}
use Rattle.field.specs.Field.{Bytes}
use Rattle.ranking.specs.declared.Side.TheVariants.{Bid, Offer}
use Rattle.walk.proofs.GuessLaws.{guess-whole}
use Rattle.walk.proofs.MarkLaws.{odd-told}
use Rattle.walk.proofs.KeyLaws.{above-is}
use Rattle.walk.proofs.walk_odd.Goals as goal

-- `walk::walk_odd` meets its contract.

pub odd_by-odd_bid-requires : goal.odd_by-odd_bid-requires
odd_by-odd_bid-requires c = record { page_len = (c.requires.page_len, c.odd_floor-floor_bid.ensures); set_value = above-is _ Bid _ _ _ c.first_keys.ensures.0 c.above-bids.ensures }

pub odd_by-odd_offer-requires : goal.odd_by-odd_offer-requires
odd_by-odd_offer-requires c = record { page_len = (c.requires.page_len, c.odd_floor-floor_offer.ensures); set_value = above-is _ Offer _ _ _ c.first_keys-2.ensures.0 c.above-offers.ensures }

pub odd_at-requires-2 : goal.odd_at-requires-2
odd_at-requires-2 c = (c.requires.page_len, c.odd_by-odd_offer.ensures.0)

pub returns : goal.returns
returns c =
    let bid-fits : c.args.bid.price < 2 ^ 64 =
    search rules in
    let offer-fits : c.args.offer.price < 2 ^ 64 =
    search rules in
    let b : Bytes c.args.page.now = λ i. (c.shared_slice_known-1.given i).fits in (
      guess-whole _ b Bid _ _ bid-fits _ c.bar-bar_bid.ensures _ c.if-last-lt-Z.false c.requires.a_le_last.1 _ (odd-told _ _ _ _ _ c.stands-d_bid.ensures _ c.odd_by-odd_bid.ensures.1) _ _ c.odd_at.ensures c.beyond.ensures,
      guess-whole _ b Offer _ _ offer-fits _ c.bar-bar_offer.ensures _ c.if-last-lt-Z.false c.requires.a_le_last.1 _ (odd-told _ _ _ _ _ c.stands-d_offer.ensures _ c.odd_by-odd_offer.ensures.1) _ _ c.odd_at-2.ensures c.beyond-2.ensures,
    )
