use native.Mathlib.Omega.{arith}
use Rattle.quote.proofs.AdmitsLaws.{admits-both, admits-range, admits-offer, admits-bid, admits-none}
use Rattle.quote.proofs.admits.Goals as goal

pub returns-in-69 : goal.returns-in-69
returns-in-69 c = admits-offer _ _ _ c.is_bid-bid.ensures c.in-69.is

pub returns-in-70 : goal.returns-in-70
returns-in-70 c = admits-bid _ _ _ c.is_bid-bid.ensures c.in-70.is

pub returns-in_default : goal.returns-in_default
returns-in_default c = let r = c.in_default.in_default-own.rest in admits-none _ _ r.0.0.1 r.0.1 r.1 (λ e. omega arith) (λ e. omega arith)

pub returns-in_default-2 : goal.returns-in_default-2
returns-in_default-2 c = let r = c.in_default.in_default-own.rest in admits-none _ _ r.0.0.1 r.0.1 r.1 (λ e. omega arith) (λ e. omega arith)

pub returns-in-65 : goal.returns-in-65
returns-in-65 c = admits-both _ _ c.in-65.is

pub returns-in-65-2 : goal.returns-in-65-2
returns-in-65-2 c = admits-range _ _ c.in-65.if-condition-lt65-own.false c.in-65.if-condition-lt67-own.true
