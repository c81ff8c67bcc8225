use mathlib.Core.Path.{refl, sym, ◌∙◌}
use Rattle.work.proofs.MessageLaws.{told-else, told-finra}
use Rattle.work.proofs.work.Goals as goal

pub finra_pages-flags-requires : goal.finra_pages-flags-requires
finra_pages-flags-requires c = c.requires.0

pub work_round_lot-requires : goal.work_round_lot-requires
work_round_lot-requires c =
    record { book_value = c.requires; msg_value = sym c.read-said.ensures ∙ c.in-RoundLot.is }

pub work_odd_lot-requires : goal.work_odd_lot-requires
work_odd_lot-requires c =
    record { book_value = c.requires; msg_value = sym c.read-said.ensures ∙ c.in-OddLot.is }

pub work_maker-requires : goal.work_maker-requires
work_maker-requires c =
    record { book_value = c.requires; msg_value = sym c.read-said.ensures ∙ c.in-Maker.is }

pub work_status-requires : goal.work_status-requires
work_status-requires c =
    record { book_value = c.requires; msg_value = sym c.read-said.ensures ∙ c.in-Status.is }

pub returns-in-Refused : goal.returns-in-Refused
returns-in-Refused c =
    told-else _ c.requires.0 _ c.requires.1 _ _ (sym c.read-said.ensures ∙ c.in-Refused.is) refl

pub returns-in-Idle : goal.returns-in-Idle
returns-in-Idle c =
    told-else _ c.requires.0 _ c.requires.1 _ _ (sym c.read-said.ensures ∙ c.in-Idle.is) refl

pub returns-in-Finra : goal.returns-in-Finra
returns-in-Finra c =
    told-finra _ c.requires.0 _ c.requires.1 _ _ _ _ (sym c.read-said.ensures ∙ c.in-Finra.is) c.finra_pages-flags.ensures.0 c.finra_pages-flags.ensures.1
