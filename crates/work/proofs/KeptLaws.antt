-- A message leaves the opening, and every page its length.
-- Assumes nothing.
use Prim.Native.Nat.{ℕ}
use mathlib.Core.Path.{◌≡◌}
use mathlib.Core.Bool.{true}
use mathlib.Core.List.{List, [], ◌∷◌}
use Rattle.lists.specs.Lists.{upper}
use Rattle.message.specs.Message.{symbol_of, parts_of}
use Rattle.update.specs.Parts.{known_of}
use Rattle.message.proofs.SpokenLaws.{shaped}
use Rattle.opening.specs.Opening.{reading_for}
use Rattle.work.specs.Work.{code_on, message_on, messages_on}
use Rattle.opening.proofs.OpeningLaws.{Sound}
use Rattle.opening.proofs.PageLaws.{OpeningKept, opening-none, opening-then, kept-sound}
use Rattle.work.proofs.PartLaws.{parts-kept}

-- ---- messages keep the opening

module _ (n letter : ℕ) (u : upper letter ≡ true) where
  pub message-kept : (m : List ℕ) (b : List ℕ) → Sound n b → OpeningKept b (message_on letter m b)
  message-kept m b sd = parts-kept n (parts_of (code_on letter m b) m) b sd (shaped (known_of (reading_for b (symbol_of m))) letter m u)

  pub messages-kept : (ms : List (List ℕ)) (b : List ℕ) → Sound n b → OpeningKept b (messages_on letter ms b)
  unfolding messages_on
  messages-kept [] b sd = opening-none b
  messages-kept (m ∷ ms) b sd =
      let k : OpeningKept b (message_on letter m b) = message-kept m b sd in
      opening-then b (message_on letter m b) (messages_on letter ms (message_on letter m b)) k
      (messages-kept ms (message_on letter m b) (kept-sound b (message_on letter m b) k n sd))

-- ---- calls
