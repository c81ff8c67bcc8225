-- A page after a message that names its symbol, by what the message says and its code: for code that has the page alone.
-- Assumes nothing.
use Prim.Native.Nat.{ℕ}
use mathlib.Core.Path.{◌≡◌}
use mathlib.Core.Bool.{Bool, true, false, cond}
use mathlib.Core.List.{List}
use lib.Dec.{leb, eqb}
use lib.ListN.{length}
use Rattle.lists.specs.Lists.{upper}
use Rattle.message.specs.declared.Message.{Message}
use Rattle.message.specs.declared.Message.TheVariants as says
use Rattle.message.specs.Message.{odd_of, code_of}
use Rattle.update.specs.Parts.{reading_of, round_on, odd_on_page, maker_on, status_on, known_by}
use Rattle.update.proofs.EntryLaws.{Kept, kept-none, kept_then}
use Rattle.update.proofs.SlotLaws.{round-kept, odd-kept}
use Rattle.update.proofs.MakerLaws.{maker-kept}
use Rattle.update.proofs.StatusLaws.{status-kept}
use Rattle.page.specs.Layout.{page_length}

-- the code of a message that names the page's symbol
abbrev pub page_code : ℕ → List ℕ → List ℕ → ℕ
page_code letter m p = code_of (known_by (reading_of p)) letter m

-- the page after it: an accepted Q K has both its parts on it; one with 60 or more its round part
abbrev pub said_page : ℕ → ℕ → List ℕ → List ℕ → Message → List ℕ
said_page c letter m p (says.Refused k) = p
said_page c letter m p says.Idle = p
said_page c letter m p (says.Finra k) = p
said_page c letter m p (says.RoundLot f q o) = cond (eqb c 0) (odd_on_page letter (odd_of m o) (round_on letter q p)) (cond (leb 60 c) (round_on letter q p) p)
said_page c letter m p (says.OddLot o) = cond (eqb c 0) (odd_on_page letter (odd_of m o) p) p
said_page c letter m p (says.Maker f name q) = cond (eqb c 0) (maker_on name q p) p
said_page c letter m p (says.Status x) = cond (eqb c 0) (status_on x p) p

-- with the code that the page itself gives
abbrev pub page_after : ℕ → List ℕ → Message → List ℕ → List ℕ
page_after letter m x p = said_page (page_code letter m p) letter m p x

module _ (letter : ℕ) (u : upper letter ≡ true) (m : List ℕ) (p : List ℕ) (w : length p ≡ page_length) where
  pub said-kept : (c : ℕ) (x : Message) → Kept p (said_page c letter m p x)
  said-kept c (says.Refused k) = kept-none p w
  said-kept c says.Idle = kept-none p w
  said-kept c (says.Finra k) = kept-none p w
  said-kept c (says.RoundLot f q o) = go (eqb c 0) (leb 60 c)
    where
      go : (s t : Bool) → Kept p (cond s (odd_on_page letter (odd_of m o) (round_on letter q p)) (cond t (round_on letter q p) p))
      go true t =
          let a : Kept p (round_on letter q p) = round-kept p w letter u q in
          kept_then p (round_on letter q p) (odd_on_page letter (odd_of m o) (round_on letter q p)) a (odd-kept (round_on letter q p) a.size letter u (odd_of m o))
      go false true = round-kept p w letter u q
      go false false = kept-none p w
  said-kept c (says.OddLot o) = go (eqb c 0)
    where
      go : (s : Bool) → Kept p (cond s (odd_on_page letter (odd_of m o) p) p)
      go true = odd-kept p w letter u (odd_of m o)
      go false = kept-none p w
  said-kept c (says.Maker f name q) = go (eqb c 0)
    where
      go : (s : Bool) → Kept p (cond s (maker_on name q p) p)
      go true = maker-kept name q p w
      go false = kept-none p w
  said-kept c (says.Status x) = go (eqb c 0)
    where
      go : (s : Bool) → Kept p (cond s (status_on x p) p)
      go true = status-kept x p w
      go false = kept-none p w
