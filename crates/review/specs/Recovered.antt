-- What a subscriber who recovers from a failure is to know of a symbol, from the history alone (document 02, T-12).
-- Assumes nothing.
use Rattle.std.specs.Prelude.{ℕ, cond, List, [], ◌∷◌, Option, None, Some}
use Rattle.field.specs.Ascii.{A, D, S}
use Rattle.lists.specs.Lists.{map_option, member, collect, range}
use Rattle.ranking.specs.declared.Side.TheVariants.{Bid, Offer}
use Rattle.quote.specs.declared.Quote.{Quote}
use Rattle.entries.specs.Entries.{Entries, entries_of, unless_halted}
use Rattle.entries.specs.Publication.{entry_bytes, national_name, finra_name}
use Rattle.message.specs.Message.{Part}
use Rattle.snapshot.specs.Snapshot.{Shown, shown_of, Snapshot}
use Rattle.review.specs.Reviewer.{parts, rounds_of, quote_of, makers_of, levels_of, halted_of}

abbrev pub newest : List Quote → Option Quote
newest [] = None
newest (q ∷ qs) = Some q

-- "each letter's latest condition, prices and sizes", of "each letter with a round quote since Start of Day"; FINRA's entries tell D's quotes, S has none
abbrev pub latest_shown : List Part → ℕ → ℕ → Option Shown
latest_shown h s l = cond (member (D ∷ S ∷ []) l) None (map_option (shown_of l) (newest (rounds_of h s l)))

unfoldable pub letters_shown : List Part → ℕ → List Shown
letters_shown h s = collect (latest_shown h s) (range 26 A)

-- the entries that the reviewer works out anew
abbrev pub entries_told : List Part → ℕ → Entries
entries_told h s = unless_halted (halted_of h s) (entries_of (quote_of h s) (makers_of h s) (levels_of h s))

-- "the symbol, the publication's national and FINRA entries, T-08's byte aside" (a space), and the letters
unfoldable pub recovered : List (List ℕ) → List ℕ → ℕ → Snapshot
recovered h x s =
    record {
      symbol = x;
      national = record { bid = entry_bytes (national_name None) ((entries_told (parts h) s).national Bid); offer = entry_bytes (national_name None) ((entries_told (parts h) s).national Offer) };
      finra = record { bid = entry_bytes finra_name ((entries_told (parts h) s).finra Bid); offer = entry_bytes finra_name ((entries_told (parts h) s).finra Offer) };
      letters = letters_shown (parts h) s;
    }
