-- The maker cells of a page: which cell a maker has, what a maker's quote writes, and what FINRA Close and Open write.
-- Assumes nothing.
use Rattle.std.specs.Prelude.{ℕ, zero, suc, ◌+◌, Bool, false, not, cond, List, [], ◌∷◌, eqb, replicate, Option, None, Some}
use Rattle.field.specs.Field.{part, splice, be_bytes}
use Rattle.lists.specs.Lists.{is_some, first_from}
use Rattle.text.specs.Form.{name_length}
use Rattle.quote.specs.declared.Quote.{Quote}
use Rattle.quote.specs.Quote.{empty_quote, quote_over}
use Rattle.entries.specs.Entries.{Maker}
use Rattle.page.specs.Layout.{cell_length, maker_count, cell_at}
use Rattle.page.specs.Page.{maker_in, maker_bytes}

abbrev pub named : ℕ → Option Maker → Bool
named m None = false
named m (Some x) = eqb x.name m

unfoldable pub find_maker : ℕ → List (Option Maker) → Option Maker
find_maker m [] = None
find_maker m (c ∷ cs) = cond (named m c) c (find_maker m cs)

abbrev pub cell_of : List ℕ → ℕ → Option Maker
cell_of p k = maker_in (part p (cell_at k) cell_length)

-- the first cell of a name; the first free cell
unfoldable pub maker_place : List ℕ → ℕ → Option ℕ
maker_place p m = first_from (λ k. named m (cell_of p k)) 0 maker_count

unfoldable pub free_place : List ℕ → Option ℕ
free_place p = first_from (λ k. not (is_some (cell_of p k))) 0 maker_count

-- "A maker's quote with both sides 0 and 0 frees its cell"
unfoldable pub cell_for : ℕ → Quote → List ℕ
cell_for m q = cond (empty_quote q) (replicate cell_length 0) (maker_bytes (record { name = m; quote = q }))

abbrev pub put_at : List ℕ → Option ℕ → List ℕ → List ℕ
put_at p (Some k) cell = splice p (cell_at k) cell
put_at p None cell = p

abbrev pub put_maker_by : ℕ → Quote → List ℕ → Option ℕ → List ℕ
put_maker_by m q p (Some k) = splice p (cell_at k) (cell_for m q)
put_maker_by m q p None = cond (empty_quote q) p (put_at p (free_place p) (cell_for m q))

-- "and Q U its maker's"; "freed cells are used again"
unfoldable pub put_maker : ℕ → Quote → List ℕ → List ℕ
put_maker m q p = put_maker_by m q p (maker_place p m)

-- a maker's quote over the one that stands, if one does; "a freed maker cell forgets its times"
abbrev pub maker_over : Option Maker → Quote → Quote
maker_over None q = q
maker_over (Some x) q = quote_over x.quote q

-- ---- FINRA Close and Open

-- the condition of a cell that is not free
unfoldable pub mark_cell : ℕ → List ℕ → List ℕ
mark_cell c b = cond (is_some (maker_in b)) (splice b name_length (be_bytes 1 c)) b

-- the k cells from i on
unfoldable pub mark_cells : ℕ → ℕ → ℕ → List ℕ → List ℕ
mark_cells c i zero p = p
mark_cells c i (suc k) p = mark_cells c (i + 1) k (splice p (cell_at i) (mark_cell c (part p (cell_at i) cell_length)))
