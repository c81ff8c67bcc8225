-- The day opened and closed, and every line restarted: what they leave of the opening. The pages stay.
-- Assumes nothing.
use Rattle.std.proofs.Common.{◌≡◌, ℕ, zero, suc, ◌+◌, ◌*◌, ◌≤◌, Bool, true, false, cond, eqb, ltb, List, [], ◌∷◌, ◌++◌, length, refl, ap, ◌∙◌, append_assoc, arith, lit<, length-append, ltb-true}
use mathlib.Core.Path.{fun_ext}
use Rattle.std.specs.Prelude.{None, Some}
use Rattle.field.specs.Field.{Bytes, be, part, field, splice, be_bytes}
use Rattle.field.proofs.Laws.{bytes-be_bytes, bytes-append, bytes-part, bytes-splice, length_part, length-splice, part-before, part-behind, part-put}
use Rattle.lists.specs.Lists.{map_option}
use Rattle.text.specs.Form.{letter_good}
use Rattle.update.proofs.TableLaws.{length-cell, each_cell, Each, each-cell}
use Rattle.field.proofs.JoinLaws.{part-front, part-after, part-whole}
use Rattle.opening.specs.declared.Line.{Line}
use Rattle.opening.specs.Opening.{symbols_of, count_of, line_in, lines_in, allowance_on, rest_in, page_at, pages_in, restarted, restart_lines}
use Rattle.opening.proofs.OpeningLaws.{Sound, Front, sound-by, count_by, lines-by, allowance-by, pages-by, opening-page}
use Rattle.allowance.specs.Allowance.{allowance_length}
use Rattle.page.specs.Layout.{page_length}
use Rattle.opening.specs.Layout.{day_at, first_page_at, lines_at, line_length, line_count, n_at, count_at, allowance_at, page_start, line_at}

-- ---- the day opened or closed

module _ (n : ℕ) (b : List ℕ) (sd : Sound n b) (d : ℕ) (low : d ≤ 1) where
  abbrev pub dayed : List ℕ
  dayed = splice b day_at (d ∷ [])

  day-in : day_at + 1 ≤ length b
  day-in = omega (arith, sd.size)

  before : Front b dayed day_at
  before at m h = part-before b day_at (d ∷ []) at m (omega (arith, day-in)) h

  behind : (at m : ℕ) → first_page_at ≤ at → part dayed at m ≡ part b at m
  behind at m h = part-behind b day_at (d ∷ []) at m (omega arith)

  day-is : field dayed day_at 1 ≡ d
  unfolding field be
  day-is = ap be (part-put b day_at (d ∷ []) 1 refl (omega (arith, day-in))) ∙ (omega arith)

  dayed-count : count_of dayed ≡ count_of b
  unfolding count_of field
  dayed-count = ap be (before count_at 1 (omega arith))

  dayed-symbols : symbols_of dayed ≡ symbols_of b
  unfolding symbols_of field
  dayed-symbols = ap be (before n_at 1 (omega arith))

  dayed-first : field dayed first_page_at 4 ≡ field b first_page_at 4
  unfolding field
  dayed-first = ap be (behind first_page_at 4 (omega arith))

  pub dayed-sound : Sound n dayed
  dayed-sound =
      record {
        size = length-splice b day_at (d ∷ []) day-in ∙ sd.size;
        low = sd.low;
        up = sd.up;
        symbols = dayed-symbols ∙ sd.symbols;
        count = rw dayed-count sd.count;
        marked = before 0 n_at (omega arith) ∙ sd.marked;
        first = dayed-first ∙ sd.first;
        day = rw day-is low;
      }

  one_byte : Bytes (d ∷ [])
  one_byte zero = omega arith
  one_byte (suc i) = lit< tt

  pub dayed-bytes : Bytes b → Bytes dayed
  dayed-bytes y = bytes-splice b day_at (d ∷ []) y one_byte

  pub dayed-page : (k : ℕ) → page_at dayed k ≡ page_at b k
  dayed-page k = opening-page b day_at (d ∷ []) (omega arith) k

  pub dayed-pages : pages_in dayed ≡ pages_in b
  dayed-pages = pages-by b dayed dayed-count (λ k h. dayed-page k)

  pub dayed-rest : rest_in dayed ≡ record { n = (rest_in b).n; lines = (rest_in b).lines; day = eqb d 1; allowance = (rest_in b).allowance }
  unfolding rest_in
  dayed-rest =
      let l : lines_in dayed ≡ lines_in b = lines-by b dayed (λ i h. behind (line_at i) line_length (omega arith)) in
      let a : allowance_on dayed ≡ allowance_on b = allowance-by b dayed (behind allowance_at allowance_length (omega arith)) in
      λ k. record { n = dayed-symbols k; lines = l k; day = eqb (day-is k) 1; allowance = a k }

-- ---- every line restarted

-- the letter stays, the next expected number is 1 and the count 0
abbrev pub restarted_line : Line → Line
restarted_line x = record { letter = x.letter; expected = 1; count = 0 }

length-restarted : (r : List ℕ) → length r ≡ line_length → length (restarted r) ≡ line_length
unfolding restarted be_bytes
length-restarted r w = simp (length-append, length_part r 0 1 (omega arith))

bytes-restarted : (r : List ℕ) → Bytes r → Bytes (restarted r)
unfolding restarted
bytes-restarted r y = bytes-append (part r 0 1 ++ be_bytes 4 1) (be_bytes 8 0) (bytes-append (part r 0 1) (be_bytes 4 1) (bytes-part r 0 1 y) (bytes-be_bytes 4 1)) (bytes-be_bytes 8 0)

module _ (r : List ℕ) (w : length r ≡ line_length) where
  abbrev again : List ℕ
  again = part r 0 1 ++ be_bytes 4 1 ++ be_bytes 8 0

  head_of : length (part r 0 1) ≡ 1
  head_of = length_part r 0 1 (omega arith)

  split : again ≡ part r 0 1 ++ (be_bytes 4 1 ++ be_bytes 8 0)
  split = append_assoc (part r 0 1) (be_bytes 4 1) (be_bytes 8 0)

  letter-of : field again 0 1 ≡ field r 0 1
  unfolding field
  letter-of =
      ap be (ap (λ (z : List ℕ). part z 0 1) split ∙ part-front (part r 0 1) (be_bytes 4 1 ++ be_bytes 8 0) 0 1 (omega (arith, head_of)) ∙ part-whole (part r 0 1) 1 head_of)

  tail_of : (i m : ℕ) → field again (1 + i) m ≡ be (part (be_bytes 4 1 ++ be_bytes 8 0) i m)
  unfolding field
  tail_of i m = ap be (ap (λ (z : List ℕ). part z (1 + i) m) split ∙ part-after (part r 0 1) (be_bytes 4 1 ++ be_bytes 8 0) 1 i m head_of)

one-next : be (part (be_bytes 4 1 ++ be_bytes 8 0) 0 4) ≡ 1
unfolding be part be_bytes
one-next = refl

none-counted : be (part (be_bytes 4 1 ++ be_bytes 8 0) 4 8) ≡ 0
unfolding be part be_bytes
none-counted = refl

pub restarted-line : (r : List ℕ) → length r ≡ line_length → line_in (restarted r) ≡ map_option restarted_line (line_in r)
unfolding line_in restarted
restarted-line r w = rw (letter-of r w) (go (letter_good (field r 0 1)))
  where
    go : (t : Bool)
        → cond t (Some (record { letter = field r 0 1; expected = field (again r w) 1 4; count = field (again r w) 5 8 })) None
        ≡ map_option restarted_line (cond t (Some (record { letter = field r 0 1; expected = field r 1 4; count = field r 5 8 })) None)
    go true = λ i. Some (record { letter = field r 0 1; expected = (tail_of r w 0 4 ∙ one-next) i; count = (tail_of r w 4 8 ∙ none-counted) i })
    go false = refl

restart-each : (i k : ℕ) (b : List ℕ) → restart_lines i k b ≡ each_cell lines_at line_length restarted i k b
unfolding restart_lines each_cell
restart-each i zero b = refl
restart-each i (suc k) b = restart-each (i + 1) k (splice b (line_at i) (restarted (part b (line_at i) line_length)))

restart-bytes : (i k : ℕ) (b : List ℕ) → Bytes b → Bytes (restart_lines i k b)
unfolding restart_lines
restart-bytes i zero b y = y
restart-bytes i (suc k) b y =
    restart-bytes (i + 1) k (splice b (line_at i) (restarted (part b (line_at i) line_length)))
    (bytes-splice b (line_at i) (restarted (part b (line_at i) line_length)) y (bytes-restarted (part b (line_at i) line_length) (bytes-part b (line_at i) line_length y)))

module _ (n : ℕ) (b : List ℕ) (sd : Sound n b) where
  abbrev pub relined : List ℕ
  relined = restart_lines 0 line_count b

  re-room : lines_at + line_count * line_length ≤ length b
  re-room = omega (arith, sd.size)

  all_lines : Each lines_at line_length restarted 0 line_count b relined
  all_lines = rw (restart-each 0 line_count b) (each-cell lines_at line_length line_count restarted length-restarted 0 line_count b re-room (omega arith))

  relined-head : Front b relined lines_at
  relined-head at m h = all_lines.before at m (omega arith)

  pub relined-sound : Sound n relined
  relined-sound = sound-by b relined n sd all_lines.size relined-head

  pub relined-bytes : Bytes b → Bytes relined
  relined-bytes y = restart-bytes 0 line_count b y

  pub relined-page : (k : ℕ) → page_at relined k ≡ page_at b k
  unfolding page_at
  relined-page k = all_lines.behind (page_start k) page_length (omega arith)

  pub relined-pages : pages_in relined ≡ pages_in b
  relined-pages = pages-by b relined (count_by b relined relined-head) (λ k h. relined-page k)

  pub relined-lines : lines_in relined ≡ (λ i. map_option restarted_line (lines_in b i))
  unfolding lines_in
  relined-lines = fun_ext (λ i. go i (ltb i line_count) refl)
    where
      go : (i : ℕ) (t : Bool) → ltb i line_count ≡ t → cond t (line_in (part relined (line_at i) line_length)) None ≡ map_option restarted_line (cond t (line_in (part b (line_at i) line_length)) None)
      go i true e =
          ap line_in (all_lines.cell i (omega arith) (omega (arith, ltb-true i line_count e)))
          ∙ restarted-line (part b (line_at i) line_length) (length-cell b lines_at line_length line_count i re-room (ltb-true i line_count e))
      go i false e = refl

  pub relined-rest : rest_in relined ≡ record { n = (rest_in b).n; lines = λ i. map_option restarted_line ((rest_in b).lines i); day = (rest_in b).day; allowance = (rest_in b).allowance }
  unfolding rest_in symbols_of field
  relined-rest =
      let s : be (part relined n_at 1) ≡ be (part b n_at 1) = ap be (relined-head n_at 1 (omega arith)) in
      let d : eqb (be (part relined day_at 1)) 1 ≡ eqb (be (part b day_at 1)) 1 = ap (λ (l : List ℕ). eqb (be l) 1) (relined-head day_at 1 (omega arith)) in
      let a : allowance_on relined ≡ allowance_on b = allowance-by b relined (all_lines.behind allowance_at allowance_length (omega arith)) in
      λ k. record { n = s k; lines = relined-lines k; day = d k; allowance = a k }
