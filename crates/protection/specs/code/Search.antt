-- What the search looks at, one level, maker or letter after another: for the contracts of its steps.
-- Assumes nothing.
use Rattle.std.specs.Prelude.{ℕ, Bool, ◌&&◌, List, ltb}
use Rattle.ranking.specs.declared.Side.{Side}
use Rattle.quote.specs.declared.Level.{Level}
use Rattle.walk.specs.code.Walk.{maker_at}
use Rattle.protection.specs.Protection.{reaches, answers_yes, page_candidates}

-- a level with price and size above zero that reaches the price, whatever its condition
unfoldable pub level_yes : Side → ℕ → Level → Bool
level_yes s p l = reaches s p l.price && (ltb 0 l.price && ltb 0 l.size)

-- maker cell k
unfoldable pub maker_yes : List ℕ → Side → ℕ → ℕ → Bool
maker_yes b s p k = answers_yes s p (maker_at b s k)

-- a letter
unfoldable pub letter_yes : List ℕ → Side → ℕ → ℕ → Bool
letter_yes b s p l = answers_yes s p (page_candidates b s l)
