-- Options, results over lists, tables of numbers, tests over ranges, searches.
-- Assumes nothing.
use Rattle.std.specs.Prelude.{ℕ, zero, suc, ◌+◌, Bool, true, false, ◌&&◌, cond, List, [], ◌∷◌, ◌++◌, eqb, leb, get_or, Option, None, Some}

-- element i; past its end a list reads as 0
abbrev pub at : List ℕ → ℕ → ℕ
at b i = get_or b i 0

-- ---- options

abbrev pub map_option : {A B : Type 0} → (A → B) → Option A → Option B
map_option f None = None
map_option f (Some a) = Some (f a)

abbrev pub bind_option : {A B : Type 0} → Option A → (A → Option B) → Option B
bind_option None f = None
bind_option (Some a) f = f a

abbrev pub or_else : {A : Type 0} → Option A → A → A
or_else None d = d
or_else (Some a) d = a

abbrev pub is_some : {A : Type 0} → Option A → Bool
is_some None = false
is_some (Some a) = true

-- ---- lists

abbrev pub cons_option : {A : Type 0} → Option A → List A → List A
cons_option None xs = xs
cons_option (Some x) xs = x ∷ xs

-- the results of f over a list, where it has one
abbrev pub collect : {A B : Type 0} → (A → Option B) → List A → List B
collect f [] = []
collect f (x ∷ xs) = cons_option (f x) (collect f xs)

-- the results of f over a list, end to end
abbrev pub gather : {A B : Type 0} → (A → List B) → List A → List B
gather f [] = []
gather f (x ∷ xs) = f x ++ gather f xs

-- n numbers from k on
abbrev pub range : ℕ → ℕ → List ℕ
range zero k = []
range (suc n) k = k ∷ range n (suc k)

unfoldable pub sum : List ℕ → ℕ
sum [] = 0
sum (x ∷ xs) = x + sum xs

-- ---- tests

abbrev pub between : ℕ → ℕ → ℕ → Bool
between low high x = leb low x && leb x high

-- A to Z
abbrev pub upper : ℕ → Bool
upper x = between 65 90 x

-- a number is in a table
unfoldable pub member : List ℕ → ℕ → Bool
member [] x = false
member (k ∷ ks) x = cond (eqb x k) true (member ks x)

-- a test holds at every element
unfoldable pub every : (ℕ → Bool) → List ℕ → Bool
every p [] = true
every p (x ∷ xs) = p x && every p xs

-- a test holds at each of the k numbers from i on
unfoldable pub all : (ℕ → Bool) → ℕ → ℕ → Bool
all p i zero = true
all p i (suc k) = p i && all p (i + 1) k

-- two lists are equal, element by element
unfoldable pub same_list : List ℕ → List ℕ → Bool
same_list [] [] = true
same_list [] (y ∷ ys) = false
same_list (x ∷ xs) [] = false
same_list (x ∷ xs) (y ∷ ys) = eqb x y && same_list xs ys

-- the first of the k numbers from i on at which a test holds
unfoldable pub first_from : (ℕ → Bool) → ℕ → ℕ → Option ℕ
first_from p i zero = None
first_from p i (suc k) = cond (p i) (Some i) (first_from p (i + 1) k)
