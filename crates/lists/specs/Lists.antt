-- Searches, tests, counts and sums over the rows of a table, for any kind of row. Assumes nothing.
use Rattle.std.specs.Prelude.{filter, Bool, true, false, ◌&&◌, cond, not, List, [], ◌∷◌, ℕ, zero, suc, ◌+◌, ◌*◌, Option, Some, None}
use Rattle.std.specs.List.{list_any, list_all}

-- 1 for true, 0 for false
abbrev pub bit : Bool → ℕ
bit true = 1
bit false = 0

-- the index, counted from i, of the first row that passes the test
unfoldable pub first_at : {A : Type 0} → (A → Bool) → ℕ → List A → Option ℕ
first_at p i [] = None
first_at p i (x ∷ xs) = cond (p x) (Some i) (first_at p (suc i) xs)

-- what a search finds: no row, or the first one with its index
pub data Hit (A : Type 0) : Type 0 where
  miss : Hit A
  hit : ℕ → A → Hit A

-- the first row that passes the test, with its index, counted from i
unfoldable pub first_row : {A : Type 0} → (A → Bool) → ℕ → List A → Hit A
first_row p i [] = miss
first_row p i (x ∷ xs) = cond (p x) (hit i x) (first_row p (suc i) xs)

-- the first row of a table that passes the test
abbrev pub find : {A : Type 0} → (A → Bool) → List A → Hit A
find p l = first_row p 0 l

-- every row passes
abbrev pub all_of : {A : Type 0} → (A → Bool) → List A → Bool
all_of p l = list_all p l

-- some row passes
abbrev pub any_of : {A : Type 0} → (A → Bool) → List A → Bool
any_of p l = list_any p l

-- how many rows pass
unfoldable pub count_if : {A : Type 0} → (A → Bool) → List A → ℕ
count_if p [] = 0
count_if p (x ∷ xs) = bit (p x) + count_if p xs

-- the rows that pass, in their order
abbrev pub keep : {A : Type 0} → (A → Bool) → List A → List A
keep p l = filter p l

-- the sum of f over the rows
unfoldable pub sum_of : {A : Type 0} → (A → ℕ) → List A → ℕ
sum_of f [] = 0
sum_of f (x ∷ xs) = f x + sum_of f xs

-- the sum of a list of numbers
unfoldable pub total : List ℕ → ℕ
total [] = 0
total (n ∷ ns) = n + total ns

-- no row clashes with a later one
unfoldable pub no_clash : {A : Type 0} → (A → A → Bool) → List A → Bool
no_clash clash [] = true
no_clash clash (x ∷ xs) = not (any_of (clash x) xs) && no_clash clash xs

-- one row of a table changed; the table as it is where there is no such row
unfoldable pub modify : {A : Type 0} → (A → A) → ℕ → List A → List A
modify f i [] = []
modify f zero (x ∷ xs) = f x ∷ xs
modify f (suc i) (x ∷ xs) = x ∷ modify f i xs

-- one bit for each row, the first row's lowest: set where the row passes the test
unfoldable pub bit_set : {A : Type 0} → (A → Bool) → List A → ℕ
bit_set p [] = 0
bit_set p (x ∷ xs) = bit (p x) + 2 * bit_set p xs
