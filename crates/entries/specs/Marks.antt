-- Rows of a table that are marked, one mark for each row: what goes out of the entry table is marked first, then it gives its room back, and
-- then its rows are cleared. MarkLaws shows that marks by a test come to the rules' `keep` and `cleared`. Assumes nothing.
use Rattle.std.specs.Prelude.{Bool, cond, List, [], ◌∷◌}

-- a mark, as a test
abbrev pub is_set : Bool → Bool
is_set b = b

-- the marked rows, in order
unfoldable pub marked : {A : Type 0} → List Bool → List A → List A
marked [] l = []
marked (b ∷ bs) [] = []
marked (b ∷ bs) (x ∷ xs) = cond b (x ∷ marked bs xs) (marked bs xs)

-- the table with each marked row as a fresh one
unfoldable pub cleared_by : {A : Type 0} → List Bool → A → List A → List A
cleared_by [] fresh l = l
cleared_by (b ∷ bs) fresh [] = []
cleared_by (b ∷ bs) fresh (x ∷ xs) = cond b fresh x ∷ cleared_by bs fresh xs
