-- A table of n rows with a row set past its end is as it was. Assumes nothing.
use mathlib.Core.Path.{◌≡◌, refl, sym, ap}
use mathlib.Core.List.{List, [], ◌∷◌}
use Prim.Native.Nat.{ℕ, zero, suc, ◌≤◌}
use native.Mathlib.Nat.{le_of_suc-le-suc, not-suc-le-zero}
use native.Mathlib.Omega.{arith}
use lib.ListN.{length, set}
use Rattle.lists.specs.RowLaws.{rows_length}
use borrow.Author.Rules.{rules}

set_past : {A : Type 0} (l : List A) (i : ℕ) (x : A) → length l ≤ i → set l i x ≡ l
set_past [] i x h = refl
set_past (y ∷ ys) zero x h = absurd (not-suc-le-zero h)
set_past (y ∷ ys) (suc i) x h = ap (λ zs. y ∷ zs) (set_past ys i x (le_of_suc-le-suc h))

pub past_end : {A : Type 0} (l : List A) (n i : ℕ) (x : A) → length l ≡ n → n ≤ i → l ≡ set l i x
past_end l n i x e h = sym (set_past l i x (omega arith))

pub ruleset past = (past_end, rows_length, rules)
