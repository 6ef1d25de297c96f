-- The slots of a desk, and the index of a slot that there is not. Assumes nothing.
use mathlib.Core.Path.{◌≡◌, refl, sym, ◌∙◌}
use mathlib.Core.List.{List, [], ◌∷◌}
use Prim.Native.Nat.{ℕ, zero, suc, ◌≤◌}
use native.Mathlib.Nat.{le_of_suc-le-suc, not-suc-le-zero}
use native.Mathlib.Omega.{arith}
use lib.ListN.{length, get_or, set}
use lib.Seq.{set_out}

row_past : {A : Type 0} (l : List A) (i : ℕ) (d : A) → length l ≤ i → d ≡ get_or l i d
row_past [] i d h = refl
row_past (x ∷ xs) zero d h = absurd (not-suc-le-zero h)
row_past (x ∷ xs) (suc i) d h = row_past xs i d (le_of_suc-le-suc h)

pub slot_past : {A : Type 0} (l : List A) (i n : ℕ) (s d : A) → n ≤ i → length l ≡ n → s ≡ d → s ≡ get_or l i d
slot_past l i n s d h e f = f ∙ row_past l i d (omega arith)

pub set_past : {A : Type 0} (l : List A) (i n : ℕ) (s : A) → n ≤ i → length l ≡ n → l ≡ set l i s
set_past l i n s h e = sym (set_out l i s (omega arith))
