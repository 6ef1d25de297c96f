-- Tests of a number that a function counted. Assumes nothing.
use mathlib.Core.Path.{◌≡◌, ap}
use Prim.Native.Nat.{ℕ}
use lib.Dec.{leb}

pub counted_least : (r n m : ℕ) → r ≡ n → leb m r ≡ leb m n
counted_least r n m e = ap (leb m) e
