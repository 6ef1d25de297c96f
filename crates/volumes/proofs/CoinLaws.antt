-- A sum of coins which stays within its limit is a number of the machine. Assumes nothing.
use mathlib.Core.Path.{◌≡◌, sym, ◌∙◌}
use mathlib.Core.Bool.{Bool, false}
use Prim.Native.Nat.{ℕ, ◌+◌}
use native.Mathlib.Omega.{arith}
use borrow.Author.Tests.{ltb-false}
use mir.Val.{Fits}
use mir.Syntax.{w64}
use lib.Dec.{ltb}
use Rattle.lists.specs.BoolLaws.{or_left, or_right}
use Rattle.rules.specs.declared.Volume.{Volume}
use Rattle.rules.specs.declared.Tables.{Tables}
use Rattle.rules.specs.Limits.{balance_limit, deposits_limit}
use Rattle.rules.specs.VolumeCalls.{too_much}

-- a deposit that is not too much: r is what the code said of it
module _ (t : Tables) (v : Volume) (coins : ℕ) (r : Bool) (e : r ≡ too_much t v coins) (n : r ≡ false) where
  pub balance_fits : Fits w64 (v.balance + coins)
  balance_fits = record { fits = omega (arith, ltb-false balance_limit (v.balance + coins) (or_left _ _ (sym e ∙ n))) }

  pub deposits_fit : Fits w64 (t.deposits + coins)
  deposits_fit = record { fits = omega (arith, ltb-false deposits_limit (t.deposits + coins) (or_right (ltb balance_limit (v.balance + coins)) _ (sym e ∙ n))) }
