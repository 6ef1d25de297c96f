-- When a relay's health is 0. Assumes nothing.
use mathlib.Core.Path.{◌≡◌, sym}
use mathlib.Core.Bool.{false}
use Prim.Native.Nat.{ℕ, ◌-◌, ◌<◌, ◌≤◌}
use native.Mathlib.Omega.{arith}
use borrow.Author.Tests.{eq-eqb, ne_eqb, eqb-true, le-leb, leb-true}
use lib.Dec.{eqb, leb}
use Rattle.lists.specs.BoolLaws.{same_test}
use Rattle.rules.specs.Limits.{full_health}

-- 100 blocks or more since the last heartbeat
pub spent_health : (blocks : ℕ) → leb full_health blocks ≡ eqb (full_health - blocks) 0
spent_health n =
    same_test (leb full_health n) (eqb (full_health - n) 0)
    (λ e. let h : full_health ≤ n = leb-true full_health n e in eq-eqb (full_health - n) 0 (omega arith))
    (λ e. let h : full_health - n ≡ 0 = eqb-true (full_health - n) 0 e in le-leb full_health n (omega arith))

-- a heartbeat after the clock leaves full health
pub full_health_lem : (clock beat : ℕ) → clock < beat → false ≡ eqb (full_health - (clock - beat)) 0
full_health_lem clock beat h = sym (ne_eqb (full_health - (clock - beat)) 0 (omega arith))
