-- When a relay's health is 0.
use mathlib.Core.Path.{◌≡◌, sym, ◌∙◌}
use mathlib.Core.Bool.{false}
use mathlib.Core.Logic.{⊎_elim}
use Prim.Native.Nat.{ℕ, ◌-◌, ◌<◌, ◌≤◌}
use native.Mathlib.Omega.{arith}
use borrow.Author.Tests.{eq-eqb, ne_eqb, leb-true, leb-false}
use lib.Dec.{eqb, leb}
use Rattle.lists.specs.BoolLaws.{pass_or_fail}
use Rattle.rules.specs.Limits.{full_health}

-- 100 blocks or more since the last heartbeat
pub spent_health : (blocks : ℕ) → leb full_health blocks ≡ eqb (full_health - blocks) 0
spent_health n =
    ⊎_elim
    (λ e. let h : full_health ≤ n = leb-true full_health n e in e ∙ sym (eq-eqb (full_health - n) 0 (omega arith)))
    (λ e. let h : n < full_health = leb-false full_health n e in e ∙ sym (ne_eqb (full_health - n) 0 (omega arith)))
    (pass_or_fail (leb full_health n))

-- a heartbeat after the clock leaves full health
pub full_health_lem : (clock beat : ℕ) → clock < beat → false ≡ eqb (full_health - (clock - beat)) 0
full_health_lem clock beat h = sym (ne_eqb (full_health - (clock - beat)) 0 (omega arith))
