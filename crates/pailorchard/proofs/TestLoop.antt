-- The loop that tests one desk again and again. Assumes nothing.
use mathlib.Core.Path.{◌≡◌, refl, sym, ◌∙◌, ap}
use mathlib.Core.Bool.{Bool, true, false, not, cond, false≢true}
use mathlib.Core.List.{List}
use Prim.Native.Nat.{ℕ, zero, suc, ◌+◌, ◌<◌, ◌≤◌}
use native.Mathlib.Omega.{arith}
use Rattle.rules.specs.declared.Desk.{Desk}
use Rattle.rules.specs.declared.Session.{Session}
use Rattle.rules.specs.Sound.{sound}

-- After n tests the desk is the one that was handed in, and where a test was made it was passed.
pub record TestLoop (slots : List Session) (d desk : Desk) (times n : ℕ) : Type 0 where
  pub kept : slots ≡ d.sessions
  pub same : desk ≡ d
  pub most : n ≤ times
  pub passed : 0 < n → sound d ≡ true

pub tests_start : {d : Desk} (times : ℕ) → TestLoop d.sessions d d times 0
tests_start times = record { kept = refl; same = refl; most = omega arith; passed = λ z. absurd (omega arith) }

module _ {slots : List Session} {d desk : Desk} {times n : ℕ} (h : TestLoop slots d desk times n) where
  pub tests_fail : {b : Bool} → b ≡ sound desk → not b ≡ true → n ≡ cond (sound d) times 0
  tests_fail {b} e w = go b refl n refl
    where
      go : (x : Bool) → b ≡ x → (m : ℕ) → n ≡ m → n ≡ cond (sound d) times 0
      go true q m z = absurd (false≢true (rw q at w))
      go false q zero z = rw (← h.same, ← e, q) z
      go false q (suc m) z = absurd (false≢true (sym q ∙ e ∙ ap sound h.same ∙ h.passed (omega arith)))

  pub tests_pass : {b : Bool} → n < times → b ≡ sound desk → not b ≡ false → TestLoop slots d (record { tables = desk.tables; sessions = slots }) times (n + 1)
  tests_pass {b} l e w =
      record {
        kept = h.kept;
        same = rw (h.kept, h.same) refl;
        most = omega arith;
        passed = λ z. go b refl;
      }
    where
      go : (x : Bool) → b ≡ x → sound d ≡ true
      go true q = rw (← h.same, ← e) q
      go false q = absurd (false≢true (sym (rw q at w)))

  pub tests_end : times ≤ n → n ≡ cond (sound d) times 0
  tests_end l = go n refl
    where
      go : (m : ℕ) → n ≡ m → n ≡ cond (sound d) times 0
      go zero z = half (sound d)
        where
          half : (b : Bool) → n ≡ cond b times 0
          half true = omega arith
          half false = z
      go (suc m) z = rw (h.passed (omega arith)) (omega arith)
