-- Whether a sum passes a limit, worked out without the sum. Assumes nothing.
use Rattle.std.specs.Prelude.{◌≡◌, true, ℕ, ◌+◌, ◌-◌, ◌<◌, ◌≤◌, ltb}
use Rattle.std.proofs.Common.{sym, ◌∙◌, ⊎_elim, arith, lt-ltb, le-ltb, ltb-true, ltb-false}
use Rattle.lists.specs.BoolLaws.{pass_or_fail}

module _ (limit a b : ℕ) where
  -- one of the two alone passes
  pub passes_alone : limit < b → true ≡ ltb limit (a + b)
  passes_alone h = sym (lt-ltb limit (a + b) (omega arith))

  -- else the other is held to what it leaves
  pub passes_left : b ≤ limit → ltb (limit - b) a ≡ ltb limit (a + b)
  passes_left h =
      ⊎_elim
      (λ e. let k : limit - b < a = ltb-true (limit - b) a e in e ∙ sym (lt-ltb limit (a + b) (omega arith)))
      (λ e. let k : a ≤ limit - b = ltb-false (limit - b) a e in e ∙ sym (le-ltb limit (a + b) (omega arith)))
      (pass_or_fail (ltb (limit - b) a))
