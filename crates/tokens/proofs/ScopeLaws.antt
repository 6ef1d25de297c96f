-- The scope that a call names, and the scope that a token keeps of it. Assumes nothing.
use mathlib.Core.Path.{◌≡◌}
use mathlib.Core.Bool.{Bool, true, false, not, ◌&&◌}
use mathlib.Core.List.{List}
use Prim.Native.Nat.{ℕ}
use lib.ListN.{take}
use lib.Seq.{take_all}
use Rattle.amount.specs.declared.Cap.{Cap}
use Rattle.lists.specs.BoolLaws.{and_left}
use Rattle.lists.specs.AnswerLaws.{said_yes}
use Rattle.text.specs.Text.{Text}
use Rattle.text.specs.Text.{path_limit, is_prefix, to_text}
use Rattle.text.specs.TextLaws.{prefix_fits}
use Rattle.rules.specs.declared.Mode.{Mode}
use Rattle.rules.specs.Scope.{to_scope}
use Rattle.scopes.specs.Arguments.{scope_arg}

-- a prefix that is one is kept whole
pub whole_scope : (prefix : List ℕ) (mode : Mode) (cap : Cap) (start until : ℕ) (x : Text) → is_prefix prefix ≡ true → x ≡ to_text (take path_limit prefix)
    → record { prefix = x; mode = mode; cap = cap; «from» = start; until = until } ≡ to_scope (scope_arg prefix mode cap start until)
whole_scope prefix mode cap start until x e f = rw (f, take_all path_limit prefix (prefix_fits prefix e))

-- a scope that fits has a prefix that is one
pub fits_prefix : (a b c r : Bool) → r ≡ (a && b && c) → not r ≡ false → a ≡ true
fits_prefix a b c r e f = and_left a b (and_left (a && b) c (said_yes r (a && b && c) e f))
