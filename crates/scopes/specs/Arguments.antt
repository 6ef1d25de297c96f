-- The scope that a call names. Assumes nothing.
use Rattle.std.specs.Prelude.{List, ℕ}
use Rattle.amount.specs.declared.Cap.{Cap}
use Rattle.rules.specs.declared.Mode.{Mode}
use Rattle.rules.specs.Scope.{ScopeArg}

-- by its parts
abbrev pub scope_arg : List ℕ → Mode → Cap → ℕ → ℕ → ScopeArg
scope_arg prefix mode cap start until = record { prefix = prefix; mode = mode; cap = cap; «from» = start; until = until }
