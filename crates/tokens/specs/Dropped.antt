-- The rows that go out of a table as a set, one bit for each row, the first row's lowest. Assumes nothing.
use Rattle.std.specs.Prelude.{cond, List, [], ◌∷◌, ℕ, ◌/◌, ◌%◌, eqb}
use Rattle.rules.specs.declared.Tables.{Tables}
use Rattle.rules.specs.declared.TablesOutcome.{TablesOutcome}
use Rattle.rules.specs.Fresh.{fresh_token}
use Rattle.rules.specs.Outcome.{refusal}
use Rattle.rules.specs.Tables.{with_tokens}
use Rattle.tokens.specs.declared.Dropped.{Dropped}

-- the table with each row of the set as a fresh one
unfoldable pub cleared_in : {A : Type 0} → ℕ → A → List A → List A
cleared_in set fresh [] = []
cleared_in set fresh (x ∷ xs) = cond (eqb (set % 2) 1) fresh x ∷ cleared_in (set / 2) fresh xs

-- the tables without the tokens that go
abbrev pub dropped_from : Tables → Dropped → TablesOutcome
dropped_from t o = record { answer = o.answer; tables = with_tokens t (cleared_in o.set fresh_token t.tokens) }

-- a refusal drops no token
abbrev pub none_dropped : ℕ → Dropped
none_dropped n = record { answer = refusal n; set = 0 }
