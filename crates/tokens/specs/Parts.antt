-- What a call on the tokens leaves of the whole tables. Assumes nothing.
use Rattle.std.specs.Prelude.{◌≡◌, Bool, true, false, cond, List, ℕ, take, set, Option, Some, None}
use Rattle.text.specs.Text.{path_limit, to_text}
use Rattle.rules.specs.declared.Answer.{Answer}
use Rattle.rules.specs.declared.Scope.{Scope}
use Rattle.rules.specs.declared.Tables.{Tables}
use Rattle.rules.specs.declared.TablesOutcome.{TablesOutcome}
use Rattle.rules.specs.declared.Token.{Token}
use Rattle.rules.specs.Tables.{with_tokens, with_last_token}
use Rattle.rules.specs.Fresh.{fresh_token}
use Rattle.rules.specs.Outcome.{refusal}
use Rattle.rules.specs.TokenCalls.{granted}
use Rattle.tokens.specs.declared.NewToken.{NewToken}
use Rattle.tokens.specs.declared.TokensOutcome.{TokensOutcome}

-- the tables with the tokens that a call left
abbrev pub on_tokens : Tables → TokensOutcome → TablesOutcome
on_tokens t o = record { answer = o.answer; tables = with_last_token (with_tokens t o.tokens) o.last }

-- the tables with the new token in the row i, where one is stored
abbrev pub stored_at : Tables → ℕ → NewToken → TablesOutcome
stored_at t i o = record { answer = o.answer; tables = cond o.stored (granted t i o.token) t }

-- the same of the tokens and the last number
abbrev pub stored_in : List Token → ℕ → ℕ → NewToken → TokensOutcome
stored_in rows last i o =
    record { answer = o.answer; tokens = cond o.stored (set rows i o.token) rows; last = cond o.stored o.token.no.0 last }

-- whether a search found a row, and the index of the row: 0 where there is none
abbrev pub is_found : Option ℕ → Bool
is_found (Some i) = true
is_found None = false

abbrev pub place_of : Option ℕ → ℕ
place_of (Some i) = i
place_of None = 0

-- a refusal, which stores no token
abbrev pub not_stored : ℕ → NewToken
not_stored n = record { answer = refusal n; stored = false; token = fresh_token }

-- where a token is stored, its scope is this one
pub record HasScope (s : Scope) (o : NewToken) : Type 0 where
  pub same : o.stored ≡ true → o.token.scope ≡ s

-- where a token is stored, its prefix is the text of these bytes
pub record HasPrefix (b : List ℕ) (o : NewToken) : Type 0 where
  pub same : o.stored ≡ true → o.token.scope.prefix ≡ to_text (take path_limit b)

-- the tables as they were: what a call that only answers leaves
abbrev pub unchanged : Tables → Answer → TablesOutcome
unchanged t r = record { answer = r; tables = t }
