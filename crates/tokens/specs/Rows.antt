-- The rules of the calls on tokens, of a row that is handed to them in place of the token's number. Assumes nothing.
use Rattle.std.specs.Prelude.{not, cond, List, ℕ, leb}
use Rattle.lists.specs.Lists.{Hit, hit, miss}
use Rattle.text.specs.Text.{is_path}
use Rattle.rules.specs.declared.Tables.{Tables}
use Rattle.rules.specs.declared.TablesOutcome.{TablesOutcome}
use Rattle.rules.specs.declared.Token.{Token}
use Rattle.rules.specs.Limits.{deepest}
use Rattle.rules.specs.Numbers.{BAD, NO_TOKEN, WIDENS, DEEP}
use Rattle.rules.specs.Outcome.{refused}
use Rattle.rules.specs.Scope.{ScopeArg, scope_fits, narrows, to_scope}
use Rattle.rules.specs.TokenCalls.{new_token, look_in}

-- look, by the row h
unfoldable pub look_found : Tables → List ℕ → Hit Token → TablesOutcome
look_found t path h = cond (not (is_path path)) (refused t BAD) (look_in t path h)

-- attenuate, by the parent's row, whose chain has `deep` tokens: 4, 17, 18
unfoldable pub attenuate_deep : Tables → ScopeArg → ℕ → Hit Token → TablesOutcome
attenuate_deep t s deep miss = refused t NO_TOKEN
attenuate_deep t s deep (hit i k) =
    cond (not (narrows s k.scope)) (refused t WIDENS)
    (cond (leb deepest deep) (refused t DEEP)
    (new_token t k.volume k.no (to_scope s)))

-- the same with its first check, 1
unfoldable pub attenuate_found : Tables → ScopeArg → ℕ → Hit Token → TablesOutcome
attenuate_found t s deep h = cond (not (scope_fits s)) (refused t BAD) (attenuate_deep t s deep h)
