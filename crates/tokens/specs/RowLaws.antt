-- The rules of a row that is handed to them are the rules of the token's number, where the row is that token's. Assumes nothing.
use Rattle.std.specs.Prelude.{◌≡◌, Bool, true, false, cond, List, ℕ}
use Rattle.lists.specs.Lists.{hit, miss}
use Rattle.rules.specs.declared.Account.{Account}
use Rattle.rules.specs.declared.Tables.{Tables}
use Rattle.rules.specs.declared.Token.{Token}
use Rattle.rules.specs.declared.TokenNo.{TokenNo}
use Rattle.rules.specs.Tables.{token_of}
use Rattle.rules.specs.Scope.{ScopeArg, depth}
use Rattle.rules.specs.TokenCalls.{attenuate_in, attenuate_rule, revoke_in, revoke_rule, look_in, look_rule}
use Rattle.rows.specs.Links.{row_if}
use Rattle.tokens.specs.Rows.{look_found, attenuate_deep, attenuate_found}

pub look_by_row : (t : Tables) (n : TokenNo) (path : List ℕ) (there : Bool) (i : ℕ) (k : Token) → token_of n t ≡ cond there (hit i k) miss
    → look_found t path (row_if there k) ≡ look_rule n path t
unfolding look_found look_rule look_in
look_by_row t n path true i k e = rw e
look_by_row t n path false i k e = rw e

pub attenuate_by_row : (t : Tables) (n : TokenNo) (s : ScopeArg) (deep : ℕ) (there : Bool) (j : ℕ) (k : Token) → token_of n t ≡ cond there (hit j k) miss
    → depth t.tokens k ≡ deep → attenuate_found t s deep (row_if there k) ≡ attenuate_rule n s t
unfolding attenuate_found attenuate_deep attenuate_rule attenuate_in
attenuate_by_row t n s deep true j k e d = rw (e, d)
attenuate_by_row t n s deep false j k e d = rw e

pub revoke_by_row : (t : Tables) (a : Account) (n : TokenNo) (there : Bool) (i : ℕ) (k : Token) → token_of n t ≡ cond there (hit i k) miss
    → revoke_in t a (row_if there k) ≡ revoke_rule a n t
unfolding revoke_in revoke_rule
revoke_by_row t a n true i k e = rw e
revoke_by_row t a n false i k e = rw e
