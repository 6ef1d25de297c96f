-- Open and stage by the token's row: where the row at hand is the one that the tables have, or there is none in either, these are the rules of open
-- and stage. Assumes nothing.
use Rattle.std.specs.Prelude.{◌≡◌, Bool, true, false, cond, List, ℕ}
use Rattle.std.proofs.Common.{sym}
use Rattle.lists.specs.Lists.{hit, miss}
use Rattle.rules.specs.declared.TokenNo.{TokenNo}
use Rattle.rules.specs.declared.Hash.{Hash}
use Rattle.rules.specs.declared.Token.{Token}
use Rattle.rules.specs.declared.Session.{Session}
use Rattle.rules.specs.declared.Tables.{Tables}
use Rattle.rules.specs.Tables.{token_of}
use Rattle.rules.specs.SessionCalls.{open_rule, open_token, stage_rule, stage_token}
use Rattle.rows.specs.Links.{row_if}
use Rattle.sessions.specs.Rows.{open_found, stage_found}

-- open, where the row that the tables have for the number n is at hand
pub open_by_row : (t : Tables) (s : Session) (n : TokenNo) (there : Bool) (i : ℕ) (k : Token) → token_of n t ≡ cond there (hit i k) miss
    → open_found t s (row_if there k) ≡ open_rule n t s
unfolding open_found open_rule open_token
open_by_row t s n true i k e = sym (rw e)
open_by_row t s n false i k e = sym (rw e)

-- stage, where the row that the tables have for the session's token is at hand
pub stage_by_row : (t : Tables) (s : Session) (path : List ℕ) (size : ℕ) (h : Hash) (there : Bool) (i : ℕ) (k : Token)
    → token_of s.token t ≡ cond there (hit i k) miss → stage_found path size h t s (row_if there k) ≡ stage_rule path size h t s
unfolding stage_found stage_rule stage_token
stage_by_row t s path size h true i k e = sym (rw e)
stage_by_row t s path size h false i k e = sym (rw e)
