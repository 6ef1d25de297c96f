-- What a call on the kept tokens leaves of the whole tables. Assumes nothing.
use Rattle.std.specs.Prelude.{cond, List, ℕ, set}
use Rattle.rules.specs.declared.Tables.{Tables}
use Rattle.rules.specs.declared.TablesOutcome.{TablesOutcome}
use Rattle.rules.specs.declared.Token.{Token}
use Rattle.rules.specs.Tables.{with_tokens, with_last_token}
use Rattle.tokens.specs.declared.NewToken.{NewToken}
use Rattle.kept.specs.declared.KeptToken.{KeptToken}
use Rattle.kept_tokens.specs.declared.KeptTokens.{KeptTokens}
use Rattle.kept_tokens.specs.KeptTokens.{tokens_in}

-- the tables with the tokens that a call left
abbrev pub on_kept_tokens : List ℕ → Tables → KeptTokens → TablesOutcome
on_kept_tokens j t o = record { answer = o.answer; tables = with_last_token (with_tokens t (tokens_in j o.tokens)) o.last }

-- a token with its prefix as a place
abbrev pub kept_as : Token → ℕ → ℕ → KeptToken
kept_as k at n = record {
  no = k.no;
  volume = k.volume;
  parent = k.parent;
  at = at;
  len = n;
  mode = k.scope.mode;
  cap = k.scope.cap;
  «from» = k.scope.«from»;
  until = k.scope.until;
  used = k.used;
}

-- the kept rows and the last number with the new token in the row i, where one is stored
abbrev pub kept_stored : List KeptToken → ℕ → ℕ → ℕ → ℕ → NewToken → KeptTokens
kept_stored rows last i at n o = record {
  answer = o.answer;
  tokens = cond o.stored (set rows i (kept_as o.token at n)) rows;
  last = cond o.stored o.token.no.0 last;
}
