-- What may be said of the tables after some calls, and what a commit finds of its session in them. Both serve the proof of demand 3; no promise
-- names them. Assumes nothing.
use Rattle.std.specs.Prelude.{◌≡◌, true, false, ℕ, ◌≤◌, get_or}
use Rattle.lists.specs.Lists.{hit}
use Rattle.rules.specs.declared.Volume.{Volume}
use Rattle.rules.specs.declared.Token.{Token}
use Rattle.rules.specs.declared.Session.{Session}
use Rattle.rules.specs.declared.Tables.{Tables}
use Rattle.rules.specs.Fresh.{fresh_token, fresh_session}
use Rattle.rules.specs.Tables.{used_token, busy, volume_of, token_of}
use Rattle.rules.specs.Scope.{in_window}
use Rattle.rules.specs.VolumeCalls.{is_active}

-- the row of the token table at this index; past the last row, a fresh one
abbrev pub token_row : Tables → ℕ → Token
token_row t i = get_or t.tokens i fresh_token

-- two tokens are the same in what a session reads: only used bytes change, and a parent is read by no session
pub record SameToken (old new : Token) : Type 0 where
  pub no : old.no ≡ new.no
  pub volume : old.volume ≡ new.volume
  pub scope : old.scope ≡ new.scope

-- a row of the token table before and after: if it holds a token whose number had been given before, it held that token before
abbrev pub Kept : ℕ → Token → Token → Type 0
Kept last old new = used_token new ≡ true → new.no.0 ≤ last → SameToken old new

-- what may be said of tables t' that calls have made of t: "Each kind counts from 1, is never given twice"
pub record Later (t t' : Tables) : Type 0 where
  pub last : t.last_token ≤ t'.last_token
  pub kept : (j : ℕ) → Kept t.last_token (token_row t j) (token_row t' j)

-- what an accepted commit tests of the tables, and open and stage test too: the session's volume is in the table, ACTIVE, and at the version of
-- the opening; its token is in the table, and the clock in its window
pub record ReadyFor (t : Tables) (s : Session) : Type 0 where
  pub volume_row : ℕ
  pub volume : Volume
  pub volume_found : volume_of s.volume t ≡ hit volume_row volume
  pub active : is_active volume.status ≡ true
  pub version : volume.version ≡ s.version
  pub token_row : ℕ
  pub token : Token
  pub token_found : token_of s.token t ≡ hit token_row token
  pub window : in_window t.clock token.scope ≡ true

-- the tables are ready for what a slot holds; for an idle slot they always are
abbrev pub Ready : Tables → Session → Type 0
Ready t s = busy s ≡ true → ReadyFor t s

-- "a freed row or slot is as on a fresh desk": an idle slot is the fresh one
abbrev pub Tidy : Session → Type 0
Tidy s = busy s ≡ false → s ≡ fresh_session
