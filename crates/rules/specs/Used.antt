-- Document 01, "Tokens": "A commit adds its staged sizes to the token and every ancestor; nothing is given back later." What the calls of a
-- list add to the used bytes of a token. Assumes nothing.
use Rattle.std.specs.Prelude.{cond, List, [], ◌∷◌, ℕ, ◌+◌, get_or}
use Rattle.lists.specs.Lists.{Hit, miss, hit, any_of}
use Rattle.rules.specs.declared.TokenNo.{TokenNo}
use Rattle.rules.specs.declared.Token.{Token}
use Rattle.rules.specs.declared.Session.{Session}
use Rattle.rules.specs.declared.Tables.{Tables}
use Rattle.rules.specs.declared.Desk.{Desk}
use Rattle.rules.specs.Fresh.{fresh_session}
use Rattle.rules.specs.Tables.{staged, is_token, token_of}
use Rattle.rules.specs.Scope.{family}
use Rattle.rules.specs.Outcome.{is_accepted}
use Rattle.rules.specs.Commit.{staged_bytes}
use Rattle.rules.specs.Calls.{Work, opens, stages, commits, abandons, Call, ask, on_slot, step}

-- "its staged sizes to the token and every ancestor": what a commit of this session, under this token, adds to the token n
abbrev pub commit_adds : TokenNo → Tables → Session → Hit Token → ℕ
commit_adds n t s miss = 0
commit_adds n t s (hit i k) = cond (any_of (is_token n) (family t.tokens k)) (staged_bytes (staged s)) 0

-- no other call adds to it
abbrev pub work_adds : TokenNo → Work → Tables → Session → ℕ
work_adds n (opens k) t s = 0
work_adds n (stages path size h) t s = 0
work_adds n commits t s = commit_adds n t s (token_of s.token t)
work_adds n abandons t s = 0

abbrev pub call_adds : TokenNo → Call → Desk → ℕ
call_adds n (ask a) d = 0
call_adds n (on_slot slot w) d = work_adds n w d.tables (get_or d.sessions slot fresh_session)

-- over the accepted calls of a list, each on the desk that the calls before it left
unfoldable pub list_adds : TokenNo → List Call → Desk → ℕ
list_adds n [] d = 0
list_adds n (c ∷ cs) d = cond (is_accepted (step c d).answer) (call_adds n c d) 0 + list_adds n cs (step c d).desk
