-- Document 01, "The calls": grant, attenuate, revoke and look. Each is its checks in the order of its row, then its effect. Assumes nothing.
use Rattle.std.specs.Prelude.{cond, not, List, ℕ, ◌+◌, leb, set}
use Rattle.lists.specs.Lists.{Hit, miss, hit, find}
use Rattle.text.specs.Text.{is_path, covers, text_bytes}
use Rattle.rules.specs.declared.VolumeNo.{VolumeNo}
use Rattle.rules.specs.declared.TokenNo.{TokenNo}
use Rattle.rules.specs.declared.Account.{Account}
use Rattle.rules.specs.declared.Volume.{Volume}
use Rattle.rules.specs.declared.Entry.{Entry}
use Rattle.rules.specs.declared.Scope.{Scope}
use Rattle.rules.specs.declared.Token.{Token}
use Rattle.rules.specs.declared.Tables.{Tables}
use Rattle.rules.specs.declared.TablesOutcome.{TablesOutcome}
use Rattle.rules.specs.Limits.{last_number, deepest}
use Rattle.rules.specs.Numbers.{BAD, NO_VOLUME, NOT_OWNER, NO_TOKEN, WINDOW, MODE, PREFIX, STATE, ROOM, NO_ENTRY, WIDENS, DEEP, SPENT}
use Rattle.rules.specs.Fresh.{no_token, fresh_token}
use Rattle.rules.specs.Tables.{free_token, owned_by, volume_of, token_of, entry_of, with_tokens, with_last_token, cleared}
use Rattle.rules.specs.Scope.{ScopeArg, scope_fits, narrows, to_scope, depth, descends, in_window, can_read}
use Rattle.rules.specs.Outcome.{refused, accepted, success_with}
use Rattle.rules.specs.VolumeCalls.{is_open}

-- the tables with a new token in its row
abbrev pub granted : Tables → ℕ → Token → Tables
granted t i k = with_last_token (with_tokens t (set t.tokens i k)) k.no.0

-- 12, then the token's row
unfoldable pub token_in : Tables → Token → Hit Token → TablesOutcome
token_in t k miss = refused t ROOM
token_in t k (hit i old) = accepted k.no.0 (granted t i k)

-- a token of the next number, with nothing used
abbrev pub next_token : Tables → VolumeNo → TokenNo → Scope → Token
next_token t v parent s = record { no = record { 0 = t.last_token + 1 }; volume = v; parent = parent; scope = s; used = 0 }

-- 21, 12, then the new token
unfoldable pub new_token : Tables → VolumeNo → TokenNo → Scope → TablesOutcome
new_token t v parent s =
    cond (leb last_number t.last_token) (refused t SPENT)
    (token_in t (next_token t v parent s) (find free_token t.tokens))

-- 2, 3, 8
unfoldable pub grant_in : Tables → Account → ScopeArg → Hit Volume → TablesOutcome
grant_in t a s miss = refused t NO_VOLUME
grant_in t a s (hit i v) =
    cond (not (owned_by a v)) (refused t NOT_OWNER)
    (cond (not (is_open v.status)) (refused t STATE)
    (new_token t v.no no_token (to_scope s)))

-- "06 grant | account, volume, scope | 1 2 3 8 21 12 | number"
unfoldable pub grant_rule : Account → VolumeNo → ScopeArg → Tables → TablesOutcome
grant_rule a n s t = cond (not (scope_fits s)) (refused t BAD) (grant_in t a s (volume_of n t))

-- 4, 17 "child exceeds parent", 18 "9th token in a chain"
unfoldable pub attenuate_in : Tables → ScopeArg → Hit Token → TablesOutcome
attenuate_in t s miss = refused t NO_TOKEN
attenuate_in t s (hit i k) =
    cond (not (narrows s k.scope)) (refused t WIDENS)
    (cond (leb deepest (depth t.tokens k)) (refused t DEEP)
    (new_token t k.volume k.no (to_scope s)))

-- "07 attenuate | token, scope | 1 4 17 18 21 12 | number"
unfoldable pub attenuate_rule : TokenNo → ScopeArg → Tables → TablesOutcome
attenuate_rule n s t = cond (not (scope_fits s)) (refused t BAD) (attenuate_in t s (token_of n t))

-- "Revoke drops the token and all descendants."
abbrev pub revoked : Tables → Token → Tables
revoked t k = with_tokens t (cleared (descends t.tokens k.no) fresh_token t.tokens)

-- 3: "account isn't the volume's owner"
unfoldable pub revoke_owner : Tables → Account → Token → Hit Volume → TablesOutcome
revoke_owner t a k miss = refused t NOT_OWNER
revoke_owner t a k (hit i v) =
    cond (not (owned_by a v)) (refused t NOT_OWNER)
    (accepted 0 (revoked t k))

-- 4
unfoldable pub revoke_in : Tables → Account → Hit Token → TablesOutcome
revoke_in t a miss = refused t NO_TOKEN
revoke_in t a (hit i k) = revoke_owner t a k (volume_of k.volume t)

-- "08 revoke | account, token | 4 3 | 0"
unfoldable pub revoke_rule : Account → TokenNo → Tables → TablesOutcome
revoke_rule a n t = revoke_in t a (token_of n t)

-- 15, then the size; "Look also hands back the hash."
unfoldable pub look_entry : Tables → Hit Entry → TablesOutcome
look_entry t miss = refused t NO_ENTRY
look_entry t (hit i e) = record { answer = success_with e.size e.hash; tables = t }

-- 4, 5, 6 "look without read", 7 "path not covered"
unfoldable pub look_in : Tables → List ℕ → Hit Token → TablesOutcome
look_in t path miss = refused t NO_TOKEN
look_in t path (hit i k) =
    cond (not (in_window t.clock k.scope)) (refused t WINDOW)
    (cond (not (can_read k.scope.mode)) (refused t MODE)
    (cond (not (covers (text_bytes k.scope.prefix) path)) (refused t PREFIX)
    (look_entry t (entry_of k.volume path t))))

-- "0E look | token, path | 1 4 5 6 7 15 | size"
unfoldable pub look_rule : TokenNo → List ℕ → Tables → TablesOutcome
look_rule n path t = cond (not (is_path path)) (refused t BAD) (look_in t path (token_of n t))
