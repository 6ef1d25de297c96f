-- What a kept session that a call on a slot leaves makes of the outcome, and the kept sessions that the calls make. j is the bytes of the journal.
-- Assumes nothing.
use Rattle.std.specs.Prelude.{Bool, List, ℕ, ◌+◌, set, replicate}
use Rattle.rules.specs.declared.VolumeNo.{VolumeNo}
use Rattle.rules.specs.declared.TokenNo.{TokenNo}
use Rattle.rules.specs.declared.Tables.{Tables}
use Rattle.rules.specs.declared.SlotOutcome.{SlotOutcome}
use Rattle.rules.specs.Limits.{put_rows}
use Rattle.rules.specs.Tables.{is_put}
use Rattle.kept.specs.declared.KeptPut.{KeptPut}
use Rattle.kept.specs.declared.KeptSession.{KeptSession}
use Rattle.kept.specs.Kept.{put_in, session_in, fresh_kept_put}
use Rattle.kept_sessions.specs.declared.KeptOutcome.{KeptOutcome}

-- the tables, and the session that a call left
abbrev pub on_kept_session : List ℕ → Tables → KeptOutcome → SlotOutcome
on_kept_session j t o = record { answer = o.answer; tables = t; session = session_in j o.session }

-- a session with nothing staged
abbrev pub kept_opened : TokenNo → VolumeNo → ℕ → KeptSession
kept_opened n v version = record { token = n; volume = v; version = version; count = 0; puts = replicate put_rows fresh_kept_put }

-- the put replaced at a place, and in the next place
abbrev pub kept_with : KeptSession → ℕ → List KeptPut → KeptSession
kept_with s count puts = record { token = s.token; volume = s.volume; version = s.version; count = count; puts = puts }

abbrev pub kept_again : KeptSession → ℕ → KeptPut → KeptSession
kept_again s i p = kept_with s s.count (set s.puts i p)

abbrev pub kept_next : KeptSession → KeptPut → KeptSession
kept_next s p = kept_with s (s.count + 1) (set s.puts s.count p)

-- the put is staged at the path
unfoldable pub is_kept_put : List ℕ → List ℕ → KeptPut → Bool
is_kept_put j path p = is_put path (put_in j p)
