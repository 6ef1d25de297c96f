-- Rows whose texts are places in a journal, and the rows of the desk that they stand for. j is the bytes of the journal. Assumes nothing.
use Rattle.std.specs.Prelude.{List, map, ℕ, take, drop, replicate}
use Rattle.amount.specs.declared.Cap.TheVariants.{Bytes}
use Rattle.text.specs.Text.{Text}
use Rattle.text.specs.Text.{path_limit, to_text}
use Rattle.rules.specs.declared.Mode.TheVariants.{Read}
use Rattle.rules.specs.declared.Token.{Token}
use Rattle.rules.specs.declared.Entry.{Entry}
use Rattle.rules.specs.declared.Put.{Put}
use Rattle.rules.specs.declared.Session.{Session}
use Rattle.rules.specs.Limits.{put_rows}
use Rattle.rules.specs.Fresh.{no_volume, no_token, fresh_hash, fresh_placement}
use Rattle.kept.specs.declared.KeptToken.{KeptToken}
use Rattle.kept.specs.declared.KeptEntry.{KeptEntry}
use Rattle.kept.specs.declared.KeptPut.{KeptPut}
use Rattle.kept.specs.declared.KeptSession.{KeptSession}

-- the n bytes from a place on
abbrev pub bytes_in : List ℕ → ℕ → ℕ → List ℕ
bytes_in j at n = take n (drop at j)

-- and the text of them
abbrev pub text_in : List ℕ → ℕ → ℕ → Text
text_in j at n = to_text (take path_limit (bytes_in j at n))

abbrev pub token_in : List ℕ → KeptToken → Token
token_in j k = record {
  no = k.no;
  volume = k.volume;
  parent = k.parent;
  scope = record { prefix = text_in j k.at k.len; mode = k.mode; cap = k.cap; «from» = k.«from»; until = k.until };
  used = k.used;
}

abbrev pub entry_in : List ℕ → KeptEntry → Entry
entry_in j e =
    record { volume = e.volume; path = text_in j e.at e.len; size = e.size; hash = e.hash; placement = e.placement }

abbrev pub put_in : List ℕ → KeptPut → Put
put_in j p = record { path = text_in j p.at p.len; size = p.size; hash = p.hash }

abbrev pub session_in : List ℕ → KeptSession → Session
session_in j s =
    record { token = s.token; volume = s.volume; version = s.version; count = s.count; puts = map (put_in j) s.puts }

-- the session slots
abbrev pub slots_in : List ℕ → List KeptSession → List Session
slots_in j slots = map (session_in j) slots

-- a fresh desk's rows
abbrev pub fresh_kept_token : KeptToken
fresh_kept_token =
    record { no = no_token; volume = no_volume; parent = no_token; at = 0; len = 0; mode = Read; cap = Bytes 0; «from» = 0; until = 0; used = 0 }

abbrev pub fresh_kept_entry : KeptEntry
fresh_kept_entry = record { volume = no_volume; at = 0; len = 0; size = 0; hash = fresh_hash; placement = fresh_placement }

abbrev pub fresh_kept_put : KeptPut
fresh_kept_put = record { at = 0; len = 0; size = 0; hash = fresh_hash }

abbrev pub fresh_kept_session : KeptSession
fresh_kept_session = record { token = no_token; volume = no_volume; version = 0; count = 0; puts = replicate put_rows fresh_kept_put }
