-- What a commit reads of kept rows without the journal, and a kept token that was charged. Assumes nothing.
use Rattle.std.specs.Prelude.{Bool, ◌&&◌, ◌||◌, List, ℕ, leb, ltb, take, get_or}
use Rattle.lists.specs.Lists.{all_of}
use Rattle.rules.specs.declared.Volume.{Volume}
use Rattle.rules.specs.Limits.{volume_rows, token_rows, put_rows, size_limit, used_limit, last_version}
use Rattle.rows.specs.Blank.{blank_volume}
use Rattle.kept.specs.declared.KeptPut.{KeptPut}
use Rattle.kept.specs.declared.KeptSession.{KeptSession}
use Rattle.kept.specs.declared.KeptToken.{KeptToken}
use Rattle.kept_tokens.specs.KeptTokens.{free_kept}

-- used bytes up to 2^60
unfoldable pub within_kept : KeptToken → Bool
within_kept k = free_kept k || leb k.used used_limit

-- "size at most 2^36"
unfoldable pub put_kept : KeptPut → Bool
put_kept p = leb p.size size_limit

abbrev pub kept_size : KeptPut → ℕ
kept_size p = p.size

-- "at most 8 staged puts each"
unfoldable pub session_kept : KeptSession → Bool
session_kept s = leb s.count put_rows && all_of put_kept (take s.count s.puts)

-- what storing rests on: can_store of the rows that these stand for
unfoldable pub can_keep : List Volume → List KeptToken → KeptSession → ℕ → ℕ → Bool
can_keep volumes tokens s i j =
    ltb i volume_rows && ltb (get_or volumes i blank_volume).version last_version && session_kept s && all_of within_kept tokens && ltb j token_rows

-- the token with so many bytes used
abbrev pub used_kept : KeptToken → ℕ → KeptToken
used_kept k used = record {
  no = k.no;
  volume = k.volume;
  parent = k.parent;
  at = k.at;
  len = k.len;
  mode = k.mode;
  cap = k.cap;
  «from» = k.«from»;
  until = k.until;
  used = used;
}
