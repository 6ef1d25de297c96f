-- What writing a desk into a lent buffer answers, and the buffer that it leaves. Assumes nothing.
use Rattle.std.specs.Prelude.{Bool, cond, List, ◌++◌, ℕ, ltb, length, drop}
use Rattle.rules.specs.declared.Desk.{Desk}
use Rattle.rules.specs.Numbers.{ROOM}
use Rattle.desk_bytes.specs.Layout.{desk_bytes, desk_length}

-- 12: "writers: output too short"
abbrev pub too_short : List ℕ → Bool
too_short buf = ltb (length buf) desk_length

-- 0, or 12
unfoldable pub answer_of : List ℕ → ℕ
answer_of buf = cond (too_short buf) ROOM 0

-- the desk's bytes and then what stood there, or all as it was
unfoldable pub buffer_of : Desk → List ℕ → List ℕ
buffer_of d buf = cond (too_short buf) buf (desk_bytes d ++ drop desk_length buf)
