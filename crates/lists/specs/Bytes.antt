-- Lists of bytes: those of a quoted text, comparing, and writing over a part. Assumes nothing.
use Rattle.std.specs.Prelude.{Bool, nat_eq, List, [], ◌∷◌, ◌++◌, ℕ, ◌+◌, length, take, drop}
use Rattle.std.specs.List.{starts_with as list_starts}
use Rattle.std.specs.Str.{bytes_eq}
use Prim.Native.Char.{code}
use Prim.Native.String.{String, [] as none, ◌∷◌ as ◌then◌}

-- the bytes of a quoted text in ASCII
abbrev pub bytes : String → List ℕ
bytes none = []
bytes (◌then◌ c s) = code c ∷ bytes s

-- two lists of bytes are the same
abbrev pub same_bytes : List ℕ → List ℕ → Bool
same_bytes a b = bytes_eq a b

-- the second list begins with the first
abbrev pub starts_with : List ℕ → List ℕ → Bool
starts_with prefix s = list_starts nat_eq s prefix

-- the bytes over those that stand at a place
abbrev pub over : ℕ → List ℕ → List ℕ → List ℕ
over at b buf = take at buf ++ b ++ drop (at + length b) buf
