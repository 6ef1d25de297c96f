-- The numbers of the paths of puts (PathKeys of `rows`). Assumes nothing.
use Rattle.std.specs.Prelude.{Bool, List, ◌++◌, map, ℕ, eqb, length, drop, replicate}
use Rattle.text.specs.Text.{text_bytes}
use Rattle.rules.specs.declared.VolumeNo.{VolumeNo}
use Rattle.rules.specs.declared.Put.{Put}
use Rattle.rows.specs.PathKeys.{key_of}

-- the number of a put's path
abbrev pub put_key : VolumeNo → Put → ℕ
put_key n p = key_of n.0 (text_bytes p.path)

-- the numbers of at most 8 puts, with zeros after them up to 8
abbrev pub put_keys : VolumeNo → List Put → List ℕ
put_keys n ps = map (put_key n) ps ++ drop (length ps) (replicate 8 0)

-- the number is this one
abbrev pub is_key : ℕ → ℕ → Bool
is_key key k = eqb k key
