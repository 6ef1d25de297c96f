-- The place in a journal of the bytes of a record. Assumes nothing.
use Rattle.std.specs.Prelude.{cond, ℕ, ◌+◌, ltb}

-- the place of a byte of the record that begins at p, after its length, in a journal of n bytes: 0 where it is past the end
abbrev pub place_in : ℕ → ℕ → ℕ → ℕ
place_in n p byte = cond (ltb n (p + 2 + byte)) 0 (p + 2 + byte)
