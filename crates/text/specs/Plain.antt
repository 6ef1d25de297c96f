-- A quick test of a path's parts: where no slash stands before a slash, a dot or the end, and neither a slash nor a dot comes first, no part is
-- empty, "." or "..". No rule stands here: PlainLaws shows that the rule of parts then holds. Assumes nothing.
use Rattle.std.specs.Prelude.{Bool, true, ◌&&◌, ◌||◌, not, List, [], ◌∷◌, ℕ, ◌-◌, eqb, length, get_or}
use Rattle.text.specs.Text.{slash, dot}

-- a slash before a slash or a dot
abbrev pub is_doubtful : ℕ → ℕ → Bool
is_doubtful a b = eqb a slash && (eqb b slash || eqb b dot)

-- no slash stands before a slash or a dot
unfoldable pub plain_pairs : List ℕ → Bool
plain_pairs [] = true
plain_pairs (a ∷ []) = true
plain_pairs (a ∷ b ∷ bs) = not (is_doubtful a b) && plain_pairs (b ∷ bs)

-- the whole test, of bytes that are not empty
abbrev pub plain_parts : List ℕ → Bool
plain_parts s = not (is_doubtful slash (get_or s 0 0)) && not (eqb (get_or s (length s - 1) 0) slash) && plain_pairs s
