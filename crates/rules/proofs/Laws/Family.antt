-- Document 01, "Tokens": a child is of its parent's volume. The test of the desk does not ask it, and every desk reached from a fresh one has
-- it: delete and the collection of a volume drop that volume's tokens alone, so a child in another volume would lose its parent. Assumes
-- nothing.
use Rattle.std.specs.Prelude.{◌≡◌, true, List, ℕ, ◌<◌, length, get_or}
use Rattle.lists.specs.Lists.{hit, find}
use Rattle.rules.specs.declared.Token.{Token}
use Rattle.rules.specs.declared.Tables.{Tables}
use Rattle.rules.specs.Fresh.{fresh_token}
use Rattle.rules.specs.Tables.{used_token, is_token}

-- each token in use has the volume of its parent
abbrev pub OneVolume : List Token → Type 0
OneVolume ts =
    (j : ℕ) → j < length ts → used_token (get_or ts j fresh_token) ≡ true
    → (i : ℕ) (p : Token) → find (is_token (get_or ts j fresh_token).parent) ts ≡ hit i p
    → p.volume.0 ≡ (get_or ts j fresh_token).volume.0

abbrev pub FamilyInOneVolume : Tables → Type 0
FamilyInOneVolume t = OneVolume t.tokens
