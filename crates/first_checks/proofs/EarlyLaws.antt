-- What the first checks answer where a row is not found, and at the row. Assumes nothing.
use mathlib.Core.List.{List}
use Prim.Native.Nat.{ℕ}
use Rattle.lists.specs.AnswerLaws.{NoRow, AtRow, no_row, at_row}
use Rattle.rules.specs.declared.VolumeNo.{VolumeNo}
use Rattle.rules.specs.declared.TokenNo.{TokenNo}
use Rattle.rules.specs.declared.Volume.{Volume}
use Rattle.rules.specs.declared.Token.{Token}
use Rattle.rules.specs.declared.Session.{Session}
use Rattle.rules.specs.Tables.{is_volume, is_token}
use Rattle.rows.specs.Blank.{blank_volume, blank_token}
use Rattle.first_checks.specs.Early.{early_token, early_volume}

-- the first checks: no volume, or at its row; and so for the token
module _ (clock : ℕ) (s : Session) where
  pub early_volume_none : (tokens : List Token) (n : VolumeNo) (volumes : List Volume) → NoRow (early_volume clock tokens s) (is_volume n) volumes
  early_volume_none tokens n volumes = no_row (early_volume clock tokens s) _ _

  pub early_volume_at : (tokens : List Token) (n : VolumeNo) (volumes : List Volume) → AtRow (early_volume clock tokens s) (is_volume n) volumes blank_volume
  early_volume_at tokens n volumes = at_row (early_volume clock tokens s) _ _ _

  pub early_token_none : (v : Volume) (n : TokenNo) (tokens : List Token) → NoRow (early_token clock s v) (is_token n) tokens
  early_token_none v n tokens = no_row (early_token clock s v) _ _

  pub early_token_at : (v : Volume) (n : TokenNo) (tokens : List Token) → AtRow (early_token clock s v) (is_token n) tokens blank_token
  early_token_at v n tokens = at_row (early_token clock s v) _ _ _
