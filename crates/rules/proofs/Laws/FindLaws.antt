-- Laws of a search by number: what it finds has the number and stands in its row. Assumes nothing.
use Rattle.std.specs.Prelude.{◌≡◌, true, ℕ}
use Rattle.std.proofs.Math.Path.{ap}
use Rattle.lists.specs.Lists.{hit}
use Rattle.lists.specs.SearchLaws.{row_passes, found_at}
use Rattle.rules.specs.declared.VolumeNo.{VolumeNo}
use Rattle.rules.specs.declared.TokenNo.{TokenNo}
use Rattle.rules.specs.declared.Volume.{Volume}
use Rattle.rules.specs.declared.Token.{Token}
use Rattle.rules.specs.declared.Tables.{Tables}
use Rattle.rules.specs.Fresh.{fresh_token}
use Rattle.rules.specs.Tables.{used_token, is_volume, is_token, volume_of, token_of}
use Rattle.rules.proofs.Laws.NumberLaws.{numbered_used, numbered_eq}
use Rattle.rules.proofs.Laws.Later.{token_row}

pub volume_number_lem : (n : VolumeNo) (t : Tables) (i : ℕ) (v : Volume) → volume_of n t ≡ hit i v → v.no ≡ n
unfolding volume_of
volume_number_lem n t i v e = ap (λ x. record { 0 = x }) (numbered_eq n.0 v.no.0 (row_passes (is_volume n) t.volumes 0 i v e))

module _ (n : TokenNo) (t : Tables) (i : ℕ) (k : Token) (e : token_of n t ≡ hit i k) where
  pub token_number_lem : k.no ≡ n
  unfolding token_of
  token_number_lem = ap (λ x. record { 0 = x }) (numbered_eq n.0 k.no.0 (row_passes (is_token n) t.tokens 0 i k e))

  pub token_used : used_token k ≡ true
  unfolding token_of
  token_used = numbered_used n.0 k.no.0 (row_passes (is_token n) t.tokens 0 i k e)

  pub token_at_lem : token_row t i ≡ k
  unfolding token_of
  token_at_lem = found_at (is_token n) t.tokens i k e fresh_token
