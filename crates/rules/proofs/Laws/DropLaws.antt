-- An accepted delete leaves no token of its volume in the table. Assumes nothing.
use Rattle.std.specs.Prelude.{◌≡◌, refl, ℕ}
use Rattle.lists.specs.Lists.{hit}
use Rattle.lists.specs.BoolLaws.{and_both, not_both}
use Rattle.lists.specs.SearchLaws.{row_passes, found_at, found_below}
use Rattle.lists.specs.TestLaws.{none_at}
use Rattle.rules.specs.declared.VolumeNo.{VolumeNo}
use Rattle.rules.specs.declared.TokenNo.{TokenNo}
use Rattle.rules.specs.declared.Account.{Account}
use Rattle.rules.specs.declared.Token.{Token}
use Rattle.rules.specs.declared.Answer.{Answer}
use Rattle.rules.specs.declared.Tables.{Tables}
use Rattle.rules.specs.Fresh.{fresh_token}
use Rattle.rules.specs.Tables.{is_volume, is_token, volume_of, token_of, cleared}
use Rattle.rules.specs.VolumeCalls.{is_token_of}
use Rattle.rules.specs.Calls.{delete}
use Rattle.rules.proofs.Laws.AskCases.{Effect, deletes}
use Rattle.rules.proofs.Laws.ClearedLaws.{none_cleared}
use Rattle.rules.proofs.Laws.NumberLaws.{numbered_used}
use Rattle.rules.proofs.Laws.FindLaws.{volume_number_lem}

-- each token that is left is of another volume
pub delete_drops : (t : Tables) {a : Account} {n : VolumeNo} {x : Answer} {u : Tables} → Effect t (delete a n) x u
    → (m : TokenNo) (j : ℕ) (k : Token) → token_of m u ≡ hit j k → k.volume ≡ n → ⊥
unfolding volume_of token_of
delete_drops t (deletes a n i v f p q) m j k g w =
    let left = cleared (is_token_of v.no) fresh_token t.tokens in
    let none = none_at (is_token_of v.no) left (none_cleared (is_token_of v.no) fresh_token t.tokens refl) j (found_below (is_token m) left j k g) fresh_token in
    let used = numbered_used m.0 k.no.0 (row_passes (is_token m) left 0 j k g) in
    let own = volume_number_lem n t i v f in
    let self = rw own at (row_passes (is_volume n) t.volumes 0 i v f) in
    not_both (and_both used (rw (own, w) self)) (rw (found_at (is_token m) left j k g fresh_token) at none)
