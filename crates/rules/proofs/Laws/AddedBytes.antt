-- A commit adds its bytes to the used bytes of each token of the family, and to no other's. Assumes nothing.
use Rattle.std.specs.Prelude.{◌≡◌, refl, Bool, true, false, cond, List, ℕ, ◌+◌}
use Rattle.std.proofs.Common.{arith}
use Rattle.lists.specs.Lists.{any_of}
use Rattle.rules.specs.declared.Token.{Token}
use Rattle.rules.specs.Tables.{is_token, with_used}
use Rattle.rules.specs.Commit.{charged}

pub charged_used : (ks : List Token) (bytes : ℕ) (k : Token) → (charged ks bytes k).used ≡ k.used + cond (any_of (is_token k.no) ks) bytes 0
unfolding charged
charged_used ks bytes k = by (any_of (is_token k.no) ks)
  where
    by : (b : Bool) → (cond b (with_used k (k.used + bytes)) k).used ≡ k.used + cond b bytes 0
    by true = refl
    by false = omega arith
