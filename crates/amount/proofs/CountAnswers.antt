-- The count of bytes, w whole units and f of 10^k parts of one: power is 10^k and bytes the size of the unit, as the code found them. Each law ends
-- in what the code owes, and its premises are what the code knows there. Assumes nothing.
use mathlib.Core.Path.{◌≡◌, sym}
use Prim.Native.Nat.{ℕ, ◌+◌, ◌*◌, ◌/◌, ◌%◌, ◌^◌, ◌<◌, ◌≤◌}
use borrow.Author.Rules.{rules}
use Rattle.amount.specs.declared.unit.ByteUnit.{ByteUnit}
use Rattle.amount.specs.declared.Cap.TheVariants.{Bytes}
use Rattle.std.specs.Prelude.{Ok, Err}
use Rattle.amount.specs.declared.error.AmountError.TheVariants.{NotWhole, TooLarge}
use Rattle.amount.specs.Amount.{limit, size_of, counted}
use Rattle.amount.specs.AmountLaws.{parts_part, parts_far, parts_above, parts_read}

-- the answers
module _ (w f k : ℕ) (u : ByteUnit) (power bytes : ℕ) (ep : power ≡ 10 ^ k) (eb : bytes ≡ size_of u) where
  pub not_whole_lem : (f * bytes % power ≡ 0 → ⊥) → Err NotWhole ≡ counted ((w * 10 ^ k + f) * size_of u) (10 ^ k)
  not_whole_lem h = sym (parts_part w f k u ep eb h)

  module _ (h : f * bytes % power ≡ 0) where
    pub units_above : limit / bytes < w → Err TooLarge ≡ counted ((w * 10 ^ k + f) * size_of u) (10 ^ k)
    units_above l = sym (parts_far w f k u ep eb h l)

    pub total_above : limit < w * bytes + f * bytes / power → Err TooLarge ≡ counted ((w * 10 ^ k + f) * size_of u) (10 ^ k)
    total_above l = sym (parts_above w f k u ep eb h l)

    pub total_read : w * bytes + f * bytes / power ≤ limit → Ok (Bytes (w * bytes + f * bytes / power)) ≡ counted ((w * 10 ^ k + f) * size_of u) (10 ^ k)
    total_read l = sym (parts_read w f k u ep eb h l)

pub ruleset answers = (not_whole_lem, units_above, total_above, total_read, rules)
