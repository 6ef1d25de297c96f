-- A set of 32 bits has no bit past the last. Assumes nothing.
use Rattle.std.specs.Prelude.{◌≡◌, false, ℕ, ◌/◌, ◌%◌, ◌^◌, ◌<◌, eqb}
use Rattle.std.proofs.Math.Nat.{div-eq_of_lt}
use Rattle.std.proofs.Common.{lt_of_lt_of_le, Fits, pow_mono}
use Rattle.std.specs.Int.{w32}

pub past_last : (set i : ℕ) → Fits w32 set → 31 < i → false ≡ eqb (set / 2 ^ i % 2) 1
past_last set i h k = rw (div-eq_of_lt (lt_of_lt_of_le h.fits (pow_mono k)))
