-- What is left in lent numbers, from the variant or the number that a function answered. Assumes nothing.
use Rattle.std.specs.Prelude.{true, false, Result, Ok, Err, is_ok}
use mathlib.Core.Path.{◌≡◌, refl}
use mathlib.Core.Bool.{cond}
use Prim.Native.Nat.{ℕ}
use Rattle.rules.specs.Sound.{sound}
use Rattle.transcripts.specs.declared.Replayed.{Replayed}
use Rattle.transcripts.specs.declared.ReplayError.{ReplayError}
use Rattle.transcripts.specs.Replay.{answer_number, refusal_number}
use Rattle.pailorchard.specs.Results.{written_after, tests_passed}

module _ {r x : Result ℕ ReplayError} (e : r ≡ x) where
  pub replayed_number : {len : ℕ} → r ≡ Ok len → 0 ≡ answer_number x
  replayed_number w = rw (← e, w) refl

  pub short_replay : {cause : ReplayError} {number : ℕ} → r ≡ Err cause → number ≡ refusal_number cause → number ≡ answer_number x
  short_replay w q = rw (← e, w) q

  pub replayed_length : {len : ℕ} (n : ℕ) → r ≡ Ok len → len ≡ written_after x n
  unfolding written_after
  replayed_length n w = rw (← e, w) refl

  pub short_length : {cause : ReplayError} (n : ℕ) → r ≡ Err cause → n ≡ written_after x n
  unfolding written_after
  short_length n w = rw (← e, w) refl

module _ {r x : Replayed} (e : r ≡ x) (times : ℕ) where
  pub tested : {n : ℕ} → is_ok r.written ≡ true → n ≡ cond (sound r.desk) times 0 → n ≡ tests_passed x times
  unfolding tests_passed
  tested z w = rw (← e, z) w

  pub untested : is_ok r.written ≡ false → 0 ≡ tests_passed x times
  unfolding tests_passed
  untested z = rw (← e, z) refl
