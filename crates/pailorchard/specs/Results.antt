-- What the functions for C and Rust leave in the numbers that are lent to them: the result, or, where the answer is a refusal, what was
-- there. Assumes nothing.
use Rattle.std.specs.Prelude.{Bool, true, false, cond, ℕ, Result, Ok, Err, is_ok}
use Rattle.amount.specs.declared.error.AmountError.{AmountError}
use Rattle.amount.specs.declared.Cap.{Cap}
use Rattle.amount.specs.declared.Cap.TheVariants.{Unlimited, Bytes}
use Rattle.rules.specs.Sound.{sound}
use Rattle.transcripts.specs.declared.Replayed.{Replayed}
use Rattle.transcripts.specs.declared.ReplayError.{ReplayError}

-- a cap as two parts: whether it is a count of bytes, and the count, which stands for nothing where there is no limit
unfoldable pub cap_of : Bool → ℕ → Cap
cap_of true n = Bytes n
cap_of false n = Unlimited

-- whether the cap that was read is a count of bytes
unfoldable pub limited_after : Result Cap AmountError → Bool → Bool
limited_after (Ok Unlimited) b = false
limited_after (Ok (Bytes n)) b = true
limited_after (Err e) b = b

-- the count that was read; 0 beside no limit
unfoldable pub bytes_after : Result Cap AmountError → ℕ → ℕ
bytes_after (Ok Unlimited) n = 0
bytes_after (Ok (Bytes c)) n = c
bytes_after (Err e) n = n

-- how many bytes a cap's text has
unfoldable pub length_after : Result ℕ AmountError → ℕ → ℕ
length_after (Ok n) before = n
length_after (Err e) before = before

-- how many bytes a replay wrote, where it was not refused
unfoldable pub written_after : Result ℕ ReplayError → ℕ → ℕ
written_after (Ok len) before = len
written_after (Err e) before = before

-- how many of so many tests the desk after a replay passes; none where there was no replay
unfoldable pub tests_passed : Replayed → ℕ → ℕ
tests_passed r times = cond (is_ok r.written) (cond (sound r.desk) times 0) 0
