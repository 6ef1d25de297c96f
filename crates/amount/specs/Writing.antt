-- Which text a cap has, and what writing it leaves in a buffer (01, "Typed amounts"). Assumes nothing.
use Rattle.std.specs.Prelude.{Bool, false, cond, List, ◌∷◌, ◌++◌, ℕ, ◌/◌, ◌%◌, eqb, ltb, length, drop, Result, Ok, Err}
use Rattle.amount.specs.declared.error.AmountError.{AmountError}
use Rattle.amount.specs.declared.error.AmountError.TheVariants.{Room, TooLarge}
use Rattle.amount.specs.declared.unit.ByteUnit.{ByteUnit}
use Rattle.amount.specs.declared.unit.ByteUnit.TheVariants.{B, KiB, MiB, GiB}
use Rattle.amount.specs.declared.Cap.{Cap}
use Rattle.amount.specs.declared.Cap.TheVariants.{Unlimited, Bytes}
use Rattle.amount.specs.Digits.{decimal}
use Rattle.amount.specs.Amount.{error_number, limit, space, unlimited_text, size_of, name_of}

-- The unit divides the count.
abbrev pub divides : ByteUnit → ℕ → Bool
divides u n = eqb (n % size_of u) 0

-- "the largest unit that divides the count"; "0 is "0 B"".
unfoldable pub unit_for : ℕ → ByteUnit
unit_for n =
    cond (eqb n 0) B
    (cond (divides GiB n) GiB
    (cond (divides MiB n) MiB
    (cond (divides KiB n) KiB B)))

-- n of a unit, "without a fraction".
abbrev pub in_unit : ByteUnit → ℕ → List ℕ
in_unit u n = decimal (n / size_of u) ++ (space ∷ name_of u)

-- The text of a cap: "no limit "unlimited"".
unfoldable pub text_of : Cap → List ℕ
text_of Unlimited = unlimited_text
text_of (Bytes n) = in_unit (unit_for n) n

-- A count above 2^36.
abbrev pub above_limit : Cap → Bool
above_limit Unlimited = false
above_limit (Bytes n) = ltb limit n

-- What writing answers for a buffer of that many bytes: "a count above 2^36 is 24, checked before 12".
unfoldable pub written_of : Cap → ℕ → Result ℕ AmountError
written_of cap size =
    cond (above_limit cap) (Err TooLarge)
    (cond (ltb size (length (text_of cap))) (Err Room) (Ok (length (text_of cap))))

-- "If an answer is an enum, a definition gives this paper's number and values": 0 and the length written, or the refusal's number and 0.
abbrev pub written_number : Result ℕ AmountError → ℕ
written_number (Ok n) = 0
written_number (Err e) = error_number e

abbrev pub written_value : Result ℕ AmountError → ℕ
written_value (Ok n) = n
written_value (Err e) = 0

-- A buffer with a text at its start: "Bytes after the text stay"; as it was where the text does not fit.
unfoldable pub at_start : List ℕ → List ℕ → List ℕ
at_start text buf = cond (ltb (length buf) (length text)) buf (text ++ drop (length text) buf)

-- The buffer after an answer: the text at its start and "Bytes after the text stay"; as it was where the answer is a refusal.
abbrev pub buffer_at : Result ℕ AmountError → List ℕ → List ℕ → List ℕ
buffer_at (Ok n) text buf = text ++ drop n buf
buffer_at (Err e) text buf = buf

-- The buffer after writing.
unfoldable pub buffer_after : Cap → List ℕ → List ℕ
buffer_after cap buf = buffer_at (written_of cap (length buf)) (text_of cap) buf
