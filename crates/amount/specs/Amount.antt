-- Which cap a text names (01, "Typed amounts"): the grammar first, then the number. Assumes nothing.
use Rattle.std.specs.Prelude.{Bool, ◌&&◌, ◌||◌, not, cond, List, [], ◌∷◌, ◌++◌, ℕ, ◌*◌, ◌/◌, ◌%◌, ◌^◌, eqb, leb, ltb, length, get_or, Option, Some, None, Result, Ok, Err}
use Rattle.amount.specs.declared.error.AmountError.{AmountError}
use Rattle.amount.specs.declared.error.AmountError.TheVariants.{Room, Text, NotWhole, TooLarge}
use Rattle.amount.specs.declared.unit.ByteUnit.{ByteUnit}
use Rattle.amount.specs.declared.unit.ByteUnit.TheVariants.{B, KiB, MiB, GiB}
use Rattle.amount.specs.declared.Cap.{Cap}
use Rattle.amount.specs.declared.Cap.TheVariants.{Unlimited, Bytes}
use Rattle.lists.specs.Bytes.{bytes, same_bytes}
use Rattle.amount.specs.Digits.{leading, following, number}

-- The number of each refusal: 12 ROOM, 22 TEXT, 23 NOT WHOLE, 24 TOO LARGE.
abbrev pub error_number : AmountError → ℕ
error_number Room = 12
error_number Text = 22
error_number NotWhole = 23
error_number TooLarge = 24

-- "a byte count up to 2^36"
abbrev pub limit : ℕ
limit = 2 ^ 36

-- The word for no limit.
abbrev pub unlimited_text : List ℕ
unlimited_text = bytes "unlimited"

-- The bytes of the digit 0, the comma, the point and the space.
abbrev pub zero_digit : ℕ
zero_digit = 48

abbrev pub comma : ℕ
comma = 44

abbrev pub point : ℕ
point = 46

abbrev pub space : ℕ
space = 32

-- The bytes in one of each unit.
abbrev pub size_of : ByteUnit → ℕ
size_of B = 1
size_of KiB = 2 ^ 10
size_of MiB = 2 ^ 20
size_of GiB = 2 ^ 30

-- "B, KiB, MiB or GiB"
abbrev pub name_of : ByteUnit → List ℕ
name_of B = bytes "B"
name_of KiB = bytes "KiB"
name_of MiB = bytes "MiB"
name_of GiB = bytes "GiB"

-- The unit that has this name.
unfoldable pub unit_named : List ℕ → Option ByteUnit
unit_named t =
    cond (same_bytes t (name_of B)) (Some B)
    (cond (same_bytes t (name_of KiB)) (Some KiB)
    (cond (same_bytes t (name_of MiB)) (Some MiB)
    (cond (same_bytes t (name_of GiB)) (Some GiB) None)))

-- What a text is by the grammar: whole digits, fraction digits and a unit; or none of it.
pub data Parsed : Type 0 where
  amount : List ℕ → List ℕ → ByteUnit → Parsed
  no_amount : Parsed

-- From 1 to most.
abbrev pub within : ℕ → ℕ → Bool
within most n = leb 1 n && leb n most

-- "no leading 0 but for "0" itself" rules this out: more than one digit, of which the first is 0.
abbrev pub leading_zero : List ℕ → Bool
leading_zero w = ltb 1 (length w) && eqb (get_or w 0 0) zero_digit

-- "1 to 11 digits (no leading 0 but for "0" itself)"
abbrev pub whole_digits : List ℕ → Bool
whole_digits w = within 11 (length w) && not (leading_zero w)

-- "1 to 9 digits"
abbrev pub fraction_digits : List ℕ → Bool
fraction_digits f = within 9 (length f)

-- "Comma and point both mean the decimal mark"
abbrev pub is_mark : ℕ → Bool
is_mark b = eqb b comma || eqb b point

-- "one space, then B, KiB, MiB or GiB", and nothing after it.
unfoldable pub unit_after : List ℕ → Option ByteUnit
unit_after [] = None
unit_after (b ∷ t) = cond (eqb b space) (unit_named t) None

-- The whole digits w and the fraction digits f, with the unit that was found after them.
abbrev pub with_unit : List ℕ → List ℕ → Option ByteUnit → Parsed
with_unit w f (Some u) = amount w f u
with_unit w f None = no_amount

-- After the whole digits w: "optionally one comma or point and 1 to 9 digits", then the unit.
unfoldable pub after_whole : List ℕ → List ℕ → Parsed
after_whole w [] = no_amount
after_whole w (b ∷ t) =
    cond (is_mark b)
    (cond (fraction_digits (leading t)) (with_unit w (leading t) (unit_after (following t))) no_amount)
    (with_unit w [] (unit_after (b ∷ t)))

-- The grammar of an amount with a number.
unfoldable pub parse : List ℕ → Parsed
parse t = cond (whole_digits (leading t)) (after_whole (leading t) (following t)) no_amount

-- The cap of n / p bytes. "Not a whole number of bytes: 23. Then above 2^36: 24."
unfoldable pub counted : ℕ → ℕ → Result Cap AmountError
counted n p =
    cond (eqb (n % p) 0)
    (cond (leb (n / p) limit) (Ok (Bytes (n / p))) (Err TooLarge))
    (Err NotWhole)

-- The number: whole and fraction digits as one number, times the unit, over 10 to the count of fraction digits. "Anything else is 22."
abbrev pub amount_parsed : Parsed → Result Cap AmountError
amount_parsed (amount w f u) = counted (number (w ++ f) * size_of u) (10 ^ length f)
amount_parsed no_amount = Err Text

-- "If an answer is an enum, a definition gives this paper's number": 0 where the text is read, or the refusal's.
abbrev pub read_number : Result Cap AmountError → ℕ
read_number (Ok cap) = 0
read_number (Err e) = error_number e

-- The cap that a text names, or the refusal.
unfoldable pub amount_of : List ℕ → Result Cap AmountError
amount_of t = cond (same_bytes t unlimited_text) (Ok Unlimited) (amount_parsed (parse t))
