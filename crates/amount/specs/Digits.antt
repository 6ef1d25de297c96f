-- Decimal digits: the run of them that a text begins with, the number that they write, and the digits of a number.
use Rattle.std.specs.Prelude.{◌≡◌, Bool, ◌&&◌, cond, List, [], ◌∷◌, ◌++◌, ℕ, zero, suc, ◌+◌, ◌-◌, ◌*◌, ◌/◌, ◌%◌, leb, ltb}

-- A byte is one of the digits 0 to 9.
abbrev pub is_digit : ℕ → Bool
is_digit b = leb 48 b && leb b 57

-- The digits that a text begins with.
unfoldable pub leading : List ℕ → List ℕ
leading [] = []
leading (b ∷ t) = cond (is_digit b) (b ∷ leading t) []

-- What follows those digits.
unfoldable pub following : List ℕ → List ℕ
following [] = []
following (b ∷ t) = cond (is_digit b) (following t) (b ∷ t)

-- Every byte is a digit.
abbrev pub AllDigits : List ℕ → Type 0
AllDigits d = leading d ≡ d

-- The number that digits write after n, most significant first.
unfoldable pub number_after : ℕ → List ℕ → ℕ
number_after n [] = n
number_after n (b ∷ t) = number_after (n * 10 + (b - 48)) t

-- The number that digits write.
abbrev pub number : List ℕ → ℕ
number d = number_after 0 d

-- The digit of a number below 10.
abbrev pub digit : ℕ → ℕ
digit n = 48 + n

-- The digits of n without leading zeros, of which there are at most k + 1.
unfoldable pub decimal_within : ℕ → ℕ → List ℕ
decimal_within zero n = digit n ∷ []
decimal_within (suc k) n =
    let longer = decimal_within k (n / 10) ++ (digit (n % 10) ∷ []) in
    cond (ltb n 10) (digit n ∷ []) longer

-- The shortest decimal digits of n: it has at most n + 1 of them.
abbrev pub decimal : ℕ → List ℕ
decimal n = decimal_within n n
