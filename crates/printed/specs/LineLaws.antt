-- How many bytes the numbers and the lines of a transcript take. Assumes nothing.
use Rattle.std.specs.Prelude.{◌≡◌, [], ◌∷◌, ◌++◌, ℕ, ◌+◌, ◌^◌, ◌<◌, ◌≤◌, length}
use Rattle.std.proofs.Common.{arith, length-append}
use Rattle.lists.specs.Bytes.{bytes}
use Rattle.amount.specs.Amount.{space}
use Rattle.amount.specs.Digits.{decimal}
use Rattle.amount.specs.DecimalLaws.{decimal_length}
use Rattle.rules.specs.declared.Answer.{Answer}
use Rattle.journal.specs.Journal.{end, stop}
use Rattle.printed.specs.Transcript.{newline, numeral, record_line, last_line}

-- a number below 100, one below 10^5, and one of 64 bits
pub digits_2 : (n : ℕ) → n < 100 → length (decimal n) ≤ 2
digits_2 n h = decimal_length n 1 h

pub digits_5 : (n : ℕ) → n < 10 ^ 5 → length (decimal n) ≤ 5
digits_5 n h = decimal_length n 4 h

pub digits_20 : (n : ℕ) → n < 2 ^ 64 → length (decimal n) ≤ 20
digits_20 n h = decimal_length n 19 (omega arith)

numeral_length : (n mark : ℕ) → length (numeral n mark) ≡ length (decimal n) + 1
unfolding numeral
numeral_length n mark = length-append (decimal n) (mark ∷ [])

-- the line of a record, and the two last lines
pub line_most : (place : ℕ) (a : Answer) → place < 10 ^ 5 → a.number < 100 → a.value < 2 ^ 64 → length (record_line place a) ≤ 30
unfolding record_line
line_most p a hp hn hv =
    rw (length-append (numeral p space ++ numeral a.number space) (numeral a.value newline), length-append (numeral p space) (numeral a.number space), numeral_length p space, numeral_length a.number space, numeral_length a.value newline)
    (omega (arith, digits_5 p hp, digits_2 a.number hn, digits_20 a.value hv))

pub stop_most : (read number : ℕ) → read < 10 ^ 5 → number < 100 → length (last_line read (stop number)) ≤ 14
unfolding last_line
stop_most r n hr hn =
    rw (length-append (bytes "stop " ++ numeral r space) (numeral n newline), length-append (bytes "stop ") (numeral r space), numeral_length r space, numeral_length n newline)
    (omega (arith, digits_5 r hr, digits_2 n hn))

pub end_most : (read : ℕ) → read < 10 ^ 5 → length (last_line read end) ≤ 10
unfolding last_line
end_most r hr = rw (length-append (bytes "end ") (numeral r newline), numeral_length r newline) (omega (arith, digits_5 r hr))
