-- Document 01, "Journal": what the program prints for a journal. Assumes nothing.
use Rattle.std.specs.Prelude.{List, [], ◌∷◌, ◌++◌, ℕ, ◌+◌, length}
use Rattle.lists.specs.Bytes.{bytes}
use Rattle.amount.specs.Amount.{space}
use Rattle.amount.specs.Digits.{decimal}
use Rattle.rules.specs.declared.Answer.{Answer}
use Rattle.rules.specs.Fresh.{fresh_desk}
use Rattle.rules.specs.Calls.{answers}
use Rattle.journal.specs.Journal.{Ending, end, stop, Contents, contents}

-- each line ends with a newline
abbrev pub newline : ℕ
newline = 10

-- a number, and the byte that stands after it
unfoldable pub numeral : ℕ → ℕ → List ℕ
numeral n mark = decimal n ++ (mark ∷ [])

-- "The program prints "desk 1" always"
abbrev pub first_line : List ℕ
first_line = bytes "desk 1" ++ (newline ∷ [])

-- "then per record its place from 1, answer and value"; look's hash is not printed
unfoldable pub record_line : ℕ → Answer → List ℕ
record_line place a = numeral place space ++ numeral a.number space ++ numeral a.value newline

-- the lines of records from a place on, by their answers
unfoldable pub record_lines : ℕ → List Answer → List ℕ
record_lines place [] = []
record_lines place (a ∷ more) = record_line place a ++ record_lines (place + 1) more

-- "Its last line is either, at a fault, "stop", whole records read before it and the number, or else "end" and records read."
unfoldable pub last_line : ℕ → Ending → List ℕ
last_line read (stop number) = bytes "stop " ++ numeral read space ++ numeral number newline
last_line read end = bytes "end " ++ numeral read newline

-- the price of storage on the program's desk
abbrev pub program_rate : ℕ
program_rate = 100

-- the lines for what a journal holds: its calls are made one after another, from a fresh desk on
unfoldable pub printed : Contents → List ℕ
printed c = first_line ++ record_lines 1 (answers c.calls (fresh_desk program_rate)) ++ last_line (length c.calls) c.ending

-- the bytes that the program prints for the bytes of a journal
unfoldable pub transcript : List ℕ → List ℕ
transcript journal = printed (contents journal)
