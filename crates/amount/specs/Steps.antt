-- What the inner functions of the reader and the writer give, in the words of Amount.antt and Writing.antt.
use Rattle.std.specs.Prelude.{cond, List, ℕ, ltb, length, Result, Ok, Err}
use Rattle.amount.specs.declared.error.AmountError.{AmountError}
use Rattle.amount.specs.declared.error.AmountError.TheVariants.{Room}

-- The answer of writing a text into a buffer of that many bytes.
abbrev pub fitted : List ℕ → ℕ → Result ℕ AmountError
fitted text size = cond (ltb size (length text)) (Err Room) (Ok (length text))
