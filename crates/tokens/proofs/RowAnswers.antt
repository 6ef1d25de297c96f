-- Answers that leave the tables as they are. Assumes nothing.
use mathlib.Core.Path.{◌≡◌}
use Prim.Native.Nat.{ℕ}
use Rattle.rules.specs.declared.Answer.{Answer}
use Rattle.rules.specs.declared.Tables.{Tables}
use Rattle.rules.specs.Outcome.{refusal, refused}
use Rattle.tokens.specs.Parts.{unchanged}

pub refuses : (t : Tables) (r : Answer) (n : ℕ) → r ≡ refusal n → unchanged t r ≡ refused t n
refuses t r n e = rw e
