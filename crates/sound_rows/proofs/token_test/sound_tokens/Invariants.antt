-- `token_test::sound_tokens` meets its contract: the numbers differ, and at each row the rest decides. Assumes nothing.
use Prim.Native.Nat.{◌-◌}
use Rattle.sound_rows.proofs.NumberLaws.{TokensLoop}
use Rattle.sound_rows.proofs.token_test.sound_tokens.Given as goal

abbrev pub invariant-loop-i : goal.invariant-loop-i
invariant-loop-i l = TokensLoop l.t l.places l.numbers l.parents l.i
