-- `put_tokens` meets its contract: after i turns the first i rows are written. Assumes nothing.
use Prim.Native.Nat.{◌-◌}
use Rattle.desk_bytes.specs.Layout.{token_bytes, token_length}
use Rattle.desk_bytes.proofs.RowLoops.{RowsLoop}
use Rattle.desk_bytes.proofs.tables.put_tokens.Given as goal

abbrev pub invariant-loop-i : goal.invariant-loop-i
invariant-loop-i l = RowsLoop token_bytes token_length l.rows 32 l.start l.initial.out l.i l.at l.out
