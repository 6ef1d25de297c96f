-- `put_puts` meets its contract: after i turns the first i rows are written. Assumes nothing.
use Prim.Native.Nat.{◌-◌}
use Rattle.desk_bytes.specs.Layout.{put_bytes, put_length}
use Rattle.desk_bytes.proofs.RowLoops.{RowsLoop}
use Rattle.desk_bytes.proofs.tables.put_puts.Given as goal

abbrev pub invariant-loop-i : goal.invariant-loop-i
invariant-loop-i l = RowsLoop put_bytes put_length l.rows 8 l.start l.initial.out l.i l.at l.out
