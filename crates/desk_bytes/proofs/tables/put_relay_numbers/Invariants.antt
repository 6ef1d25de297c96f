-- `put_relay_numbers` meets its contract: after i turns the first i rows are written. Assumes nothing.
use Prim.Native.Nat.{◌-◌}
use Rattle.desk_bytes.specs.Layout.{relay_no_bytes}
use Rattle.desk_bytes.proofs.RowLoops.{RowsLoop}
use Rattle.desk_bytes.proofs.tables.put_relay_numbers.Given as goal

abbrev pub invariant-loop-i : goal.invariant-loop-i
invariant-loop-i l = RowsLoop relay_no_bytes 4 l.rows 24 l.start l.initial.out l.i l.at l.out
