-- `session_test::put_keys` meets its contract: after i turns the keys of the first i puts are stored. Assumes nothing.
use Prim.Native.Nat.{◌-◌}
use Rattle.sound_rows.proofs.PutKeyLaws.{PutLoop}
use Rattle.sound_rows.proofs.session_test.put_keys.Given as goal

abbrev pub invariant-loop-i : goal.invariant-loop-i
invariant-loop-i l = PutLoop l.rows l.n l.i l.keys
