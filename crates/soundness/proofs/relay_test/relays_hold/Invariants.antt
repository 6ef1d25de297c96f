-- `relay_test::relays_hold` meets its contract: the numbers differ, and at each row the rest decides; before each entry, a relay's sums so far with
-- those of the rest are the whole. Assumes nothing.
use Prim.Native.Nat.{◌-◌}
use Rattle.rules.specs.Sound.{sound_relay}
use Rattle.lists.specs.LoopLaws.{AllLoop}
use Rattle.soundness.proofs.ShardLaws.{Sized, LoadLoop}
use Rattle.soundness.proofs.relay_test.relays_hold.Given as goal

abbrev pub invariant-loop-j : goal.invariant-loop-j
invariant-loop-j l = LoadLoop l.t l.sizes l.sets l.i l.bytes l.shards l.j

abbrev pub invariant-loop-i : goal.invariant-loop-i
invariant-loop-i l = Sized l.t l.sizes l.sets × AllLoop (sound_relay l.t) l.rows 32 l.i
