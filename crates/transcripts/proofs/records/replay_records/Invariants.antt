-- `replay_records` meets its contract: what is still to be printed, over the buffer from where the replay has come, gives the whole, and the calls that
-- are left lead to the desk after all of them. Each arm of the match has a line for its record's line and one for the next turn. Assumes nothing.
use Prim.Native.Nat.{◌-◌}
use lib.ListN.{length}
use Rattle.kept.specs.Kept.{slots_in}
use Rattle.replay_calls.specs.Held.{held_tables}
use Rattle.transcripts.proofs.ReplayLaws.{ReplayLoop}
use Rattle.transcripts.proofs.records.replay_records.Given as goal

abbrev pub invariant-loop-out : goal.invariant-loop-out
invariant-loop-out l = ReplayLoop l.fn.v l.fn.journal l.initial.out l.fn.start (held_tables l.fn.journal l.t l.h l.relays) (slots_in l.fn.journal l.slots) l.n l.p l.at l.out

abbrev pub decreases-loop-out : goal.decreases-loop-out
decreases-loop-out l = length l.fn.journal - l.p
