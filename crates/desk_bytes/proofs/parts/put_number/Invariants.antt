-- `put_number` meets its contract: the bytes before i, of what is left of the number, over the buffer give the whole. Assumes nothing.
use Rattle.desk_bytes.proofs.OverLaws.{NumberLoop}
use Rattle.desk_bytes.proofs.parts.put_number.Given as goal

abbrev pub invariant-loop-i : goal.invariant-loop-i
invariant-loop-i l = NumberLoop l.initial.out l.at l.w l.n l.i l.rest l.out

abbrev pub decreases-loop-i : goal.decreases-loop-i
decreases-loop-i l = l.i
