-- `keys::has_key` meets its contract: what was found with what is left is whether the number is there. Assumes nothing.
use Rattle.entries.specs.Keys.{is_key}
use Rattle.entries.proofs.FlagLaws.{FlagLoop}
use Rattle.entries.proofs.keys.has_key.Given as goal

abbrev pub invariant-loop-i : goal.invariant-loop-i
invariant-loop-i l = FlagLoop (is_key l.key) l.keys 8 l.i l.found
