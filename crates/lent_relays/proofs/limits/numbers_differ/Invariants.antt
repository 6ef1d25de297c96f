-- What is left decides.
use Rattle.std.proofs.Common.{◌≡◌, length}
use Rattle.lists.specs.Lists.{no_clash}
use Rattle.rules.specs.Sound.{same_relay_row}
use Rattle.lent_relays.proofs.limits.numbers_differ.Given as goal

abbrev pub invariant-loop-x : goal.invariant-loop-x
invariant-loop-x l = no_clash same_relay_row l.fn.rows ≡ no_clash same_relay_row l.rest

abbrev pub decreases-loop-x : goal.decreases-loop-x
decreases-loop-x l = length l.rest
