use Rattle.std.proofs.Common.{rules}
use Rattle.pailorchard.proofs.DeskAfterLaws.{without_desk, no_desk, a_desk}
use Rattle.pailorchard.proofs.replay_with_desk.Goals as goal

pub returns-then-done-clause-value : goal.returns-then-done-clause-value
returns-then-done-clause-value c = search (without_desk, rules)

pub returns-then-done-clause-desk_after : goal.returns-then-done-clause-desk_after
returns-then-done-clause-desk_after c = search (a_desk, rules)

pub returns-else-done-clause-value : goal.returns-else-done-clause-value
returns-else-done-clause-value c = search (without_desk, rules)

pub returns-else-done-clause-desk_after : goal.returns-else-done-clause-desk_after
returns-else-done-clause-desk_after c = search (no_desk, rules)
