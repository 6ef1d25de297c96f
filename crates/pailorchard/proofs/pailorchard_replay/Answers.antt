use Rattle.std.proofs.Common.{rules}
use Rattle.pailorchard.proofs.ResultLaws.{replayed_length, short_length}
use Rattle.pailorchard.proofs.pailorchard_replay.Goals as goal

pub returns-in-Ok-clause-written_after : goal.returns-in-Ok-clause-written_after
returns-in-Ok-clause-written_after c = search (replayed_length, rules)

pub returns-in-Err-clause-written_after : goal.returns-in-Err-clause-written_after
returns-in-Err-clause-written_after c = search (short_length, rules)
