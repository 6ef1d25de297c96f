use Rattle.std.proofs.Common.{rules}
use Rattle.pailorchard.proofs.DeskAfterLaws.{short_number, short_transcript, short_desk, short_length, one_number, other_number, one_transcript, one_desk, length_stored, length_kept}
use Rattle.pailorchard.proofs.pailorchard_desk_after.Goals as goal

pub returns-then-desk-desk_room-clause-value : goal.returns-then-desk-desk_room-clause-value
returns-then-desk-desk_room-clause-value c = search (short_number, rules)

pub returns-then-desk-desk_room-clause-transcript_after : goal.returns-then-desk-desk_room-clause-transcript_after
returns-then-desk-desk_room-clause-transcript_after c = search (short_transcript, rules)

pub returns-then-desk-desk_room-clause-desk_after : goal.returns-then-desk-desk_room-clause-desk_after
returns-then-desk-desk_room-clause-desk_after c = search (short_desk, rules)

pub returns-then-desk-desk_room-clause-written_after : goal.returns-then-desk-desk_room-clause-written_after
returns-then-desk-desk_room-clause-written_after c = search (short_length, rules)

pub returns-in-Ok-clause-value : goal.returns-in-Ok-clause-value
returns-in-Ok-clause-value c = search (one_number, rules)

pub returns-in-Ok-clause-transcript_after : goal.returns-in-Ok-clause-transcript_after
returns-in-Ok-clause-transcript_after c = search (one_transcript, rules)

pub returns-in-Ok-clause-desk_after : goal.returns-in-Ok-clause-desk_after
returns-in-Ok-clause-desk_after c = search (one_desk, rules)

pub returns-in-Ok-clause-written_after : goal.returns-in-Ok-clause-written_after
returns-in-Ok-clause-written_after c = search (length_stored, rules)

pub returns-in-Err-clause-value : goal.returns-in-Err-clause-value
returns-in-Err-clause-value c = search (other_number, rules)

pub returns-in-Err-clause-transcript_after : goal.returns-in-Err-clause-transcript_after
returns-in-Err-clause-transcript_after c = search (one_transcript, rules)

pub returns-in-Err-clause-desk_after : goal.returns-in-Err-clause-desk_after
returns-in-Err-clause-desk_after c = search (one_desk, rules)

pub returns-in-Err-clause-written_after : goal.returns-in-Err-clause-written_after
returns-in-Err-clause-written_after c = search (length_kept, rules)
