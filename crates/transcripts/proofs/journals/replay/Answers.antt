use Rattle.std.proofs.Common.{rules}
use Rattle.transcripts.proofs.ReplayAnswers.{short, first_room, fault, some_there, read}
use Rattle.transcripts.proofs.journals.replay.Goals as goal

pub returns-then-out-room_for-clause-answer : goal.returns-then-out-room_for-clause-answer
returns-then-out-room_for-clause-answer c = search short

pub returns-then-out-room_for-clause-buffer : goal.returns-then-out-room_for-clause-buffer
returns-then-out-room_for-clause-buffer c = search short

pub put_first_line-at-requires : goal.put_first_line-at-requires
put_first_line-at-requires c = search first_room

pub slice_bounds-replay_records-count : goal.slice_bounds-replay_records-count
slice_bounds-replay_records-count c = search (some_there, rules)

pub slice_bounds-replay_records-start : goal.slice_bounds-replay_records-start
slice_bounds-replay_records-start c = search (some_there, rules)

pub replay_records-requires : goal.replay_records-requires
replay_records-requires c = search (read, rules)

pub put_stop_line-requires : goal.put_stop_line-requires
put_stop_line-requires c = search (fault, rules)

pub returns-in-Ok-clause-answer : goal.returns-in-Ok-clause-answer
returns-in-Ok-clause-answer c = search read

pub returns-in-Ok-clause-buffer : goal.returns-in-Ok-clause-buffer
returns-in-Ok-clause-buffer c = search read

pub returns-in-Err-clause-answer : goal.returns-in-Err-clause-answer
returns-in-Err-clause-answer c = search (fault, rules)

pub returns-in-Err-clause-buffer : goal.returns-in-Err-clause-buffer
returns-in-Err-clause-buffer c = search (fault, rules)
