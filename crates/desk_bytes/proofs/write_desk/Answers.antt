-- `write_desk` meets its contract: a refusal where the room is too small, and else the whole desk. Assumes nothing.
use Rattle.desk_bytes.proofs.WritingLaws.{writings}
use Rattle.desk_bytes.proofs.write_desk.Goals as goal

-- ROOM
pub returns-then-out-lt-DESK_BYTES : goal.returns-then-out-lt-DESK_BYTES
returns-then-out-lt-DESK_BYTES c = search writings

pub returns : goal.returns
returns c = (search writings, search writings)
