-- What was written lies in the buffer. Assumes nothing.
use Rattle.replay.proofs.BufferLaws.{written_within, written_bytes}
use Rattle.replay.proofs.replay_by.Goals as goal

pub slice_bounds-write_all-end : goal.slice_bounds-write_all-end
slice_bounds-write_all-end g c =
    written_within _ _ _ _ c.replay_into.ensures.answer c.replay_into.ensures.buffer _ c.unwrap_or-len.ensures

pub slice_bounds-write_all-end-2 : goal.slice_bounds-write_all-end-2
slice_bounds-write_all-end-2 g c =
    written_bytes _ _ _ _ c.replay_into.ensures.answer c.replay_into.ensures.buffer _ c.unwrap_or-len.ensures
