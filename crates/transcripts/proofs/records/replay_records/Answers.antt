use borrow.Author.Rules.{rules}
use Rattle.transcripts.proofs.GroupLaws.{relays_stand, relays_said, relays_changed, relays_kept, volumes_stand, volumes_said, volumes_carried, tokens_stand, tokens_said, tokens_carried, slot_below, slot_fits, slot_stand, slot_said, slot_carried, no_slot_stand, no_slot_said, no_slot_carried, look_stand, look_said, look_carried, advance_stand, advance_said, advance_carried, collection_carried, delete_stand, delete_said, delete_carried, commit_below, commit_fits, commit_stand, commit_said, commit_carried, remove_stand, remove_said, remove_carried}
use Rattle.transcripts.proofs.ReplayLaws.{replay_start, count_fits, ends, stops, fewer_left, plain_room, plain_step}
use Rattle.transcripts.proofs.records.replay_records.Goals as goal

pub loop-out-init : goal.loop-out-init
loop-out-init c = search (replay_start, rules)

pub overflow_add-n : goal.overflow_add-n
overflow_add-n c = search count_fits

pub put_end_line-requires : goal.put_end_line-requires
put_end_line-requires c = search ends

pub returns-in-End : goal.returns-in-End
returns-in-End c = search ends

pub put_stop_line-requires : goal.put_stop_line-requires
put_stop_line-requires c = search stops

pub returns-in-Stop : goal.returns-in-Stop
returns-in-Stop c = search stops

pub put_record_line-at-requires : goal.put_record_line-at-requires
put_record_line-at-requires c = search (plain_room, relays_said)

pub loop-out-smaller-then-o : goal.loop-out-smaller-then-o
loop-out-smaller-then-o c = search (fewer_left, relays_stand)

pub loop-out-preserved-then-o : goal.loop-out-preserved-then-o
loop-out-preserved-then-o c = search (plain_step, relays_changed)

pub loop-out-smaller-else-o : goal.loop-out-smaller-else-o
loop-out-smaller-else-o c = search (fewer_left, relays_stand)

pub loop-out-preserved-else-o : goal.loop-out-preserved-else-o
loop-out-preserved-else-o c = search (plain_step, relays_kept)

pub put_record_line-at-requires-in-Volumes : goal.put_record_line-at-requires-in-Volumes
put_record_line-at-requires-in-Volumes c = search (plain_room, volumes_said)

pub loop-out-smaller-in-Volumes : goal.loop-out-smaller-in-Volumes
loop-out-smaller-in-Volumes c = search (fewer_left, volumes_stand)

pub loop-out-preserved-in-Volumes : goal.loop-out-preserved-in-Volumes
loop-out-preserved-in-Volumes c = search (plain_step, volumes_carried)

pub put_record_line-at-requires-in-Tokens : goal.put_record_line-at-requires-in-Tokens
put_record_line-at-requires-in-Tokens c = search (plain_room, tokens_said)

pub loop-out-smaller-in-Tokens : goal.loop-out-smaller-in-Tokens
loop-out-smaller-in-Tokens c = search (fewer_left, tokens_stand)

pub loop-out-preserved-in-Tokens : goal.loop-out-preserved-in-Tokens
loop-out-preserved-in-Tokens c = search (plain_step, tokens_carried)

pub put_record_line-at-requires-in-Slot : goal.put_record_line-at-requires-in-Slot
put_record_line-at-requires-in-Slot c = search (plain_room, slot_said)

pub offset_bounds-slots-i : goal.offset_bounds-slots-i
offset_bounds-slots-i c = search slot_fits

pub bounds-slots-i : goal.bounds-slots-i
bounds-slots-i c = search slot_below

pub loop-out-smaller-in-Slot : goal.loop-out-smaller-in-Slot
loop-out-smaller-in-Slot c = search (fewer_left, slot_stand)

pub loop-out-preserved-in-Slot : goal.loop-out-preserved-in-Slot
loop-out-preserved-in-Slot c = search (plain_step, slot_carried)

pub put_record_line-at-requires-in-NoSlot : goal.put_record_line-at-requires-in-NoSlot
put_record_line-at-requires-in-NoSlot c = search (plain_room, no_slot_said)

pub loop-out-smaller-in-NoSlot : goal.loop-out-smaller-in-NoSlot
loop-out-smaller-in-NoSlot c = search (fewer_left, no_slot_stand)

pub loop-out-preserved-in-NoSlot : goal.loop-out-preserved-in-NoSlot
loop-out-preserved-in-NoSlot c = search (plain_step, no_slot_carried)

pub put_record_line-at-requires-in-Look : goal.put_record_line-at-requires-in-Look
put_record_line-at-requires-in-Look c = search (plain_room, look_said)

pub loop-out-smaller-in-Look : goal.loop-out-smaller-in-Look
loop-out-smaller-in-Look c = search (fewer_left, look_stand)

pub loop-out-preserved-in-Look : goal.loop-out-preserved-in-Look
loop-out-preserved-in-Look c = search (plain_step, look_carried)

pub put_record_line-at-requires-in-Advance : goal.put_record_line-at-requires-in-Advance
put_record_line-at-requires-in-Advance c = search (plain_room, advance_said)

pub loop-out-smaller-then-due : goal.loop-out-smaller-then-due
loop-out-smaller-then-due c = search (fewer_left, advance_stand)

pub loop-out-preserved-then-due : goal.loop-out-preserved-then-due
loop-out-preserved-then-due c = search (plain_step, collection_carried)

pub loop-out-smaller-else-due : goal.loop-out-smaller-else-due
loop-out-smaller-else-due c = search (fewer_left, advance_stand)

pub loop-out-preserved-else-due : goal.loop-out-preserved-else-due
loop-out-preserved-else-due c = search (plain_step, advance_carried)

pub put_record_line-at-requires-in-Delete : goal.put_record_line-at-requires-in-Delete
put_record_line-at-requires-in-Delete c = search (plain_room, delete_said)

pub loop-out-smaller-in-Delete : goal.loop-out-smaller-in-Delete
loop-out-smaller-in-Delete c = search (fewer_left, delete_stand)

pub loop-out-preserved-in-Delete : goal.loop-out-preserved-in-Delete
loop-out-preserved-in-Delete c = search (plain_step, delete_carried)

pub put_record_line-at-requires-in-Commit : goal.put_record_line-at-requires-in-Commit
put_record_line-at-requires-in-Commit c = search (plain_room, commit_said)

pub offset_bounds-slots-i-in-Commit : goal.offset_bounds-slots-i-in-Commit
offset_bounds-slots-i-in-Commit c = search commit_fits

pub bounds-slots-i-in-Commit : goal.bounds-slots-i-in-Commit
bounds-slots-i-in-Commit c = search commit_below

pub loop-out-smaller-in-Commit : goal.loop-out-smaller-in-Commit
loop-out-smaller-in-Commit c = search (fewer_left, commit_stand)

pub loop-out-preserved-in-Commit : goal.loop-out-preserved-in-Commit
loop-out-preserved-in-Commit c = search (plain_step, commit_carried)

pub put_record_line-at-requires-in-Remove : goal.put_record_line-at-requires-in-Remove
put_record_line-at-requires-in-Remove c = search (plain_room, remove_said)

pub loop-out-smaller : goal.loop-out-smaller
loop-out-smaller c = search (fewer_left, remove_stand)

pub loop-out-preserved : goal.loop-out-preserved
loop-out-preserved c = search (plain_step, remove_carried)
