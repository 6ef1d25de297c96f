use Rattle.journal_writer.proofs.PutLaws.{rooms, writes}
use Rattle.journal_writer.proofs.write.put_field.Goals as goal

pub put_block-requires : goal.put_block-requires
put_block-requires c = search rooms

pub put_text-requires : goal.put_text-requires
put_text-requires c = search rooms

pub put_block-requires-in-Hash : goal.put_block-requires-in-Hash
put_block-requires-in-Hash c = search rooms

pub put_cap-requires : goal.put_cap-requires
put_cap-requires c = search rooms

pub returns-in-Account-clause-place : goal.returns-in-Account-clause-place
returns-in-Account-clause-place c = search writes

pub returns-in-Text-clause-place : goal.returns-in-Text-clause-place
returns-in-Text-clause-place c = search writes

pub returns-in-Hash-clause-place : goal.returns-in-Hash-clause-place
returns-in-Hash-clause-place c = search writes

pub returns-in-Cap-clause-place : goal.returns-in-Cap-clause-place
returns-in-Cap-clause-place c = search writes

pub returns-in-Account-clause-buffer : goal.returns-in-Account-clause-buffer
returns-in-Account-clause-buffer c = search writes

pub returns-in-No-clause-buffer : goal.returns-in-No-clause-buffer
returns-in-No-clause-buffer c = search writes

pub returns-in-Slot-clause-buffer : goal.returns-in-Slot-clause-buffer
returns-in-Slot-clause-buffer c = search writes

pub returns-in-K-clause-buffer : goal.returns-in-K-clause-buffer
returns-in-K-clause-buffer c = search writes

pub returns-in-M-clause-buffer : goal.returns-in-M-clause-buffer
returns-in-M-clause-buffer c = search writes

pub returns-in-Text-clause-buffer : goal.returns-in-Text-clause-buffer
returns-in-Text-clause-buffer c = search writes

pub returns-in-Amount-clause-buffer : goal.returns-in-Amount-clause-buffer
returns-in-Amount-clause-buffer c = search writes

pub returns-in-Hash-clause-buffer : goal.returns-in-Hash-clause-buffer
returns-in-Hash-clause-buffer c = search writes

pub returns-in-Mode-clause-buffer : goal.returns-in-Mode-clause-buffer
returns-in-Mode-clause-buffer c = search writes

pub returns-in-Cap-clause-buffer : goal.returns-in-Cap-clause-buffer
returns-in-Cap-clause-buffer c = search writes

pub returns-in-From-clause-buffer : goal.returns-in-From-clause-buffer
returns-in-From-clause-buffer c = search writes

pub returns-in-Until-clause-buffer : goal.returns-in-Until-clause-buffer
returns-in-Until-clause-buffer c = search writes
