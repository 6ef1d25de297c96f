-- `shards::bytes_in` meets its contract: the volume is found by its number, or there are no bytes. Assumes nothing.
use Rattle.lists.specs.AnswerLaws.{in_table}
use Rattle.soundness.proofs.ShardLaws.{no_bytes, some_bytes}
use Rattle.soundness.proofs.shards.bytes_in.Goals as goal

pub returns-in_default : goal.returns-in_default
returns-in_default c vs e g h of z = search no_bytes

pub bounds-ks-i : goal.bounds-ks-i
bounds-ks-i c = search in_table

pub returns : goal.returns
returns c vs e g h of z = search some_bytes
