use borrow.Author.Rules.{rules}
use Rattle.placing.proofs.SetLaws.{sets}
use Rattle.placing.proofs.RoomLaws.{held_adds, held_skips}
use Rattle.placing.proofs.room.held_set.Goals.{else-any_number, then-any_number}
use Rattle.placing.proofs.room.held_set.Goals as goal

pub loop-i-init : goal.loop-i-init
loop-i-init c = search sets

pub loop-i-preserved : goal.loop-i-preserved
loop-i-preserved c = elim c.if-any_number.branch [ then-any_number w ↦ search (held_adds, rules) | else-any_number w ↦ search (held_skips, rules) ]
