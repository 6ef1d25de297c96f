-- `group_of` meets its contract: arm by arm. Assumes nothing.
use Rattle.journal_calls.proofs.ItemAnswers.{kind_arm}
use Rattle.journal_calls.proofs.items.group_of.Goals as goal

pub returns-in-Advance : goal.returns-in-Advance
returns-in-Advance c = search kind_arm

pub returns-in-Create : goal.returns-in-Create
returns-in-Create c = search kind_arm

pub returns-in-Deposit : goal.returns-in-Deposit
returns-in-Deposit c = search kind_arm

pub returns-in-Delete : goal.returns-in-Delete
returns-in-Delete c = search kind_arm

pub returns-in-Undelete : goal.returns-in-Undelete
returns-in-Undelete c = search kind_arm

pub returns-in-Grant : goal.returns-in-Grant
returns-in-Grant c = search kind_arm

pub returns-in-Attenuate : goal.returns-in-Attenuate
returns-in-Attenuate c = search kind_arm

pub returns-in-Revoke : goal.returns-in-Revoke
returns-in-Revoke c = search kind_arm

pub returns-in-Open : goal.returns-in-Open
returns-in-Open c = search kind_arm

pub returns-in-Stage : goal.returns-in-Stage
returns-in-Stage c = search kind_arm

pub returns-in-Commit : goal.returns-in-Commit
returns-in-Commit c = search kind_arm

pub returns-in-Abandon : goal.returns-in-Abandon
returns-in-Abandon c = search kind_arm

pub returns-in-Remove : goal.returns-in-Remove
returns-in-Remove c = search kind_arm

pub returns-in-Look : goal.returns-in-Look
returns-in-Look c = search kind_arm

pub returns-in-Register : goal.returns-in-Register
returns-in-Register c = search kind_arm

pub returns-in-Heartbeat : goal.returns-in-Heartbeat
returns-in-Heartbeat c = search kind_arm
