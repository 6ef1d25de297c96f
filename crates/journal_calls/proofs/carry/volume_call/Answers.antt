-- `volume_call` meets its contract: by the call. Assumes nothing.
use Rattle.journal_calls.proofs.CarryLaws.{creates, deposits, undeletes}
use Rattle.journal_calls.proofs.carry.volume_call.Goals as goal

pub returns-in-Create : goal.returns-in-Create
returns-in-Create c = search creates

pub returns-in-Deposit : goal.returns-in-Deposit
returns-in-Deposit c = search deposits

pub returns-in-Undelete : goal.returns-in-Undelete
returns-in-Undelete c = search undeletes
