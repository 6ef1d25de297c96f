-- What the session that a call on a slot leaves makes of the outcome: the tables are as they were. Assumes nothing.
use Rattle.rules.specs.declared.Tables.{Tables}
use Rattle.rules.specs.declared.SlotOutcome.{SlotOutcome}
use Rattle.sessions.specs.declared.SessionOutcome.{SessionOutcome}

-- the tables, and the session that a call left
abbrev pub on_session : Tables → SessionOutcome → SlotOutcome
on_session t o = record { answer = o.answer; tables = t; session = o.session }
