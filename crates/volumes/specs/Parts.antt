-- What the part of the tables that a call on volumes leaves makes of the whole. Assumes nothing.
use Rattle.rules.specs.declared.Tables.{Tables}
use Rattle.rules.specs.declared.TablesOutcome.{TablesOutcome}
use Rattle.rules.specs.Tables.{with_volumes, with_tokens, with_last_volume, with_deposits}
use Rattle.volumes.specs.declared.VolumesOutcome.{VolumesOutcome}
use Rattle.volumes.specs.declared.DeleteOutcome.{DeleteOutcome}

-- the tables with what create, deposit or undelete left
abbrev pub on_volumes : Tables → VolumesOutcome → TablesOutcome
on_volumes t o = record { answer = o.answer; tables = with_deposits (with_last_volume (with_volumes t o.volumes) o.last) o.deposits }

-- the tables with what delete left
abbrev pub on_delete : Tables → DeleteOutcome → TablesOutcome
on_delete t o = record { answer = o.answer; tables = with_tokens (with_volumes t o.volumes) o.tokens }
