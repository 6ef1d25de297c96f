-- What the part of the tables that a remove leaves makes of the whole. Assumes nothing.
use Rattle.rules.specs.declared.Tables.{Tables}
use Rattle.rules.specs.declared.TablesOutcome.{TablesOutcome}
use Rattle.rules.specs.Tables.{with_volumes, with_entries, with_relays}
use Rattle.removes.specs.declared.RemoveOutcome.{RemoveOutcome}

-- the tables with what a remove left
abbrev pub on_remove : Tables → RemoveOutcome → TablesOutcome
on_remove t o = record { answer = o.answer; tables = with_volumes (with_relays (with_entries t o.entries) o.relays) o.volumes }
