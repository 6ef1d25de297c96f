-- What the part of the tables that a call on relays leaves makes of the whole. Assumes nothing.
use Rattle.rules.specs.declared.Tables.{Tables}
use Rattle.rules.specs.declared.TablesOutcome.{TablesOutcome}
use Rattle.rules.specs.Tables.{with_relays, with_last_relay}
use Rattle.relays.specs.declared.RelaysOutcome.{RelaysOutcome}

-- the tables with the relays that a call left
abbrev pub on_relays : Tables → RelaysOutcome → TablesOutcome
on_relays t o = record { answer = o.answer; tables = with_last_relay (with_relays t o.relays) o.last }
